-- The rules 16 to 19 said of values, uses and boundaries, over all pairs.
-- Document 01, "Binding records"; demand 2.
use Rattle.std.specs.Prelude.{ℕ, ◌<◌, ◌≡◌, List}
use Rattle.std.proofs.Math.Bool.{true}
use Rattle.reader.specs.Block.{computes, values, occupies, reading}
use Rattle.reader.specs.Binding.{register, unit, bus, makes_use, used_in, asks_in, class, source_of, sink_of, formed}

-- ---- the rules

-- two values in one register occupy no common boundary
abbrev pub Rule16 : List ℕ → List ℕ → Type 0
Rule16 b d = (v w k : ℕ) → v < values b → w < values b → register d v ≡ register d w → occupies b v k ≡ true → occupies b w k ≡ true → v ≡ w

-- two operations on one unit are of one class and in different steps
abbrev pub Rule17 : List ℕ → List ℕ → Type 0
Rule17 b d =
    (v w : ℕ) → v < values b → w < values b → (v ≡ w → ⊥) → computes b v ≡ true → computes b w ≡ true → unit d v ≡ unit d w
    → (class b v ≡ class b w) × ((k : ℕ) → asks_in b v k ≡ true → asks_in b w k ≡ true → ⊥)

-- no two uses in one step are on one bus
abbrev pub Rule18 : List ℕ → List ℕ → Type 0
Rule18 b d =
    (v p w q k : ℕ) → v < values b → p < 3 → w < values b → q < 3 → used_in b v p k ≡ true → used_in b w q k ≡ true → bus d v p ≡ bus d w q
    → (v ≡ w) × (p ≡ q)

-- all uses of one connection are on one bus
abbrev pub Rule19 : List ℕ → List ℕ → Type 0
Rule19 b d =
    (v p w q : ℕ) → v < values b → p < 3 → w < values b → q < 3 → makes_use b v p ≡ true → makes_use b w q ≡ true
    → source_of b d v p ≡ source_of b d w q → sink_of b d v p ≡ sink_of b d w q → bus d v p ≡ bus d w q

pub record Keeps (b d : List ℕ) : Type 0 where
  pub readable : (reading b).number ≡ 0
  pub well-formed : (formed b d).number ≡ 0
  pub rule16 : Rule16 b d
  pub rule17 : Rule17 b d
  pub rule18 : Rule18 b d
  pub rule19 : Rule19 b d
