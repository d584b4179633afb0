-- The checker accepts what keeps the rules 16 to 19, and nothing else.
-- Document 01, "Binding records"; demand 2.
use Rattle.std.specs.Prelude.{ℕ, suc, ◌≤◌, ◌<◌, Bool, false, cond, ◌&&◌, ◌≡◌, refl, List, Some, None, leb, ltb}
use Rattle.std.proofs.Math.Bool.{true, not}
use Rattle.std.proofs.Math.Path.{sym, ap, ap₂}
use native.Mathlib.Omega.{arith}
use Rattle.std.proofs.Math.Dec.{eqb}
use borrow.Author.Tests.{eqb-true, eq-eqb, le-leb, ltb-true, ltb-false, lt-ltb, not-true, not-false}
use Rattle.ranges.specs.Below.{any_below}
use Rattle.ranges.specs.Truth.{both, both-parts, three-parts, and_right, by_equal, by_order, contradiction, not-holds, holds_not, right-fails, accepted-else}
use Rattle.ranges.specs.Finding.{any-true, any_false, any-witness, none_any, first-none, first_holds}
use Rattle.reader.specs.Block.{computes, values, occupies, overlap, reading}
use Rattle.reader.specs.Binding.{register, unit, bus, makes_use, used_in, clash, may_share_unit, source_of, sink_of, same_connection, formed}
use Rattle.reader.specs.Boundaries.{overlap-at, overlap-common}
use Rattle.reader.specs.StepsInUse.{used-makes, unit-shared, share-unit, no-clash, clashing}
use Rattle.reader.specs.Connections.{connection-eq, eq-connection, same_place}
use Rattle.checker.specs.Rules.{on_one_unit, some_uses, clash_on_bus, two_buses, breaks16, breaks17, breaks18, breaks19, later_of, first_pair, answered, or_broken, verdict, acceptance}
use Rattle.checker.specs.Numbers.{Verdict}
use Rattle.checker.specs.declared.search.Pair.{Pair}
use Rattle.checker.specs.Acceptance.{Rule16, Rule17, Rule18, Rule19, Keeps}

-- ---- what the checker looks at: that no pair breaks a rule

abbrev Unbroken : ℕ → (ℕ → ℕ → Bool) → Type 0
Unbroken n breaks = (v w : ℕ) → v < n → w < n → breaks v w ≡ false

number : Verdict → ℕ
number r = r.number

-- a search that found none
none_found : (k : ℕ) (t : Bool) (pair : Pair) (next : Verdict) → (answered (suc k) (cond t (Some pair) None) next).number ≡ 0
    → (t ≡ false) × (next.number ≡ 0)
none_found k true pair next e = absurd (omega arith)
none_found k false pair next e = (refl, e)

passes : (k n : ℕ) (breaks : ℕ → ℕ → Bool) (next : Verdict) → (or_broken (suc k) n breaks next).number ≡ 0 → Unbroken n breaks × (next.number ≡ 0)
unfolding or_broken first_pair later_of
passes k n breaks next e =
    let p = none_found k (ltb (later_of n breaks) n) _ next e in
    (λ v w l m. any_false n (breaks v) (first-none n (λ v. any_below n (breaks v)) (ltb-false (later_of n breaks) n p.0) v l) w m, p.1)

unbroken : (k n : ℕ) (breaks : ℕ → ℕ → Bool) (next : Verdict) → Unbroken n breaks → or_broken k n breaks next ≡ next
unfolding or_broken first_pair later_of
unbroken k n breaks next h = rw (not-holds (ltb (later_of n breaks) n) found)
  where
    found : ltb (later_of n breaks) n ≡ true → ⊥
    found t =
        let l = ltb-true (later_of n breaks) n t in
        contradiction (first_holds n (λ v. any_below n (breaks v)) l) (none_any n (breaks (later_of n breaks)) (λ w m. h (later_of n breaks) w l m))

-- over any tests: `rw` meets variables only
all_pass : (n r f : ℕ) (x y end : Verdict) (b16 b17 b18 b19 : ℕ → ℕ → Bool) → r ≡ 0 → f ≡ 0 → Unbroken n b16 → Unbroken n b17 → Unbroken n b18
    → Unbroken n b19
    → cond (not (eqb r 0)) x (cond (not (eqb f 0)) y (or_broken 16 n b16 (or_broken 17 n b17 (or_broken 18 n b18 (or_broken 19 n b19 end))))) ≡ end
all_pass n r f x y end b16 b17 b18 b19 e z h16 h17 h18 h19 =
    rw (e, z, unbroken 16 n b16 _ h16, unbroken 17 n b17 _ h17, unbroken 18 n b18 _ h18, unbroken 19 n b19 _ h19)

-- ---- a pair of uses

record Uses (b : List ℕ) (v w : ℕ) (p : ℕ → ℕ → Bool) : Type 0 where
  i : ℕ
  j : ℕ
  first : i < 3
  second : j < 3
  made-first : makes_use b v i ≡ true
  made-second : makes_use b w j ≡ true
  has : p i j ≡ true

some-uses : (b : List ℕ) (v w : ℕ) (p : ℕ → ℕ → Bool) (i j : ℕ) → i < 3 → j < 3 → makes_use b v i ≡ true → makes_use b w j ≡ true → p i j ≡ true
    → some_uses b v w p ≡ true
some-uses b v w p i j l m x y t =
    any-true 3 (λ i. any_below 3 (λ j. makes_use b v i && makes_use b w j && p i j)) i l
    (any-true 3 (λ j. makes_use b v i && makes_use b w j && p i j) j m (both (both x y) t))

uses-witness : (b : List ℕ) (v w : ℕ) (p : ℕ → ℕ → Bool) → some_uses b v w p ≡ true → Uses b v w p
uses-witness b v w p t =
    let x = any-witness 3 (λ i. any_below 3 (λ j. makes_use b v i && makes_use b w j && p i j)) t in
    let y = any-witness 3 (λ j. makes_use b v x.0 && makes_use b w j && p x.0 j) x.2 in
    let z = three-parts (makes_use b v x.0) (makes_use b w y.0) (p x.0 y.0) y.2 in
    record { i = x.0; j = y.0; first = x.1; second = y.1; made-first = z.0; made-second = z.1; has = z.2 }

module _ (b d : List ℕ) where
  -- ---- no pair breaks a rule, so the rule holds

  holds16 : Unbroken (values b) (breaks16 b d) → Rule16 b d
  unfolding breaks16
  holds16 U v w k l m e s t =
      by_order w v (λ h. absurd (no-later v w k l m e s t h)) (λ h. by_order v w (λ g. absurd (no-later w v k m l (sym e) t s g)) (λ g. omega arith))
    where
      no-later : (v w k : ℕ) → v < values b → w < values b → register d v ≡ register d w → occupies b v k ≡ true → occupies b w k ≡ true → w < v → ⊥
      no-later v w k l m e s t h =
          contradiction (both (both (lt-ltb w v h) (eq-eqb (register d v) (register d w) e)) (overlap-at b v w k s t)) (U v w l m)

  holds17 : Unbroken (values b) (breaks17 b d) → Rule17 b d
  unfolding breaks17
  holds17 U v w l m n x y e =
      by_order w v (λ h. unit-shared b v w l (later v w l m x y e h))
      (λ h. let z = unit-shared b w v m (later w v m l y x (sym e) (omega arith)) in (sym z.0, λ k s t. z.1 k t s))
    where
      later : (v w : ℕ) → v < values b → w < values b → computes b v ≡ true → computes b w ≡ true → unit d v ≡ unit d w → w < v
          → may_share_unit b v w ≡ true
      later v w l m x y e h =
          not-false _ (right-fails (ltb w v && on_one_unit b d v w) _ (both (lt-ltb w v h) (both (both x y) (eq-eqb (unit d v) (unit d w) e))) (U v w l m))

  holds18 : Unbroken (values b) (breaks18 b d) → Rule18 b d
  unfolding breaks18
  holds18 U v p w q k l i m j s t e =
      by_order v w (λ h. let z = later w q v p k m j l i t s (sym e) (omega arith) in (sym z.0, sym z.1)) (later v p w q k l i m j s t e)
    where
      later : (v p w q k : ℕ) → v < values b → p < 3 → w < values b → q < 3 → used_in b v p k ≡ true → used_in b w q k ≡ true → bus d v p ≡ bus d w q
          → w ≤ v → (v ≡ w) × (p ≡ q)
      later v p w q k l i m j s t e h =
          no-clash b d v p w q k l s t (not-holds _ (λ c. contradiction
          (both (le-leb w v h) (some-uses b v w (clash_on_bus b d v w) p q i j (used-makes b v p k s) (used-makes b w q k t) (both c (eq-eqb (bus d v p) (bus d w q) e))))
          (U v w l m)))

  holds19 : Unbroken (values b) (breaks19 b d) → Rule19 b d
  unfolding breaks19
  holds19 U v p w q l i m j x y e z =
      by_order w v (λ h. later v p w q l i m j x y e z h)
      (λ h. by_order v w (λ g. sym (later w q v p m j l i y x (sym e) (sym z) g))
      (λ g. let o : v ≡ w = omega arith in ap₂ (λ u t. bus d u t) o (same_place b d v p w q i j x y o z)))
    where
      later : (v p w q : ℕ) → v < values b → p < 3 → w < values b → q < 3 → makes_use b v p ≡ true → makes_use b w q ≡ true
          → source_of b d v p ≡ source_of b d w q → sink_of b d v p ≡ sink_of b d w q → w < v → bus d v p ≡ bus d w q
      later v p w q l i m j x y e z h =
          by_equal (bus d v p) (bus d w q) (λ r. r) (λ n. absurd (contradiction
          (both (lt-ltb w v h) (some-uses b v w (two_buses b d v w) p q i j x y
          (both (eq-connection b d v p w q e z) (holds_not (not-holds _ (λ t. n (eqb-true (bus d v p) (bus d w q) t)))))))
          (U v w l m)))

  -- ---- a rule holds, so no pair breaks it

  unbroken16 : Rule16 b d → Unbroken (values b) (breaks16 b d)
  unfolding breaks16
  unbroken16 K v w l m = not-holds _ broken
    where
      broken : (ltb w v && eqb (register d v) (register d w) && overlap b v w) ≡ true → ⊥
      broken t =
          let p = three-parts (ltb w v) (eqb (register d v) (register d w)) (overlap b v w) t in
          let k = overlap-common b v w p.2 in
          omega (arith, ltb-true w v p.0, K v w k.0 l m (eqb-true (register d v) (register d w) p.1) k.1 k.2)

  unbroken17 : Rule17 b d → Unbroken (values b) (breaks17 b d)
  unfolding breaks17
  unbroken17 K v w l m = not-holds _ broken
    where
      broken : (ltb w v && on_one_unit b d v w && not (may_share_unit b v w)) ≡ true → ⊥
      broken t =
          let p = three-parts (ltb w v) (on_one_unit b d v w) (not (may_share_unit b v w)) t in
          let q = three-parts (computes b v) (computes b w) (eqb (unit d v) (unit d w)) p.1 in
          let z = K v w l m (λ e. omega (arith, ltb-true w v p.0)) q.0 q.1 (eqb-true (unit d v) (unit d w) q.2) in
          contradiction (share-unit b v w z.0 z.1) (not-true _ p.2)

  unbroken18 : Rule18 b d → Unbroken (values b) (breaks18 b d)
  unfolding breaks18
  unbroken18 K v w l m = not-holds _ broken
    where
      broken : (leb w v && some_uses b v w (clash_on_bus b d v w)) ≡ true → ⊥
      broken t =
          let x = uses-witness b v w (clash_on_bus b d v w) (and_right (leb w v) _ t) in
          let q = both-parts (clash b d v x.i w x.j) (eqb (bus d v x.i) (bus d w x.j)) x.has in
          let c = clashing b d v x.i w x.j q.0 in
          let z = K v x.i w x.j c.at l x.first m x.second c.first c.second (eqb-true (bus d v x.i) (bus d w x.j) q.1) in
          c.different z.0 z.1

  unbroken19 : Rule19 b d → Unbroken (values b) (breaks19 b d)
  unfolding breaks19
  unbroken19 K v w l m = not-holds _ broken
    where
      broken : (ltb w v && some_uses b v w (two_buses b d v w)) ≡ true → ⊥
      broken t =
          let x = uses-witness b v w (two_buses b d v w) (and_right (ltb w v) _ t) in
          let q = both-parts (same_connection b d v x.i w x.j) (not (eqb (bus d v x.i) (bus d w x.j))) x.has in
          let c = connection-eq b d v x.i w x.j q.0 in
          contradiction (eq-eqb _ _ (K v x.i w x.j l x.first m x.second x.made-first x.made-second c.0 c.1)) (not-true _ q.1)

  -- ---- the checker accepts exactly what keeps the rules

  pub accepted-keeps : (verdict b d).number ≡ 0 → Keeps b d
  unfolding verdict number
  accepted-keeps e =
      let r = accepted-else number (not (eqb (reading b).number 0)) _ _ (λ t z. contradiction t (rw z)) e in
      let f = accepted-else number (not (eqb (formed b d).number 0)) _ _ (λ t z. contradiction t (rw z)) r.1 in
      let k16 = passes 15 (values b) (breaks16 b d) _ f.1 in
      let k17 = passes 16 (values b) (breaks17 b d) _ k16.1 in
      let k18 = passes 17 (values b) (breaks18 b d) _ k17.1 in
      let k19 = passes 18 (values b) (breaks19 b d) _ k18.1 in
      record {
        readable = eqb-true _ 0 (not-false _ r.0);
        well-formed = eqb-true _ 0 (not-false _ f.0);
        rule16 = holds16 k16.0;
        rule17 = holds17 k17.0;
        rule18 = holds18 k18.0;
        rule19 = holds19 k19.0;
      }

  -- and then counts
  pub keeps-accepted : Keeps b d → verdict b d ≡ acceptance b d
  unfolding verdict
  keeps-accepted K =
      all_pass (values b) (reading b).number (formed b d).number _ _ _ (breaks16 b d) (breaks17 b d) (breaks18 b d) (breaks19 b d) K.readable K.well-formed
      (unbroken16 K.rule16) (unbroken17 K.rule17) (unbroken18 K.rule18) (unbroken19 K.rule19)

  pub keeps-zero : Keeps b d → (verdict b d).number ≡ 0
  unfolding number
  keeps-zero K = ap number (keeps-accepted K)
