-- What the rules give: one value, one writer, one operation at a time; no binding has fewer registers than values at a boundary.
-- Document 01, "Binding records"; demand 3.
use Prim.Native.Nat.{ℕ, suc, ◌≤◌, ◌<◌}
use Rattle.std.specs.Prelude.{true, ◌≡◌, refl, List}
use Rattle.std.proofs.Common.{ap, eq-eqb}
use Rattle.std.proofs.Math.Dec.{eqb}
use Rattle.ranges.specs.Below.{any_below}
use Rattle.ranges.specs.Truth.{by_equal}
use Rattle.ranges.specs.Finding.{any-true, largest-le}
use Rattle.ranges.specs.Counting.{count-into}
use Rattle.reader.specs.Block.{values, last_step, occupies, occupying, peak}
use Rattle.reader.specs.Binding.{register, unit, asks_in, written_in}
use Rattle.reader.specs.Boundaries.{occupies-birth}
use Rattle.reader.specs.StepsInUse.{asks-computes, written-birth}
use Rattle.reader.specs.WellFormed.{places, register-fits}
use Rattle.checker.specs.Rules.{registers_used, verdict}
use Rattle.checker.specs.Numbers.{Verdict}
use Rattle.checker.specs.Acceptance.{Rule16, Rule17, Keeps}
use Rattle.checker.proofs.Acceptance.{accepted-keeps, keeps-accepted}

module _ (b d : List ℕ) where
  pub register-below : Keeps b d → (v : ℕ) → v < values b → register d v < 80
  register-below K v l = register-fits b d v ((places b d K.well-formed).fits v l)

  -- in one step a unit is asked for once, and a register is written once
  pub one-asks : Rule17 b d → (k v w : ℕ) → v < values b → w < values b → asks_in b v k ≡ true → asks_in b w k ≡ true → unit d v ≡ unit d w → v ≡ w
  one-asks K k v w l m s t e =
      by_equal v w (λ z. z) (λ n. absurd ((K v w l m n (asks-computes b v k s) (asks-computes b w k t) e).1 k s t))

  pub one_writes : Rule16 b d → (k v w : ℕ) → v < values b → w < values b → written_in b v k ≡ true → written_in b w k ≡ true
      → register d v ≡ register d w → v ≡ w
  one_writes K k v w l m s t e = K v w k l m e (occupies-birth b v k (written-birth b v k s)) (occupies-birth b w k (written-birth b w k t))

  -- values that occupy one boundary need different registers
  pub peak-needs : Rule16 b d → ((v : ℕ) → v < values b → register d v < 80) → peak b ≤ registers_used b d
  unfolding peak occupying registers_used
  peak-needs K below = largest-le (suc (last_step b)) (occupying b) (registers_used b d) needs
    where
      needs : (k : ℕ) → k < suc (last_step b) → occupying b k ≤ registers_used b d
      needs k h =
          count-into (values b) (λ v. occupies b v k) 80 (λ r. any_below (values b) (λ v. eqb (register d v) r)) (register d)
          (λ v l t. (below v l, any-true (values b) (λ u. eqb (register d u) (register d v)) v l (eq-eqb (register d v) (register d v) refl)))
          (λ v w l m s t e. K v w k l m e s t)

  -- the registers of an accepted binding are counted
  pub registers-counted : (verdict b d).number ≡ 0 → (verdict b d).registers ≡ registers_used b d
  registers-counted e = ap registers (keeps-accepted b d (accepted-keeps b d e))
    where
      registers : Verdict → ℕ
      registers r = r.registers
