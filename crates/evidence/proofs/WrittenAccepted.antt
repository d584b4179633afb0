-- Each binding that `bind` writes is accepted, and 20 never comes back.
-- Document 01, "Left edge and clique merging", "Numbers that come back"; demand 3.
use Rattle.std.specs.Prelude.{ℕ, ◌*◌, not, ◌≡◌, List, length, take, ltb, eqb}
use Rattle.std.proofs.Common.{arith, eqb-true}
use Rattle.std.proofs.lemmas.Bool.{not-false}
use Rattle.ranges.specs.Truth.{contradiction, cond-never}
use Rattle.reader.specs.Block.{values, reading}
use Rattle.reader.specs.Readability.{reading-le}
use Rattle.checker.specs.Rules.{verdict}
use Rattle.allocator.specs.Allocation.{binding_by}
use Rattle.allocator.specs.Answer.{allocated, Binds}
use Rattle.allocator.specs.Bound.{bound-readable, bound-done, bound-written, bound-front}
use Rattle.allocator.specs.Numbers.{Allocated}
use Rattle.evidence.specs.AllocationAccepted.{allocation-accepted}

-- what `bind` writes, by its promise alone: r is returned, and x stands in the room that held out
pub written-accepted : (b : List ℕ) (m : ℕ) (out : List ℕ) (r : Allocated) (x : List ℕ) → Binds b m out r x → r.number ≡ 0
    → (verdict b (take r.written x)).number ≡ 0
written-accepted b m out r x B z =
    rw (bound-written b m out r x B z, bound-front b m out r x B z)
    (allocation-accepted b m (bound-readable b m (length out) (bound-done b m out r x B z)))

pub never-20 : (b : List ℕ) (m room : ℕ) → (allocated b m room).number ≡ 20 → ⊥
unfolding allocated
never-20 b m room e =
    cond-never number (ltb 1 m) _ _ 20 e (λ t z. omega arith) (λ t e.
    cond-never number (not (eqb (reading b).number 0)) _ _ 20 e (λ r z. omega (arith, reading-le b)) (λ r e.
    cond-never number (not (eqb (verdict b (binding_by m b)).number 0)) _ _ 20 e
    (λ q z. contradiction q (rw (allocation-accepted b m (eqb-true (reading b).number 0 (not-false _ r))))) (λ q e.
    cond-never number (ltb room (8 * values b)) _ _ 20 e (λ s z. omega arith) (λ s z. omega arith))))
  where
    number : Allocated → ℕ
    number r = r.number
