-- An answer of the allocator in document 01's numbers is one answer of its code.
use Rattle.std.specs.Prelude.{ℕ, ◌≡◌, Result, Ok, Err}
use Rattle.std.proofs.Common.{sym, ap}
use Rattle.reader.specs.declared.refusals.Refusal.{Refusal}
use Rattle.reader.proofs.RefusalLaws.{not-zero, one-refusal}
use Rattle.allocator.specs.Numbers.{Allocated, allocated_as}

pub one-allocation : (x y : Result ℕ Refusal) → allocated_as x ≡ allocated_as y → x ≡ y
one-allocation (Ok v) (Ok w) e = ap Ok (ap (λ (z : Allocated). z.written) e)
one-allocation (Ok v) (Err f) e = absurd (not-zero f.reason (sym (ap (λ (z : Allocated). z.number) e)))
one-allocation (Err f) (Ok w) e = absurd (not-zero f.reason (ap (λ (z : Allocated). z.number) e))
one-allocation (Err f) (Err g) e = ap Err (one-refusal f g (ap (λ (z : Allocated). z.number) e) (ap (λ (z : Allocated). z.first) e) (ap (λ (z : Allocated). z.second) e))
