-- A byte that is read as a method is the method's number, and one that is not is above 1.
use Rattle.std.specs.Prelude.{ℕ, zero, suc, ◌<◌, ◌≤◌, ◌≡◌, refl, Result, Ok, Err}
use Rattle.std.proofs.Common.{◌∙◌, ap, arith}
use borrow.Author.Tests.{ne_eqb}
use Rattle.reader.specs.Refusals.{number_of}
use Rattle.reader.specs.declared.refusals.Reason.{Reason}
use Rattle.allocator.specs.Methods.{method_number, method_read}
use Rattle.reader.specs.declared.refusals.Reason.TheVariants.{Method as OtherMethod}
use Rattle.allocator.specs.declared.methods.Method.{Method}
use Rattle.allocator.specs.declared.methods.Method.TheVariants.{LeftEdge, Merging}

abbrev number-read : Result Method Reason → ℕ
number-read (Ok m) = method_number m
number-read (Err e) = 2

abbrev refusal-read : Result Method Reason → ℕ
refusal-read (Ok m) = 0
refusal-read (Err e) = number_of e

abbrev refused-read : Result Method Reason → ℕ
refused-read (Ok m) = 0
refused-read (Err e) = 1

few : (m : Method) → method_number m ≤ 1
few LeftEdge = omega arith
few Merging = omega arith

read-other : (byte : ℕ) → 1 < byte → method_read byte ≡ Err OtherMethod
read-other byte h = rw (ne_eqb byte 0 (λ e. omega (arith, h, e)), ne_eqb byte 1 (λ e. omega (arith, h, e))) refl

pub chosen-number : (byte : ℕ) (m : Method) → Ok m ≡ method_read byte → method_number m ≡ byte
chosen-number zero m e = ap number-read e
chosen-number (suc zero) m e = ap number-read e
chosen-number (suc (suc n)) m e = omega (arith, ap number-read (e ∙ read-other (suc (suc n)) (omega arith)), few m)

pub chosen-few : (byte : ℕ) (m : Method) → Ok m ≡ method_read byte → byte ≤ 1
chosen-few byte m e = omega (arith, chosen-number byte m e, few m)

pub none-chosen : (byte : ℕ) (e : Reason) → Err e ≡ method_read byte → 1 < byte
none-chosen zero e p = omega (arith, ap refused-read p)
none-chosen (suc zero) e p = omega (arith, ap refused-read p)
none-chosen (suc (suc n)) e p = omega arith

pub none-number : (byte : ℕ) (e : Reason) → Err e ≡ method_read byte → number_of e ≡ 9
none-number byte e p = ap refusal-read (p ∙ read-other byte (none-chosen byte e p))
