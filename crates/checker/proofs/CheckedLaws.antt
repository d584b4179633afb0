-- An answer of the checker in document 01's numbers is one answer of its code, and its number says whether it is done.
use Rattle.std.specs.Prelude.{ℕ, ◌≡◌, true, false, Result, Ok, Err, is_err}
use Rattle.std.proofs.Common.{rules, refl}
use mathlib.Core.Path.{sym, ap, ap₂}
use Rattle.reader.specs.declared.refusals.Refusal.{Refusal}
use Rattle.reader.proofs.RefusalLaws.{not-zero, one-refusal}
use Rattle.checker.specs.declared.Used.{Used}
use Rattle.checker.specs.Numbers.{Verdict, checked_as}

one-use : (u w : Used) → u.registers ≡ w.registers → u.units ≡ w.units → u.buses ≡ w.buses → u ≡ w
one-use u w r n b = ap₂ (λ (x : ℕ) (y : ℕ × ℕ). record { registers = x; units = y.0; buses = y.1 }) r (ap₂ (λ (x y : ℕ). (x, y)) n b)

pub one-verdict : (x y : Result Used Refusal) → checked_as x ≡ checked_as y → x ≡ y
one-verdict (Ok u) (Ok w) e = ap Ok (one-use u w (ap (λ (z : Verdict). z.registers) e) (ap (λ (z : Verdict). z.units) e) (ap (λ (z : Verdict). z.buses) e))
one-verdict (Ok u) (Err f) e = absurd (not-zero f.reason (sym (ap (λ (z : Verdict). z.number) e)))
one-verdict (Err f) (Ok w) e = absurd (not-zero f.reason (ap (λ (z : Verdict). z.number) e))
one-verdict (Err f) (Err g) e = ap Err (one-refusal f g (ap (λ (z : Verdict). z.number) e) (ap (λ (z : Verdict). z.later) e) (ap (λ (z : Verdict). z.earlier) e))

pub refused-number : (x : Result Used Refusal) → is_err x ≡ true → (checked_as x).number ≡ 0 → ⊥
refused-number (Ok u) h e = search (rules, h)
refused-number (Err f) h e = not-zero f.reason e

pub accepted-number : (x : Result Used Refusal) → is_err x ≡ false → (checked_as x).number ≡ 0
accepted-number (Ok u) h = refl
accepted-number (Err f) h = search (rules, h)
