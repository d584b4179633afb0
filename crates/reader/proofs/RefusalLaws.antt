-- Laws of reasons: none has the number 0, and no two have one number; so an answer in document 01's numbers is one answer of the code.
use Rattle.std.specs.Prelude.{ℕ, ◌<◌, ◌≡◌, true, false, cond, Result, Ok, Err, is_err, eqb}
use mathlib.Core.Path.{refl, sym, ap, ap₂, ◌∙◌}
use Rattle.std.proofs.Common.{rules}
use native.Mathlib.Omega.{arith}
use Rattle.reader.specs.declared.refusals.Reason.{Reason}
use Rattle.reader.specs.declared.refusals.Reason.TheVariants.{PartOfRecord, TooManyRecords, Kind, Order, Range, Unused, Twice, Missing, Method, Room, PartOfPlace, OtherPlaces, PlaceNumber, PlaceField, Registers, Units, Buses, Connections, NotAccepted, IncomingWords, OutgoingWords, RegisterFile}
use Rattle.reader.specs.declared.refusals.Refusal.{Refusal}
use Rattle.reader.specs.declared.refusals.Fault.{Fault}
use Rattle.reader.specs.declared.Readable.{Readable}
use Rattle.reader.specs.Numbers.{Reading, Formed}
use Rattle.reader.specs.Refusals.{number_of, read_as, formed_as}

pub above-zero : (r : Reason) → 0 < number_of r
above-zero PartOfRecord = omega arith
above-zero TooManyRecords = omega arith
above-zero Kind = omega arith
above-zero Order = omega arith
above-zero Range = omega arith
above-zero Unused = omega arith
above-zero Twice = omega arith
above-zero Missing = omega arith
above-zero Method = omega arith
above-zero Room = omega arith
above-zero PartOfPlace = omega arith
above-zero OtherPlaces = omega arith
above-zero PlaceNumber = omega arith
above-zero PlaceField = omega arith
above-zero Registers = omega arith
above-zero Units = omega arith
above-zero Buses = omega arith
above-zero Connections = omega arith
above-zero NotAccepted = omega arith
above-zero IncomingWords = omega arith
above-zero OutgoingWords = omega arith
above-zero RegisterFile = omega arith

pub not-zero : (r : Reason) → number_of r ≡ 0 → ⊥
not-zero r e = omega (arith, above-zero r)

-- the reason that has the number n
reason_at : ℕ → Reason
reason_at n =
    cond (eqb n 1) PartOfRecord
    (cond (eqb n 2) TooManyRecords
    (cond (eqb n 3) Kind
    (cond (eqb n 4) Order
    (cond (eqb n 5) Range
    (cond (eqb n 6) Unused
    (cond (eqb n 7) Twice
    (cond (eqb n 8) Missing
    (cond (eqb n 9) Method
    (cond (eqb n 10) Room
    (cond (eqb n 11) PartOfPlace
    (cond (eqb n 12) OtherPlaces
    (cond (eqb n 13) PlaceNumber
    (cond (eqb n 14) PlaceField
    (cond (eqb n 16) Registers
    (cond (eqb n 17) Units
    (cond (eqb n 18) Buses
    (cond (eqb n 19) Connections
    (cond (eqb n 20) NotAccepted
    (cond (eqb n 21) IncomingWords
    (cond (eqb n 22) OutgoingWords
    RegisterFile))))))))))))))))))))

its-reason : (r : Reason) → reason_at (number_of r) ≡ r
unfolding reason_at
its-reason PartOfRecord = refl
its-reason TooManyRecords = refl
its-reason Kind = refl
its-reason Order = refl
its-reason Range = refl
its-reason Unused = refl
its-reason Twice = refl
its-reason Missing = refl
its-reason Method = refl
its-reason Room = refl
its-reason PartOfPlace = refl
its-reason OtherPlaces = refl
its-reason PlaceNumber = refl
its-reason PlaceField = refl
its-reason Registers = refl
its-reason Units = refl
its-reason Buses = refl
its-reason Connections = refl
its-reason NotAccepted = refl
its-reason IncomingWords = refl
its-reason OutgoingWords = refl
its-reason RegisterFile = refl

pub one-reason : (r s : Reason) → number_of r ≡ number_of s → r ≡ s
one-reason r s e = sym (its-reason r) ∙ ap reason_at e ∙ its-reason s

-- ---- one answer in the document's numbers is one answer

pub one-refusal : (f g : Refusal) → number_of f.reason ≡ number_of g.reason → f.first ≡ g.first → f.second ≡ g.second → f ≡ g
one-refusal f g e m n = ap₂ (λ (r : Reason) (x : ℕ × ℕ). record { reason = r; first = x.0; second = x.1 }) (one-reason f.reason g.reason e) (ap₂ (λ (x y : ℕ). (x, y)) m n)

pub one-reading : (x y : Result Readable Refusal) → read_as x ≡ read_as y → x ≡ y
one-reading (Ok r) (Ok s) e = search (rules, e)
one-reading (Ok r) (Err f) e = absurd (not-zero f.reason (sym (ap (λ (z : Reading). z.number) e)))
one-reading (Err f) (Ok s) e = absurd (not-zero f.reason (ap (λ (z : Reading). z.number) e))
one-reading (Err f) (Err g) e = ap Err (one-refusal f g (ap (λ (z : Reading). z.number) e) (ap (λ (z : Reading). z.first) e) (ap (λ (z : Reading). z.second) e))

pub one-form : (x y : Result (Unit {0}) Fault) → formed_as x ≡ formed_as y → x ≡ y
one-form (Ok r) (Ok s) e = refl
one-form (Ok r) (Err f) e = absurd (not-zero f.reason (sym (ap (λ (z : Formed). z.number) e)))
one-form (Err f) (Ok s) e = absurd (not-zero f.reason (ap (λ (z : Formed). z.number) e))
one-form (Err f) (Err g) e = ap₂ (λ r x. Err (record { reason = r; at = x })) (one-reason f.reason g.reason (ap (λ (z : Formed). z.number) e)) (ap (λ (z : Formed). z.place) e)

-- ---- whether it is done

pub unread-number : (x : Result Readable Refusal) → is_err x ≡ true → (read_as x).number ≡ 0 → ⊥
unread-number (Ok r) h e = search (rules, h)
unread-number (Err f) h e = not-zero f.reason e

pub read-number : (x : Result Readable Refusal) → is_err x ≡ false → (read_as x).number ≡ 0
read-number (Ok r) h = refl
read-number (Err f) h = search (rules, h)

pub not-ok : {T E : Type 0} (x : Result T E) → ((r : T) → x ≡ Ok r → ⊥) → is_err x ≡ true
not-ok (Ok r) h = absurd (h r refl)
not-ok (Err e) h = refl
