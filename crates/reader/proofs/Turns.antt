-- A turn of each loop that looks for a first fault: the judge's answer on the part of the block from 8 * i on stops it at a fault or carries on.
use Prim.Native.Nat.{ℕ, ◌+◌, ◌-◌, ◌*◌, ◌<◌}
use mathlib.Core.Bool.{Bool}
use Rattle.std.specs.Prelude.{Result, Ok, Err}
use Rattle.std.proofs.Common.{rules}
use mathlib.Core.Path.{◌≡◌, refl, sym, ◌∙◌}
use mathlib.Core.List.{List}
use native.Mathlib.Omega.{arith}
use native.Mathlib.Numerals.{add-one}
use lib.ListN.{take, drop}
use borrow.Author.Tests.{lt-ltb, le-ltb}
use Rattle.ranges.specs.Finding.{nonzero-is}
use Rattle.reader.specs.declared.Learned.{Learned}
use Rattle.reader.specs.declared.refusals.Reason.{Reason}
use Rattle.reader.specs.Refusals.{number_of, fault_number}
use Rattle.reader.specs.Block.{records, values, is_operation, computes, fault, first_fault}
use Rattle.reader.specs.Binding.{fields_right, record_fault, place_fault, first_place_fault, misformed}
use Rattle.reader.specs.Judging.{then_learned, judgement_of, learned_after, judged_by, found_in, places_formed}
use Rattle.reader.specs.Records.{record_of}
use Rattle.reader.proofs.Parts.{Is, one-record, same-record}
use Rattle.reader.proofs.Knows.{Knows, agrees, more}
use Rattle.reader.proofs.RefusalLaws.{not-zero}

-- a judgement with what is known after it, by cases
sound-judgement : (j : Result (Unit {0}) Reason) (l next : Learned) → Ok next ≡ then_learned j l → (fault_number j ≡ 0) × (next ≡ l)
sound-judgement (Ok u) l next e = (refl, search (rules, e))
sound-judgement (Err r) l next e = absurd (search (rules, e))

faulty-judgement : (j : Result (Unit {0}) Reason) (l : Learned) (r : Reason) → Err r ≡ then_learned j l → fault_number j ≡ number_of r
faulty-judgement (Ok u) l r e = absurd (search (rules, e))
faulty-judgement (Err s) l r e = search (rules, e)

module _ (b : List ℕ) (i : ℕ) (l : Learned) (known : Knows b i l) (r : Result Learned Reason) (e : r ≡ judged_by (record_of (take (8 * i + 8 - 8 * i) (drop (8 * i) b)) 0) l) where
  judged-is : r ≡ then_learned (judgement_of (record_of b i) l) (learned_after (record_of b i) l)
  unfolding judged_by
  judged-is = let eight : 8 * i + 8 - 8 * i ≡ 8 = omega arith in rw (eight, same-record (one-record b i)) at e

  pub carries-on : (next : Learned) → r ≡ Ok next → Knows b (i + 1) next
  carries-on next z =
      let s = sound-judgement (judgement_of (record_of b i) l) (learned_after (record_of b i) l) next (sym z ∙ judged-is) in
      rw (add-one, s.1) (more b i l known (sym (agrees b i l known) ∙ s.0))

  pub stops : i < records b → (reason : Reason) → r ≡ Err reason → misformed (number_of reason) i ≡ found_in b
  unfolding found_in first_fault
  stops h reason z =
      let n : fault b i ≡ number_of reason = sym (agrees b i l known) ∙ faulty-judgement (judgement_of (record_of b i) l) (learned_after (record_of b i) l) reason (sym z ∙ judged-is) in
      let f = nonzero-is (records b) (fault b) i (omega arith) known.none (λ m z. not-zero reason (sym n ∙ z)) in
      rw (f, lt-ltb i (records b) h, n)

pub all_sound : (b : List ℕ) (i : ℕ) (l : Learned) → Knows b i l → i ≡ records b → misformed 0 0 ≡ found_in b
unfolding found_in first_fault
all_sound b i l known q =
    let f = nonzero-is (records b) (fault b) (records b) (omega arith) (λ k m. known.none k (omega arith)) (λ m. absurd (omega arith)) in
    rw (f, le-ltb (records b) (records b) (omega arith))

-- ---- the places of a binding

same-record-fault : {p d : List ℕ} {v : ℕ} (operates calculates : Bool) → Is p d v → record_fault operates calculates p 0 v ≡ record_fault operates calculates d v v
unfolding record_fault fields_right
same-record-fault operates calculates e = cc

module _ (b d : List ℕ) (v r : ℕ) (operates calculates : Bool) (o : operates ≡ is_operation b v) (k : calculates ≡ computes b v)
    (e : r ≡ record_fault operates calculates (take (8 * v + 8 - 8 * v) (drop (8 * v) d)) 0 v) where
  pub place_is : r ≡ place_fault b d v
  unfolding place_fault
  place_is =
      let eight : 8 * v + 8 - 8 * v ≡ 8 = omega arith in
      rw (eight, o, k) at e ∙ same-record-fault (is_operation b v) (computes b v) (one-record d v)

  pub place-stops : v < values b → ((k : ℕ) → k < v → place_fault b d k ≡ 0) → (r ≡ 0 → ⊥) → misformed r v ≡ places_formed b d
  unfolding places_formed first_place_fault
  place-stops h none nz =
      let f = nonzero-is (values b) (place_fault b d) v (omega arith) none (λ m z. nz (place_is ∙ z)) in
      rw (f, lt-ltb v (values b) h, place_is)

pub all_right_lem : (b d : List ℕ) → ((k : ℕ) → k < values b → place_fault b d k ≡ 0) → misformed 0 0 ≡ places_formed b d
unfolding places_formed first_place_fault
all_right_lem b d none =
    let f = nonzero-is (values b) (place_fault b d) (values b) (omega arith) none (λ m. absurd (omega arith)) in
    rw (f, le-ltb (values b) (values b) (omega arith))
