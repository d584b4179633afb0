-- The refusals of a block and of a binding's form come in order: what a record or a place is refused for is the first that holds of it.
-- Document 01, "Numbers that come back"; demand 1.
use Rattle.std.specs.Prelude.{ℕ, ◌/◌, ◌%◌, ◌<◌, Bool, true, false, not, cond, ◌≡◌, List, [], ◌∷◌, length, eqb, ltb}
use Rattle.std.proofs.Math.Path.{refl}
use Rattle.std.proofs.Common.{arith, ltb-true, ltb-false, eq-eqb}
use Rattle.ranges.specs.Below.{rows}
use Rattle.ranges.specs.Truth.{by_equal, zero-holds, passed as passed-by}
use Rattle.ranges.specs.Finding.{nonzero-at, zero-before}
use Rattle.reader.specs.Block.{field, kind, records, birth, at_end, values, kind_fault, order_fault, range_fault, unused_fault, twice_fault, missing_fault, fault, first_fault, reading, is_operation, computes}
use Rattle.reader.specs.Binding.{fields_right, record_fault, place_fault, first_place_fault, formed}
use Rattle.reader.specs.Boundaries.{birth-operation, unborn}
use Rattle.reader.specs.Readability.{Faultless, faultless, in-range, read}
use Rattle.reader.specs.WellFormed.{places}
use Rattle.reader.specs.Numbers.{Reading}
use Rattle.reader.specs.Numbers.{Formed}
use Rattle.evidence.specs.Orders.{at, FirstGiven, refused, record_order, block_order, place_order, binding_order}
use Rattle.evidence.specs.Decisions.{Denies, fails-to, equal, less}
use Rattle.evidence.specs.OrderLaws.{NoneGiven, empty, more, none_rows, first_rows, in-turn, turn, group-end}
use Rattle.evidence.specs.RecordDecisions.{decides-3, decides-4, decides-5, decides-6, decides-7, decides-8}
use Rattle.evidence.specs.BindingDecisions.{denies-14}

-- ---- a block

abbrev number : Reading → ℕ
number r = r.number

abbrev first : Reading → ℕ
first r = r.first

abbrev second : Reading → ℕ
second r = r.second

module _ (b : List ℕ) where
  -- a record that is in range is born by step 64
  born-early : (v : ℕ) → Faultless b v → birth b v < at_end
  born-early v F =
      by_equal (kind b v) 2
      (λ k. omega (arith, in-range b v F.range (eq-eqb (kind b v) 2 k), birth-operation b v k))
      (λ n. omega (arith, unborn b v n))

  module _ (i : ℕ) (before : (j : ℕ) → j < i → Faultless b j) where
    early : (v : ℕ) → v < i → birth b v < at_end
    early v l = born-early v (before v l)

    clean-record : Faultless b i → NoneGiven (record_order b i)
    clean-record F =
        more ((decides-3 b i).fails F.kinds)
        (more ((decides-4 b i).fails F.order)
        (more ((decides-5 b i).fails F.range)
        (more ((decides-6 b i).fails F.unused)
        (more ((decides-7 b i).fails F.twice)
        (more ((decides-8 b i early).fails F.missing) empty)))))

    faulty-record : (fault b i ≡ 0 → ⊥) → FirstGiven (record_order b i) (fault b i) i i
    unfolding fault
    faulty-record =
        in-turn (kind_fault b i) 3 _ i (decides-3 b i)
        (in-turn (order_fault b i) 4 _ i (decides-4 b i)
        (in-turn (range_fault b i) 5 _ i (decides-5 b i)
        (in-turn (unused_fault b i) 6 _ i (decides-6 b i)
        (in-turn (twice_fault b i) 7 _ i (decides-7 b i)
        (in-turn (missing_fault b i) 8 0 i (decides-8 b i early) (λ z. absurd (z refl)))))))

  pub readable-none : (reading b).number ≡ 0 → NoneGiven (block_order b)
  readable-none e =
      let R = read b e in
      more (λ (n : length b % 8 ≡ 0 → ⊥). n R.whole) (more (λ (l : 80 < records b). omega (arith, R.few))
      (none_rows (records b) (record_order b) (λ i l. clean-record i (λ j m. R.clean j (omega arith)) (R.clean i l))))

  pub block-first : FirstGiven (block_order b) (reading b).number (reading b).first (reading b).second
  unfolding reading first_fault
  block-first =
      turn number first second (not (eqb (length b % 8) 0)) _ _ 1 (fails-to (equal (length b % 8) 0)) refl refl refl
      (turn number first second (ltb 80 (records b)) _ _ 2 (less 80 (records b)) refl refl refl
      (group-end number first second (ltb (first_fault b) (records b)) _ _ some none refl refl refl))
    where
      clean : (i : ℕ) → i < first_fault b → Faultless b i
      clean i l = faultless b i (zero-before (records b) (fault b) i l)

      some : ltb (first_fault b) (records b) ≡ true → FirstGiven (rows (records b) (record_order b)) (fault b (first_fault b)) (first_fault b) (first_fault b)
      some t =
          let l = ltb-true (first_fault b) (records b) t in
          first_rows (records b) (record_order b) (first_fault b) l (λ i m. clean-record i (λ j n. clean j (omega arith)) (clean i m))
          (nonzero-at (records b) (fault b) l) (faulty-record (first_fault b) clean (nonzero-at (records b) (fault b) l))

      none : ltb (first_fault b) (records b) ≡ false → NoneGiven (rows (records b) (record_order b))
      none t =
          let l = ltb-false (first_fault b) (records b) t in
          none_rows (records b) (record_order b) (λ i m. clean-record i (λ j n. clean j (omega arith)) (clean i (omega arith)))

-- ---- the form of a binding

abbrev form_number : Formed → ℕ
form_number r = r.number

abbrev form_place : Formed → ℕ
form_place r = r.place

-- 14, where the fields are not right
wrong_first : (t : Bool) (v k : ℕ) {P : Type 0} → Denies t P → (cond t 0 k ≡ 0 → ⊥) → FirstGiven (at v k P ∷ []) (cond t 0 k) v v
wrong_first true v k D z = absurd (z refl)
wrong_first false v k D z = refused (D.fails refl)

module _ (b d : List ℕ) where
  clean-place : (v : ℕ) → place_fault b d v ≡ 0 → NoneGiven (place_order b d v)
  unfolding place_fault record_fault
  clean-place v e =
      let p = passed-by (not (eqb (field d v 0) v)) 12 _ e in
      more ((fails-to (equal (field d v 0) v)).fails p.0) (more ((denies-14 b d v).holds (zero-holds _ 13 p.1)) empty)

  faulty-place : (v : ℕ) → (place_fault b d v ≡ 0 → ⊥) → FirstGiven (place_order b d v) (place_fault b d v) v v
  unfolding place_fault record_fault
  faulty-place v =
      in-turn (not (eqb (field d v 0) v)) 13 _ v (fails-to (equal (field d v 0) v))
      (wrong_first (fields_right (is_operation b v) (computes b v) d v) v 14 (denies-14 b d v))

  pub formed-none : (formed b d).number ≡ 0 → NoneGiven (binding_order b d)
  formed-none e =
      let F = places b d e in
      more (λ (n : length d % 8 ≡ 0 → ⊥). n F.whole) (more (λ (n : length d / 8 ≡ values b → ⊥). n F.many) (none_rows (values b) (place_order b d) (λ v l. clean-place v (F.fits v l))))

  pub form-first : FirstGiven (binding_order b d) (formed b d).number (formed b d).place (formed b d).place
  unfolding formed first_place_fault
  form-first =
      turn form_number form_place form_place (not (eqb (length d % 8) 0)) _ _ 11 (fails-to (equal (length d % 8) 0)) refl refl refl
      (turn form_number form_place form_place (not (eqb (length d / 8) (values b))) _ _ 12 (fails-to (equal (length d / 8) (values b))) refl refl refl
      (group-end form_number form_place form_place (ltb (first_place_fault b d) (values b)) _ _ some none refl refl refl))
    where
      clean : (v : ℕ) → v < first_place_fault b d → place_fault b d v ≡ 0
      clean v l = zero-before (values b) (place_fault b d) v l

      some : ltb (first_place_fault b d) (values b) ≡ true
          → FirstGiven (rows (values b) (place_order b d)) (place_fault b d (first_place_fault b d)) (first_place_fault b d) (first_place_fault b d)
      some t =
          let l = ltb-true (first_place_fault b d) (values b) t in
          first_rows (values b) (place_order b d) (first_place_fault b d) l (λ v m. clean-place v (clean v m))
          (nonzero-at (values b) (place_fault b d) l) (faulty-place (first_place_fault b d) (nonzero-at (values b) (place_fault b d) l))

      none : ltb (first_place_fault b d) (values b) ≡ false → NoneGiven (rows (values b) (place_order b d))
      none t =
          let l = ltb-false (first_place_fault b d) (values b) t in
          none_rows (values b) (place_order b d) (λ v m. clean-place v (clean v (omega arith)))
