-- What a record's own bytes are known to hold where they have none of the faults 3, 5 and 6.
use Prim.Native.Nat.{ℕ, ◌+◌, ◌*◌, ◌≤◌}
use mathlib.Core.Bool.{true, false, not, ◌&&◌}
use mathlib.Core.Path.{◌≡◌, ap}
use mathlib.Core.List.{List}
use native.Mathlib.Omega.{arith}
use lib.Dec.{leb, ltb, eqb}
use borrow.Author.Tests.{leb-true, ltb-false, eqb-true, eq-eqb, not-false}
use Rattle.ranges.specs.Truth.{and_left, by-test, right-fails, four-fail, both, both-parts, three-parts, same_tests}
use Rattle.reader.specs.Block.{kind, step, operation, name, left_name, right_name, is_operation, reads_left, reads_right, birth, within, kind_fault, range_fault, unused_fault, fault}
use Rattle.reader.specs.Readability.{faultless, in-range}

pub record Tidy (b : List ℕ) (i : ℕ) : Type 0 where
  pub low : 1 ≤ kind b i
  pub high : kind b i ≤ 3
  pub named : name b i ≤ 63
  pub early : step b i ≤ 64
  pub born : birth b i ≡ step b i
  pub left : reads_left b i ≡ true → left_name b i ≤ 63
  pub right : reads_right b i ≡ true → right_name b i ≤ 63

module _ (b : List ℕ) (i : ℕ) (k : kind_fault b i ≡ false) (r : range_fault b i ≡ false) (u : unused_fault b i ≡ false) where
  range-parts : ((is_operation b i && not (within 1 64 (step b i) && within 1 8 (operation b i))) ≡ false)
      × (ltb 63 (name b i) ≡ false)
      × ((reads_left b i && ltb 63 (left_name b i)) ≡ false)
      × ((reads_right b i && ltb 63 (right_name b i)) ≡ false)
  unfolding range_fault
  range-parts = four-fail _ _ _ _ r

  -- a record that is no operation has no step
  idle : is_operation b i ≡ false → step b i ≡ 0
  unfolding unused_fault
  idle e =
      let first = (four-fail _ _ _ _ u).0 in
      eqb-true (step b i) 0 (and_left (eqb (step b i) 0) _ (not-false _ (right-fails (not (is_operation b i)) _ (ap not e) first)))

  timed : (step b i ≤ 64) × (birth b i ≡ step b i)
  unfolding birth
  timed =
      by-test (is_operation b i)
      (λ t. ((in-range b i r t).1, rw t))
      (λ t. let z = idle t in (omega arith, rw (t, z)))

  pub tidy : Tidy b i
  unfolding kind_fault
  tidy =
      let t = both-parts (leb 1 (kind b i)) (leb (kind b i) 3) (not-false _ k) in
      record {
        low = leb-true 1 (kind b i) t.0;
        high = leb-true (kind b i) 3 t.1;
        named = ltb-false 63 (name b i) range-parts.1;
        early = timed.0;
        born = timed.1;
        left = λ e. ltb-false 63 (left_name b i) (right-fails (reads_left b i) _ e range-parts.2);
        right = λ e. ltb-false 63 (right_name b i) (right-fails (reads_right b i) _ e range-parts.3);
      }

pub tidy-at : (b : List ℕ) (i : ℕ) → fault b i ≡ 0 → Tidy b i
tidy-at b i e = let f = faultless b i e in tidy b i f.kinds f.range f.unused

-- the mark of the record i
abbrev pub mark : List ℕ → ℕ → ℕ
mark b i = 256 * kind b i + birth b i

-- two records of one name have one mark exactly if they are of one kind and born together
pub same-mark : (b : List ℕ) (j i : ℕ) → Tidy b j → Tidy b i
    → (eqb (name b j) (name b i) && eqb (mark b j) (mark b i)) ≡ (eqb (kind b j) (kind b i) && eqb (name b j) (name b i) && eqb (birth b j) (birth b i))
same-mark b j i s t =
    same_tests _ _
    (λ e. let p = both-parts (eqb (name b j) (name b i)) (eqb (mark b j) (mark b i)) e in
    let m = eqb-true (mark b j) (mark b i) p.1 in
    both (both (eq-eqb (kind b j) (kind b i) (omega arith)) p.0) (eq-eqb (birth b j) (birth b i) (omega arith)))
    (λ e. let p = three-parts (eqb (kind b j) (kind b i)) (eqb (name b j) (name b i)) (eqb (birth b j) (birth b i)) e in
    both p.1 (eq-eqb (mark b j) (mark b i) (omega (arith, eqb-true (kind b j) (kind b i) p.0, eqb-true (birth b j) (birth b i) p.2))))
