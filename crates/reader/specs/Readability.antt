-- What follows from a block's being readable, record by record: no fault, the order of the records, ranges, sources.
-- Document 01, "Records of a block", "Values, steps and boundaries".
use Rattle.std.specs.Prelude.{ℕ, suc, ◌-◌, ◌%◌, ◌≤◌, ◌<◌, Bool, false, not, ◌&&◌, ◌||◌, cond, ◌≡◌, ◌⊎◌, List, length, leb, ltb, eqb}
use Rattle.std.proofs.Math.Bool.{true}
use Rattle.std.proofs.Math.Path.{ap}
use Rattle.std.proofs.Common.{inl, inr, ⊎_elim}
use native.Mathlib.Omega.{arith}
use borrow.Author.Tests.{eqb-true, eq-eqb, leb-true, ltb-true, ltb-false, not-false}
use Rattle.ranges.specs.Truth.{by-test, both, both-parts, three-fail, four-fail, or_left, or_right, neither_left, neither_right, or_cases, by_equal, by_order, contradiction, not-holds, right-fails, passed, accepted-else, cond-le}
use Rattle.ranges.specs.Finding.{nonzero-at, zero-before, any-true, any-witness, rises, largest-le}
use Rattle.ranges.specs.Counting.{below-count, count-above, count-all, count-either}
use Rattle.reader.specs.Block.{kind, step, operation, name, left_name, right_name, records, is_incoming, is_operation, is_outgoing, is_value, reads_left, reads_right, left_value, right_value, sent_value, birth, born_below, has_value, value_for, at_end, within, values, outgoing, last_step, kind_fault, order_fault, range_fault, unused_fault, twice_fault, missing_fault, fault, first_fault, reading}
use Rattle.reader.specs.Numbers.{Reading}
use Rattle.reader.specs.LatestValues.{born-value, born-before, has-found, found-born}
use Rattle.reader.specs.Boundaries.{birth-operation, unborn, birth-incoming, birth-end, values-le}

-- ---- no record has a fault

pub record Faultless (b : List ℕ) (i : ℕ) : Type 0 where
  pub kinds : kind_fault b i ≡ false
  pub order : order_fault b i ≡ false
  pub range : range_fault b i ≡ false
  pub unused : unused_fault b i ≡ false
  pub twice : twice_fault b i ≡ false
  pub missing : missing_fault b i ≡ false

pub faultless : (b : List ℕ) (i : ℕ) → fault b i ≡ 0 → Faultless b i
unfolding fault
faultless b i e =
    let p3 = passed (kind_fault b i) 2 _ e in
    let p4 = passed (order_fault b i) 3 _ p3.1 in
    let p5 = passed (range_fault b i) 4 _ p4.1 in
    let p6 = passed (unused_fault b i) 5 _ p5.1 in
    let p7 = passed (twice_fault b i) 6 _ p6.1 in
    let p8 = passed (missing_fault b i) 7 _ p7.1 in
    record { kinds = p3.0; order = p4.0; range = p5.0; unused = p6.0; twice = p7.0; missing = p8.0 }

pub record Read (b : List ℕ) : Type 0 where
  pub whole : length b % 8 ≡ 0
  pub few : records b ≤ 80
  pub clean : (i : ℕ) → i < records b → Faultless b i

-- the three tests that a readable block passes
passes : (b : List ℕ) → (reading b).number ≡ 0
    → (not (eqb (length b % 8) 0) ≡ false) × (ltb 80 (records b) ≡ false) × (ltb (first_fault b) (records b) ≡ false)
unfolding reading first_fault
passes b e =
    let p1 = accepted-else number (not (eqb (length b % 8) 0)) _ _ (λ t z. omega arith) e in
    let p2 = accepted-else number (ltb 80 (records b)) _ _ (λ t z. omega arith) p1.1 in
    let p3 = accepted-else number (ltb (first_fault b) (records b)) _ _ (λ t z. nonzero-at (records b) (fault b) (ltb-true (first_fault b) (records b) t) z) p2.1 in
    (p1.0, p2.0, p3.0)
  where
    number : Reading → ℕ
    number r = r.number

pub read : (b : List ℕ) → (reading b).number ≡ 0 → Read b
unfolding first_fault
read b e =
    let p = passes b e in
    let h = ltb-false (first_fault b) (records b) p.2 in
    record {
      whole = eqb-true (length b % 8) 0 (not-false (eqb (length b % 8) 0) p.0);
      few = ltb-false 80 (records b) p.1;
      clean = λ i l. faultless b i (zero-before (records b) (fault b) i (omega arith));
    }

-- what is returned then
pub reading-done : (b : List ℕ) → (reading b).number ≡ 0 → reading b ≡ record { number = 0; first = 0; second = 0; values = values b; last_step = last_step b }
unfolding reading
reading-done b e = let p = passes b e in rw (reading, p.0, p.1, p.2)

-- a refusal is one of 1 to 8
fault-le : (b : List ℕ) (i : ℕ) → fault b i ≤ 8
unfolding fault
fault-le b i =
    one (kind_fault b i) 3 _ (omega arith) (one (order_fault b i) 4 _ (omega arith) (one (range_fault b i) 5 _ (omega arith)
    (one (unused_fault b i) 6 _ (omega arith) (one (twice_fault b i) 7 _ (omega arith) (one (missing_fault b i) 8 0 (omega arith) (omega arith))))))
  where
    one : (t : Bool) (x y : ℕ) → x ≤ 8 → y ≤ 8 → cond t x y ≤ 8
    one t x y l h = cond-le (λ n. n) t x y 8 l h

pub reading-le : (b : List ℕ) → (reading b).number ≤ 8
unfolding reading
reading-le b =
    cond-le number (not (eqb (length b % 8) 0)) _ _ 8 (omega arith) (cond-le number (ltb 80 (records b)) _ _ 8 (omega arith)
    (cond-le number (ltb (first_fault b) (records b)) _ _ 8 (fault-le b (first_fault b)) (omega arith)))
  where
    number : Reading → ℕ
    number r = r.number

-- the step and the operation of a record in range
pub in-range : (b : List ℕ) (i : ℕ) → range_fault b i ≡ false → is_operation b i ≡ true → (1 ≤ step b i) × (step b i ≤ 64) × (1 ≤ operation b i) × (operation b i ≤ 8)
unfolding range_fault
in-range b i r o =
    let t = both-parts (within 1 64 (step b i)) (within 1 8 (operation b i)) (not-false _ (right-fails (is_operation b i) _ o (four-fail _ _ _ _ r).0)) in
    let s = both-parts (leb 1 (step b i)) (leb (step b i) 64) t.0 in
    let o = both-parts (leb 1 (operation b i)) (leb (operation b i) 8) t.1 in
    (leb-true 1 (step b i) s.0, leb-true (step b i) 64 s.1, leb-true 1 (operation b i) o.0, leb-true (operation b i) 8 o.1)

module _ (b : List ℕ) (R : Read b) where
  -- ---- the order of the records

  kind-range : (i : ℕ) → i < records b → (1 ≤ kind b i) × (kind b i ≤ 3)
  unfolding kind_fault
  kind-range i l =
      let t = both-parts (leb 1 (kind b i)) (leb (kind b i) 3) (not-false (within 1 3 (kind b i)) (R.clean i l).kinds) in
      (leb-true 1 (kind b i) t.0, leb-true (kind b i) 3 t.1)

  kind-next : (i : ℕ) → suc i < records b → kind b i ≤ kind b (suc i)
  unfolding order_fault
  kind-next i l = ltb-false (kind b (suc i)) (kind b i) (neither_left (ltb (kind b (suc i)) (kind b i)) _ (R.clean (suc i) l).order)

  kind-rises : (i j : ℕ) → i ≤ j → j < records b → kind b i ≤ kind b j
  kind-rises = rises (records b) (kind b) kind-next

  step-next : (i : ℕ) → suc i < records b → kind b i ≡ 2 → kind b (suc i) ≡ 2 → step b i ≤ step b (suc i)
  unfolding order_fault
  step-next i l e z =
      ltb-false (step b (suc i)) (step b i) (not-holds (ltb (step b (suc i)) (step b i))
      (λ t. contradiction (both (both (eq-eqb (kind b i) 2 e) (eq-eqb (kind b (suc i)) 2 z)) t)
      (neither_right (ltb (kind b (suc i)) (kind b i)) _ (R.clean (suc i) l).order)))

  -- ---- the values are the first records

  kind-value : (i : ℕ) → 1 ≤ kind b i → kind b i ≤ 2 → is_value b i ≡ true
  kind-value i l h =
      by_equal (kind b i) 1 (λ e. or_left (is_operation b i) (eq-eqb (kind b i) 1 e))
      (λ n. or_right (is_incoming b i) (eq-eqb (kind b i) 2 (omega arith)))

  value-kind : (i : ℕ) → is_value b i ≡ true → (kind b i ≡ 1) ⊎ (kind b i ≡ 2)
  value-kind i t = ⊎_elim (λ e. inl (eqb-true (kind b i) 1 e)) (λ e. inr (eqb-true (kind b i) 2 e)) (or_cases (is_incoming b i) (is_operation b i) t)

  value-falls : (i j : ℕ) → i ≤ j → j < records b → is_value b j ≡ true → is_value b i ≡ true
  value-falls i j a l t =
      let r = kind-range i (omega arith) in
      kind-value i (omega arith) (⊎_elim (λ e. omega (arith, kind-rises i j a l)) (λ e. omega (arith, kind-rises i j a l)) (value-kind j t))

  value_of : (v : ℕ) → v < values b → is_value b v ≡ true
  unfolding values
  value_of v l = below-count (records b) (is_value b) value-falls v l

  pub kinds : (v : ℕ) → v < values b → (kind b v ≡ 1) ⊎ (kind b v ≡ 2)
  kinds v l = value-kind v (value_of v l)

  value-below : (i : ℕ) → i < records b → is_value b i ≡ true → i < values b
  unfolding values
  value-below i l t = count-above (records b) (is_value b) value-falls i l t

  pub is-outgoing : (i : ℕ) → i < records b → values b ≤ i → is_outgoing b i ≡ true
  is-outgoing i l h =
      let r = kind-range i l in
      by_order (kind b i) 3 (λ g. absurd (omega (arith, value-below i l (kind-value i (omega arith) (omega arith))))) (λ g. eq-eqb (kind b i) 3 (omega arith))

  -- births rise with the records
  pub rising : (v w : ℕ) → v < w → w < values b → birth b v ≤ birth b w
  rising v w h l = rises (values b) (birth b) next v w (omega arith) l
    where
      next : (i : ℕ) → suc i < values b → birth b i ≤ birth b (suc i)
      next i l = by-kinds (omega (arith, values-le b)) (kinds i (omega arith)) (kinds (suc i) l)
        where
          by-kinds : suc i < records b → (kind b i ≡ 1) ⊎ (kind b i ≡ 2) → (kind b (suc i) ≡ 1) ⊎ (kind b (suc i) ≡ 2) → birth b i ≤ birth b (suc i)
          by-kinds r (inl e) z = omega (arith, birth-incoming b i e)
          by-kinds r (inr e) (inl z) = absurd (omega (arith, kind-next i r))
          by-kinds r (inr e) (inr z) = omega (arith, birth-operation b i e, birth-operation b (suc i) z, step-next i r e z)

  -- ---- ranges

  pub operation-range : (v : ℕ) → v < values b → kind b v ≡ 2 → (1 ≤ step b v) × (step b v ≤ 64) × (1 ≤ operation b v) × (operation b v ≤ 8)
  operation-range v l e = in-range b v (R.clean v (omega (arith, values-le b))).range (eq-eqb (kind b v) 2 e)

  -- a record that is no operation has 0 there
  pub operation-few : (v : ℕ) → v < values b → operation b v ≤ 8
  unfolding unused_fault
  operation-few v l =
      by-test (is_operation b v)
      (λ o. (operation-range v l (eqb-true (kind b v) 2 o)).3)
      (λ o.
      let u = not-false _ (right-fails (not (is_operation b v)) _ (ap not o) (four-fail _ _ _ _ (R.clean v (omega (arith, values-le b))).unused).0) in
      let z : operation b v ≡ 0 = eqb-true (operation b v) 0 (both-parts (eqb (step b v) 0) (eqb (operation b v) 0) u).1 in
      omega arith)

  -- ---- sources

  -- a name that has a value born below s among the first i records has one among all values
  source : (i s n : ℕ) → i < records b → has_value b i s n ≡ true → (value_for b (values b) s n < values b) × (birth b (value_for b (values b) s n) < s)
  unfolding has_value
  source i s n l e = let f = has-found b (values b) s n among in (f, born-before b s n _ (found-born b (values b) s n f))
    where
      among : has_value b (values b) s n ≡ true
      among =
          let x = any-witness i (born_below b s n) e in
          any-true (values b) (born_below b s n) x.0 (value-below x.0 (omega (arith, x.1)) (born-value b s n x.0 x.2)) x.2

  -- every name read or sent out has a value
  missing : (i : ℕ) → i < records b
      → ((reads_left b i && not (has_value b i (step b i) (left_name b i))) ≡ false)
      × ((reads_right b i && not (has_value b i (step b i) (right_name b i))) ≡ false)
      × ((is_outgoing b i && not (has_value b i at_end (name b i))) ≡ false)
  unfolding missing_fault
  missing i l = three-fail _ _ _ (R.clean i l).missing

  pub left-source : (i : ℕ) → i < records b → reads_left b i ≡ true → (left_value b i < values b) × (birth b (left_value b i) < step b i)
  left-source i l t = source i (step b i) (left_name b i) l (not-false _ (right-fails (reads_left b i) _ t (missing i l).0))

  pub right-source : (i : ℕ) → i < records b → reads_right b i ≡ true → (right_value b i < values b) × (birth b (right_value b i) < step b i)
  right-source i l t = source i (step b i) (right_name b i) l (not-false _ (right-fails (reads_right b i) _ t (missing i l).1))

  pub sent-source : (i : ℕ) → i < records b → is_outgoing b i ≡ true → sent_value b i < values b
  sent-source i l t = (source i at_end (name b i) l (not-false _ (right-fails (is_outgoing b i) _ t (missing i l).2))).0

  -- T is the step of the last operation
  pub last-operation : (v : ℕ) → v < values b → kind b v ≡ 2 → values b ≤ suc v → last_step b ≡ step b v
  unfolding last_step
  last-operation v l e h =
      let own = birth-operation b v e in
      omega (
        arith,
        birth-end b v l,
        largest-le (records b) (birth b) (step b v) (λ i m. by_order i (values b)
            (λ n. by_equal i v (λ q. omega (arith, ap (birth b) q)) (λ n2. omega (arith, rising i v (omega arith) l)))
            (λ n. omega (arith, unborn b i (λ q. omega (arith, eqb-true (kind b i) 3 (is-outgoing i m n)))))),
      )

  -- every record that is no value is outgoing
  pub outgoing-rest : outgoing b ≡ records b - values b
  unfolding outgoing values
  outgoing-rest =
      omega (
        arith,
        count-either (records b) (is_value b) (is_outgoing b) (λ i l s t. apart i (value-kind i s) (eqb-true (kind b i) 3 t)),
        count-all (records b) (λ i. is_value b i || is_outgoing b i) (λ i l. by_order i (values b)
            (λ n. or_left (is_outgoing b i) (value_of i n))
            (λ n. or_right (is_value b i) (is-outgoing i l n))),
      )
    where
      apart : (i : ℕ) → (kind b i ≡ 1) ⊎ (kind b i ≡ 2) → kind b i ≡ 3 → ⊥
      apart i (inl e) z = omega arith
      apart i (inr e) z = omega arith
