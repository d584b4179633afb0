-- The tests of a record decide the conditions of 3 to 8.
-- Document 01, "Records of a block", "Numbers that come back".
use Rattle.std.specs.Prelude.{ℕ, zero, suc, ◌≤◌, ◌<◌, not, ◌&&◌, ◌≡◌, refl, ◌⊎◌, List}
use Rattle.std.proofs.Common.{sym, ◌∙◌, inl, inr, ⊎_elim}
use native.Mathlib.Omega.{arith}
use Rattle.ranges.specs.Truth.{by_order, by_equal}
use Rattle.reader.specs.Block.{field, kind, step, operation, name, left_name, right_name, literal, kind_before, step_before, reads_left, computes, is_constant, birth, born_below, has_value, at_end, within, kind_fault, order_fault, range_fault, unused_fault, twice_fault, missing_fault}
use Rattle.reader.specs.Boundaries.{birth-operation, unborn}
use Rattle.evidence.specs.Orders.{ReadsLeft, Computes, Constant, NoKind, OutOfOrder, Outside, BeyondRange, Unused, no_step, no-operation, no-left, no-right, no-low, no-high, UnusedNotZero, Twice, ValueOf, BornBelow, Valueless}
use Rattle.evidence.specs.Decisions.{Decides, in_words, equal, less, no_more, fails-to, holds-both, holds-one, holds-three, one_of_three, one-of-four, some_below}

module _ (b : List ℕ) (i : ℕ) where
  -- ---- what a record reads

  pub left-read : Decides (reads_left b i) (ReadsLeft b i)
  left-read =
      in_words (holds-both (equal (kind b i) 2) (fails-to (holds-both (equal (kind b i) 2) (equal (operation b i) 2))))
      (λ p. (p.0, λ e. p.1 (p.0, e))) (λ p. (p.0, λ e. p.1 e.1))

  pub computed : Decides (computes b i) (Computes b i)
  computed = holds-both (equal (kind b i) 2) (no_more 3 (operation b i))

  constant : Decides (is_constant b i) (Constant b i)
  constant = holds-both (equal (kind b i) 2) (equal (operation b i) 2)

  -- ---- 3

  pub decides-3 : Decides (kind_fault b i) (NoKind b i)
  unfolding kind_fault
  decides-3 =
      in_words (fails-to (holds-both (no_more 1 (kind b i)) (no_more (kind b i) 3)))
      (λ n. (λ e. n (omega arith, omega arith), λ e. n (omega arith, omega arith), λ e. n (omega arith, omega arith)))
      (λ n p. by_equal (kind b i) 1 n.0 (λ x. by_equal (kind b i) 2 n.1 (λ y. n.2 (omega arith))))

  -- ---- 5

  outside : (low high x : ℕ) → ((low ≤ x) × (x ≤ high) → ⊥) → Outside low high x
  outside low high x n = by_order x low (λ l. inl l) (λ l. by_order high x (λ h. inr h) (λ h. absurd (n (l, h))))

  not-outside : (low high x : ℕ) → Outside low high x → (low ≤ x) × (x ≤ high) → ⊥
  not-outside low high x (inl l) p = omega arith
  not-outside low high x (inr l) p = omega arith

  beyond : Decides (not (within 1 64 (step b i) && within 1 8 (operation b i))) (Outside 1 64 (step b i) ⊎ Outside 1 8 (operation b i))
  beyond =
      in_words
      (fails-to (holds-both (holds-both (no_more 1 (step b i)) (no_more (step b i) 64)) (holds-both (no_more 1 (operation b i)) (no_more (operation b i) 8))))
      (λ n. by_order (step b i) 1 (λ l. inl (inl l)) (λ l. by_order 64 (step b i) (λ h. inl (inr h)) (λ h. inr (outside 1 8 (operation b i) (λ p. n ((l, h), p))))))
      (λ o p. ⊎_elim (λ s. not-outside 1 64 (step b i) s p.0) (λ s. not-outside 1 8 (operation b i) s p.1) o)

  pub decides-5 : Decides (range_fault b i) (BeyondRange b i)
  unfolding range_fault
  decides-5 =
      one-of-four (holds-both (equal (kind b i) 2) beyond) (less 63 (name b i)) (holds-both left-read (less 63 (left_name b i)))
      (holds-both computed (less 63 (right_name b i)))

  -- ---- 6

  abbrev UnusedParts : Type 0
  UnusedParts =
      ((kind b i ≡ 2 → ⊥) × ((step b i ≡ 0) × (operation b i ≡ 0) → ⊥))
      ⊎ ((ReadsLeft b i → ⊥) × (left_name b i ≡ 0 → ⊥))
      ⊎ ((Computes b i → ⊥) × (right_name b i ≡ 0 → ⊥))
      ⊎ ((Constant b i → ⊥) × (literal b i ≡ 0 → ⊥))

  unused : Decides (unused_fault b i) UnusedParts
  unfolding unused_fault
  unused =
      one-of-four
      (holds-both (fails-to (equal (kind b i) 2)) (fails-to (holds-both (equal (step b i) 0) (equal (operation b i) 0))))
      (holds-both (fails-to left-read) (fails-to (equal (left_name b i) 0)))
      (holds-both (fails-to computed) (fails-to (equal (right_name b i) 0)))
      (holds-both (fails-to constant) (fails-to (equal (literal b i) 0)))

  unused-byte : UnusedParts → UnusedNotZero b i
  unused-byte (inl p) = by_equal (step b i) 0 (λ e. (2, no-operation p.0, λ z. p.1 (e, z))) (λ n. (1, no_step p.0, n))
  unused-byte (inr (inl p)) = (4, no-left p.0, p.1)
  unused-byte (inr (inr (inl p))) = (5, no-right p.0, p.1)
  unused-byte (inr (inr (inr p))) =
      by_equal (field b i 6) 0 (λ e. (7, no-high p.0, λ z. p.1 (omega arith))) (λ n. (6, no-low p.0, n))

  byte-unused : (k : ℕ) → Unused b i k → (field b i k ≡ 0 → ⊥) → UnusedParts
  byte-unused k (no_step u) n = inl (u, λ p. n p.0)
  byte-unused k (no-operation u) n = inl (u, λ p. n p.1)
  byte-unused k (no-left u) n = inr (inl (u, n))
  byte-unused k (no-right u) n = inr (inr (inl (u, n)))
  byte-unused k (no-low u) n = inr (inr (inr (u, λ z. n (omega arith))))
  byte-unused k (no-high u) n = inr (inr (inr (u, λ z. n (omega arith))))

  pub decides-6 : Decides (unused_fault b i) (UnusedNotZero b i)
  decides-6 = in_words unused unused-byte (λ u. byte-unused u.0 u.1 u.2)

  -- ---- 7

  same-birth : (j : ℕ) → kind b j ≡ kind b i → birth b j ≡ birth b i → kind b i ≡ 2 → step b j ≡ step b i
  same-birth j k e z = omega (arith, birth-operation b j (k ∙ z), birth-operation b i z)

  same_step : (j : ℕ) → kind b j ≡ kind b i → (kind b i ≡ 2 → step b j ≡ step b i) → birth b j ≡ birth b i
  same_step j k e =
      by_equal (kind b i) 2
      (λ z. omega (arith, birth-operation b j (k ∙ z), birth-operation b i z, e z))
      (λ n. omega (arith, unborn b j (λ z. n (sym k ∙ z)), unborn b i n))

  pub decides-7 : Decides (twice_fault b i) (Twice b i)
  unfolding twice_fault
  decides-7 =
      in_words (some_below i _ (λ j l. holds-three (equal (kind b j) (kind b i)) (equal (name b j) (name b i)) (equal (birth b j) (birth b i))))
      (λ w. (w.0, w.1, w.2.0, w.2.1, same-birth w.0 w.2.0 w.2.2))
      (λ w. (w.0, w.1, (w.2, w.3, same_step w.0 w.2 w.4)))

  -- ---- 8

  born : (s n v : ℕ) → Decides (born_below b s n v) (ValueOf b n v × (birth b v < s))
  born s n v =
      in_words (holds-three (holds-one (equal (kind b v) 1) (equal (kind b v) 2)) (equal (name b v) n) (less (birth b v) s))
      (λ p. ((p.0, p.1), p.2)) (λ p. (p.0.0, p.0.1, p.1))

  has-value : (s n : ℕ) → Decides (has_value b i s n) (BornBelow b i s n)
  unfolding has_value
  has-value s n = in_words (some_below i _ (λ v l. born s n v)) (λ w. (w.0, w.1, w.2.0, w.2.1)) (λ w. (w.0, w.1, (w.2, w.3)))

  -- every value of the records before is born by step 64
  module _ (early : (v : ℕ) → v < i → birth b v < at_end) where
    sent : Decides (not (has_value b i at_end (name b i))) ((v : ℕ) → v < i → ValueOf b (name b i) v → ⊥)
    sent =
        in_words (fails-to (has-value at_end (name b i)))
        (λ n v l p. n (v, l, p, early v l)) (λ n w. n w.0 w.1 w.2)

    pub decides-8 : Decides (missing_fault b i) (Valueless b i)
    unfolding missing_fault
    decides-8 =
        one_of_three
        (holds-both left-read (fails-to (has-value (step b i) (left_name b i))))
        (holds-both computed (fails-to (has-value (step b i) (right_name b i))))
        (holds-both (equal (kind b i) 3) sent)

-- ---- 4

before : (b : List ℕ) (i : ℕ) → (kind b i < kind_before b i) ⊎ ((kind_before b i ≡ 2) × (kind b i ≡ 2) × (step b i < step_before b i)) → OutOfOrder b i
before b zero (inl l) = absurd (omega arith)
before b zero (inr p) = absurd (omega arith)
before b (suc i) p = (i, refl, p)

after : (b : List ℕ) (i : ℕ) → OutOfOrder b i → (kind b i < kind_before b i) ⊎ ((kind_before b i ≡ 2) × (kind b i ≡ 2) × (step b i < step_before b i))
after b zero p = absurd (omega (arith, p.1))
after b (suc i) p = let e : p.0 ≡ i = omega (arith, p.1) in rw e at p.2

pub decides-4 : (b : List ℕ) (i : ℕ) → Decides (order_fault b i) (OutOfOrder b i)
unfolding order_fault
decides-4 b i =
    in_words
    (holds-one (less (kind b i) (kind_before b i)) (holds-three (equal (kind_before b i) 2) (equal (kind b i) 2) (less (step b i) (step_before b i))))
    (before b i) (after b i)
