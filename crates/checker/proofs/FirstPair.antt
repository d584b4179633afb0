-- Laws of the search over all pairs: where it stops it has the first broken pair, and two tests that agree on all pairs give one answer.
-- Document 01, "Numbers that come back": the smallest later record, then the smallest earlier one.
use Rattle.std.specs.Prelude.{ℕ, ◌+◌, ◌≤◌, ◌<◌, Bool, true, false, cond, ◌≡◌, Option, Some, None, ltb}
use Rattle.std.proofs.Math.Path.{sym}
use Rattle.std.proofs.Common.{◌∙◌, arith, lt-ltb, le-ltb}
use Rattle.ranges.specs.Below.{any_below}
use Rattle.ranges.specs.Truth.{by_order, by_equal}
use Rattle.ranges.specs.Finding.{any-true, none_any, any_same, first-at, first-same}
use Rattle.checker.specs.Rules.{later_of, earlier_of, first_pair}
use Rattle.checker.specs.declared.search.Pair.{Pair}

-- no pair with a later record below v breaks the rule
pub record Passed (breaks : ℕ → ℕ → Bool) (v : ℕ) : Type 0 where
  pub none : (k j : ℕ) → k < v → breaks k j ≡ false

-- v is passed where it breaks the rule with none below w, nor with any from v + 1 on, and w is beyond v
pub passed-more : (breaks : ℕ → ℕ → Bool) (v : ℕ) {w : ℕ} → Passed breaks v → ((j : ℕ) → j < w → breaks v j ≡ false) → v < w
    → ((j : ℕ) → v < j → breaks v j ≡ false) → Passed breaks (v + 1)
passed-more breaks v {w} P h l f = record { none = λ k j m. by_equal k v (λ e. rw e (own j)) (λ ne. P.none k j (omega arith)) }
  where
    own : (j : ℕ) → breaks v j ≡ false
    own j = by_order v j (f j) (λ i. h j (omega arith))

-- what is answered where the smallest later record is v, n for none, and the smallest earlier one w
abbrev answer : ℕ → ℕ → ℕ → Option Pair
answer n v w = cond (ltb v n) (Some (record { later = v; earlier = w })) None

answer-same : (n v w x y : ℕ) → v ≡ x → (x < n → w ≡ y) → answer n v w ≡ answer n x y
answer-same n v w x y e f = by_order x n (λ l. rw (e, f l)) (λ l. rw (e, le-ltb x n l))

module _ (n : ℕ) (breaks : ℕ → ℕ → Bool) where
  pub no-pair : (v : ℕ) → n ≤ v → Passed breaks v → None ≡ first_pair n breaks
  unfolding first_pair later_of
  no-pair v l P =
      let e : later_of n breaks ≡ n =
      first-at n (λ v. any_below n (breaks v)) n (omega arith) (λ k m. none_any n (breaks k) (λ j i. P.none k j (omega arith))) (λ m. absurd (omega arith)) in
      rw (le-ltb (later_of n breaks) n (omega arith))

  pub found-pair : (v w : ℕ) → v < n → w < n → Passed breaks v → ((j : ℕ) → j < w → breaks v j ≡ false) → breaks v w ≡ true
      → Some (record { later = v; earlier = w }) ≡ first_pair n breaks
  unfolding first_pair later_of earlier_of
  found-pair v w l m P h t =
      let e : later_of n breaks ≡ v =
      first-at n (λ v. any_below n (breaks v)) v (omega arith) (λ k i. none_any n (breaks k) (λ j z. P.none k j i)) (λ i. any-true n (breaks v) w m t) in
      let f : earlier_of n breaks ≡ w = rw e (first-at n (breaks v) w (omega arith) h (λ i. t)) in
      sym (answer-same n (later_of n breaks) (earlier_of n breaks) v w e (λ i. f) ∙ rw (lt-ltb v n l))

-- tests that agree on all pairs of n give one answer
pub pair_same : (n : ℕ) (p q : ℕ → ℕ → Bool) → ((v w : ℕ) → v < n → w < n → p v w ≡ q v w) → first_pair n p ≡ first_pair n q
unfolding first_pair later_of earlier_of
pair_same n p q h =
    let e : later_of n p ≡ later_of n q =
    first-same n (λ v. any_below n (p v)) (λ v. any_below n (q v)) (λ v l. any_same n (p v) (q v) (λ w m. h v w l m)) in
    answer-same n (later_of n p) (earlier_of n p) (later_of n q) (earlier_of n q) e
    (λ l. rw e (first-same n (p (later_of n q)) (q (later_of n q)) (λ w m. h (later_of n q) w l m)))
