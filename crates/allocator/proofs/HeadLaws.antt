-- The heads of clusters as bytes: each a node, what a merge does to them, and the run of merges.
use Prim.Native.Nat.{ℕ, zero, suc, ◌≤◌, ◌<◌}
use mathlib.Core.Path.{◌≡◌, refl, sym, ap, ◌∙◌, subst}
use mathlib.Core.List.{List}
use native.Mathlib.Omega.{arith}
use lib.ListN.{get_or}
use lib.Dec.{eqb}
use Rattle.std.specs.Prelude.{Option, Some, None}
use Rattle.ranges.specs.Below.{count_below, filled, tabulate}
use Rattle.ranges.specs.Truth.{by-test}
use Rattle.ranges.specs.Counting.{count_same}
use Rattle.ranges.specs.Tables.{tabulate-same, map-tabulate, get_d_tabulate, filled_at}
use Rattle.allocator.specs.declared.merging.Edge.{Edge}
use Rattle.allocator.specs.Merging.{Graph, Rule, is_head, after_merge, head_after, heads_after, heads_by, most_common, numbered}
use Rattle.allocator.specs.OneMerge.{joined-near}
use Rattle.allocator.specs.Cliques.{Legal}
use Rattle.allocator.specs.MostCommon.{most_common-legal}
use Rattle.allocator.specs.Words.{row_has, held, leading, Under}
use Rattle.allocator.proofs.LeadingLaws.{leading_at, leading-tabulate}

pub under-table : (n : ℕ) (f : ℕ → ℕ) (t : List ℕ) → n ≤ 240 → t ≡ tabulate 240 f → ((k : ℕ) → k < n → f k < n) → Under n t
under-table n f t fits e h = record { below = λ k l. omega (arith, ap (λ (x : List ℕ). get_or x k 0) e, get_d_tabulate 240 f 0 k (omega arith), h k l) }

-- the heads after a merge
pub leading-heads : (n : ℕ) (heads after : List ℕ) (i j : ℕ) → n ≤ 240 → after ≡ tabulate 240 (λ k. head_after i j (get_or heads k 0))
    → leading n after ≡ heads_after (leading n heads) i j
unfolding heads_after leading
leading-heads n heads after i j fits e =
    ap (leading n) e ∙ leading-tabulate 240 n (λ k. head_after i j (get_or heads k 0)) fits ∙ sym (map-tabulate (head_after i j) n (λ k. get_or heads k 0))

pub head-below : (n : ℕ) (heads : List ℕ) (i j : ℕ) → i < n → Under n heads → (k : ℕ) → k < n → head_after i j (get_or heads k 0) < n
head-below n heads i j h u k l = by-test (eqb (get_or heads k 0) j) (λ t. rw t h) (λ t. rw t (u.below k l))

-- the numbers, looked up among the ranks
pub numbers_of : (heads ranks numbers : List ℕ) → ranks ≡ filled 256 240 0 (λ x. count_below x (is_head heads))
    → numbers ≡ tabulate 240 (λ k. get_or ranks (get_or heads k 0) 0) → (n : ℕ) → n ≤ 240 → Under n heads
    → leading n numbers ≡ numbered (leading n heads)
unfolding leading numbered
numbers_of heads ranks numbers r e n few u =
    ap (leading n) e
    ∙ leading-tabulate 240 n (λ k. get_or ranks (get_or heads k 0) 0) few
    ∙ tabulate-same n _ (λ k. count_below (get_or heads k 0) (is_head (leading n heads))) place
    ∙ sym (map-tabulate (λ h. count_below h (is_head (leading n heads))) n (λ k. get_or heads k 0))
  where
    place : (k : ℕ) → k < n → get_or ranks (get_or heads k 0) 0 ≡ count_below (get_or heads k 0) (is_head (leading n heads))
    place k l =
        let h = u.below k l in
        ap (λ (t : List ℕ). get_or t (get_or heads k 0) 0) r
        ∙ filled_at 256 0 (λ x. count_below x (is_head heads)) 240 (get_or heads k 0) (omega arith) (omega arith)
        ∙ count_same (get_or heads k 0) (is_head heads) (is_head (leading n heads))
        (λ x o. ap (λ (y : ℕ). eqb y x) (sym (leading_at n heads x (omega arith))))

-- ---- the run of merges

module _ (rule : Rule) (g : Graph) (heads : List ℕ) where
  pub run-edge : (left next : ℕ) (x : Edge) → left ≡ suc next → rule g ≡ Some x
      → heads_by rule left g heads ≡ heads_by rule next (after_merge g x.smaller x.larger) (heads_after heads x.smaller x.larger)
  unfolding heads_by
  run-edge left next x q e = rw (q, e)

  pub run-nothing : (left : ℕ) → rule g ≡ None → heads_by rule left g heads ≡ heads
  unfolding heads_by
  run-nothing zero e = refl
  run-nothing (suc left) e = rw e

  pub run-ended : (left : ℕ) → left ≡ 0 → heads_by rule left g heads ≡ heads
  unfolding heads_by
  run-ended left e = rw e

-- the edge chosen joins two of the n nodes, the smaller first
pub edge-below : (n : ℕ) (rows : List (List ℕ)) (c : Option Edge) (x : Edge) → c ≡ most_common (held n rows) → c ≡ Some x → (x.smaller < x.larger) × (x.larger < n)
unfolding held
edge-below n rows c x q e =
    let z = subst (Legal (held n rows)) (sym q ∙ e) (most_common-legal (held n rows)) in
    (z.0, (joined-near n (row_has rows) x.smaller x.larger z.1).second)
