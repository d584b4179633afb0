-- The graph that rows hold: its edges, its common neighbours, and what a merge of two rows makes of it.
use Prim.Native.Nat.{ℕ, ◌+◌, ◌-◌, ◌≤◌, ◌<◌}
use mathlib.Core.Bool.{Bool, true, false, cond, ◌&&◌, ◌||◌}
use mathlib.Core.Path.{◌≡◌, refl, sym, ap, ap₂, ◌∙◌}
use mathlib.Core.List.{List, [], ◌∷◌}
use native.Mathlib.Omega.{arith}
use lib.ListN.{get_or, set, length}
use lib.Seq.{get_or-set_same, get_or-set_other}
use lib.Dec.{eqb, ltb}
use borrow.Author.Tests.{eq-eqb, ne_eqb, lt-ltb, le-ltb}
use Rattle.ranges.specs.Below.{count_below, tabulate}
use Rattle.ranges.specs.Truth.{by_equal, by_order}
use Rattle.ranges.specs.Counting.{count-zero, count_same, count_add}
use Rattle.ranges.specs.Tables.{get_d_tabulate, tabulate-same}
use Rattle.allocator.specs.Merging.{joined, graph_of, common_neighbours, near_after, after_merge}
use Rattle.allocator.specs.OneMerge.{length-graph}
use Rattle.allocator.specs.Words.{bit_of, shared_bits, row_has, held, Clear}
use Rattle.allocator.proofs.RowLaws.{zeros-bit}

pub joined-graph : (n : ℕ) (near : ℕ → ℕ → Bool) (i j : ℕ) → i < n → j < n → joined (graph_of n near) i j ≡ near i j
unfolding graph_of
joined-graph n near i j l h =
    ap (λ (r : List Bool). get_or r j false) (get_d_tabulate n (λ x. tabulate n (near x)) [] i l) ∙ get_d_tabulate n (near i) false j h

pub graph_same : (n : ℕ) (f h : ℕ → ℕ → Bool) → ((i j : ℕ) → i < n → j < n → f i j ≡ h i j) → graph_of n f ≡ graph_of n h
unfolding graph_of
graph_same n f h e = tabulate-same n _ _ (λ i l. tabulate-same n (f i) (h i) (λ j m. e i j l m))

module _ (n : ℕ) (rows : List (List ℕ)) where
  pub length-held : length (held n rows) ≡ n
  unfolding held
  length-held = length-graph n (row_has rows)

  pub held-joined : (i j : ℕ) → i < n → j < n → joined (held n rows) i j ≡ row_has rows i j
  unfolding held
  held-joined i j l h = joined-graph n (row_has rows) i j l h

  -- the bits that two rows share are the common neighbours
  pub held-common : (i j : ℕ) → Clear n rows → i < n → j < n → n ≤ 256
      → shared_bits (get_or rows i []) (get_or rows j []) ≡ common_neighbours (held n rows) i j
  unfolding shared_bits common_neighbours
  held-common i j clear l h few =
      let p : ℕ → Bool = λ k. row_has rows i k && row_has rows j k in
      let e : 256 ≡ n + (256 - n) = omega arith in
      ap (λ (m : ℕ). count_below m p) e
      ∙ omega (
        arith,
        count_add n (256 - n) p,
        count-zero (256 - n) (λ k. p (n + k)) (λ k m. ap (λ (t : Bool). t && row_has rows j (n + k)) (clear.past i (n + k) l (omega arith))),
      )
      ∙ count_same n p (λ k. joined (held n rows) i k && joined (held n rows) j k) (λ k m. sym (ap₂ ◌&&◌ (held-joined i k l m) (held-joined j k h m)))
      ∙ ap (λ (m : ℕ). count_below m (λ k. joined (held n rows) i k && joined (held n rows) j k)) (sym length-held)

-- ---- what is joined after a merge

module _ (f : ℕ → ℕ → Bool) (i j a c : ℕ) where
  pub near-gone : a ≡ j → near_after f i j a c ≡ false
  near-gone e = rw (eq-eqb a j e)

near_same : (f h : ℕ → ℕ → Bool) (i j a c : ℕ) → f i c ≡ h i c → f j c ≡ h j c → f a i ≡ h a i → f a j ≡ h a j → f a c ≡ h a c
    → near_after f i j a c ≡ near_after h i j a c
near_same f h i j a c p q r s t =
    ap₂ (λ (x y : Bool). cond (eqb a j || eqb c j) false (cond (eqb a i) x y)) (ap₂ ◌&&◌ p q)
    (ap₂ (λ (x y : Bool). cond (eqb c i) x y) (ap₂ ◌&&◌ r s) t)

-- ---- a row that is made bit by bit

-- the row has the nodes below k that f tells, and no other
pub record BitsTo (f : ℕ → Bool) (row : List ℕ) (k : ℕ) : Type 0 where
  pub at : (c : ℕ) → bit_of row c ≡ (ltb c k && f c)

pub bits_none : (f : ℕ → Bool) → BitsTo f (0 ∷ 0 ∷ 0 ∷ 0 ∷ []) 0
bits_none f = record { at = λ c. zeros-bit c ∙ rw (le-ltb c 0 (omega arith)) }

pub bits-more : (f : ℕ → Bool) (row r : List ℕ) (k : ℕ) (on : Bool) → on ≡ f k → ((c : ℕ) → bit_of r c ≡ cond (eqb c k && on) true (bit_of row c))
    → BitsTo f row k → BitsTo f r (k + 1)
bits-more f row r k on e h w =
    record {
      at = λ c. h c ∙ by_equal c k
          (λ q. rw (eq-eqb c k q, w.at c, le-ltb c k (omega arith), lt-ltb c (k + 1) (omega arith)) (same on ∙ e ∙ ap f (sym q)))
          (λ n. rw (ne_eqb c k n) (w.at c ∙ by_order c k
          (λ l. rw (lt-ltb c k l, lt-ltb c (k + 1) (omega arith)))
          (λ l. rw (le-ltb c k l, le-ltb c (k + 1) (omega arith)))));
    }
  where
    same : (t : Bool) → cond t true false ≡ t
    same true = refl
    same false = refl

-- ---- rows that are made one after another

-- the first k rows have the nodes that f tells
pub record RowsAre (f : ℕ → ℕ → Bool) (rows : List (List ℕ)) (k : ℕ) : Type 0 where
  pub row : (a : ℕ) → a < k → (c : ℕ) → row_has rows a c ≡ f a c

pub rows_more : (f : ℕ → ℕ → Bool) (rows : List (List ℕ)) (k : ℕ) (r : List ℕ) → k < length rows → ((c : ℕ) → bit_of r c ≡ f k c) → RowsAre f rows k
    → RowsAre f (set rows k r) (k + 1)
rows_more f rows k r l h w =
    record {
      row = λ a m c.
          by_equal a k
          (λ e. rw (e, get_or-set_same rows k r [] l) (h c))
          (λ n. ap (λ (x : List ℕ). bit_of x c) (get_or-set_other rows k a r [] n) ∙ w.row a (omega arith) c);
    }

-- ---- the rows of a graph, and those of a merged one

pub held-graph : (n : ℕ) (near : ℕ → ℕ → Bool) (rows : List (List ℕ)) (k : ℕ) → n ≤ k → RowsAre (λ a c. ltb c n && near a c) rows k
    → (held n rows ≡ graph_of n near) × Clear n rows
unfolding held
held-graph n near rows k whole w = (
  graph_same n (row_has rows) near (λ i j l m. w.row i (omega arith) j ∙ rw (lt-ltb j n m)),
  record { past = λ i j l m. w.row i (omega arith) j ∙ rw (le-ltb j n m) },
)

module _ (n : ℕ) (rows merged : List (List ℕ)) (i j k : ℕ) (l : i < j) (h : j < n) (whole : n ≤ k) where
  pub held_after : RowsAre (near_after (row_has rows) i j) merged k → held n merged ≡ after_merge (held n rows) i j
  unfolding held after_merge
  held_after w =
      graph_same n (row_has merged) (near_after (joined (held n rows)) i j) same
      ∙ ap (λ (m : ℕ). graph_of m (near_after (joined (held n rows)) i j)) (sym (length-held n rows))
    where
      at : (x y : ℕ) → x < n → y < n → row_has rows x y ≡ joined (held n rows) x y
      at x y p q = sym (held-joined n rows x y p q)

      same : (a c : ℕ) → a < n → c < n → row_has merged a c ≡ near_after (joined (held n rows)) i j a c
      same a c p q =
          w.row a (omega arith) c
          ∙ near_same (row_has rows) (joined (held n rows)) i j a c (at i c (omega arith) q) (at j c h q) (at a i p (omega arith)) (at a j p h) (at a c p q)
