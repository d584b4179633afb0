-- The choice kept with its common neighbours: what it stands for, and what one more pair makes of it.
-- Document 01, "Left edge and clique merging": the first with most common neighbours.
use Prim.Native.Nat.{ℕ, zero, suc, ◌+◌, ◌≤◌, ◌<◌}
use Rattle.std.specs.Prelude.{true, false, ◌≡◌, length, ltb, Option, Some, None}
use Rattle.std.proofs.Math.Path.{refl}
use Rattle.std.proofs.Common.{arith, sym, lt-ltb, le-ltb}
use Rattle.std.proofs.Math.Numerals.{add-one}
use Rattle.ranges.specs.Truth.{both, by-test}
use Rattle.allocator.specs.declared.merging.Best.{Best}
use Rattle.allocator.specs.declared.merging.Edge.{Edge}
use Rattle.allocator.specs.Merging.{Graph, joined, common_neighbours, pair, scan_pair, scan_row, scan_rows}

-- the edge that is kept
abbrev pub edge_of : Option Best → Option Edge
edge_of None = None
edge_of (Some b) = Some b.edge

-- what is found takes the place of what was kept
abbrev pub or_else : Option Best → Option Best → Option Best
or_else None kept = kept
or_else (Some b) kept = Some b

-- it is kept with its common neighbours in the graph
abbrev pub Weighed : Graph → Option Best → Type 0
Weighed g None = Unit {0}
Weighed g (Some b) = b.common ≡ common_neighbours g b.edge.smaller b.edge.larger

pub or-else-weighed : (g : Graph) (found kept : Option Best) → Weighed g found → Weighed g kept → Weighed g (or_else found kept)
or-else-weighed g None kept f k = k
or-else-weighed g (Some b) kept f k = f

-- ---- one more pair

module _ (g : Graph) (i j : ℕ) where
  pub weigh-skip : (c : Option Edge) → joined g i j ≡ false → c ≡ scan_pair g i j c
  weigh-skip c e = sym (by-test (ltb i j) (λ t. rw (t, e)) (λ t. rw t))

  module _ (l : i < j) (t : joined g i j ≡ true) where
    pub weigh-first : Some (pair i j) ≡ scan_pair g i j None
    weigh-first = sym (rw (both (lt-ltb i j l) t))

    module _ (x : Edge) where
      pub weigh-keep : common_neighbours g i j ≤ common_neighbours g x.smaller x.larger → Some x ≡ scan_pair g i j (Some x)
      weigh-keep h = sym (rw (both (lt-ltb i j l) t, le-ltb (common_neighbours g x.smaller x.larger) (common_neighbours g i j) h))

      pub weigh-take : common_neighbours g x.smaller x.larger < common_neighbours g i j → Some (pair i j) ≡ scan_pair g i j (Some x)
      weigh-take h = sym (rw (both (lt-ltb i j l) t, lt-ltb (common_neighbours g x.smaller x.larger) (common_neighbours g i j) h))

  -- ---- row by row

  pub scan-next : (c : Option Edge) → scan_row g i c (j + 1) ≡ scan_pair g i j (scan_row g i c j)
  unfolding scan_row
  scan-next c = rw add-one

module _ (g : Graph) (i : ℕ) where
  up_to : (c : Option Edge) (k : ℕ) → k ≤ suc i → scan_row g i c k ≡ c
  unfolding scan_row
  up_to c zero h = refl
  up_to c (suc k) h = rw (le-ltb i k (omega arith)) (up_to c k (omega arith))

  -- the nodes up to i are no larger ones
  pub scan-low : (c : Option Edge) → scan_row g i c (i + 1) ≡ c
  scan-low c = up_to c (i + 1) (omega arith)

  -- a whole row
  pub scan-row : (n : ℕ) → length g ≡ n → scan_row g i (scan_rows g i) n ≡ scan_rows g (i + 1)
  unfolding scan_rows
  scan-row n e = rw (add-one, e)
