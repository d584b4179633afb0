-- Joined pairs as words: four 64-bit words hold the row of a node, and the rows of n nodes hold a graph.
-- Document 01, "Left edge and clique merging".
use Rattle.std.specs.Prelude.{ℕ, ◌/◌, ◌%◌, ◌^◌, ◌≤◌, ◌<◌, Bool, false, ◌&&◌, ◌≡◌, List, [], get_or, eqb}
use Rattle.ranges.specs.Below.{count_below, tabulate}
use Rattle.allocator.specs.Merging.{Graph, graph_of}

-- the binary digit k of x is set
unfoldable pub digit : ℕ → ℕ → Bool
digit x k = eqb (x / 2 ^ k % 2) 1

-- a row has the node k
unfoldable pub bit_of : List ℕ → ℕ → Bool
bit_of row k = digit (get_or row (k / 64) 0) (k % 64)

-- how many digits two words share, how many nodes two rows share
unfoldable pub shared_digits : ℕ → ℕ → ℕ
shared_digits x y = count_below 64 (λ k. digit x k && digit y k)

unfoldable pub shared_bits : List ℕ → List ℕ → ℕ
shared_bits a b = count_below 256 (λ k. bit_of a k && bit_of b k)

-- the row of i has the node j
abbrev pub row_has : List (List ℕ) → ℕ → ℕ → Bool
row_has rows i j = bit_of (get_or rows i []) j

-- the graph of n nodes that the rows hold
unfoldable pub held : ℕ → List (List ℕ) → Graph
held n rows = graph_of n (row_has rows)

-- the rows of the n nodes have no other node
pub record Clear (n : ℕ) (rows : List (List ℕ)) : Type 0 where
  pub past : (i j : ℕ) → i < n → n ≤ j → row_has rows i j ≡ false

-- the first n numbers of a list
unfoldable pub leading : ℕ → List ℕ → List ℕ
leading n l = tabulate n (λ k. get_or l k 0)

-- each of them is below n
pub record Under (n : ℕ) (l : List ℕ) : Type 0 where
  pub below : (k : ℕ) → k < n → get_or l k 0 < n
