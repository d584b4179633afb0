-- Connections from a table of uses: which uses are first, the steps of each connection, and the bus of each use.
-- Document 01, "Left edge and clique merging": buses join connections never used in the same step, nodes in order of first use.
use Rattle.std.specs.Prelude.{ℕ, ◌*◌, ◌/◌, ◌%◌, ◌≤◌, ◌<◌, Bool, false, cond, not, ◌&&◌, ◌≡◌, List, length, get_or, eqb, ltb, Option, Some, None, is_some}
use Rattle.ranges.specs.Below.{any_below, first_below}
use Rattle.reader.specs.Block.{values}
use Rattle.reader.specs.Readability.{Read}
use Rattle.reader.specs.Binding.{same_source, same_sink}
use Rattle.reader.specs.UseLaws.{use_by}
use Rattle.reader.specs.declared.Use.{Use}
use Rattle.allocator.specs.Words.{digit}
use Rattle.allocator.specs.Nodes.{no_node}
use Rattle.reader.specs.declared.kinds.Class.TheVariants.{A}
use Rattle.allocator.specs.declared.graphs.Node.{Node}

abbrev pub use_at : List (Option Use) → ℕ → Option Use
use_at uses u = get_or uses u None

-- the uses of the table are those of the block b, whose registers and units stand in d
pub record Uses (uses : List (Option Use)) (b d : List ℕ) : Type 0 where
  pub readable : Read b
  pub all : 3 * values b ≡ length uses
  pub few : length uses ≤ 240
  pub each : (u : ℕ) → u < length uses → use_at uses u ≡ use_by b d (u / 3) (u % 3)

-- both uses are made and have one connection: one source, one sink
abbrev pub same_use : Option Use → Option Use → Bool
same_use None y = false
same_use (Some x) None = false
same_use (Some x) (Some y) = same_source x.source y.source && same_sink x.sink y.sink

abbrev pub step_of : Option Use → ℕ
step_of None = 0
step_of (Some x) = x.step

-- the use v has the connection of x
abbrev pub made_alike : List (Option Use) → Option Use → ℕ → Bool
made_alike uses x v = same_use (use_at uses v) x

-- the use x is made, and no earlier use has its connection
unfoldable pub first_at : List (Option Use) → Option Use → Bool
first_at earlier x = is_some x && not (any_below (length earlier) (made_alike earlier x))

-- the use u is made, and no earlier use has its connection
unfoldable pub first_in : List (Option Use) → ℕ → Bool
first_in uses u = is_some (use_at uses u) && not (any_below u (made_alike uses (use_at uses u)))

-- the digits of steps tell the steps of the first n uses that have the connection of x
pub record Steps (uses : List (Option Use)) (n : ℕ) (x : Option Use) (steps : ℕ) : Type 0 where
  pub step : (k : ℕ) → k < 64 → digit steps k ≡ any_below n (λ u. made_alike uses x u && eqb k (step_of (use_at uses u) % 64))

-- a connection: no interval, and its steps
abbrev pub bus_node : ℕ → Node
bus_node steps = record { class = A; low = 1; high = 0; steps = steps }

-- the nodes are those of the first count connections, whose first uses the list has
pub record Nodes (uses : List (Option Use)) (firsts : List ℕ) (count : ℕ) (nodes : List Node) : Type 0 where
  pub many : length nodes ≡ count
  pub node : (i : ℕ) → i < count → (steps : ℕ) × (get_or nodes i no_node ≡ bus_node steps) × Steps uses (length uses) (use_at uses (get_or firsts i 0)) steps

-- the node of the connection of x
unfoldable pub node_in : List (Option Use) → List ℕ → Option Use → ℕ
node_in uses firsts x = first_below (length firsts) (λ i. same_use (use_at uses (get_or firsts i 0)) x)

-- that node, where there is one
unfoldable pub found_in : List (Option Use) → List ℕ → Option Use → Option ℕ
found_in uses firsts x = cond (ltb (node_in uses firsts x) (length firsts)) (Some (node_in uses firsts x)) None

-- the bus of the use x, 255 where it is not made
unfoldable pub bus_in : List (Option Use) → List ℕ → List ℕ → Option Use → ℕ
bus_in uses firsts numbers x = cond (ltb (node_in uses firsts x) (length firsts)) (get_or numbers (node_in uses firsts x) 0) 255
