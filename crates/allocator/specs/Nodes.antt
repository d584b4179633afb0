-- Nodes of a graph by what decides the joining, and the graph they give.
-- Document 01, "Left edge and clique merging": values share no boundary, operations are of one class in different steps, connections are never used in the same step.
use Rattle.std.specs.Prelude.{ℕ, Bool, not, ◌&&◌, List, get_or, eqb, leb}
use Rattle.allocator.specs.Words.{shared_digits}
use Rattle.reader.specs.Kinds.{same_class}
use Rattle.reader.specs.declared.kinds.Class.TheVariants.{A}
use Rattle.allocator.specs.declared.graphs.Node.{Node}

abbrev pub no_node : Node
no_node = record { class = A; low = 0; high = 0; steps = 0 }

-- one class, no boundary from low to high in common, no step in common
abbrev pub near_nodes : Node → Node → Bool
near_nodes x y =
    same_class x.class y.class
    && not (leb x.low y.high && leb y.low x.high)
    && eqb (shared_digits x.steps y.steps) 0

abbrev pub near_in : List Node → ℕ → ℕ → Bool
near_in nodes i j = near_nodes (get_or nodes i no_node) (get_or nodes j no_node)
