-- Registers and units from the entries of a table: the nodes of their graphs, and what each value gets.
-- Document 01, "Left edge and clique merging".
use Rattle.std.specs.Prelude.{ℕ, ◌<◌, Bool, cond, ◌≡◌, List, length, get_or}
use Rattle.ranges.specs.Below.{count_below}
use Rattle.reader.specs.Block.{values}
use Rattle.reader.specs.Readability.{Read}
use Rattle.reader.specs.Table.{no_entry, entry_of}
use Rattle.reader.specs.declared.kinds.Class.TheVariants.{A}
use Rattle.reader.specs.declared.Entry.{Entry}
use Rattle.reader.specs.declared.Place.{Place}
use Rattle.allocator.specs.declared.graphs.Node.{Node}
use Rattle.allocator.specs.declared.left_edge.Life.{Life}

-- the entries are those of the values of the readable block b
pub record Records (entries : List Entry) (b : List ℕ) : Type 0 where
  pub readable : Read b
  pub all : values b ≡ length entries
  pub entry : (v : ℕ) → v < length entries → get_or entries v no_entry ≡ entry_of b v

-- the life of the value v, from the tables of entries and of last boundaries
abbrev pub life_in : List Entry → List ℕ → ℕ → Life
life_in entries lasts v = record { birth = (get_or entries v no_entry).birth; last = get_or lasts v 0 }

-- a value lives from its birth to its last boundary, an operation asks for its unit in its step
abbrev pub register_node : Life → Node
register_node life = record { class = A; low = life.birth; high = life.last; steps = 0 }

abbrev pub unit_node : Entry → Node
unit_node e = record { class = e.class; low = e.step; high = e.step; steps = 0 }

abbrev pub unit_node_at : List Entry → ℕ → Node
unit_node_at entries v = unit_node (get_or entries v no_entry)

-- the entry v is one of the operations 3 to 8
abbrev pub computes_at : List Entry → ℕ → Bool
computes_at entries v = (get_or entries v no_entry).computes

-- the place of a value that has its register and, where it computes, the unit of its node; no bus yet
abbrev pub place_in : Entry → ℕ → ℕ → Place
place_in e register unit = record { register = register; unit = cond e.computes unit 255; left = 255; right = 255; result = 255 }

-- the place of the value v, from the tables of registers and of the nodes' units
unfoldable pub place_at : List Entry → List ℕ → List ℕ → ℕ → Place
place_at entries registers units v =
    place_in (get_or entries v no_entry) (get_or registers v 0) (get_or units (count_below v (computes_at entries)) 0)
