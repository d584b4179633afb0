-- The allocator's binding: registers, then units, then buses.
-- Document 01, "Left edge and clique merging".
use Rattle.std.specs.Prelude.{ℕ, zero, suc, ◌+◌, ◌*◌, ◌/◌, ◌%◌, Bool, cond, not, ◌&&◌, List, [], ◌∷◌, length, get_or}
use Rattle.ranges.specs.Below.{count_below, any_below, first_below, keep_below, rows}
use Rattle.reader.specs.Block.{computes, values, overlap}
use Rattle.reader.specs.Binding.{register, unit, makes_use, used_in, some_step, may_share_unit, same_connection}
use Rattle.allocator.specs.LeftEdge.{left_edge}
use Rattle.allocator.specs.Merging.{graph_of, merging}

-- ---- registers: method 0 is left edge, method 1 merges values that share no boundary

abbrev pub may_share_register : List ℕ → ℕ → ℕ → Bool
may_share_register b v w = not (overlap b v w)

unfoldable pub registers_by : ℕ → List ℕ → List ℕ
registers_by zero b = left_edge b
registers_by (suc m) b = merging (graph_of (values b) (may_share_register b))

-- ---- units: operations 3 to 8 of one class in different steps are joined, nodes in record order

unfoldable pub computing : List ℕ → List ℕ
computing b = keep_below (values b) (computes b)

-- the operations at the nodes i and j may share a unit
abbrev pub units_joined : List ℕ → ℕ → ℕ → Bool
units_joined b i j = may_share_unit b (get_or (computing b) i 0) (get_or (computing b) j 0)

unfoldable pub unit_numbers : List ℕ → List ℕ
unit_numbers b = merging (graph_of (length (computing b)) (units_joined b))

-- the unit of v, where us has that of each node
unfoldable pub unit_of : List ℕ → List ℕ → ℕ → ℕ
unit_of b us v = cond (computes b v) (get_or us (count_below v (computes b)) 0) 255

-- ---- the binding with registers and units fixed and no bus yet

unfoldable pub placed_record : List ℕ → List ℕ → List ℕ → ℕ → List ℕ
placed_record b rs us v = v ∷ get_or rs v 0 ∷ unit_of b us v ∷ 255 ∷ 255 ∷ 255 ∷ 0 ∷ 0 ∷ []

unfoldable pub placed : List ℕ → ℕ → List ℕ
placed b m = rows (values b) (placed_record b (registers_by m b) (unit_numbers b))

-- ---- buses: connections never used in the same step are joined, nodes in order of first use

-- the uses are numbered in the order in which they are made: 3 * operation + place
abbrev pub is_use : List ℕ → ℕ → Bool
is_use b u = makes_use b (u / 3) (u % 3)

-- two uses are of one connection
abbrev pub alike : List ℕ → List ℕ → ℕ → ℕ → Bool
alike b d u v = same_connection b d (u / 3) (u % 3) (v / 3) (v % 3)

-- no earlier use has the connection of u
abbrev pub is_first_use : List ℕ → List ℕ → ℕ → Bool
is_first_use b d u = is_use b u && not (any_below u (λ v. is_use b v && alike b d v u))

-- each connection by its first use
unfoldable pub first_uses : List ℕ → List ℕ → List ℕ
first_uses b d = keep_below (3 * values b) (is_first_use b d)

-- the connection of the use u is used in the step k
unfoldable pub connection_in : List ℕ → List ℕ → ℕ → ℕ → Bool
connection_in b d u k = any_below (3 * values b) (λ x. used_in b (x / 3) (x % 3) k && alike b d x u)

-- the connections of the uses u and v are joined: no step uses both
unfoldable pub connections_joined : List ℕ → List ℕ → ℕ → ℕ → Bool
connections_joined b d u v = not (some_step b (connection_in b d u) (connection_in b d v))

abbrev pub buses_joined : List ℕ → List ℕ → ℕ → ℕ → Bool
buses_joined b d i j = connections_joined b d (get_or (first_uses b d) i 0) (get_or (first_uses b d) j 0)

unfoldable pub bus_numbers : List ℕ → List ℕ → List ℕ
bus_numbers b d = merging (graph_of (length (first_uses b d)) (buses_joined b d))

-- the node of the connection of the use u
unfoldable pub node_of : List ℕ → List ℕ → ℕ → ℕ
node_of b d u = first_below (length (first_uses b d)) (λ i. alike b d (get_or (first_uses b d) i 0) u)

-- the bus of the use at p of v, where bs has that of each node
unfoldable pub bus_of : List ℕ → List ℕ → List ℕ → ℕ → ℕ → ℕ
bus_of b d bs v p = cond (makes_use b v p) (get_or bs (node_of b d (3 * v + p)) 0) 255

-- ---- the whole binding

unfoldable pub bound_record : List ℕ → List ℕ → List ℕ → ℕ → List ℕ
bound_record b d bs v = v ∷ register d v ∷ unit d v ∷ bus_of b d bs v 0 ∷ bus_of b d bs v 1 ∷ bus_of b d bs v 2 ∷ 0 ∷ 0 ∷ []

-- d, which has registers and units, with the buses
unfoldable pub bound : List ℕ → List ℕ → List ℕ
bound b d = rows (values b) (bound_record b d (bus_numbers b d))

-- the binding of the block b by the method m
unfoldable pub binding_by : ℕ → List ℕ → List ℕ
binding_by m b = bound b (placed b m)
