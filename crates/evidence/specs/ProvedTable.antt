-- The proved table: one list of the cases C1 to C11, and one theorem that every case of the list is right, by computation.
-- Document 01, "Proved table", "Block E, whole".
use Rattle.std.specs.Prelude.{ℕ, ◌+◌, ◌*◌, Bool, true, false, ◌&&◌, ◌≡◌, refl, List, [], ◌∷◌, ◌++◌, length, set, replicate, eqb}
use Rattle.ranges.specs.Below.{sum_below, count_below, any_below, all_below, largest_below, first_from, first_below, first_nonzero, tabulate, keep_below, rows}
use Rattle.reader.specs.Block.{birth, is_latest, has_value, value_for, kind_fault, order_fault, range_fault, unused_fault, twice_fault, missing_fault, fault, values, incoming, outgoing, last_step, first_fault, reading, reads, sends, last, overlap}
use Rattle.reader.specs.Binding.{used_in, asks_in, written_in, some_step, clash, class_of, may_share_unit, source_of, sink_of, same_connection, fields_right, record_fault, place_fault, first_place_fault, formed}
use Rattle.runner.specs.BlockRun.{result, word_from, words, word_of, sent_words}
use Rattle.runner.specs.DatapathRun.{by_count, uses_on, carried, given, arriving, register_after, register_at_entry, file_at, held_at, taken_words}
use Rattle.runner.specs.Answers.{counted, ran_block, outgoing_after_block, ran_datapath, outgoing_after_datapath}
use Rattle.runner.specs.Numbers.{Ran}
use Rattle.checker.specs.Rules.{breaks16, breaks17, breaks18, breaks19, later_of, earlier_of, first_pair, or_broken, registers_used, units_used, buses_used, verdict}
use Rattle.allocator.specs.LeftEdge.{precedes, inserted, sorted_values, taken, remaining, with_register, passes, left_edge}
use Rattle.allocator.specs.Merging.{Graph, graph_of, common_neighbours, after_merge, scan_row, scan_rows, most_common, heads_after, heads_by, numbered, clusters, merging}
use Rattle.allocator.specs.Allocation.{registers_by, computing, unit_numbers, unit_of, placed_record, placed, first_uses, connection_in, connections_joined, bus_numbers, node_of, bus_of, bound_record, bound, binding_by}
use Rattle.allocator.specs.Answer.{allocated, room_after}
use Rattle.evidence.specs.RunAccepted.{ran_accepted, outgoing_after_accepted}

-- ---- what a case says

pub data Case : Type 0 where
  -- the reader's number, first record, second record, values and T
  is_read : List ℕ → List ℕ → Case
  -- the births and the last boundaries of a block's values
  lives : List ℕ → List ℕ → List ℕ → Case
  -- left edge's binding of a block, which the allocator writes whole, and no byte more
  is_bound : List ℕ → List ℕ → Case
  -- the checker's number, later record, earlier record, registers, units and buses
  is_judged : List ℕ → List ℕ → List ℕ → Case
  -- the outgoing words of a block and a binding for the incoming words, by both runners
  runs : List ℕ → List ℕ → List ℕ → List ℕ → Case
  -- the clusters of a graph
  merges : Graph → List ℕ → Case
  -- how many registers left edge takes
  takes : List ℕ → ℕ → Case

abbrev same : List ℕ → List ℕ → Bool
same [] [] = true
same [] (y ∷ ys) = false
same (x ∷ xs) [] = false
same (x ∷ xs) (y ∷ ys) = eqb x y && same xs ys

-- a run that is done, with so many words written
abbrev ended : Ran → ℕ → Bool
ended r n = eqb r.number 0 && eqb r.first 0 && eqb r.second 0 && eqb r.written n

-- room for outgoing words, and the registers at power-up
abbrev room : List ℕ → List ℕ
room sent = replicate (length sent) 7

abbrev power_up : List ℕ
power_up = replicate 80 9

abbrev pub right : Case → Bool
right (is_read b answer) = same ((reading b).number ∷ (reading b).first ∷ (reading b).second ∷ (reading b).values ∷ (reading b).last_step ∷ []) answer
right (lives b births lasts) = same (tabulate (values b) (birth b)) births && same (tabulate (values b) (last b)) lasts
right (is_bound b d) =
    same (binding_by 0 b) d
    && same (room_after b 0 (replicate (length d) 7 ++ (3 ∷ 4 ∷ []))) (d ++ (3 ∷ 4 ∷ []))
    && eqb (allocated b 0 (length d)).number 0
    && eqb (allocated b 0 (length d)).written (length d)
right (is_judged b d answer) =
    same
    ((verdict b d).number ∷ (verdict b d).later ∷ (verdict b d).earlier ∷ (verdict b d).registers ∷ (verdict b d).units ∷ (verdict b d).buses ∷ [])
    answer
right (runs b d w sent) =
    ended (ran_block b w (room sent)) (length sent)
    && same (outgoing_after_block b w (room sent)) sent
    && ended (ran_datapath b d w (room sent) power_up) (length sent)
    && same (outgoing_after_datapath b d w (room sent) power_up) sent
    && ended (ran_accepted b d w (room sent) power_up) (length sent)
    && same (outgoing_after_accepted b d w (room sent) power_up) sent
right (merges g numbers) = same (merging g) numbers
right (takes b n) = eqb (verdict b (binding_by 0 b)).registers n

abbrev pub all_right : List Case → Bool
all_right [] = true
all_right (c ∷ cs) = right c && all_right cs

-- ---- the blocks, the binding and the graph

-- block E
abbrev pub E : List ℕ
E =
    1 ∷ 0 ∷ 0 ∷ 1 ∷ 0 ∷ 0 ∷ 0 ∷ 0
    ∷ 1 ∷ 0 ∷ 0 ∷ 2 ∷ 0 ∷ 0 ∷ 0 ∷ 0
    ∷ 2 ∷ 1 ∷ 3 ∷ 3 ∷ 1 ∷ 2 ∷ 0 ∷ 0
    ∷ 2 ∷ 1 ∷ 1 ∷ 4 ∷ 1 ∷ 0 ∷ 0 ∷ 0
    ∷ 2 ∷ 2 ∷ 4 ∷ 1 ∷ 3 ∷ 2 ∷ 0 ∷ 0
    ∷ 2 ∷ 2 ∷ 5 ∷ 5 ∷ 3 ∷ 4 ∷ 0 ∷ 0
    ∷ 2 ∷ 3 ∷ 3 ∷ 6 ∷ 1 ∷ 5 ∷ 0 ∷ 0
    ∷ 3 ∷ 0 ∷ 0 ∷ 6 ∷ 0 ∷ 0 ∷ 0 ∷ 0
    ∷ []

-- E's binding as listed
abbrev pub bound_e : List ℕ
bound_e =
    0 ∷ 1 ∷ 255 ∷ 255 ∷ 255 ∷ 255 ∷ 0 ∷ 0
    ∷ 1 ∷ 0 ∷ 255 ∷ 255 ∷ 255 ∷ 255 ∷ 0 ∷ 0
    ∷ 2 ∷ 1 ∷ 0 ∷ 0 ∷ 1 ∷ 2 ∷ 0 ∷ 0
    ∷ 3 ∷ 2 ∷ 255 ∷ 3 ∷ 255 ∷ 255 ∷ 0 ∷ 0
    ∷ 4 ∷ 0 ∷ 0 ∷ 0 ∷ 1 ∷ 4 ∷ 0 ∷ 0
    ∷ 5 ∷ 1 ∷ 1 ∷ 2 ∷ 3 ∷ 5 ∷ 0 ∷ 0
    ∷ 6 ∷ 0 ∷ 0 ∷ 2 ∷ 3 ∷ 4 ∷ 0 ∷ 0
    ∷ []

-- E's binding with x as the byte k of the value v
abbrev changed : ℕ → ℕ → ℕ → List ℕ
changed v k x = set bound_e (8 * v + k) x

-- nodes 0 to 3 with edges 01, 02, 13
abbrev pub graph5 : Graph
graph5 =
    (false ∷ true ∷ true ∷ false ∷ [])
    ∷ (true ∷ false ∷ false ∷ true ∷ [])
    ∷ (true ∷ false ∷ false ∷ false ∷ [])
    ∷ (false ∷ true ∷ false ∷ false ∷ [])
    ∷ []

-- incoming 1, then in step 1 moves 2 from 1 and 3 from 2
abbrev pub block10 : List ℕ
block10 =
    1 ∷ 0 ∷ 0 ∷ 1 ∷ 0 ∷ 0 ∷ 0 ∷ 0
    ∷ 2 ∷ 1 ∷ 1 ∷ 2 ∷ 1 ∷ 0 ∷ 0 ∷ 0
    ∷ 2 ∷ 1 ∷ 1 ∷ 3 ∷ 2 ∷ 0 ∷ 0 ∷ 0
    ∷ []

-- incoming 1, in step 1 constant 9 to 2 and move 1 to 3, outgoing 3
abbrev pub block11 : List ℕ
block11 =
    1 ∷ 0 ∷ 0 ∷ 1 ∷ 0 ∷ 0 ∷ 0 ∷ 0
    ∷ 2 ∷ 1 ∷ 2 ∷ 2 ∷ 0 ∷ 0 ∷ 9 ∷ 0
    ∷ 2 ∷ 1 ∷ 1 ∷ 3 ∷ 1 ∷ 0 ∷ 0 ∷ 0
    ∷ 3 ∷ 0 ∷ 0 ∷ 3 ∷ 0 ∷ 0 ∷ 0 ∷ 0
    ∷ []

-- ---- the table

abbrev pub cases : List Case
cases =
    -- C1: empty block, no values, counts 0
    is_read [] (0 ∷ 0 ∷ 0 ∷ 0 ∷ 0 ∷ [])
    ∷ is_bound [] []
    ∷ is_judged [] [] (0 ∷ 0 ∷ 0 ∷ 0 ∷ 0 ∷ 0 ∷ [])
    -- C2: E's boundaries
    ∷ is_read E (0 ∷ 0 ∷ 0 ∷ 7 ∷ 3 ∷ [])
    ∷ lives E (0 ∷ 0 ∷ 1 ∷ 1 ∷ 2 ∷ 2 ∷ 3 ∷ []) (0 ∷ 1 ∷ 1 ∷ 1 ∷ 2 ∷ 2 ∷ 3 ∷ [])
    -- C3: E's binding as listed, and its counts
    ∷ is_bound E bound_e
    ∷ is_judged E bound_e (0 ∷ 0 ∷ 0 ∷ 3 ∷ 2 ∷ 6 ∷ [])
    -- C4: E on 5, 7 and on 65535, 2
    ∷ runs E bound_e (5 ∷ 7 ∷ []) (65 ∷ [])
    ∷ runs E bound_e (65535 ∷ 2 ∷ []) (65534 ∷ [])
    -- C5: clusters {0,1}, {2}, {3}
    ∷ merges graph5 (0 ∷ 0 ∷ 1 ∷ 2 ∷ [])
    -- C6: value 3 in register 1
    ∷ is_judged E (changed 3 1 1) (16 ∷ 3 ∷ 2 ∷ 0 ∷ 0 ∷ 0 ∷ [])
    -- C7: value 4 on unit 1
    ∷ is_judged E (changed 4 2 1) (17 ∷ 5 ∷ 4 ∷ 0 ∷ 0 ∷ 0 ∷ [])
    -- C8: value 2's right bus 0
    ∷ is_judged E (changed 2 4 0) (18 ∷ 2 ∷ 2 ∷ 0 ∷ 0 ∷ 0 ∷ [])
    -- C9: value 4's left bus 6
    ∷ is_judged E (changed 4 3 6) (19 ∷ 4 ∷ 2 ∷ 0 ∷ 0 ∷ 0 ∷ [])
    -- C10: 8 at record 2
    ∷ is_read block10 (8 ∷ 2 ∷ 2 ∷ 0 ∷ 0 ∷ [])
    -- C11: two registers, though the constant is never read
    ∷ lives block11 (0 ∷ 1 ∷ 1 ∷ []) (0 ∷ 1 ∷ 1 ∷ [])
    ∷ takes block11 2
    ∷ []

pub proved-table : all_right cases ≡ true
unfolding sum_below count_below any_below all_below largest_below first_from first_below first_nonzero tabulate keep_below rows birth is_latest has_value value_for kind_fault order_fault range_fault unused_fault twice_fault missing_fault fault values incoming outgoing last_step first_fault reading reads sends last overlap used_in asks_in written_in some_step clash class_of may_share_unit source_of sink_of same_connection fields_right record_fault place_fault first_place_fault formed result word_from words word_of sent_words by_count uses_on carried given arriving register_after register_at_entry file_at held_at taken_words counted ran_block outgoing_after_block ran_datapath outgoing_after_datapath ran_accepted outgoing_after_accepted breaks16 breaks17 breaks18 breaks19 later_of earlier_of first_pair or_broken registers_used units_used buses_used verdict precedes inserted sorted_values taken remaining with_register passes left_edge graph_of common_neighbours after_merge scan_row scan_rows most_common heads_after heads_by numbered clusters merging registers_by computing unit_numbers unit_of placed_record placed first_uses connection_in connections_joined bus_numbers node_of bus_of bound_record bound binding_by allocated room_after
proved-table = refl
