-- The nodes of registers and units: one entry more, and that their graphs are those of the definitions.
use Prim.Native.Nat.{ℕ, zero, suc, ◌+◌, ◌≤◌, ◌<◌}
use mathlib.Core.Bool.{true, false, ◌&&◌, and-true, and-false}
use mathlib.Core.Path.{◌≡◌, refl, sym, ap, ap₂, ◌∙◌}
use mathlib.Core.List.{List, map, [], ◌∷◌, ◌++◌, append-nil}
use Rattle.std.proofs.lemmas.List.{map-append}
use Rattle.ranges.specs.Counting.{count-le}
use native.Mathlib.Omega.{arith}
use lib.ListN.{get_or, length, length-map}
use Rattle.ranges.specs.Below.{count_below, keep_below, sum_below}
use lib.Dec.{eqb, leb}
use borrow.Author.Tests.{eq-eqb, ne_eqb, le-leb, lt-leb}
use Rattle.ranges.specs.Truth.{by_equal, by_order}
use Rattle.ranges.specs.Tables.{length-keep, keep-next, keep_same, keep-in, get_d_map}
use Rattle.reader.specs.KindLaws.{class-is}
use Rattle.reader.specs.Block.{operation, overlap, values, computes, step}
use Rattle.reader.specs.Binding.{may_share_unit}
use Rattle.reader.specs.StepsInUse.{asks-same-step}
use Rattle.reader.specs.Table.{entry_of}
use Rattle.reader.specs.declared.Entry.{Entry}
use Rattle.allocator.specs.Merging.{graph_of, merging}
use Rattle.allocator.specs.Words.{shared_digits, digit}
use Rattle.allocator.specs.Lives.{Lives, no_life}
use Rattle.allocator.specs.Nodes.{no_node, near_nodes, near_in}
use Rattle.allocator.specs.Placing.{Records, computes_at, unit_node_at, register_node}
use Rattle.allocator.specs.Allocation.{may_share_register, registers_by, computing, units_joined}
use Rattle.allocator.specs.declared.graphs.Node.{Node}
use Rattle.allocator.specs.declared.left_edge.Life.{Life}
use Rattle.allocator.proofs.HeldLaws.{graph_same}

-- ---- the graph of registers

pub no_steps : shared_digits 0 0 ≡ 0
unfolding shared_digits digit count_below sum_below
no_steps = refl

pub register-graph : (lives : List Life) (b : List ℕ) → Lives lives b
    → graph_of (length lives) (near_in (map register_node lives)) ≡ graph_of (length lives) (may_share_register b)
unfolding overlap
register-graph lives b L =
    graph_same (length lives) (near_in (map register_node lives)) (may_share_register b)
    (λ i j l m. rw (get_d_map register_node lives no_node no_life i l, get_d_map register_node lives no_node no_life j m, no_steps, L.born i l, L.born j m, L.ends i l, L.ends j m) (and-true _))

pub registers-merged : (m : ℕ) (b : List ℕ) → (m ≡ 0 → ⊥) → merging (graph_of (values b) (may_share_register b)) ≡ registers_by m b
unfolding registers_by
registers-merged zero b n = absurd (n refl)
registers-merged (suc m) b n = refl

-- ---- the nodes of operations, entry by entry

module _ (entries : List Entry) (k : ℕ) (nodes : List Node) where
  pub units-few : nodes ≡ map (unit_node_at entries) (keep_below k (computes_at entries)) → length nodes ≤ k
  units-few e = omega (arith, ap length e, length-map (keep_below k (computes_at entries)) (unit_node_at entries), length-keep k (computes_at entries), count-le k (computes_at entries))

  pub units-kept : (node : Node) → computes_at entries k ≡ true → node ≡ unit_node_at entries k → nodes ≡ map (unit_node_at entries) (keep_below k (computes_at entries))
      → nodes ++ node ∷ [] ≡ map (unit_node_at entries) (keep_below (k + 1) (computes_at entries))
  units-kept node t e h = rw (h, e, keep-next, t) (sym (map-append (unit_node_at entries) (keep_below k (computes_at entries)) (k ∷ [])))

  pub units-skipped : computes_at entries k ≡ false → nodes ≡ map (unit_node_at entries) (keep_below k (computes_at entries))
      → nodes ≡ map (unit_node_at entries) (keep_below (k + 1) (computes_at entries))
  units-skipped t h = h ∙ rw (keep-next, t, append-nil)

-- ---- the graph of units

both_ways : (s t : ℕ) → (leb s t && leb t s) ≡ eqb s t
both_ways s t =
    by_order s t
    (λ l. rw (lt-leb t s l, ne_eqb s t (λ e. omega arith)) (and-false (leb s t)))
    (λ l. by_equal s t (λ e. rw (le-leb s t (omega arith), le-leb t s (omega arith), eq-eqb s t e)) (λ n. rw (lt-leb s t (omega arith), ne_eqb s t n)))

module _ (entries : List Entry) (b : List ℕ) (R : Records entries b) where
  pub computes-same : (v : ℕ) → v < length entries → computes_at entries v ≡ computes b v
  unfolding entry_of
  computes-same v l = ap (λ (e : Entry). e.computes) (R.entry v l)

  units-near : (v w : ℕ) → v < length entries → w < length entries → computes b v ≡ true → computes b w ≡ true
      → near_nodes (unit_node_at entries v) (unit_node_at entries w) ≡ may_share_unit b v w
  unfolding entry_of may_share_unit
  units-near v w l m x y =
      let few : v < values b = omega (arith, R.all) in
      rw (R.entry v l, R.entry w m, class-is (operation b v), class-is (operation b w), no_steps, asks-same-step b v w few x y, both_ways (step b v) (step b w)) (and-true _)

  kept-computing : keep_below (length entries) (computes_at entries) ≡ computing b
  unfolding computing
  kept-computing = keep_same (length entries) (computes_at entries) (computes b) computes-same ∙ ap (λ (m : ℕ). keep_below m (computes b)) (sym R.all)

  module _ (nodes : List Node) (made : nodes ≡ map (unit_node_at entries) (keep_below (length entries) (computes_at entries))) where
    pub nodes-many : length nodes ≡ length (computing b)
    nodes-many = ap length made ∙ length-map (keep_below (length entries) (computes_at entries)) (unit_node_at entries) ∙ ap length kept-computing

    pub unit-graph : graph_of (length nodes) (near_in nodes) ≡ graph_of (length (computing b)) (units_joined b)
    unit-graph = graph_same (length nodes) (near_in nodes) (units_joined b) pair ∙ ap (λ (k : ℕ). graph_of k (units_joined b)) nodes-many
      where
        at : ℕ → ℕ
        at k = get_or (keep_below (length entries) (computes_at entries)) k 0

        node : (k : ℕ) → k < length nodes → (get_or nodes k no_node ≡ unit_node_at entries (at k)) × (at k < length entries) × (computes b (at k) ≡ true)
        node k l =
            let m : k < length (keep_below (length entries) (computes_at entries)) = omega (arith, nodes-many, ap length kept-computing) in
            let p = keep-in (length entries) (computes_at entries) k (omega (arith, length-keep (length entries) (computes_at entries))) in
            (ap (λ (x : List Node). get_or x k no_node) made ∙ get_d_map (unit_node_at entries) _ no_node 0 k m, p.0, sym (computes-same (at k) p.0) ∙ p.1)

        pair : (i j : ℕ) → i < length nodes → j < length nodes → near_in nodes i j ≡ units_joined b i j
        pair i j l m =
            let x = node i l in
            let y = node j m in
            ap₂ near_nodes x.0 y.0 ∙ units-near (at i) (at j) x.1 y.1 x.2 y.2
            ∙ ap (λ (c : List ℕ). may_share_unit b (get_or c i 0) (get_or c j 0)) kept-computing
