-- `registers` meets its contract: left edge, or the clusters of values that share no boundary.
use mathlib.Core.Path.{◌≡◌, sym, ap, ◌∙◌}
use mathlib.Core.List.{List}
use Prim.Native.Nat.{ℕ}
use lib.ListN.{get_or, length, length-map}
use borrow.Author.Rules.{rules}
use Rattle.allocator.specs.Merging.{merging, graph_of}
use Rattle.allocator.specs.Nodes.{near_in}
use Rattle.allocator.specs.Words.{leading}
use Rattle.allocator.specs.Allocation.{may_share_register, registers_by}
use Rattle.allocator.specs.Placing.{register_node}
use Rattle.allocator.specs.Methods.{method_number}
use native.Mathlib.Omega.{arith}
use Rattle.allocator.specs.declared.graphs.Node.{Node}
use Rattle.ranges.specs.Arrays.{made}
use Rattle.allocator.proofs.LeadingLaws.{leading-table}
use Rattle.allocator.proofs.SharingLaws.{register-graph, registers-merged}
use Rattle.allocator.proofs.sharing.registers.Goals as goal

pub returns-in-LeftEdge : goal.returns-in-LeftEdge
unfolding registers_by
returns-in-LeftEdge c = λ b L e. c.left_edge.ensures b L e ∙ ap (λ (m : ℕ). registers_by m b) (sym (ap method_number c.in-LeftEdge.is))

pub returns-in-Merging : goal.returns-in-Merging
returns-in-Merging c =
    let lives = c.args.lives.now in
    let n = length lives in
    let nodes_are = c.as_slice.ensures.value ∙ c.register_nodes-nodes.ensures in
    let many : length c.as_slice.result.now ≡ n = ap length nodes_are ∙ length-map lives register_node in
    let table = made _ 80 (λ v. get_or c.clusters-numbers.result v 0) _ (λ i y f l k. search rules) _ c.from_fn.ensures.items in
    λ b L e. leading-table 80 n c.clusters-numbers.result _ c.requires table
    ∙ ap (λ (k : ℕ). leading k c.clusters-numbers.result) (sym many) ∙ c.clusters-numbers.ensures
    ∙ ap merging (ap (λ (k : ℕ). graph_of k (near_in c.as_slice.result.now)) many ∙ ap (λ (nodes : List Node). graph_of n (near_in nodes)) nodes_are
    ∙ register-graph lives b L ∙ ap (λ (m : ℕ). graph_of m (may_share_register b)) (sym e))
    ∙ registers-merged (method_number c.args.method) b (λ z. omega (arith, sym (ap method_number c.in-Merging.is) ∙ z))
