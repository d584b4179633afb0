-- `bus` meets its contract: a use whose connection is not listed has 255.
use native.Mathlib.Omega.{arith}
use mathlib.Core.Path.{sym, ap, ◌∙◌}
use Prim.Native.Nat.{ℕ}
use lib.ListN.{get_or, length}
use borrow.Author.Tests.{ltb-true}
use Rattle.allocator.specs.Links.{node_in, bus_in}
use Rattle.allocator.proofs.LinkLaws.{found-some, found-no, firsts-few}
use Rattle.allocator.proofs.buses.Connections.bus.Goals as goal

pub bounds-numbers-i : goal.bounds-numbers-i
bounds-numbers-i c =
    let own = c.args.self.now in
    let uses = own.uses.now in
    let firsts = own.firsts.items in
    let found = found-some uses firsts c.args.x c.in-Some.i (sym c.in-Some.is ∙ c.node_of.ensures) in
    omega (arith, found.0, ltb-true (node_in uses firsts c.args.x) (length firsts) found.1, firsts-few uses (length uses) firsts own.listed, own.few)

pub returns-in-Some : goal.returns-in-Some
unfolding bus_in node_in
returns-in-Some c =
    let own = c.args.self.now in
    let found = found-some own.uses.now own.firsts.items c.args.x c.in-Some.i (sym c.in-Some.is ∙ c.node_of.ensures) in
    rw found.1 (ap (λ (k : ℕ). get_or c.args.numbers k 0) found.0)

pub returns-in-None : goal.returns-in-None
unfolding bus_in
returns-in-None c =
    let own = c.args.self.now in
    rw (found-no own.uses.now own.firsts.items c.args.x (sym c.in-None.is ∙ c.node_of.ensures))
