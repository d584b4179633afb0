-- `buses` meets its contract: each use has the bus of its connection.
use mathlib.Core.Path.{sym, subst}
use mathlib.Core.List.{List}
use Rattle.std.specs.Prelude.{Option}
use Rattle.reader.specs.declared.Use.{Use}
use Rattle.allocator.specs.Links.{Uses}
use Rattle.allocator.proofs.WritingLaws.{all-bused}
use Rattle.allocator.proofs.buses.buses.Goals as goal

pub returns : goal.returns
returns c =
    let own = c.new-connections.result in
    let e = sym c.new-connections.ensures in
    λ b d U. let V = subst (λ (x : List (Option Use)). Uses x b d) e U in
    all-bused own.uses.now b d own.firsts.items c.numbers.result _ V own.listed (c.numbers.ensures b d V) c.buses.ensures
