-- `bused` meets its contract: each use has the bus of its connection.
use mathlib.Core.Path.{refl}
use Rattle.std.proofs.Common.{rules}
use Rattle.ranges.specs.Arrays.{made}
use Rattle.allocator.proofs.WritingLaws.{shown-uses}
use Rattle.allocator.proofs.bused.Goals as goal

pub returns : goal.returns
returns c =
    λ b d S P. c.buses.ensures b d
    (shown-uses c.args.t b S d _ _ _ _ P c.uses-uses.ensures (made _ 240 _ _ (λ i y q l k. search rules) _ c.from_fn-made.ensures.items) refl)
