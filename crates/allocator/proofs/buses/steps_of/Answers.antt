use mathlib.Core.Path.{sym, ap, ◌∙◌}
use Prim.Native.Nat.{◌%◌}
use mathlib.Core.Bool.{Bool, ◌&&◌, ◌||◌}
use lib.Dec.{eqb}
use Rattle.ranges.specs.Below.{any_below}
use Rattle.ranges.specs.Finding.{any_next}
use Rattle.allocator.specs.Links.{use_at, step_of, made_alike}
use Rattle.allocator.proofs.Digits.{digit-none}
use Rattle.allocator.proofs.buses.steps_of.Goals as goal

pub loop-y-init : goal.loop-y-init
unfolding any_below
loop-y-init c = record { step = λ k l. digit-none k }

pub loop-y-preserved : goal.loop-y-preserved
loop-y-preserved c =
    let x = c.args.x in
    let uses = c.args.uses.now in
    let at = c.loop-y in
    record {
      step = λ k l. c.with_step-steps.ensures k l
          ∙ ap (λ (t : Bool). t || (made_alike uses x at.y-index && eqb k (step_of (use_at uses at.y-index) % 64))) (at.invariant.step k l)
          ∙ sym (any_next at.y-index (λ u. made_alike uses x u && eqb k (step_of (use_at uses u) % 64)));
    }
