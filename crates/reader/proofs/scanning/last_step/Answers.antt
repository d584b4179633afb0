use Prim.Native.Nat.{ℕ, max}
use mathlib.Core.Path.{◌≡◌, refl, sym, ap, ap₂, ◌∙◌}
use Rattle.ranges.specs.Below.{largest_below}
use Rattle.ranges.specs.Finding.{largest-next}
use Rattle.reader.specs.declared.Record.{Record}
use Rattle.reader.specs.Records.{record_of}
use Rattle.reader.specs.Block.{records, birth, last_step}
use native.Mathlib.Omega.{arith}
use Rattle.reader.proofs.scanning.last_step.Goals as goal

pub loop-i-init : goal.loop-i-init
unfolding largest_below
loop-i-init c = refl

pub loop-i-preserved : goal.loop-i-preserved
unfolding record_of
loop-i-preserved c = let at = c.loop-i in c.max-last.ensures ∙ ap₂ max at.invariant (ap (λ (x : Record). x.birth) c.record_of.ensures) ∙ sym (largest-next at.i (birth c.args.block.now))

pub returns : goal.returns
unfolding last_step
returns c = let b = c.args.block.now in let e : c.loop-i.i ≡ records b = omega arith in c.loop-i.invariant ∙ ap (λ (k : ℕ). largest_below k (birth b)) e
