use mathlib.Core.Path.{refl}
use Rattle.reader.proofs.Knows.{start}
use Rattle.reader.proofs.Turns.{carries-on, stops, all_sound}
use native.Mathlib.Omega.{arith}
use Rattle.reader.proofs.scanning.first_fault.Goals as goal

pub loop-i-init : goal.loop-i-init
loop-i-init c = rw c.nothing_learned-learned.ensures (start c.args.block.now)

pub returns-in-Err : goal.returns-in-Err
returns-in-Err c = let at = c.loop-i in stops c.args.block.now at.i at.learned at.invariant _ c.in-Err.ensures (omega arith) _ refl

pub loop-i-preserved : goal.loop-i-preserved
loop-i-preserved c = let at = c.loop-i in carries-on c.args.block.now at.i at.learned at.invariant _ c.in-Ok.ensures _ refl

pub returns : goal.returns
returns c = all_sound c.args.block.now c.loop-i.i c.loop-i.learned c.loop-i.invariant (omega arith)
