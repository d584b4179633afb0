use Rattle.std.specs.Prelude.{Some, None}
use Rattle.std.proofs.Common.{arith}
use Rattle.reader.proofs.Highest.{none_yet, turn, ended}
use Rattle.reader.proofs.sources.value_for.Goals as goal

pub loop-i-init : goal.loop-i-init
loop-i-init c = record { bound = omega arith; highest = λ b N. none_yet b c.args.s c.args.n }

pub loop-i-preserved : goal.loop-i-preserved
loop-i-preserved c = turn _ _ _ c.loop-i.i c.loop-i.found _ (omega arith) c.later-found.ensures c.loop-i.invariant

pub returns-in-Some : goal.returns-in-Some
returns-in-Some c = ended _ _ _ c.loop-i.i c.loop-i.found (Some c.in-Some.latest) (omega arith) (omega arith) c.in-Some.is c.loop-i.invariant

pub returns-in-None : goal.returns-in-None
returns-in-None c = ended _ _ _ c.loop-i.i c.loop-i.found None (omega arith) (omega arith) c.in-None.is c.loop-i.invariant
