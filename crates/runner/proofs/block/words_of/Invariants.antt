-- `words_of` meets its contract. The loop's invariant: the first v words are those of the first v values, the rest are 0.
use Rattle.runner.specs.TableRuns.{Worded}
use Rattle.runner.proofs.block.words_of.Given as goal

abbrev pub invariant-loop-v : goal.invariant-loop-v
invariant-loop-v l = Worded l.t l.incoming l.all l.v
