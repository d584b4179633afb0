-- `count` meets its contract: the set digits of `&` are the shared ones.
use lib.Bits.{bit_and, and_lt}
use lib.Count.{ones-le}
use Rattle.allocator.specs.Words.{shared_digits}
use Rattle.allocator.proofs.Digits.{ones_and}
use Rattle.allocator.proofs.rows.count.Goals as goal

pub returns : goal.returns
unfolding shared_digits
returns c = (
  ones_and 64 c.args.x c.args.y c.ranges.x.fits,
  ones-le 64 (bit_and c.args.x c.args.y) (and_lt 64 c.args.x c.args.y c.ranges.x.fits c.ranges.y.fits),
)
