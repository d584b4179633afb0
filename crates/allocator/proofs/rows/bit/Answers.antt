-- `bit` meets its contract: a word shifted down by k and masked is its digit k.
use mathlib.Core.Path.{ap}
use Prim.Native.Nat.{ℕ, ◌/◌, ◌%◌, ◌^◌}
use lib.Bits.{and_mask}
use lib.Dec.{eqb}
use lib.ListN.{get_or}
use Rattle.allocator.specs.Words.{bit_of, digit}
use Rattle.allocator.proofs.rows.bit.Goals as goal

pub returns : goal.returns
unfolding bit_of digit
returns c = ap (λ (x : ℕ). eqb x 1) (and_mask (get_or c.args.row.now (c.args.k / 64) 0 / 2 ^ (c.args.k % 64)) 1)
