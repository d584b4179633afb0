-- The run of a bound datapath: the register file at every boundary, and the outgoing words.
-- Document 01, "How the datapath runs".
use Rattle.std.specs.Prelude.{ℕ, zero, suc, ◌+◌, Bool, cond, ◌&&◌, List, ◌==◌, slice_index}
use Rattle.ranges.specs.Below.{sum_below, count_below, first_below, tabulate}
use Rattle.reader.specs.Block.{operation, literal, is_incoming, left_value, right_value, sent_value, values, outgoing, last_step}
use Rattle.reader.specs.Binding.{register, unit, bus, used_in, asks_in, written_in}
use Rattle.runner.specs.BlockRun.{result}

-- x of the one where exactly one of the first n has p, 0 where several have, and other where none has
unfoldable pub by_count : ℕ → (ℕ → Bool) → (ℕ → ℕ) → ℕ → ℕ
by_count n p x other =
    cond (count_below n p == 0) other
    (cond (count_below n p == 1) (x (first_below n p)) 0)

-- how many uses of the step k are on the bus n
unfoldable pub uses_on : List ℕ → List ℕ → ℕ → ℕ → ℕ
uses_on b d k n = sum_below (values b) (λ v. count_below 3 (λ p. used_in b v p k && bus d v p == n))

-- a bus with exactly one use carries that source's value x, with several 0
unfoldable pub carried : List ℕ → List ℕ → ℕ → ℕ → ℕ → ℕ
carried b d k n x = cond (uses_on b d k n == 1) x 0

-- a unit asked for by exactly one operation gives x, by several 0
unfoldable pub given : List ℕ → List ℕ → ℕ → ℕ → ℕ → ℕ
given b d k u x = cond (count_below (values b) (λ v. asks_in b v k && unit d v == u) == 1) x 0

-- the use at p of v brings x over its bus in the step k
abbrev pub brought : List ℕ → List ℕ → ℕ → ℕ → ℕ → ℕ → ℕ
brought b d k v p x = carried b d k (bus d v p) x

-- what comes in the step k, which began with the registers f, over the left and over the right bus of v
abbrev pub from_left : List ℕ → List ℕ → List ℕ → ℕ → ℕ → ℕ
from_left b d f k v = brought b d k v 0 (slice_index f (register d (left_value b v)))

abbrev pub from_right : List ℕ → List ℕ → List ℕ → ℕ → ℕ → ℕ
from_right b d f k v = brought b d k v 1 (slice_index f (register d (right_value b v)))

-- and what the bus into its register has
unfoldable pub arriving : List ℕ → List ℕ → List ℕ → ℕ → ℕ → ℕ
arriving b d f k v =
    cond (operation b v == 1) (from_left b d f k v)
    (cond (operation b v == 2) (brought b d k v 0 (literal b v))
    (brought b d k v 2 (given b d k (unit d v) (result (operation b v) (from_left b d f k v) (from_right b d f k v)))))

-- v writes the register r in the step k; the incoming value v goes into it
abbrev pub writes : List ℕ → List ℕ → ℕ → ℕ → ℕ → Bool
writes b d k r v = written_in b v k && register d v == r

abbrev pub enters : List ℕ → List ℕ → ℕ → ℕ → Bool
enters b d r v = is_incoming b v && register d v == r

-- the register r after the step k, which began with f
unfoldable pub register_after : List ℕ → List ℕ → List ℕ → ℕ → ℕ → ℕ
register_after b d f k r = by_count (values b) (writes b d k r) (arriving b d f k) (slice_index f r)

-- the register r at entry, the words w coming in over the file f
unfoldable pub register_at_entry : List ℕ → List ℕ → List ℕ → List ℕ → ℕ → ℕ
register_at_entry b d w f r = by_count (values b) (enters b d r) (λ v. slice_index w v) (slice_index f r)

-- the file after the step k, which began with f
abbrev pub file_after : List ℕ → List ℕ → ℕ → List ℕ → List ℕ
file_after b d k f = tabulate 80 (register_after b d f k)

-- the register file at the boundary k
unfoldable pub file_at : List ℕ → List ℕ → List ℕ → List ℕ → ℕ → List ℕ
file_at b d w f zero = tabulate 80 (register_at_entry b d w f)
file_at b d w f (suc k) = file_after b d (suc k) (file_at b d w f k)

-- what the register of v has at the boundary k
unfoldable pub held_at : List ℕ → List ℕ → List ℕ → List ℕ → ℕ → ℕ → ℕ
held_at b d w f k v = slice_index (file_at b d w f k) (register d v)

-- the outgoing words in record order, each from its value's register at T
unfoldable pub taken_words : List ℕ → List ℕ → List ℕ → List ℕ → List ℕ
taken_words b d w f = tabulate (outgoing b) (λ j. held_at b d w f (last_step b) (sent_value b (values b + j)))
