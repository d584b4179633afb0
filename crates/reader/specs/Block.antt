-- A block: its records' fields, the fault of a record, its values with births, readings and occupied boundaries, and what `read` returns.
-- Document 01, "Records of a block", "Values, steps and boundaries", "Numbers that come back".
use Rattle.std.specs.Prelude.{ℕ, zero, suc, ◌+◌, ◌-◌, ◌*◌, ◌/◌, ◌%◌, max, Bool, cond, not, ◌&&◌, ◌||◌, List, length, get_or, leb, ltb, eqb}
use Rattle.ranges.specs.Below.{count_below, any_below, all_below, largest_below, first_below, first_nonzero}
use Rattle.reader.specs.Numbers.{Reading}

-- ---- fields, of a block whose bytes are b

-- byte k of the record i
abbrev pub field : List ℕ → ℕ → ℕ → ℕ
field b i k = get_or b (8 * i + k) 0

abbrev pub kind : List ℕ → ℕ → ℕ
kind b i = field b i 0

abbrev pub step : List ℕ → ℕ → ℕ
step b i = field b i 1

abbrev pub operation : List ℕ → ℕ → ℕ
operation b i = field b i 2

abbrev pub name : List ℕ → ℕ → ℕ
name b i = field b i 3

abbrev pub left_name : List ℕ → ℕ → ℕ
left_name b i = field b i 4

abbrev pub right_name : List ℕ → ℕ → ℕ
right_name b i = field b i 5

-- low byte first
abbrev pub literal : List ℕ → ℕ → ℕ
literal b i = field b i 6 + 256 * field b i 7

abbrev pub records : List ℕ → ℕ
records b = length b / 8

-- kind 1 is incoming, 2 operation, 3 outgoing; the first two make values
abbrev pub is_incoming : List ℕ → ℕ → Bool
is_incoming b i = eqb (kind b i) 1

abbrev pub is_operation : List ℕ → ℕ → Bool
is_operation b i = eqb (kind b i) 2

abbrev pub is_outgoing : List ℕ → ℕ → Bool
is_outgoing b i = eqb (kind b i) 3

abbrev pub is_value : List ℕ → ℕ → Bool
is_value b i = is_incoming b i || is_operation b i

abbrev pub is_constant : List ℕ → ℕ → Bool
is_constant b i = is_operation b i && eqb (operation b i) 2

-- the operations 3 to 8
abbrev pub computes : List ℕ → ℕ → Bool
computes b i = is_operation b i && leb 3 (operation b i)

-- a move reads the left name, a constant none, the operations 3 to 8 both
abbrev pub reads_left : List ℕ → ℕ → Bool
reads_left b i = is_operation b i && not (is_constant b i)

abbrev pub reads_right : List ℕ → ℕ → Bool
reads_right b i = computes b i

-- ---- values

-- an incoming value is born at 0, an operation's at its step
unfoldable pub birth : List ℕ → ℕ → ℕ
birth b v = cond (is_operation b v) (step b v) 0

-- v is a value of the name n born below s
abbrev pub born_below : List ℕ → ℕ → ℕ → ℕ → Bool
born_below b s n v = is_value b v && eqb (name b v) n && ltb (birth b v) s

-- and none of the first m records is such a value born later
unfoldable pub is_latest : List ℕ → ℕ → ℕ → ℕ → ℕ → Bool
is_latest b m s n v = born_below b s n v && all_below m (λ w. not (born_below b s n w) || leb (birth b w) (birth b v))

-- the value that a reading of the name n in step s gets, of those of the first m records; m where there is none
unfoldable pub value_for : List ℕ → ℕ → ℕ → ℕ → ℕ
value_for b m s n = first_below m (is_latest b m s n)

-- the name n has a value born below s among the first m records
unfoldable pub has_value : List ℕ → ℕ → ℕ → ℕ → Bool
has_value b m s n = any_below m (born_below b s n)

-- a step above every birth: what an outgoing record reads at
abbrev pub at_end : ℕ
at_end = 66

-- ---- the fault of a record, given those before it: 3 to 8, 0 where it has none

abbrev pub within : ℕ → ℕ → ℕ → Bool
within low high x = leb low x && leb x high

-- kind not 1, 2, 3
unfoldable pub kind_fault : List ℕ → ℕ → Bool
kind_fault b i = not (within 1 3 (kind b i))

-- the kind and the step of the record before, 0 where there is none
abbrev pub kind_before : List ℕ → ℕ → ℕ
kind_before b zero = 0
kind_before b (suc i) = kind b i

abbrev pub step_before : List ℕ → ℕ → ℕ
step_before b zero = 0
step_before b (suc i) = step b i

-- kind below the one before, or step below the operation before
unfoldable pub order_fault : List ℕ → ℕ → Bool
order_fault b i =
    ltb (kind b i) (kind_before b i)
    || eqb (kind_before b i) 2 && is_operation b i && ltb (step b i) (step_before b i)

-- step, operation or used name beyond its range
unfoldable pub range_fault : List ℕ → ℕ → Bool
range_fault b i =
    is_operation b i && not (within 1 64 (step b i) && within 1 8 (operation b i))
    || ltb 63 (name b i)
    || reads_left b i && ltb 63 (left_name b i)
    || reads_right b i && ltb 63 (right_name b i)

-- an unused byte that is not zero
unfoldable pub unused_fault : List ℕ → ℕ → Bool
unused_fault b i =
    not (is_operation b i) && not (eqb (step b i) 0 && eqb (operation b i) 0)
    || not (reads_left b i) && not (eqb (left_name b i) 0)
    || not (reads_right b i) && not (eqb (right_name b i) 0)
    || not (is_constant b i) && not (eqb (literal b i) 0)

-- incoming twice, outgoing twice, or two writes of a name in a step
unfoldable pub twice_fault : List ℕ → ℕ → Bool
twice_fault b i = any_below i (λ j. eqb (kind b j) (kind b i) && eqb (name b j) (name b i) && eqb (birth b j) (birth b i))

-- a name read or sent out that has no value
unfoldable pub missing_fault : List ℕ → ℕ → Bool
missing_fault b i =
    reads_left b i && not (has_value b i (step b i) (left_name b i))
    || reads_right b i && not (has_value b i (step b i) (right_name b i))
    || is_outgoing b i && not (has_value b i at_end (name b i))

-- lowest number first
unfoldable pub fault : List ℕ → ℕ → ℕ
fault b i =
    cond (kind_fault b i) 3
    (cond (order_fault b i) 4
    (cond (range_fault b i) 5
    (cond (unused_fault b i) 6
    (cond (twice_fault b i) 7
    (cond (missing_fault b i) 8 0)))))

-- ---- what the reader returns

-- every incoming record and every operation makes one value
unfoldable pub values : List ℕ → ℕ
values b = count_below (records b) (is_value b)

-- how many records are incoming, and how many are outgoing
unfoldable pub incoming : List ℕ → ℕ
incoming b = count_below (records b) (is_incoming b)

unfoldable pub outgoing : List ℕ → ℕ
outgoing b = count_below (records b) (is_outgoing b)

-- T: the last operation's step, 0 if there is none; steps rise, so that it is the largest birth (Readability, `last-operation`)
unfoldable pub last_step : List ℕ → ℕ
last_step b = largest_below (records b) (birth b)

-- the first record with any of 3 to 8
unfoldable pub first_fault : List ℕ → ℕ
first_fault b = first_nonzero (records b) (fault b)

-- refused: the record twice, counts and T 0
abbrev pub unread : ℕ → ℕ → Reading
unread number i = record { number = number; first = i; second = i; values = 0; last_step = 0 }

-- 1, 2, then the first record with any of 3 to 8
unfoldable pub reading : List ℕ → Reading
reading b =
    cond (not (eqb (length b % 8) 0)) (unread 1 0)
    (cond (ltb 80 (records b)) (unread 2 0)
    (cond (ltb (first_fault b) (records b)) (unread (fault b (first_fault b)) (first_fault b))
    (record { number = 0; first = 0; second = 0; values = values b; last_step = last_step b })))

-- ---- readings and occupied boundaries, of a readable block

-- the values that the record i reads left and right, and that it sends out
abbrev pub left_value : List ℕ → ℕ → ℕ
left_value b i = value_for b (values b) (step b i) (left_name b i)

abbrev pub right_value : List ℕ → ℕ → ℕ
right_value b i = value_for b (values b) (step b i) (right_name b i)

abbrev pub sent_value : List ℕ → ℕ → ℕ
sent_value b i = value_for b (values b) at_end (name b i)

-- the record i reads the value v; it sends v out
unfoldable pub reads : List ℕ → ℕ → ℕ → Bool
reads b i v = reads_left b i && eqb (left_value b i) v || reads_right b i && eqb (right_value b i) v

unfoldable pub sends : List ℕ → ℕ → ℕ → Bool
sends b i v = is_outgoing b i && eqb (sent_value b i) v

-- the largest of: its birth; j - 1 for each reading in step j; T if an outgoing record gets it
unfoldable pub last : List ℕ → ℕ → ℕ
last b v =
    max (birth b v)
    (max (largest_below (records b) (λ i. cond (reads b i v) (step b i - 1) 0))
    (cond (any_below (records b) (λ i. sends b i v)) (last_step b) 0))

-- v occupies the boundary k
unfoldable pub occupies : List ℕ → ℕ → ℕ → Bool
occupies b v k = leb (birth b v) k && leb k (last b v)

-- how many values occupy the boundary k
unfoldable pub occupying : List ℕ → ℕ → ℕ
occupying b k = count_below (values b) (λ v. occupies b v k)

-- the largest number of values occupying one boundary
unfoldable pub peak : List ℕ → ℕ
peak b = largest_below (suc (last_step b)) (occupying b)

-- two values occupy a common boundary
unfoldable pub overlap : List ℕ → ℕ → ℕ → Bool
overlap b v w = leb (birth b v) (last b w) && leb (birth b w) (last b v)
