-- The numbers that come back, in the order that document 01 fixes: when each is given, in the words of its table, and the record numbers that come
-- with it. A condition is a statement on bytes, records, places, pairs or counts, and says nothing of how an answer is found.
-- Document 01, "Numbers that come back"; demand 1.
use Rattle.std.specs.Prelude.{ℕ, suc, ◌*◌, ◌/◌, ◌%◌, ◌≤◌, ◌<◌, true, ◌≡◌, ◌⊎◌, List, [], ◌∷◌, ◌++◌, length}
use Rattle.ranges.specs.Below.{rows}
use Rattle.reader.specs.Block.{field, kind, step, operation, name, left_name, right_name, records, birth, values, incoming, outgoing, occupies}
use Rattle.reader.specs.Binding.{register, unit, bus, makes_use, used_in, asks_in, class, source_of, sink_of}
use Rattle.checker.specs.Rules.{verdict}
use Rattle.allocator.specs.Allocation.{binding_by}

-- ---- rows of the table, and the first that is given

-- a number, when it is given, and its record numbers
pub record Row : Type 1 where
  pub number : ℕ
  pub given : Type 0
  pub first : ℕ
  pub second : ℕ

-- with 0, 0; with a record or a place, twice; with a later and an earlier record
abbrev pub alone : ℕ → Type 0 → Row
alone number given = record { number = number; given = given; first = 0; second = 0 }

abbrev pub at : ℕ → ℕ → Type 0 → Row
at i number given = record { number = number; given = given; first = i; second = i }

abbrev pub between : ℕ → ℕ → ℕ → Type 0 → Row
between v w number given = record { number = number; given = given; first = v; second = w }

-- the answer to rows in their order: number and record numbers of the first that is given, all 0 where none is given
pub data FirstGiven : List Row → ℕ → ℕ → ℕ → Type 1 where
  done : FirstGiven [] 0 0 0
  refused : {r : Row} {rest : List Row} → r.given → FirstGiven (r ∷ rest) r.number r.first r.second
  passed : {r : Row} {rest : List Row} {number first second : ℕ} → (r.given → ⊥) → FirstGiven rest number first second
      → FirstGiven (r ∷ rest) number first second

-- ---- a record of a block

-- a move and the operations 3 to 8 read a left name, the operations 3 to 8 a right one, a constant has a literal
abbrev pub ReadsLeft : List ℕ → ℕ → Type 0
ReadsLeft b i = (kind b i ≡ 2) × (operation b i ≡ 2 → ⊥)

abbrev pub Computes : List ℕ → ℕ → Type 0
Computes b i = (kind b i ≡ 2) × (3 ≤ operation b i)

abbrev pub Constant : List ℕ → ℕ → Type 0
Constant b i = (kind b i ≡ 2) × (operation b i ≡ 2)

-- 3: kind not 1, 2, 3
abbrev pub NoKind : List ℕ → ℕ → Type 0
NoKind b i = (kind b i ≡ 1 → ⊥) × (kind b i ≡ 2 → ⊥) × (kind b i ≡ 3 → ⊥)

-- 4: kind below the one before, or step below the operation before
abbrev pub OutOfOrder : List ℕ → ℕ → Type 0
OutOfOrder b i =
    (j : ℕ) × (suc j ≡ i) × ((kind b i < kind b j) ⊎ ((kind b j ≡ 2) × (kind b i ≡ 2) × (step b i < step b j)))

-- 5: step, operation or used name beyond its range
abbrev pub Outside : ℕ → ℕ → ℕ → Type 0
Outside low high x = (x < low) ⊎ (high < x)

abbrev pub BeyondRange : List ℕ → ℕ → Type 0
BeyondRange b i =
    ((kind b i ≡ 2) × (Outside 1 64 (step b i) ⊎ Outside 1 8 (operation b i)))
    ⊎ (63 < name b i)
    ⊎ (ReadsLeft b i × (63 < left_name b i))
    ⊎ (Computes b i × (63 < right_name b i))

-- 6: unused byte not zero. Every record uses its kind and its name; of the others it uses those that it reads
pub data Unused (b : List ℕ) (i : ℕ) : ℕ → Type 0 where
  no_step : (kind b i ≡ 2 → ⊥) → Unused b i 1
  no-operation : (kind b i ≡ 2 → ⊥) → Unused b i 2
  no-left : (ReadsLeft b i → ⊥) → Unused b i 4
  no-right : (Computes b i → ⊥) → Unused b i 5
  no-low : (Constant b i → ⊥) → Unused b i 6
  no-high : (Constant b i → ⊥) → Unused b i 7

abbrev pub UnusedNotZero : List ℕ → ℕ → Type 0
UnusedNotZero b i = (k : ℕ) × Unused b i k × (field b i k ≡ 0 → ⊥)

-- 7: incoming twice, outgoing twice, or two writes of a name in a step; i is the later record
abbrev pub Twice : List ℕ → ℕ → Type 0
Twice b i = (j : ℕ) × (j < i) × (kind b j ≡ kind b i) × (name b j ≡ name b i) × (kind b i ≡ 2 → step b j ≡ step b i)

-- 8: a name read or sent out that has no value; a reading gets values born below its step alone
abbrev pub ValueOf : List ℕ → ℕ → ℕ → Type 0
ValueOf b n v = ((kind b v ≡ 1) ⊎ (kind b v ≡ 2)) × (name b v ≡ n)

abbrev pub BornBelow : List ℕ → ℕ → ℕ → ℕ → Type 0
BornBelow b i s n = (v : ℕ) × (v < i) × ValueOf b n v × (birth b v < s)

abbrev pub Valueless : List ℕ → ℕ → Type 0
Valueless b i =
    (ReadsLeft b i × (BornBelow b i (step b i) (left_name b i) → ⊥))
    ⊎ (Computes b i × (BornBelow b i (step b i) (right_name b i) → ⊥))
    ⊎ ((kind b i ≡ 3) × ((v : ℕ) → v < i → ValueOf b (name b i) v → ⊥))

-- ---- a place of a binding

-- 14: needed field beyond range, unneeded not 255, or bytes 6, 7 not zero
abbrev pub WrongField : Type 0 → ℕ → ℕ → Type 0
WrongField Needed top x = (Needed × (top < x)) ⊎ ((Needed → ⊥) × (x ≡ 255 → ⊥))

abbrev pub WrongFields : List ℕ → List ℕ → ℕ → Type 0
WrongFields b d v =
    (79 < register d v)
    ⊎ WrongField (Computes b v) 79 (unit d v)
    ⊎ WrongField (kind b v ≡ 2) 239 (bus d v 0)
    ⊎ WrongField (Computes b v) 239 (bus d v 1)
    ⊎ WrongField (Computes b v) 239 (bus d v 2)
    ⊎ (field d v 6 ≡ 0 → ⊥)
    ⊎ (field d v 7 ≡ 0 → ⊥)

-- ---- a later value v and an earlier one w

-- 16: they are in one register and occupy a common boundary
abbrev pub Broken16 : List ℕ → List ℕ → ℕ → ℕ → Type 0
Broken16 b d v w = (w < v) × (register d v ≡ register d w) × ((k : ℕ) × (occupies b v k ≡ true) × (occupies b w k ≡ true))

-- 17: they are operations on one unit, of different classes or in one step
abbrev pub Broken17 : List ℕ → List ℕ → ℕ → ℕ → Type 0
Broken17 b d v w =
    (w < v)
    × Computes b v
    × Computes b w
    × (unit d v ≡ unit d w)
    × ((class b v ≡ class b w → ⊥) ⊎ ((k : ℕ) × (asks_in b v k ≡ true) × (asks_in b w k ≡ true)))

-- 18: two uses in one step are on one bus; they may be of one operation
abbrev pub Broken18 : List ℕ → List ℕ → ℕ → ℕ → Type 0
Broken18 b d v w =
    (w ≤ v)
    × ((p : ℕ) × (q : ℕ) × (k : ℕ) × (p < 3) × (q < 3) × ((v ≡ w) × (p ≡ q) → ⊥) × (used_in b v p k ≡ true) × (used_in b w q k ≡ true)
    × (bus d v p ≡ bus d w q))

-- 19: two uses of one connection are on different buses
abbrev pub Broken19 : List ℕ → List ℕ → ℕ → ℕ → Type 0
Broken19 b d v w =
    (w < v)
    × ((p : ℕ) × (q : ℕ) × (p < 3) × (q < 3) × (makes_use b v p ≡ true) × (makes_use b w q ≡ true) × (source_of b d v p ≡ source_of b d w q)
    × (sink_of b d v p ≡ sink_of b d w q) × (bus d v p ≡ bus d w q → ⊥))

-- ---- the orders

-- one record, lowest number first
abbrev pub record_order : List ℕ → ℕ → List Row
record_order b i =
    at i 3 (NoKind b i)
    ∷ at i 4 (OutOfOrder b i)
    ∷ at i 5 (BeyondRange b i)
    ∷ at i 6 (UnusedNotZero b i)
    ∷ at i 7 (Twice b i)
    ∷ at i 8 (Valueless b i)
    ∷ []

-- block: 1, 2, then the first record with any of 3 to 8
abbrev pub block_order : List ℕ → List Row
block_order b = alone 1 (length b % 8 ≡ 0 → ⊥) ∷ alone 2 (80 < records b) ∷ rows (records b) (record_order b)

-- one place, 13 before 14
abbrev pub place_order : List ℕ → List ℕ → ℕ → List Row
place_order b d v = at v 13 (field d v 0 ≡ v → ⊥) ∷ at v 14 (WrongFields b d v) ∷ []

-- binding: 11, 12, then the first place with 13 or 14
abbrev pub binding_order : List ℕ → List ℕ → List Row
binding_order b d = alone 11 (length d % 8 ≡ 0 → ⊥) ∷ alone 12 (length d / 8 ≡ values b → ⊥) ∷ rows (values b) (place_order b d)

-- a rule over all pairs of n values: the smallest later record, then the smallest earlier one
abbrev pub pair_order : ℕ → ℕ → (ℕ → ℕ → Type 0) → List Row
pair_order n rule Broken = rows n (λ v. rows n (λ w. between v w rule (Broken v w) ∷ []))

-- the rules: 16, 17, 18, 19, each over all pairs
abbrev pub rule_order : List ℕ → List ℕ → List Row
rule_order b d =
    pair_order (values b) 16 (Broken16 b d)
    ++ (pair_order (values b) 17 (Broken17 b d)
    ++ (pair_order (values b) 18 (Broken18 b d)
    ++ pair_order (values b) 19 (Broken19 b d)))

-- checker: block, binding, rules
abbrev pub checker_order : List ℕ → List ℕ → List Row
checker_order b d = block_order b ++ (binding_order b d ++ rule_order b d)

-- the words of a run: 21 and 22; 21, 22 and 23
abbrev pub word_order : List ℕ → List ℕ → List ℕ → List Row
word_order b w o = alone 21 (length w ≡ incoming b → ⊥) ∷ alone 22 (length o ≡ outgoing b → ⊥) ∷ []

abbrev pub file_order : List ℕ → List ℕ → List ℕ → List ℕ → List Row
file_order b w o f = word_order b w o ++ (alone 23 (length f ≡ 80 → ⊥) ∷ [])

-- block runner: block, 21, 22
abbrev pub block_runner_order : List ℕ → List ℕ → List ℕ → List Row
block_runner_order b w o = block_order b ++ word_order b w o

-- datapath runner: block, 11 to 14, 21, 22, 23
abbrev pub datapath_runner_order : List ℕ → List ℕ → List ℕ → List ℕ → List ℕ → List Row
datapath_runner_order b d w o f = block_order b ++ (binding_order b d ++ file_order b w o f)

-- the run of an accepted binding: what the checker refuses, then 21, 22, 23
abbrev pub accepted_runner_order : List ℕ → List ℕ → List ℕ → List ℕ → List ℕ → List Row
accepted_runner_order b d w o f = checker_order b d ++ file_order b w o f

-- allocator, by the method m into room bytes: 9, block, 20, 10
abbrev pub allocator_order : List ℕ → ℕ → ℕ → List Row
allocator_order b m room =
    alone 9 ((m ≡ 0 → ⊥) × (m ≡ 1 → ⊥))
    ∷ (block_order b
    ++ (alone 20 ((verdict b (binding_by m b)).number ≡ 0 → ⊥)
    ∷ alone 10 (room < 8 * values b)
    ∷ []))
