-- Uniqueness, gathered: of every public function of every library, that no second answer satisfies its promise. A promise is the function's `ensures` as
-- the check reads it off the source, so a weakened contract cannot keep its theorem. Nothing is left undetermined.
-- Document 01, "Strength of the promises".
use Prim.Native.Nat.{ℕ}
use mathlib.Core.Path.{◌≡◌, sym, ◌∙◌, ap₂}
use mathlib.Core.List.{List}
use Rattle.ranges.specs.Promises.{Determines, DeterminesAll}
use Rattle.numbers.proofs.Unique as numbers
use Rattle.numbers.proofs.wide.Kinds as wide-kinds
use Rattle.numbers.proofs.wide.Reads as wide
use Rattle.numbers.proofs.word.Kinds as word-kinds
use Rattle.numbers.proofs.word.Reads as word
use Rattle.numbers.proofs.choose.Kinds as choose-kinds
use Rattle.numbers.proofs.choose.Reads as choose
use Rattle.numbers.proofs.choose_word.Kinds as choose-word-kinds
use Rattle.numbers.proofs.choose_word.Reads as choose_word
use Rattle.numbers.proofs.one_if.Kinds as one-if-kinds
use Rattle.numbers.proofs.one_if.Reads as one-if
use Rattle.numbers.proofs.greater.Kinds as greater-kinds
use Rattle.numbers.proofs.greater.Reads as greater
use Rattle.reader.proofs.Unique as reader
use Rattle.reader.proofs.read.Kinds as read-kinds
use Rattle.reader.proofs.read.Reads as read
use Rattle.reader.proofs.refusals.Reason.number.Kinds as number-kinds
use Rattle.reader.proofs.refusals.Reason.number.Reads as number
use Rattle.reader.proofs.tables.table.Kinds as table-kinds
use Rattle.reader.proofs.tables.table.Reads as table
use Rattle.reader.proofs.form.Kinds as form-kinds
use Rattle.reader.proofs.form.Reads as form
use Rattle.reader.proofs.places.Kinds as places-kinds
use Rattle.reader.proofs.places.Reads as places
use Rattle.reader.proofs.Use.if_made.Kinds as if-made-kinds
use Rattle.reader.proofs.Use.if_made.Reads as if-made
use Rattle.reader.proofs.uses.uses.Kinds as uses-kinds
use Rattle.reader.proofs.uses.uses.Reads as uses
use Rattle.checker.proofs.Unique as checker
use Rattle.checker.proofs.check.Kinds as check-kinds
use Rattle.checker.proofs.check.Reads as check
use Rattle.runner.specs.AnswerLaws.{one-ran}
use Rattle.allocator.proofs.AllocatedLaws.{one-allocation}
use Rattle.runner.proofs.run_block.Kinds as run-block-kinds
use Rattle.runner.proofs.run_block.Reads as run-block
use Rattle.runner.proofs.run_datapath.Kinds as run-datapath-kinds
use Rattle.runner.proofs.run_datapath.Reads as run-datapath
use Rattle.allocator.proofs.bind.Kinds as bind-kinds
use Rattle.allocator.proofs.bind.Reads as bind
use Rattle.listing.proofs.Unique as listing
use Rattle.listing.proofs.list.Kinds as list-kinds
use Rattle.listing.proofs.list.Reads as list
use Rattle.listing.proofs.lines.refused.Kinds as refused-kinds
use Rattle.listing.proofs.lines.refused.Reads as refused
use Rattle.abi.proofs.Unique as abi
use Rattle.abi.proofs.ngozilade_read.Kinds as ngozilade-read-kinds
use Rattle.abi.proofs.ngozilade_read.Reads as ngozilade-read
use Rattle.abi.proofs.ngozilade_check.Kinds as ngozilade-check-kinds
use Rattle.abi.proofs.ngozilade_check.Reads as ngozilade-check
use Rattle.abi.proofs.ngozilade_bind.Kinds as ngozilade-bind-kinds
use Rattle.abi.proofs.ngozilade_bind.Reads as ngozilade-bind
use Rattle.abi.proofs.ngozilade_run_block.Kinds as ngozilade-run-block-kinds
use Rattle.abi.proofs.ngozilade_run_block.Reads as ngozilade-run-block
use Rattle.abi.proofs.ngozilade_run_datapath.Kinds as ngozilade-run-datapath-kinds
use Rattle.abi.proofs.ngozilade_run_datapath.Reads as ngozilade-run-datapath
use Rattle.evidence.proofs.run_accepted.Kinds as run-accepted-kinds
use Rattle.evidence.proofs.run_accepted.Reads as run-accepted

-- ---- functions that are lent nothing to be written: the result is determined

pub wide-unique : Determines 0 wide-kinds.ps wide-kinds.r wide.Post
wide-unique = numbers.wide-unique

pub word-unique : Determines 0 word-kinds.ps word-kinds.r word.Post
word-unique = numbers.word-unique

pub choose-unique : Determines 0 choose-kinds.ps choose-kinds.r choose.Post
choose-unique = numbers.choose-unique

pub choose-word-unique : Determines 0 choose-word-kinds.ps choose-word-kinds.r choose_word.Post
choose-word-unique = numbers.choose-word-unique

pub one-if-unique : Determines 0 one-if-kinds.ps one-if-kinds.r one-if.Post
one-if-unique = numbers.one-if-unique

pub greater-unique : Determines 0 greater-kinds.ps greater-kinds.r greater.Post
greater-unique = numbers.greater-unique

pub read-unique : Determines 1 read-kinds.ps read-kinds.r read.Post
read-unique = reader.read-unique

pub number-unique : Determines 0 number-kinds.ps number-kinds.r number.Post
number-unique = reader.number-unique

pub table-unique : Determines 1 table-kinds.ps table-kinds.r table.Post
table-unique = reader.table-unique

pub form-unique : Determines 2 form-kinds.ps form-kinds.r form.Post
form-unique = reader.form-unique

pub places-unique : Determines 1 places-kinds.ps places-kinds.r places.Post
places-unique = reader.places-unique

pub uses-unique : Determines 0 uses-kinds.ps uses-kinds.r uses.Post
uses-unique = reader.uses-unique

pub if-made-unique : Determines 0 if-made-kinds.ps if-made-kinds.r if-made.Post
if-made-unique = reader.if-made-unique

pub check-unique : Determines 2 check-kinds.ps check-kinds.r check.Post
check-unique = checker.check-unique

pub list-unique : Determines 1 list-kinds.ps list-kinds.r list.Post
list-unique = listing.listing-unique

pub refused-unique : Determines 0 refused-kinds.ps refused-kinds.r refused.Post
refused-unique = listing.refused-unique

pub ngozilade-read-unique : Determines 1 ngozilade-read-kinds.ps ngozilade-read-kinds.r ngozilade-read.Post
ngozilade-read-unique = abi.ngozilade-read-unique

pub ngozilade-check-unique : Determines 2 ngozilade-check-kinds.ps ngozilade-check-kinds.r ngozilade-check.Post
ngozilade-check-unique = abi.ngozilade-check-unique

-- ---- functions that are lent a `&mut` slice: the result is determined, and what each of those slices holds at exit

-- two lists that are equal, side by side
side_by_side : {o p f g : List ℕ} → o ≡ p → f ≡ g → ◌≡◌ {A = List ℕ × List ℕ} (o, f) (p, g)
side_by_side e z = ap₂ (λ (x y : List ℕ). (x, y)) e z

-- `outgoing` is the third parameter
pub run-block-unique : DeterminesAll 3 run-block-kinds.ps run-block-kinds.r run-block.Post (List ℕ) (λ κs s. s.1.1.0.now)
run-block-unique κs a x y s t p q = (one-ran x y (p.answer ∙ sym q.answer), p.outgoing ∙ sym q.outgoing)

-- `outgoing` is the fourth parameter, `registers` the fifth
pub run-datapath-unique : DeterminesAll 5 run-datapath-kinds.ps run-datapath-kinds.r run-datapath.Post (List ℕ × List ℕ)
    (λ κs s. (s.1.1.1.0.now, s.1.1.1.1.0.now))
run-datapath-unique κs a x y s t p q =
    (one-ran x y (p.answer ∙ sym q.answer), side_by_side (p.outgoing ∙ sym q.outgoing) (p.registers ∙ sym q.registers))

pub run-accepted-unique : DeterminesAll 5 run-accepted-kinds.ps run-accepted-kinds.r run-accepted.Post (List ℕ × List ℕ)
    (λ κs s. (s.1.1.1.0.now, s.1.1.1.1.0.now))
run-accepted-unique κs a x y s t p q =
    (one-ran x y (p.answer ∙ sym q.answer), side_by_side (p.outgoing ∙ sym q.outgoing) (p.registers ∙ sym q.registers))

-- `out` is the third parameter
pub bind-unique : DeterminesAll 2 bind-kinds.ps bind-kinds.r bind.Post (List ℕ) (λ κs s. s.1.1.0.now)
bind-unique κs a x y s t p q = (one-allocation x y (p.answer ∙ sym q.answer), p.room ∙ sym q.room)

-- the C interface, with the same parameters
pub ngozilade-run-block-unique : DeterminesAll 3 ngozilade-run-block-kinds.ps ngozilade-run-block-kinds.r ngozilade-run-block.Post (List ℕ) (λ κs s. s.1.1.0.now)
ngozilade-run-block-unique = abi.ngozilade-run-block-unique

pub ngozilade-run-datapath-unique : DeterminesAll 5 ngozilade-run-datapath-kinds.ps ngozilade-run-datapath-kinds.r ngozilade-run-datapath.Post (List ℕ × List ℕ)
    (λ κs s. (s.1.1.1.0.now, s.1.1.1.1.0.now))
ngozilade-run-datapath-unique = abi.ngozilade-run-datapath-unique

pub ngozilade-bind-unique : DeterminesAll 2 ngozilade-bind-kinds.ps ngozilade-bind-kinds.r ngozilade-bind.Post (List ℕ) (λ κs s. s.1.1.0.now)
ngozilade-bind-unique = abi.ngozilade-bind-unique
