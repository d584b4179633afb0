-- What the bytes of a record say that it is and does, each of document 01's numbers a case.
-- Document 01, "Records of a block": "Kind 1, incoming .. Kind 3, outgoing .. Kind 2, operation"; "Operations: 1 move (left), 2 constant (literal), 3 add, ..".
use Rattle.std.specs.Prelude.{ℕ, Bool, true, false, cond, Option, Some, None, Result, Ok, Err, leb, eqb}
use Rattle.reader.specs.declared.kinds.Kind.{Kind}
use Rattle.reader.specs.declared.kinds.Kind.TheVariants.{Incoming, Operation as Operates, Outgoing}
use Rattle.reader.specs.declared.kinds.Operation.{Operation}
use Rattle.reader.specs.declared.kinds.Operation.TheVariants.{Move, Constant, Add, Subtract, Multiply, And, Or, ExclusiveOr}
use Rattle.reader.specs.declared.kinds.Class.{Class}
use Rattle.reader.specs.declared.kinds.Class.TheVariants.{A, M, L}
use Rattle.reader.specs.declared.refusals.Reason.{Reason}
use Rattle.reader.specs.declared.refusals.Reason.TheVariants.{Kind as OtherKind, Range as OtherOperation}

abbrev pub kind_read : ℕ → Result Kind Reason
kind_read byte =
    cond (eqb byte 1) (Ok Incoming)
    (cond (eqb byte 2) (Ok Operates)
    (cond (eqb byte 3) (Ok Outgoing) (Err OtherKind)))

abbrev pub operation_read : ℕ → Result Operation Reason
operation_read byte =
    cond (eqb byte 1) (Ok Move)
    (cond (eqb byte 2) (Ok Constant)
    (cond (eqb byte 3) (Ok Add)
    (cond (eqb byte 4) (Ok Subtract)
    (cond (eqb byte 5) (Ok Multiply)
    (cond (eqb byte 6) (Ok And)
    (cond (eqb byte 7) (Ok Or)
    (cond (eqb byte 8) (Ok ExclusiveOr) (Err OtherOperation))))))))

-- A (add, subtract), M (multiply), L (and, or, exclusive or), as `class_of` numbers them
unfoldable pub class_read : ℕ → Class
class_read operation = cond (leb operation 4) A (cond (eqb operation 5) M L)

abbrev pub known : {T E : Type 0} → Result T E → Option T
known (Ok x) = Some x
known (Err e) = None

-- what an entry is of, as the code knows it
unfoldable pub kind_at : ℕ → Option Kind
kind_at byte = known (kind_read byte)

unfoldable pub operation_at : ℕ → Option Operation
operation_at byte = known (operation_read byte)

-- ---- tests of what is known

abbrev pub incomes : Option Kind → Bool
incomes None = false
incomes (Some Incoming) = true
incomes (Some Operates) = false
incomes (Some Outgoing) = false

abbrev pub operates : Option Kind → Bool
operates None = false
operates (Some Incoming) = false
operates (Some Operates) = true
operates (Some Outgoing) = false

abbrev pub goes_out : Option Kind → Bool
goes_out None = false
goes_out (Some Incoming) = false
goes_out (Some Operates) = false
goes_out (Some Outgoing) = true

abbrev pub is_move : Option Operation → Bool
is_move None = false
is_move (Some Move) = true
is_move (Some Constant) = false
is_move (Some Add) = false
is_move (Some Subtract) = false
is_move (Some Multiply) = false
is_move (Some And) = false
is_move (Some Or) = false
is_move (Some ExclusiveOr) = false

abbrev pub is_constant : Option Operation → Bool
is_constant None = false
is_constant (Some Move) = false
is_constant (Some Constant) = true
is_constant (Some Add) = false
is_constant (Some Subtract) = false
is_constant (Some Multiply) = false
is_constant (Some And) = false
is_constant (Some Or) = false
is_constant (Some ExclusiveOr) = false

-- the number of an operation
abbrev pub operation_number : Operation → ℕ
operation_number Move = 1
operation_number Constant = 2
operation_number Add = 3
operation_number Subtract = 4
operation_number Multiply = 5
operation_number And = 6
operation_number Or = 7
operation_number ExclusiveOr = 8

-- the bytes again, 0 where nothing is known
abbrev pub kind_number : Option Kind → ℕ
kind_number None = 0
kind_number (Some Incoming) = 1
kind_number (Some Operates) = 2
kind_number (Some Outgoing) = 3

abbrev pub known_number : Option Operation → ℕ
known_number None = 0
known_number (Some o) = operation_number o

abbrev pub class_number : Class → ℕ
class_number A = 0
class_number M = 1
class_number L = 2

abbrev pub same_class : Class → Class → Bool
same_class c d = eqb (class_number c) (class_number d)
