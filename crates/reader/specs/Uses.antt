-- What `uses` hands on: each use of a bus, made or not, with its step, its source and its sink.
-- Document 01, "Binding records".
use Rattle.std.specs.Prelude.{ℕ, ◌/◌, ◌%◌, Bool, false, cond, ◌&&◌, List, Option, Some, None, get_or, eqb}
use Rattle.ranges.specs.Below.{tabulate}
use Rattle.reader.specs.Table.{no_entry}
use Rattle.reader.specs.Binding.{no_place}
use Rattle.reader.specs.Kinds.{operates as kind_operates, is_constant}
use Rattle.reader.specs.declared.Entry.{Entry}
use Rattle.reader.specs.declared.Table.{Table}
use Rattle.reader.specs.declared.Place.{Place}
use Rattle.reader.specs.declared.Use.{Use}
use Rattle.reader.specs.declared.Source.TheVariants.{Register as from_register, Unit as from_unit, Literal as from_literal}
use Rattle.reader.specs.declared.Sink.TheVariants.{Left as into_left, Right as into_right, Register as into_register}

-- an entry is of an operation, of a constant
abbrev pub operates : Entry → Bool
operates e = kind_operates e.kind

abbrev pub constant : Entry → Bool
constant e = operates e && is_constant e.operation

-- ---- the uses of the operation e in its own place; a port is fed from a register

-- what stands past the end
abbrev pub no_use : Use
no_use = record { made = false; step = 0; source = from_register 0; sink = into_left 0 }

-- left: from a register or a literal, into a port or straight into the register
unfoldable pub left_use : Entry → Place → ℕ → Use
left_use e own from =
    record {
      made = operates e;
      step = e.step;
      source = cond (constant e) (from_literal e.literal) (from_register from);
      sink = cond e.computes (into_left own.unit) (into_register own.register);
    }

-- right: from a register into a port
unfoldable pub right_use : Entry → Place → ℕ → Use
right_use e own from = record { made = e.computes; step = e.step; source = from_register from; sink = into_right own.unit }

-- result: from the unit into the register
unfoldable pub result_use : Entry → Place → Use
result_use e own = record { made = e.computes; step = e.step; source = from_unit own.unit; sink = into_register own.register }

-- the use at p: 0 left, 1 right, 2 result
unfoldable pub one_use : Entry → Place → ℕ → ℕ → ℕ → Use
one_use e own left right p = cond (eqb p 0) (left_use e own left) (cond (eqb p 1) (right_use e own right) (result_use e own))

-- ---- all of them, the use at p of the value v at 3 * v + p

-- the register of the value v
abbrev pub register_in : List Place → ℕ → ℕ
register_in places v = (get_or places v no_place).register

abbrev pub use_of : Entry → List Place → ℕ → ℕ → Use
use_of e places v p = one_use e (get_or places v no_place) (register_in places e.left) (register_in places e.right) p

unfoldable pub use_at : List Entry → List Place → ℕ → Use
use_at entries places k = use_of (get_or entries (k / 3) no_entry) places (k / 3) (k % 3)

unfoldable pub uses_in : Table → List Place → List Use
uses_in t places = tabulate 240 (use_at t.entries places)

-- ---- what `if_made` returns

abbrev pub if_made : Use → Option Use
if_made u = cond u.made (Some u) None
