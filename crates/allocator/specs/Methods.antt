-- The methods by their numbers: 0 is left edge, 1 merging.
-- Document 01, "Left edge and clique merging".
use Rattle.std.specs.Prelude.{ℕ, cond, Result, Ok, Err, eqb}
use Rattle.allocator.specs.declared.methods.Method.{Method}
use Rattle.allocator.specs.declared.methods.Method.TheVariants.{LeftEdge, Merging}
use Rattle.reader.specs.declared.refusals.Reason.{Reason}
use Rattle.reader.specs.declared.refusals.Reason.TheVariants.{Method as OtherMethod}

abbrev pub method_number : Method → ℕ
method_number LeftEdge = 0
method_number Merging = 1

abbrev pub method_read : ℕ → Result Method Reason
method_read byte = cond (eqb byte 0) (Ok LeftEdge) (cond (eqb byte 1) (Ok Merging) (Err OtherMethod))
