-- `with_step` meets its contract: one digit more, or none.
use mathlib.Core.Path.{sym, ap, ◌∙◌}
use Prim.Native.Nat.{◌%◌}
use Rattle.std.specs.Prelude.{Option}
use Rattle.reader.specs.declared.Use.{Use}
use mathlib.Core.Bool.{Bool, ◌&&◌, ◌||◌}
use lib.Dec.{eqb}
use Rattle.allocator.specs.Words.{digit}
use Rattle.allocator.specs.Links.{same_use, step_of}
use Rattle.allocator.proofs.RowLaws.{with-digit}
use Rattle.allocator.proofs.buses.with_step.Goals as goal

pub returns-in-Some : goal.returns-in-Some
returns-in-Some c =
    let s = c.args in
    let step = c.in-Some.own.step in
    λ k l. with-digit s.steps step k
    ∙ ap (λ (t : Bool). digit s.steps k || (t && eqb k (step % 64))) (sym (sym c.same.ensures ∙ c.if-same.true))
    ∙ ap (λ (y : Option Use). digit s.steps k || (same_use y s.x && eqb k (step_of y % 64))) (sym c.in-Some.is)
