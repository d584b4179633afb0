-- No second answer satisfies the promise of the checker's public function.
-- Document 01, "Strength of the promises".
use mathlib.Core.Path.{sym, ◌∙◌}
use Rattle.ranges.specs.Promises.{Determines}
use Rattle.checker.proofs.CheckedLaws.{one-verdict}
use Rattle.checker.proofs.check.Kinds as check-kinds
use Rattle.checker.proofs.check.Reads as check

pub check-unique : Determines 2 check-kinds.ps check-kinds.r check.Post
check-unique κs a x y s t p q = one-verdict x y (p ∙ sym q)
