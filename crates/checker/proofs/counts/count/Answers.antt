-- `count` meets its contract: the marks are counted from the front.
use Rattle.std.proofs.Common.{◌≡◌, ◌∙◌, rules}
use Rattle.std.specs.Prelude.{count_by}
use Rattle.checker.specs.Counted.{count-items}
use Rattle.checker.proofs.counts.count.Goals as goal

pub returns : goal.returns
returns c =
    let h : c.count.result ≡ count_by (λ m. m) c.args.marks.now = search rules in
    h ∙ count-items c.args.marks.now
