-- `gathered` meets its contract: each is what the tables tell of its value.
use Rattle.std.proofs.Common.{rules, ap, ◌∙◌}
use mathlib.Core.List.{List}
use Rattle.ranges.specs.Below.{tabulate}
use Rattle.reader.specs.declared.Use.{Use}
use Rattle.checker.specs.Bound.{bound_at, bound_in}
use Rattle.ranges.specs.Arrays.{made}
use Rattle.checker.proofs.bound.gathered.Goals as goal

pub returns : goal.returns
unfolding bound_in
returns c =
    let a = c.args in
    let of = bound_at a.t.now.entries a.t.now.lasts a.places.now in
    made _ 80 (of c.uses-uses.result) _ (λ i y q l k. search rules) _ c.from_fn.ensures.items
    ∙ ap (λ (u : List Use). tabulate 80 (of u)) c.uses-uses.ensures
