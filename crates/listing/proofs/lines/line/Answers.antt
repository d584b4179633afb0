-- `lines::line` meets its contract, character by character.
use Rattle.std.proofs.Common.{Bool, ap, ◌∙◌}
use Rattle.listing.specs.Text.{unit_text, bus_text}
use Rattle.listing.specs.Characters.{line-characters}
use Rattle.listing.proofs.lines.line.Goals as goal

pub returns : goal.returns
returns c =
    let a = c.args in
    let computes = c.computes-computes.ensures in
    line-characters _ _ _ _ _ _ _ _ _ _ _ _ _ _ _ _ _ _ _ c.two-value.ensures c.two-birth.ensures c.word-word.ensures c.two-name.ensures c.two-store.ensures
    (c.unit-unit.ensures ∙ ap (λ (t : Bool). unit_text t a.p.unit) computes)
    (c.bus-left.ensures ∙ ap (λ (t : Bool). bus_text t a.p.left) c.operates.ensures)
    (c.bus-right.ensures ∙ ap (λ (t : Bool). bus_text t a.p.right) computes)
    (c.bus-result.ensures ∙ ap (λ (t : Bool). bus_text t a.p.result) computes)
