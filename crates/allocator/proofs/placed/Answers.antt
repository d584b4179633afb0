-- `placed` meets its contract: registers by the method and units by their graph are those of the definition.
use mathlib.Core.Path.{◌≡◌, refl, sym, ap, ◌∙◌}
use mathlib.Core.List.{List}
use Prim.Native.Nat.{ℕ}
use lib.ListN.{length, take}
use borrow.Author.Rules.{rules}
use Rattle.reader.specs.declared.Entry.{Entry}
use Rattle.allocator.specs.declared.left_edge.Life.{Life}
use Rattle.allocator.specs.Methods.{method_number}
use Rattle.allocator.specs.Words.{leading}
use Rattle.allocator.proofs.WritingLaws.{entries-many, shown-records, shown-lives, lives-many, shown-placed}
use Rattle.allocator.proofs.placed.Goals as goal

pub returns : goal.returns
returns c =
    let t = c.args.t in
    let whole : length t.entries ≡ 80 = search rules in
    let entries : List Entry = take t.values t.entries in
    let lives : List Life = take t.values c.lives-all.result in
    λ b S. let E = shown-records t b S whole entries refl in
    let R = c.registers-registers.ensures b (shown-lives t b S _ lives c.lives-all.ensures refl) (sym (lives-many t b S _ lives c.lives-all.ensures refl ∙ S.values-are)) in
    shown-placed t b S (method_number c.args.method) entries _ _ _ E (ap (λ (k : ℕ). leading k c.registers-registers.result)
    (entries-many t b S whole entries refl ∙ sym (lives-many t b S _ lives c.lives-all.ensures refl)) ∙ R) (c.unit_numbers-units.ensures b E) c.places.ensures
