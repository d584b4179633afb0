-- `placing::fields_right` meets its contract, field by field.
use Prim.Native.Nat.{ℕ}
use mathlib.Core.Bool.{Bool, true, ◌&&◌}
use mathlib.Core.Path.{◌≡◌}
use mathlib.Core.List.{List}
use lib.Dec.{eqb}
use Rattle.reader.specs.declared.Place.{Place}
use Rattle.reader.specs.Block.{field}
use Rattle.reader.specs.Binding.{place_of, field_right, fields_right}
use Rattle.reader.proofs.placing.fields_right.Goals as goal

-- over any answers for the fields
all_right_lem : (d : List ℕ) (operates calculates register unit left right result : Bool) (p : Place) (x y : ℕ) → p ≡ place_of d 0
    → register ≡ field_right true 79 p.register → unit ≡ field_right calculates 79 p.unit → left ≡ field_right operates 239 p.left
    → right ≡ field_right calculates 239 p.right → result ≡ field_right calculates 239 p.result → x ≡ field d 0 6 → y ≡ field d 0 7
    → (register && unit && left && right && result && eqb x 0 && eqb y 0) ≡ fields_right operates calculates d 0
unfolding fields_right place_of
all_right_lem d operates calculates register unit left right result p x y e h1 h2 h3 h4 h5 h6 h7 = rw (fields_right, h1, h2, h3, h4, h5, h6, h7, e)

pub returns : goal.returns
returns c =
    let start = c in
    all_right_lem start.args.part.now _ _ _ _ _ _ _ _ _ _ c.place_at-p.ensures c.field_right.ensures c.field_right-2.ensures
    c.field_right-3.ensures c.field_right-4.ensures c.field_right-5.ensures c.field.ensures c.field-2.ensures
