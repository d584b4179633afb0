-- Laws of the lines: each field character by character, and where each character of the text stands.
use Rattle.std.specs.Prelude.{ℕ, ◌+◌, ◌*◌, ◌/◌, ◌<◌, ◌≤◌, ◌⊎◌, Bool, true, false, cond, ◌&&◌, ◌≡◌, refl, List, [], ◌∷◌, length, get_or, leb, eqb}
use Rattle.std.proofs.Common.{◌∙◌, inl, inr, arith, get_or-append-add}
use Rattle.std.proofs.Math.ListN.{get_or-append}
use Rattle.ranges.specs.Below.{rows}
use Rattle.ranges.specs.Tables.{length-rows, rows_at}
use Rattle.reader.specs.Block.{kind, operation, values}
use Rattle.reader.specs.Kinds.{kind_number, known_number}
use Rattle.reader.specs.KindLaws.{kind-numbered, operation-numbered}
use Rattle.reader.specs.Readability.{kinds, operation-few}
use Rattle.reader.specs.Table.{no_entry, entry_of}
use Rattle.reader.specs.Binding.{no_place, place_of, places_of}
use Rattle.reader.specs.Boundaries.{values-le}
use Rattle.reader.specs.TableLaws.{Shows, place_is}
use Rattle.reader.specs.declared.Table.{Table}
use Rattle.reader.specs.declared.Place.{Place}
use Rattle.listing.specs.Text.{digit, two_digits, operation_text, unit_text, bus_text, line_text, line_of, listed}

pub unit-characters : (needed : Bool) (n : ℕ)
    → unit_text needed n ≡ cond needed 85 45 ∷ cond needed (digit (n / 10)) 45 ∷ cond needed (digit n) 45 ∷ []
unfolding unit_text
unit-characters true n = refl
unit-characters false n = refl

pub bus-characters : (needed : Bool) (n : ℕ)
    → bus_text needed n
    ≡ cond needed 66 45 ∷ cond needed (digit (n / 100)) 45 ∷ cond needed (digit (n / 10)) 45 ∷ cond needed (digit n) 45 ∷ []
unfolding bus_text
bus-characters true n = refl
bus-characters false n = refl

-- a value's line, from its fields
pub line-characters : (v b k o n r u x y z : ℕ) (value birth word name register unit left right result : List ℕ)
    → value ≡ two_digits v → birth ≡ two_digits b → word ≡ operation_text k o → name ≡ two_digits n → register ≡ two_digits r
    → unit ≡ unit_text (eqb k 2 && leb 3 o) u → left ≡ bus_text (eqb k 2) x → right ≡ bus_text (eqb k 2 && leb 3 o) y
    → result ≡ bus_text (eqb k 2 && leb 3 o) z
    → ◌≡◌ {A = List ℕ} (get_or value 0 0 ∷ get_or value 1 0 ∷ 32 ∷ get_or birth 0 0 ∷ get_or birth 1 0 ∷ 32 ∷ get_or word 0 0 ∷ get_or word 1 0 ∷ get_or word 2 0 ∷ 32 ∷ 86 ∷ get_or name 0 0 ∷ get_or name 1 0 ∷ 32 ∷ 82 ∷ get_or register 0 0 ∷ get_or register 1 0 ∷ 32 ∷ get_or unit 0 0 ∷ get_or unit 1 0 ∷ get_or unit 2 0 ∷ 32 ∷ get_or left 0 0 ∷ get_or left 1 0 ∷ get_or left 2 0 ∷ get_or left 3 0 ∷ 32 ∷ get_or right 0 0 ∷ get_or right 1 0 ∷ get_or right 2 0 ∷ get_or right 3 0 ∷ 32 ∷ get_or result 0 0 ∷ get_or result 1 0 ∷ get_or result 2 0 ∷ get_or result 3 0 ∷ 10 ∷ [])
    (line_text v b k o n r u x y z)
unfolding line_text operation_text
line-characters v b k o n r u x y z value birth word name register unit left right result e1 e2 e3 e4 e5 e6 e7 e8 e9 =
    let needed = eqb k 2 && leb 3 o in
    rw (
      e1,
      e2,
      e3,
      e4,
      e5,
      e6,
      e7,
      e8,
      e9,
      line_text,
      unit-characters needed u,
      bus-characters (eqb k 2) x,
      bus-characters needed y,
      bus-characters needed z,
    )

-- ---- every line of a value has 37 characters, so that its k-th stands at 37 * v + k

module _ (b d : List ℕ) where
  pub line-length : (v : ℕ) → length (line_of b d v) ≡ 37
  unfolding line_of line_text operation_text
  line-length v = simp (unit-characters, bus-characters)

  pub lines-length : length (rows (values b) (line_of b d)) ≡ 37 * values b
  lines-length = length-rows 37 (line_of b d) line-length (values b)

  pub character-of : (counts : List ℕ) (v k : ℕ) → v < values b → k < 37
      → get_or (listed b d counts) (37 * v + k) 0 ≡ get_or (line_of b d v) k 0
  unfolding listed
  character-of counts v k l h =
      get_or-append (rows (values b) (line_of b d)) counts 0 (37 * v + k) (omega (arith, lines-length))
      ∙ rows_at 37 (line_of b d) line-length 0 (values b) v k l h

  pub character-after : (counts : List ℕ) (k : ℕ) → get_or (listed b d counts) (37 * values b + k) 0 ≡ get_or counts k 0
  unfolding listed
  character-after counts k = rw (← lines-length) (get_or-append-add (rows (values b) (line_of b d)) counts k 0)

-- the line as the tables show it
pub shown-line : (t : Table) (places : List Place) (b d : List ℕ) (v : ℕ) → Shows t b → places ≡ places_of d → v < values b
    → line_text v (get_or t.entries v no_entry).birth (kind_number (get_or t.entries v no_entry).kind) (known_number (get_or t.entries v no_entry).operation)
    (get_or t.entries v no_entry).name (get_or places v no_place).register (get_or places v no_place).unit (get_or places v no_place).left
    (get_or places v no_place).right (get_or places v no_place).result
    ≡ line_of b d v
unfolding line_of entry_of place_of
shown-line t places b d v s p l =
    let fewer = s.fewer in
    let k = kinds b s.readable v l in
    rw (s.entry-is v (omega (arith, values-le b)), kind-numbered (kind b v) (low k) (high k), operation-numbered (operation b v) (operation-few b s.readable v l), p, place_is d v (omega arith))
  where
    low : (kind b v ≡ 1) ⊎ (kind b v ≡ 2) → 1 ≤ kind b v
    low (inl e) = omega arith
    low (inr e) = omega arith

    high : (kind b v ≡ 1) ⊎ (kind b v ≡ 2) → kind b v ≤ 3
    high (inl e) = omega arith
    high (inr e) = omega arith
