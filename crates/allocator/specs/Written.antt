-- The bytes of a binding from its places and its buses.
-- Document 01, "Binding records".
use Rattle.std.specs.Prelude.{ℕ, ◌+◌, ◌*◌, ◌<◌, ◌≡◌, List, [], ◌∷◌, get_or}
use Rattle.reader.specs.Block.{values}
use Rattle.reader.specs.Binding.{no_place}
use Rattle.reader.specs.declared.Place.{Place}
use Rattle.allocator.specs.Allocation.{bus_of, bus_numbers}

-- the record of the value v; the bus of its use at p stands at 3 * v + p
unfoldable pub record_of : List Place → List ℕ → ℕ → List ℕ
record_of places buses v =
    v ∷ (get_or places v no_place).register ∷ (get_or places v no_place).unit
    ∷ get_or buses (3 * v + 0) 0 ∷ get_or buses (3 * v + 1) 0 ∷ get_or buses (3 * v + 2) 0 ∷ 0 ∷ 0 ∷ []

-- the table has the bus of each use of the block b, whose registers and units stand in d
pub record Bused (buses : List ℕ) (b d : List ℕ) : Type 0 where
  pub bus : (v p : ℕ) → v < values b → p < 3 → get_or buses (3 * v + p) 0 ≡ bus_of b d (bus_numbers b d) v p
