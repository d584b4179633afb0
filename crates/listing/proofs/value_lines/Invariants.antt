-- `value_lines` meets its contract. The loop's invariant: the lines of the first v values stand, for every block and binding that the tables show.
use Prim.Native.Nat.{ℕ, ◌*◌}
use mathlib.Core.Path.{◌≡◌}
use mathlib.Core.List.{List}
use Rattle.arrayvec.specs.ArrayVec.{array_vec_len}
use Rattle.ranges.specs.Below.{rows}
use Rattle.reader.specs.Binding.{places_of}
use Rattle.reader.specs.TableLaws.{Shows}
use Rattle.listing.specs.Text.{line_of}
use Rattle.listing.proofs.value_lines.Given as goal

abbrev pub invariant-loop-v : goal.invariant-loop-v
invariant-loop-v l =
    (array_vec_len l.text ≡ 37 * l.v) × ((b d : List ℕ) → Shows l.t b → l.places ≡ places_of d → l.text.items ≡ rows l.v (line_of b d))
