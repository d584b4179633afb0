-- What the search for the value that a reading gets goes by: of each value its name and its birth.
-- Document 01, "Values, steps and boundaries".
use Rattle.std.specs.Prelude.{◌≡◌, ℕ, ◌<◌, Bool, true, cond, ◌&&◌, List, length, get_or, Option, Some, None, ltb, eqb}
use Rattle.ranges.specs.Below.{tabulate}
use Rattle.reader.specs.Block.{name, is_value, birth}
use Rattle.reader.specs.declared.Latest.{Latest}
use Rattle.reader.specs.declared.Named.{Named}

-- a record that makes no value has none
unfoldable pub named_in : List ℕ → ℕ → Option Named
named_in b i = cond (is_value b i) (Some (record { name = name b i; birth = birth b i })) None

unfoldable pub names_in : List ℕ → List (Option Named)
names_in b = tabulate 80 (named_in b)

-- the names are those of the first records of b
pub record Noted (names : List (Option Named)) (b : List ℕ) : Type 0 where
  pub each : (k : ℕ) → k < length names → get_or names k None ≡ named_in b k

-- a birth after that of what is found
abbrev pub is_later : Option Latest → ℕ → Bool
is_later (Some found) birth = ltb found.birth birth
is_later None birth = true

-- the record i, own, where it is a value of the name n born below s and later than what is found; so the first of the latest stays
abbrev pub later : Option Latest → ℕ → Option Named → ℕ → ℕ → Option Latest
later found i (Some own) s n =
    cond (eqb own.name n && ltb own.birth s && is_later found own.birth) (Some (record { at = i; birth = own.birth })) found
later found i None s n = found

-- where it was found, m where nothing was
abbrev pub found_at : ℕ → Option Latest → ℕ
found_at m (Some found) = found.at
found_at m None = m
