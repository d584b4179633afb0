-- The lines of the listing, as bytes (ASCII).
-- Document 01, "Block E, whole": "value, birth, operation, name, register, unit, left, right, result bus; then the three counts".
use Rattle.std.specs.Prelude.{ℕ, ◌+◌, ◌*◌, ◌/◌, ◌%◌, Bool, cond, ◌&&◌, List, [], ◌∷◌, ◌++◌, get_or, leb, eqb}
use Rattle.ranges.specs.Below.{rows}
use Rattle.reader.specs.Block.{kind, operation, name, birth, values}
use Rattle.reader.specs.Binding.{register, unit, bus}

-- ---- fixed widths: a number of two digits, of three

abbrev pub digit : ℕ → ℕ
digit n = 48 + n % 10

abbrev pub two_digits : ℕ → List ℕ
two_digits n = digit (n / 10) ∷ digit n ∷ []

abbrev pub three_digits : ℕ → List ℕ
three_digits n = digit (n / 100) ∷ digit (n / 10) ∷ digit n ∷ []

-- a field and what stands after it: a space, or the line feed that ends a line
abbrev pub space : ℕ
space = 32

abbrev pub line_feed : ℕ
line_feed = 10

abbrev pub followed : List ℕ → ℕ → List ℕ
followed text end = text ++ (end ∷ [])

-- ---- the fields of a value's line

-- three letters for each: inp mov con add sub mul and ior xor
abbrev pub operation_words : List ℕ
operation_words =
    105 ∷ 110 ∷ 112
    ∷ 109 ∷ 111 ∷ 118
    ∷ 99 ∷ 111 ∷ 110
    ∷ 97 ∷ 100 ∷ 100
    ∷ 115 ∷ 117 ∷ 98
    ∷ 109 ∷ 117 ∷ 108
    ∷ 97 ∷ 110 ∷ 100
    ∷ 105 ∷ 111 ∷ 114
    ∷ 120 ∷ 111 ∷ 114
    ∷ []

-- inp for an incoming value, else the word of the operation
unfoldable pub operation_text : ℕ → ℕ → List ℕ
operation_text kind operation =
    let k : ℕ = cond (eqb kind 1) 0 operation in
    get_or operation_words (3 * k) 0 ∷ get_or operation_words (3 * k + 1) 0 ∷ get_or operation_words (3 * k + 2) 0 ∷ []

-- V (86) and a name, R (82) and a register
abbrev pub labelled : ℕ → ℕ → List ℕ
labelled letter n = letter ∷ two_digits n

-- U (85) and the unit, or three dashes (45) where none is needed
unfoldable pub unit_text : Bool → ℕ → List ℕ
unit_text needed n = cond needed (labelled 85 n) (45 ∷ 45 ∷ 45 ∷ [])

-- B (66) and the bus, or four dashes
unfoldable pub bus_text : Bool → ℕ → List ℕ
bus_text needed n = cond needed (66 ∷ three_digits n) (45 ∷ 45 ∷ 45 ∷ 45 ∷ [])

-- a unit, a right and a result bus are needed by the operations 3 to 8, a left bus by every operation
unfoldable pub line_text : ℕ → ℕ → ℕ → ℕ → ℕ → ℕ → ℕ → ℕ → ℕ → ℕ → List ℕ
line_text value birth kind operation name register unit left right result =
    followed (two_digits value) space
    ++ followed (two_digits birth) space
    ++ followed (operation_text kind operation) space
    ++ followed (labelled 86 name) space
    ++ followed (labelled 82 register) space
    ++ followed (unit_text (eqb kind 2 && leb 3 operation) unit) space
    ++ followed (bus_text (eqb kind 2) left) space
    ++ followed (bus_text (eqb kind 2 && leb 3 operation) right) space
    ++ followed (bus_text (eqb kind 2 && leb 3 operation) result) line_feed

-- the line of the value v of the block b in the binding d
unfoldable pub line_of : List ℕ → List ℕ → ℕ → List ℕ
line_of b d v =
    line_text v (birth b v) (kind b v) (operation b v) (name b v) (register d v) (unit d v) (bus d v 0) (bus d v 1) (bus d v 2)

-- ---- the line of counts, `R 03 U 02 B 006`, and the refused line, `refused 08 02`

unfoldable pub counts_text : ℕ → ℕ → ℕ → List ℕ
counts_text registers units buses =
    followed (82 ∷ space ∷ two_digits registers) space
    ++ followed (85 ∷ space ∷ two_digits units) space
    ++ followed (66 ∷ space ∷ three_digits buses) line_feed

unfoldable pub refused_text : ℕ → ℕ → List ℕ
refused_text number first =
    (114 ∷ 101 ∷ 102 ∷ 117 ∷ 115 ∷ 101 ∷ 100 ∷ space ∷ [])
    ++ followed (two_digits number) space
    ++ followed (two_digits first) line_feed

-- ---- the lines of the values of b in the binding d, and the line of counts after them

unfoldable pub listed : List ℕ → List ℕ → List ℕ → List ℕ
listed b d counts = rows (values b) (line_of b d) ++ counts
