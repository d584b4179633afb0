-- What the judge of one record goes by: the record, read of its eight bytes, and what the records before it told.
-- Document 01, "Records of a block": "the code that judges a record gets no more than that and what was learned earlier".
use Rattle.std.specs.Prelude.{ℕ, ◌*◌, min, Bool, cond, not, ◌&&◌, ◌||◌, List, get_or, set, replicate, take, drop, ltb, eqb, Result, Ok, Err}
use Rattle.reader.specs.Block.{records, values, first_fault, fault, at_end}
use Rattle.reader.specs.declared.Known.{Known}
use Rattle.reader.specs.declared.Learned.{Learned}
use Rattle.reader.specs.declared.Record.{Record}
use Rattle.reader.specs.declared.refusals.Reason.{Reason}
use Rattle.reader.specs.declared.refusals.Reason.TheVariants.{Kind, Order, Range, Unused, Twice, Missing}
use Rattle.reader.specs.Numbers.{Formed}
use Rattle.reader.specs.Records.{kind_fault_of, range_fault_of, unused_fault_of, mark_of}
use Rattle.reader.specs.Binding.{place_fault, first_place_fault, misformed}

-- the eight bytes of the record i
abbrev pub record_at : List ℕ → ℕ → List ℕ
record_at b i = take 8 (drop (8 * i) b)

-- of a name without a record: its earliest birth above all, no mark
abbrev pub unknown : Known
unknown = record { earliest = at_end; latest = 0 }

-- before the first record: no kind, no step, no name's record
abbrev pub nothing : Learned
nothing = record { kind = 0; step = 0; names = replicate 64 unknown }

-- past the end all 0
abbrev pub no_known : Known
no_known = record { earliest = 0; latest = 0 }

-- what is known of the name n
abbrev pub known_of : Learned → ℕ → Known
known_of l n = get_or l.names n no_known

-- the smallest birth of a value of f's name, after the record f too
abbrev pub earliest_after : Record → Learned → ℕ
earliest_after f l = cond (eqb f.kind 1 || eqb f.kind 2) (min (known_of l f.name).earliest f.birth) (known_of l f.name).earliest

-- what is known after f too; a name past the end is not kept
unfoldable pub learned_after : Record → Learned → Learned
learned_after f l =
    record {
      kind = f.kind;
      step = f.step;
      names = set l.names f.name (record { earliest = earliest_after f l; latest = mark_of f });
    }

unfoldable pub order_known : Record → Learned → Bool
order_known f l = ltb f.kind l.kind || eqb l.kind 2 && eqb f.kind 2 && ltb f.step l.step

unfoldable pub twice_known : Record → Learned → Bool
twice_known f l = eqb (known_of l f.name).latest (mark_of f)

-- the name n has a value born below s
abbrev pub born_known : Learned → ℕ → ℕ → Bool
born_known l s n = ltb (known_of l n).earliest s

unfoldable pub missing_known : Record → Learned → Bool
missing_known f l =
    f.reads_left && not (born_known l f.step f.left)
    || f.reads_right && not (born_known l f.step f.right)
    || eqb f.kind 3 && not (born_known l at_end f.name)

-- lowest number first
unfoldable pub judgement_of : Record → Learned → Result (Unit {0}) Reason
judgement_of f l =
    cond (kind_fault_of f) (Err Kind)
    (cond (order_known f l) (Err Order)
    (cond (range_fault_of f) (Err Range)
    (cond (unused_fault_of f) (Err Unused)
    (cond (twice_known f l) (Err Twice)
    (cond (missing_known f l) (Err Missing) (Ok tt))))))

-- what is known after a record without a fault
abbrev pub then_learned : Result (Unit {0}) Reason → Learned → Result Learned Reason
then_learned (Ok u) l = Ok l
then_learned (Err r) l = Err r

unfoldable pub judged_by : Record → Learned → Result Learned Reason
judged_by f l = then_learned (judgement_of f l) (learned_after f l)

-- the first record with a fault and its number, 0 where none has one
unfoldable pub found_in : List ℕ → Formed
found_in b = cond (ltb (first_fault b) (records b)) (misformed (fault b (first_fault b)) (first_fault b)) (misformed 0 0)

-- ---- the places of a binding

-- the first place with a fault and its number, 0 where none has one
unfoldable pub places_formed : List ℕ → List ℕ → Formed
places_formed b d =
    cond (ltb (first_place_fault b d) (values b)) (misformed (place_fault b d (first_place_fault b d)) (first_place_fault b d)) (misformed 0 0)
