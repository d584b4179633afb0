-- What the checker's code has of one value: its record, last boundary, place and uses gathered, and each rule as a test of two such.
-- Document 01, "Binding records", in the fields that the reader hands on; Judged has the laws, that these tests are the rules.
use Rattle.std.specs.Prelude.{ℕ, ◌+◌, ◌*◌, ◌<◌, Bool, false, not, ◌&&◌, ◌≡◌, List, [], ◌∷◌, Option, Some, None, get_or, leb, ltb, eqb}
use Rattle.std.proofs.Common.{arith, le-ltb}
use Rattle.std.proofs.lemmas.Bool.{lt-leb}
use Rattle.ranges.specs.Below.{any_below, tabulate}
use Rattle.reader.specs.Table.{no_entry}
use Rattle.reader.specs.Binding.{no_place, same_source, same_sink}
use Rattle.reader.specs.Uses.{no_use, uses_in, if_made}
use Rattle.reader.specs.declared.Entry.{Entry}
use Rattle.reader.specs.declared.Table.{Table}
use Rattle.reader.specs.declared.Place.{Place}
use Rattle.reader.specs.declared.Use.{Use}
use Rattle.reader.specs.declared.refusals.Reason.{Reason}
use Rattle.reader.specs.declared.refusals.Reason.TheVariants.{Registers, Units, Buses, Connections}
use Rattle.reader.specs.Refusals.{number_of}
use Rattle.reader.specs.Kinds.{same_class}
use Rattle.checker.specs.declared.bound.Bound.{Bound}
use Rattle.checker.specs.declared.bound.Carried.{Carried}
use Rattle.checker.specs.declared.rules.Rule.{Rule}
use Rattle.checker.specs.declared.rules.Rule.TheVariants.{SharedRegister, SharedUnit, SharedBus, SplitConnection}

-- ---- one value

-- a use, made or not, and its bus
abbrev pub carried_by : Option Use → ℕ → Carried
carried_by used bus = record { used = used; bus = bus }

-- the uses left, right, result, on the buses of the place
abbrev pub bound_by : Entry → ℕ → Place → Option Use → Option Use → Option Use → Bound
bound_by entry last place left right result =
    record {
      entry = entry;
      last = last;
      place = place;
      uses = carried_by left place.left ∷ carried_by right place.right ∷ carried_by result place.result ∷ [];
    }

unfoldable pub bound_at : List Entry → List ℕ → List Place → List Use → ℕ → Bound
bound_at entries lasts places uses v =
    bound_by (get_or entries v no_entry) (get_or lasts v 0) (get_or places v no_place) (if_made (get_or uses (3 * v) no_use))
    (if_made (get_or uses (3 * v + 1) no_use)) (if_made (get_or uses (3 * v + 2) no_use))

unfoldable pub bound_in : Table → List Place → List Bound
bound_in t places = tabulate 80 (bound_at t.entries t.lasts places (uses_in t places))

-- ---- the rules as tests of the values v and w, which are x and y

-- why a binding is refused that breaks the rule; its number is the document's number of the rule
abbrev pub reason_of : Rule → Reason
reason_of SharedRegister = Registers
reason_of SharedUnit = Units
reason_of SharedBus = Buses
reason_of SplitConnection = Connections

abbrev pub rule_number : Rule → ℕ
rule_number rule = number_of (reason_of rule)

-- the use at i, with its bus
abbrev pub carried : Bound → ℕ → Carried
carried x i = get_or x.uses i (carried_by None 0)

-- one register and a common boundary
unfoldable pub shares_register : Bound → Bound → Bool
shares_register x y =
    eqb x.place.register y.place.register && (leb x.entry.birth y.last && leb y.entry.birth x.last)

-- two that compute on one unit, and not of one class in different steps
unfoldable pub shares_unit : Bound → Bound → Bool
shares_unit x y =
    x.entry.computes
    && y.entry.computes
    && eqb x.place.unit y.place.unit
    && not (same_class x.entry.class y.entry.class && not (eqb x.entry.step y.entry.step))

-- of two uses, both made
abbrev pub of_both : (Use → Use → Bool) → Option Use → Option Use → Bool
of_both p (Some x) (Some y) = p x y
of_both p (Some x) None = false
of_both p None u = false

-- that are not one: in one step on one bus
unfoldable pub uses_clash : Bool → Carried → Carried → Bool
uses_clash one a c = of_both (λ x y. not one && eqb x.step y.step && eqb a.bus c.bus) a.used c.used

-- of one connection on two buses
unfoldable pub uses_part : Carried → Carried → Bool
uses_part a c = of_both (λ x y. same_source x.source y.source && same_sink x.sink y.sink && not (eqb a.bus c.bus)) a.used c.used

-- by the rule 18 or 19
unfoldable pub uses_break : Rule → Bool → Carried → Carried → Bool
uses_break SharedBus one a c = uses_clash one a c
uses_break SharedRegister one a c = uses_part a c
uses_break SharedUnit one a c = uses_part a c
uses_break SplitConnection one a c = uses_part a c

-- some use of x and some use of y; same says that x and y are one value
unfoldable pub some_break : Rule → Bool → Bound → Bound → Bool
some_break rule same x y = any_below 3 (λ i. any_below 3 (λ j. uses_break rule (same && eqb i j) (carried x i) (carried y j)))

-- the rule is broken by the later v and the earlier w
unfoldable pub breaks_bound : Rule → ℕ → ℕ → Bound → Bound → Bool
breaks_bound SharedRegister v w x y = ltb w v && shares_register x y
breaks_bound SharedUnit v w x y = ltb w v && shares_unit x y
breaks_bound SharedBus v w x y = leb w v && some_break SharedBus (eqb v w) x y
breaks_bound SplitConnection v w x y = ltb w v && some_break SplitConnection (eqb v w) x y

abbrev pub no_bound : Bound
no_bound = record { entry = no_entry; last = 0; place = no_place; uses = [] }

unfoldable pub breaks_in : Rule → List Bound → ℕ → ℕ → Bool
breaks_in rule all v w = breaks_bound rule v w (get_or all v no_bound) (get_or all w no_bound)

-- no rule is broken by a value and one after it
pub only-earlier : (rule : Rule) (all : List Bound) (v w : ℕ) → v < w → breaks_in rule all v w ≡ false
unfolding breaks_in breaks_bound
only-earlier SharedRegister all v w l = rw (le-ltb w v (omega arith))
only-earlier SharedUnit all v w l = rw (le-ltb w v (omega arith))
only-earlier SharedBus all v w l = rw (lt-leb w v l)
only-earlier SplitConnection all v w l = rw (le-ltb w v (omega arith))
