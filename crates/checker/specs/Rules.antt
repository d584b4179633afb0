-- The rules 16 to 19, and what the checker returns.
-- Document 01, "Binding records", "Numbers that come back".
use Rattle.std.specs.Prelude.{ℕ, Bool, cond, not, ◌&&◌, List, Option, Some, None, leb, ltb, eqb}
use Rattle.ranges.specs.Below.{count_below, any_below, first_below}
use Rattle.reader.specs.Block.{computes, values, overlap, reading}
use Rattle.reader.specs.Binding.{register, unit, bus, makes_use, may_share_unit, clash, same_connection, formed}
use Rattle.checker.specs.Numbers.{Verdict}
use Rattle.checker.specs.declared.search.Pair.{Pair}

-- ---- that the later record v and the earlier w break a rule

-- two operations on one unit
abbrev pub on_one_unit : List ℕ → List ℕ → ℕ → ℕ → Bool
on_one_unit b d v w = computes b v && computes b w && eqb (unit d v) (unit d w)

-- a use of v and a use of w have p
abbrev pub some_uses : List ℕ → ℕ → ℕ → (ℕ → ℕ → Bool) → Bool
some_uses b v w p = any_below 3 (λ i. any_below 3 (λ j. makes_use b v i && makes_use b w j && p i j))

-- the uses at i of v and at j of w may not share a bus, and do
abbrev pub clash_on_bus : List ℕ → List ℕ → ℕ → ℕ → ℕ → ℕ → Bool
clash_on_bus b d v w i j = clash b d v i w j && eqb (bus d v i) (bus d w j)

-- they are of one connection and on two buses
abbrev pub two_buses : List ℕ → List ℕ → ℕ → ℕ → ℕ → ℕ → Bool
two_buses b d v w i j = same_connection b d v i w j && not (eqb (bus d v i) (bus d w j))

-- one register, and a boundary that both occupy
unfoldable pub breaks16 : List ℕ → List ℕ → ℕ → ℕ → Bool
breaks16 b d v w = ltb w v && eqb (register d v) (register d w) && overlap b v w

-- one unit, and not of one class in different steps
unfoldable pub breaks17 : List ℕ → List ℕ → ℕ → ℕ → Bool
breaks17 b d v w = ltb w v && on_one_unit b d v w && not (may_share_unit b v w)

-- two uses in one step on one bus; they may be of one operation
unfoldable pub breaks18 : List ℕ → List ℕ → ℕ → ℕ → Bool
breaks18 b d v w = leb w v && some_uses b v w (clash_on_bus b d v w)

-- two uses of one connection on two buses
unfoldable pub breaks19 : List ℕ → List ℕ → ℕ → ℕ → Bool
breaks19 b d v w = ltb w v && some_uses b v w (two_buses b d v w)

-- ---- the first broken pair of a rule: the smallest later record, then the smallest earlier one

unfoldable pub later_of : ℕ → (ℕ → ℕ → Bool) → ℕ
later_of n breaks = first_below n (λ v. any_below n (breaks v))

unfoldable pub earlier_of : ℕ → (ℕ → ℕ → Bool) → ℕ
earlier_of n breaks = first_below n (breaks (later_of n breaks))

-- the answer of a search over all pairs of n values
unfoldable pub first_pair : ℕ → (ℕ → ℕ → Bool) → Option Pair
first_pair n breaks = cond (ltb (later_of n breaks) n) (Some (record { later = later_of n breaks; earlier = earlier_of n breaks })) None

-- ---- what the checker returns

-- counts are 0 on refusal
abbrev pub refusal : ℕ → ℕ → ℕ → Verdict
refusal number later earlier = record { number = number; later = later; earlier = earlier; registers = 0; units = 0; buses = 0 }

-- what a search for the rule k found, in the document's numbers: the refusal, or what follows where no pair breaks it
abbrev pub answered : ℕ → Option Pair → Verdict → Verdict
answered k (Some pair) next = refusal k pair.later pair.earlier
answered k None next = next

-- the refusal of the rule k where two of n values break it, else what follows
unfoldable pub or_broken : ℕ → ℕ → (ℕ → ℕ → Bool) → Verdict → Verdict
or_broken k n breaks next = answered k (first_pair n breaks) next

-- how many different registers, units and buses occur
unfoldable pub registers_used : List ℕ → List ℕ → ℕ
registers_used b d = count_below 80 (λ r. any_below (values b) (λ v. eqb (register d v) r))

unfoldable pub units_used : List ℕ → List ℕ → ℕ
units_used b d = count_below 80 (λ u. any_below (values b) (λ v. computes b v && eqb (unit d v) u))

unfoldable pub buses_used : List ℕ → List ℕ → ℕ
buses_used b d = count_below 240 (λ n. any_below (values b) (λ v. any_below 3 (λ p. makes_use b v p && eqb (bus d v p) n)))

-- no rule is broken
abbrev pub acceptance : List ℕ → List ℕ → Verdict
acceptance b d = record { number = 0; later = 0; earlier = 0; registers = registers_used b d; units = units_used b d; buses = buses_used b d }

-- block, 11, 12, then the first place with 13 or 14, then 16, 17, 18, 19 each over all pairs
unfoldable pub verdict : List ℕ → List ℕ → Verdict
verdict b d =
    cond (not (eqb (reading b).number 0)) (refusal (reading b).number (reading b).first (reading b).second)
    (cond (not (eqb (formed b d).number 0)) (refusal (formed b d).number (formed b d).place (formed b d).place)
    (or_broken 16 (values b) (breaks16 b d)
    (or_broken 17 (values b) (breaks17 b d)
    (or_broken 18 (values b) (breaks18 b d)
    (or_broken 19 (values b) (breaks19 b d)
    (acceptance b d))))))
