-- What the checker's code answers of gathered values.
-- Document 01, "Numbers that come back": 16, 17, 18, 19 each over all pairs, then the counts.
use Rattle.std.specs.Prelude.{List, [], ◌∷◌, length}
use Rattle.checker.specs.Numbers.{Verdict}
use Rattle.checker.specs.declared.bound.Bound.{Bound}
use Rattle.checker.specs.declared.counts.Resource.TheVariants.{Registers, Units, Buses}
use Rattle.checker.specs.declared.rules.Rule.{Rule}
use Rattle.checker.specs.declared.rules.Rule.TheVariants.{SharedRegister, SharedUnit, SharedBus, SplitConnection}
use Rattle.checker.specs.Rules.{first_pair, answered}
use Rattle.checker.specs.Bound.{rule_number, breaks_in}
use Rattle.checker.specs.Counted.{different_in}

-- the counts
unfoldable pub acceptance_in : List Bound → Verdict
acceptance_in all =
    record { number = 0; later = 0; earlier = 0; registers = different_in Registers all; units = different_in Units all; buses = different_in Buses all }

-- these rules, one after another, then the counts
unfoldable pub judged_by : List Rule → List Bound → Verdict
judged_by [] all = acceptance_in all
judged_by (rule ∷ rules) all = answered (rule_number rule) (first_pair (length all) (breaks_in rule all)) (judged_by rules all)

-- the rules in the order of their numbers
abbrev pub rules_in_order : List Rule
rules_in_order = SharedRegister ∷ SharedUnit ∷ SharedBus ∷ SplitConnection ∷ []

abbrev pub judgement : List Bound → Verdict
judgement all = judged_by rules_in_order all
