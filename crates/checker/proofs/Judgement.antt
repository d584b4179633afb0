-- Of a readable block and a well-formed binding, what the checker's code answers of gathered values is the verdict.
-- Document 01, "Numbers that come back": 16, 17, 18, 19 each over all pairs, then the counts.
use Rattle.std.specs.Prelude.{ℕ, ◌+◌, ◌<◌, Bool, cond, not, ◌≡◌, List, [], ◌∷◌, length, take, get_or, Option, Some, None, eqb}
use Rattle.std.proofs.Common.{◌∙◌, ap, ap₂, add-one, drop, drop-cons}
use borrow.Author.Tests.{eq-eqb, ne_eqb}
use Rattle.ranges.specs.Finding.{any_same}
use Rattle.ranges.specs.Counting.{count_same}
use Rattle.reader.specs.Block.{values, reading}
use Rattle.reader.specs.Table.{entry_of, table_of}
use Rattle.reader.specs.Binding.{place_of, places_of, formed, form_of}
use Rattle.reader.specs.TableLaws.{shows}
use Rattle.reader.specs.WellFormed.{form-of-read}
use Rattle.reader.specs.Numbers.{Reading}
use Rattle.reader.specs.declared.Table.{Table}
use Rattle.reader.specs.Numbers.{Formed}
use Rattle.reader.specs.declared.Place.{Place}
use Rattle.checker.specs.Numbers.{Verdict}
use Rattle.checker.specs.declared.bound.Bound.{Bound}
use Rattle.checker.specs.declared.bound.Carried.{Carried}
use Rattle.checker.specs.declared.search.Pair.{Pair}
use Rattle.checker.specs.declared.counts.Resource.TheVariants.{Registers, Units, Buses}
use Rattle.checker.specs.declared.rules.Rule.{Rule}
use Rattle.checker.specs.declared.rules.Rule.TheVariants.{SharedRegister, SharedUnit, SharedBus, SplitConnection}
use Rattle.checker.specs.Rules.{breaks16, breaks17, breaks18, breaks19, refusal, first_pair, answered, or_broken, registers_used, units_used, buses_used, acceptance, verdict}
use Rattle.checker.proofs.FirstPair.{pair_same}
use Rattle.checker.specs.Bound.{rule_number, bound_in, breaks_in}
use Rattle.checker.specs.Judged.{Gathered, GatheredAlone, gathered-alone, made-is, bus-is, is16, is17, is18, is19}
use Rattle.checker.specs.Counted.{occurs_as, different_in}
use Rattle.checker.specs.Judgement.{acceptance_in, judged_by, judgement}

-- ---- a rule in its turn: what its search found, a pair, or none

module _ (rules : List Rule) (i : ℕ) (l : i < length rules) (all : List Bound) where
  abbrev rule : Rule
  rule = get_or rules i SharedRegister

  module _ {found : Option Pair} (e : found ≡ first_pair (length all) (breaks_in rule all)) where
    in-turn : judged_by (drop i rules) all ≡ answered (rule_number rule) found (judged_by (drop (i + 1) rules) all)
    unfolding judged_by
    in-turn = rw (e, drop-cons rules i SharedRegister l, add-one)

    pub broken-here : {pair : Pair} → found ≡ Some pair → judged_by (drop i rules) all ≡ refusal (rule_number rule) pair.later pair.earlier
    broken-here t = in-turn ∙ ap (λ (f : Option Pair). answered (rule_number rule) f (judged_by (drop (i + 1) rules) all)) t

    pub fine-then : found ≡ None → judged_by (drop i rules) all ≡ judged_by (drop (i + 1) rules) all
    fine-then t = in-turn ∙ ap (λ (f : Option Pair). answered (rule_number rule) f (judged_by (drop (i + 1) rules) all)) t

-- ---- of a readable block and a well-formed binding this is the verdict

both-pass : (r f : ℕ) (x y z : Verdict) → r ≡ 0 → f ≡ 0 → z ≡ cond (not (eqb r 0)) x (cond (not (eqb f 0)) y z)
both-pass r f x y z e h = rw (e, h)

module _ (all : List Bound) (b d : List ℕ) (A : GatheredAlone all b d) where
  abbrev G : Gathered all b d
  G = A.each

  same-registers : different_in Registers all ≡ registers_used b d
  unfolding different_in occurs_as registers_used place_of
  same-registers = rw A.long (count_same 80 _ _ (λ k h. any_same (values b) _ _ (λ v l. rw (G.value v l).place_is)))

  same_units : different_in Units all ≡ units_used b d
  unfolding different_in occurs_as units_used entry_of place_of
  same_units = rw A.long (count_same 80 _ _ (λ k h. any_same (values b) _ _ (λ v l. rw ((G.value v l).place_is, (G.value v l).entry-is))))

  same-buses : different_in Buses all ≡ buses_used b d
  unfolding different_in occurs_as buses_used
  same-buses =
      rw A.long (count_same 240 _ _ (λ k h. any_same (values b) _ _ (λ v l. any_same 3 _ _ (λ p i.
      rw (made-is b d v p (ap (λ (a : Carried). a.used) ((G.value v l).use-is p i)), bus-is b d v _ (G.value v l) p i)))))

  same-acceptance : acceptance_in all ≡ acceptance b d
  unfolding acceptance_in
  same-acceptance = rw (same-registers, same_units, same-buses)

  -- a rule and what follows it
  same-rule : (rule : Rule) (rules : List Rule) (breaks : ℕ → ℕ → Bool) (next : Verdict)
      → ((v w : ℕ) → v < values b → w < values b → breaks_in rule all v w ≡ breaks v w) → judged_by rules all ≡ next
      → judged_by (rule ∷ rules) all ≡ or_broken (rule_number rule) (values b) breaks next
  unfolding judged_by or_broken
  same-rule rule rules breaks next h e = rw A.long (ap₂ (answered (rule_number rule)) (pair_same (values b) (breaks_in rule all) breaks h) e)

  rules-verdict : (reading b).number ≡ 0 → (formed b d).number ≡ 0 → judgement all ≡ verdict b d
  unfolding judged_by verdict
  rules-verdict e f =
      same-rule SharedRegister (SharedUnit ∷ SharedBus ∷ SplitConnection ∷ []) (breaks16 b d) _ (is16 all b d G)
      (same-rule SharedUnit (SharedBus ∷ SplitConnection ∷ []) (breaks17 b d) _ (is17 all b d G)
      (same-rule SharedBus (SplitConnection ∷ []) (breaks18 b d) _ (is18 all b d G)
      (same-rule SplitConnection [] (breaks19 b d) _ (is19 all b d G) same-acceptance)))
      ∙ both-pass (reading b).number (formed b d).number _ _ _ e f

module _ (b d : List ℕ) {r : Reading} (e : r ≡ reading b) where
  pub block_refused : (r.number ≡ 0 → ⊥) → refusal r.number r.first r.second ≡ verdict b d
  unfolding verdict
  block_refused n = let m : (reading b).number ≡ 0 → ⊥ = rw e at n in rw (e, ne_eqb (reading b).number 0 m)

  module _ (z : r.number ≡ 0) where
    readable : (reading b).number ≡ 0
    readable = rw e at z

    module _ {f : Formed} (g : f ≡ form_of b d) where
      pub binding-refused : (f.number ≡ 0 → ⊥) → refusal f.number f.place f.place ≡ verdict b d
      unfolding verdict
      binding-refused n =
          let e = g ∙ form-of-read b d readable in
          let m : (formed b d).number ≡ 0 → ⊥ = rw e at n in
          rw (e, eq-eqb (reading b).number 0 readable, ne_eqb (formed b d).number 0 m)

      pub rules-judged : f.number ≡ 0 → {t : Table} {places : List Place} {all : List Bound} → t ≡ table_of b → places ≡ places_of d → all ≡ bound_in t places
          → judgement (take t.values all) ≡ verdict b d
      rules-judged y h k a =
          let S = shows b readable in
          ap₂ (λ (n : ℕ) (l : List Bound). judgement (take n l)) (ap (λ (t : Table). t.values) h ∙ S.values-are) (a ∙ ap₂ bound_in h k)
          ∙ rules-verdict _ b d (gathered-alone (table_of b) b d S) readable (rw (g ∙ form-of-read b d readable) at y)
