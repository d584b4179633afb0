-- The promise of `run_accepted` is met by a refusal of the checker, and by a run of the datapath of an accepted binding.
-- Demand 3, said of code; document 01, "Numbers that come back".
use Rattle.std.specs.Prelude.{ℕ, ◌≡◌, List}
use Rattle.std.proofs.Common.{◌∙◌}
use borrow.Author.Tests.{eq-eqb, ne_eqb}
use Rattle.reader.specs.Block.{reading}
use Rattle.reader.specs.Binding.{formed}
use Rattle.runner.specs.Answers.{refused, ran_datapath, outgoing_after_datapath, registers_after, RunsDatapath}
use Rattle.runner.specs.Numbers.{Ran}
use Rattle.checker.specs.Rules.{verdict}
use Rattle.checker.specs.Numbers.{Verdict}
use Rattle.checker.proofs.Acceptance.{accepted-keeps}
use Rattle.evidence.specs.SentRight.{sent-right}
use Rattle.evidence.specs.RunAccepted.{ran_accepted, outgoing_after_accepted, registers_after_accepted, RunsAccepted}

module _ (b d w o f : List ℕ) where
  pub not-accepted : (v : Verdict) → v ≡ verdict b d → (v.number ≡ 0 → ⊥) → RunsAccepted b d w o f (refused v.number v.later v.earlier) o f
  unfolding ran_accepted outgoing_after_accepted registers_after_accepted
  not-accepted v e n =
      let z = ne_eqb (verdict b d).number 0 (rw e at n) in
      record { answer = rw (e, z); outgoing = rw (z, z); registers = rw (z, z) }

  -- the two answers are one where the binding is accepted
  same_answer : (verdict b d).number ≡ 0 → ran_datapath b d w o f ≡ ran_accepted b d w o f
  unfolding ran_datapath ran_accepted
  same_answer e =
      let K = accepted-keeps b d e in
      rw (eq-eqb (reading b).number 0 K.readable, eq-eqb (formed b d).number 0 K.well-formed, eq-eqb (verdict b d).number 0 e)

  pub accepted-runs : (v : Verdict) → v ≡ verdict b d → v.number ≡ 0 → (r : Ran) (x y : List ℕ) → RunsDatapath b d w o f r x y
      → RunsAccepted b d w o f r x y
  unfolding outgoing_after_accepted registers_after_accepted outgoing_after_datapath registers_after
  accepted-runs v q n r x y P =
      let e : (verdict b d).number ≡ 0 = rw q at n in
      let s = same_answer e in
      record {
        answer = P.answer ∙ s;
        outgoing = P.outgoing ∙ rw (s, sent-right b d w f e);
        registers = P.registers ∙ rw s;
      }
