-- What is promised of the two runners on an accepted binding is one answer and one list of outgoing words.
-- Document 01, "How the datapath runs", "Numbers that come back"; demand 3.
use Rattle.std.specs.Prelude.{ℕ, ◌≡◌, List, length}
use borrow.Author.Tests.{eq-eqb}
use Rattle.reader.specs.Block.{reading}
use Rattle.reader.specs.Binding.{formed}
use Rattle.runner.specs.Answers.{ran_block, outgoing_after_block, ran_datapath, outgoing_after_datapath}
use Rattle.checker.specs.Rules.{verdict}
use Rattle.checker.proofs.Acceptance.{accepted-keeps}
use Rattle.evidence.specs.SentRight.{sent-right}

module _ (b d w o f : List ℕ) (accepted : (verdict b d).number ≡ 0) (whole : length f ≡ 80) where
  pub one_answer : ran_block b w o ≡ ran_datapath b d w o f
  unfolding ran_block ran_datapath
  one_answer =
      let K = accepted-keeps b d accepted in
      rw (eq-eqb (reading b).number 0 K.readable, eq-eqb (formed b d).number 0 K.well-formed, eq-eqb (length f) 80 whole)

  pub one_list : outgoing_after_block b w o ≡ outgoing_after_datapath b d w o f
  unfolding outgoing_after_block outgoing_after_datapath
  one_list = rw (one_answer, sent-right b d w f accepted)
