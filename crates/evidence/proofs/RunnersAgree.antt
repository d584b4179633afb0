-- Demand 3 through the promises alone: on the datapath of an accepted binding the two runners give one answer and leave one list of outgoing words, for all
-- words that come in and all words left in the registers at power-up.
-- Document 01, "How the datapath runs", "Numbers that come back"; demand 3.
use Rattle.std.specs.Prelude.{ℕ, ◌≡◌, List, length}
use Rattle.std.proofs.Common.{sym, ◌∙◌}
use Rattle.runner.specs.Answers.{RunsBlock, RunsDatapath}
use Rattle.runner.specs.Numbers.{Ran}
use Rattle.checker.specs.Rules.{verdict}
use Rattle.evidence.proofs.OneAnswer.{one_answer, one_list}

module _ (b d w o f : List ℕ) (accepted : (verdict b d).number ≡ 0) (whole : length f ≡ 80) where
  -- r and x of the block runner, s and y of the datapath runner, which leaves g in the registers
  pub runners-agree : (r s : Ran) (x y g : List ℕ) → RunsBlock b w o r x → RunsDatapath b d w o f s y g → (r ≡ s) × (x ≡ y)
  runners-agree r s x y g p q = (p.answer ∙ one_answer b d w o f accepted whole ∙ sym q.answer, p.outgoing ∙ one_list b d w o f accepted whole ∙ sym q.outgoing)
