-- Every entry point gives the first refusal in the order that document 01 fixes, with the record numbers stated there, and 0 where none is given.
-- `Orders` has the orders and says when each number is given; `first-given-one` says that the first is one.
-- Document 01, "Numbers that come back"; demand 1.
use Rattle.std.specs.Prelude.{ℕ, ◌*◌, ◌<◌, Bool, true, false, not, cond, ◌≡◌, List, [], ◌++◌, length, eqb, ltb}
use Rattle.std.proofs.Math.Path.{refl}
use Rattle.std.proofs.Common.{⊎_elim, arith, eqb-true, eq-eqb, ne_eqb, le-leb}
use Rattle.std.proofs.lemmas.Bool.{eqb-false, not-true, not-false}
use Rattle.ranges.specs.Truth.{both, by-test, by_equal}
use Rattle.reader.specs.Block.{kind, operation, computes, reading, values, incoming, outgoing}
use Rattle.reader.specs.Binding.{formed, form_of, misformed}
use Rattle.reader.specs.WellFormed.{form-of-read}
use Rattle.runner.specs.Answers.{refused as stopped, done, counted, ran_block, ran_datapath}
use Rattle.runner.specs.Numbers.{Ran}
use Rattle.checker.specs.Rules.{refusal, later_of, earlier_of, first_pair, or_broken, breaks16, breaks17, breaks18, breaks19, verdict}
use Rattle.checker.specs.Acceptance.{Keeps}
use Rattle.checker.proofs.Acceptance.{accepted-keeps}
use Rattle.checker.specs.Numbers.{Verdict}
use Rattle.allocator.specs.Allocation.{binding_by}
use Rattle.allocator.specs.Answer.{allocated}
use Rattle.allocator.specs.Numbers.{Allocated}
use Rattle.evidence.specs.RunAccepted.{ran_accepted}
use Rattle.evidence.specs.Orders.{Row, FirstGiven, Computes, block_order, binding_order, Broken16, Broken17, Broken18, Broken19, pair_order, checker_order, word_order, file_order, block_runner_order, datapath_runner_order, accepted_runner_order, allocator_order}
use Rattle.evidence.specs.Decisions.{Decides, in_words, fails-to, equal, less}
use Rattle.evidence.specs.OrderLaws.{NoneGiven, empty, more, none_both, none_rows, none_first, Answers, turn, group, group-end, no-pair, first-pair}
use Rattle.evidence.specs.BindingDecisions.{decides-16, decides-17, decides-18, decides-19}
use Rattle.evidence.proofs.BlockOrder.{readable-none, block-first, formed-none, form-first}

-- ---- the reader

pub first-refusal-read : (b : List ℕ) → FirstGiven (block_order b) (reading b).number (reading b).first (reading b).second
first-refusal-read b = block-first b

pub first-refusal-form : (b d : List ℕ) → (reading b).number ≡ 0 → FirstGiven (binding_order b d) (form_of b d).number (form_of b d).place (form_of b d).place
first-refusal-form b d e = rw (form-of-read b d e) (form-first b d)

-- of a block that cannot be read nothing is said of the binding
pub form-of-unread : (b d : List ℕ) → ((reading b).number ≡ 0 → ⊥) → form_of b d ≡ misformed 0 0
unfolding form_of
form-of-unread b d n = rw (ne_eqb (reading b).number 0 n)

-- ---- the checker

abbrev number : Verdict → ℕ
number r = r.number

abbrev later : Verdict → ℕ
later r = r.later

abbrev earlier : Verdict → ℕ
earlier r = r.earlier

-- a rule over all pairs, as a test
pub broken-is : (k n : ℕ) (breaks : ℕ → ℕ → Bool) (next : Verdict)
    → or_broken k n breaks next ≡ cond (ltb (later_of n breaks) n) (refusal k (later_of n breaks) (earlier_of n breaks)) next
unfolding or_broken first_pair
broken-is k n breaks next = by-test (ltb (later_of n breaks) n) (λ t. rw t) (λ t. rw t)

module _ (k n : ℕ) (z : k ≡ 0 → ⊥) (breaks : ℕ → ℕ → Bool) (Broken : ℕ → ℕ → Type 0)
    (D : (v w : ℕ) → v < n → w < n → Decides (breaks v w) (Broken v w)) (next : Verdict) where
  rule : (ys : List Row) → Answers number later earlier ys next → Answers number later earlier (pair_order n k Broken ++ ys) (or_broken k n breaks next)
  rule ys F =
      rw (broken-is k n breaks next)
      (group number later earlier (ltb (later_of n breaks) n) _ next (λ t. (z, first-pair n k breaks Broken D t z)) (no-pair n k breaks Broken D) F)

  last-rule : next.number ≡ 0 → next.later ≡ 0 → next.earlier ≡ 0 → Answers number later earlier (pair_order n k Broken) (or_broken k n breaks next)
  last-rule e i j =
      rw (broken-is k n breaks next)
      (group-end number later earlier (ltb (later_of n breaks) n) _ next (λ t. first-pair n k breaks Broken D t z) (no-pair n k breaks Broken D) e i j)

-- a test on a number that is not 0
nonzero : (m : ℕ) → not (eqb m 0) ≡ true → m ≡ 0 → ⊥
nonzero m t = eqb-false m 0 (not-true _ t)

is_zero : (m : ℕ) → not (eqb m 0) ≡ false → m ≡ 0
is_zero m t = eqb-true m 0 (not-false _ t)

module _ (b d : List ℕ) where
  pub first-refusal-check : FirstGiven (checker_order b d) (verdict b d).number (verdict b d).later (verdict b d).earlier
  unfolding verdict
  first-refusal-check =
      group number later earlier (not (eqb (reading b).number 0)) _ _
      (λ t. (nonzero (reading b).number t, block-first b)) (λ t. readable-none b (is_zero (reading b).number t))
      (group number later earlier (not (eqb (formed b d).number 0)) _ _
      (λ t. (nonzero (formed b d).number t, form-first b d)) (λ t. formed-none b d (is_zero (formed b d).number t))
      (rule 16 (values b) (λ z. omega arith) (breaks16 b d) (Broken16 b d) (decides-16 b d) _ _
      (rule 17 (values b) (λ z. omega arith) (breaks17 b d) (Broken17 b d) (decides-17 b d) _ _
      (rule 18 (values b) (λ z. omega arith) (breaks18 b d) (Broken18 b d) (decides-18 b d) _ _
      (last-rule 19 (values b) (λ z. omega arith) (breaks19 b d) (Broken19 b d) (decides-19 b d) _ refl refl refl)))))

  -- no condition of the checker's order holds of an accepted binding
  accepted-none : Keeps b d → NoneGiven (checker_order b d)
  accepted-none K =
      none_both (readable-none b K.readable) (none_both (formed-none b d K.well-formed)
      (none_both (pairs 16 (Broken16 b d) (λ v w l m x. let k = x.2 in omega (arith, x.0, K.rule16 v w k.0 l m x.1 k.1 k.2)))
      (none_both (pairs 17 (Broken17 b d) shared)
      (none_both (pairs 18 (Broken18 b d) (λ v w l m x. let u = x.1 in u.5 (K.rule18 v u.0 w u.1 u.2 l u.3 m u.4 u.6 u.7 u.8)))
      (pairs 19 (Broken19 b d) (λ v w l m x. let u = x.1 in u.8 (K.rule19 v u.0 w u.1 l u.2 m u.3 u.4 u.5 u.6 u.7)))))))
    where
      computing : (v : ℕ) → Computes b v → computes b v ≡ true
      computing v p = both (eq-eqb (kind b v) 2 p.0) (le-leb 3 (operation b v) p.1)

      shared : (v w : ℕ) → v < values b → w < values b → Broken17 b d v w → ⊥
      shared v w l m x =
          let z = K.rule17 v w l m (λ e. omega (arith, x.0)) (computing v x.1) (computing w x.2) x.3 in
          ⊎_elim (λ n. n z.0) (λ k. z.1 k.0 k.1 k.2) x.4

      pairs : (k : ℕ) (Broken : ℕ → ℕ → Type 0) → ((v w : ℕ) → v < values b → w < values b → Broken v w → ⊥) → NoneGiven (pair_order (values b) k Broken)
      pairs k Broken h = none_rows (values b) _ (λ v l. none_rows (values b) _ (λ w m. more (h v w l m) empty))

-- ---- the runners

abbrev ran_number : Ran → ℕ
ran_number r = r.number

abbrev ran_first : Ran → ℕ
ran_first r = r.first

abbrev ran_second : Ran → ℕ
ran_second r = r.second

-- 21 and 22, and what follows
words-first : (b w o : List ℕ) (next : Ran) (ys : List Row) → Answers ran_number ran_first ran_second ys next
    → Answers ran_number ran_first ran_second (word_order b w o ++ ys) (counted b w o next)
unfolding counted
words-first b w o next ys F =
    turn ran_number ran_first ran_second (not (eqb (length w) (incoming b))) _ _ 21 (fails-to (equal (length w) (incoming b))) refl refl refl
    (turn ran_number ran_first ran_second (not (eqb (length o) (outgoing b))) _ _ 22 (fails-to (equal (length o) (outgoing b))) refl refl refl F)

pub first-refusal-run-block : (b w o : List ℕ)
    → FirstGiven (block_runner_order b w o) (ran_block b w o).number (ran_block b w o).first (ran_block b w o).second
unfolding ran_block
first-refusal-run-block b w o =
    group ran_number ran_first ran_second (not (eqb (reading b).number 0)) _ _
    (λ t. (nonzero (reading b).number t, block-first b)) (λ t. readable-none b (is_zero (reading b).number t))
    (words-first b w o (done (outgoing b)) [] (none_first empty))

-- 21, 22, 23
file-first : (b w o f : List ℕ) (next : Ran) → next.number ≡ 0 → next.first ≡ 0 → next.second ≡ 0
    → Answers ran_number ran_first ran_second (file_order b w o f) (counted b w o (cond (not (eqb (length f) 80)) (stopped 23 0 0) next))
file-first b w o f next e i j =
    words-first b w o _ _
    (turn ran_number ran_first ran_second (not (eqb (length f) 80)) _ next 23 (fails-to (equal (length f) 80)) refl refl refl (rw (e, i, j) (none_first empty)))

pub first-refusal-run-datapath : (b d w o f : List ℕ)
    → FirstGiven (datapath_runner_order b d w o f) (ran_datapath b d w o f).number (ran_datapath b d w o f).first (ran_datapath b d w o f).second
unfolding ran_datapath
first-refusal-run-datapath b d w o f =
    group ran_number ran_first ran_second (not (eqb (reading b).number 0)) _ _
    (λ t. (nonzero (reading b).number t, block-first b)) (λ t. readable-none b (is_zero (reading b).number t))
    (group ran_number ran_first ran_second (not (eqb (formed b d).number 0)) _ _
    (λ t. (nonzero (formed b d).number t, form-first b d)) (λ t. formed-none b d (is_zero (formed b d).number t))
    (file-first b w o f (done (outgoing b)) refl refl refl))

pub first-refusal-run-accepted : (b d w o f : List ℕ)
    → FirstGiven (accepted_runner_order b d w o f) (ran_accepted b d w o f).number (ran_accepted b d w o f).first (ran_accepted b d w o f).second
unfolding ran_accepted
first-refusal-run-accepted b d w o f =
    group ran_number ran_first ran_second (not (eqb (verdict b d).number 0)) _ _
    (λ t. (nonzero (verdict b d).number t, first-refusal-check b d))
    (λ t. accepted-none b d (accepted-keeps b d (is_zero (verdict b d).number t)))
    (file-first b w o f (done (outgoing b)) refl refl refl)

-- ---- the allocator

abbrev bound_number : Allocated → ℕ
bound_number r = r.number

abbrev bound_first : Allocated → ℕ
bound_first r = r.first

abbrev bound_second : Allocated → ℕ
bound_second r = r.second

-- method not 0 or 1
method-unknown : (m : ℕ) → Decides (ltb 1 m) ((m ≡ 0 → ⊥) × (m ≡ 1 → ⊥))
method-unknown m = in_words (less 1 m) (λ l. (λ e. omega arith, λ e. omega arith)) (λ n. by_equal m 0 (λ e. absurd (n.0 e)) (λ x. by_equal m 1 (λ e. absurd (n.1 e)) (λ y. omega arith)))

pub first-refusal-bind : (b : List ℕ) (m room : ℕ)
    → FirstGiven (allocator_order b m room) (allocated b m room).number (allocated b m room).first (allocated b m room).second
unfolding allocated
first-refusal-bind b m room =
    turn bound_number bound_first bound_second (ltb 1 m) _ _ 9 (method-unknown m) refl refl refl
    (group bound_number bound_first bound_second (not (eqb (reading b).number 0)) _ _
    (λ t. (nonzero (reading b).number t, block-first b)) (λ t. readable-none b (is_zero (reading b).number t))
    (turn bound_number bound_first bound_second (not (eqb (verdict b (binding_by m b)).number 0)) _ _ 20 (fails-to (equal (verdict b (binding_by m b)).number 0)) refl refl refl
    (turn bound_number bound_first bound_second (ltb room (8 * values b)) _ _ 10 (less room (8 * values b)) refl refl refl (none_first empty))))
