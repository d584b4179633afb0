-- The block's run by the reader's table: the word of a value by its entry, and the outgoing words by the entries of their records.
-- Document 01, "Values, steps and boundaries".
use Rattle.std.specs.Prelude.{◌≡◌, ℕ, ◌+◌, ◌<◌, ◌≤◌, true, cond, ◌⊎◌, Option, Some, None, List, get_or, take, replicate, bit_xor, slice_index, slice_index_or, slice_set}
use Rattle.std.proofs.Common.{sym, ◌∙◌, ap, ap₂, inl, inr, arith}
use borrow.Author.Tests.{ne_eqb}
use Rattle.ranges.specs.Truth.{by_equal, by_order, cond-true}
use Rattle.ranges.specs.Below.{tabulate, filled}
use Rattle.ranges.specs.Tables.{tabulate-same, filled_none, filled_at, filled_next, take-filled}
use Rattle.reader.specs.Block.{kind, operation, literal, records, is_outgoing, reads_left, reads_right, left_value, right_value, sent_value, values, outgoing}
use Rattle.reader.specs.Table.{no_entry, entry_of}
use Rattle.reader.specs.Kinds.{operation_at, incomes, is_move, is_constant, operation_number}
use Rattle.reader.specs.KindLaws.{incomes-is, move-is, constant-is, operation-known}
use Rattle.reader.specs.declared.kinds.Operation.{Operation}
use Rattle.reader.specs.TableLaws.{Shows, rows_few}
use Rattle.reader.specs.Boundaries.{values-le}
use Rattle.reader.specs.Readability.{Read, kinds, operation-range, is-outgoing, sent-source, outgoing-rest}
use Rattle.reader.specs.Readings.{reads-move, reads-result, computes-from, reads-left, reads-right, read-before}
use Rattle.reader.specs.declared.Entry.{Entry}
use Rattle.reader.specs.declared.Table.{Table}
use Rattle.runner.specs.BlockRun.{result, words, word_of, sent_words}
use Rattle.runner.specs.RunLaws.{word-from, word-before, word-incoming, word-move, word-constant, word-result}

-- what an operation gives of two words; where no operation is known, the exclusive or, as `result` has it of every number past 7
abbrev pub result_by : Option Operation → ℕ → ℕ → ℕ
result_by None x y = bit_xor x y
result_by (Some o) x y = result (operation_number o) x y

pub result-is : (n x y : ℕ) → 3 ≤ n → result_by (operation_at n) x y ≡ result n x y
unfolding operation_at result
result-is n x y l =
    by_order 8 n
    (λ h. rw (ne_eqb n 1 (λ q. omega arith), ne_eqb n 2 (λ q. omega arith), ne_eqb n 3 (λ q. omega arith), ne_eqb n 4 (λ q. omega arith), ne_eqb n 5 (λ q. omega arith), ne_eqb n 6 (λ q. omega arith), ne_eqb n 7 (λ q. omega arith), ne_eqb n 8 (λ q. omega arith)))
    (λ h. let k = operation-known n l h in rw (k.1, k.2))

-- the word of a value by its entry: as it came in, the left source's, the literal, or what the operation gives of its sources
unfoldable pub word_by : Entry → ℕ → ℕ → ℕ → ℕ
word_by e came left right =
    cond (incomes e.kind) came
    (cond (is_move e.operation) left
    (cond (is_constant e.operation) e.literal
    (result_by e.operation left right)))

-- the word of the outgoing record j, where all has the words of the values
abbrev pub sent_by : Table → List ℕ → ℕ → ℕ
sent_by t all j = slice_index all (get_or t.entries (t.values + j) no_entry).sent

-- what an entry has of its sources, where it reads them
module _ (b : List ℕ) (v : ℕ) where
  pub entry-left : reads_left b v ≡ true → (entry_of b v).left ≡ left_value b v
  unfolding entry_of
  entry-left t = cond-true (left_value b v) 0 t

  pub entry-right : reads_right b v ≡ true → (entry_of b v).right ≡ right_value b v
  unfolding entry_of
  entry-right t = cond-true (right_value b v) 0 t

  pub entry-sent : is_outgoing b v ≡ true → (entry_of b v).sent ≡ sent_value b v
  unfolding entry_of
  entry-sent t = cond-true (sent_value b v) 0 t

module _ (b : List ℕ) (v came left right : ℕ) where
  by-incoming : kind b v ≡ 1 → word_by (entry_of b v) came left right ≡ came
  unfolding word_by entry_of
  by-incoming k = rw (incomes-is (kind b v), k)

  by_move : kind b v ≡ 2 → operation b v ≡ 1 → word_by (entry_of b v) came left right ≡ left
  unfolding word_by entry_of
  by_move k e = rw (incomes-is (kind b v), move-is (operation b v), k, e)

  by-constant : kind b v ≡ 2 → operation b v ≡ 2 → word_by (entry_of b v) came left right ≡ literal b v
  unfolding word_by entry_of
  by-constant k e = rw (incomes-is (kind b v), move-is (operation b v), constant-is (operation b v), k, e)

  by_result : kind b v ≡ 2 → 3 ≤ operation b v → word_by (entry_of b v) came left right ≡ result (operation b v) left right
  unfolding word_by entry_of
  by_result k h =
      rw (incomes-is (kind b v), move-is (operation b v), constant-is (operation b v), k, ne_eqb (operation b v) 1 (λ q. omega arith), ne_eqb (operation b v) 2 (λ q. omega arith)) (result-is (operation b v) left right h)

module _ (b w : List ℕ) (R : Read b) (few : values b ≤ 80) where
  -- the words of the first v values, the rest 0
  abbrev known : ℕ → List ℕ
  known v = filled 80 v 0 (word_of b w)

  source : (v u : ℕ) → v < values b → u < v → slice_index (words b w v) u ≡ slice_index (known v) u
  source v u l h = word-before b w v u l h ∙ sym (filled_at 80 0 (word_of b w) v u (omega arith) h)

  module _ (v : ℕ) (l : v < values b) where
    left-known : kind b v ≡ 2 → reads_left b v ≡ true → slice_index (words b w v) (left_value b v) ≡ slice_index (known v) (entry_of b v).left
    left-known k t =
        source v (left_value b v) l (read-before b R v (left_value b v) l k (reads-left b v t)) ∙ ap (λ u. slice_index (known v) u) (sym (entry-left b v t))

    right-known : kind b v ≡ 2 → reads_right b v ≡ true → slice_index (words b w v) (right_value b v) ≡ slice_index (known v) (entry_of b v).right
    right-known k t =
        source v (right_value b v) l (read-before b R v (right_value b v) l k (reads-right b v t)) ∙ ap (λ u. slice_index (known v) u) (sym (entry-right b v t))

    pub word-by : word_by (entry_of b v) (slice_index w v) (slice_index (known v) (entry_of b v).left) (slice_index (known v) (entry_of b v).right) ≡ word_of b w v
    word-by = by_kind (kinds b R v l)
      where
        by : ℕ
        by = word_by (entry_of b v) (slice_index w v) (slice_index (known v) (entry_of b v).left) (slice_index (known v) (entry_of b v).right)

        by_kind : (kind b v ≡ 1) ⊎ (kind b v ≡ 2) → by ≡ word_of b w v
        by_kind (inl k) = by-incoming b v _ _ _ k ∙ sym (word-from b w v l ∙ word-incoming b w (words b w v) v k)
        by_kind (inr k) =
            by_equal (operation b v) 1
            (λ e. by_move b v _ _ _ k e ∙ sym (word-from b w v l ∙ word-move b w (words b w v) v k e ∙ left-known k (reads-move b v k e)))
            (λ n. by_equal (operation b v) 2
            (λ e. by-constant b v _ _ _ k e ∙ sym (word-from b w v l ∙ word-constant b w (words b w v) v k e))
            (λ m. let h : 3 ≤ operation b v = omega (arith, (operation-range b R v l k).2) in
            by_result b v _ _ _ k h ∙ sym (word-from b w v l ∙ word-result b w (words b w v) v k h
            ∙ ap₂ (result (operation b v)) (left-known k (reads-result b v k h)) (right-known k (computes-from b v k h)))))

-- a table of words that is right for the first v values, with the word of v by its entry
pub record Worded (t : Table) (w ws : List ℕ) (v : ℕ) : Type 0 where
  pub is : (b : List ℕ) → Shows t b → ws ≡ filled 80 v 0 (word_of b w)

pub worded-none : (t : Table) (w : List ℕ) → Worded t w (replicate 80 0) 0
worded-none t w = record { is = λ b S. filled_none 80 0 (word_of b w) }

pub worded-next : (t : Table) (w ws : List ℕ) (v : ℕ) → v < t.values → Worded t w ws v
    → Worded t w (slice_set ws v (word_by (slice_index_or t.entries v no_entry) (slice_index w v) (slice_index ws (get_or t.entries v no_entry).left) (slice_index ws (get_or t.entries v no_entry).right))) (v + 1)
worded-next t w ws v l W = record { is = next }
  where
    next : (b : List ℕ) → Shows t b
        → slice_set ws v (word_by (slice_index_or t.entries v no_entry) (slice_index w v) (slice_index ws (get_or t.entries v no_entry).left) (slice_index ws (get_or t.entries v no_entry).right)) ≡ filled 80 (v + 1) 0 (word_of b w)
    next b S =
        let h : v < values b = omega (arith, S.values-are) in
        rw (S.entry-is v (omega (arith, values-le b)), W.is b S, word-by b w S.readable S.fewer v h)
        (filled_next 80 0 (word_of b w) v (omega (arith, S.fewer)))

-- ---- the words that go out

-- where all has the word of each value, the outgoing records take theirs from it
pub sent-taken : (t : Table) (b : List ℕ) (S : Shows t b) (all : List ℕ) (word : ℕ → ℕ) → ((v : ℕ) → v < values b → slice_index all v ≡ word v)
    → take (outgoing b) (filled 80 t.outgoing 0 (sent_by t all)) ≡ tabulate (outgoing b) (λ j. word (sent_value b (values b + j)))
sent-taken t b S all word h =
    rw (S.outgoing-are, S.values-are)
    (take-filled 80 0 _ (outgoing b) (omega (arith, rows_few t b S, S.outgoing-are))
    ∙ tabulate-same (outgoing b) _ _ sent)
  where
    sent : (j : ℕ) → j < outgoing b → slice_index all (get_or t.entries (values b + j) no_entry).sent ≡ word (sent_value b (values b + j))
    sent j l =
        let r : values b + j < records b = omega (arith, outgoing-rest b S.readable) in
        let o = is-outgoing b S.readable (values b + j) r (omega arith) in
        rw (S.entry-is (values b + j) r, entry-sent b (values b + j) o) (h (sent_value b (values b + j)) (sent-source b S.readable (values b + j) r o))

-- the outgoing words, from the words of the values
pub block-sent : (t : Table) (b w : List ℕ) (S : Shows t b) (all : List ℕ) → all ≡ filled 80 (values b) 0 (word_of b w)
    → take (outgoing b) (filled 80 t.outgoing 0 (sent_by t all)) ≡ sent_words b w
unfolding sent_words
block-sent t b w S all e =
    sent-taken t b S all (word_of b w) (λ v l. rw e (filled_at 80 0 (word_of b w) (values b) v (omega (arith, S.fewer)) l))
