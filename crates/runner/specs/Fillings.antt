-- A register file that takes its words value after value, and that it is the file of document 01 once all values are through.
-- Document 01, "How the datapath runs".
use Rattle.std.specs.Prelude.{◌≡◌, ℕ, ◌+◌, ◌<◌, Bool, true, false, cond, ◌&&◌, List, length, get_or, replicate, ◌==◌, ◌≢◌, slice_index, slice_index_or, slice_set}
use Rattle.std.proofs.Math.Bool.{or-false}
use Rattle.std.proofs.Math.Path.{refl, sym, ap, ap₂}
use Rattle.std.proofs.Common.{◌∙◌, arith, add-one, ext_get_or}
use Rattle.std.proofs.Math.ListN.{length-replicate, get_or-replicate}
use borrow.Author.Tests.{eq-eqb, ne_eqb}
use Rattle.ranges.specs.Truth.{both, by-test, by_equal, cond-true, cond-false}
use Rattle.ranges.specs.Below.{count_below, sum_below, any_below, first_below, tabulate}
use Rattle.ranges.specs.Finding.{any_next, any-witness, any-true, any_false, first-at, first-le, first_holds, first-before}
use Rattle.ranges.specs.Counting.{count-more, count-skip, count-zero, count-grows}
use Rattle.ranges.specs.Tables.{length-tabulate, get_d_tabulate, tabulate-same, tabulate-set}
use Rattle.reader.specs.Block.{kind, is_incoming, values}
use Rattle.reader.specs.Table.{no_entry, entry_of}
use Rattle.reader.specs.Kinds.{incomes, operates}
use Rattle.reader.specs.KindLaws.{incomes-is, operates-is}
use Rattle.reader.specs.Boundaries.{values-le}
use Rattle.reader.specs.Binding.{register, written_in, no_place, place_of}
use Rattle.reader.specs.declared.Entry.{Entry}
use Rattle.reader.specs.declared.Place.{Place}
use Rattle.reader.specs.declared.Table.{Table}
use Rattle.runner.specs.BoundTables.{Laid}
use Rattle.runner.specs.DatapathRun.{by_count, arriving, register_after, register_at_entry, file_after, file_at}
use Rattle.runner.specs.declared.filling.Filling.{Filling}

-- the register r takes the word x; where it took one already, 0
unfoldable pub taken : Filling → ℕ → ℕ → Filling
taken s r x = record { began = s.began; words = slice_set s.words r (cond (slice_index_or s.written r false) 0 x); written = slice_set s.written r true }

-- the file f once the first n values are through, those that have q each bringing its word x to its register g
unfoldable pub filling : (ℕ → Bool) → (ℕ → ℕ) → (ℕ → ℕ) → List ℕ → ℕ → Filling
filling q g x f n =
    record {
      began = f;
      words = tabulate 80 (λ r. by_count n (λ v. q v && g v == r) x (slice_index f r));
      written = tabulate 80 (λ r. any_below n (λ v. q v && g v == r));
    }

-- in the step k, and at entry
abbrev pub step_filling : List ℕ → List ℕ → List ℕ → ℕ → ℕ → Filling
step_filling b d f k n = filling (λ v. written_in b v k) (register d) (arriving b d f k) f n

abbrev pub entry_filling : List ℕ → List ℕ → List ℕ → List ℕ → ℕ → Filling
entry_filling b d w f n = filling (is_incoming b) (register d) (λ v. slice_index w v) f n

-- ---- exactly one, several, none: one value more

module _ (n : ℕ) (p : ℕ → Bool) (x : ℕ → ℕ) (other : ℕ) where
  some-counted : any_below n p ≡ true → 0 < count_below n p
  some-counted t =
      let w = any-witness n p t in
      omega (arith, count-grows p w.0 n w.1 w.2)

  none-counted : any_below n p ≡ false → count_below n p ≡ 0
  none-counted t = count-zero n p (any_false n p t)

  -- the first of n is the first of one more
  first-stays : any_below n p ≡ true → first_below (n + 1) p ≡ first_below n p
  first-stays t =
      let w = any-witness n p t in
      let l : first_below n p < n = omega (arith, first-le n p w.0 w.2, w.1) in
      first-at (n + 1) p (first_below n p) (omega arith) (first-before n p) (λ _. first_holds n p l)

  none_of : (m : ℕ) → count_below m p ≡ 0 → by_count m p x other ≡ other
  unfolding by_count
  none_of m e = rw e

  one_of : (m : ℕ) → count_below m p ≡ 1 → by_count m p x other ≡ x (first_below m p)
  unfolding by_count
  one_of m e = rw e

  several-of : (m : ℕ) → 1 < count_below m p → by_count m p x other ≡ 0
  unfolding by_count
  several-of m l = rw (ne_eqb (count_below m p) 0 (λ q. omega arith), ne_eqb (count_below m p) 1 (λ q. omega arith))

  one_more : p n ≡ true → by_count (n + 1) p x other ≡ cond (any_below n p) 0 (x n)
  one_more t =
      let e = count-more n p t in
      by-test (any_below n p)
      (λ a. several-of (n + 1) (omega (arith, some-counted a)) ∙ sym (cond-true 0 (x n) a))
      (λ a. one_of (n + 1) (omega (arith, none-counted a)) ∙ ap x (first-at (n + 1) p n (omega arith) (any_false n p a) (λ _. t)) ∙ sym (cond-false 0 (x n) a))

  no_more : p n ≡ false → by_count (n + 1) p x other ≡ by_count n p x other
  no_more t =
      let e = count-skip n p t in
      by-test (any_below n p)
      (λ a. let s = some-counted a in by_equal (count_below n p) 1
      (λ o. one_of (n + 1) (omega arith) ∙ ap x (first-stays a) ∙ sym (one_of n o))
      (λ o. several-of (n + 1) (omega arith) ∙ sym (several-of n (omega arith))))
      (λ a. let z = none-counted a in none_of (n + 1) (omega arith) ∙ sym (none_of n z))

-- ---- the file value by value

abbrev pair : List ℕ → List ℕ → List Bool → Filling
pair began words written = record { began = began; words = words; written = written }

module _ (q : ℕ → Bool) (g x : ℕ → ℕ) (f : List ℕ) where
  -- v brings its word to the register r
  abbrev brings : ℕ → ℕ → Bool
  brings r v = q v && g v == r

  abbrev word_in : ℕ → ℕ → ℕ
  word_in n r = by_count n (brings r) x (slice_index f r)

  abbrev written_to : ℕ → ℕ → Bool
  written_to n r = any_below n (brings r)

  pub filling-none : length f ≡ 80 → ◌≡◌ {A = Filling} (record { began = f; words = f; written = replicate 80 false }) (filling q g x f 0)
  unfolding filling by_count count_below sum_below any_below
  filling-none e =
      let z = length-replicate {A = Bool} 80 false in
      ap₂ (pair f)
      (ext_get_or 0 f (tabulate 80 (word_in 0)) (e ∙ sym (length-tabulate 80 (word_in 0))) (λ i l. sym (get_d_tabulate 80 (word_in 0) 0 i (omega arith))))
      (ext_get_or false (replicate 80 false) (tabulate 80 (written_to 0)) (z ∙ sym (length-tabulate 80 (written_to 0)))
      (λ i l. get_or-replicate 80 i false false (omega arith) ∙ sym (get_d_tabulate 80 (written_to 0) false i (omega arith))))

  -- a filling knows the file with which it began
  pub began-is : (s : Filling) (n : ℕ) → s ≡ filling q g x f n → s.began ≡ f
  unfolding filling
  began-is s n e = ap (λ (z : Filling). z.began) e

  module _ (n : ℕ) where
    -- a register to which n brings nothing stays as it is
    word-stays : (r : ℕ) → brings r n ≡ false → word_in (n + 1) r ≡ word_in n r
    word-stays r t = no_more n (brings r) x (slice_index f r) t

    written-stays : (r : ℕ) → brings r n ≡ false → written_to (n + 1) r ≡ written_to n r
    written-stays r t = any_next n (brings r) ∙ rw t (or-false (written_to n r))

    pub filling-stays : q n ≡ false → filling q g x f n ≡ filling q g x f (n + 1)
    unfolding filling
    filling-stays t =
        ap₂ (pair f)
        (tabulate-same 80 (word_in n) (word_in (n + 1)) (λ r l. sym (word-stays r (rw t))))
        (tabulate-same 80 (written_to n) (written_to (n + 1)) (λ r l. sym (written-stays r (rw t))))

    pub filling-next : q n ≡ true → taken (filling q g x f n) (g n) (x n) ≡ filling q g x f (n + 1)
    unfolding filling taken
    filling-next t =
        ap₂ (pair f)
        (tabulate-set 80 (word_in n) (word_in (n + 1)) 0 (g n) _
        (λ l. one_more n (brings (g n)) x (slice_index f (g n)) own ∙ ap (λ (z : Bool). cond z 0 (x n)) (sym (get_d_tabulate 80 (written_to n) false (g n) l)))
        (λ r l ne. word-stays r (other r ne)))
        (tabulate-set 80 (written_to n) (written_to (n + 1)) false (g n) true
        (λ l. any-true (n + 1) (brings (g n)) n (omega arith) own)
        (λ r l ne. written-stays r (other r ne)))
      where
        own : brings (g n) n ≡ true
        own = both t (eq-eqb (g n) (g n) refl)

        other : (r : ℕ) → (r ≢ g n) → brings r n ≡ false
        other r ne = rw (t, ne_eqb (g n) r (λ e. ne (sym e)))

-- a file that has taken nothing yet
pub begins : (q : ℕ → Bool) (g x : ℕ → ℕ) (f : List ℕ) (s : Filling) → length f ≡ 80 → s ≡ record { began = f; words = f; written = replicate 80 false }
    → s ≡ filling q g x s.began 0
begins q g x f s l e = rw e (filling-none q g x f l)

-- ---- all values through: the file after a step, and the file at entry

module _ (b d f : List ℕ) where
  pub step-done : (k : ℕ) → (step_filling b d f k (values b)).words ≡ file_after b d k f
  unfolding filling register_after
  step-done k = refl

  pub entry_done : (w : List ℕ) → (entry_filling b d w f (values b)).words ≡ file_at b d w f 0
  unfolding filling register_at_entry file_at
  entry_done w = refl

-- ---- one value, by its entry and its place in the tables

-- the filling s is right of the first v values
pub record Fills (t : Table) (places : List Place) (fill : List ℕ → List ℕ → ℕ → Filling) (s : Filling) (v : ℕ) : Type 0 where
  pub is : (b d : List ℕ) → Laid t places b d → s ≡ fill b d v

-- an operation is written in the step k
unfoldable pub written_by : Entry → ℕ → Bool
written_by e k = operates e.kind && e.step == k

module _ (t : Table) (places : List Place) (b d : List ℕ) (L : Laid t places b d) (f : List ℕ) (v : ℕ) (l : v < values b) (s : Filling) where
  entry-is : get_or t.entries v no_entry ≡ entry_of b v
  entry-is = L.shown.entry-is v (omega (arith, values-le b))

  module _ (w : List ℕ) (e : s ≡ entry_filling b d w f v) where
    pub entry_next : (x : ℕ) → incomes (get_or t.entries v no_entry).kind ≡ true → x ≡ slice_index w v
        → taken s (get_or places v no_place).register x ≡ entry_filling b d w f (v + 1)
    unfolding entry_of place_of
    entry_next x k h =
        rw (L.place_is v l, h, e) (filling-next (is_incoming b) (register d) (λ v. slice_index w v) f v (sym (incomes-is (kind b v)) ∙ rw entry-is at k))

    pub entry_stays : incomes (get_or t.entries v no_entry).kind ≡ false → s ≡ entry_filling b d w f (v + 1)
    unfolding entry_of
    entry_stays n = e ∙ filling-stays (is_incoming b) (register d) (λ v. slice_index w v) f v (sym (incomes-is (kind b v)) ∙ rw entry-is at n)

  module _ (k : ℕ) where
    pub written_is : written_by (slice_index_or t.entries v no_entry) k ≡ written_in b v k
    unfolding written_by written_in entry_of
    written_is = rw (entry-is, operates-is (kind b v))

    pub step-next : (x : ℕ) → written_by (slice_index_or t.entries v no_entry) k ≡ true → x ≡ arriving b d f k v → s ≡ step_filling b d f k v
        → taken s (get_or places v no_place).register x ≡ step_filling b d f k (v + 1)
    unfolding place_of
    step-next x w e h =
        rw (L.place_is v l, e, h) (filling-next (λ v. written_in b v k) (register d) (arriving b d f k) f v (sym written_is ∙ w))

    pub step_stays : written_by (slice_index_or t.entries v no_entry) k ≡ false → s ≡ step_filling b d f k v → s ≡ step_filling b d f k (v + 1)
    step_stays w h = h ∙ filling-stays (λ v. written_in b v k) (register d) (arriving b d f k) f v (sym written_is ∙ w)

-- ---- boundary by boundary

-- from start, the file at entry, the file now is that of the boundary k
pub record Reaches (t : Table) (places : List Place) (w start now : List ℕ) (k : ℕ) : Type 0 where
  pub is : (b d : List ℕ) → Laid t places b d → (f : List ℕ) → start ≡ file_at b d w f 0 → now ≡ file_at b d w f k

pub reaches-next : (t : Table) (places : List Place) (w start now next : List ℕ) (k : ℕ) → Reaches t places w start now k
    → ((b d : List ℕ) → Laid t places b d → next ≡ file_after b d (k + 1) now) → Reaches t places w start next (k + 1)
unfolding file_at
reaches-next t places w start now next k R h =
    record { is = λ b d L f e. h b d L ∙ rw (R.is b d L f e, add-one) }
