-- The datapath's step by the reader's tables: what an operation uses, asks for and sends over its left bus, by its entry and its place.
-- Document 01, "How the datapath runs".
use Rattle.std.specs.Prelude.{◌≡◌, ℕ, zero, suc, ◌+◌, ◌<◌, ◌≤◌, Bool, true, false, cond, ◌&&◌, List, get_or, take, leb, ◌==◌, ◌≢◌, nat_le, slice_index, slice_index_or}
use Rattle.std.proofs.Math.Path.{refl, ap}
use Rattle.std.proofs.Common.{sym, ◌∙◌, ap₂, arith, zero-add, take_all, ne_eqb}
use Rattle.ranges.specs.Truth.{by-test, by_equal, cond-false}
use Rattle.ranges.specs.Below.{count_below, sum_below, tabulate, filled}
use Rattle.ranges.specs.Counting.{sum-next}
use Rattle.ranges.specs.Tables.{length-tabulate, get_d_tabulate}
use Rattle.reader.specs.Block.{kind, step, operation, literal, records, is_operation, values, reads_left, reads_right, left_value, right_value, outgoing, last_step}
use Rattle.reader.specs.Table.{no_entry, entry_of}
use Rattle.reader.specs.Kinds.{operates, is_constant}
use Rattle.reader.specs.KindLaws.{operates-is, constant-is}
use Rattle.std.proofs.Common.{leb-true, leb-false}
use Rattle.reader.specs.TableLaws.{Shows}
use Rattle.reader.specs.Boundaries.{values-le}
use Rattle.reader.specs.Readability.{left-source, right-source, operation-range}
use Rattle.reader.specs.Readings.{reads-move, reads-result, computes-from}
use Rattle.reader.specs.Binding.{register, unit, bus, used_in, asks_in, no_place, place_of, places_of}
use Rattle.reader.specs.declared.Entry.{Entry}
use Rattle.reader.specs.declared.Place.{Place}
use Rattle.reader.specs.declared.Table.{Table}
use Rattle.runner.specs.declared.datapath.Shared.{Shared}
use Rattle.runner.specs.declared.datapath.Shared.TheVariants.{Bus, Unit}
use Rattle.runner.specs.BlockRun.{result}
use Rattle.runner.specs.DatapathRun.{uses_on, carried, given, arriving, register_after, register_at_entry, file_at, held_at, taken_words}
use Rattle.runner.specs.RunLaws.{arriving-move, arriving-constant, arriving-result}
use Rattle.runner.specs.TableRuns.{result_by, result-is, sent_by, entry-left, entry-right, sent-taken}

-- the table and the places are those of the readable block b and of the binding d
pub record Laid (t : Table) (places : List Place) (b d : List ℕ) : Type 0 where
  pub shown : Shows t b
  pub place_is : (v : ℕ) → v < values b → slice_index_or places v no_place ≡ place_of d v

-- how often an operation takes a bus or a unit in the step k
unfoldable pub takes_by : Entry → Place → ℕ → Shared → ℕ
takes_by e p k (Bus n) =
    cond (operates e.kind && e.step == k && p.left == n) 1 0
    + cond (e.computes && e.step == k && p.right == n) 1 0
    + cond (e.computes && e.step == k && p.result == n) 1 0
takes_by e p k (Unit u) = cond (e.computes && e.step == k && p.unit == u) 1 0

one-few : (t : Bool) → cond t 1 0 ≤ 1
one-few true = omega arith
one-few false = omega arith

-- an operation has no more than three uses
pub takes-few : {n : ℕ} (e : Entry) (p : Place) (k : ℕ) (s : Shared) → n ≡ takes_by e p k s → n ≤ 3
unfolding takes_by
takes-few e p k (Bus n) h =
    omega (arith, h, one-few (operates e.kind && e.step == k && p.left == n), one-few (e.computes && e.step == k && p.right == n), one-few (e.computes && e.step == k && p.result == n))
takes-few e p k (Unit u) h = omega (arith, h, one-few (e.computes && e.step == k && p.unit == u))

-- what the register of v has in the file f
abbrev pub holds : List Place → List ℕ → ℕ → ℕ
holds places f v = slice_index f (get_or places v no_place).register

-- what it sends over its left bus: its literal, or what the register of its left value has in the file f
unfoldable pub left_by : Entry → List Place → List ℕ → ℕ
left_by e places f = cond (is_constant e.operation) e.literal (holds places f e.left)

-- ---- against the definitions on bytes

-- how often v takes a bus or a unit in the step k, and how often all do
abbrev pub takes_at : ℕ → Shared → List ℕ → List ℕ → ℕ → ℕ
takes_at k (Bus n) b d v = count_below 3 (λ p. used_in b v p k && bus d v p == n)
takes_at k (Unit u) b d v = cond (asks_in b v k && unit d v == u) 1 0

unfoldable pub takes_in : List ℕ → List ℕ → ℕ → Shared → ℕ
takes_in b d k s = sum_below (values b) (takes_at k s b d)

-- x where exactly one takes it, else 0: what a bus carries, and what a unit gives
unfoldable pub alone_in : List ℕ → List ℕ → ℕ → Shared → ℕ → ℕ
alone_in b d k s x = cond (takes_in b d k s == 1) x 0

pub over_bus : (b d : List ℕ) (k n x : ℕ) → alone_in b d k (Bus n) x ≡ carried b d k n x
unfolding alone_in takes_in carried uses_on
over_bus b d k n x = refl

pub from_unit : (b d : List ℕ) (k u x : ℕ) → alone_in b d k (Unit u) x ≡ given b d k u x
unfolding alone_in takes_in given count_below
from_unit b d k u x = refl

pub takes-by : (k : ℕ) (s : Shared) (b d : List ℕ) (v : ℕ) → takes_by (entry_of b v) (place_of d v) k s ≡ takes_at k s b d v
unfolding takes_by entry_of place_of count_below sum_below used_in asks_in
takes-by k (Bus n) b d v =
    rw (operates-is (kind b v))
    (by-test (is_operation b v)
    (λ o. by-test (step b v == k)
    (λ s. by-test (nat_le 3 (operation b v)) (λ c. rw (o, s, c, zero-add)) (λ c. rw (o, s, c, zero-add)))
    (λ s. by-test (nat_le 3 (operation b v)) (λ c. rw (o, s, c)) (λ c. rw (o, s, c))))
    (λ o. rw o))
takes-by k (Unit u) b d v = refl

-- ---- a sum that grows value by value

pub record Sums (t : Table) (places : List Place) (f : List ℕ → List ℕ → ℕ → ℕ) (total v : ℕ) : Type 0 where
  pub is : (b d : List ℕ) → Laid t places b d → total ≡ sum_below v (f b d)

module _ (t : Table) (places : List Place) where
  -- a number that the entry and the place of v tell is right of the bytes
  pub told : (of : Entry → Place → ℕ) (f : List ℕ → List ℕ → ℕ → ℕ) → ((b d : List ℕ) (v : ℕ) → of (entry_of b v) (place_of d v) ≡ f b d v)
      → (b d : List ℕ) → Laid t places b d → (v : ℕ) → v < values b → of (slice_index_or t.entries v no_entry) (slice_index_or places v no_place) ≡ f b d v
  told of f h b d L v l = ap₂ of (L.shown.entry-is v (omega (arith, values-le b))) (L.place_is v l) ∙ h b d v

  pub sums_none : (f : List ℕ → List ℕ → ℕ → ℕ) → Sums t places f 0 0
  unfolding sum_below
  sums_none f = record { is = λ b d L. refl }

  pub sums_next : (of : Entry → Place → ℕ) (f : List ℕ → List ℕ → ℕ → ℕ) → ((b d : List ℕ) (v : ℕ) → of (entry_of b v) (place_of d v) ≡ f b d v)
      → (total v : ℕ) → v < t.values → Sums t places f total v → Sums t places f (total + of (slice_index_or t.entries v no_entry) (slice_index_or places v no_place)) (v + 1)
  sums_next of f h total v l S =
      record { is = λ b d L. ap₂ ◌+◌ (S.is b d L) (told of f h b d L v (omega (arith, L.shown.values-are))) ∙ sym (sum-next v (f b d)) }

-- ---- what arrives at the register of an operation, from what its buses carry

module _ (t : Table) (places : List Place) (b d : List ℕ) (L : Laid t places b d) (f : List ℕ) where
  -- what the register of a source has
  held_of : (u : ℕ) → u < values b → holds places f u ≡ slice_index f (register d u)
  unfolding place_of
  held_of u h = ap (λ (x : Place). slice_index f x.register) (L.place_is u h)

  module _ (v : ℕ) (l : v < values b) (o : kind b v ≡ 2) where
    row : v < records b
    row = omega (arith, values-le b)

    -- a source that is read: its number stands in the entry, and it is a value
    left-held : reads_left b v ≡ true → holds places f (entry_of b v).left ≡ slice_index f (register d (left_value b v))
    left-held t = ap (holds places f) (entry-left b v t) ∙ held_of (left_value b v) (left-source b L.shown.readable v row t).0

    right-held : reads_right b v ≡ true → holds places f (entry_of b v).right ≡ slice_index f (register d (right_value b v))
    right-held t = ap (holds places f) (entry-right b v t) ∙ held_of (right_value b v) (right-source b L.shown.readable v row t).0

    left-constant : operation b v ≡ 2 → left_by (entry_of b v) places f ≡ literal b v
    unfolding left_by entry_of
    left-constant e = rw (constant-is (operation b v), e)

    left_other : (operation b v ≢ 2) → reads_left b v ≡ true → left_by (entry_of b v) places f ≡ slice_index f (register d (left_value b v))
    unfolding left_by entry_of
    left_other n t = cond-false (literal b v) _ (constant-is (operation b v) ∙ ne_eqb (operation b v) 2 n) ∙ left-held t

    module _ (k : ℕ) where
      -- a move and a constant
      short : operation b v < 3 → carried b d k (bus d v 0) (left_by (entry_of b v) places f) ≡ arriving b d f k v
      short h =
          by_equal (operation b v) 2
          (λ e. ap (carried b d k (bus d v 0)) (left-constant e) ∙ sym (arriving-constant b d f k v e))
          (λ n. let e : operation b v ≡ 1 = omega (arith, (operation-range b L.shown.readable v l o).2) in
          ap (carried b d k (bus d v 0)) (left_other n (reads-move b v o e)) ∙ sym (arriving-move b d f k v e))

      -- the operations 3 to 8
      long : 3 ≤ operation b v
          → carried b d k (bus d v 2) (given b d k (unit d v) (result (operation b v)
          (carried b d k (bus d v 0) (left_by (entry_of b v) places f))
          (carried b d k (bus d v 1) (holds places f (entry_of b v).right)))) ≡ arriving b d f k v
      long h =
          rw (left_other (λ q. omega arith) (reads-result b v o h), right-held (computes-from b v o h)) (sym (arriving-result b d f k v h))

-- the same by the entry and the place as they stand in the tables
module _ (t : Table) (places : List Place) (b d : List ℕ) (L : Laid t places b d) (f : List ℕ) (k v : ℕ) (l : v < values b) (o : kind b v ≡ 2) where
  abbrev e : Entry
  e = slice_index_or t.entries v no_entry

  abbrev p : Place
  p = slice_index_or places v no_place

  entry-is : e ≡ entry_of b v
  entry-is = L.shown.entry-is v (row t places b d L f v l o)

  -- what computes is one of the operations 3 to 8
  computes-is : e.computes ≡ leb 3 (operation b v)
  unfolding entry_of
  computes-is = rw (entry-is, o)

  pub arriving-short : e.computes ≡ false → carried b d k p.left (left_by e places f) ≡ arriving b d f k v
  unfolding entry_of place_of
  arriving-short h =
      let few : operation b v < 3 = omega (arith, leb-false 3 (operation b v) (sym computes-is ∙ h)) in
      rw (entry-is, L.place_is v l) (short t places b d L f v l o k few)

  pub arriving-long : e.computes ≡ true → (left right made over : ℕ)
      → left ≡ carried b d k p.left (left_by e places f)
      → right ≡ carried b d k p.right (holds places f e.right)
      → made ≡ given b d k p.unit (result_by e.operation left right)
      → over ≡ carried b d k p.result made
      → over ≡ arriving b d f k v
  unfolding entry_of place_of
  arriving-long h left right made over x y z u =
      let many : 3 ≤ operation b v = leb-true 3 (operation b v) (sym computes-is ∙ h) in
      rw (u, z, x, y, entry-is, result-is (operation b v) _ _ many, L.place_is v l) (long t places b d L f v l o k many)

-- ---- the tables that the reader hands out, and the outgoing words

pub laid : (t : Table) (places : List Place) (b d : List ℕ) → Shows t b → places ≡ places_of d → Laid t places b d
unfolding places_of
laid t places b d S e = record { shown = S; place_is = λ v l. rw e (get_d_tabulate 80 (place_of d) no_place v (omega (arith, S.fewer))) }

-- from the registers at T
pub datapath-sent : (t : Table) (places : List Place) (b d w f : List ℕ) (L : Laid t places b d) (file : List ℕ) → file ≡ file_at b d w f (last_step b)
    → take (outgoing b) (filled 80 t.outgoing 0 (sent_by t (tabulate 80 (holds places file))))
    ≡ taken_words b d w f
unfolding taken_words held_at
datapath-sent t places b d w f L file e =
    sent-taken t b L.shown (tabulate 80 (holds places file)) (held_at b d w f (last_step b))
    (λ v l. get_d_tabulate 80 (holds places file) 0 v (omega (arith, L.shown.fewer)) ∙ held_of t places b d L file v l ∙ ap (λ (x : List ℕ). slice_index x (register d v)) e)

-- the file at every boundary has no more than 80 words
pub file-whole : (b d w f : List ℕ) (k : ℕ) → take 80 (file_at b d w f k) ≡ file_at b d w f k
unfolding file_at
file-whole b d w f zero = take_all 80 _ (omega (arith, length-tabulate 80 (register_at_entry b d w f)))
file-whole b d w f (suc k) = take_all 80 _ (omega (arith, length-tabulate 80 (register_after b d (file_at b d w f k) (suc k))))
