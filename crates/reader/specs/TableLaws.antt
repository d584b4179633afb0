-- Laws of what is handed on by value: of a readable block the table shows every record, every last boundary and every count, and of a binding the places show
-- what its bytes say.
-- Document 01, "Values, steps and boundaries".
use Rattle.std.specs.Prelude.{ℕ, ◌+◌, ◌≤◌, ◌<◌, ◌≡◌, refl, List, get_or}
use Rattle.std.proofs.Common.{arith, eq-eqb, ne_eqb}
use Rattle.ranges.specs.Truth.{by_equal}
use Rattle.ranges.specs.Tables.{filled_at, get_d_tabulate}
use Rattle.reader.specs.Block.{records, incoming, values, outgoing, last_step, last, reading}
use Rattle.reader.specs.Binding.{no_place, place_of, places_of}
use Rattle.reader.specs.Table.{no_entry, entry_of, entries_of, lasts_of, table_of}
use Rattle.reader.specs.Boundaries.{values-le}
use Rattle.reader.specs.Readability.{Read, read, outgoing-rest}
use Rattle.reader.specs.declared.Table.{Table}

pub entries_at : (b : List ℕ) (i : ℕ) → i < 80 → i < records b → get_or (entries_of b) i no_entry ≡ entry_of b i
unfolding entries_of
entries_at b i l h = filled_at 80 no_entry (entry_of b) (records b) i l h

pub lasts-at : (b : List ℕ) (v : ℕ) → v < 80 → v < values b → get_or (lasts_of b) v 0 ≡ last b v
unfolding lasts_of
lasts-at b v l h = filled_at 80 0 (last b) (values b) v l h

pub place_is : (d : List ℕ) (v : ℕ) → v < 80 → get_or (places_of d) v no_place ≡ place_of d v
unfolding places_of
place_is d v l = get_d_tabulate 80 (place_of d) no_place v l

-- the table t is that of the readable block b
pub record Shows (t : Table) (b : List ℕ) : Type 0 where
  pub readable : Read b
  pub entry-is : (i : ℕ) → i < records b → get_or t.entries i no_entry ≡ entry_of b i
  pub last-is : (v : ℕ) → v < values b → get_or t.lasts v 0 ≡ last b v
  pub incoming-are : t.incoming ≡ incoming b
  pub values-are : t.values ≡ values b
  pub outgoing-are : t.outgoing ≡ outgoing b
  pub last-step-is : t.last_step ≡ last_step b
  pub few : records b ≤ 80
  pub fewer : values b ≤ 80

pub shows : (b : List ℕ) → (reading b).number ≡ 0 → Shows (table_of b) b
unfolding table_of
shows b e =
    let R = read b e in
    let few = R.few in
    let fewer : values b ≤ 80 = omega (arith, values-le b) in
    rw (eq-eqb (reading b).number 0 e)
    (record {
      readable = R;
      entry-is = λ i l. entries_at b i (omega arith) l;
      last-is = λ v l. lasts-at b v (omega arith) l;
      incoming-are = refl;
      values-are = refl;
      outgoing-are = refl;
      last-step-is = refl;
      few = few;
      fewer = fewer;
    })

pub shown_by : (t : Table) (b : List ℕ) → t ≡ table_of b → (reading b).number ≡ 0 → Shows t b
shown_by t b e z = rw e (shows b z)

-- what a table counts is few
pub rows_few : (t : Table) (b : List ℕ) → Shows t b → t.values + t.outgoing ≤ 80
rows_few t b S = omega (arith, S.values-are, S.outgoing-are, S.few, outgoing-rest b S.readable, values-le b)

-- also where the block cannot be read
pub table-few : (b : List ℕ) → (table_of b).values + (table_of b).outgoing ≤ 80
unfolding table_of
table-few b =
    by_equal (reading b).number 0
    (λ e. rows_few (table_of b) b (shows b e))
    (λ n. rw (ne_eqb (reading b).number 0 n) (omega arith))
