-- From tables to the binding: places and buses of a shown block, the bytes of each record, and the whole.
use Prim.Native.Nat.{ℕ, ◌+◌, ◌*◌, ◌/◌, ◌%◌, ◌<◌}
use mathlib.Core.Bool.{Bool, cond}
use mathlib.Core.Path.{◌≡◌, sym, ap, ap₂, ◌∙◌}
use mathlib.Core.List.{List, [], ◌∷◌}
use native.Mathlib.Omega.{arith}
use Rattle.std.specs.Prelude.{Option, None}
use lib.ListN.{get_or, length, take}
use Rattle.std.proofs.Common.{length-take-le, get_or-take, add-zero}
use Rattle.ranges.specs.Below.{count_below, filled, keep_below, rows, tabulate}
use Rattle.ranges.specs.Truth.{by-test}
use Rattle.ranges.specs.Counting.{count-grows, count_same}
use Rattle.ranges.specs.Tables.{filled_at, length-keep, length-tabulate, get_d_tabulate, rows_same}
use Rattle.reader.specs.Block.{values, computes}
use Rattle.reader.specs.Binding.{makes_use, no_place}
use Rattle.reader.specs.Boundaries.{values-le}
use Rattle.reader.specs.Table.{no_entry, entry_of}
use Rattle.reader.specs.TableLaws.{Shows}
use Rattle.reader.specs.Uses.{uses_in, no_use, if_made}
use Rattle.reader.specs.UseLaws.{Placed, use-is, if-made-is}
use Rattle.reader.specs.declared.Entry.{Entry}
use Rattle.reader.specs.declared.Place.{Place}
use Rattle.reader.specs.declared.Table.{Table}
use Rattle.reader.specs.declared.Use.{Use}
use Rattle.allocator.specs.Words.{leading}
use Rattle.allocator.specs.Lives.{Lives, no_life, life_at}
use Rattle.allocator.specs.Placing.{Records, life_in, computes_at, place_at}
use Rattle.allocator.specs.Links.{use_at, first_in, bus_in, Uses}
use Rattle.allocator.specs.Allocation.{registers_by, computing, unit_numbers, unit_of, placed, is_use, first_uses, node_of, bus_numbers, bus_of, bound_record, bound, binding_by}
use Rattle.allocator.specs.OwnRecords.{placed-register, placed-unit}
use Rattle.allocator.specs.Written.{record_of, Bused}
use Rattle.allocator.specs.declared.left_edge.Life.{Life}
use Rattle.allocator.proofs.LeadingLaws.{leading_at}
use Rattle.allocator.proofs.SharingLaws.{computes-same}
use Rattle.allocator.proofs.BusLaws.{bus-same}

-- ---- what a table shows

module _ (t : Table) (b : List ℕ) (S : Shows t b) where
  module _ (whole : length t.entries ≡ 80) (entries : List Entry) (cut : entries ≡ take t.values t.entries) where
    pub entries-many : length entries ≡ t.values
    entries-many = ap length cut ∙ length-take-le t.values t.entries (omega (arith, S.values-are, S.fewer))

    entry-same : (v : ℕ) → v < t.values → get_or entries v no_entry ≡ get_or t.entries v no_entry
    entry-same v l = ap (λ (x : List Entry). get_or x v no_entry) cut ∙ get_or-take t.values t.entries v no_entry l

    pub shown-records : Records entries b
    shown-records =
        record {
          readable = S.readable;
          all = sym (entries-many ∙ S.values-are);
          entry = λ v l. let m : v < t.values = omega (arith, entries-many) in entry-same v m ∙ S.entry-is v (omega (arith, S.values-are, values-le b));
        }

  module _ (all lives : List Life) (made : all ≡ tabulate 80 (life_in t.entries t.lasts)) (cut : lives ≡ take t.values all) where
    pub lives-many : length lives ≡ t.values
    lives-many =
        ap length cut ∙ length-take-le t.values all (omega (arith, S.values-are, S.fewer, ap length made, length-tabulate 80 (life_in t.entries t.lasts)))

    life-is : (v : ℕ) → v < t.values → life_at lives v ≡ life_in t.entries t.lasts v
    life-is v l =
        ap (λ (x : List Life). life_at x v) cut ∙ get_or-take t.values all v no_life l ∙ ap (λ (x : List Life). life_at x v) made
        ∙ get_d_tabulate 80 (life_in t.entries t.lasts) no_life v (omega (arith, S.values-are, S.fewer))

    pub shown-lives : Lives lives b
    unfolding entry_of
    shown-lives =
        record {
          born = λ v l. let m : v < t.values = omega (arith, lives-many) in
              ap (λ (x : Life). x.birth) (life-is v m) ∙ ap (λ (x : Entry). x.birth) (S.entry-is v (omega (arith, S.values-are, values-le b)));
          ends = λ v l. let m : v < t.values = omega (arith, lives-many) in
              ap (λ (x : Life). x.last) (life-is v m) ∙ S.last-is v (omega (arith, S.values-are));
        }

  -- ---- registers and units

  module _ (m : ℕ) (entries : List Entry) (registers units : List ℕ) (places : List Place) (E : Records entries b)
      (R : leading (length entries) registers ≡ registers_by m b) (N : leading (length (computing b)) units ≡ unit_numbers b)
      (made : places ≡ filled 80 (length entries) no_place (place_at entries registers units)) where
    place_at_lem : (v : ℕ) → v < values b → get_or places v no_place ≡ place_at entries registers units v
    place_at_lem v l =
        ap (λ (x : List Place). get_or x v no_place) made
        ∙ filled_at 80 no_place (place_at entries registers units) (length entries) v (omega (arith, S.fewer)) (omega (arith, E.all))

    unit-at : (v : ℕ) → v < values b → cond (computes_at entries v) (get_or units (count_below v (computes_at entries)) 0) 255 ≡ unit_of b (unit_numbers b) v
    unfolding unit_of computing
    unit-at v l =
        let n : v < length entries = omega (arith, E.all) in
        ap (λ (x : Bool). cond x (get_or units (count_below v (computes_at entries)) 0) 255) (computes-same entries b E v n)
        ∙ by-test (computes b v)
        (λ c. ap (λ (x : ℕ). cond (computes b v) x 255)
        (ap (λ (k : ℕ). get_or units k 0) (count_same v (computes_at entries) (computes b) (λ k h. computes-same entries b E k (omega arith)))
        ∙ sym (leading_at (length (computing b)) units (count_below v (computes b))
        (omega (arith, length-keep (values b) (computes b), count-grows (computes b) v (values b) l c)))
        ∙ ap (λ (x : List ℕ). get_or x (count_below v (computes b)) 0) N))
        (λ c. rw c)

    pub shown-placed : Placed places b (placed b m)
    unfolding place_at
    shown-placed =
        record {
          register-is = λ v l. ap (λ (x : Place). x.register) (place_at_lem v l)
              ∙ sym (leading_at (length entries) registers v (omega (arith, E.all))) ∙ ap (λ (x : List ℕ). get_or x v 0) R ∙ sym (placed-register b m v l);
          unit-is = λ v l. ap (λ (x : Place). x.unit) (place_at_lem v l) ∙ unit-at v l ∙ sym (placed-unit b m v l);
        }

  -- ---- uses

  pub shown-uses : (d : List ℕ) (places : List Place) (all : List Use) (made uses : List (Option Use)) → Placed places b d → all ≡ uses_in t places
      → made ≡ tabulate 240 (λ k. if_made (get_or all k no_use)) → uses ≡ take (3 * t.values) made → Uses uses b d
  shown-uses d places all made uses P e m cut =
      let taken : ℕ → Option Use = λ k. if_made (get_or all k no_use) in
      let many : length uses ≡ 3 * t.values = ap length cut ∙ length-take-le (3 * t.values) made (omega (arith, S.values-are, S.fewer, ap length m, length-tabulate 240 taken)) in
      record {
        readable = S.readable;
        all = omega (arith, S.values-are);
        few = omega (arith, S.values-are, S.fewer);
        each = λ u l.
            let whole : 3 * (u / 3) + u % 3 ≡ u = omega arith in
            ap (λ (x : List (Option Use)). use_at x u) cut ∙ get_or-take (3 * t.values) made u None (omega (arith, many)) ∙ ap (λ (x : List (Option Use)). use_at x u) m
            ∙ get_d_tabulate 240 taken None u (omega (arith, S.values-are, S.fewer, many))
            ∙ ap₂ (λ (x : List Use) (k : ℕ). if_made (get_or x k no_use)) e (sym whole)
            ∙ if-made-is (use-is t places b d S P (u / 3) (u % 3) (omega (arith, S.values-are, many)) (omega arith));
      }

-- the bus of the use at p of v
bus-at : (b d : List ℕ) (v p : ℕ) → p < 3 → cond (is_use b (3 * v + p)) (get_or (bus_numbers b d) (node_of b d (3 * v + p)) 0) 255 ≡ bus_of b d (bus_numbers b d) v p
unfolding bus_of
bus-at b d v p h =
    let quotient : (3 * v + p) / 3 ≡ v = omega arith in
    let rest : (3 * v + p) % 3 ≡ p = omega arith in
    ap₂ (λ (w q : ℕ). cond (makes_use b w q) (get_or (bus_numbers b d) (node_of b d (3 * v + p)) 0) 255) quotient rest

-- the buses of all uses
pub all-bused : (uses : List (Option Use)) (b d firsts numbers buses : List ℕ) → Uses uses b d → firsts ≡ keep_below (length uses) (first_in uses)
    → leading (length (first_uses b d)) numbers ≡ bus_numbers b d → buses ≡ filled 240 (length uses) 0 (λ u. bus_in uses firsts numbers (use_at uses u)) → Bused buses b d
all-bused uses b d firsts numbers buses U L N e =
    record {
      bus = λ v p l h.
          let k : 3 * v + p < length uses = omega (arith, U.all) in
          ap (λ (x : List ℕ). get_or x (3 * v + p) 0) e
          ∙ filled_at 240 0 (λ u. bus_in uses firsts numbers (use_at uses u)) (length uses) (3 * v + p) (omega (arith, U.few)) k
          ∙ bus-same uses b d U firsts L numbers N (3 * v + p) k
          ∙ bus-at b d v p h;
    }

-- ---- all records

-- the bytes of a record as they are read
pub record-read : (places : List Place) (buses : List ℕ) (v : ℕ)
    → v ∷ (get_or places v no_place).register ∷ (get_or places v no_place).unit ∷ get_or buses (3 * v) 0 ∷ get_or buses (3 * v + 1) 0 ∷ get_or buses (3 * v + 2) 0 ∷ 0 ∷ 0 ∷ []
    ≡ record_of places buses v
unfolding record_of
record-read places buses v = rw (add-zero (3 * v))

record_same : (b d : List ℕ) (places : List Place) (buses : List ℕ) → Placed places b d → Bused buses b d → (v : ℕ) → v < values b
    → record_of places buses v ≡ bound_record b d (bus_numbers b d) v
unfolding record_of bound_record
record_same b d places buses P B v l =
    rw (P.register-is v l, P.unit-is v l, B.bus v 0 l (omega arith), B.bus v 1 l (omega arith), B.bus v 2 l (omega arith))

-- the first places stand for the block's values
first-record : (places : List Place) (buses : List ℕ) (n v : ℕ) → v < n → record_of (take n places) buses v ≡ record_of places buses v
unfolding record_of
first-record places buses n v l = rw (get_or-take n places v no_place l)

pub records-bound : (t : Table) (b : List ℕ) (m : ℕ) (places : List Place) (buses r : List ℕ) → Shows t b → length places ≡ 80 → Placed places b (placed b m)
    → Bused buses b (placed b m) → r ≡ rows (length (take t.values places)) (record_of (take t.values places) buses) → r ≡ binding_by m b
unfolding binding_by bound
records-bound t b m places buses r S whole P B e =
    let many : length (take t.values places) ≡ values b = length-take-le t.values places (omega (arith, S.values-are, S.fewer)) ∙ S.values-are in
    e ∙ ap (λ (k : ℕ). rows k (record_of (take t.values places) buses)) many
    ∙ rows_same (values b) (record_of (take t.values places) buses) (bound_record b (placed b m) (bus_numbers b (placed b m)))
    (λ v l. first-record places buses t.values v (omega (arith, S.values-are)) ∙ record_same b (placed b m) places buses P B v l)
