-- The answers of `read`, `table` and `form`, each where its tests led to it.
use Prim.Native.Nat.{ℕ, ◌/◌, ◌%◌, ◌<◌, ◌≤◌}
use mathlib.Core.Bool.{false}
use mathlib.Core.Path.{◌≡◌, sym, ap, ◌∙◌}
use mathlib.Core.List.{List}
use lib.ListN.{length}
use lib.Dec.{eqb}
use lib.Dec.{ltb}
use borrow.Author.Tests.{lt-ltb, le-ltb, eq-eqb, ne_eqb, ltb-true}
use Rattle.ranges.specs.Truth.{by-test}
use Rattle.ranges.specs.Finding.{nonzero-at}
use Rattle.reader.specs.Numbers.{Reading}
use Rattle.reader.specs.declared.Entry.{Entry}
use Rattle.reader.specs.declared.Table.{Table}
use Rattle.reader.specs.Numbers.{Formed}
use Rattle.reader.specs.Block.{records, first_fault, fault, incoming, values, outgoing, last_step, unread, reading}
use Rattle.reader.specs.Table.{entries_of, lasts_of, no_table, table_of}
use Rattle.reader.specs.Binding.{misformed, formed, form_of}
use Rattle.reader.specs.Readability.{Read, read, reading-done}
use Rattle.reader.specs.WellFormed.{form-of-read}
use Rattle.reader.specs.Judging.{found_in, places_formed}

pub not-whole : (b : List ℕ) → (length b % 8 ≡ 0 → ⊥) → unread 1 0 ≡ reading b
unfolding reading
not-whole b h = rw (reading, ne_eqb (length b % 8) 0 h)

module _ (b : List ℕ) (whole : length b % 8 ≡ 0) where
  pub too_many : 80 < records b → unread 2 0 ≡ reading b
  unfolding reading
  too_many h = rw (reading, eq-eqb (length b % 8) 0 whole, lt-ltb 80 (records b) h)

  module _ (few : records b ≤ 80) where
    pub faulty : (number at : ℕ) → misformed number at ≡ found_in b → (number ≡ 0 → ⊥) → unread number at ≡ reading b
    unfolding reading found_in
    faulty number at e nz =
        by-test (ltb (first_fault b) (records b))
        (λ m. let f = rw m at e in
        rw (ap (λ (x : Formed). x.number) f, ap (λ (x : Formed). x.place) f, reading, eq-eqb (length b % 8) 0 whole, le-ltb 80 (records b) few, m))
        (λ m. absurd (nz (ap (λ (x : Formed). x.number) (rw m at e))))

    pub sound : misformed 0 0 ≡ found_in b → (v t : ℕ) → v ≡ values b → t ≡ last_step b
        → ◌≡◌ {A = Reading} (record { number = 0; first = 0; second = 0; values = v; last_step = t }) (reading b)
    unfolding reading found_in first_fault
    sound e v t p q =
        by-test (ltb (first_fault b) (records b))
        (λ m. absurd (nonzero-at (records b) (fault b) (ltb-true (first_fault b) (records b) m) (sym (ap (λ (x : Formed). x.number) (rw m at e)))))
        (λ m. rw (p, q, reading, eq-eqb (length b % 8) 0 whole, le-ltb 80 (records b) few, m))

-- ---- what the reading of a block says to `table` and `form`

module _ (b : List ℕ) (r : Reading) (e : r ≡ reading b) where
  pub is-done : r.number ≡ 0 → (reading b).number ≡ 0
  is-done z = sym (ap (λ (x : Reading). x.number) e) ∙ z

  pub last-step-is : r.number ≡ 0 → r.last_step ≡ last_step b
  last-step-is z = ap (λ (x : Reading). x.last_step) (e ∙ reading-done b (is-done z))

  pub read-is : r.number ≡ 0 → Read b
  read-is z = read b (is-done z)

  pub few-records : r.number ≡ 0 → records b ≤ 80
  few-records z = (read-is z).few

  -- the test that both make
  test : (r.number ≡ 0 → ⊥) → eqb (reading b).number 0 ≡ false
  test n = ne_eqb (reading b).number 0 (λ z. n (ap (λ (x : Reading). x.number) e ∙ z))

  pub no_table_lem : (r.number ≡ 0 → ⊥) → no_table ≡ table_of b
  unfolding table_of
  no_table_lem n = rw (table_of, test n)

  pub whole-table : r.number ≡ 0 → (es : List Entry) (ls : List ℕ) (i v o t : ℕ) → es ≡ entries_of b → ls ≡ lasts_of b
      → i ≡ incoming b → v ≡ values b → o ≡ outgoing b → t ≡ last_step b
      → ◌≡◌ {A = Table} (record { entries = es; lasts = ls; incoming = i; values = v; outgoing = o; last_step = t }) (table_of b)
  unfolding table_of
  whole-table z es ls i v o t h1 h2 h3 h4 h5 h6 = rw (h1, h2, h3, h4, h5, h6, table_of, eq-eqb (reading b).number 0 (is-done z))

  module _ (d : List ℕ) where
    pub no-form : (r.number ≡ 0 → ⊥) → misformed 0 0 ≡ form_of b d
    unfolding form_of
    no-form n = rw (form_of, test n)

    module _ (z : r.number ≡ 0) where
      formed-is : form_of b d ≡ formed b d
      formed-is = form-of-read b d (is-done z)

      pub parts-of-records : (length d % 8 ≡ 0 → ⊥) → misformed 11 0 ≡ form_of b d
      unfolding formed
      parts-of-records n = rw (formed-is, formed, ne_eqb (length d % 8) 0 n)

      module _ (whole : length d % 8 ≡ 0) where
        pub not-as-many : (length d / 8 ≡ values b → ⊥) → misformed 12 0 ≡ form_of b d
        unfolding formed
        not-as-many n = rw (formed-is, formed, eq-eqb (length d % 8) 0 whole, ne_eqb (length d / 8) (values b) n)

        pub by-places : length d / 8 ≡ values b → (f : Formed) → f ≡ places_formed b d → f ≡ form_of b d
        unfolding formed places_formed
        by-places many f e = rw (formed-is, formed, eq-eqb (length d % 8) 0 whole, eq-eqb (length d / 8) (values b) many) e
