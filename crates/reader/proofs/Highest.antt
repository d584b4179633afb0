-- The search for the latest value: among the first i records it holds the first of the latest birth, and at the end that is the value a reading gets.
use Prim.Native.Nat.{ℕ, ◌+◌, ◌≤◌, ◌<◌}
use mathlib.Core.Bool.{true, false, cond, ◌&&◌}
use mathlib.Core.Path.{◌≡◌, refl, sym, ap, ◌∙◌}
use mathlib.Core.List.{List}
use native.Mathlib.Omega.{arith}
use native.Mathlib.Numerals.{add-one}
use lib.ListN.{length, get_or, take}
use lib.Seq.{get_or-take}
use Rattle.std.proofs.Common.{length-take-le}
use lib.Dec.{ltb, eqb}
use borrow.Author.Tests.{ltb-true, ltb-false}
use Rattle.std.specs.Prelude.{Option, Some, None}
use Rattle.ranges.specs.Truth.{by-test, below_suc, not-holds, contradiction}
use Rattle.ranges.specs.Finding.{first-at}
use Rattle.ranges.specs.Tables.{length-tabulate, get_d_tabulate}
use Rattle.reader.specs.declared.Latest.{Latest}
use Rattle.reader.specs.declared.Named.{Named}
use Rattle.reader.specs.Block.{is_value, birth, born_below, is_latest, value_for}
use Rattle.reader.specs.LatestValues.{is-latest, latest-born, none-later}
use Rattle.reader.specs.Sources.{named_in, names_in, Noted, is_later, later, found_at}

-- what is found lies among the first m records
pub later-le : (l : Option Latest) (i : ℕ) (own : Option Named) (s n m : ℕ) → found_at m l ≤ m → i < m → found_at m (later l i own s n) ≤ m
later-le l i (Some own) s n m h k =
    by-test (eqb own.name n && ltb own.birth s && is_later l own.birth) (λ t. rw t (omega arith)) (λ t. rw t h)
later-le l i None s n m h k = h

module _ (b : List ℕ) (s n : ℕ) where
  -- the record i is taken where it is a value of the name born below s, and later
  later-is : (l : Option Latest) (i : ℕ)
      → later l i (named_in b i) s n ≡ cond (born_below b s n i && is_later l (birth b i)) (Some (record { at = i; birth = birth b i })) l
  unfolding named_in
  later-is l i = by-test (is_value b i) (λ v. rw v) (λ v. rw v)

  pub record IsHighest (i : ℕ) (l : Latest) : Type 0 where
    pub within : l.at < i
    pub born : born_below b s n l.at ≡ true
    pub birth-is : birth b l.at ≡ l.birth
    pub top : (k : ℕ) → k < i → born_below b s n k ≡ true → birth b k ≤ l.birth
    pub lower : (k : ℕ) → k < l.at → born_below b s n k ≡ true → birth b k < l.birth

  abbrev pub Highest : ℕ → Option Latest → Type 0
  Highest i (Some l) = IsHighest i l
  Highest i None = (k : ℕ) → k < i → born_below b s n k ≡ false

  pub none_yet : Highest 0 None
  none_yet k h = absurd (omega arith)

  upto : {A : Type 0} (k i : ℕ) → k < i + 1 → (k < i → A) → (k ≡ i → A) → A
  upto k i j f g = below_suc k i (rw add-one at j) f g

  -- a record that is not asked for
  passed-over : (i : ℕ) (l : Option Latest) → born_below b s n i ≡ false → Highest i l → Highest (i + 1) l
  passed-over i (Some l) t h =
      record {
        within = omega (arith, h.within);
        born = h.born;
        birth-is = h.birth-is;
        top = λ k j z. upto k i j (λ m. h.top k m z) (λ e. absurd (contradiction z (ap (born_below b s n) e ∙ t)));
        lower = h.lower;
      }
  passed-over i None t h = λ k j. upto k i j (h k) (λ e. ap (born_below b s n) e ∙ t)

  -- one that is
  taken : (i : ℕ) (l : Option Latest) → born_below b s n i ≡ true → Highest i l
      → Highest (i + 1) (cond (is_later l (birth b i)) (Some (record { at = i; birth = birth b i })) l)
  taken i (Some l) t h =
      by-test (ltb l.birth (birth b i))
      (λ o. let g = ltb-true l.birth (birth b i) o in
      rw o (record {
        within = omega arith;
        born = t;
        birth-is = refl;
        top = λ k j z. upto k i j (λ m. omega (arith, h.top k m z)) (λ e. omega (arith, ap (birth b) e));
        lower = λ k j z. omega (arith, h.top k j z);
      }))
      (λ o. let g = ltb-false l.birth (birth b i) o in
      rw o (record {
        within = omega (arith, h.within);
        born = h.born;
        birth-is = h.birth-is;
        top = λ k j z. upto k i j (λ m. h.top k m z) (λ e. omega (arith, ap (birth b) e));
        lower = h.lower;
      }))
  taken i None t h =
      record {
        within = omega arith;
        born = t;
        birth-is = refl;
        top = λ k j z. upto k i j (λ m. absurd (contradiction z (h k m))) (λ e. omega (arith, ap (birth b) e));
        lower = λ k j z. absurd (contradiction z (h k j));
      }

  pub one_more : (i : ℕ) (l : Option Latest) → Highest i l → Highest (i + 1) (later l i (named_in b i) s n)
  one_more i l h = rw (later-is l i) (by-test (born_below b s n i) (λ t. rw t (taken i l t h)) (λ t. rw t (passed-over i l t h)))

  pub one-more-named : (names : List (Option Named)) (i : ℕ) (l : Option Latest) → Noted names b → i < length names → Highest i l
      → Highest (i + 1) (later l i (get_or names i None) s n)
  one-more-named names i l N j h = rw (N.each i j) (one_more i l h)

  pub is-value-for : (m : ℕ) (l : Option Latest) → Highest m l → found_at m l ≡ value_for b m s n
  unfolding value_for
  is-value-for m (Some l) h = sym (first-at m (is_latest b m s n) l.at (omega (arith, h.within)) before there)
    where
      before : (k : ℕ) → k < l.at → is_latest b m s n k ≡ false
      before k j =
          not-holds (is_latest b m s n k)
          (λ t. omega (arith, h.lower k j (latest-born b m s n k t), none-later b m s n k t l.at h.within h.born, h.birth-is))

      there : l.at < m → is_latest b m s n l.at ≡ true
      there j = is-latest b m s n l.at h.born (λ w g t. omega (arith, h.top w g t, h.birth-is))
  is-value-for m None h =
      sym (first-at m (is_latest b m s n) m (omega arith)
      (λ k j. not-holds (is_latest b m s n k) (λ t. contradiction (latest-born b m s n k t) (h k j)))
      (λ j. absurd (omega arith)))

-- ---- the loop over names

module _ (names : List (Option Named)) (s n : ℕ) where
  -- its invariant
  pub record Searched (i : ℕ) (l : Option Latest) : Type 0 where
    pub bound : found_at (length names) l ≤ length names
    pub highest : (b : List ℕ) → Noted names b → Highest b s n i l

  pub turn : (i : ℕ) (l r : Option Latest) → i < length names → r ≡ later l i (get_or names i None) s n → Searched i l → Searched (i + 1) r
  turn i l r j e h =
      rw e (record {
        bound = later-le l i (get_or names i None) s n (length names) h.bound j;
        highest = λ b N. one-more-named b s n names i l N j (h.highest b N);
      })

  pub ended : (i : ℕ) (l r : Option Latest) → length names ≤ i → i ≤ length names → l ≡ r → Searched i l
      → (found_at (length names) r ≤ length names) × ((b : List ℕ) → Noted names b → found_at (length names) r ≡ value_for b (length names) s n)
  ended i l r j k e h =
      let w : i ≡ length names = omega arith in
      rw (← e) (h.bound, λ b N. is-value-for b s n (length names) l (rw w at (h.highest b N)))

-- the names of the first m records
pub noted : (b : List ℕ) (names : List (Option Named)) (m : ℕ) → names ≡ names_in b → m ≤ 80
    → (length (take m names) ≡ m) × Noted (take m names) b
unfolding names_in
noted b names m e h =
    let long : length names ≡ 80 = ap length e ∙ length-tabulate 80 (named_in b) in
    let part : length (take m names) ≡ m = length-take-le m names (omega arith) in (
      part,
      record { each = λ k l. get_or-take m names k None (omega arith) ∙ rw e (get_d_tabulate 80 (named_in b) None k (omega arith)) },
    )
