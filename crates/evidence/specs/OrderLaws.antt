-- Laws of rows in order: an order stops at the first row that is given and goes on behind rows that are not; at most one answer is the first.
-- Document 01, "Numbers that come back".
use Rattle.std.specs.Prelude.{ℕ, zero, suc, ◌<◌, Bool, true, false, cond, ◌≡◌, refl, List, [], ◌∷◌, ◌++◌, ltb}
use Rattle.std.proofs.Common.{arith, not-suc-le-zero}
use borrow.Author.Tests.{ltb-true, ltb-false}
use Rattle.ranges.specs.Below.{rows, any_below}
use Rattle.ranges.specs.Truth.{below_suc}
use Rattle.ranges.specs.Finding.{any-witness, any_false, first-before, first_holds, first-le, first-none}
use Rattle.checker.specs.Rules.{later_of, earlier_of}
use Rattle.evidence.specs.Orders.{Row, alone, at, FirstGiven, done, refused, passed, pair_order}
use Rattle.evidence.specs.Decisions.{Decides}

-- no row is given
pub data NoneGiven : List Row → Type 1 where
  empty : NoneGiven []
  more : {r : Row} {rest : List Row} → (r.given → ⊥) → NoneGiven rest → NoneGiven (r ∷ rest)

pub none_first : {xs : List Row} → NoneGiven xs → FirstGiven xs 0 0 0
none_first empty = done
none_first (more n N) = passed n (none_first N)

pub none_both : {xs ys : List Row} → NoneGiven xs → NoneGiven ys → NoneGiven (xs ++ ys)
none_both empty M = M
none_both (more n N) M = more n (none_both N M)

-- a refusal is the first whatever rows follow
pub stops : {xs : List Row} (ys : List Row) {n i j : ℕ} → (n ≡ 0 → ⊥) → FirstGiven xs n i j → FirstGiven (xs ++ ys) n i j
stops ys z done = absurd (z refl)
stops ys z (refused g) = refused g
stops ys z (passed n F) = passed n (stops ys z F)

-- what follows answers where nothing before it is given
pub goes_on : {xs ys : List Row} {n i j : ℕ} → NoneGiven xs → FirstGiven ys n i j → FirstGiven (xs ++ ys) n i j
goes_on empty F = F
goes_on (more n N) F = passed n (goes_on N F)

-- ---- rows of records, places or pairs

pub none_rows : (m : ℕ) (f : ℕ → List Row) → ((k : ℕ) → k < m → NoneGiven (f k)) → NoneGiven (rows m f)
unfolding rows
none_rows zero f h = empty
none_rows (suc m) f h = none_both (none_rows m f (λ k l. h k (omega arith))) (h m (omega arith))

-- the first record, place or later value of which a row is given
pub first_rows : (m : ℕ) (f : ℕ → List Row) (k : ℕ) → k < m → ((j : ℕ) → j < k → NoneGiven (f j)) → {n i j : ℕ} → (n ≡ 0 → ⊥)
    → FirstGiven (f k) n i j → FirstGiven (rows m f) n i j
unfolding rows
first_rows zero f k l h z F = absurd (not-suc-le-zero l)
first_rows (suc m) f k l h z F =
    below_suc k m l
    (λ s. stops (f m) z (first_rows m f k s h z F))
    (λ e. goes_on (none_rows m f (λ j s. h j (omega arith))) (rw e at F))

-- ---- one number after another

-- the number k of a test, or what the rest gives
pub in-turn : (t : Bool) (k rest i : ℕ) {P : Type 0} {xs : List Row} → Decides t P → ((rest ≡ 0 → ⊥) → FirstGiven xs rest i i)
    → (cond t k rest ≡ 0 → ⊥) → FirstGiven (at i k P ∷ xs) (cond t k rest) i i
in-turn true k rest i D f z = refused (D.holds refl)
in-turn false k rest i D f z = passed (D.fails refl) (f z)

-- ---- answers of any shape, given one test after another

module _ {A : Type 0} (number first second : A → ℕ) where
  -- x has the answer to the rows xs
  abbrev pub Answers : List Row → A → Type 1
  Answers xs x = FirstGiven xs (number x) (first x) (second x)

  -- one row alone
  pub turn : (t : Bool) (x y : A) (k : ℕ) {P : Type 0} {xs : List Row} → Decides t P → number x ≡ k → first x ≡ 0 → second x ≡ 0
      → Answers xs y → Answers (alone k P ∷ xs) (cond t x y)
  turn true x y k D n i j F = rw (n, i, j) (refused (D.holds refl))
  turn false x y k D n i j F = passed (D.fails refl) F

  -- rows that a test has looked at all together, and rows that follow
  pub group : (t : Bool) (x y : A) {xs ys : List Row} → (t ≡ true → (number x ≡ 0 → ⊥) × Answers xs x) → (t ≡ false → NoneGiven xs)
      → Answers ys y → Answers (xs ++ ys) (cond t x y)
  group true x y {ys = ys} f n F = let p = f refl in stops ys p.0 p.1
  group false x y f n F = goes_on (n refl) F

  -- rows after which nothing follows
  pub group-end : (t : Bool) (x y : A) {xs : List Row} → (t ≡ true → Answers xs x) → (t ≡ false → NoneGiven xs)
      → number y ≡ 0 → first y ≡ 0 → second y ≡ 0 → Answers xs (cond t x y)
  group-end true x y f n e i j = f refl
  group-end false x y f n e i j = rw (e, i, j) (none_first (n refl))

-- ---- all pairs of n values

module _ (n k : ℕ) (breaks : ℕ → ℕ → Bool) (Broken : ℕ → ℕ → Type 0) (D : (v w : ℕ) → v < n → w < n → Decides (breaks v w) (Broken v w)) where
  pub no-pair : ltb (later_of n breaks) n ≡ false → NoneGiven (pair_order n k Broken)
  unfolding later_of
  no-pair t =
      none_rows n _ (λ v l. none_rows n _ (λ w m. more ((D v w l m).fails
      (any_false n (breaks v) (first-none n (λ v. any_below n (breaks v)) (ltb-false (later_of n breaks) n t) v l) w m)) empty))

  -- the smallest later record, then the smallest earlier one
  pub first-pair : ltb (later_of n breaks) n ≡ true → (k ≡ 0 → ⊥) → FirstGiven (pair_order n k Broken) k (later_of n breaks) (earlier_of n breaks)
  unfolding later_of earlier_of
  first-pair t z =
      first_rows n _ (later_of n breaks) later
      (λ v m. none_rows n _ (λ w l. more ((D v w (omega (arith, later)) l).fails
      (any_false n (breaks v) (first-before n (λ v. any_below n (breaks v)) v m) w l)) empty))
      z
      (first_rows n _ (earlier_of n breaks) earlier
      (λ w m. more ((D (later_of n breaks) w later (omega (arith, earlier))).fails (first-before n (breaks (later_of n breaks)) w m)) empty)
      z
      (refused ((D (later_of n breaks) (earlier_of n breaks) later earlier).holds (first_holds n (breaks (later_of n breaks)) earlier))))
    where
      later : later_of n breaks < n
      later = ltb-true (later_of n breaks) n t

      earlier : earlier_of n breaks < n
      earlier =
          let w = any-witness n (breaks (later_of n breaks)) (first_holds n (λ v. any_below n (breaks v)) later) in
          omega (arith, w.1, first-le n (breaks (later_of n breaks)) w.0 w.2)

-- ---- at most one answer is the first

pub first-given-one : {xs : List Row} {n i j m k l : ℕ} → FirstGiven xs n i j → FirstGiven xs m k l → (n ≡ m) × (i ≡ k) × (j ≡ l)
first-given-one done done = (refl, refl, refl)
first-given-one (refused g) (refused h) = (refl, refl, refl)
first-given-one (refused g) (passed n F) = absurd (n g)
first-given-one (passed n F) (refused g) = absurd (n g)
first-given-one (passed n F) (passed m G) = first-given-one F G
