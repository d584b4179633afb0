-- What the checker's code counts: the numbers that occur in the gathered values; then the laws, that these are the counts of Rules.
-- Document 01, "Numbers that come back": how many different registers, units and buses occur.
use Rattle.std.specs.Prelude.{ℕ, zero, suc, ◌+◌, ◌≤◌, ◌<◌, Bool, true, false, cond, ◌&&◌, ◌||◌, ◌≡◌, refl, List, [], ◌∷◌, length, take, get_or, set, replicate, count_by, eqb}
use Rattle.std.proofs.Math.Bool.{and-true, and-false, or-false, or_assoc}
use Rattle.std.proofs.Common.{sym, ◌∙◌, ap, zero-add, arith, get_or-set_same, get_or-set_other}
use Rattle.std.proofs.lemmas.List.{get_or-replicate}
use Rattle.std.proofs.lemmas.List.Recursion.{is_count_by}
use Rattle.std.specs.Option.{is_some}
use borrow.Author.Tests.{eq-eqb, ne_eqb}
use Rattle.ranges.specs.Below.{sum_below, count_below, any_below}
use Rattle.ranges.specs.Truth.{by_equal}
use Rattle.ranges.specs.Finding.{any_next}
use Rattle.ranges.specs.Counting.{count-zero, count-front, count_same}
use Rattle.checker.specs.declared.bound.Bound.{Bound}
use Rattle.checker.specs.declared.counts.Resource.{Resource}
use Rattle.checker.specs.declared.counts.Resource.TheVariants.{Registers, Units, Buses}
use Rattle.checker.specs.Bound.{no_bound, carried}

-- how many there are to choose from
abbrev pub numbers_of : Resource → ℕ
numbers_of Registers = 80
numbers_of Units = 80
numbers_of Buses = 240

-- the number k occurs as the register of x, as its unit or as one of its buses
unfoldable pub occurs_as : Resource → Bound → ℕ → Bool
occurs_as Registers x k = eqb x.place.register k
occurs_as Units x k = x.entry.computes && eqb x.place.unit k
occurs_as Buses x k = any_below 3 (λ p. is_some (carried x p).used && eqb (carried x p).bus k)

-- how many numbers occur in the values
unfoldable pub different_in : Resource → List Bound → ℕ
different_in what all = count_below (numbers_of what) (λ k. any_below (length all) (λ v. occurs_as what (get_or all v no_bound) k))

-- the marks r are those of before and what occurs
pub record Adds (before : List Bool) (occurs : ℕ → Bool) (r : List Bool) : Type 0 where
  pub at : (k : ℕ) → k < 256 → get_or r k false ≡ (get_or before k false || occurs k)

-- ---- laws of marks

pub adds_same : {m r : List Bool} (f g : ℕ → Bool) → ((k : ℕ) → f k ≡ g k) → Adds m f r → Adds m g r
adds_same {m} f g h A = record { at = λ k l. A.at k l ∙ ap (λ (t : Bool). get_or m k false || t) (h k) }

-- nothing added, and something added to what was added
pub adds_none : (m : List Bool) → Adds m (λ k. false) m
adds_none m = record { at = λ k l. sym (or-false (get_or m k false)) }

pub adds-more : {m r s : List Bool} (f g : ℕ → Bool) → Adds m f r → Adds r g s → Adds m (λ k. f k || g k) s
adds-more {m} f g A B =
    record { at = λ k l. B.at k l ∙ ap (λ (t : Bool). t || g k) (A.at k l) ∙ or_assoc (get_or m k false) (f k) (g k) }

-- one number marked
pub set-adds : (m : List Bool) (x : ℕ) (o : Bool) → x < length m → Adds m (λ k. o && eqb x k) (set m x (get_or m x false || o))
set-adds m x o l = record { at = λ k h. by_equal k x own other }
  where
    own : {k : ℕ} → k ≡ x → get_or (set m x (get_or m x false || o)) k false ≡ (get_or m k false || (o && eqb x k))
    own e = rw (e, get_or-set_same m x (get_or m x false || o) false l, eq-eqb x x refl, and-true)

    other : {k : ℕ} → (k ≡ x → ⊥) → get_or (set m x (get_or m x false || o)) k false ≡ (get_or m k false || (o && eqb x k))
    other {k} n = rw (get_or-set_other m x k (get_or m x false || o) false n, ne_eqb x k (λ e. n (sym e)), and-false, or-false)

-- what one more of several adds
pub adds-next : (occurs : ℕ → ℕ → Bool) {m r s : List Bool} (v : ℕ) → Adds m (λ k. any_below v (λ u. occurs u k)) r → Adds r (occurs v) s
    → Adds m (λ k. any_below (v + 1) (λ u. occurs u k)) s
adds-next occurs v A B =
    adds_same _ _ (λ k. sym (any_next v (λ u. occurs u k))) (adds-more (λ k. any_below v (λ u. occurs u k)) (occurs v) A B)

-- the first marks counted, as far as there are marks
pub count-taken : (top : ℕ) (r : List Bool) → count_below (length (take top r)) (λ k. get_or (take top r) k false) ≡ count_below top (λ k. get_or r k false)
unfolding count_below sum_below
count-taken zero r = refl
count-taken (suc top) [] = sym (count-zero (suc top) (λ k. get_or [] k false) (λ k l. refl))
count-taken (suc top) (m ∷ r) =
    count-front (length (take top r)) (λ k. get_or (m ∷ take top r) k false) ∙ ap (λ (n : ℕ). cond m 1 0 + n) (count-taken top r)
    ∙ sym (count-front top (λ k. get_or (m ∷ r) k false))

-- marks on an empty table, the first of them counted
pub marks-count : (f : ℕ → Bool) {r : List Bool} (top : ℕ) → top ≤ 240 → Adds (replicate 256 false) f r
    → count_below top (λ k. get_or r k false) ≡ count_below top f
marks-count f {r} top h A =
    count_same top (λ k. get_or r k false) f (λ k l. A.at k (omega arith) ∙ ap (λ (t : Bool). t || f k) (get_or-replicate 256 k false false (omega arith)))

pub numbers-few : (what : Resource) → numbers_of what ≤ 240
numbers-few Registers = omega arith
numbers-few Units = omega arith
numbers-few Buses = omega arith

-- the marks of a list, counted from its front
pub count-items : (l : List Bool) → count_by (λ m. m) l ≡ count_below (length l) (λ k. get_or l k false)
unfolding count_below sum_below
count-items l = sym (is_count_by counted (λ m. m) none (λ m s. count-front (length s) (λ k. get_or (m ∷ s) k false) ∙ one-more m (counted s)) l)
  where
    counted : List Bool → ℕ
    counted s = count_below (length s) (λ k. get_or s k false)

    none : counted [] ≡ 0
    none = refl

    one-more : (m : Bool) (n : ℕ) → cond m 1 0 + n ≡ cond m (1 + n) n
    one-more true n = refl
    one-more false n = zero-add n
