-- The first n numbers of a list: how many, each of them, after a store, and of a table that is filled.
use Prim.Native.Nat.{ℕ, ◌≤◌, ◌<◌}
use mathlib.Core.Bool.{Bool, true, false, cond}
use Rattle.std.specs.Int.{from_bool}
use mathlib.Core.Path.{◌≡◌, refl, sym, ap, ◌∙◌}
use mathlib.Core.List.{List}
use native.Mathlib.Omega.{arith}
use lib.ListN.{get_or, length, set, take, replicate, length-replicate, get_or-replicate}
use lib.Seq.{get_or-set_same, get_or-set_other}
use Rattle.ranges.specs.Below.{tabulate}
use Rattle.ranges.specs.Tables.{get_d_tabulate, tabulate-same, tabulate-set, tabulate-take, tabulate-list}
use Rattle.allocator.specs.Words.{leading}

-- a flag as a number
pub byte-of : (t : Bool) → from_bool t ≡ cond t 1 0
byte-of true = refl
byte-of false = refl

module _ (n : ℕ) (l : List ℕ) where
  pub leading_at : (i : ℕ) → i < n → get_or (leading n l) i 0 ≡ get_or l i 0
  unfolding leading
  leading_at i h = get_d_tabulate n (λ k. get_or l k 0) 0 i h

  pub leading-take : n ≤ length l → leading n l ≡ take n l
  unfolding leading
  leading-take h = tabulate-take n 0 l h

  pub leading-set : (v x : ℕ) → n ≤ length l → leading n (set l v x) ≡ set (leading n l) v x
  unfolding leading
  leading-set v x few =
      sym (tabulate-set n (λ k. get_or l k 0) (λ k. get_or (set l v x) k 0) 0 v x (λ h. get_or-set_same l v x 0 (omega arith)) (λ k h o. get_or-set_other l v k x 0 o))

-- the first n of the first m
pub leading-twice : (m n : ℕ) (l : List ℕ) → n ≤ m → leading n (leading m l) ≡ leading n l
unfolding leading
leading-twice m n l h = tabulate-same n _ _ (λ k j. leading_at m l k (omega arith))

pub leading-tabulate : (m n : ℕ) (f : ℕ → ℕ) → n ≤ m → leading n (tabulate m f) ≡ tabulate n f
unfolding leading
leading-tabulate m n f h = tabulate-same n _ f (λ k j. get_d_tabulate m f 0 k (omega arith))

-- the first n of a table of the first m
pub leading-table : (m n : ℕ) (l t : List ℕ) → n ≤ m → t ≡ tabulate m (λ k. get_or l k 0) → leading n t ≡ leading n l
unfolding leading
leading-table m n l t h e = ap (leading n) e ∙ leading-twice m n l h

pub leading_zeros : (m n : ℕ) → n ≤ m → leading n (replicate m 0) ≡ replicate n 0
unfolding leading
leading_zeros m n l =
    tabulate-same n _ _ (λ k h. get_or-replicate m k 0 0 (omega arith) ∙ sym (get_or-replicate n k 0 0 h)) ∙ tabulate-list n 0 (replicate n 0) (length-replicate n 0)
