-- A slice that takes the elements of a list one after another, or rows of one width, and the laws of a loop that hands them out.
-- It renders no section of document 01: bytes of a binding and words of a run reach their caller so.
use Rattle.std.specs.Prelude.{ℕ, ◌+◌, ◌*◌, ◌≤◌, ◌<◌, ◌≡◌, length, get_or, set, take}
use Rattle.std.proofs.Math.Path.{refl, ap}
use Rattle.std.proofs.Common.{sym, ◌∙◌, mul-zero, mul-suc, arith, length-append, length-drop, take_at, drop_at}
use mathlib.Core.List.{List, ◌++◌, append-nil}
use Rattle.std.proofs.Math.Nat.{zero-add}
use Rattle.std.proofs.Math.Numerals.{add-one}
use Rattle.std.proofs.Math.ListN.{drop}
use Rattle.std.proofs.Math.Seq.{drop-length, drop-drop, paste-suc}
use Rattle.ranges.specs.Below.{rows}
use Rattle.ranges.specs.Tables.{length-rows, rows_next}

module _ {ℓ} {A : Type ℓ} where
  -- the first n places are those of xs, the rest are what they were
  unfoldable pub handed : List A → List A → ℕ → List A
  handed xs old n = take n xs ++ drop n old

  module _ (xs old : List A) where
    pub handed-none : old ≡ handed xs old 0
    unfolding handed
    handed-none = refl

    pub handed-next : (d : A) (n : ℕ) → n < length xs → n < length old → set (handed xs old n) n (get_or xs n d) ≡ handed xs old (n + 1)
    unfolding handed
    handed-next d n l h = rw add-one (simp zero-add at (paste-suc old 0 xs n d (rw zero-add h) l))

    pub handed-all : handed xs old (length old) ≡ take (length old) xs
    unfolding handed
    handed-all = rw (drop-length old) (append-nil (take (length old) xs))

-- rows of one width
module _ {ℓ} {A : Type ℓ} where
  -- the first n rows, then what was there
  unfoldable pub laid : ℕ → (ℕ → List A) → List A → ℕ → List A
  laid width row old n = rows n row ++ drop (width * n) old

  module _ (width : ℕ) (row : ℕ → List A) (old : List A) where
    pub laid_none : old ≡ laid width row old 0
    unfolding laid rows
    laid_none = rw (mul-zero width)

    module _ (wide : (v : ℕ) → length (row v) ≡ width) where
      pub length-laid : (n : ℕ) → width * n ≤ length old → length (laid width row old n) ≡ length old
      unfolding laid
      length-laid n h = simp (length-append, length-drop) (omega (arith, length-rows width row wide n))

      -- one row more
      pub laid_next : (n : ℕ) → take (width * n) (laid width row old n) ++ row n ++ drop (width * n + width) (laid width row old n) ≡ laid width row old (n + 1)
      unfolding laid
      laid_next n =
          let s = length-rows width row wide n in
          let e : width * n + width ≡ width * (n + 1) = rw (add-one, mul-suc) in
          rw (take_at (rows n row) (drop (width * n) old) (width * n) s, rows_next)
          (ap (λ (t : List A). rows n row ++ row n ++ t)
          (sym (drop-drop width (width * n) (rows n row ++ drop (width * n) old)) ∙ ap (drop width) (drop_at (rows n row) (drop (width * n) old) (width * n) s)
          ∙ drop-drop width (width * n) old ∙ ap (λ (k : ℕ). drop k old) e))
