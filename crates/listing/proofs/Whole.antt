-- A text before as many zeros as are left is the text in full.
use Prim.Native.Nat.{ℕ, ◌+◌, ◌-◌, ◌≤◌, ◌<◌}
use mathlib.Core.Path.{◌≡◌, refl, ap, ◌∙◌}
use mathlib.Core.List.{List, ◌++◌}
use lib.ListN.{length, get_or, drop, replicate, length-replicate}
use native.Mathlib.Omega.{arith}
use Rattle.std.specs.Prelude.{cond, ltb}
use Rattle.std.proofs.Common.{length-append, ltb-true, ltb-false}
use Rattle.std.proofs.lemmas.List.{length-drop, get_or-drop, get_or-replicate, get_or-append_right}
use Rattle.std.proofs.Math.ListN.{get_or-append}
use Rattle.ranges.specs.Below.{filled}
use Rattle.ranges.specs.Tables.{is-filled}
use Rattle.ranges.specs.Truth.{by-test}
use Rattle.listing.specs.declared.Listing.{Listing}
use Rattle.listing.specs.Listing.{in_full}

module _ (t : List ℕ) (fits : length t ≤ 2976) where
  abbrev rest : List ℕ
  rest = drop (length t) (replicate 2976 0)

  rest-length : length rest ≡ 2976 - length t
  rest-length = length-drop (length t) (replicate 2976 0) ∙ ap (λ (n : ℕ). n - length t) (length-replicate {A = ℕ} 2976 0)

  place : (i : ℕ) → i < 2976 → get_or (t ++ rest) i 0 ≡ cond (ltb i (length t)) (get_or t i 0) 0
  place i l =
      by-test (ltb i (length t))
      (λ e. rw e (get_or-append t rest 0 i (ltb-true i (length t) e)))
      (λ e. let past : length t ≤ i = ltb-false i (length t) e in
      rw e (get_or-append_right t rest (length t) i 0 refl past
      ∙ get_or-drop (length t) (replicate 2976 0) (i - length t) 0
      ∙ get_or-replicate 2976 (length t + (i - length t)) 0 0 (omega arith)))

  is_filled : t ++ rest ≡ filled 2976 (length t) 0 (λ i. get_or t i 0)
  is_filled =
      is-filled 2976 0 (λ i. get_or t i 0) (length t) (t ++ rest) (length-append t rest ∙ omega (arith, rest-length)) place

  pub in-full : (front : List ℕ) (end : ℕ) → front ≡ t → end ≡ length t
      → ◌≡◌ {A = Listing} (record { text = front ++ drop end (replicate 2976 0); length = end }) (in_full t)
  in-full front end f e = rw (f, e) (ap (λ (x : List ℕ). record { text = x; length = length t }) is_filled)
