-- An array that `array::from_fn` makes by calls of a closure that changes nothing is the table of what the calls give.
use Rattle.std.specs.Prelude.{◌≡◌, ℕ, zero, suc, ◌+◌, ◌<◌, ◌≤◌, List, get_or}
use Rattle.std.proofs.Common.{refl, ◌∙◌, sym, subst, arith}
use Rattle.std.proofs.lemmas.List.{ext_get_or}
use Rattle.std.specs.Array.{IsFromFnResultFrom, IsFromFnResult}
use Rattle.ranges.specs.Truth.{by_equal}
use Rattle.ranges.specs.Below.{tabulate}
use Rattle.ranges.specs.Tables.{get_d_tabulate, length-tabulate}
use denote.Param.Members.{Mut, Called}

-- a call at i, below n, gives h i
module _ {F B : Type 0} (g : Mut F (ℕ × Unit {0}) B) (n : ℕ) (h : ℕ → B) (f : F)
    (gives : (i : ℕ) (y : B) (q : F) → i < n → Called g f (i, tt) y q → (y ≡ h i) × (q ≡ f)) where
  made-from : (ys : List B) (d : B) (m i : ℕ) (p : F) → p ≡ f → i + m ≡ n → IsFromFnResultFrom g p ys i m
      → (k : ℕ) → i ≤ k → k < n → get_or ys k d ≡ h k
  made-from ys d zero i p e s r k a b = absurd (omega arith)
  made-from ys d (suc m) i p e s r k a b =
      let call = gives i r.1 r.0 (omega arith) (subst (λ (x : F). Called g x (i, tt) r.1 r.0) e r.3) in
      by_equal k i
      (λ t. rw t (r.2.1 d ∙ call.0))
      (λ t. made-from ys d m (i + 1) r.0 call.1 (omega arith) r.4 k (omega arith) b)

  pub made : (ys : List B) → IsFromFnResult g f ys n → ys ≡ tabulate n h
  made ys r =
      ext_get_or (h 0) ys (tabulate n h) (r.long ∙ sym (length-tabulate n h))
      (λ k l. let s : k < n = omega (arith, r.long) in
      made-from ys (h 0) n 0 f refl (omega arith) r.each k (omega arith) s ∙ sym (get_d_tabulate n h (h 0) k s))
