-- The answers of `list`, each where its tests led to it: what `bind` returned and left decides.
use Prim.Native.Nat.{ℕ, ◌-◌, ◌*◌, ◌≤◌}
use mathlib.Core.Path.{◌≡◌, sym, ap, ◌∙◌}
use mathlib.Core.List.{List}
use native.Mathlib.Omega.{arith}
use lib.ListN.{take, drop, replicate, length-replicate}
use borrow.Author.Tests.{eq-eqb, ne_eqb}
use Rattle.reader.specs.Block.{values, reading}
use Rattle.checker.specs.Rules.{verdict}
use Rattle.checker.specs.Numbers.{Verdict}
use Rattle.allocator.specs.Allocation.{binding_by}
use Rattle.allocator.specs.Answer.{allocated, Binds}
use Rattle.allocator.specs.Bound.{bound-readable, bound-few, bound-written, bound-front}
use Rattle.allocator.specs.Numbers.{Allocated}
use Rattle.listing.specs.Text.{listed, counts_text, refused_text}
use Rattle.listing.specs.Listing.{text_of}

module _ (b own : List ℕ) (a : Allocated) (B : Binds b 0 (replicate 640 0) a own) where
  answer-is : a ≡ allocated b 0 640
  answer-is = B.answer ∙ ap (allocated b 0) (length-replicate {A = ℕ} 640 0)

  pub not-bound : (a.number ≡ 0 → ⊥) → refused_text a.number a.first ≡ text_of b
  unfolding text_of
  not-bound n =
      rw (text_of, ne_eqb (allocated b 0 640).number 0 (λ z. n (ap (λ (x : Allocated). x.number) answer-is ∙ z)))
      (ap (λ (x : Allocated). refused_text x.number x.first) answer-is)

  module _ (z : a.number ≡ 0) where
    done : (allocated b 0 640).number ≡ 0
    done = sym (ap (λ (x : Allocated). x.number) answer-is) ∙ z

    pub readable : (reading b).number ≡ 0
    readable = bound-readable b 0 640 done

    pub few-values : values b ≤ 80
    few-values = bound-few b 0 640 done

    pub end_is : a.written ≡ 8 * values b
    end_is = bound-written b 0 (replicate 640 0) a own B z

    -- the bytes that were written are the binding
    pub part-is : take (a.written - 0) (drop 0 own) ≡ binding_by 0 b
    part-is =
        let whole : a.written - 0 ≡ 8 * values b = omega (arith, end_is) in
        rw whole (bound-front b 0 (replicate 640 0) a own B z)

    module _ (v : Verdict) (e : v ≡ verdict b (take (a.written - 0) (drop 0 own))) where
      verdict-is : v ≡ verdict b (binding_by 0 b)
      verdict-is = rw part-is at e

      pub not-accepted : (v.number ≡ 0 → ⊥) → refused_text v.number v.later ≡ text_of b
      unfolding text_of
      not-accepted n =
          rw (text_of, eq-eqb (allocated b 0 640).number 0 done, ne_eqb (verdict b (binding_by 0 b)).number 0 (λ q. n (ap (λ (x : Verdict). x.number) verdict-is ∙ q)))
          (ap (λ (x : Verdict). refused_text x.number x.later) verdict-is)

      pub is-accepted : v.number ≡ 0 → listed b (binding_by 0 b) (counts_text v.registers v.units v.buses) ≡ text_of b
      unfolding text_of
      is-accepted q =
          rw (text_of, eq-eqb (allocated b 0 640).number 0 done, eq-eqb (verdict b (binding_by 0 b)).number 0 (sym (ap (λ (x : Verdict). x.number) verdict-is) ∙ q))
          (ap (λ (x : Verdict). listed b (binding_by 0 b) (counts_text x.registers x.units x.buses)) verdict-is)
