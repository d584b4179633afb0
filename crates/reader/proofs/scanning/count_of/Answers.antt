use Prim.Native.Nat.{ℕ, ◌+◌}
use mathlib.Core.Path.{◌≡◌, refl, sym, ap, ◌∙◌}
use mathlib.Core.List.{List}
use lib.Dec.{eqb}
use borrow.Author.Tests.{eq-eqb, ne_eqb}
use Rattle.ranges.specs.Below.{count_below, sum_below}
use Rattle.ranges.specs.Counting.{count_next, count-le}
use Rattle.reader.specs.Block.{records, kind}
use native.Mathlib.Omega.{arith}
use Rattle.reader.proofs.scanning.count_of.Goals as goal
use Rattle.reader.proofs.scanning.count_of.Goals.{then-field-k, else-field-k}

one_more : (b : List ℕ) (k i count next x : ℕ) → count ≡ count_below i (λ j. eqb (kind b j) k) → x ≡ kind b i → x ≡ k → next ≡ count + 1 → next ≡ count_below (i + 1) (λ j. eqb (kind b j) k)
one_more b k i count next x n e t m = rw (m, n, count_next i (λ j. eqb (kind b j) k), eq-eqb (kind b i) k (sym e ∙ t))

no_more : (b : List ℕ) (k i count next x : ℕ) → count ≡ count_below i (λ j. eqb (kind b j) k) → x ≡ kind b i → (x ≡ k → ⊥) → next ≡ count → next ≡ count_below (i + 1) (λ j. eqb (kind b j) k)
no_more b k i count next x n e t m = rw (m, n, count_next i (λ j. eqb (kind b j) k), ne_eqb (kind b i) k (λ z. t (e ∙ z))) (omega arith)

pub loop-i-init : goal.loop-i-init
unfolding count_below sum_below
loop-i-init c = refl

pub overflow_add-count : goal.overflow_add-count
overflow_add-count c = let at = c.loop-i in omega (arith, count-le at.i (λ j. eqb (kind c.args.block.now j) c.args.k))

pub loop-i-preserved : goal.loop-i-preserved
loop-i-preserved c =
    let at = c.loop-i in
    let a = c.args in
    let e = c.field.ensures in
    elim c.if-field-k.branch [
      | then-field-k w ↦ one_more a.block.now _ at.i _ _ _ at.invariant e w.if-field-k.true w.count-is
      | else-field-k w ↦ no_more a.block.now _ at.i _ _ _ at.invariant e w.if-field-k.false w.count-is
    ]

pub returns : goal.returns
returns c = let a = c.args in let e : c.loop-i.i ≡ records a.block.now = omega arith in c.loop-i.invariant ∙ ap (λ (n : ℕ). count_below n (λ j. eqb (kind a.block.now j) a.k)) e
