-- `bound` meets its contract: each answer stands where its tests led to it.
use mathlib.Core.Path.{◌≡◌, refl, ap, ◌∙◌}
use Rattle.std.proofs.lemmas.Result.{err_from_is_err_and}
use Rattle.reader.proofs.RefusalLaws.{not-zero}
use Prim.Native.Nat.{ℕ, ◌-◌}
use mathlib.Core.List.{List}
use lib.ListN.{length, take, drop}
use Rattle.checker.specs.Rules.{verdict}
use Rattle.reader.specs.Binding.{places_of}
use Rattle.reader.specs.TableLaws.{Shows, shows}
use Rattle.allocator.specs.Allocation.{binding_by}
use Rattle.listing.proofs.Answers.{not-bound, readable, few-values, end_is, part-is, not-accepted, is-accepted}
use native.Mathlib.Omega.{arith}
use borrow.Author.Rules.{rules}
use Rattle.listing.proofs.bound.Goals as goal

-- the length as a place is the length
part_same : (b own : List ℕ) {n m : ℕ} → n ≡ m → verdict b (take (n - 0) (drop 0 own)) ≡ verdict b (take (m - 0) (drop 0 own))
part_same b own e = ap (λ (k : ℕ). verdict b (take (k - 0) (drop 0 own))) e

pub returns-in_err-bind : goal.returns-in_err-bind
returns-in_err-bind c =
    let p = err_from_is_err_and c.from_residual.result c.from_residual.ensures.1 in
    rw (p.1, p.2) (not-bound c.args.block.now c.bind.new.out _ c.in_err-bind.ensures (not-zero _))

pub slice_bounds-check-end : goal.slice_bounds-check-end
slice_bounds-check-end c =
    let room = c.bind.new.out in
    let done = c.in_ok-bind.ensures in
    let few = few-values c.args.block.now room _ done refl in
    let end = end_is c.args.block.now room _ done refl in
    let long : length room ≡ 640 = search rules in
    omega arith

pub returns-in_err-used : goal.returns-in_err-used
returns-in_err-used c =
    let p = err_from_is_err_and c.from_residual-in_err-used.result c.from_residual-in_err-used.ensures.1 in
    rw (p.1, p.2) (not-accepted c.args.block.now c.bind.new.out _ c.in_ok-bind.ensures refl _ (c.in_err-used.ensures ∙ part_same c.args.block.now c.bind.new.out c.from-end.ensures) (not-zero _))

pub slice_bounds-places-end : goal.slice_bounds-places-end
slice_bounds-places-end c =
    let room = c.bind.new.out in
    let done = c.in_ok-bind.ensures in
    let few = few-values c.args.block.now room _ done refl in
    let end = end_is c.args.block.now room _ done refl in
    let long : length room ≡ 640 = search rules in
    omega arith

pub accepted-requires : goal.accepted-requires
accepted-requires c =
    let block = c.args.block.now in
    let room = c.bind.new.out in
    let done = c.in_ok-bind.ensures in
    let S : Shows c.table.result block = rw c.table.ensures (shows block (readable block room _ done refl)) in
    omega (arith, S.values-are, S.fewer)

pub returns : goal.returns
returns c =
    let block = c.args.block.now in
    let room = c.bind.new.out in
    let done = c.in_ok-bind.ensures in
    c.accepted.ensures block (binding_by 0 block)
    (rw c.table.ensures (shows block (readable block room _ done refl)))
    (c.places-places.ensures ∙ ap (λ (n : ℕ). places_of (take (n - 0) (drop 0 room))) c.from-end.ensures ∙ ap places_of (part-is block room _ done refl))
    ∙ is-accepted block room _ done refl _ (c.in_ok-used.ensures ∙ part_same block room c.from-end.ensures) refl
