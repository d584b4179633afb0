-- `bind` meets its contract: refused, the room stays; done, it has the binding, which the checker accepts, in front.
use native.Mathlib.Omega.{arith}
use mathlib.Core.Path.{◌≡◌, refl, sym, ap, ◌∙◌}
use Rattle.std.proofs.lemmas.Result.{err_from_is_err_and}
use Rattle.reader.proofs.RefusalLaws.{not-zero}
use Rattle.checker.proofs.CheckedLaws.{refused-number, accepted-number}
use Prim.Native.Nat.{ℕ, ◌≤◌}
use mathlib.Core.List.{List, ◌++◌}
use lib.ListN.{length, drop}
use Rattle.reader.specs.Block.{reading}
use Rattle.reader.specs.Table.{table_of}
use Rattle.reader.specs.TableLaws.{table-few}
use Rattle.reader.specs.Numbers.{Reading}
use Rattle.reader.specs.declared.Table.{Table}
use Rattle.checker.specs.Rules.{verdict}
use Rattle.allocator.specs.Answer.{unallocated}
use Rattle.allocator.specs.Allocation.{binding_by}
use Rattle.allocator.proofs.MethodLaws.{chosen-number, chosen-few, none-chosen, none-number}
use Rattle.allocator.proofs.AnswerLaws.{own-binding, own-length, stops-9, stops_block, stops-20, stops-10, done}
use Rattle.allocator.proofs.bind.Goals as goal

few : (b : List ℕ) (t : Table) → t ≡ table_of b → t.values ≤ 80
few b t e = omega (arith, ap (λ (x : Table). x.values) e, table-few b)

readable : (b : List ℕ) (r : Reading) → r ≡ reading b → r.number ≡ 0 → (reading b).number ≡ 0
readable b r e z = sym (ap (λ (x : Reading). x.number) e) ∙ z

pub returns-in_err-chosen : goal.returns-in_err-chosen
returns-in_err-chosen c =
    let s = c.args in
    let p = err_from_is_err_and c.from_residual.result c.from_residual.ensures.1 in
    let e = c.in_err-chosen.ensures in
    let above = none-chosen s.method _ e in
    rw (p.1, p.2, none-number s.method _ e) (stops-9 s.block.now s.method s.out.now above _ refl)

pub returns-in_err-read : goal.returns-in_err-read
returns-in_err-read c =
    let s = c.args in
    let p = err_from_is_err_and c.from_residual-in_err-read.result c.from_residual-in_err-read.ensures.1 in
    let is = c.in_err-read.ensures in
    rw (p.1, p.2)
    (stops_block s.block.now s.method s.out.now (chosen-few s.method _ c.in_ok-chosen.ensures) (λ e. not-zero _ (ap (λ (r : Reading). r.number) is ∙ e)) _
    (ap (λ (r : Reading). unallocated r.number r.first r.second) is))

pub binding-own-requires : goal.binding-own-requires
binding-own-requires c = few c.args.block.now _ c.table-t.ensures

pub returns-then-is_err : goal.returns-then-is_err
returns-then-is_err c =
    let s = c.args in
    let read = readable s.block.now _ c.in_ok-read.ensures refl in
    let own = own-binding _ s.block.now _ _ c.table-t.ensures read c.binding-own.ensures ∙ ap (λ (m : ℕ). binding_by m s.block.now) (chosen-number s.method _ c.in_ok-chosen.ensures) in
    rw c.into.ensures (stops-20 s.block.now s.method s.out.now (chosen-few s.method _ c.in_ok-chosen.ensures) read
    _ (c.check.ensures ∙ ap (verdict s.block.now) (c.as_slice.ensures.value ∙ own)) (refused-number _ (sym c.is_err.ensures.value ∙ c.if-is_err.true)) _ refl)

pub returns-then-out-len : goal.returns-then-out-len
returns-then-out-len c =
    let s = c.args in
    let read = readable s.block.now _ c.in_ok-read.ensures refl in
    let own = own-binding _ s.block.now _ _ c.table-t.ensures read c.binding-own.ensures ∙ ap (λ (m : ℕ). binding_by m s.block.now) (chosen-number s.method _ c.in_ok-chosen.ensures) in
    rw c.into-then-out-len.ensures (stops-10 s.block.now s.method s.out.now (chosen-few s.method _ c.in_ok-chosen.ensures) read
    _ (c.check.ensures ∙ ap (verdict s.block.now) (c.as_slice.ensures.value ∙ own)) (accepted-number _ (sym c.is_err.ensures.value ∙ c.if-is_err.false)) (omega (arith, c.if-out-len.true, c.len.ensures.value, own-length s.block.now s.method _ own)) _ refl)

pub hand_out-requires : goal.hand_out-requires
hand_out-requires c = omega (arith, ap length c.as_slice-2.ensures.value, c.len.ensures.value, c.if-out-len.false)

pub overflow_cast-result : goal.overflow_cast-result
overflow_cast-result c = omega (arith, c.len-2.ensures.value, c.len-2.ensures.fits)

pub returns : goal.returns
returns c =
    let s = c.args in
    let read = readable s.block.now _ c.in_ok-read.ensures refl in
    let own = own-binding _ s.block.now _ _ c.table-t.ensures read c.binding-own.ensures ∙ ap (λ (m : ℕ). binding_by m s.block.now) (chosen-number s.method _ c.in_ok-chosen.ensures) in
    rw c.len-2.ensures.value
    (done s.block.now s.method s.out.now (chosen-few s.method _ c.in_ok-chosen.ensures) read
    _ (c.check.ensures ∙ ap (verdict s.block.now) (c.as_slice.ensures.value ∙ own)) (accepted-number _ (sym c.is_err.ensures.value ∙ c.if-is_err.false))
    _ _ (omega (arith, c.len.ensures.value, c.if-out-len.false)) own
    (c.hand_out.ensures ∙ ap (λ (l : List ℕ). l ++ drop (length l) s.out.now) c.as_slice-2.ensures.value))
