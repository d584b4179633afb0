-- `check` meets its contract: the first refusal gives the answer, and the rules where the block is readable and the binding well formed.
use Rattle.std.proofs.Common.{◌≡◌, length, refl, sym, ◌∙◌, arith, rules}
use Rattle.std.proofs.lemmas.List.{length-take, length-take-le}
use Rattle.std.proofs.lemmas.Result.{err_from_is_err_and}
use Rattle.reader.specs.Table.{table_of}
use Rattle.reader.specs.TableLaws.{table-few}
use Rattle.reader.proofs.RefusalLaws.{not-zero}
use Rattle.checker.proofs.Judgement.{block_refused, binding-refused, rules-judged}
use Rattle.checker.proofs.check.Goals as goal

pub returns-in_err-read : goal.returns-in_err-read
returns-in_err-read c =
    let p = err_from_is_err_and c.from_residual.result c.from_residual.ensures.1 in
    rw (p.1, p.2) (block_refused c.args.block.now c.args.binding.now c.in_err-read.ensures (not-zero _))

pub returns-in_err-form : goal.returns-in_err-form
returns-in_err-form c =
    let a = c.args in
    let p = err_from_is_err_and c.from_residual-in_err-form.result c.from_residual-in_err-form.ensures.1 in
    rw (p.1, p.2) (binding-refused a.block.now a.binding.now c.in_ok-read.ensures refl c.in_err-form.ensures (not-zero _))

pub slice_bounds-judged-end : goal.slice_bounds-judged-end
slice_bounds-judged-end c =
    let e : length c.gathered.result ≡ 80 = search rules in
    rw c.table-t.ensures (omega (arith, table-few c.args.block.now, e))

pub slice_bounds-judged-end-2 : goal.slice_bounds-judged-end-2
slice_bounds-judged-end-2 c =
    let e : length c.gathered.result ≡ 80 = search rules in
    sym (length-take-le _ c.gathered.result (rw c.table-t.ensures (omega (arith, table-few c.args.block.now, e))))

pub judged-requires : goal.judged-requires
judged-requires c =
    let a = c.args in
    rw c.table-t.ensures (omega (arith, table-few a.block.now, length-take (table_of a.block.now).values c.gathered.result))

pub returns : goal.returns
returns c =
    let a = c.args in
    c.judged.ensures
    ∙ rules-judged a.block.now a.binding.now c.in_ok-read.ensures refl c.in_ok-form.ensures refl
    c.table-t.ensures c.places-places.ensures c.gathered.ensures
