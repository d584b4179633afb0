-- `tables::last_reading` meets its contract, by the laws of `map` and `max`.
use Rattle.std.proofs.Common.{◌∙◌, ap, unwrap_or, rules, tests}
use Rattle.std.proofs.lemmas.Iterator.{YieldsList-from_slice, YieldsList-from_map}
use Rattle.std.proofs.lemmas.Iterator.Consumers.{reduce_from_yields_List}
use Rattle.std.proofs.lemmas.List.Folds.{max_of_map}
use Rattle.reader.specs.Table.{before_reading}
use Rattle.reader.proofs.tables.last_reading.Goals as goal

pub returns : goal.returns
returns c =
    let s = c.args.entries.now in
    c.unwrap_or.ensures
    ∙ ap (λ o. unwrap_or o 0) (reduce_from_yields_List _ c.map.result _ c.max.ensures.ran
    (YieldsList-from_map _ (λ e. before_reading e c.args.v) (YieldsList-from_slice s cc) c.map.ensures.closure (λ x b q k. search (rules, tests))))
    ∙ max_of_map (λ e. before_reading e c.args.v) s
