use Rattle.std.proofs.Common.{◌≡◌, None, Some, ap, length, sym, ◌∙◌}
use Rattle.ic_tables.specs.Tables.{TableSet, first_failed}
use Rattle.ic_functions.specs.All.{all_functions, first_functions}
use Rattle.ic_functions.proofs.AllLemmas.{all_well_formed, are_all, begin_with_sample, counted}
use Rattle.ic_functions.proofs.tables.all_tables.Goals as goal

pub unreachable-requires : goal.unreachable-requires
unreachable-requires c =
    let t : TableSet = record {
      languages = c.in_ok-languages.languages;
      locales = c.in_ok-locales.locales;
      zones = c.in_ok-zones.zones;
      kinds = c.in_ok-kinds.kinds;
    } in
    let same : t ≡ all_functions = are_all _ _ _ _ c.in_ok-languages.ensures c.in_ok-locales.ensures c.in_ok-zones.ensures c.in_ok-kinds.ensures in
    let bad = rw c.in-Err-BadTables.field-0-is at c.in-Err-BadTables.ensures.failed in
    let clash : None ≡ Some c.in-Err-BadTables.field-0-0 = sym (ap first_failed same ∙ all_well_formed) ∙ bad in
    cc

pub returns-in-Ok-clause-tables : goal.returns-in-Ok-clause-tables
returns-in-Ok-clause-tables c =
    c.in-Ok.ensures.made ∙ are_all _ _ _ _ c.in_ok-languages.ensures c.in_ok-locales.ensures c.in_ok-zones.ensures c.in_ok-kinds.ensures

pub returns-in-Ok-clause-front : goal.returns-in-Ok-clause-front
returns-in-Ok-clause-front c =
    ap (first_functions 42) (returns-in-Ok-clause-tables c) ∙ begin_with_sample

pub returns-in-Ok-clause-count : goal.returns-in-Ok-clause-count
returns-in-Ok-clause-count c = ap (λ t. length t.kinds) (returns-in-Ok-clause-tables c) ∙ counted
