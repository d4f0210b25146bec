use Rattle.std.proofs.Common.{◌≡◌, None, Some, sym, ◌∙◌}
use Rattle.ic_tables.specs.Sample.{sample}
use Rattle.ic_tables.specs.Tables.{TableSet}
use Rattle.ic_tables.proofs.SampleLemmas.{is_sample, sample_well_formed}
use Rattle.ic_tables.proofs.sample.sample_tables.Goals as goal

pub unreachable-requires : goal.unreachable-requires
unreachable-requires c =
    let t : TableSet = record {
      languages = c.in_ok-languages.languages;
      locales = c.in_ok-locales.locales;
      zones = c.in_ok-zones.zones;
      kinds = c.in_ok-kinds.kinds;
    } in
    let same : t ≡ sample = is_sample _ _ _ _ c.in_ok-languages.ensures c.in_ok-locales.ensures c.in_ok-zones.ensures c.in_ok-kinds.ensures in
    let bad = rw c.in-Err-BadTables.field-0-is at c.in-Err-BadTables.ensures.failed in
    let clash : None ≡ Some c.in-Err-BadTables.field-0-0 = sym (sample_well_formed t same) ∙ bad in
    cc

pub returns-in-Ok : goal.returns-in-Ok
returns-in-Ok c =
    c.in-Ok.ensures.made ∙ is_sample _ _ _ _ c.in_ok-languages.ensures c.in_ok-locales.ensures c.in_ok-zones.ensures c.in_ok-kinds.ensures
