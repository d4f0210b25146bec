use Rattle.std.proofs.Common.{◌∙◌}
use Rattle.std.specs.Str.{chars}
use Rattle.ic_tables.proofs.SampleLemmas.{five_places}
use Rattle.ic_functions.proofs.places.locales.Goals as goal

pub returns : goal.returns
unfolding chars
returns c =
    c.in_ok-locales_in.ensures ∙ five_places _ _ _ _ _ c.american.ensures c.european.ensures c.european-2.ensures c.european-3.ensures c.european-4.ensures
