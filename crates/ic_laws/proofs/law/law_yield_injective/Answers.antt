-- The premise of the law is one of a dialect's own laws.
use Rattle.ic_laws.specs.Dialect.{IsLawful}
use Rattle.ic_laws.proofs.parsing.ParseLemmas.{yield_injective}
use Rattle.ic_laws.proofs.law.law_yield_injective.Goals as goal

pub returns : goal.returns
returns g c = λ d s t well_s well_t same.
    let laws : IsLawful (g.D.Dialect.meaning d) = g.met.D.Dialect.laws d in
    yield_injective (g.D.Dialect.meaning d) s t laws.special_differ well_s well_t same
