use Rattle.std.proofs.Common.{ap₂, option_map, ◌∙◌}
use Rattle.ic_functions.specs.All.{with_column, with_functions}
use Rattle.ic_functions.proofs.languages.language.Goals as goal

pub returns : goal.returns
unfolding with_column
returns c =
    c.with_functions.ensures ∙ ap₂ (λ f l. option_map (with_functions f) l) c.in_ok-functions.ensures c.in_ok-language.ensures
