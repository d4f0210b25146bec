use Rattle.std.proofs.Common.{◌∙◌, ap, reverse}
use Rattle.ic_laws.specs.Scan.{is_blank, past_run}
use Rattle.ic_refs.proofs.FormulaTrimLemmas.{trimmed_front}
use Rattle.ic_refs.proofs.trim.trimmed.Goals as goal

pub returns : goal.returns
returns c =
    trimmed_front _ _ _ c.after_last.ensures c.front_of.ensures ∙ ap (λ text. reverse (past_run is_blank (reverse text))) c.past_blanks-text.ensures
