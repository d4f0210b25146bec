use Rattle.std.proofs.Common.{◌∙◌, ap, encode_utf8_all}
use Rattle.ic_laws.specs.Name.{fold}
use Rattle.ic_dump.proofs.PassingLemmas.{one_folded}
use Rattle.ic_dump.proofs.passing.put_folded.Goals as goal

pub returns : goal.returns
returns c = λ taken finds.
    one_folded c.args.folded.now c.insert.new.self taken c.args.name.now _ finds
    (c.in_ok-text.ensures ∙ ap (λ name. encode_utf8_all (fold name)) c.as_str.ensures.characters)
    c.in_ok-insert.ensures.updates
