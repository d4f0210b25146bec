use Rattle.std.proofs.Common.{◌∙◌, ap, encode_utf8_all}
use Rattle.ic_laws.specs.Name.{fold}
use Rattle.ic_tables.proofs.FoldLemmas.{one_folding}
use Rattle.ic_tables.proofs.fold.put_folding.Goals as goal

pub returns : goal.returns
returns c = λ others finds.
    one_folding c.args.folded.now c.insert.new.self others c.args.word.now _ _ finds
    (c.in_ok-text.ensures ∙ ap (λ name. encode_utf8_all (fold name)) c.as_str.ensures.characters)
    c.in_ok-insert.ensures.added
    c.in_ok-insert.ensures.updates
