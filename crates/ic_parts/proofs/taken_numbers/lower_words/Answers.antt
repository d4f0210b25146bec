use Rattle.std.proofs.Common.{◌++◌, chars, rules}
use Rattle.std.specs.Fmt.{decimal}
use Rattle.ic_parts.proofs.LoweredNotes.{notes_lowered}
use Rattle.ic_parts.proofs.taken_numbers.lower_words.Goals as goal

pub returns : goal.returns
returns c = λ gone is.
    notes_lowered (λ word n. chars word ++ decimal n) gone _ _ (λ k v b w f' t. search (rules, is))
    c.args.notes.now c.retain.new.self c.retain.ensures.filtered
