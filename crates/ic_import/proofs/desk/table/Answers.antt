use Rattle.std.proofs.Common.{◌∷◌, ◌++◌, [], chars, string_bytes, ap, ◌∙◌}
use Rattle.ic_parts.specs.Whole.{whole_of}
use Rattle.ic_laws.specs.Character.{line_feed}
use Rattle.ic_import.proofs.DeskLemmas.{markup_told}
use Rattle.ic_import.proofs.desk.table.Goals as goal

pub returns : goal.returns
returns c =
    let book = whole_of c.args.model.now.book in
    c.in_ok-push_char.ensures.ok ∙ ap (λ t. t ++ line_feed ∷ []) (markup_told book book (chars (string_bytes c.in-Ok.text)) c.in-Ok.ensures.does.done)
