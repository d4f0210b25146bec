use Rattle.std.proofs.Common.{[], ◌++◌, ◌∙◌, ap, append-nil, chars, string_bytes, sym}
use Rattle.std.specs.Option.{option_map_or}
use Rattle.std.proofs.lemmas.Result.{on_ok_weaker}
use Rattle.ic_laws.specs.Lines.{escaped}
use Rattle.ic_parts.specs.Markup.{sheet_shown}
use Rattle.ic_book.proofs.model.Model.push_word_at.Goals as goal

pub push_word-requires : goal.push_word-requires
push_word-requires c = (c.args.sheet, sym c.in-Some.ensures)

pub returns-in-Some : goal.returns-in-Some
returns-in-Some c =
    on_ok_weaker c.push_word.result
    (λ put. put ∙ ap (λ o. chars (string_bytes c.args.text.now) ++ escaped (option_map_or (sheet_shown c.args.self.now.book) o [])) c.in-Some.ensures)
    c.push_word.ensures

pub returns-in-None : goal.returns-in-None
returns-in-None c =
    let old = chars (string_bytes c.args.text.now) in
    sym (append-nil old) ∙ ap (λ o. old ++ escaped (option_map_or (sheet_shown c.args.self.now.book) o [])) c.in-None.ensures
