use Rattle.std.proofs.Common.{chars, string_bytes, ap, ◌∙◌}
use Rattle.std.proofs.lemmas.Str.{chars-nil}
use Rattle.ic_import.proofs.DeskLemmas.{line_told}
use Rattle.ic_import.proofs.desk.refused.Goals as goal

pub returns : goal.returns
returns c =
    line_told (chars (string_bytes c.new-text.result)) (chars (string_bytes c.push_text.new.text)) (chars (string_bytes c.push_number.new.text)) (chars (string_bytes c.push_char.new.text)) (chars (string_bytes c.push_number-2.new.text)) (chars (string_bytes c.push_char-2.new.text))
    (chars (string_bytes c.push_text-2.new.text)) (chars (string_bytes c.push_char-3.new.text)) c.args.at_record c.args.at_field (chars c.args.name.now) (ap chars c.new-text.ensures.bytes ∙ chars-nil) c.in_ok-push_text.ensures.ok c.in_ok-push_number.ensures
    c.in_ok-push_char.ensures.ok c.in_ok-push_number-2.ensures c.in_ok-push_char-2.ensures.ok c.in_ok-push_text-2.ensures.ok c.in_ok-push_char-3.ensures.ok
