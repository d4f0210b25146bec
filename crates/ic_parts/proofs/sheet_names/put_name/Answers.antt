use Rattle.std.proofs.Common.{chars, string_bytes, OnOk, subst, sym}
use Rattle.std.proofs.Common.{◌≡◌}
use Rattle.std.specs.Fmt.{decimal}
use Rattle.ic_parts.specs.SheetNames.{name_with}
use Rattle.ic_parts.proofs.NumberedTexts.{word_put}
use Rattle.ic_parts.proofs.sheet_names.put_name.Goals as goal

pub returns-in_ok-push_text-in-Word : goal.returns-in_ok-push_text-in-Word
returns-in_ok-push_text-in-Word c =
    subst (λ name. OnOk c.push_number.result (chars (string_bytes c.push_number.new.text) ≡ name_with name c.args.number)) (sym c.in-Word.is)
    (word_put c.push_number.result (chars c.in-Word.base.now) (decimal c.args.number) (string_bytes c.clear.new.self) _ _
    c.clear.ensures.bytes c.in_ok-push_text-in-Word.ensures.ok c.push_number.ensures)
