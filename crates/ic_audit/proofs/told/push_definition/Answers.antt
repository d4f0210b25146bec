use Rattle.std.proofs.Common.{◌++◌, chars, string_bytes, ap, ◌∙◌}
use Rattle.ic_laws.specs.Lines.{escaped}
use Rattle.ic_audit.proofs.ListedLemmas.{name_line}
use Rattle.ic_audit.proofs.told.push_definition.Goals as goal

pub returns : goal.returns
returns c =
    name_line (chars (string_bytes c.args.text.now)) (chars (string_bytes c.push_text.new.text)) (chars (string_bytes c.push_escaped.new.word)) (chars (string_bytes c.push_char.new.text)) (chars (string_bytes c.push_scope.new.text)) (chars (string_bytes c.push_char-2.new.text))
    c.args.key.now c.in_ok-push_text.ensures.ok (c.in_ok-push_escaped.ensures ∙ ap (λ n. chars (string_bytes c.push_text.new.text) ++ escaped n) c.as_str.ensures.characters) c.in_ok-push_char.ensures.ok c.in_ok-push_scope.ensures c.in_ok-push_char-2.ensures.ok
