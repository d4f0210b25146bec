use Rattle.std.proofs.Common.{string_bytes}
use Rattle.std.specs.Str.{chars}
use Rattle.std.proofs.lemmas.Result.{on_ok_weaker}
use Rattle.ic_parts.proofs.MarkupLemmas.{is_marked}
use Rattle.ic_parts.proofs.markup.push_marked.Goals as goal

pub returns : goal.returns
unfolding chars
returns c =
    on_ok_weaker c.push_text-4.result
    (is_marked c.args.bold c.if-not-bold.false (chars c.args.shown.now) (chars (string_bytes c.args.text.now)) (chars (string_bytes c.push_text-2.new.text)) (chars (string_bytes c.push_text-3.new.text)) (chars (string_bytes c.push_text-4.new.text)) c.in_ok-push_text.ensures.ok c.in_ok-push_text-2.ensures.ok)
    c.push_text-4.ensures.ok
