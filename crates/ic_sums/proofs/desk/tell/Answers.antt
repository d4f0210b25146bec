use Rattle.std.proofs.Common.{◌≡◌, ◌++◌, ℕ, List, ap, chars, string_bytes, subst, sym, ◌∙◌}
use Rattle.std.proofs.lemmas.Str.{IsUtf8-string_bytes, encodes-chars}
use Rattle.std.specs.Prelude.{encode_utf8_all}
use Rattle.ic_lines.proofs.ToldLemmas.{IfTold-weaker}
use Rattle.ic_lines.specs.Bytes.{AppendsFront}
use Rattle.ic_parts.specs.Whole.{whole_of}
use Rattle.ic_sums.specs.Told.{WritesValues, WritesValuesFront}
use Rattle.ic_sums.proofs.desk.tell.Goals as goal

pub returns-in-Ok-clause-written : goal.returns-in-Ok-clause-written
returns-in-Ok-clause-written g c at_0 =
    let written = g.K.Sink.written in
    let text = chars (string_bytes c.in-Ok.text) in
    let tells : c.as_bytes.result.now ≡ encode_utf8_all text = c.as_bytes.ensures.value ∙ sym (encodes-chars (string_bytes c.in-Ok.text) (IsUtf8-string_bytes c.in-Ok.text)) in
    IfTold-weaker (written c.args.sink.now) (written c.written.new.sink) (λ before now. now ≡ before ++ c.as_bytes.result.now) (WritesValues (whole_of c.args.model.now.book))
    (λ before now q. (whole_of c.evaluate.new.model.book, c.evaluate.ensures.only_values, (text, c.in-Ok.ensures, q ∙ ap (λ (t : List ℕ). before ++ t) tells))) (c.written.ensures.ok at_0)

pub returns-in-Ok-clause-front : goal.returns-in-Ok-clause-front
returns-in-Ok-clause-front g c at_4 =
    let written = g.K.Sink.written in
    let text = chars (string_bytes c.in-Ok.text) in
    let tells : c.as_bytes.result.now ≡ encode_utf8_all text = c.as_bytes.ensures.value ∙ sym (encodes-chars (string_bytes c.in-Ok.text) (IsUtf8-string_bytes c.in-Ok.text)) in
    IfTold-weaker (written c.args.sink.now) (written c.written.new.sink) (AppendsFront c.as_bytes.result.now) (WritesValuesFront (whole_of c.args.model.now.book))
    (λ before now q. (whole_of c.evaluate.new.model.book, c.evaluate.ensures.only_values, (text, c.in-Ok.ensures, subst (λ (t : List ℕ). AppendsFront t before now) tells q))) (c.written.ensures.front at_4)
