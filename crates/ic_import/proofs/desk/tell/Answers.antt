use Rattle.std.proofs.Common.{◌≡◌, ◌++◌, List, ℕ, ap, chars, string_bytes, subst, sym, ◌∙◌}
use Rattle.std.proofs.lemmas.Str.{IsUtf8-string_bytes, encodes-chars}
use Rattle.std.specs.Prelude.{encode_utf8_all}
use Rattle.ic_parts.specs.Whole.{whole_of}
use Rattle.ic_lines.proofs.ToldLemmas.{IfTold-weaker}
use Rattle.ic_lines.specs.Bytes.{AppendsFront}
use Rattle.ic_import.specs.Desk.{SaysOf}
use Rattle.ic_import.proofs.DeskLemmas.{never_4, told_status}
use Rattle.ic_import.proofs.desk.tell.Goals as goal

pub written-requires : goal.written-requires
written-requires g c = λ e. never_4 c.args.answer.now (sym c.status_of.ensures ∙ e)

pub returns-in-Ok-clause-written : goal.returns-in-Ok-clause-written
returns-in-Ok-clause-written g c at =
    let written = g.K.Sink.written in
    let answer = c.args.answer.now in
    let book = whole_of c.args.model.now.book in
    let text = chars (string_bytes c.in-Ok.text) in
    let tells : c.as_bytes.result.now ≡ encode_utf8_all text = c.as_bytes.ensures.value ∙ sym (encodes-chars (string_bytes c.in-Ok.text) (IsUtf8-string_bytes c.in-Ok.text)) in
    let status : c.written.result ≡ c.status_of.result = told_status c.written.result c.status_of.result c.written.ensures.which at in (
      text,
      subst (λ (n : ℕ). SaysOf answer book n text) (sym (status ∙ c.status_of.ensures)) c.in-Ok.ensures.text,
      IfTold-weaker (written c.args.sink.now) (written c.written.new.sink) (λ before now. now ≡ before ++ c.as_bytes.result.now) (λ before now. now ≡ before ++ encode_utf8_all text)
          (λ before now q. q ∙ ap (λ (t : List ℕ). before ++ t) tells) (c.written.ensures.ok status),
    )

pub returns-in-Ok-clause-front : goal.returns-in-Ok-clause-front
returns-in-Ok-clause-front g c at =
    let written = g.K.Sink.written in
    let text = chars (string_bytes c.in-Ok.text) in
    let tells : c.as_bytes.result.now ≡ encode_utf8_all text = c.as_bytes.ensures.value ∙ sym (encodes-chars (string_bytes c.in-Ok.text) (IsUtf8-string_bytes c.in-Ok.text)) in (
      text,
      c.in-Ok.ensures.text,
      IfTold-weaker (written c.args.sink.now) (written c.written.new.sink) (AppendsFront c.as_bytes.result.now) (AppendsFront (encode_utf8_all text))
          (λ before now q. subst (λ (t : List ℕ). AppendsFront t before now) tells q) (c.written.ensures.front at),
    )
