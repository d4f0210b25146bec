use Rattle.std.proofs.Common.{◌≡◌, ◌++◌, ℕ, List, ap, map, string_bytes, subst, sym, ◌∙◌}
use Rattle.std.proofs.lemmas.Str.{IsUtf8-string_bytes, encodes-chars}
use Rattle.std.specs.Prelude.{encode_utf8_all}
use Rattle.ic_parts.specs.Sites.{site_of}
use Rattle.ic_lines.proofs.ToldLemmas.{IfTold-weaker}
use Rattle.ic_lines.specs.Bytes.{AppendsFront}
use Rattle.ic_audit.specs.Listed.{told_sites}
use Rattle.ic_audit.proofs.desk.write_sites.Goals as goal

pub returns-in-Ok-clause-ok : goal.returns-in-Ok-clause-ok
returns-in-Ok-clause-ok g c at_0 =
    let written = g.K.Sink.written in
    let told = told_sites (map site_of c.args.sites.now) in
    let tells : c.as_bytes.result.now ≡ told = c.as_bytes.ensures.value ∙ sym (encodes-chars (string_bytes c.in-Ok.text) (IsUtf8-string_bytes c.in-Ok.text)) ∙ ap encode_utf8_all c.in-Ok.ensures in
    IfTold-weaker (written c.args.sink.now) (written c.written.new.sink) (λ before now. now ≡ before ++ c.as_bytes.result.now) (λ before now. now ≡ before ++ told)
    (λ before now q. q ∙ ap (λ (t : List ℕ). before ++ t) tells) (c.written.ensures.ok at_0)

pub returns-in-Ok-clause-front : goal.returns-in-Ok-clause-front
returns-in-Ok-clause-front g c at_4 =
    let written = g.K.Sink.written in
    let told = told_sites (map site_of c.args.sites.now) in
    let tells : c.as_bytes.result.now ≡ told = c.as_bytes.ensures.value ∙ sym (encodes-chars (string_bytes c.in-Ok.text) (IsUtf8-string_bytes c.in-Ok.text)) ∙ ap encode_utf8_all c.in-Ok.ensures in
    IfTold-weaker (written c.args.sink.now) (written c.written.new.sink) (AppendsFront c.as_bytes.result.now) (AppendsFront told)
    (λ before now q. subst (λ (t : List ℕ). AppendsFront t before now) tells q) (c.written.ensures.front at_4)
