use Rattle.std.proofs.Common.{◌≡◌, ◌++◌, ℕ, List, Ok, Err, ap, subst, sym, ◌∙◌}
use Rattle.ic_parts.specs.Translated.{why_meant}
use Rattle.ic_parts.specs.Whole.{whole_of}
use Rattle.ic_lines.proofs.ToldLemmas.{IfTold-weaker}
use Rattle.ic_lines.specs.Bytes.{AppendsFront}
use Rattle.ic_run.specs.Start.{target}
use Rattle.ic_run.specs.Translate.{AppendsTold, AreAcceptedBeside, AppendsToldFront, HasTranslated, told_bytes, told_cannot}
use Rattle.ic_run.specs.declared.translating.TranslateError.{TranslateError}
use Rattle.ic_run.proofs.AcceptedLemmas.{due_of}
use Rattle.ic_run.proofs.TranslationLemmas.{at_0, at_7}
use Rattle.ic_run.proofs.translation.write_translated.Goals as goal

pub returns-in-Ok-clause-told : goal.returns-in-Ok-clause-told
returns-in-Ok-clause-told g c at =
    let written = g.K.Sink.written in
    let aim = target c.args.wanted.now in
    let zero = at_0 c.write_lines.result at c.write_lines.ensures.which in
    IfTold-weaker (written c.args.sink.now) (written c.write_lines.new.sink) (λ before now. now ≡ before ++ told_bytes aim (Ok c.deref.result.now)) (AppendsTold aim (whole_of c.args.model.now.book) c.args.lines.now c.write_lines.result)
    (λ before now q. record {
      answer = Ok c.in-Ok.lines.items;
      left = whole_of c.translate.new.model.book;
      is = c.in-Ok.ensures.translated;
      tells = sym zero;
      written = q ∙ ap (λ (ls : List (List ℕ)). before ++ told_bytes aim (Ok ls)) c.deref.ensures.value;
      accepted = λ new e.
          let same : c.in-Ok.lines.items ≡ new = cc in
          subst (AreAcceptedBeside aim.locale aim.language (whole_of c.args.model.now.book) c.args.lines.now (whole_of c.translate.new.model.book)) same c.in-Ok.ensures.accepted;
    }) (c.write_lines.ensures.ok zero)

pub returns-in-Ok-clause-front : goal.returns-in-Ok-clause-front
returns-in-Ok-clause-front g c at_4 =
    let written = g.K.Sink.written in
    let aim = target c.args.wanted.now in
    IfTold-weaker (written c.args.sink.now) (written c.write_lines.new.sink) (AppendsFront (told_bytes aim (Ok c.deref.result.now))) (AppendsToldFront aim (whole_of c.args.model.now.book) c.args.lines.now)
    (λ before now q. record {
      answer = Ok c.in-Ok.lines.items;
      left = whole_of c.translate.new.model.book;
      is = c.in-Ok.ensures.translated;
      written = subst (λ (ls : List (List ℕ)). AppendsFront (told_bytes aim (Ok ls)) before now) c.deref.ensures.value q;
    }) (c.write_lines.ensures.front at_4)

pub returns-in-Err-Cannot-clause-told : goal.returns-in-Err-Cannot-clause-told
returns-in-Err-Cannot-clause-told g c at =
    let written = g.K.Sink.written in
    let aim = target c.args.wanted.now in
    let seven = at_7 c.write_cannot.result at c.write_cannot.ensures.which in
    IfTold-weaker (written c.args.sink.now) (written c.write_cannot.new.sink) (λ before now. now ≡ before ++ told_cannot c.in-Err-Cannot.line (why_meant c.in-Err-Cannot.why)) (AppendsTold aim (whole_of c.args.model.now.book) c.args.lines.now c.write_cannot.result)
    (λ before now q. record {
      answer = Err (c.in-Err-Cannot.line, why_meant c.in-Err-Cannot.why);
      left = whole_of c.translate.new.model.book;
      is =
          subst (λ (e : TranslateError). HasTranslated aim.locale aim.language (whole_of c.args.model.now.book) c.args.lines.now (Err e) (whole_of c.translate.new.model.book)) c.in-Err-Cannot.field-0-is
          c.in-Err-Cannot.ensures.translated;
      tells = sym seven;
      written = q;
      accepted = λ new e. absurd (cc);
    }) (c.write_cannot.ensures.ok seven)

pub returns-in-Ok-clause-due : goal.returns-in-Ok-clause-due
returns-in-Ok-clause-due g c at =
    let zero = at_0 c.write_lines.result at c.write_lines.ensures.which in
    due_of (target c.args.wanted.now) (whole_of c.args.model.now.book) (whole_of c.translate.new.model.book) c.args.lines.now (Ok c.in-Ok.lines.items) c.in-Ok.ensures.translated ∙ sym zero

pub returns-in-Err-Cannot-clause-due : goal.returns-in-Err-Cannot-clause-due
returns-in-Err-Cannot-clause-due g c at =
    let aim = target c.args.wanted.now in
    let seven = at_7 c.write_cannot.result at c.write_cannot.ensures.which in
    let is =
    subst (λ (e : TranslateError). HasTranslated aim.locale aim.language (whole_of c.args.model.now.book) c.args.lines.now (Err e) (whole_of c.translate.new.model.book)) c.in-Err-Cannot.field-0-is
    c.in-Err-Cannot.ensures.translated in
    due_of aim (whole_of c.args.model.now.book) (whole_of c.translate.new.model.book) c.args.lines.now (Err (c.in-Err-Cannot.line, why_meant c.in-Err-Cannot.why)) is ∙ sym seven

pub returns-in-Err-Cannot-clause-front : goal.returns-in-Err-Cannot-clause-front
returns-in-Err-Cannot-clause-front g c at_4 =
    let written = g.K.Sink.written in
    let aim = target c.args.wanted.now in
    IfTold-weaker (written c.args.sink.now) (written c.write_cannot.new.sink) (AppendsFront (told_cannot c.in-Err-Cannot.line (why_meant c.in-Err-Cannot.why))) (AppendsToldFront aim (whole_of c.args.model.now.book) c.args.lines.now)
    (λ before now q. record {
      answer = Err (c.in-Err-Cannot.line, why_meant c.in-Err-Cannot.why);
      left = whole_of c.translate.new.model.book;
      is =
          subst (λ (e : TranslateError). HasTranslated aim.locale aim.language (whole_of c.args.model.now.book) c.args.lines.now (Err e) (whole_of c.translate.new.model.book)) c.in-Err-Cannot.field-0-is
          c.in-Err-Cannot.ensures.translated;
      written = q;
    }) (c.write_cannot.ensures.front at_4)
