use Rattle.std.proofs.Common.{◌≡◌, ◌++◌, ◌≤◌, sym, ℕ, List, Ok, chars, length, string_bytes, subst}
use Rattle.std.proofs.lemmas.Result.{IfOk-weaker}
use Rattle.ic_machine.specs.Fields.{named_sheet_fields}
use Rattle.ic_machine.specs.Reply.{reply_bytes, reply_text}
use Rattle.ic_machine.specs.subjects.Sheets.{named_fields}
use Rattle.ic_words.specs.Reply.{IsLineText}
use Rattle.ic_commands.proofs.AnswerLemmas.{always_err, as_before, is_short, told_ok, told_refusal}
use Rattle.ic_commands.proofs.told.told_named.Goals as goal

pub named_reply-requires-clause-short : goal.named_reply-requires-clause-short
named_reply-requires-clause-short c =
    subst (λ (name : List ℕ). length (chars name) ≤ 31) (sym c.as_str.ensures.value) (is_short c.args.done c.in-Ok.named c.in-Ok.is c.requires.named)

pub returns-in-Ok : goal.returns-in-Ok
returns-in-Ok c =
    let before = string_bytes c.args.reply in
    let line = subst (λ (name : List ℕ). IsLineText (reply_text (Ok (named_fields (chars name) c.in-Ok.named.1)))) c.as_str.ensures.value c.named_reply.ensures.line in
    let exact = subst (λ (name : List ℕ). string_bytes c.named_reply.result ≡ before ++ reply_bytes (Ok (named_fields (chars name) c.in-Ok.named.1))) c.as_str.ensures.value c.named_reply.ensures.exact in
    record {
      ok = λ wants command old new does keeps. told_ok wants named_sheet_fields command old new before (string_bytes c.named_reply.result) c.args.done c.in-Ok.named c.in-Ok.is does keeps line exact;
      err = λ wants made old new none does. tt;
    }

pub returns-in-Err : goal.returns-in-Err
returns-in-Err c =
    let before = string_bytes c.args.reply in
    record {
      ok = λ wants command old new does keeps. IfOk-weaker c.refused.result _ _ (λ text told. told_refusal wants named_sheet_fields command old new before (string_bytes text) c.args.done c.in-Err.e c.in-Err.is does told.0 told.1 told.2) c.refused.ensures.ok;
      err = λ wants made old new none does. always_err c.refused.result (as_before wants made named_sheet_fields old new c.args.done c.in-Err.e c.in-Err.is does);
    }
