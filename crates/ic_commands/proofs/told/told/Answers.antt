use Rattle.std.proofs.Common.{◌≡◌, string_bytes}
use Rattle.std.proofs.lemmas.Result.{IfOk-weaker}
use Rattle.ic_commands.proofs.AnswerLemmas.{always_err, as_before, both_ok, never_err, told_ok, told_refusal}
use Rattle.ic_commands.proofs.told.told.Goals as goal

pub returns-in-Ok : goal.returns-in-Ok
returns-in-Ok g c =
    let fields = g.T.Fields.fields in
    let before = string_bytes c.args.reply in
    record {
      ok = λ wants command old new does keeps. both_ok c.ok_reply.result c.ok_reply.ensures.ok c.ok_reply.ensures.line (λ text told line. told_ok wants fields command old new before (string_bytes text) c.args.done c.in-Ok.value c.in-Ok.is does keeps line told);
      err = λ wants made old new none does. never_err (new.book ≡ old.book) c.ok_reply.result g.T.Fields.memory c.ok_reply.ensures.err none;
    }

pub returns-in-Err : goal.returns-in-Err
returns-in-Err g c =
    let fields = g.T.Fields.fields in
    let before = string_bytes c.args.reply in
    record {
      ok = λ wants command old new does keeps. IfOk-weaker c.refused.result _ _ (λ text told. told_refusal wants fields command old new before (string_bytes text) c.args.done c.in-Err.e c.in-Err.is does told.0 told.1 told.2) c.refused.ensures.ok;
      err = λ wants made old new none does. always_err c.refused.result (as_before wants made fields old new c.args.done c.in-Err.e c.in-Err.is does);
    }
