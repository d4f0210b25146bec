use Rattle.std.proofs.Common.{◌≡◌, ◌↔◌, chars, Some, IsNone}
use Rattle.std.proofs.lemmas.Result.{IfOk-weaker}
use Rattle.ic_laws.specs.Lines.{unescaped}
use Rattle.ic_lines.specs.Escapes.{HasWrongEscape}
use Rattle.ic_lines.proofs.EscapeLemmas.{spelled_exactly, wrong_exactly}
use Rattle.ic_lines.proofs.escapes.unescape.Goals as goal

pub returns-clause-spelled : goal.returns-clause-spelled
returns-clause-spelled c =
    let word = chars c.args.word.now in
    λ t e. IfOk-weaker c.spelled_text.result (λ text. text ≡ unescaped word) (λ text. text ≡ Some t) (λ text h. spelled_exactly word t text h e) c.spelled_text.ensures

pub returns-clause-wrong : goal.returns-clause-wrong
returns-clause-wrong c =
    let word = chars c.args.word.now in
    IfOk-weaker c.spelled_text.result (λ text. text ≡ unescaped word) (λ text. IsNone text ↔ HasWrongEscape word) (λ text h. wrong_exactly word text h) c.spelled_text.ensures
