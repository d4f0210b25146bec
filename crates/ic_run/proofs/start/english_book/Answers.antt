use Rattle.std.proofs.Common.{◌≡◌, Err, IfOk, subst}
use Rattle.std.specs.Prelude.{◌↔◌, IsSome}
use Rattle.ic_run.specs.Desk.{Setting, start_book, start_refusal}
use Rattle.ic_run.proofs.start.english_book.Goals as goal

pub returns-clause-start : goal.returns-clause-start
returns-clause-start c = subst (λ (s : Setting). IfOk c.first_book.result (λ m. m.book ≡ start_book s m.book.metadata.created c.args.tables.now)) c.english_start.ensures c.first_book.ensures.start

pub returns-clause-unknown : goal.returns-clause-unknown
returns-clause-unknown c = subst (λ (s : Setting). (c.first_book.result ≡ Err 2) ↔ IsSome (start_refusal s c.args.tables.now)) c.english_start.ensures c.first_book.ensures.unknown
