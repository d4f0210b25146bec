-- A kept tree that doesn't clash is written so that it reads back, and it is settled.
use Rattle.ic_laws.proofs.kept.Clashing.{shown_again}
use Rattle.ic_laws.proofs.book_law.law_shown_text.Goals as goal

pub returns : goal.returns
returns c = λ n book id row column t notations valid cell h free. shown_again n notations book valid id row column t cell h free
