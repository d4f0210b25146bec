-- What the lines of a dump do, by the core of the book.
use Rattle.std.proofs.Common.{◌≡◌, ◌∙◌, List, None, ap, subst, sym}
use Rattle.ic_laws.specs.CoreBook.{CoreBook}
use Rattle.ic_machine.specs.Book as machine
use Rattle.ic_parts.proofs.WholeLemmas.{whole_core}
use Rattle.ic_parts.specs.Book.{Book, IsValidBook, core_of, notations_in, whole_of}
use Rattle.ic_dump.specs.Lines.{Text, dump_lines}
use Rattle.ic_dump.specs.Rebuilds.{Rebuilds}
use Rattle.ic_dump.specs.Refused.{cause_of}
use Rattle.ic_dump.specs.Stages.{HasFewNames}
use Rattle.ic_dump.proofs.Rebuilt.{rebuilds}

pub lines_rebuild : (b : Book) (lines : List Text) → IsValidBook b → cause_of (notations_in b) (core_of b) ≡ None → HasFewNames (core_of b) → lines ≡ dump_lines (notations_in b) (core_of b) → Rebuilds b.tables lines (core_of b)
lines_rebuild b lines valid none few are =
    let seen : machine.core_of (whole_of b) ≡ core_of b = whole_core b in
    let all : Rebuilds b.tables (dump_lines (notations_in b) (machine.core_of (whole_of b))) (machine.core_of (whole_of b)) =
    rebuilds (whole_of b) valid.whole (ap (cause_of (notations_in b)) seen ∙ none) (subst HasFewNames (sym seen) few) in
    subst (λ ls. Rebuilds b.tables ls (core_of b)) (sym are) (subst (λ (c : CoreBook). Rebuilds b.tables (dump_lines (notations_in b) c) c) seen all)
