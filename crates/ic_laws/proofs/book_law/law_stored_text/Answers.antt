use Rattle.ic_laws.specs.CoreBook.{scene_of}
use Rattle.ic_laws.proofs.core.Named.{book_named}
use Rattle.ic_laws.proofs.kept.Kept.{kept_where_less}
use Rattle.ic_laws.proofs.kept.Written.{stored_text_binds, stored_text_decides}
use Rattle.ic_laws.proofs.book_law.law_stored_text.Goals as goal

pub returns : goal.returns
returns c = record {
  binds = λ n book scope t notations valid h. stored_text_binds n notations (scene_of book) (book_named n book valid) scope (λ place. Unit {0}) t h;
  decides =
      λ n book scope t u notations valid kept_t kept_u.
      stored_text_decides n notations (scene_of book) (book_named n book valid) scope (λ place. Unit {0}) (λ place. Unit {0}) t u kept_t kept_u;
  of_cells = λ n scene scope row column t h. kept_where_less n _ (λ place. Unit {0}) (λ place inside. tt) scene scope t h;
}
