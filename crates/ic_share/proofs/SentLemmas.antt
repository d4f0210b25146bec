-- The book's own language stays known.
use Rattle.std.proofs.Common.{◌≡◌, ℕ, List, [], true, Ok, Err, Result, String, string_bytes, sym, ap, subst, ◌∙◌}
use Rattle.std.specs.Prelude.{IfOk, OnErr}
use Rattle.std.specs.declared.alloc.Global.{Global}
use Rattle.ic_tables.specs.Tables.{TableSet}
use Rattle.ic_tree.specs.Notations.{notations_of}
use Rattle.ic_machine.specs.Book.{Book, notations_in}
use Rattle.ic_parts.specs.Book.{Book as Held, ModelState}
use Rattle.ic_parts.specs.Whole.{whole_of}
use Rattle.ic_commands.specs.Answered.{DoesLine}
use Rattle.ic_run.proofs.TablesStay.{tables_stay}
use Rattle.ic_share.specs.Share.{IsKnown, UsersState, shared_by}
use Rattle.ic_share.specs.Shared.{in_language}

module _ (users : UsersState) (book : Held) (own : users.own ≡ book.language) (known : IsKnown (shared_by users book)) where
  abbrev IsInTables : List ℕ → Type 0
  IsInTables language = (notations_in (whole_of book)).knows_language language ≡ true

  own_known : IsInTables users.own
  own_known = subst IsInTables (sym own) known.own

  -- after a step, and where there was none
  pub own_known_after : {E : Type 0} (language line : List ℕ) (one two : ModelState) (result : Result (String Global) E) → whole_of one.book ≡ in_language language (whole_of book) → IfOk result (λ reply. DoesLine line one two (string_bytes reply))
      → OnErr result (in_language [] (whole_of two.book) ≡ in_language [] (whole_of one.book)) → (notations_in (whole_of two.book)).knows_language users.own ≡ true
  own_known_after {E = E} language line one two result e does err = subst (λ (tables : TableSet). (notations_of tables).knows_language users.own ≡ true) (sym (same result does err ∙ ap (λ (b : Book). b.tables) e)) own_known
    where
      same : (r : Result (String Global) E) → IfOk r (λ reply. DoesLine line one two (string_bytes reply)) → OnErr r (in_language [] (whole_of two.book) ≡ in_language [] (whole_of one.book)) → (whole_of two.book).tables ≡ (whole_of one.book).tables
      same (Ok reply) h k = ap (λ (b : Book). b.tables) h.book ∙ tables_stay (whole_of one.book) line
      same (Err e) h k = ap (λ (b : Book). b.tables) k
