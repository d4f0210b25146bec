-- The book that lines leave has no body that doesn't read, and so no such cause.
use Rattle.std.proofs.Common.{◌≡◌, Option, None, Some, ap, ◌∙◌, sym}
use Rattle.std.specs.Option.{option_or}
use Rattle.std.specs.Prelude.{option_map}
use Rattle.ic_laws.specs.CoreBook.{CoreBook}
use Rattle.ic_laws.specs.Notations.{Notations}
use Rattle.ic_laws.specs.declared.tree.NameKey.{NameKey}
use Rattle.ic_tables.specs.Tables.{TableSet}
use Rattle.ic_machine.specs.Book.{Book, core_of}
use Rattle.ic_machine.specs.Refusal.{Site}
use Rattle.ic_machine.specs.Run.{after}
use Rattle.ic_parts.specs.Book as held
use Rattle.ic_parts.proofs.WholeLemmas.{whole_core}
use Rattle.ic_run.specs.Core.{whole_machine}
use Rattle.ic_run.specs.Make.{made_start}
use Rattle.ic_run.specs.Prepared.{IsLeftBySome}
use Rattle.ic_dump.specs.Refused.{RawBody, Rereads, cause_of, raw_body, rereading}
use Rattle.ic_dump.proofs.BodyTrees.{no_raw_body, run_trees}

pub never_raw : (tables : TableSet) (book : held.Book) → IsLeftBySome tables book → raw_body (held.core_of book) ≡ None
never_raw tables book left =
    ap raw_body (sym (whole_core book)) ∙ ap (λ (b : Book). raw_body (core_of b)) left.1.1
    ∙ no_raw_body (after whole_machine (made_start left.0 tables) left.1.0) (run_trees (made_start left.0 tables) left.1.0 tt)

rereads_alone : (o : Option Site) (key : NameKey) → option_or None (option_map Rereads o) ≡ Some (RawBody key) → ⊥
rereads_alone None key e = cc
rereads_alone (Some site) key e = cc

pub never_caused : (n : Notations) (book : CoreBook) (key : NameKey) → raw_body book ≡ None → cause_of n book ≡ Some (RawBody key) → ⊥
never_caused n book key none e =
    rereads_alone (rereading n book) key (sym (ap (λ (o : Option NameKey). option_or (option_map RawBody o) (option_map Rereads (rereading n book))) none) ∙ e)
