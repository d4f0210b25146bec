use Rattle.std.proofs.Common.{◌≡◌, [], ◌∷◌, Some, None, Ok, Err, not, chars, refl, sym, ap, subst, ◌∙◌}
use Rattle.ic_tables.specs.Tables.{language_of}
use Rattle.ic_laws.specs.Refusal.{InvalidLanguage, first_refusal}
use Rattle.ic_parts.specs.Book.{Book, IsValidBook, ModelState, NotationState, notations_in}
use Rattle.ic_parts.specs.declared.error.BookError.TheVariants as errors
use Rattle.ic_parts.proofs.DoesLemmas.{puts_language}
use Rattle.ic_parts.specs.Change.{with_language}
use Rattle.ic_book.specs.Inside.{IsHeld, held, held_state}
use Rattle.ic_parts.proofs.BookValid.{in_language}
use Rattle.ic_parts.proofs.HeldLemmas.{language_accepted, language_is, language_unknown}
use Rattle.ic_book.proofs.model.Model.set_language.Goals as goal

pub put_language-requires : goal.put_language-requires
put_language-requires c =
    let found = subst (λ t. language_of t (chars c.args.language_id.now) ≡ Some c.in-Ok.language.now) c.tables.ensures c.in-Ok.ensures.found in
    (language_is c.self.inside.notation.tables (chars c.args.language_id.now) c.in-Ok.language.now found).1

pub invariant_of-self : goal.invariant_of-self
invariant_of-self c =
    let found = subst (λ t. language_of t (chars c.args.language_id.now) ≡ Some c.in-Ok.language.now) c.tables.ensures c.in-Ok.ensures.found in
    record {
      book = subst (λ (n : NotationState). IsHeld (record c.self.inside { notation = n })) (sym c.put_language.ensures)
          (subst (λ i. IsValidBook (record (held c.self.inside) { language = i })) (sym (language_is c.self.inside.notation.tables (chars c.args.language_id.now) c.in-Ok.language.now found).0) (in_language (held c.self.inside) c.self.invariant.book (chars c.args.language_id.now) (language_accepted c.self.inside.notation.tables (chars c.args.language_id.now) c.in-Ok.language.now found)));
      names = c.self.invariant.names;
    }

pub returns-in-Ok-clause-does : goal.returns-in-Ok-clause-does
returns-in-Ok-clause-does c =
    let found = subst (λ t. language_of t (chars c.args.language_id.now) ≡ Some c.in-Ok.language.now) c.tables.ensures c.in-Ok.ensures.found in
    let new : ModelState = held_state (record c.self.inside { notation = c.put_language.new.self }) in
    let old : Book = held c.self.inside in
    puts_language (Ok tt) c.args.self.now new (subst (λ (m : ModelState). IsValidBook m.book) c.self.view_is c.self.invariant.book) tt (chars c.args.language_id.now)
    (ap (λ (n : NotationState). let m : ModelState = held_state (record c.self.inside { notation = n }) in m.book) c.put_language.ensures
    ∙ ap (λ i. let b : Book = record old { language = i } in b) (language_is c.self.inside.notation.tables (chars c.args.language_id.now) c.in-Ok.language.now found).0
    ∙ ap (λ (m : ModelState). with_language (chars c.args.language_id.now) m.book) c.self.view_is)
    (subst (λ (m : ModelState). first_refusal ((not ((notations_in m.book).knows_language (chars c.args.language_id.now)), InvalidLanguage) ∷ []) ≡ None) c.self.view_is (language_accepted c.self.inside.notation.tables (chars c.args.language_id.now) c.in-Ok.language.now found))

pub returns-in-Err-clause-does : goal.returns-in-Err-clause-does
returns-in-Err-clause-does c =
    let none = subst (λ t. language_of t (chars c.args.language_id.now) ≡ None) c.tables.ensures c.in-Err.ensures.found.1 in
    puts_language (Err errors.InvalidLanguage) c.args.self.now c.args.self.now (subst (λ (m : ModelState). IsValidBook m.book) c.self.view_is c.self.invariant.book) refl (chars c.args.language_id.now) tt
    (InvalidLanguage, refl, subst (λ (m : ModelState). first_refusal ((not ((notations_in m.book).knows_language (chars c.args.language_id.now)), InvalidLanguage) ∷ []) ≡ Some InvalidLanguage) c.self.view_is (language_unknown c.self.inside.notation.tables (chars c.args.language_id.now) none))
