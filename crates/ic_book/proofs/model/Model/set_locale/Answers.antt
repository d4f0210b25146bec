use Rattle.std.proofs.Common.{◌≡◌, [], ◌∷◌, Some, None, Ok, Err, not, chars, refl, sym, ap, subst, ◌∙◌}
use Rattle.ic_tables.specs.Tables.{locale_of}
use Rattle.ic_laws.specs.Refusal.{InvalidLocale, first_refusal}
use Rattle.ic_parts.specs.Book.{Book, IsValidBook, ModelState, NotationState, notations_in}
use Rattle.ic_parts.specs.declared.error.BookError.TheVariants as errors
use Rattle.ic_parts.proofs.DoesLemmas.{puts_locale}
use Rattle.ic_parts.specs.Change.{with_locale}
use Rattle.ic_book.specs.Inside.{IsHeld, held, held_state}
use Rattle.ic_parts.proofs.BookValid.{in_locale}
use Rattle.ic_parts.proofs.HeldLemmas.{locale_accepted, locale_unknown}
use Rattle.ic_tables.proofs.WellFormed.{locale_found as locale_is}
use Rattle.ic_book.proofs.model.Model.set_locale.Goals as goal

pub put_locale-requires : goal.put_locale-requires
put_locale-requires c =
    let found = subst (λ t. locale_of t (chars c.args.locale_id.now) ≡ Some c.in-Ok.locale.now) c.tables.ensures c.in-Ok.ensures.found in
    (locale_is c.self.inside.notation.tables (chars c.args.locale_id.now) c.in-Ok.locale.now found).1

pub invariant_of-self : goal.invariant_of-self
invariant_of-self c =
    let found = subst (λ t. locale_of t (chars c.args.locale_id.now) ≡ Some c.in-Ok.locale.now) c.tables.ensures c.in-Ok.ensures.found in
    record {
      book = subst (λ (n : NotationState). IsHeld (record c.self.inside { notation = n })) (sym c.put_locale.ensures)
          (subst (λ i. IsValidBook (record (held c.self.inside) { locale = i })) (sym (locale_is c.self.inside.notation.tables (chars c.args.locale_id.now) c.in-Ok.locale.now found).0) (in_locale (held c.self.inside) c.self.invariant.book (chars c.args.locale_id.now) (locale_accepted c.self.inside.notation.tables (chars c.args.locale_id.now) c.in-Ok.locale.now found)));
      names = c.self.invariant.names;
    }

pub returns-in-Ok-clause-does : goal.returns-in-Ok-clause-does
returns-in-Ok-clause-does c =
    let found = subst (λ t. locale_of t (chars c.args.locale_id.now) ≡ Some c.in-Ok.locale.now) c.tables.ensures c.in-Ok.ensures.found in
    let new : ModelState = held_state (record c.self.inside { notation = c.put_locale.new.self }) in
    let old : Book = held c.self.inside in
    puts_locale (Ok tt) c.args.self.now new (subst (λ (m : ModelState). IsValidBook m.book) c.self.view_is c.self.invariant.book) tt (chars c.args.locale_id.now)
    (ap (λ (n : NotationState). let m : ModelState = held_state (record c.self.inside { notation = n }) in m.book) c.put_locale.ensures
    ∙ ap (λ i. let b : Book = record old { locale = i } in b) (locale_is c.self.inside.notation.tables (chars c.args.locale_id.now) c.in-Ok.locale.now found).0
    ∙ ap (λ (m : ModelState). with_locale (chars c.args.locale_id.now) m.book) c.self.view_is)
    (subst (λ (m : ModelState). first_refusal ((not ((notations_in m.book).knows_locale (chars c.args.locale_id.now)), InvalidLocale) ∷ []) ≡ None) c.self.view_is (locale_accepted c.self.inside.notation.tables (chars c.args.locale_id.now) c.in-Ok.locale.now found))

pub returns-in-Err-clause-does : goal.returns-in-Err-clause-does
returns-in-Err-clause-does c =
    let none = subst (λ t. locale_of t (chars c.args.locale_id.now) ≡ None) c.tables.ensures c.in-Err.ensures.found.1 in
    puts_locale (Err errors.InvalidLocale) c.args.self.now c.args.self.now (subst (λ (m : ModelState). IsValidBook m.book) c.self.view_is c.self.invariant.book) refl (chars c.args.locale_id.now) tt
    (InvalidLocale, refl, subst (λ (m : ModelState). first_refusal ((not ((notations_in m.book).knows_locale (chars c.args.locale_id.now)), InvalidLocale) ∷ []) ≡ Some InvalidLocale) c.self.view_is (locale_unknown c.self.inside.notation.tables (chars c.args.locale_id.now) none))
