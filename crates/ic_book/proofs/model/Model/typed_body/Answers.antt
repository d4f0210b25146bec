use Rattle.std.proofs.Common.{None, Some, ap, ap₂, chars, pos, refl, subst, sym, true, ◌≡◌, ◌∙◌}
use Rattle.ic_laws.specs.FormulaReading.{lambda_tree, reference_tree, shown_at}
use Rattle.ic_laws.specs.Notations.{AreNotations, english}
use Rattle.ic_parts.specs.Book.{ModelState, core_of, notations_in}
use Rattle.ic_book.proofs.HeldLemmas.{notations}
use Rattle.ic_parts.proofs.NameLemmas.{body_is, reads_within}
use Rattle.ic_book.proofs.model.Model.typed_body.Goals as goal

pub returns-in-Some : goal.returns-in-Some
returns-in-Some c =
    body_is (notations_in c.args.self.now.book) (core_of c.args.self.now.book) (chars c.args.text.now) (Some c.in-Some.tree) _ _
    (ap₂ (λ d s. reference_tree d s (chars c.args.text.now)) (sym c.shown-shown.ensures) (sym c.scene.ensures) ∙ sym c.in_ok-tree.ensures ∙ c.in-Some.is) refl refl

pub returns-in-Some-2 : goal.returns-in-Some-2
returns-in-Some-2 c =
    body_is (notations_in c.args.self.now.book) (core_of c.args.self.now.book) (chars c.args.text.now) None (Some c.in-Some-2.tree) c.past_equals-has_equals.result.0
    (ap₂ (λ d s. reference_tree d s (chars c.args.text.now)) (sym c.shown-shown.ensures) (sym c.scene.ensures) ∙ sym c.in_ok-tree.ensures ∙ c.in_default.is)
    (ap (λ t. lambda_tree (shown_at (notations_in c.args.self.now.book) (core_of c.args.self.now.book) (pos 1) (pos 1)) ((notations_in c.args.self.now.book).shown english english (pos 1) (pos 1)) t) (sym c.past_equals-has_equals.ensures.rest)
    ∙ ap₂ (λ d e. lambda_tree d e (chars c.past_equals-has_equals.result.1.now)) (sym c.shown-shown.ensures) (sym c.english.ensures) ∙ sym c.in_ok-tree-2.ensures ∙ c.in-Some-2.is)
    (sym c.past_equals-has_equals.ensures.has)

pub returns-in-None : goal.returns-in-None
returns-in-None c =
    body_is (notations_in c.args.self.now.book) (core_of c.args.self.now.book) (chars c.args.text.now) None None c.past_equals-has_equals.result.0
    (ap₂ (λ d s. reference_tree d s (chars c.args.text.now)) (sym c.shown-shown.ensures) (sym c.scene.ensures) ∙ sym c.in_ok-tree.ensures ∙ c.in_default.is)
    (ap (λ t. lambda_tree (shown_at (notations_in c.args.self.now.book) (core_of c.args.self.now.book) (pos 1) (pos 1)) ((notations_in c.args.self.now.book).shown english english (pos 1) (pos 1)) t) (sym c.past_equals-has_equals.ensures.rest)
    ∙ ap₂ (λ d e. lambda_tree d e (chars c.past_equals-has_equals.result.1.now)) (sym c.shown-shown.ensures) (sym c.english.ensures) ∙ sym c.in_ok-tree-2.ensures ∙ c.in-None.is)
    (sym c.past_equals-has_equals.ensures.has)

pub reference_in-requires : goal.reference_in-requires
reference_in-requires c =
    let held = subst (λ (m : ModelState). AreNotations (notations_in m.book) × ((notations_in m.book).knows_locale m.book.locale ≡ true) × ((notations_in m.book).knows_language m.book.language ≡ true)) c.self.view_is
    (notations c.self.inside c.self.invariant.book, c.self.invariant.book.whole.locale, c.self.invariant.book.whole.language) in
    reads_within (notations_in c.args.self.now.book) (core_of c.args.self.now.book) held.0 held.1 held.2 _ c.shown-shown.ensures
