use Rattle.std.proofs.Common.{◌≡◌, true, false, ap, chars, sym, subst, ◌∙◌}
use Rattle.ic_tables.specs.Tables.{lists_zone}
use Rattle.ic_parts.specs.Book.{IsValidBook, ModelState}
use Rattle.ic_book.specs.Inside.{held, held_state}
use Rattle.ic_parts.proofs.SettingLemmas.{puts_zone, unknown_zone, with_zone, zone_valid}
use Rattle.ic_book.proofs.model.Model.set_timezone.Goals as goal

pub invariant_of-self : goal.invariant_of-self
invariant_of-self c =
    let book = held c.self.inside in
    let id = chars c.args.timezone.now in
    record {
      book = subst (λ z. IsValidBook (with_zone z book)) (sym c.in-Some.ensures.name) (zone_valid book id c.self.invariant.book (ap (λ t. lists_zone t id) (sym c.tables.ensures) ∙ sym c.in-Some.ensures.listed));
      names = c.self.invariant.names;
    }

pub returns-in-Some-clause-does : goal.returns-in-Some-clause-does
returns-in-Some-clause-does c =
    let state : ModelState = held_state c.self.inside in
    let id = chars c.args.timezone.now in
    puts_zone c.args.self.now (subst (λ (m : ModelState). IsValidBook m.book) c.self.view_is c.self.invariant.book) id (subst (λ (m : ModelState). lists_zone m.book.tables id ≡ true) c.self.view_is (ap (λ t. lists_zone t id) (sym c.tables.ensures) ∙ sym c.in-Some.ensures.listed)) _
    (ap (λ z. let m : ModelState = record state { book = with_zone z state.book } in m) c.in-Some.ensures.name ∙ ap (λ (m : ModelState). let left : ModelState = record m { book = with_zone id m.book } in left) c.self.view_is)

pub returns-in-None-clause-does : goal.returns-in-None-clause-does
returns-in-None-clause-does c =
    let id = chars c.args.timezone.now in
    unknown_zone c.args.self.now (subst (λ (m : ModelState). IsValidBook m.book) c.self.view_is c.self.invariant.book) id (subst (λ (m : ModelState). lists_zone m.book.tables id ≡ false) c.self.view_is (ap (λ t. lists_zone t id) (sym c.tables.ensures) ∙ sym c.in-None.ensures.listed))
