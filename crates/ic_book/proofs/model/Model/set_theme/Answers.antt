use Rattle.std.proofs.Common.{ap, subst}
use Rattle.ic_parts.specs.Book.{IsValidBook, ModelState}
use Rattle.ic_book.specs.Inside.{held}
use Rattle.ic_parts.proofs.SettingLemmas.{puts_theme, theme_valid, with_theme}
use Rattle.ic_book.proofs.model.Model.set_theme.Goals as goal

pub invariant_of-self : goal.invariant_of-self
invariant_of-self c =
    record {
      book = theme_valid (held c.self.inside) c.args.theme.name c.self.invariant.book;
      names = c.self.invariant.names;
    }

pub returns-clause-does : goal.returns-clause-does
returns-clause-does c =
    puts_theme c.args.self.now (subst (λ (m : ModelState). IsValidBook m.book) c.self.view_is c.self.invariant.book) c.args.theme.name _ (ap (λ (m : ModelState). let left : ModelState = record m { book = with_theme c.args.theme.name m.book } in left) c.self.view_is)
