use Rattle.std.proofs.Common.{◌∙◌, sym, ap, chars}
use Rattle.ic_laws.specs.Name.{fold}
use Rattle.ic_laws.specs.declared.dialect.WordKind.{WordKind}
use Rattle.ic_tables.specs.Order.{number_at}
use Rattle.ic_tables.specs.Words.{first_agreeing, words_of}
use Rattle.ic_tables.proofs.vocabulary.Words.find.Goals as goal

pub returns-in-Error : goal.returns-in-Error
returns-in-Error c =
    c.find_number-in-Error.ensures ∙ ap (λ es. number_at es (fold (chars c.args.text.now))) c.as_slice-in-Error.ensures
    ∙ c.args.self.now.ordered.errors.numbers (chars c.args.text.now)
    ∙ ap (λ (k : WordKind). first_agreeing (words_of c.args.self.now.language.now k) (chars c.args.text.now)) (sym c.in-Error.is)
