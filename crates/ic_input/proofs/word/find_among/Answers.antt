use Rattle.std.proofs.Common.{rules, tests, chars, ◌∙◌}
use Rattle.std.proofs.lemmas.Iterator.{YieldsList-from_slice}
use Rattle.std.proofs.lemmas.Iterator.Search.{position_from_yields_List}
use Rattle.ic_laws.specs.Name.{agrees}
use Rattle.ic_input.proofs.FoundLemmas.{found_first}
use Rattle.ic_input.proofs.word.find_among.Goals as goal

pub returns-in-Some : goal.returns-in-Some
returns-in-Some c =
    position_from_yields_List (λ w. agrees w.now (chars c.args.text.now)) _ _ _ c.position.ensures.ran
    (YieldsList-from_slice c.args.words.now cc) (λ x b q k. search (rules, tests))
    ∙ found_first (λ w. w.now) (chars c.args.text.now) c.args.words.now

pub returns-in-None : goal.returns-in-None
returns-in-None c =
    position_from_yields_List (λ w. agrees w.now (chars c.args.text.now)) _ _ _ c.position-in-None.ensures.ran
    (YieldsList-from_slice c.args.words.now cc) (λ x b q k. search (rules, tests))
    ∙ found_first (λ w. w.now) (chars c.args.text.now) c.args.words.now
