use Rattle.std.proofs.Common.{List, ap, chars, get_or, map, ◌∙◌}
use Rattle.std.proofs.lemmas.Result.{IfOk-weaker}
use Rattle.ic_laws.specs.BookTrees.{with_body_tree}
use Rattle.ic_laws.specs.Changes.{Change, changed_tree}
use Rattle.ic_laws.specs.CoreBook.{Definition}
use Rattle.ic_definitions.proofs.GoneDefinitions.{change_is}
use Rattle.ic_definitions.proofs.definitions.Definitions.prepare_gone.Goals as goal

pub returns-clause-made : goal.returns-clause-made
returns-clause-made c =
    IfOk-weaker c.prepare.result _ _
    (λ w made d at. made ∙ ap (λ (change : Change). map (with_body_tree (changed_tree change)) c.args.self.now)
    (change_is c.args.self.now c.args.index d at c.index-as_slice-index.result c.key.result.now (chars c.name.result.now) c.in_ok-becomes.becomes c.requires.within
    (c.index-as_slice-index.is ∙ ap (λ (ds : List Definition). get_or ds c.args.index c.index-as_slice-index.result) c.as_slice.ensures) c.key.ensures c.name.ensures (c.in_ok-becomes.ensures d at)))
    c.prepare.ensures.made
