use Rattle.std.proofs.Common.{ap, ◌∙◌}
use Rattle.ic_tree.specs.LanguageWords.{function_of}
use Rattle.ic_sheets.proofs.IndexLemmas.{read_boxed}
use Rattle.ic_changes.proofs.CopiedContents.{bodies_same, filling_same}
use Rattle.ic_parts.proofs.HeldLemmas.{read_is}
use Rattle.ic_changes.proofs.sheet_copies.made_for.Goals as goal

pub returns-clause-filling : goal.returns-clause-filling
returns-clause-filling c = λ source at.
    filling_same (function_of c.args.english.now) c.args.id c.new-after.result.sheets.now c.args.contents.now.sheets c.new-after.result.definitions.now.first.definitions.now c.new-after.result.definitions.now.more.definitions.now c.args.contents.now.definitions
    c.args.copies.now.definitions.now c.as_ref-source.result.now source c.new-after.ensures.sheets (ap (λ b. b.first.definitions.now) c.new-after.ensures.definitions ∙ ap (λ n. n.definitions.now) c.new-both.ensures.first) (ap (λ b. b.more.definitions.now) c.new-after.ensures.definitions ∙ ap (λ n. n.definitions.now) c.new-both.ensures.more)
    (read_is c.as_slice.result.now c.args.contents.now.sheets c.args.index c.as_ref-source.result.now source c.as_slice.ensures.sheets c.requires.within (read_boxed c.as_slice.result.now c.args.index c.as_ref-source.ensures c.index-as_slice-index.is) at) c.in_ok-filling.filling c.in_ok-filling.ensures

pub returns-clause-bodies : goal.returns-clause-bodies
returns-clause-bodies c = λ source at.
    bodies_same (function_of c.args.english.now) c.args.id c.new-after.result.sheets.now c.args.contents.now.sheets c.new-after.result.definitions.now.first.definitions.now c.new-after.result.definitions.now.more.definitions.now c.args.contents.now.definitions
    c.args.copies.now.definitions.now c.as_ref-source.result.now source c.new-after.ensures.sheets (ap (λ b. b.first.definitions.now) c.new-after.ensures.definitions ∙ ap (λ n. n.definitions.now) c.new-both.ensures.first) (ap (λ b. b.more.definitions.now) c.new-after.ensures.definitions ∙ ap (λ n. n.definitions.now) c.new-both.ensures.more)
    (read_is c.as_slice.result.now c.args.contents.now.sheets c.args.index c.as_ref-source.result.now source c.as_slice.ensures.sheets c.requires.within (read_boxed c.as_slice.result.now c.args.index c.as_ref-source.ensures c.index-as_slice-index.is) at) c.in_ok-bodies.bodies.items c.as_slice-list.result.now c.in_ok-bodies.ensures c.as_slice-list.ensures
