use Rattle.std.proofs.Common.{◌<◌, List, get_or, length, subst, sym, ap, ◌∙◌}
use Rattle.ic_laws.specs.CoreBook.{Definition}
use Rattle.ic_changes.specs.Copied.{is_copied}
use Rattle.ic_changes.proofs.CopiedDefinitions.{copy_is_free, copy_pushed}
use Rattle.ic_changes.proofs.Uncopied.{none_copied}
use Rattle.ic_changes.proofs.sheet_copies.definitions.push_copies.Goals as goal

pub returns-then-not-may_copy-clause-put : goal.returns-then-not-may_copy-clause-put
returns-then-not-may_copy-clause-put c =
    let ds : List Definition = c.args.definitions.now.definitions.now in
    none_copied c.args.copy (is_copied c.args.kind c.args.source ds) ds c.args.copies.now (c.may_copy.ensures c.if-not-may_copy.true)

pub push_if-requires-clause-free : goal.push_if-requires-clause-free
push_if-requires-clause-free c = λ passes.
    let ds : List Definition = c.args.definitions.now.definitions.now in
    let d : Definition = c.definition-item.result in
    copy_is_free c.args.copy (is_copied c.args.kind c.args.source ds) ds c.args.copies.now c.loop-definition.definition-index c.loop-definition.copies c.loop-definition.invariant.left d
    (subst (λ (xs : List Definition). c.loop-definition.definition-index < length xs) c.as_slice-definition-items.ensures c.loop-definition-test.true)
    (c.definition-item.is ∙ ap (λ (xs : List Definition). get_or xs c.loop-definition.definition-index d) c.as_slice-definition-items.ensures)
    c.requires.differ (sym c.is_copied-passes.ensures ∙ passes)

pub loop-definition-preserved : goal.loop-definition-preserved
loop-definition-preserved c =
    let ds : List Definition = c.args.definitions.now.definitions.now in
    let d : Definition = c.definition-item.result in
    let left = copy_pushed c.args.copy (is_copied c.args.kind c.args.source ds) ds c.args.copies.now c.loop-definition.definition-index c.loop-definition.copies c.loop-definition.invariant.left d
    (subst (λ (xs : List Definition). c.loop-definition.definition-index < length xs) c.as_slice-definition-items.ensures c.loop-definition-test.true)
    (c.definition-item.is ∙ ap (λ (xs : List Definition). get_or xs c.loop-definition.definition-index d) c.as_slice-definition-items.ensures)
    c.push_if.new.copies c.is_copied-passes.result c.is_copied-passes.ensures c.in_ok-push_if.ensures.put in
    record { left = left; finds = c.push_if.ensures.finds }
