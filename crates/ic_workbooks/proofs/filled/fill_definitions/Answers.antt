use Rattle.std.proofs.Common.{◌+◌, refl, sym, subst}
use Rattle.std.specs.List.{AllByRecursion}
use Rattle.ic_workbooks.specs.Asked.{Breaks}
use Rattle.ic_workbooks.specs.Filled.{HasBodyText, contents_scene}
use Rattle.ic_workbooks.proofs.FilledLemmas.{definition_broken, definitions_end, definitions_next, definitions_scene, definitions_start, definitions_there}
use Rattle.ic_workbooks.proofs.FirstLemmas.{breaks_so, match_error}
use Rattle.ic_workbooks.proofs.NameIndexLemmas.{indexed_scene}
use Rattle.ic_workbooks.proofs.filled.fill_definitions.Goals as goal

pub loop-index-init : goal.loop-index-init
loop-index-init c = definitions_start c.args.tables.now c.args.records.now c.args.contents.now c.requires.unread c.args.contents.now refl

pub fill_definition-requires-clause-indexed : goal.fill_definition-requires-clause-indexed
fill_definition-requires-clause-indexed c =
    indexed_scene c.args.names.now c.args.contents.now c.loop-index.contents c.requires.indexed
    (definitions_scene c.args.tables.now c.args.records.now c.args.contents.now c.requires.unread c.loop-index.index c.loop-index.contents c.loop-index.invariant)

pub fill_definition-requires-clause-within : goal.fill_definition-requires-clause-within
fill_definition-requires-clause-within c = definitions_there c.args.tables.now c.args.records.now c.args.contents.now c.requires.unread c.loop-index.index c.loop-index.contents c.loop-index.invariant c.loop-index-test.true

pub loop-index-preserved : goal.loop-index-preserved
loop-index-preserved c =
    definitions_next c.args.tables.now c.args.records.now c.args.contents.now c.requires.unread c.loop-index.index c.loop-index.contents c.loop-index.invariant
    (c.loop-index.index + 1) c.index-records-index.result refl c.loop-index-test.true c.index-records-index.is c.fill_definition.new.contents c.in_ok-fill_definition.ensures

pub returns-in_err-fill_definition : goal.returns-in_err-fill_definition
returns-in_err-fill_definition c =
    match_error _ _ c.from_residual.result c.from_residual.ensures
    (λ e same.
    breaks_so 5 (HasBodyText c.args.tables.now (contents_scene c.loop-index.contents) c.index-records-index.result) (AllByRecursion (HasBodyText c.args.tables.now (contents_scene c.args.contents.now)) c.args.records.now)
    (definition_broken c.args.tables.now c.args.records.now c.args.contents.now c.requires.unread c.loop-index.index c.loop-index.contents c.loop-index.invariant
    (c.loop-index.index + 1) c.index-records-index.result refl c.loop-index-test.true c.index-records-index.is)
    e
    (subst (Breaks 5 (HasBodyText c.args.tables.now (contents_scene c.loop-index.contents) c.index-records-index.result)) (sym same) c.in_err-fill_definition.ensures))

pub returns : goal.returns
returns c = definitions_end c.args.tables.now c.args.records.now c.args.contents.now c.requires.unread c.loop-index.index c.loop-index.contents c.loop-index.invariant c.loop-index-test.false
