use Rattle.std.proofs.Common.{◌+◌, ◌++◌, ap, chars, refl, subst, sym, ◌∙◌}
use Rattle.ic_definitions.specs.Named.{definitions_scene}
use Rattle.ic_sheets.proofs.IndexLemmas.{read_boxed}
use Rattle.ic_sheets.proofs.OwnLemmas.{same_ids, same_names}
use Rattle.ic_sheets.proofs.SearchLemmas.{ids, names}
use Rattle.ic_sheets.specs.declared.sheet.Sheet.{Sheet as HeldSheet}
use Rattle.ic_tree.specs.LanguageWords.{function_of}
use Rattle.ic_changes.proofs.CopiedContents.{copy_gone, copy_made}
use Rattle.ic_changes.proofs.CopiedDefinitions.{copies_apart, copies_differ}
use Rattle.ic_parts.proofs.HeldLemmas.{read_is}
use Rattle.ic_parts.proofs.NameIndexLemmas.{indexed_same, indexed_updated, knows_put}
use Rattle.ic_parts.specs.SheetNames.{KnowsNumbers}
use Rattle.ic_parts.specs.declared.contents.Contents.{Contents}
use Rattle.ic_parts.specs.declared.taken_numbers.TakenNumbers.{TakenNumbers}
use Rattle.ic_changes.proofs.SparedBodies.{naming_bodies}
use Rattle.ic_laws.proofs.General.{insert-map as inserted_seen}
use Rattle.ic_changes.proofs.sheet_copies.copy_sheet.Goals as goal

pub copied_definitions-requires : goal.copied_definitions-requires
copied_definitions-requires c = copies_differ _ c.args.id c.args.contents.now.definitions c.requires.unscoped c.requires.differ

pub prepare_dangling-requires : goal.prepare_dangling-requires
prepare_dangling-requires c = naming_bodies (definitions_scene (c.new-both.result.first.definitions.now ++ c.new-both.result.more.definitions.now)) c.args.id (chars c.args.name.now) c.args.contents.now.definitions

pub add_copies-requires-clause-apart : goal.add_copies-requires-clause-apart
add_copies-requires-clause-apart c = copies_apart 0 c.args.id c.args.contents.now.definitions c.requires.unscoped c.in_ok-copies.copies _ c.in_ok-copies.ensures.copies

pub add_copies-requires-clause-indexed : goal.add_copies-requires-clause-indexed
add_copies-requires-clause-indexed c = record {
  sheets = c.insert_unapplied.ensures.finds;
  names = c.requires.indexed.names;
  numbers = knows_put c.args.names.now.numbers c.args.contents.now.sheets c.insert_unapplied.new.self c.requires.indexed.numbers
      (c.args.index + 1) (chars c.args.name.now)
      (ap names c.in_ok-prepared.ensures.ok ∙ inserted_seen (λ (s : HeldSheet). s.name) c.args.contents.now.sheets (c.args.index + 1) _);
}

pub returns-in-Ok-clause-ok : goal.returns-in-Ok-clause-ok
returns-in-Ok-clause-ok c = λ source at.
    copy_made (function_of c.args.english.now) c.args.index c.args.id (chars c.args.name.now) source c.args.contents.now c.requires.within at
    c.in_ok-copies.copies c.new-both.result.first.definitions.now c.new-both.result.more.definitions.now c.as_ref.result.now
    (read_is c.as_slice.result.now c.args.contents.now.sheets c.args.index c.as_ref.result.now source c.as_slice.ensures.sheets c.requires.within (read_boxed c.as_slice.result.now c.args.index c.as_ref.ensures c.index-as_slice-index.is) at)
    c.in_ok-copies.ensures.copies (ap (λ n. n.definitions.now) c.new-both.ensures.first) (ap (λ n. n.definitions.now) c.new-both.ensures.more)
    c.insert_unapplied.new.self c.in_ok-prepared.ensures.ok c.in_ok-prepared.prepared.items c.in_ok-bodies.bodies.bodies.items c.in-Ok.filling _
    c.add_copies.new.contents.sheets c.apply.new.self c.in_ok-prepared.ensures.made c.in_ok-prepared.ensures.looks_up c.in-Ok.ensures.sheets c.apply.ensures c.put.ensures c.in-Ok.ensures.filling c.in_ok-bodies.ensures.made c.in-Ok.ensures.definitions

pub returns-in-Err-clause-err : goal.returns-in-Err-clause-err
returns-in-Err-clause-err c =
    copy_gone c.args.contents.now c.add_copies.new.contents c.args.index c.args.id (chars c.args.name.now) c.insert_unapplied.new.self c.requires.within c.in_ok-prepared.ensures.ok c.in-Err.ensures.err c.take_out.new.self c.take_out.ensures.left

pub returns-in-Err-clause-indexed : goal.returns-in-Err-clause-indexed
returns-in-Err-clause-indexed c = record {
  sheets = c.take_out.ensures.finds;
  names = c.add_copies.ensures.indexed.names;
  numbers = subst (λ (n : TakenNumbers). KnowsNumbers n (names c.take_out.new.self)) (sym c.add_copies.ensures.numbers)
      (subst (λ (m : Contents). KnowsNumbers c.args.names.now.numbers (names m.sheets)) (sym (returns-in-Err-clause-err c)) c.requires.indexed.numbers);
}

pub returns-in-Ok-clause-indexed : goal.returns-in-Ok-clause-indexed
returns-in-Ok-clause-indexed c =
    let own = indexed_same c.add_copies.new.names c.add_copies.new.contents.sheets c.apply.new.self c.add_copies.new.contents.definitions c.add_copies.ensures.indexed (ap names c.apply.ensures ∙ same_names _ _) (ap ids c.apply.ensures ∙ same_ids _ _) in
    indexed_updated c.add_copies.new.names c.apply.new.self c.put.new.sheets c.add_copies.new.contents.definitions own _ _ c.put.ensures (λ s. refl)
