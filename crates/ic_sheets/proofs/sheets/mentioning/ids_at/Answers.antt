use Rattle.std.proofs.Common.{◌∙◌, ap, option_map, refl, sym, ℕ}
use Rattle.std.specs.Map.Iter.{deref}
use Rattle.std.proofs.lemmas.Map.Iter.{rest_all, rest_more}
use Rattle.ic_sheets.proofs.PartLemmas.{all_gathered, none_gathered, none_there, one_gathered}
use Rattle.ic_sheets.proofs.sheets.mentioning.ids_at.Goals as goal

pub loop-index-init : goal.loop-index-init
loop-index-init c =
    let gives = c.into_iter-index-iterator.ensures.into_iter_gives in
    none_gathered c.args.sheets.now c.args.indexes.now c.into_iter-index-iterator.result c.new-ids.result.items gives.0 gives.4 c.new-ids.ensures.items

pub loop-index-preserved : goal.loop-index-preserved
loop-index-preserved c =
    none_there c.args.sheets.now c.args.indexes.now.keys c.loop-index.index-iterator c.next.new.self c.loop-index.ids.items c.in-Some.index.now
    (rest_more (deref {X = ℕ}) c.loop-index.index-iterator c.next.new.self c.next.result c.in-Some.index c.in-Some.is c.next.ensures.steps) c.loop-index.invariant c.loop-index.ids.items
    (sym c.sheet_at.ensures ∙ ap (option_map (λ s. s.now)) c.in_default.is) refl

pub loop-index-preserved-in-Continue-1 : goal.loop-index-preserved-in-Continue-1
loop-index-preserved-in-Continue-1 c =
    one_gathered c.args.sheets.now c.args.indexes.now.keys c.loop-index.index-iterator c.next.new.self c.loop-index.ids.items c.in-Some.index.now
    (rest_more (deref {X = ℕ}) c.loop-index.index-iterator c.next.new.self c.next.result c.in-Some.index c.in-Some.is c.next.ensures.steps) c.loop-index.invariant c.push.new.self.items
    c.in-Some-sheet_at.sheet.now (sym c.sheet_at.ensures ∙ ap (option_map (λ s. s.now)) c.in-Some-sheet_at.is) c.in_ok-push.ensures.items

pub returns-clause-ordered : goal.returns-clause-ordered
returns-clause-ordered c =
    (all_gathered c.args.sheets.now c.args.indexes.now.keys c.loop-index.index-iterator c.loop-index.ids.items (rest_all (deref {X = ℕ}) c.loop-index.index-iterator c.next.new.self c.next.result c.in-None.is c.next.ensures.steps) c.loop-index.invariant).0

pub returns-clause-there : goal.returns-clause-there
returns-clause-there c = λ index sheet at in_all.
    (all_gathered c.args.sheets.now c.args.indexes.now.keys c.loop-index.index-iterator c.loop-index.ids.items (rest_all (deref {X = ℕ}) c.loop-index.index-iterator c.next.new.self c.next.result c.in-None.is c.next.ensures.steps) c.loop-index.invariant).1 index sheet at in_all
