use Rattle.std.proofs.Common.{◌≡◌, ◌∙◌, None, Some, ap, arith, subst, sym, refl}
use Rattle.std.specs.List.{IsDistinct}
use Rattle.std.specs.Prelude.{IfSome, nat_eq}
use Rattle.ic_pool.specs.Rewrites.{FitsPool}
use Rattle.ic_sheets.proofs.IndexLemmas.{set_updated}
use Rattle.ic_sheets.proofs.OwnLemmas.{missed, nothing_left, own_done, own_fits, own_within}
use Rattle.ic_sheets.proofs.RewritingLemmas.{read_back, sheet_there}
use Rattle.ic_sheets.proofs.SearchLemmas.{ids}
use Rattle.ic_sheets.specs.Rewriting.{FitOwn, with_own_rewrites, with_rewrites}
use Rattle.ic_sheets.specs.Search.{index_with_id}
use Rattle.ic_sheets.specs.declared.sheet.Sheet.{Sheet}
use Rattle.ic_sheets.proofs.sheets.Sheets.apply.Goals as goal

pub apply_at-requires-clause-within : goal.apply_at-requires-clause-within
apply_at-requires-clause-within c =
    let at : index_with_id c.in-Some.id c.loop-id.self ≡ Some c.in-Some-index_in.index = ap (index_with_id c.in-Some.id) (sym c.self.view_is) ∙ sym (c.self.invariant.1.finds c.in-Some.id) ∙ sym c.index_in.ensures ∙ c.in-Some-index_in.is in
    own_within c.loop-id.prepared.items c.pop.new.self.items c.in-Some.id c.in-Some.rewrites c.loop-id.self c.in-Some.ensures.items c.loop-id.invariant.fits c.in-Some-index_in.index at

pub apply_at-requires-clause-fits : goal.apply_at-requires-clause-fits
apply_at-requires-clause-fits c =
    let sheets = c.loop-id.self in
    let index = c.in-Some-index_in.index in
    let at : index_with_id c.in-Some.id sheets ≡ Some index = ap (index_with_id c.in-Some.id) (sym c.self.view_is) ∙ sym (c.self.invariant.1.finds c.in-Some.id) ∙ sym c.index_in.ensures ∙ c.in-Some-index_in.is in
    let one = sheet_there sheets index (own_within c.loop-id.prepared.items c.pop.new.self.items c.in-Some.id c.in-Some.rewrites sheets c.in-Some.ensures.items c.loop-id.invariant.fits index at) in
    subst (λ o. IfSome o (λ (s : Sheet). FitsPool c.in-Some.rewrites s.pool.formulas)) (sym one.1)
    (own_fits c.loop-id.prepared.items c.pop.new.self.items c.in-Some.id c.in-Some.rewrites sheets c.in-Some.ensures.items c.loop-id.invariant.fits index at one.0 (read_back sheets index one.0 one.1))

pub loop-id-preserved-in-Some-index_in : goal.loop-id-preserved-in-Some-index_in
loop-id-preserved-in-Some-index_in c =
    let i = c.loop-id.invariant in
    let sheets = c.loop-id.self in
    let index = c.in-Some-index_in.index in
    let w = c.in-Some.rewrites in
    let at : index_with_id c.in-Some.id sheets ≡ Some index = ap (index_with_id c.in-Some.id) (sym c.self.view_is) ∙ sym (c.self.invariant.1.finds c.in-Some.id) ∙ sym c.index_in.ensures ∙ c.in-Some-index_in.is in
    let one = sheet_there sheets index (own_within c.loop-id.prepared.items c.pop.new.self.items c.in-Some.id w sheets c.in-Some.ensures.items i.fits index at) in
    let read = read_back sheets index one.0 one.1 in
    let all = own_done c.loop-id.prepared.items c.pop.new.self.items c.in-Some.id w sheets c.in-Some.ensures.items i.fits index at one.0 read (subst (λ xs. IsDistinct nat_eq (ids xs)) c.self.view_is c.self.invariant.0.ids_differ) (with_rewrites w one.0) refl in
    let is = c.apply_at.ensures ∙ sym (set_updated (with_rewrites w) sheets index one.0 read) in
    record {
      left = ap (with_own_rewrites c.pop.new.self.items) is ∙ all.0 ∙ i.left;
      fits = subst (FitOwn c.pop.new.self.items) (sym is) all.1;
      same = ap ids is ∙ all.2 ∙ i.same;
    }

pub loop-id-preserved : goal.loop-id-preserved
loop-id-preserved c =
    let i = c.loop-id.invariant in
    let none : index_with_id c.in-Some.id c.loop-id.self ≡ None = ap (index_with_id c.in-Some.id) (sym c.self.view_is) ∙ sym (c.self.invariant.1.finds c.in-Some.id) ∙ sym c.index_in.ensures ∙ c.in_default-index_in.is in
    let all = missed c.loop-id.prepared.items c.pop.new.self.items c.in-Some.id c.in-Some.rewrites c.loop-id.self c.in-Some.ensures.items i.fits none in
    record { left = all.0 ∙ i.left; fits = all.1; same = i.same }

pub returns : goal.returns
returns c =
    c.renew.ensures ∙ sym (nothing_left c.loop-id.prepared.items c.loop-id.self (omega (arith, c.in_default.ensures.cases.0, c.loop-id.prepared.ok.0))) ∙ c.loop-id.invariant.left
