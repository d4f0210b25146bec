use Rattle.std.proofs.Common.{◌≡◌, ◌<◌, ◌∙◌, ap, sym, subst, arith, length}
use Rattle.ic_laws.specs.CoreStep.{moved}
use Rattle.ic_sheets.proofs.HolderLemmas.{held_moved}
use Rattle.ic_sheets.proofs.DanglingLemmas.{dangling_moved}
use Rattle.ic_sheets.proofs.KeptLemmas.{finds_moved, kept_moved, length_moved, moved_is, taken}
use Rattle.ic_sheets.proofs.MentionerLemmas.{known_moved}
use Rattle.ic_sheets.proofs.PlaceLemmas.{stand_moved}
use Rattle.ic_sheets.proofs.ShiftLemmas.{whole_back}
use Rattle.ic_sheets.specs.Search.{index_with_id}
use Rattle.ic_sheets.specs.Index.{FindsSheets}
use Rattle.ic_sheets.proofs.sheets.Sheets.move_to.Goals as goal

pub shift-requires-clause-from : goal.shift-requires-clause-from
shift-requires-clause-from c = subst (λ xs. c.args.from < length xs) (sym (c.deref_mut.ensures.value ∙ c.self.view_is)) c.requires.from

pub shift-requires-clause-to : goal.shift-requires-clause-to
shift-requires-clause-to c = subst (λ xs. c.args.to < length xs) (sym (c.deref_mut.ensures.value ∙ c.self.view_is)) c.requires.to

pub follow-requires-clause-differ : goal.follow-requires-clause-differ
follow-requires-clause-differ c =
    let sheets = c.self.inside.list.items in
    let lt : c.args.from < length sheets = subst (λ xs. c.args.from < length xs) (sym c.self.view_is) c.requires.from in
    let within : c.args.to < length sheets = subst (λ xs. c.args.to < length xs) (sym c.self.view_is) c.requires.to in
    let one = taken sheets c.args.from lt in
    let is : c.shift.new.sheets ≡ moved c.args.from c.args.to sheets = c.shift.ensures ∙ ap (moved c.args.from c.args.to) c.deref_mut.ensures.value in
    let count = length_moved sheets c.args.from c.args.to lt within in
    let list = whole_back c.self.inside.list.len sheets c.shift.new.sheets (ap length is ∙ count) c.self.inside.list.ok.0 ∙ is in
    let put = list ∙ sym (moved_is sheets c.args.from c.args.to one.sheet lt one.read) in
    let now = c.deref.ensures.value ∙ put in
    let kept = kept_moved c.self.inside.greatest sheets c.deref.result.now c.args.from c.args.to one.sheet c.self.invariant.0 lt one.read now in
    kept.ids_differ

pub follow-requires-clause-before : goal.follow-requires-clause-before
follow-requires-clause-before c =
    let sheets = c.self.inside.list.items in
    let lt : c.args.from < length sheets = subst (λ xs. c.args.from < length xs) (sym c.self.view_is) c.requires.from in
    let within : c.args.to < length sheets = subst (λ xs. c.args.to < length xs) (sym c.self.view_is) c.requires.to in
    let one = taken sheets c.args.from lt in
    let is : c.shift.new.sheets ≡ moved c.args.from c.args.to sheets = c.shift.ensures ∙ ap (moved c.args.from c.args.to) c.deref_mut.ensures.value in
    let count = length_moved sheets c.args.from c.args.to lt within in
    let list = whole_back c.self.inside.list.len sheets c.shift.new.sheets (ap length is ∙ count) c.self.inside.list.ok.0 ∙ is in
    let put = list ∙ sym (moved_is sheets c.args.from c.args.to one.sheet lt one.read) in
    let differ = c.self.invariant.0.ids_differ in
    let now = c.deref.ensures.value ∙ put in
    stand_moved sheets c.args.from one.sheet differ lt one.read c.self.inside.indexes c.deref.result.now c.args.to c.self.invariant.1 within now

pub invariant_of-self : goal.invariant_of-self
invariant_of-self c =
    let sheets = c.self.inside.list.items in
    let lt : c.args.from < length sheets = subst (λ xs. c.args.from < length xs) (sym c.self.view_is) c.requires.from in
    let within : c.args.to < length sheets = subst (λ xs. c.args.to < length xs) (sym c.self.view_is) c.requires.to in
    let one = taken sheets c.args.from lt in
    let is : c.shift.new.sheets ≡ moved c.args.from c.args.to sheets = c.shift.ensures ∙ ap (moved c.args.from c.args.to) c.deref_mut.ensures.value in
    let count = length_moved sheets c.args.from c.args.to lt within in
    let list = whole_back c.self.inside.list.len sheets c.shift.new.sheets (ap length is ∙ count) c.self.inside.list.ok.0 ∙ is in
    let put = list ∙ sym (moved_is sheets c.args.from c.args.to one.sheet lt one.read) in (
      kept_moved c.self.inside.greatest sheets _ c.args.from c.args.to one.sheet c.self.invariant.0 lt one.read put,
      record { finds = λ id. c.follow.ensures id ∙ ap (index_with_id id) c.deref.ensures.value },
      dangling_moved c.self.inside.dangling.items sheets c.args.from one.sheet c.self.invariant.2 c.self.invariant.0.ids_differ lt one.read _ c.args.to put,
      omega (arith, c.self.invariant.3, ap length list, count),
      known_moved c.self.inside.mentioners sheets _ c.args.from c.args.to one.sheet c.self.invariant.4 lt one.read put,
      held_moved c.self.inside.holders sheets _ c.args.from c.args.to one.sheet c.self.invariant.5 lt one.read put,
    )

pub returns-clause-moved : goal.returns-clause-moved
returns-clause-moved c =
    let sheets = c.self.inside.list.items in
    let lt : c.args.from < length sheets = subst (λ xs. c.args.from < length xs) (sym c.self.view_is) c.requires.from in
    let within : c.args.to < length sheets = subst (λ xs. c.args.to < length xs) (sym c.self.view_is) c.requires.to in
    let one = taken sheets c.args.from lt in
    let is : c.shift.new.sheets ≡ moved c.args.from c.args.to sheets = c.shift.ensures ∙ ap (moved c.args.from c.args.to) c.deref_mut.ensures.value in
    let count = length_moved sheets c.args.from c.args.to lt within in
    let list = whole_back c.self.inside.list.len sheets c.shift.new.sheets (ap length is ∙ count) c.self.inside.list.ok.0 ∙ is in
    let put = list ∙ sym (moved_is sheets c.args.from c.args.to one.sheet lt one.read) in
    list ∙ ap (moved c.args.from c.args.to) c.self.view_is

pub returns-clause-finds : goal.returns-clause-finds
returns-clause-finds c = λ index finds.
    let sheets = c.self.inside.list.items in
    let lt : c.args.from < length sheets = subst (λ xs. c.args.from < length xs) (sym c.self.view_is) c.requires.from in
    let within : c.args.to < length sheets = subst (λ xs. c.args.to < length xs) (sym c.self.view_is) c.requires.to in
    let one = taken sheets c.args.from lt in
    let is : c.shift.new.sheets ≡ moved c.args.from c.args.to sheets = c.shift.ensures ∙ ap (moved c.args.from c.args.to) c.deref_mut.ensures.value in
    let count = length_moved sheets c.args.from c.args.to lt within in
    let list = whole_back c.self.inside.list.len sheets c.shift.new.sheets (ap length is ∙ count) c.self.inside.list.ok.0 ∙ is in
    let put = list ∙ sym (moved_is sheets c.args.from c.args.to one.sheet lt one.read) in
    finds_moved index c.self.inside.greatest sheets _ c.args.from c.args.to one.sheet c.self.invariant.0 (subst (FindsSheets index) (sym c.self.view_is) finds) lt one.read put
