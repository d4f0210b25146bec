use Rattle.std.proofs.Common.{◌∙◌, ap, subst, sym}
use Rattle.std.proofs.lemmas.Result.{IfOk-weaker}
use Rattle.std.specs.List.{slice_get}
use Rattle.ic_sheets.proofs.MentionerLemmas.{all_about, both_ok, known_about}
use Rattle.ic_sheets.proofs.SearchLemmas.{ids}
use Rattle.ic_sheets.specs.Index.{is_part}
use Rattle.ic_sheets.specs.Mentioners.{AreAbout}
use Rattle.ic_sheets.proofs.sheets.Sheets.ids_about.Goals as goal

pub returns-then-not-has_all : goal.returns-then-not-has_all
returns-then-not-has_all c =
    IfOk-weaker c.all_ids.result _ _ (λ ns h. subst (AreAbout c.args.topics.now ns.items) (c.deref.ensures.value ∙ c.self.view_is) (all_about c.args.topics.now ns.items c.deref.result.now h)) c.all_ids.ensures

pub returns : goal.returns
returns c =
    let sheets = c.self.inside.list.items in
    both_ok c.ids_at.result _ _ _
    (λ ns ordered there. subst (AreAbout c.args.topics.now ns.items) c.self.view_is
    (known_about c.self.inside.mentioners c.self.inside.indexes c.args.topics.now ns.items c.in_ok-indexes.indexes sheets (sym c.has_all.ensures ∙ c.if-not-has_all.false) c.self.invariant.4 c.self.invariant.1 c.self.invariant.0.ids_differ c.in_ok-indexes.ensures
    (λ index s at found. there index s (ap (λ xs. slice_get xs index) c.deref-2.ensures.value ∙ at) found) (ap (λ xs. is_part ns.items (ids xs)) (sym c.deref-2.ensures.value) ∙ ordered))) c.ids_at.ensures.ordered c.ids_at.ensures.there
