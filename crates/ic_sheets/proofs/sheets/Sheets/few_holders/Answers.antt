use Rattle.std.proofs.Common.{◌∙◌, ap, subst}
use Rattle.ic_sheets.proofs.HolderLemmas.{known_holders}
use Rattle.ic_sheets.specs.Holders.{AreHolders}
use Rattle.ic_sheets.specs.Index.{is_listed}
use Rattle.ic_sheets.proofs.sheets.Sheets.few_holders.Goals as goal

pub returns : goal.returns
returns c =
    let indexes = c.put_indexes.new.about in
    subst (AreHolders indexes 0) c.self.view_is
    (known_holders c.self.inside.holders c.self.inside.indexes indexes c.self.inside.list.items c.if-not-self.false c.self.invariant.5 c.self.invariant.1 c.self.invariant.0.ids_differ
    (λ id index e at. c.in_ok-put_indexes.ensures.put id index (ap (is_listed id) c.deref.ensures.value ∙ e) at))
