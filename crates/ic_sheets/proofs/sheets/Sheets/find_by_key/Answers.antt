use Rattle.std.proofs.Common.{◌∙◌, ap, chars}
use Rattle.std.specs.BTreeMap.{get_by_text}
use Rattle.ic_laws.specs.Name.{fold}
use Rattle.ic_sheets.proofs.SearchLemmas.{id_of-found}
use Rattle.ic_sheets.proofs.sheets.Sheets.find_by_key.Goals as goal

pub returns : goal.returns
returns c =
    c.copied.ensures ∙ c.get.ensures.value ∙ ap (get_by_text c.args.ids.now) c.requires.key ∙ c.requires.finds (fold (chars c.args.name.now)) ∙ id_of-found (chars c.args.name.now) c.args.self.now
