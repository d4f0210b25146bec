use Rattle.std.proofs.Common.{◌||◌, ap, sym, ◌∙◌}
use Rattle.std.proofs.lemmas.Bool.{ne_eqb}
use Rattle.std.specs.List.{list_any}
use Rattle.std.specs.Prelude.{nat_eq}
use Rattle.ic_laws.specs.CoreBook.{ids_of}
use Rattle.ic_parts.specs.Book.{ModelState, core_of}
use Rattle.ic_parts.proofs.HeldLemmas.{seen_ids}
use Rattle.ic_book.proofs.model.Model.is_live.Goals as goal

pub returns-else-id-eq0 : goal.returns-else-id-eq0
returns-else-id-eq0 c =
    c.has_id.ensures ∙ ap (list_any (nat_eq c.args.id)) (seen_ids c.self.inside.contents.sheets) ∙ ap (λ (m : ModelState). list_any (nat_eq c.args.id) (ids_of (core_of m.book))) c.self.view_is
    ∙ sym (ap (λ b. b || list_any (nat_eq c.args.id) (ids_of (core_of c.args.self.now.book))) (ne_eqb c.args.id 0 c.if-id-eq0.false))
