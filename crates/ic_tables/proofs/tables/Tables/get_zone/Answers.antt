use Rattle.std.proofs.Common.{ℕ, List, ap, bytes_eq, chars, find, ◌∙◌}
use Rattle.ic_tables.specs.Tables.{TableSet}
use Rattle.ic_tables.proofs.WellFormed.{text_found}
use Rattle.ic_tables.proofs.tables.Tables.get_zone.Goals as goal

pub returns-clause-listed : goal.returns-clause-listed
returns-clause-listed c =
    (text_found (λ zone. zone.now) (chars c.args.id.now) c.args.self.now.zones c.find_id.result
    (c.find_id.ensures ∙ ap (λ (texts : List (List ℕ)). find (λ t. bytes_eq t (chars c.args.id.now)) texts) (c.as_slice.ensures ∙ ap (λ (t : TableSet). t.zones) c.self.view_is))).0

pub returns-clause-name : goal.returns-clause-name
returns-clause-name c =
    (text_found (λ zone. zone.now) (chars c.args.id.now) c.args.self.now.zones c.find_id.result
    (c.find_id.ensures ∙ ap (λ (texts : List (List ℕ)). find (λ t. bytes_eq t (chars c.args.id.now)) texts) (c.as_slice.ensures ∙ ap (λ (t : TableSet). t.zones) c.self.view_is))).1
