use Rattle.ic_parts.proofs.DoesLemmas.{lists}
use Rattle.ic_book.proofs.model.Model.get_defined_name_list.Goals as goal

pub returns : goal.returns
returns c = record { does = lists c.args.self.now c.listed_definitions.ensures.valid c.listed_definitions.result c.listed_definitions.ensures.list c.listed_definitions.ensures.refused }
