use Rattle.std.proofs.Common.{refl, sym}
use Rattle.std.proofs.lemmas.Bool.{and_parts}
use Rattle.ic_laws.proofs.tokens.SheetTexts.{sheet_named}
use Rattle.ic_laws.specs.Tree.{is_written_sheet}
use Rattle.ic_refs.proofs.A1ReferenceLemmas.{again_text}
use Rattle.ic_refs.proofs.StoredReferenceLemmas.{stored_spelled}
use Rattle.ic_refs.specs.A1.{is_spellable}
use Rattle.ic_refs.proofs.law.law_spelled_references.Goals as goal

pub returns-clause-a1 : goal.returns-clause-a1
returns-clause-a1 c = λ row column r text rest spellable is end.
    again_text row column r (is_spellable row column r) text refl (sym is)
    (sheet_named r.sheet (and_parts (is_spellable row column r) (is_written_sheet r.sheet) spellable).1) rest end

pub returns-clause-stored : goal.returns-clause-stored
returns-clause-stored c = λ r rest spellable end. stored_spelled r rest spellable end
