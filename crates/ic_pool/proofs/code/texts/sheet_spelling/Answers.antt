use Rattle.std.proofs.Common.{◌∙◌, sym, ap}
use Rattle.std.proofs.lemmas.Str.{chars-nil}
use Rattle.ic_pool.specs.Code.{sheet_text}
use Rattle.ic_pool.proofs.code.texts.sheet_spelling.Goals as goal

pub returns-in-Own : goal.returns-in-Own
returns-in-Own c = chars-nil ∙ sym (ap sheet_text c.in-Own.is)

pub returns-in-Sheet : goal.returns-in-Sheet
returns-in-Sheet c = chars-nil ∙ sym (ap sheet_text c.in-Sheet.is)
