use Rattle.std.proofs.Common.{◌∙◌, ap, sym}
use Rattle.ic_laws.specs.Name.{is_identifier}
use Rattle.ic_workbooks.proofs.asked.definitions.is_defined.Goals as goal

pub returns-then-is_valid_identifier : goal.returns-then-is_valid_identifier
returns-then-is_valid_identifier c = (
  λ e. record { name = ap is_identifier (sym c.as_str.ensures.characters) ∙ sym c.is_valid_identifier.ensures ∙ c.if-is_valid_identifier.true; scope = c.is_scope.ensures.0 e },
  λ d. c.is_scope.ensures.1 d.scope,
)
