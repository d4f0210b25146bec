use Rattle.std.proofs.Common.{◌≡◌, drop}
use Rattle.std.specs.List.{find}
use Rattle.ic_laws.specs.CoreBook.{Definition}
use Rattle.ic_dump.specs.Refused.{is_raw}
use Rattle.ic_dump.proofs.refused.raw_body.Given as goal

-- what is left decides
abbrev pub invariant-loop-index : goal.invariant-loop-index
invariant-loop-index l = find (λ (d : Definition). is_raw d.body) (drop l.index l.model.book.definitions) ≡ find (λ (d : Definition). is_raw d.body) l.model.book.definitions
