-- What is read from a text is the formula of it, and where nothing is read there is none.
use Rattle.std.proofs.Common.{◌≡◌, ℕ, List, Option, Some, None, IfSome, MatchOption, sym}
use Rattle.ic_laws.specs.Dialect.{DialectMeaning, IsLawful}
use Rattle.ic_laws.specs.ReadAs.{read_as}
use Rattle.ic_laws.specs.Reading.{Reads}
use Rattle.ic_laws.specs.Tree.{Spelled}
use Rattle.ic_laws.proofs.parsing.ReadAs.{read_as_none, read_as_sound}

pub reads_when_some : (d : DialectMeaning) → IsLawful d → (text : List ℕ) (r : Option Spelled) → r ≡ read_as d text → IfSome r (λ t. Reads d text t)
reads_when_some d n text None e = tt
reads_when_some d n text (Some t) e = read_as_sound d n text t (sym e)

pub none_reads : (d : DialectMeaning) → IsLawful d → (text : List ℕ) (r : Option Spelled) → r ≡ read_as d text → MatchOption r ((t : Spelled) → Reads d text t → ⊥) (λ t. Unit {0})
none_reads d n text None e = λ t. read_as_none d n text t (sym e)
none_reads d n text (Some t) e = tt
