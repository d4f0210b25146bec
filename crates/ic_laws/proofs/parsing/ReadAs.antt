-- The function that reads a text answers the tree exactly where the text reads as it.
use Rattle.std.proofs.Common.{◌≡◌, ℕ, List, Some, None, option_and_then, sym, ap, subst, ◌∙◌}
use Rattle.std.proofs.lemmas.Option.{option_and_then_some}
use Rattle.ic_laws.specs.Dialect.{DialectMeaning, IsLawful}
use Rattle.ic_laws.specs.NextToken.{tokens_of}
use Rattle.ic_laws.specs.Parse.{parsed}
use Rattle.ic_laws.specs.ReadAs.{read_as}
use Rattle.ic_laws.specs.Reading.{IsWell, Reads}
use Rattle.ic_laws.specs.Token.{Lexes}
use Rattle.ic_laws.specs.Tree.{Spelled}
use Rattle.ic_laws.specs.Yield.{yield}
use Rattle.ic_laws.proofs.parsing.ParseLemmas.{parsed_complete, parsed_sound}
use Rattle.ic_laws.proofs.tokens.Lexing.{tokens_of_complete, tokens_of_sound}
use Rattle.ic_laws.proofs.tokens.Splits.{none_some}

-- what it answers, the text reads as
pub read_as_sound : (d : DialectMeaning) → IsLawful d → (text : List ℕ) (t : Spelled) → read_as d text ≡ Some t → Reads d text t
read_as_sound d n text t e =
    option_and_then_some (parsed d) (tokens_of d text) t e (λ ts lexed got.
    let both : IsWell d t × (yield d t ≡ ts) = parsed_sound d ts t got in
    let wanted : Reads d text t = record { well = both.0; tokens = subst (Lexes d text) (sym both.1) (tokens_of_sound d n text ts lexed) } in
    wanted)

-- what the text reads as, it answers
pub read_as_complete : (d : DialectMeaning) → IsLawful d → (text : List ℕ) (t : Spelled) → Reads d text t → read_as d text ≡ Some t
read_as_complete d n text t r =
    ap (option_and_then (parsed d)) (tokens_of_complete d n text (yield d t) r.tokens) ∙ parsed_complete d t n.special_differ r.well

-- it answers nothing exactly where no tree has the text
pub read_as_none : (d : DialectMeaning) → IsLawful d → (text : List ℕ) (t : Spelled) → read_as d text ≡ None → Reads d text t → ⊥
read_as_none d n text t none r = none_some t (sym none ∙ read_as_complete d n text t r)
