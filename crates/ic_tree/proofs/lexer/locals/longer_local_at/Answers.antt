use Rattle.std.proofs.Common.{◌≡◌, ◌∙◌, ℕ, List, Option, Some, None, MatchOption, chars, option_map}
use Rattle.std.proofs.lemmas.Result.{IfOk-weaker}
use Rattle.ic_laws.specs.Token.{Token}
use Rattle.ic_laws.specs.TokenKinds.{local_at}
use Rattle.ic_laws.proofs.tokens.Splits.{none_some}
use Rattle.ic_tree.specs.Lexing.{IsPastLocal, found}
use Rattle.ic_tree.specs.Tokens.{token_of}
use Rattle.ic_tree.proofs.lexer.locals.longer_local_at.Goals as goal

-- where there is none, none is longer
none_or_it : {T : Type 0} (text rest : List ℕ) (as_found : T → Token × List ℕ) (r : Option T) → option_map as_found r ≡ local_at text → MatchOption r (IsPastLocal text rest) (λ f. Some (as_found f) ≡ local_at text)
none_or_it text rest as_found None h = λ f e. absurd (none_some f (h ∙ e))
none_or_it text rest as_found (Some t) h = h

pub returns : goal.returns
returns c = IfOk-weaker c.local_at.result _ _ (λ r h. none_or_it (chars c.args.text.now) (chars c.args.rest.now) (λ f. found (token_of f.0) (chars f.1.now)) r h) c.local_at.ensures
