-- What a lexer gives and still has, by the token in sight.
use Rattle.std.proofs.Common.{◌≡◌, ℕ, List, [], ◌∷◌, true, false, Option, Some, None, MatchOption, is_some, refl, sym, ◌∙◌, ap, subst}
use Rattle.ic_laws.specs.Dialect.{DialectMeaning}
use Rattle.ic_laws.specs.Token.{Token}
use Rattle.ic_tree.specs.Lexing.{tokens_before}
use Rattle.ic_tree.specs.Sight.{in_sight, is_settled}
use Rattle.ic_tree.specs.Tokens.{after_first, token_of}
use Rattle.ic_tree.specs.declared.token.Token as code

abbrev Gives : DialectMeaning → Option code.Token → Option code.Token → List ℕ → List ℕ → Option code.Token → Type 0
Gives d old new rest after given =
    MatchOption given ((in_sight d old rest ≡ []) × (in_sight d new after ≡ [])) (λ t. in_sight d old rest ≡ token_of t ∷ in_sight d new after)

last_given : (d : DialectMeaning) (old : Option code.Token) (rest after : List ℕ) → tokens_before d rest ≡ [] → Gives d old None rest after old
last_given d None rest after none = (refl, refl)
last_given d (Some token) rest after none = ap (λ ts. token_of token ∷ ts) none

pub takes_last : (d : DialectMeaning) (old new given : Option code.Token) (rest after : List ℕ) → given ≡ old → new ≡ None → tokens_before d rest ≡ [] → Gives d old new rest after given
takes_last d old new given rest after g n none =
    subst (λ x. Gives d old x rest after given) (sym n) (subst (Gives d old None rest after) (sym g) (last_given d old rest after none))

more_given : (d : DialectMeaning) (old : Option code.Token) (token : code.Token) (rest after : List ℕ) → is_some old ≡ true → tokens_before d rest ≡ token_of token ∷ tokens_before d after → Gives d old (Some token) rest after old
more_given d None token rest after some next = absurd (cc)
more_given d (Some first) token rest after some next = ap (λ ts. token_of first ∷ ts) next

pub takes_more : (d : DialectMeaning) (old new given : Option code.Token) (token : code.Token) (rest after : List ℕ) → given ≡ old → new ≡ Some token → is_some old ≡ true → tokens_before d rest ≡ token_of token ∷ tokens_before d after → Gives d old new rest after given
takes_more d old new given token rest after g n some next =
    subst (λ x. Gives d old x rest after given) (sym n) (subst (Gives d old (Some token) rest after) (sym g) (more_given d old token rest after some next))

pub passes_one : (d : DialectMeaning) (old : Option code.Token) (rest : List ℕ) → is_some old ≡ true → after_first (in_sight d old rest) ≡ tokens_before d rest
passes_one d None rest some = absurd (cc)
passes_one d (Some first) rest some = refl

pub settled_none : (new : Option code.Token) (ts : List Token) → new ≡ None → ts ≡ [] → is_settled new ts ≡ true
settled_none new ts n e = ap (λ s. is_settled s ts) n ∙ ap (is_settled None) e

pub settled_so : (old new taken : Option code.Token) (ts : List Token) → taken ≡ old → new ≡ None → is_some taken ≡ false → is_settled old ts ≡ true → is_settled new ts ≡ true
settled_so None new taken ts t n none s = ap (λ x. is_settled x ts) n ∙ s
settled_so (Some token) new taken ts t n none s = let some : true ≡ false = ap is_some (sym t) ∙ none in absurd (cc)

-- where none is in sight none comes
pub none_comes : (d : DialectMeaning) (sight : Option code.Token) (rest : List ℕ) → is_settled sight (tokens_before d rest) ≡ true → in_sight d sight rest ≡ [] → tokens_before d rest ≡ []
none_comes d None rest s e = by (tokens_before d rest) s
  where
    by : (ts : List Token) → is_settled None ts ≡ true → ts ≡ []
    by [] s = refl
    by (t ∷ ts) s = absurd (cc)
none_comes d (Some token) rest s e = absurd (cc)
