-- Whether a part of LET or LAMBDA begins with a variable and a separator.
use Rattle.std.proofs.Common.{◌≡◌, ◌≢◌, true, false, ℕ, List, ◌∷◌, Some, None, refl}
use Rattle.ic_laws.specs.Name.{is_variable}
use Rattle.ic_laws.specs.Parse.{binder}
use Rattle.ic_laws.specs.Token.{Token, Separator, Word}
use Rattle.ic_tree.specs.Tokens.{ahead_of, after_first, token_of}
use Rattle.ic_tree.specs.declared.token.Ahead.TheVariants as ahead
use Rattle.ic_tree.specs.declared.token.Token as code
use Rattle.ic_tree.specs.declared.token.Token.TheVariants as of

pub binder_takes : (name : List ℕ) (ts : List Token) → is_variable name ≡ true → ahead_of ts ≡ ahead.Separator → binder (Word name ∷ ts) ≡ Some (name, after_first ts)
unfolding binder
binder_takes name (Separator ∷ ts) good is = rw good refl
binder_takes name ts good is = cc

pub binder_no_variable : (name : List ℕ) (ts : List Token) → is_variable name ≡ false → binder (Word name ∷ ts) ≡ None
unfolding binder
binder_no_variable name (Separator ∷ ts) bad = rw bad refl
binder_no_variable name ts bad = refl

pub binder_no_separator : (name : List ℕ) (ts : List Token) → ahead_of ts ≢ ahead.Separator → binder (Word name ∷ ts) ≡ None
unfolding binder
binder_no_separator name (Separator ∷ ts) lacks = absurd (lacks refl)
binder_no_separator name ts lacks = refl

pub binder_no_word : (token : code.Token) (ts : List Token) → ((name : List ℕ) → token ≢ of.Word name) → binder (token_of token ∷ ts) ≡ None
unfolding binder
binder_no_word (of.Word name) ts lacks = absurd (lacks name refl)
binder_no_word token ts lacks = refl
