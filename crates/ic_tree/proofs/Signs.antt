-- What stands in sight says what is passed over.
use Rattle.std.proofs.Common.{◌≡◌, ◌≢◌, true, false, List, ◌∷◌, Some, None, refl, nat_eq}
use Rattle.ic_laws.specs.Character.{comma}
use Rattle.ic_laws.specs.Dialect.{DialectMeaning}
use Rattle.ic_laws.specs.Parse.{ends_argument, past_brace, past_close, past_row_sign, past_separator}
use Rattle.ic_laws.specs.Token.{Token, Close, CloseBrace, Separator, Semicolon, Operator}
use Rattle.ic_laws.specs.declared.tree.BinarySign.TheVariants as signs
use Rattle.ic_tree.specs.Tokens.{ahead_of, after_first}
use Rattle.ic_tree.specs.declared.token.Ahead.TheVariants as ahead

pub close_stands : (ts : List Token) → ahead_of ts ≡ ahead.Close → past_close ts ≡ Some (after_first ts)
close_stands (Close ∷ ts) is = refl
close_stands ts is = cc

pub close_lacks : (ts : List Token) → ahead_of ts ≢ ahead.Close → past_close ts ≡ None
close_lacks (Close ∷ ts) lacks = absurd (lacks refl)
close_lacks ts lacks = refl

pub separator_stands : (ts : List Token) → ahead_of ts ≡ ahead.Separator → past_separator ts ≡ Some (after_first ts)
separator_stands (Separator ∷ ts) is = refl
separator_stands ts is = cc

pub separator_lacks : (ts : List Token) → ahead_of ts ≢ ahead.Separator → past_separator ts ≡ None
separator_lacks (Separator ∷ ts) lacks = absurd (lacks refl)
separator_lacks ts lacks = refl

pub brace_stands : (ts : List Token) → ahead_of ts ≡ ahead.CloseBrace → past_brace ts ≡ Some (after_first ts)
brace_stands (CloseBrace ∷ ts) is = refl
brace_stands ts is = cc

pub brace_lacks : (ts : List Token) → ahead_of ts ≢ ahead.CloseBrace → past_brace ts ≡ None
brace_lacks (CloseBrace ∷ ts) lacks = absurd (lacks refl)
brace_lacks ts lacks = refl

pub semicolon_stands : (d : DialectMeaning) (ts : List Token) → nat_eq d.list comma ≡ true → ahead_of ts ≡ ahead.Semicolon → past_row_sign d ts ≡ Some (after_first ts)
semicolon_stands d (Semicolon ∷ ts) pair is = rw pair refl
semicolon_stands d ts pair is = cc

pub semicolon_lacks : (d : DialectMeaning) (ts : List Token) → nat_eq d.list comma ≡ true → ahead_of ts ≢ ahead.Semicolon → past_row_sign d ts ≡ None
semicolon_lacks d (Semicolon ∷ ts) pair lacks = absurd (lacks refl)
semicolon_lacks d (Operator signs.Over ∷ ts) pair lacks = rw pair refl
semicolon_lacks d ts pair lacks = refl

pub over_stands : (d : DialectMeaning) (ts : List Token) → nat_eq d.list comma ≡ false → ahead_of ts ≡ ahead.Operator signs.Over → past_row_sign d ts ≡ Some (after_first ts)
over_stands d (Operator signs.Over ∷ ts) pair is = rw pair refl
over_stands d ts pair is = cc

pub over_lacks : (d : DialectMeaning) (ts : List Token) → nat_eq d.list comma ≡ false → ahead_of ts ≢ ahead.Operator signs.Over → past_row_sign d ts ≡ None
over_lacks d (Semicolon ∷ ts) pair lacks = rw pair refl
over_lacks d (Operator signs.Over ∷ ts) pair lacks = absurd (lacks refl)
over_lacks d ts pair lacks = refl

pub ends_at_separator : (ts : List Token) → ahead_of ts ≡ ahead.Separator → ends_argument ts ≡ true
ends_at_separator (Separator ∷ ts) is = refl
ends_at_separator ts is = cc

pub ends_at_close : (ts : List Token) → ahead_of ts ≡ ahead.Close → ends_argument ts ≡ true
ends_at_close (Close ∷ ts) is = refl
ends_at_close ts is = cc

pub goes_on : (ts : List Token) → ahead_of ts ≢ ahead.Separator → ahead_of ts ≢ ahead.Close → ends_argument ts ≡ false
goes_on (Separator ∷ ts) no_separator no_close = absurd (no_separator refl)
goes_on (Close ∷ ts) no_separator no_close = absurd (no_close refl)
goes_on ts no_separator no_close = refl
