-- What is read is a well-formed tree with those tokens: the rows of an array.
use Rattle.std.proofs.Common.{◌≡◌, ◌≢◌, List, [], ◌∷◌, ◌++◌, length, Some, None, Bool, true, false, ◌&&◌, nat_eq, refl, ap, subst, ◌∙◌, map, if◌then◌else◌}
use Rattle.std.proofs.lemmas.Bool.{and_parts}
use Rattle.std.proofs.lemmas.Option.{same_Some, cond_some}
use Rattle.std.specs.Prelude.{ℤ}
use Rattle.std.specs.List.{AllByRecursion, list_all}
use Rattle.ic_laws.specs.Dialect.{DialectMeaning}
use Rattle.ic_laws.specs.Parse.{past_separator, past_brace, past_row_sign, followed, listed, amount_of, constant, row}
use Rattle.ic_laws.specs.Token.{Token, Num, Str, Boolean, Err, Separator, Operator, CloseBrace, Semicolon}
use Rattle.ic_laws.specs.Tree.{is_unsigned, is_unsigned_constant, has_constant}
use Rattle.ic_laws.specs.Yield.{joined, row_sign, constant_tokens, row_tokens}
use Rattle.ic_laws.specs.declared.tree.BinarySign.TheVariants as signs
use Rattle.ic_laws.specs.declared.tree.Constant.{Constant}
use Rattle.ic_laws.specs.declared.tree.Constant.TheVariants as constants
use Rattle.ic_laws.proofs.parsing.Soundness.{followed_some, past_separator_some, past_brace_some, ItemSound, ListSound, listed_sound}
use Rattle.ic_laws.proofs.core.Steps.{and_true as both_hold}

abbrev pub ConstantGood : Constant → Type 0
ConstantGood c = is_unsigned_constant c ≡ true

-- a minus before what is read, where there is one
abbrev with_minus : Bool → List Token → List Token
with_minus true ts = Operator signs.Minus ∷ ts
with_minus false ts = ts

amount_made : (minus : Bool) (units : ℤ) (rest : List Token) → with_minus minus (Num units ∷ rest) ≡ constant_tokens (constants.Num minus units) ++ rest
amount_made true units rest = refl
amount_made false units rest = refl

amount_sound : (minus : Bool) (ts : List Token) (read : Constant × List Token) → amount_of minus ts ≡ Some read → (with_minus minus ts ≡ constant_tokens read.0 ++ read.1) × ConstantGood read.0
amount_sound minus (Num units ∷ rest) read e =
    let parts = cond_some (is_unsigned units) (constants.Num minus units, rest) read e in
    subst (λ (p : Constant × List Token). (with_minus minus (Num units ∷ rest) ≡ constant_tokens p.0 ++ p.1) × ConstantGood p.0) parts.1 (amount_made minus units rest, parts.0)
amount_sound minus ts read e = cc

pub constant_sound : (ts : List Token) (read : Constant × List Token) → constant ts ≡ Some read → (ts ≡ constant_tokens read.0 ++ read.1) × ConstantGood read.0
constant_sound (Operator signs.Minus ∷ rest) read e = amount_sound true rest read e
constant_sound (Str text ∷ rest) read e =
    subst (λ (p : Constant × List Token). (Str text ∷ rest ≡ constant_tokens p.0 ++ p.1) × ConstantGood p.0) (same_Some (constants.Str text, rest) read e) (refl, refl)
constant_sound (Boolean value ∷ rest) read e =
    subst (λ (p : Constant × List Token). (Boolean value ∷ rest ≡ constant_tokens p.0 ++ p.1) × ConstantGood p.0) (same_Some (constants.Bool value, rest) read e) (refl, refl)
constant_sound (Err fault ∷ rest) read e =
    subst (λ (p : Constant × List Token). (Err fault ∷ rest ≡ constant_tokens p.0 ++ p.1) × ConstantGood p.0) (same_Some (constants.Err fault, rest) read e) (refl, refl)
constant_sound ts read e = amount_sound false ts read e

constants_item : ItemSound constant past_separator Separator constant_tokens ConstantGood
constants_item = record {
  tokens_of = λ ts read e. let found = constant_sound ts read e in found.0;
  holds = λ ts read e. let found = constant_sound ts read e in found.1;
  sign = past_separator_some;
}

pub all_hold : {A : Type 0} (test : A → Bool) (xs : List A) → AllByRecursion (λ x. test x ≡ true) xs → list_all test xs ≡ true
all_hold test [] all = refl
all_hold test (x ∷ xs) all = both_hold (test x) (list_all test xs) all.0 (all_hold test xs all.1)

some_constant : (cs : List Constant) → cs ≢ [] → has_constant cs ≡ true
some_constant [] some = absurd (some refl)
some_constant (c ∷ cs) some = refl

abbrev is_good_row : List Constant → Bool
is_good_row cs = has_constant cs && list_all is_unsigned_constant cs

abbrev RowGood : List Constant → Type 0
RowGood cs = is_good_row cs ≡ true

row_list : (ts : List Token) (read : List Constant × List Token) → row ts ≡ Some read → ListSound constant past_separator Separator constant_tokens ConstantGood ts read
row_list ts read e = listed_sound constant past_separator Separator constant_tokens ConstantGood constants_item (length ts) ts read e

pub row_tokens_of : (ts : List Token) (read : List Constant × List Token) → row ts ≡ Some read → ts ≡ row_tokens read.0 ++ read.1
row_tokens_of ts read e = let list : ListSound _ _ _ _ _ ts read = row_list ts read e in list.whole

row_good : (ts : List Token) (read : List Constant × List Token) → ListSound constant past_separator Separator constant_tokens ConstantGood ts read → RowGood read.0
row_good ts read list =
    both_hold (has_constant read.0) (list_all is_unsigned_constant read.0) (some_constant read.0 list.some) (all_hold is_unsigned_constant read.0 list.all)

pub past_row_sign_some : (d : DialectMeaning) (ts rest : List Token) → past_row_sign d ts ≡ Some rest → ts ≡ row_sign d ∷ rest
past_row_sign_some d (Semicolon ∷ after) rest e =
    let parts = cond_some (nat_eq d.list 44) after rest e in rw parts.0 (ap (λ (xs : List Token). Semicolon ∷ xs) parts.1)
past_row_sign_some d (Operator signs.Over ∷ after) rest e = over (nat_eq d.list 44) e
  where
    over : (b : Bool) → (if b then None else Some after) ≡ Some rest → Operator signs.Over ∷ after ≡ (if b then Semicolon else Operator signs.Over) ∷ rest
    over true h = cc
    over false h = ap (λ (xs : List Token). Operator signs.Over ∷ xs) (same_Some after rest h)
past_row_sign_some d ts rest e = cc

rows_item : (d : DialectMeaning) → ItemSound row (past_row_sign d) (row_sign d) row_tokens RowGood
rows_item d = record {
  tokens_of = λ ts read e. let list : ListSound _ _ _ _ _ ts read = row_list ts read e in list.whole;
  holds = λ ts read e. row_good ts read (row_list ts read e);
  sign = past_row_sign_some d;
}

parts_hold : (rows : List (List Constant)) → AllByRecursion RowGood rows → (list_all has_constant rows ≡ true) × (list_all (list_all is_unsigned_constant) rows ≡ true)
parts_hold [] all = (refl, refl)
parts_hold (r ∷ rows) all =
    let here = and_parts (has_constant r) (list_all is_unsigned_constant r) all.0 in
    let more = parts_hold rows all.1 in
    (both_hold (has_constant r) (list_all has_constant rows) here.0 more.0, both_hold (list_all is_unsigned_constant r) (list_all (list_all is_unsigned_constant) rows) here.1 more.1)

-- the rows of an array with the brace after them
pub record RowsGood (d : DialectMeaning) (ts : List Token) (read : List (List Constant) × List Token) : Type 0 where
  pub tokens : ts ≡ joined (row_sign d) (map row_tokens read.0) ++ CloseBrace ∷ read.1
  pub some : read.0 ≢ []
  pub constants : list_all has_constant read.0 ≡ true
  pub unsigned : list_all (list_all is_unsigned_constant) read.0 ≡ true

pub rows_sound : (d : DialectMeaning) (ts : List Token) (read : List (List Constant) × List Token) → followed past_brace (listed row (past_row_sign d) (length ts) ts) ≡ Some read → RowsGood d ts read
rows_sound d ts read e =
    followed_some past_brace (listed row (past_row_sign d) (length ts) ts) read e (λ after got closed.
    let list : ListSound row (past_row_sign d) (row_sign d) row_tokens RowGood ts (read.0, after) =
    listed_sound row (past_row_sign d) (row_sign d) row_tokens RowGood (rows_item d) (length ts) ts (read.0, after) got in
    let hold = parts_hold read.0 list.all in
    record {
      tokens = list.whole ∙ ap (λ (xs : List Token). joined (row_sign d) (map row_tokens read.0) ++ xs) (past_brace_some after read.1 closed);
      some = list.some;
      constants = hold.0;
      unsigned = hold.1;
    })
