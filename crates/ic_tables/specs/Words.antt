-- The words of a language: which texts may be one, and when those of a language can be told apart.
use Rattle.std.specs.Prelude.{◌≡◌, ℕ, suc, List, [], ◌∷◌, ◌++◌, Bool, true, false, not, ◌&&◌, ◌==◌, nat_lt, length, Option, Some, None, map, codes, bytes_eq, encode_utf8_all, option_map, String, if◌then◌else◌}
use Rattle.std.specs.BTreeSet.{BTreeSet, contains_text}
use Rattle.std.specs.List.{list_any, list_all, slice_get}
use Rattle.std.specs.declared.alloc.Global.{Global}
use Rattle.ic_laws.specs.Dialect.{has_error_shape, has_function_shape}
use Rattle.ic_laws.specs.Name.{agrees, fold, is_variable_form}
use Rattle.ic_laws.specs.declared.dialect.WordKind.{WordKind}
use Rattle.ic_laws.specs.declared.dialect.WordKind.TheVariants as kinds
use Rattle.ic_tables.specs.declared.language.Booleans.{Booleans}
use Rattle.ic_tables.specs.declared.language.Errors.{Errors}
use Rattle.ic_tables.specs.declared.language.Functions.{Functions}
use Rattle.ic_tables.specs.declared.language.Language.{Language}

-- the two words of the booleans, and the words of the error values, each in the order of their fields
abbrev pub words_of_booleans : Booleans → List (List ℕ)
words_of_booleans b = b.true_word ∷ b.false_word ∷ []

abbrev pub words_of_errors : Errors → List (List ℕ)
words_of_errors e =
    e.ref_word ∷ e.name ∷ e.value ∷ e.div ∷ e.na ∷ e.num ∷ e.nimpl ∷ e.spill ∷ e.calc ∷ e.circ ∷ e.error ∷ e.null ∷ []

abbrev pub boolean_words : Language → List (List ℕ)
boolean_words l = words_of_booleans l.booleans

abbrev pub error_words : Language → List (List ℕ)
error_words l = words_of_errors l.errors

-- the words of a kind, by number
abbrev pub words_of : Language → WordKind → List (List ℕ)
words_of l kinds.Boolean = boolean_words l
words_of l kinds.Error = error_words l
words_of l kinds.Function = l.functions.words

-- the number of the first of these words that agrees with a text
abbrev pub first_agreeing : List (List ℕ) → List ℕ → Option ℕ
first_agreeing [] text = None
first_agreeing (w ∷ ws) text = if agrees w text then Some 0 else option_map (λ n. suc n) (first_agreeing ws text)

-- the numbers of LET, LAMBDA, TRUE and FALSE
abbrev pub numbers_of : Functions → List ℕ
numbers_of f = f.let_fn ∷ f.lambda_fn ∷ f.true_fn ∷ f.false_fn ∷ []

abbrev pub named_numbers : Language → List ℕ
named_numbers l = numbers_of l.functions

-- no two of these numbers are equal
abbrev pub differ : List ℕ → Bool
differ [] = true
differ (n ∷ ns) = not (list_any (λ m. m == n) ns) && differ ns

-- each function has a word, and the four numbers are those of four functions
unfoldable pub numbers_functions : ℕ → Language → Bool
numbers_functions count l =
    length l.functions.words == count && list_all (λ n. nat_lt n count) (named_numbers l) && differ (named_numbers l)

-- the four numbers are the same in all languages
unfoldable pub share_numbers : List Language → Bool
share_numbers [] = true
share_numbers (l ∷ ls) = list_all (λ m. bytes_eq (named_numbers m) (named_numbers l)) ls

-- there is a word, and it is this text
abbrev pub is_text : Option (List ℕ) → List ℕ → Bool
is_text None text = false
is_text (Some word) text = bytes_eq word text

-- the words of formulas as they are stored
abbrev pub has_stored_booleans : Booleans → Bool
has_stored_booleans b = bytes_eq b.true_word (codes "TRUE") && bytes_eq b.false_word (codes "FALSE")

abbrev pub has_stored_functions : Functions → Bool
has_stored_functions f = is_text (slice_get f.words f.let_fn) (codes "LET") && is_text (slice_get f.words f.lambda_fn) (codes "LAMBDA")

unfoldable pub has_stored_words : Language → Bool
has_stored_words l = has_stored_booleans l.booleans && has_stored_functions l.functions

-- the words of the booleans could be no references
unfoldable pub has_boolean_words : Language → Bool
has_boolean_words l = list_all is_variable_form (boolean_words l)

-- they don't agree
unfoldable pub tells_booleans : Language → Bool
tells_booleans l = not (agrees l.booleans.true_word l.booleans.false_word)

-- no two of these words agree
abbrev pub no_two_agree : List (List ℕ) → Bool
no_two_agree [] = true
no_two_agree (w ∷ ws) = not (list_any (agrees w) ws) && no_two_agree ws

-- a set has the foldings of these words
abbrev pub FindsFoldings : BTreeSet (String Global) → List (List ℕ) → Type 0
FindsFoldings folded words = (word : List ℕ) → contains_text folded (encode_utf8_all (fold word)) ≡ list_any (agrees word) words

-- each function's word begins with a letter and has only characters of words, and no two agree
unfoldable pub has_function_words : Language → Bool
has_function_words l = list_all has_function_shape l.functions.words && no_two_agree l.functions.words

-- each error's word begins with #, the character after it is no sign and no blank, and no two agree
unfoldable pub has_error_words : Language → Bool
has_error_words l = list_all has_error_shape (error_words l) && no_two_agree (error_words l)

-- the text is longer than this one, and begins with it
abbrev pub is_proper_prefix : List ℕ → List ℕ → Bool
is_proper_prefix [] [] = false
is_proper_prefix [] (c ∷ cs) = true
is_proper_prefix (c ∷ cs) [] = false
is_proper_prefix (c ∷ cs) (d ∷ ds) = c == d && is_proper_prefix cs ds

-- none of these texts begins another, longer one
abbrev pub is_prefix_free : List (List ℕ) → Bool
is_prefix_free texts = list_all (λ a. list_all (λ b. not (is_proper_prefix a b)) texts) texts

-- folded, no word of an error value begins another, be they of this language or of the words given
unfoldable pub tells_errors : List (List ℕ) → Language → Bool
tells_errors english l = is_prefix_free (map fold (english ++ error_words l))
