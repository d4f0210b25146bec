-- Languages as texts of words.
use Rattle.std.specs.Prelude.{ℕ, List, [], ◌∷◌, Option, Some, None}
use Rattle.ic_tables.specs.WordList.{words_in}
use Rattle.ic_tables.specs.declared.language.Booleans.{Booleans}
use Rattle.ic_tables.specs.declared.language.Errors.{Errors}
use Rattle.ic_tables.specs.declared.language.Functions.{Functions}
use Rattle.ic_tables.specs.declared.language.Language.{Language}

-- two words are those of true and false
abbrev pub booleans_of : List (List ℕ) → Option Booleans
booleans_of (t ∷ f ∷ []) = Some (record { true_word = t; false_word = f })
booleans_of words = None

-- twelve words are those of the error values, by number
abbrev pub errors_of : List (List ℕ) → Option Errors
errors_of (a ∷ b ∷ c ∷ d ∷ e ∷ f ∷ g ∷ h ∷ i ∷ j ∷ k ∷ l ∷ []) =
    Some
    (record {
      ref_word = a;
      name = b;
      value = c;
      div = d;
      na = e;
      num = f;
      nimpl = g;
      spill = h;
      calc = i;
      circ = j;
      error = k;
      null = l;
    })
errors_of words = None

-- the words of the functions by number, where LET, LAMBDA, TRUE and FALSE come first
abbrev pub numbered : List (List ℕ) → Functions
numbered words = record { words = words; let_fn = 0; lambda_fn = 1; true_fn = 2; false_fn = 3 }

-- a language of these parts, if they are there
abbrev pub with_parts : List ℕ → List ℕ → Functions → Option Booleans → Option Errors → Option Language
with_parts name code functions (Some b) (Some e) =
    Some (record { name = name; code = code; booleans = b; errors = e; functions = functions })
with_parts name code functions b e = None

-- the language that these texts spell, by its code, its name and its words
unfoldable pub language_in : List ℕ → List ℕ → List ℕ → List ℕ → List ℕ → Option Language
language_in code name booleans errors functions =
    with_parts name code (numbered (words_in functions)) (booleans_of (words_in booleans)) (errors_of (words_in errors))
