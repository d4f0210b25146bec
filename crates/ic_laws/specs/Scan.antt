-- Characters of names and formulas, and the runs of them at the front of a text.
use Rattle.std.specs.Prelude.{◌≡◌, ℕ, List, [], ◌∷◌, ◌++◌, Bool, false, ◌&&◌, ◌||◌, ◌==◌, nat_le, flat_map, if◌then◌else◌}
use Rattle.std.specs.Char.{is_ascii_digit}
use Rattle.unicode.specs.Binary.{is_alphabetic}
use Rattle.ic_laws.specs.Character.{backslash, bang, blank, carriage_return, colon, dollar, dot, line_feed, lower_a, lower_z, open_square, tab, underscore, upper_a, upper_z}

-- an ASCII letter in upper case, and in either case
abbrev pub is_upper : ℕ → Bool
is_upper c = nat_le upper_a c && nat_le c upper_z

abbrev pub is_ascii_letter : ℕ → Bool
is_ascii_letter c = is_upper c || nat_le lower_a c && nat_le c lower_z

-- a letter is alphabetic by Unicode; a digit is an ASCII digit
abbrev pub is_letter : ℕ → Bool
is_letter c = is_alphabetic c

abbrev pub is_digit : ℕ → Bool
is_digit c = is_ascii_digit c

-- a space, a tab, a line feed and a carriage return
abbrev pub is_blank : ℕ → Bool
is_blank c = c == blank || c == tab || c == line_feed || c == carriage_return

-- a letter, a digit, `_` or `.`
abbrev pub is_plain : ℕ → Bool
is_plain c = is_letter c || is_digit c || c == underscore || c == dot

-- the same, or a backslash
abbrev pub is_word_character : ℕ → Bool
is_word_character c = is_plain c || c == backslash

-- a word begins with a letter, `_` or a backslash
abbrev pub begins_word : ℕ → Bool
begins_word c = is_letter c || c == underscore || c == backslash

-- the first character is one of these
abbrev pub first_is : (ℕ → Bool) → List ℕ → Bool
first_is p [] = false
first_is p (c ∷ cs) = p c

-- a character that goes on with a word or a reference; before an end there is none
abbrev pub joins : ℕ → Bool
joins c = is_word_character c || c == bang || c == colon || c == dollar || c == open_square

-- no such character goes on
abbrev pub IsEnd : List ℕ → Type 0
IsEnd rest = first_is joins rest ≡ false

-- without one dollar sign at its front
abbrev pub past_dollar : List ℕ → List ℕ
past_dollar [] = []
past_dollar (c ∷ cs) = if c == dollar then cs else c ∷ cs

-- the longest run of such characters at the front, and what stands after it
abbrev pub run_of : (ℕ → Bool) → List ℕ → List ℕ
run_of p [] = []
run_of p (c ∷ cs) = if p c then c ∷ run_of p cs else []

abbrev pub past_run : (ℕ → Bool) → List ℕ → List ℕ
past_run p [] = []
past_run p (c ∷ cs) = if p c then past_run p cs else c ∷ cs

-- the first text ends with the second
abbrev pub EndsWith : List ℕ → List ℕ → Type 0
EndsWith text rest = (front : List ℕ) × (text ≡ front ++ rest)

-- a text between two marks, each such mark in it doubled
abbrev pub between : ℕ → List ℕ → List ℕ
between mark text = mark ∷ flat_map (λ c. if c == mark then mark ∷ mark ∷ [] else c ∷ []) text ++ mark ∷ []
