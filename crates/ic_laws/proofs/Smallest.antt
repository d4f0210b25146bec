-- The smallest dialect, which shows that the laws of dialects can be met. Each word is a mark of its kind with a digit
-- after it, and there are no references.
use Rattle.std.specs.Prelude.{ℕ, zero, suc, ◌+◌, List, [], ◌∷◌, ◌++◌, false, nat_lt, bytes_eq, Option, Some, None, if◌then◌else◌}
use Rattle.ic_laws.specs.Dialect.{DialectMeaning}
use Rattle.ic_laws.specs.declared.dialect.WordKind.{WordKind}
use Rattle.ic_laws.specs.declared.dialect.WordKind.TheVariants as kinds

-- `_` for booleans, `#_` for errors, and a letter without case for functions
abbrev pub mark : WordKind → List ℕ
mark kinds.Boolean = 95 ∷ []
mark kinds.Error = 35 ∷ 95 ∷ []
mark kinds.Function = 0x51FD ∷ []

-- how many words there are: of the functions LET and LAMBDA alone
abbrev pub count : WordKind → ℕ
count kinds.Boolean = 2
count kinds.Error = 12
count kinds.Function = 2

-- the character after the mark counts on from `0`, past `9` too
abbrev pub marked : WordKind → ℕ → List ℕ
marked kind n = mark kind ++ (48 + n) ∷ []

abbrev pub marked_word : WordKind → ℕ → Option (List ℕ)
marked_word kind n = if nat_lt n (count kind) then Some (marked kind n) else None

-- the number below a limit whose word is the text
unfoldable pub number_below : WordKind → List ℕ → ℕ → Option ℕ
number_below kind text zero = None
number_below kind text (suc n) = if bytes_eq text (marked kind n) then Some n else number_below kind text n

abbrev pub smallest : DialectMeaning
smallest = record {
  list = 44;
  decimal = 46;
  word = marked_word;
  find = λ kind text. number_below kind text (count kind);
  let_fn = 0;
  lambda_fn = 1;
  read_ref = λ text. None;
  can_spell = λ r. false;
  spell_ref = λ r. [];
}
