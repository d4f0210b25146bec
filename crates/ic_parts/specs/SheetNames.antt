-- Names of sheets with a number in them.
use Rattle.std.specs.Prelude.{◌≡◌, ◌<◌, ◌≤◌, ◌^◌, ℕ, suc, ◌+◌, List, ◌++◌, Option, Some, IfSome, IsSomeAnd, unwrap_or}
use Rattle.std.specs.Prelude.{String, chars, true, false, not, find, length}
use Rattle.std.specs.BTreeMap.{BTreeMap, get_by_text}
use Rattle.std.specs.Fmt.{decimal}
use Rattle.std.specs.List.{list_any, range_with_len}
use Rattle.std.specs.declared.alloc.Global.{Global}
use Rattle.ic_laws.specs.Name.{agrees}
use Rattle.ic_machine.specs.subjects.Sheets.{copy_name}
use Rattle.ic_parts.specs.declared.sheet_names.NumberedName.{NumberedName}
use Rattle.ic_parts.specs.declared.sheet_names.NumberedName.TheVariants as names
use Rattle.ic_parts.specs.declared.taken_numbers.TakenNumbers.{TakenNumbers}

-- the name with this number
abbrev pub name_with : NumberedName → ℕ → List ℕ
name_with (names.Word base) n = chars base.now ++ decimal n
name_with (names.Copy source) n = copy_name (chars source.now) n

-- The least number from 1 that makes a name which agrees with none of these. Of one number more than there are names, one
-- does.
abbrev pub free_among : List (List ℕ) → (ℕ → List ℕ) → ℕ
free_among taken name =
    unwrap_or (find (λ n. not (list_any (agrees (name n)) taken)) (range_with_len 1 (suc (length taken)))) (suc (length taken))

-- This is one of such names, with a number that is at most one more than there were sheets.
abbrev pub IsNumbered : ℕ → (ℕ → List ℕ) → List ℕ → Type 0
IsNumbered count name called = (n : ℕ) × (n ≤ count + 1) × (called ≡ name n)

-- With each number from 1 up to this one the name agrees with one of these.
abbrev pub AreTaken : List (List ℕ) → (ℕ → List ℕ) → ℕ → Type 0
AreTaken taken name count = (n : ℕ) → n < count → list_any (agrees (name (n + 1))) taken ≡ true

-- So many numbers from 1 on are taken. The next one isn't, unless no more than these were to be asked for.
pub record HasPassed (names : List (List ℕ)) (name : ℕ → List ℕ) (most passed : ℕ) : Type 0 where
  pub taken : AreTaken names name passed
  pub within : passed ≤ most
  pub next : passed < most → list_any (agrees (name (passed + 1))) names ≡ false

-- a count that is noted fits in 64 bits, and with each number from 1 up to it the name is taken
abbrev pub IsNoted : List (List ℕ) → (ℕ → List ℕ) → ℕ → Type 0
IsNoted taken name count = (count < 2 ^ 64) × AreTaken taken name count

-- Up to the number that is noted at a key, the name that it stands for is taken.
abbrev pub AreNoted : BTreeMap (String Global) ℕ → (List ℕ → ℕ → List ℕ) → List (List ℕ) → Type 0
AreNoted notes name taken = (key : List ℕ) → IfSome (get_by_text notes key) (IsNoted taken (name key))

-- what is noted at words, and at names of sheets that were copied, is so among these names
pub record KnowsNumbers (numbers : TakenNumbers) (taken : List (List ℕ)) : Type 0 where
  pub words : AreNoted numbers.words (λ word n. chars word ++ decimal n) taken
  pub copies : AreNoted numbers.copies (λ source. copy_name (chars source)) taken

-- notes are still so if up to this number the name of this key is taken
abbrev pub Notes : List ℕ → ℕ → BTreeMap (String Global) ℕ → BTreeMap (String Global) ℕ → Type 0
Notes key number before after =
    (name : List ℕ → ℕ → List ℕ) (taken : List (List ℕ)) → AreNoted before name taken → AreTaken taken (name key) number → AreNoted after name taken

-- ---- as a name goes

-- Of the numbers from 1 on, only this one may make a name that agrees with the one that goes.
abbrev pub IsOnlyNumber : (ℕ → List ℕ) → List ℕ → Option ℕ → Type 0
IsOnlyNumber name gone number = (n : ℕ) → 0 < n → n < 2 ^ 64 → agrees (name n) gone ≡ true → number ≡ Some n

-- a count of taken numbers is lowered so that none of their names agrees with the one that goes
pub record IsLowered (name : ℕ → List ℕ) (gone : List ℕ) (before after : ℕ) : Type 0 where
  pub within : after ≤ before
  pub apart : (n : ℕ) → n < after → agrees (name (n + 1)) gone ≡ false

-- a count was noted before, and is lowered so
abbrev pub IsLoweredNote : (ℕ → List ℕ) → List ℕ → Option ℕ → ℕ → Type 0
IsLoweredNote name gone before after = IsSomeAnd before (λ was. IsLowered name gone was after)

-- each count that is noted is so
abbrev pub AreLowered : (List ℕ → ℕ → List ℕ) → List ℕ → BTreeMap (String Global) ℕ → BTreeMap (String Global) ℕ → Type 0
AreLowered name gone before after = (key : List ℕ) → IfSome (get_by_text after key) (IsLoweredNote (name key) gone (get_by_text before key))
