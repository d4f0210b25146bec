-- What the words of the program ask for.
use Rattle.std.specs.Prelude.{ℕ, List, [], ◌∷◌, Option, Some, None, bytes_eq, chars, codes, is_none, option_map, if◌then◌else◌}
use Rattle.ic_laws.specs.Command.{scope_said}
use Rattle.ic_laws.specs.CoreStep.{index_of_name}
use Rattle.ic_machine.specs.Book.{Book, core_of}
use Rattle.ic_machine.specs.Refusal.{Site}
use Rattle.ic_machine.specs.Sites.{name_sites_refusal, sites_of_name_in, sites_of_sheet_at}
use Rattle.ic_audit.specs.declared.asked.Asked.{Asked}
use Rattle.ic_audit.specs.declared.asked.Asked.TheVariants as asked

-- who mentions the sheet of a name; who mentions the definition of a name, which is local to the sheet at an index, or to none
pub data Question : Type 0 where
  OfSheet : (name : List ℕ) → Question
  OfName : (name : List ℕ) (scope : Option ℕ) → Question

-- no words ask for the sheet Sheet1
abbrev pub question_of : List (List ℕ) → Option Question
question_of [] = Some (OfSheet (codes "Sheet1"))
question_of (word ∷ name ∷ []) = if bytes_eq word (codes "sheet") then Some (OfSheet name) else None
question_of (word ∷ name ∷ scope ∷ []) = if bytes_eq word (codes "name") then option_map (OfName name) (scope_said scope) else None
question_of words = None

-- the sites in a book; none where there is no such sheet, or no such definition
abbrev pub sites_asked : Question → Book → Option (List Site)
sites_asked (OfSheet name) book = option_map (λ index. sites_of_sheet_at index book) (index_of_name (core_of book) name)
sites_asked (OfName name scope) book = if is_none (name_sites_refusal (core_of book) name scope) then Some (sites_of_name_in name scope book) else None

-- what is asked for, as texts
abbrev pub question : Asked → Question
question (asked.Sheet name) = OfSheet (chars name.now)
question (asked.Name name scope) = OfName (chars name.now) scope
