-- The command that a core line is by the table of all commands is the one that it is by the identity machine's.
use Rattle.std.proofs.Common.{◌≡◌, ℕ, List, [], ◌∷◌, ◌++◌, map, Bool, true, false, cond, Option, Some, None, is_some, refl, sym, ap, ap₂, subst, ◌∙◌, codes, inl, inr, rules}
use mathlib.Core.Bool.{true≢false}
use Rattle.std.specs.Prelude.{◌||◌, bytes_eq, drop, option_and_then, option_map, take}
use Rattle.std.specs.List.{AllByRecursion, filter, find, list_any}
use Rattle.std.proofs.lemmas.Bool.{cases_Bool}
use Rattle.std.proofs.lemmas.Iterator.Adapters.{option_map_id}
use Rattle.std.proofs.lemmas.Slice.Eq.{bytes_eq-Decides}
use Rattle.ic_laws.specs.Command as core
use Rattle.ic_laws.specs.Command.{CommandRow}
use Rattle.ic_laws.specs.Lines as lines
use Rattle.ic_laws.specs.Lines.{word_texts}
use Rattle.ic_machine.specs.Command.{Command, commands}
use Rattle.ic_machine.specs.Core.{counterpart, is_core, whole_command}
use Rattle.ic_machine.specs.Laws.{CoreIsRead, CoreLinesAreCore}
use Rattle.ic_machine.specs.Row.{Row, joined, spelled}
use Rattle.ic_machine.specs.Word.{AllSaid, OfIndex, OfPosition, OfScope, OfText, Said, WordForm, Words, all_said, said, words_of, words_said}
use Rattle.ic_grid.proofs.SpillFits.{or_tail as rest_false}
use Rattle.ic_laws.proofs.General.{either_order}

-- a row of the identity machine as one of the whole ----

abbrev form_of : core.WordForm → WordForm
form_of core.OfText = OfText
form_of core.OfIndex = OfIndex
form_of core.OfPosition = OfPosition
form_of core.OfScope = OfScope

abbrev words_by : List core.WordForm → Words
words_by forms = words_of (map form_of forms)

-- what a word says is the same
abbrev said_back : (form : core.WordForm) → Said (form_of form) → core.Said form
said_back core.OfText w = w
said_back core.OfIndex w = w
said_back core.OfPosition w = w
said_back core.OfScope w = w

abbrev all_back : (forms : List core.WordForm) → AllSaid (words_by forms) → core.AllSaid forms
all_back [] w = tt
all_back (form ∷ forms) w = (said_back form w.0, all_back forms w.1)

abbrev whole_row : CommandRow → Row Command
whole_row row = record { name = row.name; words = words_by row.forms; command = λ w. whole_command (row.command (all_back row.forms w)) }

-- words say the same by both ----

said_alike : (english : List (List ℕ)) (form : core.WordForm) (text : List ℕ) → option_map (said_back form) (said english (form_of form) text) ≡ core.said form text
said_alike english core.OfText text = refl
said_alike english core.OfIndex text = option_map_id (core.index_said text)
said_alike english core.OfPosition text = option_map_id (core.position_said text)
said_alike english core.OfScope text = option_map_id (core.scope_said text)

pairs_alike : {A B C D : Type 0} (f : A → C) (g : B → D) (o : Option A) (p : Option B)
    → option_map (λ (w : A × B). let pair : C × D = (f w.0, g w.1) in pair) (option_and_then (λ (a : A). option_map (λ (b : B). (a, b)) p) o)
    ≡ option_and_then (λ (c : C). option_map (λ (d : D). (c, d)) (option_map g p)) (option_map f o)
pairs_alike f g None p = refl
pairs_alike f g (Some a) None = refl
pairs_alike f g (Some a) (Some b) = refl

all_alike : (english : List (List ℕ)) (forms : List core.WordForm) (texts : List (List ℕ)) → option_map (all_back forms) (all_said english (words_by forms) texts) ≡ core.all_said forms texts
all_alike english [] [] = refl
all_alike english [] (text ∷ texts) = refl
all_alike english (form ∷ forms) [] = refl
all_alike english (form ∷ forms) (text ∷ texts) =
    pairs_alike (said_back form) (all_back forms) (said english (form_of form) text) (all_said english (words_by forms) texts)
    ∙ ap₂ (λ (o : Option (core.Said form)) (p : Option (core.AllSaid forms)). option_and_then (λ first. option_map (λ others. (first, others)) p) o)
    (said_alike english form text) (all_alike english forms texts)

pub option_map-both : {A B C : Type 0} (f : A → B) (g : B → C) (o : Option A) → option_map (λ a. g (f a)) o ≡ option_map g (option_map f o)
option_map-both f g None = refl
option_map-both f g (Some a) = refl

-- what a row makes of texts
row_alike : (english : List (List ℕ)) (row : CommandRow) (texts : List (List ℕ))
    → option_map (whole_row row).command (all_said english (words_by row.forms) texts) ≡ option_map whole_command (option_map row.command (core.all_said row.forms texts))
row_alike english row texts =
    option_map-both (all_back row.forms) (λ w. whole_command (row.command w)) (all_said english (words_by row.forms) texts)
    ∙ ap (option_map (λ w. whole_command (row.command w))) (all_alike english row.forms texts)
    ∙ option_map-both row.command whole_command (core.all_said row.forms texts)

-- what a table finds ----

one_of : (b : Bool) (row : CommandRow) (o : Option CommandRow) → cond b (Some (whole_row row)) (option_map whole_row o) ≡ option_map whole_row (cond b (Some row) o)
one_of true row o = refl
one_of false row o = refl

find-rows : (p : List ℕ → Bool) (rows : List CommandRow) → find (λ row. p row.name) (map whole_row rows) ≡ option_map whole_row (find (λ row. p row.name) rows)
find-rows p [] = refl
find-rows p (row ∷ rows) =
    ap (λ (o : Option (Row Command)). cond (p row.name) (Some (whole_row row)) o) (find-rows p rows) ∙ one_of (p row.name) row (find (λ row. p row.name) rows)

none_said : (english : List (List ℕ)) (o : Option CommandRow) → joined (option_map (λ (row : Row Command). option_map row.command (let no : Option (AllSaid row.words) = None in no)) (option_map whole_row o)) ≡ None
none_said english None = refl
none_said english (Some row) = refl

found_alike : (english : List (List ℕ)) (o : Option CommandRow) (texts : List (List ℕ))
    → joined (option_map (λ (row : Row Command). option_map row.command (all_said english row.words texts)) (option_map whole_row o))
    ≡ option_map whole_command (option_and_then (λ row. option_map row.command (core.all_said row.forms texts)) o)
found_alike english None texts = refl
found_alike english (Some row) texts = row_alike english row texts

texts_alike : (english : List (List ℕ)) (o : Option CommandRow) (texts : Option (List (List ℕ)))
    → joined (option_map (λ (row : Row Command). option_map row.command (option_and_then (all_said english row.words) texts)) (option_map whole_row o))
    ≡ option_map whole_command (option_and_then (λ all. option_and_then (λ row. option_map row.command (core.all_said row.forms all)) o) texts)
texts_alike english o None = none_said english o
texts_alike english o (Some texts) = found_alike english o texts

spelled_alike : (english : List (List ℕ)) (rows : List CommandRow) (words : List (List ℕ)) → spelled english (map whole_row rows) words ≡ option_map whole_command (lines.spelled_command rows words)
spelled_alike english rows [] = refl
spelled_alike english rows (name ∷ words) =
    ap (λ (o : Option (Row Command)). joined (option_map (λ row. option_map row.command (words_said english row.words words)) o)) (find-rows (λ text. bytes_eq text name) rows)
    ∙ texts_alike english (find (λ row. bytes_eq row.name name) rows) (word_texts words)

-- a row with another name than some can stand before them ----

same_name : (a b text : List ℕ) → bytes_eq a text ≡ true → bytes_eq b text ≡ true → bytes_eq a b ≡ true
same_name a b text p q = (bytes_eq-Decides a b).1 ((bytes_eq-Decides a text).0 p ∙ sym ((bytes_eq-Decides b text).0 q))

first_false : (a b : Bool) → (a || b) ≡ false → a ≡ true → ⊥
first_false true b e = λ p. true≢false e
first_false false b e = λ p. true≢false (sym p)

find-moved : (text : List ℕ) (front : List CommandRow) (row : CommandRow) (rest : List CommandRow) → list_any (λ other. bytes_eq other.name row.name) front ≡ false
    → find (λ row. bytes_eq row.name text) (front ++ row ∷ rest) ≡ find (λ row. bytes_eq row.name text) (row ∷ front ++ rest)
find-moved text [] row rest e = refl
find-moved text (other ∷ front) row rest e =
    ap (λ (o : Option CommandRow). cond (bytes_eq other.name text) (Some other) o)
    (find-moved text front row rest (rest_false (bytes_eq other.name row.name) (list_any (λ other. bytes_eq other.name row.name) front) e))
    ∙ either_order (bytes_eq other.name text) (bytes_eq row.name text) (Some other) (Some row) (find (λ row. bytes_eq row.name text) (front ++ rest))
    (λ p q. first_false (bytes_eq other.name row.name) (list_any (λ other. bytes_eq other.name row.name) front) e (same_name other.name row.name text p q))

find-after : (text : List ℕ) (front one other : List CommandRow) → find (λ row. bytes_eq row.name text) one ≡ find (λ row. bytes_eq row.name text) other
    → find (λ row. bytes_eq row.name text) (front ++ one) ≡ find (λ row. bytes_eq row.name text) (front ++ other)
find-after text [] one other e = e
find-after text (row ∷ front) one other e = ap (λ (o : Option CommandRow). cond (bytes_eq row.name text) (Some row) o) (find-after text front one other e)

-- both tables ----

-- the names of the identity machine's commands
abbrev core_names : List (List ℕ)
core_names = map (λ (row : CommandRow). row.name) core.commands

-- the rows with some names
abbrev rows_named : List (List ℕ) → List (Row Command) → List (Row Command)
rows_named names rows = filter (λ row. list_any (bytes_eq row.name) names) rows

-- its first rows, those on definitions, the one that asks for a new id, and the rest
abbrev front : List CommandRow
front = take 7 core.commands

abbrev middle : List CommandRow
middle = take 4 (drop 7 core.commands)

abbrev last : List CommandRow
last = drop 12 core.commands

abbrev asks : CommandRow
asks = record { name = codes "get_new_sheet_id"; forms = []; command = λ w. core.GetNewSheetId }

in_parts : core.commands ≡ front ++ (middle ++ asks ∷ last)
unfolding core.commands
in_parts = refl

core-whole : rows_named core_names commands ≡ map whole_row (front ++ (asks ∷ middle ++ last))
unfolding core.commands commands
core-whole = refl

others_named : list_any (λ other. bytes_eq other.name asks.name) middle ≡ false
unfolding core.commands
others_named = refl

spelled_by : (one other : List CommandRow) (words : List (List ℕ)) → ((text : List ℕ) → find (λ row. bytes_eq row.name text) one ≡ find (λ row. bytes_eq row.name text) other)
    → lines.spelled_command one words ≡ lines.spelled_command other words
spelled_by one other [] same = refl
spelled_by one other (name ∷ words) same =
    ap (λ (o : Option CommandRow). option_and_then (λ texts. option_and_then (λ row. option_map row.command (core.all_said row.forms texts)) o) (word_texts words)) (same name)

core_words : (english : List (List ℕ)) (words : List (List ℕ)) → spelled english (rows_named core_names commands) words ≡ option_map whole_command (lines.spelled_command core.commands words)
core_words english words =
    ap (λ (rows : List (Row Command)). spelled english rows words) core-whole
    ∙ spelled_alike english (front ++ (asks ∷ middle ++ last)) words
    ∙ ap (option_map whole_command)
    (spelled_by (front ++ (asks ∷ middle ++ last)) (front ++ (middle ++ asks ∷ last)) words
    (λ text. find-after text front (asks ∷ middle ++ last) (middle ++ asks ∷ last) (sym (find-moved text middle asks last others_named))))
    ∙ ap (λ (rows : List CommandRow). option_map whole_command (lines.spelled_command rows words)) (sym in_parts)

-- what is found among rows with some names ----

passed : (q : Bool) (row : Row Command) (rows : List (Row Command)) (name : List ℕ) → bytes_eq row.name name ≡ false
    → find (λ row. bytes_eq row.name name) (cond q (row ∷ rows) rows) ≡ find (λ row. bytes_eq row.name name) rows
passed true row rows name e = rw e refl
passed false row rows name e = refl

module _ (names : List (List ℕ)) (name : List ℕ) where
  abbrev found_in : List (Row Command) → Option (Row Command)
  found_in rows = find (λ row. bytes_eq row.name name) rows

  found_first : (b : Bool) (row : Row Command) (rest kept : List (Row Command)) → bytes_eq row.name name ≡ true → found_in kept ≡ cond b (found_in rest) None
      → found_in (cond b (row ∷ kept) kept) ≡ cond b (found_in (row ∷ rest)) None
  found_first true row rest kept e later = rw e refl
  found_first false row rest kept e later = later

  found_named : (rows : List (Row Command)) → found_in (rows_named names rows) ≡ cond (list_any (bytes_eq name) names) (found_in rows) None
  found_named [] = elim (list_any (bytes_eq name) names) as (λ b. None ≡ cond b (let no : Option (Row Command) = None in no) None) [ true ↦ refl | false ↦ refl ]
  found_named (row ∷ rows) =
      elim (cases_Bool (bytes_eq row.name name)) [
        | inl e ↦
            let same : row.name ≡ name = (bytes_eq-Decides row.name name).0 e in
            subst (λ n. found_in (cond (list_any (bytes_eq n) names) (row ∷ rows_named names rows) (rows_named names rows)) ≡ cond (list_any (bytes_eq name) names) (found_in (row ∷ rows)) None) (sym same)
            (found_first (list_any (bytes_eq name) names) row rows (rows_named names rows) e (found_named rows))
        | inr e ↦ rw e (passed (list_any (bytes_eq row.name) names) row (rows_named names rows) name e ∙ found_named rows)
      ]

-- A row with another name than those of the identity machine makes none of its commands. ----

abbrev IsOther : Row Command → Type 0
IsOther row = cond (list_any (bytes_eq row.name) core_names) (Unit {0}) ((w : AllSaid row.words) → counterpart (row.command w) ≡ None)

all_other : AllByRecursion IsOther commands
unfolding core.commands commands
all_other = search rules

module _ (english : List (List ℕ)) (name : List ℕ) (words : List (List ℕ)) where
  abbrev made_by : Option (Row Command) → Option Command
  made_by o = joined (option_map (λ (row : Row Command). option_map row.command (words_said english row.words words)) o)

  none_made : {W : Type 0} (make : W → Command) (o : Option W) → ((w : W) → counterpart (make w) ≡ None) → is_core (option_map make o) ≡ true → option_map make o ≡ None
  none_made make None other h = refl
  none_made make (Some w) other h = absurd (true≢false (sym h ∙ ap is_some (other w)))

  other_made : (rows : List (Row Command)) → AllByRecursion IsOther rows → list_any (bytes_eq name) core_names ≡ false → is_core (made_by (find (λ row. bytes_eq row.name name) rows)) ≡ true
      → made_by (find (λ row. bytes_eq row.name name) rows) ≡ None
  other_made [] all apart h = refl
  other_made (row ∷ rows) all apart h =
      elim (cases_Bool (bytes_eq row.name name)) [
        | inl e ↦
            let same : row.name ≡ name = (bytes_eq-Decides row.name name).0 e in
            let here : list_any (bytes_eq row.name) core_names ≡ false = ap (λ n. list_any (bytes_eq n) core_names) same ∙ apart in
            let other = subst (λ b. cond b (Unit {0}) ((w : AllSaid row.words) → counterpart (row.command w) ≡ None)) here all.0 in
            rw e (none_made row.command (words_said english row.words words) other (rw e at h))
        | inr e ↦ rw e (other_made rows all.1 apart (rw e at h))
      ]

-- The command that a line is. ----

abbrev core_rows : List (Row Command)
core_rows = rows_named core_names commands

found_core : (name : List ℕ) → list_any (bytes_eq name) core_names ≡ true → find (λ row. bytes_eq row.name name) commands ≡ find (λ row. bytes_eq row.name name) core_rows
found_core name e = sym (found_named core_names name commands ∙ ap (λ b. cond b (find (λ row. bytes_eq row.name name) commands) None) e)

none_core : (name : List ℕ) → list_any (bytes_eq name) core_names ≡ false → find (λ row. bytes_eq row.name name) core_rows ≡ None
none_core name e = found_named core_names name commands ∙ ap (λ b. cond b (find (λ row. bytes_eq row.name name) commands) None) e

module _ (english : List (List ℕ)) where
  -- a core line
  same_command : (words : List (List ℕ)) → is_core (spelled english commands words) ≡ true → spelled english commands words ≡ spelled english core_rows words
  same_command [] h = refl
  same_command (name ∷ words) h =
      elim (cases_Bool (list_any (bytes_eq name) core_names)) [
        | inl e ↦ ap (made_by english name words) (found_core name e)
        | inr e ↦ other_made english name words commands all_other e h ∙ sym (ap (made_by english name words) (none_core name e))
      ]

  -- a command of the identity machine
  core_command : (words : List (List ℕ)) (command : Command) → spelled english core_rows words ≡ Some command → spelled english commands words ≡ Some command
  core_command [] command h = cc
  core_command (name ∷ words) command h =
      elim (cases_Bool (list_any (bytes_eq name) core_names)) [
        | inl e ↦ ap (made_by english name words) (found_core name e) ∙ h
        | inr e ↦ let no : None ≡ Some command = sym (ap (made_by english name words) (none_core name e)) ∙ h in absurd (cc)
      ]

pub core_lines_are : CoreLinesAreCore
core_lines_are english line is = same_command english (lines.words_of line) is ∙ core_words english (lines.words_of line)

pub core_is_read : CoreIsRead
core_is_read english line command is =
    core_command english (lines.words_of line) (whole_command command) (core_words english (lines.words_of line) ∙ ap (option_map whole_command) is)

pub back : (command : core.Command) → counterpart (whole_command command) ≡ Some command
back (core.AddSheet name) = refl
back (core.RenameSheet old new) = refl
back (core.RenameSheetByIndex sheet name) = refl
back (core.MoveSheet sheet to) = refl
back (core.DeleteSheet sheet) = refl
back (core.DeleteSheetByName name) = refl
back (core.DeleteSheetBySheetId id) = refl
back (core.NewDefinedName name scope body) = refl
back (core.DeleteDefinedName name scope) = refl
back (core.IsValidDefinedName name scope body) = refl
back core.GetDefinedNameList = refl
back core.GetNewSheetId = refl
back (core.SetLocale id) = refl
back (core.SetLanguage id) = refl
back (core.UpdateCellWithFormula sheet row column text) = refl
back (core.GetCellFormula sheet row column) = refl
