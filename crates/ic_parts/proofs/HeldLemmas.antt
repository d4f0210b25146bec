-- The sheets of a book as the core sees them, and what refuses a change of them.
use Rattle.std.proofs.Common.{◌≡◌, ◌≢◌, ◌==◌, ℕ, zero, suc, ◌+◌, ◌<◌, ◌≤◌, ◌^◌, IfSome, SomeIff, Result, Ok, Err, IsErr, IsErrAnd, rules, arith, List, [], ◌∷◌, ◌++◌, Bool, true, false, not, Option, Some, None, option_map, map, length, get_or, is_some, refl, sym, ap, subst, ◌∙◌, nat_lt, if◌then◌else◌, le-ltb as no_less, lt-ltb as is_less}
use Rattle.std.specs.Prelude.{max, position, nat_eq}
use Rattle.std.specs.List.{slice_get}
use Rattle.std.proofs.lemmas.Option.{slice_get_read}
use Rattle.ic_laws.specs.CoreBook.{CoreBook, Sheet as CoreSheet, fresh_id, has_sheet, scene_of, spelling_of}
use Rattle.ic_laws.specs.CoreStep.{add_sheet_refusal, delete_refusal, has_other_sheet, lacks_sheet, move_refusal, rename_refusal, updated_at}
use Rattle.ic_laws.specs.Greatest.{greatest}
use Rattle.ic_laws.specs.Name.{agrees, is_sheet_name}
use Rattle.ic_laws.specs.Refusal.{IdsUsedUp, InvalidLanguage, InvalidLocale, InvalidSheet, Refusal, SheetExists, first_refusal}
use Rattle.ic_laws.specs.declared.scene.Scene.{Scene}
use Rattle.ic_laws.specs.declared.scene.SheetName.{SheetName}
use Rattle.ic_laws.proofs.core.KeptBook.{mentioned}
use Rattle.ic_tables.specs.Tables.{TableSet, language_of, locale_of}
use Rattle.ic_tables.specs.declared.language.Language.{Language}
use Rattle.ic_tables.specs.declared.locale.NamedLocale.{NamedLocale}
use Rattle.ic_tables.proofs.WellFormed.{language_found}
use Rattle.ic_tree.proofs.NotationLaws.{knows_language_is, knows_locale_is}
use Rattle.ic_tree.specs.Notations.{notations_of}
use Rattle.ic_sheets.proofs.RewritingLemmas.{read_there}
use Rattle.ic_sheets.specs.Sheet.{Sheet, sheet_core, sheet_of}
use Rattle.ic_laws.proofs.core.Lists.{updated_seen}
use Rattle.ic_sheets.specs.declared.sheet.Sheet.{Sheet as HeldSheet}
use Rattle.ic_parts.specs.Book.{Book, core_of}
use Rattle.ic_parts.proofs.ModelLemmas.{position-map, scene_is}
use Rattle.ic_parts.specs.Refused.{Refuses, TellsCore}
use Rattle.ic_parts.specs.Scene.{scene_of_parts}
use Rattle.ic_parts.specs.declared.error.BookError.{BookError}
use Rattle.ic_parts.specs.declared.error.BookError.TheVariants as errors

-- ---- the sheets as the core sees them

pub seen_names : (ws : List HeldSheet) → map (λ s. s.name) ws ≡ map (λ (s : CoreSheet). s.name) (map sheet_core (map sheet_of ws))
seen_names [] = refl
seen_names (s ∷ ws) = ap (λ (rest : List (List ℕ)). s.name ∷ rest) (seen_names ws)

pub seen_ids : (ws : List HeldSheet) → map (λ s. s.id) ws ≡ map (λ (s : CoreSheet). s.id) (map sheet_core (map sheet_of ws))
seen_ids [] = refl
seen_ids (s ∷ ws) = ap (λ (rest : List ℕ). s.id ∷ rest) (seen_ids ws)

pub seen_length : (ws : List HeldSheet) → length ws ≡ length (map sheet_core (map sheet_of ws))
seen_length [] = refl
seen_length (s ∷ ws) = ap suc (seen_length ws)

pub found_by_name : (ws : List HeldSheet) (name : List ℕ) → position (λ s. agrees s.name name) ws ≡ position (λ (s : CoreSheet). agrees s.name name) (map sheet_core (map sheet_of ws))
found_by_name ws name = sym (position-map sheet_core (λ (s : CoreSheet). agrees s.name name) (map sheet_of ws) ∙ position-map sheet_of (λ (s : Sheet). agrees s.name name) ws)

pub found_by_id : (ws : List HeldSheet) (id : ℕ) → position (λ s. nat_eq s.id id) ws ≡ position (λ (s : CoreSheet). nat_eq s.id id) (map sheet_core (map sheet_of ws))
found_by_id ws id = sym (position-map sheet_core (λ (s : CoreSheet). nat_eq s.id id) (map sheet_of ws) ∙ position-map sheet_of (λ (s : Sheet). nat_eq s.id id) ws)

-- ---- refusals

pub add_taken : (core : CoreBook) (name : List ℕ) → is_sheet_name name ≡ true → has_sheet core name ≡ true → add_sheet_refusal core name ≡ Some SheetExists
add_taken core name good taken = rw good (rw taken refl)

pub add_used_up : (core : CoreBook) (name : List ℕ) → is_sheet_name name ≡ true → has_sheet core name ≡ false → fresh_id core ≡ None → add_sheet_refusal core name ≡ Some IdsUsedUp
add_used_up core name good free none = rw good (rw free (rw none refl))

pub add_accepts : (core : CoreBook) (name : List ℕ) (id : ℕ) → is_sheet_name name ≡ true → has_sheet core name ≡ false → fresh_id core ≡ Some id → add_sheet_refusal core name ≡ None
add_accepts core name id good free fresh = rw good (rw free (rw fresh refl))

pub rename_taken : (core : CoreBook) (index : ℕ) (name : List ℕ) → is_sheet_name name ≡ true → has_other_sheet core index name ≡ true → rename_refusal core index name ≡ Some SheetExists
rename_taken core index name good taken = rw good (rw taken refl)

pub rename_lacks : (core : CoreBook) (index : ℕ) (name : List ℕ) → is_sheet_name name ≡ true → has_other_sheet core index name ≡ false → lacks_sheet core index ≡ true → rename_refusal core index name ≡ Some InvalidSheet
rename_lacks core index name good free lacks = rw good (rw free (rw lacks refl))

pub rename_accepts : (core : CoreBook) (index : ℕ) (name : List ℕ) → is_sheet_name name ≡ true → has_other_sheet core index name ≡ false → lacks_sheet core index ≡ false → rename_refusal core index name ≡ None
rename_accepts core index name good free there = rw good (rw free (rw there refl))

pub fresh_is : (b : Bool) (g id : ℕ) → (if b then Some (g + 1) else None) ≡ Some id → id ≡ g + 1
fresh_is true g id e = cc
fresh_is false g id e = cc

-- ---- indexes

pub within_core : (ws : List HeldSheet) (index : ℕ) → index < length ws → index < length (map sheet_core (map sheet_of ws))
within_core ws index lt = subst (λ k. index < k) (seen_length ws) lt

pub there_is : (ws : List HeldSheet) (index : ℕ) → index < length ws → not (nat_lt index (length (map sheet_core (map sheet_of ws)))) ≡ false
there_is ws index lt = ap not (is_less index _ (within_core ws index lt))

pub lacks_is : (ws : List HeldSheet) (index : ℕ) → length ws ≤ index → not (nat_lt index (length (map sheet_core (map sheet_of ws)))) ≡ true
lacks_is ws index le = ap not (no_less index _ (subst (λ k. k ≤ index) (seen_length ws) le))

pub within_of : (ws : List HeldSheet) (len index : ℕ) → len ≡ length ws → index < len → index < length ws
within_of ws len index e lt = subst (λ k. index < k) e lt

pub there_of : (ws slice : List HeldSheet) (index : ℕ) → slice ≡ ws → not (nat_lt index (length (map sheet_core (map sheet_of ws)))) ≡ false → true ≡ nat_lt index (length slice)
there_of ws slice index same there = sym (ap (λ xs. nat_lt index (length xs)) same ∙ ap (nat_lt index) (seen_length ws) ∙ not_false _ there)
  where
    not_false : (b : Bool) → not b ≡ false → b ≡ true
    not_false true e = refl
    not_false false e = cc

pub past_of : (ws : List HeldSheet) (len index : ℕ) → len ≡ length ws → len ≤ index → length ws ≤ index
past_of ws len index e le = subst (λ k. k ≤ index) e le

pub move_accepts : (core : CoreBook) (from to : ℕ) → lacks_sheet core from ≡ false → lacks_sheet core to ≡ false → move_refusal core from to ≡ None
move_accepts core from to one other = rw one (rw other refl)

pub delete_accepts : (core : CoreBook) (index : ℕ) → (length core.sheets == 1) ≡ false → lacks_sheet core index ≡ false → delete_refusal core index ≡ None
delete_accepts core index more there = rw more (rw there refl)

pub more_than_one : (ws : List HeldSheet) (len : ℕ) → len ≡ length ws → len ≢ 1 → (length (map sheet_core (map sheet_of ws)) == 1) ≡ false
more_than_one ws len e more = subst (λ k. (k == 1) ≡ false) (e ∙ seen_length ws) (search (rules, arith))

-- what holds at an index that was found
pub at_some : (P : ℕ → Type 0) (o : Option ℕ) (index : ℕ) → o ≡ Some index → P index → IfSome o P
at_some P o index e h = subst (λ o. IfSome o P) (sym e) h

-- one more than the greatest id, where there is one
abbrev pub next_of : ℕ → Option ℕ
next_of g = if nat_lt g 4294967295 then Some (g + 1) else None

pub next_is : (r : Option ℕ) (g : ℕ) → SomeIff r (g + 1 < 2 ^ 32) (g + 1) → r ≡ next_of g
next_is (Some id) g h = ap (λ (n : ℕ). let o : Option ℕ = Some n in o) h.1 ∙ ap (λ b. if b then Some (g + 1) else None) (sym (is_less g 4294967295 (let lt = h.0 in omega arith)))
next_is None g h = by_test (nat_lt g 4294967295) refl
  where
    none : Option ℕ
    none = None

    by_test : (b : Bool) → nat_lt g 4294967295 ≡ b → none ≡ (if b then Some (g + 1) else None)
    by_test true e = absurd (h (let lt : g < 4294967295 = search (rules, arith) in omega arith))
    by_test false e = refl

-- ---- small facts

pub greatest_both : (a b : List ℕ) → max (greatest a) (greatest b) ≡ greatest (a ++ b)
greatest_both [] b = omega arith
greatest_both (x ∷ a) b = let rest = greatest_both a b in omega (arith, rest)

pub option_map-twice : {A B C : Type 0} (f : A → B) (g : B → C) (o : Option A) → option_map g (option_map f o) ≡ option_map (λ x. g (f x)) o
option_map-twice f g None = refl
option_map-twice f g (Some x) = refl

-- where memory ran out nothing refused
pub none_told : {e : BookError} {refusal : Option Refusal} → refusal ≡ None → e ≡ errors.OutOfMemory → TellsCore e refusal
none_told {e} {refusal} none is = subst (λ x. TellsCore x refusal) (sym is) none

-- an error that is want of memory refuses nothing
pub no_memory : (r : Result (Unit {0}) BookError) → IsErr r × IsErrAnd r (λ e. e ≡ errors.OutOfMemory) → Refuses r None
no_memory (Ok done) h = let no : false ≡ true = h.0 in cc
no_memory (Err e) h = none_told refl h.1

-- what formulas can mention among these sheets and definitions
pub scene_held : (ws : List HeldSheet) (book : Book) → map sheet_of ws ≡ book.sheets → scene_of_parts ws book.definitions ≡ scene_of (core_of book)
scene_held ws book same =
    ap (λ (ss : List SheetName). let scene : Scene = record { sheets = ss; names = map spelling_of book.definitions } in scene) (scene_is ws ∙ ap (λ sheets. map mentioned (map sheet_core sheets)) same)

-- the sheet at an index of a slice
pub at_index : (slice ws : List HeldSheet) (i : ℕ) (s : HeldSheet) → slice ≡ ws → true ≡ nat_lt i (length slice) → s ≡ get_or slice i s → slice_get ws i ≡ Some s
at_index slice ws i s same within read = subst (λ xs. slice_get xs i ≡ Some s) same (slice_get_read slice (length slice) i s refl (search (rules, arith)) read)

-- past the end there is none
past_end : (xs : List HeldSheet) (i : ℕ) → nat_lt i (length xs) ≡ false → slice_get xs i ≡ None
past_end [] i e = refl
past_end (x ∷ xs) zero e = let no : true ≡ false = sym (is_less zero (suc (length xs)) (omega arith)) ∙ e in cc
past_end (x ∷ xs) (suc i) e = past_end xs i (same_less i (length xs) ∙ e)
  where
    same_less : (m k : ℕ) → nat_lt m k ≡ nat_lt (suc m) (suc k)
    same_less m k = search (rules, arith)

pub none_at : (slice ws : List HeldSheet) (i : ℕ) → slice ≡ ws → nat_lt i (length slice) ≡ false → slice_get ws i ≡ None
none_at slice ws i same past = past_end ws i (subst (λ xs. nat_lt i (length xs) ≡ false) same past)

-- and the one that was read there is it
pub read_is : (slice ws : List HeldSheet) (i : ℕ) (s sheet : HeldSheet) → slice ≡ ws → i < length ws → s ≡ get_or slice i s → slice_get ws i ≡ Some sheet → s ≡ sheet
read_is slice ws i s sheet e lt read at = read_there ws i s sheet lt (read ∙ ap (λ (xs : List HeldSheet). get_or xs i s) e) at

pub whole_updated : (f : HeldSheet → HeldSheet) → ((s : HeldSheet) → (f s).pool.is_whole ≡ true) → (i : ℕ) (ws : List HeldSheet) → map (λ (s : HeldSheet). s.pool.is_whole) (updated_at f i ws) ≡ updated_at (λ b. true) i (map (λ (s : HeldSheet). s.pool.is_whole) ws)
whole_updated f whole i ws = updated_seen (λ (s : HeldSheet). s.pool.is_whole) f (λ b. true) whole i ws

-- and the sheet at the index has a whole look-up
pub whole_at : (f : HeldSheet → HeldSheet) → ((s : HeldSheet) → (f s).pool.is_whole ≡ true) → (i : ℕ) (ws : List HeldSheet) (s : HeldSheet) → slice_get ws i ≡ Some s → slice_get (map (λ (s : HeldSheet). s.pool.is_whole) (updated_at f i ws)) i ≡ Some true
whole_at f whole i [] s at = cc
whole_at f whole zero (w ∷ ws) s at = ap Some (whole w)
whole_at f whole (suc i) (w ∷ ws) s at = whole_at f whole i ws s at

-- ---- the notation

pub language_is : (tables : TableSet) (id : List ℕ) (l : Language) → language_of tables id ≡ Some l → (l.code ≡ id) × (language_of tables l.code ≡ Some l)
language_is tables id l found = language_found tables id l found

pub locale_accepted : (tables : TableSet) (id : List ℕ) (l : NamedLocale) → locale_of tables id ≡ Some l → first_refusal ((not ((notations_of tables).knows_locale id), InvalidLocale) ∷ []) ≡ None
locale_accepted tables id l found = rw (knows_locale_is tables id ∙ ap is_some found) refl

pub language_accepted : (tables : TableSet) (id : List ℕ) (l : Language) → language_of tables id ≡ Some l → first_refusal ((not ((notations_of tables).knows_language id), InvalidLanguage) ∷ []) ≡ None
language_accepted tables id l found = rw (knows_language_is tables id ∙ ap is_some found) refl

pub locale_unknown : (tables : TableSet) (id : List ℕ) → locale_of tables id ≡ None → first_refusal ((not ((notations_of tables).knows_locale id), InvalidLocale) ∷ []) ≡ Some InvalidLocale
locale_unknown tables id none = rw (knows_locale_is tables id ∙ ap is_some none) refl

pub language_unknown : (tables : TableSet) (id : List ℕ) → language_of tables id ≡ None → first_refusal ((not ((notations_of tables).knows_language id), InvalidLanguage) ∷ []) ≡ Some InvalidLanguage
language_unknown tables id none = rw (knows_language_is tables id ∙ ap is_some none) refl
