-- Which look-ups of formulas are there after a change of the sheets or the definitions.
use Rattle.std.specs.Prelude.{◌≡◌, ◌⊎◌, ◌+◌, ◌++◌, ◌&&◌, ℕ, Bool, true, List, [], ◌∷◌, IfSome, Option, Some, insert, not, remove}
use Rattle.std.specs.List.{list_any, slice_get}
use Rattle.ic_laws.specs.Changes.{Change, definition_added, definition_gone, sheet_gone, sheet_named}
use Rattle.ic_laws.specs.CoreBook.{greatest_id, scene_of, spelling_of}
use Rattle.ic_laws.specs.CoreStep.{index_of_definition, scope_or_none, updated_at, without_definition}
use Rattle.ic_laws.specs.declared.tree.NameKey.{NameKey}
use Rattle.ic_keep.specs.Touched.{is_touched}
use Rattle.ic_machine.specs.subjects.Definitions.{Update, new_key, old_key}
use Rattle.ic_pool.specs.Mentions.{is_changed_by}
use Rattle.ic_sheets.specs.Sheet.{Sheet}
use Rattle.ic_parts.specs.Book.{ModelState, core_of, whole_of}

-- The look-up of each sheet has all of its formulas after a change where it had all before, and no mention of them changes.
abbrev pub looks_up_over : Change → List Sheet → List Bool → List Bool
looks_up_over change [] had = []
looks_up_over change (sheet ∷ sheets) [] = []
looks_up_over change (sheet ∷ sheets) (had ∷ more) =
    (had && not (list_any (is_changed_by change (Some sheet.id)) sheet.pool)) ∷ looks_up_over change sheets more

-- the same of a model
abbrev pub looks_up_in : Change → ModelState → List Bool
looks_up_in change m = looks_up_over change m.book.sheets m.has_all

-- A sheet of this name came: its look-up has all, for it keeps no formulas; the others are there as before where they stay.
abbrev pub LooksUpAdded : List ℕ → ModelState → ModelState → Type 0
LooksUpAdded name old new = new.has_all ≡ looks_up_in (sheet_named (scene_of (core_of old.book)) (greatest_id (core_of old.book) + 1) name) old ++ true ∷ []

-- One of this name was put in at an index, from 0, with this id.
abbrev pub LooksUpInserted : ℕ → ℕ → List ℕ → ModelState → ModelState → Type 0
LooksUpInserted index id name old new = new.has_all ≡ insert (looks_up_in (sheet_named (scene_of (core_of old.book)) id name) old) index true

-- the sheet at an index got this name
abbrev pub LooksUpNamed : ℕ → List ℕ → ModelState → ModelState → Type 0
LooksUpNamed index name old new = IfSome (slice_get old.book.sheets index) (λ sheet. new.has_all ≡ looks_up_in (sheet_named (scene_of (core_of old.book)) sheet.id name) old)

-- the sheet at an index went
abbrev pub LooksUpWithout : ℕ → ModelState → ModelState → Type 0
LooksUpWithout index old new = IfSome (slice_get old.book.sheets index) (λ sheet. new.has_all ≡ remove (looks_up_in (sheet_gone (scene_of (core_of old.book)) sheet.id sheet.name) old) index)

-- A definition of this name came, local to the sheet at this index, from 0, or to none.
abbrev pub LooksUpDefined : List ℕ → Option ℕ → ModelState → ModelState → Type 0
LooksUpDefined name scope old new = new.has_all ≡ looks_up_in (definition_added (record { name = name; scope = scope_or_none (core_of old.book) scope })) old

-- the definition of an agreeing name that is local to it went
abbrev pub LooksUpUndefined : List ℕ → Option ℕ → ModelState → ModelState → Type 0
LooksUpUndefined name scope old new =
    IfSome (index_of_definition (core_of old.book) name (scope_or_none (core_of old.book) scope)) (λ index. IfSome (slice_get old.book.definitions index)
    (λ d. new.has_all ≡ looks_up_in (definition_gone (scene_of (without_definition (Some index) (core_of old.book))) (spelling_of d)) old))

-- The look-up of each sheet has all of its formulas after an update where it had all before, and the update touches none.
abbrev pub looks_up_untouched : NameKey → NameKey → List Sheet → List Bool → List Bool
looks_up_untouched before after [] had = []
looks_up_untouched before after (sheet ∷ sheets) [] = []
looks_up_untouched before after (sheet ∷ sheets) (had ∷ more) =
    (had && not (list_any (is_touched before after) sheet.pool)) ∷ looks_up_untouched before after sheets more

-- a definition was updated: those of sheets whose formulas have no word that means it, or has its new name, are there as
-- before
abbrev pub LooksUpUpdated : Update → ModelState → ModelState → Type 0
LooksUpUpdated update old new = new.has_all ≡ looks_up_untouched (old_key (whole_of old.book) update) (new_key (whole_of old.book) update) old.book.sheets old.has_all

-- The look-ups are there as before, but that of the sheet at an index, from 0, may be there now.
abbrev pub LooksUpAsBefore : ℕ → ModelState → ModelState → Type 0
LooksUpAsBefore index old new = (new.has_all ≡ old.has_all) ⊎ (new.has_all ≡ updated_at (λ _. true) index old.has_all)
