-- An accepted rename and an accepted new sheet, whole; and a rename that is taken back.
use Rattle.std.proofs.Common.{◌≡◌, ℕ, zero, suc, ◌+◌, List, [], ◌∷◌, length, map, nat_lt, true, false, not, Option, None, Some, Ok, refl, sym, ap, subst, ◌∙◌}
use Rattle.std.specs.Prelude.{is_none, remove, slice_get}
use Rattle.std.specs.List.{AllByRecursion, list_any}
use Rattle.std.proofs.lemmas.Bool.{not_from_true}
use Rattle.ic_laws.proofs.CoreLemmas.{agrees_equiv}
use Rattle.ic_laws.proofs.keeping.Accepted.{accepted, none_holds, none_refuses, sheet_at}
use Rattle.ic_laws.proofs.keeping.Books.{each_both, each_weaker, kept_as, trees_same, trees_settled}
use Rattle.ic_laws.proofs.keeping.Founds.{greatest_stays, naming_keeps, renamed_keeps}
use Rattle.ic_laws.proofs.keeping.Kept.{kept_back, kept_becomes, spared_is_same}
use Rattle.ic_laws.proofs.keeping.Namings.{add_naming, kept_naming, rename_naming}
use Rattle.ic_laws.proofs.kept.Kept.{english_by_fold}
use Rattle.ic_laws.proofs.keeping.Removing.{key_of_no_other}
use Rattle.ic_laws.proofs.keeping.SheetChanges.{Naming, named_becomes}
use Rattle.ic_laws.proofs.keeping.Sheets.{renamed, sheets_differ}
use Rattle.ic_laws.proofs.keeping.Spared.{spared_naming}
use Rattle.ic_laws.specs.Binding.{IsSettled}
use Rattle.ic_laws.specs.BookTrees.{BookKeepsFound, EachTree, OfCells, with_sheet_at_end, with_trees}
use Rattle.ic_laws.specs.Changes.{NoneDanglesBy, changed_local, changed_sheet, changed_tree, changed_word, sheet_named}
use Rattle.ic_laws.specs.Command.{Field}
use Rattle.ic_laws.specs.CoreBook.{CoreBook, Sheet, fresh_id, greatest_id, has_sheet, scene_of}
use Rattle.ic_laws.specs.CoreStep.{add_sheet_refusal, add_sheet_step, changed_by, has_other_sheet, lacks_sheet, rename_refusal, rename_step, unless_refused, updated_at, with_new_sheet, with_sheet_name}
use Rattle.ic_laws.specs.Keeping.{kept, same_keys, with_kept}
use Rattle.ic_laws.specs.Name.{agrees, is_sheet_name}
use Rattle.ic_laws.specs.Notations.{AreNotations, Notations, english_function}
use Rattle.ic_laws.specs.Refusal.{IdsUsedUp, InvalidSheet, InvalidSheetName, SheetExists}
use Rattle.ic_laws.specs.Tree.{Bound}
use Rattle.ic_laws.specs.ValidCore.{IsValidCore, IsValidSheet}
use Rattle.ic_laws.specs.declared.scene.Scene.{Scene}

-- where a rename is accepted, no other sheet has an agreeing name, and a sheet stands at the index
rename_clear : (book : CoreBook) (index : ℕ) (name : List ℕ) → rename_refusal book index name ≡ None → (has_other_sheet book index name ≡ false) × (lacks_sheet book index ≡ false)
rename_clear book index name e =
    let clear = none_holds ((not (is_sheet_name name), InvalidSheetName) ∷ (has_other_sheet book index name, SheetExists) ∷ (lacks_sheet book index, InvalidSheet) ∷ []) e in (clear.1.0, clear.1.1.0)

-- an accepted rename leaves the book with the new name and each dangling mention of an agreeing name bound to that sheet
pub rename_binds : (n : Notations) (book after : CoreBook) (index : ℕ) (name : List ℕ) (sheet : Sheet) (fields : List Field) → AreNotations n → IsValidCore n book → slice_get book.sheets index ≡ Some sheet
    → rename_step n book index name ≡ Ok (after, fields) → after ≡ with_sheet_name index name (with_trees (changed_tree (sheet_named (scene_of book) sheet.id name)) book)
rename_binds n book after index name sheet fields are valid at e =
    let ok = accepted (rename_refusal book index name) (changed_by n (with_sheet_name index name) book) after [] fields e in
    ok.left
    ∙ ap (with_sheet_name index name)
    (kept_naming n book (scene_of (with_sheet_name index name book)) sheet.id name are valid (rename_naming book index name sheet valid.names_differ at (rename_clear book index name ok.unrefused).0))

-- so each mention that was found stands as it did
pub rename_keeps : (n : Notations) (book after : CoreBook) (index : ℕ) (name : List ℕ) (fields : List Field) → AreNotations n → IsValidCore n book → rename_step n book index name ≡ Ok (after, fields) → BookKeepsFound book after
rename_keeps n book after index name fields are valid e =
    let ok = accepted (rename_refusal book index name) (changed_by n (with_sheet_name index name) book) after [] fields e in
    let there = sheet_at book index (rename_clear book index name ok.unrefused).1 in
    subst (BookKeepsFound book) (sym (rename_binds n book after index name there.0 fields are valid there.1 e))
    (renamed_keeps (changed_tree (sheet_named (scene_of book) there.0.id name)) (naming_keeps (scene_of book) there.0.id name) book index name)

-- an accepted new sheet stands at the end, and each dangling mention of an agreeing name is bound to it
pub add_binds : (n : Notations) (book after : CoreBook) (name : List ℕ) (fields : List Field) → AreNotations n → IsValidCore n book → add_sheet_step n book name ≡ Ok (after, fields)
    → after ≡ with_sheet_at_end (greatest_id book + 1) name (with_trees (changed_tree (sheet_named (scene_of book) (greatest_id book + 1) name)) book)
add_binds n book after name fields are valid e =
    let ok = accepted (add_sheet_refusal book name) (changed_by n (with_new_sheet name) book) after [] fields e in
    let new : has_sheet book name ≡ false = (none_holds ((not (is_sheet_name name), InvalidSheetName) ∷ (has_sheet book name, SheetExists) ∷ (is_none (fresh_id book), IdsUsedUp) ∷ []) ok.unrefused).1.0 in
    let f = changed_tree (sheet_named (scene_of book) (greatest_id book + 1) name) in
    ok.left
    ∙ (ap (with_new_sheet name) (kept_naming n book (scene_of (with_new_sheet name book)) (greatest_id book + 1) name are valid (add_naming book name valid.names_differ new))
    ∙ ap (λ id. with_sheet_at_end id name (with_trees f book)) (ap (λ k. k + 1) (greatest_stays f book)))

-- a rename that is taken back ----

-- a book whose trees are each kept as they are is kept as it is
kept_still : (n : Notations) (before after : Scene) (book : CoreBook) → EachTree (λ scope t. kept (english_function n) before after same_keys scope t ≡ t) book → with_kept n before after same_keys book ≡ book
kept_still n before after book h =
    kept_as n before after same_keys (λ scope t. t) book h
    ∙ trees_same (λ scope t. t) book (each_weaker (λ scope t. kept (english_function n) before after same_keys scope t ≡ t) (λ scope t. t ≡ t) (λ scope t e. refl) book h)

cells_renamed : (P : Option ℕ → Bound → Type 0) (name : List ℕ) (ss : List Sheet) (index : ℕ) → AllByRecursion (OfCells P) ss → AllByRecursion (OfCells P) (updated_at (renamed name) index ss)
cells_renamed P name [] index h = tt
cells_renamed P name (s ∷ ss) zero h = h
cells_renamed P name (s ∷ ss) (suc index) h = (h.0, cells_renamed P name ss index h.1)

renamed_back : (ss : List Sheet) (index : ℕ) (name : List ℕ) (sheet : Sheet) → slice_get ss index ≡ Some sheet → updated_at (renamed sheet.name) index (updated_at (renamed name) index ss) ≡ ss
renamed_back [] index name sheet at = refl
renamed_back (s ∷ ss) zero name sheet at = let same : s ≡ sheet = cc in ap (λ (x : Sheet). renamed x.name s ∷ ss) (sym same)
renamed_back (s ∷ ss) (suc index) name sheet at = ap (λ rest. s ∷ rest) (renamed_back ss index name sheet at)

-- what is asked of each sheet holds of the one at an index
sheet_has : (P : Sheet → Type 0) (ss : List Sheet) (index : ℕ) (sheet : Sheet) → AllByRecursion P ss → slice_get ss index ≡ Some sheet → P sheet
sheet_has P [] index sheet h at = absurd (let no : None ≡ Some sheet = at in cc)
sheet_has P (s ∷ ss) zero sheet h at = let same : s ≡ sheet = cc in subst P same h.0
sheet_has P (s ∷ ss) (suc index) sheet h at = sheet_has P ss index sheet h.1 at

-- the other sheets keep their names, and there are as many
others_named : (name : List ℕ) (ss : List Sheet) (index : ℕ) → remove (map (λ (x : Sheet). x.name) (updated_at (renamed name) index ss)) index ≡ remove (map (λ (x : Sheet). x.name) ss) index
others_named name [] index = refl
others_named name (s ∷ ss) zero = refl
others_named name (s ∷ ss) (suc index) = ap (λ rest. s.name ∷ rest) (others_named name ss index)

as_many : (name : List ℕ) (ss : List Sheet) (index : ℕ) → length (updated_at (renamed name) index ss) ≡ length ss
as_many name [] index = refl
as_many name (s ∷ ss) zero = refl
as_many name (s ∷ ss) (suc index) = ap suc (as_many name ss index)

-- the old name is free again
back_clear : (n : Notations) (book : CoreBook) (index : ℕ) (name : List ℕ) (sheet : Sheet) → IsValidCore n book → slice_get book.sheets index ≡ Some sheet → lacks_sheet book index ≡ false → rename_refusal (with_sheet_name index name book) index sheet.name ≡ None
back_clear n book index name sheet valid at lacks =
    let is_name : is_sheet_name sheet.name ≡ true = (sheet_has (IsValidSheet n (scene_of book)) book.sheets index sheet valid.sheets at).name in
    let free : has_other_sheet (with_sheet_name index name book) index sheet.name ≡ false =
    ap (list_any (agrees sheet.name)) (others_named name book.sheets index) ∙ key_of_no_other (λ (x : Sheet). x.name) agrees agrees_equiv.symm book.sheets index sheet valid.names_differ at in
    none_refuses ((not (is_sheet_name sheet.name), InvalidSheetName) ∷ (has_other_sheet (with_sheet_name index name book) index sheet.name, SheetExists) ∷ (lacks_sheet (with_sheet_name index name book) index, InvalidSheet) ∷ [])
    (not_from_true _ is_name, (free, (ap (λ k. not (nat_lt index k)) (as_many name book.sheets index) ∙ lacks, tt)))

pub rename_back : (n : Notations) (book between : CoreBook) (index : ℕ) (name : List ℕ) (sheet : Sheet) (fields : List Field) → AreNotations n → IsValidCore n book → slice_get book.sheets index ≡ Some sheet
    → EachTree (λ scope t. NoneDanglesBy name t) book → rename_step n book index name ≡ Ok (between, fields) → rename_step n between index sheet.name ≡ Ok (book, [])
rename_back n book between index name sheet fields are valid at none e =
    let ok = accepted (rename_refusal book index name) (changed_by n (with_sheet_name index name) book) between [] fields e in
    let clear = rename_clear book index name ok.unrefused in
    let same : between ≡ other_name = ok.left ∙ ap (with_sheet_name index name) (kept_still n before under book (there clear.0)) in
    let left : changed_by n (with_sheet_name index sheet.name) other_name ≡ book =
    ap (λ (b : CoreBook). with_sheet_name index sheet.name (with_kept n under (scene_of b) same_keys other_name)) again
    ∙ (ap (with_sheet_name index sheet.name) (kept_still n under before other_name (and_back clear.0))
    ∙ again) in
    ap (λ b. rename_step n b index sheet.name) same
    ∙ (ap (λ r. unless_refused r (changed_by n (with_sheet_name index sheet.name) other_name) []) (back_clear n book index name sheet valid at clear.1)
    ∙ ap (λ b. unless_refused None b []) left)
  where
    before : Scene
    before = scene_of book

    other_name : CoreBook
    other_name = with_sheet_name index name book

    under : Scene
    under = scene_of other_name

    again : with_sheet_name index sheet.name other_name ≡ book
    again = ap (λ ss. let b : CoreBook = record book { sheets = ss } in b) (renamed_back book.sheets index name sheet at)

    naming : has_other_sheet book index name ≡ false → Naming before under sheet.id name
    naming clear = rename_naming book index name sheet valid.names_differ at clear

    there : has_other_sheet book index name ≡ false → EachTree (λ scope t. kept (english_function n) before under same_keys scope t ≡ t) book
    there clear =
        each_both (IsSettled (english_function n) before) (λ scope t. NoneDanglesBy name t) (λ scope t. kept (english_function n) before under same_keys scope t ≡ t)
        (λ scope t settled spared.
        kept_becomes (english_function n) before under scope (changed_sheet (sheet_named before sheet.id name)) (changed_word (sheet_named before sheet.id name) scope) (changed_local (sheet_named before sheet.id name)) (named_becomes before under sheet.id name (naming clear) scope) (english_by_fold n are) t settled
        ∙ spared_is_same (sheet_named before sheet.id name) scope t (spared_naming before sheet.id name scope t spared))
        book (trees_settled n book valid) none

    and_back : has_other_sheet book index name ≡ false → EachTree (λ scope t. kept (english_function n) under before same_keys scope t ≡ t) other_name
    and_back clear =
        let each = each_both (IsSettled (english_function n) before) (λ scope t. kept (english_function n) before under same_keys scope t ≡ t) (λ scope t. kept (english_function n) under before same_keys scope t ≡ t)
        (λ scope t settled same. kept_back (english_function n) before under scope (sheets_differ book valid.names_differ) (naming clear).differ (english_by_fold n are) t settled same)
        book (trees_settled n book valid) (there clear) in
        record { cells = cells_renamed (λ scope t. kept (english_function n) under before same_keys scope t ≡ t) name book.sheets index each.cells; bodies = each.bodies }
