-- A model in which a sheet is copied: what is asked of its contents before, and what it holds afterwards.
use Rattle.std.proofs.Common.{◌≡◌, ℕ, ◌+◌, ◌<◌, ◌≤◌, List, ◌++◌, map, length, get_or, nat_lt, Bool, false, Option, Some, None, IfSome, IfOk, Result, String, string_bytes, chars, option_map, refl, sym, ap, ap₂, subst, ◌∙◌, rules, arith}
use Rattle.std.proofs.lemmas.List.{length-map}
use Rattle.std.proofs.lemmas.Option.{slice_get-map}
use Rattle.std.proofs.lemmas.Result.{IfOk-weaker}
use Rattle.std.specs.declared.alloc.Global.{Global}
use Rattle.std.specs.List.{insert, list_any, slice_get}
use Rattle.std.specs.Prelude.{is_none, nat_eq}
use Rattle.ic_laws.specs.Changes.{Change, sheet_named}
use Rattle.ic_laws.specs.CoreBook.{fresh_id}
use Rattle.ic_laws.specs.Name.{agrees}
use Rattle.ic_laws.specs.Notations.{english_function}
use Rattle.ic_definitions.specs.Named.{definitions_scene, scopes_of}
use Rattle.ic_machine.specs.subjects.Sheets.{copied_of, copy_id, copy_name, local_in, name_of_copy, scene_with_copy}
use Rattle.ic_sheets.proofs.RewritingLemmas.{sheet_there}
use Rattle.ic_sheets.specs.Rewriting.{look_ups}
use Rattle.ic_sheets.specs.Sheet.{Sheet, sheet_of}
use Rattle.ic_sheets.specs.declared.sheet.Sheet.{Sheet as HeldSheet}
use Rattle.ic_parts.specs.declared.contents.Contents.{Contents}
use Rattle.ic_book.specs.declared.model.Model.TheInside.{Inside}
use Rattle.ic_parts.specs.Book.{Book, IsValidBook, ModelState, core_of, notations_in, whole_of}
use Rattle.ic_parts.specs.Change.{book_changed_by}
use Rattle.ic_changes.specs.Copied.{HasCopy, LooksUpCopied, definitions_copied, sheet_copied, whole_source, with_copied_sheet}
use Rattle.ic_book.specs.Inside.{IsHeld, held, held_state, with_contents}
use Rattle.ic_changes.specs.LookUps.{looks_up_in}
use Rattle.ic_parts.specs.SheetNames.{free_among}
use Rattle.ic_book.proofs.CopiedHeld.{copied_is, held_at, held_free, held_fresh, held_id, held_unscoped}
use Rattle.ic_changes.proofs.CopiedSteps.{valid_then}
use Rattle.ic_parts.proofs.HeldLemmas.{none_at, read_is}
use Rattle.ic_changes.proofs.LookUpLemmas.{looks_up_is}
use Rattle.ic_book.proofs.NewSheetLemmas.{copy_name_of}

same_some : {X : Type 0} (x y : X) → (let o : Option X = Some x in o ≡ Some y) → x ≡ y
same_some x y e = cc

-- whether a sheet stands at an index
module _ (inside : Inside) (old : ModelState) (view : held_state inside ≡ old) (index len : ℕ) (counted : len ≡ length inside.contents.sheets) where
  pub source_there : index < len → (source : Sheet) × (slice_get old.book.sheets index ≡ Some source)
  source_there lt =
      let there = sheet_there inside.contents.sheets index (subst (λ k. index < k) counted lt) in
      (sheet_of there.0, subst (λ (m : ModelState). slice_get m.book.sheets index ≡ Some (sheet_of there.0)) view (slice_get-map sheet_of inside.contents.sheets index ∙ ap (option_map sheet_of) there.1))

  pub none_there : len ≤ index → slice_get old.book.sheets index ≡ None
  none_there le =
      let past : nat_lt index (length inside.contents.sheets) ≡ false = no_less index _ (subst (λ k. k ≤ index) counted le) in
      subst (λ (m : ModelState). slice_get m.book.sheets index ≡ None) view (slice_get-map sheet_of inside.contents.sheets index ∙ ap (option_map sheet_of) (none_at inside.contents.sheets inside.contents.sheets index refl past))
    where
      no_less : (m k : ℕ) → k ≤ m → nat_lt m k ≡ false
      no_less m k le = search (rules, arith)

-- the name of a copy
pub copy_named : (inside : Inside) (h : IsHeld inside) (index : ℕ) (slice : List HeldSheet) (s : HeldSheet) → slice ≡ inside.contents.sheets → s ≡ get_or slice index s → (text : List ℕ) → text ≡ s.name
    → {E : Type 0} (result : Result (String Global) E)
    → IfOk result (λ name. chars (string_bytes name) ≡ copy_name text (free_among (map (λ (x : HeldSheet). x.name) inside.contents.sheets) (copy_name text)))
    → index < length (held inside).sheets
    → IfOk result (λ name. (source : Sheet) → slice_get (held inside).sheets index ≡ Some source → chars (string_bytes name) ≡ name_of_copy (whole_of (held inside)) source.name)
copy_named inside h index slice s same read text is result made within =
    let there = sheet_there inside.contents.sheets index (subst (λ k. index < k) (length-map inside.contents.sheets sheet_of) within) in
    IfOk-weaker result (λ name. chars (string_bytes name) ≡ name_of_copy (whole_of (held inside)) text)
    (λ name. (source : Sheet) → slice_get (held inside).sheets index ≡ Some source → chars (string_bytes name) ≡ name_of_copy (whole_of (held inside)) source.name)
    (λ name e source at.
    let its : s ≡ there.0 = read_is slice inside.contents.sheets index s there.0 same (subst (λ k. index < k) (length-map inside.contents.sheets sheet_of) within) read there.1 in
    let that : sheet_of there.0 ≡ source = same_some (sheet_of there.0) source (sym (slice_get-map sheet_of inside.contents.sheets index ∙ ap (option_map sheet_of) there.1) ∙ at) in
    e ∙ ap (name_of_copy (whole_of (held inside))) (is ∙ ap (λ (x : HeldSheet). x.name) its ∙ ap (λ (x : Sheet). x.name) that))
    (copy_name_of inside h result text made)

module _ (inside : Inside) (h : IsHeld inside) (index id : ℕ) (name : List ℕ) (within : index < length (held inside).sheets) (fresh : fresh_id (core_of (held inside)) ≡ Some id)
    (called : (source : Sheet) → slice_get (held inside).sheets index ≡ Some source → name ≡ name_of_copy (whole_of (held inside)) source.name) where
  abbrev book : Book
  book = held inside

  abbrev ws : List HeldSheet
  ws = inside.contents.sheets

  room : is_none (fresh_id (core_of book)) ≡ false
  room = ap is_none fresh

  there : (s : HeldSheet) × (slice_get ws index ≡ Some s)
  there = sheet_there ws index (subst (λ k. index < k) (length-map ws sheet_of) within)

  abbrev s : HeldSheet
  s = there.0

  at : slice_get book.sheets index ≡ Some (sheet_of s)
  at = held_at inside h index s there.1 room

  same_name : name ≡ name_of_copy (whole_of book) s.name
  same_name = called (sheet_of s) at

  pub model_free : list_any (agrees name) (map (λ (x : HeldSheet). x.name) inside.contents.sheets) ≡ false
  model_free = held_free inside h index s there.1 room name same_name

  pub model_fresh : list_any (nat_eq id) (map (λ (x : HeldSheet). x.id) inside.contents.sheets) ≡ false
  model_fresh = held_fresh inside h index s there.1 room id fresh

  pub model_unscoped : list_any (nat_eq id) (scopes_of inside.contents.definitions) ≡ false
  model_unscoped = held_unscoped inside h index s there.1 room id fresh

  same_id : id ≡ copy_id (whole_of book) index (whole_source book index (sheet_of s))
  same_id = held_id inside h index s there.1 room id fresh

  module _ (english : List ℕ → Option ℕ) (reads : english ≡ english_function (notations_in (held inside))) (new : Contents) (has : (x : HeldSheet) → slice_get inside.contents.sheets index ≡ Some x → HasCopy english index id name x inside.contents new) where
    abbrev after : Inside
    after = with_contents new.sheets new.definitions inside

    abbrev becomes : Sheet → Book
    becomes source = book_changed_by (with_copied_sheet index (sheet_copied book index source) (definitions_copied book index source)) book

    is_here : held after ≡ becomes (sheet_of s)
    is_here = copied_is inside h index s there.1 room english reads id name same_id same_name new (has s there.1)

    pub model_is : (source : Sheet) → slice_get (held inside).sheets index ≡ Some source → held (with_contents new.sheets new.definitions inside) ≡ book_changed_by (with_copied_sheet index (sheet_copied (held inside) index source) (definitions_copied (held inside) index source)) (held inside)
    model_is source at_source = subst (λ (x : Sheet). held after ≡ becomes x) (same_some (sheet_of s) source (sym at ∙ at_source)) is_here

    pub model_valid : IsHeld (with_contents new.sheets new.definitions inside)
    model_valid = subst IsValidBook (sym is_here) (valid_then (held_state inside) h index (sheet_of s) at room)

    -- the change that was made, told by the machine
    abbrev change_with : ℕ → List ℕ → Change
    change_with i called = sheet_named (definitions_scene (inside.contents.definitions ++ map (local_in i) (copied_of s.id inside.contents.definitions))) i called

    change_is : change_with id name ≡ sheet_named (scene_with_copy (whole_of book) index (whole_source book index (sheet_of s))) (copy_id (whole_of book) index (whole_source book index (sheet_of s))) (name_of_copy (whole_of book) s.name)
    change_is = ap₂ change_with same_id same_name

    pub model_looks_up : LooksUpCopied index (held_state inside) (held_state (with_contents new.sheets new.definitions inside))
    model_looks_up =
        subst (λ (o : Option Sheet). IfSome o (λ source. look_ups new.sheets
        ≡ insert (looks_up_in (sheet_named (scene_with_copy (whole_of book) index (whole_source book index source)) (copy_id (whole_of book) index (whole_source book index source)) (name_of_copy (whole_of book) source.name)) (held_state inside)) (index + 1) false)) (sym at)
        ((has s there.1).looks_up ∙ ap (λ (had : List Bool). insert had (index + 1) false) (sym (looks_up_is (change_with id name) ws))
        ∙ ap (λ (change : Change). insert (looks_up_in change (held_state inside)) (index + 1) false) change_is)
