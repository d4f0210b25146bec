-- A new sheet of a name with a number: what its call does is the step of the machine.
use Rattle.std.proofs.Common.{◌≡◌, ℕ, suc, ◌+◌, ◌<◌, ◌≤◌, ◌^◌, List, [], ◌∷◌, ◌++◌, length, map, Bool, true, false, not, Option, Some, None, Result, Ok, Err, IfOk, IsErr, IsErrAnd, String, string_bytes, chars, refl, sym, ap, ap₂, subst, ◌∙◌, arith}
use Rattle.std.proofs.lemmas.List.{length-map}
use Rattle.std.specs.declared.alloc.Global.{Global}
use Rattle.std.specs.Fmt.{decimal}
use Rattle.std.specs.List.{find, list_any, range_with_len}
use Rattle.std.specs.Prelude.{is_none, unwrap_or}
use Rattle.ic_laws.specs.CoreBook as core_book
use Rattle.ic_laws.specs.CoreBook.{fresh_id, has_sheet, names_of}
use Rattle.ic_laws.specs.CoreStep.{add_sheet_refusal}
use Rattle.ic_laws.specs.Name.{agrees, is_sheet_name}
use Rattle.ic_machine.proofs.bound.NewNames.{base_good, free_of, numbered_good, numbers_apart}
use Rattle.ic_machine.proofs.bound.NumberLemmas.{small}
use Rattle.ic_machine.specs.Book as machine
use Rattle.ic_machine.specs.Book.{Stepped, core_sheet, unless}
use Rattle.ic_machine.specs.Changed as changed
use Rattle.ic_machine.specs.Refusal.{first_refusal}
use Rattle.ic_machine.specs.Reply.{Field}
use Rattle.ic_machine.specs.Valid as valid_machine
use Rattle.ic_machine.specs.subjects.Sheets.{NewSheet, base_name, copy_name, free_number, name_of_copy, named_fields, new_sheet_name, new_sheet_step, numbered_name, sheet_step, with_new_sheet}
use Rattle.ic_machine.specs.Refusal as refusals
use Rattle.ic_sheets.specs.Sheet.{sheet_of}
use Rattle.ic_sheets.specs.declared.sheet.Sheet.{Sheet as HeldSheet}
use Rattle.ic_book.specs.declared.model.Model.TheInside.{Inside}
use Rattle.ic_parts.specs.Book.{IsValidBook, ModelState, core_of, whole_sheet}
use Rattle.ic_parts.specs.Change.{book_changed_by, with_added_sheet}
use Rattle.ic_parts.specs.Does.{Does, DoesStep, IsDone, Refused, Wanted}
use Rattle.ic_parts.specs.Fields.{named_sheet_fields}
use Rattle.ic_book.specs.Inside.{IsHeld, held}
use Rattle.ic_parts.specs.Refused.{TellsCore, refusal_of}
use Rattle.ic_parts.specs.SheetNames.{IsNumbered, free_among}
use Rattle.ic_parts.specs.Whole.{whole_of}
use Rattle.ic_parts.specs.declared.error.BookError.{BookError}
use Rattle.ic_parts.specs.declared.error.BookError.TheVariants as errors
use Rattle.ic_parts.proofs.BookValid.{added_valid}
use Rattle.ic_parts.proofs.DoesLemmas.{told_whole}
use Rattle.ic_parts.proofs.HeldLemmas.{add_accepts, seen_names}
use Rattle.ic_parts.proofs.WholeLemmas.{whole_added, whole_changed, whole_core}

-- the name of a new sheet in a valid book is one, and no sheet has it
module _ (b : machine.Book) (valid : valid_machine.IsValidBook b) where
  new_is_free : has_sheet (machine.core_of b) (new_sheet_name b) ≡ false
  new_is_free =
      let few : length b.sheets ≤ 4294967295 = valid.sheets.few in
      let count : length (names_of (machine.core_of b)) ≡ length b.sheets = length-map (map core_sheet b.sheets) (λ (s : core_book.Sheet). s.name) ∙ length-map b.sheets core_sheet in
      free_of (names_of (machine.core_of b)) (numbered_name b) (length b.sheets + 2) (λ a n x y e. numbers_apart (base_name b.language) a n (omega (arith, x, few)) (omega (arith, y, few)) e) 1 (suc (length b.sheets))
      (find (λ n. not (has_sheet (machine.core_of b) (numbered_name b n))) (range_with_len 1 (suc (length b.sheets)))) (suc (length b.sheets)) refl (omega (arith, count)) (omega (arith))

  new_is_good : is_sheet_name (new_sheet_name b) ≡ true
  new_is_good =
      let few : length b.sheets ≤ 4294967295 = valid.sheets.few in
      let most : free_number b (numbered_name b) ≤ length b.sheets + 1 = small b (numbered_name b) in
      numbered_good (base_name b.language) (free_number b (numbered_name b)) (base_good b.language) (omega (arith, few, most))

-- the least free number of a name, by the sheets that a model keeps
module _ (inside : Inside) (h : IsHeld inside) where
  abbrev ws : List HeldSheet
  ws = inside.contents.sheets

  abbrev whole_book : machine.Book
  whole_book = whole_of (held inside)

  whole_count : length whole_book.sheets ≡ length ws
  whole_count = length-map (map sheet_of ws) (whole_sheet inside.lists.strings) ∙ length-map ws sheet_of

  pub few_sheets : length inside.contents.sheets < 2 ^ 32
  few_sheets = let few : length whole_book.sheets ≤ 4294967295 = h.whole.sheets.few in let same = whole_count in omega (arith, few, same)

  same_names : map (λ (s : HeldSheet). s.name) ws ≡ names_of (machine.core_of whole_book)
  same_names = seen_names ws ∙ ap names_of (sym (whole_core (held inside)))

  free_same : (name : ℕ → List ℕ) → free_among (map (λ (s : HeldSheet). s.name) inside.contents.sheets) name ≡ free_number (whole_of (held inside)) name
  free_same name =
      ap₂ (λ (names : List (List ℕ)) (count : ℕ). unwrap_or (find (λ n. not (list_any (agrees (name n)) names)) (range_with_len 1 (suc count))) (suc count)) same_names
      (length-map ws (λ (s : HeldSheet). s.name) ∙ sym whole_count)

  new_name_is : (text base : List ℕ) → base ≡ base_name inside.notation.language → text ≡ base ++ decimal (free_among (map (λ (s : HeldSheet). s.name) inside.contents.sheets) (λ n. base ++ decimal n))
      → text ≡ new_sheet_name (whole_of (held inside))
  new_name_is text base a b =
      b ∙ ap (λ (word : List ℕ). word ++ decimal (free_among (map (λ (s : HeldSheet). s.name) ws) (λ n. word ++ decimal n))) a
      ∙ ap (numbered_name whole_book) (free_same (numbered_name whole_book))

  pub new_name_of : {E : Type 0} (r : Result (String Global) E) (base : List ℕ) → base ≡ base_name inside.notation.language
      → IfOk r (λ text. chars (string_bytes text) ≡ base ++ decimal (free_among (map (λ (s : HeldSheet). s.name) inside.contents.sheets) (λ n. base ++ decimal n)))
      → IfOk r (λ text. chars (string_bytes text) ≡ new_sheet_name (whole_of (held inside)))
  new_name_of (Ok text) base a e = new_name_is (chars (string_bytes text)) base a e
  new_name_of (Err e) base a h = tt

  -- the name of a copy of a sheet
  pub copy_name_of : {E : Type 0} (r : Result (String Global) E) (source : List ℕ)
      → IfOk r (λ text. chars (string_bytes text) ≡ copy_name source (free_among (map (λ (s : HeldSheet). s.name) inside.contents.sheets) (copy_name source)))
      → IfOk r (λ text. chars (string_bytes text) ≡ name_of_copy (whole_of (held inside)) source)
  copy_name_of (Ok text) source e = e ∙ ap (copy_name source) (free_same (copy_name source))
  copy_name_of (Err e) source h = tt

module _ (old : ModelState) (valid : IsValidBook old.book) where
  abbrev whole : machine.Book
  whole = whole_of old.book

  abbrev name : List ℕ
  name = new_sheet_name whole

  new_made : (o : Bool) → is_none (fresh_id (core_of old.book)) ≡ o → sheet_step whole NewSheet ≡ unless (first_refusal ((o, refusals.IdsUsedUp) ∷ [])) (changed.changed_by (with_new_sheet name) whole) (named_fields name (length whole.sheets))
  unfolding new_sheet_step
  new_made o e = ap (λ b. unless (first_refusal ((b, refusals.IdsUsedUp) ∷ [])) (changed.changed_by (with_new_sheet name) whole) (named_fields name (length whole.sheets))) (ap (λ c. is_none (fresh_id c)) (whole_core old.book) ∙ e)

  pub new_used_up : is_none (fresh_id (core_of old.book)) ≡ true → {T : Type 0} (fields : T → List Field) → DoesStep Wanted (sheet_step whole NewSheet) fields (Err errors.IdsUsedUp) old old
  new_used_up e fields = record { done = (new_made true e, refl); before = valid; after = valid }

  module _ (some : is_none (fresh_id (core_of old.book)) ≡ false) where
    told_none : {T : Type 0} (fields : T → List Field) (e : BookError) → None ≡ refusal_of e → DoesStep Wanted (sheet_step whole NewSheet) fields (Err e) old old
    told_none fields e none = record { done = subst (Refused Wanted (sheet_step whole NewSheet) old old) none (subst IsDone (sym (new_made false some)) tt, refl); before = valid; after = valid }

    pub new_wants : {T : Type 0} (fields : T → List Field) (r : Result T BookError) → IsErr r × IsErrAnd r (λ e. e ≡ errors.OutOfMemory) → DoesStep Wanted (sheet_step whole NewSheet) fields r old old
    new_wants fields (Ok value) h = let no : false ≡ true = h.0 in cc
    new_wants fields (Err e) h = told_none fields e (sym (ap refusal_of h.1))

    some_id : (o : Option ℕ) → is_none o ≡ false → (id : ℕ) × (o ≡ Some id)
    some_id None e = cc
    some_id (Some id) e = (id, refl)

    -- no refusal of a sheet of that name holds
    pub new_accepted : (called : List ℕ) → called ≡ name → add_sheet_refusal (core_of old.book) called ≡ None
    new_accepted called is =
        let id = some_id (fresh_id (core_of old.book)) some in
        add_accepts (core_of old.book) called id.0 (ap is_sheet_name is ∙ new_is_good whole valid.whole)
        (ap (has_sheet (core_of old.book)) is ∙ ap (λ c. has_sheet c name) (sym (whole_core old.book)) ∙ new_is_free whole valid.whole) id.1

    -- where memory ran out for the sheet
    pub new_failed : {T : Type 0} (fields : T → List Field) (called : List ℕ) → called ≡ name → (e : BookError) → TellsCore e (add_sheet_refusal (core_of old.book) called) → (r : Result T BookError) → IsErr r × IsErrAnd r (λ x. x ≡ e)
        → (new : ModelState) → new ≡ old → DoesStep Wanted (sheet_step whole NewSheet) fields r old new
    new_failed fields called is e told (Ok value) h new same = let no : false ≡ true = h.0 in cc
    new_failed fields called is e told (Err x) h new same =
        subst (λ m. DoesStep Wanted (sheet_step whole NewSheet) fields (Err x) old m) (sym same)
        (told_none fields x (told_whole e None (subst (TellsCore e) (new_accepted called is) told) ∙ sym (ap refusal_of h.1)))

    pub new_done : (new : ModelState) (called : String Global) (index : ℕ) → chars (string_bytes called) ≡ name → index ≡ length old.book.sheets → new.book ≡ book_changed_by (with_added_sheet (chars (string_bytes called))) old.book
        → Does sheet_step NewSheet named_sheet_fields (Ok (called, index)) old new
    new_done new called index is at left = record {
      done =
          new_made false some
          ∙ ap₂ (λ (b : machine.Book) (fs : List Field). let made : Stepped machine.Book = Ok (b, fs) in made)
          (sym (ap whole_of (left ∙ ap (λ n. book_changed_by (with_added_sheet n) old.book) is) ∙ whole_changed (with_added_sheet name) (with_new_sheet name) (whole_added name) old.book))
          (ap₂ named_fields (sym is) (sym (at ∙ sym (length-map old.book.sheets (whole_sheet old.book.strings)))));
      before = valid;
      after = subst IsValidBook (sym left) (added_valid old.book valid (chars (string_bytes called)) (new_accepted (chars (string_bytes called)) is));
    }

  pub new_numbered : (called : List ℕ) → called ≡ name → IsNumbered (length old.book.sheets) (numbered_name whole) called
  new_numbered called is =
      let most : free_number whole (numbered_name whole) ≤ length whole.sheets + 1 = small whole (numbered_name whole) in
      let count : length whole.sheets ≡ length old.book.sheets = length-map old.book.sheets (whole_sheet old.book.strings) in
      (free_number whole (numbered_name whole), omega (arith, most, count), is)
