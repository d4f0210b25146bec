-- Fields that are typed one after another: what the others come to after the first, and what an error at one tells of all.
use Rattle.std.proofs.Common.{◌≡◌, ◌+◌, ◌≤◌, ℕ, suc, List, [], ◌∷◌, ◌++◌, Bool, true, false, cond, not, length, Option, Some, None, Result, Ok, Err, IfErr, IsErr, IsErrAnd, refl, sym, ap, subst, ◌∙◌, arith, inl, inr, ◌⊎◌, pos, ◌+ℤ◌, ◌-ℤ◌, ◌≤ℤ◌, ◌-◌, ◌*◌, ℤ, chars, of_z, option_map, to_z, w32}
use Rattle.std.proofs.lemmas.Bool.{and_parts, not-false}
use Rattle.std.proofs.lemmas.Int.{ints}
use Rattle.std.proofs.lemmas.List.Folds.{find-append}
use Rattle.std.proofs.lemmas.Str.{IsUtf8-from_is_utf8}
use Rattle.std.specs.List.{find, slice_get}
use Rattle.std.specs.Prelude.{nat_lt}
use Rattle.std.specs.Option.{option_or}
use Rattle.std.specs.Str.{IsUtf8, is_utf8}
use Rattle.ic_laws.specs.CoreBook.{CellPlace}
use Rattle.ic_laws.specs.Position.{is_column, is_row}
use Rattle.ic_laws.proofs.core.Lists.{length_updated}
use Rattle.ic_refs.proofs.ColumnLemmas.{number_of_column, number_of_row}
use Rattle.ic_grid.specs.Arrays.{is_fixed_at}
use Rattle.ic_grid.specs.Merges.{is_covered}
use Rattle.ic_machine.specs.Book.{Book, Sheet, Stepped, found_or, lacks_sheet, unless}
use Rattle.ic_machine.specs.Content.{held}
use Rattle.ic_machine.specs.InForce.{typed_in}
use Rattle.ic_machine.specs.Refusal.{ArrayPart, InvalidColumn, InvalidRow, InvalidSheet, MergedPart, Refusal, first_refusal}
use Rattle.ic_machine.specs.Reply.{Field as Told}
use Rattle.ic_machine.specs.subjects.Writing.{SetUserInput, input_step, typed_written, with_written, writing_step}
use Rattle.ic_parts.proofs.ExtendLemmas.{none_past}
use Rattle.ic_parts.specs.Book.{ModelState}
use Rattle.ic_parts.specs.Does.{Refused, WantedIn}
use Rattle.ic_parts.specs.Refused.{refusal_of}
use Rattle.ic_parts.specs.Whole.{whole_of}
use Rattle.ic_parts.specs.declared.error.BookError.{BookError}
use Rattle.ic_parts.specs.declared.error.BookError.TheVariants as book
use Rattle.ic_import.specs.Placed.{is_in_sheet, is_outside, number_of, place_of}
use Rattle.ic_import.specs.Records.{Field, fields_in, is_no_text}
use Rattle.ic_import.specs.Typed.{Blocked, TellsBlocked, Typable, error_of, go_on, type_field, typed}
use Rattle.ic_import.specs.declared.error.ImportError.{ImportError}
use Rattle.ic_import.specs.declared.error.ImportError.TheVariants as errors
use Rattle.ic_import.specs.declared.places.FieldNumber.{FieldNumber}

-- The fields that are left. ----

neither : {A : Type 0} (a b : Option A) → option_or a b ≡ None → (a ≡ None) × (b ≡ None)
neither None b e = (refl, e)
neither (Some x) b e = cc

none_in : (p : Field → Bool) (xs ys : List Field) → find p (xs ++ ys) ≡ None → (find p xs ≡ None) × (find p ys ≡ None)
none_in p xs ys e = neither (find p xs) (find p ys) (sym (find-append p xs ys) ∙ e)

passes_not : (b : Bool) (x : Field) → cond b (Some x) None ≡ None → b ≡ false
passes_not true x e = cc
passes_not false x e = refl

-- how many fields there may be in so many records
pub record IsFew (records count : ℕ) : Type 0 where
  pub each : count ≤ 16384 * records
  pub all : count ≤ 17179869184

module _ (at : CellPlace) where
  -- some of the fields that can be typed can be, and the others
  pub typable_parts : (xs ys : List Field) → Typable at (xs ++ ys) → Typable at xs × Typable at ys
  typable_parts xs ys h =
      let text = none_in is_no_text xs ys h.text in
      let inside = none_in (is_outside at) xs ys h.inside in
      (record { text = text.0; inside = inside.0 }, record { text = text.1; inside = inside.1 })

  -- the first of them is text and has a place in the sheet
  pub typable_first : (f : Field) (fs : List Field) → Typable at (f ∷ fs) → IsUtf8 f.bytes × (is_in_sheet (place_of at f) ≡ true)
  typable_first f fs h =
      let text = none_in is_no_text (f ∷ []) fs h.text in
      let inside = none_in (is_outside at) (f ∷ []) fs h.inside in (
        IsUtf8-from_is_utf8 f.bytes (not-false (is_utf8 f.bytes) (passes_not (is_no_text f) f text.0)),
        not-false (is_in_sheet (place_of at f)) (passes_not (is_outside at f) f inside.0),
      )

  -- Records and fields whose places are in the sheet are few.
  pub few_rows : is_row at.0 ≡ true → (f : Field) → is_in_sheet (place_of at f) ≡ true → f.at_record ≤ 1048576
  few_rows start f inside =
      let first = number_of_row at.0 start in
      let row = number_of_row (place_of at f).0 (and_parts (is_row (place_of at f).0) (is_column (place_of at f).1) inside).0 in
      omega (arith, ints, first.same, first.low, row.same, row.high)

  pub few_columns : is_column at.1 ≡ true → (f : Field) → is_in_sheet (place_of at f) ≡ true → f.at_field ≤ 16384
  few_columns start f inside =
      let first = number_of_column at.1 start in
      let column = number_of_column (place_of at f).1 (and_parts (is_row (place_of at f).0) (is_column (place_of at f).1) inside).1 in
      omega (arith, ints, first.same, first.low, column.same, column.high)

  few_from : is_column at.1 ≡ true → (at_record n : ℕ) (xs : List (List ℕ)) → n ≤ 16385 → Typable at (fields_in at_record n xs) → length xs + n ≤ 16385
  few_from start at_record n [] most h = omega arith
  few_from start at_record n (x ∷ xs) most h =
      let f : Field = record { at_record = at_record; at_field = n; bytes = x } in
      let here = few_columns start f (typable_first f (fields_in at_record (n + 1) xs) h).1 in
      let more = few_from start at_record (n + 1) xs (omega arith) (typable_parts (f ∷ []) (fields_in at_record (n + 1) xs) h).1 in
      omega arith

  few_fields : is_column at.1 ≡ true → (at_record : ℕ) (xs : List (List ℕ)) → Typable at (fields_in at_record 1 xs) → length xs ≤ 16384
  few_fields start at_record xs h = let all = few_from start at_record 1 xs (omega arith) h in omega arith

  rows_or_none : is_row at.0 ≡ true → (at_record : ℕ) (xs : List (List ℕ)) → Typable at (fields_in at_record 1 xs) → (length xs ≡ 0) ⊎ (at_record ≤ 1048576)
  rows_or_none start at_record [] h = inl refl
  rows_or_none start at_record (x ∷ xs) h =
      let f : Field = record { at_record = at_record; at_field = 1; bytes = x } in
      inr (few_rows start f (typable_first f (fields_in at_record 2 xs) h).1)

  pub few_more : is_row at.0 ≡ true → is_column at.1 ≡ true → (records count : ℕ) (xs : List (List ℕ)) → IsFew records count → Typable at (fields_in (records + 1) 1 xs)
      → IsFew (records + 1) (count + length xs) × (length xs ≤ 16384)
  few_more row column records count xs few h = by_rows (rows_or_none row (records + 1) xs h)
    where
      most : length xs ≤ 16384
      most = few_fields column (records + 1) xs h

      by_rows : (length xs ≡ 0) ⊎ (records + 1 ≤ 1048576) → IsFew (records + 1) (count + length xs) × (length xs ≤ 16384)
      by_rows (inl none) = (record { each = omega (arith, few.each); all = omega (arith, few.all) }, most)
      by_rows (inr rows) = (record { each = omega (arith, few.each, most); all = omega (arith, few.each, most, rows) }, most)

-- a record has as many fields as there are numbered
pub count_in : (at_record n : ℕ) (xs : List (List ℕ)) → length (fields_in at_record n xs) ≡ length xs
count_in at_record n [] = refl
count_in at_record n (x ∷ xs) = ap (λ k. suc k) (count_in at_record (n + 1) xs)

-- Errors. ----

-- want of memory may come whatever typing comes to, and alone where it comes to a book
pub memory_told : (r : Result Book Blocked) → TellsBlocked r errors.OutOfMemory
memory_told (Ok b) = tt
memory_told (Err b) = tt

pub memory_alone : (b : Book) (e : ImportError) → TellsBlocked (Ok b) e → e ≡ errors.OutOfMemory
memory_alone b errors.OutOfMemory h = refl
memory_alone b e h = absurd h

-- the error of a field, where the book tells a refusal, and where memory ran out
error_told : (n : FieldNumber) (e : BookError) (why : Refusal) → refusal_of e ≡ Some why → error_of n e ≡ errors.Blocked n.at_record n.at_field e
error_told n book.OutOfMemory why h = cc
error_told n e why h = refl

pub error_untold : (n : FieldNumber) (e : BookError) → refusal_of e ≡ None → error_of n e ≡ errors.OutOfMemory
error_untold n book.OutOfMemory h = refl
error_untold n e h = cc

-- What typing keeps, and why it refuses. ----

-- a step that is taken leaves the tables, and as many sheets
record IsLike (old left : Book) : Type 0 where
  tables : left.tables ≡ old.tables
  counted : length left.sheets ≡ length old.sheets

abbrev LeavesLike : Book → Stepped Book → Type 0
LeavesLike old (Ok done) = IsLike old done.0
LeavesLike old (Err why) = Unit {0}

-- merged cells, or an array, refuse a field
abbrev pub IsBlock : Refusal → Type 0
IsBlock why = (why ≡ MergedPart) ⊎ (why ≡ ArrayPart)

-- fields that are typed keep the tables, and only so is one refused
abbrev pub TypesLike : Book → Result Book Blocked → Type 0
TypesLike old (Ok left) = left.tables ≡ old.tables
TypesLike old (Err stop) = IsBlock stop.why

-- One field after another. ----

-- a place as it is counted
pub place_cast : (start : ℤ) (n : ℕ) → pos 1 ≤ℤ start → 1 ≤ n → (start +ℤ pos n -ℤ pos 1) ≤ℤ pos 1048576
    → to_z w32 (of_z w32 (to_z w32 (of_z w32 start) +ℤ to_z w32 (n - 1))) ≡ (start +ℤ pos n -ℤ pos 1)
place_cast start n low some high = omega (arith, ints)

module _ (sheet : ℕ) (at : CellPlace) where
  -- the step of the command is that of the field
  pub field_step : (f : Field) (row column : ℤ) (text : List ℕ) (b : Book) → row ≡ (place_of at f).0 → column ≡ (place_of at f).1 → text ≡ chars f.bytes → writing_step b (SetUserInput sheet row column text) ≡ type_field sheet at f b
  field_step f row column text b r c t =
      ap (λ x. writing_step b (SetUserInput sheet x column text)) r ∙ ap (λ y. writing_step b (SetUserInput sheet (place_of at f).0 y text)) c
      ∙ ap (λ u. writing_step b (SetUserInput sheet (place_of at f).0 (place_of at f).1 u)) t

  after_one : (f : Field) (first others : List Field) (left : Book) (made : Stepped Book) → ((b : Book) → typed sheet at first b ≡ Ok left → typed sheet at (first ++ others) b ≡ typed sheet at others left)
      → go_on f (typed sheet at first) made ≡ Ok left → go_on f (typed sheet at (first ++ others)) made ≡ typed sheet at others left
  after_one f first others left (Ok done) more e = more done.0 e
  after_one f first others left (Err why) more e = cc

  -- the others are typed in the book that the first leave
  pub typed_after : (first others : List Field) (b left : Book) → typed sheet at first b ≡ Ok left → typed sheet at (first ++ others) b ≡ typed sheet at others left
  typed_after [] others b left e = let same : b ≡ left = cc in ap (typed sheet at others) same
  typed_after (f ∷ first) others b left e = after_one f first others left (type_field sheet at f b) (λ c h. typed_after first others c left h) e

  stops_at : (f : Field) (first others : List Field) (stop : Blocked) (made : Stepped Book) → ((b : Book) → typed sheet at first b ≡ Err stop → typed sheet at (first ++ others) b ≡ Err stop)
      → go_on f (typed sheet at first) made ≡ Err stop → go_on f (typed sheet at (first ++ others)) made ≡ Err stop
  stops_at f first others stop (Ok done) more e = more done.0 e
  stops_at f first others stop (Err why) more e = e

  -- where one of the first is refused, it is so in all
  typed_stops : (first others : List Field) (b : Book) (stop : Blocked) → typed sheet at first b ≡ Err stop → typed sheet at (first ++ others) b ≡ Err stop
  typed_stops [] others b stop e = cc
  typed_stops (f ∷ first) others b stop e = stops_at f first others stop (type_field sheet at f b) (λ c h. typed_stops first others c stop h) e

  -- an error of the first tells of all
  pub blocked_first : (first others : List Field) (b : Book) (e : ImportError) → TellsBlocked (typed sheet at first b) e → TellsBlocked (typed sheet at (first ++ others) b) e
  blocked_first first others b e h = by_result (typed sheet at first b) refl h
    where
      by_result : (r : Result Book Blocked) → typed sheet at first b ≡ r → TellsBlocked r e → TellsBlocked (typed sheet at (first ++ others) b) e
      by_result (Ok left) is told = subst (TellsBlocked (typed sheet at (first ++ others) b)) (sym (memory_alone left e told)) (memory_told (typed sheet at (first ++ others) b))
      by_result (Err stop) is told = subst (λ (r : Result Book Blocked). TellsBlocked r e) (sym (typed_stops first others b stop is)) told

  -- a field that the book took, and one that it refused or had no memory for
  pub field_taken : (f : Field) (b left : Book) → type_field sheet at f b ≡ Ok (left, []) → typed sheet at (f ∷ []) b ≡ Ok left
  field_taken f b left e = ap (go_on f (typed sheet at [])) e

  pub field_refused : (f : Field) (old new : ModelState) (e : BookError) → Refused WantedIn (type_field sheet at f (whole_of old.book)) old new (refusal_of e)
      → TellsBlocked (typed sheet at (f ∷ []) (whole_of old.book)) (error_of (number_of f) e)
  field_refused f old new e h = by_refusal (refusal_of e) refl h
    where
      by_refusal : (o : Option Refusal) → refusal_of e ≡ o → Refused WantedIn (type_field sheet at f (whole_of old.book)) old new o → TellsBlocked (typed sheet at (f ∷ []) (whole_of old.book)) (error_of (number_of f) e)
      by_refusal None is told = subst (TellsBlocked (typed sheet at (f ∷ []) (whole_of old.book))) (sym (error_untold (number_of f) e is)) (memory_told (typed sheet at (f ∷ []) (whole_of old.book)))
      by_refusal (Some why) is told =
          let stops : typed sheet at (f ∷ []) (whole_of old.book) ≡ Err (record { field = f; why = why }) = ap (go_on f (typed sheet at [])) told.0 in
          subst (TellsBlocked (typed sheet at (f ∷ []) (whole_of old.book))) (sym (error_told (number_of f) e why is))
          (subst (λ (r : Result Book Blocked). TellsBlocked r (errors.Blocked f.at_record f.at_field e)) (sym stops) (refl, refl, is))

  like_unless : (old : Book) (o : Option Refusal) (left : Book) (fields : List Told) → IsLike old left → LeavesLike old (unless o left fields)
  like_unless old None left fields h = h
  like_unless old (Some why) left fields h = tt

  like_found : (old : Book) (o : Option Sheet) (step : Sheet → Stepped Book) → ((s : Sheet) → LeavesLike old (step s)) → LeavesLike old (found_or InvalidSheet (option_map step o))
  like_found old None step h = tt
  like_found old (Some s) step h = h s

  step_like : (f : Field) (b : Book) → LeavesLike b (type_field sheet at f b)
  unfolding input_step
  step_like f b = like_found b (slice_get b.sheets sheet) _ (λ s. like_unless b _ _ _ (record { tables = refl; counted = length_updated _ sheet b.sheets }))

  by_causes : (row column merged fixed : Bool) (left : Book) (why : Refusal) → row ≡ true → column ≡ true
      → unless (first_refusal ((not row, InvalidRow) ∷ (not column, InvalidColumn) ∷ (merged, MergedPart) ∷ (fixed, ArrayPart) ∷ [])) left [] ≡ Err why → IsBlock why
  by_causes false column merged fixed left why r c e = cc
  by_causes true false merged fixed left why r c e = cc
  by_causes true true true fixed left why r c e = inl cc
  by_causes true true false true left why r c e = inr cc
  by_causes true true false false left why r c e = cc

  step_blocks : (f : Field) (b : Book) (why : Refusal) → lacks_sheet b sheet ≡ false → is_in_sheet (place_of at f) ≡ true → type_field sheet at f b ≡ Err why → IsBlock why
  unfolding input_step
  step_blocks f b why there inside e = by_sheet (slice_get b.sheets sheet) refl e
    where
      place : CellPlace
      place = place_of at f

      by_sheet : (o : Option Sheet) → slice_get b.sheets sheet ≡ o
          → found_or InvalidSheet (option_map (λ (s : Sheet). unless (first_refusal ((not (is_row place.0), InvalidRow) ∷ (not (is_column place.1), InvalidColumn) ∷ (is_covered s.grid.merges place, MergedPart) ∷ (is_fixed_at held s.grid.contents place, ArrayPart) ∷ [])) (with_written b sheet s place (typed_written b s place (typed_in b (chars f.bytes)))) []) o) ≡ Err why → IsBlock why
      by_sheet None is e = let lacks : lacks_sheet b sheet ≡ true = ap not (none_past b.sheets sheet is) in cc
      by_sheet (Some s) is e =
          let parts = and_parts (is_row place.0) (is_column place.1) inside in
          by_causes (is_row place.0) (is_column place.1) (is_covered s.grid.merges place) (is_fixed_at held s.grid.contents place) (with_written b sheet s place (typed_written b s place (typed_in b (chars f.bytes)))) why parts.0 parts.1 e

  go_like : (f : Field) (b : Book) (others : Book → Result Book Blocked) (made : Stepped Book) → type_field sheet at f b ≡ made → lacks_sheet b sheet ≡ false → is_in_sheet (place_of at f) ≡ true
      → ((c : Book) → lacks_sheet c sheet ≡ false → TypesLike c (others c)) → LeavesLike b made → TypesLike b (go_on f others made)
  go_like f b others (Err why) is there inside more like = step_blocks f b why there inside is
  go_like f b others (Ok done) is there inside more like =
      let stays : lacks_sheet done.0 sheet ≡ false = ap (λ n. not (nat_lt sheet n)) like.counted ∙ there in
      from (others done.0) (more done.0 stays)
    where
      from : (r : Result Book Blocked) → TypesLike done.0 r → TypesLike b r
      from (Ok left) h = h ∙ like.tables
      from (Err stop) h = h

  pub types_like : (fields : List Field) (b : Book) → lacks_sheet b sheet ≡ false → Typable at fields → TypesLike b (typed sheet at fields b)
  types_like [] b there h = refl
  types_like (f ∷ fields) b there h =
      go_like f b (typed sheet at fields) (type_field sheet at f b) refl there (typable_first at f fields h).1 (λ c stands. types_like fields c stands (typable_parts at (f ∷ []) fields h).1) (step_like f b)

-- the error that a `?` hands on
pub error_as : {T : Type 0} (r : Result T ImportError) (e : ImportError) (P : ImportError → Type 0) → IsErr r × IsErrAnd r (λ f. f ≡ e) → P e → IfErr r P
error_as (Ok value) e P is p = tt
error_as (Err f) e P is p = subst P (sym is.1) p

pub result_as : {T : Type 0} (r : Result T ImportError) (e : ImportError) (P : Result T ImportError → Type 0) → IsErr r × IsErrAnd r (λ f. f ≡ e) → P (Err e) → P r
result_as (Ok value) e P is p = let no : false ≡ true = is.0 in cc
result_as (Err f) e P is p = subst (λ (x : ImportError). P (Err x)) (sym is.1) p
