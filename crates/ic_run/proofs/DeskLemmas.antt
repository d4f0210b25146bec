-- The program's words, its start and its statuses.
use Rattle.std.proofs.Common.{String, ◌≡◌, ◌⊎◌, inl, inr, ℕ, List, [], ◌∷◌, get_or, Option, Some, None, Result, Ok, Err, IfOk, IfErr, OnOk, bytes_eq, codes, string_bytes, refl, arith, length, take, ◌+◌, true, false, option_map, sym, subst, ◌∙◌, ap}
use Rattle.std.specs.Str.{chars}
use Rattle.std.specs.declared.alloc.Global.{Global}
use Rattle.ic_lines.specs.declared.error.RunError.{RunError}
use Rattle.ic_lines.specs.declared.error.RunError.TheVariants as run
use Rattle.ic_lines.proofs.ToldLemmas.{IfTold-weaker}
use Rattle.ic_lines.specs.Bytes.{IfTold}
use Rattle.ic_parts.specs.Book.{Book, core_of, first_sheet_name_in, new_book, notations_in}
use Rattle.ic_run.specs.Desk.{Setting, setting_of, run_status, texts}
use Rattle.ic_run.specs.Make.{made_setting}
use Rattle.ic_run.specs.Core.{AreCore, IsPlainBook, identity_machine, whole_machine}
use Rattle.ic_run.specs.Run.{HasPartlyReplied, HasReplied, LeavesReplies, LeavesRun, LeavesWhole, RunsAnswered, RunsPartly, TakesAll}
use Rattle.ic_run.proofs.RunLemmas.{leaves_weaker}
use Rattle.ic_laws.specs.CoreBook.{CellPlace, CoreBook}
use Rattle.ic_laws.specs.Lines.{texts_of}
use Rattle.ic_cells.specs.declared.cell.Cell.{Cell}
use Rattle.std.specs.FinMap as finite
use Rattle.ic_machine.proofs.contents.AlikeGrid.{entries-empty, get-seen}
use Rattle.ic_machine.specs.Content.{content_of}
use Rattle.ic_parts.specs.Whole.{whole_of}
use Rattle.ic_sheets.specs.Sheet.{cells_of}
use Rattle.ic_tables.specs.Tables.{TableSet}

-- the core of a new book
pub start_core : (book : Book) (name locale zone language created : List ℕ) (tables : TableSet) → book ≡ new_book name locale zone language created tables
    → core_of book ≡ record { sheets = record { id = 1; name = first_sheet_name_in language; cells = [] } ∷ []; definitions = []; locale = locale; language = language }
start_core book name locale zone language created tables e =
    ap core_of e
    ∙ ap (λ (es : List (CellPlace × Cell)). let core : CoreBook = record { sheets = record { id = 1; name = first_sheet_name_in language; cells = cells_of [] es } ∷ []; definitions = []; locale = locale; language = language } in core)
    (entries-empty Cell)

-- which has no merged cells and no arrays of several cells
pub start_plain : (book : Book) (name locale zone language created : List ℕ) (tables : TableSet) → book ≡ new_book name locale zone language created tables → IsPlainBook (whole_of book)
start_plain book name locale zone language created tables e =
    subst (λ (b : Book). IsPlainBook (whole_of b)) (sym e) (
      record {
        merges = refl;
        loose = λ place content at.
            let none : None ≡ Some content = sym (get-seen (content_of []) finite.empty place ∙ ap (option_map (content_of [])) (finite.get-empty _ place)) ∙ at in
            cc;
      },
      tt,
    )

-- the status 0 is that of Ok
pub on_ok_at_0 : (r : Result ℕ RunError) (P : Type 0) → OnOk r P → run_status r ≡ 0 → P
on_ok_at_0 (Ok n) P h e = h
on_ok_at_0 (Err run.ReadFault) P h e = absurd (omega (arith, e))
on_ok_at_0 (Err run.WriteFault) P h e = absurd (omega (arith, e))
on_ok_at_0 (Err run.TooManyTurns) P h e = absurd (omega (arith, e))
on_ok_at_0 (Err run.OutOfMemory) P h e = absurd (omega (arith, e))

-- where only memory can run out, it is 0 or 6
pub completes_so : (r : Result ℕ RunError) (status : ℕ) → status ≡ run_status r → IfErr r (λ e. e ≡ run.OutOfMemory) → (status ≡ 0) ⊎ (status ≡ 6)
completes_so (Ok n) status is h = inl is
completes_so (Err e) status is h = inr (is ∙ ap (λ (x : RunError). let r : Result ℕ RunError = Err x in run_status r) h)

-- the texts of en, en and UTC
pub english_read : (let given : Setting = record { locale = chars (codes "en"); language = chars (codes "en"); zone = chars (codes "UTC") } in given) ≡ made_setting
unfolding chars
english_read = refl

run_chars : codes "run" ≡ chars (codes "run")
unfolding chars
run_chars = refl

-- four words are taken apart
four_words : {X : Type 0} (words : List X) → length words ≡ 4 → (a : X) × (b : X) × (c : X) × (d : X) × (words ≡ a ∷ b ∷ c ∷ d ∷ [])
four_words [] h = absurd (omega (arith, h))
four_words (a ∷ []) h = absurd (omega (arith, h))
four_words (a ∷ b ∷ []) h = absurd (omega (arith, h))
four_words (a ∷ b ∷ c ∷ []) h = absurd (omega (arith, h))
four_words (a ∷ b ∷ c ∷ d ∷ []) h = (a, b, c, d, refl)
four_words (a ∷ b ∷ c ∷ d ∷ e ∷ words) h = absurd (omega (arith, h))

-- a word at a place of them, and its text
pub word_text : (words : List (String Global)) (i : ℕ) (w at : String Global) (t : List ℕ) → t ≡ string_bytes w → w ≡ get_or words i w → ((x : String Global) → get_or words i x ≡ at) → chars t ≡ chars (string_bytes at)
word_text words i w at t e is there = ap chars (e ∙ ap string_bytes (is ∙ there w))

-- words that don't begin with run name nothing
pub other_name : (words : List (String Global)) (w : String Global) (t : List ℕ) → length words ≡ 4 → w ≡ get_or words 0 w → t ≡ string_bytes w → bytes_eq (chars t) (chars (codes "run")) ≡ false → None ≡ setting_of (texts words)
other_name words w t four is e other =
    let p = four_words words four in
    let first : chars t ≡ chars (string_bytes p.0) = word_text words 0 w p.0 t e is (λ x. ap (λ v. get_or v 0 x) p.4) in
    let no : bytes_eq (chars (string_bytes p.0)) (codes "run") ≡ false = ap (λ v. bytes_eq v (codes "run")) (sym first) ∙ ap (bytes_eq (chars t)) run_chars ∙ other in
    let at : setting_of (texts (p.0 ∷ p.1 ∷ p.2 ∷ p.3 ∷ [])) ≡ None = rw no refl in
    sym (ap (λ v. setting_of (texts v)) p.4 ∙ at)

-- words that do name what follows it
pub run_words : (words : List (String Global)) (w wl wg wz : String Global) (t l g z : List ℕ) → length words ≡ 4 → w ≡ get_or words 0 w → wl ≡ get_or words 1 wl → wg ≡ get_or words 2 wg → wz ≡ get_or words 3 wz
    → t ≡ string_bytes w → l ≡ string_bytes wl → g ≡ string_bytes wg → z ≡ string_bytes wz → bytes_eq (chars t) (chars (codes "run")) ≡ true
    → Some (record { locale = chars l; language = chars g; zone = chars z }) ≡ setting_of (texts words)
run_words words w wl wg wz t l g z four is is_l is_g is_z e e_l e_g e_z named =
    let p = four_words words four in
    let first : chars t ≡ chars (string_bytes p.0) = word_text words 0 w p.0 t e is (λ x. ap (λ v. get_or v 0 x) p.4) in
    let locale : chars l ≡ chars (string_bytes p.1) = word_text words 1 wl p.1 l e_l is_l (λ x. ap (λ v. get_or v 1 x) p.4) in
    let language : chars g ≡ chars (string_bytes p.2) = word_text words 2 wg p.2 g e_g is_g (λ x. ap (λ v. get_or v 2 x) p.4) in
    let zone : chars z ≡ chars (string_bytes p.3) = word_text words 3 wz p.3 z e_z is_z (λ x. ap (λ v. get_or v 3 x) p.4) in
    let run : bytes_eq (chars (string_bytes p.0)) (codes "run") ≡ true = ap (λ v. bytes_eq v (codes "run")) (sym first) ∙ ap (bytes_eq (chars t)) run_chars ∙ named in
    let at : setting_of (texts (p.0 ∷ p.1 ∷ p.2 ∷ p.3 ∷ [])) ≡ Some (record { locale = chars (string_bytes p.1); language = chars (string_bytes p.2); zone = chars (string_bytes p.3) }) = rw run refl in
    ap (λ v. Some (record { locale = v; language = chars g; zone = chars z })) locale
    ∙ ap (λ v. Some (record { locale = chars (string_bytes p.1); language = v; zone = chars z })) language
    ∙ ap (λ v. Some (record { locale = chars (string_bytes p.1); language = chars (string_bytes p.2); zone = v })) zone
    ∙ sym (ap (λ v. setting_of (texts v)) p.4 ∙ at)

-- a whole run leaves nothing of the source
pub all_taken : (r : Result ℕ RunError) (old new : Book) (before now : Option (List ℕ)) → IfOk r (λ count. IfTold before now (TakesAll old new count)) → OnOk r (IfTold before now (λ bytes left. left ≡ []))
all_taken (Ok n) old new before now h = IfTold-weaker before now (TakesAll old new n) (λ bytes left. left ≡ []) (λ bytes left t. t.all) h
all_taken (Err e) old new before now h = tt

-- the status tells the error
pub at_error_status : (r : Result ℕ RunError) (e : RunError) (P : RunError → Type 0) → run_status r ≡ run_status (Err e) → IfErr r P → P e
at_error_status (Ok n) run.ReadFault P same h = absurd (omega (arith, same))
at_error_status (Ok n) run.WriteFault P same h = absurd (omega (arith, same))
at_error_status (Ok n) run.TooManyTurns P same h = absurd (omega (arith, same))
at_error_status (Ok n) run.OutOfMemory P same h = absurd (omega (arith, same))
at_error_status (Err run.ReadFault) run.ReadFault P same h = h
at_error_status (Err run.ReadFault) run.WriteFault P same h = absurd (omega (arith, same))
at_error_status (Err run.ReadFault) run.TooManyTurns P same h = absurd (omega (arith, same))
at_error_status (Err run.ReadFault) run.OutOfMemory P same h = absurd (omega (arith, same))
at_error_status (Err run.WriteFault) run.ReadFault P same h = absurd (omega (arith, same))
at_error_status (Err run.WriteFault) run.WriteFault P same h = h
at_error_status (Err run.WriteFault) run.TooManyTurns P same h = absurd (omega (arith, same))
at_error_status (Err run.WriteFault) run.OutOfMemory P same h = absurd (omega (arith, same))
at_error_status (Err run.TooManyTurns) run.ReadFault P same h = absurd (omega (arith, same))
at_error_status (Err run.TooManyTurns) run.WriteFault P same h = absurd (omega (arith, same))
at_error_status (Err run.TooManyTurns) run.TooManyTurns P same h = h
at_error_status (Err run.TooManyTurns) run.OutOfMemory P same h = absurd (omega (arith, same))
at_error_status (Err run.OutOfMemory) run.ReadFault P same h = absurd (omega (arith, same))
at_error_status (Err run.OutOfMemory) run.WriteFault P same h = absurd (omega (arith, same))
at_error_status (Err run.OutOfMemory) run.TooManyTurns P same h = absurd (omega (arith, same))
at_error_status (Err run.OutOfMemory) run.OutOfMemory P same h = h

-- the replies alone, to core lines by the identity machine
leaves_core : (e : RunError) (old new : Book) (bytes left : List ℕ) (before now : Option (List ℕ)) → IsPlainBook (whole_of old) → LeavesRun e old new bytes left before now
    → LeavesReplies (identity_machine (notations_in old)) (core_of old) (AreCore old.tables) e bytes left before now
leaves_core e old new bytes left before now plain h =
    leaves_weaker (RunsAnswered old new (texts_of bytes) before now) (RunsPartly old new (texts_of bytes) before now)
    (λ count. AreCore old.tables (take count (texts_of bytes)) → IfTold before now (HasReplied (identity_machine (notations_in old)) (core_of old) count (texts_of bytes)))
    (λ count. AreCore old.tables (take (count + 1) (texts_of bytes)) → IfTold before now (HasPartlyReplied (identity_machine (notations_in old)) (core_of old) count (texts_of bytes)))
    e bytes left (λ n done are. (done.core plain are).told) (λ n done are. (done.core plain are).told) h

pub leaves_core_told : (r : Result ℕ RunError) (e : RunError) (old new : Book) (source left before now : Option (List ℕ)) → IsPlainBook (whole_of old) → run_status r ≡ run_status (Err e)
    → IfErr r (λ x. IfTold source left (λ bytes rest. LeavesRun x old new bytes rest before now))
    → IfTold source left (λ bytes rest. LeavesReplies (identity_machine (notations_in old)) (core_of old) (AreCore old.tables) e bytes rest before now)
leaves_core_told r e old new source left before now plain same h =
    IfTold-weaker source left (λ bytes rest. LeavesRun e old new bytes rest before now) (λ bytes rest. LeavesReplies (identity_machine (notations_in old)) (core_of old) (AreCore old.tables) e bytes rest before now)
    (λ bytes rest p. leaves_core e old new bytes rest before now plain p)
    (at_error_status r e (λ x. IfTold source left (λ bytes rest. LeavesRun x old new bytes rest before now)) same h)

-- and to all lines by the whole machine
leaves_whole : (e : RunError) (old new : Book) (bytes left : List ℕ) (before now : Option (List ℕ)) → LeavesRun e old new bytes left before now
    → LeavesReplies whole_machine (whole_of old) (λ lines. Unit {0}) e bytes left before now
leaves_whole e old new bytes left before now h =
    leaves_weaker (RunsAnswered old new (texts_of bytes) before now) (RunsPartly old new (texts_of bytes) before now)
    (λ count. Unit {0} → IfTold before now (HasReplied whole_machine (whole_of old) count (texts_of bytes)))
    (λ count. Unit {0} → IfTold before now (HasPartlyReplied whole_machine (whole_of old) count (texts_of bytes))) e bytes left (λ n done any. done.whole.told) (λ n done any. done.whole.told) h

pub leaves_whole_told : (r : Result ℕ RunError) (e : RunError) (old new : Book) (start : List ℕ → Book) (created : List ℕ) (source left before now : Option (List ℕ)) → old ≡ start created → run_status r ≡ run_status (Err e)
    → IfErr r (λ x. IfTold source left (λ bytes rest. LeavesRun x old new bytes rest before now)) → IfTold source left (λ bytes rest. LeavesWhole e start bytes rest before now)
leaves_whole_told r e old new start created source left before now is same h =
    IfTold-weaker source left (λ bytes rest. LeavesRun e old new bytes rest before now) (λ bytes rest. LeavesWhole e start bytes rest before now)
    (λ bytes rest p. (created, subst (λ (b : Book). LeavesReplies whole_machine (whole_of b) (λ lines. Unit {0}) e bytes rest before now) is (leaves_whole e old new bytes rest before now p)))
    (at_error_status r e (λ x. IfTold source left (λ bytes rest. LeavesRun x old new bytes rest before now)) same h)
