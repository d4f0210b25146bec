-- The lines that delete the passing sheets, from the end, are accepted, and leave the book's own with all bodies.
use Rattle.std.proofs.Common.{◌≡◌, ℕ, suc, ◌+◌, ◌<◌, List, [], ◌∷◌, ◌++◌, length, map, reverse, false, not, ◌==◌, Option, None, Ok, refl, sym, ap, ap₂, subst, ◌∙◌, append_assoc, arith, length-append}
use Rattle.std.proofs.lemmas.Bool.Decides.{nat_tests}
use Rattle.std.proofs.lemmas.List.{append-nil, length-map, map-append}
use Rattle.std.specs.List.{AllByRecursion, IsDistinct, range_with_len}
use Rattle.std.specs.Prelude.{nat_lt}
use Rattle.ic_laws.proofs.CoreLemmas.{agrees_equiv}
use Rattle.ic_laws.proofs.core.KeptBook.{mentioned}
use Rattle.ic_laws.proofs.core.Lists.{removed_seen}
use Rattle.ic_laws.proofs.keeping.Accepted.{none_refuses}
use Rattle.ic_laws.specs.CoreBook.{CoreBook, Definition, scene_of, spelling_of}
use Rattle.ic_laws.specs.CoreStep as core_step
use Rattle.ic_laws.specs.CoreStep.{core_step}
use Rattle.ic_laws.specs.Keeping.{kept_in_body, same_keys}
use Rattle.ic_laws.specs.Name.{agrees}
use Rattle.ic_laws.specs.Notations.{AreNotations, Notations}
use Rattle.ic_laws.specs.Refusal as core_refusal
use Rattle.ic_laws.specs.ValidCore.{IsKeptBody, IsValidCore, IsValidDefinition}
use Rattle.ic_laws.specs.declared.scene.Scene.{Scene}
use Rattle.ic_laws.specs.declared.scene.SheetName.{SheetName}
use Rattle.ic_tree.proofs.NotationLaws.{notations_are}
use Rattle.ic_tree.specs.Notations.{notations_of}
use Rattle.ic_machine.specs.Book.{Book, Sheet, Stepped, as_core, core_of, notations_in, scene_in}
use Rattle.ic_machine.specs.Changed.{changed_by, with_removed_sheet}
use Rattle.ic_machine.specs.Command.{OnSheets}
use Rattle.ic_machine.specs.Kept.{StaysValid}
use Rattle.ic_machine.specs.Step.{english_errors}
use Rattle.ic_machine.specs.Valid.{IsValidBook}
use Rattle.ic_machine.specs.subjects.Sheets as sheets
use Rattle.ic_machine.specs.subjects.Sheets.{delete_sheet_step}
use Rattle.ic_machine.proofs.as_core.CoreValid.{core_valid}
use Rattle.ic_machine.proofs.valid.NamesStay.{sheets_stay}
use Rattle.ic_machine.proofs.valid.ValidLemmas.{all_of}
use Rattle.ic_dump.specs.Lines.{deleting_line, deleting_lines}
use Rattle.ic_dump.specs.Passing.{passing_sheets, unfound_of}
use Rattle.ic_dump.specs.Stages.{DeletesPassing, Leads, bare_sheet, with_bare}
use Rattle.ic_dump.proofs.ApartLemmas.{IsNoName, with_sheets}
use Rattle.ic_dump.proofs.BareBooks.{kept_same_bare, scene_bare}
use Rattle.ic_dump.proofs.BodiesApart.{body_stays, passing_apart}
use Rattle.ic_dump.proofs.ListLemmas.{both_of_each, front_differs, front_holds, range_from_end, remove_seam}
use Rattle.ic_dump.proofs.RunLemmas.{leads_both, leads_line, leads_nowhere, leads_there}
use Rattle.ic_dump.proofs.StandLemmas.{Stands, name_of, stands}
use Rattle.ic_dump.proofs.TextsRead.{deleting_read}

-- One goes, which stands last. ----

module _ (start : Book) (own : List SheetName) (x : SheetName) (definitions : List Definition) (some : 0 < length own) where
  abbrev old : Book
  old = with_bare (own ++ x ∷ []) definitions start

  abbrev new : Book
  new = with_bare own definitions start

  module _ (valid : IsValidBook old) (stay : AllByRecursion (λ (d : Definition). kept_in_body (notations_in old) (scene_in old) (scene_in (with_removed_sheet (length own) old)) same_keys d ≡ d) definitions) where
    many : length old.sheets ≡ length own + 1
    many = length-map (own ++ x ∷ []) bare_sheet ∙ length-append own (x ∷ [])

    many_seen : length (core_of old).sheets ≡ length own + 1
    many_seen = length-map old.sheets _ ∙ many

    left_is : changed_by (with_removed_sheet (length own)) old ≡ new
    left_is =
        ap (with_removed_sheet (length own)) (kept_same_bare (notations_in old) (scene_in old) (scene_in (with_removed_sheet (length own) old)) same_keys (own ++ x ∷ []) definitions start stay)
        ∙ ap (λ (xs : List Sheet). let b : Book = record start { sheets = xs; definitions = definitions } in b)
        (sym (removed_seen bare_sheet (own ++ x ∷ []) (length own)) ∙ ap (map bare_sheet) (remove_seam own x [] ∙ append-nil own))

    refusal : core_step.delete_refusal (core_of old) (length own) ≡ None
    refusal =
        let long = many_seen in
        let two : (length (core_of old).sheets == 1) ≡ false = grind (arith, nat_tests) in
        let there : not (nat_lt (length own) (length (core_of old).sheets)) ≡ false = grind (arith, nat_tests) in
        none_refuses (core_step.delete_causes (core_of old) (length own)) (two, (there, tt))

    stepped : delete_sheet_step (length own) old ≡ Ok (new, [])
    unfolding core_step delete_sheet_step
    stepped =
        ap (λ (o : Option core_refusal.Refusal). as_core (core_step.unless_refused o (core_step.changed_by (notations_in old) (core_step.without_sheet (length own)) (core_of old)) []) (changed_by (with_removed_sheet (length own)) old)) refusal
        ∙ ap (λ (b : Book). let o : Stepped Book = Ok (b, []) in o) left_is

    pub deleted : Leads old (deleting_line (length own) ∷ []) new
    deleted =
        let few = valid.sheets.few in
        let long = many in
        leads_line old new (deleting_line (length own)) (OnSheets (sheets.DeleteSheet (length own))) [] (deleting_read (english_errors old) (length own) (omega (arith, few, long))) stepped
        (subst StaysValid stepped (sheets_stay old valid (sheets.DeleteSheet (length own))))

-- All go, one after another. ----

-- the lines that delete so many sheets from an index on, the last first
abbrev lines_from : ℕ → ℕ → List (List ℕ)
lines_from index count = map deleting_line (reverse (range_with_len index count))

module _ (n : Notations) (are : AreNotations n) (core : CoreBook) (valid_core : IsValidCore n core) (start : Book) (same : notations_in start ≡ n) where
  abbrev own : List SheetName
  own = (scene_of core).sheets

  abbrev bare : List SheetName → Book
  bare others = with_bare (own ++ others) core.definitions start

  -- names differ, and no body lacks one
  pub record AreApart (others : List SheetName) : Type 0 where
    pub differ : IsDistinct agrees (map name_of (own ++ others))
    pub bodies : AllByRecursion (λ (d : Definition). AllByRecursion (IsNoName others) (unfound_of d.body)) core.definitions

  fewer : (first rest : List SheetName) → AreApart (first ++ rest) → AreApart first
  fewer first rest h = record {
    differ =
        front_differs agrees_equiv (map name_of (own ++ first)) (map name_of rest)
        (subst (IsDistinct agrees) (ap (map name_of) (sym (append_assoc own first rest)) ∙ map-append name_of (own ++ first) rest) h.differ);
    bodies =
        all_of (λ (d : Definition). AllByRecursion (IsNoName (first ++ rest)) (unfound_of d.body)) (λ (d : Definition). AllByRecursion (IsNoName first) (unfound_of d.body))
        (λ d g. all_of (IsNoName (first ++ rest)) (IsNoName first) (λ name k. front_holds (λ (s : SheetName). agrees s.name name ≡ false) first rest k) (unfound_of d.body) g) core.definitions h.bodies;
  }

  some_own : 0 < length own
  some_own = let some = valid_core.some_sheet in let long : length own ≡ length core.sheets = length-map core.sheets mentioned in omega (arith, some, long)

  one_gone : (first : List SheetName) (x : SheetName) → AreApart (first ++ x ∷ []) → IsValidBook (bare (first ++ x ∷ [])) → Leads (bare (first ++ x ∷ [])) (deleting_line (length (own ++ first)) ∷ []) (bare first)
  one_gone first x apart valid =
      let joined : with_bare ((own ++ first) ++ x ∷ []) core.definitions start ≡ bare (first ++ x ∷ []) = ap (λ (xs : List SheetName). with_bare xs core.definitions start) (append_assoc own first (x ∷ [])) in
      let some : 0 < length (own ++ first) = let a = some_own in let b = length-append own first in omega (arith, a, b) in
      leads_there (with_bare ((own ++ first) ++ x ∷ []) core.definitions start) (bare (first ++ x ∷ [])) (bare first) (bare first) (deleting_line (length (own ++ first)) ∷ []) joined refl
      (deleted start (own ++ first) x core.definitions some (subst IsValidBook (sym joined) valid)
      (subst (λ (scenes : Scene × Scene). AllByRecursion (λ (d : Definition). kept_in_body (notations_in start) scenes.0 scenes.1 same_keys d ≡ d) core.definitions) (sym (scenes_are first x))
      (subst (λ (m : Notations). AllByRecursion (λ (d : Definition). kept_in_body m (with_sheets (scene_of core) (first ++ x ∷ [])) (with_sheets (scene_of core) first) same_keys d ≡ d) core.definitions) (sym same)
      (bodies_same first x apart))))
    where
      bodies_same : (first : List SheetName) (x : SheetName) → AreApart (first ++ x ∷ [])
          → AllByRecursion (λ (d : Definition). kept_in_body n (with_sheets (scene_of core) (first ++ x ∷ [])) (with_sheets (scene_of core) first) same_keys d ≡ d) core.definitions
      bodies_same first x apart =
          let less : AreApart first = fewer first (x ∷ []) apart in
          let NoBefore : Definition → Type 0 = λ d. AllByRecursion (IsNoName (first ++ x ∷ [])) (unfound_of d.body) in
          let NoAfter : Definition → Type 0 = λ d. AllByRecursion (IsNoName first) (unfound_of d.body) in
          let Fine : Definition → Type 0 = λ d. IsKeptBody n (scene_of core) d × NoBefore d in
          both_of_each Fine NoAfter (λ d. kept_in_body n (with_sheets (scene_of core) (first ++ x ∷ [])) (with_sheets (scene_of core) first) same_keys d ≡ d)
          (λ d h g. body_stays n are (scene_of core) (first ++ x ∷ []) first apart.differ less.differ d h.0 h.1 g) core.definitions
          (both_of_each (IsValidDefinition n (scene_of core)) NoBefore Fine (λ d h g. (h.body, g)) core.definitions valid_core.definitions apart.bodies) less.bodies

      -- what formulas can mention before and after it
      scenes_are : (first : List SheetName) (x : SheetName)
          → ◌≡◌ {A = Scene × Scene} (scene_in (with_bare ((own ++ first) ++ x ∷ []) core.definitions start), scene_in (with_removed_sheet (length (own ++ first)) (with_bare ((own ++ first) ++ x ∷ []) core.definitions start)))
          (with_sheets (scene_of core) (first ++ x ∷ []), with_sheets (scene_of core) first)
      scenes_are first x =
          let b : Book = with_bare ((own ++ first) ++ x ∷ []) core.definitions start in
          let removed : with_removed_sheet (length (own ++ first)) b ≡ with_bare (own ++ first) core.definitions start =
          ap (λ (xs : List Sheet). let c : Book = record start { sheets = xs; definitions = core.definitions } in c)
          (sym (removed_seen bare_sheet ((own ++ first) ++ x ∷ []) (length (own ++ first))) ∙ ap (map bare_sheet) (remove_seam (own ++ first) x [] ∙ append-nil (own ++ first))) in
          let seen : (xs : List SheetName) → Scene = λ xs. record { sheets = xs; names = map spelling_of core.definitions } in
          ap₂ (λ (a c : Scene). let p : Scene × Scene = (a, c) in p)
          (scene_bare ((own ++ first) ++ x ∷ []) core.definitions start ∙ ap seen (append_assoc own first (x ∷ [])))
          (ap scene_in removed ∙ scene_bare (own ++ first) core.definitions start)

  pub gone : (first rest : List SheetName) → AreApart (first ++ rest) → IsValidBook (bare (first ++ rest)) → Leads (bare (first ++ rest)) (lines_from (length (own ++ first)) (length rest)) (bare first)
  gone first [] apart valid =
      let less : first ++ [] ≡ first = append-nil first in
      leads_there (bare first) (bare (first ++ [])) (bare first) (bare first) [] (ap bare (sym less)) refl (leads_nowhere (bare first) (subst (λ (xs : List SheetName). IsValidBook (bare xs)) less valid))
  gone first (x ∷ rest) apart valid =
      let joined : (first ++ x ∷ []) ++ rest ≡ first ++ x ∷ rest = append_assoc first (x ∷ []) rest in
      let index : ℕ = length (own ++ first) in
      let longer : length (own ++ (first ++ x ∷ [])) ≡ index + 1 = ap length (sym (append_assoc own first (x ∷ []))) ∙ length-append (own ++ first) (x ∷ []) in
      let others : Leads (bare ((first ++ x ∷ []) ++ rest)) (lines_from (length (own ++ (first ++ x ∷ []))) (length rest)) (bare (first ++ x ∷ [])) =
      gone (first ++ x ∷ []) rest (subst AreApart (sym joined) apart) (subst (λ (xs : List SheetName). IsValidBook (bare xs)) (sym joined) valid) in
      let one : Leads (bare (first ++ x ∷ [])) (deleting_line index ∷ []) (bare first) = one_gone first x (fewer (first ++ x ∷ []) rest (subst AreApart (sym joined) apart)) others.valid in
      let all : Leads (bare ((first ++ x ∷ []) ++ rest)) (lines_from (length (own ++ (first ++ x ∷ []))) (length rest) ++ deleting_line index ∷ []) (bare first) =
      leads_both (bare ((first ++ x ∷ []) ++ rest)) (bare (first ++ x ∷ [])) (bare first) (lines_from (length (own ++ (first ++ x ∷ []))) (length rest)) (deleting_line index ∷ []) others one in
      let lines : lines_from (length (own ++ (first ++ x ∷ []))) (length rest) ++ deleting_line index ∷ [] ≡ lines_from index (suc (length rest)) =
      ap (λ (i : ℕ). lines_from i (length rest) ++ deleting_line index ∷ []) longer
      ∙ sym (map-append deleting_line (reverse (range_with_len (index + 1) (length rest))) (index ∷ [])) ∙ ap (map deleting_line) (sym (range_from_end index (length rest))) in
      subst (λ (ls : List (List ℕ)). Leads (bare (first ++ x ∷ rest)) ls (bare first)) lines
      (subst (λ (xs : List SheetName). Leads (bare xs) (lines_from (length (own ++ (first ++ x ∷ []))) (length rest) ++ deleting_line index ∷ []) (bare first)) joined all)

pub deletes_passing : DeletesPassing
deletes_passing book start is valid =
    let n : Notations = notations_in book in
    let core : CoreBook = core_of book in
    let valid_core : IsValidCore n core = core_valid book is.valid in
    let all : Stands core = stands n core valid_core is.few in
    let same : notations_in start ≡ n = ap notations_of is.tables in
    let none : (scene_of core).sheets ++ [] ≡ (scene_of core).sheets = append-nil (scene_of core).sheets in
    let leads : Leads (with_bare ((scene_of core).sheets ++ passing_sheets core) book.definitions start) (lines_from (length ((scene_of core).sheets ++ [])) (length (passing_sheets core))) (with_bare ((scene_of core).sheets ++ []) book.definitions start) =
    gone n (notations_are book.tables is.valid.tables) core valid_core start same [] (passing_sheets core) (record { differ = all.names; bodies = passing_apart core all }) valid in
    let lines : lines_from (length ((scene_of core).sheets ++ [])) (length (passing_sheets core)) ≡ deleting_lines core = ap₂ lines_from (ap length none ∙ length-map core.sheets mentioned) all.many in
    subst (λ (ls : List (List ℕ)). Leads (with_bare ((scene_of core).sheets ++ passing_sheets core) book.definitions start) ls (with_bare (scene_of core).sheets book.definitions start)) lines
    (subst (λ (xs : List SheetName). Leads (with_bare ((scene_of core).sheets ++ passing_sheets core) book.definitions start) (lines_from (length ((scene_of core).sheets ++ [])) (length (passing_sheets core))) (with_bare xs book.definitions start)) none leads)
