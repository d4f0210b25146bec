-- What is bound after a sheet is put in among the others.
use Rattle.std.proofs.Common.{◌≡◌, ℕ, zero, suc, List, [], ◌∷◌, map, Bool, true, false, Option, Some, None, Ok, refl, sym, ap, subst, ◌∙◌, inl, inr, if◌then◌else◌}
use Rattle.std.proofs.lemmas.Bool.{cases_Bool}
use Rattle.std.specs.List.{IsDistinct, find, insert, list_any}
use Rattle.std.specs.Prelude.{nat_eq, option_map, unwrap_or}
use Rattle.ic_laws.proofs.CoreLemmas.{agrees_equiv}
use Rattle.ic_laws.proofs.core.KeptBook.{mentioned}
use Rattle.ic_laws.proofs.keeping.Namings.{kept_naming}
use Rattle.ic_laws.proofs.keeping.SheetChanges.{Naming}
use Rattle.ic_laws.proofs.keeping.Sheets.{sheets_differ, nothing_found as none_mapped}
use Rattle.ic_laws.specs.CoreBook as core_book
use Rattle.ic_laws.specs.CoreBook.{CoreBook, has_sheet, names_of, scene_of}
use Rattle.ic_laws.specs.Name.{agrees}
use Rattle.ic_laws.specs.declared.scene.SheetName.{SheetName}
use Rattle.ic_tree.proofs.NotationLaws.{notations_are}
use Rattle.ic_machine.specs.Binds.{InsertedIsMeant, with_sheet_among}
use Rattle.ic_machine.specs.Book.{Book, Stepped, core_of, notations_in, unless}
use Rattle.ic_machine.specs.Changed.{changed_by}
use Rattle.ic_machine.specs.Refusal.{Refusal, first_refusal}
use Rattle.ic_machine.specs.Reply.{Field}
use Rattle.ic_machine.specs.subjects.Sheets.{chosen_id, insert_causes, insert_sheet_step, with_inserted_sheet}
use Rattle.ic_machine.proofs.as_core.CoreLemmas.{core_of-changed, core_of-inserted}
use Rattle.ic_machine.proofs.as_core.CoreValid.{core_valid}
use Rattle.ic_machine.proofs.valid.InsertedStays.{distinct_inserted, none_holds}
use Rattle.ic_laws.proofs.General.{insert-map}

-- one item more in a list
pub find_inserted : {X : Type 0} (p : X → Bool) (xs : List X) (index : ℕ) (x : X) → find p xs ≡ None → find p (insert xs index x) ≡ (if p x then Some x else None)
find_inserted p [] zero x e = refl
find_inserted p [] (suc index) x e = refl
find_inserted p (y ∷ xs) zero x e = ap (λ o. if p x then Some x else o) e
find_inserted p (y ∷ xs) (suc index) x e = elim (cases_Bool (p y)) [
  | inl t ↦ absurd (let no : Some y ≡ None = rw t at e in cc)
  | inr f ↦ rw f (find_inserted p xs index x (rw f at e))
]

pub any_inserted : {X : Type 0} (p : X → Bool) (xs : List X) (index : ℕ) (x : X) → list_any p xs ≡ true → list_any p (insert xs index x) ≡ true
any_inserted p [] index x e = cc
any_inserted p (y ∷ xs) zero x e = elim (cases_Bool (p x)) [
  | inl t ↦ rw t refl
  | inr f ↦ rw f e
]
any_inserted p (y ∷ xs) (suc index) x e = elim (cases_Bool (p y)) [
  | inl t ↦ rw t refl
  | inr f ↦ rw f (any_inserted p xs index x (rw f at e))
]

pub mapped_choice : (m : SheetName) (b : Bool) → option_map (λ (x : SheetName). x.id) (if b then Some m else None) ≡ (if b then Some m.id else None)
mapped_choice m true = refl
mapped_choice m false = refl

-- what it does to the scene
pub insert_naming : (book : CoreBook) (index id : ℕ) (name : List ℕ) → IsDistinct agrees (names_of book) → has_sheet book name ≡ false → Naming (scene_of book) (scene_of (with_sheet_among index id name book)) id name
insert_naming book index id name differ new =
    let s : core_book.Sheet = record { id = id; name = name; cells = [] } in
    let m : SheetName = record { id = id; name = name } in
    let all : map mentioned (insert book.sheets index s) ≡ insert (map mentioned book.sheets) index m = insert-map mentioned book.sheets index s in
    record {
      words = refl;
      differ =
          sheets_differ (with_sheet_among index id name book)
          (subst (IsDistinct agrees) (sym (insert-map (λ (x : core_book.Sheet). x.name) book.sheets index s)) (distinct_inserted agrees_equiv (names_of book) index name differ new));
      there = λ i h. ap (list_any (λ (x : SheetName). nat_eq x.id i)) all ∙ any_inserted (λ (x : SheetName). nat_eq x.id i) (map mentioned book.sheets) index m h;
      found = λ typed e.
          let p : SheetName → Bool = λ x. agrees x.name typed in
          ap (λ (xs : List SheetName). option_map (λ (x : SheetName). x.id) (find p xs)) all
          ∙ ap (option_map (λ (x : SheetName). x.id)) (find_inserted p (map mentioned book.sheets) index m (none_mapped (find p (map mentioned book.sheets)) e))
          ∙ mapped_choice m (agrees name typed);
    }

-- an accepted step leaves what it says
pub accepted : (refusal : Option Refusal) (left after : Book) (said fields : List Field) → unless refusal left said ≡ Ok (after, fields) → (refusal ≡ None) × (after ≡ left)
accepted (Some r) left after said fields e = absurd cc
accepted None left after said fields e =
    let both : (left, said) ≡ (after, fields) = same (left, said) (after, fields) e in (refl, sym (ap (λ (p : Book × List Field). p.0) both))
  where
    same : (p q : Book × List Field) → (let o : Stepped Book = Ok p in o ≡ Ok q) → p ≡ q
    same p q e = cc

-- and answers what it says
pub told : (refusal : Option Refusal) (left after : Book) (said fields : List Field) → unless refusal left said ≡ Ok (after, fields) → fields ≡ said
told (Some r) left after said fields e = absurd cc
told None left after said fields e =
    let both : (left, said) ≡ (after, fields) = same (left, said) (after, fields) e in sym (ap (λ (p : Book × List Field). p.1) both)
  where
    same : (p q : Book × List Field) → (let o : Stepped Book = Ok p in o ≡ Ok q) → p ≡ q
    same p q e = cc

pub inserted_is_meant : InsertedIsMeant
unfolding insert_sheet_step
inserted_is_meant b after name index given id fields valid chosen e =
    let ok = accepted (first_refusal (insert_causes b name index given)) (changed_by (with_inserted_sheet index (unwrap_or (chosen_id (core_of b) given) 0) name) b) after [] fields e in
    let clear = none_holds (insert_causes b name index given) ok.0 in
    let core = core_valid b valid in
    ap core_of ok.1 ∙ ap (λ (o : Option ℕ). core_of (changed_by (with_inserted_sheet index (unwrap_or o 0) name) b)) chosen
    ∙ core_of-changed (with_inserted_sheet index id name) (with_sheet_among index id name) (core_of-inserted index id name) b
    ∙ ap (with_sheet_among index id name)
    (kept_naming (notations_in b) (core_of b) (scene_of (with_sheet_among index id name (core_of b))) id name (notations_are b.tables valid.tables) core
    (insert_naming (core_of b) index id name core.names_differ clear.1.0))
