-- An accepted move.
use Rattle.std.proofs.Common.{◌≡◌, ℕ, zero, suc, ◌<◌, ◌≤◌, arith, List, [], ◌∷◌, ◌++◌, length, map, take, drop, Bool, true, cond, Option, None, Some, Ok, refl, sym, ap, subst, ◌∙◌, nat_eq, inl, inr}
use Rattle.std.specs.Prelude.{insert, remove, slice_get}
use Rattle.std.specs.Cmp.{nat_eq_equiv}
use Rattle.std.specs.Option.{option_or}
use Rattle.std.specs.List.{IsDistinct, find}
use Rattle.std.proofs.lemmas.Bool.{cases_Bool, eqb-true, ltb-true, not-false}
use Rattle.std.proofs.lemmas.List.{take-append-drop}
use Rattle.std.proofs.lemmas.List.Edits.{length-remove}
use Rattle.std.proofs.lemmas.List.Folds.{find-append}
use Rattle.std.proofs.lemmas.Option.{get_or_from_slice_get, slice_get_within}
use Rattle.std.proofs.lemmas.List.Sorted.{IsPermutation-insert, IsPermutation-remove, IsPermutation-trans}
use Rattle.ic_laws.proofs.binding.SceneLemmas.{find_later}
use Rattle.ic_laws.proofs.keeping.Accepted.{accepted, none_holds, sheet_at}
use Rattle.ic_laws.proofs.keeping.Removing.{finds_no_other}
use Rattle.ic_laws.specs.BookTrees.{IsMoved}
use Rattle.ic_laws.specs.Command.{Field}
use Rattle.ic_laws.specs.CoreBook.{CoreBook, Sheet}
use Rattle.ic_laws.specs.CoreStep.{lacks_sheet, move_refusal, move_step, moved, put_back}
use Rattle.ic_laws.specs.Notations.{Notations}
use Rattle.ic_laws.specs.Refusal.{SheetIndexTooLarge, TargetTooLarge}
use Rattle.ic_laws.specs.ValidCore.{IsValidCore}

-- the list around one of its items
around : {X : Type 0} (xs : List X) (i : ℕ) (x : X) → slice_get xs i ≡ Some x → take i xs ++ x ∷ drop (suc i) xs ≡ xs
around [] i x e = absurd (let no : None ≡ Some x = e in cc)
around (y ∷ xs) zero x e = let same : y ≡ x = cc in ap (λ z. z ∷ xs) (sym same)
around (y ∷ xs) (suc i) x e = ap (λ zs. y ∷ zs) (around xs i x e)

-- an item among others that the test doesn't find where it finds that item
find_among : {X : Type 0} (p : X → Bool) (x : X) (front back : List X) → (p x ≡ true → find p (front ++ back) ≡ None) → find p (front ++ x ∷ back) ≡ cond (p x) (Some x) (find p (front ++ back))
find_among {X} p x front back none =
    elim (cases_Bool (p x)) [
      | inl t ↦
          let first : find p front ≡ None = fronts (find p front) (find p back) (sym (find-append p front back) ∙ none t) in
          find-append p front (x ∷ back) ∙ (ap (λ o. option_or o (find p (x ∷ back))) first ∙ rw t refl)
      | inr f ↦
          find-append p front (x ∷ back) ∙ (ap (option_or (find p front)) (find_later p x back f) ∙ (sym (find-append p front back) ∙ rw f refl))
    ]
  where
    fronts : (a b : Option X) → option_or a b ≡ None → a ≡ None
    fronts None b e = refl
    fronts (Some y) b e = absurd (let no : Some y ≡ None = e in cc)

-- an item that was put at a place stands there, before and after the others
pub insert_place : {X : Type 0} (xs : List X) (i : ℕ) (x : X) → i ≤ length xs → slice_get (insert xs i x) i ≡ Some x
insert_place xs zero x h = refl
insert_place [] (suc i) x h = absurd (omega (arith, h))
insert_place (y ∷ xs) (suc i) x h = insert_place xs i x (omega (arith, h))

insert_others : {X : Type 0} (xs : List X) (i : ℕ) (x : X) → i ≤ length xs → remove (insert xs i x) i ≡ xs
insert_others xs zero x h = refl
insert_others [] (suc i) x h = absurd (omega (arith, h))
insert_others (y ∷ xs) (suc i) x h = ap (λ zs. y ∷ zs) (insert_others xs i x (omega (arith, h)))

-- a sheet that is taken out and put back is found by its id, as each other
same_found : (ss : List Sheet) (from to id : ℕ) (s : Sheet) → IsDistinct nat_eq (map (λ (x : Sheet). x.id) ss) → slice_get ss from ≡ Some s
    → find (λ (x : Sheet). nat_eq x.id id) (insert (remove ss from) to s) ≡ find (λ (x : Sheet). nat_eq x.id id) ss
same_found ss from to id s differ at =
    let p : Sheet → Bool = λ x. nat_eq x.id id in
    let rest : List Sheet = remove ss from in
    let none : p s ≡ true → find p rest ≡ None = λ t. subst (λ i. find (λ (x : Sheet). nat_eq x.id i) rest ≡ None) (eqb-true s.id id t) (finds_no_other (λ (x : Sheet). x.id) nat_eq nat_eq_equiv.symm ss from s differ at) in
    let again : take to rest ++ drop to rest ≡ rest = take-append-drop to rest in
    find_among p s (take to rest) (drop to rest) (λ t. ap (find p) again ∙ none t)
    ∙ (ap (λ xs. cond (p s) (Some s) (find p xs)) again
    ∙ (sym (find_among p s (take from ss) (drop (suc from) ss) none)
    ∙ ap (find p) (around ss from s at)))

-- an accepted move
pub move_keeps : (n : Notations) (book after : CoreBook) (from to : ℕ) (fields : List Field) → IsValidCore n book → move_step book from to ≡ Ok (after, fields) → IsMoved from to book after
move_keeps n book after from to fields valid e =
    let ok = accepted (move_refusal book from to) (record book { sheets = moved from to book.sheets }) after [] fields e in
    let clear = none_holds ((lacks_sheet book from, SheetIndexTooLarge) ∷ (lacks_sheet book to, TargetTooLarge) ∷ []) ok.unrefused in
    let there = sheet_at book from clear.0 in
    let s : Sheet = there.0 in
    let rest : List Sheet = remove book.sheets from in
    let within : from < length book.sheets = slice_get_within book.sheets from s there.1 in
    let to_within : to ≤ length rest = let a = ltb-true to (length book.sheets) (not-false _ clear.1.0) in let b = length-remove book.sheets from within in omega (arith, a, b) in
    let result : after ≡ record book { sheets = insert rest to s } = ok.left ∙ ap (λ o. let b : CoreBook = record book { sheets = put_back to rest o } in b) there.1 in
    subst (IsMoved from to book) (sym result) (record {
      sheets = IsPermutation-trans book.sheets (s ∷ rest) (insert rest to s) (IsPermutation-remove book.sheets from s within (sym (get_or_from_slice_get book.sheets from s s there.1))) (IsPermutation-insert rest to s);
      found = λ id. same_found book.sheets from to id s valid.ids_differ there.1;
      place = insert_place rest to s to_within ∙ sym there.1;
      others = insert_others rest to s to_within;
      definitions = refl;
      locale = refl;
      language = refl;
    })
