-- What names and ids find among sheets, where one comes, gets another name, or goes.
use Rattle.std.proofs.Common.{◌≡◌, ℕ, suc, zero, List, [], ◌∷◌, ◌++◌, map, Bool, true, false, cond, ◌||◌, Option, None, Some, refl, sym, ap, subst, ◌∙◌, nat_eq, inl, inr, if◌then◌else◌}
use Rattle.std.specs.Prelude.{option_map, remove, slice_get}
use Rattle.std.specs.Option.{option_or}
use Rattle.std.specs.List.{AllByRecursion, IsDistinct, find, list_any}
use Rattle.std.proofs.lemmas.Bool.{cases_Bool, or_parts}
use Rattle.std.proofs.lemmas.List.{map-append}
use Rattle.std.proofs.lemmas.List.Folds.{find-append, list_any-append}
use Rattle.std.proofs.lemmas.Map.Keys.{IsDistinct-push}
use Rattle.std.proofs.lemmas.Simd.{map-map}
use Rattle.ic_laws.proofs.CoreLemmas.{agrees_equiv}
use Rattle.ic_laws.proofs.binding.SceneLemmas.{find_later}
use Rattle.ic_laws.proofs.keeping.Removing.{none_first}
use Rattle.ic_laws.proofs.keeping.SheetChanges.{has_id}
use Rattle.ic_laws.specs.CoreBook.{CoreBook, Sheet, names_of, scene_of}
use Rattle.ic_laws.specs.CoreStep.{updated_at}
use Rattle.ic_laws.specs.Name.{agrees}
use Rattle.ic_laws.specs.Scene.{SheetsDiffer}
use Rattle.ic_laws.specs.declared.scene.SheetName.{SheetName}

-- a sheet as formulas see it
abbrev pub seen : Sheet → SheetName
seen s = record { id = s.id; name = s.name }

abbrev pub all_seen : List Sheet → List SheetName
all_seen ss = map seen ss

-- the first of an agreeing name
abbrev pub finding : List SheetName → List ℕ → Option ℕ
finding ss typed = option_map (λ (s : SheetName). s.id) (find (λ s. agrees s.name typed) ss)

-- the sheets of a scene differ where those of the book do
pub sheets_differ : (book : CoreBook) → IsDistinct agrees (names_of book) → SheetsDiffer (scene_of book)
sheets_differ book h = subst (IsDistinct agrees) (sym (map-map (λ (x : SheetName). x.name) seen book.sheets)) h

pub nothing_found : (found : Option SheetName) → option_map (λ (s : SheetName). s.id) found ≡ None → found ≡ None
nothing_found None e = refl
nothing_found (Some s) e = absurd (let no : Some s.id ≡ None = e in cc)

-- a sheet comes at the end ----

pub push_differs : (ss : List Sheet) (s : Sheet) → IsDistinct agrees (map (λ (x : Sheet). x.name) ss) → list_any (agrees s.name) (map (λ (x : Sheet). x.name) ss) ≡ false → IsDistinct agrees (map (λ (x : Sheet). x.name) (ss ++ s ∷ []))
push_differs ss s h e = subst (IsDistinct agrees) (sym (map-append (λ (x : Sheet). x.name) ss (s ∷ []))) (IsDistinct-push agrees_equiv (map (λ (x : Sheet). x.name) ss) s.name h e)

pub push_has : (ss : List Sheet) (s : Sheet) (i : ℕ) → has_id i (all_seen ss) ≡ true → has_id i (all_seen (ss ++ s ∷ [])) ≡ true
push_has ss s i h = ap (has_id i) (map-append seen ss (s ∷ [])) ∙ (list_any-append (λ x. nat_eq x.id i) (all_seen ss) (seen s ∷ []) ∙ rw h refl)

pub push_finds : (ss : List Sheet) (s : Sheet) (typed : List ℕ) → finding (all_seen ss) typed ≡ None → finding (all_seen (ss ++ s ∷ [])) typed ≡ (if agrees s.name typed then Some s.id else None)
push_finds ss s typed e =
    let p : SheetName → Bool = λ x. agrees x.name typed in
    ap (λ xs. finding xs typed) (map-append seen ss (s ∷ []))
    ∙ (ap (option_map (λ (x : SheetName). x.id)) (find-append p (all_seen ss) (seen s ∷ []) ∙ ap (λ o. option_or o (find p (seen s ∷ []))) (nothing_found _ e))
    ∙ either (agrees s.name typed))
  where
    either : (b : Bool) → option_map (λ (x : SheetName). x.id) (cond b (Some (seen s)) None) ≡ (if b then Some s.id else None)
    either true = refl
    either false = refl

-- a sheet gets another name ----

abbrev pub renamed : List ℕ → Sheet → Sheet
renamed name s = record s { name = name }

module _ (name : List ℕ) where
  all_but_one : (P : List ℕ → Type 0) → P name → (ss : List Sheet) (index : ℕ) → AllByRecursion P (map (λ (x : Sheet). x.name) ss) → AllByRecursion P (map (λ (x : Sheet). x.name) (updated_at (renamed name) index ss))
  all_but_one P here [] index h = tt
  all_but_one P here (s ∷ ss) zero h = (here, h.1)
  all_but_one P here (s ∷ ss) (suc index) h = (h.0, all_but_one P here ss index h.1)

  none_agrees : (names : List (List ℕ)) → list_any (agrees name) names ≡ false → AllByRecursion (λ other. agrees name other ≡ false) names
  none_agrees [] e = tt
  none_agrees (n ∷ names) e = let parts = or_parts (agrees name n) _ e in (parts.0, none_agrees names parts.1)

  pub rename_differs : (ss : List Sheet) (index : ℕ) → IsDistinct agrees (map (λ (x : Sheet). x.name) ss) → list_any (agrees name) (remove (map (λ (x : Sheet). x.name) ss) index) ≡ false
      → IsDistinct agrees (map (λ (x : Sheet). x.name) (updated_at (renamed name) index ss))
  unfolding IsDistinct
  rename_differs [] index h e = tt
  rename_differs (s ∷ ss) zero h e = (none_agrees (map (λ (x : Sheet). x.name) ss) e, h.1)
  rename_differs (s ∷ ss) (suc index) h e =
      elim (cases_Bool (agrees name s.name)) [
        | inl t ↦ absurd (let no : true ≡ false = sym (rw t refl) ∙ e in cc)
        | inr f ↦
            let rest : list_any (agrees name) (remove (map (λ (x : Sheet). x.name) ss) index) ≡ false = rw f at e in
            (all_but_one (λ other. agrees s.name other ≡ false) (agrees_equiv.symm s.name name ∙ f) ss index h.0, rename_differs ss index h.1 rest)
      ]

  pub rename_has : (ss : List Sheet) (index i : ℕ) → has_id i (all_seen (updated_at (renamed name) index ss)) ≡ has_id i (all_seen ss)
  rename_has [] index i = refl
  rename_has (s ∷ ss) zero i = refl
  rename_has (s ∷ ss) (suc index) i = ap (λ b. nat_eq s.id i || b) (rename_has ss index i)

  pub rename_finds : (ss : List Sheet) (index : ℕ) (s : Sheet) (typed : List ℕ) → slice_get ss index ≡ Some s → finding (all_seen ss) typed ≡ None
      → finding (all_seen (updated_at (renamed name) index ss)) typed ≡ (if agrees name typed then Some s.id else None)
  rename_finds ss index s typed at none = go ss index at (nothing_found _ none)
    where
      p : SheetName → Bool
      p x = agrees x.name typed

      either : (x : Sheet) (xs : List Sheet) (b : Bool) → x ≡ s → find p (all_seen xs) ≡ None → option_map (λ (y : SheetName). y.id) (cond b (Some (seen (renamed name x))) (find p (all_seen xs))) ≡ (if b then Some s.id else None)
      either x xs true e f = ap (λ (y : Sheet). Some y.id) e
      either x xs false e f = ap (option_map (λ (y : SheetName). y.id)) f

      go : (xs : List Sheet) (index : ℕ) → slice_get xs index ≡ Some s → find p (all_seen xs) ≡ None → finding (all_seen (updated_at (renamed name) index xs)) typed ≡ (if agrees name typed then Some s.id else None)
      go [] index e f = absurd (let no : None ≡ Some s = e in cc)
      go (x ∷ xs) zero e f = let same : x ≡ s = cc in either x xs (agrees name typed) same (none_first p (seen x) (all_seen xs) f).1
      go (x ∷ xs) (suc index) e f =
          let parts = none_first p (seen x) (all_seen xs) f in
          ap (option_map (λ (y : SheetName). y.id)) (find_later p (seen x) (all_seen (updated_at (renamed name) index xs)) parts.0) ∙ go xs index e parts.1
