-- What is found among sheets by their names and their ids.
use Rattle.std.proofs.Common.{◌≡◌, ℕ, zero, suc, ◌+◌, List, [], ◌∷◌, map, length, Bool, true, false, cond, not, ◌||◌, Option, Some, None, option_map, is_some, refl, sym, ap, subst, ◌∙◌, nat_eq, nat_lt, arith, inl, inr}
use Rattle.std.proofs.Math.Numerals.{one-add}
use Rattle.std.proofs.lemmas.Bool.{cases_Bool}
use Rattle.std.proofs.lemmas.Map.Keys.{IsDistinct-head, IsDistinct-tail}
use Rattle.std.specs.Cmp.{nat_eq_equiv}
use Rattle.std.specs.List.{AllByRecursion, IsDistinct, find, list_any, position, position_or_len, remove, slice_get}
use Rattle.ic_laws.proofs.CoreLemmas.{agrees_equiv}
use Rattle.ic_laws.specs.Name.{agrees, fold}
use Rattle.ic_sheets.specs.Search.{id_of}
use Rattle.ic_sheets.specs.declared.sheet.Sheet.{Sheet}

abbrev pub names : List Sheet → List (List ℕ)
names sheets = map (λ s. s.name) sheets

abbrev pub ids : List Sheet → List ℕ
ids sheets = map (λ s. s.id) sheets

-- the id of the first sheet that passes
abbrev pub found_id : (Sheet → Bool) → List Sheet → Option ℕ
found_id p sheets = option_map (λ s. s.id) (find p sheets)

-- what a search by a key finds is what a search by the name finds
pub id_of-found : (name : List ℕ) (sheets : List Sheet) → id_of (fold name) sheets ≡ found_id (λ s. agrees s.name name) sheets
id_of-found name [] = refl
id_of-found name (s ∷ sheets) =
    ap (λ b. cond b (Some s.id) (id_of (fold name) sheets)) (agrees_equiv.symm name s.name) ∙ step (agrees s.name name) (id_of-found name sheets)
  where
    step : (b : Bool) → id_of (fold name) sheets ≡ found_id (λ x. agrees x.name name) sheets → cond b (Some s.id) (id_of (fold name) sheets) ≡ option_map (λ (x : Sheet). x.id) (cond b (Some s) (find (λ x. agrees x.name name) sheets))
    step true rest = refl
    step false rest = rest

-- a name is taken where a sheet is found by it
pub taken_found : (name : List ℕ) (sheets : List Sheet) → is_some (found_id (λ s. agrees s.name name) sheets) ≡ list_any (agrees name) (names sheets)
taken_found name [] = refl
taken_found name (s ∷ sheets) = step (agrees s.name name) (taken_found name sheets) ∙ ap (λ b. b || list_any (agrees name) (names sheets)) (agrees_equiv.symm s.name name)
  where
    step : (b : Bool) → is_some (found_id (λ x. agrees x.name name) sheets) ≡ list_any (agrees name) (names sheets) → is_some (option_map (λ (x : Sheet). x.id) (cond b (Some s) (find (λ x. agrees x.name name) sheets))) ≡ (b || list_any (agrees name) (names sheets))
    step true rest = refl
    step false rest = rest

-- ---- by an id

-- what is found has none of the ids that differ from all
found_apart : (p : Sheet → Bool) (k id : ℕ) (sheets : List Sheet) → AllByRecursion (λ y. nat_eq k y ≡ false) (ids sheets) → found_id p sheets ≡ Some id → nat_eq k id ≡ false
found_apart p k id [] h e = cc
found_apart p k id (s ∷ sheets) h e =
    elim (cases_Bool (p s)) [
      | inl t ↦ let found : Some s.id ≡ Some id = rw t at e in let same : s.id ≡ id = cc in subst (λ x. nat_eq k x ≡ false) same h.0
      | inr f ↦ found_apart p k id sheets h.1 (rw f at e)
    ]

-- the sheet that a test finds stands where its id is first found
pub position_by_id : (p : Sheet → Bool) (id : ℕ) (sheets : List Sheet) → IsDistinct nat_eq (ids sheets) → found_id p sheets ≡ Some id → position_or_len (λ s. nat_eq s.id id) sheets ≡ position_or_len p sheets
position_by_id p id [] d e = refl
position_by_id p id (s ∷ sheets) d e =
    elim (cases_Bool (p s)) [
      | inl t ↦ let found : Some s.id ≡ Some id = rw t at e in let same : s.id ≡ id = cc in rw (t, same_is s.id id same) refl
      | inr f ↦
          let rest : found_id p sheets ≡ Some id = rw f at e in
          let apart = found_apart p s.id id sheets (IsDistinct-head nat_eq s.id (ids sheets) d) rest in
          rw (f, apart) (ap (λ n. 1 + n) (position_by_id p id sheets (IsDistinct-tail nat_eq s.id (ids sheets) d) rest))
    ]
  where
    same_is : (a b : ℕ) → a ≡ b → nat_eq a b ≡ true
    same_is a b e = grind (arith, e)

pub index_by_id : (p : Sheet → Bool) (id : ℕ) (sheets : List Sheet) → IsDistinct nat_eq (ids sheets) → found_id p sheets ≡ Some id → position (λ s. nat_eq s.id id) sheets ≡ position p sheets
index_by_id p id sheets d e = ap (λ n. cond (nat_lt n (length sheets)) (Some n) None) (position_by_id p id sheets d e)

-- where nothing is found there is no place
none_passes : (p : Sheet → Bool) (sheets : List Sheet) → found_id p sheets ≡ None → position_or_len p sheets ≡ length sheets
none_passes p [] e = refl
none_passes p (s ∷ sheets) e =
    elim (cases_Bool (p s)) [
      | inl t ↦ let no : Some s.id ≡ None = rw t at e in cc
      | inr f ↦ rw f (ap (λ n. 1 + n) (none_passes p sheets (rw f at e)) ∙ one-add (length sheets))
    ]

pub index_none : (p : Sheet → Bool) (sheets : List Sheet) → found_id p sheets ≡ None → position p sheets ≡ None
index_none p sheets e = ap (λ n. cond (nat_lt n (length sheets)) (Some n) None) (none_passes p sheets e) ∙ ap (λ b. cond b (Some (length sheets)) None) (not_less (length sheets))
  where
    not_less : (n : ℕ) → nat_lt n n ≡ false
    not_less n = grind arith

-- ---- a name that another sheet has

module _ (name : List ℕ) where
  abbrev has_name : Sheet → Bool
  has_name s = agrees s.name name

  abbrev others : List Sheet → ℕ → Bool
  others sheets index = list_any (agrees name) (remove (names sheets) index)

  -- nobody's is no other's
  pub free_for_all : (sheets : List Sheet) (index : ℕ) → found_id has_name sheets ≡ None → others sheets index ≡ false
  free_for_all [] zero e = refl
  free_for_all [] (suc index) e = refl
  free_for_all (s ∷ sheets) index e =
      elim (cases_Bool (has_name s)) [
        | inl t ↦ let no : Some s.id ≡ None = rw t at e in cc
        | inr f ↦ step index (sym (agrees_equiv.symm s.name name) ∙ f) (rw f at e) (λ i rest. free_for_all sheets i rest)
      ]
    where
      step : (index : ℕ) → agrees name s.name ≡ false → found_id has_name sheets ≡ None → ((i : ℕ) → found_id has_name sheets ≡ None → others sheets i ≡ false) → others (s ∷ sheets) index ≡ false
      step zero f rest more = sym (taken_found name sheets) ∙ ap is_some rest
      step (suc index) f rest more = ap (λ b. b || others sheets index) f ∙ more index rest

  -- past the end none is left out
  pub none_left_out : (sheets : List Sheet) (index : ℕ) → slice_get sheets index ≡ None → others sheets index ≡ list_any (agrees name) (names sheets)
  none_left_out [] zero e = refl
  none_left_out [] (suc index) e = refl
  none_left_out (s ∷ sheets) zero e = cc
  none_left_out (s ∷ sheets) (suc index) e = ap (λ b. agrees name s.name || b) (none_left_out sheets index e)

  -- after the first whose name agrees no name does
  only_one : (s : Sheet) (sheets : List Sheet) → AllByRecursion (λ y. agrees s.name y ≡ false) (names sheets) → agrees s.name name ≡ true → list_any (agrees name) (names sheets) ≡ false
  only_one s [] h t = refl
  only_one s (x ∷ sheets) h t =
      ap (λ b. b || list_any (agrees name) (names sheets)) (sym (agrees_equiv.congr s.name name x.name t) ∙ h.0) ∙ only_one s sheets h.1 t

  -- no other sheet has the id of this one
  id_apart : (sheets : List Sheet) (index id : ℕ) (s : Sheet) → AllByRecursion (λ y. nat_eq id y ≡ false) (ids sheets) → slice_get sheets index ≡ Some s → nat_eq s.id id ≡ false
  id_apart [] index id s h at = cc
  id_apart (x ∷ sheets) zero id s h at = let same : x ≡ s = cc in subst (λ (y : Sheet). nat_eq y.id id ≡ false) same (nat_eq_equiv.symm x.id id ∙ h.0)
  id_apart (x ∷ sheets) (suc index) id s h at = id_apart sheets index id s h.1 at

  same_id : (a b : ℕ) → a ≡ b → nat_eq a b ≡ true
  same_id a b e = grind (arith, e)

  -- where a sheet has it, it is another's where the ids differ
  pub another's : (sheets : List Sheet) (index id : ℕ) (s : Sheet) → IsDistinct agrees (names sheets) → IsDistinct nat_eq (ids sheets) → slice_get sheets index ≡ Some s → found_id has_name sheets ≡ Some id → not (nat_eq s.id id) ≡ others sheets index
  another's [] index id s d n at e = cc
  another's (x ∷ sheets) zero id s d n at e =
      let same : x ≡ s = cc in
      subst (λ (y : Sheet). not (nat_eq y.id id) ≡ others (x ∷ sheets) zero) same
      (elim (cases_Bool (has_name x)) [
        | inl t ↦
            let found : Some x.id ≡ Some id = rw t at e in
            let here : x.id ≡ id = cc in
            ap not (same_id x.id id here) ∙ sym (only_one x sheets (IsDistinct-head agrees x.name (names sheets) d) t)
        | inr f ↦
            let rest : found_id has_name sheets ≡ Some id = rw f at e in
            ap not (found_apart has_name x.id id sheets (IsDistinct-head nat_eq x.id (ids sheets) n) rest) ∙ sym (sym (taken_found name sheets) ∙ ap is_some rest)
      ])
  another's (x ∷ sheets) (suc index) id s d n at e =
      elim (cases_Bool (has_name x)) [
        | inl t ↦
            let found : Some x.id ≡ Some id = rw t at e in
            let here : x.id ≡ id = cc in
            ap not (subst (λ i. nat_eq s.id i ≡ false) here (id_apart sheets index x.id s (IsDistinct-head nat_eq x.id (ids sheets) n) at))
            ∙ sym (ap (λ b. b || others sheets index) (sym (agrees_equiv.symm x.name name) ∙ t))
        | inr f ↦
            another's sheets index id s (IsDistinct-tail agrees x.name (names sheets) d) (IsDistinct-tail nat_eq x.id (ids sheets) n) at (rw f at e)
            ∙ sym (ap (λ b. b || others sheets index) (sym (agrees_equiv.symm x.name name) ∙ f))
      ]
