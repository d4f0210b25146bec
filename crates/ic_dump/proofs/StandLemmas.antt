-- The sheets that stand while a book is rebuilt: they have ids and names, all different, one of them is the first, and each
-- definition is local to one of them, or to none.
use Rattle.std.proofs.Common.{◌≡◌, ℕ, ◌+◌, ◌<◌, ◌^◌, List, [], ◌∷◌, ◌++◌, filter, flat_map, take, length, map, Bool, true, false, cond, ◌||◌, Option, None, Some, refl, sym, ap, ap₂, subst, ◌∙◌, arith, inl, inr, nat_eq}
use Rattle.std.proofs.lemmas.Bool.{cases_Bool, eq-eqb, eqb-true, not-true, or_parts}
use Rattle.std.proofs.lemmas.List.{length-map, length-take-le, map-append}
use Rattle.std.proofs.lemmas.List.FromFn.{length-map-range_with_len}
use Rattle.std.proofs.lemmas.List.Folds.{list_any-append}
use Rattle.std.proofs.lemmas.Map.Keys.{IsDistinct-cons}
use Rattle.std.proofs.lemmas.Simd.{map-map}
use Rattle.std.specs.Cmp.{nat_eq_equiv}
use Rattle.std.specs.Fmt.{decimal}
use Rattle.std.specs.List.{AllByRecursion, IsDistinct, list_any, range_with_len, zip}
use Rattle.std.specs.Option.{option_to_list}
use Rattle.ic_laws.proofs.CoreLemmas.{agrees_equiv}
use Rattle.ic_laws.proofs.core.KeptBook.{mentioned}
use Rattle.ic_laws.specs.CoreBook.{CoreBook, Definition, IsId, Sheet, ids_of, names_of, scene_of}
use Rattle.ic_laws.specs.Name.{agrees, is_sheet_name}
use Rattle.ic_laws.specs.Notations.{Notations}
use Rattle.ic_laws.specs.ValidCore.{IsScope, IsValidCore, IsValidDefinition, IsValidSheet}
use Rattle.ic_laws.specs.declared.scene.SheetName.{SheetName}
use Rattle.ic_machine.proofs.valid.ValidLemmas.{all_of}
use Rattle.ic_machine.proofs.bound.CopyKeys.{all_appended, all_in_map}
use Rattle.ic_dump.specs.Lines.{first_id, is_first}
use Rattle.ic_dump.specs.Passing.{free_numerals, is_free, other_ids, passing_ids, passing_sheets, scopes_of, sheet_named, standing_sheets, taken_names}
use Rattle.ic_dump.specs.Stages.{HasFewNames, HasNumerals}
use Rattle.ic_dump.proofs.ListLemmas.{IsOnly, back_holds, cut_differ, cut_holds, enough_left, filtered_differ, filtered_holds, front_holds, ids_of_zip, joined_differ, only_one, unmapped_holds}
use Rattle.ic_dump.proofs.NumeralLemmas.{decimals_differ, decimals_good}

-- The names. ----

none_differ : IsDistinct agrees []
unfolding IsDistinct
none_differ = tt

-- where none are asked for there are none
none_free : (count : ℕ) (taken : List (List ℕ)) → count ≡ 0 → free_numerals count taken ≡ []
none_free count taken e = ap (λ (n : ℕ). take n (filter (is_free taken) (map decimal (range_with_len 1 (count + length taken))))) e

module _ (count : ℕ) (taken : List (List ℕ)) (few : HasNumerals count taken) where
  abbrev numerals : List (List ℕ)
  numerals = map decimal (range_with_len 1 (count + length taken))

  differ : count + length taken < 2 ^ 64 → IsDistinct agrees numerals
  differ small = decimals_differ 1 (count + length taken) (omega (arith, small))

  pub free_many : length (free_numerals count taken) ≡ count
  free_many = elim few [
    | inl none ↦ ap length (none_free count taken none) ∙ sym none
    | inr small ↦
        let left = enough_left agrees_equiv numerals taken (differ small) in
        let all : length numerals ≡ count + length taken = length-map-range_with_len decimal 1 (count + length taken) in
        length-take-le count (filter (is_free taken) numerals) (omega (arith, left, all))
  ]

  pub free_differ : IsDistinct agrees (free_numerals count taken)
  free_differ = elim few [
    | inl none ↦ subst (IsDistinct agrees) (sym (none_free count taken none)) none_differ
    | inr small ↦ cut_differ agrees_equiv count (filter (is_free taken) numerals) (filtered_differ agrees_equiv (is_free taken) numerals (differ small))
  ]

  pub free_good : AllByRecursion (λ name. is_sheet_name name ≡ true) (free_numerals count taken)
  free_good = elim few [
    | inl none ↦ subst (AllByRecursion (λ name. is_sheet_name name ≡ true)) (sym (none_free count taken none)) tt
    | inr small ↦
        let Good : List ℕ → Type 0 = λ name. is_sheet_name name ≡ true in
        cut_holds Good count (filter (is_free taken) numerals)
        (filtered_holds Good (is_free taken) numerals
        (all_of Good (λ name. is_free taken name ≡ true → Good name) (λ name h e. h) numerals (decimals_good 1 (count + length taken) (omega (arith, small)))))
  ]

  each : {A : Type 0} (P : A → Type 0) → ((x : A) → P x) → (xs : List A) → AllByRecursion P xs
  each P h [] = tt
  each P h (x ∷ xs) = (h x, each P h xs)

  pub free_are : AllByRecursion (λ name. list_any (agrees name) taken ≡ false) (free_numerals count taken)
  free_are =
      let Free : List ℕ → Type 0 = λ name. list_any (agrees name) taken ≡ false in
      cut_holds Free count (filter (is_free taken) numerals)
      (filtered_holds Free (is_free taken) numerals (each (λ name. is_free taken name ≡ true → Free name) (λ name e. not-true (list_any (agrees name) taken) e) numerals))

-- The ids. ----

pub others_apart : (seen ids : List ℕ) → AllByRecursion (λ i. list_any (nat_eq i) seen ≡ false) (other_ids seen ids)
others_apart seen [] = tt
others_apart seen (id ∷ ids) = by_test (list_any (nat_eq id) seen) refl (others_apart seen ids) (others_apart (id ∷ seen) ids)
  where
    Apart : ℕ → Type 0
    Apart i = list_any (nat_eq i) seen ≡ false

    by_test : (t : Bool) → list_any (nat_eq id) seen ≡ t → AllByRecursion (λ i. list_any (nat_eq i) seen ≡ false) (other_ids seen ids) → AllByRecursion (λ i. list_any (nat_eq i) (id ∷ seen) ≡ false) (other_ids (id ∷ seen) ids)
        → AllByRecursion (λ i. list_any (nat_eq i) seen ≡ false) (cond t (other_ids seen ids) (id ∷ other_ids (id ∷ seen) ids))
    by_test true e old new = old
    by_test false e old new =
        (e, all_of (λ i. list_any (nat_eq i) (id ∷ seen) ≡ false) (λ i. list_any (nat_eq i) seen ≡ false) (λ i h. (or_parts (nat_eq i id) (list_any (nat_eq i) seen) h).1) (other_ids (id ∷ seen) ids) new)

pub others_differ : (seen ids : List ℕ) → IsDistinct nat_eq (other_ids seen ids)
unfolding IsDistinct
others_differ seen [] = tt
others_differ seen (id ∷ ids) = by_test (list_any (nat_eq id) seen) (others_differ seen ids) (others_differ (id ∷ seen) ids)
  where
    by_test : (t : Bool) → IsDistinct nat_eq (other_ids seen ids) → IsDistinct nat_eq (other_ids (id ∷ seen) ids) → IsDistinct nat_eq (cond t (other_ids seen ids) (id ∷ other_ids (id ∷ seen) ids))
    by_test true old new = old
    by_test false old new =
        IsDistinct-cons nat_eq id (other_ids (id ∷ seen) ids)
        (all_of (λ i. list_any (nat_eq i) (id ∷ seen) ≡ false) (λ i. nat_eq id i ≡ false) (λ i h. nat_eq_equiv.symm id i ∙ (or_parts (nat_eq i id) (list_any (nat_eq i) seen) h).0) (other_ids (id ∷ seen) ids) (others_apart (id ∷ seen) ids)) new

pub others_hold : (P : ℕ → Type 0) (seen ids : List ℕ) → AllByRecursion P ids → AllByRecursion P (other_ids seen ids)
others_hold P seen [] h = tt
others_hold P seen (id ∷ ids) h = by_test (list_any (nat_eq id) seen) (others_hold P seen ids h.1) (others_hold P (id ∷ seen) ids h.1)
  where
    by_test : (t : Bool) → AllByRecursion P (other_ids seen ids) → AllByRecursion P (other_ids (id ∷ seen) ids) → AllByRecursion P (cond t (other_ids seen ids) (id ∷ other_ids (id ∷ seen) ids))
    by_test true old new = old
    by_test false old new = (h.0, new)

swapped : (a b c : Bool) → ((a || b) || c) ≡ true → (b || (a || c)) ≡ true
swapped true true c e = refl
swapped true false c e = refl
swapped false true c e = refl
swapped false false c e = e

-- each of the ids is among the seen ones or the others
abbrev IsAmong : List ℕ → List ℕ → ℕ → Type 0
IsAmong seen rest i = (list_any (nat_eq i) seen || list_any (nat_eq i) rest) ≡ true

pub others_among : (seen ids : List ℕ) → AllByRecursion (IsAmong seen (other_ids seen ids)) ids
others_among seen [] = tt
others_among seen (id ∷ ids) = by_test (list_any (nat_eq id) seen) refl (others_among seen ids) (others_among (id ∷ seen) ids)
  where
    by_test : (t : Bool) → list_any (nat_eq id) seen ≡ t → AllByRecursion (IsAmong seen (other_ids seen ids)) ids → AllByRecursion (IsAmong (id ∷ seen) (other_ids (id ∷ seen) ids)) ids
        → AllByRecursion (IsAmong seen (cond t (other_ids seen ids) (id ∷ other_ids (id ∷ seen) ids))) (id ∷ ids)
    by_test true e old new = (rw e refl, old)
    by_test false e old new =
        let rest : List ℕ = other_ids (id ∷ seen) ids in (
          rw (e, eq-eqb id id refl) refl,
          all_of (IsAmong (id ∷ seen) rest) (IsAmong seen (id ∷ rest)) (λ i h. swapped (nat_eq i id) (list_any (nat_eq i) seen) (list_any (nat_eq i) rest) h) ids new,
        )

-- All of them. ----

abbrev pub id_of : SheetName → ℕ
id_of s = s.id

abbrev pub name_of : SheetName → List ℕ
name_of s = s.name

-- a scope is none, or the id of one of these sheets
abbrev pub HasPlace : List SheetName → Option ℕ → Type 0
HasPlace sheets None = Unit {0}
HasPlace sheets (Some id) = list_any (λ (s : SheetName). nat_eq s.id id) sheets ≡ true

-- a sheet has an id and a good name
pub record IsGood (s : SheetName) : Type 0 where
  pub id : IsId s.id
  pub name : is_sheet_name s.name ≡ true

pub record Stands (core : CoreBook) : Type 0 where
  pub ids : IsDistinct nat_eq (map id_of (standing_sheets core))
  pub names : IsDistinct agrees (map name_of (standing_sheets core))
  pub good : AllByRecursion IsGood (standing_sheets core)
  pub first : IsOnly is_first (standing_sheets core)
  pub scopes : AllByRecursion (λ (d : Definition). HasPlace (standing_sheets core) d.scope) core.definitions
  pub many : length (passing_sheets core) ≡ length (passing_ids core)
  pub apart : AllByRecursion (λ (s : SheetName). list_any (agrees s.name) (taken_names core) ≡ false) (passing_sheets core)

scopes_hold : (P : ℕ → Type 0) (ds : List Definition) → AllByRecursion (λ (d : Definition). AllByRecursion P (option_to_list d.scope)) ds → AllByRecursion P (flat_map (λ (d : Definition). option_to_list d.scope) ds)
scopes_hold P [] h = tt
scopes_hold P (d ∷ ds) h = all_appended P (option_to_list d.scope) (flat_map (λ (x : Definition). option_to_list x.scope) ds) h.0 (scopes_hold P ds h.1)

hold_scopes : (P : ℕ → Type 0) (ds : List Definition) → AllByRecursion P (flat_map (λ (d : Definition). option_to_list d.scope) ds) → AllByRecursion (λ (d : Definition). AllByRecursion P (option_to_list d.scope)) ds
hold_scopes P [] h = tt
hold_scopes P (d ∷ ds) h =
    let rest : List ℕ = flat_map (λ (x : Definition). option_to_list x.scope) ds in
    (front_holds P (option_to_list d.scope) rest h, hold_scopes P ds (back_holds P (option_to_list d.scope) rest h))

any_flipped : (id : ℕ) (sheets : List SheetName) → list_any (nat_eq id) (map id_of sheets) ≡ list_any (λ (s : SheetName). nat_eq s.id id) sheets
any_flipped id [] = refl
any_flipped id (s ∷ sheets) = rw (nat_eq_equiv.symm id s.id, any_flipped id sheets) refl

module _ (n : Notations) (core : CoreBook) (valid : IsValidCore n core) (few : HasFewNames core) where
  abbrev own : List SheetName
  own = (scene_of core).sheets

  abbrev ids : List ℕ
  ids = passing_ids core

  abbrev names : List (List ℕ)
  names = free_numerals (length (passing_ids core)) (taken_names core)

  abbrev pairs : List (ℕ × List ℕ)
  pairs = zip ids names

  apart_names : AllByRecursion (λ name. list_any (agrees name) (taken_names core) ≡ false) names
  apart_names = free_are (length ids) (taken_names core) few

  parts : (map (λ (p : ℕ × List ℕ). p.0) pairs ≡ ids) × (map (λ (p : ℕ × List ℕ). p.1) pairs ≡ names)
  parts = ids_of_zip ids names (free_many (length ids) (taken_names core) few)

  passing_id : map id_of (passing_sheets core) ≡ ids
  passing_id = map-map id_of sheet_named pairs ∙ parts.0

  passing_name : map name_of (passing_sheets core) ≡ names
  passing_name = map-map name_of sheet_named pairs ∙ parts.1

  own_id : map id_of own ≡ ids_of core
  own_id = map-map id_of mentioned core.sheets

  own_name : map name_of own ≡ names_of core
  own_name = map-map name_of mentioned core.sheets

  all_id : map id_of (standing_sheets core) ≡ ids_of core ++ ids
  all_id = map-append id_of own (passing_sheets core) ∙ ap₂ ◌++◌ own_id passing_id

  all_name : map name_of (standing_sheets core) ≡ names_of core ++ names
  all_name = map-append name_of own (passing_sheets core) ∙ ap₂ ◌++◌ own_name passing_name

  scopes_are : AllByRecursion IsId (scopes_of core)
  scopes_are =
      scopes_hold IsId core.definitions
      (all_of (IsValidDefinition n (scene_of core)) (λ (d : Definition). AllByRecursion IsId (option_to_list d.scope)) (λ d h. one d.scope h.scope) core.definitions valid.definitions)
    where
      one : (o : Option ℕ) → IsScope o → AllByRecursion IsId (option_to_list o)
      one None h = tt
      one (Some id) h = (h, tt)

  passing_are : AllByRecursion IsId ids
  passing_are = others_hold IsId (ids_of core) (scopes_of core ++ 1 ∷ []) (all_appended IsId (scopes_of core) (1 ∷ []) scopes_are ((omega (arith), omega (arith)), tt))

  all_good : AllByRecursion IsGood (standing_sheets core)
  all_good =
      all_appended IsGood own (passing_sheets core)
      (all_in_map mentioned IsGood core.sheets
      (all_of (IsValidSheet n (scene_of core)) (λ (s : Sheet). IsGood (mentioned s)) (λ s h. record { id = h.id; name = h.name }) core.sheets valid.sheets))
      (pairs_good (passing_sheets core) (subst (AllByRecursion IsId) (sym passing_id) passing_are) (subst (AllByRecursion (λ name. is_sheet_name name ≡ true)) (sym passing_name) (free_good (length ids) (taken_names core) few)))
    where
      pairs_good : (ss : List SheetName) → AllByRecursion IsId (map id_of ss) → AllByRecursion (λ name. is_sheet_name name ≡ true) (map name_of ss) → AllByRecursion IsGood ss
      pairs_good [] h g = tt
      pairs_good (s ∷ ss) h g = (record { id = h.0; name = g.0 }, pairs_good ss h.1 g.1)

  -- no passing name is that of a sheet
  others_named : AllByRecursion (λ name. list_any (agrees name) (names_of core) ≡ false) names
  others_named =
      all_of (λ name. list_any (agrees name) (taken_names core) ≡ false) (λ name. list_any (agrees name) (names_of core) ≡ false)
      (λ name h. (or_parts (list_any (agrees name) (names_of core)) _ (sym (list_any-append (agrees name) (names_of core) _) ∙ h)).0) names apart_names

  -- every id that is asked for is there
  asked_there : AllByRecursion (λ id. list_any (λ (s : SheetName). nat_eq s.id id) (standing_sheets core) ≡ true) (scopes_of core ++ 1 ∷ [])
  asked_there =
      all_of (IsAmong (ids_of core) ids) (λ id. list_any (λ (s : SheetName). nat_eq s.id id) (standing_sheets core) ≡ true)
      (λ id h. sym (any_flipped id (standing_sheets core)) ∙ ap (list_any (nat_eq id)) all_id ∙ list_any-append (nat_eq id) (ids_of core) ids ∙ h) (scopes_of core ++ 1 ∷ [])
      (others_among (ids_of core) (scopes_of core ++ 1 ∷ []))

  pub stands : Stands core
  stands = record {
    ids = subst (IsDistinct nat_eq) (sym all_id) (joined_differ nat_eq_equiv (ids_of core) ids valid.ids_differ (others_differ (ids_of core) (scopes_of core ++ 1 ∷ [])) (others_apart (ids_of core) (scopes_of core ++ 1 ∷ [])));
    names = subst (IsDistinct agrees) (sym all_name) (joined_differ agrees_equiv (names_of core) names valid.names_differ (free_differ (length ids) (taken_names core) few) others_named);
    good = all_good;
    first = only_first;
    scopes =
        all_of (λ (d : Definition). AllByRecursion (λ id. list_any (λ (s : SheetName). nat_eq s.id id) (standing_sheets core) ≡ true) (option_to_list d.scope)) (λ (d : Definition). HasPlace (standing_sheets core) d.scope)
        (λ d h. one d.scope h) core.definitions
        (hold_scopes (λ id. list_any (λ (s : SheetName). nat_eq s.id id) (standing_sheets core) ≡ true) core.definitions (front_holds _ (scopes_of core) (1 ∷ []) asked_there));
    many = length-map pairs sheet_named ∙ sym (length-map pairs (λ (p : ℕ × List ℕ). p.0)) ∙ ap length parts.0;
    apart = unmapped_holds name_of (λ name. list_any (agrees name) (taken_names core) ≡ false) (passing_sheets core) (subst (AllByRecursion (λ name. list_any (agrees name) (taken_names core) ≡ false)) (sym passing_name) apart_names);
  }
    where
      one : (o : Option ℕ) → AllByRecursion (λ id. list_any (λ (s : SheetName). nat_eq s.id id) (standing_sheets core) ≡ true) (option_to_list o) → HasPlace (standing_sheets core) o
      one None h = tt
      one (Some id) h = h.0

      not_first : (x y : SheetName) → is_first x ≡ true → nat_eq x.id y.id ≡ false → is_first y ≡ false
      not_first x y t f =
          elim (cases_Bool (is_first y)) [
            | inl g ↦ absurd (let no : nat_eq x.id y.id ≡ true = eq-eqb x.id y.id (eqb-true x.id first_id t ∙ sym (eqb-true y.id first_id g)) in cc)
            | inr g ↦ g
          ]

      only_first : IsOnly is_first (standing_sheets core)
      only_first =
          only_one is_first id_of nat_eq not_first (standing_sheets core)
          (subst (IsDistinct nat_eq) (sym all_id) (joined_differ nat_eq_equiv (ids_of core) ids valid.ids_differ (others_differ (ids_of core) (scopes_of core ++ 1 ∷ [])) (others_apart (ids_of core) (scopes_of core ++ 1 ∷ []))))
          (back_holds (λ id. list_any (λ (s : SheetName). nat_eq s.id id) (standing_sheets core) ≡ true) (scopes_of core) (1 ∷ []) asked_there).0
