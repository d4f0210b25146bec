-- Sheets that are made of plain records, one after another.
use Rattle.std.proofs.Common.{◌≡◌, ◌∙◌, ◌<◌, ◌≤◌, ◌+◌, ℕ, suc, List, [], ◌∷◌, ◌++◌, Bool, true, false, cond, ◌&&◌, ◌||◌, Option, Some, None, option_map, is_some, map, max, length, take, get_or, nat_eq, nat_lt, refl, sym, subst, ap, ap₂, arith}
use Rattle.std.proofs.lemmas.Bool.{ltb-false, ltb-true}
use Rattle.std.proofs.lemmas.List.{get_or_default, map-append, map_more}
use Rattle.std.specs.Cmp.{nat_eq_equiv}
use Rattle.std.specs.List.{AllByRecursion, AllWithin, list_any}
use Rattle.ic_laws.proofs.CoreLemmas.{above_greatest, agrees_equiv}
use Rattle.ic_laws.specs.CoreBook.{IsId}
use Rattle.ic_laws.specs.Greatest.{greatest}
use Rattle.ic_laws.specs.Name.{agrees}
use Rattle.ic_cells.specs.declared.sheet.Worksheet.{Worksheet}
use Rattle.ic_sheets.proofs.ApartLemmas.{AreFine, fine_next, fine_start, first_apart}
use Rattle.ic_sheets.proofs.KeptLemmas.{greatest_pushed}
use Rattle.ic_sheets.proofs.SearchLemmas.{ids, names}
use Rattle.ic_sheets.specs.Index.{dangles_at}
use Rattle.ic_sheets.proofs.HolderLemmas.{nothing_held}
use Rattle.ic_sheets.specs.Holders.{KnowsHolders}
use Rattle.ic_sheets.specs.Mentioners.{KnowsSheets}
use Rattle.ic_sheets.specs.declared.sheets.holders.Holders.{Holders}
use Rattle.ic_sheets.specs.Records.{HasApartNames, started}
use Rattle.ic_sheets.specs.Search.{index_with_id}
use Rattle.ic_sheets.specs.declared.mentioners.Mentioners.{Mentioners}
use Rattle.ic_sheets.specs.declared.sheet.Sheet.{Sheet}

abbrev pub name_in : Worksheet → List ℕ
name_in w = w.name

abbrev pub id_in : Worksheet → ℕ
id_in w = w.sheet_id

-- an id is found where a sheet has it
pub has_place : (id : ℕ) (sheets : List Sheet) → is_some (index_with_id id sheets) ≡ list_any (nat_eq id) (ids sheets)
has_place id [] = refl
has_place id (s ∷ sheets) = step (nat_eq s.id id) (index_with_id id sheets) ∙ ap₂ ◌||◌ (nat_eq_equiv.symm s.id id) (has_place id sheets)
  where
    step : (b : Bool) (o : Option ℕ) → is_some (cond b (Some 0) (option_map suc o)) ≡ (b || is_some o)
    step true o = refl
    step false None = refl
    step false (Some n) = refl

-- nothing is asked of a name alone
abbrev pub Any : Worksheet → Type 0
Any w = Unit {0}

-- ---- names, with ids that count from 1

module _ (ws : List Worksheet) where
  -- the sheets that were added have the names before this place
  pub record NamedTo (i : ℕ) (sheets : List Sheet) : Type 0 where
    pub named : names sheets ≡ map name_in (take i ws)
    pub below : greatest (ids sheets) ≤ i
    pub fine : AreFine agrees_equiv Any name_in ws i

  pub named_start : (sheets : List Sheet) → sheets ≡ [] → NamedTo 0 sheets
  named_start sheets none = record {
    named = ap names none;
    below = let e = ap (λ xs. greatest (ids xs)) none in omega (arith, e);
    fine = fine_start agrees_equiv Any name_in ws;
  }

  module _ (i next : ℕ) (w : Worksheet) (is_next : i + 1 ≡ next) (within : i < length ws) (item : w ≡ get_or ws i w) (sheets : List Sheet) (done : NamedTo i sheets) where
    pub id_free : list_any (nat_eq next) (ids sheets) ≡ false
    id_free = above_greatest next (ids sheets) (let e = done.below in omega (arith, e))

    pub named_next : (after : List Sheet) (s : Sheet) → s.name ≡ w.name → s.id ≡ next → list_any (agrees w.name) (names sheets) ≡ false → after ≡ sheets ++ s ∷ [] → NamedTo next after
    named_next after s same numbered free put = record {
      named = ap names put ∙ map-append (λ (x : Sheet). x.name) sheets (s ∷ []) ∙ ap₂ (λ xs (n : List ℕ). xs ++ n ∷ []) done.named same
          ∙ sym (ap (λ n. map name_in (take n ws)) (sym is_next) ∙ map_more name_in ws i w within ∙ ap (λ (y : Worksheet). map name_in (take i ws) ++ y.name ∷ []) (sym item));
      below =
          let e : greatest (ids after) ≡ max (greatest (ids sheets)) s.id = ap (λ xs. greatest (ids xs)) put ∙ ap greatest (map-append (λ (x : Sheet). x.id) sheets (s ∷ [])) ∙ sym (greatest_pushed (ids sheets) s.id) in
          let most = done.below in omega (arith, e, most, numbered);
      fine = fine_next agrees_equiv Any name_in ws i next w is_next within item done.fine tt (sym (ap (list_any (agrees w.name)) done.named) ∙ free);
    }

-- ---- the sheets with their own ids

abbrev pub HasId : Worksheet → Type 0
HasId w = IsId w.sheet_id

pub names_started : (ws : List Worksheet) → names (map started ws) ≡ map name_in ws
names_started [] = refl
names_started (w ∷ ws) = ap (λ ns. w.name ∷ ns) (names_started ws)

pub ids_started : (ws : List Worksheet) → ids (map started ws) ≡ map id_in ws
ids_started [] = refl
ids_started (w ∷ ws) = ap (λ ns. w.sheet_id ∷ ns) (ids_started ws)

module _ (ws : List Worksheet) (i : ℕ) (w : Worksheet) (within : i < length ws) (item : w ≡ get_or ws i w) where
  -- whether each so far has an id
  pub more_have : AllWithin HasId ws 0 i → HasId w → AllWithin HasId ws 0 (i + 1)
  more_have before here k d from lt = step (nat_lt k i) refl
    where
      step : (b : Bool) → nat_lt k i ≡ b → HasId (get_or ws k d)
      step true e = before k d from (ltb-true k i e)
      step false e =
          let le = ltb-false k i e in
          let same : i ≡ k = omega (arith, lt, le) in
          subst (λ n. HasId (get_or ws n d)) same (subst HasId (item ∙ get_or_default ws i w d within) here)

  module _ (sheets : List Sheet) (made : sheets ≡ map started (take i ws)) where
    pub started_next : (after : List Sheet) → after ≡ sheets ++ started w ∷ [] → after ≡ map started (take (i + 1) ws)
    started_next after put =
        put ∙ ap (λ xs. xs ++ started w ∷ []) made ∙ sym (map_more started ws i w within ∙ ap (λ y. map started (take i ws) ++ started y ∷ []) (sym item))

    pub name_free : HasApartNames ws → list_any (agrees w.name) (names sheets) ≡ false
    name_free apart = ap (λ xs. list_any (agrees w.name) (names xs)) made ∙ ap (list_any (agrees w.name)) (names_started (take i ws)) ∙ first_apart agrees_equiv name_in ws i w within item apart

pub all_have : (ws : List Worksheet) → ((k : ℕ) (d : Worksheet) → k < length ws → HasId (get_or ws k d)) → AllByRecursion HasId ws
all_have [] each = tt
all_have (w ∷ ws) each = (each 0 w (omega arith), all_have ws (λ k d lt. each (suc k) d (omega (arith, lt))))

-- nothing dangles in them
pub none_dangles : (id : ℕ) (ws : List Worksheet) → dangles_at id (map started ws) ≡ false
none_dangles id [] = refl
none_dangles id (w ∷ ws) = ap₂ ◌||◌ (never (nat_eq id w.sheet_id)) (none_dangles id ws)
  where
    never : (b : Bool) → (b && false) ≡ false
    never true = refl
    never false = refl

-- and what they mention is known, since they have no formulas
pub none_known : (mentioners : Mentioners) (ws : List Worksheet) → KnowsSheets mentioners (map started ws)
none_known mentioners [] = tt
none_known mentioners (w ∷ ws) = (tt, none_known mentioners ws)

-- nor do they hold cells
pub none_held : (holders : Holders) (ws : List Worksheet) → KnowsHolders holders (map started ws)
none_held holders [] = tt
none_held holders (w ∷ ws) = (λ has none. nothing_held, none_held holders ws)
