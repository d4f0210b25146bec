-- What finds sheets and definitions by their names still does, where neither names nor keys change; what it finds; and that
-- numbers which are known to be taken still are, as sheets come and move; and the names that are left.
use Rattle.std.proofs.Common.{◌≡◌, ◌<◌, ◌∙◌, ℕ, List, [], ◌∷◌, ◌++◌, Bool, true, false, Option, Some, bytes_eq, cond, find, length, map, option_map}
use Rattle.std.proofs.Common.{refl, sym, ap, ap₂, subst}
use Rattle.std.proofs.lemmas.List.Edits.{insert_end}
use Rattle.std.proofs.lemmas.List.Sorted.{IsPermutation-map, list_any-IsPermutation}
use Rattle.std.proofs.lemmas.Simd.{map-map}
use Rattle.std.specs.List.{insert, list_any}
use Rattle.std.specs.Prelude.{remove}
use Rattle.ic_laws.proofs.core.Lists.{updated_seen, updated_unseen}
use Rattle.ic_laws.proofs.core.SheetMoved.{moved_permutes}
use Rattle.ic_laws.proofs.keeping.Removing.{remove_map}
use Rattle.ic_laws.specs.Changes.{Change}
use Rattle.ic_laws.specs.CoreBook.{Definition, spelling_of}
use Rattle.ic_laws.specs.CoreStep.{moved, updated_at}
use Rattle.ic_laws.specs.Name.{agrees, fold}
use Rattle.ic_laws.specs.Scene.{key_of}
use Rattle.ic_laws.specs.declared.scene.SheetName.{SheetName}
use Rattle.ic_laws.specs.declared.tree.NameKey.{NameKey}
use Rattle.ic_definitions.specs.Named.{key_in}
use Rattle.ic_pool.proofs.PlaceLemmas.{inserted_passes}
use Rattle.ic_sheets.proofs.KeptLemmas.{finds_same}
use Rattle.ic_sheets.proofs.SearchLemmas.{ids, names}
use Rattle.ic_sheets.specs.Rewriting.{changed_pool, sheets_of}
use Rattle.ic_sheets.specs.Search.{id_of}
use Rattle.ic_sheets.specs.Sheet.{Sheet, sheet_of}
use Rattle.ic_sheets.specs.declared.sheet.Sheet.{Sheet as HeldSheet}
use Rattle.ic_parts.specs.Names.{IsIndexed}
use Rattle.ic_parts.specs.Scene.{named}
use Rattle.ic_parts.specs.SheetNames.{KnowsNumbers}
use Rattle.ic_parts.specs.declared.names.NameIndex.{NameIndex}
use Rattle.ic_parts.specs.declared.taken_numbers.TakenNumbers.{TakenNumbers}
use Rattle.ic_parts.proofs.TakenLemmas.{knows_more}
use Rattle.ic_laws.proofs.General.{bytes_eq-flip, insert-map as inserted_seen}

-- ---- other sheets of the same names and ids

module _ (index : NameIndex) (ws now : List HeldSheet) (ds : List Definition) (was : IsIndexed index ws ds) where
  pub indexed_same : names now ≡ names ws → ids now ≡ ids ws → IsIndexed index now ds
  indexed_same same_names same_ids = record {
    sheets = finds_same index.sheets ws now was.sheets same_names same_ids;
    names = was.names;
    numbers = subst (KnowsNumbers index.numbers) (sym same_names) was.numbers;
  }

  -- one of them holds something else
  pub indexed_updated : (change : HeldSheet → HeldSheet) (at : ℕ) → now ≡ updated_at change at ws → ((s : HeldSheet) → named (change s) ≡ named s) → IsIndexed index now ds
  indexed_updated change at is same =
      indexed_same
      (ap names is ∙ updated_unseen (λ (s : HeldSheet). s.name) change (λ s. ap (λ (m : SheetName). m.name) (same s)) at ws)
      (ap ids is ∙ updated_unseen (λ (s : HeldSheet). s.id) change (λ s. ap (λ (m : SheetName). m.id) (same s)) at ws)

  -- they are the same beside what finds their formulas
  pub indexed_seen : sheets_of now ≡ sheets_of ws → IsIndexed index now ds
  indexed_seen same = indexed_same (seen_name now ∙ ap (map (λ (s : Sheet). s.name)) same ∙ sym (seen_name ws)) (seen_id now ∙ ap (map (λ (s : Sheet). s.id)) same ∙ sym (seen_id ws))
    where
      seen_name : (xs : List HeldSheet) → names xs ≡ map (λ (s : Sheet). s.name) (sheets_of xs)
      seen_name [] = refl
      seen_name (x ∷ xs) = ap (λ (rest : List (List ℕ)). x.name ∷ rest) (seen_name xs)

      seen_id : (xs : List HeldSheet) → ids xs ≡ map (λ (s : Sheet). s.id) (sheets_of xs)
      seen_id [] = refl
      seen_id (x ∷ xs) = ap (λ (rest : List ℕ). x.id ∷ rest) (seen_id xs)

  -- a change went over their formulas
  pub indexed_changed : (change : Change) → sheets_of now ≡ map (changed_pool change) (sheets_of ws) → IsIndexed index now ds
  indexed_changed change made = indexed_same (changed_name now ws made) (changed_id now ws made)
    where
      changed_name : (xs ys : List HeldSheet) → sheets_of xs ≡ map (changed_pool change) (sheets_of ys) → names xs ≡ names ys
      changed_name [] [] e = refl
      changed_name [] (y ∷ ys) e = cc
      changed_name (x ∷ xs) [] e = cc
      changed_name (x ∷ xs) (y ∷ ys) e =
          let first : sheet_of x ≡ changed_pool change (sheet_of y) = cc in
          let rest : sheets_of xs ≡ map (changed_pool change) (sheets_of ys) = cc in
          ap₂ (λ (n : List ℕ) (ns : List (List ℕ)). n ∷ ns) (ap (λ (s : Sheet). s.name) first) (changed_name xs ys rest)

      changed_id : (xs ys : List HeldSheet) → sheets_of xs ≡ map (changed_pool change) (sheets_of ys) → ids xs ≡ ids ys
      changed_id [] [] e = refl
      changed_id [] (y ∷ ys) e = cc
      changed_id (x ∷ xs) [] e = cc
      changed_id (x ∷ xs) (y ∷ ys) e =
          let first : sheet_of x ≡ changed_pool change (sheet_of y) = cc in
          let rest : sheets_of xs ≡ map (changed_pool change) (sheets_of ys) = cc in
          ap₂ (λ (n : ℕ) (ns : List ℕ). n ∷ ns) (ap (λ (s : Sheet). s.id) first) (changed_id xs ys rest)

-- ---- numbers that are known to be taken

module _ (numbers : TakenNumbers) (ws now : List HeldSheet) (known : KnowsNumbers numbers (names ws)) where
  -- a sheet came
  pub knows_put : (place : ℕ) (name : List ℕ) → names now ≡ insert (names ws) place name → KnowsNumbers numbers (names now)
  knows_put place name is =
      subst (KnowsNumbers numbers) (sym is)
      (knows_more (names ws) (insert (names ws) place name) (λ q. inserted_passes (agrees q) (names ws) place name) numbers known)

  -- a change went over the formulas of the others
  pub knows_inserted : (change : Change) (place : ℕ) (s : Sheet) → sheets_of now ≡ insert (map (changed_pool change) (sheets_of ws)) place s
      → KnowsNumbers numbers (names now)
  knows_inserted change place s is =
      knows_put place s.name
      (sym (map-map (λ (x : Sheet). x.name) sheet_of now) ∙ ap (map (λ (x : Sheet). x.name)) is
      ∙ inserted_seen (λ (x : Sheet). x.name) (map (changed_pool change) (sheets_of ws)) place s
      ∙ ap (λ (called : List (List ℕ)). insert called place s.name)
      (map-map (λ (x : Sheet). x.name) (changed_pool change) (sheets_of ws) ∙ map-map (λ (x : Sheet). x.name) sheet_of ws))

  pub knows_added : (change : Change) (s : Sheet) → sheets_of now ≡ map (changed_pool change) (sheets_of ws) ++ s ∷ [] → KnowsNumbers numbers (names now)
  knows_added change s is =
      let others : List Sheet = map (changed_pool change) (sheets_of ws) in
      knows_inserted change (length others) s (is ∙ sym (insert_end others s))

  -- a sheet got another place
  pub knows_moved : (from to : ℕ) → from < length ws → now ≡ moved from to ws → KnowsNumbers numbers (names now)
  knows_moved from to within is =
      knows_more (names ws) (names now)
      (λ q e.
      ap (λ (sheets : List HeldSheet). list_any (agrees q) (names sheets)) is
      ∙ sym (list_any-IsPermutation (agrees q) (names ws) (names (moved from to ws))
      (IsPermutation-map (λ (x : HeldSheet). x.name) ws (moved from to ws) (moved_permutes ws from to within))) ∙ e) numbers known

-- ---- names of sheets, as one goes or gets another name, and a change goes over the formulas of the others

module _ (ws now : List HeldSheet) (change : Change) where
  pub names_removed : (index : ℕ) → sheets_of now ≡ remove (map (changed_pool change) (sheets_of ws)) index → names now ≡ remove (names ws) index
  names_removed index is =
      sym (map-map (λ (x : Sheet). x.name) sheet_of now) ∙ ap (map (λ (x : Sheet). x.name)) is
      ∙ remove_map (λ (x : Sheet). x.name) (map (changed_pool change) (sheets_of ws)) index
      ∙ ap (λ (called : List (List ℕ)). remove called index)
      (map-map (λ (x : Sheet). x.name) (changed_pool change) (sheets_of ws) ∙ map-map (λ (x : Sheet). x.name) sheet_of ws)

  pub names_renamed : (index : ℕ) (name : List ℕ)
      → sheets_of now ≡ updated_at (λ (s : Sheet). record s { name = name }) index (map (changed_pool change) (sheets_of ws))
      → names now ≡ updated_at (λ (was : List ℕ). name) index (names ws)
  names_renamed index name is =
      sym (map-map (λ (x : Sheet). x.name) sheet_of now) ∙ ap (map (λ (x : Sheet). x.name)) is
      ∙ updated_seen (λ (x : Sheet). x.name) (λ (s : Sheet). record s { name = name }) (λ (was : List ℕ). name) (λ s. refl) index
      (map (changed_pool change) (sheets_of ws))
      ∙ ap (updated_at (λ (was : List ℕ). name) index)
      (map-map (λ (x : Sheet). x.name) (changed_pool change) (sheets_of ws) ∙ map-map (λ (x : Sheet). x.name) sheet_of ws)

-- ---- contents of which the formulas can mention the same

pub named_names : (ws : List HeldSheet) → map (λ (m : SheetName). m.name) (map named ws) ≡ names ws
named_names [] = refl
named_names (s ∷ ws) = ap (λ (rest : List (List ℕ)). s.name ∷ rest) (named_names ws)

pub named_ids : (ws : List HeldSheet) → map (λ (m : SheetName). m.id) (map named ws) ≡ ids ws
named_ids [] = refl
named_ids (s ∷ ws) = ap (λ (rest : List ℕ). s.id ∷ rest) (named_ids ws)

pub spelled_keys : (ds : List Definition) → map key_of (map spelling_of ds) ≡ map key_in ds
spelled_keys [] = refl
spelled_keys (d ∷ ds) = ap (λ (rest : List NameKey). key_in d ∷ rest) (spelled_keys ds)

-- ---- what it finds, as a plain search tells it

pub sheet_found : (ws : List HeldSheet) (key : List ℕ) → id_of key ws ≡ option_map (λ (s : Sheet). s.id) (find (λ (s : Sheet). bytes_eq (fold s.name) key) (map sheet_of ws))
sheet_found [] key = refl
sheet_found (s ∷ ws) key = ap₂ (λ (b : Bool) (rest : Option ℕ). cond b (Some s.id) rest) (bytes_eq-flip key (fold s.name)) (sheet_found ws key) ∙ step (bytes_eq (fold s.name) key)
  where
    step : (b : Bool) → cond b (Some s.id) (option_map (λ (x : Sheet). x.id) (find (λ (x : Sheet). bytes_eq (fold x.name) key) (map sheet_of ws))) ≡ option_map (λ (x : Sheet). x.id) (cond b (Some (sheet_of s)) (find (λ (x : Sheet). bytes_eq (fold x.name) key) (map sheet_of ws)))
    step true = refl
    step false = refl
