-- The search for what an update captures: sheet by sheet.
use Rattle.std.proofs.Common.{◌≡◌, ◌++◌, ◌<◌, ◌≤◌, append_assoc, ℕ, zero, suc, length, List, [], ◌∷◌, Bool, true, false, cond, drop, Option, Some, None, get_or, map, nat_eq, refl, sym, ap, ap₂, ◌∙◌, subst, arith}
use Rattle.std.proofs.lemmas.Bool.{eqb-true, or_parts}
use Rattle.std.proofs.lemmas.List.{append-nil, drop_all, map-append}
use Rattle.std.proofs.lemmas.List.Folds.{list_any-append}
use Rattle.std.proofs.lemmas.List.Sorted.{IsPermutation-middle}
use Rattle.std.proofs.lemmas.Map.Keys.{IsDistinct-IsPermutation, IsDistinct-head, IsDistinct-tail}
use Rattle.std.specs.BTreeMap.{is_at}
use Rattle.std.specs.Cmp.{nat_eq_equiv}
use Rattle.std.specs.FinMap as finite
use Rattle.std.specs.List.{AllByRecursion, IsDistinct, find, list_any}
use Rattle.std.specs.Option.{option_map_or, unwrap_or}
use Rattle.std.specs.Ordering.{nat_cmp}
use Rattle.std.specs.Prelude.{IfSome, flat_map}
use Rattle.ic_laws.specs.CoreBook.{CellPlace}
use Rattle.ic_laws.specs.Keeping.{KeyChange}
use Rattle.ic_cells.specs.Cell.{cell_formula_index}
use Rattle.ic_cells.specs.declared.cell.Cell.{Cell}
use Rattle.ic_pool.specs.Rewrites.{RewritesState}
use Rattle.ic_sheets.proofs.MakesLemmas.{Own, found_all, own_ids, own_new, own_none}
use Rattle.ic_sheets.proofs.PartLemmas.{all_part, part_distinct}
use Rattle.ic_sheets.proofs.PlaceLemmas.{some_apart}
use Rattle.ic_sheets.specs.Index.{is_part}
use Rattle.ic_sheets.specs.Remade.{nothing, rewrites_of}
use Rattle.ic_sheets.specs.Rewriting.{own_rewrites}
use Rattle.ic_sheets.specs.declared.sheet.Sheet.{Sheet}
use Rattle.ic_parts.specs.Sites.{AreAlikePools, IsAlikeIn, captures_at, prepared_sites, sheet_sites, site_if, sites_in, sites_of_sheets}
use Rattle.ic_parts.specs.declared.sites.MentionSite.{MentionSite}
use Rattle.ic_parts.specs.declared.sites.MentionSite.TheVariants as sites

-- where no formula passes, no cell does
module _ (id : ℕ) (test : ℕ → Bool) (none : (index : ℕ) → test index ≡ false) where
  no_site : (place : CellPlace) (index : Option ℕ) → site_if id test place index ≡ []
  no_site place None = refl
  no_site place (Some index) = ap (λ b. let all : List MentionSite = cond b (sites.Cell id place.0 place.1 ∷ []) [] in all) (none index)

  pub no_sites : (es : List (CellPlace × Cell)) → sites_in id test es ≡ []
  no_sites [] = refl
  no_sites (e ∷ es) = ap₂ (λ (a b : List MentionSite). a ++ b) (no_site e.0 (cell_formula_index e.1)) (no_sites es)

-- the sites of cells are those by a test that answers the same
pub same_sites : (id : ℕ) (test other : ℕ → Bool) (es all : List (CellPlace × Cell)) → ((index : ℕ) → test index ≡ other index) → es ≡ all → sites_in id test es ≡ sites_in id other all
same_sites id test other es all same entries = ap₂ (λ (t : ℕ → Bool) (xs : List (CellPlace × Cell)). sites_in id t xs) (λ i k. same k i) entries

-- no place is among none
pub none_placed : (places : List ℕ) (index : ℕ) → length places ≡ 0 → list_any (is_at (nat_cmp index)) places ≡ false
none_placed [] index e = refl
none_placed (p ∷ places) index e = cc

-- ---- what was prepared for some sheets, in their order

abbrev ids_of : List Sheet → List ℕ
ids_of sheets = map (λ s. s.id) sheets

-- what was prepared for an id is found by it
own_here : (front ps all : Own) → all ≡ front ++ ps → IsDistinct nat_eq (own_ids all) → AllByRecursion (λ p. own_rewrites p.0 all ≡ Some p.1) ps
own_here front [] all e d = tt
own_here front (p ∷ ps) all e d = (
  ap (own_rewrites p.0) e ∙ own_new p.0 front (p ∷ ps) (own_none p.0 front free) ∙ ap (λ b. cond b (Some p.1) (own_rewrites p.0 ps)) (nat_eq_equiv.refl p.0),
  own_here (front ++ p ∷ []) ps all (e ∙ sym (append_assoc front (p ∷ []) ps)) d,
)
  where
    apart : IsDistinct nat_eq (p.0 ∷ (own_ids front ++ own_ids ps))
    apart =
        IsDistinct-IsPermutation nat_eq nat_eq_equiv.symm (own_ids front ++ p.0 ∷ own_ids ps) (p.0 ∷ (own_ids front ++ own_ids ps)) (IsPermutation-middle (own_ids front) p.0 (own_ids ps))
        (subst (IsDistinct nat_eq) (ap own_ids e ∙ map-append (λ p. p.0) front (p ∷ ps)) d)

    free : list_any (nat_eq p.0) (own_ids front) ≡ false
    free = (or_parts (list_any (nat_eq p.0) (own_ids front)) (list_any (nat_eq p.0) (own_ids ps)) (sym (list_any-append (nat_eq p.0) (own_ids front) (own_ids ps)) ∙ some_apart p.0 (own_ids front ++ own_ids ps) (IsDistinct-head nat_eq p.0 (own_ids front ++ own_ids ps) apart))).0

-- it keeps the shapes of the formulas of its sheet
pub prepared_alike : (ps : Own) (sheets : List Sheet) → AreAlikePools ps sheets → is_part (own_ids ps) (ids_of sheets) ≡ true → IsDistinct nat_eq (ids_of sheets)
    → AllByRecursion (λ p. IfSome (find (λ s. nat_eq s.id p.0) sheets) (λ s. AllByRecursion (IsAlikeIn s.pool.formulas) p.1.changes)) ps
prepared_alike ps sheets alike ordered differ = go ps (own_here [] ps ps refl (part_distinct (own_ids ps) (ids_of sheets) ordered differ))
  where
    found : (id : ℕ) (xs : List Sheet) (s : Sheet) → find (λ s. nat_eq s.id id) xs ≡ Some s → s.id ≡ id
    found id [] s e = cc
    found id (x ∷ xs) s e = step (nat_eq x.id id) refl e (found id xs s)
      where
        step : (b : Bool) → nat_eq x.id id ≡ b → cond b (Some x) (find (λ s. nat_eq s.id id) xs) ≡ Some s → (find (λ s. nat_eq s.id id) xs ≡ Some s → s.id ≡ id) → s.id ≡ id
        step true is e rest = let same : x ≡ s = cc in ap (λ (y : Sheet). y.id) (sym same) ∙ eqb-true x.id id is
        step false is e rest = rest e

    go : (qs : Own) → AllByRecursion (λ p. own_rewrites p.0 ps ≡ Some p.1) qs → AllByRecursion (λ p. IfSome (find (λ s. nat_eq s.id p.0) sheets) (λ s. AllByRecursion (IsAlikeIn s.pool.formulas) p.1.changes)) qs
    go [] h = tt
    go (q ∷ qs) h = (step (find (λ s. nat_eq s.id q.0) sheets) refl, go qs h.1)
      where
        step : (o : Option Sheet) → find (λ s. nat_eq s.id q.0) sheets ≡ o → IfSome o (λ s. AllByRecursion (IsAlikeIn s.pool.formulas) q.1.changes)
        step None e = tt
        step (Some s) e =
            subst (λ (w : RewritesState). AllByRecursion (IsAlikeIn s.pool.formulas) w.changes) (ap (λ o. unwrap_or o nothing) (ap (λ k. own_rewrites k ps) (found q.0 sheets s e) ∙ h.0))
            (found_all (λ (s : Sheet). AllByRecursion (IsAlikeIn s.pool.formulas) (rewrites_of ps s.id).changes) q.0 sheets s e alike)

-- one of them
pub prepared_at : (P : ℕ × RewritesState → Type 0) (ps : Own) (at : ℕ) (p : ℕ × RewritesState) → AllByRecursion P ps → at < length ps → p ≡ get_or ps at p → P p
prepared_at P [] at p h lt read = absurd (omega (arith, lt))
prepared_at P (q ∷ ps) zero p h lt read = subst P (sym read) h.0
prepared_at P (q ∷ ps) (suc at) p h lt read = prepared_at P ps at p h.1 (omega (arith, lt)) read

module _ (keys : KeyChange) where
  nothing_sites : (s : Sheet) → sheet_sites keys nothing s ≡ []
  nothing_sites s = no_sites s.id (captures_at keys s.pool.formulas []) (λ index. refl) (finite.entries s.grid.cells)

  -- the sites of sheets for which nothing was prepared
  none_sites : (xs : List Sheet) → sites_of_sheets keys [] xs ≡ []
  none_sites [] = refl
  none_sites (x ∷ xs) = ap₂ (λ (a b : List MentionSite). a ++ b) (nothing_sites x) (none_sites xs)

  -- a sheet more, which none of them is prepared for
  other_found : (x : Sheet) (xs : List Sheet) (ps : Own) → AllByRecursion (λ k. nat_eq x.id k ≡ false) (own_ids ps) → flat_map (prepared_sites keys (x ∷ xs)) ps ≡ flat_map (prepared_sites keys xs) ps
  other_found x xs [] h = refl
  other_found x xs (p ∷ ps) h =
      ap₂ (λ (a b : List MentionSite). a ++ b) (ap (λ b. option_map_or (sheet_sites keys p.1) (cond b (Some x) (find (λ s. nat_eq s.id p.0) xs)) []) h.0) (other_found x xs ps h.1)

  -- something prepared for none of these sheets
  other_prepared : (p : ℕ × RewritesState) (ps : Own) (xs : List Sheet) → AllByRecursion (λ k. nat_eq p.0 k ≡ false) (ids_of xs) → sites_of_sheets keys (p ∷ ps) xs ≡ sites_of_sheets keys ps xs
  other_prepared p ps [] h = refl
  other_prepared p ps (x ∷ xs) h =
      ap₂ (λ (a b : List MentionSite). a ++ b) (ap (λ b. sheet_sites keys (unwrap_or (cond b (Some p.1) (own_rewrites x.id ps)) nothing) x) (nat_eq_equiv.symm x.id p.0 ∙ h.0)) (other_prepared p ps xs h.1)

  -- those of all sheets are those of what was prepared
  pub in_order : (ps : Own) (xs : List Sheet) → is_part (own_ids ps) (ids_of xs) ≡ true → IsDistinct nat_eq (ids_of xs) → flat_map (prepared_sites keys xs) ps ≡ sites_of_sheets keys ps xs
  in_order [] xs e d = sym (none_sites xs)
  in_order (p ∷ ps) [] e d = cc
  in_order (p ∷ ps) (x ∷ xs) e d = step (nat_eq p.0 x.id) refl e (λ f. in_order ps xs f (IsDistinct-tail nat_eq x.id (ids_of xs) d)) (λ f. in_order (p ∷ ps) xs f (IsDistinct-tail nat_eq x.id (ids_of xs) d))
    where
      apart : AllByRecursion (λ k. nat_eq x.id k ≡ false) (ids_of xs)
      apart = IsDistinct-head nat_eq x.id (ids_of xs) d

      step : (b : Bool) → nat_eq p.0 x.id ≡ b → cond b (is_part (own_ids ps) (ids_of xs)) (is_part (own_ids (p ∷ ps)) (ids_of xs)) ≡ true
          → (is_part (own_ids ps) (ids_of xs) ≡ true → flat_map (prepared_sites keys xs) ps ≡ sites_of_sheets keys ps xs) → (is_part (own_ids (p ∷ ps)) (ids_of xs) ≡ true → flat_map (prepared_sites keys xs) (p ∷ ps) ≡ sites_of_sheets keys (p ∷ ps) xs)
          → flat_map (prepared_sites keys (x ∷ xs)) (p ∷ ps) ≡ sites_of_sheets keys (p ∷ ps) (x ∷ xs)
      step true is part one all =
          let its : nat_eq x.id p.0 ≡ true = nat_eq_equiv.symm x.id p.0 ∙ is in
          ap₂ (λ (a b : List MentionSite). a ++ b) (ap (λ b. option_map_or (sheet_sites keys p.1) (cond b (Some x) (find (λ s. nat_eq s.id p.0) xs)) []) its)
          (other_found x xs ps (all_part (λ k. nat_eq x.id k ≡ false) (own_ids ps) (ids_of xs) part apart) ∙ one part
          ∙ sym (other_prepared p ps xs (subst (λ n. AllByRecursion (λ k. nat_eq n k ≡ false) (ids_of xs)) (sym (eqb-true p.0 x.id is)) apart)))
          ∙ ap (λ b. sheet_sites keys (unwrap_or (cond b (Some p.1) (own_rewrites x.id ps)) nothing) x ++ sites_of_sheets keys (p ∷ ps) xs) (sym its)
      step false is part one all =
          let others = all_part (λ k. nat_eq x.id k ≡ false) (own_ids (p ∷ ps)) (ids_of xs) part apart in
          other_found x xs (p ∷ ps) others ∙ all part
          ∙ ap (λ (a : List MentionSite). a ++ sites_of_sheets keys (p ∷ ps) xs)
          (sym (ap (λ o. sheet_sites keys (unwrap_or o nothing) x) (own_none x.id (p ∷ ps) (some_apart x.id (own_ids (p ∷ ps)) others)) ∙ nothing_sites x))

  -- none is left past the last of them
  pub prepared_done : (ps : Own) (xs : List Sheet) (index : ℕ) (items all : List MentionSite) → length ps ≤ index → items ++ flat_map (prepared_sites keys xs) (drop index ps) ≡ all → items ≡ all
  prepared_done ps xs index items all end so_far =
      sym (append-nil items) ∙ ap (λ rest. items ++ rest) (sym (ap (flat_map (prepared_sites keys xs)) (drop_all index ps end))) ∙ so_far
