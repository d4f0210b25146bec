-- What was prepared for sheets, done by their ids after a sheet came or got another name.
use Rattle.std.proofs.Common.{◌≡◌, ℕ, zero, suc, ◌<◌, inl, inr, option_map, List, [], ◌∷◌, ◌++◌, Bool, true, false, cond, ◌||◌, Option, Some, None, map, length, get_or, slice_set, take, drop, nat_eq, refl, sym, ap, ap₂, subst, ◌∙◌, arith}
use Rattle.std.proofs.lemmas.Bool.{cases_Bool, eqb-true, or_parts}
use Rattle.std.proofs.lemmas.List.{append-nil, map-append}
use Rattle.std.proofs.lemmas.List.Sorted.{IsPermutation-middle}
use Rattle.std.proofs.lemmas.Map.Keys.{IsDistinct-IsPermutation, IsDistinct-head, IsDistinct-tail}
use Rattle.std.specs.Cmp.{nat_eq_equiv}
use Rattle.std.specs.List.{AllByRecursion, IsDistinct, insert, list_any, remove}
use Rattle.ic_laws.proofs.core.Lists.{removed_seen, updated_unseen}
use Rattle.ic_laws.specs.Changes.{Change}
use Rattle.ic_laws.specs.CoreStep.{updated_at}
use Rattle.ic_pool.specs.Rewrites.{FitsPool, RewritesState}
use Rattle.ic_sheets.proofs.IndexLemmas.{set_parts, split_at}
use Rattle.ic_pool.proofs.PlaceLemmas.{inserted_passes}
use Rattle.ic_sheets.proofs.InsertLemmas.{all_inserted}
use Rattle.ic_sheets.proofs.MakesLemmas.{Own, own_ids, own_new, own_none, own_other}
use Rattle.ic_sheets.proofs.PlaceLemmas.{alone, some_apart}
use Rattle.ic_sheets.proofs.RewritingLemmas.{called, sheet_called, sheets_called}
use Rattle.ic_sheets.proofs.SearchLemmas.{ids}
use Rattle.ic_sheets.specs.Index.{is_id, is_listed}
use Rattle.ic_sheets.specs.Rewriting.{FitOwn, FitsSheet, Makes, changed_pool, look_ups, looks_up_after, own_rewrites, rewritten_if, sheets_of, with_own_rewrites, with_rewrites}
use Rattle.ic_sheets.specs.Search.{index_with_id}
use Rattle.ic_sheets.specs.Sheet.{sheet_of}
use Rattle.ic_sheets.specs.declared.sheet.Sheet.{Sheet as HeldSheet}
use Rattle.ic_pool.proofs.KeyLemmas.{clash}
use Rattle.ic_laws.proofs.General.{insert-map as inserted_seen}

-- ---- done from the last one on

pub same_ids : (ps : Own) (sheets : List HeldSheet) → ids (with_own_rewrites ps sheets) ≡ ids sheets
same_ids ps [] = refl
same_ids ps (s ∷ sheets) = ap₂ ◌∷◌ (step (own_rewrites s.id ps)) (same_ids ps sheets)
  where
    step : (o : Option RewritesState) → (rewritten_if o s).id ≡ s.id
    step None = refl
    step (Some w) = refl

pub same_names : (ps : Own) (sheets : List HeldSheet) → map (λ (s : HeldSheet). s.name) (with_own_rewrites ps sheets) ≡ map (λ (s : HeldSheet). s.name) sheets
same_names ps [] = refl
same_names ps (s ∷ sheets) = ap₂ ◌∷◌ (step (own_rewrites s.id ps)) (same_names ps sheets)
  where
    step : (o : Option RewritesState) → (rewritten_if o s).name ≡ s.name
    step None = refl
    step (Some w) = refl

distinct_init : (xs : List ℕ) (y : ℕ) → IsDistinct nat_eq (xs ++ y ∷ []) → IsDistinct nat_eq xs × (list_any (nat_eq y) xs ≡ false)
distinct_init xs y d =
    let turned : IsDistinct nat_eq (y ∷ (xs ++ [])) = IsDistinct-IsPermutation nat_eq nat_eq_equiv.symm (xs ++ y ∷ []) (y ∷ (xs ++ [])) (IsPermutation-middle xs y []) d in
    let first : IsDistinct nat_eq (y ∷ xs) = subst (λ ys. IsDistinct nat_eq (y ∷ ys)) (append-nil xs) turned in
    (IsDistinct-tail nat_eq y xs first, some_apart y xs (IsDistinct-head nat_eq y xs first))

known_init : (P : ℕ × RewritesState → Type 0) (ps more : Own) → AllByRecursion P (ps ++ more) → AllByRecursion P ps
known_init P [] more h = tt
known_init P (p ∷ ps) more h = (h.0, known_init P ps more h.1)

-- a sheet that was found by its id
place_within : (id : ℕ) (sheets : List HeldSheet) (i : ℕ) → index_with_id id sheets ≡ Some i → (i < length sheets) × ((s : HeldSheet) → s ≡ get_or sheets i s → s.id ≡ id)
place_within id [] i e = cc
place_within id (x ∷ sheets) i e = step (nat_eq x.id id) refl (index_with_id id sheets) refl e (place_within id sheets)
  where
    step : (b : Bool) → nat_eq x.id id ≡ b → (o : Option ℕ) → index_with_id id sheets ≡ o → cond b (Some 0) (option_map suc o) ≡ Some i
        → ((k : ℕ) → index_with_id id sheets ≡ Some k → (k < length sheets) × ((s : HeldSheet) → s ≡ get_or sheets k s → s.id ≡ id)) → (i < length (x ∷ sheets)) × ((s : HeldSheet) → s ≡ get_or (x ∷ sheets) i s → s.id ≡ id)
    step true is o at e rest =
        let first : 0 ≡ i = cc in
        subst (λ i. (i < length (x ∷ sheets)) × ((s : HeldSheet) → s ≡ get_or (x ∷ sheets) i s → s.id ≡ id)) first (omega arith, λ s r. ap (λ (y : HeldSheet). y.id) r ∙ eqb-true x.id id is)
    step false is None at e rest = cc
    step false is (Some k) at e rest =
        let next : suc k ≡ i = cc in
        let later = rest k at in
        subst (λ i. (i < length (x ∷ sheets)) × ((s : HeldSheet) → s ≡ get_or (x ∷ sheets) i s → s.id ≡ id)) next (omega (arith, later.0), later.1)

pub no_sheet : (id : ℕ) (sheets : List HeldSheet) → index_with_id id sheets ≡ None → list_any (nat_eq id) (ids sheets) ≡ false
no_sheet id [] e = refl
no_sheet id (x ∷ sheets) e = step (nat_eq x.id id) refl (index_with_id id sheets) refl e (no_sheet id sheets)
  where
    step : (b : Bool) → nat_eq x.id id ≡ b → (o : Option ℕ) → index_with_id id sheets ≡ o → cond b (Some 0) (option_map suc o) ≡ None → (index_with_id id sheets ≡ None → list_any (nat_eq id) (ids sheets) ≡ false) → (nat_eq id x.id || list_any (nat_eq id) (ids sheets)) ≡ false
    step true is o at e rest = cc
    step false is None at e rest = ap₂ ◌||◌ (nat_eq_equiv.symm id x.id ∙ is) (rest at)
    step false is (Some k) at e rest = cc

-- nothing is left to be done
pub nothing_left : (ps : Own) (sheets : List HeldSheet) → length ps ≡ 0 → with_own_rewrites ps sheets ≡ sheets
nothing_left (p ∷ ps) sheets e = absurd (omega (arith, e))
nothing_left [] [] e = refl
nothing_left [] (s ∷ sheets) e = ap (λ (xs : List HeldSheet). s ∷ xs) (nothing_left [] sheets e)

-- the last of them is taken
module _ (all ps : Own) (id : ℕ) (w : RewritesState) (sheets : List HeldSheet) (popped : all ≡ ps ++ (id, w) ∷ []) (fits : FitOwn all sheets) where
  abbrev both : Own
  both = ps ++ (id, w) ∷ []

  fit_both : FitOwn both sheets
  fit_both = subst (λ ps. FitOwn ps sheets) popped fits

  init : IsDistinct nat_eq (own_ids ps) × (list_any (nat_eq id) (own_ids ps) ≡ false)
  init = distinct_init (own_ids ps) id (subst (IsDistinct nat_eq) (map-append (λ p. p.0) ps ((id, w) ∷ [])) fit_both.differ)

  own_last : own_rewrites id both ≡ Some w
  own_last = own_new id ps ((id, w) ∷ []) (own_none id ps init.1) ∙ ap (λ b. cond b (Some w) None) (nat_eq_equiv.refl id)

  -- sheets with other ids
  others_left : (xs : List HeldSheet) → list_any (nat_eq id) (ids xs) ≡ false → with_own_rewrites ps xs ≡ with_own_rewrites both xs
  others_left [] e = refl
  others_left (x ∷ xs) e =
      let parts = or_parts (nat_eq id x.id) (list_any (nat_eq id) (ids xs)) e in
      ap₂ ◌∷◌ (ap (λ o. rewritten_if o x) (sym (own_other x.id id w ps (nat_eq_equiv.symm x.id id ∙ parts.0)))) (others_left xs parts.1)

  others_fit : (xs : List HeldSheet) → list_any (nat_eq id) (ids xs) ≡ false → AllByRecursion (λ s. FitsSheet (own_rewrites s.id both) s) xs → AllByRecursion (λ s. FitsSheet (own_rewrites s.id ps) s) xs
  others_fit [] e h = tt
  others_fit (x ∷ xs) e h =
      let parts = or_parts (nat_eq id x.id) (list_any (nat_eq id) (ids xs)) e in
      (subst (λ o. FitsSheet o x) (own_other x.id id w ps (nat_eq_equiv.symm x.id id ∙ parts.0)) h.0, others_fit xs parts.1 h.1)

  -- no sheet has the id
  pub missed : index_with_id id sheets ≡ None → (with_own_rewrites ps sheets ≡ with_own_rewrites all sheets) × FitOwn ps sheets
  missed none =
      let free = no_sheet id sheets none in (
        others_left sheets free ∙ ap (λ ps. with_own_rewrites ps sheets) (sym popped),
        record { known = known_init _ ps ((id, w) ∷ []) fit_both.known; differ = init.0; fits = others_fit sheets free fit_both.fits },
      )

  -- a sheet has it
  module _ (at : ℕ) (placed : index_with_id id sheets ≡ Some at) where
    pub own_within : at < length sheets
    own_within = (place_within id sheets at placed).0

    module _ (s : HeldSheet) (read : s ≡ get_or sheets at s) where
      its_id : s.id ≡ id
      its_id = (place_within id sheets at placed).1 s read

      abbrev front : List HeldSheet
      front = take at sheets

      abbrev back : List HeldSheet
      back = drop (suc at) sheets

      parts : sheets ≡ front ++ s ∷ back
      parts = split_at sheets at s own_within read

      own_of_it : own_rewrites s.id both ≡ Some w
      own_of_it = ap (λ k. own_rewrites k both) its_id ∙ own_last

      fit_parts : AllByRecursion (λ x. FitsSheet (own_rewrites x.id both) x) (front ++ s ∷ back)
      fit_parts = subst (AllByRecursion (λ x. FitsSheet (own_rewrites x.id both) x)) parts fit_both.fits

      pub own_fits : FitsPool w s.pool.formulas
      own_fits = subst (λ o. FitsSheet o s) own_of_it (inside front fit_parts)
        where
          inside : (xs : List HeldSheet) → AllByRecursion (λ x. FitsSheet (own_rewrites x.id both) x) (xs ++ s ∷ back) → FitsSheet (own_rewrites s.id both) s
          inside [] h = h.0
          inside (x ∷ xs) h = inside xs h.1

      pub own_done : IsDistinct nat_eq (ids sheets) → (t : HeldSheet) → t ≡ with_rewrites w s
          → (with_own_rewrites ps (slice_set sheets at t) ≡ with_own_rewrites all sheets) × FitOwn ps (slice_set sheets at t) × (ids (slice_set sheets at t) ≡ ids sheets)
      own_done differ t done = (
        ap (with_own_rewrites ps) set ∙ left front free ∙ sym (ap₂ with_own_rewrites popped parts),
        record {
          known = subst (λ ns. AllByRecursion (λ (p : ℕ × RewritesState). list_any (nat_eq p.0) ns ≡ true) ps) (sym ids_same) (known_init _ ps ((id, w) ∷ []) fit_both.known);
          differ = init.0;
          fits = subst (AllByRecursion (λ x. FitsSheet (own_rewrites x.id ps) x)) (sym set) (fit front free fit_parts);
        },
        ids_same,
      )
        where
          set : slice_set sheets at t ≡ front ++ t ∷ back
          set = set_parts sheets at t own_within

          id_same : t.id ≡ s.id
          id_same = ap (λ (x : HeldSheet). x.id) done

          ids_same : ids (slice_set sheets at t) ≡ ids sheets
          ids_same = ap ids set ∙ go front ∙ sym (ap ids parts)
            where
              go : (xs : List HeldSheet) → ids (xs ++ t ∷ back) ≡ ids (xs ++ s ∷ back)
              go [] = ap (λ n. n ∷ ids back) id_same
              go (x ∷ xs) = ap (λ ns. x.id ∷ ns) (go xs)

          free : list_any (nat_eq id) (ids (front ++ back)) ≡ false
          free = subst (λ k. list_any (nat_eq k) (ids (front ++ back)) ≡ false) its_id (alone front back s (subst (λ xs. IsDistinct nat_eq (ids xs)) parts differ))

          none_left : own_rewrites t.id ps ≡ None
          none_left = ap (λ k. own_rewrites k ps) (id_same ∙ its_id) ∙ own_none id ps init.1

          left : (xs : List HeldSheet) → list_any (nat_eq id) (ids (xs ++ back)) ≡ false → with_own_rewrites ps (xs ++ t ∷ back) ≡ with_own_rewrites both (xs ++ s ∷ back)
          left [] e = ap₂ ◌∷◌ (ap (λ o. rewritten_if o t) none_left ∙ done ∙ sym (ap (λ o. rewritten_if o s) own_of_it)) (others_left back e)
          left (x ∷ xs) e =
              let parts = or_parts (nat_eq id x.id) (list_any (nat_eq id) (ids (xs ++ back))) e in
              ap₂ ◌∷◌ (ap (λ o. rewritten_if o x) (sym (own_other x.id id w ps (nat_eq_equiv.symm x.id id ∙ parts.0)))) (left xs parts.1)

          fit : (xs : List HeldSheet) → list_any (nat_eq id) (ids (xs ++ back)) ≡ false → AllByRecursion (λ x. FitsSheet (own_rewrites x.id both) x) (xs ++ s ∷ back) → AllByRecursion (λ x. FitsSheet (own_rewrites x.id ps) x) (xs ++ t ∷ back)
          fit [] e h = (subst (λ o. FitsSheet o t) (sym none_left) tt, others_fit back e h.1)
          fit (x ∷ xs) e h =
              let parts = or_parts (nat_eq id x.id) (list_any (nat_eq id) (ids (xs ++ back))) e in
              (subst (λ o. FitsSheet o x) (own_other x.id id w ps (nat_eq_equiv.symm x.id id ∙ parts.0)) h.0, fit xs parts.1 h.1)

-- ---- whole changes

pub deleted_made : (change : Change) (ps : Own) (old new : List HeldSheet) (index : ℕ) → Makes change ps old → new ≡ remove (with_own_rewrites ps old) index → sheets_of new ≡ remove (map (changed_pool change) (sheets_of old)) index
deleted_made change ps old new index makes done = ap sheets_of done ∙ removed_seen sheet_of (with_own_rewrites ps old) index ∙ ap (λ xs. remove xs index) makes.made

pub deleted_looks_up : (change : Change) (ps : Own) (old new : List HeldSheet) (index : ℕ) → Makes change ps old → new ≡ remove (with_own_rewrites ps old) index → look_ups new ≡ remove (map (looks_up_after change) old) index
deleted_looks_up change ps old new index makes done =
    ap look_ups done ∙ removed_seen (λ (x : HeldSheet). x.pool.is_whole) (with_own_rewrites ps old) index ∙ ap (λ xs. remove xs index) makes.looks_up

module _ (change : Change) (ps : Own) (old : List HeldSheet) (makes : Makes change ps old) where
  -- nothing was prepared for an id that no sheet has
  pub fresh_own : (q : ℕ) → is_id q old ≡ false → own_rewrites q ps ≡ None
  fresh_own q fresh = own_none q ps (go ps makes.fits.known)
    where
      go : (ps : Own) → AllByRecursion (λ p. is_id p.0 old ≡ true) ps → is_listed q (own_ids ps) ≡ false
      go [] h = refl
      go (p ∷ ps) h =
          let other : nat_eq q p.0 ≡ false =
          elim (cases_Bool (nat_eq q p.0)) [
            | inl same ↦ absurd (clash (is_id p.0 old) h.0 (ap (λ k. is_id k old) (sym (eqb-true q p.0 same)) ∙ fresh))
            | inr other ↦ other
          ] in
          ap₂ ◌||◌ other (go ps h.1)

  module _ (index : ℕ) (s : HeldSheet) (fresh : is_id s.id old ≡ false) (between : List HeldSheet) (put : between ≡ insert old index s) where
    pub own_fits_inserted : FitOwn ps between
    own_fits_inserted = subst (FitOwn ps) (sym put) (record {
      known = more ps makes.fits.known;
      differ = makes.fits.differ;
      fits = all_inserted (λ x. FitsSheet (own_rewrites x.id ps) x) old index s makes.fits.fits (subst (λ o. FitsSheet o s) (sym (fresh_own s.id fresh)) tt);
    })
      where
        more : (ps : Own) → AllByRecursion (λ p. is_id p.0 old ≡ true) ps → AllByRecursion (λ p. is_id p.0 (insert old index s) ≡ true) ps
        more [] h = tt
        more (p ∷ ps) h = (ap (list_any (nat_eq p.0)) (inserted_seen (λ (x : HeldSheet). x.id) old index s) ∙ inserted_passes (nat_eq p.0) (ids old) index s.id h.0, more ps h.1)

    own_inserted : with_own_rewrites ps between ≡ insert (with_own_rewrites ps old) index s
    own_inserted =
        ap (with_own_rewrites ps) put ∙ inserted_seen (λ x. rewritten_if (own_rewrites x.id ps) x) old index s
        ∙ ap (λ o. insert (with_own_rewrites ps old) index (rewritten_if o s)) (fresh_own s.id fresh)

    pub inserted_made : sheets_of (with_own_rewrites ps between) ≡ insert (map (changed_pool change) (sheets_of old)) index (sheet_of s)
    inserted_made = ap sheets_of own_inserted ∙ inserted_seen sheet_of (with_own_rewrites ps old) index s ∙ ap (λ xs. insert xs index (sheet_of s)) makes.made

    pub inserted_looks_up : s.pool.is_whole ≡ true → look_ups (with_own_rewrites ps between) ≡ insert (map (looks_up_after change) old) index true
    inserted_looks_up whole = ap look_ups own_inserted ∙ inserted_seen (λ (x : HeldSheet). x.pool.is_whole) (with_own_rewrites ps old) index s ∙ ap₂ (λ bs b. insert bs index b) makes.looks_up whole

  module _ (index : ℕ) (name : List ℕ) where
    ids_called : ids (updated_at (called name) index old) ≡ ids old
    ids_called = updated_unseen (λ (x : HeldSheet). x.id) (called name) (λ x. refl) index old

    pub own_fits_called : FitOwn ps (updated_at (called name) index old)
    own_fits_called = record {
      known = subst (λ ns. AllByRecursion (λ (p : ℕ × RewritesState). list_any (nat_eq p.0) ns ≡ true) ps) (sym ids_called) makes.fits.known;
      differ = makes.fits.differ;
      fits = go index old makes.fits.fits;
    }
      where
        one : (o : Option RewritesState) (x : HeldSheet) → FitsSheet o x → FitsSheet o (called name x)
        one None x h = tt
        one (Some w) x h = h

        go : (i : ℕ) (xs : List HeldSheet) → AllByRecursion (λ x. FitsSheet (own_rewrites x.id ps) x) xs → AllByRecursion (λ x. FitsSheet (own_rewrites x.id ps) x) (updated_at (called name) i xs)
        go i [] h = tt
        go zero (x ∷ xs) h = (one (own_rewrites x.id ps) x h.0, h.1)
        go (suc i) (x ∷ xs) h = (h.0, go i xs h.1)

    own_called : (i : ℕ) (xs : List HeldSheet) → with_own_rewrites ps (updated_at (called name) i xs) ≡ updated_at (called name) i (with_own_rewrites ps xs)
    own_called i [] = refl
    own_called zero (x ∷ xs) = ap (λ (y : HeldSheet). y ∷ with_own_rewrites ps xs) (one (own_rewrites x.id ps))
      where
        one : (o : Option RewritesState) → rewritten_if o (called name x) ≡ called name (rewritten_if o x)
        one None = refl
        one (Some w) = refl
    own_called (suc i) (x ∷ xs) = ap (λ ys. rewritten_if (own_rewrites x.id ps) x ∷ ys) (own_called i xs)

    module _ (between new : List HeldSheet) (renamed : between ≡ updated_at (called name) index old) (done : new ≡ with_own_rewrites ps between) where
      both_done : new ≡ updated_at (called name) index (with_own_rewrites ps old)
      both_done = done ∙ ap (with_own_rewrites ps) renamed ∙ own_called index old

      pub renamed_made : sheets_of new ≡ updated_at (sheet_called name) index (map (changed_pool change) (sheets_of old))
      renamed_made = ap sheets_of both_done ∙ sheets_called name index (with_own_rewrites ps old) ∙ ap (updated_at (sheet_called name) index) makes.made

      pub renamed_looks_up : look_ups new ≡ map (looks_up_after change) old
      renamed_looks_up = ap look_ups both_done ∙ updated_unseen (λ (x : HeldSheet). x.pool.is_whole) (called name) (λ x. refl) index (with_own_rewrites ps old) ∙ makes.looks_up
