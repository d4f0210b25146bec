-- What is prepared for the sheets at which a change looks, and what it makes of all sheets.
use Rattle.std.proofs.Common.{◌≡◌, ℕ, zero, suc, ◌+◌, ◌<◌, ◌≤◌, List, [], ◌∷◌, ◌++◌, Bool, true, false, cond, ◌&&◌, ◌||◌, not, Option, Some, None, map, length, get_or, take, nat_eq, nat_lt, refl, sym, ap, ap₂, subst, ◌∙◌, arith, append_assoc}
use Rattle.std.proofs.lemmas.Bool.{and_parts, eqb-true, ltb-false, or_parts}
use Rattle.std.proofs.lemmas.List.{map-append, take_more}
use Rattle.std.proofs.lemmas.List.Folds.{list_any-append}
use Rattle.std.proofs.lemmas.Map.Keys.{IsDistinct-head, IsDistinct-push, IsDistinct-tail}
use Rattle.std.specs.Cmp.{nat_eq_equiv}
use Rattle.std.specs.List.{AllByRecursion, IsDistinct, find, list_any}
use Rattle.ic_laws.specs.Changes.{Change}
use Rattle.ic_laws.specs.Scene.{same_scope}
use Rattle.ic_laws.specs.declared.tree.Formula.{Formula}
use Rattle.ic_pool.specs.Mentions.{is_changed_by}
use Rattle.ic_pool.specs.Pool.{dangling_places}
use Rattle.ic_pool.specs.Remade.{Remade, TouchesAbout}
use Rattle.ic_pool.specs.Rewrites.{RewritesState}
use Rattle.ic_pool.specs.Topics.{SparesOthers, mentions_some}
use Rattle.ic_sheets.proofs.DanglingLemmas.{absent, dangles_here, id_here, or_false, or_true}
use Rattle.ic_sheets.proofs.PlaceLemmas.{alone, some_apart}
use Rattle.ic_sheets.proofs.RewritingLemmas.{and_true, looked_up, pool_stays, pool_untouched}
use Rattle.ic_sheets.proofs.SearchLemmas.{ids}
use Rattle.ic_sheets.specs.Index.{AreDangling, AreLookedAt, dangles, dangles_at, is_id, is_listed}
use Rattle.ic_sheets.specs.Mentioners.{AreAbout}
use Rattle.ic_sheets.specs.Rewriting.{FitsSheet, IsPrepared, ListsIf, Makes, PreparesEach, SparesElsewhere, changed_pool, look_ups, looks_up_after, own_rewrites, rewritten_if, sheets_of, with_own_rewrites}
use Rattle.ic_sheets.specs.Sheet.{Sheet, sheet_of}
use Rattle.ic_sheets.specs.declared.sheet.Sheet.{Sheet as HeldSheet}
use Rattle.ic_pool.proofs.KeyLemmas.{clash}

abbrev pub Own : Type 0
Own = List (ℕ × RewritesState)

abbrev pub own_ids : Own → List ℕ
own_ids ps = map (λ p. p.0) ps

-- ---- what was prepared for an id

none_own : (q : ℕ) (ps : Own) → own_rewrites q ps ≡ None → is_listed q (own_ids ps) ≡ false
none_own q [] e = refl
none_own q (p ∷ ps) e = step (nat_eq q p.0) e (none_own q ps)
  where
    step : (b : Bool) → cond b (Some p.1) (own_rewrites q ps) ≡ None → (own_rewrites q ps ≡ None → is_listed q (own_ids ps) ≡ false) → (b || is_listed q (own_ids ps)) ≡ false
    step true e rest = cc
    step false e rest = rest e

pub own_none : (q : ℕ) (ps : Own) → is_listed q (own_ids ps) ≡ false → own_rewrites q ps ≡ None
own_none q [] e = refl
own_none q (p ∷ ps) e =
    let parts = or_parts (nat_eq q p.0) (is_listed q (own_ids ps)) e in
    ap₂ (λ b o. cond b (Some p.1) o) parts.0 (own_none q ps parts.1)

own_kept : (q : ℕ) (ps more : Own) (w : RewritesState) → own_rewrites q ps ≡ Some w → own_rewrites q (ps ++ more) ≡ Some w
own_kept q [] more w e = cc
own_kept q (p ∷ ps) more w e = step (nat_eq q p.0) e (own_kept q ps more w)
  where
    step : (b : Bool) → cond b (Some p.1) (own_rewrites q ps) ≡ Some w → (own_rewrites q ps ≡ Some w → own_rewrites q (ps ++ more) ≡ Some w) → cond b (Some p.1) (own_rewrites q (ps ++ more)) ≡ Some w
    step true e rest = e
    step false e rest = rest e

pub own_new : (q : ℕ) (ps more : Own) → own_rewrites q ps ≡ None → own_rewrites q (ps ++ more) ≡ own_rewrites q more
own_new q [] more e = refl
own_new q (p ∷ ps) more e = step (nat_eq q p.0) e (own_new q ps more)
  where
    step : (b : Bool) → cond b (Some p.1) (own_rewrites q ps) ≡ None → (own_rewrites q ps ≡ None → own_rewrites q (ps ++ more) ≡ own_rewrites q more) → cond b (Some p.1) (own_rewrites q (ps ++ more)) ≡ own_rewrites q more
    step true e rest = cc
    step false e rest = rest e

pub own_other : (q id : ℕ) (w : RewritesState) (ps : Own) → nat_eq q id ≡ false → own_rewrites q (ps ++ (id, w) ∷ []) ≡ own_rewrites q ps
own_other q id w [] e = ap (λ b. cond b (Some w) None) e
own_other q id w (p ∷ ps) e = ap (cond (nat_eq q p.0) (Some p.1)) (own_other q id w ps e)

-- ---- prepared one after another

module _ (Is : RewritesState → HeldSheet → Type 0) (ps : Own) (id : ℕ) (w : RewritesState) (sheets : List HeldSheet) (s : HeldSheet) (found : find (λ x. nat_eq x.id id) sheets ≡ Some s) (prepared : Is w s) where
  last_made : (q : ℕ) (v : RewritesState) (t : HeldSheet) (b : Bool) → nat_eq q id ≡ b → cond b (Some w) None ≡ Some v → find (λ x. nat_eq x.id q) sheets ≡ Some t → Is v t
  last_made q v t true e is at =
      let same : w ≡ v = cc in
      let here : Some s ≡ Some t = sym found ∙ ap (λ k. find (λ (x : HeldSheet). nat_eq x.id k) sheets) (sym (eqb-true q id e)) ∙ at in
      let one : s ≡ t = cc in
      subst (λ v. Is v t) same (subst (Is w) one prepared)
  last_made q v t false e is at = cc

  each_made : (now : List ℕ) → PreparesEach Is ps now sheets → (q : ℕ) (v : RewritesState) (t : HeldSheet) (o : Option RewritesState) → own_rewrites q ps ≡ o → own_rewrites q (ps ++ (id, w) ∷ []) ≡ Some v
      → find (λ x. nat_eq x.id q) sheets ≡ Some t → Is v t
  each_made now each q v t (Some u) e is at =
      let both : Some u ≡ Some v = sym (own_kept q ps ((id, w) ∷ []) u e) ∙ is in
      each.made q v t (e ∙ both) at
  each_made now each q v t None e is at = last_made q v t (nat_eq q id) refl (sym (own_new q ps ((id, w) ∷ []) e) ∙ is) at

  pub each_more : (more : Own) (now : List ℕ) (i : ℕ) → PreparesEach Is ps (take i now) sheets → i < length now → id ≡ get_or now i 0 → more ≡ ps ++ (id, w) ∷ [] → PreparesEach Is more (take (i + 1) now) sheets
  each_more more now i each lt read pushed =
      subst (λ ps. PreparesEach Is ps (take (i + 1) now) sheets) (sym pushed)
      (record {
        each = map-append (λ (p : ℕ × RewritesState). p.0) ps ((id, w) ∷ []) ∙ ap (λ xs. xs ++ id ∷ []) each.each ∙ ap (λ k. take i now ++ k ∷ []) read ∙ sym (take_more now i 0 lt);
        made = λ q v t is at. each_made (take i now) each q v t (own_rewrites q ps) refl is at;
      })

pub id_nowhere : (id : ℕ) (xs : List HeldSheet) → find (λ s. nat_eq s.id id) xs ≡ None → is_id id xs ≡ false
id_nowhere id [] e = refl
id_nowhere id (x ∷ xs) e = step (nat_eq x.id id) refl e (id_nowhere id xs)
  where
    step : (b : Bool) → nat_eq x.id id ≡ b → cond b (Some x) (find (λ s. nat_eq s.id id) xs) ≡ None → (find (λ s. nat_eq s.id id) xs ≡ None → is_id id xs ≡ false) → (nat_eq id x.id || is_id id xs) ≡ false
    step true is e rest = cc
    step false is e rest = ap₂ (λ a b. a || b) (nat_eq_equiv.symm id x.id ∙ is) (rest e)

pub id_found : (id : ℕ) (xs : List HeldSheet) (s : HeldSheet) → find (λ s. nat_eq s.id id) xs ≡ Some s → is_id id xs ≡ true
id_found id [] s e = cc
id_found id (x ∷ xs) s e = step (nat_eq x.id id) refl e (id_found id xs s)
  where
    step : (b : Bool) → nat_eq x.id id ≡ b → cond b (Some x) (find (λ s. nat_eq s.id id) xs) ≡ Some s → (find (λ s. nat_eq s.id id) xs ≡ Some s → is_id id xs ≡ true) → (nat_eq id x.id || is_id id xs) ≡ true
    step true is e rest = ap (λ a. a || is_id id xs) (nat_eq_equiv.symm id x.id ∙ is)
    step false is e rest = ap (λ b. nat_eq id x.id || b) (rest e) ∙ or_true (nat_eq id x.id)

-- what holds of all sheets holds of the one that was found
pub found_all : (P : HeldSheet → Type 0) (id : ℕ) (xs : List HeldSheet) (s : HeldSheet) → find (λ s. nat_eq s.id id) xs ≡ Some s → AllByRecursion P xs → P s
found_all P id [] s e h = cc
found_all P id (x ∷ xs) s e h = step (nat_eq x.id id) e (λ f. found_all P id xs s f h.1)
  where
    step : (b : Bool) → cond b (Some x) (find (λ s. nat_eq s.id id) xs) ≡ Some s → (find (λ s. nat_eq s.id id) xs ≡ Some s → P s) → P s
    step true e rest = let same : x ≡ s = cc in subst P same h.0
    step false e rest = rest e

-- each of the ids is that of a sheet
pub some_sheet : (now : List ℕ) (i id : ℕ) (sheets : List HeldSheet) → AllByRecursion (λ q. is_id q sheets ≡ true) now → i < length now → id ≡ get_or now i 0 → find (λ s. nat_eq s.id id) sheets ≡ None → ⊥
some_sheet [] i id sheets known lt read none = absurd (omega arith)
some_sheet (q ∷ now) zero id sheets known lt read none = clash (is_id id sheets) (ap (λ k. is_id k sheets) read ∙ known.0) (id_nowhere id sheets none)
some_sheet (q ∷ now) (suc i) id sheets known lt read none = some_sheet now i id sheets known.1 (omega arith) read none

-- ---- the sheets at which a change looks

pub dangling_looked_at : (now : List ℕ) (sheets : List HeldSheet) → AreDangling now sheets → AreLookedAt None now sheets
dangling_looked_at now sheets d = record { finds = λ q. d.finds q ∙ sym (or_false (dangles_at q sheets)); differ = d.differ }

dangling_known : (q : ℕ) (xs : List HeldSheet) → dangles_at q xs ≡ true → is_id q xs ≡ true
dangling_known q [] e = e
dangling_known q (x ∷ xs) e = step (nat_eq q x.id) (dangles x) e (dangling_known q xs)
  where
    step : (a b : Bool) → (a && b || dangles_at q xs) ≡ true → (dangles_at q xs ≡ true → is_id q xs ≡ true) → (a || is_id q xs) ≡ true
    step true b e rest = refl
    step false b e rest = rest e

all_listed_known : (ns : List ℕ) (sheets : List HeldSheet) → ((q : ℕ) → is_listed q ns ≡ true → is_id q sheets ≡ true) → AllByRecursion (λ q. is_id q sheets ≡ true) ns
all_listed_known [] sheets known = tt
all_listed_known (n ∷ ns) sheets known =
    (known n (ap (λ b. b || is_listed n ns) (nat_eq_equiv.refl n)), all_listed_known ns sheets (λ q h. known q (ap (λ b. nat_eq q n || b) h ∙ or_true (nat_eq q n))))

-- each is the id of a sheet
pub looked_at_known : (whole : Option ℕ) (now : List ℕ) (sheets : List HeldSheet) → AreLookedAt whole now sheets → AllByRecursion (λ q. is_id q sheets ≡ true) now
looked_at_known whole now sheets d = all_listed_known now sheets (λ q h. either (dangles_at q sheets) (same_scope whole (Some q)) (is_id q sheets) (dangling_known q sheets) (sym (d.finds q) ∙ h))
  where
    either : (a b c : Bool) → (a ≡ true → c ≡ true) → (a || b && c) ≡ true → c ≡ true
    either true b c one e = one refl
    either false true c one e = e
    either false false c one e = cc

module _ (now : List ℕ) (id : ℕ) (sheets : List HeldSheet) (d : AreDangling now sheets) where
  -- something dangles in the sheet with this id, or there is none
  pub looked_at_listed : (is_id id sheets && not (dangles_at id sheets)) ≡ false → AreLookedAt (Some id) now sheets
  looked_at_listed e = record { finds = λ q. d.finds q ∙ step q (nat_eq id q) refl; differ = d.differ }
    where
      either : (a b : Bool) → (b && not a) ≡ false → a ≡ (a || b)
      either true b e = refl
      either false true e = cc
      either false false e = refl

      step : (q : ℕ) (b : Bool) → nat_eq id q ≡ b → dangles_at q sheets ≡ (dangles_at q sheets || b && is_id q sheets)
      step q false is = sym (or_false (dangles_at q sheets))
      step q true is = subst (λ k. dangles_at k sheets ≡ (dangles_at k sheets || is_id k sheets)) (eqb-true id q is) (either (dangles_at id sheets) (is_id id sheets) e)

  -- nothing does: its id comes behind the others
  pub looked_at_pushed : (is_id id sheets && not (dangles_at id sheets)) ≡ true → (more : List ℕ) → more ≡ now ++ id ∷ [] → AreLookedAt (Some id) more sheets
  looked_at_pushed e more pushed = record {
    finds = λ q. ap (is_listed q) pushed ∙ list_any-append (nat_eq q) now (id ∷ []) ∙ ap₂ (λ a b. a || (b || false)) (d.finds q) (nat_eq_equiv.symm q id) ∙ step q (nat_eq id q) refl;
    differ = subst (IsDistinct nat_eq) (sym pushed) (IsDistinct-push nat_eq_equiv now id d.differ (d.finds id ∙ clean));
  }
    where
      parts : (is_id id sheets ≡ true) × (not (dangles_at id sheets) ≡ true)
      parts = and_parts (is_id id sheets) (not (dangles_at id sheets)) e

      is_not : (a : Bool) → not a ≡ true → a ≡ false
      is_not true f = cc
      is_not false f = refl

      clean : dangles_at id sheets ≡ false
      clean = is_not (dangles_at id sheets) parts.1

      step : (q : ℕ) (b : Bool) → nat_eq id q ≡ b → (dangles_at q sheets || (b || false)) ≡ (dangles_at q sheets || b && is_id q sheets)
      step q false is = refl
      step q true is = ap (λ b. dangles_at q sheets || b) (sym (ap (λ k. is_id k sheets) (sym (eqb-true id q is)) ∙ parts.0))

-- whether something dangles in the sheet that was found
pub dangles_found : (id : ℕ) (xs : List HeldSheet) (s : HeldSheet) → IsDistinct nat_eq (ids xs) → find (λ x. nat_eq x.id id) xs ≡ Some s → dangles s ≡ dangles_at id xs
dangles_found id [] s d e = cc
dangles_found id (x ∷ xs) s d e = step (nat_eq x.id id) refl e (dangles_found id xs s (IsDistinct-tail nat_eq x.id (ids xs) d))
  where
    alone_here : nat_eq x.id id ≡ true → dangles_at id xs ≡ false
    alone_here is = absent id xs (subst (λ k. list_any (nat_eq k) (ids xs) ≡ false) (eqb-true x.id id is) (some_apart x.id (ids xs) (IsDistinct-head nat_eq x.id (ids xs) d)))

    step : (b : Bool) → nat_eq x.id id ≡ b → cond b (Some x) (find (λ x. nat_eq x.id id) xs) ≡ Some s → (find (λ x. nat_eq x.id id) xs ≡ Some s → dangles s ≡ dangles_at id xs) → dangles s ≡ (nat_eq id x.id && dangles x || dangles_at id xs)
    step true is e rest =
        let same : x ≡ s = cc in
        ap dangles (sym same) ∙ sym (ap₂ (λ a b. a && dangles x || b) (nat_eq_equiv.symm id x.id ∙ is) (alone_here is) ∙ or_false (dangles x))
    step false is e rest = rest e ∙ sym (ap (λ a. a && dangles x || dangles_at id xs) (nat_eq_equiv.symm id x.id ∙ is))

-- ---- what is known of each sheet

pub found_here : (front back : List HeldSheet) (s : HeldSheet) → list_any (nat_eq s.id) (ids (front ++ back)) ≡ false → find (λ x. nat_eq x.id s.id) (front ++ s ∷ back) ≡ Some s
found_here [] back s free = ap (λ b. cond b (Some s) (find (λ x. nat_eq x.id s.id) back)) (nat_eq_equiv.refl s.id)
found_here (x ∷ front) back s free =
    let parts = or_parts (nat_eq s.id x.id) (list_any (nat_eq s.id) (ids (front ++ back))) free in
    ap (λ b. cond b (Some x) (find (λ y. nat_eq y.id s.id) (front ++ s ∷ back))) (nat_eq_equiv.symm x.id s.id ∙ parts.0) ∙ found_here front back s parts.1

module _ (Is : RewritesState → HeldSheet → Type 0) (Stays : HeldSheet → Type 0) where
  -- by what was prepared for it, if anything was
  abbrev pub IsOwn : Option RewritesState → HeldSheet → Type 0
  IsOwn None s = Stays s
  IsOwn (Some w) s = Is w s

  -- where those for which nothing was prepared stay
  module _ (now : List ℕ) (ps : Own) (sheets : List HeldSheet) (each : PreparesEach Is ps now sheets) (differ : IsDistinct nat_eq (ids sheets)) where
    one_own : (front back : List HeldSheet) (s : HeldSheet) → sheets ≡ front ++ s ∷ back → (is_listed s.id now ≡ false → Stays s) → (o : Option RewritesState) → own_rewrites s.id ps ≡ o → IsOwn o s
    one_own front back s e stays None is = stays (ap (is_listed s.id) (sym each.each) ∙ none_own s.id ps is)
    one_own front back s e stays (Some w) is = each.made s.id w s is (ap (find (λ x. nat_eq x.id s.id)) e ∙ found_here front back s (alone front back s (subst (λ xs. IsDistinct nat_eq (ids xs)) e differ)))

    own_from : (front xs : List HeldSheet) → sheets ≡ front ++ xs → AllByRecursion (λ s. is_listed s.id now ≡ false → Stays s) xs → AllByRecursion (λ s. IsOwn (own_rewrites s.id ps) s) xs
    own_from front [] e h = tt
    own_from front (s ∷ back) e h = (one_own front back s e h.0 (own_rewrites s.id ps) refl, own_from (front ++ s ∷ []) back (e ∙ sym (append_assoc front (s ∷ []) back)) h.1)

    pub all_own : AllByRecursion (λ s. is_listed s.id now ≡ false → Stays s) sheets → AllByRecursion (λ s. IsOwn (own_rewrites s.id ps) s) sheets
    all_own h = own_from [] sheets refl h

-- ---- what a change makes of all sheets

-- no mention of a sheet's formulas changes
abbrev pub Untouched : Change → HeldSheet → Type 0
Untouched change s = list_any (is_changed_by change (Some s.id)) s.pool.formulas ≡ false

module _ (change : Change) (now : List ℕ) (ps : Own) (sheets : List HeldSheet) (each : PreparesEach (IsPrepared change) ps now sheets) (known : AllByRecursion (λ q. is_id q sheets ≡ true) now) (apart : IsDistinct nat_eq now) (differ : IsDistinct nat_eq (ids sheets))
    (stay : AllByRecursion (λ s. is_listed s.id now ≡ false → Untouched change s) sheets)
  where
    abbrev Own_is : Option RewritesState → HeldSheet → Type 0
    Own_is = IsOwn (IsPrepared change) (Untouched change)

    all_known : (ns : List ℕ) → AllByRecursion (λ q. is_id q sheets ≡ true) ns → (ps : Own) → own_ids ps ≡ ns → AllByRecursion (λ p. is_id p.0 sheets ≡ true) ps
    all_known ns known [] e = tt
    all_known [] known (p ∷ ps) e = cc
    all_known (n ∷ ns) known (p ∷ ps) e =
        let first : p.0 ≡ n = cc in
        let rest : own_ids ps ≡ ns = cc in
        (ap (λ k. is_id k sheets) first ∙ known.0, all_known ns known.1 ps rest)

    pub each_makes : Makes change ps sheets
    each_makes = record {
      fits = record {
        known = all_known now known ps each.each;
        differ = subst (IsDistinct nat_eq) (sym each.each) apart;
        fits = fits sheets own;
      };
      made = made sheets own;
      listed = listed sheets own;
      looks_up = kept sheets own;
    }
      where
        own : AllByRecursion (λ s. Own_is (own_rewrites s.id ps) s) sheets
        own = all_own (IsPrepared change) (Untouched change) now ps sheets each differ stay

        fits : (xs : List HeldSheet) → AllByRecursion (λ s. Own_is (own_rewrites s.id ps) s) xs → AllByRecursion (λ s. FitsSheet (own_rewrites s.id ps) s) xs
        fits [] h = tt
        fits (s ∷ xs) h = (step (own_rewrites s.id ps) h.0, fits xs h.1)
          where
            step : (o : Option RewritesState) → Own_is o s → FitsSheet o s
            step None i = tt
            step (Some w) i = i.fits

        listed : (xs : List HeldSheet) → AllByRecursion (λ s. Own_is (own_rewrites s.id ps) s) xs → AllByRecursion (λ s. ListsIf change (own_rewrites s.id ps) s) xs
        listed [] h = tt
        listed (s ∷ xs) h = (step (own_rewrites s.id ps) h.0, listed xs h.1)
          where
            step : (o : Option RewritesState) → Own_is o s → ListsIf change o s
            step None i = i
            step (Some w) i = i.listed

        made : (xs : List HeldSheet) → AllByRecursion (λ s. Own_is (own_rewrites s.id ps) s) xs → sheets_of (with_own_rewrites ps xs) ≡ map (changed_pool change) (sheets_of xs)
        made [] h = refl
        made (s ∷ xs) h = ap₂ ◌∷◌ (step (own_rewrites s.id ps) h.0) (made xs h.1)
          where
            filled : (pool : List Formula) → Sheet
            filled pool = record (sheet_of s) { pool = pool }

            step : (o : Option RewritesState) → Own_is o s → sheet_of (rewritten_if o s) ≡ changed_pool change (sheet_of s)
            step None i = ap filled (pool_stays change (Some s.id) s.pool.formulas i)
            step (Some w) i = ap filled i.made

        kept : (xs : List HeldSheet) → AllByRecursion (λ s. Own_is (own_rewrites s.id ps) s) xs → look_ups (with_own_rewrites ps xs) ≡ map (looks_up_after change) xs
        kept [] h = refl
        kept (s ∷ xs) h = ap₂ ◌∷◌ (step (own_rewrites s.id ps) h.0) (kept xs h.1)
          where
            step : (o : Option RewritesState) → Own_is o s → (rewritten_if o s).pool.is_whole ≡ looks_up_after change s
            step None i = and_true s.pool.is_whole ∙ ap (λ b. s.pool.is_whole && not b) (sym i)
            step (Some w) i = looked_up change w s i

-- ---- the sheets that stay

no_places : (indexes : List ℕ) → nat_lt 0 (length indexes) ≡ false → indexes ≡ []
no_places [] e = refl
no_places (p ∷ indexes) e = let past : suc (length indexes) ≤ 0 = ltb-false 0 (suc (length indexes)) e in absurd (omega (arith, past))

-- those in which nothing dangles, but the one that a change looks at besides
pub found_stay : (change : Change) (whole : Option ℕ) (now : List ℕ) (sheets : List HeldSheet) → AreLookedAt whole now sheets → IsDistinct nat_eq (ids sheets) → SparesElsewhere whole change → AllByRecursion (λ s. is_listed s.id now ≡ false → Untouched change s) sheets
found_stay change whole now sheets d differ spares = go [] sheets refl
  where
    one : (front back : List HeldSheet) (s : HeldSheet) → sheets ≡ front ++ s ∷ back → is_listed s.id now ≡ false → Untouched change s
    one front back s e none =
        let apart : IsDistinct nat_eq (ids (front ++ s ∷ back)) = subst (λ xs. IsDistinct nat_eq (ids xs)) e differ in
        let listed : is_listed s.id now ≡ (dangles s || same_scope whole (Some s.id)) =
        d.finds s.id ∙ ap₂ (λ a b. a || same_scope whole (Some s.id) && b) (ap (dangles_at s.id) e ∙ dangles_here front back s apart) (ap (is_id s.id) e ∙ id_here front back s)
        ∙ ap (λ b. dangles s || b) (sym (and_true (same_scope whole (Some s.id)))) in
        let parts = or_parts (dangles s) (same_scope whole (Some s.id)) (sym listed ∙ none) in
        pool_untouched change (Some s.id) (spares s.id parts.1) 0 s.pool.formulas (no_places (dangling_places s.pool.formulas) parts.0)

    go : (front xs : List HeldSheet) → sheets ≡ front ++ xs → AllByRecursion (λ s. is_listed s.id now ≡ false → Untouched change s) xs
    go front [] e = tt
    go front (s ∷ back) e = (one front back s e, go (front ++ s ∷ []) back (e ∙ sym (append_assoc front (s ∷ []) back)))

fewer_any : (one other : Formula → Bool) → ((x : Formula) → one x ≡ false → other x ≡ false) → (xs : List Formula) → list_any one xs ≡ false → list_any other xs ≡ false
fewer_any one other fewer [] e = refl
fewer_any one other fewer (x ∷ xs) e = let parts = or_parts (one x) (list_any one xs) e in ap₂ (λ a b. a || b) (fewer x parts.0) (fewer_any one other fewer xs parts.1)

-- those that mention nothing of what a change is about
pub spared_stay : (change : Change) (topics now : List ℕ) (sheets : List HeldSheet) → SparesOthers change topics → AreAbout topics now sheets → AllByRecursion (λ s. is_listed s.id now ≡ false → Untouched change s) sheets
spared_stay change topics now sheets spares about = go sheets about.others
  where
    go : (xs : List HeldSheet) → AllByRecursion (λ s. is_listed s.id now ≡ false → list_any (mentions_some topics) s.pool.formulas ≡ false) xs → AllByRecursion (λ s. is_listed s.id now ≡ false → Untouched change s) xs
    go [] h = tt
    go (s ∷ xs) h = (λ none. fewer_any (mentions_some topics) (is_changed_by change (Some s.id)) (λ x. spares (Some s.id) x) s.pool.formulas (h.0 none), go xs h.1)

-- or of what a rule touches
pub untouched_stay : (rule : Remade) (topics now : List ℕ) (sheets : List HeldSheet) → TouchesAbout rule topics → AreAbout topics now sheets → AllByRecursion (λ s. is_listed s.id now ≡ false → list_any (rule.touches (Some s.id)) s.pool.formulas ≡ false) sheets
untouched_stay rule topics now sheets spares about = go sheets about.others
  where
    go : (xs : List HeldSheet) → AllByRecursion (λ s. is_listed s.id now ≡ false → list_any (mentions_some topics) s.pool.formulas ≡ false) xs → AllByRecursion (λ s. is_listed s.id now ≡ false → list_any (rule.touches (Some s.id)) s.pool.formulas ≡ false) xs
    go [] h = tt
    go (s ∷ xs) h = (λ none. fewer_any (mentions_some topics) (rule.touches (Some s.id)) (λ x. spares (Some s.id) x) s.pool.formulas (h.0 none), go xs h.1)
