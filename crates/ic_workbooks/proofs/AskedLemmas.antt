-- What is asked of the records of a workbook that is handed in, one after another.
use Rattle.std.proofs.Common.{Bool, List, None, Option, Some, [], ap, ap₂, cond, false, get_or, is_some, length, map, option_map, refl, subst, suc, sym, take, true, ℕ, ◌++◌, ◌+◌, ◌<◌, ◌==◌, ◌||◌, ◌∙◌, ◌∷◌, ◌≡◌, ◌≤◌}
use Rattle.std.proofs.lemmas.Bool.{and_parts}
use Rattle.std.proofs.lemmas.List.{map_more, take_all, take_more}
use Rattle.std.specs.List.{AllByRecursion, list_all, list_any, position}
use Rattle.ic_laws.proofs.core.Defined.{same_key_equiv}
use Rattle.ic_laws.proofs.core.Lists.{all_pushed}
use Rattle.ic_definitions.proofs.FindingLemmas.{place_of_name}
use Rattle.ic_definitions.specs.Named.{index_with_key}
use Rattle.ic_laws.proofs.keeping.NameChanges.{key_at}
use Rattle.ic_laws.specs.Character.{equals}
use Rattle.ic_laws.specs.CoreBook.{Definition}
use Rattle.ic_laws.specs.CoreStep.{is_named}
use Rattle.ic_laws.specs.Name.{fold}
use Rattle.ic_laws.specs.Scan.{first_is}
use Rattle.ic_laws.specs.Scene.{same_key}
use Rattle.ic_laws.specs.declared.tree.Formula.TheVariants as formulas
use Rattle.ic_cells.specs.declared.workbook.DefinedName.{DefinedName}
use Rattle.ic_sheets.proofs.ApartLemmas.{AreFine, fine_next, not_differ, not_each, one_at}
use Rattle.ic_workbooks.specs.Asked.{AreDefined, IsDefined, key_in, unread}

-- ---- a test of each

pub all_pass : {W : Type 0} (test : W → Bool) (ws : List W) → list_all test ws ≡ true → AllByRecursion (λ w. test w ≡ true) ws
all_pass test [] e = tt
all_pass test (w ∷ ws) e = let parts = and_parts (test w) (list_all test ws) e in (parts.0, all_pass test ws parts.1)

-- ---- what is asked of each, one after another

module _ {W : Type 0} (P : W → Type 0) (ws : List W) where
  pub all_end : (i : ℕ) → AllByRecursion P (take i ws) → length ws ≤ i → AllByRecursion P ws
  all_end i done end = subst (AllByRecursion P) (take_all i ws end) done

  module _ (i next : ℕ) (w : W) (is_next : i + 1 ≡ next) (below : i < length ws) (item : w ≡ get_or ws i w) where
    pub all_next : AllByRecursion P (take i ws) → P w → AllByRecursion P (take next ws)
    all_next done p =
        subst (AllByRecursion P) (sym (ap (λ n. take n ws) (sym is_next) ∙ take_more ws i w below ∙ ap (λ y. take i ws ++ y ∷ []) (sym item)))
        (all_pushed P (take i ws) w done p)

    pub not_all : (P w → ⊥) → AllByRecursion P ws → ⊥
    not_all not h = not (one_at P ws i w below item h)

-- ---- definitions that are put one after another

taken_is : (d : DefinedName) (xs : List DefinedName) → list_any (is_named d.name d.sheet_id) (map unread xs) ≡ list_any (same_key (key_in d)) (map key_in xs)
taken_is d [] = refl
taken_is d (x ∷ xs) = ap₂ ◌||◌ (same_key_equiv.symm (key_in x) (key_in d)) (taken_is d xs)

-- a definition of an agreeing name is found where one is there
pub found_there : (name : List ℕ) (scope : Option ℕ) (ds : List Definition) → is_some (position (is_named name scope) ds) ≡ list_any (is_named name scope) ds
found_there name scope ds = ap is_some (sym (place_of_name name scope ds)) ∙ go ds
  where
    step : (b : Bool) (o : Option ℕ) → is_some (cond b (Some 0) (option_map suc o)) ≡ (b || is_some o)
    step true o = refl
    step false None = refl
    step false (Some n) = refl

    go : (ds : List Definition) → is_some (index_with_key (key_at (fold name) scope) ds) ≡ list_any (is_named name scope) ds
    go [] = refl
    go (d ∷ ds) = step (is_named name scope d) (index_with_key (key_at (fold name) scope) ds) ∙ ap (λ b. is_named name scope d || b) (go ds)

pub same_unread : (d : DefinedName) (name text : List ℕ) (has : Bool) → name ≡ d.name → has ≡ first_is (λ c. c == equals) d.formula → text ≡ []
    → ◌≡◌ {A = Definition} (record { name = name; scope = d.sheet_id; has_equals = has; body = formulas.Raw text }) (unread d)
same_unread d name text has a b e = λ i. record { name = a i; scope = d.sheet_id; has_equals = b i; body = formulas.Raw (e i) }

module _ (names : List DefinedName) where
  -- those before this place are there
  pub record UnreadTo (i : ℕ) (ds : List Definition) : Type 0 where
    pub made : ds ≡ map unread (take i names)
    pub fine : AreFine same_key_equiv IsDefined key_in names i

  module _ (i next : ℕ) (d : DefinedName) (is_next : i + 1 ≡ next) (below : i < length names) (item : d ≡ get_or names i d) (ds : List Definition) (done : UnreadTo i ds) where
    taken_there : list_any (is_named d.name d.sheet_id) ds ≡ list_any (same_key (key_in d)) (map key_in (take i names))
    taken_there = ap (list_any (is_named d.name d.sheet_id)) done.made ∙ taken_is d (take i names)

    pub unread_next : (after : List Definition) → IsDefined d → list_any (is_named d.name d.sheet_id) ds ≡ false → after ≡ ds ++ unread d ∷ [] → UnreadTo next after
    unread_next after defined free put = record {
      made = put ∙ ap (λ xs. xs ++ unread d ∷ []) done.made
          ∙ sym (ap (λ n. map unread (take n names)) (sym is_next) ∙ map_more unread names i d below ∙ ap (λ y. map unread (take i names) ++ unread y ∷ []) (sym item));
      fine = fine_next same_key_equiv IsDefined key_in names i next d is_next below item done.fine defined (sym taken_there ∙ free);
    }

    pub key_taken : list_any (is_named d.name d.sheet_id) ds ≡ true → AreDefined names → ⊥
    key_taken taken h = not_differ same_key_equiv IsDefined key_in names i next d is_next below item (sym taken_there ∙ taken) h.differ

    pub not_defined : (IsDefined d → ⊥) → AreDefined names → ⊥
    not_defined not h = not_each same_key_equiv IsDefined key_in names i next d is_next below item not h.each
