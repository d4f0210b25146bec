-- What a model holds after a definition was updated, and what the update captures.
use Rattle.std.proofs.Common.{◌≡◌, ◌<◌, ℕ, zero, suc, List, [], ◌∷◌, map, Bool, true, false, Option, Some, None, Ok, length, option_map, if◌then◌else◌, refl, sym, ap, ap₂, subst, ◌∙◌, codes}
use Rattle.std.specs.Prelude.{remove}
use Rattle.std.specs.List.{AllByRecursion, list_any, slice_get}
use Rattle.std.proofs.lemmas.Option.{slice_get-map, slice_get_within}
use Rattle.ic_laws.proofs.keeping.NameChanges.{same_key_flip}
use Rattle.ic_laws.proofs.keeping.Removing.{key_of_no_other}
use Rattle.ic_laws.specs.Binding.{bound}
use Rattle.ic_laws.specs.CoreBook.{Definition}
use Rattle.ic_laws.specs.CoreStep.{is_named, updated_at}
use Rattle.ic_laws.specs.FormulaReading.{Body}
use Rattle.ic_laws.specs.Keeping.{changed_key}
use Rattle.ic_laws.specs.Notations.{Notations, english_function}
use Rattle.ic_laws.specs.Scene.{key_of, same_key}
use Rattle.ic_laws.specs.declared.scene.Scene.{Scene}
use Rattle.ic_laws.specs.declared.tree.Formula.{Formula}
use Rattle.ic_laws.specs.declared.tree.Formula.TheVariants as formulas
use Rattle.ic_laws.specs.declared.tree.NameKey.{NameKey}
use Rattle.ic_tables.specs.Tables.{language_of}
use Rattle.ic_tables.specs.declared.language.Language.{Language}
use Rattle.ic_tree.proofs.NotationLaws.{english_function_is}
use Rattle.ic_tree.specs.LanguageWords.{function_of}
use Rattle.ic_keep.specs.declared.change.KeyChange.{KeyChange}
use Rattle.ic_machine.proofs.valid.InsertedStays.{all_mapped}
use Rattle.ic_machine.proofs.valid.UpdatedStays.{passes_at, update_name_stays}
use Rattle.ic_machine.specs.Book as machine
use Rattle.ic_machine.specs.Book.{scene_in, unless}
use Rattle.ic_machine.specs.Capture.{has_sites}
use Rattle.ic_machine.specs.Changed.{changed_with}
use Rattle.ic_machine.specs.Kept.{StaysValid}
use Rattle.ic_machine.specs.Refusal.{Refusal, Site, WouldCapture, first_refusal}
use Rattle.ic_machine.specs.Valid as valid_machine
use Rattle.ic_machine.specs.subjects.Definitions.{Update, captures, keys_of_update, new_key, new_scope_id, old_key, old_scope, question_causes, scene_updated, update_causes, update_name_step, update_sites, updated_book, with_body, with_update}
use Rattle.ic_pool.specs.Remade.{Remade}
use Rattle.ic_definitions.specs.Bodies.{with_bodies}
use Rattle.ic_definitions.specs.Named.{key_in}
use Rattle.ic_definitions.specs.Remade.{remade_body, touched_bodies}
use Rattle.ic_sheets.proofs.RemadeLemmas.{remade_fits, remade_looks_up, remade_made}
use Rattle.ic_sheets.specs.Remade.{AreRemade, looks_up_remade, remade_pool}
use Rattle.ic_sheets.specs.Rewriting.{FitOwn, look_ups, sheets_of, with_own_rewrites}
use Rattle.ic_sheets.specs.Sheet.{Sheet, sheet_of}
use Rattle.ic_sheets.specs.declared.sheet.Sheet.{Sheet as HeldSheet}
use Rattle.ic_parts.specs.Book.{Book, HasStrings, ModelState, notations_in, whole_of, whole_sheet}
use Rattle.ic_parts.specs.Definitions.{body_of_typed}
use Rattle.ic_book.specs.Inside.{IsHeld, held, held_state, with_contents}
use Rattle.ic_changes.specs.LookUps.{LooksUpUpdated, looks_up_untouched}
use Rattle.ic_parts.specs.Scene.{scene_renamed}
use Rattle.ic_parts.specs.Sites.{IsUpdate, listed_sites, site_of}
use Rattle.ic_changes.specs.Updated.{IsChecked, IsPrepared, LeavesAll, captures_some, keys_named, rule_of_update}
use Rattle.ic_changes.specs.declared.definitions.remaking.PreparedUpdate.{PreparedUpdate}
use Rattle.ic_changes.specs.declared.definitions.update.CheckedUpdate.{CheckedUpdate}
use Rattle.ic_book.specs.declared.model.Model.TheInside.{Inside}
use Rattle.ic_parts.proofs.ExtendLemmas.{first_later}
use Rattle.ic_changes.proofs.SitesUpdate.{bound_body, kept_update, later, listed_is_captured, none_captured, pools_kept, rule}
use Rattle.ic_book.proofs.UpdatedRules.{after_is, rule_is, rule_leaves}

-- lists ----

put_there : {X : Type 0} (new : X) (i : ℕ) (xs : List X) (x : X) → slice_get xs i ≡ Some x → slice_get (updated_at (λ y. new) i xs) i ≡ Some new
put_there new i [] x e = cc
put_there new zero (y ∷ ys) x e = refl
put_there new (suc i) (y ∷ ys) x e = put_there new i ys x e

-- what is put at an index is left out with it
left_out : {X Y : Type 0} (g : X → Y) (new : X) (i : ℕ) (xs : List X) → remove (map g (updated_at (λ y. new) i xs)) i ≡ remove (map g xs) i
left_out g new i [] = refl
left_out g new zero (x ∷ xs) = refl
left_out g new (suc i) (x ∷ xs) = ap (λ rest. g x ∷ rest) (left_out g new i xs)

-- bodies that become others leave the keys
keys_left : (made : Remade) (ds : List Definition) → map key_in (map (remade_body made) ds) ≡ map key_in ds
keys_left made [] = refl
keys_left made (d ∷ ds) = ap (λ rest. key_in d ∷ rest) (keys_left made ds)

module _ (inside : Inside) (h : IsHeld inside) (u : Update) (checked : CheckedUpdate) (c : IsChecked (whole_of (held inside)) u checked) (english : Language) (en : language_of inside.notation.tables (codes "en") ≡ Some english) where
  abbrev ws : List HeldSheet
  ws = inside.contents.sheets

  abbrev ds : List Definition
  ds = inside.contents.definitions

  abbrev book : Book
  book = held inside

  abbrev whole : machine.Book
  whole = whole_of (held inside)

  abbrev n : Notations
  n = notations_in (held inside)

  abbrev body : Body
  body = body_of_typed checked.body

  abbrev formula : Formula
  formula = bound_body book u checked.index c.index body

  -- the rule of the machine's step, and that of a model
  abbrev its : Remade
  its = rule book u checked.index c.index body.has_equals formula

  abbrev here : Remade
  here = rule_of_update (function_of english) inside.contents checked.index u.new_name (keys_named u.name u.new_name checked)

  same_rule : here ≡ its
  same_rule = rule_is inside h u checked.index c.index body.has_equals formula checked c english en

  its_leaves : LeavesAll its inside.contents
  its_leaves = rule_leaves inside h u checked.index c.index body.has_equals formula

  -- it leaves what it doesn't touch
  update_leaves : LeavesAll (rule_of_update (function_of english) inside.contents checked.index u.new_name (keys_named u.name u.new_name checked)) inside.contents
  update_leaves = subst (λ (r : Remade). LeavesAll r inside.contents) (sym same_rule) its_leaves

  abbrev key_at : List ℕ → Option ℕ → NameKey
  key_at name scope = key_of (record { name = name; scope = scope })

  -- where no formula and no body has a word that it captures, it captures nothing
  none_captures : captures_some (rule_of_update (function_of english) inside.contents checked.index u.new_name (keys_named u.name u.new_name checked)) (keys_named u.name u.new_name checked) inside.contents ≡ false → captures (whole_of (held inside)) u ≡ false
  none_captures none =
      ap has_sites
      (none_captured book u checked.index c.index body c.body ws refl its_leaves.formulas its_leaves.bodies
      (ap₂ (λ (o m : Option ℕ). captures_some its (record { old = key_at u.name o; new = key_at u.new_name m }) inside.contents) c.old_scope c.new_scope ∙ ap (λ (r : Remade). captures_some r (keys_named u.name u.new_name checked) inside.contents) (sym same_rule) ∙ none))

  module _ (prepared : PreparedUpdate) (p : IsPrepared (rule_of_update (function_of english) inside.contents checked.index u.new_name (keys_named u.name u.new_name checked)) (keys_named u.name u.new_name checked) inside.contents prepared) where
    is_update : IsUpdate its (keys_of_update whole u) ws ds prepared.formulas.items prepared.bodies.bodies.items
    is_update =
        kept_update (english_function n) (scene_in whole) (later book u checked.index c.index body.has_equals formula) (old_key whole u) (new_key whole u) ws ds prepared.formulas.items prepared.bodies.bodies.items
        (subst (λ (r : Remade). AreRemade r prepared.formulas.items ws) same_rule p.formulas) (p.listed ∙ ap (λ (r : Remade). touched_bodies r 0 ds) same_rule) its_leaves.formulas its_leaves.bodies

    -- the sites of an update are those of what it captures
    sites_are : map site_of prepared.sites.items ≡ update_sites whole u
    sites_are =
        ap (map site_of)
        (p.sites
        ∙ ap₂ (λ (o m : Option ℕ). listed_sites (changed_key (key_at u.name o) (key_at u.new_name m)) (key_at u.name o) ws ds prepared.formulas.items prepared.bodies.bodies.items) (sym c.old_scope) (sym c.new_scope))
        ∙ listed_is_captured book u checked.index c.index body c.body ws prepared.formulas.items prepared.bodies.bodies.items is_update refl

    captures_is : has_sites (map site_of prepared.sites.items) ≡ captures (whole_of (held inside)) u
    captures_is = ap has_sites sites_are

    refused_by : (b : Bool) → captures whole u ≡ b → first_refusal (update_causes whole u) ≡ (if b then Some (WouldCapture (update_sites whole u)) else None)
    refused_by b e = first_later (question_causes whole u) (captures whole u) (WouldCapture (update_sites whole u)) c.accepted ∙ ap (λ b. if b then Some (WouldCapture (update_sites whole u)) else None) e

    -- an update that captures is refused by that
    captures_refused : true ≡ has_sites (map site_of prepared.sites.items) → first_refusal (update_causes (whole_of (held inside)) u) ≡ Some (WouldCapture (map site_of prepared.sites.items))
    captures_refused e = refused_by true (sym captures_is ∙ sym e) ∙ ap (λ (s : List Site). let o : Option Refusal = Some (WouldCapture s) in o) (sym sites_are)

    module _ (clear : has_sites (map site_of prepared.sites.items) ≡ false) where
      -- nothing refuses it
      update_accepted : first_refusal (update_causes (whole_of (held inside)) u) ≡ None
      update_accepted = refused_by false (sym captures_is ∙ clear)

      stepped : update_name_step u whole ≡ Ok (updated_book whole u, [])
      unfolding update_name_step
      stepped = ap (λ r. unless r (updated_book whole u) []) update_accepted

      its_valid : valid_machine.IsValidBook (updated_book whole u)
      its_valid = subst StaysValid stepped (update_name_stays whole h.whole u)

      -- the book that is left, by the index and the body
      left_is : updated_book whole u ≡ changed_with (keys_of_update whole u) (with_update whole u body.has_equals formula (Some checked.index)) whole
      left_is =
          ap (with_body whole u) c.body
          ∙ ap (λ (o : Option ℕ). changed_with (keys_of_update whole u) (with_update whole u body.has_equals formula o) whole) c.index

      there : (d : Definition) × (slice_get ds checked.index ≡ Some d) × (is_named u.name (old_scope whole u) d ≡ true)
      there = passes_at (is_named u.name (old_scope whole u)) ds checked.index c.index

      update_within : checked.index < length inside.contents.definitions
      update_within = slice_get_within ds checked.index there.0 there.1

      update_fits : FitOwn prepared.formulas.items inside.contents.sheets
      update_fits = remade_fits here prepared.formulas.items ws p.formulas

      abbrev new : Definition
      new = record { name = u.new_name; scope = new_scope_id whole u; has_equals = body.has_equals; body = formula }

      abbrev others : List Definition
      others = map (remade_body its) ds

      -- no other definition has the new key
      apart : list_any (same_key (key_in new)) (remove (map key_in ds) checked.index) ≡ false
      apart =
          let differ = (subst valid_machine.IsValidBook left_is its_valid).definitions.differ in
          subst (λ ks. list_any (same_key (key_in new)) (remove ks checked.index) ≡ false) (keys_left its ds)
          (subst (λ ks. list_any (same_key (key_in new)) ks ≡ false) (left_out key_in new checked.index others)
          (key_of_no_other key_in same_key same_key_flip (updated_at (λ d. new) checked.index others) checked.index new differ (put_there new checked.index others (remade_body its there.0) (slice_get-map (remade_body its) ds checked.index ∙ ap (option_map (remade_body its)) there.1))))

      module _ (definition : Definition) (made : definition ≡ record { name = u.new_name; scope = checked.new_scope; has_equals = checked.body.has_equals; body = formulas.Tree (bound (function_of english) (scene_renamed inside.contents.sheets inside.contents.definitions checked.index u.new_name checked.new_scope) checked.new_scope checked.body.tree) }) where
        scene_is : scene_renamed ws ds checked.index u.new_name checked.new_scope ≡ scene_updated whole u
        scene_is =
            after_is inside h u checked.index c.index false (formulas.Raw []) checked.new_scope c.new_scope
            ∙ ap (λ (o : Option ℕ). scene_in (with_update whole u false (formulas.Raw []) o whole)) (sym c.index)

        new_is : definition ≡ new
        new_is =
            made
            ∙ ap₂ (λ (f : List ℕ → Option ℕ) (s : Scene). let d : Definition = record { name = u.new_name; scope = checked.new_scope; has_equals = checked.body.has_equals; body = formulas.Tree (bound f s checked.new_scope checked.body.tree) } in d) (sym (english_function_is inside.notation.tables english en)) scene_is
            ∙ ap (λ (o : Option ℕ). let d : Definition = record { name = u.new_name; scope = o; has_equals = checked.body.has_equals; body = formulas.Tree (bound (english_function n) (scene_updated whole u) o checked.body.tree) } in d) (sym c.new_scope)

        update_apart : list_any (same_key (key_in definition)) (remove (map key_in inside.contents.definitions) checked.index) ≡ false
        update_apart = subst (λ (d : Definition). list_any (same_key (key_in d)) (remove (map key_in ds) checked.index) ≡ false) (sym new_is) apart

        module _ (now : List HeldSheet) (nds : List Definition) (sheets : now ≡ with_own_rewrites prepared.formulas.items inside.contents.sheets) (names : nds ≡ updated_at (λ d. definition) checked.index (with_bodies prepared.bodies.bodies.items inside.contents.definitions)) where
          sheets_are : sheets_of now ≡ map (remade_pool its) (sheets_of ws)
          sheets_are = ap sheets_of sheets ∙ remade_made here prepared.formulas.items ws p.formulas ∙ ap (λ (r : Remade). map (remade_pool r) (sheets_of ws)) same_rule

          names_are : nds ≡ updated_at (λ d. new) checked.index (map (remade_body its) ds)
          names_are =
              names ∙ ap (updated_at (λ d. definition) checked.index) (p.made ∙ ap (λ (r : Remade). map (remade_body r) ds) same_rule)
              ∙ ap (λ (x : Definition). updated_at (λ d. x) checked.index (map (remade_body its) ds)) new_is

          update_left : whole_of (held (with_contents now nds inside)) ≡ updated_book whole u
          update_left =
              ap₂ (λ (ss : List Sheet) (xs : List Definition). let b : machine.Book = record whole { sheets = map (whole_sheet book.strings) ss; definitions = xs } in b) sheets_are names_are
              ∙ ap (λ (ss : List machine.Sheet). let b : machine.Book = record whole { sheets = ss; definitions = updated_at (λ d. new) checked.index (map (remade_body its) ds) } in b) (sym (pools_kept book u checked.index c.index body.has_equals formula (sheets_of ws)))
              ∙ sym left_is

          update_held : IsHeld (with_contents now nds inside)
          update_held = record {
            whole = subst valid_machine.IsValidBook (sym update_left) its_valid;
            strings =
                subst (λ (ss : List Sheet). AllByRecursion (λ (s : Sheet). HasStrings (length book.strings) s.grid) ss) (sym sheets_are)
                (all_mapped (λ (s : Sheet). HasStrings (length book.strings) s.grid) (remade_pool its) (λ s holds. holds) (sheets_of ws) h.strings);
          }

          seen : (ss : List HeldSheet) → map (looks_up_remade its) ss ≡ looks_up_untouched (old_key whole u) (new_key whole u) (map sheet_of ss) (look_ups ss)
          seen [] = refl
          seen (s ∷ ss) = ap (λ rest. looks_up_remade its s ∷ rest) (seen ss)

          update_looks_up : look_ups now ≡ looks_up_untouched (old_key whole u) (new_key whole u) (map sheet_of ws) (look_ups ws)
          update_looks_up = ap look_ups sheets ∙ remade_looks_up here prepared.formulas.items ws p.formulas ∙ ap (λ (r : Remade). map (looks_up_remade r) ws) same_rule ∙ seen ws

-- the same of what contracts see of a model, by the keys that its code has
module _ (inside : Inside) (h : IsHeld inside) (m : ModelState) (is : held_state inside ≡ m) (u : Update) (checked : CheckedUpdate) (c : IsChecked (whole_of m.book) u checked) (english : Language) (en : language_of inside.notation.tables (codes "en") ≡ Some english)
    (change : KeyChange) (keyed : change ≡ keys_named u.name u.new_name checked)
  where
    checked_here : IsChecked (whole_of (held inside)) u checked
    checked_here = subst (λ (k : ModelState). IsChecked (whole_of k.book) u checked) (sym is) c

    abbrev by_keys : KeyChange → Remade
    by_keys keys = rule_of_update (function_of english) inside.contents checked.index u.new_name keys

    pub leaves_held : LeavesAll (rule_of_update (function_of english) inside.contents checked.index u.new_name change) inside.contents
    leaves_held = subst (λ (k : KeyChange). LeavesAll (by_keys k) inside.contents) (sym keyed) (update_leaves inside h u checked checked_here english en)

    pub none_held : captures_some (rule_of_update (function_of english) inside.contents checked.index u.new_name change) change inside.contents ≡ false → false ≡ captures (whole_of m.book) u
    none_held none =
        sym (none_captures inside h u checked checked_here english en (ap (λ (k : KeyChange). captures_some (by_keys k) k inside.contents) (sym keyed) ∙ none))
        ∙ ap (λ (k : ModelState). captures (whole_of k.book) u) is

    module _ (prepared : PreparedUpdate) (p : IsPrepared (rule_of_update (function_of english) inside.contents checked.index u.new_name change) change inside.contents prepared) where
      prepared_here : IsPrepared (by_keys (keys_named u.name u.new_name checked)) (keys_named u.name u.new_name checked) inside.contents prepared
      prepared_here = subst (λ (k : KeyChange). IsPrepared (by_keys k) k inside.contents prepared) keyed p

      pub captures_held : has_sites (map site_of prepared.sites.items) ≡ captures (whole_of m.book) u
      captures_held = captures_is inside h u checked checked_here english en prepared prepared_here ∙ ap (λ (k : ModelState). captures (whole_of k.book) u) is

      pub refused_held : true ≡ has_sites (map site_of prepared.sites.items) → first_refusal (update_causes (whole_of m.book) u) ≡ Some (WouldCapture (map site_of prepared.sites.items))
      refused_held e = ap (λ (k : ModelState). first_refusal (update_causes (whole_of k.book) u)) (sym is) ∙ captures_refused inside h u checked checked_here english en prepared prepared_here e

      module _ (clear : has_sites (map site_of prepared.sites.items) ≡ false) where
        pub accepted_held : first_refusal (update_causes (whole_of m.book) u) ≡ None
        accepted_held = ap (λ (k : ModelState). first_refusal (update_causes (whole_of k.book) u)) (sym is) ∙ update_accepted inside h u checked checked_here english en prepared prepared_here clear

        pub within_held : checked.index < length inside.contents.definitions
        within_held = update_within inside h u checked checked_here english en prepared prepared_here clear

        pub fits_held : FitOwn prepared.formulas.items inside.contents.sheets
        fits_held = update_fits inside h u checked checked_here english en prepared prepared_here clear

        module _ (definition : Definition) (made : definition ≡ record { name = u.new_name; scope = checked.new_scope; has_equals = checked.body.has_equals; body = formulas.Tree (bound (function_of english) (scene_renamed inside.contents.sheets inside.contents.definitions checked.index u.new_name checked.new_scope) checked.new_scope checked.body.tree) }) where
          pub apart_held : list_any (same_key (key_in definition)) (remove (map key_in inside.contents.definitions) checked.index) ≡ false
          apart_held = update_apart inside h u checked checked_here english en prepared prepared_here clear definition made

          module _ (now : List HeldSheet) (nds : List Definition) (sheets : now ≡ with_own_rewrites prepared.formulas.items inside.contents.sheets) (names : nds ≡ updated_at (λ d. definition) checked.index (with_bodies prepared.bodies.bodies.items inside.contents.definitions)) where
            pub updated_held : IsHeld (with_contents now nds inside)
            updated_held = update_held inside h u checked checked_here english en prepared prepared_here clear definition made now nds sheets names

            pub updated_whole : whole_of (held (with_contents now nds inside)) ≡ updated_book (whole_of m.book) u
            updated_whole = update_left inside h u checked checked_here english en prepared prepared_here clear definition made now nds sheets names ∙ ap (λ (k : ModelState). updated_book (whole_of k.book) u) is

            pub updated_looks_up : LooksUpUpdated u m (held_state (with_contents now nds inside))
            updated_looks_up =
                subst (λ (k : ModelState). LooksUpUpdated u k (held_state (with_contents now nds inside))) is (update_looks_up inside h u checked checked_here english en prepared prepared_here clear definition made now nds sheets names)
