-- A deleted sheet and a deleted definition: what becomes of each mention, and that the sites of what is gone are listed.
use Rattle.std.proofs.Common.{◌≡◌, ◌⊎◌, inl, inr, ℕ, zero, suc, ◌<◌, List, [], ◌∷◌, ◌++◌, map, Bool, true, false, cond, ◌&&◌, ◌||◌, Option, Some, None, option_map, is_some, refl, sym, ap, subst, ◌∙◌, flat_map, arith}
use mathlib.Core.Bool.{and-false as no_and}
use Rattle.std.specs.Prelude.{bytes_eq, remove, slice_get}
use Rattle.std.specs.FinMap as finite
use Rattle.std.specs.List.{AllByRecursion, AllZip, Contains, IsDistinct, find, list_any}
use Rattle.std.specs.Option.{option_or, option_to_list}
use Rattle.std.proofs.lemmas.List.Elements.{Contains-append_left, Contains-append_right}
use Rattle.std.proofs.lemmas.Option.{slice_get-map}
use Rattle.std.proofs.lemmas.Simd.{map-map}
use Rattle.ic_laws.proofs.binding.Again.{BoundKind}
use Rattle.ic_laws.proofs.binding.Induction.{EveryPair, by_nodes, every_made}
use Rattle.ic_laws.proofs.binding.SceneLemmas.{found_passes}
use Rattle.ic_laws.proofs.keeping.Deletes.{delete_dangles}
use Rattle.ic_laws.proofs.keeping.NameChanges.{same_key_flip, same_key_from}
use Rattle.ic_laws.proofs.keeping.Removing.{finds_no_other, remove_map, removed_finds}
use Rattle.ic_laws.specs.Binding.{BoundPair, name_or_dangling, spelled_word}
use Rattle.ic_laws.specs.BookTrees.{with_body_tree, with_cell_trees, with_tree, with_trees}
use Rattle.ic_laws.specs.Changes.{Change, changed_local, changed_sheet, changed_tree, changed_word, definition_gone, is_of_name, is_of_sheet, sheet_gone}
use Rattle.ic_laws.specs.Command as core_command
use Rattle.ic_laws.specs.CoreBook as core
use Rattle.ic_laws.specs.CoreBook.{CellPlace, CoreBook, Definition, scene_of, spelling_of}
use Rattle.ic_laws.specs.CoreStep.{core_step, has_definition, without_definition, without_sheet}
use Rattle.ic_laws.specs.Mentions.{AllMentions, LocalMention, OfMentions}
use Rattle.ic_laws.specs.Name.{fold}
use Rattle.ic_laws.specs.Scene.{definition_spelling, found_name, key_of, same_key, same_scope}
use Rattle.ic_laws.specs.Tree.{Bound}
use Rattle.ic_laws.specs.declared.scene.NameSpelling.{NameSpelling}
use Rattle.ic_laws.specs.declared.scene.Scene.{Scene}
use Rattle.ic_laws.specs.declared.tree.Formula.{Formula}
use Rattle.ic_laws.specs.declared.tree.Formula.TheVariants as formulas
use Rattle.ic_laws.specs.declared.tree.LetPair.{every_made-LetPair}
use Rattle.ic_laws.specs.declared.tree.NameKey.{NameKey}
use Rattle.ic_laws.specs.declared.tree.NameMention.{NameMention}
use Rattle.ic_laws.specs.declared.tree.NameMention.TheVariants as names
use Rattle.ic_laws.specs.declared.tree.SheetMention.{SheetMention}
use Rattle.ic_laws.specs.declared.tree.SheetMention.TheVariants as sheet_mentions
use Rattle.ic_laws.specs.declared.tree.Tree.TheOpen as one
use Rattle.ic_tree.proofs.NotationLaws.{notations_are}
use Rattle.ic_pool.proofs.ChangeLemmas.{untouched_stays}
use Rattle.ic_pool.specs.Mentions.{is_dangling, is_dangling_word}
use Rattle.ic_machine.proofs.bound.BindsLemmas.{core_left, deleted_is_not_meant}
use Rattle.ic_machine.proofs.as_core.CoreValid.{core_valid}
use Rattle.ic_machine.specs.Book.{Book, Entry, Sheet, core_entry, core_of, core_sheet, notations_in}
use Rattle.ic_machine.specs.Command.{OnSheets}
use Rattle.ic_machine.specs.Content.{formula_in, formula_index}
use Rattle.ic_machine.specs.Refusal.{CellSite, DefinitionSite, Site}
use Rattle.ic_machine.specs.Sites.{mentions_name, mentions_sheet, passing_body, passing_cell, passing_cells, passing_sites}
use Rattle.ic_machine.specs.Valid.{IsValidBook}
use Rattle.ic_machine.specs.subjects.Sheets as sheets
use Rattle.ic_audit.specs.Gone.{BookBecomes, DanglesIf, DefinitionBecomes, FallsBackOrDangles, FormulaBecomes, LocalGoes, LocalNameGoes, NameGoes, NameGoesIf, NameIsGone, SheetBecomes, SheetGoes, SheetIsGone, SheetStays, TreeBecomes, WordStays, falls_back}

-- ---- facts that hold of every mention

module _ (P : SheetMention → Type 0) (F : NameMention → Type 0) (L : SheetMention → NameMention → Type 0) (of_sheet : (m : SheetMention) → P m) (of_word : (m : NameMention) → F m) (of_local : (s : SheetMention) (m : NameMention) → L s m) where
  here : (kind : BoundKind) → OfMentions P F L kind
  here (one.Reference sheet place) = of_sheet sheet
  here (one.Local sheet word) = (of_sheet sheet, of_local sheet word)
  here (one.Word word) = of_word word
  here (one.Call word arguments) = of_word word
  here kind = tt

  abbrev Pair : BoundPair → Type 0
  Pair pair = EveryPair (OfMentions P F L) (λ p. Unit {0}) pair

  all_mentions : (t : Bound) → AllMentions P F L t
  all_mentions =
      by_nodes (AllMentions P F L) Pair (λ kind below. every_made (OfMentions P F L) (λ p. Unit {0}) kind (here kind) below)
      (λ variable value below. every_made-LetPair SheetMention NameMention (OfMentions P F L) (λ p. Unit {0}) (record { variable = variable; value = value }) (record { variable = variable; value = (value, below) }) refl tt)

-- ---- lists side by side

zip_map : {A : Type 0} (R : A → A → Type 0) (f : A → A) (xs : List A) → AllByRecursion (λ x. R x (f x)) xs → AllZip R xs (map f xs)
zip_map R f [] h = tt
zip_map R f (x ∷ xs) h = (h.0, zip_map R f xs h.1)

zip_remove : {A : Type 0} (R : A → A → Type 0) (xs ys : List A) (i : ℕ) → AllZip R xs ys → AllZip R (remove xs i) (remove ys i)
zip_remove R [] [] zero h = tt
zip_remove R [] [] (suc i) h = tt
zip_remove R [] (y ∷ ys) i h = absurd h
zip_remove R (x ∷ xs) [] i h = absurd h
zip_remove R (x ∷ xs) (y ∷ ys) zero h = h.1
zip_remove R (x ∷ xs) (y ∷ ys) (suc i) h = (h.0, zip_remove R xs ys i h.1)

all_of : {A : Type 0} (P Q : A → Type 0) → ((x : A) → P x → Q x) → (xs : List A) → AllByRecursion P xs → AllByRecursion Q xs
all_of P Q f [] h = tt
all_of P Q f (x ∷ xs) h = (f x h.0, all_of P Q f xs h.1)

all_append : {A : Type 0} (P : A → Type 0) (xs ys : List A) → AllByRecursion P xs → AllByRecursion P ys → AllByRecursion P (xs ++ ys)
all_append P [] ys h k = k
all_append P (x ∷ xs) ys h k = (h.0, all_append P xs ys h.1 k)

-- ---- the formulas that pass a test stand at listed sites

module _ (test : Formula → Bool) where
  abbrev CellListed : List Site → ℕ → CellPlace × Formula → Type 0
  CellListed sites id cell = test cell.1 ≡ true → Contains sites (CellSite id cell.0)

  abbrev SheetListed : List Site → core.Sheet → Type 0
  SheetListed sites sheet = AllByRecursion (CellListed sites sheet.id) sheet.cells

  abbrev BodyListed : List Site → Definition → Type 0
  BodyListed sites d = test d.body ≡ true → Contains sites (DefinitionSite (key_of (spelling_of d)))

  first_listed : (site : Site) (b : Bool) → b ≡ true → Contains (let sites : List Site = cond b (site ∷ []) [] in sites) site
  first_listed site true e = (zero, (let lt : zero < 1 = omega arith in lt), refl)
  first_listed site false e = cc

  module _ (s : Sheet) where
    abbrev sites_of : List Entry → List Site
    sites_of es = flat_map (λ (entry : Entry). passing_cell test s entry.0 (formula_index entry.1)) es

    entry_listed : (place : CellPlace) (o : Option ℕ) → AllByRecursion (CellListed (passing_cell test s place o) s.id) (option_to_list (option_map (λ index. (place, formula_in s.pool index)) o))
    entry_listed place None = tt
    entry_listed place (Some index) = (λ passes. first_listed (CellSite s.id place) (test (formula_in s.pool index)) passes, tt)

    cells_listed : (es : List Entry) → AllByRecursion (CellListed (sites_of es) s.id) (flat_map (core_entry s.pool) es)
    cells_listed [] = tt
    cells_listed (e ∷ es) =
        let its = passing_cell test s e.0 (formula_index e.1) in
        all_append (CellListed (its ++ sites_of es) s.id) (core_entry s.pool e) (flat_map (core_entry s.pool) es)
        (all_of (CellListed its s.id) (CellListed (its ++ sites_of es) s.id) (λ cell h passes. Contains-append_left its (sites_of es) (CellSite s.id cell.0) (h passes)) (core_entry s.pool e) (entry_listed e.0 (formula_index e.1)))
        (all_of (CellListed (sites_of es) s.id) (CellListed (its ++ sites_of es) s.id) (λ cell h passes. Contains-append_right its (sites_of es) (CellSite s.id cell.0) (h passes)) (flat_map (core_entry s.pool) es) (cells_listed es))

  left_listed : (xs ys : List Site) (sheet : core.Sheet) → SheetListed xs sheet → SheetListed (xs ++ ys) sheet
  left_listed xs ys sheet = all_of (CellListed xs sheet.id) (CellListed (xs ++ ys) sheet.id) (λ cell h passes. Contains-append_left xs ys (CellSite sheet.id cell.0) (h passes)) sheet.cells

  right_listed : (xs ys : List Site) (sheet : core.Sheet) → SheetListed ys sheet → SheetListed (xs ++ ys) sheet
  right_listed xs ys sheet = all_of (CellListed ys sheet.id) (CellListed (xs ++ ys) sheet.id) (λ cell h passes. Contains-append_right xs ys (CellSite sheet.id cell.0) (h passes)) sheet.cells

  sheets_listed : (ss : List Sheet) → AllByRecursion (SheetListed (flat_map (passing_cells test) ss)) (map core_sheet ss)
  sheets_listed [] = tt
  sheets_listed (s ∷ ss) =
      let its = passing_cells test s in
      let rest = flat_map (passing_cells test) ss in
      (left_listed its rest (core_sheet s) (cells_listed s (finite.entries s.grid.contents)), all_of (SheetListed rest) (SheetListed (its ++ rest)) (right_listed its rest) (map core_sheet ss) (sheets_listed ss))

  bodies_listed : (ds : List Definition) → AllByRecursion (BodyListed (flat_map (passing_body test) ds)) ds
  bodies_listed [] = tt
  bodies_listed (d ∷ ds) =
      let its = passing_body test d in
      let rest = flat_map (passing_body test) ds in (
        λ passes. Contains-append_left its rest (DefinitionSite (key_of (spelling_of d))) (first_listed (DefinitionSite (key_of (spelling_of d))) (test d.body) passes),
        all_of (BodyListed rest) (BodyListed (its ++ rest)) (λ e h passes. Contains-append_right its rest (DefinitionSite (key_of (spelling_of e))) (h passes)) ds (bodies_listed ds),
      )

  module _ (book : Book) where
    abbrev cells_of : List Site
    cells_of = flat_map (passing_cells test) book.sheets

    abbrev bodies_of : List Site
    bodies_of = flat_map (passing_body test) book.definitions

    cells_at : AllByRecursion (SheetListed (passing_sites test book)) (core_of book).sheets
    cells_at = all_of (SheetListed cells_of) (SheetListed (passing_sites test book)) (left_listed cells_of bodies_of) (core_of book).sheets (sheets_listed book.sheets)

    bodies_at : AllByRecursion (BodyListed (passing_sites test book)) book.definitions
    bodies_at = all_of (BodyListed bodies_of) (BodyListed (passing_sites test book)) (λ d h passes. Contains-append_right cells_of bodies_of (DefinitionSite (key_of (spelling_of d))) (h passes)) book.definitions (bodies_listed book.definitions)

-- ---- a change that makes of each mention what is said

module _ (OfSheet : SheetMention → SheetMention → Type 0) (OfWord : NameMention → NameMention → Type 0) (OfLocal : SheetMention → NameMention → LocalMention → Type 0) (change : Change)
    (of_sheet : (m : SheetMention) → OfSheet m (changed_sheet change m)) (of_word : (scope : Option ℕ) (m : NameMention) → OfWord m (changed_word change scope m)) (of_local : (s : SheetMention) (m : NameMention) → OfLocal s m (changed_local change s m))
  where
    tree_becomes : (scope : Option ℕ) (t : Bound) → TreeBecomes OfSheet OfWord OfLocal t (changed_tree change scope t)
    tree_becomes scope t = record {
      sheet = changed_sheet change;
      word = changed_word change scope;
      local = changed_local change;
      same = refl;
      each = all_mentions (λ s. OfSheet s (changed_sheet change s)) (λ w. OfWord w (changed_word change scope w)) (λ s w. OfLocal s w (changed_local change s w)) of_sheet (of_word scope) of_local t;
    }

    formula_becomes : (scope : Option ℕ) (f : Formula) → FormulaBecomes OfSheet OfWord OfLocal f (with_tree (changed_tree change scope) f)
    formula_becomes scope (formulas.Tree t) = tree_becomes scope t
    formula_becomes scope (formulas.Raw text) = refl

    module _ (test : Formula → Bool) (book : Book) (stays : (scope : Option ℕ) (f : Formula) → test f ≡ false → with_tree (changed_tree change scope) f ≡ f) where
      abbrev sites : List Site
      sites = passing_sites test book

      abbrev Sheets : core.Sheet → core.Sheet → Type 0
      Sheets = SheetBecomes OfSheet OfWord OfLocal sites

      abbrev Definitions : Definition → Definition → Type 0
      Definitions = DefinitionBecomes OfSheet OfWord OfLocal sites

      -- a formula that passes the test stands at a listed site, and any other stays
      listed_or_same : (scope : Option ℕ) (f : Formula) (site : Site) → (test f ≡ true → Contains sites site) → Contains sites site ⊎ (with_tree (changed_tree change scope) f ≡ f)
      listed_or_same scope f site listed = by_test (test f) refl
        where
          by_test : (b : Bool) → test f ≡ b → Contains sites site ⊎ (with_tree (changed_tree change scope) f ≡ f)
          by_test true e = inl (listed e)
          by_test false e = inr (stays scope f e)

      sheet_becomes : (s : core.Sheet) → SheetListed test sites s → Sheets s (with_cell_trees (changed_tree change) s)
      sheet_becomes s listed = record {
        id = refl;
        name = refl;
        cells = zip_map _ (λ (cell : CellPlace × Formula). (cell.0, with_tree (changed_tree change (Some s.id)) cell.1)) s.cells
            (all_of (CellListed test sites s.id) _ (λ cell h. record { place = refl; formula = record { formula = formula_becomes (Some s.id) cell.1; listed = listed_or_same (Some s.id) cell.1 (CellSite s.id cell.0) h } }) s.cells listed);
      }

      definition_becomes : (d : Definition) → BodyListed test sites d → Definitions d (with_body_tree (changed_tree change) d)
      definition_becomes d listed = record {
        name = refl;
        scope = refl;
        has_equals = refl;
        body = record { formula = formula_becomes d.scope d.body; listed = listed_or_same d.scope d.body (DefinitionSite (key_of (spelling_of d))) listed };
      }

      pub sheets_become : AllZip Sheets (core_of book).sheets (map (with_cell_trees (changed_tree change)) (core_of book).sheets)
      sheets_become = zip_map Sheets (with_cell_trees (changed_tree change)) (core_of book).sheets (all_of (SheetListed test sites) _ sheet_becomes (core_of book).sheets (cells_at test book))

      pub definitions_become : AllZip Definitions book.definitions (map (with_body_tree (changed_tree change)) book.definitions)
      definitions_become = zip_map Definitions (with_body_tree (changed_tree change)) book.definitions (all_of (BodyListed test sites) _ definition_becomes book.definitions (bodies_at test book))

      pub sheet_left : (index : ℕ) (after : CoreBook) → after ≡ without_sheet index (with_trees (changed_tree change) (core_of book)) → BookBecomes OfSheet OfWord OfLocal sites (remove (core_of book).sheets index) book.definitions after
      sheet_left index after is = subst (BookBecomes OfSheet OfWord OfLocal sites (remove (core_of book).sheets index) book.definitions) (sym is) (record {
        sheets = zip_remove Sheets (core_of book).sheets (map (with_cell_trees (changed_tree change)) (core_of book).sheets) index sheets_become;
        definitions = definitions_become;
      })

      pub definition_left : (index : ℕ) (after : CoreBook) → after ≡ without_definition (Some index) (with_trees (changed_tree change) (core_of book)) → BookBecomes OfSheet OfWord OfLocal sites (core_of book).sheets (remove book.definitions index) after
      definition_left index after is = subst (BookBecomes OfSheet OfWord OfLocal sites (core_of book).sheets (remove book.definitions index)) (sym is) (record {
        sheets = sheets_become;
        definitions = zip_remove Definitions book.definitions (map (with_body_tree (changed_tree change)) book.definitions) index definitions_become;
      })

-- ---- a sheet goes

dangles_if : {M : Type 0} (dangles : M → Bool) (b : Bool) (before to : M) → dangles to ≡ true → DanglesIf dangles b before (cond b to before)
dangles_if dangles true before to e = e
dangles_if dangles false before to e = refl

module _ (scene : Scene) (id : ℕ) (name : List ℕ) where
  sheet_goes : (m : SheetMention) → SheetGoes id m (changed_sheet (sheet_gone scene id name) m)
  sheet_goes m = dangles_if is_dangling (is_of_sheet id m) m (sheet_mentions.Dangling name) refl

  local_goes : (s : SheetMention) (m : NameMention) → LocalGoes id s m (changed_local (sheet_gone scene id name) s m)
  local_goes s m = by_test (is_of_sheet id s)
    where
      by_test : (b : Bool) → DanglesIf is_dangling b s (let to : LocalMention = cond b (sheet_mentions.Dangling name, names.Dangling (spelled_word (definition_spelling scene) m)) (s, m) in to).0 × DanglesIf is_dangling_word b m (let to : LocalMention = cond b (sheet_mentions.Dangling name, names.Dangling (spelled_word (definition_spelling scene) m)) (s, m) in to).1
      by_test true = (refl, refl)
      by_test false = (refl, refl)

pub sheet_is_gone : SheetIsGone
unfolding core_step
sheet_is_gone b after index sheet fields valid at e =
    let left = core_left b after (OnSheets (sheets.DeleteSheet index)) (core_command.DeleteSheet index) fields refl e in
    let scene = scene_of (core_of b) in
    sheet_left (SheetGoes sheet.id) WordStays (LocalGoes sheet.id) (sheet_gone scene sheet.id sheet.name) (sheet_goes scene sheet.id sheet.name) (λ scope m. refl) (local_goes scene sheet.id sheet.name) (mentions_sheet sheet.id) b
    (untouched_stays (sheet_gone scene sheet.id sheet.name)) index (core_of after)
    (delete_dangles (notations_in b) (core_of b) (core_of after) index (core_sheet sheet) left.0 (notations_are b.tables valid.tables) (core_valid b valid) (slice_get-map core_sheet b.sheets index ∙ ap (option_map core_sheet) at) left.1)

-- ---- a definition goes

found_any : (p : NameSpelling → Bool) (ds : List Definition) → is_some (find p (map spelling_of ds)) ≡ list_any (λ d. p (spelling_of d)) ds
found_any p [] = refl
found_any p (d ∷ ds) = by_test (p (spelling_of d)) (found_any p ds)
  where
    by_test : (b : Bool) → is_some (find p (map spelling_of ds)) ≡ list_any (λ d. p (spelling_of d)) ds → is_some (cond b (Some (spelling_of d)) (find p (map spelling_of ds))) ≡ (b || list_any (λ d. p (spelling_of d)) ds)
    by_test true rest = refl
    by_test false rest = rest

module _ (book : Book) (index : ℕ) (definition : Definition) (at : slice_get book.definitions index ≡ Some definition) (valid : IsValidBook book) where
  abbrev rest_of : Scene
  rest_of = scene_of (without_definition (Some index) (core_of book))

  -- a definition of an agreeing name for all sheets
  abbrev is_global : NameSpelling → Bool
  is_global x = bytes_eq (fold x.name) (fold definition.name) && same_scope x.scope None

  spelled_at : slice_get (map spelling_of book.definitions) index ≡ Some (spelling_of definition)
  spelled_at = slice_get-map spelling_of book.definitions index ∙ ap (option_map spelling_of) at

  falls : falls_back book definition ≡ is_some (find is_global rest_of.names)
  falls = by_scope definition.scope refl
    where
      keys : IsDistinct same_key (map key_of (map spelling_of book.definitions))
      keys = subst (IsDistinct same_key) (sym (map-map key_of spelling_of book.definitions)) valid.definitions.differ

      left : (p : NameSpelling → Bool) → find p rest_of.names ≡ find p (remove (map spelling_of book.definitions) index)
      left p = ap (find p) (remove_map spelling_of book.definitions index)

      by_scope : (o : Option ℕ) → definition.scope ≡ o → falls_back book definition ≡ is_some (find is_global rest_of.names)
      by_scope None e =
          let none : find is_global (remove (map spelling_of book.definitions) index) ≡ None =
          subst (λ (s : Option ℕ). find (λ (y : NameSpelling). bytes_eq (fold y.name) (fold definition.name) && same_scope y.scope s) (remove (map spelling_of book.definitions) index) ≡ None) e
          (finds_no_other key_of same_key same_key_flip (map spelling_of book.definitions) index (spelling_of definition) keys spelled_at) in
          ap (λ (s : Option ℕ). is_some s && has_definition (core_of book) definition.name None) e ∙ sym (ap is_some (left is_global ∙ none))
      by_scope (Some id) e =
          let other : is_global (spelling_of definition) ≡ false =
          ap (λ (s : Option ℕ). bytes_eq (fold definition.name) (fold definition.name) && same_scope s None) e ∙ no_and (bytes_eq (fold definition.name) (fold definition.name)) in
          ap (λ (s : Option ℕ). is_some s && has_definition (core_of book) definition.name None) e ∙ sym (found_any is_global book.definitions)
          ∙ sym (ap is_some (left is_global ∙ removed_finds is_global (map spelling_of book.definitions) index (spelling_of definition) spelled_at other))

  abbrev its_key : NameKey
  its_key = key_of (spelling_of definition)

  fallen : (o : Option NameSpelling) → find is_global rest_of.names ≡ o → falls_back book definition ≡ is_some o → FallsBackOrDangles (falls_back book definition) its_key (name_or_dangling definition.name (option_map key_of (option_or o o)))
  fallen None e f = subst (λ b. FallsBackOrDangles b its_key (names.Dangling definition.name)) (sym f) refl
  fallen (Some d) e f =
      let global : NameKey = record { name = its_key.name; scope = None } in
      subst (λ b. FallsBackOrDangles b its_key (names.Name (key_of d))) (sym f) (ap (λ k. names.Name k) (same_key_from (key_of d) global (found_passes is_global rest_of.names d e)))

  becomes : FallsBackOrDangles (falls_back book definition) its_key (name_or_dangling definition.name (found_name rest_of None definition.name))
  becomes = fallen (find is_global rest_of.names) refl falls

  name_goes : (scope : Option ℕ) (m : NameMention) → NameGoes (falls_back book definition) its_key m (changed_word (definition_gone rest_of (spelling_of definition)) scope m)
  name_goes scope m = by_test (is_of_name its_key m)
    where
      by_test : (b : Bool) → NameGoesIf b (falls_back book definition) its_key m (cond b (name_or_dangling definition.name (found_name rest_of None definition.name)) m)
      by_test true = becomes
      by_test false = refl

  local_name_goes : (s : SheetMention) (m : NameMention) → LocalNameGoes its_key s m (changed_local (definition_gone rest_of (spelling_of definition)) s m)
  local_name_goes s m = (refl, dangles_if is_dangling_word (is_of_name its_key m) m (names.Dangling definition.name) refl)

  pub name_left : (after : CoreBook) → after ≡ without_definition (Some index) (with_trees (changed_tree (definition_gone rest_of (spelling_of definition))) (core_of book))
      → BookBecomes SheetStays (NameGoes (falls_back book definition) its_key) (LocalNameGoes its_key) (passing_sites (mentions_name its_key) book) (core_of book).sheets (remove book.definitions index) after
  name_left after is =
      definition_left SheetStays (NameGoes (falls_back book definition) its_key) (LocalNameGoes its_key) (definition_gone rest_of (spelling_of definition)) (λ m. refl) name_goes local_name_goes (mentions_name its_key) book (untouched_stays (definition_gone rest_of (spelling_of definition))) index after is

pub name_is_gone : NameIsGone
name_is_gone b after name scope index definition fields valid found at e =
    name_left b index definition at valid (core_of after) (deleted_is_not_meant b after name scope index definition fields valid found at e)
