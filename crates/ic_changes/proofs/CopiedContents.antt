-- What the contents of a book are after a sheet was copied.
use Rattle.std.proofs.Common.{◌≡◌, ℕ, ◌+◌, ◌<◌, ◌≤◌, List, [], ◌++◌, map, length, true, false, Option, Some, sym, ap, ap₂, subst, ◌∙◌, arith}
use Rattle.std.proofs.lemmas.List.{length-map}
use Rattle.std.specs.List.{AllByRecursion, insert, list_any, remove, slice_get}
use Rattle.ic_laws.specs.BookTrees.{with_body_tree}
use Rattle.ic_laws.specs.Changes.{Change, changed_tree, sheet_named}
use Rattle.ic_laws.specs.CoreBook.{Definition}
use Rattle.ic_laws.specs.CoreStep.{is_named, updated_at}
use Rattle.ic_laws.specs.declared.scene.Scene.{Scene}
use Rattle.ic_laws.specs.declared.tree.Formula.{Formula}
use Rattle.ic_definitions.specs.Bodies.{with_bodies}
use Rattle.ic_definitions.specs.Named.{definitions_scene}
use Rattle.ic_definitions.specs.declared.bodies.NewBody.{NewBody}
use Rattle.ic_keep.specs.Copy.{copied_for}
use Rattle.ic_machine.specs.subjects.Sheets.{copied_of, local_in, with_formula}
use Rattle.ic_sheets.proofs.InsertLemmas.{filled_look_ups, filled_sheets, got_before, held_filled, inserted_removed, sheet_filled}
use Rattle.ic_sheets.proofs.MakesLemmas.{Own}
use Rattle.ic_sheets.specs.Rewriting.{changed_pool, look_ups, looks_up_after, sheets_of, with_own_rewrites}
use Rattle.ic_sheets.specs.Sheet.{empty_grid, plain_tab, sheet_of}
use Rattle.ic_sheets.specs.declared.sheet.Sheet.{Sheet as HeldSheet}
use Rattle.ic_changes.specs.Copied.{HasCopy, filled_by, made_for, with_each_body}
use Rattle.ic_parts.specs.Scene.{scene_of_parts}
use Rattle.ic_parts.specs.declared.contents.Contents.{Contents}
use Rattle.ic_changes.specs.declared.sheet_copies.filling.Filling.{Filling}
use Rattle.ic_changes.proofs.CopiedDefinitions.{each_made, still_apart}

-- what a copy holds ----

module _ (english : List ℕ → Option ℕ) (id : ℕ) (ws sheets : List HeldSheet) (first more ds cs : List Definition) (s source : HeldSheet) (same_sheets : ws ≡ sheets) (same_first : first ≡ ds) (same_more : more ≡ cs) (same_source : s ≡ source) where
  scene_same : scene_of_parts ws (first ++ more) ≡ scene_of_parts sheets (ds ++ cs)
  scene_same = ap₂ scene_of_parts same_sheets (ap₂ (λ (a b : List Definition). a ++ b) same_first same_more)

  pub filling_same : (f : Filling) → f ≡ filled_by (copied_for english (scene_of_parts ws (first ++ more)) s.id id (Some id)) s → f ≡ filled_by (made_for english sheets (ds ++ cs) source.id id) source
  filling_same f e = e ∙ ap₂ (λ (scene : Scene) (x : HeldSheet). filled_by (copied_for english scene x.id id (Some id)) x) scene_same same_source

  pub bodies_same : (bodies : List Formula) (list : List Definition) → bodies ≡ map (λ (d : Definition). copied_for english (scene_of_parts ws (first ++ more)) s.id id (Some id) d.body) list → list ≡ cs
      → bodies ≡ map (λ (d : Definition). made_for english sheets (ds ++ cs) source.id id d.body) cs
  bodies_same bodies list e l =
      e ∙ ap₂ (λ (scene : Scene) (x : HeldSheet). map (λ (d : Definition). copied_for english scene x.id id (Some id) d.body) list) scene_same same_source
      ∙ ap (map (λ (d : Definition). made_for english sheets (ds ++ cs) source.id id d.body)) l

-- the definitions that are copied get their bodies ----

module _ (f : Formula → Formula) (copies put : List Definition) (bodies : List Formula) (made : bodies ≡ map (λ (d : Definition). f d.body) copies) where
  pub bodies_fit : length bodies ≤ length copies
  bodies_fit = let same : length bodies ≡ length copies = ap length made ∙ length-map copies (λ (d : Definition). f d.body) in omega (arith, same)

  module _ (done : put ≡ with_each_body bodies copies) where
    pub bodies_are : put ≡ map (with_formula f) copies
    bodies_are = done ∙ ap (λ bs. with_each_body bs copies) made ∙ each_made f copies

    pub put_apart : (ds : List Definition) → AllByRecursion (λ (d : Definition). list_any (is_named d.name d.scope) ds ≡ false) copies → AllByRecursion (λ (d : Definition). list_any (is_named d.name d.scope) ds ≡ false) put
    put_apart ds apart = subst (AllByRecursion (λ (d : Definition). list_any (is_named d.name d.scope) ds ≡ false)) (sym bodies_are) (still_apart f ds copies apart)

-- all together ----

-- a sheet that holds nothing
abbrev held_empty : ℕ → List ℕ → HeldSheet
held_empty id name = record { id = id; name = name; pool = record { formulas = []; is_whole = true }; grid = empty_grid; tab = plain_tab }

module _ (english : List ℕ → Option ℕ) (index id : ℕ) (name : List ℕ) (source : HeldSheet) (old : Contents) (within : index < length old.sheets) (at : slice_get old.sheets index ≡ Some source) where
  abbrev place : ℕ
  place = index + 1

  abbrev copied : List Definition
  copied = map (local_in id) (copied_of source.id old.definitions)

  abbrev change : Change
  change = sheet_named (definitions_scene (old.definitions ++ copied)) id name

  module _ (copies first more : List Definition) (s : HeldSheet) (same_source : s ≡ source) (are : copies ≡ map (local_in id) (copied_of s.id old.definitions)) (same_first : first ≡ old.definitions) (same_more : more ≡ copies) where
    copies_are : copies ≡ copied
    copies_are = are ∙ ap (λ (x : HeldSheet). map (local_in id) (copied_of x.id old.definitions)) same_source

    -- the change that was prepared
    change_is : sheet_named (definitions_scene (first ++ more)) id name ≡ change
    change_is = ap₂ (λ (a b : List Definition). sheet_named (definitions_scene (a ++ b)) id name) same_first (same_more ∙ copies_are)

    module _ (put : List HeldSheet) (is_put : put ≡ insert old.sheets place (held_empty id name)) where
      -- the sheet that is copied stands where it stood
      still_there : slice_get put index ≡ Some source
      still_there = ap (λ (xs : List HeldSheet). slice_get xs index) is_put ∙ got_before old.sheets place index (held_empty id name) (omega arith) (omega (arith, within)) ∙ at

      abbrev formula_with : List HeldSheet → List Definition → Formula → Formula
      formula_with sheets cs = made_for english sheets (old.definitions ++ cs) source.id id

      abbrev formula : Formula → Formula
      formula = formula_with (insert old.sheets place (held_empty id name)) copied

      formula_is : formula_with put copies ≡ formula
      formula_is = ap₂ formula_with is_put copies_are

      module _ (prepared : Own) (bodies : List NewBody) (filling : Filling) (new : Contents) (between done : List HeldSheet)
          (made : sheets_of (with_own_rewrites prepared put) ≡ insert (map (changed_pool (sheet_named (definitions_scene (first ++ more)) id name)) (sheets_of old.sheets)) place (sheet_of (held_empty id name)))
          (looks_up : look_ups (with_own_rewrites prepared put) ≡ insert (map (looks_up_after (sheet_named (definitions_scene (first ++ more)) id name)) old.sheets) place true)
          (kept : between ≡ put) (applied : done ≡ with_own_rewrites prepared between)
          (filled : new.sheets ≡ updated_at (held_filled filling.pool filling.grid filling.tab place) place done)
          (holds : (x : HeldSheet) → slice_get put index ≡ Some x → filling ≡ filled_by (made_for english put (old.definitions ++ copies) x.id id) x)
          (others : with_bodies bodies old.definitions ≡ map (with_body_tree (changed_tree (sheet_named (definitions_scene (first ++ more)) id name))) old.definitions)
          (added : (x : HeldSheet) → slice_get put index ≡ Some x → new.definitions ≡ with_bodies bodies old.definitions ++ map (with_formula (made_for english put (old.definitions ++ copies) x.id id)) copies) where
        done_is : done ≡ with_own_rewrites prepared put
        done_is = applied ∙ ap (with_own_rewrites prepared) kept

        filling_is : filling ≡ filled_by formula source
        filling_is = holds source still_there ∙ ap (λ f. filled_by f source) formula_is

        counted : place ≤ length (map (changed_pool change) (sheets_of old.sheets))
        counted = let n : length (map (changed_pool change) (sheets_of old.sheets)) ≡ length old.sheets = length-map (sheets_of old.sheets) (changed_pool change) ∙ length-map old.sheets sheet_of in omega (arith, within, n)

        whole_counted : place ≤ length (map (looks_up_after change) old.sheets)
        whole_counted = let n : length (map (looks_up_after change) old.sheets) ≡ length old.sheets = length-map old.sheets (looks_up_after change) in omega (arith, within, n)

        pub copy_made : HasCopy english index id name source old new
        copy_made = record {
          sheets =
              ap sheets_of filled
              ∙ filled_sheets filling.pool filling.grid filling.tab place done (map (changed_pool change) (sheets_of old.sheets)) (sheet_of (held_empty id name)) counted
              (ap sheets_of done_is ∙ made ∙ ap (λ (c : Change). insert (map (changed_pool c) (sheets_of old.sheets)) place (sheet_of (held_empty id name))) change_is)
              ∙ ap (λ (f : Filling). insert (map (changed_pool change) (sheets_of old.sheets)) place (sheet_filled f.pool f.grid f.tab place (sheet_of (held_empty id name)))) filling_is;
          definitions =
              added source still_there
              ∙ ap₂ (λ (ds cs : List Definition). ds ++ cs) (others ∙ ap (λ (c : Change). map (with_body_tree (changed_tree c)) old.definitions) change_is)
              (ap₂ (λ (f : Formula → Formula) (cs : List Definition). map (with_formula f) cs) formula_is copies_are);
          looks_up =
              ap look_ups filled
              ∙ filled_look_ups filling.pool filling.grid filling.tab place done (map (looks_up_after change) old.sheets) true whole_counted
              (ap look_ups done_is ∙ looks_up ∙ ap (λ (c : Change). insert (map (looks_up_after c) old.sheets) place true) change_is)
              ∙ ap (λ (f : Filling). insert (map (looks_up_after change) old.sheets) place f.pool.is_whole) filling_is;
        }

-- and where memory ran out ----

-- the copy is taken out again
pub copy_gone : (old left : Contents) (index id : ℕ) (name : List ℕ) (put : List HeldSheet) → index < length old.sheets → put ≡ insert old.sheets (index + 1) (held_empty id name) → left ≡ record { sheets = put; definitions = old.definitions }
    → (new : List HeldSheet) → new ≡ remove left.sheets (index + 1) → (let after : Contents = record { sheets = new; definitions = left.definitions } in after ≡ old)
copy_gone old left index id name put within is_put stays new gone =
    ap₂ (λ (ss : List HeldSheet) (ds : List Definition). let after : Contents = record { sheets = ss; definitions = ds } in after)
    (gone ∙ ap (λ (xs : List HeldSheet). remove xs (index + 1)) (ap (λ (c : Contents). c.sheets) stays ∙ is_put) ∙ inserted_removed old.sheets (index + 1) (held_empty id name) (omega (arith, within)))
    (ap (λ (c : Contents). c.definitions) stays)
