-- What a model holds where a definition comes, or goes.
use Rattle.std.proofs.Common.{◌≡◌, ◌++◌, List, [], ◌∷◌, Option, IfSome, Some, None, ℕ, false, map, true, sym, ap, subst, ◌∙◌}
use Rattle.std.specs.Prelude.{position, remove, slice_get}
use Rattle.std.specs.List.{AllByRecursion, list_any}
use Rattle.ic_laws.proofs.keeping.Deletes.{delete_definition_dangles, new_definition_binds}
use Rattle.ic_laws.specs.BookTrees.{with_body_tree, with_trees}
use Rattle.ic_laws.specs.Changes.{changed_tree, definition_added, definition_gone}
use Rattle.ic_laws.specs.CoreBook.{CoreBook, Definition, scene_of, spelling_of}
use Rattle.ic_laws.specs.CoreStep.{changed_by, delete_definition_refusal, index_of_definition, is_named, new_definition, new_definition_refusal, scope_of, scope_or_none, unless_refused, with_definition, with_new_definition, without_definition}
use Rattle.ic_laws.specs.FormulaReading.{Body, body_of}
use Rattle.ic_laws.specs.Notations.{Notations}
use Rattle.ic_definitions.proofs.NamesFacts.{item_at_position}
use Rattle.ic_definitions.specs.Bodies.{StaysWhereFound}
use Rattle.ic_definitions.specs.Named.{definitions_scene}
use Rattle.ic_sheets.specs.Rewriting.{changed_pool, look_ups, looks_up_after, sheets_of}
use Rattle.ic_sheets.specs.declared.sheet.Sheet.{Sheet as HeldSheet}
use Rattle.ic_parts.specs.Book.{Book, IsValidBook, ModelState, core_of, notations_in}
use Rattle.ic_parts.specs.Change.{book_changed_by, with_added_definition, with_removed_definition}
use Rattle.ic_book.specs.declared.model.Model.TheInside.{Inside}
use Rattle.ic_book.specs.Inside.{IsHeld, held, held_state, with_contents}
use Rattle.ic_changes.specs.LookUps.{looks_up_in}
use Rattle.ic_parts.proofs.BookLemmas.{core_of-changed, defined_change, undefined_change}
use Rattle.ic_parts.proofs.BookValid.{core_valid, defined_valid, notations, undefined_valid}
use Rattle.ic_book.proofs.HeldLemmas.{defined, held_after, undefined}
use Rattle.ic_changes.proofs.LookUpLemmas.{looks_up_is}
use Rattle.ic_parts.proofs.NameLemmas.{index_is, key_free, name_there, scope_is}
use Rattle.ic_changes.proofs.SparedBodies.{adding_bodies}

some_is : (a b : Body) → Some a ≡ Some b → a ≡ b
some_is a b e = cc

module _ (inside : Inside) (h : IsHeld inside)
    (m : ModelState) (is : held_state inside ≡ m) (called : List ℕ) (index : Option ℕ) (id : Option ℕ) (scope : scope_of (core_of m.book) index ≡ Some id) where
  abbrev ws : List HeldSheet
  ws = inside.contents.sheets

  abbrev ds : List Definition
  ds = inside.contents.definitions

  abbrev held_book : Book
  held_book = held inside

  abbrev core : CoreBook
  core = core_of m.book

  abbrev n : Notations
  n = notations_in m.book

  valid : IsValidBook m.book
  valid = subst (λ (k : ModelState). IsValidBook k.book) is h

  its_scope : scope_or_none core index ≡ id
  its_scope = scope_is core index id scope

  -- ---- one comes

  module _ (text : List ℕ) (typed : Body) (new : Definition) (reads : body_of n core text ≡ Some typed) (none : new_definition_refusal n core called index text ≡ None) (made : new ≡ new_definition n core called id typed) where
    abbrev made_new : Definition
    made_new = new_definition n core called (scope_or_none core index) typed

    made_again : new ≡ new_definition n core called (scope_or_none core index) typed
    made_again = made ∙ ap (λ s. new_definition n core called s typed) (sym its_scope)

    scope_here : scope_of (core_of held_book) index ≡ Some id
    scope_here = ap (λ (k : ModelState). scope_of (core_of k.book) index) is ∙ scope

    none_here : new_definition_refusal (notations_in held_book) (core_of held_book) called index text ≡ None
    none_here = ap (λ (k : ModelState). new_definition_refusal (notations_in k.book) (core_of k.book) called index text) is ∙ none

    made_here : new ≡ new_definition (notations_in held_book) (core_of held_book) called (scope_or_none (core_of held_book) index) typed
    made_here = made_again ∙ ap (λ (k : ModelState). new_definition (notations_in k.book) (core_of k.book) called (scope_or_none (core_of k.book) index) typed) (sym is)

    same_body : (body : Body) → body_of n core text ≡ Some body → typed ≡ body
    same_body body e = some_is typed body (sym reads ∙ e)

    -- no definition has its key
    pub is_free : list_any (is_named new.name new.scope) ds ≡ false
    is_free = ap (λ (d : Definition). list_any (is_named d.name d.scope) ds) made ∙ key_free (notations_in held_book) (core_of held_book) called index text id scope_here none_here

    -- one that is local to none leaves the bodies in which all was found
    pub it_spares : new.scope ≡ None → AllByRecursion (StaysWhereFound (definition_added (spelling_of new))) ds
    it_spares global = adding_bodies (core_of held_book) (spelling_of new) global (ap (λ s. list_any (is_named new.name s) ds) (sym global) ∙ is_free) (notations_in held_book) (core_valid held_book h)

    -- the look-ups that it leaves
    pub defined_looks_up : (now : List HeldSheet) → look_ups now ≡ map (looks_up_after (definition_added (spelling_of new))) ws
        → look_ups now ≡ looks_up_in (definition_added (record { name = called; scope = scope_or_none core index })) m
    defined_looks_up now e =
        e ∙ sym (looks_up_is (definition_added (spelling_of new)) ws) ∙ ap (looks_up_in (definition_added (spelling_of new))) is ∙ ap (λ (d : Definition). looks_up_in (definition_added (spelling_of d)) m) made_again

    module _ (now : List HeldSheet) (nds : List Definition) (sheets : sheets_of now ≡ map (changed_pool (definition_added (spelling_of new))) (sheets_of ws)) (names : nds ≡ map (with_body_tree (changed_tree (definition_added (spelling_of new)))) ds ++ new ∷ []) where
      left : held (with_contents now nds inside) ≡ book_changed_by (with_added_definition new) held_book
      left = defined inside h now nds new sheets names

      pub defined_held : IsHeld (with_contents now nds inside)
      defined_held =
          held_after inside h now nds (book_changed_by (with_added_definition new) held_book) left
          (subst (λ (d : Definition). IsValidBook (book_changed_by (with_added_definition d) held_book)) (sym made_here)
          (defined_valid held_book h called index text typed none_here (ap (λ (k : ModelState). body_of (notations_in k.book) (core_of k.book) text) is ∙ reads)))

      left_there : held (with_contents now nds inside) ≡ book_changed_by (with_added_definition made_new) m.book
      left_there = left ∙ ap (λ (k : ModelState). book_changed_by (with_added_definition new) k.book) is ∙ ap (λ (d : Definition). book_changed_by (with_added_definition d) m.book) made_again

      pub defined_book : (body : Body) → body_of n core text ≡ Some body → held (with_contents now nds inside) ≡ book_changed_by (with_added_definition (new_definition n core called (scope_or_none core index) body)) m.book
      defined_book body e = left_there ∙ ap (λ b. book_changed_by (with_added_definition (new_definition n core called (scope_or_none core index) b)) m.book) (same_body body e)

      pub defined_core : core_of (held (with_contents now nds inside)) ≡ with_new_definition n core called (scope_or_none core index) (body_of n core text)
      defined_core = ap core_of left_there ∙ core_of-changed n (with_added_definition made_new) (with_definition made_new) (defined_change made_new) m.book ∙ ap (with_new_definition n core called (scope_or_none core index)) (sym reads)

      pub defined_binds : (body : Body) → body_of n core text ≡ Some body → core_of (held (with_contents now nds inside))
          ≡ with_definition (new_definition n core called (scope_or_none core index) body) (with_trees (changed_tree (definition_added (record { name = called; scope = scope_or_none core index }))) core)
      defined_binds body e =
          defined_core
          ∙ new_definition_binds n core _ called index text body [] (notations m.book valid) (core_valid m.book valid) e (ap (λ r. unless_refused r (with_new_definition n core called (scope_or_none core index) (body_of n core text)) []) none)

  -- ---- one goes

  module _ (at : ℕ) (found : position (is_named called id) ds ≡ Some at) where
    there : (d : Definition) × (slice_get ds at ≡ Some d) × (is_named called id d ≡ true)
    there = item_at_position (is_named called id) ds at found

    found_there : position (is_named called id) core.definitions ≡ Some at
    found_there = ap (λ (k : ModelState). position (is_named called id) (core_of k.book).definitions) (sym is) ∙ found

    its_index : index_of_definition core called (scope_or_none core index) ≡ Some at
    its_index = index_is core called index id scope (Some at) found_there

    -- nothing refuses it
    pub it_goes : delete_definition_refusal core called index ≡ None
    it_goes = name_there core called index id scope at found_there

    -- the look-ups that it leaves
    pub undefined_looks_up : (now : List HeldSheet) → ((d : Definition) → slice_get ds at ≡ Some d → look_ups now ≡ map (looks_up_after (definition_gone (definitions_scene (remove ds at)) (spelling_of d))) ws)
        → IfSome (index_of_definition core called (scope_or_none core index)) (λ i. IfSome (slice_get m.book.definitions i)
        (λ d. look_ups now ≡ looks_up_in (definition_gone (scene_of (without_definition (Some i) core)) (spelling_of d)) m))
    undefined_looks_up now e =
        subst (λ o. IfSome o (λ i. IfSome (slice_get m.book.definitions i) (λ (d : Definition). look_ups now ≡ looks_up_in (definition_gone (scene_of (without_definition (Some i) core)) (spelling_of d)) m))) (sym its_index)
        (subst (λ (k : ModelState). IfSome (slice_get k.book.definitions at) (λ (d : Definition). look_ups now ≡ looks_up_in (definition_gone (scene_of (without_definition (Some at) (core_of k.book))) (spelling_of d)) k)) is
        (subst (λ o. IfSome o (λ (d : Definition). look_ups now ≡ looks_up_in (definition_gone (scene_of (without_definition (Some at) (core_of held_book))) (spelling_of d)) (held_state inside))) (sym there.1)
        (e there.0 there.1 ∙ sym (looks_up_is (definition_gone (definitions_scene (remove ds at)) (spelling_of there.0)) ws))))

    module _ (now : List HeldSheet) (nds : List Definition) (sheets : (d : Definition) → slice_get ds at ≡ Some d → sheets_of now ≡ map (changed_pool (definition_gone (definitions_scene (remove ds at)) (spelling_of d))) (sheets_of ws))
        (names : (d : Definition) → slice_get ds at ≡ Some d → nds ≡ remove (map (with_body_tree (changed_tree (definition_gone (definitions_scene (remove ds at)) (spelling_of d)))) ds) at) where
      remains : held (with_contents now nds inside) ≡ book_changed_by (with_removed_definition (Some at)) held_book
      remains = undefined inside h now nds at there.0 there.1 (sheets there.0 there.1) (names there.0 there.1)

      pub undefined_held : IsHeld (with_contents now nds inside)
      undefined_held =
          held_after inside h now nds (book_changed_by (with_removed_definition (Some at)) held_book) remains
          (undefined_valid held_book h called index at (ap (λ (k : ModelState). delete_definition_refusal (core_of k.book) called index) is ∙ it_goes)
          (ap (λ (k : ModelState). index_of_definition (core_of k.book) called (scope_or_none (core_of k.book) index)) is ∙ its_index))

      remains_there : held (with_contents now nds inside) ≡ book_changed_by (with_removed_definition (Some at)) m.book
      remains_there = remains ∙ ap (λ (k : ModelState). book_changed_by (with_removed_definition (Some at)) k.book) is

      pub undefined_book : held (with_contents now nds inside) ≡ book_changed_by (with_removed_definition (index_of_definition core called (scope_or_none core index))) m.book
      undefined_book = remains_there ∙ ap (λ o. book_changed_by (with_removed_definition o) m.book) (sym its_index)

      pub undefined_core : core_of (held (with_contents now nds inside)) ≡ changed_by n (without_definition (index_of_definition core called (scope_or_none core index))) core
      undefined_core = ap core_of remains_there ∙ core_of-changed n (with_removed_definition (Some at)) (without_definition (Some at)) (undefined_change at) m.book ∙ ap (λ o. changed_by n (without_definition o) core) (sym its_index)

      pub undefined_dangles : (i : ℕ) (d : Definition) → index_of_definition core called (scope_or_none core index) ≡ Some i → slice_get core.definitions i ≡ Some d
          → core_of (held (with_contents now nds inside)) ≡ without_definition (Some i) (with_trees (changed_tree (definition_gone (scene_of (without_definition (Some i) core)) (spelling_of d))) core)
      undefined_dangles i d e f =
          undefined_core
          ∙ delete_definition_dangles n core _ called index i d [] (notations m.book valid) (core_valid m.book valid) e f (ap (λ r. unless_refused r (changed_by n (without_definition (index_of_definition core called (scope_or_none core index))) core) []) it_goes)
