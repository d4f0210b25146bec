-- A new definition, given in another notation, leaves the same.
use Rattle.std.proofs.Common.{◌≡◌, ℕ, pos, List, [], ◌∷◌, ◌++◌, Bool, true, false, cond, not, Option, Some, None, Ok, refl, sym, ap, ap₂, subst, ◌∙◌, inl, inr}
use Rattle.std.proofs.lemmas.Bool.{not-false, true≢false}
use Rattle.std.proofs.lemmas.List.{map-append}
use Rattle.std.specs.List.{AllByRecursion}
use Rattle.std.specs.Prelude.{is_none, is_some, option_and_then, option_map}
use Rattle.ic_laws.proofs.binding.Again.{bound-node, spelled-node, under}
use Rattle.ic_laws.proofs.binding.SceneLemmas.{sheet_settles}
use Rattle.ic_laws.proofs.core.Named.{book_named}
use Rattle.ic_laws.proofs.keeping.Accepted.{none_holds, none_refuses}
use Rattle.ic_laws.proofs.parsing.Nodes.{here_of}
use Rattle.ic_laws.specs.Binding.{bound, bound_sheet, sheet_or_dangling, spelled, spelled_sheet}
use Rattle.ic_laws.specs.Character.{equals}
use Rattle.ic_laws.specs.CoreBook.{CoreBook, Definition, scene_of, spelling_of}
use Rattle.ic_laws.specs.CoreStep as core
use Rattle.ic_laws.specs.CoreStep.{core_step, has_definition, new_definition, new_definition_causes, scene_with_definition, scope_of, scope_or_none}
use Rattle.ic_laws.specs.Dialect.{DialectMeaning}
use Rattle.ic_laws.specs.FormulaReading.{Body, body_of, is_found, is_lambda_kind}
use Rattle.ic_laws.specs.Keeping.{same_keys}
use Rattle.ic_laws.specs.Name.{is_identifier}
use Rattle.ic_laws.specs.Notations.{Notations, english_function}
use Rattle.ic_laws.specs.Parse.{SpelledKind, node}
use Rattle.ic_laws.specs.ReadAs.{read_as}
use Rattle.ic_laws.specs.Reading.{Fits, FitsKind, FitsPair, printed}
use Rattle.ic_laws.specs.Refusal as refusals
use Rattle.ic_laws.specs.Scene.{found_sheet, definition_spelling, sheet_spelling}
use Rattle.ic_laws.specs.Tree.{Bound, Spelled}
use Rattle.ic_laws.specs.ValidCore.{IsKept, IsKeptBody}
use Rattle.ic_laws.specs.declared.reference.Place.{Place}
use Rattle.ic_laws.specs.declared.scene.NameSpelling.{NameSpelling}
use Rattle.ic_laws.specs.declared.scene.Scene.{Scene}
use Rattle.ic_laws.specs.declared.tree.Formula.TheVariants as formulas
use Rattle.ic_laws.specs.declared.tree.SheetMention.TheVariants as sheets
use Rattle.ic_laws.specs.declared.tree.Tree.{out-Tree, roll-out-Tree}
use Rattle.ic_laws.specs.declared.tree.Tree.TheOpen as one
use Rattle.ic_tables.specs.Tables.{TableSet}
use Rattle.ic_tree.specs.Notations.{notations_of}
use Rattle.ic_machine.specs.Book.{Book, as_core, core_of, notations_in, scene_in}
use Rattle.ic_machine.specs.Changed.{changed_by, with_definition}
use Rattle.ic_machine.specs.Command.{OnDefinitions}
use Rattle.ic_machine.specs.Kept.{StaysValid}
use Rattle.ic_machine.specs.Reply.{Field}
use Rattle.ic_machine.specs.Retyped.{clashes_in}
use Rattle.ic_machine.specs.Same.{IsSameBook}
use Rattle.ic_machine.specs.Step.{step}
use Rattle.ic_machine.specs.Translation.{body_text, defined, in_notation, why_not}
use Rattle.ic_machine.specs.TranslationLaws.{DefinitionIsSame, IsWritable, LeavesSame}
use Rattle.ic_machine.specs.Valid.{IsValidBook}
use Rattle.ic_machine.specs.subjects.Definitions as definitions
use Rattle.ic_machine.specs.subjects.Definitions.{new_definition_step, with_new_definition}
use Rattle.ic_machine.proofs.valid.BesideLemmas.{twin_valid}
use Rattle.ic_machine.proofs.again.BodyAgain.{IsReferenceTo, body_kinds, is_lambda, lambda_again, reference_again}
use Rattle.ic_machine.proofs.same.ChangedSame.{changed_same}
use Rattle.ic_machine.proofs.valid.ChangedStays.{kept_definitions, kept_sheets, seen_kept, spelled_kept}
use Rattle.ic_machine.proofs.valid.ChangedStays as changed
use Rattle.ic_machine.proofs.as_core.CoreValid.{core_valid}
use Rattle.ic_machine.proofs.same.FormulaSame.{tree_unclashed}
use Rattle.ic_machine.proofs.valid.NamesStay.{definitions_stay}
use Rattle.ic_machine.proofs.same.SameLemmas.{core_same}
use Rattle.ic_machine.proofs.again.TreeAgain.{fits_there, form, form_there, reads_there, references_there}
use Rattle.ic_laws.proofs.core.Steps.{is_there as some_of}

-- an accepted step of the identity machine
core_accepted : (o : Option refusals.Refusal) (now : CoreBook) (whole left : Book) (fields : List Field) → as_core (core.unless_refused o now []) whole ≡ Ok (left, fields) → (o ≡ None) × (left ≡ whole)
core_accepted None now whole left fields e =
    let pair : ◌≡◌ {A = Book × List Field} (whole, []) (left, fields) = cc in (refl, sym (ap (λ (p : Book × List Field). p.0) pair))
core_accepted (Some refusal) now whole left fields e = absurd (cc)

-- What becomes of a body that is bound and spelled. ----

lambda_of : (kind : SpelledKind) → is_lambda_kind kind ≡ true → (parameters : List (List ℕ)) × (inner : Spelled) × (kind ≡ one.Lambda parameters inner)
lambda_of (one.Lambda parameters inner) h = (parameters, inner, refl)
lambda_of kind h = absurd (true≢false (sym h))

module _ (english : List ℕ → Option ℕ) (scene : Scene) (scope : Option ℕ) where
  abbrev again : Spelled → Spelled
  again t = spelled scene (bound english scene scope t)

  reference_stays : (sheet : Option (List ℕ)) (place : Place) → again (node (one.Reference sheet place)) ≡ node (one.Reference (spelled_sheet (sheet_spelling scene) (bound_sheet scene sheet)) place)
  reference_stays sheet place =
      ap (spelled scene) (bound-node english scene scope (one.Reference sheet place) []) ∙ spelled-node (sheet_spelling scene) (definition_spelling scene) (one.Reference (bound_sheet scene sheet) place)

  lambda_stays : (parameters : List (List ℕ)) (inner : Spelled) → (other : Spelled) × (again (node (one.Lambda parameters inner)) ≡ node (one.Lambda parameters other))
  lambda_stays parameters inner =
      let below : Bound = under english scene scope inner ([] ++ parameters) in (
        spelled scene below,
        ap (spelled scene) (bound-node english scene scope (one.Lambda parameters inner) []) ∙ spelled-node (sheet_spelling scene) (definition_spelling scene) (one.Lambda parameters below),
      )

-- a sheet that is meant is there
meant_found : (scene : Scene) (sheet : Option (List ℕ)) (id : ℕ) → bound_sheet scene sheet ≡ sheets.Sheet id → is_found scene sheet ≡ true
meant_found scene None id e = absurd (cc)
meant_found scene (Some name) id e = go (found_sheet scene name) e
  where
    go : (o : Option ℕ) → sheet_or_dangling name o ≡ sheets.Sheet id → is_some o ≡ true
    go None h = absurd (cc)
    go (Some x) h = refl

found_meant : (scene : Scene) (sheet : Option (List ℕ)) → is_found scene sheet ≡ true → (id : ℕ) × (bound_sheet scene sheet ≡ sheets.Sheet id)
found_meant scene None h = absurd (true≢false (sym h))
found_meant scene (Some name) h = go (found_sheet scene name) h
  where
    go : (o : Option ℕ) → is_some o ≡ true → (id : ℕ) × (sheet_or_dangling name o ≡ sheets.Sheet id)
    go None k = absurd (true≢false (sym k))
    go (Some id) k = (id, refl)

pub all_last : {A : Type 0} (P : A → Type 0) (xs : List A) (x : A) → AllByRecursion P (xs ++ x ∷ []) → P x
all_last P [] x h = h.0
all_last P (y ∷ xs) x h = all_last P xs x h.1

-- The new definition. ----

module _ (b c : Book) (valid : IsValidBook b) (valid_there : IsValidBook (in_notation c.locale c.language b)) (same : IsSameBook b c) (name : List ℕ) (index : Option ℕ) (text : List ℕ) where
  abbrev n : Notations
  n = notations_in b

  -- the book itself in the other notation
  abbrev twin : Book
  twin = in_notation c.locale c.language b

  abbrev scope : Option ℕ
  scope = scope_or_none (core_of b) index

  abbrev whole : Scene
  whole = scene_with_definition (core_of b) name scope

  core_is : core_of c ≡ record (core_of b) { locale = c.locale; language = c.language }
  core_is = core_same b c same

  -- what is left, where this is the body
  module _ (body : Body) where
    abbrev new : Definition
    new = new_definition n (core_of b) name scope body

    abbrev tree : Bound
    tree = bound (english_function n) whole scope body.tree

    abbrev left : Book
    left = changed_by (with_definition new) b

    scene_left : scene_in left ≡ whole
    scene_left =
        let later : Scene = scene_in (with_definition new b) in
        changed.scene_same b (kept_sheets b valid later same_keys) b.sheets (kept_definitions b valid later same_keys ++ new ∷ []) (b.definitions ++ new ∷ []) (seen_kept b valid later same_keys)
        (map-append spelling_of (kept_definitions b valid later same_keys) (new ∷ []) ∙ ap (λ (names : List NameSpelling). names ++ spelling_of new ∷ []) (spelled_kept b valid later same_keys)
        ∙ sym (map-append spelling_of b.definitions (new ∷ [])))
        ∙ ap (λ (names : List NameSpelling). let scene : Scene = record { sheets = (scene_in b).sheets; names = names } in scene) (map-append spelling_of b.definitions (new ∷ []))

    module _ (valid_left : IsValidBook left) (typed : body_of n (core_of b) text ≡ Some body) (free : clashes_in (in_notation c.locale c.language b) tree ≡ false) where
      kept : IsKept (notations_in left) (scene_in left) scope (pos 1) (pos 1) tree
      kept = all_last (IsKeptBody (notations_in left) (scene_in left)) (kept_definitions b valid (scene_in (with_definition new b)) same_keys) new valid_left.kept.bodies

      free_left : clashes_in (in_notation c.locale c.language left) tree ≡ false
      free_left = free

      abbrev v : Spelled
      v = spelled (scene_in left) tree

      fits : Fits (form left twin valid_left valid_there refl) v
      fits = fits_there left twin valid_left valid_there refl scope tree kept free_left

      reads : read_as (form left twin valid_left valid_there refl) (printed (form left twin valid_left valid_there refl) v) ≡ Some v
      reads = reads_there left twin valid_left valid_there refl scope tree kept free_left

      abbrev d : DialectMeaning
      d = form left twin valid_left valid_there refl

      abbrev body_there : Body
      body_there = record { has_equals = body.has_equals; tree = v }

      -- the text that it gets
      abbrev text_there : List ℕ
      text_there = cond body.has_equals (equals ∷ []) [] ++ printed d v

      v_is : v ≡ again (english_function n) whole scope body.tree
      v_is = ap (λ (scene : Scene). spelled scene tree) scene_left

      read_reference : IsReferenceTo (scene_in b) body → body_of n (core_of c) text_there ≡ Some body_there
      read_reference is =
          let sheet : Option (List ℕ) = is.0 in
          let place : Place = is.1 in
          let other : Option (List ℕ) = spelled_sheet (sheet_spelling whole) (bound_sheet whole sheet) in
          let kind : SpelledKind = one.Reference other place in
          let node_is : v ≡ node kind = v_is ∙ ap (again (english_function n) whole scope) is.3 ∙ reference_stays (english_function n) whole scope sheet place in
          let fitting : Fits d (node kind) = subst (Fits d) node_is fits in
          let can = here_of (FitsKind d) (FitsPair d) kind fitting.nodes in
          let meant = found_meant (scene_in b) sheet is.4 in
          let settles = sheet_settles whole (book_named n (core_of b) (core_valid b valid)).differ sheet in
          let found : is_found (scene_in b) other ≡ true = meant_found (scene_in b) other meant.0 (settles ∙ meant.1) in
          let found_there : is_found (scene_of (core_of c)) other ≡ true = ap (λ (k : CoreBook). is_found (scene_of k) other) core_is ∙ found in
          let read = reference_again n (core_of c) (form_there left twin valid_left valid_there refl).lawful (references_there left twin valid_left valid_there refl) other place can found_there in
          ap (λ (has : Bool). body_of n (core_of c) (cond has (equals ∷ []) [] ++ printed d v)) is.2
          ∙ ap (λ (t : Spelled). body_of n (core_of c) (printed d t)) node_is ∙ read
          ∙ ap₂ (λ (has : Bool) (t : Spelled). let o : Option Body = Some (record { has_equals = has; tree = t }) in o) (sym is.2) (sym node_is)

      read_lambda : is_lambda body.tree ≡ true → body_of n (core_of c) text_there ≡ Some body_there
      read_lambda is =
          let top = lambda_of (out-Tree (Option (List ℕ)) (List ℕ) body.tree) is in
          let tree_is : body.tree ≡ node (one.Lambda top.0 top.1) = sym (roll-out-Tree (Option (List ℕ)) (List ℕ) body.tree) ∙ ap node top.2 in
          let stays = lambda_stays (english_function n) whole scope top.0 top.1 in
          let node_is : v ≡ node (one.Lambda top.0 stays.0) = v_is ∙ ap (again (english_function n) whole scope) tree_is ∙ stays.1 in
          let fitting : Fits d (node (one.Lambda top.0 stays.0)) = subst (Fits d) node_is fits in
          let reading : read_as d (printed d (node (one.Lambda top.0 stays.0))) ≡ Some (node (one.Lambda top.0 stays.0)) = subst (λ (t : Spelled). read_as d (printed d t) ≡ Some t) node_is reads in
          let read = lambda_again n (core_of c) (form_there left twin valid_left valid_there refl).lawful (references_there left twin valid_left valid_there refl) top.0 stays.0 fitting reading body.has_equals in
          ap (λ (t : Spelled). body_of n (core_of c) (cond body.has_equals (equals ∷ []) [] ++ printed d t)) node_is ∙ read
          ∙ ap (λ (t : Spelled). let o : Option Body = Some (record { has_equals = body.has_equals; tree = t }) in o) (sym node_is)

      read_there : body_of n (core_of c) text_there ≡ Some body_there
      read_there = elim (body_kinds n (core_of b) text body typed) [ inl is ↦ read_reference is | inr is ↦ read_lambda is ]

      -- so the same definition is made
      settled : bound (english_function n) whole scope v ≡ tree
      settled = ap (λ (scene : Scene). bound (english_function n) scene scope v) (sym scene_left) ∙ kept.settled

      made_there : new_definition (notations_in c) (core_of c) name (scope_or_none (core_of c) index) body_there ≡ new
      made_there =
          ap (λ (t : TableSet). new_definition (notations_of t) (core_of c) name (scope_or_none (core_of c) index) body_there) (sym same.tables)
          ∙ ap (λ (k : CoreBook). new_definition n k name (scope_or_none k index) body_there) core_is
          ∙ ap (λ (t : Bound). let made : Definition = record { name = name; scope = scope; has_equals = body.has_equals; body = formulas.Tree t } in made) settled

      defined_same : (x y : Book) → IsSameBook x y → IsSameBook (with_definition new x) (with_definition new y)
      defined_same x y h = record {
        sheets = h.sheets;
        definitions = ap (λ (ds : List Definition). ds ++ new ∷ []) h.definitions;
        zone = h.zone;
        theme = h.theme;
        name = h.name;
        metadata = h.metadata;
        tables = h.tables;
      }

      -- by each text that is this one
      module _ (given : List ℕ) (given_is : given ≡ text_there) (good : is_identifier name ≡ true) (scoped : is_none (scope_of (core_of b) index) ≡ false) (fresh : has_definition (core_of b) name scope ≡ false) where
        body_is : body_of (notations_in c) (core_of c) given ≡ Some body_there
        body_is = ap (λ (t : TableSet). body_of (notations_of t) (core_of c) given) (sym same.tables) ∙ ap (body_of n (core_of c)) given_is ∙ read_there

        unrefused : core.new_definition_refusal (notations_in c) (core_of c) name index given ≡ None
        unrefused =
            none_refuses (new_definition_causes (notations_in c) (core_of c) name index given)
            (ap not good, (ap (λ (k : CoreBook). is_none (scope_of k index)) core_is ∙ scoped, (ap (λ (k : CoreBook). has_definition k name (scope_or_none k index)) core_is ∙ fresh, (ap is_none body_is, tt))))

        left_there : with_new_definition c name (scope_or_none (core_of c) index) (body_of (notations_in c) (core_of c) given) ≡ changed_by (with_definition new) c
        left_there = ap (with_new_definition c name (scope_or_none (core_of c) index)) body_is ∙ ap (λ (d : Definition). changed_by (with_definition d) c) made_there

        pub definition_left : LeavesSame left (step c (OnDefinitions (definitions.NewDefinedName name index given)))
        unfolding new_definition_step core_step
        definition_left = (
          with_new_definition c name (scope_or_none (core_of c) index) (body_of (notations_in c) (core_of c) given),
          (
            [],
            (
              ap (λ (o : Option refusals.Refusal). as_core (core.unless_refused o (core.with_new_definition (notations_in c) (core_of c) name (scope_or_none (core_of c) index) (body_of (notations_in c) (core_of c) given)) [])
                  (with_new_definition c name (scope_or_none (core_of c) index) (body_of (notations_in c) (core_of c) given))) unrefused,
              subst (IsSameBook left) (sym left_there) (changed_same same_keys (with_definition new) (with_definition new) defined_same b c same),
            ),
          ),
        )

abbrev DefinitionStays : (book left other : Book) (name : List ℕ) (scope : Option ℕ) (body locale language : List ℕ) → Type 0
DefinitionStays book left other name scope body locale language =
    IsWritable locale language book (OnDefinitions (definitions.NewDefinedName name scope body))
    → LeavesSame left (step other (OnDefinitions (definitions.NewDefinedName name scope (body_text (in_notation locale language left) (defined book (definitions.NewDefinedName name scope body))))))

module _ (b left c : Book) (valid : IsValidBook b) (valid_there : IsValidBook (in_notation c.locale c.language b)) (same : IsSameBook b c) (fields : List Field) (name : List ℕ) (index : Option ℕ) (text : List ℕ)
    (e : step b (OnDefinitions (definitions.NewDefinedName name index text)) ≡ Ok (left, fields)) where
  definition_stays : DefinitionStays b left c name index text c.locale c.language
  unfolding new_definition_step core_step
  definition_stays writable =
      let n : Notations = notations_in b in
      let scope : Option ℕ = scope_or_none (core_of b) index in
      let done =
      core_accepted (core.new_definition_refusal n (core_of b) name index text) (core.with_new_definition n (core_of b) name scope (body_of n (core_of b) text)) (with_new_definition b name scope (body_of n (core_of b) text)) left fields e in
      let clear = none_holds (new_definition_causes n (core_of b) name index text) done.0 in
      let body = some_of (body_of n (core_of b) text) clear.1.1.1.0 in
      let made : Definition = new_definition n (core_of b) name scope body.0 in
      let left_is : left ≡ changed_by (with_definition made) b = done.1 ∙ ap (with_new_definition b name scope) body.1 in
      let left_valid : IsValidBook left = subst StaysValid e (definitions_stay b valid (definitions.NewDefinedName name index text)) in
      let is : defined b (definitions.NewDefinedName name index text) ≡ Some made = ap (option_map (new_definition n (core_of b) name scope)) body.1 in
      let free = tree_unclashed (in_notation c.locale c.language b) (bound (english_function n) (scene_with_definition (core_of b) name scope) scope body.0.tree) (ap (λ (o : Option Definition). option_and_then (why_not (in_notation c.locale c.language b)) (option_map (λ (d : Definition). d.body) o)) (sym is) ∙ writable) in
      subst (λ (x : Book). LeavesSame x (step c (OnDefinitions (definitions.NewDefinedName name index (body_text (in_notation c.locale c.language left) (defined b (definitions.NewDefinedName name index text))))))) (sym left_is)
      (definition_left b c valid valid_there same name index text body.0 (subst IsValidBook left_is left_valid) body.1 free
      (body_text (in_notation c.locale c.language left) (defined b (definitions.NewDefinedName name index text)))
      (ap₂ (λ (x : Book) (o : Option Definition). body_text (in_notation c.locale c.language x) o) left_is is)
      (not-false (is_identifier name) clear.0) clear.1.0 clear.1.1.0)

pub definition_is_same : (locale language : List ℕ) → DefinitionIsSame locale language
definition_is_same locale language book left other fields name scope body beside e =
    subst (λ (l : List ℕ). DefinitionStays book left other name scope body l language) beside.locale_is
    (subst (λ (l : List ℕ). DefinitionStays book left other name scope body other.locale l) beside.language_is
    (definition_stays book left other beside.valid (twin_valid locale language book other beside) beside.same fields name scope body e))
