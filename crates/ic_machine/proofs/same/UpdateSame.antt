-- An update of a definition, given in another notation, leaves the same.
use Rattle.std.proofs.Common.{◌≡◌, ℕ, zero, suc, pos, List, [], ◌∷◌, ◌++◌, map, reverse, Bool, true, false, cond, not, ◌&&◌, ◌==◌, Option, Some, None, Ok, refl, sym, ap, ap₂, subst, ◌∙◌}
use Rattle.std.proofs.lemmas.Bool.{not-false, true≢false}
use Rattle.std.specs.List.{AllByRecursion, slice_get}
use Rattle.std.specs.Option.{option_or}
use Rattle.std.specs.Prelude.{is_none, option_and_then, option_map}
use Rattle.ic_laws.proofs.core.Lists.{updated_seen}
use Rattle.ic_laws.specs.Binding.{bound, spelled}
use Rattle.ic_laws.specs.Character.{equals}
use Rattle.ic_laws.specs.CoreBook.{CoreBook, Definition, spelling_of}
use Rattle.ic_laws.specs.CoreStep.{has_definition, index_of_definition, is_named, scope_of, scope_or_none, updated_at}
use Rattle.ic_laws.specs.Dialect.{DialectMeaning}
use Rattle.ic_laws.specs.FormulaReading.{Body, trimmed, without_equals}
use Rattle.ic_laws.specs.Keeping.{KeyChange, changed_key, kept_in_body}
use Rattle.ic_laws.specs.Name.{agrees}
use Rattle.ic_laws.specs.Notations.{Notations, english, english_function}
use Rattle.ic_laws.specs.ReadAs.{read_as}
use Rattle.ic_laws.specs.Reading.{Fits, printed}
use Rattle.ic_laws.specs.Scan.{first_is, is_blank}
use Rattle.ic_laws.specs.Scene.{key_of, same_scope}
use Rattle.ic_laws.specs.Tree.{Bound, Spelled}
use Rattle.ic_laws.specs.ValidCore.{IsKept, IsKeptBody}
use Rattle.ic_laws.specs.declared.scene.Scene.{Scene}
use Rattle.ic_laws.specs.declared.tree.Formula.{Formula}
use Rattle.ic_laws.specs.declared.tree.Formula.TheVariants as formulas
use Rattle.ic_laws.specs.declared.tree.NameKey.{NameKey}
use Rattle.ic_tables.specs.Tables.{TableSet}
use Rattle.ic_tree.specs.Notations.{notations_of}
use Rattle.ic_cells.specs.Value.{error_word}
use Rattle.ic_machine.specs.Book.{Book, core_of, notations_in, scene_in, unless}
use Rattle.ic_machine.specs.Capture.{captured_sites, has_sites}
use Rattle.ic_machine.specs.Changed.{changed_with}
use Rattle.ic_machine.specs.Command.{OnDefinitions}
use Rattle.ic_machine.specs.InForce.{InForce, by_notation}
use Rattle.ic_machine.specs.Kept.{StaysValid}
use Rattle.ic_machine.specs.Refusal.{Causes, Refusal, first_refusal}
use Rattle.ic_machine.specs.Reply.{Field}
use Rattle.ic_machine.specs.Retyped.{clashes_in}
use Rattle.ic_machine.specs.Same.{IsSameBook}
use Rattle.ic_machine.specs.Step.{step}
use Rattle.ic_machine.specs.Translation.{body_text, defined, in_notation, updated_definition, why_not}
use Rattle.ic_machine.specs.TranslationLaws.{BodyEndsPlain, ErrorsEndPlain, IsBeside, IsWritable, LeavesSame, UpdateIsSame}
use Rattle.ic_machine.specs.Valid.{IsValidBook}
use Rattle.ic_machine.specs.subjects.Definitions as definitions
use Rattle.ic_machine.specs.subjects.Definitions.{Update, keys_of_update, new_scope_id, old_key, old_scope, scene_updated, update_body, update_causes, update_name_step, update_sites, updated_book, updated_index, with_body, with_update}
use Rattle.ic_machine.proofs.valid.BesideLemmas.{twin_valid}
use Rattle.ic_machine.proofs.same.ChangedSame.{changed_same}
use Rattle.ic_machine.proofs.valid.ChangedStays.{kept_definitions, kept_sheets, seen_kept, spelled_kept}
use Rattle.ic_machine.proofs.valid.ChangedStays as changed
use Rattle.ic_machine.proofs.same.FormulaSame.{force_same, tree_unclashed}
use Rattle.ic_machine.proofs.bound.InsertedBinds.{accepted}
use Rattle.ic_machine.proofs.valid.InsertedStays.{none_holds}
use Rattle.ic_machine.proofs.valid.NamesStay.{definitions_stay}
use Rattle.ic_machine.proofs.same.SameLemmas.{core_same, scene_same}
use Rattle.ic_machine.proofs.same.SitesSame.{sites_same}
use Rattle.ic_machine.proofs.again.PlainEnds.{begins_front, ends_plain, tight_unless}
use Rattle.ic_machine.proofs.again.TextEnds.{EndsSolid, equals_front, no_equals, printed_begins, printed_tight, tight_front, trimmed_tight, without_equals_front}
use Rattle.ic_machine.proofs.again.TreeAgain.{error_there, fits_there, form, form_there, reads_there, references_there}
use Rattle.ic_machine.proofs.valid.UpdatedStays.{new, none_passes_at, passes_at}
use Rattle.ic_laws.proofs.core.Steps.{is_there as some_of}

-- an item in the place of another holds what all do
pub put_holds : {X Y : Type 0} (P : Y → Type 0) (f : X → Y) (new : Y) (i : ℕ) (xs : List X) (old : X) → slice_get xs i ≡ Some old → AllByRecursion P (updated_at (λ y. new) i (map f xs)) → P new
put_holds P f new i [] old e h = absurd (cc)
put_holds P f new zero (x ∷ xs) old e h = h.0
put_holds P f new (suc i) (x ∷ xs) old e h = put_holds P f new i xs old e h.1

none_refuses : (causes : Causes) → AllByRecursion (λ (cause : Bool × Refusal). cause.0 ≡ false) causes → first_refusal causes ≡ None
none_refuses [] h = refl
none_refuses (cause ∷ causes) h = ap (λ (b : Bool). cond b (Some cause.1) (first_refusal causes)) h.0 ∙ none_refuses causes h.1

module _ (b c : Book) (valid : IsValidBook b) (valid_there : IsValidBook (in_notation c.locale c.language b)) (same : IsSameBook b c) (u : Update) (given : List ℕ) where
  abbrev n : Notations
  n = notations_in b

  -- the book itself in the other notation
  abbrev twin : Book
  twin = in_notation c.locale c.language b

  abbrev u' : Update
  u' = record u { body = given }

  core_is : core_of c ≡ record (core_of b) { locale = c.locale; language = c.language }
  core_is = core_same b c same

  -- what is the same of both updates
  scope_is : new_scope_id c u' ≡ new_scope_id b u
  scope_is = ap (λ (k : CoreBook). scope_or_none k u.new_scope) core_is

  old_key_is : old_key c u' ≡ old_key b u
  old_key_is = ap (λ (k : CoreBook). key_of (record { name = u.name; scope = scope_or_none k u.scope })) core_is

  keys_are : keys_of_update c u' ≡ keys_of_update b u
  keys_are =
      ap
      (λ (k : CoreBook). changed_key (key_of (record { name = u.name; scope = scope_or_none k u.scope })) (key_of (record { name = u.new_name; scope = scope_or_none k u.new_scope })))
      core_is

  index_is : updated_index c u' ≡ updated_index b u
  index_is = ap (λ (k : CoreBook). index_of_definition k u.name (scope_or_none k u.scope)) core_is

  -- a definition in the place of the old one
  put_same : (has : Bool) (one other : Formula) → one ≡ other → (o p : Option ℕ) → o ≡ p → (x y : Book) → IsSameBook x y → IsSameBook (with_update b u has one o x) (with_update c u' has other p y)
  put_same has one other e None None k x y h = h
  put_same has one other e None (Some j) k x y h = absurd (cc)
  put_same has one other e (Some i) None k x y h = absurd (cc)
  put_same has one other e (Some i) (Some j) k x y h =
      let index : i ≡ j = cc in
      record {
        sheets = h.sheets;
        definitions =
            ap₂ (λ (at : ℕ) (ds : List Definition). updated_at (λ d. let made : Definition = record { name = u.new_name; scope = new_scope_id b u; has_equals = has; body = one } in made) at ds) index h.definitions
            ∙ ap₂ (λ (scope : Option ℕ) (body : Formula). updated_at (λ d. let made : Definition = record { name = u.new_name; scope = scope; has_equals = has; body = body } in made) j y.definitions) (sym scope_is) e;
        zone = h.zone;
        theme = h.theme;
        name = h.name;
        metadata = h.metadata;
        tables = h.tables;
      }

  scene_is : scene_updated c u' ≡ scene_updated b u
  scene_is = scene_same _ _ (put_same false (formulas.Raw []) (formulas.Raw []) refl (updated_index b u) (updated_index c u') (sym index_is) b c same)

  -- what is left, where this is the body
  module _ (body : Body) (index : ℕ) (found : updated_index b u ≡ Some index) where
    abbrev tree : Bound
    tree = bound (english_function n) (scene_updated b u) (new_scope_id b u) body.tree

    abbrev left : Book
    left = changed_with (keys_of_update b u) (with_update b u body.has_equals (formulas.Tree tree) (Some index)) b

    abbrev made : Definition
    made = new b valid u index found body.has_equals (formulas.Tree tree)

    abbrev plain : Definition
    plain = new b valid u index found false (formulas.Raw [])

    scene_left : scene_in left ≡ scene_updated b u
    scene_left =
        let later : Scene = scene_in (with_update b u body.has_equals (formulas.Tree tree) (Some index) b) in
        changed.scene_same b (kept_sheets b valid later (keys_of_update b u)) b.sheets (updated_at (λ d. made) index (kept_definitions b valid later (keys_of_update b u))) (updated_at (λ d. plain) index b.definitions)
        (seen_kept b valid later (keys_of_update b u))
        (updated_seen spelling_of (λ d. made) (λ m. spelling_of made) (λ d. refl) index (kept_definitions b valid later (keys_of_update b u))
        ∙ ap (updated_at (λ m. spelling_of made) index) (spelled_kept b valid later (keys_of_update b u)) ∙ sym (updated_seen spelling_of (λ d. plain) (λ m. spelling_of plain) (λ d. refl) index b.definitions))
        ∙ ap (λ (o : Option ℕ). scene_in (with_update b u false (formulas.Raw []) o b)) (sym found)

    module _ (valid_left : IsValidBook left) (free : clashes_in (in_notation c.locale c.language b) tree ≡ false) where
      kept : IsKept (notations_in left) (scene_in left) (new_scope_id b u) (pos 1) (pos 1) tree
      kept =
          let at = passes_at (is_named u.name (old_scope b u)) b.definitions index found in
          let later : Scene = scene_in (with_update b u body.has_equals (formulas.Tree tree) (Some index) b) in
          put_holds (IsKeptBody (notations_in left) (scene_in left)) (kept_in_body n (scene_in b) later (keys_of_update b u)) made index b.definitions at.0 at.1 valid_left.kept.bodies

      abbrev d : DialectMeaning
      d = form left twin valid_left valid_there refl

      abbrev v : Spelled
      v = spelled (scene_in left) tree

      fits : Fits d v
      fits = fits_there left twin valid_left valid_there refl (new_scope_id b u) tree kept free

      reads : read_as d (printed d v) ≡ Some v
      reads = reads_there left twin valid_left valid_there refl (new_scope_id b u) tree kept free

      ends : ErrorsEndPlain c → EndsSolid d
      ends plain_ends = record {
        errors = λ e.
            ap (λ (word : List ℕ). first_is is_blank (reverse word))
            (error_there left twin valid_left valid_there refl e ∙ ap (by_notation [] (λ (f : InForce). error_word f.language e)) (force_same c left same.tables))
            ∙ plain_ends e;
        references = references_there left twin valid_left valid_there refl;
      }

      abbrev body_there : Body
      body_there = record { has_equals = body.has_equals; tree = v }

      -- the text that it gets, read again
      abbrev text_there : List ℕ
      text_there = cond body.has_equals (equals ∷ []) [] ++ printed d v

      -- where no error word ends with a blank, it doesn't
      text_plain : ErrorsEndPlain c → first_is is_blank (reverse text_there) ≡ false
      text_plain plain_ends =
          let lawful = (form_there left twin valid_left valid_there refl).lawful in
          ends_plain text_there (tight_front body.has_equals (printed d v) (printed_tight d lawful v fits reads (ends plain_ends)))

      read_there : first_is is_blank (reverse text_there) ≡ false → update_body n (core_of c) text_there ≡ Some body_there
      read_there plain =
          let lawful = (form_there left twin valid_left valid_there refl).lawful in
          let bare = no_equals d lawful v fits reads in
          let tight = tight_unless text_there (begins_front body.has_equals (printed d v) (printed_begins d lawful v fits reads)) plain in
          let trims : trimmed text_there ≡ text_there = trimmed_tight text_there tight in
          let strips : without_equals (trimmed text_there) ≡ printed d v = ap without_equals trims ∙ without_equals_front body.has_equals (printed d v) bare in
          let has : first_is (λ c. c == equals) (trimmed text_there) ≡ body.has_equals = ap (first_is (λ c. c == equals)) trims ∙ equals_front body.has_equals (printed d v) bare in
          ap (λ (o : Option Spelled). option_map (λ t. let made : Body = record { has_equals = first_is (λ c. c == equals) (trimmed text_there); tree = t } in made) o)
          (ap (λ (text : List ℕ). option_or (read_as d text) (read_as (n.shown english english (pos 1) (pos 1)) text)) strips
          ∙ ap (λ (o : Option Spelled). option_or o (read_as (n.shown english english (pos 1) (pos 1)) (printed d v))) reads)
          ∙ ap (λ (b : Bool). let o : Option Body = Some (record { has_equals = b; tree = v }) in o) has

      settled : bound (english_function n) (scene_updated b u) (new_scope_id b u) v ≡ tree
      settled = ap (λ (scene : Scene). bound (english_function n) scene (new_scope_id b u) v) (sym scene_left) ∙ kept.settled

      -- by each text that is this one
      module _ (given_is : given ≡ text_there) (plain_end : first_is is_blank (reverse given) ≡ false) (clear : AllByRecursion (λ (cause : Bool × Refusal). cause.0 ≡ false) (update_causes b u)) (left_is : updated_book b u ≡ left) where
        body_is : update_body (notations_in c) (core_of c) given ≡ Some body_there
        body_is = ap (λ (t : TableSet). update_body (notations_of t) (core_of c) given) (sym same.tables) ∙ ap (update_body n (core_of c)) given_is ∙ read_there (subst (λ (text : List ℕ). first_is is_blank (reverse text) ≡ false) given_is plain_end)

        abbrev formula_there : Formula
        formula_there = formulas.Tree (bound (english_function (notations_in c)) (scene_updated c u') (new_scope_id c u') v)

        formula_is : formula_there ≡ formulas.Tree tree
        formula_is =
            ap (λ (t : TableSet). formulas.Tree (bound (english_function (notations_of t)) (scene_updated c u') (new_scope_id c u') v)) (sym same.tables)
            ∙ ap₂ (λ (scene : Scene) (scope : Option ℕ). formulas.Tree (bound (english_function n) scene scope v)) scene_is scope_is ∙ ap (λ (t : Bound). formulas.Tree t) settled

        there_is : updated_book c u' ≡ changed_with (keys_of_update c u') (with_update c u' body.has_equals formula_there (updated_index c u')) c
        there_is = ap (with_body c u') body_is

        left_same : IsSameBook (updated_book b u) (updated_book c u')
        left_same =
            subst (IsSameBook (updated_book b u)) (sym there_is)
            (subst (λ (x : Book). IsSameBook x (changed_with (keys_of_update c u') (with_update c u' body.has_equals formula_there (updated_index c u')) c)) (sym left_is)
            (subst (λ (keys : KeyChange). IsSameBook left (changed_with keys (with_update c u' body.has_equals formula_there (updated_index c u')) c)) (sym keys_are)
            (changed_same (keys_of_update b u) (with_update b u body.has_equals (formulas.Tree tree) (Some index)) (with_update c u' body.has_equals formula_there (updated_index c u'))
            (put_same body.has_equals (formulas.Tree tree) formula_there (sym formula_is) (Some index) (updated_index c u') (sym (index_is ∙ found))) b c same)))

        sites_are : update_sites c u' ≡ update_sites b u
        sites_are =
            ap₂ (λ (keys : KeyChange) (old : NameKey). captured_sites keys old c (updated_book c u')) keys_are old_key_is
            ∙ sym (sites_same (keys_of_update b u) (old_key b u) b c (updated_book b u) (updated_book c u') same left_same)

        unrefused : first_refusal (update_causes c u') ≡ None
        unrefused =
            none_refuses (update_causes c u') (
              clear.0,
              (
                ap (λ (k : CoreBook). is_none (scope_of k u.scope)) core_is ∙ clear.1.0,
                (
                  ap (λ (k : CoreBook). is_none (scope_of k u.new_scope)) core_is ∙ clear.1.1.0,
                  (
                    ap
                        (λ (k : CoreBook).
                        has_definition k u.new_name (scope_or_none k u.new_scope) && not (agrees u.name u.new_name && same_scope (scope_or_none k u.scope) (scope_or_none k u.new_scope)))
                        core_is
                        ∙ clear.1.1.1.0,
                    (
                      ap is_none body_is,
                      (
                        ap (λ (k : CoreBook). not (has_definition k u.name (scope_or_none k u.scope))) core_is ∙ clear.1.1.1.1.1.0,
                        (ap has_sites sites_are ∙ clear.1.1.1.1.1.1.0, tt),
                      ),
                    ),
                  ),
                ),
              ),
            )

        pub update_left : LeavesSame (updated_book b u) (step c (OnDefinitions (definitions.UpdateDefinedName u')))
        unfolding update_name_step
        update_left = (
          updated_book c u',
          ([], (ap (λ (o : Option Refusal). unless o (updated_book c u') []) unrefused, left_same)),
        )

abbrev UpdateStays : (book left other : Book) (update : Update) (locale language : List ℕ) → Type 0
UpdateStays book left other update locale language =
    IsWritable locale language book (OnDefinitions (definitions.UpdateDefinedName update))
    → (ErrorsEndPlain other → BodyEndsPlain book (in_notation locale language left) (OnDefinitions (definitions.UpdateDefinedName update)))
    × (BodyEndsPlain book (in_notation locale language left) (OnDefinitions (definitions.UpdateDefinedName update))
    → LeavesSame left (step other (OnDefinitions (definitions.UpdateDefinedName (record update { body = body_text (in_notation locale language left) (defined book (definitions.UpdateDefinedName update)) })))))

module _ (b left c : Book) (valid : IsValidBook b) (valid_there : IsValidBook (in_notation c.locale c.language b)) (same : IsSameBook b c) (fields : List Field) (u : Update)
    (e : step b (OnDefinitions (definitions.UpdateDefinedName u)) ≡ Ok (left, fields)) where
  update_stays : UpdateStays b left c u c.locale c.language
  unfolding update_name_step
  update_stays writable =
      let n : Notations = notations_in b in
      let done = accepted (first_refusal (update_causes b u)) (updated_book b u) left [] fields e in
      let clear = none_holds (update_causes b u) done.0 in
      let body = some_of (update_body n (core_of b) u.body) clear.1.1.1.1.0 in
      let index = index_there (updated_index b u) refl (not-false (has_definition (core_of b) u.name (old_scope b u)) clear.1.1.1.1.1.0) in
      let tree : Bound = bound (english_function n) (scene_updated b u) (new_scope_id b u) body.0.tree in
      let whole : Book = changed_with (keys_of_update b u) (with_update b u body.0.has_equals (formulas.Tree tree) (Some index.0)) b in
      let left_is : updated_book b u ≡ whole =
      ap (with_body b u) body.1 ∙ ap (λ (o : Option ℕ). changed_with (keys_of_update b u) (with_update b u body.0.has_equals (formulas.Tree tree) o) b) index.1 in
      let left_valid : IsValidBook left = subst StaysValid e (definitions_stay b valid (definitions.UpdateDefinedName u)) in
      let is : defined b (definitions.UpdateDefinedName u) ≡ Some (updated_definition b u body.0) = ap (option_map (updated_definition b u)) body.1 in
      let free = tree_unclashed (in_notation c.locale c.language b) tree (ap (λ (o : Option Definition). option_and_then (why_not (in_notation c.locale c.language b)) (option_map (λ (d : Definition). d.body) o)) (sym is) ∙ writable) in
      let given : List ℕ = body_text (in_notation c.locale c.language left) (defined b (definitions.UpdateDefinedName u)) in
      let valid_whole : IsValidBook whole = subst IsValidBook (done.1 ∙ left_is) left_valid in
      let given_is = ap₂ (λ (x : Book) (o : Option Definition). body_text (in_notation c.locale c.language x) o) (done.1 ∙ left_is) is in (
        λ plain_ends. ap (λ (text : List ℕ). first_is is_blank (reverse text)) given_is ∙ text_plain b c valid valid_there same u given body.0 index.0 index.1 valid_whole free plain_ends,
        λ plain_end.
            subst (λ (x : Book). LeavesSame x (step c (OnDefinitions (definitions.UpdateDefinedName (record u { body = given }))))) (sym done.1)
            (update_left b c valid valid_there same u given body.0 index.0 index.1 valid_whole free given_is plain_end clear left_is),
      )
    where
      index_there : (o : Option ℕ) → updated_index b u ≡ o → has_definition (core_of b) u.name (old_scope b u) ≡ true → (index : ℕ) × (updated_index b u ≡ Some index)
      index_there None found has = let none = none_passes_at (is_named u.name (old_scope b u)) b.definitions found in absurd (true≢false (sym has ∙ none))
      index_there (Some index) found has = (index, found)

told_by : (locale language : List ℕ) (book left other : Book) (fields : List Field) (update : Update) → IsBeside locale language book other
    → step book (OnDefinitions (definitions.UpdateDefinedName update)) ≡ Ok (left, fields) → UpdateStays book left other update locale language
told_by locale language book left other fields update beside e =
    subst (λ (l : List ℕ). UpdateStays book left other update l language) beside.locale_is
    (subst (λ (l : List ℕ). UpdateStays book left other update other.locale l) beside.language_is
    (update_stays book left other beside.valid (twin_valid locale language book other beside) beside.same fields update e))

pub update_is_same : (locale language : List ℕ) → UpdateIsSame locale language
update_is_same locale language book left other fields update beside e writable plain = (told_by locale language book left other fields update beside e writable).1 plain

-- where no error word ends with a blank, no body does that an update leaves
pub update_ends_plain : (locale language : List ℕ) (book left other : Book) (fields : List Field) (update : Update) → IsBeside locale language book other
    → step book (OnDefinitions (definitions.UpdateDefinedName update)) ≡ Ok (left, fields) → IsWritable locale language book (OnDefinitions (definitions.UpdateDefinedName update)) → ErrorsEndPlain other
    → BodyEndsPlain book (in_notation locale language left) (OnDefinitions (definitions.UpdateDefinedName update))
update_ends_plain locale language book left other fields update beside e writable plain_ends = (told_by locale language book left other fields update beside e writable).0 plain_ends
