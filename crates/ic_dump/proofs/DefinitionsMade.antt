-- The lines that make the definitions are accepted, and leave each with the body that mentions nothing.
use Rattle.std.proofs.Common.{◌≡◌, ℕ, pos, List, [], ◌∷◌, ◌++◌, map, reverse, Bool, true, false, not, ◌||◌, Option, None, Some, Ok, codes, refl, sym, ap, ap₂, subst, ◌∙◌, append_assoc, arith}
use Rattle.std.proofs.lemmas.List.{append-nil, length-map, map-append}
use Rattle.std.specs.List.{AllByRecursion, IsDistinct, list_any}
use Rattle.std.specs.Option.{option_or}
use Rattle.std.specs.Prelude.{is_none, unwrap_or}
use Rattle.ic_laws.proofs.core.Defined.{same_key_equiv}
use Rattle.ic_laws.proofs.keeping.Accepted.{none_refuses}
use Rattle.ic_laws.specs.Binding.{bound}
use Rattle.ic_laws.specs.CoreBook.{CoreBook, Definition, scene_of, spelling_of}
use Rattle.ic_laws.specs.CoreStep as core
use Rattle.ic_laws.specs.CoreStep.{core_step, has_definition, is_named, new_definition, scene_with_definition, scope_of, scope_or_none}
use Rattle.ic_laws.specs.Dialect.{DialectMeaning, IsLawful}
use Rattle.ic_laws.specs.FormulaReading.{Body, body_of, tree_or_raw}
use Rattle.ic_laws.specs.Keeping.{kept_in_body, same_keys}
use Rattle.ic_laws.specs.Name.{is_identifier}
use Rattle.ic_laws.specs.Notations.{Notations, english, english_function}
use Rattle.ic_laws.specs.ReadAs.{read_as}
use Rattle.ic_laws.specs.Reading.{printed}
use Rattle.ic_laws.specs.Refusal as core_refusal
use Rattle.ic_laws.specs.Scan.{first_is}
use Rattle.ic_laws.specs.Scene.{key_of, same_key}
use Rattle.ic_laws.specs.Tree.{Spelled}
use Rattle.ic_laws.specs.ValidCore.{IsValidCore, IsValidDefinition}
use Rattle.ic_laws.specs.declared.reference.RefToken.{RefToken}
use Rattle.ic_laws.specs.declared.scene.Scene.{Scene}
use Rattle.ic_laws.specs.declared.scene.SheetName.{SheetName}
use Rattle.ic_laws.specs.declared.tree.Formula.{Formula}
use Rattle.ic_laws.specs.declared.tree.Formula.TheVariants as formulas
use Rattle.ic_laws.specs.declared.tree.NameKey.{NameKey}
use Rattle.ic_tables.specs.Tables.{language_of}
use Rattle.ic_tree.proofs.NotationLaws.{knows_language_is, notations_are}
use Rattle.ic_tree.specs.Notations.{notations_of}
use Rattle.ic_machine.specs.Book.{Book, Stepped, as_core, core_of, notations_in, scene_in}
use Rattle.ic_machine.specs.Changed.{changed_by, with_definition}
use Rattle.ic_machine.specs.Command.{OnDefinitions}
use Rattle.ic_machine.specs.Kept.{StaysValid}
use Rattle.ic_machine.specs.Step.{english_errors}
use Rattle.ic_machine.specs.Valid.{IsValidBook}
use Rattle.ic_machine.specs.subjects.Definitions as definitions
use Rattle.ic_machine.specs.subjects.Definitions.{new_definition_step, with_new_definition}
use Rattle.ic_machine.proofs.again.BodyAgain.{lambda_again, references_end}
use Rattle.ic_machine.proofs.as_core.CoreValid.{core_valid}
use Rattle.ic_machine.proofs.valid.NamesStay.{definitions_stay}
use Rattle.ic_machine.proofs.again.TextEnds.{is_solid}
use Rattle.ic_laws.proofs.core.Lists.{none_passes}
use Rattle.ic_dump.specs.Lines.{defining_line, plain_body}
use Rattle.ic_dump.specs.Passing.{standing_sheets}
use Rattle.ic_dump.specs.Stages.{Defines, IsRebuilt, Leads, bare_sheet, plain_definition, plain_formula, with_bare}
use Rattle.ic_dump.proofs.BareBooks.{kept_same_bare}
use Rattle.ic_dump.proofs.EnglishForm.{english_lambda}
use Rattle.ic_dump.proofs.ListLemmas.{middle_differs, both_of_each}
use Rattle.ic_dump.proofs.PlainBody.{plain_binds, plain_bound, plain_fits, plain_inner, plain_kept, plain_reads, plain_spelled, plain_text}
use Rattle.ic_dump.proofs.RunLemmas.{leads_both, leads_line, leads_nowhere}
use Rattle.ic_dump.proofs.ScopeWords.{index_of_scope, scope_there, word_said}
use Rattle.ic_dump.proofs.StandLemmas.{HasPlace, Stands, stands}
use Rattle.ic_dump.proofs.TextsRead.{defining_read}
use Rattle.ic_laws.proofs.General.{some_there as there}

abbrev key : Definition → NameKey
key d = key_of (spelling_of d)

module _ (book start : Book) (is : IsRebuilt book start) where
  abbrev n : Notations
  n = notations_in book

  abbrev whole : CoreBook
  whole = core_of book

  abbrev sheets : List SheetName
  sheets = standing_sheets whole

  abbrev plain : Definition → Definition
  plain d = plain_definition n d

  same : notations_in start ≡ n
  same = ap notations_of is.tables

  -- The body that mentions nothing, in English. ----

  abbrev form : DialectMeaning
  form = n.shown english english (pos 1) (pos 1)

  lawful : IsLawful form
  lawful =
      let are = notations_are book.tables is.valid.tables in
      (are.shown english english (pos 1) (pos 1) are.english_locale are.english_language).lawful

  written : printed form plain_spelled ≡ plain_body
  written = plain_text form (english_lambda book.tables is.valid.tables (pos 1) (pos 1))

  read : read_as form plain_body ≡ Some plain_spelled
  read = ap (read_as form) (sym written) ∙ plain_reads form (english_lambda book.tables is.valid.tables (pos 1) (pos 1)) lawful

  plain_is : plain_formula n ≡ formulas.Tree plain_bound
  plain_is =
      let nothing : Scene = record { sheets = []; names = [] } in
      ap (λ (o : Option Spelled). tree_or_raw (λ (t : Spelled). formulas.Tree (bound (english_function n) nothing (Some 0) t)) plain_body (option_or o (read_as form (plain_body ++ codes ")")))) read
      ∙ ap formulas.Tree (plain_binds (english_function n) nothing (Some 0))

  -- which stays over each change
  plain_stays : (before after : Scene) (d : Definition) → kept_in_body n before after same_keys (plain d) ≡ plain d
  plain_stays before after d =
      let made : (f : Formula) → Definition = λ f. record d { has_equals = false; body = f } in
      ap (λ (f : Formula). kept_in_body n before after same_keys (record d { has_equals = false; body = f })) plain_is
      ∙ ap (λ (f : Formula). record d { has_equals = false; body = f }) (ap formulas.Tree (plain_kept (english_function n) before after same_keys d.scope))
      ∙ sym (ap (λ (f : Formula). record d { has_equals = false; body = f }) plain_is)

  all_stay : (before after : Scene) (ds : List Definition) → AllByRecursion (λ (d : Definition). kept_in_body n before after same_keys d ≡ d) (map plain ds)
  all_stay before after [] = tt
  all_stay before after (d ∷ ds) = (plain_stays before after d, all_stay before after ds)

  -- it is read as a body of a book in English with the tables
  body_read_in : (old : Book) → notations_in old ≡ n → old.locale ≡ english → old.language ≡ english → body_of (notations_in old) (core_of old) plain_body ≡ Some (record { has_equals = false; tree = plain_spelled })
  body_read_in old tables locale language =
      let by : Notations → List ℕ → List ℕ → CoreBook = λ m l k. record { sheets = (core_of old).sheets; definitions = old.definitions; locale = l; language = k } in
      let e = there (language_of book.tables english) (sym (knows_language_is book.tables english) ∙ (notations_are book.tables is.valid.tables).english_language) in
      let ends : (r : RefToken) → form.can_spell r ≡ true → first_is is_solid (reverse (form.spell_ref r)) ≡ true =
      references_end book.tables is.valid.tables english english e.0 (notations_are book.tables is.valid.tables).english_locale e.1 (pos 1) (pos 1) in
      ap (λ (m : Notations). body_of m (core_of old) plain_body) tables
      ∙ ap₂ (λ (l k : List ℕ). body_of n (by n l k) plain_body) locale language
      ∙ ap (body_of n (by n english english)) (sym written)
      ∙ lambda_again n (by n english english) lawful ends [] plain_inner (plain_fits form) (plain_reads form (english_lambda book.tables is.valid.tables (pos 1) (pos 1)) lawful) false

  -- One is made. ----

  module _ (done : List Definition) (d : Definition) (valid : IsValidBook (with_bare sheets (map plain done) start)) (named : is_identifier d.name ≡ true) (place : HasPlace sheets d.scope)
      (other : AllByRecursion (λ (x : Definition). same_key (key d) (key x) ≡ false) done) where
    abbrev old : Book
    old = with_bare sheets (map plain done) start

    abbrev new : Book
    new = with_bare sheets (map plain (done ++ d ∷ [])) start

    abbrev index : Option ℕ
    index = index_of_scope sheets d.scope

    scoped : scope_of (core_of old) index ≡ Some d.scope
    scoped = scope_there sheets (map plain done) start d.scope place

    scope_is : scope_or_none (core_of old) index ≡ d.scope
    scope_is = ap (λ (o : Option (Option ℕ)). unwrap_or o None) scoped

    reads : body_of (notations_in old) (core_of old) plain_body ≡ Some (record { has_equals = false; tree = plain_spelled })
    reads = body_read_in old same is.locale is.language

    none_there : (ds : List Definition) → AllByRecursion (λ (x : Definition). same_key (key d) (key x) ≡ false) ds → list_any (is_named d.name d.scope) (map plain ds) ≡ false
    none_there [] h = refl
    none_there (x ∷ ds) h = ap₂ (λ (a b : Bool). a || b) (same_key_equiv.symm (key x) (key d) ∙ h.0) (none_there ds h.1)

    unmet : has_definition (core_of old) d.name (scope_or_none (core_of old) index) ≡ false
    unmet = ap (has_definition (core_of old) d.name) scope_is ∙ none_there done other

    refusal : core.new_definition_refusal (notations_in old) (core_of old) d.name index plain_body ≡ None
    refusal = none_refuses (core.new_definition_causes (notations_in old) (core_of old) d.name index plain_body) (ap not named, (ap is_none scoped, (unmet, (ap is_none reads, tt))))

    abbrev body : Body
    body = record { has_equals = false; tree = plain_spelled }

    made_is : new_definition (notations_in old) (core_of old) d.name d.scope body ≡ plain d
    made_is = ap (λ (f : Formula). record d { has_equals = false; body = f }) (ap formulas.Tree (plain_binds (english_function (notations_in old)) (scene_with_definition (core_of old) d.name d.scope) d.scope) ∙ sym plain_is)

    kept_all : (later : Scene) → AllByRecursion (λ (x : Definition). kept_in_body (notations_in old) (scene_in old) later same_keys x ≡ x) (map plain done)
    kept_all later = subst (λ (m : Notations). AllByRecursion (λ (x : Definition). kept_in_body m (scene_in old) later same_keys x ≡ x) (map plain done)) (sym same) (all_stay (scene_in old) later done)

    left_is : with_new_definition old d.name (scope_or_none (core_of old) index) (body_of (notations_in old) (core_of old) plain_body) ≡ new
    left_is =
        ap₂ (λ (scope : Option ℕ) (o : Option Body). with_new_definition old d.name scope o) scope_is reads
        ∙ ap (λ (x : Definition). changed_by (with_definition x) old) made_is
        ∙ ap (with_definition (plain d)) (kept_same_bare (notations_in old) (scene_in old) (scene_in (with_definition (plain d) old)) same_keys sheets (map plain done) start (kept_all (scene_in (with_definition (plain d) old))))
        ∙ ap (λ (ds : List Definition). with_bare sheets ds start) (sym (map-append plain done (d ∷ [])))

    stepped : new_definition_step d.name index plain_body old ≡ Ok (new, [])
    unfolding core_step new_definition_step
    stepped =
        ap
        (λ (o : Option core_refusal.Refusal).
        as_core (core.unless_refused o (core.with_new_definition (notations_in old) (core_of old) d.name (scope_or_none (core_of old) index) (body_of (notations_in old) (core_of old) plain_body)) [])
        (with_new_definition old d.name (scope_or_none (core_of old) index) (body_of (notations_in old) (core_of old) plain_body)))
        refusal
        ∙ ap (λ (b : Book). let o : Stepped Book = Ok (b, []) in o) left_is

    one_made : Leads old (defining_line sheets (spelling_of d) ∷ []) new
    one_made =
        let many = length-map sheets bare_sheet in
        let most = valid.sheets.few in
        leads_line old new (defining_line sheets (spelling_of d)) (OnDefinitions (definitions.NewDefinedName d.name index plain_body)) []
        (defining_read (english_errors old) sheets (spelling_of d) index (word_said sheets d.scope (omega (arith, many, most)) place)) stepped (subst StaysValid stepped (definitions_stay old valid (definitions.NewDefinedName d.name index plain_body)))

  -- All are made, one after another. ----

  pub record IsNew (d : Definition) : Type 0 where
    pub named : is_identifier d.name ≡ true
    pub place : HasPlace sheets d.scope

  all_made : (done rest : List Definition) → IsDistinct same_key (map key (done ++ rest)) → AllByRecursion IsNew rest → IsValidBook (with_bare sheets (map plain done) start)
      → Leads (with_bare sheets (map plain done) start) (map (λ (d : Definition). defining_line sheets (spelling_of d)) rest) (with_bare sheets (map plain (done ++ rest)) start)
  all_made done [] differ fresh valid =
      subst (λ (ds : List Definition). Leads (with_bare sheets (map plain done) start) [] (with_bare sheets (map plain ds) start)) (sym (append-nil done)) (leads_nowhere (with_bare sheets (map plain done) start) valid)
  all_made done (d ∷ rest) differ fresh valid =
      let state : List Definition → Book = λ ds. with_bare sheets (map plain ds) start in
      let line : Definition → List ℕ = λ x. defining_line sheets (spelling_of x) in
      let joined : (done ++ d ∷ []) ++ rest ≡ done ++ d ∷ rest = append_assoc done (d ∷ []) rest in
      let parts = middle_differs same_key_equiv (map key done) (key d) (map key rest) (subst (IsDistinct same_key) (map-append key done (d ∷ rest)) differ) in
      let one : Leads (state done) (line d ∷ []) (state (done ++ d ∷ [])) = one_made done d valid fresh.0.named fresh.0.place (apart done (none_passes (same_key (key d)) (map key done) parts.0)) in
      let others : Leads (state (done ++ d ∷ [])) (map line rest) (state ((done ++ d ∷ []) ++ rest)) =
      all_made (done ++ d ∷ []) rest (subst (λ (ds : List Definition). IsDistinct same_key (map key ds)) (sym joined) differ) fresh.1 one.valid in
      subst (λ (ds : List Definition). Leads (state done) (line d ∷ map line rest) (state ds)) joined (leads_both (state done) (state (done ++ d ∷ [])) (state ((done ++ d ∷ []) ++ rest)) (line d ∷ []) (map line rest) one others)
    where
      apart : (ds : List Definition) → AllByRecursion (λ (k : NameKey). same_key (key d) k ≡ false) (map key ds) → AllByRecursion (λ (x : Definition). same_key (key d) (key x) ≡ false) ds
      apart [] h = tt
      apart (x ∷ ds) h = (h.0, apart ds h.1)

pub defines : Defines
defines book start is valid =
    let whole : CoreBook = core_of book in
    let valid_core : IsValidCore (notations_in book) whole = core_valid book is.valid in
    let all : Stands whole = stands (notations_in book) whole valid_core is.few in
    all_made book start is [] book.definitions valid_core.keys_differ
    (both_of_each (IsValidDefinition (notations_in book) (scene_of whole)) (λ (d : Definition). HasPlace (standing_sheets whole) d.scope) (IsNew book start is) (λ d h place. record { named = h.name; place = place }) book.definitions valid_core.definitions all.scopes)
    valid
