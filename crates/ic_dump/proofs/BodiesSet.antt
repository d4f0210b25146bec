-- The lines that set the bodies are accepted, and leave each definition with its own.
use Rattle.std.proofs.Common.{◌≡◌, ℕ, pos, ◌≤◌, List, [], ◌∷◌, ◌++◌, length, map, reverse, Bool, true, false, cond, ◌==◌, Option, None, Some, refl, sym, ap, ap₂, subst, ◌∙◌, append_assoc, arith}
use Rattle.std.proofs.lemmas.List.{length-map, map-append}
use Rattle.std.specs.List.{AllByRecursion, find}
use Rattle.std.specs.Option.{option_or}
use Rattle.std.specs.Prelude.{option_map}
use Rattle.ic_laws.proofs.keeping.Removing.{none_first}
use Rattle.ic_laws.proofs.kept.Kept.{english_by_fold}
use Rattle.ic_laws.specs.Binding.{bound, spelled}
use Rattle.ic_laws.specs.Character.{equals}
use Rattle.ic_laws.specs.Clash.{clashes_with}
use Rattle.ic_laws.specs.CoreBook.{CoreBook, Definition, last_id, scene_of, spelling_of}
use Rattle.ic_laws.specs.Dialect.{DialectMeaning}
use Rattle.ic_laws.specs.FormulaReading.{Body, shown_formula, trimmed, without_equals}
use Rattle.ic_laws.specs.Notations.{AreNotations, Notations, english, english_function}
use Rattle.ic_laws.specs.ReadAs.{read_as}
use Rattle.ic_laws.specs.Reading.{Fits, printed}
use Rattle.ic_laws.specs.Scan.{first_is, is_blank}
use Rattle.ic_laws.specs.Tree.{Bound, Spelled}
use Rattle.ic_laws.specs.ValidCore.{IsKept, IsKeptBody, IsKeptFormula, IsValidCore, IsValidDefinition}
use Rattle.ic_laws.specs.declared.scene.NameSpelling.{NameSpelling}
use Rattle.ic_laws.specs.declared.scene.Scene.{Scene}
use Rattle.ic_laws.specs.declared.scene.SheetName.{SheetName}
use Rattle.ic_laws.specs.declared.tree.Formula.{Formula}
use Rattle.ic_laws.specs.declared.tree.Formula.TheVariants as formulas
use Rattle.ic_cells.specs.Value.{error_word}
use Rattle.ic_tables.specs.Tables.{TableSet, language_of, locale_of}
use Rattle.ic_tree.proofs.EnglishLemmas.{english_free}
use Rattle.ic_tree.proofs.NotationLaws.{notations_are}
use Rattle.ic_tree.specs.LanguageWords.{is_boolean_word, is_function_word}
use Rattle.ic_tree.specs.Notations.{notations_of}
use Rattle.ic_machine.specs.Book.{Book, core_of, notations_in, scene_in}
use Rattle.ic_machine.specs.Command.{OnDefinitions}
use Rattle.ic_machine.specs.InForce.{InForce, all_there, by_notation}
use Rattle.ic_machine.specs.Retyped.{clashes_in}
use Rattle.ic_machine.specs.Step.{english_errors}
use Rattle.ic_machine.specs.Translation.{in_notation}
use Rattle.ic_machine.specs.Valid.{IsValidBook}
use Rattle.ic_machine.specs.subjects.Definitions as definitions
use Rattle.ic_machine.specs.subjects.Definitions.{update_body, update_of}
use Rattle.ic_machine.proofs.as_core.CoreValid.{core_valid}
use Rattle.ic_machine.proofs.again.TextEnds.{EndsSolid, equals_front, no_equals, printed_tight, tight_front, trimmed_tight, without_equals_front}
use Rattle.ic_machine.proofs.again.TreeAgain.{error_there, fits_there, force_there, form_there, language, reads_there, references_there}
use Rattle.ic_dump.specs.Lines.{body_line, english_body, in_english}
use Rattle.ic_dump.specs.Passing.{passing_sheets, standing_sheets, unfound_of}
use Rattle.ic_dump.specs.Refused.{RawBody, is_raw, raw_body}
use Rattle.ic_dump.specs.Stages.{IsRebuilt, Leads, SetsBodies, bare_sheet, plain_definition, plain_formula, with_bare}
use Rattle.ic_dump.proofs.ApartLemmas.{IsNoName, again_there, with_sheets}
use Rattle.ic_dump.proofs.BareBooks.{scene_bare}
use Rattle.ic_dump.proofs.BodiesApart.{passing_apart}
use Rattle.ic_dump.proofs.DefinitionUpdated.{updated, updated_valid}
use Rattle.ic_dump.proofs.LackedNames.{of_mentions}
use Rattle.ic_dump.proofs.ListLemmas.{both_of_each}
use Rattle.ic_dump.proofs.RunLemmas.{leads_both, leads_line, leads_nowhere, leads_there}
use Rattle.ic_dump.proofs.ScopeWords.{index_of_scope, scope_there, word_said}
use Rattle.ic_dump.proofs.StandLemmas.{HasPlace, Stands, stands}
use Rattle.ic_dump.proofs.TextsRead.{body_read}

-- no body is a text that doesn't read ----

first_none : {A B : Type 0} (f : A → B) (o : Option A) (other : Option B) → option_or (option_map f o) other ≡ None → o ≡ None
first_none f None other e = refl
first_none f (Some x) other e = absurd (cc)

unmapped_none : {A B : Type 0} (f : A → B) (o : Option A) → option_map f o ≡ None → o ≡ None
unmapped_none f None e = refl
unmapped_none f (Some x) e = absurd (cc)

pub none_raw : (ds : List Definition) → find (λ (d : Definition). is_raw d.body) ds ≡ None → AllByRecursion (λ (d : Definition). is_raw d.body ≡ false) ds
none_raw [] e = tt
none_raw (d ∷ ds) e = let parts = none_first (λ (x : Definition). is_raw x.body) d ds e in (parts.0, none_raw ds parts.1)

module _ (book start : Book) (is : IsRebuilt book start) where
  abbrev n : Notations
  n = notations_in book

  abbrev core : CoreBook
  core = core_of book

  abbrev sheets : List SheetName
  sheets = standing_sheets core

  abbrev passing : List SheetName
  passing = passing_sheets core

  are : AreNotations n
  are = notations_are book.tables is.valid.tables

  valid_core : IsValidCore n core
  valid_core = core_valid book is.valid

  all : Stands core
  all = stands n core valid_core is.few

  same : notations_in start ≡ n
  same = ap notations_of is.tables

  -- what is asked of a definition
  pub record IsReady (d : Definition) : Type 0 where
    pub kept : IsKeptBody n (scene_of core) d
    pub tree : is_raw d.body ≡ false
    pub apart : AllByRecursion (IsNoName passing) (unfound_of d.body)
    pub place : HasPlace sheets d.scope

  -- The text of a tree, read as a body. ----

  module _ (old : Book) (valid : IsValidBook old) (tables : book.tables ≡ old.tables) (locale : old.locale ≡ start.locale) (language_is : old.language ≡ start.language) (scope : Option ℕ) (t : Bound) (kept : IsKept n (scene_of core) scope (pos 1) (pos 1) t) (has : Bool) where
    abbrev form : DialectMeaning
    form = (notations_of book.tables).shown old.locale old.language (pos 1) (pos 1)

    abbrev tree : Spelled
    tree = spelled (scene_of core) t

    free : clashes_in (in_notation old.locale old.language book) t ≡ false
    free =
        let spoken = language book old is.valid valid tables in
        ap (by_notation true (λ (f : InForce). clashes_with (is_boolean_word f.language) (is_function_word f.language) t)) (force_there book old is.valid valid tables).2
        ∙ english_free book.tables is.valid.tables core valid_core spoken.0 (ap (language_of book.tables) (sym (language_is ∙ is.language)) ∙ spoken.1) scope (pos 1) (pos 1) t kept

    reads : read_as form (printed form tree) ≡ Some tree
    reads = reads_there book old is.valid valid tables scope t kept free

    fits : Fits form tree
    fits = fits_there book old is.valid valid tables scope t kept free

    ends : EndsSolid form
    ends = record {
      errors = λ e.
          ap (λ (word : List ℕ). first_is is_blank (reverse word))
          (error_there book old is.valid valid tables e
          ∙ ap₂ (λ (locale language : List ℕ). by_notation [] (λ (f : InForce). error_word f.language e) (all_there (locale_of book.tables locale) (language_of book.tables language) (language_of book.tables english))) locale language_is
          ∙ ap (λ (set : TableSet). by_notation [] (λ (f : InForce). error_word f.language e) (all_there (locale_of set start.locale) (language_of set start.language) (language_of set english))) (sym is.tables))
          ∙ is.errors e;
      references = references_there book old is.valid valid tables;
    }

    abbrev text : List ℕ
    text = cond has (equals ∷ []) [] ++ printed form tree

    body_reads : update_body n (core_of old) text ≡ Some (record { has_equals = has; tree = tree })
    body_reads =
        let lawful = (form_there book old is.valid valid tables).lawful in
        let bare = no_equals form lawful tree fits reads in
        let trims : trimmed text ≡ text = trimmed_tight text (tight_front has (printed form tree) (printed_tight form lawful tree fits reads ends)) in
        let strips : without_equals (trimmed text) ≡ printed form tree = ap without_equals trims ∙ without_equals_front has (printed form tree) bare in
        let begins : first_is (λ c. c == equals) (trimmed text) ≡ has = ap (first_is (λ c. c == equals)) trims ∙ equals_front has (printed form tree) bare in
        ap (λ (o : Option Spelled). option_map (λ u. let made : Body = record { has_equals = first_is (λ c. c == equals) (trimmed text); tree = u } in made) o)
        (ap (λ (x : List ℕ). option_or (read_as form x) (read_as (n.shown english english (pos 1) (pos 1)) x)) strips
        ∙ ap (λ (o : Option Spelled). option_or o (read_as (n.shown english english (pos 1) (pos 1)) (printed form tree))) reads)
        ∙ ap (λ (b : Bool). let o : Option Body = Some (record { has_equals = b; tree = tree }) in o) begins

    text_is : text ≡ cond has (equals ∷ []) [] ++ printed (n.shown english english (pos 1) (pos 1)) tree
    text_is = ap₂ (λ (locale language : List ℕ). cond has (equals ∷ []) [] ++ printed (n.shown locale language (pos 1) (pos 1)) tree) (locale ∙ is.locale) (language_is ∙ is.language)

  -- One body. ----

  abbrev plain : Definition → Definition
  plain d = plain_definition n d

  abbrev line : Definition → List ℕ
  line d = body_line sheets (spelling_of d) (english_body n core d)

  plain_seen : (ds : List Definition) → map spelling_of (map plain ds) ≡ map spelling_of ds
  plain_seen [] = refl
  plain_seen (d ∷ ds) = ap (λ (xs : List NameSpelling). spelling_of d ∷ xs) (plain_seen ds)

  abbrev before : List Definition → Definition → List Definition → Book
  before done d rest = with_bare sheets (done ++ plain d ∷ map plain rest) start

  scene_before : (done : List Definition) (d : Definition) (rest : List Definition) → done ++ d ∷ rest ≡ book.definitions → scene_in (before done d rest) ≡ with_sheets (scene_of core) passing
  scene_before done d rest whole =
      let seen : (xs : List NameSpelling) → Scene = λ xs. record { sheets = sheets; names = xs } in
      scene_bare sheets (done ++ plain d ∷ map plain rest) start
      ∙ ap seen (map-append spelling_of done (plain d ∷ map plain rest) ∙ ap (λ (xs : List NameSpelling). map spelling_of done ++ spelling_of d ∷ xs) (plain_seen rest) ∙ sym (map-append spelling_of done (d ∷ rest)) ∙ ap (map spelling_of) whole)

  one_set : (done : List Definition) (d : Definition) (rest : List Definition) → done ++ d ∷ rest ≡ book.definitions → (f : Formula) → d.body ≡ f → IsKeptFormula n (scene_of core) d.scope (pos 1) (pos 1) f → is_raw f ≡ false
      → AllByRecursion (IsNoName passing) (unfound_of f) → HasPlace sheets d.scope → IsValidBook (before done d rest) → Leads (before done d rest) (line d ∷ []) (with_bare sheets (done ++ d ∷ map plain rest) start)
  one_set done d rest whole (formulas.Raw text) is_body kept tree apart place valid = absurd (cc)
  one_set done d rest whole (formulas.Tree t) is_body kept tree apart place valid =
      let old : Book = before done d rest in
      let tables : book.tables ≡ old.tables = sym is.tables in
      let body : Body = record { has_equals = d.has_equals; tree = spelled (scene_of core) t } in
      let index : Option ℕ = index_of_scope sheets d.scope in
      let words : List ℕ = text old valid tables refl refl d.scope t kept d.has_equals in
      let shown : words ≡ english_body n core d =
      text_is old valid tables refl refl d.scope t kept d.has_equals ∙ ap (λ (g : Formula). cond d.has_equals (equals ∷ []) [] ++ shown_formula n (in_english core) (pos 1) (pos 1) g) (sym is_body) in
      let few : length sheets ≤ last_id = let many = length-map sheets bare_sheet in let most = valid.sheets.few in omega (arith, many, most) in
      let said = word_said sheets d.scope few place in
      let scoped = scope_there sheets (done ++ plain d ∷ map plain rest) start d.scope place in
      let reads_here : update_body (notations_in start) (core_of old) (english_body n core d) ≡ Some body =
      subst (λ (m : Notations). update_body m (core_of old) (english_body n core d) ≡ Some body) (sym same)
      (subst (λ (x : List ℕ). update_body n (core_of old) x ≡ Some body) shown (body_reads old valid tables refl refl d.scope t kept d.has_equals)) in
      let bound_here : formulas.Tree (bound (english_function (notations_in start)) (scene_in old) d.scope (spelled (scene_of core) t)) ≡ d.body =
      ap₂ (λ (m : Notations) (scene : Scene). formulas.Tree (bound (english_function m) scene d.scope (spelled (scene_of core) t))) same (scene_before done d rest whole)
      ∙ ap formulas.Tree (again_there (scene_of core) passing all.names (english_function n) (english_by_fold n are) d.scope t kept.settled (of_mentions (IsNoName passing) t apart)) ∙ sym is_body in
      leads_line old (with_bare sheets (done ++ d ∷ map plain rest) start) (line d) (OnDefinitions (definitions.UpdateDefinedName (update_of d.name index d.name index (english_body n core d)))) []
      (body_read (english_errors old) sheets (spelling_of d) index said (english_body n core d))
      (updated start sheets done d (map plain rest) false (plain_formula n) valid index scoped (english_body n core d) body reads_here refl bound_here)
      (updated_valid start sheets done d (map plain rest) false (plain_formula n) valid index scoped (english_body n core d) body reads_here refl bound_here)

  -- All bodies. ----

  all_set : (done rest : List Definition) → done ++ rest ≡ book.definitions → AllByRecursion IsReady rest → IsValidBook (with_bare sheets (done ++ map plain rest) start)
      → Leads (with_bare sheets (done ++ map plain rest) start) (map line rest) (with_bare sheets (done ++ rest) start)
  all_set done [] whole ready valid = leads_nowhere (with_bare sheets (done ++ []) start) valid
  all_set done (d ∷ rest) whole ready valid =
      let state : List Definition → Book = λ ds. with_bare sheets ds start in
      let joined : (ds : List Definition) → (done ++ d ∷ []) ++ ds ≡ done ++ d ∷ ds = λ ds. append_assoc done (d ∷ []) ds in
      let one : Leads (state (done ++ plain d ∷ map plain rest)) (line d ∷ []) (state (done ++ d ∷ map plain rest)) = one_set done d rest whole d.body refl ready.0.kept ready.0.tree ready.0.apart ready.0.place valid in
      let others : Leads (state ((done ++ d ∷ []) ++ map plain rest)) (map line rest) (state ((done ++ d ∷ []) ++ rest)) =
      all_set (done ++ d ∷ []) rest (joined rest ∙ whole) ready.1 (subst (λ (ds : List Definition). IsValidBook (state ds)) (sym (joined (map plain rest))) one.valid) in
      leads_both (state (done ++ plain d ∷ map plain rest)) (state (done ++ d ∷ map plain rest)) (state (done ++ d ∷ rest)) (line d ∷ []) (map line rest) one
      (leads_there (state ((done ++ d ∷ []) ++ map plain rest)) (state (done ++ d ∷ map plain rest)) (state ((done ++ d ∷ []) ++ rest)) (state (done ++ d ∷ rest)) (map line rest) (ap state (joined (map plain rest))) (ap state (joined rest)) others)

  pub all_ready : AllByRecursion IsReady book.definitions
  all_ready =
      both_of_each (λ (d : Definition). IsKeptBody n (scene_of core) d × (is_raw d.body ≡ false)) (λ (d : Definition). AllByRecursion (IsNoName passing) (unfound_of d.body) × HasPlace sheets d.scope) IsReady
      (λ d a b. record { kept = a.0; tree = a.1; apart = b.0; place = b.1 }) book.definitions
      (both_of_each (IsValidDefinition n (scene_of core)) (λ (d : Definition). is_raw d.body ≡ false) (λ (d : Definition). IsKeptBody n (scene_of core) d × (is_raw d.body ≡ false)) (λ d h e. (h.body, e)) book.definitions valid_core.definitions
      (none_raw book.definitions (unmapped_none _ (find (λ (d : Definition). is_raw d.body) book.definitions) (first_none RawBody (raw_body core) _ is.none))))
      (both_of_each (λ (d : Definition). AllByRecursion (IsNoName passing) (unfound_of d.body)) (λ (d : Definition). HasPlace sheets d.scope) (λ (d : Definition). AllByRecursion (IsNoName passing) (unfound_of d.body) × HasPlace sheets d.scope) (λ d a b. (a, b))
      book.definitions (passing_apart core all) all.scopes)

pub sets_bodies : SetsBodies
sets_bodies book start is valid = all_set book start is [] book.definitions refl (all_ready book start is) valid
