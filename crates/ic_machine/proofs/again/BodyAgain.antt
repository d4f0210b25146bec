-- What is written of the body of a definition in another notation reads there as the same body.
use Rattle.std.proofs.Common.{◌≡◌, ℕ, ◌<◌, ◌≤◌, ℤ, pos, List, [], ◌∷◌, ◌++◌, Bool, true, false, not, ◌&&◌, ◌||◌, ◌==◌, cond, Option, Some, None, reverse, length, map, codes, refl, sym, ap, ap₂, subst, ◌∙◌, arith, append_assoc, inl, inr}
use Rattle.std.proofs.lemmas.Bool.{and_parts}
use Rattle.std.proofs.lemmas.Bool.Decides.{nat_tests}
use Rattle.std.proofs.lemmas.Grind.{flat_map-append}
use Rattle.std.proofs.lemmas.List.{append-nil}
use Rattle.std.specs.Option.{option_or}
use Rattle.std.specs.Prelude.{◌⊎◌, is_some, option_and_then, option_map, unwrap_or}
use Rattle.ic_laws.proofs.core.Named.{IsNamed, book_named}
use Rattle.ic_laws.proofs.kept.Clashing.{TellsWords, no_form_words}
use Rattle.ic_laws.proofs.kept.Written.{shown_fits}
use Rattle.ic_laws.proofs.parsing.Nodes.{yield-node}
use Rattle.ic_laws.proofs.printing.Signs.{mark_begins_none}
use Rattle.ic_laws.proofs.printing.Words.{has_word}
use Rattle.ic_laws.proofs.tokens.Characters.{bracket_no_word}
use Rattle.ic_laws.proofs.tokens.Lexing.{Begins, spelled_begins}
use Rattle.ic_laws.specs.Binding.{spelled}
use Rattle.ic_laws.specs.Character.{equals}
use Rattle.ic_laws.specs.Clash.{clashes_with}
use Rattle.ic_laws.specs.CoreBook.{CoreBook, scene_of}
use Rattle.ic_laws.specs.Dialect.{DialectMeaning, IsLawful, error_number, reference_text, word_text}
use Rattle.ic_laws.specs.Following.{spelled_out}
use Rattle.ic_laws.specs.FormulaReading.{Body, body_of, if_lambda, is_found, is_lambda_kind, lambda_tree, reference_tree, shown_at, trimmed, whole_reference, without_equals}
use Rattle.ic_laws.specs.Notations.{AreNotations, IsShownForm, Notations, english, is_cell}
use Rattle.ic_laws.specs.Parse.{node}
use Rattle.ic_laws.specs.ReadAs.{read_as}
use Rattle.ic_laws.specs.Reading.{Fits, printed}
use Rattle.ic_laws.specs.Scan.{IsEnd, first_is}
use Rattle.ic_laws.specs.Token.{Close, Ref, Separator, Token, Word, token_text}
use Rattle.ic_laws.specs.Tree.{Bound, Spelled, is_written_sheet}
use Rattle.ic_laws.specs.ValidCore.{IsKept, IsValidCore}
use Rattle.ic_laws.specs.Yield.{joined, yield}
use Rattle.ic_laws.specs.declared.dialect.WordKind.TheVariants as kinds
use Rattle.ic_laws.specs.declared.reference.Place.{Place}
use Rattle.ic_laws.specs.declared.reference.RefToken.{RefToken}
use Rattle.ic_laws.specs.declared.scene.Scene.{Scene}
use Rattle.ic_laws.specs.declared.tree.Error.{Error}
use Rattle.ic_laws.specs.declared.tree.Tree.{out-Tree, out-roll-Tree}
use Rattle.ic_laws.specs.declared.tree.Tree.TheOpen as one
use Rattle.ic_refs.proofs.A1SpellLemmas.{place_text-spells}
use Rattle.ic_refs.proofs.MarkLemmas.{is_place_character, place_is_text}
use Rattle.ic_refs.specs.A1.{is_spellable, place_text}
use Rattle.ic_laws.specs.Position.{is_column, is_inside, is_row}
use Rattle.ic_laws.specs.SheetText.{sheet_text}
use Rattle.ic_tables.specs.Formats.{decimal_separator}
use Rattle.ic_tables.specs.Tables.{IsWellFormed, TableSet, language_of, locale_of}
use Rattle.ic_tables.specs.declared.language.Language.{Language}
use Rattle.ic_tree.proofs.ClashLemmas.{language_tells, shown_as}
use Rattle.ic_tree.proofs.NotationLaws.{knows_language_is, notations_are}
use Rattle.ic_tree.specs.LanguageWords.{is_boolean_word, is_function_word}
use Rattle.ic_tree.specs.Notations.{notations_of, stored_in}
use Rattle.ic_tree.specs.Shown.{list_separator, shown_meaning}
use Rattle.ic_cells.specs.Value.{error_word}
use Rattle.ic_machine.proofs.valid.RetypedLemmas.{error_at}
use Rattle.ic_machine.proofs.again.TextEnds.{IsTight, all_tight, equals_front, high_solid, is_solid, last_joined, no_equals, printed_begins, pushed_last, tight_front, trimmed_tight, without_equals_front}
use Rattle.ic_input.proofs.RunSteps.{all_weaker as all_of}
use Rattle.ic_laws.proofs.General.{some_there as there}

-- A form that is shown, of the tables' own. ----

-- no reference that can be written ends with a blank
place_solid : (c : ℕ) → is_place_character c ≡ true → is_solid c ≡ true
place_solid c h = high_solid c (grind (arith, nat_tests))

shown_ends : (l e : Language) (list decimal : ℕ) (row column : ℤ) (r : RefToken) → (shown_meaning l e list decimal row column).can_spell r ≡ true
    → first_is is_solid (reverse ((shown_meaning l e list decimal row column).spell_ref r)) ≡ true
shown_ends l e list decimal row column r can =
    let inside = (and_parts (is_row row && is_column column) (is_inside r.place row column) (and_parts (is_spellable row column r) (is_written_sheet r.sheet) can).0).1 in
    let text = place_is_text row column (place_text row column r.place) r.place (place_text-spells row column r.place inside) in
    last_joined (sheet_text r.sheet) (place_text row column r.place) (all_tight (place_text row column r.place) text.some (all_of is_place_character is_solid place_solid (place_text row column r.place) text.all)).last

module _ (tables : TableSet) (h : IsWellFormed tables) (locale code : List ℕ) (l : Language) (known : (notations_of tables).knows_locale locale ≡ true) (found : language_of tables code ≡ Some l) where
  abbrev n : Notations
  n = notations_of tables

  are : AreNotations (notations_of tables)
  are = notations_are tables h

  -- so it is that of a language that is there
  form_is : (P : DialectMeaning → Type 0) (row column : ℤ)
      → ((e : Language) (list decimal : ℕ) → language_of tables (codes "en") ≡ Some e → P (shown_meaning l e list decimal row column)) → P ((notations_of tables).shown locale code row column)
  unfolding notations_of
  form_is P row column f =
      let named = there (locale_of tables locale) known in
      let e = there (language_of tables (codes "en")) (notations_are tables h).english_language in
      subst P (shown_as (language_of tables code) (language_of tables (codes "en")) (locale_of tables locale) l e.0 named.0 found e.1 named.1 row column)
      (f e.0 (list_separator named.0.locale) (decimal_separator named.0.locale) e.1)

  pub references_end : (row column : ℤ) (r : RefToken) → ((notations_of tables).shown locale code row column).can_spell r ≡ true → first_is is_solid (reverse (((notations_of tables).shown locale code row column).spell_ref r)) ≡ true
  references_end row column r =
      form_is (λ (d : DialectMeaning). d.can_spell r ≡ true → first_is is_solid (reverse (d.spell_ref r)) ≡ true) row column (λ e list decimal is. shown_ends l e list decimal row column r)

  -- the word of an error value is the language's
  pub error_written : (row column : ℤ) (e : Error) → word_text ((notations_of tables).shown locale code row column) kinds.Error (error_number e) ≡ error_word l e
  error_written row column e =
      form_is (λ (d : DialectMeaning). word_text d kinds.Error (error_number e) ≡ error_word l e) row column (λ beside list decimal is. ap (λ (o : Option (List ℕ)). unwrap_or o []) (error_at l e))

  pub form_shown : (row column : ℤ) → IsShownForm (notations_of tables) ((notations_of tables).shown locale code row column) row column
  form_shown row column = are.shown locale code row column known (knows_language_is tables code ∙ ap is_some found)

  tells : (row column : ℤ) → TellsWords (notations_of tables) ((notations_of tables).shown locale code row column) (is_boolean_word l) (is_function_word l)
  unfolding notations_of
  tells row column =
      form_is (λ (d : DialectMeaning). TellsWords (notations_of tables) d (is_boolean_word l) (is_function_word l)) row column
      (λ e list decimal is. language_tells (notations_of tables) (notations_are tables h) l e (ap stored_in is) list decimal row column)

  -- what is written of a kept tree that doesn't clash fits it
  pub written_fits : (core : CoreBook) → IsValidCore (notations_of tables) core → (scope : Option ℕ) (row column : ℤ) → is_cell row column ≡ true → (t : Bound) → IsKept (notations_of tables) (scene_of core) scope row column t
      → clashes_with (is_boolean_word l) (is_function_word l) t ≡ false → Fits ((notations_of tables).shown locale code row column) (spelled (scene_of core) t)
  written_fits core valid scope row column cell t kept free =
      let named : IsNamed (scene_of core) = book_named (notations_of tables) core valid in
      let d : DialectMeaning = (notations_of tables).shown locale code row column in
      shown_fits (notations_of tables) are (scene_of core) named scope row column d (form_shown row column) cell t kept
      (no_form_words (notations_of tables) are (scene_of core) named scope row column d (is_boolean_word l) (is_function_word l) (tells row column) t kept free)

-- Bodies. ----

-- a body is a reference to a sheet that is there, or a LAMBDA
abbrev pub IsReferenceTo : Scene → Body → Type 0
IsReferenceTo scene body =
    (sheet : Option (List ℕ)) × (place : Place) × (body.has_equals ≡ false) × (body.tree ≡ node (one.Reference sheet place)) × (is_found scene sheet ≡ true)

abbrev pub is_lambda : Spelled → Bool
is_lambda t = is_lambda_kind (out-Tree (Option (List ℕ)) (List ℕ) t)

whole_found : (scene : Scene) (r : RefToken) (rest : List ℕ) (t : Spelled) → whole_reference scene r rest ≡ Some t → (t ≡ node (one.Reference r.sheet r.place)) × (is_found scene r.sheet ≡ true)
whole_found scene r [] t e = go (is_found scene r.sheet) refl e
  where
    go : (b : Bool) → is_found scene r.sheet ≡ b → cond b (Some (node (one.Reference r.sheet r.place))) None ≡ Some t → (t ≡ node (one.Reference r.sheet r.place)) × (is_found scene r.sheet ≡ true)
    go true f k = let same : node (one.Reference r.sheet r.place) ≡ t = cc in (sym same, f)
    go false f k = absurd (cc)
whole_found scene r (c ∷ cs) t e = absurd (cc)

lambda_found : (o : Option Spelled) (t : Spelled) → option_and_then if_lambda o ≡ Some t → is_lambda t ≡ true
lambda_found None t e = absurd (cc)
lambda_found (Some u) t e = go (is_lambda u) refl e
  where
    go : (b : Bool) → is_lambda u ≡ b → cond b (Some u) None ≡ Some t → is_lambda t ≡ true
    go true f k = let same : u ≡ t = cc in ap is_lambda (sym same) ∙ f
    go false f k = absurd (cc)

reference_found : (scene : Scene) (o : Option (RefToken × List ℕ)) (t : Spelled) → option_and_then (λ found. whole_reference scene found.0 found.1) o ≡ Some t
    → (sheet : Option (List ℕ)) × (place : Place) × (t ≡ node (one.Reference sheet place)) × (is_found scene sheet ≡ true)
reference_found scene None t e = absurd (cc)
reference_found scene (Some found) t e = let is = whole_found scene found.0 found.1 t e in (found.0.sheet, found.0.place, is.0, is.1)

pub body_kinds : (n : Notations) (core : CoreBook) (text : List ℕ) (body : Body) → body_of n core text ≡ Some body → IsReferenceTo (scene_of core) body ⊎ (is_lambda body.tree ≡ true)
body_kinds n core text body e = go (reference_tree (shown_at n core (pos 1) (pos 1)) (scene_of core) text) refl (lambda_tree (shown_at n core (pos 1) (pos 1)) (n.shown english english (pos 1) (pos 1)) (without_equals text)) refl e
  where
    go : (r : Option Spelled) → reference_tree (shown_at n core (pos 1) (pos 1)) (scene_of core) text ≡ r → (l : Option Spelled)
        → lambda_tree (shown_at n core (pos 1) (pos 1)) (n.shown english english (pos 1) (pos 1)) (without_equals text) ≡ l
        → option_or (option_map (λ t. let b : Body = record { has_equals = false; tree = t } in b) r) (option_map (λ t. let b : Body = record { has_equals = first_is (λ c. c == equals) text; tree = t } in b) l) ≡ Some body
        → IsReferenceTo (scene_of core) body ⊎ (is_lambda body.tree ≡ true)
    go (Some t) f l g k =
        let same : ◌≡◌ {A = Body} (record { has_equals = false; tree = t }) body = cc in
        let is = reference_found (scene_of core) ((shown_at n core (pos 1) (pos 1)).read_ref (trimmed text)) t f in
        inl (is.0, is.1, sym (ap (λ (b : Body). b.has_equals) same), sym (ap (λ (b : Body). b.tree) same) ∙ is.2, is.3)
    go None f (Some t) g k =
        let same : ◌≡◌ {A = Body} (record { has_equals = first_is (λ c. c == equals) text; tree = t }) body = cc in
        inr (sym (ap (λ (b : Body). is_lambda b.tree) same) ∙ lambda_found (option_or (read_as (shown_at n core (pos 1) (pos 1)) (without_equals text)) (read_as (n.shown english english (pos 1) (pos 1)) (without_equals text))) t g)
    go None f None g k = absurd (cc)

-- A text of each kind, read again. ----

module _ (n : Notations) (core : CoreBook) (lawful : IsLawful (shown_at n core (pos 1) (pos 1)))
    (ends : (r : RefToken) → (shown_at n core (pos 1) (pos 1)).can_spell r ≡ true → first_is is_solid (reverse ((shown_at n core (pos 1) (pos 1)).spell_ref r)) ≡ true) where
  abbrev d : DialectMeaning
  d = shown_at n core (pos 1) (pos 1)

  abbrev body_by : Bool → Spelled → Body
  body_by has t = record { has_equals = has; tree = t }

  -- a reference
  begins_solid : (text : List ℕ) (r : RefToken) → d.read_ref (text ++ []) ≡ Some (r, []) → first_is is_solid text ≡ true
  begins_solid text r e = go text (spelled_begins d lawful text [] (Ref r) e)
    where
      go : (front : List ℕ) → Begins front → first_is is_solid front ≡ true
      go [] begins = absurd begins
      go (c ∷ cs) begins = ap not begins

  pub reference_again : (sheet : Option (List ℕ)) (place : Place) → d.can_spell (record { sheet = sheet; place = place }) ≡ true → is_found (scene_of core) sheet ≡ true
      → body_of n core (printed d (node (one.Reference sheet place))) ≡ Some (body_by false (node (one.Reference sheet place)))
  reference_again sheet place can found =
      let r : RefToken = record { sheet = sheet; place = place } in
      let text : printed d (node (one.Reference sheet place)) ≡ d.spell_ref r =
      ap (spelled_out d) (yield-node d (one.Reference sheet place)) ∙ append-nil (reference_text d r) ∙ ap (λ (b : Bool). cond b (d.spell_ref r) (word_text d kinds.Error 0)) can in
      let exact : d.read_ref (d.spell_ref r ++ []) ≡ Some (r, []) = lawful.reads_spelled r [] can refl in
      let read : d.read_ref (d.spell_ref r) ≡ Some (r, []) = ap d.read_ref (sym (append-nil (d.spell_ref r))) ∙ exact in
      let whole : reference_tree d (scene_of core) (d.spell_ref r) ≡ Some (node (one.Reference sheet place)) =
      ap (λ (t : List ℕ). option_and_then (λ found. whole_reference (scene_of core) found.0 found.1) (d.read_ref t)) (trimmed_tight (d.spell_ref r) (record { first = begins_solid (d.spell_ref r) r exact; last = ends r can }))
      ∙ ap (option_and_then (λ (found : RefToken × List ℕ). whole_reference (scene_of core) found.0 found.1)) read
      ∙ ap (λ (b : Bool). cond b (Some (node (one.Reference sheet place))) None) found in
      ap (body_of n core) text
      ∙ ap (λ (o : Option Spelled). option_or (option_map (body_by false) o) (option_map (body_by (first_is (λ c. c == equals) (d.spell_ref r))) (lambda_tree d (n.shown english english (pos 1) (pos 1)) (without_equals (d.spell_ref r))))) whole

  -- a LAMBDA
  module _ (parameters : List (List ℕ)) (inner : Spelled) (fits : Fits d (node (one.Lambda parameters inner))) (reads : read_as d (printed d (node (one.Lambda parameters inner))) ≡ Some (node (one.Lambda parameters inner))) where
    abbrev v : Spelled
    v = node (one.Lambda parameters inner)

    abbrev parts : List Token
    parts = joined Separator (map (λ p. Word p ∷ []) parameters ++ yield d inner ∷ [])

    abbrev word : List ℕ
    word = word_text d kinds.Function d.lambda_fn

    abbrev after : List ℕ
    after = codes "(" ++ (spelled_out d parts ++ codes ")")

    -- the word, an opening bracket, and what ends with a closing one
    text_is : printed d v ≡ word ++ after
    text_is =
        ap (spelled_out d) (yield-node d (one.Lambda parameters inner)) ∙ append_assoc word (codes "(") (spelled_out d (parts ++ Close ∷ []))
        ∙ ap (λ (text : List ℕ). word ++ (codes "(" ++ text)) (flat_map-append (token_text d) parts (Close ∷ []))

    tight : IsTight (printed d v)
    tight = record {
      first = printed_begins d lawful v fits reads;
      last = ap (λ (text : List ℕ). first_is is_solid (reverse text)) text_is ∙ last_joined word after (last_joined (codes "(") (spelled_out d parts ++ codes ")") (pushed_last (spelled_out d parts) 41 refl));
    }

    -- it is no reference
    no_whole : (o : Option (RefToken × List ℕ)) → d.read_ref (word ++ after) ≡ o → option_and_then (λ found. whole_reference (scene_of core) found.0 found.1) o ≡ None
    no_whole None e = refl
    no_whole (Some (r, c ∷ rest)) e = refl
    no_whole (Some (r, [])) e =
        let w = has_word d kinds.Function d.lambda_fn lawful.special.1 in
        let known : d.word kinds.Function d.lambda_fn ≡ Some word = w.1 ∙ ap (λ (x : List ℕ). let o : Option (List ℕ) = Some x in o) (sym w.2) in
        let end : IsEnd after = ap (λ (b : Bool). b || false || false || false || false) bracket_no_word in
        let longer : length after ≤ 0 = lawful.within_function d.lambda_fn word after [] r known end e in
        let some : 0 < length after = omega arith in
        absurd (omega (arith, longer, some))

    no_reference : (has : Bool) → reference_tree d (scene_of core) (cond has (equals ∷ []) [] ++ printed d v) ≡ None
    no_reference true =
        ap (λ (t : List ℕ). option_and_then (λ found. whole_reference (scene_of core) found.0 found.1) (d.read_ref t)) (trimmed_tight (equals ∷ printed d v) (tight_front true (printed d v) tight))
        ∙ ap (option_and_then (λ (found : RefToken × List ℕ). whole_reference (scene_of core) found.0 found.1)) (lawful.reference_begins (equals ∷ printed d v) (mark_begins_none equals (omega arith) refl).0)
    no_reference false =
        ap (λ (t : List ℕ). option_and_then (λ found. whole_reference (scene_of core) found.0 found.1) (d.read_ref t)) (trimmed_tight (printed d v) tight ∙ text_is)
        ∙ no_whole (d.read_ref (word ++ after)) refl

    pub lambda_again : (has : Bool) → body_of n core (cond has (equals ∷ []) [] ++ printed d v) ≡ Some (body_by has v)
    lambda_again has =
        let text : List ℕ = cond has (equals ∷ []) [] ++ printed d v in
        let plain = no_equals d lawful v fits reads in
        let read : lambda_tree d (n.shown english english (pos 1) (pos 1)) (without_equals text) ≡ Some v =
        ap (lambda_tree d (n.shown english english (pos 1) (pos 1))) (without_equals_front has (printed d v) plain)
        ∙ ap (λ (o : Option Spelled). option_and_then if_lambda (option_or o (read_as (n.shown english english (pos 1) (pos 1)) (printed d v)))) reads
        ∙ ap (λ (b : Bool). cond b (Some v) None) (ap is_lambda_kind (out-roll-Tree (Option (List ℕ)) (List ℕ) (one.Lambda parameters inner))) in
        ap₂ (λ (r l : Option Spelled). option_or (option_map (body_by false) r) (option_map (body_by (first_is (λ c. c == equals) text)) l)) (no_reference has) read
        ∙ ap (λ (b : Bool). let o : Option Body = Some (body_by b v) in o) (equals_front has (printed d v) plain)
