-- Definitions of a model: what refuses one, which sheet a scope means, and what is listed.
use Rattle.std.proofs.Common.{◌≡◌, ◌==◌, ℕ, zero, suc, List, [], ◌∷◌, Bool, true, false, Option, Some, None, Result, Ok, Err, IsErr, IsErrAnd, option_map, map, nat_eq, refl, sym, ap, ap₂, subst, ◌∙◌, inl, inr, pos}
use Rattle.std.specs.Prelude.{position, slice_get, unwrap_or}
use Rattle.std.specs.List.{list_any}
use Rattle.std.specs.Option.{option_or}
use Rattle.ic_laws.specs.Scan.{first_is}
use Rattle.ic_laws.specs.declared.tree.Formula.{Formula}
use Rattle.ic_laws.specs.Tree.{Spelled}
use Rattle.ic_laws.proofs.keeping.Accepted.{none_holds}
use Rattle.ic_laws.specs.CoreBook.{CoreBook, Sheet, scene_of}
use Rattle.ic_laws.specs.CoreStep.{delete_definition_refusal, index_of_definition, is_named, listed_scope, new_definition_causes, new_definition_refusal, scope_of, scope_or_none}
use Rattle.ic_laws.specs.Character.{equals}
use Rattle.ic_laws.specs.FormulaReading.{Body, body_of, lambda_tree, reference_tree, shown_at, shown_body, shown_formula, without_equals}
use Rattle.ic_laws.specs.Name.{is_identifier}
use Rattle.ic_laws.specs.Notations.{AreNotations, Notations, english}
use Rattle.ic_laws.specs.Dialect.{DialectMeaning}
use Rattle.ic_laws.specs.Position.{is_place_within}
use Rattle.ic_laws.specs.declared.reference.RefToken.{RefToken}
use Rattle.ic_laws.specs.Refusal.{InvalidNameFormula, InvalidScope, InvalidSheet, NameExists, NameNotFound}
use Rattle.ic_definitions.proofs.NamesFacts.{position_none, some_position}
use Rattle.ic_sheets.specs.Sheet.{sheet_core, sheet_of}
use Rattle.ic_sheets.specs.declared.sheet.Sheet.{Sheet as HeldSheet}
use Rattle.ic_parts.specs.Refused.{RefusesOr}
use Rattle.ic_parts.specs.declared.error.BookError.{BookError}
use Rattle.ic_parts.specs.declared.error.BookError.TheVariants as errors
use Rattle.ic_parts.proofs.HeldLemmas.{found_by_id, none_told}

-- ---- the sheet of a scope

-- the id of the sheet at an index, as the core sees it
pub scope_seen : (ws : List HeldSheet) (i : ℕ) → option_map (λ (s : Sheet). let id : Option ℕ = Some s.id in id) (slice_get (map sheet_core (map sheet_of ws)) i) ≡ option_map (λ (s : HeldSheet). let id : Option ℕ = Some s.id in id) (slice_get ws i)
scope_seen [] i = refl
scope_seen (s ∷ ws) zero = refl
scope_seen (s ∷ ws) (suc i) = scope_seen ws i

-- the id of the sheet at an index, where the sheets of a core are these
pub scope_there : (core : CoreBook) (ws : List HeldSheet) (index : Option ℕ) (i : ℕ) (s : HeldSheet) → core.sheets ≡ map sheet_core (map sheet_of ws) → index ≡ Some i → slice_get ws i ≡ Some s → Some (Some s.id) ≡ scope_of core index
scope_there core ws index i s sheets is at =
    sym (ap (scope_of core) is ∙ ap (λ (xs : List Sheet). option_map (λ (x : Sheet). let id : Option ℕ = Some x.id in id) (slice_get xs i)) sheets ∙ scope_seen ws i ∙ ap (option_map (λ (x : HeldSheet). let id : Option ℕ = Some x.id in id)) at)

-- the index of the sheet with an id
pub listed_there : (core : CoreBook) (ws : List HeldSheet) (scope : Option ℕ) (id : ℕ) (o : Option ℕ) → core.sheets ≡ map sheet_core (map sheet_of ws) → scope ≡ Some id → o ≡ position (λ (s : HeldSheet). nat_eq s.id id) ws
    → option_map (λ (index : ℕ). let place : Option ℕ = Some index in place) o ≡ listed_scope core scope
listed_there core ws scope id o sheets is at =
    sym (ap (listed_scope core) is ∙ ap (λ (xs : List Sheet). option_map (λ (index : ℕ). let place : Option ℕ = Some index in place) (position (λ (s : Sheet). nat_eq s.id id) xs)) sheets
    ∙ ap (option_map (λ (index : ℕ). let place : Option ℕ = Some index in place)) (sym (found_by_id ws id) ∙ sym at))

pub scope_is : (core : CoreBook) (index : Option ℕ) (id : Option ℕ) → scope_of core index ≡ Some id → scope_or_none core index ≡ id
scope_is core index id e = ap (λ o. unwrap_or o None) e

-- ---- what refuses a new definition

module _ (n : Notations) (core : CoreBook) (name : List ℕ) (index : Option ℕ) (text : List ℕ) where
  pub no_scope : is_identifier name ≡ true → scope_of core index ≡ None → new_definition_refusal n core name index text ≡ Some InvalidScope
  no_scope good none = rw good (rw none refl)

  module _ (id : Option ℕ) (good : is_identifier name ≡ true) (scope : scope_of core index ≡ Some id) where
    pub name_taken : list_any (is_named name id) core.definitions ≡ true → new_definition_refusal n core name index text ≡ Some NameExists
    name_taken taken = rw good (rw scope (rw taken refl))

    pub no_body : list_any (is_named name id) core.definitions ≡ false → body_of n core text ≡ None → new_definition_refusal n core name index text ≡ Some InvalidNameFormula
    no_body free none = rw good (rw scope (rw free (rw none refl)))

    pub name_accepted : list_any (is_named name id) core.definitions ≡ false → (body : Body) → body_of n core text ≡ Some body → new_definition_refusal n core name index text ≡ None
    name_accepted free body typed = rw good (rw scope (rw free (rw typed refl)))

    -- where memory ran out while the body was read, nothing else refuses
    pub body_unread : {T : Type 0} (r : Result T BookError) → list_any (is_named name id) core.definitions ≡ false → IsErr r × IsErrAnd r (λ e. e ≡ errors.OutOfMemory) → RefusesOr InvalidNameFormula r (new_definition_refusal n core name index text)
    body_unread (Ok value) free h = let no : false ≡ true = h.0 in cc
    body_unread {T} (Err e) free h = by_body (body_of n core text) refl
      where
        by_body : (o : Option Body) → body_of n core text ≡ o → RefusesOr InvalidNameFormula {T = T} (Err e) (new_definition_refusal n core name index text)
        by_body None none = inr (no_body free none, h.1)
        by_body (Some body) typed = inl (none_told (name_accepted free body typed) h.1)

  -- where nothing refuses it, no definition has its key
  pub key_free : (id : Option ℕ) → scope_of core index ≡ Some id → new_definition_refusal n core name index text ≡ None → list_any (is_named name id) core.definitions ≡ false
  key_free id scope none = subst (λ s. list_any (is_named name s) core.definitions ≡ false) (scope_is core index id scope) (none_holds (new_definition_causes n core name index text) none).1.1.0

-- ---- what refuses a deletion

module _ (core : CoreBook) (name : List ℕ) (index : Option ℕ) where
  pub no_sheet : scope_of core index ≡ None → delete_definition_refusal core name index ≡ Some InvalidSheet
  no_sheet none = rw none refl

  module _ (id : Option ℕ) (scope : scope_of core index ≡ Some id) where
    pub no_name : position (is_named name id) core.definitions ≡ None → delete_definition_refusal core name index ≡ Some NameNotFound
    no_name none = let free = position_none (is_named name id) core.definitions none in rw scope (rw free refl)

    pub name_there : (at : ℕ) → position (is_named name id) core.definitions ≡ Some at → delete_definition_refusal core name index ≡ None
    name_there at found = let taken = some_position (is_named name id) core.definitions at found in rw scope (rw taken refl)

    pub index_is : (o : Option ℕ) → position (is_named name id) core.definitions ≡ o → index_of_definition core name (scope_or_none core index) ≡ o
    index_is o found = ap (λ s. index_of_definition core name s) (scope_is core index id scope) ∙ found

-- ---- a body as it was typed

-- the reference, or else the LAMBDA that it is
pub body_is : (n : Notations) (core : CoreBook) (text : List ℕ) (r l : Option Spelled) (b : Bool) → reference_tree (shown_at n core (pos 1) (pos 1)) (scene_of core) text ≡ r
    → lambda_tree (shown_at n core (pos 1) (pos 1)) (n.shown english english (pos 1) (pos 1)) (without_equals text) ≡ l → first_is (λ c. c == equals) text ≡ b
    → option_or (option_map (λ t. let body : Body = record { has_equals = false; tree = t } in body) r) (option_map (λ t. let body : Body = record { has_equals = b; tree = t } in body) l) ≡ body_of n core text
body_is n core text r l b e f g =
    sym (ap₂ (λ (x y : Option Body). option_or x y) (ap (option_map (λ t. let body : Body = record { has_equals = false; tree = t } in body)) e)
    (ap (option_map (λ t. let body : Body = record { has_equals = first_is (λ c. c == equals) text; tree = t } in body)) f ∙ ap (λ h. option_map (λ t. let body : Body = record { has_equals = h; tree = t } in body) l) g))

-- and as it is shown
module _ (n : Notations) (core : CoreBook) (has : Bool) (body read : Formula) where
  pub shown_with_equals : has ≡ true → read ≡ body → equals ∷ shown_formula n core (pos 1) (pos 1) read ≡ shown_body n core has body
  shown_with_equals has_it same = sym (ap₂ (λ (b : Bool) (f : Formula). shown_body n core b f) has_it (sym same))

  pub shown_bare : has ≡ false → read ≡ body → shown_formula n core (pos 1) (pos 1) read ≡ shown_body n core has body
  shown_bare has_none same = sym (ap₂ (λ (b : Bool) (f : Formula). shown_body n core b f) has_none (sym same))

-- ---- the body of a definition

-- a reference that the notation in force reads is within the limits
pub reads_within : (n : Notations) (core : CoreBook) → AreNotations n → n.knows_locale core.locale ≡ true → n.knows_language core.language ≡ true
    → (d : DialectMeaning) → d ≡ shown_at n core (pos 1) (pos 1) → (text rest : List ℕ) (r : RefToken) → d.read_ref text ≡ Some (r, rest) → is_place_within r.place ≡ true
reads_within n core are locale language d is text rest r e =
    ((are.shown core.locale core.language (pos 1) (pos 1) locale language).reads_inside text rest r (subst (λ (m : DialectMeaning). m.read_ref text ≡ Some (r, rest)) is e)).1
