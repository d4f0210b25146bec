-- A tree that is read and bound is kept well, and so is a kept tree that is written and bound again when its book changes.
use Rattle.std.proofs.Common.{◌≡◌, ℕ, ℤ, ◌≤◌, List, [], ◌∷◌, map, Bool, true, not, ◌&&◌, codes, Option, None, Some, refl, sym, subst, ◌∙◌, nat_eq, arith, inl, inr, ◌⊎◌}
use Rattle.std.specs.Prelude.{IsSome, bytes_eq, option_map, unwrap_or}
use Rattle.std.specs.List.{AllByRecursion, find}
use Rattle.std.specs.Fmt.{decimal}
use Rattle.std.proofs.lemmas.Bool.{and_from, and_parts, cases_Bool}
use Rattle.ic_laws.specs.Binding.{RespectsFolding, bound, bound_call, spelled_kind, spelled_sheet, spelled_with, spelled_word}
use Rattle.ic_laws.specs.Dialect.{DialectMeaning}
use Rattle.ic_laws.specs.Keeping.{KeyChange, kept, kept_name, kept_sheet}
use Rattle.ic_laws.specs.Name.{agrees, fold, is_identifier, is_lone, is_sheet_name, is_variable}
use Rattle.ic_laws.specs.Notations.{AreNotations, HasFunction, IsShownForm, Notations, english_function}
use Rattle.ic_laws.specs.Parse.{SpelledKind, node}
use Rattle.ic_laws.specs.ReadAs.{read_as}
use Rattle.ic_laws.specs.Reading.{Reads}
use Rattle.ic_laws.specs.Scene.{SheetsDiffer, definition_at, name_of_key, name_of_sheet, definition_spelling, same_scope, sheet_spelling}
use Rattle.ic_laws.specs.Token.{FunHead, Ref, Spells, Token}
use Rattle.ic_laws.specs.Tree.{Bound, IsKindWell, IsPairWell, IsWellFormed, Spelled, bound_names, is_called_name, is_named_mention, is_named_sheet, is_sheet_mention, is_word_mention, is_written_sheet, spelled_names}
use Rattle.ic_laws.specs.ValidCore.{IsKept, IsKeptWhere, IsPlaceInside, LiesWhere}
use Rattle.ic_laws.specs.Yield.{yield}
use Rattle.ic_laws.specs.declared.dialect.WordKind.TheVariants as kinds
use Rattle.ic_laws.specs.declared.reference.Place.{Place}
use Rattle.ic_laws.specs.declared.reference.RefToken.{RefToken}
use Rattle.ic_laws.specs.declared.scene.NameSpelling.{NameSpelling}
use Rattle.ic_laws.specs.declared.scene.Scene.{Scene}
use Rattle.ic_laws.specs.declared.scene.SheetName.{SheetName}
use Rattle.ic_laws.specs.declared.tree.NameKey.{NameKey}
use Rattle.ic_laws.specs.declared.tree.NameMention.{NameMention}
use Rattle.ic_laws.specs.declared.tree.NameMention.TheVariants as names
use Rattle.ic_laws.specs.declared.tree.SheetMention.{SheetMention}
use Rattle.ic_laws.specs.declared.tree.SheetMention.TheVariants as sheets
use Rattle.ic_laws.specs.declared.tree.Tree.TheOpen as one
use Rattle.ic_laws.proofs.binding.Again.{BoundKind, children_spelled, once, under}
use Rattle.ic_laws.proofs.binding.Induction.{every_made}
use Rattle.ic_laws.proofs.binding.SceneLemmas.{find_here, find_later}
use Rattle.ic_laws.proofs.binding.Settled.{bound_is_settled}
use Rattle.ic_laws.proofs.core.Named.{IsNamed}
use Rattle.ic_laws.proofs.kept.Everywhere.{every_both}
use Rattle.ic_laws.proofs.kept.Lifting.{every_bound, every_spelled}
use Rattle.ic_laws.proofs.kept.Stays.{LocalStays, NameStays, SheetStays, Stays, settled_stays}
use Rattle.ic_laws.proofs.kept.Tokens.{OfNode, OfNodes, OfToken, lexed_all, nodes_of_tokens}
use Rattle.ic_laws.proofs.kept.Wells.{IsWritten, SpecialWords, WrittenByNames, bound_well, spelled_well}
use Rattle.ic_laws.proofs.parsing.Nodes.{brackets-node, empty-node, height-node}
use Rattle.ic_laws.proofs.parsing.ReadAs.{read_as_sound}

-- the English words of notations are told by folding alone
pub english_by_fold : (n : Notations) → AreNotations n → RespectsFolding (english_function n)
english_by_fold n notations a b same = notations.stored.finds_agreeing kinds.Function a b same

special_words : (n : Notations) → AreNotations n → SpecialWords (english_function n) n.stored.let_fn n.stored.lambda_fn
special_words n notations = record { of_let = notations.stored_let; of_lambda = notations.stored_lambda }

-- A spelled tree that can be kept: it is well-formed, its functions are there, and of the places of its references this
-- holds.
pub record CanBeKeptWhere (n : Notations) (Inside : Place → Type 0) (t : Spelled) : Type 0 where
  pub well : IsWellFormed spelled_names n.stored.let_fn n.stored.lambda_fn t
  pub parts : OfNodes Inside (HasFunction n) t

-- in a cell the references lie in the sheet
abbrev pub CanBeKept : Notations → ℤ → ℤ → Spelled → Type 0
CanBeKept n row column t = CanBeKeptWhere n (IsPlaceInside row column) t

-- what is read in a form that is shown in a cell can be kept there ----

pub read_can_be_kept : (n : Notations) (d : DialectMeaning) (row column : ℤ) → IsShownForm n d row column → (text : List ℕ) (t : Spelled) → read_as d text ≡ Some t → CanBeKept n row column t
read_can_be_kept n d row column form text t read =
    let reads : Reads d text t = read_as_sound d form.lawful text t read in record {
      well = subst (λ l. IsWellFormed spelled_names n.stored.let_fn l t) form.lambda_same (subst (λ l. IsWellFormed spelled_names l d.lambda_fn t) form.let_same reads.well);
      parts = nodes_of_tokens (IsPlaceInside row column) (HasFunction n) d t (lexed_all d (OfToken (IsPlaceInside row column) (HasFunction n)) each text (yield d t) reads.tokens);
    }
  where
    each : (token : Token) (front rest : List ℕ) → Spells d token front rest → OfToken (IsPlaceInside row column) (HasFunction n) token
    each (Ref reference) front rest h = (form.reads_inside _ rest reference h).0
    each (FunHead number) front rest h = form.finds_functions h.0 number h.2
    each token front rest h = tt

-- so can one reference
pub reference_can_be_kept : (n : Notations) (d : DialectMeaning) (row column : ℤ) → IsShownForm n d row column → (text rest : List ℕ) (r : RefToken) → d.read_ref text ≡ Some (r, rest) → CanBeKept n row column (node (one.Reference r.sheet r.place))
reference_can_be_kept n d row column form text rest r read =
    let kind : SpelledKind = one.Reference r.sheet r.place in
    let inside = form.reads_inside text rest r read in record {
      well = record {
        nodes =
            every_made (IsKindWell spelled_names n.stored.let_fn n.stored.lambda_fn) IsPairWell kind
            (record { operands = tt; called = tt; arguments = tt; parts = tt; elements = tt; unsigned = tt; words = inside.2; places = inside.1 }) tt;
        there = empty-node kind;
        few_brackets = subst (λ m. m ≤ 128) (sym (brackets-node kind)) (omega arith);
        low = subst (λ m. m ≤ 1024) (sym (height-node kind)) (omega arith);
      };
      parts = every_made (OfNode (IsPlaceInside row column) (HasFunction n)) (λ pair. Unit {0}) kind inside.0 tt;
    }

-- what can be kept is kept where it is bound ----

module _ (n : Notations) (notations : AreNotations n) (scene : Scene) (scope : Option ℕ) (Inside : Place → Type 0) where
  lies_bound : (kind : SpelledKind) (binders : List (List ℕ)) → OfNode Inside (HasFunction n) kind → LiesWhere n Inside (once (english_function n) scene scope kind binders)
  lies_bound (one.Reference sheet place) binders h = h
  lies_bound (one.Fun number arguments) binders h = h
  lies_bound (one.Call word arguments) binders h = at (english_function n word) refl
    where
      at : (found : Option ℕ) → english_function n word ≡ found → LiesWhere n Inside (bound_call (english_function n) scene scope found word (map (under (english_function n) scene scope) arguments) binders)
      at (Some number) e = notations.stored_finds word number e
      at None e = tt
  lies_bound kind binders h = tt

  pub bound_kept : SheetsDiffer scene → (t : Spelled) → CanBeKeptWhere n Inside t → IsKeptWhere n Inside scene scope (bound (english_function n) scene scope t)
  bound_kept differ t h = record {
    well = bound_well (english_function n) scene scope n.stored.let_fn n.stored.lambda_fn (special_words n notations) t h.well;
    settled = bound_is_settled (english_function n) scene scope differ (english_by_fold n notations) t;
    parts =
        every_bound (english_function n) scene scope (OfNode Inside (HasFunction n)) (λ pair. Unit {0}) (LiesWhere n Inside) (λ pair. Unit {0})
        (record { node = lies_bound; pair = λ variable value binders p. tt }) t h.parts [];
  }

-- What is read in a form that is shown in a cell is kept there.
pub bound_is_kept : (n : Notations) → AreNotations n → (scene : Scene) → SheetsDiffer scene → (d : DialectMeaning) (row column : ℤ) → IsShownForm n d row column → (text : List ℕ) (t : Spelled) → read_as d text ≡ Some t → (scope : Option ℕ)
    → IsKept n scene scope row column (bound (english_function n) scene scope t)
bound_is_kept n notations scene differ d row column form text t read scope = bound_kept n notations scene scope (IsPlaceInside row column) differ t (read_can_be_kept n d row column form text t read)

-- a kept tree that is written by names can be kept ----

-- an identifier is a word that can be called
pub identifier_word : (name : List ℕ) → is_identifier name ≡ true → is_variable name ≡ true
identifier_word name h =
    let first = and_parts (is_variable name && not (is_lone name) && not (agrees name (codes "LET"))) (not (agrees name (codes "LAMBDA"))) h in
    let second = and_parts (is_variable name && not (is_lone name)) (not (agrees name (codes "LET"))) first.0 in
    (and_parts (is_variable name) (not (is_lone name)) second.0).0

identifier_called : (name : List ℕ) → is_identifier name ≡ true → is_called_name name ≡ true
identifier_called name h =
    let first = and_parts (is_variable name && not (is_lone name) && not (agrees name (codes "LET"))) (not (agrees name (codes "LAMBDA"))) h in
    let second = and_parts (is_variable name && not (is_lone name)) (not (agrees name (codes "LET"))) first.0 in
    and_from (is_variable name && not (agrees name (codes "LET"))) (not (agrees name (codes "LAMBDA")))
    (and_from (is_variable name) (not (agrees name (codes "LET"))) (identifier_word name h) second.1) first.1

-- what the sheets and the definitions of a scene are written by: names of sheets, and identifiers
pub record WritesNames (scene : Scene) (sheet_text : ℕ → List ℕ) (key_text : NameKey → List ℕ) : Type 0 where
  pub sheet : (id : ℕ) → IsSome (name_of_sheet scene id) → is_sheet_name (sheet_text id) ≡ true
  pub definition : (key : NameKey) → IsSome (name_of_key scene key) → is_identifier (key_text key) ≡ true

module _ (n : Notations) (scene : Scene) (scope : Option ℕ) (Inside : Place → Type 0) (sheet_text : ℕ → List ℕ) (key_text : NameKey → List ℕ) where
  abbrev spelled_of : BoundKind → SpelledKind
  spelled_of kind = spelled_kind sheet_text key_text (children_spelled sheet_text key_text kind)

  lies_spelled : (kind : BoundKind) → LiesWhere n Inside kind → OfNode Inside (HasFunction n) (spelled_of kind)
  lies_spelled (one.Reference sheet place) h = h
  lies_spelled (one.Fun number arguments) h = h
  lies_spelled kind h = tt

  module _ (writes : WritesNames scene sheet_text key_text) where
    sheet_written : (mention : SheetMention) → SheetStays scene mention → is_sheet_mention mention ≡ true → is_written_sheet (spelled_sheet sheet_text mention) ≡ true
    sheet_written sheets.Own stays h = refl
    sheet_written (sheets.Sheet id) stays h = writes.sheet id stays
    sheet_written (sheets.Dangling name) stays h = h

    word_written : (mention : NameMention) → NameStays scene scope mention → is_word_mention is_variable mention ≡ true → is_variable (spelled_word key_text mention) ≡ true
    word_written (names.Var word) stays h = h
    word_written (names.Name key) stays h = identifier_word (key_text key) (writes.definition key stays.named)
    word_written (names.Dangling word) stays h = h

    call_written : (mention : NameMention) → NameStays scene scope mention → is_word_mention is_called_name mention ≡ true → is_called_name (spelled_word key_text mention) ≡ true
    call_written (names.Var word) stays h = h
    call_written (names.Name key) stays h = identifier_called (key_text key) (writes.definition key stays.named)
    call_written (names.Dangling word) stays h = h

    named_written : (mention : SheetMention) → SheetStays scene mention → is_named_mention mention ≡ true → is_named_sheet (spelled_sheet sheet_text mention) ≡ true
    named_written sheets.Own stays h = h
    named_written (sheets.Sheet id) stays h = writes.sheet id stays
    named_written (sheets.Dangling name) stays h = h

    local_written : (mention : NameMention) → LocalStays scene mention → is_word_mention is_identifier mention ≡ true → is_identifier (spelled_word key_text mention) ≡ true
    local_written (names.Var word) stays h = h
    local_written (names.Name key) stays h = writes.definition key stays
    local_written (names.Dangling word) stays h = h

    names_written : (kind : BoundKind) → IsKindWell bound_names n.stored.let_fn n.stored.lambda_fn kind → Stays (english_function n) scene scope kind → WrittenByNames sheet_text key_text n.stored.let_fn n.stored.lambda_fn kind
    names_written (one.Reference sheet place) h stays = sheet_written sheet stays h.words
    names_written (one.Local sheet word) h stays = (named_written sheet stays.0 h.words.0, local_written word stays.1 h.words.1)
    names_written (one.Word word) h stays = word_written word stays h.words
    names_written (one.Call word arguments) h stays = call_written word stays.stays h.words
    names_written kind h stays = tt

    -- what is written so of a kept tree can be kept
    pub spelled_can_be_kept : AreNotations n → (t : Bound) → IsKeptWhere n Inside scene scope t → CanBeKeptWhere n Inside (spelled_with sheet_text key_text t)
    spelled_can_be_kept notations t is_kept = record {
      well =
          spelled_well sheet_text key_text n.stored.let_fn n.stored.lambda_fn t is_kept.well
          (every_both (IsKindWell bound_names n.stored.let_fn n.stored.lambda_fn) IsPairWell (Stays (english_function n) scene scope) (λ pair. Unit {0}) (IsWritten sheet_text key_text n.stored.let_fn n.stored.lambda_fn) IsPairWell
          (λ kind h stays. record { well = h; names = names_written kind h stays }) (λ pair h stays. h) t is_kept.well.nodes
          (settled_stays (english_function n) scene scope (english_by_fold n notations) t is_kept.settled));
      parts =
          every_spelled sheet_text key_text (LiesWhere n Inside) (λ pair. Unit {0}) (OfNode Inside (HasFunction n)) (λ pair. Unit {0})
          (record { node = lies_spelled; pair = λ variable value p. tt }) t is_kept.parts;
    }

-- what is found has what all of a list have
pub found_has : {X : Type 0} (P : X → Type 0) (p : X → Bool) (xs : List X) → AllByRecursion P xs → (x : X) → find p xs ≡ Some x → P x
found_has P p [] all x e = cc
found_has {X} P p (y ∷ ys) all x e =
    elim (cases_Bool (p y)) [
      | inl here ↦ let same : Some y ≡ Some x = sym (find_here p y ys here) ∙ e in let is : y ≡ x = cc in subst P is all.0
      | inr later ↦ found_has P p ys all.1 x (sym (find_later p y ys later) ∙ e)
    ]

-- the name of a sheet, and of a definition
abbrev sheet_named : Option SheetName → Option (List ℕ)
sheet_named o = option_map (λ (s : SheetName). s.name) o

abbrev definition_named : Option NameSpelling → Option (List ℕ)
definition_named o = option_map (λ (d : NameSpelling). d.name) o

module _ (scene : Scene) (named : IsNamed scene) where
  -- the name of a sheet that has one is the name of a sheet, whatever one without a name is written by
  sheet_name_valid : (id : ℕ) (other : List ℕ) → (IsSome (name_of_sheet scene id)) ⊎ (is_sheet_name other ≡ true) → is_sheet_name (unwrap_or (name_of_sheet scene id) other) ≡ true
  sheet_name_valid id other h = at (find (λ (s : SheetName). nat_eq s.id id) scene.sheets) refl h
    where
      at : (o : Option SheetName) → find (λ (s : SheetName). nat_eq s.id id) scene.sheets ≡ o → (IsSome (sheet_named o)) ⊎ (is_sheet_name other ≡ true) → is_sheet_name (unwrap_or (sheet_named o) other) ≡ true
      at (Some s) e g = found_has (λ (sheet : SheetName). is_sheet_name sheet.name ≡ true) (λ (x : SheetName). nat_eq x.id id) scene.sheets named.sheets s e
      at None e (inl g) = cc
      at None e (inr g) = g

  -- so is that of a definition
  key_name_valid : (key : NameKey) (other : List ℕ) → (IsSome (name_of_key scene key)) ⊎ (is_identifier other ≡ true) → is_identifier (unwrap_or (name_of_key scene key) other) ≡ true
  key_name_valid key other h = at (definition_at scene key.name key.scope) refl h
    where
      at : (o : Option NameSpelling) → definition_at scene key.name key.scope ≡ o → (IsSome (definition_named o)) ⊎ (is_identifier other ≡ true) → is_identifier (unwrap_or (definition_named o) other) ≡ true
      at (Some d) e g = found_has (λ (x : NameSpelling). is_identifier x.name ≡ true) (λ (x : NameSpelling). bytes_eq (fold x.name) key.name && same_scope x.scope key.scope) scene.names named.names d e
      at None e (inl g) = cc
      at None e (inr g) = g

  -- a scene's own spelling writes names
  pub spelling_writes : WritesNames scene (sheet_spelling scene) (definition_spelling scene)
  spelling_writes = record {
    sheet = λ id there. sheet_name_valid id (decimal id) (inl there);
    definition = λ key there. key_name_valid key key.name (inl there);
  }

-- What writes a tree when its book changes writes names, whatever keys change.
pub keeping_writes : (before after : Scene) → IsNamed before → IsNamed after → (change : KeyChange) → WritesNames before (kept_sheet before after) (kept_name before after change)
keeping_writes before after valid valid_after change = record {
  sheet = λ id there. sheet_name_valid after valid_after id (sheet_spelling before id) (inr ((spelling_writes before valid).sheet id there));
  definition = λ key there. key_name_valid after valid_after (change key) (definition_spelling before key) (inr ((spelling_writes before valid).definition key there));
}

-- A kept tree over a change of its book is kept in the book after it, whatever keys change.
pub kept_is_kept : (n : Notations) → AreNotations n → (before after : Scene) → IsNamed before → IsNamed after → (change : KeyChange) (scope : Option ℕ) (Inside : Place → Type 0) (t : Bound) → IsKeptWhere n Inside before scope t
    → IsKeptWhere n Inside after scope (kept (english_function n) before after change scope t)
kept_is_kept n notations before after named named_after change scope Inside t is_kept =
    bound_kept n notations after scope Inside named_after.differ (spelled_with (kept_sheet before after) (kept_name before after change) t)
    (spelled_can_be_kept n before scope Inside (kept_sheet before after) (kept_name before after change) (keeping_writes before after named named_after change) notations t is_kept)

-- What is kept where more is asked of places is kept where less is asked.
pub kept_where_less : (n : Notations) (Inside Other : Place → Type 0) → ((place : Place) → Inside place → Other place) → (scene : Scene) (scope : Option ℕ) (t : Bound) → IsKeptWhere n Inside scene scope t → IsKeptWhere n Other scene scope t
kept_where_less n Inside Other less scene scope t is_kept = record {
  well = is_kept.well;
  settled = is_kept.settled;
  parts = every_both (LiesWhere n Inside) (λ pair. Unit {0}) (LiesWhere n Inside) (λ pair. Unit {0}) (LiesWhere n Other) (λ pair. Unit {0}) lies (λ pair a b. tt) t is_kept.parts is_kept.parts;
}
  where
    lies : (kind : BoundKind) → LiesWhere n Inside kind → LiesWhere n Inside kind → LiesWhere n Other kind
    lies (one.Reference sheet place) h k = less place h
    lies (one.Fun number arguments) h k = h
    lies kind h k = tt
