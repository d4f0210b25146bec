-- Formulas of the small tables by example: what a text reads as by its tokens, and how a formula is shown.
use mathlib.Core.Path.{fun_ext}
use Rattle.std.proofs.Common.{◌≡◌, ℕ, ℤ, suc, pos, List, [], ◌∷◌, ◌++◌, Bool, true, false, Option, Some, None, ◌&&◌, ◌==◌, option_and_then, option_map, codes, ap, arith, ◌∙◌}
use Rattle.std.specs.Option.{option_or}
use Rattle.std.specs.Prelude.{is_none, not}
use Rattle.ic_laws.specs.Binding.{BoundPair, bound, spelled}
use Rattle.ic_laws.specs.Character.{equals}
use Rattle.ic_laws.specs.CoreStep as core
use Rattle.ic_laws.specs.CoreStep.{has_definition, scope_of, scope_or_none}
use Rattle.ic_laws.specs.Dialect.{DialectMeaning}
use Rattle.ic_laws.specs.Following.{spelled_out}
use Rattle.ic_laws.specs.FormulaReading.{Body, body_of, cell_formula, if_lambda, reference_tree, shown_at, shown_formula, tree_or_raw, without_equals}
use Rattle.ic_laws.specs.Name.{is_identifier}
use Rattle.ic_laws.specs.NextToken.{tokens_of}
use Rattle.ic_laws.specs.Notations.{Notations, english_function}
use Rattle.ic_laws.specs.Parse.{Read, binary, expression, node, nothing_after, operand, parsed, postfix, prefix_sign, primary, reader, turns}
use Rattle.ic_laws.specs.Position.{is_place_within}
use Rattle.ic_laws.specs.ReadAs.{read_as}
use Rattle.ic_laws.specs.Refusal as refusals
use Rattle.ic_laws.specs.Scan.{first_is}
use Rattle.ic_laws.specs.Token.{Token, Ref}
use Rattle.ic_laws.specs.Tree.{Bound, Spelled, is_written_sheet}
use Rattle.ic_laws.specs.Yield.{yield}
use Rattle.ic_laws.specs.declared.reference.RefToken.{RefToken}
use Rattle.ic_laws.specs.declared.tree.Formula.TheVariants as formulas
use Rattle.ic_laws.specs.declared.tree.LetPair.{fold-roll-LetPair}
use Rattle.ic_laws.specs.declared.tree.NameMention.{NameMention}
use Rattle.ic_laws.specs.declared.tree.SheetMention.{SheetMention}
use Rattle.ic_laws.specs.declared.tree.Tree.{fold-roll-Tree, map-Tree}
use Rattle.ic_laws.specs.declared.tree.Tree.TheOpen as one
use Rattle.ic_laws.proofs.binding.Again.{BoundKind, bound_node}
use Rattle.ic_laws.proofs.parsing.Nodes.{height-node}
use Rattle.ic_tables.specs.declared.language.FunctionKind.{FunctionKind}
use Rattle.ic_tree.specs.Dynamic.{dynamic_step, dynamic_with}
use Rattle.ic_tree.specs.Notations.{notations_of}
use Rattle.ic_tree.specs.Shown.{shown_meaning}
use Rattle.ic_machine.specs.Book.{Book, Stepped, as_core, core_of, scene_in}
use Rattle.ic_machine.specs.subjects.Definitions.{with_new_definition}
use Rattle.ic_machine.proofs.examples.Small.{english_words, tables}
use Rattle.ic_tree.proofs.machine.Session.{low}

abbrev pub small : Notations
small = notations_of tables

-- the shown form in English
abbrev pub in_english : ℤ → ℤ → DialectMeaning
in_english row column = shown_meaning english_words english_words 44 46 row column

-- a tree where all of the tokens are read
abbrev pub whole : Read Spelled → Option Spelled
whole read = option_and_then (λ r. nothing_after r.0 r.1) read

-- what a text reads as, by its tokens and by what is read at their front
pub reads : (d : DialectMeaning) (text : List ℕ) (ts : List Token) (read : Read Spelled) → tokens_of d text ≡ Some ts → reader d 1024 128 1 ts ≡ read → read_as d text ≡ whole read
unfolding parsed
reads d text ts read h e = ap (option_and_then (parsed d)) h ∙ ap whole e

-- a reference alone
abbrev pub reference : RefToken → Spelled
reference r = node (one.Reference r.sheet r.place)

reference_high : (d : DialectMeaning) (r : RefToken) (m b : ℕ) → (is_written_sheet r.sheet && is_place_within r.place) ≡ true → reader d (suc m) b 1 (Ref r ∷ []) ≡ Some (reference r, [])
unfolding reader expression operand primary prefix_sign turns postfix binary
reference_high d r m b h = let low_here = low (reference r) (suc m) (omega (arith, height-node (one.Reference r.sheet r.place))) in simp (h, low_here)

pub reads_reference : (d : DialectMeaning) (text : List ℕ) (r : RefToken) → (is_written_sheet r.sheet && is_place_within r.place) ≡ true → tokens_of d text ≡ Some (Ref r ∷ []) → read_as d text ≡ Some (reference r)
reads_reference d text r h falls = reads d text (Ref r ∷ []) (Some (reference r, [])) falls (reference_high d r 1023 128 h)

-- a formula as it is shown, by its tree with all names written and the tokens of that
pub shows : (book : Book) (row column : ℤ) (b : Bound) (t : Spelled) (ts : List Token) (text : List ℕ) → spelled (scene_in book) b ≡ t → yield (shown_at small (core_of book) row column) t ≡ ts
    → spelled_out (shown_at small (core_of book) row column) ts ≡ text → shown_formula small (core_of book) row column (formulas.Tree b) ≡ text
shows book row column b t ts text h e s =
    ap (λ x. spelled_out (shown_at small (core_of book) row column) (yield (shown_at small (core_of book) row column) x)) h
    ∙ ap (spelled_out (shown_at small (core_of book) row column)) e ∙ s

-- a body that is no reference, by what it reads as after its equals sign
pub lambda_or_none : (book : Book) (text : List ℕ) (t : Spelled) (o : Option Spelled) → reference_tree (shown_at small (core_of book) (pos 1) (pos 1)) (scene_in book) text ≡ None
    → read_as (shown_at small (core_of book) (pos 1) (pos 1)) (without_equals text) ≡ Some t → if_lambda t ≡ o
    → body_of small (core_of book) text ≡ option_map (λ t. record { has_equals = first_is (λ c. c == equals) text; tree = t }) o
lambda_or_none book text t o none e h =
    let body : Spelled → Body = λ t. record { has_equals = first_is (λ c. c == equals) text; tree = t } in
    let english_reads = read_as (small.shown (codes "en") (codes "en") (pos 1) (pos 1)) (without_equals text) in
    ap (λ r. option_or (option_map (λ t. record { has_equals = false; tree = t }) r) (option_map body (option_and_then if_lambda (option_or (read_as (shown_at small (core_of book) (pos 1) (pos 1)) (without_equals text)) english_reads)))) none
    ∙ ap (λ r. option_map body (option_and_then if_lambda (option_or r english_reads))) e ∙ ap (option_map body) h

-- the formula of a text that reads, in a cell of the sheet with this id
pub formula_is : (book : Book) (id : ℕ) (row column : ℤ) (text : List ℕ) (t : Spelled) (b : Bound) → read_as (shown_at small (core_of book) row column) text ≡ Some t → bound (english_function small) (scene_in book) (Some id) t ≡ b
    → cell_formula small (core_of book) id row column text ≡ formulas.Tree b
formula_is book id row column text t b h e =
    ap (λ o. tree_or_raw (λ t. formulas.Tree (bound (english_function small) (scene_in book) (Some id) t)) text (option_or o (read_as (shown_at small (core_of book) row column) (text ++ codes ")")))) h
    ∙ ap (λ b. formulas.Tree b) e

-- whether a node may spill, by what stands below it
module _ (kinds : List FunctionKind) where
  abbrev pair_dynamic : BoundPair → Bool
  pair_dynamic pair = dynamic_with kinds pair.value

  pub dynamic-node : (kind : BoundKind) → dynamic_with kinds (bound_node kind) ≡ dynamic_step kinds (map-Tree SheetMention NameMention Bound BoundPair Bool Bool (dynamic_with kinds) pair_dynamic kind)
  dynamic-node kind =
      fold-roll-Tree SheetMention NameMention Bool Bool (dynamic_step kinds) (λ pair. pair.value) kind
      ∙ ap (λ (g : BoundPair → Bool). dynamic_step kinds (map-Tree SheetMention NameMention Bound BoundPair Bool Bool (dynamic_with kinds) g kind))
      (fun_ext (λ pair. fold-roll-LetPair SheetMention NameMention Bool Bool (dynamic_step kinds) (λ pair. pair.value) (record { variable = pair.variable; value = pair.value })))

-- a new definition, by what its body is
abbrev pub made_by : Book → List ℕ → Option ℕ → Option Body → Stepped Book
made_by book name index o =
    as_core
    (core.unless_refused
    (refusals.first_refusal
    ((not (is_identifier name), refusals.InvalidName) ∷ (is_none (scope_of (core_of book) index), refusals.InvalidScope)
    ∷ (has_definition (core_of book) name (scope_or_none (core_of book) index), refusals.NameExists) ∷ (is_none o, refusals.InvalidNameFormula) ∷ []))
    (core.with_new_definition small (core_of book) name (scope_or_none (core_of book) index) o) [])
    (with_new_definition book name (scope_or_none (core_of book) index) o)

-- the body of an update whose text has no equals sign before it and no blanks around it, by what that reads as in English
abbrev pub body_by : Option Spelled → Option Body
body_by read = option_map (λ (t : Spelled). let b : Body = record { has_equals = false; tree = t } in b) (option_or read read)
