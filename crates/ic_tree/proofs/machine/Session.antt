-- Sessions with the whole table of commands over small tables: what lines answer, one step after another.
use Rattle.std.proofs.Common.{◌≡◌, ℕ, ℤ, pos, List, [], ◌∷◌, ◌++◌, Option, Some, None, is_none, not, option_and_then, option_map, codes, nat_le, ◌≤◌, true, false, ◌==◌, refl, arith, ap, ◌∙◌}
use Rattle.std.proofs.lemmas.Bool.Decides.{nat_tests}
use Rattle.std.specs.Option.{option_or}
use Rattle.ic_laws.specs.Binding.{bound, spelled}
use Rattle.ic_laws.specs.Character.{equals}
use Rattle.ic_laws.specs.Command.{commands}
use Rattle.ic_laws.specs.CoreBook.{CoreBook, scene_of}
use Rattle.ic_laws.specs.CoreStep.{Outcome, has_definition, scope_of, scope_or_none, unless_refused, with_new_definition}
use Rattle.ic_laws.specs.FormulaReading.{Body, body_of, cell_formula, if_lambda, reference_tree, shown_at, shown_formula, tree_or_raw, without_equals}
use Rattle.ic_laws.specs.Following.{spelled_out}
use Rattle.ic_laws.specs.Lines.{Reply, command_step, reply_text, spelled_command, words_of}
use Rattle.ic_laws.specs.Name.{is_identifier}
use Rattle.ic_laws.specs.NextToken.{tokens_of}
use Rattle.ic_laws.specs.Notations.{english_function}
use Rattle.ic_laws.specs.Parse.{parsed}
use Rattle.ic_laws.specs.ReadAs.{read_as}
use Rattle.ic_laws.specs.Dialect.{DialectMeaning}
use Rattle.ic_laws.specs.Refusal.{InvalidName, InvalidNameFormula, InvalidScope, NameExists, first_refusal}
use Rattle.ic_laws.specs.Scan.{first_is}
use Rattle.ic_laws.specs.Token.{Token}
use Rattle.ic_laws.specs.Tree.{Bound, Spelled, height}
use Rattle.ic_laws.specs.Yield.{yield}
use Rattle.ic_laws.specs.declared.tree.Formula.TheVariants as formulas
use Rattle.ic_tree.proofs.machine.Small.{small}

-- what a line leaves, and its reply
unfoldable pub step : CoreBook → List ℕ → CoreBook × Reply
step book line = command_step small book (spelled_command commands (words_of line))

-- the replies to lines
unfoldable pub answers : CoreBook → List (List ℕ) → List (List ℕ)
answers book [] = []
answers book (line ∷ lines) = reply_text (step book line).1 ∷ answers (step book line).0 lines

-- one line, and then the others
pub next : (book after : CoreBook) (reply : Reply) (line : List ℕ) (lines texts : List (List ℕ)) → step book line ≡ (after, reply) → answers after lines ≡ texts → answers book (line ∷ lines) ≡ reply_text reply ∷ texts
unfolding answers
next book after reply line lines texts h e = ap (λ s. reply_text s.1 ∷ answers s.0 lines) h ∙ ap (λ t. reply_text reply ∷ t) e

pub done : (book : CoreBook) → answers book [] ≡ []
unfolding answers
done book = refl

-- ---- a text in a cell

-- a height that a number bounds
pub low : (t : Spelled) (most : ℕ) → height t ≤ most → nat_le (height t) most ≡ true
low t most h = grind (arith, nat_tests)

-- a text reads as a tree by its tokens
pub reads : (d : DialectMeaning) (text : List ℕ) (ts : List Token) (t : Spelled) → tokens_of d text ≡ Some ts → parsed d ts ≡ Some t → read_as d text ≡ Some t
reads d text ts t h e = ap (option_and_then (parsed d)) h ∙ e

-- and as none, where its tokens are those of none
pub reads_none : (d : DialectMeaning) (text : List ℕ) (ts : List Token) → tokens_of d text ≡ Some ts → parsed d ts ≡ None → read_as d text ≡ None
reads_none d text ts h e = ap (option_and_then (parsed d)) h ∙ e

module _ (book : CoreBook) (id : ℕ) (row column : ℤ) (text : List ℕ) where
  abbrev d : DialectMeaning
  d = shown_at small book row column

  -- the formula of a text that reads
  pub typed : (t : Spelled) (b : Bound) → read_as d text ≡ Some t → bound (english_function small) (scene_of book) (Some id) t ≡ b → cell_formula small book id row column text ≡ formulas.Tree b
  typed t b h e =
      ap (λ o. tree_or_raw (λ t. formulas.Tree (bound (english_function small) (scene_of book) (Some id) t)) text (option_or o (read_as d (text ++ codes ")")))) h
      ∙ ap (λ b. formulas.Tree b) e

  -- of one that reads with a bracket more
  pub closed : (t : Spelled) (b : Bound) → read_as d text ≡ None → read_as d (text ++ codes ")") ≡ Some t → bound (english_function small) (scene_of book) (Some id) t ≡ b → cell_formula small book id row column text ≡ formulas.Tree b
  closed t b h more e =
      ap (λ o. tree_or_raw (λ t. formulas.Tree (bound (english_function small) (scene_of book) (Some id) t)) text (option_or o (read_as d (text ++ codes ")")))) h
      ∙ ap (λ o. tree_or_raw (λ t. formulas.Tree (bound (english_function small) (scene_of book) (Some id) t)) text o) more
      ∙ ap (λ b. formulas.Tree b) e

  -- and of one that doesn't read either way
  pub kept_raw : read_as d text ≡ None → read_as d (text ++ codes ")") ≡ None → cell_formula small book id row column text ≡ formulas.Raw text
  kept_raw h more =
      ap (λ o. tree_or_raw (λ t. formulas.Tree (bound (english_function small) (scene_of book) (Some id) t)) text (option_or o (read_as d (text ++ codes ")")))) h
      ∙ ap (λ o. tree_or_raw (λ t. formulas.Tree (bound (english_function small) (scene_of book) (Some id) t)) text o) more

-- a tree as it is shown
pub shows : (book : CoreBook) (row column : ℤ) (b : Bound) (t : Spelled) (ts : List Token) (text : List ℕ) → spelled (scene_of book) b ≡ t → yield (shown_at small book row column) t ≡ ts
    → spelled_out (shown_at small book row column) ts ≡ text → shown_formula small book row column (formulas.Tree b) ≡ text
shows book row column b t ts text h e s =
    ap (λ x. spelled_out (shown_at small book row column) (yield (shown_at small book row column) x)) h ∙ ap (spelled_out (shown_at small book row column)) e ∙ s

-- ---- a definition by what its body reads as

abbrev pub by_body : CoreBook → List ℕ → Option ℕ → Option Body → Outcome
by_body book name index body =
    unless_refused
    (first_refusal
    ((not (is_identifier name), InvalidName) ∷ (is_none (scope_of book index), InvalidScope)
    ∷ (has_definition book name (scope_or_none book index), NameExists) ∷ (is_none body, InvalidNameFormula) ∷ []))
    (with_new_definition small book name (scope_or_none book index) body) []

-- a body that is no reference, by what it reads as after its equals sign
pub lambda_or_none : (book : CoreBook) (text : List ℕ) (t : Spelled) (o : Option Spelled) → reference_tree (shown_at small book (pos 1) (pos 1)) (scene_of book) text ≡ None
    → read_as (shown_at small book (pos 1) (pos 1)) (without_equals text) ≡ Some t → if_lambda t ≡ o → body_of small book text ≡ option_map (λ t. record { has_equals = first_is (λ c. c == equals) text; tree = t }) o
lambda_or_none book text t o none e h =
    let body : Spelled → Body = λ t. record { has_equals = first_is (λ c. c == equals) text; tree = t } in
    let english_reads = read_as (small.shown (codes "en") (codes "en") (pos 1) (pos 1)) (without_equals text) in
    ap (λ r. option_or (option_map (λ t. record { has_equals = false; tree = t }) r) (option_map body (option_and_then if_lambda (option_or (read_as (shown_at small book (pos 1) (pos 1)) (without_equals text)) english_reads)))) none
    ∙ ap (λ r. option_map body (option_and_then if_lambda (option_or r english_reads))) e ∙ ap (option_map body) h

-- and one that doesn't read in the notation in force, by what it reads as in English
pub english_lambda : (book : CoreBook) (text : List ℕ) (t : Spelled) → reference_tree (shown_at small book (pos 1) (pos 1)) (scene_of book) text ≡ None
    → read_as (shown_at small book (pos 1) (pos 1)) (without_equals text) ≡ None → read_as (small.shown (codes "en") (codes "en") (pos 1) (pos 1)) (without_equals text) ≡ Some t → if_lambda t ≡ Some t
    → body_of small book text ≡ Some (record { has_equals = first_is (λ c. c == equals) text; tree = t })
english_lambda book text t none unread e h =
    let body : Spelled → Body = λ t. record { has_equals = first_is (λ c. c == equals) text; tree = t } in
    let english_reads = read_as (small.shown (codes "en") (codes "en") (pos 1) (pos 1)) (without_equals text) in
    ap (λ r. option_or (option_map (λ t. record { has_equals = false; tree = t }) r) (option_map body (option_and_then if_lambda (option_or (read_as (shown_at small book (pos 1) (pos 1)) (without_equals text)) english_reads)))) none
    ∙ ap (λ r. option_map body (option_and_then if_lambda (option_or r english_reads))) unread
    ∙ ap (λ r. option_map body (option_and_then if_lambda r)) e ∙ ap (option_map body) h
