-- Formulas in two notations by example.
use Rattle.std.proofs.Common.{◌≡◌, ℕ, suc, pos, List, [], ◌∷◌, Some, Ok, option_and_then, codes, refl, arith, ap}
use Rattle.std.specs.Fmt.{digits}
use Rattle.caseless.proofs.Computing.{caseless}
use Rattle.ucd_derived.proofs.Computing.{ucd_derived}
use Rattle.ic_laws.specs.Amount.{fraction_digits}
use Rattle.ic_laws.specs.Binding.{bound}
use Rattle.ic_laws.specs.Character.{equals}
use Rattle.ic_laws.specs.Command.{TextField, commands}
use Rattle.ic_laws.specs.CoreBook.{CoreBook, scene_of}
use Rattle.ic_laws.specs.CoreStep.{core_step}
use Rattle.ic_laws.specs.Dialect.{DialectMeaning}
use Rattle.ic_laws.specs.FormulaReading.{cell_formula, shown_formula}
use Rattle.ic_laws.specs.NextToken.{bare_of, tokens_by}
use Rattle.ic_laws.specs.SheetText.{read_local}
use Rattle.ic_laws.specs.Notations.{english_function}
use Rattle.ic_laws.specs.Parse.{argument, arguments, binary, expression, function_call, listed, node, nothing_after, operand, parsed, postfix, prefix_sign, primary, reader, turns}
use Rattle.ic_laws.specs.ReadAs.{read_as}
use Rattle.ic_laws.specs.Split.{longest_split}
use Rattle.ic_laws.specs.Token.{Token, Close, FunHead, Num, Separator}
use Rattle.ic_laws.specs.Tree.{Bound, Spelled}
use Rattle.ic_laws.specs.declared.tree.Formula.{Formula}
use Rattle.ic_laws.specs.declared.tree.Formula.TheVariants as formulas
use Rattle.ic_laws.specs.declared.tree.Tree.TheOpen as one
use Rattle.ic_laws.proofs.binding.Again.{bound_node, bound-node, spelled-node}
use Rattle.ic_laws.proofs.parsing.Nodes.{height-node, yield-node}
use Rattle.ic_tree.specs.Notations.{notations_of}
use Rattle.ic_tree.specs.Shown.{shown_meaning}
use Rattle.ic_tree.proofs.machine.Session.{answers, done, low, next, reads, shows, step, typed}
use Rattle.ic_tree.proofs.machine.Small.{english_words, small, spanish_words, start}

-- the first cell of the only sheet has a formula, or none has
abbrev with : List ℕ → List ℕ → Formula → CoreBook
with locale language formula = record {
  sheets = record { id = 1; name = codes "Sheet1"; cells = ((pos 1, pos 1), formula) ∷ [] } ∷ [];
  definitions = [];
  locale = locale;
  language = language;
}

abbrev without : List ℕ → List ℕ → CoreBook
without locale language = record {
  sheets = record { id = 1; name = codes "Sheet1"; cells = [] } ∷ [];
  definitions = [];
  locale = locale;
  language = language;
}

-- ---- words

-- the shown form in Spanish with the English separators
abbrev words : DialectMeaning
words = shown_meaning spanish_words english_words 44 46 (pos 1) (pos 1)

-- the function TRUE without arguments
abbrev truth : Spelled
truth = node (one.Fun 2 [])

abbrev truth_kept : Bound
truth_kept = bound_node (one.Fun 2 [])

truth_high : (m b : ℕ) → reader words (suc m) (suc b) 1 (FunHead 2 ∷ Close ∷ []) ≡ Some (truth, [])
unfolding reader expression operand primary prefix_sign turns postfix binary function_call arguments
truth_high m b = let low_here = low truth (suc m) (omega (arith, height-node (one.Fun 2 []))) in simp low_here

truth_read : read_as words (codes "VERDADERO()") ≡ Some truth
unfolding longest_split bare_of read_local tokens_by caseless ucd_derived parsed
truth_read = reads words (codes "VERDADERO()") (FunHead 2 ∷ Close ∷ []) truth refl (ap (option_and_then (λ r. nothing_after r.0 r.1)) (truth_high 1023 127))

truth_found : bound (english_function small) (scene_of (without (codes "en") (codes "es"))) (Some 1) truth ≡ truth_kept
unfolding caseless notations_of
truth_found = simp bound-node

spanish : step start (codes "set_language\tes") ≡ (without (codes "en") (codes "es"), Ok [])
unfolding step caseless commands core_step notations_of
spanish = refl

truth_formula : cell_formula small (without (codes "en") (codes "es")) 1 (pos 1) (pos 1) (codes "VERDADERO()") ≡ formulas.Tree truth_kept
unfolding notations_of
truth_formula = typed (without (codes "en") (codes "es")) 1 (pos 1) (pos 1) (codes "VERDADERO()") truth truth_kept truth_read truth_found

truth_written : step (without (codes "en") (codes "es")) (codes "update_cell_with_formula\t0\t1\t1\t=VERDADERO()") ≡ (with (codes "en") (codes "es") (formulas.Tree truth_kept), Ok [])
unfolding step caseless commands core_step
truth_written = ap (λ f. (with (codes "en") (codes "es") f, Ok [])) truth_formula

truth_shown : shown_formula small (with (codes "en") (codes "es") (formulas.Tree truth_kept)) (pos 1) (pos 1) (formulas.Tree truth_kept) ≡ codes "VERDADERO()"
unfolding notations_of
truth_shown = shows (with (codes "en") (codes "es") (formulas.Tree truth_kept)) (pos 1) (pos 1) truth_kept truth (FunHead 2 ∷ Close ∷ []) (codes "VERDADERO()") (simp spelled-node) (simp yield-node) refl

truth_told : step (with (codes "en") (codes "es") (formulas.Tree truth_kept)) (codes "get_cell_formula\t0\t1\t1") ≡ (with (codes "en") (codes "es") (formulas.Tree truth_kept), Ok (TextField (codes "=VERDADERO()") ∷ []))
unfolding step caseless commands core_step
truth_told = ap (λ text. (with (codes "en") (codes "es") (formulas.Tree truth_kept), Ok (TextField (equals ∷ text) ∷ []))) truth_shown

english : step (with (codes "en") (codes "es") (formulas.Tree truth_kept)) (codes "set_language\ten") ≡ (with (codes "en") (codes "en") (formulas.Tree truth_kept), Ok [])
unfolding step caseless commands core_step notations_of
english = refl

truth_in_english : shown_formula small (with (codes "en") (codes "en") (formulas.Tree truth_kept)) (pos 1) (pos 1) (formulas.Tree truth_kept) ≡ codes "TRUE()"
unfolding notations_of
truth_in_english = shows (with (codes "en") (codes "en") (formulas.Tree truth_kept)) (pos 1) (pos 1) truth_kept truth (FunHead 2 ∷ Close ∷ []) (codes "TRUE()") (simp spelled-node) (simp yield-node) refl

told_in_english : step (with (codes "en") (codes "en") (formulas.Tree truth_kept)) (codes "get_cell_formula\t0\t1\t1") ≡ (with (codes "en") (codes "en") (formulas.Tree truth_kept), Ok (TextField (codes "=TRUE()") ∷ []))
unfolding step caseless commands core_step
told_in_english = ap (λ text. (with (codes "en") (codes "en") (formulas.Tree truth_kept), Ok (TextField (equals ∷ text) ∷ []))) truth_in_english

-- a function is read and shown by the words of the language in force
languages : answers start
    (codes "set_language\tes" ∷ codes "update_cell_with_formula\t0\t1\t1\t=VERDADERO()" ∷ codes "get_cell_formula\t0\t1\t1" ∷ codes "set_language\ten" ∷ codes "get_cell_formula\t0\t1\t1" ∷ [])
    ≡ codes "ok" ∷ codes "ok" ∷ codes "ok\t=VERDADERO()" ∷ codes "ok" ∷ codes "ok\t=TRUE()" ∷ []
languages = next _ _ _ _ _ _ spanish (next _ _ _ _ _ _ truth_written (next _ _ _ _ _ _ truth_told (next _ _ _ _ _ _ english (next _ _ _ _ _ _ told_in_english (done _)))))

-- ---- separators

-- the shown form in English with the Spanish separators
abbrev separators : DialectMeaning
separators = shown_meaning english_words english_words 59 44 (pos 1) (pos 1)

abbrev sum : Spelled
sum = node (one.Fun 4 (node (one.Num (pos 1500000000)) ∷ node (one.Num (pos 2500000000)) ∷ []))

abbrev sum_kept : Bound
sum_kept = bound_node (one.Fun 4 (bound_node (one.Num (pos 1500000000)) ∷ bound_node (one.Num (pos 2500000000)) ∷ []))

abbrev sum_tokens : List Token
sum_tokens = FunHead 4 ∷ Num (pos 1500000000) ∷ Separator ∷ Num (pos 2500000000) ∷ Close ∷ []

sum_high : (m b : ℕ) → reader separators (suc (suc m)) (suc b) 1 sum_tokens ≡ Some (sum, [])
unfolding reader expression operand primary prefix_sign turns postfix binary function_call arguments argument listed
sum_high m b =
    let first : Spelled = node (one.Num (pos 1500000000)) in
    let second : Spelled = node (one.Num (pos 2500000000)) in
    let low_first = low first (suc m) (omega (arith, height-node (one.Num (pos 1500000000)))) in
    let low_second = low second (suc m) (omega (arith, height-node (one.Num (pos 2500000000)))) in
    let low_here = low sum (suc (suc m)) (omega (arith, height-node (one.Fun 4 (first ∷ second ∷ [])), height-node (one.Num (pos 1500000000)), height-node (one.Num (pos 2500000000)))) in
    simp (low_first, low_second, low_here)

sum_read : read_as separators (codes "SUM(1,5; 2,5)") ≡ Some sum
unfolding longest_split bare_of read_local tokens_by caseless ucd_derived parsed
sum_read = reads separators (codes "SUM(1,5; 2,5)") sum_tokens sum refl (ap (option_and_then (λ r. nothing_after r.0 r.1)) (sum_high 1022 127))

sum_found : bound (english_function small) (scene_of (without (codes "es") (codes "en"))) (Some 1) sum ≡ sum_kept
unfolding caseless notations_of
sum_found = simp bound-node

spanish_separators : step start (codes "set_locale\tes") ≡ (without (codes "es") (codes "en"), Ok [])
unfolding step caseless commands core_step notations_of
spanish_separators = refl

sum_formula : cell_formula small (without (codes "es") (codes "en")) 1 (pos 1) (pos 1) (codes "SUM(1,5; 2,5)") ≡ formulas.Tree sum_kept
unfolding notations_of
sum_formula = typed (without (codes "es") (codes "en")) 1 (pos 1) (pos 1) (codes "SUM(1,5; 2,5)") sum sum_kept sum_read sum_found

sum_written : step (without (codes "es") (codes "en")) (codes "update_cell_with_formula\t0\t1\t1\t=SUM(1,5; 2,5)") ≡ (with (codes "es") (codes "en") (formulas.Tree sum_kept), Ok [])
unfolding step caseless commands core_step
sum_written = ap (λ f. (with (codes "es") (codes "en") f, Ok [])) sum_formula

sum_shown : shown_formula small (with (codes "es") (codes "en") (formulas.Tree sum_kept)) (pos 1) (pos 1) (formulas.Tree sum_kept) ≡ codes "SUM(1,5;2,5)"
unfolding notations_of digits fraction_digits
sum_shown = shows (with (codes "es") (codes "en") (formulas.Tree sum_kept)) (pos 1) (pos 1) sum_kept sum sum_tokens (codes "SUM(1,5;2,5)") (simp spelled-node) (simp yield-node) refl

sum_told : step (with (codes "es") (codes "en") (formulas.Tree sum_kept)) (codes "get_cell_formula\t0\t1\t1") ≡ (with (codes "es") (codes "en") (formulas.Tree sum_kept), Ok (TextField (codes "=SUM(1,5;2,5)") ∷ []))
unfolding step caseless commands core_step
sum_told = ap (λ text. (with (codes "es") (codes "en") (formulas.Tree sum_kept), Ok (TextField (equals ∷ text) ∷ []))) sum_shown

english_separators : step (with (codes "es") (codes "en") (formulas.Tree sum_kept)) (codes "set_locale\ten") ≡ (with (codes "en") (codes "en") (formulas.Tree sum_kept), Ok [])
unfolding step caseless commands core_step notations_of
english_separators = refl

sum_in_english : shown_formula small (with (codes "en") (codes "en") (formulas.Tree sum_kept)) (pos 1) (pos 1) (formulas.Tree sum_kept) ≡ codes "SUM(1.5,2.5)"
unfolding notations_of digits fraction_digits
sum_in_english = shows (with (codes "en") (codes "en") (formulas.Tree sum_kept)) (pos 1) (pos 1) sum_kept sum sum_tokens (codes "SUM(1.5,2.5)") (simp spelled-node) (simp yield-node) refl

sum_told_in_english : step (with (codes "en") (codes "en") (formulas.Tree sum_kept)) (codes "get_cell_formula\t0\t1\t1") ≡ (with (codes "en") (codes "en") (formulas.Tree sum_kept), Ok (TextField (codes "=SUM(1.5,2.5)") ∷ []))
unfolding step caseless commands core_step
sum_told_in_english = ap (λ text. (with (codes "en") (codes "en") (formulas.Tree sum_kept), Ok (TextField (equals ∷ text) ∷ []))) sum_in_english

-- numbers and arguments are read and shown by the separators of the locale in force
locales : answers start
    (codes "set_locale\tes" ∷ codes "update_cell_with_formula\t0\t1\t1\t=SUM(1,5; 2,5)" ∷ codes "get_cell_formula\t0\t1\t1" ∷ codes "set_locale\ten" ∷ codes "get_cell_formula\t0\t1\t1" ∷ [])
    ≡ codes "ok" ∷ codes "ok" ∷ codes "ok\t=SUM(1,5;2,5)" ∷ codes "ok" ∷ codes "ok\t=SUM(1.5,2.5)" ∷ []
locales = next _ _ _ _ _ _ spanish_separators (next _ _ _ _ _ _ sum_written (next _ _ _ _ _ _ sum_told (next _ _ _ _ _ _ english_separators (next _ _ _ _ _ _ sum_told_in_english (done _)))))

-- ids are compared as they stand
unknown : answers start (codes "set_locale\tEN" ∷ codes "set_language\txx" ∷ []) ≡ codes "error\tInvalidLocale" ∷ codes "error\tInvalidLanguage" ∷ []
unfolding answers step caseless commands core_step notations_of
unknown = refl
