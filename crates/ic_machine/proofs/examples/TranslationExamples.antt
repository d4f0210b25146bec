-- Translated lines by example: a new sheet gets the name that it had, lines that change nothing go, a text is quoted that
-- would be something else, and a formula is written with the words and signs of the notation.
use Rattle.std.proofs.Common.{◌≡◌, ℕ, pos, List, [], ◌∷◌, true, None, Some, codes, refl, ap}
use Rattle.std.specs.Fmt.{digits}
use Rattle.caseless.proofs.Computing.{caseless}
use Rattle.ic_laws.specs.Amount.{fraction_digits}
use Rattle.ic_laws.specs.Character.{equals}
use Rattle.ic_laws.specs.CoreStep.{core_step}
use Rattle.ic_laws.specs.Parse.{node}
use Rattle.ic_laws.specs.Token.{Token, Boolean, Close, FunHead, Num, Separator}
use Rattle.ic_laws.specs.Tree.{Bound, Spelled}
use Rattle.ic_laws.specs.declared.tree.Error.TheVariants as errors
use Rattle.ic_laws.specs.declared.tree.Formula.TheVariants as formulas
use Rattle.ic_laws.specs.declared.tree.NameMention.{NameMention}
use Rattle.ic_laws.specs.declared.tree.NameMention.TheVariants as names
use Rattle.ic_laws.specs.declared.tree.SheetMention.{SheetMention}
use Rattle.ic_laws.specs.declared.tree.Tree.{fold-roll-Tree, roll-Tree}
use Rattle.ic_laws.specs.declared.tree.Tree.TheOpen as one
use Rattle.ic_input.specs.Number.{from_digits, unsigned_number}
use Rattle.ic_input.specs.Typed as typing
use Rattle.ic_input.specs.declared.input.Typed.TheVariants as kinds
use Rattle.ic_laws.proofs.binding.Again.{bound_node, spelled-node}
use Rattle.ic_laws.proofs.parsing.Nodes.{yield-node}
use Rattle.ic_tree.specs.LanguageWords.{boolean_of}
use Rattle.ic_tree.specs.Notations.{notations_of}
use Rattle.ic_machine.specs.Command.{commands}
use Rattle.ic_machine.specs.InForce.{shown_words, typed_in}
use Rattle.ic_machine.specs.Retyped.{clashes_in}
use Rattle.ic_machine.specs.Translation.{AreTranslated, Clash, Raw, cell_text, first_hindered, in_notation, line_of, texts_of, why_not, with_last}
use Rattle.ic_machine.specs.TranslationLaws.{ErrorsEndPlain}
use Rattle.ic_machine.specs.subjects.Notation.{get_language_step, set_language_step}
use Rattle.ic_machine.specs.subjects.Sheets.{add_sheet_step, new_sheet_step}
use Rattle.ic_machine.proofs.examples.Formulas.{shows}
use Rattle.ic_machine.proofs.examples.Small.{start}

-- the words of a line and its texts
texts : texts_of (codes "add_sheet\ta\\tb") ≡ codes "add_sheet" ∷ codes "a\tb" ∷ []
texts = refl

line : line_of (codes "add_sheet" ∷ codes "a\tb" ∷ []) ≡ codes "add_sheet\ta\\tb"
line = refl

last : with_last (codes "x") (codes "a" ∷ codes "b" ∷ codes "c" ∷ []) ≡ codes "a" ∷ codes "b" ∷ codes "x" ∷ []
last = refl

-- the second sheet is named in the language of its line
sheets : AreTranslated (codes "es") (codes "es") start (codes "add_sheet\tA" ∷ codes "new_sheet" ∷ []) (codes "add_sheet\tA" ∷ codes "add_sheet\tSheet2" ∷ [])
unfolding commands caseless core_step add_sheet_step new_sheet_step digits
sheets = ((codes "add_sheet" ∷ codes "A" ∷ [], (refl, refl)), ((codes "add_sheet" ∷ codes "Sheet2" ∷ [], (refl, refl)), refl))

-- a switch of the language goes, and so do a reader, a refused line and what is no command
gone : AreTranslated (codes "en") (codes "en") start (codes "set_language\tes" ∷ codes "get_language" ∷ codes "add_sheet\tSHEET1" ∷ codes "" ∷ codes "new_sheet" ∷ []) (codes "add_sheet\tHoja1" ∷ [])
unfolding commands caseless core_step add_sheet_step new_sheet_step get_language_step notations_of set_language_step digits
gone = ((codes "add_sheet" ∷ codes "Hoja1" ∷ [], (refl, refl)), refl)

none_hindered : first_hindered (codes "es") (codes "es") 1 start (codes "add_sheet\tA" ∷ codes "new_sheet" ∷ []) ≡ None
unfolding commands caseless core_step add_sheet_step new_sheet_step digits
none_hindered = refl

-- what is typed in Spanish
quoted : shown_words (in_notation (codes "es") (codes "es") start) (codes "VERDADERO") ≡ codes "'VERDADERO"
unfolding typing.typed typing.as_word unsigned_number from_digits caseless
quoted = refl

number : typed_in (in_notation (codes "es") (codes "es") start) (codes "1,5") ≡ kinds.Number (pos 1500000000) None
unfolding typing.typed unsigned_number from_digits
number = refl

-- a name that is a Spanish word for true, and a text that doesn't read
abbrev truth : Bound
truth = roll-Tree SheetMention NameMention (one.Word (names.Dangling (codes "VERDADERO")))

clashing : clashes_in (in_notation (codes "es") (codes "es") start) truth ≡ true
unfolding caseless boolean_of
clashing = simp (fold-roll-Tree) refl

hindered : why_not (in_notation (codes "es") (codes "es") start) (formulas.Tree truth) ≡ Some Clash
hindered = rw clashing refl

unread : why_not start (formulas.Raw (codes "1+")) ≡ Some Raw
unread = refl

-- a call of SUM in the first cell
abbrev arguments : List Bound
arguments = bound_node (one.Num (pos 1500000000)) ∷ bound_node (one.Bool true) ∷ []

abbrev call : Bound
call = bound_node (one.Fun 4 arguments)

abbrev spelled_call : Spelled
spelled_call = node (one.Fun 4 (node (one.Num (pos 1500000000)) ∷ node (one.Bool true) ∷ []))

abbrev call_tokens : List Token
call_tokens = FunHead 4 ∷ Num (pos 1500000000) ∷ Separator ∷ Boolean true ∷ Close ∷ []

called : cell_text (in_notation (codes "es") (codes "es") start) (pos 1, pos 1) (Some (formulas.Tree call)) ≡ codes "=SUMA(1,5;VERDADERO)"
unfolding caseless notations_of digits fraction_digits
called =
    ap (λ (text : List ℕ). equals ∷ text)
    (shows (in_notation (codes "es") (codes "es") start) (pos 1) (pos 1) call spelled_call call_tokens (codes "SUMA(1,5;VERDADERO)") (simp spelled-node) (simp yield-node) refl)

-- in neither language does the word of an error value end with a blank
plain : ErrorsEndPlain start
plain errors.REF = refl
plain errors.NAME = refl
plain errors.VALUE = refl
plain errors.DIV = refl
plain errors.NA = refl
plain errors.NUM = refl
plain errors.NIMPL = refl
plain errors.SPILL = refl
plain errors.CALC = refl
plain errors.CIRC = refl
plain errors.ERROR = refl
plain errors.NULL = refl

plain_spanish : ErrorsEndPlain (in_notation (codes "es") (codes "es") start)
plain_spanish e = plain e
