-- Texts and trees of the smallest dialect by example: a text that falls into tokens and one that doesn't, a tree that
-- fits with its canonical text, and texts that read as it.
use Rattle.std.proofs.Common.{◌≡◌, pos, List, [], ◌∷◌, true, None, Some, codes, refl, sym, ap, subst, ◌∙◌, arith}
use Rattle.std.specs.Fmt.{digits}
use Rattle.ucd_derived.proofs.Computing.{ucd_derived}
use Rattle.ic_laws.specs.Amount.{fraction_digits}
use Rattle.ic_laws.specs.Following.{spelled_out}
use Rattle.ic_laws.specs.NextToken.{bare_of, tokens_by, tokens_of}
use Rattle.ic_laws.specs.Parse.{SpelledKind, node}
use Rattle.ic_laws.specs.Reading.{Fits, FitsKind, FitsPair, IsWell, Reads, printed}
use Rattle.ic_laws.specs.SheetText.{read_local}
use Rattle.ic_laws.specs.Split.{longest_split}
use Rattle.ic_laws.specs.Token.{Token, Num, Boolean, Operator, Open, Close, Lexes}
use Rattle.ic_laws.specs.Tree.{Spelled}
use Rattle.ic_laws.specs.Yield.{yield}
use Rattle.ic_laws.specs.declared.tree.BinarySign.TheVariants as signs
use Rattle.ic_laws.specs.declared.tree.Tree.TheOpen as one
use Rattle.ic_laws.proofs.Smallest.{number_below, smallest}
use Rattle.ic_laws.proofs.SmallestLaws.{smallest_laws}
use Rattle.ic_laws.proofs.parsing.Nodes.{Every, WellKind, AllWell, made_of, well_made, yield-node, height-node, brackets-node, level-node, empty-node}
use Rattle.ic_laws.proofs.printing.Trees.{printed_reads}
use Rattle.ic_laws.proofs.tokens.Lexing.{tokens_of_complete, tokens_of_sound}
use Rattle.ic_laws.proofs.tokens.Splits.{none_some}

-- -1.5 <= _0, where _0 is the word of true
lexed : tokens_of smallest (codes "-1.5 <= _0") ≡ Some (Operator signs.Minus ∷ Num (pos 1500000000) ∷ Operator signs.AtMost ∷ Boolean true ∷ [])
unfolding longest_split bare_of tokens_by read_local number_below ucd_derived
lexed = refl

falls_into_tokens : Lexes smallest (codes "-1.5 <= _0") (Operator signs.Minus ∷ Num (pos 1500000000) ∷ Operator signs.AtMost ∷ Boolean true ∷ [])
falls_into_tokens = tokens_of_sound smallest smallest_laws _ _ lexed

-- an open quote, and a character that begins no token
nothing_lexed : (tokens_of smallest (codes "1+\"a") ≡ None) × (tokens_of smallest (codes "1 ? 2") ≡ None)
unfolding longest_split bare_of tokens_by read_local number_below ucd_derived
nothing_lexed = (refl, refl)

open_quote : (ts : List Token) → Lexes smallest (codes "1+\"a") ts → ⊥
open_quote ts l = none_some ts (sym nothing_lexed.0 ∙ tokens_of_complete smallest smallest_laws _ ts l)

no_token : (ts : List Token) → Lexes smallest (codes "1 ? 2") ts → ⊥
no_token ts l = none_some ts (sym nothing_lexed.1 ∙ tokens_of_complete smallest smallest_laws _ ts l)

-- (1+2)*_0
abbrev first : SpelledKind
first = one.Num (pos 1000000000)

abbrev second : SpelledKind
second = one.Num (pos 2000000000)

abbrev sum : SpelledKind
sum = one.Binary signs.Plus (node first) (node second)

abbrev bracket : SpelledKind
bracket = one.Paren (node sum)

abbrev truth : SpelledKind
truth = one.Bool true

abbrev product : SpelledKind
product = one.Binary signs.Times (node bracket) (node truth)

abbrev tree : Spelled
tree = node product

all_well : AllWell smallest tree
all_well =
    let one_well : WellKind smallest first = record { operands = tt; called = tt; arguments = tt; parts = tt; elements = tt; unsigned = refl; words = tt; places = tt } in
    let two_well : WellKind smallest second = record { operands = tt; called = tt; arguments = tt; parts = tt; elements = tt; unsigned = refl; words = tt; places = tt } in
    let truth_well : WellKind smallest truth = record { operands = tt; called = tt; arguments = tt; parts = tt; elements = tt; unsigned = tt; words = tt; places = tt } in
    let sum_well : WellKind smallest sum = record {
      operands = (omega (arith, level-node first), omega (arith, level-node second));
      called = tt;
      arguments = tt;
      parts = (empty-node first, empty-node second);
      elements = tt;
      unsigned = tt;
      words = tt;
      places = tt;
    } in
    let bracket_well : WellKind smallest bracket = record { operands = tt; called = tt; arguments = tt; parts = empty-node sum; elements = tt; unsigned = tt; words = tt; places = tt } in
    let product_well : WellKind smallest product = record {
      operands = (omega (arith, level-node bracket), omega (arith, level-node truth));
      called = tt;
      arguments = tt;
      parts = (empty-node bracket, empty-node truth);
      elements = tt;
      unsigned = tt;
      words = tt;
      places = tt;
    } in
    well_made smallest product product_well (well_made smallest bracket bracket_well (well_made smallest sum sum_well (well_made smallest first one_well tt, well_made smallest second two_well tt)), well_made smallest truth truth_well tt)

is_well : IsWell smallest tree
is_well = record {
  nodes = all_well;
  there = empty-node product;
  few_brackets = omega (arith, brackets-node product, brackets-node bracket, brackets-node sum, brackets-node first, brackets-node second, brackets-node truth);
  low = omega (arith, height-node product, height-node bracket, height-node sum, height-node first, height-node second, height-node truth);
}

all_fit : Every (FitsKind smallest) (FitsPair smallest) tree
all_fit =
    let made = made_of (FitsKind smallest) (FitsPair smallest) in
    made product tt (made bracket tt (made sum tt (made first tt tt, made second tt tt)), made truth tt tt)

fits : Fits smallest tree
fits = record { well = is_well; nodes = all_fit }

tokens : yield smallest tree ≡ Open ∷ Num (pos 1000000000) ∷ Operator signs.Plus ∷ Num (pos 2000000000) ∷ Close ∷ Operator signs.Times ∷ Boolean true ∷ []
tokens = simp (yield-node)

canonical : printed smallest tree ≡ codes "(1+2)*_0"
unfolding digits fraction_digits
canonical = ap (spelled_out smallest) tokens

-- its canonical text reads as it, and so does that text with blanks between the tokens
reads_back : Reads smallest (codes "(1+2)*_0") tree
reads_back = subst (λ text. Reads smallest text tree) canonical (printed_reads smallest smallest_laws tree fits)

spaced : tokens_of smallest (codes " ( 1 + 2.0 )* _0 ") ≡ Some (Open ∷ Num (pos 1000000000) ∷ Operator signs.Plus ∷ Num (pos 2000000000) ∷ Close ∷ Operator signs.Times ∷ Boolean true ∷ [])
unfolding longest_split bare_of tokens_by read_local number_below ucd_derived
spaced = refl

reads_spaced : Reads smallest (codes " ( 1 + 2.0 )* _0 ") tree
reads_spaced = record { well = is_well; tokens = tokens_of_sound smallest smallest_laws _ _ (spaced ∙ ap Some (sym tokens)) }
