-- The body that mentions nothing: how it is written where LAMBDA is called so, what reads as it, and that it is bound alike everywhere.
use Rattle.std.proofs.Common.{◌≡◌, ℕ, pos, List, [], ◌∷◌, ◌++◌, Option, Some, codes, refl, ap, ◌∙◌, arith}
use Rattle.std.specs.Fmt.{digits}
use Rattle.ic_laws.proofs.binding.Again.{BoundKind, bound-node, bound_node, spelled-node}
use Rattle.ic_laws.proofs.parsing.Nodes.{WellKind, brackets-node, empty-node, height-node, made_of, well_made, yield-node}
use Rattle.ic_laws.proofs.parsing.ReadAs.{read_as_complete}
use Rattle.ic_laws.proofs.printing.Trees.{printed_reads}
use Rattle.ic_laws.specs.Amount.{fraction_digits}
use Rattle.ic_laws.specs.Binding.{bound, spelled_with}
use Rattle.ic_laws.specs.Dialect.{DialectMeaning, IsLawful, word_text}
use Rattle.ic_laws.specs.Following.{spelled_out}
use Rattle.ic_laws.specs.Keeping.{KeyChange, kept}
use Rattle.ic_laws.specs.Parse.{SpelledKind, node}
use Rattle.ic_laws.specs.ReadAs.{read_as}
use Rattle.ic_laws.specs.Reading.{Fits, FitsKind, FitsPair, IsWell, printed}
use Rattle.ic_laws.specs.Token.{Close, FunHead, Num}
use Rattle.ic_laws.specs.Tree.{Bound, Spelled}
use Rattle.ic_laws.specs.Yield.{yield}
use Rattle.ic_laws.specs.declared.dialect.WordKind.TheVariants as kinds
use Rattle.ic_laws.specs.declared.scene.Scene.{Scene}
use Rattle.ic_laws.specs.declared.tree.NameKey.{NameKey}
use Rattle.ic_laws.specs.declared.tree.Tree.TheOpen as one
use Rattle.ic_dump.specs.Lines.{plain_body}

-- a LAMBDA without parameters, whose body is 1
abbrev number : SpelledKind
number = one.Num (pos 1000000000)

abbrev pub plain_inner : Spelled
plain_inner = node number

abbrev lambda : SpelledKind
lambda = one.Lambda [] plain_inner

abbrev pub plain_spelled : Spelled
plain_spelled = node lambda

abbrev bound_number : BoundKind
bound_number = one.Num (pos 1000000000)

abbrev bound_lambda : BoundKind
bound_lambda = one.Lambda [] (bound_node bound_number)

abbrev pub plain_bound : Bound
plain_bound = bound_node bound_lambda

-- It is bound to itself in each scene, and spelled as itself. ----

pub plain_binds : (english : List ℕ → Option ℕ) (scene : Scene) (scope : Option ℕ) → bound english scene scope plain_spelled ≡ plain_bound
plain_binds english scene scope =
    bound-node english scene scope lambda [] ∙ ap (λ (t : Bound). let kind : BoundKind = one.Lambda [] t in bound_node kind) (bound-node english scene scope number [])

plain_spells : (sheet_text : ℕ → List ℕ) (key_text : NameKey → List ℕ) → spelled_with sheet_text key_text plain_bound ≡ plain_spelled
plain_spells sheet_text key_text =
    spelled-node sheet_text key_text bound_lambda ∙ ap (λ (t : Spelled). let kind : SpelledKind = one.Lambda [] t in node kind) (spelled-node sheet_text key_text bound_number)

-- so it stays over each change
pub plain_kept : (english : List ℕ → Option ℕ) (before after : Scene) (keys : KeyChange) (scope : Option ℕ) → kept english before after keys scope plain_bound ≡ plain_bound
plain_kept english before after keys scope = ap (bound english after scope) (plain_spells _ _) ∙ plain_binds english after scope

-- Its text. ----

module _ (d : DialectMeaning) where
  number_well : WellKind d number
  number_well = record { operands = tt; called = tt; arguments = tt; parts = tt; elements = tt; unsigned = refl; words = tt; places = tt }

  lambda_well : WellKind d lambda
  lambda_well = record { operands = tt; called = tt; arguments = tt; parts = empty-node number; elements = tt; unsigned = tt; words = refl; places = tt }

  plain_well : IsWell d plain_spelled
  plain_well = record {
    nodes = well_made d lambda lambda_well (well_made d number number_well tt);
    there = empty-node lambda;
    few_brackets = omega (arith, brackets-node lambda, brackets-node number);
    low = omega (arith, height-node lambda, height-node number);
  }

  pub plain_fits : Fits d plain_spelled
  plain_fits = record { well = plain_well; nodes = let made = made_of (FitsKind d) (FitsPair d) in made lambda tt (made number tt tt) }

  plain_tokens : yield d plain_spelled ≡ FunHead d.lambda_fn ∷ Num (pos 1000000000) ∷ Close ∷ []
  plain_tokens = simp (yield-node)

  module _ (called : word_text d kinds.Function d.lambda_fn ≡ codes "LAMBDA") where
    pub plain_text : printed d plain_spelled ≡ plain_body
    unfolding digits fraction_digits
    plain_text = ap (spelled_out d) plain_tokens ∙ ap (λ (word : List ℕ). (word ++ codes "(") ++ codes "1)") called

    pub plain_reads : IsLawful d → read_as d (printed d plain_spelled) ≡ Some plain_spelled
    plain_reads lawful = read_as_complete d lawful (printed d plain_spelled) plain_spelled (printed_reads d lawful plain_spelled plain_fits)
