-- What it means to read a text as a tree, and to print a tree.
use Rattle.std.specs.Prelude.{◌≡◌, ℕ, List, flat_map, Option, IsNone, IsSome, true}
use Rattle.std.specs.List.{AllByRecursion}
use Rattle.ic_laws.specs.Dialect.{DialectMeaning}
use Rattle.ic_laws.specs.Token.{Lexes, token_text}
use Rattle.ic_laws.specs.Tree.{Spelled, Kind, IsWellFormed, spelled_names}
use Rattle.ic_laws.specs.Yield.{yield}
use Rattle.ic_laws.specs.declared.dialect.WordKind.TheVariants as kinds
use Rattle.ic_laws.specs.declared.tree.LetPair.{LetPair}
use Rattle.ic_laws.specs.declared.tree.Tree.{every-Tree}
use Rattle.ic_laws.specs.declared.tree.Tree.TheOpen.{LetPair-F}
use Rattle.ic_laws.specs.declared.tree.Tree.TheOpen as one

-- a spelled tree is well-formed in a dialect, which says which functions are LET and LAMBDA
abbrev pub IsWell : DialectMeaning → Spelled → Type 0
IsWell d t = IsWellFormed spelled_names d.let_fn d.lambda_fn t

-- a text reads as a tree where its tokens are those of the tree
pub record Reads (d : DialectMeaning) (text : List ℕ) (t : Spelled) : Type 0 where
  pub well : IsWell d t
  pub tokens : Lexes d text (yield d t)

-- the canonical text of a tree: its tokens in their spelling, without blanks
abbrev pub printed : DialectMeaning → Spelled → List ℕ
printed d t = flat_map (token_text d) (yield d t)

-- a word that isn't a boolean, and a called word that isn't a function
abbrev pub IsFreeWord : DialectMeaning → List ℕ → Type 0
IsFreeWord d word = IsNone (d.find kinds.Boolean word)

-- a node can be spelled so that it reads back: its reference, its word, its function, its binders
abbrev pub FitsKind : DialectMeaning → Kind (Option (List ℕ)) (List ℕ) → Type 0
FitsKind d (one.Reference sheet place) = d.can_spell (record { sheet = sheet; place = place }) ≡ true
FitsKind d (one.Word word) = IsFreeWord d word
FitsKind d (one.Call word arguments) = IsNone (d.find kinds.Function word)
FitsKind d (one.Fun number arguments) = IsSome (d.word kinds.Function number)
FitsKind d (one.Lambda parameters body) = AllByRecursion (IsFreeWord d) parameters
FitsKind d kind = Unit {0}

-- so can a pair of LET
abbrev pub FitsPair : DialectMeaning → LetPair-F (Option (List ℕ)) (List ℕ) Spelled (LetPair (Option (List ℕ)) (List ℕ)) → Type 0
FitsPair d pair = IsFreeWord d pair.variable

-- a tree that a dialect can spell so that it reads back
pub record Fits (d : DialectMeaning) (t : Spelled) : Type 0 where
  pub well : IsWell d t
  pub nodes : every-Tree (Option (List ℕ)) (List ℕ) (FitsKind d) (FitsPair d) t
