-- Texts of one token by example.
use Rattle.std.proofs.Common.{◌≡◌, ℕ, suc, List, [], ◌∷◌, Some, true, ◌&&◌, option_and_then, arith, ap}
use Rattle.ic_laws.specs.Dialect.{DialectMeaning}
use Rattle.ic_laws.specs.Name.{is_variable}
use Rattle.ic_laws.specs.Parse.{binary, expression, node, nothing_after, operand, parsed, postfix, prefix_sign, primary, reader, turns}
use Rattle.ic_laws.specs.Position.{is_place_within}
use Rattle.ic_laws.specs.Token.{Ref, Word}
use Rattle.ic_laws.specs.Tree.{Spelled, is_written_sheet}
use Rattle.ic_laws.specs.declared.reference.RefToken.{RefToken}
use Rattle.ic_laws.specs.declared.tree.Tree.TheOpen as one
use Rattle.ic_laws.proofs.parsing.Nodes.{height-node}
use Rattle.ic_tree.proofs.machine.Session.{low}

abbrev pub reference : RefToken → Spelled
reference r = node (one.Reference r.sheet r.place)

reference_high : (d : DialectMeaning) (r : RefToken) (m b least : ℕ) → (is_written_sheet r.sheet && is_place_within r.place) ≡ true → reader d (suc m) b least (Ref r ∷ []) ≡ Some (reference r, [])
unfolding reader expression operand primary prefix_sign turns postfix binary
reference_high d r m b least h = let low_here = low (reference r) (suc m) (omega (arith, height-node (one.Reference r.sheet r.place))) in simp (h, low_here)

pub reads_reference : (d : DialectMeaning) (r : RefToken) → (is_written_sheet r.sheet && is_place_within r.place) ≡ true → parsed d (Ref r ∷ []) ≡ Some (reference r)
unfolding parsed
reads_reference d r h = ap (option_and_then (λ read. nothing_after read.0 read.1)) (reference_high d r 1023 128 1 h)

abbrev pub word : List ℕ → Spelled
word text = node (one.Word text)

word_high : (d : DialectMeaning) (text : List ℕ) (m b least : ℕ) → is_variable text ≡ true → reader d (suc m) b least (Word text ∷ []) ≡ Some (word text, [])
unfolding reader expression operand primary prefix_sign turns postfix binary
word_high d text m b least h = let low_here = low (word text) (suc m) (omega (arith, height-node (one.Word text))) in simp (h, low_here)

pub reads_word : (d : DialectMeaning) (text : List ℕ) → is_variable text ≡ true → parsed d (Word text ∷ []) ≡ Some (word text)
unfolding parsed
reads_word d text h = ap (option_and_then (λ read. nothing_after read.0 read.1)) (word_high d text 1023 128 1 h)
