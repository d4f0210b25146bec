-- No formula begins with a closing bracket, so the stored text of a tree is none of a raw text.
use Rattle.std.proofs.Common.{◌≡◌, ◌↔◌, ◌∙◌, ℕ, zero, suc, ◌+◌, ◌<◌, List, ◌∷◌, length, Bool, true, false, Option, Some, None, if◌then◌else◌, refl, sym, ap, arith}
use Rattle.ic_laws.specs.Binding.{spelled}
use Rattle.ic_laws.specs.CoreBook.{CoreBook, scene_of}
use Rattle.ic_laws.specs.Dialect.{DialectMeaning, IsLawful}
use Rattle.ic_laws.specs.Notations.{AreNotations, Notations}
use Rattle.ic_laws.specs.Parse.{expression, operand, parsed, prefix_sign, primary, reader}
use Rattle.ic_laws.specs.ReadAs.{read_as}
use Rattle.ic_laws.specs.Reading.{printed}
use Rattle.ic_laws.specs.Token.{Token, Close}
use Rattle.ic_laws.specs.Tree.{Bound}
use Rattle.ic_laws.specs.ValidCore.{IsPooled, IsValidCore}
use Rattle.ic_laws.specs.declared.tree.Formula.{Formula}
use Rattle.ic_laws.specs.declared.tree.Formula.TheVariants as formulas
use Rattle.ic_laws.proofs.core.Named.{book_named}
use Rattle.ic_laws.proofs.kept.Written.{stored_reads, stored_text_decides}
use Rattle.ic_tree.proofs.FirstLemmas.{close_kinds}
use Rattle.ic_tree.proofs.LexLemmas.{read_by_tokens}
use Rattle.ic_tree.specs.Lexing.{and_then, ends_whole, lexed_by, tokens_before}
use Rattle.ic_tree.specs.StoredText.{stored_formula}

-- no tree begins with a closing bracket
closed_reader : (d : DialectMeaning) (m b least : ℕ) (ts : List Token) → reader d (suc m) b least (Close ∷ ts) ≡ None
unfolding reader expression operand primary prefix_sign
closed_reader d m b least ts = refl

closed_tokens : (d : DialectMeaning) (ts : List Token) → parsed d (Close ∷ ts) ≡ None
unfolding parsed
closed_tokens d ts = rw (closed_reader d 1023 128 1 ts) refl

-- which is the first token of a text that begins with one
closed_by : (d : DialectMeaning) → IsLawful d → (cs : List ℕ) (fuel : ℕ) → 0 < fuel → (more : List Token) × ((lexed_by d fuel (41 ∷ cs)).0 ≡ Close ∷ more)
unfolding lexed_by
closed_by d n cs zero lt = absurd (omega (arith, lt))
closed_by d n cs (suc fuel) lt = ((lexed_by d fuel cs).0, ap (λ next. (and_then (lexed_by d fuel) next).0) (close_kinds d n cs))

pub closed_unread : (d : DialectMeaning) → IsLawful d → (cs : List ℕ) → read_as d (41 ∷ cs) ≡ None
closed_unread d n cs =
    let text : List ℕ = 41 ∷ cs in
    let first = closed_by d n cs (length text + 1) (omega arith) in
    sym (read_by_tokens d n text (ends_whole d text) (tokens_before d text) refl refl) ∙ unread (ends_whole d text) (tokens_before d text) first.0 first.1
  where
    unread : (whole : Bool) (ts more : List Token) → ts ≡ Close ∷ more → (if whole then parsed d ts else None) ≡ None
    unread true ts more e = ap (parsed d) e ∙ closed_tokens d more
    unread false ts more e = refl

module _ (n : Notations) (notations : AreNotations n) (book : CoreBook) (valid : IsValidCore n book) (scope : Option ℕ) where
  -- so the stored text of a tree begins with another character
  pub tree_unclosed : (t : Bound) → IsPooled n (scene_of book) scope (formulas.Tree t) → (cs : List ℕ) → printed n.stored (spelled (scene_of book) t) ≡ 41 ∷ cs → ⊥
  tree_unclosed t kept cs same =
      let reads = stored_reads n notations (scene_of book) (book_named n book valid) scope (λ place. Unit {0}) t kept in
      none_some (sym (closed_unread n.stored notations.stored cs) ∙ (ap (read_as n.stored) (sym same) ∙ reads))
    where
      none_some : {X : Type 0} {x : X} → None ≡ Some x → ⊥
      none_some e = cc

  -- stored texts are equal exactly where the formulas are
  pub stored_decides : (f g : Formula) → IsPooled n (scene_of book) scope f → IsPooled n (scene_of book) scope g → stored_formula n (scene_of book) f ≡ stored_formula n (scene_of book) g ↔ f ≡ g
  stored_decides (formulas.Tree t) (formulas.Tree u) kept other =
      let decides = stored_text_decides n notations (scene_of book) (book_named n book valid) scope (λ place. Unit {0}) (λ place. Unit {0}) t u kept other in
      (λ e. ap (λ (x : Bound). let f : Formula = formulas.Tree x in f) (decides.0 e), λ e. ap (stored_formula n (scene_of book)) e)
  stored_decides (formulas.Tree t) (formulas.Raw text) kept other = (λ e. absurd (tree_unclosed t kept text e), λ e. absurd (cc))
  stored_decides (formulas.Raw text) (formulas.Tree t) kept other = (λ e. absurd (tree_unclosed t other text (sym e)), λ e. absurd (cc))
  stored_decides (formulas.Raw a) (formulas.Raw b) kept other = (λ e. let same : a ≡ b = cc in ap (λ (x : List ℕ). let f : Formula = formulas.Raw x in f) same, λ e. ap (stored_formula n (scene_of book)) e)
