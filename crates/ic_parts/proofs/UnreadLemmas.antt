-- No formula begins with a closing bracket or with an equals sign.
use Rattle.std.proofs.Common.{◌≡◌, ◌∙◌, ℕ, zero, suc, ◌+◌, ◌<◌, ◌==◌, List, [], ◌∷◌, length, Bool, true, false, Some, None, if◌then◌else◌, refl, sym, ap, ap₂, ◌||◌, arith}
use Rattle.std.proofs.lemmas.Bool.Decides.{Decides-eqb}
use Rattle.std.specs.Prelude.{codes}
use Rattle.ic_laws.specs.Character.{equals}
use Rattle.ic_laws.specs.Dialect.{DialectMeaning, IsLawful}
use Rattle.ic_laws.specs.FormulaReading.{without_equals}
use Rattle.ic_laws.specs.Parse.{expression, operand, parsed, prefix_sign, primary, reader}
use Rattle.ic_laws.specs.ReadAs.{read_as}
use Rattle.ic_laws.specs.Scan.{first_is}
use Rattle.ic_laws.specs.Scene.{past_front}
use Rattle.ic_laws.specs.Token.{Token, Operator}
use Rattle.ic_laws.specs.TokenKinds.{token_by_kinds}
use Rattle.ic_laws.specs.Tree.{Spelled}
use Rattle.ic_laws.specs.declared.tree.BinarySign.TheVariants as signs
use Rattle.ic_laws.proofs.printing.Signs.{eqb_swap, mark_begins_none, not_decimal, two_none}
use Rattle.ic_laws.proofs.printing.Words.{starts}
use Rattle.ic_tree.proofs.FirstLemmas.{sign_kinds}
use Rattle.ic_tree.proofs.LexLemmas.{read_by_tokens}
use Rattle.ic_tree.proofs.StoredLemmas.{closed_unread}
use Rattle.ic_tree.specs.Lexing.{and_then, ends_whole, lexed_by, tokens_before}

-- no tree begins with an equals sign
equals_reader : (d : DialectMeaning) (m b least : ℕ) (ts : List Token) → reader d (suc m) b least (Operator signs.Equal ∷ ts) ≡ None
unfolding reader expression operand primary prefix_sign
equals_reader d m b least ts = refl

equals_tokens : (d : DialectMeaning) (ts : List Token) → parsed d (Operator signs.Equal ∷ ts) ≡ None
unfolding parsed
equals_tokens d ts = rw (equals_reader d 1023 128 1 ts) refl

-- which is the first token of a text that begins with one
not_it : (d : DialectMeaning) → IsLawful d → 61 ≡ d.decimal → ⊥
not_it d n e = let no : (61 == d.decimal) ≡ false = not_decimal d n 61 refl refl in let yes : (61 == d.decimal) ≡ true = (Decides-eqb 61 d.decimal).1 e in cc

starts_none : starts 61 ≡ false
starts_none = let p = mark_begins_none 61 (omega arith) refl in ap₂ ◌||◌ p.0 p.1

equals_kinds : (d : DialectMeaning) → IsLawful d → (cs : List ℕ) → token_by_kinds d (61 ∷ cs) ≡ Some (Operator signs.Equal, cs)
equals_kinds d n cs =
    sign_kinds d n 61 cs starts_none (not_it d n) (λ e. absurd (omega (arith, e))) (λ e. absurd (omega (arith, e)))
    ∙ rw (two_none 61 cs refl refl) refl

equals_by : (d : DialectMeaning) → IsLawful d → (cs : List ℕ) (fuel : ℕ) → 0 < fuel → (more : List Token) × ((lexed_by d fuel (61 ∷ cs)).0 ≡ Operator signs.Equal ∷ more)
unfolding lexed_by
equals_by d n cs zero lt = absurd (omega (arith, lt))
equals_by d n cs (suc fuel) lt = ((lexed_by d fuel cs).0, ap (λ next. (and_then (lexed_by d fuel) next).0) (equals_kinds d n cs))

equals_unread : (d : DialectMeaning) → IsLawful d → (cs : List ℕ) → read_as d (61 ∷ cs) ≡ None
equals_unread d n cs =
    let text : List ℕ = 61 ∷ cs in
    let first = equals_by d n cs (length text + 1) (omega arith) in
    sym (read_by_tokens d n text (ends_whole d text) (tokens_before d text) refl refl) ∙ unread (ends_whole d text) (tokens_before d text) first.0 first.1
  where
    unread : (whole : Bool) (ts more : List Token) → ts ≡ Operator signs.Equal ∷ more → (if whole then parsed d ts else None) ≡ None
    unread true ts more e = ap (parsed d) e ∙ equals_tokens d more
    unread false ts more e = refl

-- so of a text that reads nothing is cut off at its front ----

module _ (d : DialectMeaning) (n : IsLawful d) where
  no_first : (text : List ℕ) (t : Spelled) → read_as d text ≡ Some t → (k : ℕ) → ((cs : List ℕ) → read_as d (k ∷ cs) ≡ None) → first_is (λ c. c == k) text ≡ false
  no_first [] t reads k none = refl
  no_first (c ∷ cs) t reads k none =
      elim (c == k) as (λ b. (c == k) ≡ b → b ≡ false) [
        | true ↦ λ e. let is : c ≡ k = (Decides-eqb c k).0 e in let unread : read_as d (c ∷ cs) ≡ None = ap (λ x. read_as d (x ∷ cs)) is ∙ none cs in cc
        | false ↦ λ e. refl
      ] refl

  pub unequal : (text : List ℕ) (t : Spelled) → read_as d text ≡ Some t → first_is (λ c. c == equals) text ≡ false
  unequal text t reads = no_first text t reads 61 (equals_unread d n)

  pub unclosed : (text : List ℕ) (t : Spelled) → read_as d text ≡ Some t → first_is (λ c. c == 41) text ≡ false
  unclosed text t reads = no_first text t reads 41 (closed_unread d n)

pub all_without_equals : (text : List ℕ) → first_is (λ c. c == equals) text ≡ false → without_equals text ≡ text
all_without_equals [] e = refl
all_without_equals (c ∷ cs) e = ap (λ b. if b then cs else c ∷ cs) e

pub not_past_bracket : (text : List ℕ) → first_is (λ c. c == 41) text ≡ false → past_front (codes ")") text ≡ None
not_past_bracket [] e = refl
not_past_bracket (c ∷ cs) e = ap (λ b. if b then Some cs else None) (eqb_swap 41 c e)
