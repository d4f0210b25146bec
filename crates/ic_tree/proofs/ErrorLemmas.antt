-- Finding an error's word at the front of a text.
use Rattle.std.proofs.Common.{◌≡◌, ℕ, ◌-◌, ◌<◌, ◌≤◌, List, ◌++◌, length, drop, length-append, Option, Some, None, IsUtf8, chars, encode_utf8_all, sym, ap, ◌∙◌, arith}
use Rattle.std.specs.Str.{IsCharBoundary}
use Rattle.ic_laws.specs.Dialect.{DialectMeaning, FindsErrorAt, error_number}
use Rattle.ic_laws.specs.declared.dialect.WordKind.TheVariants as kinds
use Rattle.ic_laws.specs.declared.tree.Error.{Error}
use Rattle.ic_laws.proofs.RunLemmas.{bytes_end}
use Rattle.ic_tables.specs.Order.{BeginsWithFound, BeginsWithNone}
use Rattle.ic_tables.specs.Words.{first_agreeing, words_of}
use Rattle.ic_tables.specs.declared.language.Language.{Language}
use Rattle.ic_tree.specs.laws.LanguageLaws.{found_below}

pub outside : (d : DialectMeaning) (text : List ℕ) (at : ℕ) → (IsCharBoundary text at → ⊥) → FindsErrorAt d text at None
outside d text at h = λ b. absurd (h b)

pub not_found : (d : DialectMeaning) (text front : List ℕ) (at : ℕ) → front ≡ drop at text → BeginsWithNone (d.find kinds.Error) (chars front) → FindsErrorAt d text at None
not_found d text front at here none = λ b word rest e split found. apart (none word rest (ap chars here ∙ split)) found
  where
    apart : {o : Option ℕ} {n : ℕ} → o ≡ None → o ≡ Some n → ⊥
    apart e f = cc

pub no_number : (l : Language) (text rest : List ℕ) (n : ℕ) → BeginsWithFound (first_agreeing (words_of l kinds.Error)) text rest n → 12 ≤ n → ⊥
no_number l text rest n b h = let below : n < 12 = found_below l kinds.Error b.front n b.found in omega arith

pub found_here : (d : DialectMeaning) (text front rest : List ℕ) (at number bytes : ℕ) (e : Error) → IsCharBoundary text at → front ≡ drop at text → (b : BeginsWithFound (d.find kinds.Error) (chars front) rest number) → error_number e ≡ number → bytes ≡ length (encode_utf8_all b.front) → FindsErrorAt d text at (Some (e, bytes))
found_here d text front rest at number bytes e boundary here b same size =
    (boundary, (b.front, rest, ap chars (sym here) ∙ b.split, b.found ∙ ap Some (sym same), size))

pub bytes_of : (text rest front : List ℕ) → IsUtf8 text → IsUtf8 rest → chars text ≡ front ++ chars rest → length text - length rest ≡ length (encode_utf8_all front)
bytes_of text rest front u v e = omega (arith, ap length (bytes_end text rest front u v e), length-append (encode_utf8_all front) rest)
