-- A function's head, whose word stands at the front of a text as the dialect spells it, is the longest token there.
use Rattle.std.proofs.Common.{◌≡◌, ℕ, ◌<◌, List, [], ◌∷◌, ◌++◌, true, false, ◌==◌, length, Some, None, refl, sym, ◌∙◌, ap, inl, inr, arith}
use Rattle.std.proofs.lemmas.Bool.{cases_Bool}
use Rattle.std.proofs.lemmas.Bool.Decides.{eqb_tells}
use Rattle.ucd_derived.proofs.Computing.{ucd_derived}
use Rattle.ic_laws.specs.Dialect.{DialectMeaning, IsLawful}
use Rattle.ic_laws.specs.NextToken.{boolean_or_word}
use Rattle.ic_laws.specs.Scan.{IsEnd, begins_word, first_is, is_blank, is_word_character, joins, past_run, run_of}
use Rattle.ic_laws.specs.Split.{longer}
use Rattle.ic_laws.specs.Token.{FunHead}
use Rattle.ic_laws.specs.TokenKinds.{head_before, local_at, reference_at}
use Rattle.ic_laws.specs.declared.dialect.WordKind.TheVariants as kinds
use Rattle.ic_laws.proofs.RunLemmas.{run_and_rest}
use Rattle.ic_laws.proofs.printing.Words.{gives_way}
use Rattle.ic_laws.proofs.tokens.Lexing.{each_blank}
use Rattle.ic_tree.proofs.FirstLemmas.{word_alone}
use Rattle.ic_tree.proofs.LocalFirst.{no_local_by_word}
use Rattle.ic_tree.proofs.WordLemmas.{head_then_word, past_run_within}
use Rattle.ic_tree.specs.Lexing.{IsSpelledFunction, found, named_at}

-- what stands before a bracket, blanks aside, is an end
blank_ends : (c : ℕ) → is_blank c ≡ true → joins c ≡ false
unfolding ucd_derived
blank_ends = each_blank (λ c. joins c ≡ false) refl refl refl refl

bracket_ends : joins 40 ≡ false
unfolding ucd_derived
bracket_ends = refl

ends_before_bracket : (after rest : List ℕ) → past_run is_blank after ≡ 40 ∷ rest → IsEnd after
ends_before_bracket [] rest e = absurd (cc)
ends_before_bracket (c ∷ cs) rest e =
    elim (cases_Bool (is_blank c)) [
      | inl p ↦ blank_ends c p
      | inr p ↦ let same : c ∷ cs ≡ 40 ∷ rest = rw p at e in let is : c ≡ 40 = cc in ap joins is ∙ bracket_ends
    ]

bang_joins : joins 33 ≡ true
unfolding ucd_derived
bang_joins = refl

no_bang_first : (after : List ℕ) → IsEnd after → first_is (λ c. c == 33) after ≡ false
no_bang_first [] h = refl
no_bang_first (c ∷ cs) h = elim (eqb_tells c 33) [ inl e ↦ absurd (let joined : joins c ≡ true = ap joins e.1 ∙ bang_joins in let no : true ≡ false = sym joined ∙ h in cc) | inr e ↦ e.0 ]

quote_no_start : begins_word 39 ≡ false
unfolding ucd_derived
quote_no_start = refl

-- of a head, a word and a number it is the head
head_alone : (d : DialectMeaning) → IsLawful d → (text cs : List ℕ) (c : ℕ) (after rest : List ℕ) (number : ℕ) → text ≡ c ∷ cs → begins_word c ≡ true
    → after ≡ past_run is_word_character text → past_run is_blank after ≡ 40 ∷ rest → d.find kinds.Function (run_of is_word_character text) ≡ Some number
    → Some (found (FunHead number) rest) ≡ named_at d text
head_alone d n text cs c after rest number is begins word bracket finds =
    let run = run_of is_word_character text in
    let first : first_is begins_word text ≡ true = ap (first_is begins_word) is ∙ begins in
    let head : Some (found (FunHead number) rest) ≡ head_before d run (past_run is_blank after) = sym (ap (head_before d run) bracket ∙ rw finds refl) in
    head_then_word d text run after (Some (found (FunHead number) rest)) (boolean_or_word d run (d.find kinds.Boolean run)) first word refl head refl
    ∙ word_alone d n text cs c is begins

pub function_first : (d : DialectMeaning) → IsLawful d → (text cs : List ℕ) (c : ℕ) (after rest name : List ℕ) (number : ℕ) → text ≡ c ∷ cs → begins_word c ≡ true
    → after ≡ past_run is_word_character text → past_run is_blank after ≡ 40 ∷ rest → name ≡ run_of is_word_character text → IsSpelledFunction d number name
    → Some (found (FunHead number) rest) ≡ longer (reference_at d text) (longer (local_at text) (named_at d text))
function_first d n text cs c after rest name number is begins word bracket run spelled =
    let end = ends_before_bracket after rest bracket in
    let no_quote : c ≡ 39 → ⊥ = λ e. let no : true ≡ false = sym begins ∙ ap begins_word e ∙ quote_no_start in absurd (cc) in
    let local : local_at text ≡ None = no_local_by_word text cs c is no_quote (ap (first_is (λ c. c == 33)) (sym word) ∙ no_bang_first after end) in
    let named = head_alone d n text cs c after rest number is begins word bracket (ap (d.find kinds.Function) (sym run) ∙ spelled.0) in
    let whole : text ≡ name ++ after = run_and_rest is_word_character text ∙ ap (λ r. r ++ past_run is_word_character text) (sym run) ∙ ap (λ r. name ++ r) (sym word) in
    let shorter : length rest < length after = omega (arith, ap length bracket, past_run_within is_blank after) in
    let way = gives_way d text rest (FunHead number) (d.read_ref text)
    (λ r after' e. let within = n.within_function number name after after' r spelled.1 end (ap d.read_ref (sym whole) ∙ e) in omega (arith, within, shorter)) in
    sym (ap (λ l. longer (reference_at d text) (longer l (named_at d text))) local ∙ ap (longer (reference_at d text)) (sym named) ∙ way)
