-- Heads and words at the front of a text: a head is longer than the word that it begins with.
use Rattle.std.proofs.Common.{◌≡◌, ℕ, ◌≤◌, List, [], ◌∷◌, Bool, true, ◌==◌, length, Option, Some, None, option_map, refl, sym, ◌∙◌, ap, inl, inr, arith, length-append}
use Rattle.std.proofs.lemmas.Bool.{cases_Bool, le-leb}
use Rattle.ic_laws.specs.Dialect.{DialectMeaning}
use Rattle.ic_laws.specs.NextToken.{boolean_or_word, head_token}
use Rattle.ic_laws.specs.Scan.{begins_word, first_is, is_blank, is_word_character, past_run, run_of}
use Rattle.ic_laws.specs.Split.{longer, or_else}
use Rattle.ic_laws.specs.Token.{Token}
use Rattle.ic_laws.specs.TokenKinds.{head_at, head_before, word_at}
use Rattle.ic_laws.specs.declared.dialect.WordKind.TheVariants as kinds
use Rattle.ic_laws.proofs.RunLemmas.{run_and_rest}

-- what stands after a run is no longer than the text
pub past_run_within : (p : ℕ → Bool) (text : List ℕ) → length (past_run p text) ≤ length text
past_run_within p text = omega (arith, ap length (run_and_rest p text), length-append (run_of p text) (past_run p text))

-- what stands after a head is shorter than what it was read from
head_shorter : (d : DialectMeaning) (name after : List ℕ) (found : Token × List ℕ) → Some found ≡ head_before d name after → length found.1 ≤ length after
head_shorter d name [] found e = absurd (cc)
head_shorter d name (c ∷ cs) found e =
    elim (cases_Bool (c == 40)) [
      | inl p ↦ by_token (head_token name (d.find kinds.Function name)) (rw p at e)
      | inr p ↦ let no : ◌≡◌ {A = Option (Token × List ℕ)} (Some found) None = rw p at e in absurd (cc)
    ]
  where
    by_token : (o : Option Token) → Some found ≡ option_map (λ t. (t, cs)) o → length found.1 ≤ length (c ∷ cs)
    by_token None e = absurd (cc)
    by_token (Some t) e =
        let same : found ≡ (t, cs) = cc in
        omega (arith, ap (λ (f : Token × List ℕ). length f.1) same)

first_wins : (h : Option (Token × List ℕ)) (w : Option Token) (rest : List ℕ) → ((found : Token × List ℕ) → Some found ≡ h → length found.1 ≤ length rest)
    → or_else h (option_map (λ t. (t, rest)) w) ≡ longer h (option_map (λ t. (t, rest)) w)
first_wins None w rest within = refl
first_wins (Some f) None rest within = refl
first_wins (Some f) (Some t) rest within = rw (le-leb (length f.1) (length rest) (within f refl)) refl

-- the head, and where there is none the word
pub head_then_word : (d : DialectMeaning) (text run rest : List ℕ) (h : Option (Token × List ℕ)) (w : Option Token) → first_is begins_word text ≡ true → rest ≡ past_run is_word_character text → run ≡ run_of is_word_character text
    → h ≡ head_before d run (past_run is_blank rest) → w ≡ boolean_or_word d run (d.find kinds.Boolean run) → or_else h (option_map (λ t. (t, rest)) w) ≡ longer (head_at d text) (word_at d text)
head_then_word d text run rest h w begins is_rest is_run is_head is_word =
    let head : head_at d text ≡ h =
    rw begins (ap (λ r. head_before d r (past_run is_blank (past_run is_word_character text))) (sym is_run) ∙ ap (λ r. head_before d run (past_run is_blank r)) (sym is_rest) ∙ sym is_head) in
    let word : word_at d text ≡ option_map (λ t. (t, rest)) w =
    rw begins (ap (λ r. option_map (λ t. (t, past_run is_word_character text)) (boolean_or_word d r (d.find kinds.Boolean r))) (sym is_run) ∙ ap (λ r. option_map (λ t. (t, r)) (boolean_or_word d run (d.find kinds.Boolean run))) (sym is_rest) ∙ ap (option_map (λ t. (t, rest))) (sym is_word)) in
    let within : (found : Token × List ℕ) → Some found ≡ h → length found.1 ≤ length rest =
    λ found e. omega (arith, head_shorter d run (past_run is_blank rest) found (e ∙ is_head), past_run_within is_blank rest) in
    first_wins h w rest within ∙ ap (λ x. longer x (option_map (λ t. (t, rest)) w)) (sym head) ∙ ap (longer (head_at d text)) (sym word)
