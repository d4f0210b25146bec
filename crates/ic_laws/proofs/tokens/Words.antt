-- Words and heads: what is read at a split is spelled there, and what is spelled is read.
use Rattle.std.proofs.Common.{◌≡◌, ℕ, List, [], ◌∷◌, ◌++◌, Bool, true, false, Option, Some, None, refl, sym, ◌∙◌, ap, subst, inl, inr, codes, bytes_eq, append_assoc}
use Rattle.std.specs.List.{list_all}
use Rattle.std.proofs.lemmas.Bool.{and_parts, cases_Bool}
use Rattle.std.proofs.lemmas.Bool.Decides.{eqb_tells}
use Rattle.std.proofs.lemmas.Option.{cond_some}
use Rattle.std.proofs.lemmas.Slice.Eq.{bytes_eq-Decides}
use Rattle.ic_laws.specs.Scan.{begins_word, first_is, is_blank, is_word_character, run_of, past_run}
use Rattle.ic_laws.specs.Name.{is_variable}
use Rattle.ic_laws.specs.Dialect.{DialectMeaning, boolean_number}
use Rattle.ic_laws.specs.Token.{Token, Boolean, Word, FunHead, NameHead, IsHead, IsWholeRun, Spells}
use Rattle.ic_laws.specs.declared.dialect.WordKind.TheVariants as kinds
use Rattle.ic_laws.proofs.RunLemmas.{run_and_rest}
use Rattle.ic_laws.specs.NextToken.{boolean_or_word, head_token, numbered, word_of}
use Rattle.ic_laws.proofs.tokens.Characters.{begins_goes_on, bracket_no_word, blank_no_word, run_of_all, past_run_all, all_of_run, not_all_past}
use Rattle.ic_laws.proofs.tokens.Splits.{mapped, none_some}

-- what was found in a list has the number
pub numbered_sound : {T : Type 0} (number : T → ℕ) (xs : List T) (n : ℕ) (x : T) → numbered number xs n ≡ Some x → number x ≡ n
numbered_sound number [] n x e = absurd (cc)
numbered_sound {T} number (y ∷ ys) n x e =
    elim (eqb_tells (number y) n) [
      | inl p ↦ let some : ◌≡◌ {A = Option T} (Some y) (Some x) = rw (p.0) at e in
          let same : y ≡ x = cc in ap number (sym same) ∙ p.1
      | inr p ↦ let more : numbered number ys n ≡ Some x = rw (p.0) at e in numbered_sound number ys n x more
    ]

-- whole runs
pub whole_sound : (d : DialectMeaning) (front rest : List ℕ) (found : Option ℕ) (v : Token) → IsWholeRun front rest → d.find kinds.Boolean front ≡ found → boolean_or_word d front found ≡ Some v → Spells d v front rest
whole_sound d front rest None v whole e f =
    let p = cond_some (is_variable front) (Word front) v f in
    let Wanted : Token → Type 0 = λ t. Spells d t front rest in
    subst Wanted p.1 (refl, whole, p.0, e)
whole_sound d front rest (Some n) v whole e f =
    let p = mapped Boolean (numbered boolean_number (false ∷ true ∷ []) n) v f in
    let Wanted : Token → Type 0 = λ t. Spells d t front rest in
    subst Wanted p.2 (whole, e ∙ ap (λ m. Some m) (sym (numbered_sound boolean_number (false ∷ true ∷ []) n p.0 p.1)))

-- heads
pub head_sound : (d : DialectMeaning) (front rest name : List ℕ) (found : Option ℕ) (v : Token) → IsHead name front → d.find kinds.Function name ≡ found → head_token name found ≡ Some v → Spells d v front rest
head_sound d front rest name None v is e f =
    let p = cond_some (is_variable name) (NameHead name) v f in
    let Wanted : Token → Type 0 = λ t. Spells d t front rest in
    subst Wanted p.1 (is, p.0, e)
head_sound d front rest name (Some n) v is e f =
    let same : FunHead n ≡ v = cc in
    let Wanted : Token → Type 0 = λ t. Spells d t front rest in
    subst Wanted same (name, is, e)

pub run_begins : (p q : ℕ → Bool) (text : List ℕ) → ((c : ℕ) → q c ≡ true → p c ≡ true) → first_is q text ≡ true → first_is q (run_of p text) ≡ true
run_begins p q [] more h = absurd (cc)
run_begins p q (c ∷ cs) more h = rw (more c h) h

pub word_sound : (d : DialectMeaning) (front rest : List ℕ) (v : Token) → first_is begins_word front ≡ true → word_of d front rest ≡ Some v → Spells d v front rest
word_sound d front rest v begins e =
    let run = run_of is_word_character front in
    let past = past_run is_word_character front in
    elim (cases_Bool (list_all is_word_character front)) [
      | inl all ↦ elim (cases_Bool (first_is is_word_character rest)) [
        | inl p ↦ let no : ◌≡◌ {A = Option Token} None (Some v) = rw (all, p) at e in absurd (none_some v no)
        | inr p ↦ let more : boolean_or_word d front (d.find kinds.Boolean front) ≡ Some v = rw (all, p) at e in
            whole_sound d front rest (d.find kinds.Boolean front) v ((begins, all), p) refl more
      ]
      | inr some ↦ elim (cases_Bool (bytes_eq (past_run is_blank past) (codes "("))) [
        | inl p ↦ let more : head_token run (d.find kinds.Function run) ≡ Some v = rw (some, p) at e in
            head_sound d front rest run (d.find kinds.Function run) v (record {
              blanks = run_of is_blank past;
              whole = run_and_rest is_word_character front ∙ ap (λ t. run ++ t) (run_and_rest is_blank past ∙ ap (λ t. run_of is_blank past ++ t) ((bytes_eq-Decides (past_run is_blank past) (codes "(")).0 p)) ∙ sym (append_assoc run (run_of is_blank past) (40 ∷ []));
              run = (run_begins is_word_character begins_word front begins_goes_on begins, all_of_run is_word_character front);
              blank = all_of_run is_blank past;
            }) refl more
        | inr p ↦ let no : ◌≡◌ {A = Option Token} None (Some v) = rw (some, p) at e in absurd (none_some v no)
      ]
    ]

pub word_is_boolean : (d : DialectMeaning) (front rest : List ℕ) (value : Bool) → Spells d (Boolean value) front rest → word_of d front rest ≡ Some (Boolean value)
word_is_boolean d front rest true s = rw (s.0.0.1, s.0.1, s.1) refl
word_is_boolean d front rest false s = rw (s.0.0.1, s.0.1, s.1) refl

pub word_is_word : (d : DialectMeaning) (front rest text : List ℕ) → Spells d (Word text) front rest → word_of d front rest ≡ Some (Word text)
word_is_word d front rest text s =
    let none : d.find kinds.Boolean front ≡ None = ap (d.find kinds.Boolean) s.0 ∙ s.3 in
    let variable : is_variable front ≡ true = ap is_variable s.0 ∙ s.2 in
    rw (s.1.0.1, s.1.1, none, variable) (ap (λ t. Some (Word t)) s.0)

blanks_stop : (blanks : List ℕ) → list_all is_blank blanks ≡ true → first_is is_word_character (blanks ++ 40 ∷ []) ≡ false
blanks_stop [] h = bracket_no_word
blanks_stop (c ∷ cs) h = blank_no_word c ((and_parts (is_blank c) (list_all is_blank cs) h).0)

pub word_is_head : (d : DialectMeaning) (front rest name : List ℕ) → IsHead name front → word_of d front rest ≡ head_token name (d.find kinds.Function name)
word_is_head d front rest name is =
    let after : List ℕ = is.blanks ++ 40 ∷ [] in
    let whole : front ≡ name ++ (is.blanks ++ 40 ∷ []) = is.whole ∙ append_assoc name is.blanks (40 ∷ []) in
    let stop : first_is is_word_character after ≡ false = blanks_stop is.blanks is.blank in
    let some : list_all is_word_character front ≡ false =
    ap (list_all is_word_character) is.whole ∙ not_all_past is_word_character (name ++ is.blanks) [] 40 bracket_no_word in
    let run : run_of is_word_character front ≡ name = ap (run_of is_word_character) whole ∙ run_of_all is_word_character name after is.run.1 stop in
    let past : past_run is_word_character front ≡ after = ap (past_run is_word_character) whole ∙ past_run_all is_word_character name after is.run.1 stop in
    let bracket : past_run is_blank (past_run is_word_character front) ≡ codes "(" = ap (past_run is_blank) past ∙ past_run_all is_blank is.blanks (40 ∷ []) is.blank refl in
    let yes : bytes_eq (past_run is_blank (past_run is_word_character front)) (codes "(") ≡ true = (bytes_eq-Decides (past_run is_blank (past_run is_word_character front)) (codes "(")).1 bracket in
    rw (some, yes, run) refl
