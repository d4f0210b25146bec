-- The readers of words and of heads.
use Rattle.std.proofs.Common.{◌≡◌, ℕ, List, [], ◌∷◌, ◌++◌, Bool, true, false, Option, Some, None, option_map, refl, sym, ◌∙◌, ap, subst, inl, inr, append_assoc}
use Rattle.std.specs.List.{list_all}
use Rattle.std.proofs.lemmas.Bool.{and_parts, cases_Bool}
use Rattle.std.proofs.lemmas.Option.{cond_some}
use Rattle.std.proofs.lemmas.Bool.Decides.{eqb_tells}
use Rattle.ic_laws.specs.Scan.{begins_word, first_is, is_blank, is_word_character, run_of, past_run}
use Rattle.ic_laws.specs.Name.{is_variable}
use Rattle.ic_laws.specs.Dialect.{DialectMeaning, boolean_number}
use Rattle.ic_laws.specs.Token.{Token, Boolean, Word, FunHead, NameHead, IsHead, IsWholeRun}
use Rattle.ic_laws.specs.declared.dialect.WordKind.TheVariants as kinds
use Rattle.ic_laws.proofs.RunLemmas.{run_and_rest}
use Rattle.ic_laws.specs.TokenKinds.{OfKind, is_head, is_word, word_at, head_at, head_before}
use Rattle.ic_laws.specs.NextToken.{boolean_or_word, head_token, word_of, numbered}
use Rattle.ic_laws.proofs.tokens.Characters.{begins_goes_on, bracket_no_word, blank_no_word, run_of_all, past_run_all, all_of_run}
use Rattle.ic_laws.proofs.tokens.Words.{whole_sound, head_sound, run_begins, word_is_boolean, word_is_word}
use Rattle.ic_laws.proofs.tokens.Plain.{first_front}
use Rattle.ic_laws.proofs.tokens.Splits.{none_some, mapped}

pub past_stops : (p : ℕ → Bool) (text : List ℕ) → first_is p (past_run p text) ≡ false
past_stops p [] = refl
past_stops p (c ∷ cs) = elim (cases_Bool (p c)) [ inl e ↦ rw e (past_stops p cs) | inr e ↦ rw e e ]

pub word_kind : (d : DialectMeaning) (run : List ℕ) (found : Option ℕ) (v : Token) → boolean_or_word d run found ≡ Some v → is_word v ≡ true
word_kind d run None v e = let p = cond_some (is_variable run) (Word run) v e in ap is_word (sym p.1)
word_kind d run (Some n) v e = let p = mapped Boolean (numbered boolean_number (false ∷ true ∷ []) n) v e in ap is_word (sym p.2)

pub head_kind : (name : List ℕ) (found : Option ℕ) (v : Token) → head_token name found ≡ Some v → is_head v ≡ true
head_kind name None v e = let p = cond_some (is_variable name) (NameHead name) v e in ap is_head (sym p.1)
head_kind name (Some n) v e = let same : FunHead n ≡ v = cc in ap is_head (sym same)

pub word_at_sound : (d : DialectMeaning) (text rest : List ℕ) (v : Token) → word_at d text ≡ Some (v, rest) → (front : List ℕ) × (text ≡ front ++ rest) × OfKind is_word d v front rest
word_at_sound d text rest v e =
    let run = run_of is_word_character text in
    let past = past_run is_word_character text in
    elim (cases_Bool (first_is begins_word text)) [
      | inl p ↦ let more : option_map {U = Token × List ℕ} (λ t. (t, past)) (boolean_or_word d run (d.find kinds.Boolean run)) ≡ Some (v, rest) = rw p at e in
          let q = mapped (λ (t : Token). (t, past)) (boolean_or_word d run (d.find kinds.Boolean run)) (v, rest) more in
          let token : q.0 ≡ v = ap (λ (f : Token × List ℕ). f.0) q.2 in
          let after : past ≡ rest = ap (λ (f : Token × List ℕ). f.1) q.2 in
          let whole : IsWholeRun run past = ((run_begins is_word_character begins_word text begins_goes_on p, all_of_run is_word_character text), past_stops is_word_character text) in
          let s : OfKind is_word d q.0 run past = (word_kind d run (d.find kinds.Boolean run) q.0 q.1, whole_sound d run past (d.find kinds.Boolean run) q.0 whole refl q.1) in
          let Wanted : Token → Type 0 = λ t. OfKind is_word d t run rest in
          let Rest : List ℕ → Type 0 = λ r. OfKind is_word d q.0 run r in
          (run, run_and_rest is_word_character text ∙ ap (λ r. run ++ r) after, subst Wanted token (subst Rest after s))
      | inr p ↦ let no : ◌≡◌ {A = Option (Token × List ℕ)} None (Some (v, rest)) = rw p at e in absurd (none_some (v, rest) no)
    ]

word_at_whole : (d : DialectMeaning) (front rest : List ℕ) (v : Token) → IsWholeRun front rest → word_of d front rest ≡ Some v → word_at d (front ++ rest) ≡ Some (v, rest)
word_at_whole d front rest v whole e =
    let read : boolean_or_word d front (d.find kinds.Boolean front) ≡ Some v = rw (whole.0.1, whole.1) at e in
    let begins : first_is begins_word (front ++ rest) ≡ true = first_front begins_word front rest whole.0.0 in
    let run : run_of is_word_character (front ++ rest) ≡ front = run_of_all is_word_character front rest whole.0.1 whole.1 in
    let past : past_run is_word_character (front ++ rest) ≡ rest = past_run_all is_word_character front rest whole.0.1 whole.1 in
    rw (begins, run, past, read) refl

pub word_at_complete : (d : DialectMeaning) (front rest : List ℕ) (v : Token) → OfKind is_word d v front rest → word_at d (front ++ rest) ≡ Some (v, rest)
word_at_complete d front rest (Boolean value) s = word_at_whole d front rest (Boolean value) s.1.0 (word_is_boolean d front rest value s.1)
word_at_complete d front rest (Word text) s = word_at_whole d front rest (Word text) s.1.1 (word_is_word d front rest text s.1)
word_at_complete d front rest v s = absurd (cc)

-- Heads.
head_parts : (d : DialectMeaning) (name after rest : List ℕ) (v : Token) → head_before d name after ≡ Some (v, rest) → (after ≡ 40 ∷ rest) × (head_token name (d.find kinds.Function name) ≡ Some v)
head_parts d name [] rest v e = absurd (none_some (v, rest) e)
head_parts d name (c ∷ cs) rest v e =
    elim (eqb_tells c 40) [
      | inl p ↦ let more : option_map {U = Token × List ℕ} (λ t. (t, cs)) (head_token name (d.find kinds.Function name)) ≡ Some (v, rest) = rw (p.0) at e in
          let q = mapped (λ (t : Token). (t, cs)) (head_token name (d.find kinds.Function name)) (v, rest) more in
          (ap (λ x. x ∷ cs) p.1 ∙ ap (λ r. 40 ∷ r) (ap (λ (f : Token × List ℕ). f.1) q.2), q.1 ∙ ap (λ t. Some t) (ap (λ (f : Token × List ℕ). f.0) q.2))
      | inr p ↦ let no : ◌≡◌ {A = Option (Token × List ℕ)} None (Some (v, rest)) = rw (p.0) at e in absurd (none_some (v, rest) no)
    ]

pub head_at_sound : (d : DialectMeaning) (text rest : List ℕ) (v : Token) → head_at d text ≡ Some (v, rest) → (front : List ℕ) × (text ≡ front ++ rest) × OfKind is_head d v front rest
head_at_sound d text rest v e =
    let run = run_of is_word_character text in
    let past = past_run is_word_character text in
    let blanks = run_of is_blank past in
    let after = past_run is_blank past in
    elim (cases_Bool (first_is begins_word text)) [
      | inl p ↦ let more : head_before d run after ≡ Some (v, rest) = rw p at e in
          let q = head_parts d run after rest v more in
          let front : List ℕ = run ++ blanks ++ 40 ∷ [] in
          let is : IsHead run front = record {
            blanks = blanks;
            whole = refl;
            run = (run_begins is_word_character begins_word text begins_goes_on p, all_of_run is_word_character text);
            blank = all_of_run is_blank past;
          } in (
            front,
            run_and_rest is_word_character text ∙ ap (λ r. run ++ r) (run_and_rest is_blank past ∙ ap (λ r. blanks ++ r) q.0)
                ∙ sym (append_assoc run blanks (40 ∷ rest)) ∙ sym (append_assoc (run ++ blanks) (40 ∷ []) rest),
            (head_kind run (d.find kinds.Function run) v q.1, head_sound d front rest run (d.find kinds.Function run) v is refl q.1),
          )
      | inr p ↦ let no : ◌≡◌ {A = Option (Token × List ℕ)} None (Some (v, rest)) = rw p at e in absurd (none_some (v, rest) no)
    ]

blanks_end : (blanks rest : List ℕ) → list_all is_blank blanks ≡ true → first_is is_word_character (blanks ++ 40 ∷ rest) ≡ false
blanks_end [] rest h = bracket_no_word
blanks_end (c ∷ cs) rest h = blank_no_word c ((and_parts (is_blank c) (list_all is_blank cs) h).0)

head_at_head : (d : DialectMeaning) (front rest name : List ℕ) (v : Token) → IsHead name front → head_token name (d.find kinds.Function name) ≡ Some v → head_at d (front ++ rest) ≡ Some (v, rest)
head_at_head d front rest name v is e =
    let after : List ℕ = is.blanks ++ 40 ∷ rest in
    let whole : front ++ rest ≡ name ++ after =
    ap (λ f. f ++ rest) is.whole ∙ append_assoc (name ++ is.blanks) (40 ∷ []) rest ∙ append_assoc name is.blanks (40 ∷ rest) in
    let stop : first_is is_word_character after ≡ false = blanks_end is.blanks rest is.blank in
    let begins : first_is begins_word (front ++ rest) ≡ true = ap (first_is begins_word) whole ∙ first_front begins_word name after is.run.0 in
    let run : run_of is_word_character (front ++ rest) ≡ name = ap (run_of is_word_character) whole ∙ run_of_all is_word_character name after is.run.1 stop in
    let past : past_run is_blank (past_run is_word_character (front ++ rest)) ≡ 40 ∷ rest =
    ap (λ t. past_run is_blank (past_run is_word_character t)) whole ∙ ap (past_run is_blank) (past_run_all is_word_character name after is.run.1 stop)
    ∙ past_run_all is_blank is.blanks (40 ∷ rest) is.blank refl in
    rw (begins, run, past, e) refl

pub head_at_complete : (d : DialectMeaning) (front rest : List ℕ) (v : Token) → OfKind is_head d v front rest → head_at d (front ++ rest) ≡ Some (v, rest)
head_at_complete d front rest (FunHead number) s = head_at_head d front rest s.1.0 (FunHead number) s.1.1 (ap (head_token s.1.0) s.1.2)
head_at_complete d front rest (NameHead name) s =
    head_at_head d front rest name (NameHead name) s.1.0 (ap (head_token name) s.1.2 ∙ rw (s.1.1) refl)
head_at_complete d front rest v s = absurd (cc)
