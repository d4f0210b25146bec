-- The tokens of a text before the first place where none begins: one after another, and all of them where the text ends
-- there.
use Rattle.std.proofs.Common.{◌≡◌, ℕ, zero, suc, ◌+◌, ◌<◌, List, [], ◌∷◌, Bool, true, false, length, Option, Some, None, option_and_then, option_map, refl, sym, ◌∙◌, ap, inl, inr, arith, nat_eq, if◌then◌else◌}
use Rattle.std.proofs.lemmas.Bool.{cases_Bool}
use Rattle.std.proofs.lemmas.Bool.Decides.{nat_tests}
use Rattle.ic_laws.specs.Dialect.{DialectMeaning, IsLawful}
use Rattle.ic_laws.specs.Parse.{parsed}
use Rattle.ic_laws.specs.ReadAs.{read_as}
use Rattle.ic_laws.specs.NextToken.{after_token, next_tokens, tokens_by, tokens_of}
use Rattle.ic_laws.specs.Scan.{is_blank, past_run}
use Rattle.ic_laws.specs.Token.{Token}
use Rattle.ic_laws.specs.TokenKinds.{token_by_kinds}
use Rattle.ic_laws.proofs.tokens.Kinds.{by_kinds}
use Rattle.ic_laws.proofs.tokens.Splits.{none_some}
use Rattle.ic_tree.specs.Lexing.{and_then, ends_whole, lexed_by, lexed_from, tokens_before}
use Rattle.ic_tree.proofs.FirstLemmas.{nothing_there, token_takes}
use Rattle.ic_tree.proofs.WordLemmas.{past_run_within}

-- more fuel changes nothing
same_and : (d : DialectMeaning) → IsLawful d → (text : List ℕ) (more other : List ℕ → List Token × Bool) → ((rest : List ℕ) → length rest < length text → more rest ≡ other rest)
    → (next : Option (Token × List ℕ)) → token_by_kinds d text ≡ next → and_then more next ≡ and_then other next
same_and d n text more other same None e = refl
same_and d n text more other same (Some f) e = ap (λ (r : List Token × Bool). let p : List Token × Bool = (f.0 ∷ r.0, r.1) in p) (same f.1 (token_takes d n text f e))

same_from : (d : DialectMeaning) → IsLawful d → (more other : List ℕ → List Token × Bool) (text : List ℕ) → ((rest : List ℕ) → length rest < length text → more rest ≡ other rest) → lexed_from more d text ≡ lexed_from other d text
same_from d n more other [] same = refl
same_from d n more other (c ∷ cs) same = same_and d n (c ∷ cs) more other same (token_by_kinds d (c ∷ cs)) refl

same_fuel : (d : DialectMeaning) → IsLawful d → (m k : ℕ) (text : List ℕ) → length text < m → length text < k → lexed_by d m text ≡ lexed_by d k text
unfolding lexed_by
same_fuel d n zero k text a b = absurd (omega (arith, a))
same_fuel d n (suc m) zero text a b = absurd (omega (arith, b))
same_fuel d n (suc m) (suc k) text a b =
    same_from d n (lexed_by d m) (lexed_by d k) (past_run is_blank text) (λ rest short. let within = past_run_within is_blank text in same_fuel d n m k rest (omega (arith, short, within, a)) (omega (arith, short, within, b)))

abbrev pub lexed : DialectMeaning → List ℕ → List Token × Bool
lexed d text = lexed_by d (length text + 1) text

-- one step
pub lexed_step : (d : DialectMeaning) → IsLawful d → (text : List ℕ) → lexed d text ≡ lexed_from (lexed d) d (past_run is_blank text)
unfolding lexed_by
lexed_step d n text =
    same_fuel d n (length text + 1) (suc (length text)) text (omega arith) (omega arith)
    ∙ same_from d n (lexed_by d (length text)) (lexed d) (past_run is_blank text) (λ rest short. let within = past_run_within is_blank text in same_fuel d n (length text) (length rest + 1) rest (omega (arith, short, within)) (omega arith))

-- a text falls into tokens where they end at its end
abbrev pub if_whole : List Token × Bool → Option (List Token)
if_whole lexed = if lexed.1 then Some lexed.0 else None

whole_and : (more : List ℕ → Option (List Token)) (other : List ℕ → List Token × Bool) → ((rest : List ℕ) → more rest ≡ if_whole (other rest)) → (next : Option (Token × List ℕ)) → after_token more next ≡ if_whole (and_then other next)
whole_and more other same None = refl
whole_and more other same (Some f) = ap (option_map (λ ts. f.0 ∷ ts)) (same f.1) ∙ onto f.0 (other f.1)
  where
    onto_if : (t : Token) (ts : List Token) (b : Bool) → option_map (λ us. t ∷ us) (if b then Some ts else None) ≡ (if b then Some (t ∷ ts) else None)
    onto_if t ts true = refl
    onto_if t ts false = refl

    onto : (t : Token) (r : List Token × Bool) → option_map (λ us. t ∷ us) (if_whole r) ≡ if_whole (t ∷ r.0, r.1)
    onto t r = onto_if t r.0 r.1

whole_from : (d : DialectMeaning) → IsLawful d → (more : List ℕ → Option (List Token)) (other : List ℕ → List Token × Bool) (text : List ℕ) → ((rest : List ℕ) → more rest ≡ if_whole (other rest)) → next_tokens more d text ≡ if_whole (lexed_from other d text)
whole_from d n more other [] same = refl
whole_from d n more other (c ∷ cs) same = ap (after_token more) (sym (by_kinds d n (c ∷ cs))) ∙ whole_and more other same (token_by_kinds d (c ∷ cs))

whole_by : (d : DialectMeaning) → IsLawful d → (fuel : ℕ) (text : List ℕ) → tokens_by d fuel text ≡ if_whole (lexed_by d fuel text)
unfolding lexed_by tokens_by
whole_by d n zero text = refl
whole_by d n (suc fuel) text = whole_from d n (tokens_by d fuel) (lexed_by d fuel) (past_run is_blank text) (whole_by d n fuel)

pub tokens_whole : (d : DialectMeaning) → IsLawful d → (text : List ℕ) → tokens_of d text ≡ (if ends_whole d text then Some (tokens_before d text) else None)
tokens_whole d n text = whole_by d n (length text + 1) text

-- what stands first after blanks
past_twice : (p : ℕ → Bool) (text : List ℕ) → past_run p (past_run p text) ≡ past_run p text
past_twice p [] = refl
past_twice p (c ∷ cs) = elim (cases_Bool (p c)) [ inl e ↦ rw e (past_twice p cs) | inr e ↦ rw e (rw e refl) ]

blanks_aside : (d : DialectMeaning) → IsLawful d → (text rest : List ℕ) → rest ≡ past_run is_blank text → (lexed d text ≡ lexed_from (lexed d) d rest) × (lexed d rest ≡ lexed d text)
blanks_aside d n text rest e =
    let here : lexed d text ≡ lexed_from (lexed d) d rest = lexed_step d n text ∙ ap (lexed_from (lexed d) d) (sym e) in
    let there : lexed d rest ≡ lexed_from (lexed d) d rest = lexed_step d n rest ∙ ap (lexed_from (lexed d) d) (ap (past_run is_blank) e ∙ past_twice is_blank text ∙ sym e) in
    (here, there ∙ sym here)

none_from : (d : DialectMeaning) (rest : List ℕ) → None ≡ token_by_kinds d rest → (lexed_from (lexed d) d rest).0 ≡ []
none_from d [] e = refl
none_from d (c ∷ cs) e = ap (λ o. (and_then (lexed d) o).0) (sym e)

some_from : (d : DialectMeaning) → IsLawful d → (rest : List ℕ) (f : Token × List ℕ) → Some f ≡ token_by_kinds d rest → lexed_from (lexed d) d rest ≡ (f.0 ∷ (lexed d f.1).0, (lexed d f.1).1)
some_from d n [] f e = absurd (none_some f (sym (nothing_there d n) ∙ sym e))
some_from d n (c ∷ cs) f e = ap (and_then (lexed d)) (sym e)

pub none_first : (d : DialectMeaning) → IsLawful d → (text rest : List ℕ) → rest ≡ past_run is_blank text → None ≡ token_by_kinds d rest → (tokens_before d text ≡ []) × (tokens_before d rest ≡ []) × (ends_whole d rest ≡ ends_whole d text)
none_first d n text rest e none =
    let b = blanks_aside d n text rest e in
    let last : tokens_before d text ≡ [] = ap (λ (r : List Token × Bool). r.0) b.0 ∙ none_from d rest none in
    (last, ap (λ (r : List Token × Bool). r.0) b.1 ∙ last, ap (λ (r : List Token × Bool). r.1) b.1)

pub some_first : (d : DialectMeaning) → IsLawful d → (text rest : List ℕ) (f : Token × List ℕ) → rest ≡ past_run is_blank text → Some f ≡ token_by_kinds d rest → (tokens_before d text ≡ f.0 ∷ tokens_before d f.1) × (ends_whole d f.1 ≡ ends_whole d text)
some_first d n text rest f e some =
    let step = (blanks_aside d n text rest e).0 ∙ some_from d n rest f some in
    (ap (λ (r : List Token × Bool). r.0) step, sym (ap (λ (r : List Token × Bool). r.1) step))

-- where no token is left, the text is at its end where nothing but blanks stand there
end_from : (d : DialectMeaning) (rest : List ℕ) → (lexed_from (lexed d) d rest).0 ≡ [] → nat_eq (length rest) 0 ≡ (lexed_from (lexed d) d rest).1
end_from d [] e = refl
end_from d (c ∷ cs) e = by_next (token_by_kinds d (c ∷ cs)) e
  where
    by_next : (next : Option (Token × List ℕ)) → (and_then (lexed d) next).0 ≡ [] → nat_eq (suc (length cs)) 0 ≡ (and_then (lexed d) next).1
    by_next None e = grind (arith, nat_tests)
    by_next (Some f) e = absurd (cc)

pub at_end : (d : DialectMeaning) → IsLawful d → (text rest : List ℕ) → rest ≡ past_run is_blank text → tokens_before d text ≡ [] → nat_eq (length rest) 0 ≡ ends_whole d text
at_end d n text rest e none =
    let here = (blanks_aside d n text rest e).0 in
    end_from d rest (ap (λ (r : List Token × Bool). r.0) (sym here) ∙ none) ∙ ap (λ (r : List Token × Bool). r.1) (sym here)

-- a text reads as the formula of the tokens before the first place where none begins, where that is its end
pub read_by_tokens : (d : DialectMeaning) → IsLawful d → (text : List ℕ) (whole : Bool) (tokens : List Token) → whole ≡ ends_whole d text → tokens ≡ tokens_before d text → (if whole then parsed d tokens else None) ≡ read_as d text
read_by_tokens d n text whole tokens is_whole are =
    ap (λ b. if b then parsed d tokens else None) is_whole ∙ ap (λ ts. if ends_whole d text then parsed d ts else None) are
    ∙ under (ends_whole d text) (tokens_before d text) ∙ ap (option_and_then (parsed d)) (sym (tokens_whole d n text))
  where
    under : (b : Bool) (ts : List Token) → (if b then parsed d ts else None) ≡ option_and_then (parsed d) (if b then Some ts else None)
    under true ts = refl
    under false ts = refl
