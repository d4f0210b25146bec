-- Texts by their characters and by their bytes, and runs of characters.
use Rattle.std.proofs.Common.{Bool, false, ◌≡◌, ℕ, ◌-◌, ◌≤◌, List, [], ◌∷◌, ◌++◌, length, take, IsUtf8, chars, encode_utf8_all, refl, sym, subst, ◌∙◌, ap, inl, inr, arith, nat_eq, suc}
use Rattle.std.specs.Str.{IsCharBoundary, all_ascii_digits}
use Rattle.std.specs.List.{list_all}
use Rattle.std.proofs.lemmas.Bool.{cases_Bool}
use Rattle.std.proofs.lemmas.Bool.Decides.{nat_tests}
use Rattle.std.proofs.lemmas.List.{append_cancel_right, length-append, take_at}
use Rattle.std.proofs.lemmas.Str.{chars-append, encodes-chars, encodes-append, IsUtf8-take, IsCharBoundary-at_seam}
use Rattle.ic_laws.specs.Scan.{EndsWith, run_of, past_run, is_digit}

-- a text that ends with another by its characters does so by its bytes
pub bytes_end : (text rest front : List ℕ) → IsUtf8 text → IsUtf8 rest → chars text ≡ front ++ chars rest → text ≡ encode_utf8_all front ++ rest
bytes_end text rest front u v e =
    sym (encodes-chars text u) ∙ ap encode_utf8_all e ∙ encodes-append front (chars rest) ∙ ap (λ r. encode_utf8_all front ++ r) (encodes-chars rest v)

-- so it is as long or longer, and may be cut before the other
pub end_fits : (text rest front : List ℕ) → IsUtf8 text → IsUtf8 rest → chars text ≡ front ++ chars rest → length rest ≤ length text
end_fits text rest front u v e = omega (arith, ap length (bytes_end text rest front u v e), length-append (encode_utf8_all front) rest)

front_length : (text rest front : List ℕ) → text ≡ front ++ rest → length text - length rest ≡ length front
front_length text rest front e = omega (arith, ap length e, length-append front rest)

pub end_boundary : (text rest front : List ℕ) → IsUtf8 text → IsUtf8 rest → chars text ≡ front ++ chars rest → IsCharBoundary text (length text - length rest)
end_boundary text rest front u v e =
    let b = bytes_end text rest front u v e in
    rw (front_length text rest (encode_utf8_all front) b) (IsCharBoundary-at_seam text (encode_utf8_all front) rest b v)

pub front_before : (text rest front taken : List ℕ) → IsUtf8 text → IsUtf8 rest → chars text ≡ front ++ chars rest → taken ≡ take (length text - length rest) text → chars text ≡ chars taken ++ chars rest
front_before text rest front taken u v e t =
    let b = bytes_end text rest front u v e in
    let f : taken ≡ encode_utf8_all front =
    t ∙ ap (λ n. take n text) (front_length text rest (encode_utf8_all front) b) ∙ ap (take (length (encode_utf8_all front))) b ∙ take_at (encode_utf8_all front) rest (length (encode_utf8_all front)) refl in
    let w : IsUtf8 taken = subst IsUtf8 (sym t) (IsUtf8-take text (length text - length rest) u (end_boundary text rest front u v e)) in
    ap chars (b ∙ ap (λ x. x ++ rest) (sym f)) ∙ chars-append taken rest w

-- a run, and what stands after it
pub run_and_rest : (p : ℕ → Bool) (text : List ℕ) → text ≡ run_of p text ++ past_run p text
run_and_rest p [] = refl
run_and_rest p (c ∷ cs) = elim (cases_Bool (p c)) [ inl e ↦ rw e (ap (λ t. c ∷ t) (run_and_rest p cs)) | inr e ↦ rw e refl ]

-- what stands before the rest is the run
pub run_before_rest : (p : ℕ → Bool) (text front rest : List ℕ) → rest ≡ past_run p text → text ≡ front ++ rest → front ≡ run_of p text
run_before_rest p text front rest r e =
    append_cancel_right front (run_of p text) rest (sym e ∙ run_and_rest p text ∙ ap (λ t. run_of p text ++ t) (sym r))

something : (n : ℕ) → nat_eq (suc n) 0 ≡ false
something n = grind (arith, nat_tests)

-- nothing is left after a run of a text that has such characters alone
pub nothing_left : (p : ℕ → Bool) (text : List ℕ) → nat_eq (length (past_run p text)) 0 ≡ list_all p text
nothing_left p [] = refl
nothing_left p (c ∷ cs) = elim (cases_Bool (p c)) [ inl e ↦ rw e (nothing_left p cs) | inr e ↦ rw e (something (length cs)) ]

pub nothing_past_digits : (text : List ℕ) → nat_eq (length (past_run is_digit text)) 0 ≡ all_ascii_digits text
nothing_past_digits [] = refl
nothing_past_digits (c ∷ cs) = elim (cases_Bool (is_digit c)) [ inl e ↦ rw e (nothing_past_digits cs) | inr e ↦ rw e (something (length cs)) ]

-- a text ends with what stands after a run of it
pub ends_with_rest : (p : ℕ → Bool) (text rest : List ℕ) → rest ≡ past_run p text → EndsWith text rest
ends_with_rest p text rest e = (run_of p text, run_and_rest p text ∙ ap (λ r. run_of p text ++ r) (sym e))
