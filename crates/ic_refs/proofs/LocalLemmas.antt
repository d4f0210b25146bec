-- Words with their sheets at a byte of a text.
use Rattle.std.proofs.Common.{◌≡◌, ℕ, ◌-◌, ◌<◌, ◌^◌, ◌/◌, ◌%◌, ◌==◌, List, [], ◌∷◌, ◌++◌, true, length, drop, Some, None, option_map, chars, encode_utf8_all, IsUtf8, refl, sym, ◌∙◌, ap, inl, inr, arith, length-append, if◌then◌else◌}
use Rattle.std.specs.Fmt.{decimal}
use Rattle.std.specs.Str.{IsCharBoundary}
use Rattle.std.proofs.lemmas.Bool.{and_parts, both_ways, cases_Bool}
use Rattle.std.proofs.lemmas.Fmt.{digits_decimal, decimal_nonempty}
use Rattle.std.proofs.lemmas.Option.{none-some}
use Rattle.std.proofs.lemmas.Str.{encodes-append, encodes-chars, IsUtf8-drop}
use Rattle.ic_laws.proofs.AmountLemmas.{numerals}
use Rattle.ic_laws.specs.Amount.{fraction_digits, units_of_one, unsigned_text}
use Rattle.ic_laws.specs.Scan.{IsEnd, is_digit}
use Rattle.ic_laws.specs.SheetText.{ReadLocal, read_local}
use Rattle.ic_laws.proofs.printing.Operands.{digits_first}
use Rattle.ic_laws.proofs.printing.Words.{form_run, letter_begins}
use Rattle.ic_laws.proofs.tokens.Locals.{local_complete, local_sound, read_no_digit, read_no_run}
use Rattle.ic_refs.specs.Local.{FindsLocalAt, IsOtherWord, LocalAt, OfAmount, OfFunction, OfWord}
use Rattle.ic_refs.specs.Longest.{is_char_boundary, read_at}
use Rattle.ic_refs.proofs.OffsetLemmas.{boundary_holds, boundary_true}

abbrev sized : List ℕ → (List ℕ × List ℕ) × List ℕ → LocalAt
sized bytes f = (f.0, length bytes - length (encode_utf8_all f.1))

-- what is found at a byte stands there
found_from : (text : List ℕ) (at : ℕ) (found : ReadLocal) → IsUtf8 text → IsCharBoundary text at → read_local (chars (drop at text)) ≡ found → FindsLocalAt text at (option_map (sized (drop at text)) found)
found_from text at None u b e = λ _ front rest sheet word whole s stop.
    none-some ((sheet, word), rest) (sym e ∙ ap read_local whole ∙ local_complete front sheet word rest s stop)
found_from text at (Some f) u b e =
    let s = local_sound (chars (drop at text)) f.0.0 f.0.1 f.1 e in
    let bytes : drop at text ≡ encode_utf8_all s.0 ++ encode_utf8_all f.1 = sym (encodes-chars (drop at text) (IsUtf8-drop text at u b)) ∙ ap encode_utf8_all s.1 ∙ encodes-append s.0 f.1 in
    (b, (s.0, f.1, s.1, s.2, s.3, omega (arith, ap length bytes, length-append (encode_utf8_all s.0) (encode_utf8_all f.1))))

pub finds_local_at : (text : List ℕ) (at : ℕ) → IsUtf8 text → FindsLocalAt text at (read_at read_local text at)
finds_local_at text at u = elim (cases_Bool (is_char_boundary text at)) [
  | inl e ↦ rw e (found_from text at (read_local (chars (drop at text))) u (boundary_holds text at e) refl)
  | inr e ↦ rw e (λ b. absurd (both_ways (is_char_boundary text at) e (boundary_true text at b)))
]

-- where another word stands before an end, none begins
amount_first : (decimal_mark units : ℕ) → units < 10 ^ 27 → (rest : List ℕ) → (c : ℕ) × (cs : List ℕ) × (unsigned_text decimal_mark units ++ rest ≡ c ∷ cs) × (is_digit c ≡ true)
amount_first decimal_mark units small rest =
    let w : ℕ = units / units_of_one in
    let large : w < 2 ^ 64 = omega arith in
    let a = digits_first (decimal w) (if units % units_of_one == 0 then [] else decimal_mark ∷ fraction_digits 9 (units % units_of_one)) (digits_decimal numerals w large) (decimal_nonempty w large) in
    (a.0, a.1 ++ rest, ap (λ t. t ++ rest) a.2, a.3)

pub none_at_other : (front rest : List ℕ) → IsOtherWord front → IsEnd rest → read_local (front ++ rest) ≡ None
none_at_other front rest (OfAmount decimal_mark units small) end =
    let a = amount_first decimal_mark units small rest in
    ap read_local a.2 ∙ read_no_digit a.0 a.1 a.3
none_at_other front rest (OfWord word form) end = let run = form_run word rest form end in read_no_run word rest run.0.0 run.0.1 end
none_at_other front rest (OfFunction word shape) end = let p = and_parts _ _ shape in read_no_run word rest (letter_begins word p.0) p.1 end

pub none_found_at : (text front rest : List ℕ) (at : ℕ) → chars (drop at text) ≡ front ++ rest → IsOtherWord front → IsEnd rest → read_at read_local text at ≡ None
none_found_at text front rest at whole other end =
    elim (cases_Bool (is_char_boundary text at)) [
      | inl e ↦ rw e (ap (option_map (sized (drop at text))) (ap read_local whole ∙ none_at_other front rest other end))
      | inr e ↦ rw e refl
    ]
