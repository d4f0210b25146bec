-- Numbers, references and words with their sheets in their canonical spelling are read back; so each token is.
use Rattle.std.proofs.Common.{if◌then◌else◌, ◌≡◌, ℕ, pos, negsuc, ◌/◌, ◌%◌, ◌^◌, ◌<◌, ◌≤◌, List, [], ◌∷◌, ◌++◌, Bool, true, false, ◌&&◌, ◌||◌, ◌==◌, nat_le, length, Option, Some, None, option_map, refl, sym, ◌∙◌, ap, inl, inr, arith, append_assoc, append-nil, length-append}
use Rattle.std.specs.Fmt.{decimal}
use Rattle.std.specs.List.{list_all}
use Rattle.std.specs.Str.{all_ascii_digits}
use Rattle.std.proofs.lemmas.Bool.{and_parts, and_from, cases_Bool, or_left, or_right, leb-false, leb-true}
use Rattle.std.proofs.lemmas.Bool.Decides.{eqb_tells}
use Rattle.std.proofs.lemmas.Fmt.{digits_decimal, decimal_nonempty}
use Rattle.std.proofs.lemmas.List.{append_cancel_left}
use Rattle.std.proofs.lemmas.List.Folds.{list_all-append}
use Rattle.ucd_derived.proofs.Computing.{ucd_derived}
use Rattle.ic_laws.proofs.AmountLemmas.{numerals}
use Rattle.ic_laws.proofs.AmountTexts.{unsigned_amount-text}
use Rattle.ic_laws.specs.Amount.{units_of_one, fraction_digits, unsigned_amount, unsigned_text}
use Rattle.ic_laws.specs.Scan.{IsEnd, begins_word, first_is, is_blank, is_digit, is_letter, is_word_character, past_run}
use Rattle.ic_laws.specs.Dialect.{DialectMeaning, IsLawful, begins_reference, reference_text, OfAmount}
use Rattle.ic_laws.specs.Token.{Token, Num, Str, Boolean, Err, Ref, Local, Word, FunHead, NameHead, Separator, Operator, At, Percent, Hash, Open, Close, OpenBrace, CloseBrace, Semicolon, IsHead, Lexes}
use Rattle.ic_laws.specs.declared.reference.RefToken.{RefToken}
use Rattle.ic_laws.specs.Name.{is_identifier, is_sheet_name, needs_quotes}
use Rattle.ic_laws.specs.SheetText.{SpellsLocal, doubled, local_text, read_local, sheet_text}
use Rattle.ic_laws.specs.TokenKinds.{OfKind, is_number, is_word, is_head, head_at, local_at, reference_at, word_at}
use Rattle.ic_laws.specs.NextToken.{token_at}
use Rattle.ic_laws.specs.AmountFront.{number_in_one_pass}
use Rattle.ic_laws.specs.Following.{CanSpell, MayFollow, IsChain, IsNotCalled, NoDecimal, spelled_out}
use Rattle.ic_laws.specs.Split.{IsBest, FindsBest, longer}
use Rattle.ic_laws.proofs.tokens.Characters.{digit_begins_none, past_run_all}
use Rattle.ic_laws.proofs.tokens.Locals.{local_at_complete, name_begins, no_local_digit}
use Rattle.ic_laws.proofs.tokens.NameReaders.{head_at_sound, word_at_sound}
use Rattle.ic_laws.proofs.tokens.Next.{ComesAfter}
use Rattle.ic_laws.proofs.tokens.Numbers.{IsTail, amount_parts, number_in_one_pass_best, number_spelled, separator_apart}
use Rattle.ic_laws.proofs.printing.Chain.{TokensReadBack, chain_lexes}
use Rattle.ic_laws.proofs.printing.Signs.{IsRead, sign_read, at_read, percent_read, open_read, close_read, open_brace_read, close_brace_read, semicolon_read, hash_read, separator_read, text_read}
use Rattle.ic_laws.proofs.printing.Words.{begins_starts, end_no_word, error_read, word_read, boolean_read, name_head_read, fun_head_read, gives_way, keeps_first, of_start, same_kind, start_kinds, starts}
use Rattle.ic_laws.proofs.tokens.SheetTexts.{sheet_text_spells}
use Rattle.ic_laws.proofs.tokens.Splits.{front_in_front, mapped, none_some, same_split}

-- the characters of a number
abbrev in_number : ℕ → ℕ → Bool
in_number separator c = is_digit c || c == separator

digits_in : (separator : ℕ) (f : List ℕ) → list_all is_digit f ≡ true → list_all (in_number separator) f ≡ true
digits_in separator [] h = refl
digits_in separator (c ∷ cs) h = let p = and_parts _ _ h in and_from _ _ (or_left (is_digit c) (c == separator) p.0) (digits_in separator cs p.1)

tail_in : (separator : ℕ) (tail : List ℕ) → IsTail separator tail → list_all (in_number separator) tail ≡ true
tail_in separator [] h = refl
tail_in separator (c ∷ f) h =
    let same : (c == separator) ≡ true = elim (eqb_tells c separator) [ inl e ↦ e.0 | inr e ↦ absurd (e.1 h.0) ] in
    and_from _ _ (or_right (is_digit c) (c == separator) same) (digits_in separator f h.1)

number_chars : (separator : ℕ) (other : List ℕ) (u : ℕ) → unsigned_amount separator other ≡ Some u → list_all (in_number separator) other ≡ true
number_chars separator other u e =
    let p = amount_parts separator other u e in
    ap (list_all (in_number separator)) p.made ∙ list_all-append (in_number separator) p.whole p.tail ∙ and_from _ _ (digits_in separator p.whole p.digits) (tail_in separator p.tail p.tail_is)

-- no digit and no separator stands after
number_end : (d : DialectMeaning) (rest : List ℕ) → IsEnd rest → NoDecimal d rest → first_is (in_number d.decimal) rest ≡ false
number_end d [] h k = refl
number_end d (c ∷ cs) h k =
    let word : is_word_character c ≡ false = end_no_word (c ∷ cs) h in
    let digit : is_digit c ≡ false = no_digit c word in
    rw (digit, k) refl
  where
    digit_word : (c : ℕ) → is_digit c ≡ true → is_word_character c ≡ true
    digit_word c e = or_left _ _ (or_left _ _ (or_left _ _ (or_right (is_letter c) (is_digit c) e)))

    no_digit : (c : ℕ) → is_word_character c ≡ false → is_digit c ≡ false
    no_digit c w = elim (cases_Bool (is_digit c)) [
      | inl e ↦ let yes : is_word_character c ≡ true = digit_word c e in absurd (cc)
      | inr e ↦ e
    ]

-- a longer front of such characters would go on with one
no_more : (p : ℕ → Bool) (front rest other after : List ℕ) → front ++ rest ≡ other ++ after → list_all p other ≡ true → first_is p rest ≡ false → length rest ≤ length after
no_more p front rest other after e all stop =
    let f = front_in_front front rest other after e in
    elim f.2 [
      | inl m ↦ more f.0 m
      | inr m ↦ omega (arith, ap length e, length-append front rest, length-append other after, ap length m, length-append other f.1)
    ]
  where
    more : (m : List ℕ) → other ≡ front ++ m → length rest ≤ length after
    more [] m = omega (arith, ap length e, length-append front rest, length-append other after, ap length m, length-append front [])
    more (x ∷ xs) m =
        let rest_is : rest ≡ x ∷ xs ++ after = append_cancel_left front rest (x ∷ xs ++ after) (e ∙ ap (λ o. o ++ after) m ∙ append_assoc front (x ∷ xs) after) in
        let both : (list_all p front && list_all p (x ∷ xs)) ≡ true = sym (list_all-append p front (x ∷ xs)) ∙ ap (list_all p) (sym m) ∙ all in
        let yes : p x ≡ true = (and_parts (p x) (list_all p xs) (and_parts (list_all p front) (list_all p (x ∷ xs)) both).1).0 in
        let no : true ≡ false = sym yes ∙ ap (first_is p) (sym rest_is) ∙ stop in
        absurd (cc)

number_best : (d : DialectMeaning) → IsLawful d → (front rest : List ℕ) (units : ℕ) → unsigned_amount d.decimal front ≡ Some units → IsEnd rest → NoDecimal d rest
    → IsBest (OfKind is_number d) ComesAfter (front ++ rest) (Num (pos units)) rest
number_best d n front rest units e end decimal = record {
  front = front;
  whole = refl;
  spelled = (refl, ap (option_map pos) e);
  wins = λ other after v is s.
      let p = number_spelled d other after v s in
      let le : length rest ≤ length after = no_more (in_number d.decimal) front rest other after is (number_chars d.decimal other p.0 p.1) (number_end d rest end decimal) in
      elim (cases_Bool (nat_le (length after) (length rest))) [
        | inl q ↦ let split = same_split other after front rest (sym is) (omega (arith, le, leb-true (length after) (length rest) q)) in
            let units_are : ◌≡◌ {A = Option ℕ} (Some p.0) (Some units) = sym p.1 ∙ ap (unsigned_amount d.decimal) split.0 ∙ e in
            let same : p.0 ≡ units = cc in
            inr (split.1, inl (p.2 ∙ ap (λ u. Num (pos u)) same))
        | inr q ↦ inl (leb-false (length after) (length rest) q)
      ];
}

pub digits_first : (digits more : List ℕ) → all_ascii_digits digits ≡ true → 0 < length digits → (c : ℕ) × (cs : List ℕ) × (digits ++ more ≡ c ∷ cs) × (is_digit c ≡ true)
digits_first [] more all some = absurd (omega (arith, some))
digits_first (c ∷ cs) more all some = (c, cs ++ more, refl, (and_parts _ _ all).0)

pub digit_starts : (c : ℕ) → is_digit c ≡ true → starts c ≡ true
digit_starts c h = or_left _ _ (or_left _ _ (or_right (is_letter c) (is_digit c) h))

number_back : (d : DialectMeaning) → IsLawful d → (text rest : List ℕ) (c : ℕ) (cs : List ℕ) (units : ℕ) → text ≡ c ∷ cs → is_digit c ≡ true → number_in_one_pass d text ≡ Some (Num (pos units), rest)
    → ((r : RefToken) (after : List ℕ) → d.read_ref text ≡ Some (r, after) → length rest < length after) → token_at d text ≡ Some (Num (pos units), rest)
number_back d n text rest c cs units is digit found shorter =
    let none : begins_word c ≡ false = digit_begins_none c digit in
    let found' : number_in_one_pass d (c ∷ cs) ≡ Some (Num (pos units), rest) = ap (number_in_one_pass d) (sym is) ∙ found in
    ap (token_at d) is ∙ start_kinds d n c cs (digit_starts c digit) ∙ rw (no_local_digit c cs digit, none, found') (gives_way d (c ∷ cs) rest (Num (pos units)) (d.read_ref (c ∷ cs)) (λ r after e. shorter r after (ap d.read_ref is ∙ e)))

pub number_read : (d : DialectMeaning) → IsLawful d → (units : ℕ) (rest : List ℕ) → units < 10 ^ 27 → IsEnd rest → NoDecimal d rest → IsRead d (Num (pos units)) rest
number_read d n units rest small end apart =
    let front = unsigned_text d.decimal units in
    let text = front ++ rest in
    let w : ℕ = units / units_of_one in
    let large : w < 2 ^ 64 = omega arith in
    let read = unsigned_amount-text d.decimal units small (separator_apart d n) in
    let found : number_in_one_pass d text ≡ Some (Num (pos units), rest) =
    same_kind d is_number text rest (Num (pos units)) (number_in_one_pass d text) (number_in_one_pass_best d n text) (number_best d n front rest units read end apart) in
    let a = digits_first (decimal w) (if units % units_of_one == 0 then [] else d.decimal ∷ fraction_digits 9 (units % units_of_one)) (digits_decimal numerals w large) (decimal_nonempty w large) in
    number_back d n text rest a.0 (a.1 ++ rest) units (ap (λ t. t ++ rest) a.2) a.3 found (λ r after e. n.shorter_than front rest after r (OfAmount units small) end e)

-- References.
pub first_reference : (d : DialectMeaning) → IsLawful d → (text rest : List ℕ) (r : RefToken) → d.read_ref text ≡ Some (r, rest) → (c : ℕ) × (cs : List ℕ) × (text ≡ c ∷ cs) × (starts c ≡ true)
first_reference d n [] rest r e = absurd (none_some (r, rest) (sym (n.reference_begins [] refl) ∙ e))
first_reference d n (c ∷ cs) rest r e =
    elim (cases_Bool (begins_reference c)) [
      | inl b ↦ (c, cs, refl, or_left _ _ b)
      | inr b ↦ absurd (none_some (r, rest) (sym (n.reference_begins (c ∷ cs) b) ∙ e))
    ]

-- no head reaches past
bracket_after : (blanks m more after : List ℕ) (x : ℕ) → list_all is_blank blanks ≡ true → blanks ++ 40 ∷ [] ≡ m ++ x ∷ more → first_is (λ c. c == 40) (past_run is_blank (x ∷ more ++ after)) ≡ true
bracket_after blanks [] more after x all e =
    ap (λ t. first_is (λ c. c == 40) (past_run is_blank (t ++ after))) (sym e) ∙ ap (λ t. first_is (λ c. c == 40) (past_run is_blank t)) (append_assoc blanks (40 ∷ []) after)
    ∙ ap (first_is (λ c. c == 40)) (past_run_all is_blank blanks (40 ∷ after) all refl)
bracket_after [] (y ∷ ms) more after x all e = absurd (omega (arith, ap length e, length-append ms (x ∷ more)))
bracket_after (b ∷ bs) (y ∷ ms) more after x all e =
    let tails : bs ++ 40 ∷ [] ≡ ms ++ x ∷ more = cc in
    bracket_after bs ms more after x (and_parts _ _ all).1 tails

head_short : (front rest other after name blanks : List ℕ) → front ++ rest ≡ other ++ after → other ≡ name ++ (blanks ++ 40 ∷ []) → list_all is_word_character name ≡ true → list_all is_blank blanks ≡ true
    → first_is is_word_character rest ≡ false → IsNotCalled rest → length rest ≤ length after
head_short front rest other after name blanks e made word blank stop called =
    let f = front_in_front front rest other after e in
    elim f.2 [
      | inl m ↦ more f.0 m
      | inr m ↦ omega (arith, ap length e, length-append front rest, length-append other after, ap length m, length-append other f.1)
    ]
  where
    run_short : length rest ≤ length ((blanks ++ 40 ∷ []) ++ after)
    run_short = no_more is_word_character front rest name ((blanks ++ 40 ∷ []) ++ after) (e ∙ ap (λ o. o ++ after) made ∙ append_assoc name (blanks ++ 40 ∷ []) after) word stop

    within : (x : ℕ) (xs : List ℕ) → other ≡ front ++ x ∷ xs → rest ≡ x ∷ xs ++ after → (m : List ℕ) × (blanks ++ 40 ∷ [] ≡ m ++ x ∷ xs)
    within x xs m rest_is =
        let g = front_in_front front (x ∷ xs) name (blanks ++ 40 ∷ []) (sym m ∙ made) in
        elim g.2 [
          | inl p ↦ let nothing : g.0 ≡ [] = empty g.0 (omega (arith, run_short, ap length p, length-append front g.0, ap length rest_is, ap length e, length-append front rest, ap length made, length-append other after, length-append name (blanks ++ 40 ∷ []), length-append (blanks ++ 40 ∷ []) after)) in
              ([], append_cancel_left front (blanks ++ 40 ∷ []) (x ∷ xs) (ap (λ t. t ++ (blanks ++ 40 ∷ [])) (sym (p ∙ ap (λ t. front ++ t) nothing ∙ append-nil front)) ∙ sym made ∙ m))
          | inr p ↦ (g.1, append_cancel_left name (blanks ++ 40 ∷ []) (g.1 ++ x ∷ xs) (sym made ∙ m ∙ ap (λ t. t ++ x ∷ xs) p ∙ append_assoc name g.1 (x ∷ xs)))
        ]
      where
        empty : (t : List ℕ) → length t ≤ 0 → t ≡ []
        empty [] le = refl
        empty (y ∷ ys) le = absurd (omega (arith, le))

    more : (m : List ℕ) → other ≡ front ++ m → length rest ≤ length after
    more [] m = omega (arith, ap length e, length-append front rest, length-append other after, ap length m, length-append front [])
    more (x ∷ xs) m =
        let rest_is : rest ≡ x ∷ xs ++ after = append_cancel_left front rest (x ∷ xs ++ after) (e ∙ ap (λ o. o ++ after) m ∙ append_assoc front (x ∷ xs) after) in
        let q = within x xs m rest_is in
        let yes : first_is (λ c. c == 40) (past_run is_blank (x ∷ xs ++ after)) ≡ true = bracket_after blanks q.0 xs after x blank q.1 in
        let no : first_is (λ c. c == 40) (past_run is_blank (x ∷ xs ++ after)) ≡ false = ap (λ t. first_is (λ c. c == 40) (past_run is_blank t)) (sym rest_is) ∙ called in
        absurd (cc)

-- what else begins there is no longer
abbrev Within : List ℕ → Option (Token × List ℕ) → Type 0
Within rest found = (v : Token) (after : List ℕ) → found ≡ Some (v, after) → length rest ≤ length after

kept : (rest : List ℕ) (t : Token) (a : Option (Token × List ℕ)) → Within rest a → longer (Some (t, rest)) a ≡ Some (t, rest)
kept rest t None h = refl
kept rest t (Some x) h = keeps_first rest x.1 t x.0 (h x.0 x.1 refl)

longer_within : (rest : List ℕ) (a b : Option (Token × List ℕ)) → Within rest a → Within rest b → Within rest (longer a b)
longer_within rest None b h k = k
longer_within rest (Some x) None h k = h
longer_within rest (Some x) (Some y) h k =
    elim (cases_Bool (nat_le (length x.1) (length y.1))) [ inl e ↦ rw e h | inr e ↦ rw e k ]

word_run : (d : DialectMeaning) (front rest : List ℕ) (v : Token) → OfKind is_word d v front rest → list_all is_word_character front ≡ true
word_run d front rest (Boolean value) s = s.1.0.0.1
word_run d front rest (Word text) s = s.1.1.0.1
word_run d front rest v s = absurd (cc)

head_run : (d : DialectMeaning) (front rest : List ℕ) (v : Token) → OfKind is_head d v front rest → (name : List ℕ) × IsHead name front
head_run d front rest (FunHead number) s = (s.1.0, s.1.1)
head_run d front rest (NameHead name) s = (name, s.1.0)
head_run d front rest v s = absurd (cc)

word_within : (d : DialectMeaning) (front rest : List ℕ) → IsEnd rest → Within rest (word_at d (front ++ rest))
word_within d front rest end v after e =
    let p = word_at_sound d (front ++ rest) after v e in
    no_more is_word_character front rest p.0 after p.1 (word_run d p.0 after v p.2) (end_no_word rest end)

head_within : (d : DialectMeaning) (front rest : List ℕ) → IsEnd rest → IsNotCalled rest → Within rest (head_at d (front ++ rest))
head_within d front rest end called v after e =
    let p = head_at_sound d (front ++ rest) after v e in
    let h = head_run d p.0 after v p.2 in
    head_short front rest p.0 after h.0 h.1.blanks p.1 (h.1.whole ∙ append_assoc h.0 h.1.blanks (40 ∷ [])) h.1.run.1 h.1.blank (end_no_word rest end) called

number_within : (d : DialectMeaning) → IsLawful d → (front rest : List ℕ) → IsEnd rest → NoDecimal d rest → Within rest (number_in_one_pass d (front ++ rest))
number_within d n front rest end decimal = by (number_in_one_pass d (front ++ rest)) (number_in_one_pass_best d n (front ++ rest))
  where
    by : (found : Option (Token × List ℕ)) → FindsBest (OfKind is_number d) ComesAfter (front ++ rest) found → Within rest found
    by None b v after e = absurd (none_some (v, after) e)
    by (Some x) b v after e =
        let p = number_spelled d b.front x.1 x.0 b.spelled in
        let same : x.1 ≡ after = cc in
        let le = no_more (in_number d.decimal) front rest b.front x.1 b.whole (number_chars d.decimal b.front p.0 p.1) (number_end d rest end decimal) in
        omega (arith, le, ap length same)

-- nor does a head, a word or a number reach past an end
plain_within : (d : DialectMeaning) → IsLawful d → (front rest : List ℕ) → IsEnd rest → NoDecimal d rest → IsNotCalled rest → Within rest (longer (head_at d (front ++ rest)) (longer (word_at d (front ++ rest)) (number_in_one_pass d (front ++ rest))))
plain_within d n front rest end apart called =
    let text = front ++ rest in
    longer_within rest (head_at d text) (longer (word_at d text) (number_in_one_pass d text)) (head_within d front rest end called)
    (longer_within rest (word_at d text) (number_in_one_pass d text) (word_within d front rest end) (number_within d n front rest end apart))

-- no word with its sheet reaches past the spelling of a reference
local_shorter : (d : DialectMeaning) → IsLawful d → (r : RefToken) (rest : List ℕ) → d.can_spell r ≡ true → IsEnd rest → Within rest (local_at (d.spell_ref r ++ rest))
local_shorter d n r rest can end v after e =
    let p = mapped (λ (f : (List ℕ × List ℕ) × List ℕ). let g : Token × List ℕ = (Local f.0.0 f.0.1, f.1) in g) (read_local (d.spell_ref r ++ rest)) (v, after) e in
    let same : p.0.1 ≡ after = ap (λ (f : Token × List ℕ). f.1) p.2 in
    omega (arith, n.local_within r p.0.0.0 p.0.0.1 rest p.0.1 can end p.1, ap length same)

pub reference_read : (d : DialectMeaning) → IsLawful d → (r : RefToken) (rest : List ℕ) → CanSpell d (Ref r) → MayFollow d (Ref r) rest → IsRead d (Ref r) rest
reference_read d n r rest can may =
    let front = d.spell_ref r in
    let text = front ++ rest in
    let spelled : reference_text d r ≡ front = rw can refl in
    let read = n.reads_spelled r rest can may.0 in
    let a = first_reference d n text rest r read in
    let others : Within rest (longer (local_at text) (longer (head_at d text) (longer (word_at d text) (number_in_one_pass d text)))) =
    longer_within rest (local_at text) (longer (head_at d text) (longer (word_at d text) (number_in_one_pass d text))) (local_shorter d n r rest can may.0) (plain_within d n front rest may.0 may.1 may.2) in
    ap (λ t. token_at d (t ++ rest)) spelled ∙ ap (token_at d) a.2 ∙ start_kinds d n a.0 a.1 a.3 ∙ ap (of_start d) (sym a.2) ∙ rw read (kept rest (Ref r) (longer (local_at text) (longer (head_at d text) (longer (word_at d text) (number_in_one_pass d text)))) others)

-- Words with their sheets.
quote_starts : starts 39 ≡ true
unfolding ucd_derived
quote_starts = refl

pub first_local : (sheet word : List ℕ) → is_sheet_name sheet ≡ true → (c : ℕ) × (cs : List ℕ) × (local_text sheet word ≡ c ∷ cs) × (starts c ≡ true)
first_local sheet word h =
    elim (cases_Bool (needs_quotes sheet)) [
      | inl e ↦ (39, ((doubled sheet ++ 39 ∷ []) ++ 33 ∷ []) ++ word, rw e refl, quote_starts)
      | inr e ↦ let f = begun sheet (name_begins sheet h e) in (f.0, (f.1 ++ 33 ∷ []) ++ word, rw e (ap (λ s. (s ++ 33 ∷ []) ++ word) f.2), f.3)
    ]
  where
    begun : (w : List ℕ) → first_is begins_word w ≡ true → (c : ℕ) × (cs : List ℕ) × (w ≡ c ∷ cs) × (starts c ≡ true)
    begun [] h = absurd (cc)
    begun (c ∷ cs) h = (c, cs, refl, begins_starts c h)

local_spelled : (sheet word : List ℕ) → is_sheet_name sheet ≡ true → is_identifier word ≡ true → SpellsLocal (local_text sheet word) sheet word
local_spelled sheet word h k = record { before = sheet_text (Some sheet); whole = refl; named = sheet_text_spells sheet h; identifier = k }

pub local_read : (d : DialectMeaning) → IsLawful d → (sheet word rest : List ℕ) → CanSpell d (Local sheet word) → MayFollow d (Local sheet word) rest → IsRead d (Local sheet word) rest
local_read d n sheet word rest can may =
    let front = local_text sheet word in
    let text = front ++ rest in
    let found : local_at text ≡ Some (Local sheet word, rest) = local_at_complete d front rest (Local sheet word) (refl, (local_spelled sheet word can.0 can.1, end_no_word rest may.0)) in
    let others = longer (head_at d text) (longer (word_at d text) (number_in_one_pass d text)) in
    let first : longer (local_at text) others ≡ Some (Local sheet word, rest) =
    ap (λ l. longer l others) found ∙ kept rest (Local sheet word) others (plain_within d n front rest may.0 may.1 may.2) in
    let a = first_local sheet word can.0 in
    let is : text ≡ a.0 ∷ (a.1 ++ rest) = ap (λ f. f ++ rest) a.2 in
    ap (token_at d) is ∙ start_kinds d n a.0 (a.1 ++ rest) a.3 ∙ ap (of_start d) (sym is) ∙ ap (longer (reference_at d text)) first
    ∙ gives_way d text rest (Local sheet word) (d.read_ref text) (λ r after e. n.within_local sheet word rest after r can.0 can.1 may.0 e)

-- each token in its canonical spelling, before what may follow it
pub reads_back : (d : DialectMeaning) → IsLawful d → TokensReadBack d
reads_back d n (Num (pos units)) rest can may = number_read d n units rest can may.0 may.1
reads_back d n (Num (negsuc units)) rest can may = absurd can
reads_back d n (Str text) rest can may = text_read d n text rest may
reads_back d n (Boolean value) rest can may = boolean_read d n value rest may
reads_back d n (Err e) rest can may = error_read d n e rest
reads_back d n (Ref r) rest can may = reference_read d n r rest can may
reads_back d n (Local sheet word) rest can may = local_read d n sheet word rest can may
reads_back d n (Word text) rest can may = word_read d n text rest can may
reads_back d n (FunHead number) rest can may = fun_head_read d n number rest can
reads_back d n (NameHead name) rest can may = name_head_read d n name rest can
reads_back d n Separator rest can may = separator_read d n rest
reads_back d n (Operator sign) rest can may = sign_read d n sign rest may
reads_back d n At rest can may = at_read d n rest
reads_back d n Percent rest can may = percent_read d n rest
reads_back d n Hash rest can may = hash_read d n rest may
reads_back d n Open rest can may = open_read d n rest
reads_back d n Close rest can may = close_read d n rest
reads_back d n OpenBrace rest can may = open_brace_read d n rest
reads_back d n CloseBrace rest can may = close_brace_read d n rest
reads_back d n Semicolon rest can may = semicolon_read d n rest can

pub chain_read : (d : DialectMeaning) → IsLawful d → (ts : List Token) → IsChain d ts → Lexes d (spelled_out d ts) ts
chain_read d n ts h = chain_lexes d n (reads_back d n) ts h
