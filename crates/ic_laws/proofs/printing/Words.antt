-- Errors, words and heads in their canonical spelling are read back.
use Rattle.std.proofs.Common.{◌≡◌, ℕ, ◌<◌, ◌≤◌, List, [], ◌∷◌, ◌++◌, Bool, true, false, ◌||◌, ◌==◌, length, Option, Some, None, IsSome, option_map, refl, sym, ◌∙◌, ap, inl, inr, arith, append_assoc, append-nil, length-append, codes}
use Rattle.std.specs.List.{list_all, AllByRecursion}
use Rattle.std.proofs.lemmas.Bool.{and_parts, cases_Bool, le-leb, lt-leb, both_ways}
use Rattle.std.proofs.lemmas.Bool.Decides.{eqb_tells}
use Rattle.ucd_derived.proofs.Computing.{ucd_derived}
use Rattle.ic_laws.specs.Scan.{IsEnd, begins_word, first_is, is_blank, is_digit, is_letter, is_word_character, run_of, past_run}
use Rattle.ic_laws.specs.Name.{is_variable_form}
use Rattle.ic_laws.specs.Dialect.{DialectMeaning, IsLawful, begins_reference, boolean_number, error_number, has_error_shape, word_text, IsWordOrAmount, OfBoolean, OfVariable}
use Rattle.ic_laws.specs.Token.{Token, Err, Ref, Boolean, Word, FunHead, NameHead, Hash, IsHead, IsWholeRun}
use Rattle.ic_laws.specs.declared.dialect.WordKind.{WordKind}
use Rattle.ic_laws.specs.declared.dialect.WordKind.TheVariants as kinds
use Rattle.ic_laws.specs.declared.reference.RefToken.{RefToken}
use Rattle.ic_laws.specs.declared.tree.Error.{Error}
use Rattle.ic_laws.specs.declared.tree.Error.TheVariants as errors
use Rattle.ic_laws.specs.TokenKinds.{is_reference, OfKind, is_error, is_word, is_head, local_at, error_at, one_at, one_table, text_at, two_at, two_table, head_at, head_before, word_at, reference_at}
use Rattle.ic_laws.specs.NextToken.{boolean_or_word, look_up, separators, token_at}
use Rattle.ic_laws.specs.AmountFront.{number_in_one_pass}
use Rattle.ic_laws.specs.Following.{CanSpell, MayFollow, IsNotCalled}
use Rattle.ic_laws.specs.Split.{FindsBest, longer}
use Rattle.ic_laws.proofs.tokens.Characters.{bracket_no_word, digit_begins_none, past_run_all}
use Rattle.ic_laws.proofs.tokens.Kinds.{by_kinds, error_best, error_found}
use Rattle.ic_laws.proofs.tokens.Locals.{no_local_run}
use Rattle.ic_laws.proofs.tokens.NameReaders.{head_at_complete, word_at_complete}
use Rattle.ic_laws.proofs.tokens.SignTables.{look_holds}
use Rattle.ic_laws.proofs.tokens.Next.{ComesAfter}
use Rattle.ic_laws.proofs.printing.Signs.{IsRead, is_mark, mark_begins_none, mark_no_local, no_error_first, no_number, not_decimal, or_neither}
use Rattle.ic_laws.proofs.tokens.Splits.{best_unique}
use Rattle.ic_laws.proofs.parsing.ListFuelLemmas.{option_cases as none_or_some}

-- the word of a number
pub has_word : (d : DialectMeaning) (kind : WordKind) (k : ℕ) → IsSome (d.word kind k) → (w : List ℕ) × (d.word kind k ≡ Some w) × (word_text d kind k ≡ w)
has_word d kind k h = by (d.word kind k) refl h
  where
    by : (o : Option (List ℕ)) → d.word kind k ≡ o → IsSome o → (w : List ℕ) × (d.word kind k ≡ Some w) × (word_text d kind k ≡ w)
    by None e h = absurd (cc)
    by (Some w) e h = (w, e, rw e refl)

-- the best of one kind is one
pub same_kind : (d : DialectMeaning) (kind : Token → Bool) (text rest : List ℕ) (t : Token) (a : Option (Token × List ℕ)) → FindsBest (OfKind kind d) ComesAfter text a → FindsBest (OfKind kind d) ComesAfter text (Some (t, rest)) → a ≡ Some (t, rest)
same_kind d kind text rest t None h k = absurd (h k.front rest t k.whole k.spelled)
same_kind d kind text rest t (Some x) h k =
    let one = best_unique (OfKind kind d) ComesAfter (λ v w a b. both_ways (is_reference w) b.0 a.1) text x.1 rest x.0 t h k in
    ap (λ y. Some (y, x.1)) one.0 ∙ ap (λ r. Some (t, r)) one.1

-- errors
pub error_number_small : (e : Error) → error_number e < 12
error_number_small errors.REF = omega arith
error_number_small errors.NAME = omega arith
error_number_small errors.VALUE = omega arith
error_number_small errors.DIV = omega arith
error_number_small errors.NA = omega arith
error_number_small errors.NUM = omega arith
error_number_small errors.NIMPL = omega arith
error_number_small errors.SPILL = omega arith
error_number_small errors.CALC = omega arith
error_number_small errors.CIRC = omega arith
error_number_small errors.ERROR = omega arith
error_number_small errors.NULL = omega arith

pub error_begins : (word : List ℕ) → has_error_shape word ≡ true → (w : List ℕ) × (word ≡ 35 ∷ w)
error_begins [] h = absurd (cc)
error_begins (c ∷ []) h = absurd (cc)
error_begins (c ∷ e ∷ cs) h =
    let is : (c == 35) ≡ true = (and_parts _ _ (and_parts _ _ h).0).0 in
    elim (eqb_tells c 35) [ inl p ↦ (e ∷ cs, ap (λ x. x ∷ e ∷ cs) p.1) | inr p ↦ absurd (cc) ]

pub keeps_first : (rest more : List ℕ) (t u : Token) → length rest ≤ length more → longer (Some (t, rest)) (Some (u, more)) ≡ Some (t, rest)
keeps_first rest more t u le = rw (le-leb (length rest) (length more) le) refl

error_at_word : (d : DialectMeaning) → IsLawful d → (w rest : List ℕ) (e : Error) → d.find kinds.Error (35 ∷ w) ≡ Some (error_number e) → token_at d (35 ∷ (w ++ rest)) ≡ Some (Err e, rest)
error_at_word d n w rest e f =
    let text : List ℕ = 35 ∷ (w ++ rest) in
    let begins = mark_begins_none 35 (omega arith) refl in
    let found : error_at d text ≡ Some (Err e, rest) = same_kind d is_error text rest (Err e) (error_at d text) (error_best d n text) (error_found d n text (35 ∷ w) rest e refl f) in
    let two : two_at text ≡ None = none_two (w ++ rest) in
    let le : length rest ≤ length (w ++ rest) = omega (arith, length-append w rest) in
    sym (by_kinds d n text) ∙ rw (n.reference_begins text begins.0, mark_no_local 35 (w ++ rest) (omega arith) refl, begins.1, no_number d 35 (w ++ rest) refl (not_decimal d n 35 refl refl), found, two) (keeps_first rest (w ++ rest) (Err e) Hash le)
  where
    none_two : (cs : List ℕ) → two_at (35 ∷ cs) ≡ None
    none_two [] = refl
    none_two (c ∷ cs) = refl

pub error_read : (d : DialectMeaning) → IsLawful d → (e : Error) (rest : List ℕ) → IsRead d (Err e) rest
error_read d n e rest =
    let w = has_word d kinds.Error (error_number e) (n.errors (error_number e) (error_number_small e)) in
    let found : d.find kinds.Error w.0 ≡ Some (error_number e) = n.finds_word kinds.Error (error_number e) w.0 w.1 in
    let b = error_begins w.0 (n.error_shape w.0 (error_number e) found) in
    ap (λ t. token_at d (t ++ rest)) (w.2 ∙ b.1) ∙ error_at_word d n b.0 rest e (ap (d.find kinds.Error) (sym b.1) ∙ found)

-- what begins as a word or a reference may
abbrev pub starts : ℕ → Bool
starts c = begins_reference c || begins_word c

no_start : (c : ℕ) → c < 128 → is_mark c ≡ true → starts c ≡ false
no_start c lt h = let p = mark_begins_none c lt h in rw (p.0, p.1) refl

pub starts_other : (c k : ℕ) → starts c ≡ true → k < 128 → is_mark k ≡ true → (c == k) ≡ false
starts_other c k s lt h = elim (eqb_tells c k) [ inl e ↦ let no : starts c ≡ false = ap starts e.1 ∙ no_start k lt h in absurd (cc) | inr e ↦ e.0 ]

abbrev NoneStart : List (List ℕ × Token) → Type 0
NoneStart table = AllByRecursion (λ (e : List ℕ × Token). first_is starts e.0 ≡ false) table

two_start : NoneStart two_table
two_start = (no_start 60 (omega arith) refl, (no_start 60 (omega arith) refl, (no_start 62 (omega arith) refl, tt)))

one_start : (d : DialectMeaning) → IsLawful d → NoneStart (one_table d.list)
one_start d n =
    elim n.separators [
      | inl s ↦ rw (s.0) (front 44 (no_start 44 (omega arith) refl, (no_start 59 (omega arith) refl, tt)))
      | inr s ↦ rw (s.0) (front 59 (no_start 59 (omega arith) refl, tt))
    ]
  where
    front : (list : ℕ) → NoneStart (separators list) → NoneStart (one_table list)
    front list more = (no_start 61 (omega arith) refl, (no_start 60 (omega arith) refl, (no_start 62 (omega arith) refl, (no_start 38 (omega arith) refl, (no_start 43 (omega arith) refl, (no_start 45 (omega arith) refl, (no_start 42 (omega arith) refl, (no_start 47 (omega arith) refl, (no_start 94 (omega arith) refl, (no_start 64 (omega arith) refl, (no_start 37 (omega arith) refl, (no_start 35 (omega arith) refl, (no_start 40 (omega arith) refl, (no_start 41 (omega arith) refl, (no_start 123 (omega arith) refl, (no_start 125 (omega arith) refl, more))))))))))))))))

no_entry : (table : List (List ℕ × Token)) (c : ℕ) (cs : List ℕ) → NoneStart table → starts c ≡ true → look_up table (c ∷ cs) ≡ None
no_entry table c cs all s =
    elim (none_or_some (look_up table (c ∷ cs))) [
      | inl p ↦ p
      | inr p ↦ let no : starts c ≡ false = look_holds (λ f t. first_is starts f ≡ false) table (c ∷ cs) p.0 all p.1 in absurd (cc)
    ]

start_no_two : (c : ℕ) (cs : List ℕ) → starts c ≡ true → two_at (c ∷ cs) ≡ None
start_no_two c [] s = refl
start_no_two c (e ∷ cs) s = ap (option_map (λ (t : Token). (t, cs))) (no_entry two_table c (e ∷ []) two_start s)

start_no_one : (d : DialectMeaning) → IsLawful d → (c : ℕ) (cs : List ℕ) → starts c ≡ true → one_at d (c ∷ cs) ≡ None
start_no_one d n c cs s = ap (option_map (λ (t : Token). (t, cs))) (no_entry (one_table d.list) c [] (one_start d n) s)

pub longer_none : (a : Option (Token × List ℕ)) → longer a None ≡ a
longer_none None = refl
longer_none (Some x) = refl

-- it is a reference, a word with its sheet, a head, a word or a number
abbrev pub of_start : DialectMeaning → List ℕ → Option (Token × List ℕ)
of_start d text = longer (reference_at d text) (longer (local_at text) (longer (head_at d text) (longer (word_at d text) (number_in_one_pass d text))))

pub start_kinds : (d : DialectMeaning) → IsLawful d → (c : ℕ) (cs : List ℕ) → starts c ≡ true → token_at d (c ∷ cs) ≡ of_start d (c ∷ cs)
start_kinds d n c cs s =
    let text : List ℕ = c ∷ cs in
    let quote = starts_other c 34 s (omega arith) refl in
    let no_text : text_at text ≡ None = rw quote refl in
    sym (by_kinds d n text) ∙ rw (no_text, no_error_first d n c cs (starts_other c 35 s (omega arith) refl), start_no_two c cs s, start_no_one d n c cs s)
    (ap (λ x. longer (reference_at d text) (longer (local_at text) (longer (head_at d text) (longer (word_at d text) x)))) (longer_none (number_in_one_pass d text)))

-- words
dot_begins_none : (begins_word 46 ≡ false) × (begins_word 44 ≡ false)
unfolding ucd_derived
dot_begins_none = (refl, refl)

pub word_no_number : (d : DialectMeaning) → IsLawful d → (c : ℕ) (cs : List ℕ) → begins_word c ≡ true → number_in_one_pass d (c ∷ cs) ≡ None
word_no_number d n c cs b = no_number d c cs digit (not_decimal d n c (other 46 dot_begins_none.0) (other 44 dot_begins_none.1))
  where
    digit : is_digit c ≡ false
    digit = elim (cases_Bool (is_digit c)) [ inl e ↦ let no = digit_begins_none c e in absurd (cc) | inr e ↦ e ]

    other : (k : ℕ) → begins_word k ≡ false → (c == k) ≡ false
    other k h = elim (eqb_tells c k) [ inl e ↦ let no : begins_word c ≡ false = ap begins_word e.1 ∙ h in absurd (cc) | inr e ↦ e.0 ]

pub not_called : (d : DialectMeaning) (name after : List ℕ) → first_is (λ c. c == 40) after ≡ false → head_before d name after ≡ None
not_called d name [] h = refl
not_called d name (c ∷ cs) h = rw h refl

-- a shorter reference gives way
pub gives_way : (d : DialectMeaning) (text rest : List ℕ) (t : Token) (found : Option (RefToken × List ℕ)) → ((r : RefToken) (after : List ℕ) → found ≡ Some (r, after) → length rest < length after)
    → longer (option_map (λ (f : RefToken × List ℕ). let g : Token × List ℕ = (Ref f.0, f.1) in g) found) (Some (t, rest)) ≡ Some (t, rest)
gives_way d text rest t None shorter = refl
gives_way d text rest t (Some f) shorter = rw (lt-leb (length f.1) (length rest) (shorter f.0 f.1 refl)) refl

pub end_no_word : (rest : List ℕ) → IsEnd rest → first_is is_word_character rest ≡ false
end_no_word [] h = refl
end_no_word (c ∷ cs) h =
    let a = or_neither (is_word_character c || c == 33 || c == 58 || c == 36) (c == 91) h in
    let b = or_neither (is_word_character c || c == 33 || c == 58) (c == 36) a.0 in
    let e = or_neither (is_word_character c || c == 33) (c == 58) b.0 in
    (or_neither (is_word_character c) (c == 33) e.0).0

pub begins_starts : (c : ℕ) → begins_word c ≡ true → starts c ≡ true
begins_starts c b = elim (cases_Bool (begins_reference c)) [ inl e ↦ rw e refl | inr e ↦ rw (e, b) refl ]

word_back : (d : DialectMeaning) → IsLawful d → (front rest : List ℕ) (t : Token) → IsWordOrAmount d front → IsWholeRun front rest → OfKind is_word d t front rest → IsEnd rest → IsNotCalled rest → token_at d (front ++ rest) ≡ Some (t, rest)
word_back d n [] rest t short whole s end called = absurd (cc)
word_back d n (c ∷ cs) rest t short whole s end called =
    let text : List ℕ = c ∷ (cs ++ rest) in
    let begins : begins_word c ≡ true = whole.0.0 in
    let word : word_at d text ≡ Some (t, rest) = word_at_complete d (c ∷ cs) rest t s in
    let past : past_run is_word_character text ≡ rest = past_run_all is_word_character (c ∷ cs) rest whole.0.1 whole.1 in
    let unread : first_is (λ c. c == 40) (past_run is_blank (past_run is_word_character text)) ≡ false = ap (λ r. first_is (λ c. c == 40) (past_run is_blank r)) past ∙ called in
    let heads : head_at d text ≡ None = rw begins (not_called d (run_of is_word_character text) (past_run is_blank (past_run is_word_character text)) unread) in
    start_kinds d n c (cs ++ rest) (begins_starts c begins) ∙ rw (no_local_run (c ∷ cs) rest whole.0.0 whole.0.1 end, heads, word, word_no_number d n c (cs ++ rest) begins)
    (gives_way d text rest t (d.read_ref text) (λ r after e. n.shorter_than (c ∷ cs) rest after r short end e))

pub form_run : (word rest : List ℕ) → is_variable_form word ≡ true → IsEnd rest → IsWholeRun word rest
form_run word rest h end =
    let a = and_parts _ _ h in
    let b = and_parts _ _ a.0 in
    let c = and_parts _ _ b.0 in
    (c, end_no_word rest end)

pub word_read : (d : DialectMeaning) → IsLawful d → (text rest : List ℕ) → CanSpell d (Word text) → MayFollow d (Word text) rest → IsRead d (Word text) rest
word_read d n text rest can may =
    let whole = form_run text rest (and_parts _ _ (and_parts _ _ can.0).0).0 may.0 in
    word_back d n text rest (Word text) (OfVariable text can.0) whole (refl, (refl, whole, can.0, can.1)) may.0 may.1

pub boolean_small : (value : Bool) → boolean_number value < 2
boolean_small true = omega arith
boolean_small false = omega arith

pub boolean_read : (d : DialectMeaning) → IsLawful d → (value : Bool) (rest : List ℕ) → MayFollow d (Boolean value) rest → IsRead d (Boolean value) rest
boolean_read d n value rest may =
    let w = has_word d kinds.Boolean (boolean_number value) (n.booleans (boolean_number value) (boolean_small value)) in
    let whole = form_run w.0 rest (n.boolean_shape (boolean_number value) w.0 w.1) may.0 in
    ap (λ t. token_at d (t ++ rest)) w.2
    ∙ word_back d n w.0 rest (Boolean value) (OfBoolean (boolean_number value) w.0 w.1) whole (refl, (whole, n.finds_word kinds.Boolean (boolean_number value) w.0 w.1)) may.0 may.1

-- heads
bracket_end : (rest : List ℕ) → IsEnd (40 ∷ rest)
bracket_end rest = rw bracket_no_word refl

word_before : (d : DialectMeaning) (t : Token) (rest more : List ℕ) (found : Option Token) → length rest ≤ length more → longer (Some (t, rest)) (longer (option_map (λ u. let g : Token × List ℕ = (u, more) in g) found) None) ≡ Some (t, rest)
word_before d t rest more None le = refl
word_before d t rest more (Some u) le = keeps_first rest more t u le

head_back : (d : DialectMeaning) → IsLawful d → (name rest : List ℕ) (t : Token) → first_is begins_word name ≡ true → list_all is_word_character name ≡ true → OfKind is_head d t (name ++ codes "(") rest
    → ((r : RefToken) (after : List ℕ) → d.read_ref (name ++ 40 ∷ rest) ≡ Some (r, after) → length (40 ∷ rest) ≤ length after) → token_at d ((name ++ codes "(") ++ rest) ≡ Some (t, rest)
head_back d n [] rest t begins all s shorter = absurd (cc)
head_back d n (c ∷ cs) rest t begins all s shorter =
    let whole : (c ∷ cs ++ codes "(") ++ rest ≡ c ∷ cs ++ 40 ∷ rest = append_assoc (c ∷ cs) (codes "(") rest in
    let text : List ℕ = c ∷ cs ++ 40 ∷ rest in
    let heads : head_at d text ≡ Some (t, rest) = ap (head_at d) (sym whole) ∙ head_at_complete d (c ∷ cs ++ codes "(") rest t s in
    let past : past_run is_word_character text ≡ 40 ∷ rest = past_run_all is_word_character (c ∷ cs) (40 ∷ rest) all bracket_no_word in
    let run = run_of is_word_character text in
    let word : word_at d text ≡ option_map (λ u. (u, 40 ∷ rest)) (boolean_or_word d run (d.find kinds.Boolean run)) =
    rw begins (ap (λ r. option_map (λ u. let g : Token × List ℕ = (u, r) in g) (boolean_or_word d run (d.find kinds.Boolean run))) past) in
    let first : longer (head_at d text) (longer (word_at d text) (number_in_one_pass d text)) ≡ Some (t, rest) =
    ap (λ h. longer h (longer (word_at d text) (number_in_one_pass d text))) heads ∙ ap (λ w. longer (Some (t, rest)) (longer w (number_in_one_pass d text))) word
    ∙ ap (λ m. longer (Some (t, rest)) (longer (option_map (λ u. (u, 40 ∷ rest)) (boolean_or_word d run (d.find kinds.Boolean run))) m)) (word_no_number d n c (cs ++ 40 ∷ rest) begins)
    ∙ word_before d t rest (40 ∷ rest) (boolean_or_word d run (d.find kinds.Boolean run)) (omega arith) in
    let no_local : local_at text ≡ None = no_local_run (c ∷ cs) (40 ∷ rest) begins all (bracket_end rest) in
    ap (token_at d) whole ∙ start_kinds d n c (cs ++ 40 ∷ rest) (begins_starts c begins)
    ∙ ap (λ l. longer (reference_at d text) (longer l (longer (head_at d text) (longer (word_at d text) (number_in_one_pass d text))))) no_local ∙ ap (longer (reference_at d text)) first
    ∙ gives_way d text rest t (d.read_ref text) (λ r after e. omega (arith, shorter r after e))

is_head_of : (name : List ℕ) → first_is begins_word name ≡ true → list_all is_word_character name ≡ true → IsHead name (name ++ codes "(")
is_head_of name begins all = record { blanks = []; whole = ap (λ x. x ++ 40 ∷ []) (sym (append-nil name)); run = (begins, all); blank = refl }

pub name_head_read : (d : DialectMeaning) → IsLawful d → (name rest : List ℕ) → CanSpell d (NameHead name) → IsRead d (NameHead name) rest
name_head_read d n name rest can =
    let run = (form_run name (40 ∷ rest) (and_parts _ _ (and_parts _ _ can.0).0).0 (bracket_end rest)).0 in
    head_back d n name rest (NameHead name) run.0 run.1 (refl, (is_head_of name run.0 run.1, can.0, can.1))
    (λ r after e. omega (arith, n.shorter_than name (40 ∷ rest) after r (OfVariable name can.0) (bracket_end rest) e))

pub letter_begins : (name : List ℕ) → first_is is_letter name ≡ true → first_is begins_word name ≡ true
letter_begins [] h = absurd (cc)
letter_begins (c ∷ cs) h = rw h refl

pub fun_head_read : (d : DialectMeaning) → IsLawful d → (number : ℕ) (rest : List ℕ) → CanSpell d (FunHead number) → IsRead d (FunHead number) rest
fun_head_read d n number rest can =
    let w = has_word d kinds.Function number can in
    let shape = and_parts _ _ (n.function_shape number w.0 w.1) in
    let begins = letter_begins w.0 shape.0 in
    ap (λ t. token_at d ((t ++ codes "(") ++ rest)) w.2
    ∙ head_back d n w.0 rest (FunHead number) begins shape.1 (refl, (w.0, is_head_of w.0 begins shape.1, n.finds_word kinds.Function number w.0 w.1))
    (λ r after e. n.within_function number w.0 (40 ∷ rest) after r w.1 (bracket_end rest) e)
