-- Each reader of a kind of token finds the longest of its kind, and the longest of what they answer is the next token.
use Rattle.std.proofs.Common.{◌≡◌, ℕ, pos, List, [], ◌++◌, Bool, true, false, ◌||◌, ◌⊎◌, Option, Some, None, option_map, option_and_then, refl, sym, ◌∙◌, ap, subst, inl, inr, append-nil}
use Rattle.std.proofs.lemmas.Bool.{both_ways, cases_Bool, or_left, or_right}
use Rattle.std.proofs.lemmas.List.{append_cancel_left}
use Rattle.ic_laws.specs.Amount.{unsigned_amount}
use Rattle.ic_laws.specs.Dialect.{DialectMeaning, IsLawful, error_number}
use Rattle.ic_laws.specs.Token.{Token, Num, Err, Ref, Operator, Spells}
use Rattle.ic_laws.specs.declared.dialect.WordKind.TheVariants as kinds
use Rattle.ic_laws.specs.declared.reference.RefToken.{RefToken}
use Rattle.ic_laws.specs.declared.tree.BinarySign.TheVariants as signs
use Rattle.ic_laws.specs.declared.tree.Error.{Error}
use Rattle.ic_laws.specs.TokenKinds.{OfKind, is_reference, is_local, is_head, is_word, is_number, is_text, is_error, is_sign_of_two, is_sign_of_one, reference_at, local_at, number_of, number_at, error_of, error_at, text_at, two_at, one_at, word_at, head_at, token_by_kinds}
use Rattle.ic_laws.specs.NextToken.{all_errors, numbered, token_at}
use Rattle.ic_laws.specs.Split.{IsBest, IsDecided, FindsBest, ReadsExactly, Either, Yields, longer}
use Rattle.ic_laws.proofs.tokens.Next.{ComesAfter, token_best}
use Rattle.ic_laws.proofs.tokens.Locals.{local_at_sound, local_at_complete, plain_complete}
use Rattle.ic_laws.proofs.tokens.Plain.{number_sound, error_read, error_numbered}
use Rattle.ic_laws.proofs.tokens.Quoted.{text_sound, text_complete}
use Rattle.ic_laws.proofs.tokens.SignTables.{two_sound, two_complete, one_sound, one_complete}
use Rattle.ic_laws.proofs.tokens.NameReaders.{word_at_sound, word_at_complete, head_at_sound, head_at_complete}
use Rattle.ic_laws.specs.AmountFront.{number_in_one_pass}
use Rattle.ic_laws.proofs.tokens.Numbers.{number_in_one_pass_best}
use Rattle.ic_laws.proofs.tokens.Splits.{front_in_front, mapped, best_unique, exact_finds_best, finds_best_like, longer_best, split_best}

-- Any two kinds, of which the second has no reference: of two of one length the second comes after.
kinds_yield : (d : DialectMeaning) → IsLawful d → (p q : Token → Bool) → ((t : Token) → p t ≡ true → q t ≡ true → ⊥) → ((t : Token) → q t ≡ true → is_reference t ≡ false) → Yields ComesAfter (OfKind p d) (OfKind q d)
kinds_yield d n p q apart plain front rest v w a b =
    let other : is_reference w ≡ false = plain w b.0 in
    elim (cases_Bool (is_reference v)) [
      | inl r ↦ (other, r)
      | inr r ↦ let same : ◌≡◌ {A = Option Token} (Some v) (Some w) = sym (plain_complete d n front rest v r a.1) ∙ plain_complete d n front rest w other b.1 in
          let one : v ≡ w = cc in
          absurd (apart w (ap p (sym one) ∙ a.0) b.0)
    ]

either_kind : (d : DialectMeaning) (p q : Token → Bool) (v : Token) (front rest : List ℕ) → Either (OfKind p d) (OfKind q d) v front rest → OfKind (λ t. p t || q t) d v front rest
either_kind d p q v front rest (inl s) = (or_left (p v) (q v) s.0, s.1)
either_kind d p q v front rest (inr s) = (or_right (p v) (q v) s.0, s.1)

kind_either : (d : DialectMeaning) (p q : Token → Bool) (v : Token) (front rest : List ℕ) → OfKind (λ t. p t || q t) d v front rest → Either (OfKind p d) (OfKind q d) v front rest
kind_either d p q v front rest s =
    elim (cases_Bool (p v)) [ inl e ↦ inl (e, s.1) | inr e ↦ inr (or_other (p v) (q v) e s.0, s.1) ]
  where
    or_other : (x y : Bool) → x ≡ false → (x || y) ≡ true → y ≡ true
    or_other x y e h = rw e at h

-- the longer of the best of two kinds is the best of both
pub kinds_join : (d : DialectMeaning) → IsLawful d → (text : List ℕ) (p q : Token → Bool) (a b : Option (Token × List ℕ)) → ((t : Token) → p t ≡ true → q t ≡ true → ⊥) → ((t : Token) → q t ≡ true → is_reference t ≡ false)
    → FindsBest (OfKind p d) ComesAfter text a → FindsBest (OfKind q d) ComesAfter text b → FindsBest (OfKind (λ t. p t || q t) d) ComesAfter text (longer a b)
kinds_join d n text p q a b apart plain h k =
    finds_best_like (Either (OfKind p d) (OfKind q d)) ComesAfter (OfKind (λ t. p t || q t) d) (either_kind d p q) (kind_either d p q) text (longer a b)
    (longer_best (OfKind p d) (OfKind q d) ComesAfter text a b (kinds_yield d n p q apart plain) h k)

-- References.
pub reference_exact : (d : DialectMeaning) → IsLawful d → ReadsExactly (OfKind is_reference d) (reference_at d)
reference_exact d n = record {
  sound = λ text rest v e.
      let p = mapped (λ (f : RefToken × List ℕ). (Ref f.0, f.1)) (d.read_ref text) (v, rest) e in
      let token : Ref p.0.0 ≡ v = ap (λ (f : Token × List ℕ). f.0) p.2 in
      let after : p.0.1 ≡ rest = ap (λ (f : Token × List ℕ). f.1) p.2 in
      let read : d.read_ref text ≡ Some (p.0.0, rest) = p.1 ∙ ap (λ (r : List ℕ). Some (p.0.0, r)) after in
      let front = n.reference_front text rest p.0.0 read in
      let Wanted : Token → Type 0 = λ t. OfKind is_reference d t front.0 rest in
      (front.0, front.2, subst Wanted token (refl, ap d.read_ref (sym front.2) ∙ read));
  complete = λ front rest v s. complete front rest v s;
} where
  complete : (front rest : List ℕ) (v : Token) → OfKind is_reference d v front rest → reference_at d (front ++ rest) ≡ Some (v, rest)
  complete front rest (Ref r) s = rw (s.1) refl
  complete front rest v s = absurd (cc)

-- Numbers and errors.
number_decided : (d : DialectMeaning) → IsDecided (OfKind is_number d) ComesAfter (number_of d)
number_decided d = record {
  sound = λ front rest v e.
      let p = mapped (λ (units : ℕ). Num (pos units)) (unsigned_amount d.decimal front) v e in
      (ap is_number (sym p.2), number_sound d front rest v e);
  complete = λ front rest v s. complete front rest v s;
} where
  complete : (front rest : List ℕ) (v : Token) → OfKind is_number d v front rest → (w : Token) × (number_of d front rest ≡ Some w) × ((v ≡ w) ⊎ ComesAfter v w)
  complete front rest (Num units) s =
      let q = mapped pos (unsigned_amount d.decimal front) units s.1 in
      (Num units, ap (option_map (λ u. Num (pos u))) q.1 ∙ ap (λ u. Some (Num u)) q.2, inl refl)
  complete front rest v s = absurd (cc)

error_kind : (found : Option ℕ) (v : Token) → option_and_then (λ n. option_map Err (numbered error_number all_errors n)) found ≡ Some v → is_error v ≡ true
error_kind None v e = absurd (cc)
error_kind (Some n) v e = let p = mapped Err (numbered error_number all_errors n) v e in ap is_error (sym p.2)

error_decided : (d : DialectMeaning) → IsDecided (OfKind is_error d) ComesAfter (error_of d)
error_decided d = record {
  sound = λ front rest v e. (error_kind (d.find kinds.Error front) v e, error_read d front rest (d.find kinds.Error front) v refl e);
  complete = λ front rest v s. complete front rest v s;
} where
  complete : (front rest : List ℕ) (v : Token) → OfKind is_error d v front rest → (w : Token) × (error_of d front rest ≡ Some w) × ((v ≡ w) ⊎ ComesAfter v w)
  complete front rest (Err e) s = (Err e, rw (s.1) (ap (option_map Err) (error_numbered e)), inl refl)
  complete front rest v s = absurd (cc)

-- Each kind's reader finds the longest of its kind.
module _ (d : DialectMeaning) (n : IsLawful d) (text : List ℕ) where
  pub reference_best : FindsBest (OfKind is_reference d) ComesAfter text (reference_at d text)
  reference_best = exact_finds_best (OfKind is_reference d) ComesAfter (reference_at d) (reference_exact d n) text

  pub local_best : FindsBest (OfKind is_local d) ComesAfter text (local_at text)
  local_best = exact_finds_best (OfKind is_local d) ComesAfter local_at (record { sound = local_at_sound d; complete = local_at_complete d }) text

  pub head_best : FindsBest (OfKind is_head d) ComesAfter text (head_at d text)
  head_best = exact_finds_best (OfKind is_head d) ComesAfter (head_at d) (record { sound = head_at_sound d; complete = head_at_complete d }) text

  pub word_best : FindsBest (OfKind is_word d) ComesAfter text (word_at d text)
  word_best = exact_finds_best (OfKind is_word d) ComesAfter (word_at d) (record { sound = word_at_sound d; complete = word_at_complete d }) text

  pub number_best : FindsBest (OfKind is_number d) ComesAfter text (number_at d text)
  number_best = split_best (OfKind is_number d) ComesAfter (number_of d) text (number_decided d)

  pub text_best : FindsBest (OfKind is_text d) ComesAfter text (text_at text)
  text_best = exact_finds_best (OfKind is_text d) ComesAfter text_at (record { sound = text_sound d; complete = text_complete d }) text

  pub error_best : FindsBest (OfKind is_error d) ComesAfter text (error_at d text)
  error_best = split_best (OfKind is_error d) ComesAfter (error_of d) text (error_decided d)

  pub two_best : FindsBest (OfKind is_sign_of_two d) ComesAfter text (two_at text)
  two_best = exact_finds_best (OfKind is_sign_of_two d) ComesAfter two_at (record { sound = two_sound d; complete = two_complete d }) text

  pub one_best : FindsBest (OfKind is_sign_of_one d) ComesAfter text (one_at d text)
  one_best = exact_finds_best (OfKind is_sign_of_one d) ComesAfter (one_at d) (record { sound = one_sound d; complete = one_complete d n }) text

-- All kinds.
abbrev signs_kind : Token → Bool
signs_kind t = is_sign_of_two t || is_sign_of_one t

abbrev error_kinds : Token → Bool
error_kinds t = is_error t || signs_kind t

abbrev text_kinds : Token → Bool
text_kinds t = is_text t || error_kinds t

abbrev number_kinds : Token → Bool
number_kinds t = is_number t || text_kinds t

abbrev word_kinds : Token → Bool
word_kinds t = is_word t || number_kinds t

abbrev head_kinds : Token → Bool
head_kinds t = is_head t || word_kinds t

abbrev local_kinds : Token → Bool
local_kinds t = is_local t || head_kinds t

abbrev all_kinds : Token → Bool
all_kinds t = is_reference t || local_kinds t

signs_apart : (t : Token) → is_sign_of_two t ≡ true → is_sign_of_one t ≡ true → ⊥
signs_apart (Operator signs.Equal) h k = absurd (cc)
signs_apart t h k = absurd (cc)

signs_plain : (t : Token) → is_sign_of_one t ≡ true → is_reference t ≡ false
signs_plain (Ref r) h = absurd (cc)
signs_plain t h = refl

errors_apart : (t : Token) → is_error t ≡ true → signs_kind t ≡ true → ⊥
errors_apart (Operator signs.Equal) h k = absurd (cc)
errors_apart t h k = absurd (cc)

errors_plain : (t : Token) → signs_kind t ≡ true → is_reference t ≡ false
errors_plain (Ref r) h = absurd (cc)
errors_plain t h = refl

texts_apart : (t : Token) → is_text t ≡ true → error_kinds t ≡ true → ⊥
texts_apart (Operator signs.Equal) h k = absurd (cc)
texts_apart t h k = absurd (cc)

texts_plain : (t : Token) → error_kinds t ≡ true → is_reference t ≡ false
texts_plain (Ref r) h = absurd (cc)
texts_plain t h = refl

numbers_apart : (t : Token) → is_number t ≡ true → text_kinds t ≡ true → ⊥
numbers_apart (Operator signs.Equal) h k = absurd (cc)
numbers_apart t h k = absurd (cc)

numbers_plain : (t : Token) → text_kinds t ≡ true → is_reference t ≡ false
numbers_plain (Ref r) h = absurd (cc)
numbers_plain t h = refl

words_apart : (t : Token) → is_word t ≡ true → number_kinds t ≡ true → ⊥
words_apart (Operator signs.Equal) h k = absurd (cc)
words_apart t h k = absurd (cc)

words_plain : (t : Token) → number_kinds t ≡ true → is_reference t ≡ false
words_plain (Ref r) h = absurd (cc)
words_plain t h = refl

heads_apart : (t : Token) → is_head t ≡ true → word_kinds t ≡ true → ⊥
heads_apart (Operator signs.Equal) h k = absurd (cc)
heads_apart t h k = absurd (cc)

heads_plain : (t : Token) → word_kinds t ≡ true → is_reference t ≡ false
heads_plain (Ref r) h = absurd (cc)
heads_plain t h = refl

locals_apart : (t : Token) → is_local t ≡ true → head_kinds t ≡ true → ⊥
locals_apart (Operator signs.Equal) h k = absurd (cc)
locals_apart t h k = absurd (cc)

locals_plain : (t : Token) → head_kinds t ≡ true → is_reference t ≡ false
locals_plain (Ref r) h = absurd (cc)
locals_plain t h = refl

references_apart : (t : Token) → is_reference t ≡ true → local_kinds t ≡ true → ⊥
references_apart (Operator signs.Equal) h k = absurd (cc)
references_apart t h k = absurd (cc)

references_plain : (t : Token) → local_kinds t ≡ true → is_reference t ≡ false
references_plain (Ref r) h = absurd (cc)
references_plain t h = refl

every_kind : (t : Token) → all_kinds t ≡ true
every_kind (Operator signs.Equal) = refl
every_kind t = refl

pub kinds_best : (d : DialectMeaning) → IsLawful d → (text : List ℕ) → FindsBest (OfKind all_kinds d) ComesAfter text (token_by_kinds d text)
kinds_best d n text =
    let a = kinds_join d n text is_sign_of_two is_sign_of_one (two_at text) (one_at d text) signs_apart signs_plain (two_best d n text) (one_best d n text) in
    let b = kinds_join d n text is_error signs_kind (error_at d text) (longer (two_at text) (one_at d text)) errors_apart errors_plain (error_best d n text) a in
    let c = kinds_join d n text is_text error_kinds (text_at text) _ texts_apart texts_plain (text_best d n text) b in
    let e = kinds_join d n text is_number text_kinds (number_in_one_pass d text) _ numbers_apart numbers_plain (number_in_one_pass_best d n text) c in
    let f = kinds_join d n text is_word number_kinds (word_at d text) _ words_apart words_plain (word_best d n text) e in
    let g = kinds_join d n text is_head word_kinds (head_at d text) _ heads_apart heads_plain (head_best d n text) f in
    let l = kinds_join d n text is_local head_kinds (local_at text) _ locals_apart locals_plain (local_best d n text) g in
    kinds_join d n text is_reference local_kinds (reference_at d text) _ references_apart references_plain (reference_best d n text) l

-- two that both find the best find the same
pub same_best : (d : DialectMeaning) (text : List ℕ) (a b : Option (Token × List ℕ)) → FindsBest (Spells d) ComesAfter text a → FindsBest (Spells d) ComesAfter text b → a ≡ b
same_best d text None None h k = refl
same_best d text None (Some y) h k = absurd (h k.front y.1 y.0 k.whole k.spelled)
same_best d text (Some x) None h k = absurd (k h.front x.1 x.0 h.whole h.spelled)
same_best d text (Some x) (Some y) h k =
    let one = best_unique (Spells d) ComesAfter (λ v w a b. both_ways (is_reference w) b.0 a.1) text x.1 y.1 x.0 y.0 h k in
    ap (λ t. Some (t, x.1)) one.0 ∙ ap (λ r. Some (y.0, r)) one.1

pub by_kinds : (d : DialectMeaning) → IsLawful d → (text : List ℕ) → token_by_kinds d text ≡ token_at d text
by_kinds d n text =
    same_best d text (token_by_kinds d text) (token_at d text)
    (finds_best_like (OfKind all_kinds d) ComesAfter (Spells d) (λ v front rest s. s.1) (λ v front rest s. (every_kind v, s)) text (token_by_kinds d text) (kinds_best d n text))
    (token_best d n text)

-- An error word at the front, which the code finds at a byte, is the best: no error word begins another.
front_same : (d : DialectMeaning) → IsLawful d → (a b more other : List ℕ) (m k : ℕ) → d.find kinds.Error a ≡ Some m → d.find kinds.Error b ≡ Some k → (b ≡ a ++ more) ⊎ (a ≡ b ++ other) → a ≡ b
front_same d n a b more other m k e f (inl p) =
    let none : more ≡ [] = n.errors_apart a more m k e (ap (d.find kinds.Error) (sym p) ∙ f) in
    sym (p ∙ ap (λ x. a ++ x) none ∙ append-nil a)
front_same d n a b more other m k e f (inr p) =
    let none : other ≡ [] = n.errors_apart b other k m f (ap (d.find kinds.Error) (sym p) ∙ e) in
    p ∙ ap (λ x. b ++ x) none ∙ append-nil b

error_spelled : (d : DialectMeaning) (other after : List ℕ) (v : Token) → OfKind is_error d v other after → (e : Error) × (d.find kinds.Error other ≡ Some (error_number e)) × (v ≡ Err e)
error_spelled d other after (Err e) s = (e, s.1, refl)
error_spelled d other after v s = absurd (cc)

pub error_found : (d : DialectMeaning) → IsLawful d → (text word rest : List ℕ) (e : Error) → text ≡ word ++ rest → d.find kinds.Error word ≡ Some (error_number e) → IsBest (OfKind is_error d) ComesAfter text (Err e) rest
error_found d n text word rest e whole found = record {
  front = word;
  whole = whole;
  spelled = (refl, found);
  wins = λ other unread v is s.
      let p = error_spelled d other unread v s in
      let f = front_in_front word rest other unread (sym whole ∙ is) in
      let same : word ≡ other = front_same d n word other f.0 f.1 (error_number e) (error_number p.0) found p.1 f.2 in
      let after : unread ≡ rest = append_cancel_left word unread rest (ap (λ w. w ++ unread) same ∙ sym is ∙ whole) in
      let number : ◌≡◌ {A = Option ℕ} (Some (error_number p.0)) (Some (error_number e)) = sym p.1 ∙ ap (d.find kinds.Error) (sym same) ∙ found in
      let numbers : error_number p.0 ≡ error_number e = cc in
      let one : ◌≡◌ {A = Option Error} (Some p.0) (Some e) = sym (error_numbered p.0) ∙ ap (numbered error_number all_errors) numbers ∙ error_numbered e in
      let errors : p.0 ≡ e = cc in
      inr (after, inl (p.2 ∙ ap (λ x. Err x) errors));
}
