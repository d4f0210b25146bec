-- The smallest dialect meets the laws of dialects.
use Rattle.std.proofs.Common.{◌≡◌, ℕ, zero, suc, ◌+◌, ◌<◌, List, [], ◌∷◌, ◌++◌, true, ◌&&◌, nat_lt, bytes_eq, Option, Some, None, IsSome, refl, sym, ap, subst, ◌∙◌, arith, inl}
use Rattle.std.specs.List.{list_all}
use Rattle.std.proofs.lemmas.Bool.{cond_both, cond-true}
use Rattle.std.proofs.lemmas.Bool.Decides.{nat_tests}
use Rattle.std.proofs.lemmas.Option.{cond_some}
use Rattle.std.proofs.lemmas.Slice.Eq.{bytes_eq-Decides}
use Rattle.ucd_derived.proofs.Computing.{ucd_derived}
use Rattle.ic_laws.specs.Name.{fold, Agree, is_variable_form}
use Rattle.ic_laws.specs.Dialect.{IsLawful, has_error_shape, has_function_shape}
use Rattle.ic_laws.proofs.Smallest.{count, marked, marked_word, number_below, smallest}
use Rattle.ic_laws.specs.declared.dialect.WordKind.{WordKind}
use Rattle.ic_laws.specs.declared.dialect.WordKind.TheVariants as kinds
use Rattle.ic_laws.proofs.FoldLaws.{is_fixed, same_from_Agree}

-- ---- words and their numbers

below_true : (a b : ℕ) → a < b → nat_lt a b ≡ true
below_true a b h = grind (arith, nat_tests)

pub below_from_true : (a b : ℕ) → nat_lt a b ≡ true → a < b
below_from_true a b h = grind (arith, nat_tests)

word-below : (kind : WordKind) (n : ℕ) → n < count kind → marked_word kind n ≡ Some (marked kind n)
word-below kind n h = cond-true _ _ _ (below_true n (count kind) h)

word_parts : (kind : WordKind) (n : ℕ) (text : List ℕ) → marked_word kind n ≡ Some text → (n < count kind) × (text ≡ marked kind n)
word_parts kind n text e =
    let h = cond_some (nat_lt n (count kind)) (marked kind n) text e in
    (below_from_true n (count kind) h.0, sym h.1)

same_number : (kind : WordKind) (n k : ℕ) → marked kind n ≡ marked kind k → n ≡ k
same_number kinds.Boolean n k e = let h : 48 + n ≡ 48 + k = cc in omega arith
same_number kinds.Error n k e = let h : 48 + n ≡ 48 + k = cc in omega arith
same_number kinds.Function n k e = let h : 48 + n ≡ 48 + k = cc in omega arith

-- a text that is found is the word of that number
pub found : (kind : WordKind) (text : List ℕ) (limit n : ℕ) → number_below kind text limit ≡ Some n → (n < limit) × (text ≡ marked kind n)
unfolding number_below
found kind text zero n e = absurd (cc)
found kind text (suc k) n found_here =
    cond_both (bytes_eq text (marked kind k)) (Some k) (number_below kind text k) (λ r. r ≡ Some n → (n < suc k) × (text ≡ marked kind n))
    (λ same e. let at : k ≡ n = cc in (omega arith, (bytes_eq-Decides text (marked kind k)).0 same ∙ ap (marked kind) at))
    (λ differs e. let h = found kind text k n e in (omega (arith, h.0), h.1)) found_here

-- and each word is found
pub finds : (kind : WordKind) (limit n : ℕ) → n < limit → number_below kind (marked kind n) limit ≡ Some n
unfolding number_below
finds kind zero n h = absurd (omega arith)
finds kind (suc k) n h =
    cond_both (bytes_eq (marked kind n) (marked kind k)) (Some k) (number_below kind (marked kind n) k) (λ r. r ≡ Some n)
    (λ same. ap Some (sym (same_number kind n k ((bytes_eq-Decides (marked kind n) (marked kind k)).0 same))))
    (λ differs.
    let other : n ≡ k → ⊥ = λ e. let same = (bytes_eq-Decides (marked kind n) (marked kind k)).1 (ap (marked kind) e) in cc in
    finds kind k n (omega arith))

-- ---- agreeing texts

digit_fixed : (n : ℕ) → n < 12 → is_fixed (48 + n) ≡ true
digit_fixed n h = grind (arith, nat_tests)

marked_fixed : (kind : WordKind) (n : ℕ) → n < count kind → list_all is_fixed (marked kind n) ≡ true
marked_fixed kinds.Boolean n h = ap (λ b. b && true) (digit_fixed n (omega arith))
marked_fixed kinds.Error n h = ap (λ b. b && true) (digit_fixed n (omega arith))
marked_fixed kinds.Function n h = ap (λ b. b && true) (digit_fixed n (omega arith))

agreeing : (kind : WordKind) (a b : List ℕ) (n : ℕ) → Agree a b → smallest.find kind a ≡ Some n → smallest.find kind b ≡ Some n
agreeing kind a b n agree e =
    let h = found kind a (count kind) n e in
    let same = same_from_Agree (marked kind n) b (marked_fixed kind n h.0) (ap fold (sym h.1) ∙ agree) in
    ap (smallest.find kind) same ∙ finds kind (count kind) n h.0

same_option : (x y : Option ℕ) → ((n : ℕ) → x ≡ Some n → y ≡ Some n) → ((n : ℕ) → y ≡ Some n → x ≡ Some n) → x ≡ y
same_option (Some n) y f g = sym (f n refl)
same_option None (Some n) f g = g n refl
same_option None None f g = refl

-- ---- shapes

boolean_shape : (n : ℕ) → n < 2 → is_variable_form (marked kinds.Boolean n) ≡ true
unfolding ucd_derived
boolean_shape zero h = refl
boolean_shape (suc zero) h = refl
boolean_shape (suc (suc n)) h = absurd (omega arith)

function_shape : (n : ℕ) → n < 2 → has_function_shape (marked kinds.Function n) ≡ true
unfolding ucd_derived
function_shape zero h = refl
function_shape (suc zero) h = refl
function_shape (suc (suc n)) h = absurd (omega arith)

apart : (text more : List ℕ) (m n : ℕ) → text ≡ marked kinds.Error m → text ++ more ≡ marked kinds.Error n → more ≡ []
apart text more m n e f =
    let g : 35 ∷ 95 ∷ (48 + m) ∷ more ≡ 35 ∷ 95 ∷ (48 + n) ∷ [] = ap (λ t. t ++ more) (sym e) ∙ f in cc

pub smallest_laws : IsLawful smallest
smallest_laws = record {
  separators = inl (refl, refl);
  booleans = λ n h. subst (λ o. IsSome o) (sym (word-below kinds.Boolean n h)) refl;
  errors = λ n h. subst (λ o. IsSome o) (sym (word-below kinds.Error n h)) refl;
  special = (refl, refl);
  special_differ = λ e. cc;
  finds_word = λ kind n text e. let h = word_parts kind n text e in ap (smallest.find kind) h.1 ∙ finds kind (count kind) n h.0;
  finds_agreeing = λ kind a b agree. same_option _ _ (λ n. agreeing kind a b n agree) (λ n. agreeing kind b a n (sym agree));
  boolean_shape = λ n text e. let h = word_parts kinds.Boolean n text e in ap is_variable_form h.1 ∙ boolean_shape n h.0;
  function_shape = λ n text e. let h = word_parts kinds.Function n text e in ap has_function_shape h.1 ∙ function_shape n h.0;
  error_shape = λ text n e. ap has_error_shape (found kinds.Error text 12 n e).1;
  errors_apart = λ text more m n e f. apart text more m n (found kinds.Error text 12 m e).1 (found kinds.Error (text ++ more) 12 n f).1;
  reference_front = λ text rest r e. absurd (cc);
  reads_spelled = λ r rest e end. cc;
  reference_begins = λ text e. refl;
  shorter_than = λ text rest after r short end e. absurd (cc);
  within_function = λ n text rest after r e end f. absurd (cc);
  within_local = λ sheet word rest after r h k end e. absurd (cc);
  local_within = λ r sheet word rest after can end e. absurd (cc);
}
