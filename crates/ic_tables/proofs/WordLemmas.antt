-- Words by their number, and the first word that agrees.
use Rattle.std.proofs.Common.{◌≡◌, ℕ, zero, suc, ◌+◌, List, [], ◌∷◌, ◌++◌, Bool, true, false, not, ◌==◌, Option, Some, None, bytes_eq, option_map, drop, refl, sym, ap, subst, ◌∙◌, inl, inr, arith, length, map}
use Rattle.std.specs.List.{list_all, list_any, slice_get}
use Rattle.std.proofs.lemmas.Bool.{and_from, and_parts, or_parts, cases_Bool, not-true}
use Rattle.std.proofs.lemmas.Bool.Decides.{nat_tests}
use Rattle.std.proofs.lemmas.Slice.Eq.{bytes_eq-Decides}
use Rattle.ic_laws.specs.Name.{Agree, agrees, fold}
use Rattle.ic_tables.specs.Words.{first_agreeing, no_two_agree, is_prefix_free, is_proper_prefix}

-- each item of a list that passes a test
pub passes_at : {X : Type 0} (p : X → Bool) (xs : List X) (n : ℕ) (x : X) → list_all p xs ≡ true → slice_get xs n ≡ Some x → p x ≡ true
passes_at p [] n x h e = absurd (cc)
passes_at p (y ∷ ys) zero x h e = let same : y ≡ x = cc in subst (λ z. p z ≡ true) same (and_parts (p y) (list_all p ys) h).0
passes_at p (y ∷ ys) (suc n) x h e = passes_at p ys n x (and_parts (p y) (list_all p ys) h).1 e

pub none_at : {X : Type 0} (p : X → Bool) (xs : List X) (n : ℕ) (x : X) → list_any p xs ≡ false → slice_get xs n ≡ Some x → p x ≡ false
none_at p [] n x h e = absurd (cc)
none_at p (y ∷ ys) zero x h e = let same : y ≡ x = cc in subst (λ z. p z ≡ false) same (or_parts (p y) (list_any p ys) h).0
none_at p (y ∷ ys) (suc n) x h e = none_at p ys n x (or_parts (p y) (list_any p ys) h).1 e

pub agrees_itself : (w : List ℕ) → agrees w w ≡ true
agrees_itself w = (bytes_eq-Decides (fold w) (fold w)).1 refl

pub agree_from : (a b : List ℕ) → agrees a b ≡ true → Agree a b
agree_from a b h = (bytes_eq-Decides (fold a) (fold b)).0 h

-- a word is found as its number
pub finds : (ws : List (List ℕ)) (n : ℕ) (w : List ℕ) → no_two_agree ws ≡ true → slice_get ws n ≡ Some w → first_agreeing ws w ≡ Some n
finds [] n w h e = absurd (cc)
finds (v ∷ vs) zero w h e =
    let same : v ≡ w = cc in rw (subst (λ z. agrees v z ≡ true) same (agrees_itself v)) refl
finds (v ∷ vs) (suc n) w h e =
    let p = and_parts (not (list_any (agrees v) vs)) (no_two_agree vs) h in
    rw (none_at (agrees v) vs n w (not-true _ p.0) e) (ap (option_map (λ k. suc k)) (finds vs n w p.1 e))

-- what is found is a word that agrees
pub found_at : (ws : List (List ℕ)) (text : List ℕ) (n : ℕ) → first_agreeing ws text ≡ Some n → (w : List ℕ) × (slice_get ws n ≡ Some w) × Agree w text
found_at [] text n e = absurd (cc)
found_at (v ∷ vs) text n e =
    elim (cases_Bool (agrees v text)) [
      | inl t ↦ let k : ◌≡◌ {A = Option ℕ} (Some 0) (Some n) = rw t at e in
          let z : 0 ≡ n = cc in (v, ap (slice_get (v ∷ vs)) (sym z), agree_from v text t)
      | inr f ↦ let k : option_map (λ m. suc m) (first_agreeing vs text) ≡ Some n = rw f at e in
          later (first_agreeing vs text) n k (found_at vs text)
    ]
  where
    later : (o : Option ℕ) (n : ℕ) → option_map (λ m. suc m) o ≡ Some n → ((m : ℕ) → o ≡ Some m → (w : List ℕ) × (slice_get vs m ≡ Some w) × Agree w text) → (w : List ℕ) × (slice_get (v ∷ vs) n ≡ Some w) × Agree w text
    later None n e h = absurd (cc)
    later (Some m) n e h = let s : suc m ≡ n = cc in let q = h m refl in (q.0, ap (slice_get (v ∷ vs)) (sym s) ∙ q.1, q.2)

-- agreeing texts are found alike
pub finds_alike : (ws : List (List ℕ)) (a b : List ℕ) → Agree a b → first_agreeing ws a ≡ first_agreeing ws b
finds_alike [] a b h = refl
finds_alike (w ∷ ws) a b h =
    let same : agrees w a ≡ agrees w b = ap (bytes_eq (fold w)) h in
    rw same (elim (cases_Bool (agrees w b)) [ inl t ↦ rw t refl | inr f ↦ rw f (ap (option_map (λ n. suc n)) (finds_alike ws a b h)) ])

-- a word begins no other
pub eqb_itself : (n : ℕ) → (n == n) ≡ true
eqb_itself n = grind (arith, nat_tests)

pub proper_prefix : (a : List ℕ) (c : ℕ) (cs : List ℕ) → is_proper_prefix a (a ++ c ∷ cs) ≡ true
proper_prefix [] c cs = refl
proper_prefix (x ∷ xs) c cs = and_from (x == x) (is_proper_prefix xs (xs ++ c ∷ cs)) (eqb_itself x) (proper_prefix xs c cs)

pub get_map : (ws : List (List ℕ)) (n : ℕ) (w : List ℕ) → slice_get ws n ≡ Some w → slice_get (map fold ws) n ≡ Some (fold w)
get_map [] n w e = absurd (cc)
get_map (v ∷ vs) zero w e = let same : v ≡ w = cc in ap (λ x. Some (fold x)) same
get_map (v ∷ vs) (suc n) w e = get_map vs n w e

get_after : (others ws : List (List ℕ)) (n : ℕ) (w : List ℕ) → slice_get ws n ≡ Some w → (m : ℕ) × (slice_get (others ++ ws) m ≡ Some w)
get_after [] ws n w e = (n, e)
get_after (o ∷ os) ws n w e = let q = get_after os ws n w e in (suc q.0, q.1)

get_front : (others ws : List (List ℕ)) (n : ℕ) (w : List ℕ) → slice_get others n ≡ Some w → slice_get (others ++ ws) n ≡ Some w
get_front [] ws n w e = absurd (cc)
get_front (o ∷ os) ws zero w e = e
get_front (o ∷ os) ws (suc n) w e = get_front os ws n w e

-- a text agrees with one of these words
abbrev pub AgreesWithOne : List (List ℕ) → List ℕ → Type 0
AgreesWithOne words text = (m : ℕ) × (w : List ℕ) × (slice_get words m ≡ Some w) × Agree w text

pub agrees_after : (others ws : List (List ℕ)) (text : List ℕ) (n : ℕ) → first_agreeing ws text ≡ Some n → AgreesWithOne (others ++ ws) text
agrees_after others ws text n e = let f = found_at ws text n e in let q = get_after others ws n f.0 f.1 in (q.0, f.0, q.1, f.2)

pub agrees_front : (others ws : List (List ℕ)) (text : List ℕ) (n : ℕ) → first_agreeing others text ≡ Some n → AgreesWithOne (others ++ ws) text
agrees_front others ws text n e = let f = found_at others text n e in (n, f.0, get_front others ws n f.0 f.1, f.2)

pub not_prefix : (words : List (List ℕ)) (m n : ℕ) (a b : List ℕ) → is_prefix_free (map fold words) ≡ true → slice_get words m ≡ Some a → slice_get words n ≡ Some b → is_proper_prefix (fold a) (fold b) ≡ false
not_prefix words m n a b h e f =
    let all = map fold words in
    let of_a = passes_at (λ x. list_all (λ y. not (is_proper_prefix x y)) all) all m (fold a) h (get_map words m a e) in
    not-true _ (passes_at (λ y. not (is_proper_prefix (fold a) y)) all n (fold b) of_a (get_map words n b f))

-- ---- a search from the front: what was found in all is what is found in the rest, so many further

abbrev pub from : ℕ → Option ℕ → Option ℕ
from n o = option_map (λ k. n + k) o

pub first_here : (w text : List ℕ) (ws : List (List ℕ)) (n : ℕ) → agrees w text ≡ true → from n (first_agreeing (w ∷ ws) text) ≡ Some n
first_here w text ws n h = rw h (ap Some (omega arith))

moved : (n : ℕ) (o : Option ℕ) → from n (option_map (λ k. suc k) o) ≡ from (n + 1) o
moved n None = refl
moved n (Some k) = ap Some (omega arith)

pub first_later : (w text : List ℕ) (ws : List (List ℕ)) (n : ℕ) → agrees w text ≡ false → from n (first_agreeing (w ∷ ws) text) ≡ from (n + 1) (first_agreeing ws text)
first_later w text ws n h = rw h (moved n (first_agreeing ws text))

-- what is found from a word on
unfoldable pub left : List (List ℕ) → ℕ → List ℕ → Option ℕ
left ws n text = from n (first_agreeing (drop n ws) text)

drop_at : (ws : List (List ℕ)) (n : ℕ) (w : List ℕ) → slice_get ws n ≡ Some w → drop n ws ≡ w ∷ drop (n + 1) ws
drop_at [] n w e = absurd (cc)
drop_at (v ∷ vs) zero w e = let same : v ≡ w = cc in ap (λ x. x ∷ vs) same
drop_at (v ∷ vs) (suc n) w e = let k : suc n + 1 ≡ suc (n + 1) = omega arith in rw k (drop_at vs n w e)

drop_past : (ws : List (List ℕ)) (n : ℕ) → slice_get ws n ≡ None → drop n ws ≡ []
drop_past [] zero e = refl
drop_past [] (suc n) e = refl
drop_past (v ∷ vs) zero e = absurd (cc)
drop_past (v ∷ vs) (suc n) e = drop_past vs n e

drop_whole : (ws : List (List ℕ)) → drop (length ws) ws ≡ []
drop_whole [] = refl
drop_whole (v ∷ vs) = drop_whole vs

pub left_here : (ws : List (List ℕ)) (n : ℕ) (text w : List ℕ) → slice_get ws n ≡ Some w → agrees w text ≡ true → left ws n text ≡ Some n
unfolding left
left_here ws n text w e h = ap (λ t. from n (first_agreeing t text)) (drop_at ws n w e) ∙ first_here w text (drop (n + 1) ws) n h

pub left_later : (ws : List (List ℕ)) (n : ℕ) (text w : List ℕ) → slice_get ws n ≡ Some w → agrees w text ≡ false → left ws n text ≡ left ws (n + 1) text
unfolding left
left_later ws n text w e h = ap (λ t. from n (first_agreeing t text)) (drop_at ws n w e) ∙ first_later w text (drop (n + 1) ws) n h

pub left_none : (ws : List (List ℕ)) (n : ℕ) (text : List ℕ) → slice_get ws n ≡ None → left ws n text ≡ None
unfolding left
left_none ws n text e = ap (λ t. from n (first_agreeing t text)) (drop_past ws n e)

pub left_end : (ws : List (List ℕ)) (n : ℕ) (text : List ℕ) → n ≡ length ws → left ws n text ≡ None
unfolding left
left_end ws n text e = ap (λ t. from n (first_agreeing t text)) (ap (λ m. drop m ws) e ∙ drop_whole ws)

same_from_zero : (o : Option ℕ) → from 0 o ≡ o
same_from_zero None = refl
same_from_zero (Some k) = ap Some (omega arith)

pub left_all : (ws : List (List ℕ)) (text : List ℕ) → left ws 0 text ≡ first_agreeing ws text
unfolding left
left_all ws text = same_from_zero (first_agreeing ws text)
