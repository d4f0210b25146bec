-- Lists, choices and options: what the proofs of several crates above use.
use Rattle.std.proofs.Common.{◌≡◌, ℕ, List, sym, bytes_eq, suc, Bool, true, false, cond, Option, Some, None, option_map, refl, ◌+◌, [], ◌∷◌, ap, arith, ◌&&◌, option_and_then, is_some, map, zero, ◌<◌, ◌++◌, length, IsAscii}
use Rattle.ic_laws.specs.Command.{number_said}
use Rattle.std.proofs.lemmas.Bool.{and_parts}
use Rattle.std.proofs.lemmas.Bool.Decides.{nat_tests}
use Rattle.std.proofs.lemmas.Slice.Eq.{bytes_eq-Decides}
use Rattle.std.proofs.lemmas.Str.Ascii.{IsAscii-cons, IsAscii-nil}
use Rattle.std.specs.Bool.{one_answer}
use Rattle.std.specs.Char.{is_ascii_digit}
use Rattle.std.specs.List.{position_from, slice_get}
use Rattle.std.specs.Ordering.{is_eq, ordering_then}
use Rattle.std.specs.Prelude.{insert}
use Rattle.std.specs.Str.{all_ascii_digits}
use Rattle.std.specs.declared.cmp.Ordering.{Ordering}
use Rattle.std.specs.declared.cmp.Ordering.TheVariants.{Less, Equal, Greater}

pub bytes_eq-flip : (a b : List ℕ) → bytes_eq a b ≡ bytes_eq b a
bytes_eq-flip a b = one_answer _ _ (bytes_eq-Decides a b) ((λ e. sym ((bytes_eq-Decides b a).0 e)), (λ e. (bytes_eq-Decides b a).1 (sym e)))

pub none_left : (b : Bool) (o : Option ℕ) → cond b (Some 0) (option_map suc o) ≡ None → (b ≡ false) × (o ≡ None)
none_left true o e = cc
none_left false None e = (refl, refl)
none_left false (Some k) e = cc

pub swap_places : (t b : Bool) (n : ℕ) (r : Option ℕ) → (t ≡ true → b ≡ true → ⊥) → cond t (Some 0) (option_map suc (cond b (Some n) r)) ≡ cond b (Some (suc n)) (cond t (Some 0) (option_map suc r))
swap_places true true n r h = absurd (h refl refl)
swap_places true false n r h = refl
swap_places false true n r h = refl
swap_places false false n r h = refl

pub counted_later : {X : Type 0} (p : X → Bool) (at : ℕ) (xs : List X) → position_from p (at + 1) xs ≡ option_map suc (position_from p at xs)
counted_later p at [] = refl
counted_later {X} p at (x ∷ xs) = step (p x) (counted_later p (at + 1) xs)
  where
    step : (b : Bool) → position_from p (at + 1 + 1) xs ≡ option_map suc (position_from p (at + 1) xs) → cond b (Some (at + 1)) (position_from p (at + 1 + 1) xs) ≡ option_map suc (cond b (Some at) (position_from p (at + 1) xs))
    step true e = ap (λ n. Some n) (let next : at + 1 ≡ suc at = omega arith in next)
    step false e = e

pub both_equal : (a b : Ordering) → is_eq (ordering_then a b) ≡ (is_eq a && is_eq b)
both_equal Less b = refl
both_equal Equal b = refl
both_equal Greater b = refl

pub chained : {A B : Type 0} (f : A → Option B) (o : Option A) (y : B) → option_and_then f o ≡ Some y → (x : A) × (o ≡ Some x) × (f x ≡ Some y)
chained f None y e = absurd (cc)
chained f (Some x) y e = (x, refl, e)

pub some_there : {X : Type 0} (o : Option X) → is_some o ≡ true → (x : X) × (o ≡ Some x)
some_there None e = cc
some_there (Some x) e = (x, refl)

pub map-map : {X Y Z : Type 0} (f : X → Y) (g : Y → Z) (xs : List X) → map (λ x. g (f x)) xs ≡ map g (map f xs)
map-map f g [] = refl
map-map f g (x ∷ xs) = ap (λ ys. g (f x) ∷ ys) (map-map f g xs)

pub insert-map : {X Y : Type 0} (f : X → Y) (xs : List X) (at : ℕ) (x : X) → map f (insert xs at x) ≡ insert (map f xs) at (f x)
insert-map f [] zero x = refl
insert-map f [] (suc at) x = refl
insert-map f (y ∷ xs) zero x = refl
insert-map f (y ∷ xs) (suc at) x = ap (λ rest. f y ∷ rest) (insert-map f xs at x)

pub either_order : {A : Type 0} (a b : Bool) (x y z : A) → (a ≡ true → b ≡ true → ⊥) → cond a x (cond b y z) ≡ cond b y (cond a x z)
either_order true true x y z apart = absurd (apart refl refl)
either_order true false x y z apart = refl
either_order false b x y z apart = refl

pub in_front : {A : Type 0} (xs ys : List A) (i : ℕ) → i < length xs → slice_get (xs ++ ys) i ≡ slice_get xs i
in_front [] ys i lt = absurd (omega (arith, lt))
in_front (x ∷ xs) ys zero lt = refl
in_front (x ∷ xs) ys (suc i) lt = in_front xs ys i (omega (arith, lt))

pub clear_cause : {A : Type 0} (t : Bool) (x : A) (o : Option A) → cond t (Some x) o ≡ None → (t ≡ false) × (o ≡ None)
clear_cause true x o e = absurd (cc)
clear_cause false x o e = (refl, e)

pub digit_below : (c : ℕ) → is_ascii_digit c ≡ true → c < 128
digit_below c h = grind (arith, nat_tests)

pub digits_ascii : (cs : List ℕ) → all_ascii_digits cs ≡ true → IsAscii cs
digits_ascii [] h = IsAscii-nil
digits_ascii (c ∷ cs) h =
    let p = and_parts (is_ascii_digit c) (all_ascii_digits cs) h in IsAscii-cons c cs (digit_below c p.0) (digits_ascii cs p.1)

pub no_number : (cs : List ℕ) → all_ascii_digits cs ≡ false → number_said cs ≡ None
no_number [] h = absurd (cc)
no_number (c ∷ cs) h = rw h refl
