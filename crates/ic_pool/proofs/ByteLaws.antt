-- What is written as bytes can be told from what follows.
use Rattle.std.proofs.Common.{◌≡◌, ◌<◌, ◌≤◌, ◌+◌, ◌-◌, ◌*◌, ◌/◌, ◌%◌, ℕ, zero, suc, List, [], ◌∷◌, ◌++◌, Bool, true, false, cond, refl, sym, ap, ap₂, ◌∙◌, map, length, arith, append_assoc}
use Rattle.std.specs.Prelude.{nat_lt}
use Rattle.std.proofs.lemmas.Bool.{le-ltb, lt-ltb, ltb-false}
use Rattle.std.proofs.lemmas.List.{length-map}
use Rattle.std.specs.List.{AllByRecursion}
use Rattle.ic_pool.specs.Bytes.{all_bytes, groups, joined, number_bytes, text_bytes}
use Rattle.ic_pool.specs.Code.{rows_bytes}

pub joined-map : {A : Type 0} (f : A → List ℕ) (xs : List A) → joined (λ c. c) (map f xs) ≡ joined f xs
joined-map f [] = refl
joined-map f (x ∷ xs) = ap (λ c. f x ++ c) (joined-map f xs)

pub joined-append : {A : Type 0} (f : A → List ℕ) (xs ys : List A) → joined f (xs ++ ys) ≡ joined f xs ++ joined f ys
joined-append f [] ys = refl
joined-append f (x ∷ xs) ys = ap (λ c. f x ++ c) (joined-append f xs ys) ∙ sym (append_assoc (f x) (joined f xs) (joined f ys))

pub all_bytes-map : {A : Type 0} (f : A → List ℕ) (xs : List A) → all_bytes (λ c. c) (map f xs) ≡ all_bytes f xs
all_bytes-map f xs = ap₂ (λ n bytes. number_bytes n ++ bytes) (length-map xs f) (joined-map f xs)

-- ---- what is written ends by itself

-- what is written of x, with anything behind it, is written of x alone
abbrev pub Ends : {A : Type 0} → (A → List ℕ) → A → Type 0
Ends {A} f x = (y : A) (r s : List ℕ) → f x ++ r ≡ f y ++ s → (x ≡ y) × (r ≡ s)

-- ---- the groups of a number

-- the groups of a number, by the test whether it is short, where what follows its lowest bits is alike
alike_by_test : (n : ℕ) (rest others : List ℕ) (short : Bool) → (short ≡ false → rest ≡ others) → cond short (n ∷ []) ((n % 128 + 128) ∷ rest) ≡ cond short (n ∷ []) ((n % 128 + 128) ∷ others)
alike_by_test n rest others true h = refl
alike_by_test n rest others false h = ap (λ c. (n % 128 + 128) ∷ c) (h refl)

-- more turns than a number needs change nothing
groups_alike : (f g n : ℕ) → n ≤ f → n ≤ g → groups f n ≡ groups g n
groups_alike zero zero n below other = refl
groups_alike zero (suc g) zero below other = refl
groups_alike zero (suc g) (suc n) below other = absurd (omega (arith, below))
groups_alike (suc f) zero zero below other = refl
groups_alike (suc f) zero (suc n) below other = absurd (omega (arith, other))
groups_alike (suc f) (suc g) n below other =
    alike_by_test n (groups f (n / 128)) (groups g (n / 128)) (nat_lt n 128)
    (λ e. let least = ltb-false n 128 e in groups_alike f g (n / 128) (omega (arith, least, below)) (omega (arith, least, other)))

-- a number below 128 is its byte
pub number_short : (n : ℕ) → n < 128 → number_bytes n ≡ n ∷ []
unfolding number_bytes
number_short zero below = refl
number_short (suc n) below = ap (λ short. cond short (suc n ∷ []) ((suc n % 128 + 128) ∷ groups n (suc n / 128))) (lt-ltb (suc n) 128 below)

-- any other begins with its lowest seven bits
pub number_long : (n : ℕ) → 128 ≤ n → number_bytes n ≡ (n % 128 + 128) ∷ number_bytes (n / 128)
unfolding number_bytes
number_long zero least = absurd (omega (arith, least))
number_long (suc n) least =
    ap (λ short. cond short (suc n ∷ []) ((suc n % 128 + 128) ∷ groups n (suc n / 128))) (le-ltb (suc n) 128 least)
    ∙ ap (λ c. (suc n % 128 + 128) ∷ c) (groups_alike n (suc n / 128) (suc n / 128) (omega (arith, least)) (omega arith))

-- the number whose groups stand at the front, and what follows
read : List ℕ → ℕ × List ℕ
read [] = (0, [])
read (b ∷ bytes) = cond (nat_lt b 128) (b, bytes) (b - 128 + 128 * (read bytes).0, (read bytes).1)

-- one group is read, where what follows it is
read_by_test : (n : ℕ) (rest r : List ℕ) (short : Bool) → nat_lt n 128 ≡ short → (short ≡ false → read (rest ++ r) ≡ (n / 128, r)) → read (cond short (n ∷ []) ((n % 128 + 128) ∷ rest) ++ r) ≡ (n, r)
unfolding read
read_by_test n rest r true e h = ap (λ test. cond test (n, r) (n - 128 + 128 * (read r).0, (read r).1)) e
read_by_test n rest r false e h =
    let long : nat_lt (n % 128 + 128) 128 ≡ false = le-ltb (n % 128 + 128) 128 (omega arith) in
    let number : n % 128 + 128 - 128 + 128 * (n / 128) ≡ n = omega arith in
    let after : read (rest ++ r) ≡ (n / 128, r) = h refl in
    ap (λ test. cond test (n % 128 + 128, rest ++ r) (n % 128 + 128 - 128 + 128 * (read (rest ++ r)).0, (read (rest ++ r)).1)) long
    ∙ ap (λ x. (n % 128 + 128 - 128 + 128 * x.0, x.1)) after ∙ ap (λ m. (m, r)) number

read_groups : (turns n : ℕ) (r : List ℕ) → n ≤ turns → read (groups turns n ++ r) ≡ (n, r)
unfolding read
read_groups zero zero r below = refl
read_groups zero (suc n) r below = absurd (omega (arith, below))
read_groups (suc turns) n r below =
    read_by_test n (groups turns (n / 128)) r (nat_lt n 128) refl
    (λ e. let least = ltb-false n 128 e in read_groups turns (n / 128) r (omega (arith, least, below)))

-- the bytes of a number tell where they end
pub number_ends : (n : ℕ) → Ends number_bytes n
unfolding number_bytes
number_ends n m r s is =
    let both : (n, r) ≡ (m, s) = sym (read_groups n n r (omega arith)) ∙ ap read is ∙ read_groups m m s (omega arith) in
    (ap (λ x. x.0) both, ap (λ x. x.1) both)

pub joined_end : {A : Type 0} (f : A → List ℕ) (xs : List A) → AllByRecursion (Ends f) xs → (ys : List A) (r s : List ℕ) → length xs ≡ length ys → joined f xs ++ r ≡ joined f ys ++ s → (xs ≡ ys) × (r ≡ s)
joined_end f [] h [] r s l e = (refl, e)
joined_end f [] h (y ∷ ys) r s l e = absurd (omega arith)
joined_end f (x ∷ xs) h [] r s l e = absurd (omega arith)
joined_end f (x ∷ xs) h (y ∷ ys) r s l e =
    let moved : f x ++ (joined f xs ++ r) ≡ f y ++ (joined f ys ++ s) =
    sym (append_assoc (f x) (joined f xs) r) ∙ e ∙ append_assoc (f y) (joined f ys) s in
    let first = h.0 y (joined f xs ++ r) (joined f ys ++ s) moved in
    let rest = joined_end f xs h.1 ys r s (omega arith) first.1 in
    let heads : x ≡ y = first.0 in
    let others : xs ≡ ys = rest.0 in
    (cc, rest.1)

pub all_end : {A : Type 0} (f : A → List ℕ) (xs : List A) → AllByRecursion (Ends f) xs → Ends (all_bytes f) xs
all_end f xs h ys r s e =
    let count = number_ends (length xs) (length ys) (joined f xs ++ r) (joined f ys ++ s)
    (sym (append_assoc (number_bytes (length xs)) (joined f xs) r) ∙ e ∙ append_assoc (number_bytes (length ys)) (joined f ys) s) in
    joined_end f xs h ys r s count.0 count.1

pub all_true : {A : Type 0} (P : A → Type 0) → ((x : A) → P x) → (xs : List A) → AllByRecursion P xs
all_true P h [] = tt
all_true P h (x ∷ xs) = (h x, all_true P h xs)

pub text_ends : (x : List ℕ) → Ends text_bytes x
text_ends x = all_end number_bytes x (all_true (Ends number_bytes) number_ends x)

pub row_ends : (row : List (List ℕ)) → Ends (all_bytes text_bytes) row
row_ends row = all_end text_bytes row (all_true (Ends text_bytes) text_ends row)

pub rows_end : (rows : List (List (List ℕ))) → Ends rows_bytes rows
rows_end rows = all_end (all_bytes text_bytes) rows (all_true (Ends (all_bytes text_bytes)) row_ends rows)
