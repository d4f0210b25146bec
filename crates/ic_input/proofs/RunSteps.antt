-- Where a run of characters ends, and which characters a symbol has.
use Rattle.std.proofs.Common.{◌≡◌, ℕ, ◌-◌, List, [], ◌∷◌, ◌++◌, Bool, true, false, ◌==◌, codes, refl, ap}
use Rattle.std.specs.List.{list_all, list_any}
use Rattle.std.proofs.lemmas.Bool.{and_from, and_parts, or_parts}
use Rattle.ic_laws.specs.Scan.{first_is, is_blank, is_digit, past_run, run_of}
use Rattle.ic_tables.specs.Formats.{may_stand_in_symbol}
use Rattle.ic_input.specs.Code.{has_up_to, is_symbol}
use Rattle.ic_laws.proofs.tokens.Characters.{not_true as not-false}

-- a run ends where another character follows
pub run_until : (p : ℕ → Bool) (front tail : List ℕ) → list_all p front ≡ true → first_is p tail ≡ false → (run_of p (front ++ tail) ≡ front) × (past_run p (front ++ tail) ≡ tail)
run_until p [] [] all apart = (refl, refl)
run_until p [] (c ∷ tail) all apart = (rw apart refl, rw apart refl)
run_until p (c ∷ front) tail all apart =
    let both = and_parts (p c) (list_all p front) all in
    let rest = run_until p front tail both.1 apart in
    (rw both.0 (ap (λ t. c ∷ t) rest.0), rw both.0 rest.1)

pub all_weaker : (p q : ℕ → Bool) → ((c : ℕ) → p c ≡ true → q c ≡ true) → (text : List ℕ) → list_all p text ≡ true → list_all q text ≡ true
all_weaker p q f [] h = refl
all_weaker p q f (c ∷ cs) h =
    let both = and_parts (p c) (list_all p cs) h in and_from _ _ (f c both.0) (all_weaker p q f cs both.1)

-- What no character of a symbol is.
pub record CanStand (c : ℕ) : Type 0 where
  pub digit : is_digit c ≡ false
  pub blank : is_blank c ≡ false
  pub hash : (c == 35) ≡ false
  pub comma : (c == 44) ≡ false
  pub dot : (c == 46) ≡ false
  pub percent : (c == 37) ≡ false
  pub plus : (c == 43) ≡ false
  pub minus : (c == 45) ≡ false
  pub equals : (c == 61) ≡ false
  pub quote : (c == 39) ≡ false

pub can_stand : (c : ℕ) → may_stand_in_symbol c ≡ true → CanStand c
can_stand c h =
    let a = and_parts _ _ h in
    let b = and_parts _ _ a.0 in
    let m = not-false (list_any (λ x. c == x) (codes "#,.%\"+-='")) a.1 in
    let hash = or_parts (c == 35) _ m in
    let comma = or_parts (c == 44) _ hash.1 in
    let dot = or_parts (c == 46) _ comma.1 in
    let percent = or_parts (c == 37) _ dot.1 in
    let double = or_parts (c == 34) _ percent.1 in
    let plus = or_parts (c == 43) _ double.1 in
    let minus = or_parts (c == 45) _ plus.1 in
    let equals = or_parts (c == 61) _ minus.1 in
    let quote = or_parts (c == 39) _ equals.1 in
    record {
      digit = not-false (is_digit c) b.0;
      blank = not-false (is_blank c) b.1;
      hash = hash.0;
      comma = comma.0;
      dot = dot.0;
      percent = percent.0;
      plus = plus.0;
      minus = minus.0;
      equals = equals.0;
      quote = quote.0;
    }

-- a symbol has such characters alone
up_to_all : (most : ℕ) (text : List ℕ) → has_up_to most text ≡ true → list_all may_stand_in_symbol text ≡ true
up_to_all most [] h = refl
up_to_all most (c ∷ cs) h =
    let a = and_parts _ _ h in
    let b = and_parts _ _ a.0 in
    and_from _ _ b.1 (up_to_all (most - 1) cs a.1)

pub symbol_all : (text : List ℕ) → is_symbol text ≡ true → list_all may_stand_in_symbol text ≡ true
symbol_all [] h = refl
symbol_all (c ∷ cs) h = up_to_all 4 (c ∷ cs) h
