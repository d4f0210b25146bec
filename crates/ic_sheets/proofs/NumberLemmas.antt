-- Numbers behind words, and the marks of those that are taken.
use Rattle.std.proofs.Common.{◌≡◌, ◌≢◌, ◌∙◌, refl, sym, ap, subst, ℕ, zero, suc, ◌+◌, ◌-◌, ◌^◌, ◌<◌, ◌≤◌, Bool, true, false, ◌||◌, inl, inr, Option, Some, None, List, [], ◌∷◌, ◌++◌, get_or, set, length, map, nat_eq, Result, Ok, Err, IsUtf8, chars, arith}
use Rattle.std.proofs.lemmas.Bool.{cases_Bool, eqb-false, eqb-true}
use Rattle.std.proofs.lemmas.Fmt.{IsAscii-decimal, decimal-digits_value}
use Rattle.std.proofs.lemmas.List.{get_or-set_other}
use Rattle.std.proofs.lemmas.Str.{chars-IsAscii, chars-append}
use Rattle.std.proofs.lemmas.Str.Parse.{parse_plain}
use Rattle.std.specs.Fmt.{decimal}
use Rattle.std.specs.List.{list_any}
use Rattle.std.specs.Option.{IfSome}
use Rattle.std.specs.Result.{result_ok}
use Rattle.std.specs.Str.Parse.{ParsesUnsigned}
use Rattle.ic_laws.proofs.AmountLemmas.{numerals}
use Rattle.ic_laws.proofs.CoreLemmas.{agrees_equiv}
use Rattle.ic_laws.specs.Name.{agrees}
use Rattle.ic_sheets.specs.Numbers.{AreMarked}
use Rattle.ic_sheets.specs.declared.sheet.Sheet.{Sheet}

-- digits without a zero or a plus in front are what their number is written as
pub number_read : {E : Type 0} (bytes : List ℕ) (r : Result ℕ E) → ParsesUnsigned 64 10 bytes r → get_or bytes 0 0 ≢ 43 → get_or bytes 0 0 ≢ 48 → IfSome (result_ok r) (λ n. chars bytes ≡ decimal n)
number_read {E = E} bytes (Ok n) h plus nought =
    let read = parse_plain numerals {E = E} 64 bytes (Ok n) h plus in
    let is : bytes ≡ decimal n = sym (ap decimal read.1 ∙ decimal-digits_value numerals bytes read.0.0 read.0.1 (λ e. absurd (nought e)) read.0.2) in
    let small : n < 2 ^ 64 = subst (λ k. k < 2 ^ 64) (sym read.1) read.0.2 in
    ap chars is ∙ chars-IsAscii (decimal n) (IsAscii-decimal n small)
number_read {E = E} bytes (Err e) h plus nought = tt

-- the characters of a name that is a word and a number
pub named_so : (name word rest : List ℕ) (r : Option ℕ) → IsUtf8 word → name ≡ word ++ rest → IfSome r (λ n. chars rest ≡ decimal n) → IfSome r (λ n. chars name ≡ chars word ++ decimal n)
named_so name word rest None u e h = h
named_so name word rest (Some n) u e h = ap chars e ∙ chars-append word rest u ∙ ap (λ r. chars word ++ r) h

any_name : (test : List ℕ → Bool) (ws : List Sheet) (i : ℕ) (w : Sheet) → w ≡ get_or ws i w → i < length ws → test w.name ≡ true → list_any test (map (λ s. s.name) ws) ≡ true
any_name test [] i w e less t = absurd (omega (arith, less))
any_name test (v ∷ ws) zero w e less t = rw (ap (λ (s : Sheet). test s.name) (sym e) ∙ t) refl
any_name test (v ∷ ws) (suc i) w e less t = by_head (test v.name) (any_name test ws i w e (omega (arith, less)) t)
  where
    by_head : (b : Bool) → list_any test (map (λ s. s.name) ws) ≡ true → (b || list_any test (map (λ s. s.name) ws)) ≡ true
    by_head true h = refl
    by_head false h = h

-- one more place is marked
pub marked_too : (word : List ℕ) (ws : List Sheet) (marks : List Bool) → AreMarked (λ n. word ++ decimal n) (map (λ s. s.name) ws) marks → (i : ℕ) (w : Sheet) → w ≡ get_or ws i w → i < length ws → (n : ℕ) → n ≢ 0 → n ≤ length marks → w.name ≡ word ++ decimal n
    → AreMarked (λ n. word ++ decimal n) (map (λ s. s.name) ws) (set marks (n - 1) true)
marked_too word ws marks so i w at within n some room is k e = elim (cases_Bool (nat_eq k (n - 1))) [
  | inl t ↦ let at_it : k ≡ n - 1 = eqb-true k (n - 1) t in
      let same : k + 1 ≡ n = omega (arith, at_it, some) in
      any_name (agrees (word ++ decimal (k + 1))) ws i w at within (ap (agrees (word ++ decimal (k + 1))) (is ∙ ap (λ m. word ++ decimal m) (sym same)) ∙ agrees_equiv.refl (word ++ decimal (k + 1)))
  | inr f ↦ so k (other k f ∙ e)
]
  where
    other : (k : ℕ) → nat_eq k (n - 1) ≡ false → get_or marks k false ≡ get_or (set marks (n - 1) true) k false
    other k f = sym (get_or-set_other marks (n - 1) k true false (eqb-false k (n - 1) f))
