-- The greatest id that definitions are local to, when one of them goes or another stands in its place.
use Rattle.std.proofs.Common.{◌≡◌, ℕ, zero, suc, ◌<◌, ◌≤◌, List, [], ◌∷◌, option_to_list, max, length, get_or, sym, ap, ◌∙◌, remove, take, arith}
use Rattle.ic_laws.proofs.core.Lists.{removed_seen}
use Rattle.ic_laws.specs.CoreBook.{Definition}
use Rattle.ic_laws.specs.CoreStep.{updated_at}
use Rattle.ic_laws.specs.Greatest.{greatest}
use Rattle.ic_definitions.specs.Named.{key_in, scopes_of}
use Rattle.ic_definitions.proofs.NamedLemmas.{greatest_joined, keys, keys_removed, same_scopes}
use Rattle.ic_definitions.proofs.ReplacedNames.{keys_replaced, keys_updated}

-- the id that a definition is local to, 0 where it is local to none
abbrev of_one : Definition → ℕ
of_one d = greatest (option_to_list d.scope)

abbrev of_all : List Definition → ℕ
of_all ds = greatest (scopes_of ds)

of_more : (x : Definition) (ds : List Definition) → of_all (x ∷ ds) ≡ max (of_one x) (of_all ds)
of_more x ds = greatest_joined (option_to_list x.scope) (scopes_of ds)

scopes_updated : (ds : List Definition) (index : ℕ) (d new : Definition) → index < length ds → d ≡ get_or ds index d → max (of_all ds) (of_one new) ≡ max (of_all (updated_at (λ x. new) index ds)) (of_one d)
scopes_updated [] index d new lt read = absurd (omega arith)
scopes_updated (x ∷ ds) zero d new lt read =
    ap (λ n. max n (of_one new)) (of_more x ds)
    ∙ turned (of_one x) (of_all ds) (of_one new)
    ∙ ap (max (max (of_one new) (of_all ds))) (sym (ap of_one read))
    ∙ sym (ap (λ n. max n (of_one d)) (of_more new ds))
  where
    turned : (a b c : ℕ) → max (max a b) c ≡ max (max c b) a
    turned a b c = omega arith
scopes_updated (x ∷ ds) (suc index) d new lt read =
    ap (λ n. max n (of_one new)) (of_more x ds)
    ∙ first (of_one x) (of_all ds) (of_one new) (of_all (updated_at (λ y. new) index ds)) (of_one d) (scopes_updated ds index d new (omega arith) read)
    ∙ sym (ap (λ n. max n (of_one d)) (of_more x (updated_at (λ y. new) index ds)))
  where
    first : (a b c e f : ℕ) → max b c ≡ max e f → max (max a b) c ≡ max (max a e) f
    first a b c e f same = omega (arith, same)

scopes_removed : (ds : List Definition) (index : ℕ) (d : Definition) → index < length ds → d ≡ get_or ds index d → of_all ds ≡ max (of_all (remove ds index)) (of_one d)
scopes_removed [] index d lt read = absurd (omega arith)
scopes_removed (x ∷ ds) zero d lt read = of_more x ds ∙ turned (of_one x) (of_all ds) ∙ ap (max (of_all ds)) (sym (ap of_one read))
  where
    turned : (a b : ℕ) → max a b ≡ max b a
    turned a b = omega arith
scopes_removed (x ∷ ds) (suc index) d lt read =
    of_more x ds
    ∙ first (of_one x) (of_all ds) (of_all (remove ds index)) (of_one d) (scopes_removed ds index d (omega arith) read)
    ∙ sym (ap (λ n. max n (of_one d)) (of_more x (remove ds index)))
  where
    first : (a b e f : ℕ) → b ≡ max e f → max a b ≡ max (max a e) f
    first a b e f same = omega (arith, same)

-- one stands in the place of another, among others that may have got other bodies
pub greatest_replaced : (last most gone index : ℕ) (ds others list : List Definition) (d new : Definition) → last ≡ of_all ds → keys others ≡ keys ds → index < length ds → d ≡ get_or ds index d → list ≡ updated_at (λ x. new) index others
    → most ≡ max last (of_one new) → gone ≡ of_one d → most ≡ max (of_all list) gone
greatest_replaced last most gone index ds others list d new now same lt read is mosts gones =
    mosts
    ∙ ap (λ n. max n (of_one new)) now
    ∙ scopes_updated ds index d new lt read
    ∙ ap (λ scopes. max (greatest scopes) (of_one d)) (sym (same_scopes list (updated_at (λ x. new) index ds) (keys_replaced new index ds others list same is ∙ sym (keys_updated new index ds))))
    ∙ ap (max (of_all list)) (sym gones)

-- one goes from among such others
pub greatest_without : (last gone index : ℕ) (ds others list : List Definition) (d : Definition) → last ≡ of_all ds → keys others ≡ keys ds → index < length ds → d ≡ get_or ds index d → list ≡ remove others index
    → gone ≡ of_one d → last ≡ max (of_all list) gone
greatest_without last gone index ds others list d now same lt read is gones =
    now
    ∙ scopes_removed ds index d lt read
    ∙ ap (λ scopes. max (greatest scopes) (of_one d)) (sym (same_scopes list (remove ds index) (keys_removed ds others list index same is ∙ sym (removed_seen key_in ds index))))
    ∙ ap (max (of_all list)) (sym gones)

-- the first ones stay
pub greatest_taken : (n : ℕ) (ds : List Definition) → of_all (take n ds) ≤ of_all ds
greatest_taken zero ds = omega arith
greatest_taken (suc n) [] = omega arith
greatest_taken (suc n) (x ∷ ds) = let rest = greatest_taken n ds in let one = of_more x (take n ds) in let all = of_more x ds in omega (arith, rest, one, all)
