-- Texts that begin with no blank, and end with none, too.
use Rattle.std.proofs.Common.{◌≡◌, ℕ, ◌<◌, List, [], ◌∷◌, ◌++◌, Bool, true, false, not, cond, reverse, length, refl, sym, ap, subst, arith}
use Rattle.std.proofs.lemmas.Bool.{true≢false, not-true as not_both}
use Rattle.std.proofs.lemmas.List.{length-reverse}
use Rattle.ic_laws.specs.Character.{equals}
use Rattle.ic_laws.specs.Scan.{first_is, is_blank}
use Rattle.ic_machine.proofs.again.TextEnds.{IsTight, is_solid}

some_solid : (text : List ℕ) → first_is is_solid text ≡ true → 0 < length text
some_solid [] h = absurd (true≢false (sym h))
some_solid (c ∷ cs) h = omega arith

solid_unless : (text : List ℕ) → 0 < length text → first_is is_blank text ≡ false → first_is is_solid text ≡ true
solid_unless [] some h = absurd (omega arith)
solid_unless (c ∷ cs) some h = ap not h

-- it ends with none, unless it ends with one
pub tight_unless : (text : List ℕ) → first_is is_solid text ≡ true → first_is is_blank (reverse text) ≡ false → IsTight text
tight_unless text first plain = record {
  first = first;
  last = solid_unless (reverse text) (subst (λ (n : ℕ). 0 < n) (sym (length-reverse text)) (some_solid text first)) plain;
}

no_blank : (text : List ℕ) → first_is is_solid text ≡ true → first_is is_blank text ≡ false
no_blank [] h = refl
no_blank (c ∷ cs) h = not_both (is_blank c) h

pub ends_plain : (text : List ℕ) → IsTight text → first_is is_blank (reverse text) ≡ false
ends_plain text tight = no_blank (reverse text) tight.last

-- an equals sign is no blank
pub begins_front : (has : Bool) (text : List ℕ) → first_is is_solid text ≡ true → first_is is_solid (cond has (equals ∷ []) [] ++ text) ≡ true
begins_front true text h = refl
begins_front false text h = h
