-- The first of some words that agrees with a text, found by a test of each.
use Rattle.std.proofs.Common.{◌≡◌, ℕ, ◌+◌, List, [], ◌∷◌, Bool, Option, Some, cond, inl, inr, map, position, refl, sym, ap, ◌∙◌}
use Rattle.std.specs.List.{position_from}
use Rattle.std.proofs.lemmas.Bool.{cases_Bool}
use Rattle.std.proofs.lemmas.Iterator.Adapters.{position_from-zero}
use Rattle.ic_laws.specs.Name.{agrees}
use Rattle.ic_tables.specs.Words.{first_agreeing}
use Rattle.ic_tables.proofs.WordLemmas.{first_here, first_later, from, left, left_all}

module _ {X : Type 0} (word : X → List ℕ) (text : List ℕ) where
  abbrev agrees_here : X → Bool
  agrees_here x = agrees (word x) text

  found_from : (n : ℕ) (xs : List X) → position_from agrees_here n xs ≡ from n (first_agreeing (map word xs) text)
  found_from n [] = refl
  found_from n (x ∷ xs) =
      let decide : Bool → Option ℕ = λ b. cond b (Some n) (position_from agrees_here (n + 1) xs) in
      elim (cases_Bool (agrees_here x)) [
        | inl t ↦ ap decide t ∙ sym (first_here (word x) text (map word xs) n t)
        | inr f ↦ ap decide f ∙ found_from (n + 1) xs ∙ sym (first_later (word x) text (map word xs) n f)
      ]

  pub found_first : (xs : List X) → position agrees_here xs ≡ first_agreeing (map word xs) text
  unfolding left
  found_first xs = position_from-zero agrees_here xs ∙ found_from 0 xs ∙ left_all (map word xs) text
