-- Readers of the longest text at the front: what they take is spelled, and they reach as far as any text that is.
use Rattle.std.proofs.Common.{◌≡◌, ◌≤◌, ℕ, List, ◌++◌, Bool, false, length, Option, Some, None, option_map, option_and_then, refl, sym, subst, ◌∙◌, ap, arith, append_assoc, length-append}
use Rattle.ic_laws.specs.Longest.{FindsLongest}
use Rattle.ic_laws.specs.Scan.{first_is}

-- what was read is spelled by the front of the text, before the rest
pub record IsTaken {T : Type 0} (Spells : List ℕ → T → Type 0) (text : List ℕ) (found : T × List ℕ) : Type 0 where
  pub front : List ℕ
  pub whole : text ≡ front ++ found.1
  pub spelled : Spells front found.0

abbrev pub Takes : {T : Type 0} → (List ℕ → T → Type 0) → List ℕ → Option (T × List ℕ) → Type 0
Takes Spells text None = Unit {0}
Takes Spells text (Some found) = IsTaken Spells text found

-- something was read, and no more is left than this
abbrev pub Reaches : {T : Type 0} → List ℕ → Option (T × List ℕ) → Type 0
Reaches after None = ⊥
Reaches after (Some found) = length found.1 ≤ length after

longest_of : {T : Type 0} (Spells : List ℕ → T → Type 0) (text : List ℕ) (o : Option (T × List ℕ)) → Takes Spells text o → ((other after : List ℕ) (v : T) → text ≡ other ++ after → Spells other v → Reaches after o) → FindsLongest Spells text o
longest_of Spells text None t r = λ front rest v e s. r front rest v e s
longest_of Spells text (Some found) t r = record {
  front = t.front;
  whole = t.whole;
  spelled = t.spelled;
  longest = λ other after v e s.
      omega (arith, r other after v e s, sym (length-append other after) ∙ sym (ap length e) ∙ ap length t.whole ∙ length-append t.front found.1);
}

-- so it is the longest
pub finds_longest : {T : Type 0} (Spells : List ℕ → T → Type 0) (read : List ℕ → Option (T × List ℕ)) → ((text : List ℕ) → Takes Spells text (read text)) → ((front after : List ℕ) (v : T) → Spells front v → Reaches after (read (front ++ after))) → (text : List ℕ) → FindsLongest Spells text (read text)
finds_longest Spells read t r text =
    longest_of Spells text (read text) (t text) (λ other after v e s. subst (λ l. Reaches after (read l)) (sym e) (r other after v s))

-- what was read stands in front of a rest that is no longer
pub takes_le : {T : Type 0} (Spells : List ℕ → T → Type 0) (text : List ℕ) (found : T × List ℕ) → Takes Spells text (Some found) → length found.1 ≤ length text
takes_le Spells text found t = omega (arith, ap length t.whole, length-append t.front found.1)

-- what is read exactly is reached
pub reaches_exactly : {T : Type 0} (after : List ℕ) (v : T) (o : Option (T × List ℕ)) → o ≡ Some (v, after) → Reaches after o
reaches_exactly after v o e = subst (λ o. Reaches after o) (sym e) (omega arith)

module _ {A B C : Type 0} (SpellsA : List ℕ → A → Type 0) (SpellsB : List ℕ → B → Type 0) (SpellsC : List ℕ → C → Type 0) (make : A → B → C) where
  -- one after the other
  abbrev pub both : Option (A × List ℕ) → (List ℕ → Option (B × List ℕ)) → Option (C × List ℕ)
  both first second = option_and_then (λ a. option_map (λ b. (make a.0 b.0, b.1)) (second a.1)) first

  second_takes : (text : List ℕ) (a : A × List ℕ) (o : Option (B × List ℕ)) → Takes SpellsA text (Some a) → Takes SpellsB a.1 o
      → ((s t : List ℕ) (x : A) (y : B) → SpellsA s x → SpellsB t y → SpellsC (s ++ t) (make x y))
      → Takes SpellsC text (option_map (λ b. (make a.0 b.0, b.1)) o)
  second_takes text a None t u j = tt
  second_takes text a (Some b) t u j = record {
    front = t.front ++ u.front;
    whole = t.whole ∙ ap (λ r. t.front ++ r) u.whole ∙ sym (append_assoc t.front u.front b.1);
    spelled = j t.front u.front a.0 b.0 t.spelled u.spelled;
  }

  pub both_take : (text : List ℕ) (first : Option (A × List ℕ)) (second : List ℕ → Option (B × List ℕ)) → Takes SpellsA text first → ((rest : List ℕ) → Takes SpellsB rest (second rest))
      → ((s t : List ℕ) (x : A) (y : B) → SpellsA s x → SpellsB t y → SpellsC (s ++ t) (make x y))
      → Takes SpellsC text (both first second)
  both_take text None second t u j = tt
  both_take text (Some a) second t u j = second_takes text a (second a.1) t (u a.1) j

-- a change of what was read leaves the rest
pub reaches_map : {A C : Type 0} (f : A → C) (after : List ℕ) (o : Option (A × List ℕ)) → Reaches after o → Reaches after (option_map (λ b. (f b.0, b.1)) o)
reaches_map f after None r = r
reaches_map f after (Some b) r = r

-- the same where what is found is named
pub takes_found : {T : Type 0} (Spells : List ℕ → T → Type 0) (text : List ℕ) (o : Option (T × List ℕ)) → ((found : T × List ℕ) → o ≡ Some found → IsTaken Spells text found) → Takes Spells text o
takes_found Spells text None h = tt
takes_found Spells text (Some found) h = h found refl

pub reaches_found : {T : Type 0} (after : List ℕ) (found : T × List ℕ) (o : Option (T × List ℕ)) → o ≡ Some found → length found.1 ≤ length after → Reaches after o
reaches_found after found o e h = subst (λ o. Reaches after o) (sym e) h

-- What a reader reads is spelled so; what is spelled is read, or more is; and just it is read, where no character that
-- could go on stands at the front of the rest.
pub record Reads {T : Type 0} (Spells : List ℕ → T → Type 0) (read : List ℕ → Option (T × List ℕ)) (goes_on : ℕ → Bool) : Type 0 where
  pub spelled : (text : List ℕ) (found : T × List ℕ) → read text ≡ Some found → IsTaken Spells text found
  pub longest : (front rest : List ℕ) (v : T) → Spells front v → (found : T × List ℕ) × (read (front ++ rest) ≡ Some found) × (length found.1 ≤ length rest)
  pub exact : (front rest : List ℕ) (v : T) → Spells front v → first_is goes_on rest ≡ false → read (front ++ rest) ≡ Some (v, rest)
