-- References with a sheet's name or without, whatever reads their place.
use Rattle.std.proofs.Common.{◌≡◌, ◌⊎◌, Bool, true, false, ◌==◌, ℕ, ◌≤◌, List, [], ◌∷◌, ◌++◌, length, Option, Some, None, option_and_then, refl, sym, subst, ◌∙◌, ap, inl, inr, arith, append_assoc}
use Rattle.std.specs.List.{list_any}
use Rattle.std.specs.Option.{IfSome}
use Rattle.std.proofs.lemmas.Bool.{both_ways, or_parts, or_left, or_right}
use Rattle.std.proofs.lemmas.Option.{none-some, some_pair_parts}
use Rattle.std.proofs.lemmas.List.{length-append}
use Rattle.ic_laws.specs.Name.{is_sheet_name, in_quotes}
use Rattle.ic_laws.specs.declared.reference.Place.{Place}
use Rattle.ic_laws.specs.declared.reference.RefToken.{RefToken}
use Rattle.ic_refs.specs.Longest.{FindsLongest, IsLongest}
use Rattle.ic_laws.specs.SheetText.{SpellsSheet, sheet_at, sheet_text}
use Rattle.ic_refs.specs.Sheet.{SpellsReference, or_else, reference_at, with_sheet}
use Rattle.ic_laws.proofs.tokens.SheetTexts.{sheet_again, sheet_complete, sheet_sound}

-- no `!` stands in the text
abbrev pub has_bang : List ℕ → Bool
has_bang text = list_any (λ c. c == 33) text

-- of two fronts of a text the one without a mark is not longer than the one that ends with it
pub marked_longer : (p : ℕ → Bool) (f other r after : List ℕ) → f ++ r ≡ other ++ after → list_any p f ≡ true → list_any p other ≡ false → length other ≤ length f
marked_longer p f [] r after e h k = omega arith
marked_longer p [] (o ∷ os) r after e h k = absurd (both_ways false refl h)
marked_longer p (x ∷ f) (o ∷ os) r after e h k =
    let same : x ≡ o = cc in
    let rest : f ++ r ≡ os ++ after = cc in
    let q = or_parts (p o) (list_any p os) k in
    let plain : p x ≡ false = ap p same ∙ q.0 in
    let more : list_any p f ≡ true = rw plain at h in
    omega (arith, marked_longer p f os r after rest more q.1)

any_after : (p : ℕ → Bool) (xs : List ℕ) (c : ℕ) → p c ≡ true → list_any p (xs ++ c ∷ []) ≡ true
any_after p [] c h = or_left (p c) false h
any_after p (x ∷ xs) c h = or_right (p x) (list_any p (xs ++ c ∷ [])) (any_after p xs c h)

-- a sheet's name before a reference ends with a `!`
pub sheet_has_bang : (front name : List ℕ) → SpellsSheet front (Some name) → has_bang front ≡ true
sheet_has_bang front name h =
    elim h.1 [
      | inl e ↦ ap has_bang e ∙ any_after (λ c. c == 33) (in_quotes name) 33 refl
      | inr e ↦ ap has_bang e.1 ∙ any_after (λ c. c == 33) name 33 refl
    ]

module _ (read : List ℕ → Option (Place × List ℕ)) (SpellsPlace : List ℕ → Place → Type 0) (finds : (text : List ℕ) → FindsLongest SpellsPlace text (read text)) (no_bang : (text : List ℕ) (p : Place) → SpellsPlace text p → has_bang text ≡ false) where
  -- the place found is the longest
  found_place : (text rest : List ℕ) (p : Place) → read text ≡ Some (p, rest) → IsLongest SpellsPlace text p rest
  found_place text rest p e = subst (FindsLongest SpellsPlace text) e (finds text)

  no_place : (text front rest : List ℕ) (p : Place) → read text ≡ None → text ≡ front ++ rest → SpellsPlace front p → ⊥
  no_place text front rest p e w s = let none : FindsLongest SpellsPlace text None = subst (FindsLongest SpellsPlace text) e (finds text) in none front rest p w s

  -- what a spelled reference with a sheet's name makes `sheet_at` read
  reads_sheet : (text sheet place after name : List ℕ) → text ≡ sheet ++ place ++ after → SpellsSheet sheet (Some name) → sheet_at text ≡ Some (name, place ++ after)
  reads_sheet text sheet place after name w s = ap sheet_at (w ∙ append_assoc sheet place after) ∙ sheet_complete sheet name (place ++ after) s

  -- a reference without a sheet's name is its place
  bare : (other : List ℕ) (v : RefToken) (x : SpellsReference SpellsPlace other v) → v.sheet ≡ None → x.place_text ≡ other
  bare other v x e = let none : SpellsSheet x.sheet_text None = subst (SpellsSheet x.sheet_text) e x.sheet in sym (x.whole ∙ ap (λ s. s ++ x.place_text) none)

  bare_place : (other : List ℕ) (v : RefToken) (x : SpellsReference SpellsPlace other v) → v.sheet ≡ None → SpellsPlace other v.place
  bare_place other v x e = subst (λ t. SpellsPlace t v.place) (bare other v x e) x.place

  -- one with a sheet's name makes `sheet_at` read that
  read_of : (text other after name : List ℕ) (v : RefToken) (x : SpellsReference SpellsPlace other v) → text ≡ other ++ after → v.sheet ≡ Some name → sheet_at text ≡ Some (name, x.place_text ++ after)
  read_of text other after name v x w e =
      reads_sheet text x.sheet_text x.place_text after name (w ∙ ap (λ o. o ++ after) x.whole) (subst (SpellsSheet x.sheet_text) e x.sheet)

  none_or_some : (o : Option (List ℕ)) → (o ≡ None) ⊎ ((name : List ℕ) × (o ≡ Some name))
  none_or_some None = inl refl
  none_or_some (Some name) = inr (name, refl)

  lengths : (text f r sheet place after other : List ℕ) → text ≡ f ++ r → r ≡ place ++ after → text ≡ other ++ after → other ≡ sheet ++ place → length sheet ≡ length f
  lengths text f r sheet place after other e h k w =
      omega (arith, ap length e, ap length h, ap length k, ap length w, length-append f r, length-append place after, length-append other after, length-append sheet place)

  -- a reference with the sheet's name that was read
  longest_with_sheet : (text name r rest : List ℕ) (p : Place) → sheet_at text ≡ Some (name, r) → read r ≡ Some (p, rest) → IsLongest (SpellsReference SpellsPlace) text (record { sheet = Some name; place = p }) rest
  longest_with_sheet text name r rest p e k =
      let s = sheet_sound text name r e in
      let l = found_place r rest p k in
      record {
        front = s.0 ++ l.front;
        whole = s.2 ∙ ap (λ t. s.0 ++ t) l.whole ∙ sym (append_assoc (s.0) l.front rest);
        spelled = record { sheet_text = s.0; place_text = l.front; whole = refl; sheet = s.1; place = l.spelled };
        longest = λ other after v w x. elim (none_or_some v.sheet) [
          | inl n ↦ omega (arith, marked_longer (λ c. c == 33) (s.0) other r after (sym s.2 ∙ w) (sheet_has_bang (s.0) name s.1) (no_bang other v.place (bare_place other v x n)), length-append (s.0) l.front)
          | inr n ↦ let both = some_pair_parts name n.0 r (x.place_text ++ after) (sym e ∙ read_of text other after n.0 v x w n.1) in
              omega (arith, l.longest x.place_text after v.place both.1 x.place, lengths text (s.0) r x.sheet_text x.place_text after other s.2 both.1 w x.whole, ap length x.whole, length-append x.sheet_text x.place_text, length-append (s.0) l.front)
        ];
      }

  -- no place stands after a sheet's name
  NoneAfter : List ℕ → Type 0
  NoneAfter text = (name r : List ℕ) → sheet_at text ≡ Some (name, r) → read r ≡ None

  none_with_sheet : (text other after name : List ℕ) (v : RefToken) (x : SpellsReference SpellsPlace other v) → NoneAfter text → text ≡ other ++ after → v.sheet ≡ Some name → ⊥
  unfolding NoneAfter
  none_with_sheet text other after name v x none w e =
      no_place (x.place_text ++ after) x.place_text after v.place (none name (x.place_text ++ after) (read_of text other after name v x w e)) refl x.place

  -- a place alone
  longest_place : (text rest : List ℕ) (p : Place) → NoneAfter text → read text ≡ Some (p, rest) → IsLongest (SpellsReference SpellsPlace) text (record { sheet = None; place = p }) rest
  longest_place text rest p none k =
      let l = found_place text rest p k in
      record {
        front = l.front;
        whole = l.whole;
        spelled = record { sheet_text = []; place_text = l.front; whole = refl; sheet = refl; place = l.spelled };
        longest = λ other after v w x. elim (none_or_some v.sheet) [
          | inl n ↦ l.longest other after v.place w (bare_place other v x n)
          | inr n ↦ absurd (none_with_sheet text other after n.0 v x none w n.1)
        ];
      }

  nothing : (text : List ℕ) → NoneAfter text → read text ≡ None → FindsLongest (SpellsReference SpellsPlace) text None
  nothing text none k = λ other after v w x. elim (none_or_some v.sheet) [
    | inl n ↦ no_place text other after v.place k w (bare_place other v x n)
    | inr n ↦ none_with_sheet text other after n.0 v x none w n.1
  ]

  by_place : (text : List ℕ) (q : Option (Place × List ℕ)) → NoneAfter text → read text ≡ q → FindsLongest (SpellsReference SpellsPlace) text (with_sheet None q)
  by_place text None none k = nothing text none k
  by_place text (Some (p, rest)) none k = longest_place text rest p none k

  by_sheet : (text name r : List ℕ) (q : Option (Place × List ℕ)) → sheet_at text ≡ Some (name, r) → read r ≡ q → FindsLongest (SpellsReference SpellsPlace) text (or_else (with_sheet (Some name) q) (with_sheet None (read text)))
  unfolding NoneAfter
  by_sheet text name r None e k =
      by_place text (read text) (λ n s h. ap read (sym (some_pair_parts name n r s (sym e ∙ h)).1) ∙ k) refl
  by_sheet text name r (Some (p, rest)) e k = longest_with_sheet text name r rest p e k

  by_front : (text : List ℕ) (o : Option (List ℕ × List ℕ)) → sheet_at text ≡ o → FindsLongest (SpellsReference SpellsPlace) text (or_else (option_and_then (λ (f : List ℕ × List ℕ). with_sheet (Some f.0) (read f.1)) o) (with_sheet None (read text)))
  unfolding NoneAfter
  by_front text None e = by_place text (read text) (λ n s h. absurd (none-some (n, s) (sym e ∙ h))) refl
  by_front text (Some (name, r)) e = by_sheet text name r (read r) e refl

  -- What finds the longest place, finds with a sheet's name or without the longest reference.
  pub finds_reference : (text : List ℕ) → FindsLongest (SpellsReference SpellsPlace) text (reference_at read text)
  finds_reference text = by_front text (sheet_at text) refl

pub read_with_sheet : (read : List ℕ → Option (Place × List ℕ)) (text name r rest : List ℕ) (place : Place) → sheet_at text ≡ Some (name, r) → read r ≡ Some (place, rest) → reference_at read text ≡ Some (record { sheet = Some name; place = place }, rest)
read_with_sheet read text name r rest place e h = rw (e, h) refl

reference_again_by : (read : List ℕ → Option (Place × List ℕ)) (place_text rest : List ℕ) (sheet : Option (List ℕ)) (place : Place) → IfSome sheet (λ name. is_sheet_name name ≡ true) → read (place_text ++ rest) ≡ Some (place, rest) → (sheet ≡ None → sheet_at (place_text ++ rest) ≡ None) → reference_at read (sheet_text sheet ++ place_text ++ rest) ≡ Some (record { sheet = sheet; place = place }, rest)
reference_again_by read place_text rest None place valid h none = rw (none refl, h) refl
reference_again_by read place_text rest (Some name) place valid h none =
    ap (reference_at read) (append_assoc (sheet_text (Some name)) place_text rest)
    ∙ read_with_sheet read (sheet_text (Some name) ++ (place_text ++ rest)) name (place_text ++ rest) rest place (sheet_again name (place_text ++ rest) valid) h

-- What is written is read back.
pub reference_again : (read : List ℕ → Option (Place × List ℕ)) (place_text rest : List ℕ) (token : RefToken) → IfSome token.sheet (λ name. is_sheet_name name ≡ true) → read (place_text ++ rest) ≡ Some (token.place, rest) → (token.sheet ≡ None → sheet_at (place_text ++ rest) ≡ None) → reference_at read (sheet_text token.sheet ++ place_text ++ rest) ≡ Some (token, rest)
reference_again read place_text rest token valid h none = reference_again_by read place_text rest token.sheet token.place valid h none
