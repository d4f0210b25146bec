-- What folding does to texts: characters that fold to themselves and that no other folds to, and texts side by side.
use Rattle.std.proofs.Common.{◌≡◌, ℕ, Bool, true, false, not, ◌&&◌, ◌||◌, ◌==◌, nat_lt, List, [], ◌∷◌, ◌++◌, append_assoc, refl, sym, ap, ap₂, ◌∙◌, inl, inr}
use Rattle.std.proofs.lemmas.Bool.{and_parts, both_ways, cases_Bool}
use Rattle.std.proofs.lemmas.Bool.Decides.{eqb_tells}
use Rattle.std.specs.List.{list_all, list_any}
use Rattle.ucd_table.proofs.Computing.{tables}
use Rattle.ucd_table.proofs.RangedFacts.{points_ok, Stepped-at_points}
use Rattle.ucd_case.specs.CaseFolding.{full_folding, full_fold, or_itself}
use Rattle.ucd_case.proofs.CaseFoldingLemmas.{full_folding_stepped}
use Rattle.caseless.specs.Caseless.{default_case_fold}
use Rattle.ic_laws.specs.Name.{fold, Agree}
use Rattle.ic_laws.specs.Scan.{first_is}

-- every ASCII character that is no letter, and a letter without case
abbrev pub is_fixed : ℕ → Bool
is_fixed c = nat_lt c 65 || nat_lt 90 c && nat_lt c 97 || nat_lt 122 c && nat_lt c 128 || c == 0x51FD

abbrev is_unlisted : List ℕ → Bool
is_unlisted [] = true
is_unlisted (x ∷ xs) = false

-- a character that folds to another text is none of them, and that text begins with none of them
abbrev is_apart : ℕ → List ℕ → Bool
is_apart c folding = not (is_fixed c) && not (first_is is_fixed folding)

apart : (c : ℕ) → is_unlisted (full_folding c) ≡ false → is_apart c (full_folding c) ≡ true
unfolding tables points_ok full_folding_stepped
apart c moved = Stepped-at_points full_folding full_folding_stepped is_unlisted is_apart refl c moved

pub clash : (b : Bool) → b ≡ true → not b ≡ true → ⊥
clash true e f = cc
clash false e f = cc

no_first : (t : List ℕ) (x : ℕ) (xs : List ℕ) → t ≡ [] → t ≡ x ∷ xs → ⊥
no_first t x xs e f = cc

pub fold-nil : fold [] ≡ []
unfolding default_case_fold
fold-nil = refl

pub fold-cons : (c : ℕ) (cs : List ℕ) → fold (c ∷ cs) ≡ full_fold c ++ fold cs
unfolding default_case_fold
fold-cons c cs = refl

-- such a character stays where a text is folded
stays : (c : ℕ) (folding : List ℕ) → is_fixed c ≡ true → (is_unlisted folding ≡ false → is_apart c folding ≡ true) → or_itself c folding ≡ c ∷ []
stays c [] fixed moved = refl
stays c (x ∷ xs) fixed moved = absurd (clash (is_fixed c) fixed (and_parts (not (is_fixed c)) _ (moved refl)).0)

pub fold_fixed_first : (c : ℕ) (cs : List ℕ) → is_fixed c ≡ true → fold (c ∷ cs) ≡ c ∷ fold cs
fold_fixed_first c cs fixed = fold-cons c cs ∙ ap (λ t. t ++ fold cs) (stays c (full_folding c) fixed (apart c))

pub fold-fixed : (text : List ℕ) → list_all is_fixed text ≡ true → fold text ≡ text
fold-fixed [] fixed = fold-nil
fold-fixed (c ∷ cs) fixed =
    let parts = and_parts (is_fixed c) (list_all is_fixed cs) fixed in
    fold_fixed_first c cs parts.0 ∙ ap (λ t. c ∷ t) (fold-fixed cs parts.1)

-- a text whose folding begins with one begins with it
first_folded : (c x : ℕ) (folding rest xs : List ℕ) → (is_unlisted folding ≡ false → is_apart c folding ≡ true) → is_fixed x ≡ true → or_itself c folding ++ rest ≡ x ∷ xs → (c ≡ x) × (rest ≡ xs)
first_folded c x [] rest xs moved fixed e = (cc, cc)
first_folded c x (y ∷ ys) rest xs moved fixed e =
    let same : y ≡ x = cc in absurd (clash (is_fixed y) (ap is_fixed same ∙ fixed) (and_parts (not (is_fixed c)) _ (moved refl)).1)

pub fixed_first : (c x : ℕ) (cs xs : List ℕ) → is_fixed x ≡ true → fold (c ∷ cs) ≡ x ∷ xs → (c ≡ x) × (fold cs ≡ xs)
fixed_first c x cs xs fixed e = first_folded c x (full_folding c) (fold cs) xs (apart c) fixed (sym (fold-cons c cs) ∙ e)

-- a folding of something is something, and only nothing folds to nothing
starts : (c : ℕ) (folding rest : List ℕ) → (x : ℕ) × (xs : List ℕ) × (or_itself c folding ++ rest ≡ x ∷ xs)
starts c [] rest = (c, rest, refl)
starts c (y ∷ ys) rest = (y, ys ++ rest, refl)

pub fold_starts : (c : ℕ) (cs : List ℕ) → (x : ℕ) × (xs : List ℕ) × (fold (c ∷ cs) ≡ x ∷ xs)
fold_starts c cs = let s = starts c (full_folding c) (fold cs) in (s.0, s.1, fold-cons c cs ∙ s.2)

pub fold_empty : (a : List ℕ) → fold a ≡ [] → a ≡ []
fold_empty [] e = refl
fold_empty (c ∷ cs) e = let s = fold_starts c cs in absurd (no_first (fold (c ∷ cs)) s.0 s.1 e s.2)

-- two texts side by side are folded each
pub fold_append : (a b : List ℕ) → fold (a ++ b) ≡ fold a ++ fold b
fold_append [] b = ap (λ t. t ++ fold b) (sym fold-nil)
fold_append (c ∷ cs) b =
    fold-cons c (cs ++ b) ∙ ap (λ t. full_fold c ++ t) (fold_append cs b) ∙ sym (append_assoc (full_fold c) (fold cs) (fold b)) ∙ ap (λ t. t ++ fold b) (sym (fold-cons c cs))

-- what agrees with a text of such characters is that text
fold_back : (other text : List ℕ) → list_all is_fixed text ≡ true → fold other ≡ text → other ≡ text
fold_back other [] fixed e = fold_empty other e
fold_back [] (x ∷ xs) fixed e = absurd (no_first (fold []) x xs fold-nil e)
fold_back (c ∷ cs) (x ∷ xs) fixed e =
    let parts = and_parts (is_fixed x) (list_all is_fixed xs) fixed in
    let first = fixed_first c x cs xs parts.0 e in
    ap₂ ◌∷◌ first.0 (fold_back cs xs parts.1 first.1)

pub same_from_Agree : (text other : List ℕ) → list_all is_fixed text ≡ true → Agree text other → other ≡ text
same_from_Agree text other fixed agree = fold_back other text fixed (sym agree ∙ fold-fixed text fixed)

-- a character of a list of them is one of them
pub listed_fixed : (marks : List ℕ) → list_all is_fixed marks ≡ true → (c : ℕ) → list_any (λ x. c == x) marks ≡ true → is_fixed c ≡ true
listed_fixed [] all c h = absurd (cc)
listed_fixed (m ∷ ms) all c h =
    let parts = and_parts (is_fixed m) (list_all is_fixed ms) all in
    elim (eqb_tells c m) [
      | inl e ↦ ap is_fixed e.1 ∙ parts.0
      | inr e ↦ let more : list_any (λ x. c == x) ms ≡ true = rw (e.0) at h in listed_fixed ms parts.1 c more
    ]

-- what agrees with such a character and one that isn't among some of them begins so too
pub second_stays : (p : ℕ → Bool) → ((c : ℕ) → p c ≡ true → is_fixed c ≡ true) → (text xs : List ℕ) (x d : ℕ) → is_fixed x ≡ true → p d ≡ false → fold text ≡ fold (x ∷ d ∷ xs) → (c : ℕ) × (cs : List ℕ) × (text ≡ x ∷ c ∷ cs) × (p c ≡ false)
second_stays p fixed [] xs x d first other e = absurd (no_first (fold []) x (fold (d ∷ xs)) fold-nil (e ∙ fold_fixed_first x (d ∷ xs) first))
second_stays p fixed (b ∷ bs) xs x d first other e =
    let start = fixed_first b x bs (fold (d ∷ xs)) first (e ∙ fold_fixed_first x (d ∷ xs) first) in
    second bs b start.0 start.1
  where
    second : (cs : List ℕ) (b : ℕ) → b ≡ x → fold cs ≡ fold (d ∷ xs) → (c : ℕ) × (rest : List ℕ) × (b ∷ cs ≡ x ∷ c ∷ rest) × (p c ≡ false)
    second [] b same e = let s = fold_starts d xs in absurd (no_first (fold []) s.0 s.1 fold-nil (e ∙ s.2))
    second (c ∷ cs) b same e =
        elim (cases_Bool (p c)) [
          | inl t ↦ let back = fixed_first d c xs (fold cs) (fixed c t) (sym e ∙ fold_fixed_first c cs (fixed c t)) in
              absurd (both_ways (p d) other (ap p back.0 ∙ t))
          | inr f ↦ (c, cs, ap (λ z. z ∷ c ∷ cs) same, f)
        ]
