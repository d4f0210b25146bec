-- What is noted of numbers that are taken, as a name goes.
use Rattle.std.proofs.Common.{◌≡◌, ℕ, suc, zero, ◌+◌, ◌<◌, ◌≤◌, ◌^◌, List, [], ◌∷◌, ◌++◌, Bool, true, false, ◌||◌, cond, inl, inr}
use Rattle.std.proofs.Common.{Option, Some, None, IfSome, String, chars, string_bytes, refl, sym, ap, subst, ◌∙◌, arith}
use Rattle.std.proofs.lemmas.Bool.{cases_Bool}
use Rattle.std.proofs.lemmas.Map.Text.{is_eq-slice_cmp}
use Rattle.std.proofs.lemmas.Slice.Eq.{bytes_eq-Decides}
use Rattle.std.specs.BTreeMap.{BTreeMap, get_by_text}
use Rattle.std.specs.Cmp.Lexicographic.{slice_cmp}
use Rattle.std.specs.Fmt.{decimal}
use Rattle.std.specs.List.{list_any}
use Rattle.std.specs.Map.{lookup}
use Rattle.std.specs.Map.Calls.{RetainsPairs}
use Rattle.std.specs.Ordering.{is_eq, nat_cmp}
use Rattle.std.specs.Prelude.{remove, slice_get}
use Rattle.std.specs.declared.alloc.Global.{Global}
use Rattle.ic_laws.proofs.keeping.Removing.{removed_any}
use Rattle.ic_laws.specs.CoreStep.{updated_at}
use Rattle.ic_laws.specs.Name.{agrees}
use Rattle.ic_machine.specs.subjects.Sheets.{copy_name}
use Rattle.ic_parts.specs.SheetNames.{AreLowered, AreNoted, IsLowered, IsLoweredNote, IsNoted, IsOnlyNumber, KnowsNumbers}
use Rattle.ic_parts.specs.declared.taken_numbers.TakenNumbers.{TakenNumbers}

-- with no number the name agrees
lowered_not : (name : ℕ → List ℕ) (gone : List ℕ) (count : ℕ) → count < 2 ^ 64 → IsOnlyNumber name gone None → IsLowered name gone count count
lowered_not name gone count small only = record {
  within = omega arith;
  apart = λ n less. elim (cases_Bool (agrees (name (n + 1)) gone)) [
    | inl t ↦ let no : None ≡ Some (n + 1) = only (n + 1) (omega arith) (omega (arith, less, small)) t in cc
    | inr f ↦ f
  ];
}

-- ---- the notes

module _ (name : List ℕ → ℕ → List ℕ) (gone : List ℕ) where
  -- no name agrees
  pub notes_stay : (notes : BTreeMap (String Global) ℕ) (names : List (List ℕ)) → AreNoted notes name names
      → ((key : List ℕ) → IsOnlyNumber (name key) gone None) → AreLowered name gone notes notes
  notes_stay notes names all only key = step (get_by_text notes key) (all key)
    where
      step : (o : Option ℕ) → IfSome o (IsNoted names (name key)) → IfSome o (IsLoweredNote (name key) gone o)
      step None h = tt
      step (Some count) h = lowered_not (name key) gone count h.0 (only key)

  -- each is lowered, by a call
  module _ {F : Type 0} (T : F → String Global → ℕ → Bool → ℕ → F → Type 0) (f : F)
      (each : (k : String Global) (v : ℕ) (b : Bool) (w : ℕ) (f' : F) → T f k v b w f' → (b ≡ true) × IsLowered (name (string_bytes k)) gone v w × (f' ≡ f))
    where
      abbrev at : List ℕ → String Global → Bool
      at q k = is_eq (slice_cmp nat_cmp q (string_bytes k))

      -- what is found at a key among these pairs is lowered from what is found there among the others
      abbrev LowersAt : List ℕ → List (String Global × ℕ) → List (String Global × ℕ) → Type 0
      LowersAt q es kept = IfSome (lookup (at q) kept) (IsLoweredNote (name q) gone (lookup (at q) es))

      lowers_at : (q : List ℕ) (es kept : List (String Global × ℕ)) → RetainsPairs T f es kept → LowersAt q es kept
      lowers_at q [] kept r = subst (LowersAt q []) (sym r) tt
      lowers_at q (e ∷ es) kept r =
          let a = each e.0 e.1 r.0 r.1 r.2 r.4 in
          let later = lowers_at q es r.3 (subst (λ u. RetainsPairs T u es r.3) a.2 r.5) in
          subst (LowersAt q (e ∷ es)) (sym (r.6 ∙ ap (λ b. cond b ((e.0, r.1) ∷ r.3) r.3) a.0))
          (step (lookup (at q) es) (lookup (at q) r.3) later (at q e.0)
          (λ t. (bytes_eq-Decides q (string_bytes e.0)).0 (sym (is_eq-slice_cmp q (string_bytes e.0)) ∙ t)))
        where
          step : (old new : Option ℕ) → IfSome new (IsLoweredNote (name q) gone old) → (b : Bool) → (b ≡ true → q ≡ string_bytes e.0)
              → IfSome (cond b (Some r.1) new) (IsLoweredNote (name q) gone (cond b (Some e.1) old))
          step old new later true same =
              subst (λ k. IsLowered (name k) gone e.1 r.1) (sym (same refl)) (each e.0 e.1 r.0 r.1 r.2 r.4).1
          step old new later false same = later

      pub notes_lowered : (before after : BTreeMap (String Global) ℕ) → RetainsPairs T f before.entries after.entries → AreLowered name gone before after
      notes_lowered before after kept q = lowers_at q before.entries after.entries kept

-- ---- names of which those that are left take what the others took

-- these words, and these names of copies, are lowered
pub record AreAllLowered (gone : List ℕ) (before after : TakenNumbers) : Type 0 where
  pub words : AreLowered (λ word n. chars word ++ decimal n) gone before.words after.words
  pub copies : AreLowered (λ source. copy_name (chars source)) gone before.copies after.copies

module _ (gone : List ℕ) (names left : List (List ℕ))
    (stays : (q : List ℕ) → agrees q gone ≡ false → list_any (agrees q) names ≡ true → list_any (agrees q) left ≡ true)
  where
    noted_left : (name : List ℕ → ℕ → List ℕ) (before after : BTreeMap (String Global) ℕ) → AreLowered name gone before after
        → AreNoted before name names → AreNoted after name left
    noted_left name before after lowered all key = step (get_by_text after key) (get_by_text before key) (lowered key) (all key)
      where
        step : (new old : Option ℕ) → IfSome new (IsLoweredNote (name key) gone old) → IfSome old (IsNoted names (name key))
            → IfSome new (IsNoted left (name key))
        step None old h taken = tt
        step (Some count) None h taken = absurd h
        step (Some count) (Some was) h taken =
            let within : count ≤ was = h.within in
            let small : was < 2 ^ 64 = taken.0 in
            (omega (arith, within, small), λ n less. stays (name key (n + 1)) (h.apart n less) (taken.1 n (omega (arith, less, within))))

    pub knows_left : (before after : TakenNumbers) → AreAllLowered gone before after → KnowsNumbers before names → KnowsNumbers after left
    knows_left before after lowered all = record {
      words = noted_left (λ word n. chars word ++ decimal n) before.words after.words lowered.words all.words;
      copies = noted_left (λ source. copy_name (chars source)) before.copies after.copies lowered.copies all.copies;
    }

renamed_any : (p : List ℕ → Bool) (name gone : List ℕ) (xs : List (List ℕ)) (i : ℕ) → slice_get xs i ≡ Some gone → p gone ≡ false
    → list_any p xs ≡ true → list_any p (updated_at (λ (was : List ℕ). name) i xs) ≡ true
renamed_any p name gone [] i at f e = absurd (let no : None ≡ Some gone = at in cc)
renamed_any p name gone (x ∷ xs) zero at f e =
    let same : x ≡ gone = cc in
    later (list_any p xs) (sym (ap (λ b. b || list_any p xs) (ap p same ∙ f)) ∙ e) (p name)
  where
    later : (b : Bool) → b ≡ true → (c : Bool) → (c || b) ≡ true
    later b e true = refl
    later b e false = e
renamed_any p name gone (x ∷ xs) (suc i) at f e = step (p x) e (renamed_any p name gone xs i at f)
  where
    step : (b : Bool) → (b || list_any p xs) ≡ true → (list_any p xs ≡ true → list_any p (updated_at (λ (was : List ℕ). name) i xs) ≡ true)
        → (b || list_any p (updated_at (λ (was : List ℕ). name) i xs)) ≡ true
    step true e more = refl
    step false e more = more e

module _ (gone : List ℕ) (names : List (List ℕ)) (index : ℕ) (at : slice_get names index ≡ Some gone) (before after : TakenNumbers)
    (lowered : AreAllLowered gone before after) (all : KnowsNumbers before names)
  where
    -- the name is taken out
    pub knows_lost : KnowsNumbers after (remove names index)
    knows_lost = knows_left gone names (remove names index) (λ q apart e. removed_any (agrees q) names index gone at apart ∙ e) before after lowered all

    -- another is put in its place
    pub knows_renamed : (name : List ℕ) → KnowsNumbers after (updated_at (λ (was : List ℕ). name) index names)
    knows_renamed name =
        knows_left gone names (updated_at (λ (was : List ℕ). name) index names) (λ q apart e. renamed_any (agrees q) name gone names index at apart e)
        before after lowered all
