-- A formula that stands last, and nowhere before, is taken out again.
use Rattle.std.proofs.Common.{◌≡◌, ℕ, List, [], ◌∷◌, ◌++◌, Bool, true, false, cond, Some, None, refl, sym, ap, ap₂, subst, ◌∙◌, length, bytes_eq}
use Rattle.std.specs.List.{slice_get}
use Rattle.std.proofs.lemmas.Slice.Eq.{bytes_eq-Decides}
use Rattle.ic_laws.specs.declared.tree.Formula.{Formula}
use Rattle.ic_pool.specs.Code.{code}
use Rattle.ic_pool.specs.LookUp.{AreHashed, IsLeftOut, found}
use Rattle.ic_pool.specs.Pool.{EndsWithNew, IsLookUp, KeepsPlaces, first_place}
use Rattle.ic_pool.specs.declared.look_up.LookUp.{LookUp}
use Rattle.ic_pool.proofs.FoundLemmas.{back_found, back_hashed}
use Rattle.ic_pool.proofs.LateLemmas.{first_up_to, whole_knows}
use Rattle.ic_pool.proofs.PlacedLemmas.{first_place-push}

-- two lists with their last items are equal where both parts are
not_empty : {X : Type 0} (xs : List X) (x : X) → [] ≡ xs ++ x ∷ [] → ⊥
not_empty [] x e = cc
not_empty (y ∷ xs) x e = cc

pub last_is : {X : Type 0} (xs ys : List X) (x y : X) → xs ++ x ∷ [] ≡ ys ++ y ∷ [] → (xs ≡ ys) × (x ≡ y)
last_is [] [] x y e = (refl, cc)
last_is [] (z ∷ ys) x y e = let rest : [] ≡ ys ++ y ∷ [] = cc in absurd (not_empty ys y rest)
last_is (z ∷ xs) [] x y e = let rest : [] ≡ xs ++ x ∷ [] = cc in absurd (not_empty xs x rest)
last_is {X} (z ∷ xs) (w ∷ ys) x y e =
    let head : z ≡ w = cc in
    let tail : xs ++ x ∷ [] ≡ ys ++ y ∷ [] = cc in
    let rest = last_is xs ys x y tail in
    (ap₂ (λ (a : X) (rest : List X). a ∷ rest) head rest.0, rest.1)

module _ (before after : LookUp) (xs ys : List Formula) (x : Formula) (is : xs ≡ ys ++ x ∷ []) (key : List ℕ) (ends : EndsWithNew key xs) where
  -- its key is this, and it stands nowhere before
  parts : (ys ≡ ends.before) × (x ≡ ends.formula)
  parts = last_is ys ends.before x ends.formula (sym is ∙ ends.is)

  same : key ≡ code x
  same = ends.its ∙ ap code (sym parts.1)

  fresh : first_place (code x) ys ≡ None
  fresh = ap₂ first_place (sym same) parts.0 ∙ ends.fresh

  -- no formula before it has its key
  none_equal : (k : ℕ) (y : Formula) → slice_get ys k ≡ Some y → bytes_eq key (code y) ≡ false
  none_equal k y e = by_test (bytes_eq key (code y)) refl
    where
      by_test : (b : Bool) → bytes_eq key (code y) ≡ b → bytes_eq key (code y) ≡ false
      by_test false other = other
      by_test true equal =
          let first = first_up_to ys k y e in
          let no : None ≡ Some first.0 = sym fresh ∙ ap (λ w. first_place w ys) (sym same ∙ (bytes_eq-Decides key (code y)).0 equal) ∙ first.2 in cc

  module _ (at : ℕ) (end : at ≡ length ys) (out : IsLeftOut key at before after) where
    places_back : AreHashed before (ys ++ x ∷ []) → KeepsPlaces (found before xs) xs → KeepsPlaces (found after ys) ys
    places_back hashed kept = record {
      finds = λ q.
          back_found before after ys x key at hashed end same none_equal out q
          ∙ ap₂ (λ b (zs : List Formula). cond b None (found before zs q)) (ap (λ k. bytes_eq k q) same) (sym is)
          ∙ ap (cond (bytes_eq (code x) q) None) (kept.finds q ∙ ap (first_place q) is ∙ first_place-push x ys fresh q)
          ∙ by_test q (bytes_eq (code x) q) refl;
    }
      where
        by_test : (q : List ℕ) (b : Bool) → bytes_eq (code x) q ≡ b → cond b None (cond b (Some (length ys)) (first_place q ys)) ≡ first_place q ys
        by_test q true e = sym (ap (λ k. first_place k ys) (sym ((bytes_eq-Decides (code x) q).0 e)) ∙ fresh)
        by_test q false e = refl

    pub look_up_back : (is_whole knows_rest : Bool) (late : List ℕ) → IsLookUp before is_whole knows_rest late xs → is_whole ≡ true → IsLookUp after is_whole knows_rest late ys
    look_up_back is_whole knows_rest late kept whole =
        let hashed : AreHashed before (ys ++ x ∷ []) = subst (AreHashed before) is kept.hashed in
        let places : KeepsPlaces (found after ys) ys = places_back hashed (kept.finds whole) in
        record {
          finds = λ w. places;
          rest = λ k. whole_knows (found after ys) late ys places;
          hashed = back_hashed before after ys x key at hashed end same none_equal out;
        }
