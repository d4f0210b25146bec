-- The map from keys of styles to first places keeps up with the list.
use Rattle.std.proofs.Common.{◌≡◌, ℕ, ◌<◌, List, [], ◌∷◌, ◌++◌, cond, Some, None, refl, sym, ap, subst, ◌∙◌, length, take, ltb, bytes_eq}
use Rattle.std.proofs.lemmas.Cmp.{nat_list_cmp_total}
use Rattle.std.proofs.lemmas.Map.Entries.{lookup-filter-values}
use Rattle.std.proofs.lemmas.Map.Keys.{IsDistinct-from_sorted}
use Rattle.std.proofs.lemmas.Map.Text.{is_eq-slice_cmp}
use Rattle.std.specs.BTreeMap.{BTreeMap, IsEmpty, IsOrdered, Updates, get, keys}
use Rattle.std.specs.Cmp.{eq_by_cmp_equiv}
use Rattle.std.specs.Cmp.Lexicographic.{slice_cmp}
use Rattle.std.specs.List.{filter}
use Rattle.std.specs.Map.{lookup}
use Rattle.std.specs.Ordering.{nat_cmp}
use Rattle.ic_cells.proofs.PlacedLemmas.{apart-push, apart-take, finds-push, finds-take, head-push, head-take}
use Rattle.ic_cells.proofs.StyleLemmas.{is_style-Decides, place_of_code}
use Rattle.ic_cells.specs.Key.{IsIndexed, code}
use Rattle.ic_cells.specs.Style.{default_style, first_place, is_style}
use Rattle.ic_cells.specs.declared.style.Style.{Style}

-- what a map has at a key where one was set
read_key : (before after : BTreeMap (List ℕ) ℕ) (s : Style) (key q : List ℕ) (at : ℕ) → key ≡ code s → Updates (slice_cmp nat_cmp) before after key (Some at) → get (slice_cmp nat_cmp) after q ≡ cond (bytes_eq (code s) q) (Some at) (get (slice_cmp nat_cmp) before q)
read_key before after s key q at same u =
    u.0 q ∙ ap (λ b. cond b (Some at) (get (slice_cmp nat_cmp) before q)) (is_eq-slice_cmp key q ∙ ap (λ k. bytes_eq k q) same)

pub indexed_first : (before after : BTreeMap (List ℕ) ℕ) (list : List Style) (s : Style) (key : List ℕ) → IsEmpty before → key ≡ code s → Updates (slice_cmp nat_cmp) before after key (Some 0) → s ≡ default_style → list ≡ s ∷ [] → IsIndexed after list
indexed_first before after list s key empty same u is_default put =
    subst (IsIndexed after) (sym put)
    (record {
      finds = finds-push code (get (slice_cmp nat_cmp) before) (get (slice_cmp nat_cmp) after) [] (λ q. ap (lookup _) empty) s 0 refl refl (λ q. read_key before after s key q 0 same u);
      are_styles = record { default = ap Some is_default; different = refl };
    })

pub indexed_push : (before after : BTreeMap (List ℕ) ℕ) (styles list : List Style) (s : Style) (key : List ℕ) (at : ℕ) → IsIndexed before styles → first_place s styles ≡ None → key ≡ code s → at ≡ length styles → Updates (slice_cmp nat_cmp) before after key (Some at) → list ≡ styles ++ s ∷ [] → IsIndexed after list
indexed_push before after styles list s key at kept none same end u put =
    subst (IsIndexed after) (sym put)
    (record {
      finds = finds-push code (get (slice_cmp nat_cmp) before) (get (slice_cmp nat_cmp) after) styles kept.finds s at (place_of_code s styles ∙ none) end (λ q. read_key before after s key q at same u);
      are_styles = record {
        default = head-push s default_style styles kept.are_styles.default;
        different = apart-push is_style is_style-Decides s styles none kept.are_styles.different;
      };
    })

pub indexed_take : (before after : BTreeMap (List ℕ) ℕ) (styles list : List Style) (n : ℕ) → IsIndexed before styles → 0 < n → IsOrdered (slice_cmp nat_cmp) before → after.entries ≡ filter (λ e. ltb e.1 n) before.entries → list ≡ take n styles → IsIndexed after list
indexed_take before after styles list n kept some ordered left taken =
    subst (IsIndexed after) (sym taken)
    (record {
      finds = finds-take code (get (slice_cmp nat_cmp) before) (get (slice_cmp nat_cmp) after) styles kept.finds n
          (λ q.
          ap (lookup _) left
          ∙ lookup-filter-values (eq_by_cmp_equiv nat_list_cmp_total) (λ p. ltb p n) q before.entries (IsDistinct-from_sorted (slice_cmp nat_cmp) (keys before) ordered));
      are_styles = record {
        default = head-take default_style n styles some kept.are_styles.default;
        different = apart-take is_style n styles kept.are_styles.different;
      };
    })
