-- Changes over which all formulas are kept leave books that are the same where they were.
use Rattle.std.proofs.Common.{ℕ, List, [], ◌∷◌, map, Some, sym, ap, ap₂, subst}
use Rattle.std.specs.List.{AllZip}
use Rattle.ic_laws.specs.Keeping.{KeyChange, kept_formula, kept_in_body}
use Rattle.ic_laws.specs.Notations.{Notations, english_function}
use Rattle.ic_laws.specs.declared.scene.Scene.{Scene}
use Rattle.ic_laws.specs.declared.tree.Formula.{Formula}
use Rattle.ic_tree.specs.Notations.{notations_of}
use Rattle.ic_machine.specs.Book.{Book, Sheet, notations_in, scene_in}
use Rattle.ic_machine.specs.Changed.{changed_with, with_kept_formulas, with_kept_pool}
use Rattle.ic_machine.specs.Same.{IsSameBook, IsSameSheet}
use Rattle.ic_machine.proofs.same.SameLemmas.{scene_same}

-- sheets that are the same, each changed
changed_sheets : (f g : Sheet → Sheet) → ((s t : Sheet) → IsSameSheet s t → IsSameSheet (f s) (g t)) → (one other : List Sheet) → AllZip IsSameSheet one other
    → AllZip IsSameSheet (map f one) (map g other)
changed_sheets f g h [] [] same = tt
changed_sheets f g h [] (t ∷ other) same = absurd same
changed_sheets f g h (s ∷ one) [] same = absurd same
changed_sheets f g h (s ∷ one) (t ∷ other) same = (h s t same.0, changed_sheets f g h one other same.1)

module _ (n : Notations) (before after : Scene) (keys : KeyChange) where
  kept_pool_same : (s t : Sheet) → IsSameSheet s t → IsSameSheet (with_kept_pool n before after keys s) (with_kept_pool n before after keys t)
  kept_pool_same s t same = record {
    id = same.id;
    name = same.name;
    pool = ap₂ (λ (id : ℕ) (pool : List Formula). map (kept_formula (english_function n) before after keys (Some id)) pool) same.id same.pool;
    grid = same.grid;
    tab = same.tab;
  }

  kept_same : (one other : Book) → IsSameBook one other → IsSameBook (with_kept_formulas n before after keys one) (with_kept_formulas n before after keys other)
  kept_same one other same = record {
    sheets = changed_sheets (with_kept_pool n before after keys) (with_kept_pool n before after keys) kept_pool_same one.sheets other.sheets same.sheets;
    definitions = ap (map (kept_in_body n before after keys)) same.definitions;
    zone = same.zone;
    theme = same.theme;
    name = same.name;
    metadata = same.metadata;
    tables = same.tables;
  }

-- two changes that leave the same of books that are the same do so, too, where all formulas are kept over them
pub changed_same : (keys : KeyChange) (change alter : Book → Book) → ((b c : Book) → IsSameBook b c → IsSameBook (change b) (alter c)) → (one other : Book) → IsSameBook one other
    → IsSameBook (changed_with keys change one) (changed_with keys alter other)
changed_same keys change alter h one other same =
    let Left : Notations → Scene → Scene → Type 0 = λ n s t. IsSameBook (changed_with keys change one) (alter (with_kept_formulas n s t keys other)) in
    let left : Left (notations_in one) (scene_in one) (scene_in (change one)) = h _ _ (kept_same (notations_in one) (scene_in one) (scene_in (change one)) keys one other same) in
    subst (λ t. Left (notations_in other) (scene_in other) t) (sym (scene_same (change one) (alter other) (h one other same)))
    (subst (λ s. Left (notations_in other) s (scene_in (change one))) (sym (scene_same one other same))
    (subst (λ n. Left n (scene_in one) (scene_in (change one))) (ap notations_of same.tables) left))
