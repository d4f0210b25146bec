-- Formulas that a change leaves.
use Rattle.std.proofs.Common.{◌≡◌, ℕ, List, Bool, true, false, ◌&&◌, Option, Some, refl, ap, ◌∙◌}
use Rattle.std.specs.Prelude.{bytes_eq}
use Rattle.ic_laws.proofs.keeping.Kept.{spared_is_same}
use Rattle.ic_laws.proofs.keeping.Spared.{untouched_is_spared}
use Rattle.ic_laws.specs.Changes.{Change, changes_local, changes_sheet, changes_word, could_mean, could_mean_local, definition_added, sheet_named}
use Rattle.ic_laws.specs.Name.{fold}
use Rattle.ic_laws.specs.Scene.{key_of, same_scope}
use Rattle.ic_laws.specs.Tree.{Bound}
use Rattle.ic_laws.specs.declared.scene.NameSpelling.{NameSpelling}
use Rattle.ic_laws.specs.declared.scene.Scene.{Scene}
use Rattle.ic_laws.specs.declared.tree.Formula.{Formula}
use Rattle.ic_laws.specs.declared.tree.Formula.TheVariants as formulas
use Rattle.ic_laws.specs.declared.tree.NameMention.{NameMention}
use Rattle.ic_laws.specs.declared.tree.NameMention.TheVariants as names
use Rattle.ic_laws.specs.declared.tree.SheetMention.{SheetMention}
use Rattle.ic_laws.specs.declared.tree.SheetMention.TheVariants as sheets
use Rattle.ic_pool.specs.Mentions.{SparesFound, formula_after, is_dangling, is_dangling_local, is_dangling_word, some_in}
use Rattle.ic_pool.proofs.MentionLemmas.{fewer_pass}

-- one with no mention that it changes
pub untouched_stays : (change : Change) (scope : Option ℕ) (formula : Formula) → some_in (changes_sheet change) (changes_word change scope) (changes_local change) formula ≡ false → formula_after change scope formula ≡ formula
untouched_stays change scope (formulas.Tree t) e =
    ap (λ (u : Bound). let f : Formula = formulas.Tree u in f) (spared_is_same change scope t (untouched_is_spared change scope t e))
untouched_stays change scope (formulas.Raw text) e = refl

-- a change of mentions that found nothing leaves each formula in which all was found
pub spares_found : (change : Change) (scope : Option ℕ) → ((m : SheetMention) → is_dangling m ≡ false → changes_sheet change m ≡ false) → ((m : NameMention) → is_dangling_word m ≡ false → changes_word change scope m ≡ false)
    → ((s : SheetMention) (m : NameMention) → is_dangling_local s m ≡ false → changes_local change s m ≡ false) → SparesFound change scope
spares_found change scope sheet word local (formulas.Tree t) e =
    fewer_pass is_dangling (changes_sheet change) is_dangling_word (changes_word change scope) is_dangling_local (changes_local change) sheet word local t e
spares_found change scope sheet word local (formulas.Raw text) e = refl

-- as that of a sheet which gets a name
pub naming_spares_found : (scene : Scene) (id : ℕ) (name : List ℕ) (scope : Option ℕ) → SparesFound (sheet_named scene id name) scope
naming_spares_found scene id name scope = spares_found (sheet_named scene id name) scope sheet (λ m e. refl) (λ s m e. refl)
  where
    sheet : (m : SheetMention) → is_dangling m ≡ false → changes_sheet (sheet_named scene id name) m ≡ false
    sheet sheets.Own e = refl
    sheet (sheets.Sheet found) e = refl
    sheet (sheets.Dangling typed) e = cc

pub both_false : (a : Bool) → (a && false) ≡ false
both_false true = refl
both_false false = refl

-- and that of a definition, in the formulas of a sheet that it isn't local to
pub adding_spares_found : (d : NameSpelling) (id : ℕ) → same_scope d.scope (Some id) ≡ false → SparesFound (definition_added d) (Some id)
adding_spares_found d id other = spares_found (definition_added d) (Some id) (λ m e. refl) word local
  where
    word : (m : NameMention) → is_dangling_word m ≡ false → could_mean (key_of d) (Some id) m ≡ false
    word (names.Var w) e = refl
    word (names.Name found) e = ap (λ b. bytes_eq (fold d.name) found.name && b) other ∙ both_false (bytes_eq (fold d.name) found.name)
    word (names.Dangling w) e = cc

    local : (s : SheetMention) (m : NameMention) → is_dangling_word m ≡ false → could_mean_local (key_of d) s m ≡ false
    local sheets.Own m e = refl
    local (sheets.Sheet found) (names.Var w) e = refl
    local (sheets.Sheet found) (names.Name key) e = refl
    local (sheets.Sheet found) (names.Dangling w) e = cc
    local (sheets.Dangling typed) m e = refl
