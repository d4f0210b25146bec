-- What a change of the sheets or the definitions is about is mentioned by each formula that it changes.
use Rattle.std.proofs.Common.{◌≡◌, ℕ, List, [], ◌∷◌, Bool, true, false, ◌&&◌, ◌||◌, Option, Some, None, refl, sym, ap, ◌∙◌, bytes_eq}
use Rattle.std.specs.Prelude.{nat_eq}
use Rattle.std.proofs.lemmas.Bool.{eq-eqb, eqb-true, or_parts}
use Rattle.std.proofs.lemmas.Slice.Eq.{bytes_eq-Decides}
use Rattle.ic_laws.specs.Changes.{could_mean, could_mean_local, definition_added, dangles_by, is_of_name, is_of_sheet, sheet_gone, sheet_named}
use Rattle.ic_laws.specs.Changes as changes
use Rattle.ic_laws.specs.Name.{fold}
use Rattle.ic_laws.specs.Scene.{key_of, same_scope}
use Rattle.ic_laws.specs.declared.scene.NameSpelling.{NameSpelling}
use Rattle.ic_laws.specs.declared.scene.Scene.{Scene}
use Rattle.ic_laws.specs.declared.tree.NameKey.{NameKey}
use Rattle.ic_laws.specs.declared.tree.NameMention.{NameMention}
use Rattle.ic_laws.specs.declared.tree.NameMention.TheVariants as names
use Rattle.ic_laws.specs.declared.tree.SheetMention.{SheetMention}
use Rattle.ic_laws.specs.declared.tree.SheetMention.TheVariants as sheets
use Rattle.ic_pool.specs.Pool.{is_among}
use Rattle.ic_pool.specs.Topics.{SparesOthers, folded_topic, name_topic, sheet_topic, sheet_topics, word_topics}
use Rattle.ic_pool.proofs.KeyLemmas.{clash}
use Rattle.ic_pool.proofs.TopicLemmas.{spares_others}
use Rattle.ic_laws.proofs.General.{bytes_eq-flip}

-- names with other topics are others
pub apart : (a b : List ℕ) → is_among (folded_topic a) (folded_topic b ∷ []) ≡ false → bytes_eq a b ≡ false
apart a b e = by_test (bytes_eq a b) refl
  where
    by_test : (r : Bool) → bytes_eq a b ≡ r → bytes_eq a b ≡ false
    by_test false is = is
    by_test true is =
        absurd
        (clash (nat_eq (folded_topic a) (folded_topic b)) (eq-eqb (folded_topic a) (folded_topic b) (ap folded_topic ((bytes_eq-Decides a b).0 is)))
        (or_parts (nat_eq (folded_topic a) (folded_topic b)) false e).0)

sheets_apart : (id found : ℕ) → is_among (sheet_topic id) (sheet_topic found ∷ []) ≡ false → nat_eq found id ≡ false
sheets_apart id found e = by_test (nat_eq found id) refl
  where
    by_test : (r : Bool) → nat_eq found id ≡ r → nat_eq found id ≡ false
    by_test false is = is
    by_test true is = absurd (clash (nat_eq id found) (eq-eqb id found (sym (eqb-true found id is))) (or_parts (nat_eq id found) false e).0)

pub naming_spares : (scene : Scene) (id : ℕ) (name : List ℕ) → SparesOthers (sheet_named scene id name) (name_topic name ∷ [])
naming_spares scene id name = spares_others (sheet_named scene id name) (name_topic name) sheet (λ scope m e. refl) (λ s m e. refl)
  where
    sheet : (m : SheetMention) → is_among (name_topic name) (sheet_topics m) ≡ false → dangles_by name m ≡ false
    sheet sheets.Own e = refl
    sheet (sheets.Sheet found) e = refl
    sheet (sheets.Dangling typed) e = apart (fold name) (fold typed) e

pub going_spares : (scene : Scene) (id : ℕ) (name : List ℕ) → SparesOthers (sheet_gone scene id name) (sheet_topic id ∷ [])
going_spares scene id name = spares_others (sheet_gone scene id name) (sheet_topic id) sheet (λ scope m e. refl) (λ s m e. refl)
  where
    sheet : (m : SheetMention) → is_among (sheet_topic id) (sheet_topics m) ≡ false → is_of_sheet id m ≡ false
    sheet sheets.Own e = refl
    sheet (sheets.Sheet found) e = sheets_apart id found e
    sheet (sheets.Dangling typed) e = refl

pub adding_spares : (d : NameSpelling) → SparesOthers (definition_added d) (folded_topic (key_of d).name ∷ [])
adding_spares d = spares_others (definition_added d) (folded_topic (key_of d).name) (λ m e. refl) word local
  where
    word : (scope : Option ℕ) (m : NameMention) → is_among (folded_topic (key_of d).name) (word_topics m) ≡ false → could_mean (key_of d) scope m ≡ false
    word scope (names.Var w) e = refl
    word scope (names.Name found) e = ap (λ b. b && same_scope d.scope scope) (apart (key_of d).name found.name e)
    word scope (names.Dangling w) e = ap (λ b. b && (same_scope d.scope scope || same_scope d.scope None)) (apart (key_of d).name (fold w) e)

    local : (s : SheetMention) (m : NameMention) → is_among (folded_topic (key_of d).name) (word_topics m) ≡ false → could_mean_local (key_of d) s m ≡ false
    local sheets.Own m e = refl
    local (sheets.Sheet found) (names.Var w) e = refl
    local (sheets.Sheet found) (names.Name key) e = refl
    local (sheets.Sheet found) (names.Dangling w) e = ap (λ b. b && same_scope d.scope (Some found)) (apart (key_of d).name (fold w) e)
    local (sheets.Dangling typed) m e = refl

-- a word that means a definition mentions its name
pub of_name : (key : NameKey) (m : NameMention) → is_among (folded_topic key.name) (word_topics m) ≡ false → is_of_name key m ≡ false
of_name key (names.Var w) e = refl
of_name key (names.Name found) e = ap (λ b. b && same_scope found.scope key.scope) (bytes_eq-flip found.name key.name ∙ apart key.name found.name e)
of_name key (names.Dangling w) e = refl

pub deleting_spares : (key : NameKey) (becomes local_becomes : NameMention)
    → SparesOthers (changes.OfWords (λ scope mention. is_of_name key mention) becomes (λ sheet mention. is_of_name key mention) local_becomes) (folded_topic key.name ∷ [])
deleting_spares key becomes local_becomes =
    spares_others (changes.OfWords (λ scope mention. is_of_name key mention) becomes (λ sheet mention. is_of_name key mention) local_becomes) (folded_topic key.name)
    (λ m e. refl) (λ scope m e. of_name key m e) (λ s m e. of_name key m e)
