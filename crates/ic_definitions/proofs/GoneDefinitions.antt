-- What a word finds when the definition that it means goes.
use Rattle.std.proofs.Common.{◌≡◌, ◌<◌, ℕ, List, map, length, get_or, Bool, ◌&&◌, Option, Some, None, option_map, refl, sym, ap, ap₂, subst, ◌∙◌}
use Rattle.std.proofs.lemmas.Simd.{map-map}
use Rattle.std.specs.Prelude.{bytes_eq, remove, slice_get}
use Rattle.std.specs.List.{IsDistinct, find}
use Rattle.std.specs.Option.{option_or}
use Rattle.std.proofs.lemmas.Option.{slice_get-map, slice_get_read}
use Rattle.ic_laws.proofs.keeping.NameChanges.{same_key_flip}
use Rattle.ic_laws.proofs.keeping.Removing.{finds_no_other, remove_map, removed_finds}
use Rattle.ic_laws.specs.Binding.{name_or_dangling}
use Rattle.ic_laws.specs.Changes.{OfWords, is_of_name, definition_gone}
use Rattle.ic_laws.specs.CoreBook.{Definition, spelling_of}
use Rattle.ic_laws.specs.Name.{fold}
use Rattle.ic_laws.specs.Scene.{definition_at, found_name, key_of, same_key, same_scope}
use Rattle.ic_laws.specs.declared.scene.NameSpelling.{NameSpelling}
use Rattle.ic_laws.specs.declared.tree.NameKey.{NameKey}
use Rattle.ic_laws.specs.declared.tree.NameMention.{NameMention}
use Rattle.ic_laws.specs.declared.tree.NameMention.TheVariants as names
use Rattle.ic_definitions.specs.Named.{definitions_scene, key_in}
use Rattle.ic_pool.proofs.ChangeLemmas.{both_false as never}

twice : (o : Option NameSpelling) → option_map key_of (option_or o o) ≡ option_map key_of o
twice None = refl
twice (Some d) = refl

module _ (ds : List Definition) (index : ℕ) (d : Definition) (at : slice_get ds index ≡ Some d) where
  abbrev p : NameSpelling → Bool
  p x = bytes_eq (fold x.name) (fold d.name) && same_scope x.scope None

  seen : slice_get (map spelling_of ds) index ≡ Some (spelling_of d)
  seen = slice_get-map spelling_of ds index ∙ ap (option_map spelling_of) at

  left : (o : Option NameSpelling) → find p (remove (map spelling_of ds) index) ≡ o → found_name (definitions_scene (remove ds index)) None d.name ≡ option_map key_of o
  left o e = twice (find p (map spelling_of (remove ds index))) ∙ ap (λ xs. option_map key_of (find p xs)) (remove_map spelling_of ds index) ∙ ap (option_map key_of) e

  -- a local one leaves the one that is local to none
  pub local_gone : (id : ℕ) → d.scope ≡ Some id → option_map key_of (definition_at (definitions_scene ds) (fold d.name) None) ≡ found_name (definitions_scene (remove ds index)) None d.name
  local_gone id local =
      sym (left (find p (map spelling_of ds)) (removed_finds p (map spelling_of ds) index (spelling_of d) seen (ap (λ s. bytes_eq (fold d.name) (fold d.name) && same_scope s None) local ∙ never (bytes_eq (fold d.name) (fold d.name)))))

  -- and that leaves none
  pub global_gone : IsDistinct same_key (map key_in ds) → d.scope ≡ None → None ≡ found_name (definitions_scene (remove ds index)) None d.name
  global_gone differ global =
      sym (left None
      (subst (λ s. find (λ (x : NameSpelling). bytes_eq (fold x.name) (fold d.name) && same_scope x.scope s) (remove (map spelling_of ds) index) ≡ None) global
      (finds_no_other key_of same_key same_key_flip (map spelling_of ds) index (spelling_of d) (subst (IsDistinct same_key) (sym (map-map key_of spelling_of ds)) differ) seen)))

  same_read : (read : Definition) → Some read ≡ Some d → read ≡ d
  same_read read e = cc

  -- so this is the change, told by the definition that is read there
  pub change_is : (read : Definition) (key : NameKey) (name : List ℕ) (mention : NameMention) → index < length ds → read ≡ get_or ds index read → key ≡ key_in read → name ≡ read.name
      → mention ≡ name_or_dangling d.name (found_name (definitions_scene (remove ds index)) None d.name)
      → OfWords (λ scope m. is_of_name key m) mention (λ sheet m. is_of_name key m) (names.Dangling name) ≡ definition_gone (definitions_scene (remove ds index)) (spelling_of d)
  change_is read key name mention lt is e n f =
      let same : read ≡ d = same_read read (sym (slice_get_read ds (length ds) index read refl lt is) ∙ at) in
      ap₂ (λ (k : NameKey) (becomes : NameMention). OfWords (λ scope m. is_of_name k m) becomes (λ sheet m. is_of_name k m) (names.Dangling name)) (e ∙ ap key_in same) f
      ∙ ap (λ (t : List ℕ). OfWords (λ scope m. is_of_name (key_in d) m) (name_or_dangling d.name (found_name (definitions_scene (remove ds index)) None d.name)) (λ sheet m. is_of_name (key_in d) m) (names.Dangling t)) (n ∙ ap (λ (x : Definition). x.name) same)
