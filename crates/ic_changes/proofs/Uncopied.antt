-- Definitions none of which is copied with a sheet, or mentions what is looked for.
use Rattle.std.proofs.Common.{◌≡◌, ℕ, ◌<◌, List, [], ◌∷◌, ◌++◌, map, Bool, true, false, cond, ◌&&◌, Option, Some, None, max, option_to_list, refl, sym, ap, ap₂, ◌∙◌, append-nil, arith}
use Rattle.std.specs.List.{AllByRecursion, filter}
use Rattle.std.specs.Prelude.{flat_map, is_none}
use Rattle.std.proofs.lemmas.Bool.{ne_eqb}
use Rattle.ic_laws.specs.CoreBook.{Definition}
use Rattle.ic_laws.specs.Greatest.{greatest}
use Rattle.ic_laws.specs.Scene.{same_scope}
use Rattle.ic_laws.specs.declared.tree.Formula.{Formula}
use Rattle.ic_laws.specs.declared.tree.Formula.TheVariants as formulas
use Rattle.ic_pool.specs.Mentioning.{mentions_sheet}
use Rattle.ic_definitions.specs.Named.{key_in, scopes_of}
use Rattle.ic_definitions.proofs.NamedLemmas.{greatest_joined}
use Rattle.ic_machine.specs.subjects.Sheets.{local_in}
use Rattle.ic_machine.specs.subjects.Sheets as machine
use Rattle.ic_parts.specs.declared.sites.MentionSite.{MentionSite}
use Rattle.ic_parts.specs.declared.sites.MentionSite.TheVariants as sites
use Rattle.ic_changes.specs.Copied.{is_copied}
use Rattle.ic_changes.specs.Mentioning.{definition_passing}
use Rattle.ic_changes.specs.declared.sheet_copies.definitions.CopiedKind.TheVariants as kinds

-- ---- none is listed

no_sites : (test : Formula → Bool) (ds : List Definition) → AllByRecursion (λ d. test d.body ≡ false) ds → flat_map (definition_passing test) ds ≡ []
no_sites test [] h = refl
no_sites test (d ∷ ds) h = ap₂ (λ (a b : List MentionSite). a ++ b) (ap (λ (b : Bool). let one : List MentionSite = cond b (sites.Definition (key_in d) ∷ []) [] in one) h.0) (no_sites test ds h.1)

pub none_listed : (test : Formula → Bool) (ds : List Definition) (items : List MentionSite) → AllByRecursion (λ d. test d.body ≡ false) ds → items ≡ items ++ flat_map (definition_passing test) ds
none_listed test ds items h = sym (append-nil items) ∙ ap (λ more. items ++ more) (sym (no_sites test ds h))

-- ---- none is copied

pub none_filtered : {X : Type 0} (test : X → Bool) (xs : List X) → AllByRecursion (λ x. test x ≡ false) xs → filter test xs ≡ []
none_filtered test [] h = refl
none_filtered test (x ∷ xs) h = ap (λ (b : Bool). cond b (x ∷ filter test xs) (filter test xs)) h.0 ∙ none_filtered test xs h.1

pub none_copied : (id : ℕ) (test : Definition → Bool) (ds copies : List Definition) → AllByRecursion (λ d. test d ≡ false) ds → copies ≡ copies ++ map (local_in id) (filter test ds)
none_copied id test ds copies h = sym (append-nil copies) ∙ ap (λ more. copies ++ map (local_in id) more) (sym (none_filtered test ds h))

-- a scope is no later id
before : (id : ℕ) (scope : Option ℕ) → greatest (option_to_list scope) < id → same_scope scope (Some id) ≡ false
before id None lt = refl
before id (Some found) lt = ne_eqb found id (λ e. absurd (omega (arith, e, lt)))

pub none_local : (id : ℕ) (all ds : List Definition) → greatest (scopes_of ds) < id → AllByRecursion (λ d. is_copied kinds.Local id all d ≡ false) ds
none_local id all [] lt = tt
none_local id all (d ∷ ds) lt =
    let joined : greatest (scopes_of (d ∷ ds)) ≡ max (greatest (option_to_list d.scope)) (greatest (scopes_of ds)) = greatest_joined (option_to_list d.scope) (scopes_of ds) in
    (before id d.scope (omega (arith, lt, joined)), none_local id all ds (omega (arith, lt, joined)))

one_word : (id : ℕ) (body : Formula) → machine.mentions_sheet id body ≡ mentions_sheet id body
one_word id (formulas.Tree t) = refl
one_word id (formulas.Raw text) = refl

not_all : (a b c : Bool) → b ≡ false → (a && b && c) ≡ false
not_all true true c e = cc
not_all true false c e = refl
not_all false b c e = refl

pub none_shared : (id : ℕ) (all ds : List Definition) → AllByRecursion (λ d. mentions_sheet id d.body ≡ false) ds → AllByRecursion (λ d. is_copied kinds.Shared id all d ≡ false) ds
none_shared id all [] h = tt
none_shared id all (d ∷ ds) h = (not_all (is_none d.scope) (machine.mentions_sheet id d.body) _ (one_word id d.body ∙ h.0), none_shared id all ds h.1)
