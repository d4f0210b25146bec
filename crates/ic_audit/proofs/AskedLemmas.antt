-- What the words of the program ask for, and what is found of it in a book.
use Rattle.std.proofs.Common.{String, ◌≡◌, ◌≢◌, ℕ, List, [], ◌∷◌, map, Bool, true, false, cond, not, bytes_eq, Option, Some, None, Result, Ok, Err, option_map, is_some, codes, refl, ap, sym, ◌∙◌}
use Rattle.std.specs.Global.{Vec}
use Rattle.std.specs.Prelude.{IfErr, IfOk, is_none}
use Rattle.std.specs.Str.{chars}
use Rattle.std.specs.declared.alloc.Global.{Global}
use Rattle.ic_laws.specs.Command.{scope_said}
use Rattle.ic_laws.specs.CoreStep.{index_of_name}
use Rattle.ic_laws.specs.Refusal.{Refusal}
use Rattle.ic_machine.specs.Refusal.{Site}
use Rattle.ic_machine.specs.Sites.{name_sites_refusal, sites_of_name_in, sites_of_sheet_at}
use Rattle.ic_parts.proofs.WholeLemmas.{whole_core}
use Rattle.ic_parts.specs.Book.{Book, core_of}
use Rattle.ic_parts.specs.Sites.{site_of}
use Rattle.ic_parts.specs.Whole.{whole_of}
use Rattle.ic_parts.specs.declared.sites.MentionSite.{MentionSite}
use Rattle.ic_run.specs.Desk.{texts}
use Rattle.ic_audit.specs.Asked.{OfName, OfSheet, question_of, sites_asked}
use Rattle.ic_audit.specs.Refused.{Tells}
use Rattle.ic_audit.specs.declared.error.AuditError.{AuditError}
use Rattle.ic_audit.specs.declared.error.AuditError.TheVariants as errors

sheet_chars : chars (codes "sheet") ≡ codes "sheet"
unfolding chars
sheet_chars = refl

name_chars : chars (codes "name") ≡ codes "name"
unfolding chars
name_chars = refl

first_chars : chars (codes "Sheet1") ≡ codes "Sheet1"
unfolding chars
first_chars = refl

module _ (kind name : List ℕ) where
  pub other_kind : bytes_eq kind (chars (codes "sheet")) ≡ false → None ≡ question_of (kind ∷ name ∷ [])
  other_kind e = let no : bytes_eq kind (codes "sheet") ≡ false = ap (bytes_eq kind) (sym sheet_chars) ∙ e in sym (let at : question_of (kind ∷ name ∷ []) ≡ None = rw no refl in at)

  pub of_sheet : bytes_eq kind (chars (codes "sheet")) ≡ true → Some (OfSheet name) ≡ question_of (kind ∷ name ∷ [])
  of_sheet e = let yes : bytes_eq kind (codes "sheet") ≡ true = ap (bytes_eq kind) (sym sheet_chars) ∙ e in sym (let at : question_of (kind ∷ name ∷ []) ≡ Some (OfSheet name) = rw yes refl in at)

  module _ (scope : List ℕ) where
    pub other_kind_of_three : bytes_eq kind (chars (codes "name")) ≡ false → None ≡ question_of (kind ∷ name ∷ scope ∷ [])
    other_kind_of_three e = let no : bytes_eq kind (codes "name") ≡ false = ap (bytes_eq kind) (sym name_chars) ∙ e in sym (let at : question_of (kind ∷ name ∷ scope ∷ []) ≡ None = rw no refl in at)

    pub of_name : bytes_eq kind (chars (codes "name")) ≡ true → (o : Option (Option ℕ)) → o ≡ scope_said scope → option_map (OfName name) o ≡ question_of (kind ∷ name ∷ scope ∷ [])
    of_name e o said =
        let yes : bytes_eq kind (codes "name") ≡ true = ap (bytes_eq kind) (sym name_chars) ∙ e in
        ap (option_map (OfName name)) said ∙ sym (let at : question_of (kind ∷ name ∷ scope ∷ []) ≡ option_map (OfName name) (scope_said scope) = rw yes refl in at)

-- no words
pub no_words : (words : List (String Global)) → words ≡ [] → Some (OfSheet (chars (codes "Sheet1"))) ≡ question_of (texts words)
no_words words e = ap (λ n. Some (OfSheet n)) first_chars ∙ ap (λ ws. question_of (texts ws)) (sym e)

-- ---- what is found in a book

module _ (book : Book) (name : List ℕ) where
  pub sheet_found : (index : ℕ) → index_of_name (core_of book) name ≡ Some index → sites_asked (OfSheet name) (whole_of book) ≡ Some (sites_of_sheet_at index (whole_of book))
  sheet_found index at = ap (option_map (λ i. sites_of_sheet_at i (whole_of book))) (ap (λ k. index_of_name k name) (whole_core book) ∙ at)

  pub no_sheet : index_of_name (core_of book) name ≡ None → sites_asked (OfSheet name) (whole_of book) ≡ None
  no_sheet none = ap (option_map (λ i. sites_of_sheet_at i (whole_of book))) (ap (λ k. index_of_name k name) (whole_core book) ∙ none)

  module _ (scope : Option ℕ) where
    abbrev refusal : Option Refusal
    refusal = name_sites_refusal (core_of book) name scope

    asked_by : (b : Bool) → is_none refusal ≡ b → sites_asked (OfName name scope) (whole_of book) ≡ cond b (Some (sites_of_name_in name scope (whole_of book))) None
    asked_by b e = ap (λ t. let found : Option (List Site) = cond t (Some (sites_of_name_in name scope (whole_of book))) None in found) (ap (λ k. is_none (name_sites_refusal k name scope)) (whole_core book) ∙ e)

    not_some : (o : Option Refusal) (b : Bool) → is_some o ≡ b → is_none o ≡ not b
    not_some None b e = ap not e
    not_some (Some r) b e = ap not e

    pub name_found : (r : Result (Vec MentionSite) AuditError) → IfOk r (λ s. map site_of s.items ≡ sites_of_name_in name scope (whole_of book)) → Tells errors.NoSuchName r refusal → IfOk r (λ s. sites_asked (OfName name scope) (whole_of book) ≡ Some (map site_of s.items))
    name_found (Ok s) its told = asked_by true (not_some refusal false told) ∙ ap (λ xs. Some xs) (sym its)
    name_found (Err e) its told = tt

    pub no_name : (r : Result (Vec MentionSite) AuditError) → Tells errors.NoSuchName r refusal → IfErr r (λ e. e ≢ errors.OutOfMemory → sites_asked (OfName name scope) (whole_of book) ≡ None)
    no_name (Ok s) told = tt
    no_name (Err errors.OutOfMemory) told = λ other. absurd (other refl)
    no_name (Err errors.NoSuchSheet) told = λ other. asked_by false (not_some refusal true told.1)
    no_name (Err errors.NoSuchName) told = λ other. asked_by false (not_some refusal true told.1)
