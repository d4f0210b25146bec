-- The definition that a command adds or leaves, and whether the command is refused.
use Rattle.std.proofs.Common.{◌≡◌, ◌⊎◌, ℕ, List, [], is_some, false, Option, Some, None, IsSome, option_map, inl, inr, refl, sym, ap, subst, ◌∙◌}
use Rattle.ic_laws.specs.CoreBook.{CoreBook, Definition}
use Rattle.ic_laws.specs.CoreStep as core
use Rattle.ic_laws.specs.CoreStep.{core_step, new_definition, new_definition_refusal, scope_of, scope_or_none}
use Rattle.ic_laws.specs.FormulaReading.{Body, body_of}
use Rattle.ic_laws.specs.Notations.{Notations}
use Rattle.ic_laws.specs.Refusal as refusals
use Rattle.ic_laws.specs.Refusal.{InvalidNameFormula}
use Rattle.ic_machine.specs.Book as machine
use Rattle.ic_machine.specs.Book.{Stepped, as_core}
use Rattle.ic_machine.specs.Command.{Command, OnDefinitions}
use Rattle.ic_machine.specs.Refusal.{OfCore, Refusal}
use Rattle.ic_machine.specs.Step.{step}
use Rattle.ic_machine.specs.Translation.{body_text, defined, left_by, with_last}
use Rattle.ic_machine.specs.subjects.Definitions.{NewDefinedName, new_definition_step, with_new_definition}
use Rattle.ic_parts.specs.Book.{ModelState, core_of, notations_in, whole_of}
use Rattle.ic_parts.specs.Does.{IsDone}
use Rattle.ic_parts.specs.Refused.{TellsCore, refusal_of}
use Rattle.ic_parts.specs.Translated.{IsToldOf}
use Rattle.ic_parts.specs.declared.error.BookError.{BookError}
use Rattle.ic_parts.specs.declared.error.BookError.TheVariants as errors
use Rattle.ic_parts.specs.declared.own_text.OwnText.TheVariants as owns
use Rattle.ic_parts.proofs.DoesLemmas.{told_whole}
use Rattle.ic_parts.proofs.NameLemmas.{scope_is}
use Rattle.ic_changes.proofs.OwnTextLemmas.{left_done}
use Rattle.ic_parts.proofs.WholeLemmas.{whole_core}

-- nothing is no value
no_value : (X : Type 0) → IsSome {T = X} None → ⊥
no_value X h = cc

pub some_is : {X : Type 0} (o : Option X) → IsSome o → (x : X) × (o ≡ Some x)
some_is None h = cc
some_is (Some x) h = (x, refl)

-- what tells a refusal of all tells one of the identity machine's
some_core : (o : Option refusals.Refusal) (p : Option Refusal) → option_map OfCore o ≡ p → IsSome p → (r : refusals.Refusal) × (o ≡ Some r)
some_core None p e h = let none : None ≡ p = e in let some : IsSome p = h in absurd (no_value Refusal (subst IsSome (sym none) some))
some_core (Some r) p e h = (r, refl)

-- a definition that is written as a command's own text
module _ (book : machine.Book) (command : Command) (d : Definition) where
  pub owns_texts : (its : Option Definition) → its ≡ Some d → (target : machine.Book) (texts : List (List ℕ)) (s : List ℕ) → s ≡ body_text target (Some d) → with_last s texts ≡ with_last (body_text target its) texts
  owns_texts its is target texts s so = ap (λ (t : List ℕ). with_last t texts) (so ∙ sym (ap (body_text target) is))

-- A new definition. ----

module _ (old : ModelState) (name : List ℕ) (scope : Option ℕ) (text : List ℕ) where
  abbrev n : Notations
  n = notations_in old.book

  abbrev whole : machine.Book
  whole = whole_of old.book

  abbrev command : Command
  command = OnDefinitions (NewDefinedName name scope text)

  abbrev told : Option refusals.Refusal
  told = new_definition_refusal (notations_in old.book) (core_of old.book) name scope text

  made_by : Option refusals.Refusal → Stepped machine.Book
  made_by o =
      as_core (core.unless_refused o (core.with_new_definition n (machine.core_of whole) name (scope_or_none (machine.core_of whole) scope) (body_of n (machine.core_of whole) text)) [])
      (with_new_definition whole name (scope_or_none (machine.core_of whole) scope) (body_of n (machine.core_of whole) text))

  step_by : (o : Option refusals.Refusal) → told ≡ o → step whole command ≡ made_by o
  unfolding made_by core_step new_definition_step
  step_by o e = ap made_by (ap (λ (c : CoreBook). new_definition_refusal n c name scope text) (whole_core old.book) ∙ e)

  gone_by : (r : refusals.Refusal) → told ≡ Some r → left_by (step whole command) ≡ None
  unfolding made_by
  gone_by r e = ap left_by (step_by (Some r) e)

  pub definition_gone : (e : BookError)
      → TellsCore e (new_definition_refusal (notations_in old.book) (core_of old.book) name scope text) ⊎ ((new_definition_refusal (notations_in old.book) (core_of old.book) name scope text ≡ Some InvalidNameFormula) × (e ≡ errors.OutOfMemory)) → IsSome (refusal_of e)
      → left_by (step (whole_of old.book) (OnDefinitions (NewDefinedName name scope text))) ≡ None
  definition_gone e (inl tells) some = let r = some_core told (refusal_of e) (told_whole e told tells) some in gone_by r.0 r.1
  definition_gone e (inr both) some = gone_by InvalidNameFormula both.0

  pub definition_told : new_definition_refusal (notations_in old.book) (core_of old.book) name scope text ≡ None → (id : Option ℕ) → scope_of (core_of old.book) scope ≡ Some id → (body : Body) → body_of (notations_in old.book) (core_of old.book) text ≡ Some body
      → (d : Definition) → d ≡ new_definition (notations_in old.book) (core_of old.book) name id body → IsToldOf (whole_of old.book) (OnDefinitions (NewDefinedName name scope text)) (Some (owns.Definition d))
  unfolding made_by
  definition_told none id from body read d made =
      let its : defined whole (NewDefinedName name scope text) ≡ Some d =
      ap (λ (c : CoreBook). option_map (new_definition n c name (scope_or_none c scope)) (body_of n c text)) (whole_core old.book)
      ∙ ap (option_map (new_definition n (core_of old.book) name (scope_or_none (core_of old.book) scope))) read
      ∙ ap (λ (s : Option ℕ). let o : Option Definition = Some (new_definition n (core_of old.book) name s body) in o) (scope_is (core_of old.book) scope id from)
      ∙ ap (λ (x : Definition). let o : Option Definition = Some x in o) (sym made) in (
        record { formula = ap (option_map (λ (x : Definition). x.body)) its; texts = λ target texts s so. owns_texts whole command d (defined whole (NewDefinedName name scope text)) its target texts s so },
        left_done (step whole command) (subst IsDone (sym (step_by None none)) tt),
      )

-- An update. ----

-- where there is no reason not to, nothing hinders
pub not_hindered : {A B : Type 0} (f : A → B) (r : Option A) (o : Option B) → option_map f r ≡ o → is_some r ≡ false → IsSome o → ⊥
not_hindered {B = B} f None o e h some = no_value B (subst IsSome (sym e) some)
not_hindered f (Some x) o e h some = cc
