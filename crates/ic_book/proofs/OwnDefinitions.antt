-- What a model answers to a command on a definition of its own.
use Rattle.std.proofs.Common.{◌≡◌, ℕ, List, [], ◌∷◌, Bool, true, false, codes, Option, Some, None, IsSome, option_map, sym, ap, ap₂, subst, ◌∙◌, if◌then◌else◌}
use Rattle.ic_laws.specs.Binding.{bound}
use Rattle.ic_laws.specs.CoreBook.{Definition}
use Rattle.ic_laws.specs.Notations.{Notations, english_function}
use Rattle.ic_laws.specs.declared.scene.Scene.{Scene}
use Rattle.ic_laws.specs.declared.tree.Formula.TheVariants as formulas
use Rattle.ic_tables.specs.Tables.{language_of}
use Rattle.ic_tables.specs.declared.language.Language.{Language}
use Rattle.ic_tree.proofs.NotationLaws.{english_function_is}
use Rattle.ic_tree.specs.LanguageWords.{function_of}
use Rattle.ic_machine.specs.Book as machine
use Rattle.ic_machine.specs.Book.{Stepped, scene_in, unless}
use Rattle.ic_machine.specs.Command.{OnDefinitions}
use Rattle.ic_machine.specs.Refusal.{Refusal, WouldCapture, first_refusal}
use Rattle.ic_machine.specs.Step.{step}
use Rattle.ic_machine.specs.Translation.{defined, left_by, updated_definition}
use Rattle.ic_machine.specs.subjects.Definitions.{Update, UpdateDefinedName, captures, question_causes, scene_updated, update_causes, update_name_step, update_sites, updated_book, with_update}
use Rattle.ic_parts.specs.Book.{ModelState, notations_in, whole_of}
use Rattle.ic_parts.specs.Definitions.{body_of_typed}
use Rattle.ic_parts.specs.Does.{IsDone}
use Rattle.ic_book.specs.Inside.{IsHeld, held, held_state}
use Rattle.ic_parts.specs.Scene.{scene_renamed}
use Rattle.ic_parts.specs.Translated.{IsToldAsked}
use Rattle.ic_changes.specs.Updated.{IsChecked}
use Rattle.ic_changes.specs.declared.definitions.update.CheckedUpdate.{CheckedUpdate}
use Rattle.ic_book.specs.declared.model.Model.TheInside.{Inside}
use Rattle.ic_parts.specs.declared.own_text.OwnText.TheVariants as owns
use Rattle.ic_parts.proofs.ExtendLemmas.{first_earlier, first_later}
use Rattle.ic_changes.proofs.OwnTextLemmas.{left_done}
use Rattle.ic_book.proofs.UpdatedRules.{after_is}
use Rattle.ic_changes.proofs.OwnDefinitions.{owns_texts, some_is}

module _ (book : machine.Book) (u : Update) where
  abbrev asked : Option Refusal
  asked = first_refusal (question_causes book u)

  step_of : Option Refusal → Stepped machine.Book
  step_of o = unless o (updated_book book u) []

  step_so : (o : Option Refusal) → first_refusal (update_causes book u) ≡ o → step book (OnDefinitions (UpdateDefinedName u)) ≡ step_of o
  unfolding step_of update_name_step
  step_so o e = ap step_of e

  pub question_gone : IsSome (first_refusal (question_causes book u)) → left_by (step book (OnDefinitions (UpdateDefinedName u))) ≡ None
  unfolding step_of
  question_gone some =
      let r = some_is asked some in
      ap left_by (step_so (Some r.0) (first_earlier (question_causes book u) ((captures book u, WouldCapture (update_sites book u)) ∷ []) r.0 r.1))

  by_capture : (c : Bool) → captures book u ≡ c → first_refusal (question_causes book u) ≡ None → first_refusal (update_causes book u) ≡ (if c then Some (WouldCapture (update_sites book u)) else None)
  by_capture c e none =
      first_later (question_causes book u) (captures book u) (WouldCapture (update_sites book u)) none
      ∙ ap (λ (b : Bool). let o : Option Refusal = if b then Some (WouldCapture (update_sites book u)) else None in o) e

  pub captures_gone : first_refusal (question_causes book u) ≡ None → captures book u ≡ true → left_by (step book (OnDefinitions (UpdateDefinedName u))) ≡ None
  unfolding step_of
  captures_gone none e = ap left_by (step_so (Some (WouldCapture (update_sites book u))) (by_capture true e none))

  pub spared_left : first_refusal (question_causes book u) ≡ None → captures book u ≡ false → IsSome (left_by (step book (OnDefinitions (UpdateDefinedName u))))
  unfolding step_of
  spared_left none e = left_done (step book (OnDefinitions (UpdateDefinedName u))) (subst IsDone (sym (step_so None (by_capture false e none))) tt)

module _ (inside : Inside) (h : IsHeld inside) (m : ModelState) (is : held_state inside ≡ m) (u : Update) (checked : CheckedUpdate) (c : IsChecked (whole_of m.book) u checked) (english : Language) (en : language_of inside.notation.tables (codes "en") ≡ Some english)
    (definition : Definition) (made : definition ≡ record { name = u.new_name; scope = checked.new_scope; has_equals = checked.body.has_equals; body = formulas.Tree (bound (function_of english) (scene_renamed inside.contents.sheets inside.contents.definitions checked.index u.new_name checked.new_scope) checked.new_scope checked.body.tree) })
  where
    abbrev here : machine.Book
    here = whole_of (held inside)

    abbrev words : Notations
    words = notations_in (held inside)

    checked_here : IsChecked (whole_of (held inside)) u checked
    checked_here = subst (λ (k : ModelState). IsChecked (whole_of k.book) u checked) (sym is) c

    scene_is : scene_renamed inside.contents.sheets inside.contents.definitions checked.index u.new_name checked.new_scope ≡ scene_updated here u
    scene_is =
        after_is inside h u checked.index checked_here.index false (formulas.Raw []) checked.new_scope checked_here.new_scope
        ∙ ap (λ (o : Option ℕ). scene_in (with_update here u false (formulas.Raw []) o here)) (sym checked_here.index)

    new_is : definition ≡ updated_definition here u (body_of_typed checked.body)
    new_is =
        made
        ∙ ap₂ (λ (f : List ℕ → Option ℕ) (s : Scene). let d : Definition = record { name = u.new_name; scope = checked.new_scope; has_equals = checked.body.has_equals; body = formulas.Tree (bound f s checked.new_scope checked.body.tree) } in d) (sym (english_function_is inside.notation.tables english en)) scene_is
        ∙ ap (λ (o : Option ℕ). let d : Definition = record { name = u.new_name; scope = o; has_equals = checked.body.has_equals; body = formulas.Tree (bound (english_function words) (scene_updated here u) o checked.body.tree) } in d) (sym checked_here.new_scope)

    its : defined here (UpdateDefinedName u) ≡ Some definition
    its = ap (option_map (updated_definition here u)) checked_here.body ∙ ap (λ (x : Definition). let o : Option Definition = Some x in o) (sym new_is)

    pub update_told : IsToldAsked (whole_of m.book) u (Some (owns.Definition definition))
    update_told =
        subst (λ (k : ModelState). IsToldAsked (whole_of k.book) u (Some (owns.Definition definition))) is (
          record { formula = ap (option_map (λ (x : Definition). x.body)) its; texts = λ target texts s so. owns_texts here (OnDefinitions (UpdateDefinedName u)) definition (defined here (UpdateDefinedName u)) its target texts s so },
          checked_here.accepted,
        )
