use Rattle.std.proofs.Common.{ap, subst, sym, ◌∙◌, ◌++◌, ◌∷◌, [], List, ℕ, Some}
use Rattle.ic_sheets.proofs.MakesLemmas.{looked_at_listed, looked_at_pushed}
use Rattle.ic_sheets.specs.Index.{AreLookedAt}
use Rattle.ic_sheets.proofs.sheets.dangling.looked_at.Goals as goal

pub returns-then-not-is_clean_with : goal.returns-then-not-is_clean_with
returns-then-not-is_clean_with c =
    subst (λ (xs : List ℕ). AreLookedAt (Some c.args.id) xs c.args.sheets.now) (sym (c.in_ok-ids.ensures.items_if_clones_equal (λ x y e. e)))
    (looked_at_listed c.args.dangling.now c.args.id c.args.sheets.now c.requires.dangling (sym c.is_clean_with.ensures ∙ c.if-not-is_clean_with.true))

pub returns : goal.returns
returns c =
    looked_at_pushed c.args.dangling.now c.args.id c.args.sheets.now c.requires.dangling (sym c.is_clean_with.ensures ∙ c.if-not-is_clean_with.false) c.push.new.self.items
    (c.in_ok-push.ensures.items ∙ ap (λ (xs : List ℕ). xs ++ c.args.id ∷ []) (c.in_ok-ids.ensures.items_if_clones_equal (λ x y e. e)))
