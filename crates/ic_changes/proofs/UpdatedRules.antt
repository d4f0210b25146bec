-- What a rule prepared for an update of a definition.
use Rattle.std.proofs.Common.{◌≡◌, ℕ, List, map, Option, Some, sym, ap, ap₂, subst, ◌∙◌}
use Rattle.std.specs.List.{AllByRecursion}
use Rattle.ic_laws.specs.CoreBook.{Definition}
use Rattle.ic_laws.specs.Keeping.{changed_key}
use Rattle.ic_laws.specs.declared.tree.NameKey.{NameKey}
use Rattle.ic_keep.specs.declared.change.KeyChange.{KeyChange}
use Rattle.ic_pool.specs.Remade.{LeavesUntouched, Remade}
use Rattle.ic_pool.specs.Rewrites.{RewritesState}
use Rattle.ic_definitions.specs.Bodies.{FitsBodies, with_bodies}
use Rattle.ic_definitions.specs.Remade.{LeavesBody, remade_body, touched_bodies}
use Rattle.ic_definitions.specs.declared.bodies.BodyRewrites.{BodyRewrites}
use Rattle.ic_sheets.specs.Remade.{AreRemade}
use Rattle.ic_sheets.specs.declared.sheet.Sheet.{Sheet as HeldSheet}
use Rattle.ic_parts.specs.Scene.{scene_of_parts, scene_renamed}
use Rattle.ic_parts.specs.Sites.{AreAlikePools, IsAlikeBody, kept_where_touched, listed_sites}
use Rattle.ic_changes.specs.Updated.{IsPrepared, LeavesAll, rule_of_update}
use Rattle.ic_parts.specs.declared.contents.Contents.{Contents}
use Rattle.ic_changes.specs.declared.definitions.remaking.PreparedUpdate.{PreparedUpdate}
use Rattle.ic_changes.proofs.SitesUpdate.{kept_update}
use Rattle.ic_changes.proofs.SitesWhole.{update_alike}

-- what a rule prepared that is that of an update ----

pub rule_seen : (english : List ℕ → Option ℕ) (contents : Contents) (index : ℕ) (name : List ℕ) (change : KeyChange) (definitions : List Definition) (at : ℕ) (text : List ℕ) (key : NameKey)
    → definitions ≡ contents.definitions → at ≡ index → text ≡ name → key ≡ change.new
    → kept_where_touched english (scene_of_parts contents.sheets contents.definitions) (scene_renamed contents.sheets definitions at text key.scope) change.old change.new ≡ rule_of_update english contents index name change
rule_seen english contents index name change definitions at text key a b c d =
    ap₂ (λ (xs : List Definition) (i : ℕ). kept_where_touched english (scene_of_parts contents.sheets contents.definitions) (scene_renamed contents.sheets xs i text key.scope) change.old change.new) a b
    ∙ ap₂ (λ (t : List ℕ) (k : NameKey). kept_where_touched english (scene_of_parts contents.sheets contents.definitions) (scene_renamed contents.sheets contents.definitions index t k.scope) change.old change.new) c d

module _ (english : List ℕ → Option ℕ) (contents : Contents) (index : ℕ) (name : List ℕ) (change : KeyChange) (made : Remade) (is : made ≡ rule_of_update english contents index name change) where
  abbrev its : Remade
  its = rule_of_update english contents index name change

  module _ (leaves : LeavesAll its contents) where
    pub made_leaves : AllByRecursion (λ (s : HeldSheet). AllByRecursion (LeavesUntouched made (Some s.id)) s.pool.formulas) contents.sheets
    made_leaves = subst (λ (r : Remade). AllByRecursion (λ (s : HeldSheet). AllByRecursion (LeavesUntouched r (Some s.id)) s.pool.formulas) contents.sheets) (sym is) leaves.formulas

    pub made_leaves_bodies : AllByRecursion (LeavesBody made) contents.definitions
    made_leaves_bodies = subst (λ (r : Remade). AllByRecursion (LeavesBody r) contents.definitions) (sym is) leaves.bodies

    module _ (formulas : List (ℕ × RewritesState)) (bodies : BodyRewrites) (pools : AreRemade made formulas contents.sheets) (listed : bodies.bodies.items ≡ touched_bodies made 0 contents.definitions) where
      pools_by_rule : AreRemade its formulas contents.sheets
      pools_by_rule = subst (λ (r : Remade). AreRemade r formulas contents.sheets) is pools

      listed_by_rule : bodies.bodies.items ≡ touched_bodies its 0 contents.definitions
      listed_by_rule = listed ∙ ap (λ (r : Remade). touched_bodies r 0 contents.definitions) is

      pub prepared_alike : AreAlikePools formulas contents.sheets × AllByRecursion (IsAlikeBody contents.definitions) bodies.bodies.items
      prepared_alike =
          update_alike its (changed_key change.old change.new) contents.sheets contents.definitions formulas bodies.bodies.items
          (kept_update english (scene_of_parts contents.sheets contents.definitions) (scene_renamed contents.sheets contents.definitions index name change.new.scope) change.old change.new contents.sheets contents.definitions formulas bodies.bodies.items pools_by_rule listed_by_rule leaves.formulas leaves.bodies)

      pub is_prepared : (prepared : PreparedUpdate) → prepared.formulas.items ≡ formulas → prepared.bodies ≡ bodies → with_bodies bodies.bodies.items contents.definitions ≡ map (remade_body made) contents.definitions → FitsBodies bodies contents.definitions
          → prepared.sites.items ≡ listed_sites (changed_key change.old change.new) change.old contents.sheets contents.definitions formulas bodies.bodies.items
          → IsPrepared (rule_of_update english contents index name change) change contents prepared
      is_prepared prepared a b made_so fits sites = record {
        formulas = subst (λ fs. AreRemade its fs contents.sheets) (sym a) pools_by_rule;
        made = ap (λ (w : BodyRewrites). with_bodies w.bodies.items contents.definitions) b ∙ made_so ∙ ap (λ (r : Remade). map (remade_body r) contents.definitions) is;
        listed = ap (λ (w : BodyRewrites). w.bodies.items) b ∙ listed_by_rule;
        fits = subst (λ (w : BodyRewrites). FitsBodies w contents.definitions) (sym b) fits;
        sites = sites ∙ ap₂ (λ (fs : List (ℕ × RewritesState)) (w : BodyRewrites). listed_sites (changed_key change.old change.new) change.old contents.sheets contents.definitions fs w.bodies.items) (sym a) (sym b);
      }
