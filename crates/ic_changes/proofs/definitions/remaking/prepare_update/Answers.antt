use Rattle.std.proofs.Common.{◌≡◌, ◌∙◌, List, ap, chars, map, refl, subst, sym, true, ℕ}
use Rattle.ic_tree.specs.LanguageWords.{function_of}
use Rattle.ic_laws.specs.Keeping.{changed_key}
use Rattle.ic_pool.specs.Rewrites.{RewritesState}
use Rattle.ic_sheets.specs.Index.{is_part}
use Rattle.ic_parts.specs.Sites.{AreAlikePools, listed_sites}
use Rattle.ic_changes.proofs.UpdatedRules.{is_prepared, made_leaves, made_leaves_bodies, prepared_alike, rule_seen}
use Rattle.ic_changes.proofs.definitions.remaking.prepare_update.Goals as goal

pub prepare_remade-requires : goal.prepare_remade-requires
prepare_remade-requires c =
    made_leaves (function_of c.args.english.now) c.args.contents.now c.args.index (chars c.args.new_name.now) c.args.change.now _
    (c.new-updating.ensures.made
    ∙ rule_seen (function_of c.args.english.now) c.args.contents.now c.args.index (chars c.args.new_name.now) c.args.change.now
    c.new-definitions.result.definitions.definitions.now c.new-definitions.result.index (chars c.new-definitions.result.name.now) c.new-definitions.result.key.now
    (ap (λ n. n.definitions.now) c.new-definitions.ensures.definitions) c.new-definitions.ensures.index (ap chars c.new-definitions.ensures.name) c.new-definitions.ensures.key) c.requires.leaves

pub prepare_remade-requires-2 : goal.prepare_remade-requires-2
prepare_remade-requires-2 c =
    made_leaves_bodies (function_of c.args.english.now) c.args.contents.now c.args.index (chars c.args.new_name.now) c.args.change.now _
    (c.new-updating.ensures.made
    ∙ rule_seen (function_of c.args.english.now) c.args.contents.now c.args.index (chars c.args.new_name.now) c.args.change.now
    c.new-definitions.result.definitions.definitions.now c.new-definitions.result.index (chars c.new-definitions.result.name.now) c.new-definitions.result.key.now
    (ap (λ n. n.definitions.now) c.new-definitions.ensures.definitions) c.new-definitions.ensures.index (ap chars c.new-definitions.ensures.name) c.new-definitions.ensures.key) c.requires.leaves

pub sites_of_update-requires-clause-pools : goal.sites_of_update-requires-clause-pools
sites_of_update-requires-clause-pools c =
    subst (λ fs. AreAlikePools fs c.args.contents.now.sheets) (sym c.deref.ensures.value)
    (prepared_alike (function_of c.args.english.now) c.args.contents.now c.args.index (chars c.args.new_name.now) c.args.change.now _
    (c.new-updating.ensures.made
    ∙ rule_seen (function_of c.args.english.now) c.args.contents.now c.args.index (chars c.args.new_name.now) c.args.change.now
    c.new-definitions.result.definitions.definitions.now c.new-definitions.result.index (chars c.new-definitions.result.name.now) c.new-definitions.result.key.now
    (ap (λ n. n.definitions.now) c.new-definitions.ensures.definitions) c.new-definitions.ensures.index (ap chars c.new-definitions.ensures.name) c.new-definitions.ensures.key) c.requires.leaves c.in_ok-formulas.formulas.items c.in_ok-bodies.bodies c.in_ok-formulas.ensures c.in_ok-bodies.ensures.listed).0

pub sites_of_update-requires-clause-ordered : goal.sites_of_update-requires-clause-ordered
sites_of_update-requires-clause-ordered c = subst (λ (fs : List (ℕ × RewritesState)). is_part (map (λ p. p.0) fs) (map (λ s. s.id) c.args.contents.now.sheets) ≡ true) (sym c.deref.ensures.value) c.in_ok-formulas.ensures.ordered

pub sites_of_update-requires-clause-bodies : goal.sites_of_update-requires-clause-bodies
sites_of_update-requires-clause-bodies c =
    (prepared_alike (function_of c.args.english.now) c.args.contents.now c.args.index (chars c.args.new_name.now) c.args.change.now _
    (c.new-updating.ensures.made
    ∙ rule_seen (function_of c.args.english.now) c.args.contents.now c.args.index (chars c.args.new_name.now) c.args.change.now
    c.new-definitions.result.definitions.definitions.now c.new-definitions.result.index (chars c.new-definitions.result.name.now) c.new-definitions.result.key.now
    (ap (λ n. n.definitions.now) c.new-definitions.ensures.definitions) c.new-definitions.ensures.index (ap chars c.new-definitions.ensures.name) c.new-definitions.ensures.key) c.requires.leaves c.in_ok-formulas.formulas.items c.in_ok-bodies.bodies c.in_ok-formulas.ensures c.in_ok-bodies.ensures.listed).1

pub returns : goal.returns
returns c =
    is_prepared (function_of c.args.english.now) c.args.contents.now c.args.index (chars c.args.new_name.now) c.args.change.now _
    (c.new-updating.ensures.made
    ∙ rule_seen (function_of c.args.english.now) c.args.contents.now c.args.index (chars c.args.new_name.now) c.args.change.now
    c.new-definitions.result.definitions.definitions.now c.new-definitions.result.index (chars c.new-definitions.result.name.now) c.new-definitions.result.key.now
    (ap (λ n. n.definitions.now) c.new-definitions.ensures.definitions) c.new-definitions.ensures.index (ap chars c.new-definitions.ensures.name) c.new-definitions.ensures.key) c.requires.leaves c.in_ok-formulas.formulas.items c.in_ok-bodies.bodies c.in_ok-formulas.ensures c.in_ok-bodies.ensures.listed
    (record { formulas = c.in_ok-formulas.formulas; bodies = c.in_ok-bodies.bodies; sites = c.in_ok-sites.sites }) refl refl c.in_ok-bodies.ensures.made c.in_ok-bodies.ensures.fits
    (c.in_ok-sites.ensures ∙ ap (λ fs. listed_sites (changed_key c.args.change.now.old c.args.change.now.new) c.args.change.now.old c.args.contents.now.sheets c.args.contents.now.definitions fs c.in_ok-bodies.bodies.bodies.items) c.deref.ensures.value)
