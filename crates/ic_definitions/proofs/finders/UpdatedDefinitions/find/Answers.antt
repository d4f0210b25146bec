use Rattle.std.proofs.Common.{None, Some, ap, chars, refl, sym, ◌∙◌}
use Rattle.ic_laws.proofs.keeping.NameChanges.{key_at}
use Rattle.ic_laws.specs.Name.{fold}
use Rattle.ic_laws.specs.declared.tree.NameKey.{NameKey}
use Rattle.ic_definitions.specs.Named.{renamed_scene}
use Rattle.ic_definitions.proofs.FindingLemmas.{found_either}
use Rattle.ic_definitions.proofs.RenamedLemmas.{key_named, key_unnamed}
use Rattle.ic_definitions.proofs.finders.UpdatedDefinitions.find.Goals as goal

pub returns-then-is_some : goal.returns-then-is_some
returns-then-is_some c =
    let u = c.args.self.now in
    let scene = renamed_scene u.index (chars u.name.now) u.key.now.scope u.definitions.definitions.now in
    found_either scene c.args.scope (chars c.args.word.now) (Some c.key_with-local.result) _
    (key_named (λ name. chars name.now) scene (fold (chars c.args.word.now)) c.args.scope c.key_with-local.result c.name_of.result (c.key_with-local.ensures ∙ ap (λ folded. key_at folded c.args.scope) c.in_ok-fold_name.ensures) c.name_of.ensures
    (sym c.is_some.ensures ∙ c.if-is_some.true))
    refl

pub returns-then-is_some-2 : goal.returns-then-is_some-2
returns-then-is_some-2 c =
    let u = c.args.self.now in
    let scene = renamed_scene u.index (chars u.name.now) u.key.now.scope u.definitions.definitions.now in
    let local = c.key_with-local.ensures ∙ ap (λ folded. key_at folded c.args.scope) c.in_ok-fold_name.ensures in
    found_either scene c.args.scope (chars c.args.word.now) None (Some c.for_all_sheets-global.result)
    (key_unnamed (λ name. chars name.now) scene (fold (chars c.args.word.now)) c.args.scope c.key_with-local.result c.name_of.result local c.name_of.ensures (sym c.is_some.ensures ∙ c.if-is_some.false))
    (key_named (λ name. chars name.now) scene (fold (chars c.args.word.now)) None c.for_all_sheets-global.result c.name_of-2.result (c.for_all_sheets-global.ensures ∙ ap (λ (k : NameKey). key_at k.name None) local) c.name_of-2.ensures
    (sym c.is_some-2.ensures ∙ c.if-is_some-2.true))

pub returns : goal.returns
returns c =
    let u = c.args.self.now in
    let scene = renamed_scene u.index (chars u.name.now) u.key.now.scope u.definitions.definitions.now in
    let local = c.key_with-local.ensures ∙ ap (λ folded. key_at folded c.args.scope) c.in_ok-fold_name.ensures in
    found_either scene c.args.scope (chars c.args.word.now) None None
    (key_unnamed (λ name. chars name.now) scene (fold (chars c.args.word.now)) c.args.scope c.key_with-local.result c.name_of.result local c.name_of.ensures (sym c.is_some.ensures ∙ c.if-is_some.false))
    (key_unnamed (λ name. chars name.now) scene (fold (chars c.args.word.now)) None c.for_all_sheets-global.result c.name_of-2.result (c.for_all_sheets-global.ensures ∙ ap (λ (k : NameKey). key_at k.name None) local) c.name_of-2.ensures
    (sym c.is_some-2.ensures ∙ c.if-is_some-2.false))
