use Rattle.std.proofs.Common.{List, Some, ℕ, ap, chars, false, sym, true, ◌∙◌}
use Rattle.ic_laws.specs.Name.{fold}
use Rattle.ic_laws.specs.Scene.{key_of}
use Rattle.ic_laws.specs.declared.scene.NameSpelling.{NameSpelling}
use Rattle.ic_laws.specs.declared.tree.NameKey.{NameKey}
use Rattle.ic_parts.proofs.AddedNames.{it_is_found, other_found}
use Rattle.ic_parts.proofs.scene.SceneWithDefinition.key_at.Goals as goal

pub returns-in-Some : goal.returns-in-Some
returns-in-Some c =
    let new : NameSpelling = record { name = chars c.args.self.now.name.now; scope = c.args.self.now.key.now.scope } in
    other_found key_of c.args.self.now.book.definitions.definitions.now new (fold (chars c.args.word.now)) c.args.scope c.in-Some.key (sym c.in-Some.is ∙ c.in_ok-key.ensures)

pub returns-then-is_named : goal.returns-then-is_named
returns-then-is_named c =
    let new : NameSpelling = record { name = chars c.args.self.now.name.now; scope = c.args.self.now.key.now.scope } in
    ap Some (c.in_ok-copy_key.ensures ∙ ap (λ (folded : List ℕ). let key : NameKey = record { name = folded; scope = c.args.self.now.key.now.scope } in key) c.args.self.now.own)
    ∙ it_is_found key_of c.args.self.now.book.definitions.definitions.now new (fold (chars c.args.word.now)) c.args.scope true (sym c.in_default.is ∙ c.in_ok-key.ensures) (sym c.is_named.ensures ∙ c.if-is_named.true)

pub returns : goal.returns
returns c =
    let new : NameSpelling = record { name = chars c.args.self.now.name.now; scope = c.args.self.now.key.now.scope } in
    it_is_found key_of c.args.self.now.book.definitions.definitions.now new (fold (chars c.args.word.now)) c.args.scope false (sym c.in_default.is ∙ c.in_ok-key.ensures) (sym c.is_named.ensures ∙ c.if-is_named.false)
