use Rattle.std.proofs.Common.{◌≡◌, ◌∙◌, ◌∷◌, ◌++◌, [], ap, sym, length, string_bytes, arith}
use Rattle.ic_tree.specs.InScope.{key_of}
use Rattle.ic_tree.proofs.ScopeLemmas.{AreFound-push}
use Rattle.ic_tree.proofs.in_scope.Binders.push.Goals as goal

pub invariant_of-self-2 : goal.invariant_of-self-2
invariant_of-self-2 c =
    let name = c.in_ok-name.name in
    let names = c.self.inside.names.items in
    let before : c.len-place.result ≡ length c.reserve.new.self.items = omega (arith, c.len-place.ensures, c.reserve.new.self.ok.0) in
    let place : c.len-place.result ≡ length names = before ∙ ap length c.in_ok-reserve.ensures.items in
    AreFound-push c.self.inside.places c.note.new.places names c.push_reserved.new.self.items name (string_bytes c.in_ok-key.key) c.len-place.result c.self.invariant c.in_ok-note.ensures.ok
    (c.in_ok-key.ensures ∙ ap key_of (sym c.in_ok-name.ensures))
    place
    (c.push_reserved.ensures.items ∙ ap (λ xs. xs ++ name ∷ []) c.in_ok-reserve.ensures.items)
