use Rattle.std.proofs.Common.{◌≡◌, ◌∙◌, ◌<◌, ◌-◌, ap, length, take, get_or, arith}
use Rattle.ic_tree.specs.InScope.{key_of}
use Rattle.ic_tree.proofs.ScopeLemmas.{AreFound-cut}
use Rattle.ic_tree.proofs.in_scope.Binders.pop.Goals as goal

pub invariant_of-self : goal.invariant_of-self
invariant_of-self c =
    let names = c.self.inside.names.items in
    let name = c.index-name.result.now in
    let list = c.truncate.new.self.items in
    let count : c.len-count.result ≡ length names = omega (arith, c.len-count.ensures, c.self.inside.names.ok.0) in
    let some : 0 < length names = omega (arith, count, c.if-count-eq0.false) in
    let place : c.len-count.result - 1 ≡ length list = omega (arith, count, some, c.truncate.ensures.len, c.self.inside.names.ok.0, c.truncate.new.self.ok.0) in
    AreFound-cut c.self.inside.places c.forget.new.places names list name c.as_str-2.result.now (c.len-count.result - 1) c.self.invariant some
    (c.index-name.ensures ∙ ap (λ n. get_or names (n - 1) name) count) c.forget.ensures
    (c.as_str-2.ensures.value ∙ c.in_ok-key.ensures ∙ ap key_of c.as_str.ensures.characters) place
    (c.truncate.ensures.items ∙ ap (λ n. take (n - 1) names) count)
