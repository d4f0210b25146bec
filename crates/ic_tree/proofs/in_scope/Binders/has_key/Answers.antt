use Rattle.std.proofs.Common.{◌∙◌, ap, is_some, chars}
use Rattle.std.specs.BTreeMap.{get_by_text}
use Rattle.ic_laws.specs.Binding.{is_bound_by}
use Rattle.ic_tree.specs.InScope.{key_of}
use Rattle.ic_tree.proofs.ScopeLemmas.{found_bound}
use Rattle.ic_tree.proofs.in_scope.Binders.has_key.Goals as goal

pub returns : goal.returns
returns c =
    let name = chars c.args.name.now in
    c.contains_key.ensures
    ∙ ap is_some (ap (get_by_text c.self.inside.places) c.requires ∙ c.self.invariant.finds (key_of name))
    ∙ found_bound name c.self.inside.names.items ∙ ap (λ xs. is_bound_by xs name) c.self.view_is
