use Rattle.std.proofs.Common.{◌≡◌, ◌++◌, ◌∙◌, OnOk, ap, append-nil, map, option_map, subst, sym}
use Rattle.std.specs.Option.{option_to_list}
use Rattle.std.specs.Prelude.{flat_map}
use Rattle.ic_dump.specs.Passing.{unfound_of}
use Rattle.ic_dump.proofs.taken.push_body.Goals as goal

pub returns-in-Some : goal.returns-in-Some
returns-in-Some c =
    let names = map (λ name. name.now) c.args.names.now.items in
    let there = ap (option_map (λ f. f.now)) (sym c.in-Some.is) ∙ c.parsed_definition.ensures in
    subst (λ ns. OnOk c.push_unfound_of.result (map (λ name. name.now) c.push_unfound_of.new.names.items ≡ names ++ ns))
    (sym (append-nil (unfound_of c.in-Some.body.now)) ∙ ap (λ o. flat_map unfound_of (option_to_list o)) there)
    c.push_unfound_of.ensures

pub returns-in-None : goal.returns-in-None
returns-in-None c =
    let names = map (λ name. name.now) c.args.names.now.items in
    let none = ap (option_map (λ f. f.now)) (sym c.in-None.is) ∙ c.parsed_definition.ensures in
    sym (append-nil names) ∙ ap (λ o. names ++ flat_map unfound_of (option_to_list o)) none
