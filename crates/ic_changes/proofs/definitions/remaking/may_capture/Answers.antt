use Rattle.std.proofs.Common.{◌∙◌, ◌||◌, ap, chars, sym}
use Rattle.std.specs.List.{list_any}
use Rattle.ic_tree.specs.LanguageWords.{function_of}
use Rattle.ic_pool.specs.Remade.{Remade}
use Rattle.ic_pool.specs.Tested.{Test}
use Rattle.ic_definitions.specs.Tested.{passes_body}
use Rattle.ic_sheets.specs.Tested.{passes_in}
use Rattle.ic_changes.specs.Updated.{captures_by, rule_of_update}
use Rattle.ic_changes.proofs.UpdatedRules.{rule_seen}
use Rattle.ic_changes.proofs.definitions.remaking.may_capture.Goals as goal

pub returns-then-branch : goal.returns-then-branch
returns-then-branch c =
    let change = c.args.change.now in
    let rule = rule_of_update (function_of c.args.english.now) c.args.contents.now c.args.index (chars c.args.new_name.now) change in
    let seen =
    c.new-updating.ensures.captures
    ∙ ap (λ (r : Remade). captures_by r change)
    (c.new-updating.ensures.made
    ∙ rule_seen (function_of c.args.english.now) c.args.contents.now c.args.index (chars c.args.new_name.now) change
    c.new-definitions.result.definitions.definitions.now c.new-definitions.result.index (chars c.new-definitions.result.name.now) c.new-definitions.result.key.now
    (ap (λ n. n.definitions.now) c.new-definitions.ensures.definitions) c.new-definitions.ensures.index (ap chars c.new-definitions.ensures.name) c.new-definitions.ensures.key) in
    let first = c.in_ok-has_passing.ensures ∙ ap (λ (t : Test). list_any (passes_in t) c.args.contents.now.sheets) seen in
    c.if-branch.true ∙ ap (λ b. b || list_any (passes_body (captures_by rule change)) c.args.contents.now.definitions) (sym c.if-branch.true ∙ first)

pub returns-in_ok-has_passing-2 : goal.returns-in_ok-has_passing-2
returns-in_ok-has_passing-2 c =
    let change = c.args.change.now in
    let rule = rule_of_update (function_of c.args.english.now) c.args.contents.now c.args.index (chars c.args.new_name.now) change in
    let seen =
    c.new-updating.ensures.captures
    ∙ ap (λ (r : Remade). captures_by r change)
    (c.new-updating.ensures.made
    ∙ rule_seen (function_of c.args.english.now) c.args.contents.now c.args.index (chars c.args.new_name.now) change
    c.new-definitions.result.definitions.definitions.now c.new-definitions.result.index (chars c.new-definitions.result.name.now) c.new-definitions.result.key.now
    (ap (λ n. n.definitions.now) c.new-definitions.ensures.definitions) c.new-definitions.ensures.index (ap chars c.new-definitions.ensures.name) c.new-definitions.ensures.key) in
    let first = c.in_ok-has_passing.ensures ∙ ap (λ (t : Test). list_any (passes_in t) c.args.contents.now.sheets) seen in
    let second = c.in_ok-has_passing-2.ensures ∙ ap (λ (t : Test). list_any (passes_body t) c.args.contents.now.definitions) seen in
    second ∙ ap (λ b. b || list_any (passes_body (captures_by rule change)) c.args.contents.now.definitions) (sym c.if-branch.false ∙ first)
