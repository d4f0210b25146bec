use Rattle.std.proofs.Common.{◌∙◌, chars, true, false, sym}
use Rattle.ic_input.proofs.NumberSteps.{assembled, decimals_is, fits-groups, groups_is, refused}
use Rattle.ic_input.proofs.number.from_digits.Goals as goal

pub returns-then-not-may_stand_before_groups : goal.returns-then-not-may_stand_before_groups
returns-then-not-may_stand_before_groups c =
    let l = c.args.locale.now in
    let body = chars c.args.body.now in
    let g = groups_is l body c.digits_at-first.result c.groups_at-groups.result c.group_of.result c.group_of.ensures c.digits_at-first.ensures.value c.digits_at-first.ensures.rest c.groups_at-groups.ensures.value c.groups_at-groups.ensures.are_some c.groups_at-groups.ensures.rest in
    refused l (chars c.args.before.now) body (fits-groups l body c.digits_at-first.result.count c.groups_at-groups.result.are_some false c.digits_at-first.ensures.count g.some (sym c.if-not-may_stand_before_groups.ensures))

pub returns : goal.returns
returns c =
    let l = c.args.locale.now in
    let body = chars c.args.body.now in
    let g = groups_is l body c.digits_at-first.result c.groups_at-groups.result c.group_of.result c.group_of.ensures c.digits_at-first.ensures.value c.digits_at-first.ensures.rest c.groups_at-groups.ensures.value c.groups_at-groups.ensures.are_some c.groups_at-groups.ensures.rest in
    let fits = fits-groups l body c.digits_at-first.result.count c.groups_at-groups.result.are_some true c.digits_at-first.ensures.count g.some (sym c.if-not-may_stand_before_groups.ensures) in
    let d = decimals_is l body c.groups_at-groups.result c.decimals_at-decimals.result c.decimal_separator.result c.decimal_separator.ensures g.rest c.decimals_at-decimals.ensures.value c.decimals_at-decimals.ensures.count c.decimals_at-decimals.ensures.rest in
    c.with_after.ensures ∙ assembled l (chars c.args.before.now) body _ _ _ _ _ _ fits g.some g.value c.digits_at-first.ensures.count d.value d.count d.after
