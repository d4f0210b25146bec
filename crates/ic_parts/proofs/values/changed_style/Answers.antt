use Rattle.std.proofs.Common.{◌∙◌, sym, ap}
use Rattle.ic_machine.specs.Styling.{Numbered, restyled}
use Rattle.ic_parts.specs.Values.{style_change}
use Rattle.ic_parts.specs.declared.values.Restyle.{Restyle}
use Rattle.ic_parts.proofs.GridLemmas.{nothing_changed}
use Rattle.ic_parts.proofs.values.changed_style.Goals as goal

pub returns-in-Nothing-clause-number : goal.returns-in-Nothing-clause-number
returns-in-Nothing-clause-number c =
    ap (λ (r : Numbered). r.number)
    (sym (ap (λ (change : Restyle). restyled (style_change change) c.args.style c.args.styles.now) c.in-Nothing.is ∙ nothing_changed c.args.styles.now c.args.style))

pub returns-in-Nothing-clause-styles : goal.returns-in-Nothing-clause-styles
returns-in-Nothing-clause-styles c =
    ap (λ (r : Numbered). r.styles)
    (sym (ap (λ (change : Restyle). restyled (style_change change) c.args.style c.args.styles.now) c.in-Nothing.is ∙ nothing_changed c.args.styles.now c.args.style))
