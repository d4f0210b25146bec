use Rattle.std.proofs.Common.{◌≡◌, Bool, IfOk, OnOk, subst, sym}
use Rattle.ic_cells.specs.Style.{with_quote_prefix}
use Rattle.ic_machine.specs.Styling.{restyled}
use Rattle.ic_parts.proofs.values.with_quote.Goals as goal

pub returns-then-quoted-clause-number : goal.returns-then-quoted-clause-number
returns-then-quoted-clause-number c =
    subst (λ (b : Bool). IfOk c.quoted_style.result (λ n. n ≡ (restyled (with_quote_prefix b) c.args.style c.args.styles.now).number)) (sym c.if-quoted.true) c.quoted_style.ensures.number

pub returns-then-quoted-clause-styles : goal.returns-then-quoted-clause-styles
returns-then-quoted-clause-styles c =
    subst (λ (b : Bool). OnOk c.quoted_style.result (c.quoted_style.new.styles ≡ (restyled (with_quote_prefix b) c.args.style c.args.styles.now).styles)) (sym c.if-quoted.true) c.quoted_style.ensures.styles

pub returns-clause-number : goal.returns-clause-number
returns-clause-number c =
    subst (λ (b : Bool). IfOk c.unquoted_style.result (λ n. n ≡ (restyled (with_quote_prefix b) c.args.style c.args.styles.now).number)) (sym c.if-quoted.false) c.unquoted_style.ensures.number

pub returns-clause-styles : goal.returns-clause-styles
returns-clause-styles c =
    subst (λ (b : Bool). OnOk c.unquoted_style.result (c.unquoted_style.new.styles ≡ (restyled (with_quote_prefix b) c.args.style c.args.styles.now).styles)) (sym c.if-quoted.false) c.unquoted_style.ensures.styles
