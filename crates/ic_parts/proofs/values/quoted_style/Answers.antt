use Rattle.std.proofs.Common.{true, sym, ap, ◌∙◌}
use Rattle.std.proofs.lemmas.Result.{IfOk-weaker, on_ok_weaker}
use Rattle.ic_machine.specs.Styling.{Numbered}
use Rattle.ic_parts.proofs.GridLemmas.{quote_kept, quote_new}
use Rattle.ic_parts.proofs.values.quoted_style.Goals as goal

pub returns-then-style_is_quote_prefix-clause-number : goal.returns-then-style_is_quote_prefix-clause-number
returns-then-style_is_quote_prefix-clause-number c = ap (λ (r : Numbered). r.number) (sym (quote_kept true c.args.styles.now c.args.style (sym c.style_is_quote_prefix.ensures ∙ c.if-style_is_quote_prefix.true)))

pub returns-then-style_is_quote_prefix-clause-styles : goal.returns-then-style_is_quote_prefix-clause-styles
returns-then-style_is_quote_prefix-clause-styles c = ap (λ (r : Numbered). r.styles) (sym (quote_kept true c.args.styles.now c.args.style (sym c.style_is_quote_prefix.ensures ∙ c.if-style_is_quote_prefix.true)))

pub returns-clause-number : goal.returns-clause-number
returns-clause-number c =
    let new = quote_new true c.args.styles.now c.args.style (sym c.style_is_quote_prefix.ensures ∙ c.if-style_is_quote_prefix.false) in
    IfOk-weaker c.get_style_with_quote_prefix.result _ _ (λ n e. e ∙ ap (λ (r : Numbered). r.number) (sym new)) c.get_style_with_quote_prefix.ensures.number

pub returns-clause-styles : goal.returns-clause-styles
returns-clause-styles c =
    let new = quote_new true c.args.styles.now c.args.style (sym c.style_is_quote_prefix.ensures ∙ c.if-style_is_quote_prefix.false) in
    on_ok_weaker c.get_style_with_quote_prefix.result (λ e. e ∙ ap (λ (r : Numbered). r.styles) (sym new)) c.get_style_with_quote_prefix.ensures.styles
