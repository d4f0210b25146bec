use Rattle.std.proofs.Common.{◌∙◌, chars, sym, ap}
use Rattle.std.proofs.lemmas.Result.{IfOk-weaker, on_ok_weaker}
use Rattle.ic_cells.specs.declared.style.Style.{Style}
use Rattle.ic_machine.specs.Styling.{Numbered, numbered}
use Rattle.ic_parts.proofs.GridLemmas.{code_kept, code_new}
use Rattle.ic_parts.proofs.values.with_code.Goals as goal

pub returns-then-keeps_code-clause-number : goal.returns-then-keeps_code-clause-number
returns-then-keeps_code-clause-number c =
    let kept = code_kept (chars c.args.code.now) c.args.styles.now c.args.style (sym c.keeps_code.ensures ∙ c.if-keeps_code.true) in
    IfOk-weaker c.with_quote.result _ _ (λ n e. e ∙ ap (λ (r : Numbered). r.number) (sym kept)) c.with_quote.ensures.number

pub returns-then-keeps_code-clause-styles : goal.returns-then-keeps_code-clause-styles
returns-then-keeps_code-clause-styles c =
    let kept = code_kept (chars c.args.code.now) c.args.styles.now c.args.style (sym c.keeps_code.ensures ∙ c.if-keeps_code.true) in
    on_ok_weaker c.with_quote.result (λ e. e ∙ ap (λ (r : Numbered). r.styles) (sym kept)) c.with_quote.ensures.styles

pub returns-clause-number : goal.returns-clause-number
returns-clause-number c =
    let new = code_new (chars c.args.code.now) c.args.styles.now c.args.style (sym c.keeps_code.ensures ∙ c.if-keeps_code.false) in
    IfOk-weaker c.get_style_index_or_create.result _ _ (λ n e. e ∙ ap (λ (s : Style). (numbered s c.args.styles.now).number) c.in_ok-coded.ensures ∙ ap (λ (r : Numbered). r.number) (sym new)) c.get_style_index_or_create.ensures.number

pub returns-clause-styles : goal.returns-clause-styles
returns-clause-styles c =
    let new = code_new (chars c.args.code.now) c.args.styles.now c.args.style (sym c.keeps_code.ensures ∙ c.if-keeps_code.false) in
    on_ok_weaker c.get_style_index_or_create.result (λ e. e ∙ ap (λ (s : Style). (numbered s c.args.styles.now).styles) c.in_ok-coded.ensures ∙ ap (λ (r : Numbered). r.styles) (sym new)) c.get_style_index_or_create.ensures.styles
