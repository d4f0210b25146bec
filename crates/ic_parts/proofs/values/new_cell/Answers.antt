use Rattle.std.proofs.Common.{◌∙◌, ℕ, List, ap₂, take}
use Rattle.ic_cells.specs.declared.style.Style.{Style}
use Rattle.ic_parts.specs.Values.{style_change}
use Rattle.ic_parts.specs.declared.lists.Lists.{Lists}
use Rattle.ic_parts.proofs.GridLemmas.{all_taken_back}
use Rattle.ic_parts.proofs.values.new_cell.Goals as goal

pub returns-in-Err-clause-err : goal.returns-in-Err-clause-err
returns-in-Err-clause-err c =
    let styles =
    c.truncate.ensures ∙ ap₂ (λ (n : ℕ) (xs : List Style). take n xs) c.len-count.ensures.exact c.in_ok-style.ensures.styles
    ∙ all_taken_back (style_change c.args.change.now) c.args.lists.now.styles c.args.shown in
    ap₂ (λ (st : List Style) (ss : List (List ℕ)). let lists : Lists = record { styles = st; strings = ss } in lists) styles c.in-Err.ensures.err
