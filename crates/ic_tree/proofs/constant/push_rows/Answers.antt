use Rattle.std.proofs.Common.{◌++◌, chars, string_bytes, ap, ◌∙◌}
use Rattle.ic_tree.specs.Printed.{row_separator, row_text, separator_before}
use Rattle.ic_tree.proofs.PrintLemmas.{step_of}
use Rattle.ic_tree.proofs.constant.push_rows.Goals as goal

pub loop-n-preserved : goal.loop-n-preserved
loop-n-preserved g c =
    let d = g.D.Dialect.meaning c.args.d.now in
    step_of (row_separator d) c.loop-n.n (row_text d) c.args.rows.now c.index-rows-n.result _ _ _ _ c.loop-n-test.true c.index-rows-n.is
    (c.in_ok-push_separator.ensures ∙ ap (λ s. chars (string_bytes c.loop-n.out) ++ separator_before s c.loop-n.n) c.row_separator.ensures)
    (c.in_ok-push_row.ensures ∙ ap (λ r. chars (string_bytes c.push_separator.new.out) ++ row_text d r) c.as_slice.ensures)
    c.loop-n.invariant
