use Rattle.std.proofs.Common.{rules, chars, string_bytes, ap, ◌++◌, ◌∙◌, Some}
use Rattle.ic_machine.specs.Fields.{string_only}
use Rattle.ic_machine.specs.Reply.{NumberField, PositionField, field_word}
use Rattle.ic_parts.specs.Whole.{whole_of}
use Rattle.ic_sums.specs.Told.{words}
use Rattle.ic_sums.proofs.ToldLemmas.{line_made, line_told}
use Rattle.ic_sums.proofs.desk.push_cell.Goals as goal

pub returns : goal.returns
returns c =
    let cell = c.args.cell.now in
    let formula = string_only c.in-Some.formula in
    let value = string_only c.in_ok-value.value in
    line_made (chars (string_bytes c.args.text.now)) (chars (string_bytes c.push_text.new.text)) (chars (string_bytes c.write.new.reply)) (chars (string_bytes c.write-2.new.reply))
    (chars (string_bytes c.write-3.new.reply)) (chars (string_bytes c.write-4.new.reply)) (chars (string_bytes c.write-5.new.reply)) (chars (string_bytes c.push_char.new.text))
    (field_word (NumberField (Some cell.index))) (field_word (PositionField cell.row)) (field_word (PositionField cell.column)) (words formula) (words value)
    c.in_ok-push_text.ensures.ok c.in_ok-write.ensures.ok c.in_ok-write-2.ensures.ok c.in_ok-write-3.ensures.ok c.in_ok-write-4.ensures.ok c.in_ok-write-5.ensures.ok c.in_ok-push_char.ensures.ok
    ∙ ap (λ line. chars (string_bytes c.args.text.now) ++ line) (line_told (whole_of c.args.model.now.book) cell formula value (search rules) (search rules))
