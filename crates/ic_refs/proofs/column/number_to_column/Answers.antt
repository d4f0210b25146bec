use Rattle.std.proofs.Common.{◌≡◌, chars, string_bytes, Some, true, sym, ◌∙◌, ap, w32}
use Rattle.std.proofs.lemmas.Int.{to_z-of_z}
use Rattle.std.proofs.lemmas.Str.{chars-nil}
use Rattle.ic_laws.specs.Position.{is_column}
use Rattle.ic_refs.specs.Column.{column_name}
use Rattle.ic_refs.proofs.ColumnLemmas.{column_named, column_letters_named}
use Rattle.ic_refs.proofs.column.number_to_column.Goals as goal

inside : (c : goal.In_ok-push_column) → is_column c.args.column ≡ true
inside c = ap is_column (sym (to_z-of_z w32 c.args.column c.ranges.column)) ∙ sym c.if-not-is_valid_column_number.ensures

named : (c : goal.In_ok-push_column) → Some (chars (string_bytes c.push_column.new.text)) ≡ column_name c.args.column
named c =
    column_named c.args.column _ _ _ (inside c) (to_z-of_z w32 c.args.column c.ranges.column)
    (ap chars c.in_ok-name.ensures.bytes ∙ chars-nil) c.in_ok-push_column.ensures

pub returns-clause-exact : goal.returns-clause-exact
returns-clause-exact c = named c

pub returns-clause-letters : goal.returns-clause-letters
returns-clause-letters c = column_letters_named c.args.column _ (named c) (inside c)
