use Rattle.std.proofs.Common.{◌≡◌, ◌≤◌, ◌++◌, ◌+◌, ℕ, List, chars, codes, pos, string_bytes, subst, ap, ap₂, ◌∙◌, arith}
use Rattle.std.specs.List.{join_by, range_with_len}
use Rattle.ic_laws.specs.Position.{column_count}
use Rattle.ic_sheets.specs.Sheet.{sheet_of}
use Rattle.ic_parts.specs.Markup.{place_shown}
use Rattle.ic_parts.proofs.MarkupLemmas.{all_joined, column_small, none_followed, one_more, row_small}
use Rattle.ic_book.proofs.model.Model.push_row_places.Goals as goal

pub columns-init : goal.columns-init
columns-init c =
    let first : 1 ≤ 1 = omega arith in
    (first, c.requires.columns.0, none_followed (λ column. place_shown c.args.self.now.book (sheet_of c.args.worksheet.now) (pos c.args.row) (pos column)) (codes "|") (chars (string_bytes c.push_place.new.text)))

pub columns-preserved : goal.columns-preserved
columns-preserved c =
    let here = c.columns.invariant in
    let test = c.columns-test.true in
    let from : 1 ≤ c.columns.column + 1 = omega (arith, here.0) in
    let upto : c.columns.column + 1 ≤ c.args.columns = omega (arith, test) in
    let below : c.columns.column + 1 ≤ column_count = omega (arith, upto, c.requires.columns.1) in (
      from,
      upto,
      one_more (λ column. place_shown c.args.self.now.book (sheet_of c.args.worksheet.now) (pos c.args.row) (pos column)) (codes "|") c.columns.column here.0
          (chars (string_bytes c.push_place.new.text)) (chars (string_bytes c.columns.text)) (chars (string_bytes c.push_char.new.text)) (chars (string_bytes c.push_place-in-columns.new.text)) here.2 c.in_ok-push_char.ensures.ok
          (c.in_ok-push_place-2.ensures ∙ ap₂ (λ r k. chars (string_bytes c.push_char.new.text) ++ place_shown c.args.self.now.book (sheet_of c.args.worksheet.now) r k) (row_small c.args.row c.requires.row) (column_small (c.columns.column + 1) below)),
    )

pub returns : goal.returns
returns c =
    let here = c.columns.invariant in
    let test = c.columns-test.false in
    let last : c.columns.column ≡ c.args.columns = omega (arith, here.1, test) in
    let f : ℕ → List ℕ = λ column. place_shown c.args.self.now.book (sheet_of c.args.worksheet.now) (pos c.args.row) (pos column) in
    subst (λ k. chars (string_bytes c.columns.text) ≡ chars (string_bytes c.args.text.now) ++ join_by f (codes "|") (range_with_len 1 k)) last
    (all_joined f (codes "|") c.columns.column here.0 (chars (string_bytes c.args.text.now)) (chars (string_bytes c.push_place.new.text)) (chars (string_bytes c.columns.text)) (c.in_ok-push_place.ensures ∙ ap (λ r. chars (string_bytes c.args.text.now) ++ place_shown c.args.self.now.book (sheet_of c.args.worksheet.now) r (pos 1)) (row_small c.args.row c.requires.row)) here.2)
