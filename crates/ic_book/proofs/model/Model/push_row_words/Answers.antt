use Rattle.std.proofs.Common.{◌≡◌, ◌≤◌, ◌++◌, ◌+◌, ◌∙◌, [], ◌∷◌, ℕ, List, ap, chars, string_bytes, subst, arith}
use Rattle.std.specs.List.{join_by, range_with_len}
use Rattle.std.specs.Str.{chars as characters}
use Rattle.ic_laws.specs.Character.{line_feed}
use Rattle.ic_laws.specs.Lines.{escaped}
use Rattle.ic_sheets.specs.Sheet.{sheet_of}
use Rattle.ic_parts.specs.Markup.{row_shown}
use Rattle.ic_parts.proofs.MarkupLemmas.{all_joined, none_followed, one_more}
use Rattle.ic_lines.proofs.EscapeLemmas.{escaped-joined}
use Rattle.ic_book.proofs.model.Model.push_row_words.Goals as goal

pub rows-init : goal.rows-init
rows-init c =
    let first : 1 ≤ 1 = omega arith in
    (first, c.requires.rows.0, none_followed (λ row. escaped (row_shown c.args.self.now.book (sheet_of c.args.worksheet.now) c.args.columns row)) (escaped (line_feed ∷ [])) (chars (string_bytes c.push_row_word.new.text)))

pub rows-preserved : goal.rows-preserved
unfolding characters
rows-preserved c =
    let here = c.rows.invariant in
    let test = c.rows-test.true in
    let from : 1 ≤ c.rows.row + 1 = omega (arith, here.0) in
    let upto : c.rows.row + 1 ≤ c.args.rows = omega (arith, test) in (
      from,
      upto,
      one_more (λ row. escaped (row_shown c.args.self.now.book (sheet_of c.args.worksheet.now) c.args.columns row)) (escaped (line_feed ∷ [])) c.rows.row here.0
          (chars (string_bytes c.push_row_word.new.text)) (chars (string_bytes c.rows.text)) (chars (string_bytes c.push_text.new.text)) (chars (string_bytes c.push_row_word-in-rows.new.text)) here.2 c.in_ok-push_text.ensures.ok c.in_ok-push_row_word-2.ensures,
    )

pub returns : goal.returns
returns c =
    let here = c.rows.invariant in
    let test = c.rows-test.false in
    let last : c.rows.row ≡ c.args.rows = omega (arith, here.1, test) in
    let f : ℕ → List ℕ = row_shown c.args.self.now.book (sheet_of c.args.worksheet.now) c.args.columns in
    let before = chars (string_bytes c.args.text.now) in
    subst (λ k. chars (string_bytes c.rows.text) ≡ before ++ escaped (join_by f (line_feed ∷ []) (range_with_len 1 k))) last
    (all_joined (λ row. escaped (f row)) (escaped (line_feed ∷ [])) c.rows.row here.0 before (chars (string_bytes c.push_row_word.new.text)) (chars (string_bytes c.rows.text)) c.in_ok-push_row_word.ensures here.2
    ∙ ap (λ t. before ++ t) (escaped-joined f (line_feed ∷ []) (range_with_len 1 c.rows.row)))
