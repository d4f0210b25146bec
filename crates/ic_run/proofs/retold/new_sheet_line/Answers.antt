use Rattle.std.proofs.Common.{◌≡◌, ◌∷◌, ◌++◌, ℕ, List, [], codes, ap, append-nil, sym, ◌∙◌, string_bytes}
use Rattle.std.specs.Str.{chars}
use Rattle.ic_laws.specs.Lines.{escaped}
use Rattle.ic_lines.specs.Reading.{has_line_feed}
use Rattle.ic_run.proofs.RetoldLemmas.{line_no_feed}
use Rattle.ic_run.proofs.retold.new_sheet_line.Goals as goal

pub whole-requires : goal.whole-requires
unfolding chars
whole-requires c =
    let name = chars c.args.name.now in
    let is : chars (string_bytes c.push_escaped.new.word) ≡ codes "add_sheet\t" ++ escaped name =
    c.in_ok-push_escaped.ensures ∙ ap (λ (t : List ℕ). t ++ escaped name) (c.in_ok-push_text.ensures.ok ∙ ap (λ (b : List ℕ). chars b ++ codes "add_sheet\t") c.new-text.ensures.bytes) in
    ap has_line_feed (is ∙ ap (λ (t : List ℕ). codes "add_sheet\t" ++ t) (sym (append-nil (escaped name)))) ∙ line_no_feed (codes "add_sheet" ∷ name ∷ [])

pub returns : goal.returns
unfolding chars
returns c =
    let name = chars c.args.name.now in
    let is : chars (string_bytes c.push_escaped.new.word) ≡ codes "add_sheet\t" ++ escaped name =
    c.in_ok-push_escaped.ensures ∙ ap (λ (t : List ℕ). t ++ escaped name) (c.in_ok-push_text.ensures.ok ∙ ap (λ (b : List ℕ). chars b ++ codes "add_sheet\t") c.new-text.ensures.bytes) in
    c.whole.ensures ∙ is ∙ ap (λ (t : List ℕ). codes "add_sheet\t" ++ t) (sym (append-nil (escaped name)))
