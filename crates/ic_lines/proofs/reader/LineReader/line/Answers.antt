use Rattle.std.proofs.Common.{List, ℕ, Some, sym, subst, ap, ◌∙◌, ◌==◌}
use Rattle.std.specs.List.{list_any}
use Rattle.ic_laws.specs.Lines.{line_text}
use Rattle.ic_lines.specs.Reading.{GivesHeld, first_line, passed}
use Rattle.ic_lines.proofs.HeldLemmas.{clean_first, gives_first}
use Rattle.ic_lines.proofs.LineLemmas.{no_line_feed-line_text}
use Rattle.ic_lines.proofs.reader.LineReader.line.Goals as goal

pub returns-clause-given : goal.returns-clause-given
returns-clause-given c =
    let r = c.args.self.now in
    subst (λ (l : List ℕ). GivesHeld (Some l) r (passed r)) (sym (c.text_of.ensures ∙ ap line_text c.line_bytes.ensures)) (gives_first r.held r.ended r.turns c.requires)

pub returns-clause-no_line_feed : goal.returns-clause-no_line_feed
returns-clause-no_line_feed c =
    ap (list_any (λ b. b == 10)) (c.text_of.ensures ∙ ap line_text c.line_bytes.ensures) ∙ no_line_feed-line_text (first_line c.args.self.now.held) (clean_first c.args.self.now.held)
