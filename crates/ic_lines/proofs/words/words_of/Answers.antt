use Rattle.std.proofs.Common.{◌≡◌, ◌∙◌, ap, sym, map, chars, IfOk, ◌==◌, lit<}
use Rattle.std.specs.List.{slice_split}
use Rattle.std.proofs.lemmas.Iterator.Consumers.{map_from_collect}
use Rattle.std.proofs.lemmas.Iterator.Splits.{YieldsList-from_str_split}
use Rattle.std.proofs.lemmas.Str.{encodes-chars, scalars-chars}
use Rattle.ic_lines.proofs.WordLemmas.{pieces}
use Rattle.ic_laws.proofs.General.{map-map}
use Rattle.ic_lines.proofs.words.words_of.Goals as goal

pub returns : goal.returns
returns c =
    let text = c.args.line.now in
    let split : IfOk c.collect.result (λ w. map (λ x. x.now) w.items ≡ slice_split (λ b. b == 9) text) =
    map_from_collect c.collect.result c.collect.ensures.ran
    (YieldsList-from_str_split {s = c.split.result} 9 text (lit< tt) c.split.ensures.text c.split.ensures.has_more c.split.ensures.pattern) in
    let cut : map (λ w. w.now) c.in_ok-collect.field-0.items ≡ slice_split (λ b. b == 9) text = rw c.in_ok-collect.was at split in
    map-map (λ w. w.now) chars c.in_ok-collect.field-0.items ∙ ap (map chars) cut
    ∙ ap (λ bs. map chars (slice_split (λ b. b == 9) bs)) (sym (encodes-chars text c.utf8.line))
    ∙ pieces (chars text) (scalars-chars text c.utf8.line)
