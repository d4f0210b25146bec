use Rattle.std.proofs.Common.{Some, ◌∙◌, sym, ap}
use Rattle.ic_run.specs.Desk.{setting_of, texts}
use Rattle.ic_run.proofs.DeskLemmas.{other_name, run_words}
use Rattle.ic_pool.proofs.PlaceLemmas.{no_items as empty_list}
use Rattle.ic_run.proofs.start.start_named.Goals as goal

pub returns-then-is_empty : goal.returns-then-is_empty
returns-then-is_empty c = ap Some c.english_start.ensures ∙ ap (λ ws. setting_of (texts ws)) (sym (empty_list c.args.words.now (sym c.is_empty.ensures ∙ c.if-is_empty.true)))

pub returns-then-not-same_text : goal.returns-then-not-same_text
returns-then-not-same_text c = other_name c.args.words.now c.index-words-0.result c.as_str.result.now c.if-words-ne4.false c.index-words-0.is c.as_str.ensures.value (sym c.if-not-same_text.ensures)

pub returns : goal.returns
returns c =
    run_words c.args.words.now c.index-words-0.result c.index-words-1.result c.index-words-2.result c.index-words-3.result c.as_str.result.now c.as_str-2.result.now c.as_str-3.result.now c.as_str-4.result.now
    c.if-words-ne4.false c.index-words-0.is c.index-words-1.is c.index-words-2.is c.index-words-3.is c.as_str.ensures.value c.as_str-2.ensures.value c.as_str-3.ensures.value c.as_str-4.ensures.value (sym c.if-not-same_text.ensures)
