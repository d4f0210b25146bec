use Rattle.std.proofs.Common.{◌≤◌, ◌<◌, ◌∷◌, ◌++◌, length, chars, sym, ap, ◌∙◌, arith}
use Rattle.std.specs.List.{list_all}
use Rattle.ic_tree.specs.Lexing.{is_inside}
use Rattle.ic_laws.proofs.RunLemmas.{ends_with_rest, end_fits, run_before_rest}
use Rattle.ic_laws.proofs.tokens.Characters.{all_of_run}
use Rattle.ic_tree.proofs.QuoteLemmas.{all_inside, quote_first}
use Rattle.ic_tree.proofs.lexer.quoted.piece_at.Goals as goal

pub front_of-requires : goal.front_of-requires
front_of-requires c = ends_with_rest is_inside (chars c.args.text.now) (chars c.past_inside-quote.result.now) c.past_inside-quote.ensures

pub returns-in-Some-clause-parts : goal.returns-in-Some-clause-parts
returns-in-Some-clause-parts c =
    let run = run_before_rest is_inside (chars c.args.text.now) (chars c.front_of.result.now) (chars c.past_inside-quote.result.now) c.past_inside-quote.ensures c.front_of.ensures in
    let quote = quote_first (chars c.args.text.now) (chars c.in-Some.after.now) c.in-Some.field-0-0 (sym c.in-Some.ensures.parts ∙ c.past_inside-quote.ensures) in (
      c.front_of.ensures ∙ ap (λ r. chars c.front_of.result.now ++ r) c.in-Some.ensures.parts ∙ ap (λ x. chars c.front_of.result.now ++ x ∷ chars c.in-Some.after.now) quote,
      ap (list_all is_inside) run ∙ all_of_run is_inside (chars c.args.text.now),
    )

pub returns-in-Some-clause-shorter : goal.returns-in-Some-clause-shorter
returns-in-Some-clause-shorter c =
    let fits : length c.past_inside-quote.result.now ≤ length c.args.text.now =
    end_fits c.args.text.now c.past_inside-quote.result.now (chars c.front_of.result.now) c.utf8.text c.past_inside-quote.utf8 c.front_of.ensures in
    let short : length c.in-Some.after.now < length c.past_inside-quote.result.now = c.in-Some.ensures.shorter in
    omega arith

pub returns-in-None-clause-parts : goal.returns-in-None-clause-parts
returns-in-None-clause-parts c = all_inside (chars c.args.text.now) (sym c.past_inside-quote.ensures ∙ c.in-None.ensures.parts)
