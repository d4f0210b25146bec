use Rattle.std.proofs.Common.{ℕ, List, Some, false, chars, string_bytes, sym, ◌∙◌, ap, rules}
use Rattle.std.proofs.lemmas.Str.{chars-nil}
use Rattle.ic_laws.specs.TokenKinds.{closed}
use Rattle.ic_tree.proofs.QuoteLemmas.{ends_kept, goes_on_kept, never_closed, onto_all, onto_nothing}
use Rattle.ic_tree.proofs.lexer.quoted.quoted_at.Goals as goal

pub loop-piece-init : goal.loop-piece-init
loop-piece-init c = record {
  text = search rules;
  whole = ap (λ b. onto_all (chars b) (closed false (chars c.args.text.now))) c.new-inside.ensures.bytes ∙ ap (λ k. onto_all k (closed false (chars c.args.text.now))) chars-nil ∙ onto_nothing (closed false (chars c.args.text.now));
}

pub loop-piece-preserved : goal.loop-piece-preserved
loop-piece-preserved c = record {
  text = search rules;
  whole = goes_on_kept _ (chars c.in-Some.piece.now) _ _ (chars c.loop-piece.rest.now) (chars c.in-Some.after.now) _ c.in-Some.ensures.parts.0 c.in-Some.ensures.parts.1 c.in-Some-past_quote.ensures.parts c.in_ok-push_text.ensures.ok c.in_ok-push_char-in-Some-past_quote.ensures.ok ∙ c.loop-piece.invariant.whole;
}

pub returns-in-None : goal.returns-in-None
returns-in-None c =
    ap (λ t. let f : List ℕ × List ℕ = (t, chars c.in-Some.after.now) in Some f) c.from.ensures
    ∙ ends_kept (chars (string_bytes c.loop-piece.inside)) (chars c.in-Some.piece.now) (chars (string_bytes c.push_text.new.text)) (chars c.loop-piece.rest.now) (chars c.in-Some.after.now) c.in-Some.ensures.parts.0 c.in-Some.ensures.parts.1 c.in-None.ensures.parts c.in_ok-push_text.ensures.ok
    ∙ c.loop-piece.invariant.whole

pub returns : goal.returns
returns c = ap (onto_all (chars (string_bytes c.loop-piece.inside))) (sym (never_closed (chars c.loop-piece.rest.now) c.in_default.ensures.parts)) ∙ c.loop-piece.invariant.whole
