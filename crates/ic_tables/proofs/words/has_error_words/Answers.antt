use Rattle.std.proofs.Common.{◌≡◌, List, Bool, true, false, ◌&&◌, map, ap, refl, sym, ◌∙◌}
use Rattle.std.proofs.lemmas.List.Folds.{list_all-map}
use Rattle.std.specs.List.{list_all}
use Rattle.ic_laws.specs.Dialect.{has_error_shape}
use Rattle.ic_tables.specs.Words.{error_words, has_error_words, no_two_agree}
use Rattle.ic_tables.proofs.words.has_error_words.Goals as goal

-- all words pass where the ones that were read do
all_read : {A B : Type 0} (p : B → Bool) (f : A → B) (xs : List A) (ys : List B) (b : Bool) → map f xs ≡ ys → b ≡ list_all (λ x. p (f x)) xs → list_all p ys ≡ b
all_read p f xs ys b e h = ap (list_all p) (sym e) ∙ list_all-map p f xs ∙ sym h

both : (a b c : Bool) → a ≡ true → c ≡ b → c ≡ (a && b)
both a b c h e = rw h e

neither : (a b c : Bool) → a ≡ c → c ≡ false → c ≡ (a && b)
neither a b c h e = rw (h, e) refl

pub returns-in_ok-no_two_agree : goal.returns-in_ok-no_two_agree
unfolding has_error_words
returns-in_ok-no_two_agree c =
    both (list_all has_error_shape (error_words c.args.language.now)) (no_two_agree (error_words c.args.language.now)) c.in_ok-no_two_agree.field-0
    (all_read has_error_shape (λ w. w.now) _ _ _ c.error_words-words.ensures c.are_error_words.ensures ∙ c.if-are_error_words.true)
    (c.in_ok-no_two_agree.ensures ∙ ap no_two_agree c.error_words-words.ensures)

pub returns-else-are_error_words : goal.returns-else-are_error_words
unfolding has_error_words
returns-else-are_error_words c =
    neither (list_all has_error_shape (error_words c.args.language.now)) (no_two_agree (error_words c.args.language.now)) _
    (all_read has_error_shape (λ w. w.now) _ _ _ c.error_words-words.ensures c.are_error_words.ensures) c.if-are_error_words.false
