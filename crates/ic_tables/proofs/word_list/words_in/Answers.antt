use Rattle.std.proofs.Common.{◌≡◌, ◌∷◌, [], ◌++◌, List, ℕ, append_assoc, append-nil, sym, ap, ◌∙◌}
use Rattle.ic_laws.specs.Scan.{past_run, run_of}
use Rattle.ic_tables.specs.WordList.{is_inside}
use Rattle.ic_tables.proofs.ListLemmas.{later_are, later_words, no_later_words}
use Rattle.ic_tables.proofs.word_list.words_in.Goals as goal

-- one more word
one_more : (ws ws' : List (List ℕ)) (text after : List ℕ) (c : ℕ) (word rest : List ℕ) (all : List (List ℕ))
    → ws ++ later_words text ≡ all → text ≡ c ∷ after → word ≡ run_of is_inside after → rest ≡ past_run is_inside after → ws' ≡ ws ++ word ∷ []
    → ws' ++ later_words rest ≡ all
one_more ws ws' text after c word rest all h t w r e =
    rw (e, append_assoc, w, r) (sym (ap (λ l. ws ++ l) (later_are text c after t)) ∙ h)

pub loop-after-preserved : goal.loop-after-preserved
loop-after-preserved c = (
  c.past_word-rest-in-Some.utf8,
  one_more _ _ _ _ _ _ _ _ c.loop-after.invariant.1 c.in-Some.ensures.parts
      (c.in_ok-from_str-2.ensures ∙ c.first_word-in-Some.ensures) c.past_word-rest-in-Some.ensures.rest c.in_ok-push-2.ensures.items,
)

none_left : (ws : List (List ℕ)) (text : List ℕ) (all : List (List ℕ)) → ws ++ later_words text ≡ all → text ≡ [] → ws ≡ all
none_left ws text all h e = sym (append-nil ws) ∙ sym (ap (λ l. ws ++ l) (ap later_words e ∙ no_later_words)) ∙ h

pub returns : goal.returns
returns c = none_left _ _ _ c.loop-after.invariant.1 c.in_default.ensures.parts
