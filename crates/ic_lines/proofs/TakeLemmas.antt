-- What a call of a reader takes, read by read.
use Rattle.std.proofs.Common.{◌≡◌, ℕ, List, [], ◌++◌, Bool, true, false, Option, refl, sym, subst, ◌∙◌, ap, inl, inr, arith, append_assoc}
use Rattle.std.proofs.lemmas.Bool.{cases_Bool}
use Rattle.std.proofs.lemmas.List.{append-nil}
use Rattle.ic_lines.specs.Reading.{Reading, SeesEnd, TakesLine, TakesRead, has_line_feed}
use Rattle.ic_lines.proofs.LineLemmas.{no_line_feed-Contains}
use Rattle.ic_lines.proofs.ToldLemmas.{IfTold-join, IfTold-same}

-- before the first read
pub TakesLine-start : (r : Reading) (a : Option (List ℕ)) → TakesLine r r a a
TakesLine-start r a = record {
  front = [];
  last = [];
  taken = record { held = sym (append-nil r.held); told = IfTold-same a (λ x y. x ≡ y) (λ x. refl) };
  no_line = λ none. ap has_line_feed (append-nil r.held) ∙ none;
  one_read = omega arith;
  unasked = λ _. refl;
}

-- one read more, where no whole line was held and the end wasn't seen
pub TakesLine-step : (old mid new : Reading) (a b c : Option (List ℕ)) → TakesLine old mid a b → has_line_feed mid.held ≡ false → mid.ended ≡ false → TakesRead mid new b c → TakesLine old new a c
TakesLine-step old mid new a b c t none still r =
    let so_far : List ℕ = t.front ++ t.last in
    record {
      front = so_far;
      last = r.got;
      taken = record {
        held = r.taken.held ∙ ap (λ v. v ++ r.got) t.taken.held ∙ append_assoc old.held so_far r.got;
        told = IfTold-join a b c (λ x y. x ≡ so_far ++ y) (λ y z. y ≡ r.got ++ z) (λ x z. x ≡ (so_far ++ r.got) ++ z)
            (λ x y z p q. p ∙ ap (λ v. so_far ++ v) q ∙ sym (append_assoc so_far r.got z)) t.taken.told r.taken.told;
      };
      no_line = λ _. ap has_line_feed (sym t.taken.held) ∙ none;
      one_read = r.few;
      unasked = λ asked. elim asked [
        | inl has ↦ absurd (no_line_feed-Contains old.held has (subst (λ (r : Reading). has_line_feed r.held ≡ false) (t.unasked (inl has)) none))
        | inr ended ↦ let e = sym (ap (λ (r : Reading). r.ended) (t.unasked (inr ended)) ∙ ended) ∙ still in absurd (cc)
      ];
    }

-- What is seen of the end ----

pub SeesEnd-start : (seen shown : Bool) → SeesEnd seen seen shown shown
SeesEnd-start seen shown = record { stays = λ h. h; seen = λ h k. let e = sym h ∙ k in absurd (cc); unseen = λ _. refl }

-- one call after another
pub SeesEnd-join : (a b c x y z : Bool) → SeesEnd a b x y → SeesEnd b c y z → SeesEnd a c x z
SeesEnd-join a false c x y z p q = record {
  stays = λ h. q.stays (p.stays h);
  seen = λ _ k. q.seen refl k;
  unseen = λ e. elim (cases_Bool c) [
    | inl is ↦ let now = p.stays (sym e ∙ is) in absurd (cc)
    | inr is ↦ q.unseen is ∙ p.unseen (sym is ∙ e)
  ];
}
SeesEnd-join a true c x y z p q = record {
  stays = λ h. q.stays (p.stays h);
  seen = λ h k. q.unseen k ∙ p.seen h refl;
  unseen = λ e. q.unseen (q.stays refl) ∙ p.unseen (sym (q.stays refl) ∙ e);
}
