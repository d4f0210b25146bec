use Rattle.std.proofs.Common.{◌≡◌, ◌∙◌, ℕ, Bool, Some, None, ap, cond, false, get_or, inl, inr, refl, subst, sym, true}
use Rattle.std.specs.BTreeSet.{BTreeSet, Updates, contains}
use Rattle.std.specs.Ordering.{is_eq, nat_cmp}
use Rattle.std.specs.Prelude.{nat_eq}
use Rattle.std.proofs.lemmas.Bool.{eqb-true}
use Rattle.ic_pool.proofs.PlaceLemmas.{any_more}
use Rattle.ic_sheets.specs.Spots.{index_at}
use Rattle.ic_sheets.proofs.sheets.mentioning.put_indexes.Goals as goal
use Rattle.ic_sheets.proofs.sheets.mentioning.put_indexes.Goals.{in-Some+in_ok-insert, in_default}

either_way : (b : Bool) → cond b true true ≡ true
either_way true = refl
either_way false = refl

-- an index that was in a set still is when one is put in
still_in : (before after : BTreeSet ℕ) (k q : ℕ) → Updates nat_cmp before after k true → contains nat_cmp before q ≡ true → contains nat_cmp after q ≡ true
still_in before after k q u e = u.0 q ∙ ap (cond (is_eq (nat_cmp k q)) true) e ∙ either_way (is_eq (nat_cmp k q))

pub loop-id-preserved : goal.loop-id-preserved
loop-id-preserved c =
    let ids = c.args.ids.now in
    let i = c.loop-id.id-index in
    let item = get_or ids i 0 in
    let indexes = c.args.indexes.now in
    elim c.match-index_in.branch [
      | in-Some+in_ok-insert w ↦
          let after = w.insert.new.self in
          record {
            put = λ id index e at.
                elim (any_more (nat_eq id) ids i c.loop-id-test.true e) [
                  | inl before ↦ subst (λ s. contains nat_cmp s index ≡ true) (sym w.about-is) (still_in c.loop-id.about after w.in-Some.index index w.in_ok-insert.ensures.updates (c.loop-id.invariant.put id index before at))
                  | inr same ↦
                      let its : Some w.in-Some.index ≡ Some index = sym w.in-Some.is ∙ c.index_in.ensures ∙ ap (λ k. index_at k indexes.list.items) (sym (eqb-true id item same)) ∙ at in
                      let is : w.in-Some.index ≡ index = cc in
                      subst (λ s. contains nat_cmp s index ≡ true) (sym w.about-is) (subst (λ k. contains nat_cmp after k ≡ true) is w.in_ok-insert.ensures.updates.1)
                ];
            kept = λ index e. subst (λ s. contains nat_cmp s index ≡ true) (sym w.about-is) (still_in c.loop-id.about after w.in-Some.index index w.in_ok-insert.ensures.updates (c.loop-id.invariant.kept index e));
          }
      | in_default w ↦
          record {
            put = λ id index e at.
                elim (any_more (nat_eq id) ids i c.loop-id-test.true e) [
                  | inl before ↦ subst (λ s. contains nat_cmp s index ≡ true) (sym w.about-is) (c.loop-id.invariant.put id index before at)
                  | inr same ↦ let none : None ≡ Some index = sym w.in_default.is ∙ c.index_in.ensures ∙ ap (λ k. index_at k indexes.list.items) (sym (eqb-true id item same)) ∙ at in absurd (cc)
                ];
            kept = λ index e. subst (λ s. contains nat_cmp s index ≡ true) (sym w.about-is) (c.loop-id.invariant.kept index e);
          }
    ]
