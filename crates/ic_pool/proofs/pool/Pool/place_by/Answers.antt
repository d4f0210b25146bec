use Rattle.std.proofs.Common.{◌≡◌, ◌<◌, ◌≤◌, ◌+◌, ◌∙◌, ◌++◌, ◌∷◌, [], List, None, Option, Some, ap, ap₂, arith, length, rules, subst, sym, true, ℕ}
use Rattle.std.specs.BTreeMap.{get}
use Rattle.std.specs.Ordering.{nat_cmp}
use Rattle.ic_laws.specs.declared.tree.Formula.{Formula}
use Rattle.ic_pool.specs.Code.{code}
use Rattle.ic_pool.specs.Hash.{hash_of}
use Rattle.ic_pool.specs.LookUp.{IsMetOrPut, IsPut, checked, first_of, found}
use Rattle.ic_pool.specs.Pool.{IsPlaced, PoolState, dangling_count, first_place}
use Rattle.ic_pool.proofs.IndexLemmas.{IsLookUp-push, dangling_count-push, dangling_few}
use Rattle.ic_pool.proofs.MentionedLemmas.{noted_pushed}
use Rattle.ic_pool.proofs.PlacedLemmas.{IsFirstPlace-push, IsPlaced-kept, IsPlaced-pushed, first_at_end, none_kept}
use Rattle.ic_pool.proofs.pool.Pool.place_by.Goals as goal

pub returns-in-Some-clause-ok : goal.returns-in-Some-clause-ok
returns-in-Some-clause-ok c =
    let xs : List Formula = c.self.inside.formulas.items in
    let same : xs ≡ c.args.self.now.formulas = ap (λ (s : PoolState). s.formulas) c.self.view_is in
    let whole : c.self.inside.is_whole ≡ true = ap (λ (s : PoolState). s.is_whole) c.self.view_is ∙ c.requires.whole in
    let met : Option ℕ = checked xs c.args.key (get nat_cmp c.self.inside.index.by_hash (hash_of c.args.key)) in
    let got : found c.self.inside.index xs c.args.key ≡ Some c.in-Some.at = ap (λ o. first_of o met) (sym c.kept.ensures ∙ c.in-Some.is) in
    let placed = IsPlaced-kept (found c.self.inside.index xs) c.args.self.now.formulas xs c.args.formula c.args.key c.in-Some.at (c.self.invariant.look_up.finds whole) c.requires.its got same in
    subst (λ ys. IsPlaced c.args.formula c.in-Some.at c.args.self.now.formulas ys) same placed.0

pub returns-in-Some-clause-within : goal.returns-in-Some-clause-within
returns-in-Some-clause-within c =
    let xs : List Formula = c.self.inside.formulas.items in
    let same : xs ≡ c.args.self.now.formulas = ap (λ (s : PoolState). s.formulas) c.self.view_is in
    let whole : c.self.inside.is_whole ≡ true = ap (λ (s : PoolState). s.is_whole) c.self.view_is ∙ c.requires.whole in
    let met : Option ℕ = checked xs c.args.key (get nat_cmp c.self.inside.index.by_hash (hash_of c.args.key)) in
    let got : found c.self.inside.index xs c.args.key ≡ Some c.in-Some.at = ap (λ o. first_of o met) (sym c.kept.ensures ∙ c.in-Some.is) in
    let placed = IsPlaced-kept (found c.self.inside.index xs) c.args.self.now.formulas xs c.args.formula c.args.key c.in-Some.at (c.self.invariant.look_up.finds whole) c.requires.its got same in
    subst (λ ys. c.in-Some.at < length ys) same placed.1

pub returns-in-Some-2-clause-ok : goal.returns-in-Some-2-clause-ok
returns-in-Some-2-clause-ok c =
    let xs : List Formula = c.self.inside.formulas.items in
    let same : xs ≡ c.args.self.now.formulas = ap (λ (s : PoolState). s.formulas) c.self.view_is in
    let whole : c.self.inside.is_whole ≡ true = ap (λ (s : PoolState). s.is_whole) c.self.view_is ∙ c.requires.whole in
    let stands : Option ℕ = get nat_cmp c.self.inside.index.by_hash (hash_of c.args.key) in
    let got : found c.self.inside.index xs c.args.key ≡ Some c.in-Some-2.other =
    ap (λ o. first_of o (checked xs c.args.key stands)) (sym c.kept.ensures ∙ c.in_default.is) ∙ ap (λ ys. checked ys c.args.key stands) (sym (c.deref.ensures.value ∙ c.reserve.ensures.items)) ∙ sym c.in_ok-other.ensures.met ∙ c.in-Some-2.is in
    let placed = IsPlaced-kept (found c.self.inside.index xs) c.args.self.now.formulas xs c.args.formula c.args.key c.in-Some-2.other (c.self.invariant.look_up.finds whole) c.requires.its got same in
    subst (λ ys. IsPlaced c.args.formula c.in-Some-2.other c.args.self.now.formulas ys) (sym c.reserve.ensures.items) placed.0

pub returns-in-Some-2-clause-within : goal.returns-in-Some-2-clause-within
returns-in-Some-2-clause-within c =
    let xs : List Formula = c.self.inside.formulas.items in
    let same : xs ≡ c.args.self.now.formulas = ap (λ (s : PoolState). s.formulas) c.self.view_is in
    let whole : c.self.inside.is_whole ≡ true = ap (λ (s : PoolState). s.is_whole) c.self.view_is ∙ c.requires.whole in
    let stands : Option ℕ = get nat_cmp c.self.inside.index.by_hash (hash_of c.args.key) in
    let got : found c.self.inside.index xs c.args.key ≡ Some c.in-Some-2.other =
    ap (λ o. first_of o (checked xs c.args.key stands)) (sym c.kept.ensures ∙ c.in_default.is) ∙ ap (λ ys. checked ys c.args.key stands) (sym (c.deref.ensures.value ∙ c.reserve.ensures.items)) ∙ sym c.in_ok-other.ensures.met ∙ c.in-Some-2.is in
    let placed = IsPlaced-kept (found c.self.inside.index xs) c.args.self.now.formulas xs c.args.formula c.args.key c.in-Some-2.other (c.self.invariant.look_up.finds whole) c.requires.its got same in
    subst (λ (ys : List Formula). c.in-Some-2.other < length ys) (sym c.reserve.ensures.items) placed.1

pub overflow_add-self : goal.overflow_add-self
overflow_add-self c =
    let few : c.self.inside.dangling + c.dangling_weight-weight.result ≤ length c.self.inside.formulas.items + 1 =
    omega (arith, c.self.invariant.dangles, dangling_few c.self.inside.formulas.items, c.dangling_weight-weight.ensures.small) in
    search rules

pub invariant_of-self-2 : goal.invariant_of-self-2
invariant_of-self-2 c =
    let xs : List Formula = c.self.inside.formulas.items in
    let whole : c.self.inside.is_whole ≡ true = ap (λ (s : PoolState). s.is_whole) c.self.view_is ∙ c.requires.whole in
    let stands : Option ℕ = get nat_cmp c.self.inside.index.by_hash (hash_of c.args.key) in
    let none : found c.self.inside.index xs c.args.key ≡ None =
    ap (λ o. first_of o (checked xs c.args.key stands)) (sym c.kept.ensures ∙ c.in_default.is) ∙ ap (λ ys. checked ys c.args.key stands) (sym (c.deref.ensures.value ∙ c.reserve.ensures.items)) ∙ sym c.in_ok-other.ensures.met ∙ c.in_default-2.is in
    let fresh : first_place c.args.key xs ≡ None = none_kept (found c.self.inside.index xs) xs c.args.key (c.self.invariant.look_up.finds whole) none in
    let end : c.len-at.result ≡ length xs = search rules in
    let is_put : IsPut c.args.key c.len-at.result c.self.inside.index c.meet_or_put.new.self =
    subst (λ o. IsMetOrPut c.args.key c.len-at.result o c.self.inside.index c.meet_or_put.new.self) c.in_default-2.is c.in_ok-other.ensures.put in
    let put : c.push_reserved.new.self.items ≡ xs ++ c.args.formula ∷ [] = c.push_reserved.ensures.items ∙ ap (λ ys. ys ++ c.args.formula ∷ []) c.reserve.ensures.items in
    record {
      look_up = IsLookUp-push c.self.inside.index c.meet_or_put.new.self c.self.inside.is_whole c.self.inside.knows_rest c.self.inside.late xs _ c.args.formula c.args.key c.len-at.result c.self.invariant.look_up whole fresh c.requires.its end is_put put;
      mentioned = noted_pushed c.self.inside.mentions c.note.new.self xs _ c.args.formula c.len-at.result c.self.inside.knows_mentions c.is_ok.result c.note.result c.self.invariant.mentioned c.note.ensures.kept c.is_ok.ensures.value c.note.ensures.noted end put;
      dangles = ap₂ (λ a b. a + b) c.self.invariant.dangles c.dangling_weight-weight.ensures.value ∙ sym (ap dangling_count put ∙ dangling_count-push xs c.args.formula);
      last_is_first = λ at e. IsFirstPlace-push at xs _ c.args.formula put (c.self.invariant.last_is_first at e);
    }

pub returns-clause-ok : goal.returns-clause-ok
returns-clause-ok c =
    let xs : List Formula = c.self.inside.formulas.items in
    let same : xs ≡ c.args.self.now.formulas = ap (λ (s : PoolState). s.formulas) c.self.view_is in
    let whole : c.self.inside.is_whole ≡ true = ap (λ (s : PoolState). s.is_whole) c.self.view_is ∙ c.requires.whole in
    let stands : Option ℕ = get nat_cmp c.self.inside.index.by_hash (hash_of c.args.key) in
    let none : found c.self.inside.index xs c.args.key ≡ None =
    ap (λ o. first_of o (checked xs c.args.key stands)) (sym c.kept.ensures ∙ c.in_default.is) ∙ ap (λ ys. checked ys c.args.key stands) (sym (c.deref.ensures.value ∙ c.reserve.ensures.items)) ∙ sym c.in_ok-other.ensures.met ∙ c.in_default-2.is in
    let fresh : first_place (code c.args.formula) c.args.self.now.formulas ≡ None =
    ap₂ first_place (sym c.requires.its) (sym same) ∙ none_kept (found c.self.inside.index xs) xs c.args.key (c.self.invariant.look_up.finds whole) none in
    let end : c.len-at.result ≡ length xs = search rules in
    IsPlaced-pushed c.args.formula c.len-at.result c.args.self.now.formulas c.push_reserved.new.self.items fresh (end ∙ ap length same)
    (c.push_reserved.ensures.items ∙ ap (λ ys. ys ++ c.args.formula ∷ []) (c.reserve.ensures.items ∙ same))

pub returns-in-Some-clause-first : goal.returns-in-Some-clause-first
returns-in-Some-clause-first c =
    let xs : List Formula = c.self.inside.formulas.items in
    let same : xs ≡ c.args.self.now.formulas = ap (λ (s : PoolState). s.formulas) c.self.view_is in
    let whole : c.self.inside.is_whole ≡ true = ap (λ (s : PoolState). s.is_whole) c.self.view_is ∙ c.requires.whole in
    let met : Option ℕ = checked xs c.args.key (get nat_cmp c.self.inside.index.by_hash (hash_of c.args.key)) in
    let got : found c.self.inside.index xs c.args.key ≡ Some c.in-Some.at = ap (λ o. first_of o met) (sym c.kept.ensures ∙ c.in-Some.is) in
    ap (first_place c.args.key) (sym same) ∙ sym ((c.self.invariant.look_up.finds whole).finds c.args.key) ∙ got

pub returns-in-Some-2-clause-first : goal.returns-in-Some-2-clause-first
returns-in-Some-2-clause-first c =
    let xs : List Formula = c.self.inside.formulas.items in
    let whole : c.self.inside.is_whole ≡ true = ap (λ (s : PoolState). s.is_whole) c.self.view_is ∙ c.requires.whole in
    let stands : Option ℕ = get nat_cmp c.self.inside.index.by_hash (hash_of c.args.key) in
    let got : found c.self.inside.index xs c.args.key ≡ Some c.in-Some-2.other =
    ap (λ o. first_of o (checked xs c.args.key stands)) (sym c.kept.ensures ∙ c.in_default.is) ∙ ap (λ ys. checked ys c.args.key stands) (sym (c.deref.ensures.value ∙ c.reserve.ensures.items)) ∙ sym c.in_ok-other.ensures.met ∙ c.in-Some-2.is in
    ap (first_place c.args.key) c.reserve.ensures.items ∙ sym ((c.self.invariant.look_up.finds whole).finds c.args.key) ∙ got

pub returns-clause-first : goal.returns-clause-first
returns-clause-first c =
    let xs : List Formula = c.self.inside.formulas.items in
    let whole : c.self.inside.is_whole ≡ true = ap (λ (s : PoolState). s.is_whole) c.self.view_is ∙ c.requires.whole in
    let stands : Option ℕ = get nat_cmp c.self.inside.index.by_hash (hash_of c.args.key) in
    let none : found c.self.inside.index xs c.args.key ≡ None =
    ap (λ o. first_of o (checked xs c.args.key stands)) (sym c.kept.ensures ∙ c.in_default.is) ∙ ap (λ ys. checked ys c.args.key stands) (sym (c.deref.ensures.value ∙ c.reserve.ensures.items)) ∙ sym c.in_ok-other.ensures.met ∙ c.in_default-2.is in
    let fresh : first_place c.args.key xs ≡ None = none_kept (found c.self.inside.index xs) xs c.args.key (c.self.invariant.look_up.finds whole) none in
    let end : c.len-at.result ≡ length xs = search rules in
    first_at_end c.args.formula xs c.push_reserved.new.self.items c.args.key c.len-at.result fresh c.requires.its end
    (c.push_reserved.ensures.items ∙ ap (λ ys. ys ++ c.args.formula ∷ []) c.reserve.ensures.items)
