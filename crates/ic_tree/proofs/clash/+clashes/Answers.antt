use Rattle.std.proofs.Common.{◌≡◌, ◌||◌, ◌∙◌, ap, sym, true, Bool}
use Rattle.ic_laws.specs.Binding.{BoundPair}
use Rattle.ic_laws.specs.Clash.{clashes_with}
use Rattle.ic_tree.proofs.AnyLemmas.{one_met}
use Rattle.ic_tree.specs.LanguageWords.{is_boolean_word, is_function_word}
use Rattle.ic_tree.proofs.clash.+clashes.Goals as goal
use Rattle.ic_tree.proofs.clash.+clashes.Goals.{one_pair_clashes-then-is_boolean-via-then-is_boolean, one_pair_clashes-then-is_boolean-via-else-is_boolean+then-clashes}

pub one_clashes-returns-then-clashes : goal.one_clashes-returns-then-clashes
one_clashes-returns-then-clashes t c =
    one_met (clashes_with (is_boolean_word c.args.language.now) (is_function_word c.args.language.now)) c.args.trees.now c.loop-tree.tree-index c.tree-item.result c.loop-tree-test.true c.tree-item.is
    (sym c.clashes.ensures ∙ c.if-clashes.true)

pub one_pair_clashes-returns-then-is_boolean : goal.one_pair_clashes-returns-then-is_boolean
one_pair_clashes-returns-then-is_boolean t c =
    let value : Bool = clashes_with (is_boolean_word c.args.language.now) (is_function_word c.args.language.now) c.pair-item.result.value in
    let test : BoundPair → Bool = λ pair. is_boolean_word c.args.language.now pair.variable || clashes_with (is_boolean_word c.args.language.now) (is_function_word c.args.language.now) pair.value in
    let holds : test c.pair-item.result ≡ true = elim c.then-is_boolean.branch [
      | one_pair_clashes-then-is_boolean-via-then-is_boolean w ↦ ap (λ b. b || value) (sym c.is_boolean.ensures ∙ w.if-is_boolean.true)
      | one_pair_clashes-then-is_boolean-via-else-is_boolean+then-clashes w ↦ ap (λ b. b || value) (sym c.is_boolean.ensures ∙ w.if-is_boolean.false) ∙ (sym w.clashes.ensures ∙ w.if-clashes.true)
    ] in
    one_met test c.args.pairs.now c.loop-pair.pair-index c.pair-item.result c.loop-pair-test.true c.pair-item.is holds
