use Rattle.std.proofs.Common.{◌++◌, ◌∷◌, codes, chars, string_bytes, refl, sym, ap, ap₂, ◌∙◌}
use Rattle.std.proofs.lemmas.List.{append-nil}
use Rattle.ic_laws.specs.Amount.{amount_text}
use Rattle.ic_laws.specs.Dialect.{reference_text, word_text}
use Rattle.ic_laws.specs.Token.{sign_text, string_text}
use Rattle.ic_laws.specs.declared.dialect.WordKind.TheVariants as kinds
use Rattle.ic_laws.specs.declared.reference.Place.{Place}
use Rattle.ic_laws.specs.declared.reference.RefToken.{RefToken}
use Rattle.ic_laws.specs.declared.tree.Tree as trees
use Rattle.ic_laws.specs.declared.tree.Tree.TheOpen as one
use denote.Hole.Carrier
use Rattle.ic_tree.specs.Printed.{all_between, each_before, prefix_sign, row_separator, row_text, written_arguments, written_pair}
use Rattle.ic_tree.proofs.PrintLemmas.{level_at, one_step, three_steps, two_steps}
use Rattle.ic_tree.proofs.tree_printer.+push.Goals as goal

pub push_tree-returns-in-Num : goal.push_tree-returns-in-Num
unfolding trees.roll-Tree denote.Hole.Carrier.roll
push_tree-returns-in-Num g t c =
    one_step (g.met.M.Mentions.levels c.args.mentions.now) (g.D.Dialect.meaning c.args.d.now) _ _ _ _ _ (one.Num c.in-Num.amount) c.in-Num.is (ap (λ k. amount_text k c.in-Num.amount) c.decimal.ensures) c.push_amount.ensures

pub push_tree-returns-in-Str : goal.push_tree-returns-in-Str
unfolding trees.roll-Tree denote.Hole.Carrier.roll
push_tree-returns-in-Str g t c =
    one_step (g.met.M.Mentions.levels c.args.mentions.now) (g.D.Dialect.meaning c.args.d.now) _ _ _ _ _ (one.Str c.in-Str.text) c.in-Str.is (ap string_text c.as_str.ensures.characters) c.push_string.ensures

pub push_tree-returns-in-Bool : goal.push_tree-returns-in-Bool
unfolding trees.roll-Tree denote.Hole.Carrier.roll
push_tree-returns-in-Bool g t c =
    one_step (g.met.M.Mentions.levels c.args.mentions.now) (g.D.Dialect.meaning c.args.d.now) _ _ _ _ _ (one.Bool c.in-Bool.value) c.in-Bool.is refl c.push_boolean.ensures

pub push_tree-returns-in-Err : goal.push_tree-returns-in-Err
unfolding trees.roll-Tree denote.Hole.Carrier.roll
push_tree-returns-in-Err g t c =
    one_step (g.met.M.Mentions.levels c.args.mentions.now) (g.D.Dialect.meaning c.args.d.now) _ _ _ _ _ (one.Err c.in-Err.error) c.in-Err.is refl c.push_error.ensures

pub push_tree-returns-in-Reference : goal.push_tree-returns-in-Reference
unfolding trees.roll-Tree denote.Hole.Carrier.roll
push_tree-returns-in-Reference g t c =
    one_step (g.met.M.Mentions.levels c.args.mentions.now) (g.D.Dialect.meaning c.args.d.now) _ _ _ _ _ (one.Reference c.in-Reference.sheet c.in-Reference.place) c.in-Reference.is (ap (λ (place : Place). let r : RefToken = record { sheet = g.M.Mentions.name_of c.args.mentions.now c.in-Reference.sheet; place = place } in reference_text (g.D.Dialect.meaning c.args.d.now) r) c.place.ensures) c.push_reference.ensures

pub push_tree-returns-in-Local : goal.push_tree-returns-in-Local
unfolding trees.roll-Tree denote.Hole.Carrier.roll
push_tree-returns-in-Local g t c =
    one_step (g.met.M.Mentions.levels c.args.mentions.now) (g.D.Dialect.meaning c.args.d.now) _ _ _ _ _ (one.Local c.in-Local.sheet c.in-Local.word) c.in-Local.is refl c.push_local.ensures

pub push_tree-returns-in-Word : goal.push_tree-returns-in-Word
unfolding trees.roll-Tree denote.Hole.Carrier.roll
push_tree-returns-in-Word g t c =
    one_step (g.met.M.Mentions.levels c.args.mentions.now) (g.D.Dialect.meaning c.args.d.now) _ _ _ _ _ (one.Word c.in-Word.word) c.in-Word.is refl c.push_word.ensures

pub push_tree-returns-in-Empty : goal.push_tree-returns-in-Empty
unfolding trees.roll-Tree denote.Hole.Carrier.roll
push_tree-returns-in-Empty g t c =
    sym (ap (λ k. chars (string_bytes c.args.out.now) ++ k) (level_at (g.met.M.Mentions.levels c.args.mentions.now) (g.D.Dialect.meaning c.args.d.now) c.args.tree.now one.Empty c.in-Empty.is) ∙ append-nil _)

pub push_tree-returns-in_ok-push_char-in-Paren : goal.push_tree-returns-in_ok-push_char-in-Paren
unfolding trees.roll-Tree denote.Hole.Carrier.roll
push_tree-returns-in_ok-push_char-in-Paren g t c =
    two_steps (g.met.M.Mentions.levels c.args.mentions.now) (g.D.Dialect.meaning c.args.d.now) _ _ _ _ _ _ _ (one.Paren c.in-Paren.x) c.in-Paren.is c.in_ok-push_char-in-Paren.ensures.ok (ap (λ x. codes "(" ++ (g.M.Mentions.written c.args.mentions.now (g.D.Dialect.meaning c.args.d.now) x ++ codes ")")) c.as_ref.ensures) c.push_closed.ensures

pub push_tree-returns-in_ok-push_prefix-in-Prefix : goal.push_tree-returns-in_ok-push_prefix-in-Prefix
unfolding trees.roll-Tree denote.Hole.Carrier.roll
push_tree-returns-in_ok-push_prefix-in-Prefix g t c =
    two_steps (g.met.M.Mentions.levels c.args.mentions.now) (g.D.Dialect.meaning c.args.d.now) _ _ _ _ _ _ _ (one.Prefix c.in-Prefix.sign c.in-Prefix.x) c.in-Prefix.is c.in_ok-push_prefix-in-Prefix.ensures (ap (λ x. prefix_sign c.in-Prefix.sign ∷ g.M.Mentions.written c.args.mentions.now (g.D.Dialect.meaning c.args.d.now) x) c.as_ref-in-Prefix.ensures) c.push_tree.ensures

pub push_tree-returns-in_ok-push_tree-in-Percent : goal.push_tree-returns-in_ok-push_tree-in-Percent
unfolding trees.roll-Tree denote.Hole.Carrier.roll
push_tree-returns-in_ok-push_tree-in-Percent g t c =
    two_steps (g.met.M.Mentions.levels c.args.mentions.now) (g.D.Dialect.meaning c.args.d.now) _ _ _ _ _ _ _ (one.Percent c.in-Percent.x) c.in-Percent.is c.in_ok-push_tree-in-Percent.ensures (ap (λ x. g.M.Mentions.written c.args.mentions.now (g.D.Dialect.meaning c.args.d.now) x ++ codes "%") c.as_ref-in-Percent.ensures) c.push_char-in-Percent.ensures.ok

pub push_tree-returns-in_ok-push_tree-in-Spill : goal.push_tree-returns-in_ok-push_tree-in-Spill
unfolding trees.roll-Tree denote.Hole.Carrier.roll
push_tree-returns-in_ok-push_tree-in-Spill g t c =
    two_steps (g.met.M.Mentions.levels c.args.mentions.now) (g.D.Dialect.meaning c.args.d.now) _ _ _ _ _ _ _ (one.Spill c.in-Spill.x) c.in-Spill.is c.in_ok-push_tree-in-Spill.ensures (ap (λ x. g.M.Mentions.written c.args.mentions.now (g.D.Dialect.meaning c.args.d.now) x ++ codes "#") c.as_ref-in-Spill.ensures) c.push_char-in-Spill.ensures.ok

pub push_tree-returns-in_ok-push_text-in-Binary : goal.push_tree-returns-in_ok-push_text-in-Binary
unfolding trees.roll-Tree denote.Hole.Carrier.roll
push_tree-returns-in_ok-push_text-in-Binary g t c =
    three_steps (g.met.M.Mentions.levels c.args.mentions.now) (g.D.Dialect.meaning c.args.d.now) _ _ _ _ _ _ _ _ _ (one.Binary c.in-Binary.sign c.in-Binary.a c.in-Binary.b) c.in-Binary.is c.in_ok-push_tree-in-Binary.ensures c.in_ok-push_text-in-Binary.ensures.ok (ap (λ s. g.M.Mentions.written c.args.mentions.now (g.D.Dialect.meaning c.args.d.now) c.as_ref-in-Binary.result.now ++ s ++ g.M.Mentions.written c.args.mentions.now (g.D.Dialect.meaning c.args.d.now) c.as_ref-in-Binary-2.result.now) c.sign_text.ensures ∙ ap₂ (λ x y. g.M.Mentions.written c.args.mentions.now (g.D.Dialect.meaning c.args.d.now) x ++ sign_text c.in-Binary.sign ++ g.M.Mentions.written c.args.mentions.now (g.D.Dialect.meaning c.args.d.now) y) c.as_ref-in-Binary.ensures c.as_ref-in-Binary-2.ensures) c.push_tree-in-Binary-2.ensures

pub push_tree-returns-in_ok-push_head-in-Fun : goal.push_tree-returns-in_ok-push_head-in-Fun
unfolding trees.roll-Tree denote.Hole.Carrier.roll
push_tree-returns-in_ok-push_head-in-Fun g t c =
    two_steps (g.met.M.Mentions.levels c.args.mentions.now) (g.D.Dialect.meaning c.args.d.now) _ _ _ _ _ _ _ (one.Fun c.in-Fun.number c.in-Fun.arguments) c.in-Fun.is c.in_ok-push_head-in-Fun.ensures (ap (λ xs. word_text (g.D.Dialect.meaning c.args.d.now) kinds.Function c.in-Fun.number ++ codes "(" ++ (written_arguments (g.D.Dialect.meaning c.args.d.now) (g.M.Mentions.written c.args.mentions.now (g.D.Dialect.meaning c.args.d.now)) xs ++ codes ")")) c.as_slice.ensures) c.push_arguments.ensures

pub push_tree-returns-in_ok-push_called-in-Call : goal.push_tree-returns-in_ok-push_called-in-Call
unfolding trees.roll-Tree denote.Hole.Carrier.roll
push_tree-returns-in_ok-push_called-in-Call g t c =
    two_steps (g.met.M.Mentions.levels c.args.mentions.now) (g.D.Dialect.meaning c.args.d.now) _ _ _ _ _ _ _ (one.Call c.in-Call.word c.in-Call.arguments) c.in-Call.is c.in_ok-push_called-in-Call.ensures (ap₂ (λ word xs. g.M.Mentions.text_of c.args.mentions.now word ++ codes "(" ++ (written_arguments (g.D.Dialect.meaning c.args.d.now) (g.M.Mentions.written c.args.mentions.now (g.D.Dialect.meaning c.args.d.now)) xs ++ codes ")")) c.as_ref-in-Call.ensures c.as_slice-in-Call.ensures) c.push_arguments-in-Call.ensures

pub push_tree-returns-in_ok-push_pairs-in-Let : goal.push_tree-returns-in_ok-push_pairs-in-Let
unfolding trees.roll-Tree denote.Hole.Carrier.roll
push_tree-returns-in_ok-push_pairs-in-Let g t c =
    three_steps (g.met.M.Mentions.levels c.args.mentions.now) (g.D.Dialect.meaning c.args.d.now) _ _ _ _ _ _ _ _ _ (one.Let c.in-Let.pairs c.in-Let.body) c.in-Let.is c.in_ok-push_head-in-Let.ensures c.in_ok-push_pairs-in-Let.ensures (ap (λ n. word_text (g.D.Dialect.meaning c.args.d.now) kinds.Function n ++ codes "(" ++ each_before (g.D.Dialect.meaning c.args.d.now).list (written_pair (g.D.Dialect.meaning c.args.d.now) (g.M.Mentions.written c.args.mentions.now (g.D.Dialect.meaning c.args.d.now))) c.as_slice-in-Let.result.now ++ (g.M.Mentions.written c.args.mentions.now (g.D.Dialect.meaning c.args.d.now) c.as_ref-in-Let.result.now ++ codes ")")) c.let_fn.ensures ∙ ap₂ (λ xs x. word_text (g.D.Dialect.meaning c.args.d.now) kinds.Function (g.D.Dialect.meaning c.args.d.now).let_fn ++ codes "(" ++ each_before (g.D.Dialect.meaning c.args.d.now).list (written_pair (g.D.Dialect.meaning c.args.d.now) (g.M.Mentions.written c.args.mentions.now (g.D.Dialect.meaning c.args.d.now))) xs ++ (g.M.Mentions.written c.args.mentions.now (g.D.Dialect.meaning c.args.d.now) x ++ codes ")")) c.as_slice-in-Let.ensures c.as_ref-in-Let.ensures) c.push_closed-in-Let.ensures

pub push_tree-returns-in_ok-push_parameters-in-Lambda : goal.push_tree-returns-in_ok-push_parameters-in-Lambda
unfolding trees.roll-Tree denote.Hole.Carrier.roll
push_tree-returns-in_ok-push_parameters-in-Lambda g t c =
    three_steps (g.met.M.Mentions.levels c.args.mentions.now) (g.D.Dialect.meaning c.args.d.now) _ _ _ _ _ _ _ _ _ (one.Lambda c.in-Lambda.parameters c.in-Lambda.body) c.in-Lambda.is c.in_ok-push_head-in-Lambda.ensures c.in_ok-push_parameters-in-Lambda.ensures (ap (λ n. word_text (g.D.Dialect.meaning c.args.d.now) kinds.Function n ++ codes "(" ++ each_before (g.D.Dialect.meaning c.args.d.now).list (λ p. p) c.as_slice-in-Lambda.result.now ++ (g.M.Mentions.written c.args.mentions.now (g.D.Dialect.meaning c.args.d.now) c.as_ref-in-Lambda.result.now ++ codes ")")) c.lambda_fn.ensures ∙ ap₂ (λ xs x. word_text (g.D.Dialect.meaning c.args.d.now) kinds.Function (g.D.Dialect.meaning c.args.d.now).lambda_fn ++ codes "(" ++ each_before (g.D.Dialect.meaning c.args.d.now).list (λ p. p) xs ++ (g.M.Mentions.written c.args.mentions.now (g.D.Dialect.meaning c.args.d.now) x ++ codes ")")) c.as_slice-in-Lambda.ensures c.as_ref-in-Lambda.ensures) c.push_closed-in-Lambda.ensures

pub push_tree-returns-in_ok-push_char-in-Apply : goal.push_tree-returns-in_ok-push_char-in-Apply
unfolding trees.roll-Tree denote.Hole.Carrier.roll
push_tree-returns-in_ok-push_char-in-Apply g t c =
    three_steps (g.met.M.Mentions.levels c.args.mentions.now) (g.D.Dialect.meaning c.args.d.now) _ _ _ _ _ _ _ _ _ (one.Apply c.in-Apply.x c.in-Apply.arguments) c.in-Apply.is c.in_ok-push_tree-in-Apply.ensures c.in_ok-push_char-in-Apply.ensures.ok (ap₂ (λ x xs. g.M.Mentions.written c.args.mentions.now (g.D.Dialect.meaning c.args.d.now) x ++ codes "(" ++ (written_arguments (g.D.Dialect.meaning c.args.d.now) (g.M.Mentions.written c.args.mentions.now (g.D.Dialect.meaning c.args.d.now)) xs ++ codes ")")) c.as_ref-in-Apply.ensures c.as_slice-in-Apply.ensures) c.push_arguments-in-Apply.ensures

pub push_tree-returns-in_ok-push_rows-in-Array : goal.push_tree-returns-in_ok-push_rows-in-Array
unfolding trees.roll-Tree denote.Hole.Carrier.roll
push_tree-returns-in_ok-push_rows-in-Array g t c =
    three_steps (g.met.M.Mentions.levels c.args.mentions.now) (g.D.Dialect.meaning c.args.d.now) _ _ _ _ _ _ _ _ _ (one.Array c.in-Array.rows) c.in-Array.is c.in_ok-push_char-in-Array.ensures.ok c.in_ok-push_rows-in-Array.ensures (ap (λ xs. codes "{" ++ all_between (row_separator (g.D.Dialect.meaning c.args.d.now)) (row_text (g.D.Dialect.meaning c.args.d.now)) xs ++ codes "}") c.as_slice-in-Array.ensures) c.push_char-in-Array-2.ensures.ok
