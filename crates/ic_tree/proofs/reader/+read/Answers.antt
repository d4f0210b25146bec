use Rattle.std.proofs.Common.{◌-◌, ◌∙◌, [], Some, sym, ap, refl, arith}
use Rattle.ic_laws.specs.Parse.{Read, reader, argument, past_separator, past_close}
use Rattle.ic_laws.specs.Tree.{Spelled}
use Rattle.ic_laws.proofs.parsing.ListFuelLemmas.{arguments_shrink, reader_takes}
use Rattle.ic_tree.proofs.ListSteps.{joined_start, list_fails, list_last, list_more, list_smaller}
use Rattle.ic_tree.proofs.Operands.{reader_taken, reader_lacks, reader_spent, expression_lacks, expression_is, prefix_lacks, prefix_makes, primary_lacks, primary_is, function_shut, function_opens, name_shut, name_opens, bracket_shut, bracket_opens, array_shut, array_opens, leaf_is, let_is, lambda_is, function_lacks, function_is, name_refused, name_lacks, name_is, bracketed_is, bracketed_lacks, bracketed_open, argument_left_out, argument_is, no_arguments, arguments_lack, arguments_open, arguments_are, followed_lacks, followed_open, followed_is}
use Rattle.ic_tree.proofs.Parts.{parts_start, let_more, let_smaller, let_value_lacks, let_nothing, let_body_lacks, let_body_stands, lambda_more, lambda_smaller, lambda_nothing, lambda_body_lacks, lambda_body_stands, let_call_lacks, let_call_is, lambda_call_lacks, lambda_call_is}
use Rattle.ic_tree.proofs.Turning.{turn_is, turns_begin, turns_spent, taken_turn, percent_turn, hash_turn, open_stays, open_fails, open_lacks, open_applies, other_stays, sign_turn, sign_fails, sign_joins, sign_stays, no_sign_stays, level_same}
use Rattle.ic_tree.proofs.reader.+read.Goals as goal

pub read-returns-in_default : goal.read-returns-in_default
read-returns-in_default g t c = reader_lacks _ _ _ _ _ _ _ c.in_ok-token.ensures c.in_default.is

pub read-returns : goal.read-returns
read-returns g t c = c.in_ok-read_from.ensures ∙ reader_taken _ _ _ _ _ _ _ _ c.in_ok-token.ensures c.in-Some.is

pub read_from-returns-then-most-eq0 : goal.read_from-returns-then-most-eq0
read_from-returns-then-most-eq0 g t c = reader_spent _ _ _ _ _ c.if-most-eq0.true

pub read_from-returns-in_default : goal.read_from-returns-in_default
read_from-returns-in_default g t c = expression_lacks _ c.args.most _ _ _ _ _ (omega arith) c.in_ok-first.ensures c.in_default.is

pub read_from-returns : goal.read_from-returns
read_from-returns g t c = c.in_ok-read_binaries.ensures ∙ expression_is _ c.args.most _ _ _ _ _ _ (omega arith) c.in_ok-first.ensures c.in-Some.is

pub read_operand-returns-in_default : goal.read_operand-returns-in_default
read_operand-returns-in_default g t c = prefix_lacks _ _ _ _ _ _ _ _ _ _ c.sign_before.ensures c.in-Some.is c.in_ok-x-in-Some.ensures c.in_default.is

pub read_operand-returns-in_ok-prefix-in-Some : goal.read_operand-returns-in_ok-prefix-in-Some
read_operand-returns-in_ok-prefix-in-Some g t c = c.in_ok-prefix-in-Some.ensures _ ∙ prefix_makes _ _ _ _ _ _ _ _ _ _ _ c.sign_before.ensures c.in-Some.is c.in_ok-x-in-Some.ensures c.in-Some-2.is

pub read_operand-returns-in_default-2 : goal.read_operand-returns-in_default-2
read_operand-returns-in_default-2 g t c = primary_lacks _ _ _ _ _ _ _ _ _ c.sign_before.ensures c.in-None.is c.in_ok-first-in-None.ensures c.in_default-2.is

pub read_operand-returns-in_ok-read_postfixes-in-None : goal.read_operand-returns-in_ok-read_postfixes-in-None
read_operand-returns-in_ok-read_postfixes-in-None g t c = c.in_ok-read_postfixes-in-None.ensures ∙ primary_is _ _ _ _ _ _ _ _ _ _ c.sign_before.ensures c.in-None.is c.in_ok-first-in-None.ensures c.in-Some-3.is

pub read_bracketed-returns-in_default : goal.read_bracketed-returns-in_default
read_bracketed-returns-in_default g t c = bracketed_lacks _ _ _ _ _ _ c.in_ok-x.ensures c.in_default.is

pub read_bracketed-returns-then-not-branch : goal.read_bracketed-returns-then-not-branch
read_bracketed-returns-then-not-branch g t c = bracketed_open _ _ _ _ _ _ _ _ _ c.in_ok-x.ensures c.in-Some.is c.in_ok-take_close.ensures c.if-not-branch.true

pub read_bracketed-returns : goal.read_bracketed-returns
read_bracketed-returns g t c = c.in_ok-paren.ensures _ ∙ bracketed_is _ _ _ _ _ _ _ _ _ c.in_ok-x.ensures c.in-Some.is c.in_ok-take_close.ensures c.if-not-branch.false

pub read_postfixes-turns-init : goal.read_postfixes-turns-init
read_postfixes-turns-init g t c = turns_begin _ _ _ _

pub read_postfixes-returns-in-Stays : goal.read_postfixes-returns-in-Stays
read_postfixes-returns-in-Stays g t c = turn_is _ c.args.most c.turns.turn _ _ _ _ _ c.turns-test.true c.in-Stays.is c.in_ok-same.ensures ∙ c.turns.invariant

pub read_postfixes-returns-in-Fails : goal.read_postfixes-returns-in-Fails
read_postfixes-returns-in-Fails g t c = turn_is _ c.args.most c.turns.turn _ _ _ _ _ c.turns-test.true c.in-Fails.is c.in_ok-same.ensures ∙ c.turns.invariant

pub read_postfixes-turns-preserved : goal.read_postfixes-turns-preserved
read_postfixes-turns-preserved g t c = turn_is _ c.args.most c.turns.turn _ _ _ _ _ c.turns-test.true c.in-Takes.is c.in_ok-same.ensures ∙ c.turns.invariant

pub read_postfixes-returns : goal.read_postfixes-returns
read_postfixes-returns g t c = turns_spent _ c.args.most c.turns.turn _ _ (omega arith) ∙ c.turns.invariant

pub read_binaries-turns-init : goal.read_binaries-turns-init
read_binaries-turns-init g t c = turns_begin _ _ _ _

pub read_binaries-returns-in-Stays : goal.read_binaries-returns-in-Stays
read_binaries-returns-in-Stays g t c = turn_is _ c.args.most c.turns.turn _ _ _ _ _ c.turns-test.true c.in-Stays.is c.in_ok-same.ensures ∙ c.turns.invariant

pub read_binaries-returns-in-Fails : goal.read_binaries-returns-in-Fails
read_binaries-returns-in-Fails g t c = turn_is _ c.args.most c.turns.turn _ _ _ _ _ c.turns-test.true c.in-Fails.is c.in_ok-same.ensures ∙ c.turns.invariant

pub read_binaries-turns-preserved : goal.read_binaries-turns-preserved
read_binaries-turns-preserved g t c = turn_is _ c.args.most c.turns.turn _ _ _ _ _ c.turns-test.true c.in-Takes.is c.in_ok-same.ensures ∙ c.turns.invariant

pub read_binaries-returns : goal.read_binaries-returns
read_binaries-returns g t c = turns_spent _ c.args.most c.turns.turn _ _ (omega arith) ∙ c.turns.invariant

pub read_postfix-returns-in_ok-percent-in-Percent : goal.read_postfix-returns-in_ok-percent-in-Percent
read_postfix-returns-in_ok-percent-in-Percent g t c =
    taken_turn _ _ _ _ _ _ _ (percent_turn _ _ _ _ _ _ (sym c.ahead.ensures ∙ c.in-Percent.is) c.in_ok-skip-in-Percent.ensures) (c.in_ok-percent-in-Percent.ensures _) c.taken.ensures

pub read_postfix-returns-in_ok-spill-in-Hash : goal.read_postfix-returns-in_ok-spill-in-Hash
read_postfix-returns-in_ok-spill-in-Hash g t c =
    taken_turn _ _ _ _ _ _ _ (hash_turn _ _ _ _ _ _ (sym c.ahead.ensures ∙ c.in-Hash.is) c.in_ok-skip-in-Hash.ensures) (c.in_ok-spill-in-Hash.ensures _) c.taken-in-Hash.ensures

pub read_postfix-returns-in-None : goal.read_postfix-returns-in-None
read_postfix-returns-in-None g t c =
    open_lacks _ _ c.args.b _ _ _ _ _ (sym c.ahead.ensures ∙ c.in-Open.is) (cc) (omega arith) c.in_ok-skip-in-Open.ensures c.in_ok-found-in-Open.ensures c.in-None.is

pub read_postfix-returns-then-not-is_callable : goal.read_postfix-returns-then-not-is_callable
read_postfix-returns-then-not-is_callable g t c = (open_stays _ _ _ _ _ (sym c.ahead.ensures ∙ c.in-Open.is) (cc), refl, refl)

pub read_postfix-returns-then-b-eq0 : goal.read_postfix-returns-then-b-eq0
read_postfix-returns-then-b-eq0 g t c = open_fails _ _ _ _ _ (sym c.ahead.ensures ∙ c.in-Open.is) (cc) c.if-b-eq0.true

pub read_postfix-returns-in_default : goal.read_postfix-returns-in_default
read_postfix-returns-in_default g t c =
    (other_stays _ _ _ _ _ (λ e. c.in_default.not-Percent (c.ahead.ensures ∙ e)) (λ e. c.in_default.not-Hash (c.ahead.ensures ∙ e)) (λ e. c.in_default.not-Open (c.ahead.ensures ∙ e)), refl, refl)

pub read_binary-returns-in_default : goal.read_binary-returns-in_default
read_binary-returns-in_default g t c = (no_sign_stays _ _ _ _ _ _ (λ sign e. c.in_default.not-Operator sign (c.ahead.ensures ∙ e)), refl, refl)

pub read_binary-returns-then-level-least : goal.read_binary-returns-then-level-least
read_binary-returns-then-level-least g t c = (sign_stays _ _ _ _ _ _ _ (sym c.ahead.ensures ∙ c.in-Operator.is) (omega arith), refl, refl)

pub read_binary-returns-in_default-2 : goal.read_binary-returns-in_default-2
read_binary-returns-in_default-2 g t c =
    sign_turn _ _ _ _ _ c.in-Operator.sign _ _ (sym c.ahead.ensures ∙ c.in-Operator.is) (omega arith) c.in_ok-skip.ensures
    ∙ ap (λ (r : Read Spelled). Some r) (sign_fails c.args.most _ c.args.b c.args.left c.in-Operator.sign (g.S.TokenSource.left c.skip.new.self) _ _ (c.in_ok-right.ensures ∙ level_same (reader (g.D.Dialect.meaning c.args.d.now) (c.args.most - 1)) c.args.b _ _ (g.S.TokenSource.left c.skip.new.self) c.level_of-level.ensures) c.in_default-2.is)

pub read_binary-returns : goal.read_binary-returns
read_binary-returns g t c =
    taken_turn _ _ _ _ _ _ _ (sign_turn _ _ _ _ _ c.in-Operator.sign _ _ (sym c.ahead.ensures ∙ c.in-Operator.is) (omega arith) c.in_ok-skip.ensures)
    (c.in_ok-binary.ensures _ ∙ sym (sign_joins c.args.most _ c.args.b c.args.left c.in-Operator.sign (g.S.TokenSource.left c.skip.new.self) _ _ _ (c.in_ok-right.ensures ∙ level_same (reader (g.D.Dialect.meaning c.args.d.now) (c.args.most - 1)) c.args.b _ _ (g.S.TokenSource.left c.skip.new.self) c.level_of-level.ensures) c.in-Some.is))
    c.taken.ensures

pub read_primary-returns-then-b-eq0 : goal.read_primary-returns-then-b-eq0
read_primary-returns-then-b-eq0 g t c = function_shut _ _ _ _ _ _ _ c.in-FunHead.is c.if-b-eq0.true

pub read_primary-returns-in_ok-read_function-in-FunHead : goal.read_primary-returns-in_ok-read_function-in-FunHead
read_primary-returns-in_ok-read_function-in-FunHead g t c = c.in_ok-read_function-in-FunHead.ensures ∙ function_opens _ _ _ c.args.b _ _ _ c.in-FunHead.is (omega arith)

pub read_arguments-returns-then-at_end : goal.read_arguments-returns-then-at_end
read_arguments-returns-then-at_end g t c = no_arguments c.args.most _ _ _ _ _ _ c.in_ok-at_end.ensures c.if-at_end.true c.new.ensures

pub read_arguments-returns-in_default : goal.read_arguments-returns-in_default
read_arguments-returns-in_default g t c = arguments_lack c.args.most _ _ _ _ _ _ _ c.in_ok-at_end.ensures c.if-at_end.false c.in_ok-found.ensures c.in_default.is

pub read_arguments-returns-then-not-closed : goal.read_arguments-returns-then-not-closed
read_arguments-returns-then-not-closed g t c = arguments_open c.args.most _ _ _ _ _ _ _ _ _ _ c.in_ok-at_end.ensures c.if-at_end.false c.in_ok-found.ensures c.in-Some.is c.in_ok-closed.ensures c.if-not-closed.true

pub read_arguments-returns : goal.read_arguments-returns
read_arguments-returns g t c = arguments_are c.args.most _ _ _ _ _ _ _ _ _ _ c.in_ok-at_end.ensures c.if-at_end.false c.in_ok-found.ensures c.in-Some.is c.in_ok-closed.ensures c.if-not-closed.false

pub read_list-returns-in_default : goal.read_list-returns-in_default
read_list-returns-in_default g t c =
    let d = g.D.Dialect.meaning c.args.d.now in
    list_fails (argument (reader d (c.args.most - 1)) c.args.b) past_separator (arguments_shrink d (c.args.most - 1) c.args.b) c.items.found _ _ _ c.in_ok-next.ensures c.in_default.is ∙ c.items.invariant

pub read_list-returns-then-not-more : goal.read_list-returns-then-not-more
read_list-returns-then-not-more g t c =
    let d = g.D.Dialect.meaning c.args.d.now in
    list_last (argument (reader d (c.args.most - 1)) c.args.b) past_separator (arguments_shrink d (c.args.most - 1) c.args.b) c.items.found _ _ _ _ _ _ _ c.in_ok-next.ensures c.in-Some.is c.in_ok-push.ensures c.in_ok-more.ensures c.if-not-more.true ∙ c.items.invariant

pub read_list-items-smaller : goal.read_list-items-smaller
read_list-items-smaller g t c =
    let d = g.D.Dialect.meaning c.args.d.now in
    list_smaller (argument (reader d (c.args.most - 1)) c.args.b) past_separator (arguments_shrink d (c.args.most - 1) c.args.b) _ _ _ _ _ _ c.in_ok-next.ensures c.in-Some.is c.in_ok-more.ensures c.if-not-more.false

pub read_list-items-preserved : goal.read_list-items-preserved
read_list-items-preserved g t c =
    let d = g.D.Dialect.meaning c.args.d.now in
    list_more (argument (reader d (c.args.most - 1)) c.args.b) past_separator (arguments_shrink d (c.args.most - 1) c.args.b) c.items.found _ _ _ _ _ _ _ c.in_ok-next.ensures c.in-Some.is c.in_ok-push.ensures c.in_ok-more.ensures c.if-not-more.false ∙ c.items.invariant

pub read_argument-returns-then-ends_argument : goal.read_argument-returns-then-ends_argument
read_argument-returns-then-ends_argument g t c = argument_left_out c.args.most _ _ _ _ _ c.ends_argument.ensures c.if-ends_argument.true c.in_ok-left_out.ensures

pub read_argument-returns : goal.read_argument-returns
read_argument-returns g t c = c.in_ok-read.ensures ∙ argument_is c.args.most _ _ _ _ c.ends_argument.ensures c.if-ends_argument.false

pub read_name_call-returns-then-not-is_called_name : goal.read_name_call-returns-then-not-is_called_name
read_name_call-returns-then-not-is_called_name g t c = name_refused _ _ _ _ _ _ c.is_called_name.ensures c.if-not-is_called_name.true

pub read_name_call-returns-in_default : goal.read_name_call-returns-in_default
read_name_call-returns-in_default g t c = name_lacks _ _ _ _ _ _ _ _ c.is_called_name.ensures c.if-not-is_called_name.false c.in_ok-found.ensures c.in_default.is

pub read_name_call-returns : goal.read_name_call-returns
read_name_call-returns g t c = c.in_ok-call.ensures _ ∙ name_is _ _ _ _ _ _ _ _ _ c.is_called_name.ensures c.if-not-is_called_name.false c.in_ok-found.ensures c.in-Some.is

pub read_function-returns-then-number-special : goal.read_function-returns-then-number-special
read_function-returns-then-number-special g t c = c.in_ok-read_let.ensures ∙ let_is _ _ _ _ _ _ (c.if-number-special.true ∙ c.let_fn-special.ensures)

pub read_function-returns-then-number-other : goal.read_function-returns-then-number-other
read_function-returns-then-number-other g t c = c.in_ok-read_lambda.ensures ∙ lambda_is _ _ _ _ _ _ (λ e. c.if-number-special.false (e ∙ sym c.let_fn-special.ensures)) (c.if-number-other.true ∙ c.lambda_fn-other.ensures)

pub read_function-returns-in_default : goal.read_function-returns-in_default
read_function-returns-in_default g t c = function_lacks _ _ _ _ _ _ _ _ (λ e. c.if-number-special.false (e ∙ sym c.let_fn-special.ensures)) (λ e. c.if-number-other.false (e ∙ sym c.lambda_fn-other.ensures)) c.in_ok-found.ensures c.in_default.is

pub read_function-returns : goal.read_function-returns
read_function-returns g t c = c.in_ok-fun.ensures _ ∙ function_is _ _ _ _ _ _ _ _ _ (λ e. c.if-number-special.false (e ∙ sym c.let_fn-special.ensures)) (λ e. c.if-number-other.false (e ∙ sym c.lambda_fn-other.ensures)) c.in_ok-found.ensures c.in-Some.is

pub read_value-returns-in_default : goal.read_value-returns-in_default
read_value-returns-in_default g t c = followed_lacks past_separator [] _ [] _ _ c.in_ok-value.ensures c.in_default.is

pub read_value-returns-then-not-branch : goal.read_value-returns-then-not-branch
read_value-returns-then-not-branch g t c = followed_open past_separator [] _ _ _ _ _ _ c.in_ok-value.ensures c.in-Some.is c.in_ok-take_separator.ensures c.if-not-branch.true

pub read_value-returns : goal.read_value-returns
read_value-returns g t c = followed_is past_separator [] _ _ _ _ _ _ c.in_ok-value.ensures c.in-Some.is c.in_ok-take_separator.ensures c.if-not-branch.false

pub read_body-returns-in_default : goal.read_body-returns-in_default
read_body-returns-in_default g t c = followed_lacks past_close [] _ [] _ _ c.in_ok-body.ensures c.in_default.is

pub read_body-returns-then-not-branch : goal.read_body-returns-then-not-branch
read_body-returns-then-not-branch g t c = followed_open past_close [] _ _ _ _ _ _ c.in_ok-body.ensures c.in-Some.is c.in_ok-take_close.ensures c.if-not-branch.true

pub read_body-returns : goal.read_body-returns
read_body-returns g t c = followed_is past_close [] _ _ _ _ _ _ c.in_ok-body.ensures c.in-Some.is c.in_ok-take_close.ensures c.if-not-branch.false

pub read_let-returns-in-Nothing : goal.read_let-returns-in-Nothing
read_let-returns-in-Nothing g t c =
    let d = g.D.Dialect.meaning c.args.d.now in
    sym (let_call_lacks c.args.most _ _ _ (sym c.pairs.invariant ∙ let_nothing (reader d (c.args.most - 1)) (reader_takes d (c.args.most - 1)) c.args.b c.pairs.pairs _ _ _ c.in_ok-begun.ensures c.in-Nothing.is))

pub read_let-returns-in_default : goal.read_let-returns-in_default
read_let-returns-in_default g t c =
    let d = g.D.Dialect.meaning c.args.d.now in
    sym (let_call_lacks c.args.most _ _ _ (sym c.pairs.invariant ∙ let_value_lacks (reader d (c.args.most - 1)) (reader_takes d (c.args.most - 1)) c.args.b c.pairs.pairs _ _ _ _ _ _ c.in_ok-begun.ensures c.in-Variable.is c.in_ok-value-in-Variable.ensures c.in_default.is))

pub read_let-pairs-smaller : goal.read_let-pairs-smaller
read_let-pairs-smaller g t c =
    let d = g.D.Dialect.meaning c.args.d.now in
    let_smaller (reader d (c.args.most - 1)) (reader_takes d (c.args.most - 1)) c.args.b _ _ _ _ _ _ _ c.in_ok-begun.ensures c.in-Variable.is c.in_ok-value-in-Variable.ensures c.in-Some.is

pub read_let-pairs-preserved : goal.read_let-pairs-preserved
read_let-pairs-preserved g t c =
    let d = g.D.Dialect.meaning c.args.d.now in
    let_more (reader d (c.args.most - 1)) (reader_takes d (c.args.most - 1)) c.args.b c.pairs.pairs _ _ _ _ _ _ _ _ c.in_ok-begun.ensures c.in-Variable.is c.in_ok-value-in-Variable.ensures c.in-Some.is c.in_ok-push-in-Variable.ensures ∙ c.pairs.invariant

pub read_let-returns-in_default-2 : goal.read_let-returns-in_default-2
read_let-returns-in_default-2 g t c =
    let d = g.D.Dialect.meaning c.args.d.now in
    sym (let_call_lacks c.args.most _ _ _ (sym c.pairs.invariant ∙ let_body_lacks (reader d (c.args.most - 1)) (reader_takes d (c.args.most - 1)) c.args.b c.pairs.pairs _ _ _ _ _ _ c.in_ok-begun.ensures c.in-Body.is c.in_ok-body-in-Body.ensures c.in_default-2.is))

pub read_let-returns-in-Body : goal.read_let-returns-in-Body
read_let-returns-in-Body g t c =
    let d = g.D.Dialect.meaning c.args.d.now in
    c.in_ok-let_in-in-Body.ensures _ ∙ sym (let_call_is c.args.most _ _ _ _ _ _ (sym c.pairs.invariant ∙ let_body_stands (reader d (c.args.most - 1)) (reader_takes d (c.args.most - 1)) c.args.b c.pairs.pairs _ _ _ _ _ _ _ c.in_ok-begun.ensures c.in-Body.is c.in_ok-body-in-Body.ensures c.in-Some-2.is))

pub read_lambda-returns-in-Nothing : goal.read_lambda-returns-in-Nothing
read_lambda-returns-in-Nothing g t c =
    let d = g.D.Dialect.meaning c.args.d.now in
    sym (lambda_call_lacks c.args.most _ _ _ (sym c.parameters.invariant ∙ lambda_nothing (reader d (c.args.most - 1)) (reader_takes d (c.args.most - 1)) c.args.b c.parameters.parameters.items _ _ _ c.in_ok-begun.ensures c.in-Nothing.is))

pub read_lambda-parameters-smaller : goal.read_lambda-parameters-smaller
read_lambda-parameters-smaller g t c =
    let d = g.D.Dialect.meaning c.args.d.now in
    lambda_smaller (reader d (c.args.most - 1)) (reader_takes d (c.args.most - 1)) c.args.b _ _ _ _ c.in_ok-begun.ensures c.in-Variable.is

pub read_lambda-parameters-preserved : goal.read_lambda-parameters-preserved
read_lambda-parameters-preserved g t c =
    let d = g.D.Dialect.meaning c.args.d.now in
    lambda_more (reader d (c.args.most - 1)) (reader_takes d (c.args.most - 1)) c.args.b c.parameters.parameters.items _ _ _ _ _ c.in_ok-begun.ensures c.in-Variable.is c.in_ok-push-in-Variable.ensures.items ∙ c.parameters.invariant

pub read_lambda-returns-in_default : goal.read_lambda-returns-in_default
read_lambda-returns-in_default g t c =
    let d = g.D.Dialect.meaning c.args.d.now in
    sym (lambda_call_lacks c.args.most _ _ _ (sym c.parameters.invariant ∙ lambda_body_lacks (reader d (c.args.most - 1)) (reader_takes d (c.args.most - 1)) c.args.b c.parameters.parameters.items _ _ _ _ _ _ c.in_ok-begun.ensures c.in-Body.is c.in_ok-body-in-Body.ensures c.in_default.is))

pub read_lambda-returns-in-Body : goal.read_lambda-returns-in-Body
read_lambda-returns-in-Body g t c =
    let d = g.D.Dialect.meaning c.args.d.now in
    c.in_ok-lambda-in-Body.ensures _ ∙ sym (lambda_call_is c.args.most _ _ _ _ _ _ (sym c.parameters.invariant ∙ lambda_body_stands (reader d (c.args.most - 1)) (reader_takes d (c.args.most - 1)) c.args.b c.parameters.parameters.items _ _ _ _ _ _ _ c.in_ok-begun.ensures c.in-Body.is c.in_ok-body-in-Body.ensures c.in-Some.is))

pub read_primary-returns-then-b-eq0-2 : goal.read_primary-returns-then-b-eq0-2
read_primary-returns-then-b-eq0-2 g t c = name_shut _ _ _ _ _ _ _ c.in-NameHead.is c.if-b-eq0-2.true

pub read_primary-returns-then-b-eq0-3 : goal.read_primary-returns-then-b-eq0-3
read_primary-returns-then-b-eq0-3 g t c = bracket_shut _ _ _ _ _ _ c.in-Open.is c.if-b-eq0-3.true

pub read_primary-returns-then-b-eq0-4 : goal.read_primary-returns-then-b-eq0-4
read_primary-returns-then-b-eq0-4 g t c = array_shut _ _ _ _ _ _ c.in-OpenBrace.is c.if-b-eq0-4.true

pub read_primary-returns-in_ok-read_name_call-in-NameHead : goal.read_primary-returns-in_ok-read_name_call-in-NameHead
read_primary-returns-in_ok-read_name_call-in-NameHead g t c = c.in_ok-read_name_call-in-NameHead.ensures ∙ name_opens _ _ _ c.args.b _ _ _ c.in-NameHead.is (omega arith)

pub read_primary-returns-in_ok-read_bracketed-in-Open : goal.read_primary-returns-in_ok-read_bracketed-in-Open
read_primary-returns-in_ok-read_bracketed-in-Open g t c = c.in_ok-read_bracketed-in-Open.ensures ∙ bracket_opens _ _ _ c.args.b _ _ c.in-Open.is (omega arith)

pub read_primary-returns-in_ok-read_array-in-OpenBrace : goal.read_primary-returns-in_ok-read_array-in-OpenBrace
read_primary-returns-in_ok-read_array-in-OpenBrace g t c = c.in_ok-read_array-in-OpenBrace.ensures ∙ array_opens _ _ _ c.args.b _ _ c.in-OpenBrace.is (omega arith)

pub read_primary-returns-in_ok-read_leaf-in_default : goal.read_primary-returns-in_ok-read_leaf-in_default
read_primary-returns-in_ok-read_leaf-in_default g t c = c.in_ok-read_leaf-in_default.ensures _ ∙ leaf_is _ _ _ _ _ _ c.in_default.not-FunHead c.in_default.not-NameHead c.in_default.not-Open c.in_default.not-OpenBrace

pub read_list-items-init : goal.read_list-items-init
read_list-items-init g t c = joined_start _ _ c.new-found.ensures

pub read_let-pairs-init : goal.read_let-pairs-init
read_let-pairs-init g t c = parts_start _ _ c.new-pairs.ensures

pub read_lambda-parameters-init : goal.read_lambda-parameters-init
read_lambda-parameters-init g t c = parts_start _ _ c.new-parameters.ensures.items

pub read_postfix-returns-in_ok-apply-in-Some : goal.read_postfix-returns-in_ok-apply-in-Some
read_postfix-returns-in_ok-apply-in-Some g t c =
    taken_turn _ _ _ _ _ _ _ (open_applies _ _ c.args.b _ _ _ _ _ _ (sym c.ahead.ensures ∙ c.in-Open.is) (cc) (omega arith) c.in_ok-skip-in-Open.ensures c.in_ok-found-in-Open.ensures c.in-Some.is) (c.in_ok-apply-in-Some.ensures _) c.taken-in-Some.ensures
