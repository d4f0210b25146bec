use Rattle.std.proofs.Common.{◌≡◌, ◌-◌, ◌+◌, ◌*◌, length}
use Rattle.ic_laws.specs.Parse.{argument, binary, past_separator, postfix, reader, turns}
use Rattle.ic_tree.specs.Listing.{all_lambda, all_let, all_listed, joined_to, parts_joined}
use Rattle.ic_tree.proofs.reader.+read.Given as goal

abbrev pub decreases-read : goal.decreases-read
decreases-read g l = 10 * l.most + 9

abbrev pub decreases-read_from : goal.decreases-read_from
decreases-read_from g l = 10 * l.most + 8

abbrev pub decreases-read_operand : goal.decreases-read_operand
decreases-read_operand g l = 10 * l.most + 7

abbrev pub decreases-read_primary : goal.decreases-read_primary
decreases-read_primary g l = 10 * l.most + 6

abbrev pub decreases-read_postfixes : goal.decreases-read_postfixes
decreases-read_postfixes g l = 10 * l.most + 5

abbrev pub decreases-read_function : goal.decreases-read_function
decreases-read_function g l = 10 * l.most + 5

abbrev pub decreases-read_name_call : goal.decreases-read_name_call
decreases-read_name_call g l = 10 * l.most + 5

abbrev pub decreases-read_postfix : goal.decreases-read_postfix
decreases-read_postfix g l = 10 * l.most + 4

abbrev pub decreases-read_arguments : goal.decreases-read_arguments
decreases-read_arguments g l = 10 * l.most + 3

abbrev pub decreases-read_list : goal.decreases-read_list
decreases-read_list g l = 10 * l.most + 2

abbrev pub decreases-read_argument : goal.decreases-read_argument
decreases-read_argument g l = 10 * l.most + 1

abbrev pub decreases-read_bracketed : goal.decreases-read_bracketed
decreases-read_bracketed g l = 10 * l.most

abbrev pub decreases-read_binaries : goal.decreases-read_binaries
decreases-read_binaries g l = 10 * l.most + 1

abbrev pub decreases-read_binary : goal.decreases-read_binary
decreases-read_binary g l = 10 * l.most

abbrev pub decreases-read_let : goal.decreases-read_let
decreases-read_let g l = 10 * l.most + 1

abbrev pub decreases-read_lambda : goal.decreases-read_lambda
decreases-read_lambda g l = 10 * l.most + 1

abbrev pub decreases-read_value : goal.decreases-read_value
decreases-read_value g l = 10 * l.most

abbrev pub decreases-read_body : goal.decreases-read_body
decreases-read_body g l = 10 * l.most

abbrev pub invariant-read_binaries-turns : goal.invariant-read_binaries-turns
invariant-read_binaries-turns g l =
    turns (binary l.most (reader (g.D.Dialect.meaning l.d) (l.most - 1)) l.b l.least) (l.most - l.turn) l.left (g.S.TokenSource.left l.source)
    ≡ turns (binary l.most (reader (g.D.Dialect.meaning l.d) (l.most - 1)) l.b l.least) l.most l.initial.left (g.S.TokenSource.left l.initial.source)

abbrev pub invariant-read_postfixes-turns : goal.invariant-read_postfixes-turns
invariant-read_postfixes-turns g l =
    turns (postfix l.most (reader (g.D.Dialect.meaning l.d) (l.most - 1)) l.b) (l.most - l.turn) l.left (g.S.TokenSource.left l.source)
    ≡ turns (postfix l.most (reader (g.D.Dialect.meaning l.d) (l.most - 1)) l.b) l.most l.initial.left (g.S.TokenSource.left l.initial.source)

abbrev pub invariant-read_list-items : goal.invariant-read_list-items
invariant-read_list-items g l =
    joined_to l.found (all_listed (argument (reader (g.D.Dialect.meaning l.d) (l.most - 1)) l.b) past_separator (g.S.TokenSource.left l.source))
    ≡ all_listed (argument (reader (g.D.Dialect.meaning l.d) (l.most - 1)) l.b) past_separator (g.S.TokenSource.left l.initial.source)

abbrev pub decreases-read_list-items : goal.decreases-read_list-items
decreases-read_list-items g l = length (g.S.TokenSource.left l.source)

abbrev pub invariant-read_let-pairs : goal.invariant-read_let-pairs
invariant-read_let-pairs g l =
    parts_joined l.pairs (all_let (reader (g.D.Dialect.meaning l.d) (l.most - 1)) l.b (g.S.TokenSource.left l.source))
    ≡ all_let (reader (g.D.Dialect.meaning l.d) (l.most - 1)) l.b (g.S.TokenSource.left l.initial.source)

abbrev pub decreases-read_let-pairs : goal.decreases-read_let-pairs
decreases-read_let-pairs g l = length (g.S.TokenSource.left l.source)

abbrev pub invariant-read_lambda-parameters : goal.invariant-read_lambda-parameters
invariant-read_lambda-parameters g l =
    parts_joined l.parameters.items (all_lambda (reader (g.D.Dialect.meaning l.d) (l.most - 1)) l.b (g.S.TokenSource.left l.source))
    ≡ all_lambda (reader (g.D.Dialect.meaning l.d) (l.most - 1)) l.b (g.S.TokenSource.left l.initial.source)

abbrev pub decreases-read_lambda-parameters : goal.decreases-read_lambda-parameters
decreases-read_lambda-parameters g l = length (g.S.TokenSource.left l.source)
