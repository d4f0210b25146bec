use Rattle.std.proofs.Common.{◌≡◌, ◌<◌, List, arith, false, subst, sym}
use Rattle.std.specs.List.{AllByRecursion}
use Rattle.std.proofs.lemmas.Bool.Decides.{nat_tests}
use Rattle.ic_laws.specs.CoreBook.{Definition}
use Rattle.ic_laws.specs.Greatest.{greatest}
use Rattle.ic_definitions.specs.Named.{scopes_of}
use Rattle.ic_changes.specs.Copied.{is_copied}
use Rattle.ic_changes.proofs.Uncopied.{none_local, none_shared}
use Rattle.ic_changes.proofs.sheet_copies.definitions.may_copy.Goals as goal

pub returns-in-Local : goal.returns-in-Local
returns-in-Local c = λ e.
    let ds : List Definition = c.args.definitions.now.definitions.now in
    let is = c.greatest_scope.ensures in
    let lt : greatest (scopes_of ds) < c.args.source = grind (arith, nat_tests, is, e) in
    subst (λ kind. AllByRecursion (λ d. is_copied kind c.args.source ds d ≡ false) ds) (sym c.in-Local.is) (none_local c.args.source ds ds lt)

pub returns-in-Shared : goal.returns-in-Shared
returns-in-Shared c = λ e.
    let ds : List Definition = c.args.definitions.now.definitions.now in
    subst (λ kind. AllByRecursion (λ d. is_copied kind c.args.source ds d ≡ false) ds) (sym c.in-Shared.is) (none_shared c.args.source ds ds (c.may_mention_sheet.ensures e))
