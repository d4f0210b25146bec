use Rattle.std.proofs.Common.{◌≡◌, chars, false, is_err}
use Rattle.ic_import.proofs.ImportLemmas.{locale_put}
use Rattle.ic_import.proofs.import.put_locale.Goals as goal

pub unreachable-requires : goal.unreachable-requires
unreachable-requires c =
    let no : is_err c.set_locale.result ≡ false = (locale_put c.args.model.now c.set_locale.new.self (chars c.args.id.now) c.set_locale.result c.requires c.set_locale.ensures.does).0 in
    let value = c.is_err.ensures.value in
    let yes = c.if-is_err.true in
    cc

pub returns : goal.returns
returns c = (locale_put c.args.model.now c.set_locale.new.self (chars c.args.id.now) c.set_locale.result c.requires c.set_locale.ensures.does).1
