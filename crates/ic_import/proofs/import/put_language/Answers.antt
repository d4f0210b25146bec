use Rattle.std.proofs.Common.{◌≡◌, chars, false, is_err}
use Rattle.ic_import.proofs.ImportLemmas.{language_put}
use Rattle.ic_import.proofs.import.put_language.Goals as goal

pub unreachable-requires : goal.unreachable-requires
unreachable-requires c =
    let no : is_err c.set_language.result ≡ false = (language_put c.args.model.now c.set_language.new.self (chars c.args.id.now) c.set_language.result c.requires c.set_language.ensures.does).0 in
    let value = c.is_err.ensures.value in
    let yes = c.if-is_err.true in
    cc

pub returns : goal.returns
returns c = (language_put c.args.model.now c.set_language.new.self (chars c.args.id.now) c.set_language.result c.requires c.set_language.ensures.does).1
