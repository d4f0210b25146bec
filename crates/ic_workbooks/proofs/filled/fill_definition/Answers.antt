use Rattle.std.proofs.Common.{◌∙◌, ap, refl, sym}
use Rattle.ic_laws.specs.CoreBook.{Definition}
use Rattle.ic_laws.specs.CoreStep.{updated_at}
use Rattle.ic_laws.specs.declared.tree.Formula.{Formula}
use Rattle.ic_workbooks.specs.Filled.{contents_scene}
use Rattle.ic_workbooks.proofs.FilledLemmas.{body_found, body_lacks}
use Rattle.ic_workbooks.proofs.filled.fill_definition.Goals as goal

pub returns-in-Some : goal.returns-in-Some
returns-in-Some c =
    let found = body_found c.args.tables.now (contents_scene c.args.contents.now) c.args.name.now c.in-Some.body (sym c.in-Some.is ∙ c.in_ok-body.ensures) in record {
      text = found.0;
      definitions = c.set_body.ensures.bodies ∙ ap (λ (b : Formula). updated_at (λ (d : Definition). record d { body = b }) c.args.index c.args.contents.now.definitions) found.1;
      sheets = refl;
    }

pub returns-in-None : goal.returns-in-None
returns-in-None c = (refl, body_lacks c.args.tables.now (contents_scene c.args.contents.now) c.args.name.now (sym c.in-None.is ∙ c.in_ok-body.ensures))
