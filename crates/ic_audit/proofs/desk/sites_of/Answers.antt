use Rattle.std.proofs.Common.{◌≡◌, ◌≢◌, None, Some, chars, map, subst, sym}
use Rattle.std.specs.Prelude.{IfErr, IfOk}
use Rattle.ic_parts.specs.Sites.{site_of}
use Rattle.ic_parts.specs.Whole.{whole_of}
use Rattle.ic_audit.specs.Asked.{question, sites_asked}
use Rattle.ic_audit.specs.declared.asked.Asked.{Asked}
use Rattle.ic_audit.specs.declared.error.AuditError.TheVariants as errors
use Rattle.ic_audit.proofs.AskedLemmas.{name_found, no_name}
use Rattle.ic_audit.proofs.desk.sites_of.Goals as goal

pub returns-in-Name-clause-sites : goal.returns-in-Name-clause-sites
returns-in-Name-clause-sites c =
    subst (λ (asked : Asked). IfOk c.mentions_of_name.result (λ sites. sites_asked (question asked) (whole_of c.args.model.now.book) ≡ Some (map site_of sites.items))) (sym c.in-Name.is)
    (name_found c.args.model.now.book (chars c.in-Name.name.now) c.in-Name.scope c.mentions_of_name.result c.mentions_of_name.ensures.sites c.mentions_of_name.ensures.refused)

pub returns-in-Name-clause-none : goal.returns-in-Name-clause-none
returns-in-Name-clause-none c =
    subst (λ (asked : Asked). IfErr c.mentions_of_name.result (λ e. e ≢ errors.OutOfMemory → sites_asked (question asked) (whole_of c.args.model.now.book) ≡ None)) (sym c.in-Name.is)
    (no_name c.args.model.now.book (chars c.in-Name.name.now) c.in-Name.scope c.mentions_of_name.result c.mentions_of_name.ensures.refused)
