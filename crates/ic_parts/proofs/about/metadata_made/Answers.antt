use Rattle.std.specs.Str.{chars}
use Rattle.ic_parts.proofs.about.metadata_made.Goals as goal

pub returns : goal.returns
unfolding chars
returns c = λ i. record {
  application = c.in_ok-application.ensures i;
  app_version = c.in_ok-app_version.ensures i;
  creator = c.in_ok-creator.ensures i;
  last_modified_by = c.in_ok-last_modified_by.ensures i;
  created = c.args.created;
  last_modified = c.in_ok-last_modified.ensures i;
}
