use Rattle.ic_parts.proofs.copies.copy_metadata.Goals as goal

pub returns : goal.returns
returns c = λ i. record {
  application = c.in_ok-application.ensures i;
  app_version = c.in_ok-app_version.ensures i;
  creator = c.in_ok-creator.ensures i;
  last_modified_by = c.in_ok-last_modified_by.ensures i;
  created = c.in_ok-created.ensures i;
  last_modified = c.in_ok-last_modified.ensures i;
}
