use Rattle.ic_machine.proofs.bound.BindsLemmas.{added_is_meant, defined_is_meant, deleted_is_not_meant, renamed_by_name_is_meant, renamed_is_meant}
use Rattle.ic_machine.proofs.bound.CopiedBinds.{copied_is_meant}
use Rattle.ic_machine.proofs.bound.CopiedWords.{copied_means_same}
use Rattle.ic_machine.proofs.bound.InsertedBinds.{inserted_is_meant}
use Rattle.ic_machine.proofs.valid.NewSheetStays.{new_is_meant}
use Rattle.ic_machine.proofs.bound.UpdatedBinds.{updated_is_meant}
use Rattle.ic_machine.proofs.law.law_bound_is_named.Goals as goal

pub returns : goal.returns
returns c = record { added = added_is_meant; new = new_is_meant; inserted = inserted_is_meant; copied = copied_is_meant; copy = copied_means_same; renamed = renamed_is_meant; by_name = renamed_by_name_is_meant; defined = defined_is_meant; deleted = deleted_is_not_meant; updated = updated_is_meant }
