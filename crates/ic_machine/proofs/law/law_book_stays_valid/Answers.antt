use Rattle.ic_machine.proofs.valid.ArraysStay.{arrays_stay}
use Rattle.ic_machine.proofs.valid.NamesStay.{definitions_stay, sheets_stay}
use Rattle.ic_machine.proofs.valid.StylesStay.{styles_stay}
use Rattle.ic_machine.proofs.valid.SubjectsStay.{extending_stays, layout_stays, notation_stays, reading_stays, tabs_are}
use Rattle.ic_machine.proofs.valid.WritingSteps.{writing_stays}
use Rattle.ic_machine.proofs.law.law_book_stays_valid.Goals as goal

pub returns : goal.returns
returns c = record {
  notation = notation_stays;
  writing = writing_stays;
  reading = reading_stays;
  extending = extending_stays;
  styles = styles_stay;
  layout = layout_stays;
  tabs = tabs_are;
  sheets = λ b command valid. sheets_stay b valid command;
  definitions = λ b command valid. definitions_stay b valid command;
  arrays = λ b command valid. arrays_stay b valid command;
}
