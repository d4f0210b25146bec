use Rattle.std.proofs.Common.{◌≡◌, ◌++◌, chars, flat_map, string_bytes, take}
use Rattle.ic_machine.specs.Fields.{fields_of_sheet}
use Rattle.ic_machine.specs.Reply.{field_word}
use Rattle.ic_words.specs.Reply.{AreTexts}
use Rattle.ic_words.proofs.fields.VecSheetPropertiesFields.write.Given as goal

abbrev pub invariant-loop-sheet : goal.invariant-loop-sheet
invariant-loop-sheet l = record {
  written : chars (string_bytes l.reply) ≡ chars (string_bytes l.initial.reply) ++ flat_map field_word (flat_map fields_of_sheet (take l.sheet-index l.sheet-items));
  texts : AreTexts (flat_map fields_of_sheet (take l.sheet-index l.sheet-items));
}
