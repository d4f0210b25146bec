use Rattle.std.proofs.Common.{◌≡◌, ◌++◌, chars, flat_map, string_bytes, take}
use Rattle.ic_machine.specs.Fields.{fields_of_place}
use Rattle.ic_machine.specs.Reply.{field_word}
use Rattle.ic_words.specs.Reply.{AreTexts}
use Rattle.ic_words.proofs.fields.cells.VecCellIndexFields.write.Given as goal

abbrev pub invariant-loop-place : goal.invariant-loop-place
invariant-loop-place l = record {
  written : chars (string_bytes l.reply) ≡ chars (string_bytes l.initial.reply) ++ flat_map field_word (flat_map fields_of_place (take l.place-index l.place-items));
  texts : AreTexts (flat_map fields_of_place (take l.place-index l.place-items));
}
