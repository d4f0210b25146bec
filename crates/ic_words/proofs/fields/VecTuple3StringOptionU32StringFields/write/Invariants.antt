use Rattle.std.proofs.Common.{◌≡◌, ◌++◌, chars, flat_map, string_bytes, take}
use Rattle.ic_machine.specs.Fields.{fields_of_definition}
use Rattle.ic_machine.specs.Reply.{field_word}
use Rattle.ic_words.specs.Reply.{AreTexts}
use Rattle.ic_words.proofs.fields.VecTuple3StringOptionU32StringFields.write.Given as goal

abbrev pub invariant-loop-listed : goal.invariant-loop-listed
invariant-loop-listed l = record {
  written : chars (string_bytes l.reply) ≡ chars (string_bytes l.initial.reply) ++ flat_map field_word (flat_map fields_of_definition (take l.listed-index l.listed-items));
  texts : AreTexts (flat_map fields_of_definition (take l.listed-index l.listed-items));
}
