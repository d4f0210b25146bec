use Rattle.std.proofs.Common.{◌≡◌, Some, chars, codes, sym, ap, w32, ◌∙◌}
use Rattle.std.proofs.lemmas.Int.{to_z-of_z}
use Rattle.ic_tables.specs.Tables.{language_of}
use Rattle.ic_tree.proofs.Literals.{literal}
use Rattle.ic_tree.proofs.ShownLemmas.{meaning_told}
use Rattle.ic_tree.specs.laws.ShownLaws.{speaks_beside}
use Rattle.ic_tree.proofs.shown.Shown.new.Goals as goal

pub invariant_of-result : goal.invariant_of-result
invariant_of-result c =
    record {
      good = speaks_beside c.args.tables.now c.unwrap.result.language.now c.get_default_words.result.language.now (rw c.unwrap.ensures at c.get_words.ensures.words) c.get_default_words.ensures.words c.get_default_words.ensures.found;
    }

pub returns : goal.returns
unfolding literal
returns c =
    let words : language_of c.args.tables.now (chars c.as_str.result.now) ≡ Some c.unwrap.result.language.now = rw c.unwrap.ensures at c.get_words.ensures.found in
    meaning_told (language_of c.args.tables.now (codes "en")) c.args.language.now c.unwrap.result.language.now c.get_default_words.result.language.now c.args.locale.now c.is.result c.args.row c.args.column
    _ _ (to_z-of_z w32 c.args.row c.ranges.row) (to_z-of_z w32 c.args.column c.ranges.column)
    c.get_default_words.ensures.found
    (sym c.requires.language ∙ ap (language_of c.args.tables.now) (sym c.as_str.ensures.characters) ∙ words) c.requires.locale.separators c.is.ensures
