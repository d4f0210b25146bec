use Rattle.std.proofs.Common.{codes, subst, sym}
use Rattle.std.specs.Str.{chars}
use Rattle.ic_tables.specs.Tables.{TableSet, IsWellFormed}
use Rattle.ic_tables.proofs.Lookups.{found-is_some}
use Rattle.ic_tables.proofs.WellFormed.{english_words, good_words, has_english, language_among}
use Rattle.ic_tables.proofs.tables.Tables.get_default_words.Goals as goal

pub unwrap-requires : goal.unwrap-requires
unfolding chars
unwrap-requires c =
    let t : TableSet = record {
      languages = c.self.inside.languages;
      locales = c.self.inside.locales;
      zones = c.self.inside.zones;
      kinds = c.self.inside.kinds;
    } in
    found-is_some (λ w. w.language.now) (λ l. l.code) (codes "en") c.self.inside.languages c.words.result c.words.ensures (has_english t c.self.invariant).0

pub returns-clause-found : goal.returns-clause-found
unfolding chars
returns-clause-found c = let h = rw c.unwrap.ensures at c.words.ensures in rw (← c.self.view_is) (sym h)

pub returns-clause-words : goal.returns-clause-words
returns-clause-words c =
    let well = subst IsWellFormed c.self.view_is c.self.invariant in
    good_words c.args.self.now well c.unwrap.result.language.now
    (language_among c.args.self.now (codes "en") c.unwrap.result.language.now (returns-clause-found c)).0

pub returns-clause-stored : goal.returns-clause-stored
returns-clause-stored c =
    english_words c.args.self.now (subst IsWellFormed c.self.view_is c.self.invariant) c.unwrap.result.language.now (returns-clause-found c)
