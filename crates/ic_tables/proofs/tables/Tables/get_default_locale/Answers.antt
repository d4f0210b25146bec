use Rattle.std.proofs.Common.{◌≡◌, Option, Some, codes, option_map, refl, subst}
use Rattle.std.specs.Str.{chars}
use Rattle.ic_tables.specs.Tables.{TableSet, IsWellFormed}
use Rattle.ic_tables.proofs.Lookups.{found-is_some}
use Rattle.ic_tables.proofs.WellFormed.{formats_of_found, has_english}
use Rattle.ic_tables.proofs.tables.Tables.get_default_locale.Goals as goal

-- what was found has the part
found-part : {A B C : Type 0} (f : A → B) (g : B → C) (o : Option A) (found : Option B) (x : A)
    → o ≡ Some x → option_map f o ≡ found → option_map g found ≡ Some (g (f x))
found-part f g o found x e h = rw (← h, e) refl

pub unwrap-requires : goal.unwrap-requires
unfolding chars
unwrap-requires c =
    let t : TableSet = record {
      languages = c.self.inside.languages;
      locales = c.self.inside.locales;
      zones = c.self.inside.zones;
      kinds = c.self.inside.kinds;
    } in
    found-is_some (λ found. found.now) (λ l. l.id) (codes "en") c.self.inside.locales c.find_id.result (rw c.as_slice.ensures at c.find_id.ensures)
    (has_english t c.self.invariant).1

pub returns-clause-found : goal.returns-clause-found
unfolding chars
returns-clause-found c =
    rw (← c.self.view_is)
    (found-part (λ found. found.now) (λ n. n.locale) c.find_id.result _ c.unwrap.result c.unwrap.ensures (rw c.as_slice.ensures at c.find_id.ensures))

pub returns-clause-formats : goal.returns-clause-formats
returns-clause-formats c =
    formats_of_found c.args.self.now (subst IsWellFormed c.self.view_is c.self.invariant) (codes "en") _ (returns-clause-found c)
