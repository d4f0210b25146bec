-- What finds sheets and definitions by their names still does, where neither names nor keys change; and what it finds.
use Rattle.std.proofs.Common.{◌≡◌, ◌∙◌, map, sym, ap, subst}
use Rattle.ic_laws.specs.Scene.{key_of}
use Rattle.ic_laws.specs.declared.scene.Scene.{Scene}
use Rattle.ic_laws.specs.declared.scene.SheetName.{SheetName}
use Rattle.ic_definitions.proofs.NamedLemmas as named_definitions
use Rattle.ic_sheets.proofs.KeptLemmas.{finds_same}
use Rattle.ic_sheets.specs.declared.sheet.Sheet.{Sheet as HeldSheet}
use Rattle.ic_workbooks.specs.Filled.{contents_scene}
use Rattle.ic_parts.specs.Names.{IsIndexed}
use Rattle.ic_parts.specs.SheetNames.{KnowsNumbers}
use Rattle.ic_parts.specs.declared.contents.Contents.{Contents}
use Rattle.ic_parts.specs.declared.names.NameIndex.{NameIndex}
use Rattle.ic_parts.proofs.NameIndexLemmas.{named_names}
use Rattle.ic_parts.proofs.NameIndexLemmas.{named_ids}
use Rattle.ic_parts.proofs.NameIndexLemmas.{spelled_keys}

pub indexed_scene : (index : NameIndex) (before now : Contents) → IsIndexed index before.sheets before.definitions → contents_scene now ≡ contents_scene before → IsIndexed index now.sheets now.definitions
indexed_scene index before now was same =
    let same_names : map (λ (s : HeldSheet). s.name) now.sheets ≡ map (λ (s : HeldSheet). s.name) before.sheets = sym (named_names now.sheets) ∙ ap (λ (s : Scene). map (λ (m : SheetName). m.name) s.sheets) same ∙ named_names before.sheets in
    record {
      sheets = finds_same index.sheets before.sheets now.sheets was.sheets same_names
          (sym (named_ids now.sheets) ∙ ap (λ (s : Scene). map (λ (m : SheetName). m.id) s.sheets) same ∙ named_ids before.sheets);
      names = named_definitions.finds_same index.names before.definitions now.definitions was.names
          (sym (spelled_keys now.definitions) ∙ ap (λ (s : Scene). map key_of s.names) same ∙ spelled_keys before.definitions);
      numbers = subst (KnowsNumbers index.numbers) (sym same_names) was.numbers;
    }
