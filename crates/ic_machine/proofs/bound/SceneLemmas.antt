-- What formulas can mention stays where one sheet gets other cells, another layout or another tab.
use Rattle.std.proofs.Common.{◌≡◌, ℕ, zero, suc, List, [], ◌∷◌, map, Some, Ok, Err, refl, sym, ap, ◌∙◌}
use Rattle.std.specs.Prelude.{slice_get}
use Rattle.ic_laws.specs.CoreBook.{spelling_of}
use Rattle.ic_laws.specs.CoreStep.{updated_at}
use Rattle.ic_laws.specs.declared.scene.Scene.{Scene}
use Rattle.ic_laws.specs.declared.scene.SheetName.{SheetName}
use Rattle.ic_machine.specs.Action.{Action, Asks, ChangesCells, ChangesGrid, ChangesLists, ChangesNotation, ChangesSettings, ChangesTab, leaves_lists}
use Rattle.ic_machine.specs.Book.{Book, Sheet, Stepped, core_sheet, scene_in, with_sheet}
use Rattle.ic_machine.specs.Command.{Command, action}
use Rattle.ic_machine.specs.Kinds.{HasOtherSheet, IsLeftBy, LeavesSo}
use Rattle.ic_machine.specs.Scene.{KeepsSceneIf, leaves_names}
use Rattle.ic_machine.specs.Step.{step}
use Rattle.ic_machine.proofs.kinds.KindLemmas.{left_by_kind}

-- what formulas see of a sheet
abbrev seen : Sheet → SheetName
seen sheet = record { id = sheet.id; name = sheet.name }

abbrev all_seen : List Sheet → List SheetName
all_seen sheets = map (λ s. record { id = s.id; name = s.name }) (map core_sheet sheets)

-- a sheet that is seen as the one in whose place it stands
seen_updated : (index : ℕ) (sheets : List Sheet) (old new : Sheet) → slice_get sheets index ≡ Some old → seen new ≡ seen old → all_seen (updated_at (λ s. new) index sheets) ≡ all_seen sheets
seen_updated index [] old new at same = refl
seen_updated zero (s ∷ sheets) old new at same = let is : s ≡ old = cc in ap (λ m. m ∷ all_seen sheets) (same ∙ ap seen (sym is))
seen_updated (suc index) (s ∷ sheets) old new at same = ap (λ ms. seen s ∷ ms) (seen_updated index sheets old new at same)

module _ (b : Book) where
  -- a book with other sheets, of which the same is seen
  same_scene : (sheets : List Sheet) → all_seen sheets ≡ all_seen b.sheets → scene_in (record b { sheets = sheets }) ≡ scene_in b
  same_scene sheets same = ap (λ (ss : List SheetName). let scene : Scene = record { sheets = ss; names = map spelling_of b.definitions } in scene) same

  pub placed : (index : ℕ) (old new : Sheet) → slice_get b.sheets index ≡ Some old → seen new ≡ seen old → scene_in (with_sheet b index new) ≡ scene_in b
  placed index old new at same = same_scene (updated_at (λ s. new) index b.sheets) (seen_updated index b.sheets old new at same)

  of_sheet : (left : Book) → HasOtherSheet b left → scene_in left ≡ scene_in b
  of_sheet left h = ap scene_in h.is ∙ placed h.index h.old h.new h.there (λ i. record { id = h.id i; name = h.name i })

  by_kind : (a : Action) (stepped : Stepped Book) → LeavesSo (IsLeftBy a) b stepped → KeepsSceneIf (leaves_lists a) b stepped
  by_kind (ChangesLists f) stepped h = tt
  by_kind a (Err refusal) h = tt
  by_kind (Asks f) (Ok done) h = ap scene_in h
  by_kind (ChangesTab index f) (Ok done) h = of_sheet done.0 h
  by_kind (ChangesGrid index f) (Ok done) h = of_sheet done.0 h
  by_kind (ChangesCells f) (Ok done) h = of_sheet done.0 h
  by_kind (ChangesSettings f) (Ok done) h = ap scene_in h
  by_kind (ChangesNotation f) (Ok done) h = ap scene_in h

  pub scene_stays : (command : Command) → KeepsSceneIf (leaves_names command) b (step b command)
  scene_stays command = by_kind (action command) (step b command) (left_by_kind b command)
