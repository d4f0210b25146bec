-- An item that is put in among others: what stands where, what becomes of it there, and that it can be taken out again.
use Rattle.std.proofs.Common.{◌≡◌, ℕ, zero, suc, ◌<◌, ◌≤◌, List, [], ◌∷◌, ◌++◌, Bool, Some, length, refl, sym, ap, ap₂, ◌∙◌, arith}
use Rattle.std.proofs.lemmas.List.Edits.{insert_end}
use Rattle.std.specs.List.{AllByRecursion, insert, remove, slice_get}
use Rattle.ic_laws.proofs.core.Lists.{updated_seen}
use Rattle.ic_laws.specs.CoreStep.{moved, put_back, updated_at}
use Rattle.ic_grid.specs.declared.grid.Grid.{Grid}
use Rattle.ic_pool.specs.Pool.{PoolState}
use Rattle.ic_sheets.specs.Rewriting.{look_ups, sheets_of}
use Rattle.ic_sheets.specs.Sheet.{Sheet, sheet_of}
use Rattle.ic_sheets.specs.declared.sheet.Sheet.{Sheet as HeldSheet}
use Rattle.ic_sheets.specs.declared.tab.Tab.{Tab}

module _ {X : Type 0} where
  -- the item is there
  pub got_inserted : (xs : List X) (index : ℕ) (x : X) → index ≤ length xs → slice_get (insert xs index x) index ≡ Some x
  got_inserted xs zero x le = refl
  got_inserted [] (suc index) x le = absurd (omega (arith, le))
  got_inserted (y ∷ xs) (suc index) x le = got_inserted xs index x (omega (arith, le))

  -- those before it stand where they stood
  pub got_before : (xs : List X) (index k : ℕ) (x : X) → k < index → index ≤ length xs → slice_get (insert xs index x) k ≡ slice_get xs k
  got_before xs zero k x lt le = absurd (omega (arith, lt))
  got_before [] (suc index) k x lt le = absurd (omega (arith, le))
  got_before (y ∷ xs) (suc index) zero x lt le = refl
  got_before (y ∷ xs) (suc index) (suc k) x lt le = got_before xs index k x (omega (arith, lt)) (omega (arith, le))

  -- without it the others are left
  pub inserted_removed : (xs : List X) (index : ℕ) (x : X) → index ≤ length xs → remove (insert xs index x) index ≡ xs
  inserted_removed xs zero x le = refl
  inserted_removed [] (suc index) x le = absurd (omega (arith, le))
  inserted_removed (y ∷ xs) (suc index) x le = ap (λ (zs : List X). y ∷ zs) (inserted_removed xs index x (omega (arith, le)))

  -- it alone changes
  pub inserted_updated : (f : X → X) (xs : List X) (index : ℕ) (x : X) → index ≤ length xs → updated_at f index (insert xs index x) ≡ insert xs index (f x)
  inserted_updated f xs zero x le = refl
  inserted_updated f [] (suc index) x le = absurd (omega (arith, le))
  inserted_updated f (y ∷ xs) (suc index) x le = ap (λ (zs : List X). y ∷ zs) (inserted_updated f xs index x (omega (arith, le)))

  pub all_inserted : (P : X → Type 0) (xs : List X) (index : ℕ) (x : X) → AllByRecursion P xs → P x → AllByRecursion P (insert xs index x)
  all_inserted P xs zero x all one = (one, all)
  all_inserted P [] (suc index) x all one = (one, tt)
  all_inserted P (y ∷ xs) (suc index) x all one = (all.0, all_inserted P xs index x all.1 one)

  -- at the end
  pub inserted_last : (xs : List X) (index : ℕ) (x : X) → index ≡ length xs → insert xs index x ≡ xs ++ x ∷ []
  inserted_last xs index x end = ap (λ n. insert xs n x) end ∙ insert_end xs x

  -- it is put at the end, and moved there
  pub moved_among : (old between new : List X) (last index : ℕ) (x : X) → last ≡ length old → between ≡ old ++ x ∷ [] → new ≡ moved last index between → new ≡ insert old index x
  moved_among old between new last index x end pushed moves =
      moves ∙ ap₂ (λ n xs. moved n index xs) end (pushed ∙ sym (inserted_last old (length old) x refl))
      ∙ ap₂ (put_back index) (inserted_removed old (length old) x (omega arith)) (got_inserted old (length old) x (omega arith))

-- ---- a sheet that was put in is filled

module _ (pool : PoolState) (grid : Grid) (tab : Tab) (index : ℕ) where
  abbrev pub held_filled : HeldSheet → HeldSheet
  held_filled s = record s { pool = pool; grid = grid; tab = tab }

  abbrev pub sheet_filled : Sheet → Sheet
  sheet_filled s = record s { pool = pool.formulas; grid = grid; tab = tab }

  pub filled_sheets : (sheets : List HeldSheet) (others : List Sheet) (s : Sheet) → index ≤ length others → sheets_of sheets ≡ insert others index s → sheets_of (updated_at held_filled index sheets) ≡ insert others index (sheet_filled s)
  filled_sheets sheets others s within made =
      updated_seen sheet_of held_filled sheet_filled (λ x. refl) index sheets ∙ ap (updated_at sheet_filled index) made ∙ inserted_updated sheet_filled others index s within

  pub filled_look_ups : (sheets : List HeldSheet) (others : List Bool) (whole : Bool) → index ≤ length others → look_ups sheets ≡ insert others index whole → look_ups (updated_at held_filled index sheets) ≡ insert others index pool.is_whole
  filled_look_ups sheets others whole within made =
      updated_seen (λ (x : HeldSheet). x.pool.is_whole) held_filled (λ b. pool.is_whole) (λ x. refl) index sheets ∙ ap (updated_at (λ b. pool.is_whole) index) made
      ∙ inserted_updated (λ b. pool.is_whole) others index whole within
