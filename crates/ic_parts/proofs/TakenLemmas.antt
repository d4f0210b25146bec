-- What is known of numbers that are taken: as sheets come, and as more is noted.
use Rattle.std.proofs.Common.{◌≡◌, ℕ, ◌+◌, ◌<◌, ◌^◌, List, ◌++◌, Bool, true, false, cond, Option, Some, None, IfSome, Result, Ok, Err, OnOk, OnErr}
use Rattle.std.proofs.Common.{String, bytes_eq, chars, string_bytes, refl, sym, ap, subst}
use Rattle.std.proofs.lemmas.Map.Text.{btree_map_updates_text}
use Rattle.std.proofs.lemmas.Slice.Eq.{bytes_eq-Decides}
use Rattle.std.specs.BTreeMap.{BTreeMap, IsUnchanged, UpdatesBy, get_by_text}
use Rattle.std.specs.Cmp.Lexicographic.{slice_cmp}
use Rattle.std.specs.Fmt.{decimal}
use Rattle.std.specs.List.{list_any}
use Rattle.std.specs.Map.{lookup}
use Rattle.std.specs.Ordering.{nat_cmp}
use Rattle.std.specs.String.{string_cmp}
use Rattle.std.specs.declared.alloc.Global.{Global}
use Rattle.ic_laws.specs.Name.{agrees}
use Rattle.ic_machine.specs.subjects.Sheets.{copy_name}
use Rattle.ic_parts.specs.SheetNames.{AreNoted, AreTaken, IsNoted, KnowsNumbers, Notes}
use Rattle.ic_parts.specs.declared.taken_numbers.TakenNumbers.{TakenNumbers}

-- ---- as sheets come

module _ (before after : List (List ℕ)) (stays : (name : List ℕ) → list_any (agrees name) before ≡ true → list_any (agrees name) after ≡ true) where
  noted_more : (notes : BTreeMap (String Global) ℕ) (name : List ℕ → ℕ → List ℕ) → AreNoted notes name before → AreNoted notes name after
  noted_more notes name all key = step (get_by_text notes key) (all key)
    where
      step : (o : Option ℕ) → IfSome o (IsNoted before (name key)) → IfSome o (IsNoted after (name key))
      step None h = tt
      step (Some count) h = (h.0, λ n less. stays (name key (n + 1)) (h.1 n less))

  -- what is known stays true where each name that was there still is
  pub knows_more : (numbers : TakenNumbers) → KnowsNumbers numbers before → KnowsNumbers numbers after
  knows_more numbers all = record {
    words = noted_more numbers.words (λ word n. chars word ++ decimal n) all.words;
    copies = noted_more numbers.copies (λ source. copy_name (chars source)) all.copies;
  }

-- ---- as more is noted

module _ (number : ℕ) (small : number < 2 ^ 64) (before after : BTreeMap (String Global) ℕ) where
  notes_put : (key : List ℕ) → ((q : List ℕ) → get_by_text after q ≡ cond (bytes_eq key q) (Some number) (get_by_text before q))
      → Notes key number before after
  notes_put key put name taken all here q =
      subst (λ o. IfSome o (IsNoted taken (name q))) (sym (put q)) (step (bytes_eq key q) (λ e. (bytes_eq-Decides key q).0 e))
    where
      step : (b : Bool) → (b ≡ true → key ≡ q) → IfSome (cond b (Some number) (get_by_text before q)) (IsNoted taken (name q))
      step true same = (small, subst (λ k. AreTaken taken (name k) number) (same refl) here)
      step false same = all q

  notes_same : (key : List ℕ) → after.entries ≡ before.entries → Notes key number before after
  notes_same key same name taken all here q = subst (λ o. IfSome o (IsNoted taken (name q))) (sym (ap (lookup _) same)) (all q)

  -- so it is where a number may be put to a key
  pub notes_tried : {T E : Type 0} (r : Result T E) (key : String Global) (bytes : List ℕ) → string_bytes key ≡ bytes
      → OnOk r (UpdatesBy string_cmp (λ k. slice_cmp nat_cmp (string_bytes key) (string_bytes k)) before after (Some number))
      → OnErr r (IsUnchanged before after) → Notes bytes number before after
  notes_tried (Ok v) key bytes is put same =
      subst (λ bs. Notes bs number before after) is (notes_put (string_bytes key) (btree_map_updates_text (string_bytes key) before after (Some number) put))
  notes_tried (Err e) key bytes is put same = notes_same bytes same
