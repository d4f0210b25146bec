-- What a plain search finds as sheets come, go and change their names, and that an index keeps up with it.
use Rattle.std.proofs.Common.{◌≡◌, ℕ, zero, suc, ◌<◌, List, [], ◌∷◌, ◌++◌, Bool, true, false, cond, Option, Some, None, refl, sym, ap, ap₂, subst, ◌∙◌, append-nil, take, drop, length, get_or, slice_set, encode_utf8_all, String, bytes_eq, arith}
use Rattle.std.specs.List.{AllByRecursion, IsDistinct, remove}
use Rattle.std.specs.List.Sorted.{IsPermutation}
use Rattle.std.specs.Map.{lookup}
use Rattle.std.specs.BTreeMap.{BTreeMap, get_by_text, IsEmpty}
use Rattle.std.specs.declared.alloc.Global.{Global}
use Rattle.std.proofs.lemmas.Slice.Eq.{bytes_eq-Decides}
use Rattle.std.proofs.lemmas.List.Sorted.{IsPermutation-middle, IsPermutation-sym, IsPermutation-map}
use Rattle.std.proofs.lemmas.Map.Keys.{IsDistinct-head, IsDistinct-tail, IsDistinct-cons, IsDistinct-IsPermutation}
use Rattle.ic_laws.specs.Name.{fold, agrees}
use Rattle.ic_sheets.specs.declared.sheet.Sheet.{Sheet}
use Rattle.ic_sheets.specs.Search.{id_of}
use Rattle.ic_sheets.specs.Index.{FindsSheets}
use Rattle.ic_sheets.proofs.SearchLemmas.{ids, names}
use Rattle.ic_laws.specs.CoreStep.{updated_at}
use Rattle.ic_cells.proofs.TextLemmas.{same_bytes as same_encoded}
use Rattle.ic_pool.proofs.KeyLemmas.{clash}
use Rattle.ic_laws.proofs.General.{bytes_eq-flip, either_order as swap_choices, clear_cause as not_taken}

abbrev pub Index : Type 0
Index = BTreeMap (String Global) ℕ

-- a look-up finds the sheets by their names, no two of which agree
pub record IsIndexed (index : Index) (sheets : List Sheet) : Type 0 where
  pub finds : FindsSheets index sheets
  pub differ : IsDistinct agrees (names sheets)

-- ---- equality of keys

pub agrees-flip : (a b : List ℕ) → agrees a b ≡ agrees b a
agrees-flip a b = bytes_eq-flip (fold a) (fold b)

-- ---- choices

-- ---- the plain search

-- where no name has the new key, a sheet put in between is found by its key, and all else as before
pub id_of-middle : (front back : List Sheet) (s : Sheet) → id_of (fold s.name) (front ++ back) ≡ None → (key : List ℕ) → id_of key (front ++ s ∷ back) ≡ cond (bytes_eq (fold s.name) key) (Some s.id) (id_of key (front ++ back))
id_of-middle [] back s none key = ap (λ b. cond b (Some s.id) (id_of key back)) (bytes_eq-flip key (fold s.name))
id_of-middle (x ∷ front) back s none key =
    let apart = not_taken (bytes_eq (fold s.name) (fold x.name)) x.id (id_of (fold s.name) (front ++ back)) none in
    ap (cond (bytes_eq key (fold x.name)) (Some x.id)) (id_of-middle front back s apart.1 key)
    ∙ swap_choices (bytes_eq key (fold x.name)) (bytes_eq (fold s.name) key) (Some x.id) (Some s.id) (id_of key (front ++ back))
    (λ t b.
    let same : fold s.name ≡ fold x.name = (bytes_eq-Decides (fold s.name) key).0 b ∙ (bytes_eq-Decides key (fold x.name)).0 t in
    clash (bytes_eq (fold s.name) (fold x.name)) ((bytes_eq-Decides (fold s.name) (fold x.name)).1 same) apart.0)

-- so without it, its key finds nothing, and all else is found as before
pub id_of-without : (front back : List Sheet) (s : Sheet) → id_of (fold s.name) (front ++ back) ≡ None → (key : List ℕ) → id_of key (front ++ back) ≡ cond (bytes_eq (fold s.name) key) None (id_of key (front ++ s ∷ back))
id_of-without front back s none key =
    by_test (bytes_eq (fold s.name) key) (λ b. sym (ap (λ k. id_of k (front ++ back)) ((bytes_eq-Decides (fold s.name) key).0 b)) ∙ none)
    ∙ ap (cond (bytes_eq (fold s.name) key) None) (sym (id_of-middle front back s none key))
  where
    by_test : (b : Bool) → (b ≡ true → id_of key (front ++ back) ≡ None) → id_of key (front ++ back) ≡ cond b None (cond b (Some s.id) (id_of key (front ++ back)))
    by_test true h = h refl
    by_test false h = refl

-- ---- names that differ

pub none_agrees : (name : List ℕ) (sheets : List Sheet) → AllByRecursion (λ y. agrees name y ≡ false) (names sheets) → id_of (fold name) sheets ≡ None
none_agrees name [] h = refl
none_agrees name (s ∷ sheets) h = ap (λ b. cond b (Some s.id) (id_of (fold name) sheets)) h.0 ∙ none_agrees name sheets h.1

all_apart : (name : List ℕ) (sheets : List Sheet) → id_of (fold name) sheets ≡ None → AllByRecursion (λ y. agrees name y ≡ false) (names sheets)
all_apart name [] e = tt
all_apart name (s ∷ sheets) e =
    let apart = not_taken (agrees name s.name) s.id (id_of (fold name) sheets) e in (apart.0, all_apart name sheets apart.1)

to_front : (front back : List Sheet) (s : Sheet) → IsPermutation (names (front ++ s ∷ back)) (s.name ∷ names (front ++ back))
to_front front back s = IsPermutation-map (λ (s : Sheet). s.name) (front ++ s ∷ back) (s ∷ (front ++ back)) (IsPermutation-middle front s back)

pub alone : (front back : List Sheet) (s : Sheet) → IsDistinct agrees (names (front ++ s ∷ back)) → id_of (fold s.name) (front ++ back) ≡ None
alone front back s d =
    none_agrees s.name (front ++ back)
    (IsDistinct-head agrees s.name (names (front ++ back)) (IsDistinct-IsPermutation agrees agrees-flip _ _ (to_front front back s) d))

pub differ-without : (front back : List Sheet) (s : Sheet) → IsDistinct agrees (names (front ++ s ∷ back)) → IsDistinct agrees (names (front ++ back))
differ-without front back s d = IsDistinct-tail agrees s.name (names (front ++ back)) (IsDistinct-IsPermutation agrees agrees-flip _ _ (to_front front back s) d)

pub differ-middle : (front back : List Sheet) (s : Sheet) → IsDistinct agrees (names (front ++ back)) → id_of (fold s.name) (front ++ back) ≡ None → IsDistinct agrees (names (front ++ s ∷ back))
differ-middle front back s d none =
    IsDistinct-IsPermutation agrees agrees-flip _ _ (IsPermutation-sym _ _ (to_front front back s))
    (IsDistinct-cons agrees s.name (names (front ++ back)) (all_apart s.name (front ++ back) none) d)

-- ---- the index keeps up

pub IsIndexed-empty : (index : Index) (sheets : List Sheet) → IsEmpty index → sheets ≡ [] → IsIndexed index sheets
unfolding IsDistinct
IsIndexed-empty index sheets empty none =
    subst (IsIndexed index) (sym none) (record { finds = λ key. ap (lookup _) empty; differ = tt })

pub IsIndexed-add : (before after : Index) (sheets list : List Sheet) (s : Sheet) → IsIndexed before sheets → id_of (fold s.name) sheets ≡ None → ((q : List ℕ) → get_by_text after (encode_utf8_all q) ≡ cond (bytes_eq (fold s.name) q) (Some s.id) (get_by_text before (encode_utf8_all q))) → list ≡ sheets ++ s ∷ [] → IsIndexed after list
IsIndexed-add before after sheets list s indexed none u pushed =
    let whole : sheets ++ [] ≡ sheets = append-nil sheets in
    let none_here : id_of (fold s.name) (sheets ++ []) ≡ None = ap (id_of (fold s.name)) whole ∙ none in
    subst (IsIndexed after) (sym pushed)
    (record {
      finds = λ key.
          u key ∙ ap (cond (bytes_eq (fold s.name) key) (Some s.id)) (indexed.finds key ∙ ap (id_of key) (sym whole))
          ∙ sym (id_of-middle sheets [] s none_here key);
      differ = differ-middle sheets [] s (subst (λ x. IsDistinct agrees (names x)) (sym whole) indexed.differ) none_here;
    })

pub IsIndexed-remove : (before after : Index) (front back : List Sheet) (s : Sheet) → IsIndexed before (front ++ s ∷ back) → ((q : List ℕ) → get_by_text after (encode_utf8_all q) ≡ cond (bytes_eq (fold s.name) q) None (get_by_text before (encode_utf8_all q))) → IsIndexed after (front ++ back)
IsIndexed-remove before after front back s indexed u =
    let none = alone front back s indexed.differ in
    record {
      finds = λ key. u key ∙ ap (cond (bytes_eq (fold s.name) key) None) (indexed.finds key) ∙ sym (id_of-without front back s none key);
      differ = differ-without front back s indexed.differ;
    }

pub IsIndexed-rename : (before after : Index) (front back : List Sheet) (s t : Sheet) → IsIndexed before (front ++ s ∷ back) → id_of (fold t.name) (front ++ back) ≡ None → ((q : List ℕ) → get_by_text after (encode_utf8_all q) ≡ cond (bytes_eq (fold t.name) q) (Some t.id) (cond (bytes_eq (fold s.name) q) None (get_by_text before (encode_utf8_all q)))) → IsIndexed after (front ++ t ∷ back)
IsIndexed-rename before after front back s t indexed free u =
    let none = alone front back s indexed.differ in
    record {
      finds = λ key.
          u key
          ∙ ap (cond (bytes_eq (fold t.name) key) (Some t.id))
          (ap (cond (bytes_eq (fold s.name) key) None) (indexed.finds key) ∙ sym (id_of-without front back s none key))
          ∙ sym (id_of-middle front back t free key);
      differ = differ-middle front back t (differ-without front back s indexed.differ) free;
    }

-- ---- by places

module _ {X : Type 0} where
  pub split_at : (xs : List X) (place : ℕ) (x : X) → place < length xs → x ≡ get_or xs place x → xs ≡ take place xs ++ x ∷ drop (suc place) xs
  split_at [] place x lt e = absurd (omega arith)
  split_at (y ∷ xs) zero x lt e = ap (λ z. z ∷ xs) (sym e)
  split_at (y ∷ xs) (suc place) x lt e = ap (λ ys. y ∷ ys) (split_at xs place x (omega arith) e)

  pub set_parts : (xs : List X) (place : ℕ) (x : X) → place < length xs → slice_set xs place x ≡ take place xs ++ x ∷ drop (suc place) xs
  set_parts [] place x lt = absurd (omega arith)
  set_parts (y ∷ xs) zero x lt = refl
  set_parts (y ∷ xs) (suc place) x lt = ap (λ ys. y ∷ ys) (set_parts xs place x (omega arith))

  -- an item written over by what a function makes of it
  pub set_updated : (f : X → X) (xs : List X) (place : ℕ) (x : X) → x ≡ get_or xs place x → slice_set xs place (f x) ≡ updated_at f place xs
  set_updated f [] place x e = refl
  set_updated f (y ∷ xs) zero x e = ap (λ z. f z ∷ xs) e
  set_updated f (y ∷ xs) (suc place) x e = ap (λ ys. y ∷ ys) (set_updated f xs place x e)

  -- two reads of one place
  pub same_read : (xs : List X) (place : ℕ) (x y : X) → place < length xs → x ≡ get_or xs place x → y ≡ get_or xs place y → x ≡ y
  same_read [] place x y lt e f = absurd (omega arith)
  same_read (z ∷ xs) zero x y lt e f = e ∙ sym f
  same_read (z ∷ xs) (suc place) x y lt e f = same_read xs place x y (omega arith) e f

pub IsIndexed-remove_at : (before after : Index) (sheets list : List Sheet) (place : ℕ) (s : Sheet) → IsIndexed before sheets → place < length sheets → s ≡ get_or sheets place s → list ≡ remove sheets place → ((q : List ℕ) → get_by_text after (encode_utf8_all q) ≡ cond (bytes_eq (fold s.name) q) None (get_by_text before (encode_utf8_all q))) → IsIndexed after list
IsIndexed-remove_at before after sheets list place s indexed lt e removed u =
    subst (IsIndexed after) (sym removed)
    (IsIndexed-remove before after (take place sheets) (drop (suc place) sheets) s (subst (IsIndexed before) (split_at sheets place s lt e) indexed) u)

pub IsIndexed-rename_at : (before after : Index) (sheets : List Sheet) (place : ℕ) (s t : Sheet) → IsIndexed before sheets → place < length sheets → s ≡ get_or sheets place s → id_of (fold t.name) (remove sheets place) ≡ None → ((q : List ℕ) → get_by_text after (encode_utf8_all q) ≡ cond (bytes_eq (fold t.name) q) (Some t.id) (cond (bytes_eq (fold s.name) q) None (get_by_text before (encode_utf8_all q)))) → IsIndexed after (slice_set sheets place t)
IsIndexed-rename_at before after sheets place s t indexed lt e free u =
    subst (IsIndexed after) (sym (set_parts sheets place t lt))
    (IsIndexed-rename before after (take place sheets) (drop (suc place) sheets) s t (subst (IsIndexed before) (split_at sheets place s lt e) indexed) free u)

-- a sheet that is taken out and put somewhere else is found as before
pub IsIndexed-move : (index : Index) (front back first rest : List Sheet) (s : Sheet) → first ++ rest ≡ front ++ back → IsIndexed index (front ++ s ∷ back) → IsIndexed index (first ++ s ∷ rest)
IsIndexed-move index front back first rest s same indexed =
    let none = alone front back s indexed.differ in
    let none_too : id_of (fold s.name) (first ++ rest) ≡ None = ap (id_of (fold s.name)) same ∙ none in
    record {
      finds = λ key. indexed.finds key ∙ id_of-middle front back s none key ∙ sym (id_of-middle first rest s none_too key ∙ ap (λ xs. cond (bytes_eq (fold s.name) key) (Some s.id) (id_of key xs)) same);
      differ = differ-middle first rest s (subst (λ xs. IsDistinct agrees (names xs)) (sym same) (differ-without front back s indexed.differ)) none_too;
    }

-- what is found goes by the names and the ids alone
pub id_of-same : (xs ys : List Sheet) → names xs ≡ names ys → ids xs ≡ ids ys → (key : List ℕ) → id_of key xs ≡ id_of key ys
id_of-same [] [] e f key = refl
id_of-same [] (y ∷ ys) e f key = cc
id_of-same (x ∷ xs) [] e f key = cc
id_of-same (x ∷ xs) (y ∷ ys) e f key =
    let name : x.name ≡ y.name = cc in
    let more : names xs ≡ names ys = cc in
    let id : x.id ≡ y.id = cc in
    let others : ids xs ≡ ids ys = cc in
    ap₂ (λ n i. cond (bytes_eq key (fold n)) (Some i) (id_of key xs)) name id ∙ ap (cond (bytes_eq key (fold y.name)) (Some y.id)) (id_of-same xs ys more others key)

-- two changes in turn, the second of which takes out another key; or one, which writes the key over
pub rekeyed : (before between after : Index) (old new : List ℕ) (w : Option ℕ) → bytes_eq new old ≡ false → ((q : List ℕ) → get_by_text between q ≡ cond (bytes_eq new q) w (get_by_text before q)) → ((q : List ℕ) → get_by_text after q ≡ cond (bytes_eq old q) None (get_by_text between q)) → (q : List ℕ) → get_by_text after q ≡ cond (bytes_eq new q) w (cond (bytes_eq old q) None (get_by_text before q))
rekeyed before between after old new w apart u v q =
    v q ∙ ap (cond (bytes_eq old q) None) (u q)
    ∙ swap_choices (bytes_eq old q) (bytes_eq new q) None w (get_by_text before q)
    (λ t b. clash (bytes_eq new old) ((bytes_eq-Decides new old).1 ((bytes_eq-Decides new q).0 b ∙ sym ((bytes_eq-Decides old q).0 t))) apart)

pub rewritten : (before after : Index) (old new : List ℕ) (w : Option ℕ) → bytes_eq new old ≡ true → ((q : List ℕ) → get_by_text after q ≡ cond (bytes_eq new q) w (get_by_text before q)) → (q : List ℕ) → get_by_text after q ≡ cond (bytes_eq new q) w (cond (bytes_eq old q) None (get_by_text before q))
rewritten before after old new w same u q =
    u q ∙ once (bytes_eq new q) (bytes_eq old q) (ap (λ k. bytes_eq k q) ((bytes_eq-Decides new old).0 same))
  where
    once : (a b : Bool) → a ≡ b → cond a w (get_by_text before q) ≡ cond a w (cond b None (get_by_text before q))
    once true b e = refl
    once false true e = cc
    once false false e = refl

-- the same between texts and their bytes
pub keyed : (before after : Index) (new_bytes old_bytes new old : List ℕ) (w : Option ℕ) → ((q : List ℕ) → get_by_text after q ≡ cond (bytes_eq new_bytes q) w (cond (bytes_eq old_bytes q) None (get_by_text before q))) → new_bytes ≡ encode_utf8_all new → old_bytes ≡ encode_utf8_all old → (q : List ℕ) → get_by_text after (encode_utf8_all q) ≡ cond (bytes_eq new q) w (cond (bytes_eq old q) None (get_by_text before (encode_utf8_all q)))
keyed before after new_bytes old_bytes new old w u e f q =
    let bytes = encode_utf8_all q in
    u bytes
    ∙ ap (λ b. cond b w (cond (bytes_eq old_bytes bytes) None (get_by_text before bytes))) (ap (λ x. bytes_eq x bytes) e ∙ same_encoded new q)
    ∙ ap (λ b. cond (bytes_eq new q) w (cond b None (get_by_text before bytes))) (ap (λ x. bytes_eq x bytes) f ∙ same_encoded old q)

-- the same for one change
pub put_by_name : (before after : Index) (bytes name : List ℕ) (w : Option ℕ) → ((q : List ℕ) → get_by_text after q ≡ cond (bytes_eq bytes q) w (get_by_text before q)) → bytes ≡ encode_utf8_all name
    → (q : List ℕ) → get_by_text after (encode_utf8_all q) ≡ cond (bytes_eq name q) w (get_by_text before (encode_utf8_all q))
put_by_name before after bytes name w u e q =
    u (encode_utf8_all q) ∙ ap (λ b. cond b w (get_by_text before (encode_utf8_all q))) (ap (λ x. bytes_eq x (encode_utf8_all q)) e ∙ same_encoded name q)

-- what a box holds that was read at a place
pub read_boxed : {X : Type 0} (xs : List X) (place : ℕ) {held x : X} → x ≡ held → held ≡ get_or xs place held → x ≡ get_or xs place x
read_boxed {X} xs place same read = let P : X → Type 0 = λ y. y ≡ get_or xs place y in subst P (sym same) read
