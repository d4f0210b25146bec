-- Definitions get the bodies that a change makes of theirs, one after another.
use Rattle.std.proofs.Common.{◌≡◌, ◌<◌, ◌+◌, ◌⊎◌, ℕ, zero, suc, List, [], ◌∷◌, ◌++◌, Bool, true, false, cond, map, length, take, drop, get_or, slice_set, append_assoc, append-nil, refl, sym, ap, ap₂, subst, ◌∙◌, arith, inl, inr, take_at}
use Rattle.std.proofs.lemmas.Bool.{or_parts}
use Rattle.std.proofs.lemmas.List.{drop_more, length-map, length-take, map_more, take_more}
use Rattle.std.specs.List.{AllByRecursion}
use Rattle.ic_laws.proofs.core.Lists.{all_pushed, all_updated, length_updated, updated_unseen}
use Rattle.ic_laws.specs.BookTrees.{with_body_tree}
use Rattle.ic_laws.specs.Changes.{Change, changed_tree}
use Rattle.ic_laws.specs.CoreBook.{Definition}
use Rattle.ic_laws.specs.CoreStep.{updated_at}
use Rattle.ic_laws.specs.declared.tree.Formula.{Formula}
use Rattle.ic_pool.specs.Mentions.{formula_after, has_dangling, is_changed_by}
use Rattle.ic_pool.specs.Remade.{Remade}
use Rattle.ic_definitions.specs.Bodies.{FitsBodies, HasFoundAll, IsNoted, StaysWhereFound, with_bodies}
use Rattle.ic_definitions.specs.Named.{key_in}
use Rattle.ic_definitions.specs.Remade.{remade_body, touched_bodies}
use Rattle.ic_definitions.specs.declared.bodies.BodyRewrites.{BodyRewrites}
use Rattle.ic_definitions.specs.declared.bodies.NewBody.{NewBody}
use Rattle.ic_definitions.proofs.NamedLemmas.{keys}

abbrev pub with_body : Formula → Definition → Definition
with_body body definition = record definition { body = body }

-- ---- bodies that are put

-- a body behind others is put after them
with_bodies-push : (news : List NewBody) (new : NewBody) (ds : List Definition) → with_bodies (news ++ new ∷ []) ds ≡ updated_at (with_body new.body) new.at (with_bodies news ds)
with_bodies-push [] new ds = refl
with_bodies-push (first ∷ news) new ds = with_bodies-push news new (updated_at (with_body first.body) first.at ds)

-- no key changes
pub keys_kept : (news : List NewBody) (ds : List Definition) → keys (with_bodies news ds) ≡ keys ds
keys_kept [] ds = refl
keys_kept (new ∷ news) ds = keys_kept news (updated_at (with_body new.body) new.at ds) ∙ updated_unseen key_in (with_body new.body) (λ d. refl) new.at ds

pub length_kept : (news : List NewBody) (ds : List Definition) → length (with_bodies news ds) ≡ length ds
length_kept [] ds = refl
length_kept (new ∷ news) ds = length_kept news (updated_at (with_body new.body) new.at ds) ∙ length_updated (with_body new.body) new.at ds

-- a definition that is written over by itself with another body
put_there : (body : Formula) (ds : List Definition) (at : ℕ) (d : Definition) → d ≡ get_or ds at d → slice_set ds at (with_body body d) ≡ updated_at (with_body body) at ds
put_there body [] at d read = refl
put_there body (x ∷ ds) zero d read = ap (λ y. with_body body y ∷ ds) read
put_there body (x ∷ ds) (suc at) d read = ap (λ rest. x ∷ rest) (put_there body ds at d read)

-- one definition alone gets another body
pub body_set : (body : Formula) (ds now : List Definition) (at : ℕ) (d after : Definition) → d ≡ get_or ds at d → after ≡ with_body body d → now ≡ slice_set ds at after → now ≡ updated_at (with_body body) at ds
body_set body ds now at d after read put is = is ∙ ap (slice_set ds at) put ∙ put_there body ds at d read

pub keys_set : (body : Formula) (ds : List Definition) (at : ℕ) → keys (updated_at (with_body body) at ds) ≡ keys ds
keys_set body ds at = updated_unseen key_in (with_body body) (λ d. refl) at ds

pub found_set : (body : Formula) (ds : List Definition) (at : ℕ) → has_dangling body ≡ false → AllByRecursion HasFoundAll ds → AllByRecursion HasFoundAll (updated_at (with_body body) at ds)
found_set body ds at clean found = all_updated HasFoundAll (with_body body) (λ d h. clean) at ds found

-- a step through all of them
pub put_next : (rest more all : List NewBody) (new : NewBody) (ds old : List Definition) (d after : Definition) → rest ≡ new ∷ more → with_bodies rest ds ≡ with_bodies all old → d ≡ get_or ds new.at d → after ≡ with_body new.body d
    → with_bodies more (slice_set ds new.at after) ≡ with_bodies all old
put_next rest more all new ds old d after taken left read put =
    ap (λ x. with_bodies more (slice_set ds new.at x)) put ∙ ap (with_bodies more) (put_there new.body ds new.at d read) ∙ ap (λ news. with_bodies news ds) (sym taken) ∙ left

-- a vector whose definitions got their bodies through a slice
pub written_back : (n : ℕ) (news : List NewBody) (old now new : List Definition) → new ≡ with_bodies news now → now ≡ old → n ≡ length old → take n (new ++ drop (length new) old) ≡ with_bodies news old
written_back n news old now new made same counted =
    let is : new ≡ with_bodies news old = made ∙ ap (with_bodies news) same in
    ap (λ k. take k (new ++ drop (length new) old)) (counted ∙ sym (ap length is ∙ length_kept news old)) ∙ take_at new (drop (length new) old) (length new) refl ∙ is

-- ---- bodies that are prepared

updated_middle : (g : Definition → Definition) (front back : List Definition) (x : Definition) (at : ℕ) → length front ≡ at → updated_at g at (front ++ x ∷ back) ≡ front ++ g x ∷ back
updated_middle g [] back x zero e = refl
updated_middle g [] back x (suc at) e = absurd (omega (arith, e))
updated_middle g (y ∷ front) back x zero e = absurd (omega (arith, e))
updated_middle g (y ∷ front) back x (suc at) e = ap (λ rest. y ∷ rest) (updated_middle g front back x at (omega (arith, e)))

-- formulas that a change makes anew
abbrev pub made_by : Change → Remade
made_by change = record { touches = is_changed_by change; becomes = formula_after change }

module _ (rule : Remade) where
  -- a body is put at the end
  abbrev here : ℕ → Definition → List NewBody
  here at d = cond (rule.touches d.scope d.body) (record { at = at; body = rule.becomes d.scope d.body } ∷ []) []

  touched_bodies-push : (at : ℕ) (ds : List Definition) (d : Definition) → touched_bodies rule at (ds ++ d ∷ []) ≡ touched_bodies rule at ds ++ here (at + length ds) d
  touched_bodies-push at [] d = ap (λ n. here n d) (omega arith)
  touched_bodies-push at (x ∷ ds) d = after (rule.touches x.scope x.body) (touched_bodies-push (suc at) ds d)
    where
      moved : touched_bodies rule (suc at) ds ++ here (suc at + length ds) d ≡ touched_bodies rule (suc at) ds ++ here (at + suc (length ds)) d
      moved = ap (λ n. touched_bodies rule (suc at) ds ++ here n d) (let s : suc at + length ds ≡ at + suc (length ds) = omega arith in s)

      after : (b : Bool) → touched_bodies rule (suc at) (ds ++ d ∷ []) ≡ touched_bodies rule (suc at) ds ++ here (suc at + length ds) d
          → cond b (record { at = at; body = rule.becomes x.scope x.body } ∷ touched_bodies rule (suc at) (ds ++ d ∷ [])) (touched_bodies rule (suc at) (ds ++ d ∷ []))
          ≡ cond b (record { at = at; body = rule.becomes x.scope x.body } ∷ touched_bodies rule (suc at) ds) (touched_bodies rule (suc at) ds) ++ here (at + suc (length ds)) d
      after true e = ap (λ news. record { at = at; body = rule.becomes x.scope x.body } ∷ news) (e ∙ moved)
      after false e = e ∙ moved

module _ (rule : Remade) (ds : List Definition) where
  abbrev becomes : Definition → Definition
  becomes d = remade_body rule d

  abbrev Within : NewBody → Type 0
  Within new = new.at < length ds

  -- the bodies before this place were looked at, the others are as they were
  pub record NotedTo (i : ℕ) (w : BodyRewrites) : Type 0 where
    pub made : with_bodies w.bodies.items ds ≡ map becomes (take i ds) ++ drop i ds
    pub listed : w.bodies.items ≡ touched_bodies rule 0 (take i ds)
    pub within : AllByRecursion Within w.bodies.items
    pub dangles : w.may_dangle ≡ false → AllByRecursion HasFoundAll (map becomes (take i ds))

  -- all were looked at
  pub record Noted (w : BodyRewrites) : Type 0 where
    pub made : with_bodies w.bodies.items ds ≡ map becomes ds
    pub listed : w.bodies.items ≡ touched_bodies rule 0 ds
    pub fits : FitsBodies w ds

  module _ (i next : ℕ) (x : Definition) (v w : BodyRewrites) (is_next : i + 1 ≡ next) (below : i < length ds) (item : x ≡ get_or ds i x) where
    front : List Definition
    front = map becomes (take i ds)

    length-front : length front ≡ i
    unfolding front
    length-front = length-map (take i ds) becomes ∙ omega (arith, length-take i ds)

    rest : drop i ds ≡ x ∷ drop next ds
    rest = drop_more ds i x below ∙ ap₂ (λ y n. y ∷ drop n ds) (sym item) is_next

    one_more : take next ds ≡ take i ds ++ x ∷ []
    one_more = ap (λ n. take n ds) (sym is_next) ∙ take_more ds i x below ∙ ap (λ y. take i ds ++ y ∷ []) (sym item)

    more : map becomes (take next ds) ≡ front ++ becomes x ∷ []
    unfolding front
    more = ap (λ n. map becomes (take n ds)) (sym is_next) ∙ map_more becomes ds i x below ∙ ap (λ y. front ++ becomes y ∷ []) (sym item)

    seam : front ++ becomes x ∷ drop next ds ≡ map becomes (take next ds) ++ drop next ds
    seam = sym (append_assoc front (becomes x ∷ []) (drop next ds)) ∙ ap (λ xs. xs ++ drop next ds) (sym more)

    counted : i ≡ 0 + length (take i ds)
    counted = let before : length (take i ds) ≡ i = omega (arith, length-take i ds) in omega (arith, before)

    new : NewBody
    new = record { at = i; body = (becomes x).body }

    abbrev touched : Bool
    touched = rule.touches x.scope x.body

    -- it stays, or what it becomes stands behind the others
    either : IsNoted i x (becomes x).body touched v w → (b : Bool) → touched ≡ b → ((becomes x ≡ x) × (w.bodies.items ≡ v.bodies.items)) ⊎ (w.bodies.items ≡ v.bodies.items ++ new ∷ [])
    unfolding new
    either noted true passes = inr (noted.bodies ∙ ap (λ b. v.bodies.items ++ cond b (record { at = i; body = (becomes x).body } ∷ []) []) passes)
    either noted false fails =
        inl (ap (λ body. with_body body x) (noted.same fails), noted.bodies ∙ ap (λ b. v.bodies.items ++ cond b (record { at = i; body = (becomes x).body } ∷ []) []) fails ∙ append-nil v.bodies.items)

    step_made : NotedTo i v → ((becomes x ≡ x) × (w.bodies.items ≡ v.bodies.items)) ⊎ (w.bodies.items ≡ v.bodies.items ++ new ∷ []) → with_bodies w.bodies.items ds ≡ map becomes (take next ds) ++ drop next ds
    unfolding front new
    step_made done (inl same) = ap (λ news. with_bodies news ds) same.1 ∙ done.made ∙ ap (λ xs. front ++ xs) (rest ∙ ap (λ y. y ∷ drop next ds) (sym same.0)) ∙ seam
    step_made done (inr put) =
        ap (λ news. with_bodies news ds) put ∙ with_bodies-push v.bodies.items new ds
        ∙ ap (updated_at (with_body new.body) i) (done.made ∙ ap (λ xs. front ++ xs) rest) ∙ updated_middle (with_body new.body) front (drop next ds) x i length-front ∙ seam

    step_within : NotedTo i v → ((becomes x ≡ x) × (w.bodies.items ≡ v.bodies.items)) ⊎ (w.bodies.items ≡ v.bodies.items ++ new ∷ []) → AllByRecursion Within w.bodies.items
    unfolding new
    step_within done (inl same) = subst (AllByRecursion Within) (sym same.1) done.within
    step_within done (inr put) = subst (AllByRecursion Within) (sym put) (all_pushed Within v.bodies.items new done.within below)

    pub noted_step : NotedTo i v → IsNoted i x (becomes x).body touched v w → NotedTo next w
    unfolding front new
    noted_step done noted = record {
      made = step_made done (either noted touched refl);
      listed = noted.bodies ∙ ap₂ (λ news n. news ++ here rule n x) done.listed counted ∙ sym (ap (touched_bodies rule 0) one_more ∙ touched_bodies-push rule 0 (take i ds) x);
      within = step_within done (either noted touched refl);
      dangles = λ e.
          let parts = or_parts v.may_dangle _ (sym noted.dangles ∙ e) in
          subst (AllByRecursion HasFoundAll) (sym more) (all_pushed HasFoundAll front (becomes x) (done.dangles parts.0) parts.1);
    }

-- where all was found in all bodies nothing is to be done
pub nothing_makes : (change : Change) (ds : List Definition) (news : List NewBody) → AllByRecursion (StaysWhereFound change) ds → AllByRecursion HasFoundAll ds → news ≡ [] → with_bodies news ds ≡ map (with_body_tree (changed_tree change)) ds
nothing_makes change ds news stays clean none = ap (λ ns. with_bodies ns ds) none ∙ spared ds stays clean
  where
    spared : (xs : List Definition) → AllByRecursion (StaysWhereFound change) xs → AllByRecursion HasFoundAll xs → xs ≡ map (with_body_tree (changed_tree change)) xs
    spared [] h c = refl
    spared (x ∷ xs) h c = ap₂ ◌∷◌ (sym (h.0 c.0)) (spared xs h.1 c.1)
