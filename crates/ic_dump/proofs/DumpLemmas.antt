-- The cause that a book has no lines, and the parts of its lines.
use Rattle.std.proofs.Common.{◌≡◌, ◌++◌, ◌∷◌, [], ◌∙◌, ℕ, ◌+◌, ◌-◌, Bool, true, false, cond, List, Option, Some, None, ap, ap₂, append_assoc, find, length, length-append, map, min, option_map, refl, reverse, sym, zip, arith}
use Rattle.std.proofs.lemmas.List.{length-map}
use Rattle.std.proofs.lemmas.Slice.Zip.{length-zip}
use Rattle.std.specs.List.{range_with_len}
use Rattle.std.specs.Option.{option_or}
use Rattle.ic_laws.specs.CoreBook.{CoreBook, Definition, scene_of}
use Rattle.ic_laws.specs.Notations.{Notations}
use Rattle.ic_laws.specs.declared.scene.SheetName.{SheetName}
use Rattle.ic_laws.specs.declared.tree.Formula.{Formula}
use Rattle.ic_laws.specs.declared.tree.Formula.TheVariants as formulas
use Rattle.ic_laws.specs.declared.tree.NameKey.{NameKey}
use Rattle.ic_machine.specs.Refusal.{Site}
use Rattle.ic_parts.specs.Book.{Book, core_of, notations_in}
use Rattle.ic_sheets.specs.Sheet.{sheet_core}
use Rattle.ic_workbooks.specs.Workbook.{body_text, defined_name_of}
use Rattle.ic_dump.specs.Lines.{Text, body_line, body_lines, defining_line, defining_lines, deleting_line, deleting_lines, english_body}
use Rattle.ic_dump.specs.Passing.{free_numerals, passing_ids, passing_sheets, sheet_named, standing_sheets, taken_names}
use Rattle.ic_dump.specs.Records.{name_seen}
use Rattle.ic_dump.specs.Stages.{HasFewNames}
use Rattle.ic_dump.proofs.StandLemmas.{free_many}
use Rattle.ic_dump.specs.Refused.{Cause, RawBody, Rereads, cause_of, is_raw, raw_body, rereading}

-- ---- the cause

pub raw_cause : (n : Notations) (book : CoreBook) (key : NameKey) → raw_body book ≡ Some key → cause_of n book ≡ Some (RawBody key)
raw_cause n book key e = ap (λ (o : Option NameKey). option_or (option_map RawBody o) (option_map Rereads (rereading n book))) e

pub cell_cause : (n : Notations) (book : CoreBook) (site : Option Site) → raw_body book ≡ None → rereading n book ≡ site → cause_of n book ≡ option_map Rereads site
cell_cause n book site e f =
    ap (λ (o : Option NameKey). option_or (option_map RawBody o) (option_map Rereads (rereading n book))) e ∙ ap (option_map Rereads) f

no_key : (o : Option NameKey) (more : Option Cause) → option_or (option_map RawBody o) more ≡ None → o ≡ None
no_key None more e = refl
no_key (Some key) more e = cc

pub none_raw : (n : Notations) (book : CoreBook) → cause_of n book ≡ None → raw_body book ≡ None
none_raw n book e = no_key (raw_body book) (option_map Rereads (rereading n book)) e

-- ---- bodies, which are all trees

no_definition : {Y : Type 0} (f : Definition → Y) (o : Option Definition) → option_map f o ≡ None → o ≡ None
no_definition f None e = refl
no_definition f (Some d) e = cc

module _ (b : Book) where
  -- the record of a definition has the body in English
  tree_text : (has_equals : Bool) (f : Formula) → is_raw f ≡ false → body_text b has_equals f ≡ english_body (notations_in b) (core_of b) (record { name = []; scope = None; has_equals = has_equals; body = f })
  tree_text has_equals (formulas.Tree t) e = refl
  tree_text has_equals (formulas.Raw text) e = cc

  bodies_same : (sheets : List SheetName) (ds : List Definition) → find (λ (d : Definition). is_raw d.body) ds ≡ None
      → map (λ d. body_line sheets (name_seen d) d.formula) (map (defined_name_of b) ds) ≡ map (λ d. body_line sheets (name_seen (defined_name_of b d)) (english_body (notations_in b) (core_of b) d)) ds
  bodies_same sheets [] e = refl
  bodies_same sheets (d ∷ ds) e = by_test (is_raw d.body) refl e (bodies_same sheets ds)
    where
      by_test : (t : Bool) → is_raw d.body ≡ t → cond (is_raw d.body) (Some d) (find (λ (x : Definition). is_raw x.body) ds) ≡ None
          → (find (λ (x : Definition). is_raw x.body) ds ≡ None → map (λ x. body_line sheets (name_seen x) x.formula) (map (defined_name_of b) ds) ≡ map (λ x. body_line sheets (name_seen (defined_name_of b x)) (english_body (notations_in b) (core_of b) x)) ds)
          → map (λ x. body_line sheets (name_seen x) x.formula) (map (defined_name_of b) (d ∷ ds)) ≡ map (λ x. body_line sheets (name_seen (defined_name_of b x)) (english_body (notations_in b) (core_of b) x)) (d ∷ ds)
      by_test true t none more = let never : Some d ≡ None = sym (ap (λ c. cond c (Some d) (find (λ (x : Definition). is_raw x.body) ds)) t) ∙ none in cc
      by_test false t none more =
          ap₂ (λ (x : Text) (xs : List Text). x ∷ xs)
          (ap (body_line sheets (name_seen (defined_name_of b d))) (tree_text d.has_equals d.body t))
          (more (sym (ap (λ c. cond c (Some d) (find (λ (x : Definition). is_raw x.body) ds)) t) ∙ none))

  pub bodies_told : cause_of (notations_in b) (core_of b) ≡ None → map (λ d. body_line (standing_sheets (core_of b)) (name_seen d) d.formula) (map (defined_name_of b) b.definitions) ≡ body_lines (notations_in b) (core_of b)
  bodies_told none = bodies_same (standing_sheets (core_of b)) b.definitions (no_definition _ (find (λ (d : Definition). is_raw d.body) b.definitions) (none_raw (notations_in b) (core_of b) none))

  defined_same : (sheets : List SheetName) (ds : List Definition) → map (λ d. defining_line sheets (name_seen d)) (map (defined_name_of b) ds) ≡ map (λ d. defining_line sheets (name_seen (defined_name_of b d))) ds
  defined_same sheets [] = refl
  defined_same sheets (d ∷ ds) = ap (λ rest. defining_line sheets (name_seen (defined_name_of b d)) ∷ rest) (defined_same sheets ds)

  pub definitions_told : map (λ d. defining_line (standing_sheets (core_of b)) (name_seen d)) (map (defined_name_of b) b.definitions) ≡ defining_lines (core_of b)
  definitions_told = defined_same (standing_sheets (core_of b)) b.definitions

-- ---- the passing sheets, and all stages

pub many_passing : (core : CoreBook) → HasFewNames core → length (passing_sheets core) ≡ length (passing_ids core)
many_passing core few =
    let ids : List ℕ = passing_ids core in
    let names : List (List ℕ) = free_numerals (length (passing_ids core)) (taken_names core) in
    let many : length names ≡ length ids = free_many (length (passing_ids core)) (taken_names core) few in
    let both : length (zip ids names) ≡ min (length ids) (length names) = length-zip ids names in
    length-map (zip ids names) sheet_named ∙ omega (arith, both, many)

pub many_standing : (b : Book) → HasFewNames (core_of b) → length (standing_sheets (core_of b)) ≡ length b.sheets + length (passing_ids (core_of b))
many_standing b few =
    length-append (scene_of (core_of b)).sheets (passing_sheets (core_of b))
    ∙ ap₂ (λ (m n : ℕ). m + n) (length-map (core_of b).sheets _ ∙ length-map b.sheets sheet_core) (many_passing (core_of b) few)

pub deleted_told : (b : Book) (own count : ℕ) → HasFewNames (core_of b) → own ≡ length b.sheets → count ≡ length (standing_sheets (core_of b)) → map deleting_line (reverse (range_with_len own (count - own))) ≡ deleting_lines (core_of b)
deleted_told b own count few own_is count_is =
    let all = many_standing b few in
    let rest : count - own ≡ length (passing_ids (core_of b)) = omega (arith, all, own_is, count_is) in
    let sheets : length (core_of b).sheets ≡ length b.sheets = length-map b.sheets sheet_core in
    ap₂ (λ (m n : ℕ). map deleting_line (reverse (range_with_len m n))) (own_is ∙ sym sheets) rest

pub six_parts : {X : Type 0} (a b c d e f l0 l1 l2 l3 l4 l5 l6 : List X) → l0 ≡ [] → l1 ≡ l0 ++ a → l2 ≡ l1 ++ b → l3 ≡ l2 ++ c → l4 ≡ l3 ++ d → l5 ≡ l4 ++ e → l6 ≡ l5 ++ f → l6 ≡ a ++ (b ++ (c ++ (d ++ (e ++ f))))
six_parts a b c d e f l0 l1 l2 l3 l4 l5 l6 h0 h1 h2 h3 h4 h5 h6 =
    let all : l6 ≡ ((((([] ++ a) ++ b) ++ c) ++ d) ++ e) ++ f = cc in all ∙ simp append_assoc
