-- The languages of users, as they are held: an ordered map of texts is a finite map of their characters.
use Rattle.std.proofs.Common.{◌≡◌, ℕ, List, [], ◌∷◌, Bool, true, false, cond, map, Option, Some, None, String, string_bytes, IsUtf8, chars, option_map, unwrap_or, refl, sym, ap, subst, ◌∙◌}
use Rattle.std.specs.declared.alloc.Global.{Global}
use Rattle.std.specs.declared.cmp.Ordering.{Ordering}
use Rattle.std.specs.declared.cmp.Ordering.TheVariants.{Equal, Greater, Less}
use Rattle.std.specs.Bool.{Decides, one_answer}
use Rattle.std.specs.BTreeMap as tree
use Rattle.std.specs.BTreeMap.{BTreeMap, insert_entry}
use Rattle.std.specs.Cmp.Lexicographic.{nat_list_cmp_total, slice_cmp}
use Rattle.std.specs.FinMap as finite
use Rattle.std.specs.FinMap.{find}
use Rattle.std.specs.Map.{lookup}
use Rattle.std.specs.Ordering.{eq_by_cmp, is_eq, match_ordering, nat_cmp}
use Rattle.std.specs.String.{string_cmp}
use Rattle.std.proofs.lemmas.Map.Text.{is_eq-slice_cmp}
use Rattle.std.proofs.lemmas.Slice.Eq.{bytes_eq-Decides}
use Rattle.std.proofs.lemmas.Str.{IsUtf8-string_bytes}
use Rattle.ic_share.specs.Share.{languages_held}
use Rattle.ic_laws.proofs.TextLemmas.{same_from_chars as same_bytes}

abbrev Entry : Type 0
Entry = String Global × String Global

abbrev entry_chars : Entry → List ℕ × List ℕ
entry_chars e = (chars (string_bytes e.0), chars (string_bytes e.1))

abbrev code_of : String Global → List ℕ
code_of language = chars (string_bytes language)

abbrev order : List ℕ → List ℕ → Ordering
order = slice_cmp nat_cmp

equal_texts : (a b : List ℕ) → Decides (is_eq (order a b)) (a ≡ b)
equal_texts a b = subst (λ r. Decides r (a ≡ b)) (sym (is_eq-slice_cmp a b)) (bytes_eq-Decides a b)

alike : (a b : List ℕ) → IsUtf8 a → IsUtf8 b → eq_by_cmp order (chars a) (chars b) ≡ is_eq (order a b)
alike a b ua ub = one_answer _ _ (equal_texts (chars a) (chars b)) (λ e. ap chars ((equal_texts a b).0 e), λ e. (equal_texts a b).1 (same_bytes a b ua ub e))

-- a look-up by characters is one by bytes
found_by : (user : List ℕ) → IsUtf8 user → (es : List Entry) → find order (chars user) (map entry_chars es) ≡ option_map code_of (lookup (λ k. is_eq (order user (string_bytes k))) es)
found_by user u [] = refl
found_by user u (e ∷ es) =
    ap (λ (b : Bool). cond b (Some (code_of e.1)) (find order (chars user) (map entry_chars es))) (alike user (string_bytes e.0) u (IsUtf8-string_bytes e.0)) ∙ by_test (is_eq (order user (string_bytes e.0))) (found_by user u es)
  where
    by_test : (b : Bool) → find order (chars user) (map entry_chars es) ≡ option_map code_of (lookup (λ k. is_eq (order user (string_bytes k))) es)
        → cond b (Some (code_of e.1)) (find order (chars user) (map entry_chars es)) ≡ option_map code_of (cond b (Some e.1) (lookup (λ k. is_eq (order user (string_bytes k))) es))
    by_test true later = refl
    by_test false later = later

pub language_found : (m : BTreeMap (String Global) (String Global)) (user : List ℕ) → IsUtf8 user → finite.get (languages_held m.entries) (chars user) ≡ option_map code_of (tree.get_by_text m user)
language_found m user u = finite.get-from_entries nat_list_cmp_total (map entry_chars m.entries) (chars user) ∙ found_by user u m.entries

-- an entry that is put is found, and every other one as before
module _ {X : Type 0} (x y last : X) where
  same_test : (one other : Bool) → one ≡ other → cond other x last ≡ cond one x (cond other y last)
  same_test true true e = refl
  same_test false false e = refl
  same_test true false e = cc
  same_test false true e = cc

  apart : (one other : Bool) → (one ≡ true → other ≡ true → ⊥) → cond other y (cond one x last) ≡ cond one x (cond other y last)
  apart true true e = absurd (e refl refl)
  apart true false e = refl
  apart false true e = refl
  apart false false e = refl

module _ (user language : String Global) (name : List ℕ) where
  abbrev is_user : Bool
  is_user = eq_by_cmp order name (chars (string_bytes user))

  abbrev found_in : List Entry → Option (List ℕ)
  found_in es = find order name (map entry_chars es)

  abbrev is_at_key : String Global → Bool
  is_at_key key = eq_by_cmp order name (chars (string_bytes key))

  put_found : (es : List Entry) → found_in (insert_entry string_cmp es user language) ≡ cond is_user (Some (code_of language)) (found_in es)
  put_found [] = refl
  put_found (e ∷ es) = by_order (string_cmp user e.0) refl (put_found es)
    where
      by_order : (o : Ordering) → string_cmp user e.0 ≡ o → found_in (insert_entry string_cmp es user language) ≡ cond is_user (Some (code_of language)) (found_in es)
          → found_in (match_ordering o ((user, language) ∷ e ∷ es) ((e.0, language) ∷ es) (e ∷ insert_entry string_cmp es user language)) ≡ cond is_user (Some (code_of language)) (cond (is_at_key e.0) (Some (code_of e.1)) (found_in es))
      by_order Less is later = refl
      by_order Equal is later =
          same_test (Some (code_of language)) (Some (code_of e.1)) (found_in es) is_user (is_at_key e.0)
          (ap (λ bytes. eq_by_cmp order name (chars bytes)) (finite.slice_cmp-IsAntisymmetric finite.nat_cmp-IsAntisymmetric (string_bytes user) (string_bytes e.0) is))
      by_order Greater is later =
          ap (cond (is_at_key e.0) (Some (code_of e.1))) later
          ∙ apart (Some (code_of language)) (Some (code_of e.1)) (found_in es) is_user (is_at_key e.0) (λ one other.
          let same = same_bytes (string_bytes user) (string_bytes e.0) (IsUtf8-string_bytes user) (IsUtf8-string_bytes e.0) (sym ((equal_texts name (chars (string_bytes user))).0 one) ∙ (equal_texts name (chars (string_bytes e.0))).0 other) in
          let tied : is_eq Greater ≡ true = ap is_eq (sym is) ∙ (equal_texts (string_bytes user) (string_bytes e.0)).1 same in
          cc)

pub language_put_in : (es : List Entry) (user language : String Global) → languages_held (insert_entry string_cmp es user language) ≡ finite.insert (languages_held es) (chars (string_bytes user)) (chars (string_bytes language))
language_put_in es user language = finite.same_map nat_list_cmp_total (finite.slice_cmp-IsAntisymmetric finite.nat_cmp-IsAntisymmetric) _ _ (λ name.
    finite.get-from_entries nat_list_cmp_total (map entry_chars (insert_entry string_cmp es user language)) name ∙ put_found user language name es
    ∙ sym (finite.get-insert nat_list_cmp_total (languages_held es) (chars (string_bytes user)) (chars (string_bytes language)) name
    ∙ ap (cond (eq_by_cmp order name (chars (string_bytes user))) (Some (code_of language))) (finite.get-from_entries nat_list_cmp_total (map entry_chars es) name)))

-- a user's language, which they chose or didn't
pub language_chosen_by : (m : BTreeMap (String Global) (String Global)) (user own : List ℕ) (language : String Global) → IsUtf8 user → Some language ≡ tree.get_by_text m user
    → chars (string_bytes language) ≡ unwrap_or (finite.get (languages_held m.entries) (chars user)) own
language_chosen_by m user own language u e = sym (ap (λ found. unwrap_or found own) (language_found m user u ∙ ap (option_map code_of) (sym e)))

pub language_own_of : (m : BTreeMap (String Global) (String Global)) (user own : List ℕ) → IsUtf8 user → None ≡ tree.get_by_text m user → own ≡ unwrap_or (finite.get (languages_held m.entries) (chars user)) own
language_own_of m user own u e = sym (ap (λ found. unwrap_or found own) (language_found m user u ∙ ap (option_map code_of) (sym e)))
