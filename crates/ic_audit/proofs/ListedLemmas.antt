-- The lines of sites, and what is written of them.
use Rattle.std.proofs.Common.{◌≡◌, ℕ, List, [], ◌∷◌, ◌++◌, append_assoc, refl, ap, ◌∙◌, codes}
use Rattle.std.specs.Fmt.{decimal, signed_decimal}
use Rattle.std.specs.Prelude.{ℤ}
use Rattle.std.specs.Str.{chars}
use Rattle.ic_laws.specs.Character.{line_feed, tab}
use Rattle.ic_laws.specs.Lines.{escaped}
use Rattle.ic_laws.specs.declared.tree.NameKey.{NameKey}
use Rattle.ic_machine.specs.Refusal.{CellSite, DefinitionSite}
use Rattle.ic_audit.specs.Listed.{site_line, told_scope}

cell_chars : chars (codes "cell\t") ≡ codes "cell\t"
unfolding chars
cell_chars = refl

name_chars : chars (codes "name\t") ≡ codes "name\t"
unfolding chars
name_chars = refl

pub cell_line : (old a b c d new : List ℕ) (id : ℕ) (row column : ℤ) → a ≡ old ++ chars (codes "cell\t") → b ≡ a ++ decimal id → c ≡ b ++ tab ∷ signed_decimal row → d ≡ c ++ tab ∷ signed_decimal column → new ≡ d ++ line_feed ∷ [] → new ≡ old ++ site_line (CellSite id (row, column))
cell_line old a b c d new id row column p q r s t =
    t
    ∙ ap (λ v. v ++ line_feed ∷ []) (s ∙ ap (λ v. v ++ tab ∷ signed_decimal column) (r ∙ ap (λ v. v ++ tab ∷ signed_decimal row) (q ∙ ap (λ v. v ++ decimal id) (p ∙ ap (λ v. old ++ v) cell_chars))))
    ∙ simp append_assoc

pub name_line : (old a b c d new : List ℕ) (key : NameKey) → a ≡ old ++ chars (codes "name\t") → b ≡ a ++ escaped key.name → c ≡ b ++ tab ∷ [] → d ≡ c ++ told_scope key.scope → new ≡ d ++ line_feed ∷ [] → new ≡ old ++ site_line (DefinitionSite key)
name_line old a b c d new key p q r s t =
    t
    ∙ ap (λ v. v ++ line_feed ∷ []) (s ∙ ap (λ v. v ++ told_scope key.scope) (r ∙ ap (λ v. v ++ tab ∷ []) (q ∙ ap (λ v. v ++ escaped key.name) (p ∙ ap (λ v. old ++ v) name_chars))))
    ∙ simp append_assoc
