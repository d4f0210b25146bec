use Rattle.std.proofs.Common.{◌≡◌, Option, Some, None, option_map, ◌∙◌, refl, sym, subst}
use Rattle.std.proofs.lemmas.Result.{IfOk-weaker}
use Rattle.ic_refs.specs.Local.{FindsLocalAt}
use Rattle.ic_refs.proofs.LocalLemmas.{finds_local_at, none_found_at}
use Rattle.ic_refs.proofs.local.read_local.Goals as goal

nothing : {X Y : Type 0} (f : X → Y) (o : Option X) → option_map f o ≡ None → o ≡ None
nothing f None e = refl
nothing f (Some x) e = absurd (let no : Some (f x) ≡ None = e in cc)

pub returns-clause-finds : goal.returns-clause-finds
returns-clause-finds c =
    IfOk-weaker c.read_named.result _ _ (λ found e. subst (FindsLocalAt c.args.text.now c.args.at) (sym e) (finds_local_at c.args.text.now c.args.at c.utf8.text)) c.read_named.ensures

pub returns-clause-apart : goal.returns-clause-apart
returns-clause-apart c =
    IfOk-weaker c.read_named.result _ _ (λ found e front rest whole other end. nothing _ found (e ∙ none_found_at c.args.text.now front rest c.args.at whole other end)) c.read_named.ensures
