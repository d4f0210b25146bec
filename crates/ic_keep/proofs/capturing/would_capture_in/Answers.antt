use Rattle.std.proofs.Common.{◌∙◌, Some}
use Rattle.std.proofs.lemmas.Result.{IfOk-weaker}
use Rattle.ic_keep.specs.Change.{change_of}
use Rattle.ic_tree.specs.LanguageWords.{function_of}
use Rattle.ic_keep.proofs.KeptAlike.{kept_is_alike}
use Rattle.ic_keep.proofs.WordWalk.{beside_is_captured}
use Rattle.ic_keep.proofs.capturing.would_capture_in.Goals as goal

pub returns : goal.returns
returns g c =
    let keys = change_of (Some c.args.change.now) in
    let same =
    beside_is_captured keys c.args.tree.now _ (kept_is_alike (function_of c.args.english.now) (g.B.Finder.scene c.args.before.now) (g.A.Finder.scene c.args.after.now) keys c.args.scope c.args.tree.now) in
    IfOk-weaker c.is_captured_again.result _ _ (λ r is. is ∙ same) c.is_captured_again.ensures
