use Rattle.std.proofs.Common.{◌∙◌, Some, sym}
use Rattle.ic_laws.specs.declared.tree.Tree.TheVariants.{rolls-Apply, rolls-Fun}
use Rattle.ic_keep.proofs.CapturedAgain.{applied_captured, function_captured}
use Rattle.ic_keep.specs.Change.{change_of}
use Rattle.ic_tree.specs.LanguageWords.{function_of}
use Rattle.ic_keep.proofs.capturing.+would_capture.Goals as goal

pub is_captured_again-returns-in_ok-captured-in-Fun : goal.is_captured_again-returns-in_ok-captured-in-Fun
is_captured_again-returns-in_ok-captured-in-Fun g t c =
    c.in_ok-captured-in-Fun.ensures
    ∙ function_captured (change_of (Some c.args.change.now)) (function_of c.args.english.now) (g.N.Finder.scene c.args.names.now) (g.R.Renaming.sheet_text c.args.renaming.now) (g.R.Renaming.key_text c.args.renaming.now) c.args.scope
    c.in-Fun.field-0 c.in-Fun.arguments _ c.args.tree.now (c.in-Fun.is ∙ sym (rolls-Fun c.in-Fun.field-0 c.in-Fun.arguments)) c.as_slice-arguments.ensures

pub is_captured_again-returns-in_ok-captured-in-Apply : goal.is_captured_again-returns-in_ok-captured-in-Apply
is_captured_again-returns-in_ok-captured-in-Apply g t c =
    c.in_ok-captured-in-Apply.ensures
    ∙ applied_captured (change_of (Some c.args.change.now)) (function_of c.args.english.now) (g.N.Finder.scene c.args.names.now) (g.R.Renaming.sheet_text c.args.renaming.now) (g.R.Renaming.key_text c.args.renaming.now) c.args.scope
    c.in-Apply.x _ c.in-Apply.arguments _ c.args.tree.now (c.in-Apply.is ∙ sym (rolls-Apply c.in-Apply.x c.in-Apply.arguments)) c.as_ref-in-Apply.ensures c.as_slice-arguments-in-Apply.ensures
    (sym c.in_ok-is_captured_again-in-Apply.ensures ∙ c.if-branch-2.false)
