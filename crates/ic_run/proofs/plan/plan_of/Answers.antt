use Rattle.std.proofs.Common.{IfOk, subst, sym}
use Rattle.ic_words.specs.Command.{command_meant}
use Rattle.ic_parts.specs.Whole.{whole_of}
use Rattle.ic_run.specs.Translate.{IsPlan}
use Rattle.ic_run.proofs.plan.plan_of.Goals as goal

pub returns-in-Sheets : goal.returns-in-Sheets
returns-in-Sheets c = subst (λ k. IfOk c.sheets_plan.result (IsPlan c.args.target.now (whole_of c.args.model.now.book) (command_meant k))) (sym c.in-Sheets.is) (c.sheets_plan.ensures c.args.target.now)

pub returns-in-Writing : goal.returns-in-Writing
returns-in-Writing c = subst (λ k. IfOk c.writing_plan.result (IsPlan c.args.target.now (whole_of c.args.model.now.book) (command_meant k))) (sym c.in-Writing.is) (c.writing_plan.ensures c.args.target.now)

pub returns-in-Arrays : goal.returns-in-Arrays
returns-in-Arrays c = subst (λ k. IfOk c.arrays_plan.result (IsPlan c.args.target.now (whole_of c.args.model.now.book) (command_meant k))) (sym c.in-Arrays.is) (c.arrays_plan.ensures c.args.target.now)

pub returns-in-Notation : goal.returns-in-Notation
returns-in-Notation c = subst (λ k. IsPlan c.args.target.now (whole_of c.args.model.now.book) (command_meant k) c.notation_plan.result) (sym c.in-Notation.is) (c.notation_plan.ensures c.args.target.now (whole_of c.args.model.now.book))

pub returns-in-Styles : goal.returns-in-Styles
returns-in-Styles c = subst (λ k. IsPlan c.args.target.now (whole_of c.args.model.now.book) (command_meant k) c.styles_plan.result) (sym c.in-Styles.is) (c.styles_plan.ensures c.args.target.now (whole_of c.args.model.now.book))

pub returns-in-Layout : goal.returns-in-Layout
returns-in-Layout c = subst (λ k. IsPlan c.args.target.now (whole_of c.args.model.now.book) (command_meant k) c.layout_plan.result) (sym c.in-Layout.is) (c.layout_plan.ensures c.args.target.now (whole_of c.args.model.now.book))

pub returns-in-Tabs : goal.returns-in-Tabs
returns-in-Tabs c = subst (λ k. IsPlan c.args.target.now (whole_of c.args.model.now.book) (command_meant k) c.tabs_plan.result) (sym c.in-Tabs.is) (c.tabs_plan.ensures c.args.target.now (whole_of c.args.model.now.book))
