use Rattle.std.proofs.Common.{◌≡◌, inl, inr, [], refl, subst}
use Rattle.std.specs.Prelude.{IsNone}
use Rattle.ic_parts.specs.Whole.{whole_of}
use Rattle.ic_lines.proofs.ToldLemmas.{IfTold-weaker}
use Rattle.ic_run.specs.Translate.{target_refusal}
use Rattle.ic_tables.specs.Tables.{TableSet}
use Rattle.ic_import.specs.Desk.{request_of, status_of, target}
use Rattle.ic_import.specs.Import.{request_refusal}
use Rattle.ic_import.proofs.DeskLemmas.{all_statuses, at_3, at_5, at_end, known_request, never_refuses, not_of_request, says_rests, settled, told_as, writes, writes_part}
use Rattle.ic_import.proofs.desk.import_into.Goals as goal

pub tell-requires : goal.tell-requires
tell-requires g c =
    let left = g.S.Source.left in
    let t = target c.args.asked.now in
    let old = whole_of c.args.model.now.book in
    let new = whole_of c.import_csv-answer.new.model.book in
    let r = c.import_csv-answer.result in
    let before = left c.args.source.now in
    let now = left c.import_csv-answer.new.source in
    let known = subst (λ (tables : TableSet). IsNone (target_refusal t tables)) c.requires.tables c.requires.known in
    never_refuses t old new r before now c.requires.plain c.requires.some c.import_csv-answer.ensures.told (not_of_request (request_refusal (request_of t) old) r (known_request t old c.requires.some known) c.import_csv-answer.ensures.refused)

pub returns-clause-written : goal.returns-clause-written
returns-clause-written g c at =
    let left = g.S.Source.left in
    let t = target c.args.asked.now in
    let old = whole_of c.args.model.now.book in
    let new = whole_of c.import_csv-answer.new.model.book in
    let r = c.import_csv-answer.result in
    let before = left c.args.source.now in
    let now = left c.import_csv-answer.new.source in
    let told = c.tell.ensures.written at in
    let rests = c.import_csv-answer.ensures.told (says_rests r new c.tell.result told.0 told.1) in
    writes t old new r before now rests told.0 c.tell.result _ _ told.1 told.2

pub returns-clause-front : goal.returns-clause-front
returns-clause-front g c at =
    let left = g.S.Source.left in
    let t = target c.args.asked.now in
    let old = whole_of c.args.model.now.book in
    let new = whole_of c.import_csv-answer.new.model.book in
    let r = c.import_csv-answer.result in
    let before = left c.args.source.now in
    let now = left c.import_csv-answer.new.source in
    let told = c.tell.ensures.front at in
    let rests = c.import_csv-answer.ensures.told (says_rests r new (status_of r) told.0 told.1) in
    writes_part t old new r before now rests told.0 _ _ told.1 told.2

pub returns-clause-end : goal.returns-clause-end
returns-clause-end g c at =
    let left = g.S.Source.left in
    let t = target c.args.asked.now in
    let old = whole_of c.args.model.now.book in
    let new = whole_of c.import_csv-answer.new.model.book in
    let r = c.import_csv-answer.result in
    let before = left c.args.source.now in
    let now = left c.import_csv-answer.new.source in
    let told = c.tell.ensures.written at in
    c.import_csv-answer.ensures.end (says_rests r new c.tell.result told.0 told.1)

pub returns-clause-taken : goal.returns-clause-taken
returns-clause-taken g c at =
    let left = g.S.Source.left in
    let t = target c.args.asked.now in
    let old = whole_of c.args.model.now.book in
    let new = whole_of c.import_csv-answer.new.model.book in
    let r = c.import_csv-answer.result in
    let before = left c.args.source.now in
    let now = left c.import_csv-answer.new.source in
    let told = c.tell.ensures.written at in
    let rests = c.import_csv-answer.ensures.told (says_rests r new c.tell.result told.0 told.1) in
    IfTold-weaker before now (λ all rest. (rests.bytes ≡ all) × (rest ≡ [])) (λ bytes rest. rest ≡ []) (λ all rest is. is.1) rests.taken

pub returns-clause-known : goal.returns-clause-known
returns-clause-known g c = (all_statuses c.import_csv-answer.result c.tell.result c.tell.ensures.which).1.1

pub returns-clause-read_fault : goal.returns-clause-read_fault
returns-clause-read_fault g c at = c.import_csv-answer.ensures.read_fault (at_3 c.import_csv-answer.result (told_as c.tell.result (status_of c.import_csv-answer.result) 3 (inl refl) c.tell.ensures.which at))

pub returns-clause-too_many : goal.returns-clause-too_many
returns-clause-too_many g c at = c.import_csv-answer.ensures.too_many (at_5 c.import_csv-answer.result (told_as c.tell.result (status_of c.import_csv-answer.result) 5 (inr refl) c.tell.ensures.which at))

pub returns-clause-unseen : goal.returns-clause-unseen
returns-clause-unseen g c at = c.import_csv-answer.ensures.unseen (at_5 c.import_csv-answer.result (told_as c.tell.result (status_of c.import_csv-answer.result) 5 (inr refl) c.tell.ensures.which at))

pub returns-clause-most : goal.returns-clause-most
returns-clause-most g c = let all = all_statuses c.import_csv-answer.result c.tell.result c.tell.ensures.which in (all.0, all.1.0)

pub returns-clause-completes : goal.returns-clause-completes
returns-clause-completes g c bytes quiet_source quiet_sink =
    let r = c.import_csv-answer.result in
    let none = c.import_csv-answer.ensures.completes bytes quiet_source in
    at_end c.tell.result (status_of r) c.tell.ensures.which (λ e. quiet_sink (c.tell.ensures.write_fault e)) (settled r none.0 none.1)
