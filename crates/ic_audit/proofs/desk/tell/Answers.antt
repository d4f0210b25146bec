use Rattle.std.proofs.Common.{◌≡◌, ◌++◌, List, Option, map, subst, sym}
use Rattle.ic_parts.specs.Sites.{site_of}
use Rattle.ic_parts.specs.declared.sites.MentionSite.{MentionSite}
use Rattle.ic_lines.specs.Bytes.{AppendsFront, IfTold}
use Rattle.ic_machine.specs.Refusal.{Site}
use Rattle.ic_audit.specs.Listed.{TellsSites, TellsSitesFront, told_sites}
use Rattle.ic_audit.proofs.desk.tell.Goals as goal

pub returns-in-Ok-clause-listed : goal.returns-in-Ok-clause-listed
returns-in-Ok-clause-listed g c at_0 =
    let written = g.K.Sink.written in
    subst (λ (o : Option (List Site)). IfTold (written c.args.sink.now) (written c.write_sites.new.sink) (TellsSites o)) (sym c.in-Ok.ensures.sites)
    (subst (λ (xs : List MentionSite). IfTold (written c.args.sink.now) (written c.write_sites.new.sink) (λ before now. now ≡ before ++ told_sites (map site_of xs))) c.deref.ensures.value (c.write_sites.ensures.ok at_0))

pub returns-in-Ok-clause-front : goal.returns-in-Ok-clause-front
returns-in-Ok-clause-front g c at_4 =
    let written = g.K.Sink.written in
    subst (λ (o : Option (List Site)). IfTold (written c.args.sink.now) (written c.write_sites.new.sink) (TellsSitesFront o)) (sym c.in-Ok.ensures.sites)
    (subst (λ (xs : List MentionSite). IfTold (written c.args.sink.now) (written c.write_sites.new.sink) (AppendsFront (told_sites (map site_of xs)))) c.deref.ensures.value (c.write_sites.ensures.front at_4))
