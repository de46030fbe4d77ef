use Rattle.std.proofs.Common.{◌≡◌, ap, Ok, None, subst, rules, inr}
use Rattle.std.specs.Prelude.{IfSome}
use Rattle.wire_reader.specs.declared.Size.TheVariants.{OfVersion}
use Rattle.wire_reader.specs.Reads.{Reads}
use Rattle.wire_pattern.specs.Instances.{instance_text}
use Rattle.wire_instances.specs.Views.{cast_by}
use Rattle.wire_pattern_later.proofs.Grown.{read_grown, unread_grown, waits_grown}
use Rattle.wire_pattern_later.proofs.later.waits_there.Goals as goal

pub returns-clause-ok : goal.returns-clause-ok
returns-clause-ok c =
    let p = c.args.pattern.now in
    let cast = cast_by c.args.cast.now in
    waits_grown p c.args.ranks cast c.in-Some.instance.scripts c.in_ok-noted.noted c.reads_once.ensures c.requires.is
    (subst (λ o. IfSome o (λ it. Reads OfVersion (instance_text p cast) (Ok it.scripts))) c.in-Some.is c.in_ok-instance.ensures.reads) c.in_ok-noted.ensures.ok

pub returns-clause-read : goal.returns-clause-read
returns-clause-read c =
    let p = c.args.pattern.now in
    let cast = cast_by c.args.cast.now in
    read_grown p c.args.ranks cast c.in-Some.instance.scripts c.requires.cast.few c.requires.is
    (subst (λ o. IfSome o (λ it. Reads OfVersion (instance_text p cast) (Ok it.scripts))) c.in-Some.is c.in_ok-instance.ensures.reads)

pub returns-in_default-clause-none : goal.returns-in_default-clause-none
returns-in_default-clause-none c = λ e.
    let none : c.in_ok-instance.field-0 ≡ None = first_of (assumption c.in_default.is, cc, search rules) in
    let unread = c.in_ok-instance.ensures.none (ap Ok none) in
    inr (unread_grown c.args.pattern.now c.args.ranks (cast_by c.args.cast.now) unread.0 c.requires.is unread.1)
