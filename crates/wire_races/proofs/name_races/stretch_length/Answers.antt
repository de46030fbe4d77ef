use Rattle.std.proofs.Common.{◌≤◌, ap, sym, subst, map, take}
use Rattle.wire_types.specs.declared.Proc.{Proc}
use Rattle.wire_runs.specs.Plan.{event_of}
use Rattle.wire_races.specs.NameRaces.{AreOf}
use Rattle.wire_fates.specs.Cuts.{IsCut}
use Rattle.wire_races.proofs.Lists.{stretch, stretch_more}
use Rattle.wire_races.proofs.name_races.stretch_length.Goals as goal

pub returns-clause-stretch : goal.returns-clause-stretch
returns-clause-stretch c = λ plan name x are first same.
    let number = ap (λ (p : Proc). p.number) same in
    subst (λ p. AreOf p (map event_of (take c.count_upto.result c.args.calls.now))) number
    (stretch plan name c.args.calls.now c.count_upto.result x c.count_upto.ensures.within are first
    (subst (λ p. IsCut (λ z. z.proc ≤ p) (map event_of c.args.calls.now) c.count_upto.result) (sym number) (c.count_upto.ensures.cut plan name are)))

pub returns-clause-more : goal.returns-clause-more
returns-clause-more c = λ plan name x are first same.
    let number = ap (λ (p : Proc). p.number) same in
    stretch_more c.args.calls.now c.count_upto.result x first (subst (λ p. IsCut (λ z. z.proc ≤ p) (map event_of c.args.calls.now) c.count_upto.result) (sym number)
    (c.count_upto.ensures.cut plan name are))
