use Rattle.std.proofs.Common.{◌∙◌, ap, position}
use Rattle.wire_procmap.specs.Map.{Map}
use Rattle.wire_procmap.proofs.Places.{has_place}
use Rattle.wire_procmap.proofs.Tables.{found_in, none_in}
use Rattle.wire_procmap.proofs.map.ProcMap.proc_at.Goals as goal

pub returns-in-Some-clause-found : goal.returns-in-Some-clause-found
returns-in-Some-clause-found c = λ s is.
    let all = c.deref.ensures.value ∙ ap (λ (m : Map). m.rows) c.self.view_is in
    rw c.new.ensures (found_in c.args.self.now c.args.job c.args.rank c.in-Some.number (c.in-Some.ensures ∙ ap (position (has_place c.args.job c.args.rank)) all) s is)

pub returns-in-None-clause-none : goal.returns-in-None-clause-none
returns-in-None-clause-none c =
    let all = c.deref.ensures.value ∙ ap (λ (m : Map). m.rows) c.self.view_is in
    none_in c.args.self.now c.args.job c.args.rank (c.in-None.ensures ∙ ap (position (has_place c.args.job c.args.rank)) all)
