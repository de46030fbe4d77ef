use Rattle.std.proofs.Common.{◌∙◌, ap}
use Rattle.wire_procmap.specs.Map.{Map}
use Rattle.wire_procmap.proofs.Keys.{plain_past}
use Rattle.wire_procmap.proofs.map.ProcMap.kind.Goals as goal

pub returns-in-None : goal.returns-in-None
returns-in-None c = λ s is.
    let all = c.deref.ensures.value ∙ ap (λ (m : Map). m.kinds) (c.self.view_is ∙ is) in
    plain_past s.keys c.deref.result.now c.args.key all c.in-None.ensures.lookup.3
