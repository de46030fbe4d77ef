use Rattle.std.proofs.Common.{◌∙◌, ap}
use Rattle.wire_scripts.specs.Scripts.{text_at}
use Rattle.wire_procmap.specs.Keys.{is_reserved_kind}
use Rattle.wire_procmap.proofs.Keys.{reserved_of_kind}
use Rattle.wire_procmap.proofs.map.ProcMap.is_reserved.Goals as goal

pub returns : goal.returns
returns c = λ s is. c.is_reserved.ensures ∙ ap is_reserved_kind (c.kind.ensures s is) ∙ reserved_of_kind (text_at s.keys c.args.key)
