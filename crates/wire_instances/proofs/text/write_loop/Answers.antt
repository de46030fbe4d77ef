use Rattle.std.proofs.Common.{◌∙◌, ◌++◌, ap, sym, take}
use Rattle.std.proofs.lemmas.List.{append-nil}
use Rattle.wire_runs.specs.Patterns as plan
use Rattle.wire_pattern.specs.Instances.{cast_of}
use Rattle.wire_pattern.specs.Views.{turns_by}
use Rattle.wire_instances.specs.Written.{calls_text}
use Rattle.wire_instances.proofs.Fronts.{nothing_said}
use Rattle.wire_instances.proofs.text.write_loop.Goals as goal

pub returns-then-is_empty : goal.returns-then-is_empty
returns-then-is_empty c =
    let f = c.args.excerpt.now.frame in
    let round = c.args.round in
    let out = c.args.out.now.items in
    ap (take c.args.excerpt.now.wanted)
    (sym (append-nil out) ∙ sym (ap (λ calls. out ++ calls_text calls) (nothing_said f.pattern f.cast round.caller c.args.lines.now
    (plan.turns (cast_of f.cast) round.caller round.step c.args.group (turns_by round.turns)) (sym c.if-is_empty.ensures))))
