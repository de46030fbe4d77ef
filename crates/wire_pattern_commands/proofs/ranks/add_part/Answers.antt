use Rattle.std.proofs.Common.{◌∙◌, ap, map}
use Rattle.std.proofs.lemmas.List.{map_push}
use Rattle.wire_instances.specs.Asked.{asked_by}
use Rattle.wire_pattern_commands.proofs.Misfits.{few_more, only_misfit, told}
use Rattle.wire_pattern_commands.proofs.ranks.add_part.Goals as goal

pub returns-clause-misfit : goal.returns-clause-misfit
returns-clause-misfit c =
    only_misfit c.args.pattern.now.roles (map asked_by c.args.asked.now.items) (map asked_by c.as_slice.result.now) (asked_by c.in-Some.one) c.args.part.now c.are_fitting.result
    (ap (map asked_by) (c.as_slice.ensures.value ∙ c.in_ok-push.ensures.items) ∙ map_push asked_by c.args.asked.now.items c.in-Some.one)
    (told c.in_ok-one.field-0 c.in-Some.one _ c.in-Some.is c.in_ok-one.ensures.found).0 (told c.in_ok-one.field-0 c.in-Some.one _ c.in-Some.is c.in_ok-one.ensures.found).1
    c.are_fitting.ensures

pub returns-clause-few : goal.returns-clause-few
returns-clause-few c is =
    few_more (map asked_by c.args.asked.now.items) (map asked_by c.push.new.self.items) (asked_by c.in-Some.one)
    (ap (map asked_by) c.in_ok-push.ensures.items ∙ map_push asked_by c.args.asked.now.items c.in-Some.one)
    (told c.in_ok-one.field-0 c.in-Some.one _ c.in-Some.is c.in_ok-one.ensures.found).1
