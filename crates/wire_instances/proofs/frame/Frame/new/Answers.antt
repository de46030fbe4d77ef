use Rattle.std.proofs.Common.{◌∙◌, ap, sym, length, arith}
use Rattle.std.proofs.lemmas.List.{length-map}
use Rattle.wire_pattern.specs.Views.{job_by}
use Rattle.wire_pattern.specs.Instances.{roles_from}
use Rattle.wire_instances.specs.Views.{cast_by}
use Rattle.wire_instances.proofs.Found.{jobs_there, few_processes, tables}
use Rattle.wire_instances.proofs.frame.Frame.new.Goals as goal

pub roles_by-requires : goal.roles_by-requires
roles_by-requires c = omega (arith, ap length c.as_slice-2.ensures.value, c.requires.sized, c.roles-declared.ensures.sound.few_roles)

pub ranks_of-requires-clause-few : goal.ranks_of-requires-clause-few
ranks_of-requires-clause-few c =
    few_processes c.args.cast.now.sizes.items c.as_slice-3.result.now (c.as_slice-3.ensures.value ∙ c.in_ok-roles.ensures ∙ ap (roles_from 0) c.as_slice-2.ensures.value) c.requires.few

pub ranks_of-requires-clause-there : goal.ranks_of-requires-clause-there
ranks_of-requires-clause-there c =
    jobs_there c.args.pattern.now c.args.cast.now.sizes.items c.as_slice-3.result.now _ (length c.jobs.result.now) c.roles-declared.ensures.sound c.requires.sized c.roles-declared.ensures.roles
    (c.as_slice-3.ensures.value ∙ c.in_ok-roles.ensures ∙ ap (roles_from 0) c.as_slice-2.ensures.value) (sym (length-map c.jobs.result.now job_by) ∙ ap length c.jobs.ensures)

pub invariant_of-result : goal.invariant_of-result
invariant_of-result c =
    tables c.args.pattern.now (cast_by c.args.cast.now) c.as_slice.result.now c.as_slice-2.result.now c.as_slice-3.result.now c.in_ok-firsts.firsts.items c.in_ok-roles.roles.items
    c.in_ok-ranks.ranks.items _ c.requires c.roles-declared.ensures.sound c.as_slice.ensures.value c.as_slice-2.ensures.value c.roles-declared.ensures.roles c.in_ok-firsts.ensures.count
    c.in_ok-firsts.ensures.firsts c.in_ok-roles.ensures c.as_slice-3.ensures.value c.in_ok-ranks.ensures.count c.in_ok-ranks.ensures.ranks
