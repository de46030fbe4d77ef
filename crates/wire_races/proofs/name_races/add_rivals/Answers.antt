use Rattle.std.proofs.Common.{◌∙◌, ap, sym, refl, map, subst, option_copied, arith}
use Rattle.wire_runs.specs.Plan.{event_of}
use Rattle.wire_runs.proofs.Lists.{nil_from_no_first}
use Rattle.wire_scripts.specs.Planned.{plan_of}
use Rattle.wire_races.specs.NameRaces.{AreOf, AreRivals}
use Rattle.wire_races.proofs.Lists.{both_parts}
use Rattle.wire_races.proofs.NameRaces.{IsLeft, first_rivals, other_rivals, less_left, none_left}
use Rattle.wire_races.proofs.name_races.add_rivals.Goals as goal

pub stretches-init : goal.stretches-init
stretches-init c = record { found = c.requires.found; rivals = c.requires.rivals; left = λ f. ((λ s. s), (λ s. s)) }

pub add_between-requires-clause-rivals : goal.add_between-requires-clause-rivals
add_between-requires-clause-rivals c =
    let plan = plan_of c.args.marked.now in
    let parts = both_parts c.stretches.rest.now c.split_at.result.0.now c.split_at.result.1.now c.stretch_length.result c.split_at.ensures.front c.split_at.ensures.back in
    first_rivals plan c.args.x.name (event_of c.args.x.event) (map event_of c.split_at.result.0.now) (map event_of c.split_at.result.1.now)
    (subst (λ l. AreRivals plan c.args.x.name (event_of c.args.x.event) l) parts c.stretches.invariant.rivals)

pub stretches-preserved : goal.stretches-preserved
stretches-preserved c =
    let plan = plan_of c.args.marked.now in
    let name = c.args.x.name in
    let x = event_of c.args.x.event in
    let all = map event_of c.args.rivals.now in
    let run = map event_of c.split_at.result.0.now in
    let others = map event_of c.split_at.result.1.now in
    let parts = both_parts c.stretches.rest.now c.split_at.result.0.now c.split_at.result.1.now c.stretch_length.result c.split_at.ensures.front c.split_at.ensures.back in
    record {
      found = c.in_ok-add_between.ensures.found;
      rivals = other_rivals plan name x run others (subst (λ l. AreRivals plan name x l) parts c.stretches.invariant.rivals);
      left = less_left plan name x c.args.found.now c.stretches.found c.add_between.new.found all run others
          (subst (λ l. IsLeft plan name x c.args.found.now c.stretches.found all l) parts c.stretches.invariant.left) c.in_ok-add_between.ensures;
    }

pub stretches-smaller : goal.stretches-smaller
stretches-smaller c =
    let more = c.stretch_length.ensures.more (plan_of c.args.marked.now) c.args.x.name c.in-Some.first.now c.stretches.invariant.rivals.calls_on
    (sym c.first.ensures.value ∙ ap option_copied c.in-Some.is) refl in
    let size = c.split_at.ensures.back_len in
    omega (arith, more, size)

pub returns : goal.returns
returns c =
    let plan = plan_of c.args.marked.now in
    let name = c.args.x.name in
    let x = event_of c.args.x.event in
    let all = map event_of c.args.rivals.now in
    let empty = nil_from_no_first c.stretches.rest.now (sym c.first.ensures.value ∙ ap option_copied c.in_default.is) in
    none_left plan name x c.args.found.now c.stretches.found all c.stretches.invariant.found
    (subst (λ l. IsLeft plan name x c.args.found.now c.stretches.found all (map event_of l)) empty c.stretches.invariant.left)

pub add_between-requires-clause-run : goal.add_between-requires-clause-run
add_between-requires-clause-run c = (
  c.in-Some.first.now.proc.number,
  subst (λ l. AreOf c.in-Some.first.now.proc.number (map event_of l)) (sym c.split_at.ensures.front)
      (c.stretch_length.ensures.stretch (plan_of c.args.marked.now) c.args.x.name c.in-Some.first.now c.stretches.invariant.rivals.calls_on
      (sym c.first.ensures.value ∙ ap option_copied c.in-Some.is) refl),
)
