use Rattle.std.proofs.Common.{◌∙◌, [], ◌++◌, ap, sym, refl, subst, option_copied, append-nil, append_assoc, arith}
use Rattle.wire_runs.proofs.Lists.{nil_from_no_first}
use Rattle.wire_scripts.specs.Planned.{plan_of}
use Rattle.wire_races.specs.Adding.{AddsFindings}
use Rattle.wire_races.specs.SweepRaces.{AreShared, AreSharesOf, IsSharedRace}
use Rattle.wire_races.proofs.Growing.{adds_none}
use Rattle.wire_races.proofs.SweepRaces.{none_of_none, stretch_more, some_shared, first_shared}
use Rattle.wire_races.proofs.sweep_races.add_shared.Goals as goal

pub stretches-init : goal.stretches-init
stretches-init c = ([], refl, adds_none (plan_of c.args.marked.now) c.args.found.now _ c.requires.found (none_of_none (plan_of c.args.marked.now) c.args.proc.number))

pub stretches-smaller : goal.stretches-smaller
stretches-smaller c =
    let more = c.stretch_size.ensures.more c.in-Some.first.now (sym c.first.ensures.value ∙ ap option_copied c.in-Some.is) refl in
    let size = c.split_at.ensures.back_len in
    omega (arith, more, size)

pub add_stretch-requires-clause-shared : goal.add_stretch-requires-clause-shared
add_stretch-requires-clause-shared c =
    let plan = plan_of c.args.marked.now in
    let p = c.args.proc.number in
    let here = subst (AreShared plan p) c.stretches.invariant.1 c.requires.shared in
    let rest = some_shared plan p c.stretches.invariant.0 c.stretches.rest.now here in
    first_shared plan p c.split_at.result.0.now c.split_at.result.1.now (subst (AreShared plan p) c.split_at.ensures.by_index.0 rest)

pub add_stretch-requires-clause-of_it : goal.add_stretch-requires-clause-of_it
add_stretch-requires-clause-of_it c = subst (AreSharesOf c.in-Some.first.now.proc.number) (sym c.split_at.ensures.front) c.stretch_size.ensures.stretch

pub stretches-preserved : goal.stretches-preserved
stretches-preserved c =
    let plan = plan_of c.args.marked.now in
    let p = c.args.proc.number in
    let done = c.stretches.invariant.0 in
    let stretch = c.split_at.result.0.now in
    let others = c.split_at.result.1.now in (
      done ++ stretch,
      c.stretches.invariant.1 ∙ ap (λ l. done ++ l) c.split_at.ensures.by_index.0 ∙ sym (append_assoc done stretch others),
      stretch_more plan p done stretch c.args.found.now c.stretches.found c.add_stretch.new.found c.stretches.invariant.2 c.in_ok-add_stretch.ensures,
    )

pub returns : goal.returns
returns c =
    let plan = plan_of c.args.marked.now in
    let p = c.args.proc.number in
    let done = c.stretches.invariant.0 in
    let empty = nil_from_no_first c.stretches.rest.now (sym c.first.ensures.value ∙ ap option_copied c.in_default.is) in
    let all = c.stretches.invariant.1 ∙ ap (λ l. done ++ l) empty ∙ append-nil done in
    subst (λ l. AddsFindings plan c.args.found.now c.stretches.found (IsSharedRace plan p l)) (sym all) c.stretches.invariant.2
