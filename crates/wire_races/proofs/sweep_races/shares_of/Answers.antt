use Rattle.std.proofs.Common.{◌≡◌, [], take, sym, subst, arith}
use Rattle.std.proofs.Common.{rules}
use Rattle.std.proofs.lemmas.List.Sorted.{IsNonDecreasingBy-from_sort_by_key}
use Rattle.wire_races.specs.declared.sweep_races.Share.{Share}
use Rattle.wire_races.proofs.SweepRaces.{moved_shares}
use Rattle.std.proofs.lemmas.List.{take_more, take_all}
use Rattle.wire_scripts.specs.Planned.{plan_of}
use Rattle.wire_scripts.specs.Scripts.{numbers_of}
use Rattle.wire_races.specs.SweepRaces.{AreShares}
use Rattle.wire_races.proofs.SweepRaces.{none_shared, name_shared}
use Rattle.wire_races.proofs.sweep_races.shares_of.Goals as goal

pub loop-name-init : goal.loop-name-init
loop-name-init c = subst (AreShares (plan_of c.args.plan.now) c.args.proc.number []) (sym c.new-shares.ensures.items) (none_shared (plan_of c.args.plan.now) c.args.proc.number)

pub loop-name-preserved : goal.loop-name-preserved
loop-name-preserved c =
    let plan = plan_of c.args.plan.now in
    let names = c.args.names.now in
    let n = c.loop-name.name-index in
    let procs = numbers_of c.in_ok-procs.procs.items in
    subst (λ l. AreShares plan c.args.proc.number l c.add_shares.new.shares.items) (sym (take_more names n _ c.loop-name-test.true))
    (name_shared plan c.args.proc.number (take n names) _ procs c.loop-name.shares.items c.add_shares.new.shares.items c.in_ok-procs.ensures
    (rw c.as_slice.ensures.value at c.in_ok-add_shares.ensures) c.loop-name.invariant)

pub returns-clause-those : goal.returns-clause-those
returns-clause-those c =
    let plan = plan_of c.args.plan.now in
    let p = c.args.proc.number in
    let names = c.args.names.now in
    let shares = c.loop-name.shares.items in
    let all : take c.loop-name.name-index names ≡ names = take_all c.loop-name.name-index names (omega arith) in
    moved_shares plan p names shares c.sort_unstable_by_key.new.self.items c.sort_unstable_by_key.ensures.permutation
    (subst (λ l. AreShares plan p l shares) all c.loop-name.invariant)

pub returns-clause-sorted : goal.returns-clause-sorted
returns-clause-sorted c = IsNonDecreasingBy-from_sort_by_key (λ (s : Share). s.proc.number) _ c.sort_unstable_by_key.ensures.sorted (λ a r q k. search rules)
