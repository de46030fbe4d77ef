use Rattle.std.proofs.Common.{◌≡◌, ◌+◌, refl, take, sym, subst, arith}
use Rattle.std.proofs.lemmas.List.{map_more, take_all}
use Rattle.wire_types.specs.declared.Proc.{Proc}
use Rattle.wire_scripts.specs.Scripts.{numbers_of}
use Rattle.wire_races.specs.SweepRaces.{AddsShares}
use Rattle.wire_races.proofs.SweepRaces.{no_shares, one_share, same_shares}
use Rattle.wire_races.proofs.sweep_races.add_shares.Goals as goal
use Rattle.wire_races.proofs.sweep_races.add_shares.Goals.{then-higher-proc+in_ok-push, else-higher-proc}

pub loop-higher-init : goal.loop-higher-init
loop-higher-init c = no_shares c.args.proc.number c.args.name c.args.shares.now.items

pub loop-higher-preserved : goal.loop-higher-preserved
loop-higher-preserved c =
    let p = c.args.proc.number in
    let name = c.args.name in
    let procs = c.args.procs.now in
    let n = c.loop-higher.higher-index in
    let old = c.args.shares.now.items in
    let now = c.loop-higher.shares.items in
    let more = map_more (λ (q : Proc). q.number) procs n _ c.loop-higher-test.true in
    elim c.if-higher-proc.branch [
      | then-higher-proc+in_ok-push w ↦
          rw w.shares-is (subst (AddsShares p name (numbers_of (take (n + 1) procs)) old) (sym w.in_ok-push.ensures.items)
          (one_share p name (numbers_of (take n procs)) _ (numbers_of (take (n + 1) procs)) old now _ more refl refl w.if-higher-proc.true c.loop-higher.invariant))
      | else-higher-proc w ↦
          rw w.shares-is (subst (λ qs. AddsShares p name qs old now) (sym more)
          (same_shares p name (numbers_of (take n procs)) _ old now (λ lt. let le = w.if-higher-proc.false in omega (arith, le, lt)) c.loop-higher.invariant))
    ]

pub returns : goal.returns
returns c =
    let procs = c.args.procs.now in
    let all : take c.loop-higher.higher-index procs ≡ procs = take_all c.loop-higher.higher-index procs (omega arith) in
    subst (λ l. AddsShares c.args.proc.number c.args.name (numbers_of l) c.args.shares.now.items c.loop-higher.shares.items) all c.loop-higher.invariant
