use Rattle.std.proofs.Common.{◌≡◌, ◌<◌, List, length, set, arith, subst, sym, refl}
use mathlib.Core.Option.{some}
use lib.ListN.{get_elem?}
use Rattle.crossbeam_deque.proofs.Lists.{at_index}
use Rattle.wire_rounds.specs.declared.round.Pass.{Pass}
use Rattle.wire_rounds.specs.Rounds.{Permit}
use Rattle.wire_rounds.proofs.Joins.{Rowing, rowing_nothing, rowing_next, rowing_more, rowing_ends}
use Rattle.wire_rounds.proofs.deques.join_permits.Goals as goal

pub joins-init : goal.joins-init
joins-init c = rowing_nothing _ _ c.requires.0

abbrev RowingTo : List Pass → List Pass → List Permit → List Permit → Type 0
RowingTo first now all left = Rowing first now all left

pub join_one-requires-clause-permit : goal.join_one-requires-clause-permit
join_one-requires-clause-permit c =
    let ok = c.pop.new.self.ok.0 in
    let len = c.len-to.ensures in
    let all = c.joins.invariant.same_length in
    let fewer = c.joins.invariant.fewer in
    let one = c.in-Some.ensures.cases in
    let ok' = c.joins.permits.ok.0 in
    let k : c.len-to.result < length c.joins.passes.items = omega (arith, c.requires.0, ok', ok, len, all, fewer, one) in
    let to : c.len-to.result ≡ length c.pop.new.self.items = omega (arith, len, ok) in
    let at = subst (λ n. get_elem? c.joins.passes.items n ≡ some c.index_mut.result.now) to (at_index _ _ _ k c.index_mut.ensures.value) in
    let old = subst (RowingTo c.args.passes.now.items c.joins.passes.items c.args.permits.items) c.in-Some.ensures.items c.joins.invariant in
    (rowing_next c.args.passes.now.items c.joins.passes.items c.args.permits.items c.pop.new.self.items c.in-Some.permit c.index_mut.result.now old c.requires at).0

pub join_one-requires-clause-part : goal.join_one-requires-clause-part
join_one-requires-clause-part c =
    let ok = c.pop.new.self.ok.0 in
    let len = c.len-to.ensures in
    let all = c.joins.invariant.same_length in
    let fewer = c.joins.invariant.fewer in
    let one = c.in-Some.ensures.cases in
    let ok' = c.joins.permits.ok.0 in
    let k : c.len-to.result < length c.joins.passes.items = omega (arith, c.requires.0, ok', ok, len, all, fewer, one) in
    let to : c.len-to.result ≡ length c.pop.new.self.items = omega (arith, len, ok) in
    let at = subst (λ n. get_elem? c.joins.passes.items n ≡ some c.index_mut.result.now) to (at_index _ _ _ k c.index_mut.ensures.value) in
    let old = subst (RowingTo c.args.passes.now.items c.joins.passes.items c.args.permits.items) c.in-Some.ensures.items c.joins.invariant in
    (rowing_next c.args.passes.now.items c.joins.passes.items c.args.permits.items c.pop.new.self.items c.in-Some.permit c.index_mut.result.now old c.requires at).2

pub joins-preserved : goal.joins-preserved
joins-preserved c =
    let ok = c.pop.new.self.ok.0 in
    let len = c.len-to.ensures in
    let all = c.joins.invariant.same_length in
    let fewer = c.joins.invariant.fewer in
    let one = c.in-Some.ensures.cases in
    let ok' = c.joins.permits.ok.0 in
    let k : c.len-to.result < length c.joins.passes.items = omega (arith, c.requires.0, ok', ok, len, all, fewer, one) in
    let to : c.len-to.result ≡ length c.pop.new.self.items = omega (arith, len, ok) in
    let at = subst (λ n. get_elem? c.joins.passes.items n ≡ some c.index_mut.result.now) to (at_index _ _ _ k c.index_mut.ensures.value) in
    let old = subst (RowingTo c.args.passes.now.items c.joins.passes.items c.args.permits.items) c.in-Some.ensures.items c.joins.invariant in
    let q : Pass = record { worker = c.index_mut.result.now.worker; own = c.join_one.new.own; permits = c.index_mut.result.now.permits } in
    subst (λ n. Rowing c.args.passes.now.items (set c.joins.passes.items n q) c.args.permits.items c.pop.new.self.items) (sym to)
    (rowing_more c.args.passes.now.items c.joins.passes.items c.args.permits.items c.pop.new.self.items c.in-Some.permit c.index_mut.result.now q old at
    (refl, c.join_one.ensures.same, refl, c.join_one.ensures.view))

pub returns : goal.returns
returns c =
    let none = c.in_default.ensures.cases in
    let ok = c.joins.permits.ok.0 in
    rowing_ends _ _ _ c.joins.permits.items c.joins.invariant (omega (arith, none.0, ok))
