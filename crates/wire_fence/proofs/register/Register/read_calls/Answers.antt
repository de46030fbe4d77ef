use Rattle.std.proofs.Common.{◌≡◌, ◌∙◌, ◌+◌, ◌<◌, length, map, Some, get_or, subst, sym, ap, arith}
use Rattle.std.proofs.lemmas.Option.{slice_get-get_or}
use Rattle.std.proofs.lemmas.List.{length-map, map_push}
use Rattle.wire_runs.specs.Plan.{update}
use Rattle.wire_types.specs.declared.Call.{Call}
use Rattle.wire_types.specs.declared.Call.TheVariants.{Put}
use Rattle.wire_types.specs.declared.Scope.TheVariants.{Local}
use Rattle.wire_scripts.specs.Scripts.{numbers_of}
use Rattle.wire_fence.specs.Register.{AreRead, number_kept}
use Rattle.wire_fence.proofs.Forgotten.{all_forgotten}
use Rattle.wire_fence.proofs.States.{StateOf, state_first, state_more, count_fits, numbers_past}
use Rattle.wire_fence.proofs.register.Register.read_calls.Goals as goal

-- what a read past the end would give
abbrev no_call : Call
no_call = Put Local 0 0

pub loop-call-init : goal.loop-call-init
loop-call-init c = record {
  keyed = c.requires.keyed;
  state =
      state_first c.args.self.now.rows.items (map (λ v. numbers_of v.items) c.args.sets.now) c.args.calls.now c.args.counts.now.items (map number_kept c.in_ok-numbers.numbers.items) (length c.args.sets.now)
      (sym (length-map c.args.sets.now (λ v. numbers_of v.items))) c.requires.zeros (ap (map number_kept) c.in_ok-numbers.ensures.items);
}

pub forget-requires : goal.forget-requires
forget-requires c = λ k which collect is.
    let within = c.requires.within k which collect is in
    let len = c.loop-call.invariant.state.len in
    let sets = length-map c.args.sets.now (λ v. numbers_of v.items) in
    omega (arith, within, len, sets)

pub returns-clause-zeros : goal.returns-clause-zeros
returns-clause-zeros c =
    let over : c.loop-call.call-index ≡ length c.args.calls.now = omega arith in
    let sets = length-map c.args.sets.now (λ v. numbers_of v.items) in
    all_forgotten c.args.self.now.rows.items c.loop-call.self.rows.items (map (λ v. numbers_of v.items) c.args.sets.now) c.args.calls.now c.loop-call.counts.items (map number_kept c.loop-call.numbers.items)
    c.loop-call.call-index (length c.args.sets.now) c.forget.new.counts.items c.loop-call.invariant.state over sets c.forget.ensures

pub read-requires-clause-counts : goal.read-requires-clause-counts
read-requires-clause-counts c = λ n.
    let fits = count_fits c.args.self.now.rows.items c.loop-call.self.rows.items (map (λ v. numbers_of v.items) c.args.sets.now) c.args.calls.now c.loop-call.counts.items (map number_kept c.loop-call.numbers.items)
    c.loop-call.call-index n c.loop-call.invariant.state (omega arith) in
    let room = c.requires.room in
    omega (arith, fits, room)

pub read-requires-clause-within : goal.read-requires-clause-within
read-requires-clause-within c = λ k collect is.
    let low : c.loop-call.call-index < length c.args.calls.now = omega arith in
    let within = c.requires.within c.loop-call.call-index k collect (slice_get-get_or c.args.calls.now c.loop-call.call-index no_call low ∙ ap Some is) in
    let len = c.loop-call.invariant.state.len in
    let sets = length-map c.args.sets.now (λ v. numbers_of v.items) in
    omega (arith, within, len, sets)

pub loop-call-preserved : goal.loop-call-preserved
loop-call-preserved c =
    let low : c.loop-call.call-index < length c.args.calls.now = omega arith in
    let here = slice_get-get_or c.args.calls.now c.loop-call.call-index no_call low in
    let sets = length-map c.args.sets.now (λ v. numbers_of v.items) in
    record {
      keyed = c.in_ok-number.ensures.keyed;
      state = subst
          (λ xs. StateOf c.args.self.now.rows.items c.read.new.self.rows.items (map (λ v. numbers_of v.items) c.args.sets.now) c.args.calls.now c.read.new.counts.items xs (c.loop-call.call-index + 1))
          (sym (ap (map number_kept) c.in_ok-push.ensures.items ∙ map_push number_kept c.loop-call.numbers.items c.in_ok-number.number))
          (state_more c.args.self.now.rows.items c.loop-call.self.rows.items c.read.new.self.rows.items (map (λ v. numbers_of v.items) c.args.sets.now) c.args.calls.now c.loop-call.counts.items
          c.read.new.counts.items (map number_kept c.loop-call.numbers.items) (number_kept c.in_ok-number.number) c.loop-call.call-index (get_or c.args.calls.now c.loop-call.call-index no_call)
          c.loop-call.invariant.state here
          (λ k collect is. let within = c.requires.within c.loop-call.call-index k collect (here ∙ ap Some is) in omega (arith, within, sets))
          c.in_ok-number.ensures.after);
    }

pub returns-clause-read : goal.returns-clause-read
returns-clause-read c = λ s p read sound same_sets same_calls nothing are.
    let over : c.loop-call.call-index ≡ length c.args.calls.now = omega arith in
    subst (λ n. AreRead s (update read p n) c.loop-call.self.rows.items) over (c.loop-call.invariant.state.read s p read sound same_sets same_calls nothing are)

pub returns-clause-numbers : goal.returns-clause-numbers
returns-clause-numbers c =
    numbers_past c.loop-call.self.rows.items c.args.calls.now (map number_kept c.loop-call.numbers.items) _ c.loop-call.call-index (omega arith) c.loop-call.invariant.state.numbered c.in_ok-kept.ensures
