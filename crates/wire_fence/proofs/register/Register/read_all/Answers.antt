use Rattle.std.proofs.Common.{◌≡◌, ◌∙◌, ◌+◌, ◌<◌, List, Option, ℕ, length, map, Some, slice_get, subst, sym, ap, arith}
use Rattle.std.proofs.lemmas.Option.{slice_get-get_or}
use Rattle.std.proofs.lemmas.List.{map_push}
use Rattle.wire_scripts.specs.Scripts.{numbers_of, calls_in}
use Rattle.wire_fence.specs.Register.{AreRead, AreAllNumbers, read_to, number_kept}
use Rattle.wire_fence.proofs.States.{AllRead, all_first, all_more_of, room_left}
use Rattle.wire_fence.proofs.register.Register.read_all.Goals as goal

pub read_calls-requires-clause-within : goal.read_calls-requires-clause-within
read_calls-requires-clause-within c = λ k set_of_call collect is.
    let low : c.loop-process.process-index < length c.args.processes.now = omega arith in
    let here = slice_get-get_or c.args.processes.now c.loop-process.process-index c.process-item.result low ∙ ap Some (sym c.process-item.is) in
    c.requires.within c.loop-process.process-index k set_of_call collect (ap (λ o. slice_get (calls_in o) k) here ∙ ap (λ calls. slice_get calls k) (sym c.calls.ensures) ∙ is)

pub loop-process-preserved : goal.loop-process-preserved
loop-process-preserved c =
    let low : c.loop-process.process-index < length c.args.processes.now = omega arith in
    record {
      zeros = c.in_ok-numbers_there.ensures.zeros;
      keyed = c.in_ok-numbers_there.ensures.keyed;
      all = subst
          (λ (xs : List (List (Option ℕ))). AllRead c.read_calls.new.self.rows.items (map (λ v. numbers_of v.items) c.args.sets.now) c.args.processes.now xs (c.loop-process.process-index + 1))
          (sym (ap (map (λ v. map number_kept v.items)) c.in_ok-push.ensures.items ∙ map_push (λ v. map number_kept v.items) c.loop-process.numbers.items c.in_ok-numbers_there.numbers_there))
          (all_more_of c.loop-process.self.rows.items c.read_calls.new.self.rows.items (map (λ v. numbers_of v.items) c.args.sets.now) c.args.processes.now
          (map (λ v. map number_kept v.items) c.loop-process.numbers.items) (map number_kept c.in_ok-numbers_there.numbers_there.items) c.loop-process.process-index c.process-item.result c.calls.result.now
          c.loop-process.invariant.all low c.process-item.is c.calls.ensures
          c.in_ok-numbers_there.ensures.few c.in_ok-numbers_there.ensures.numbers c.in_ok-numbers_there.ensures.kept c.in_ok-numbers_there.ensures.read);
    }

pub loop-process-init : goal.loop-process-init
loop-process-init c = record {
  zeros = c.in_ok-counts.ensures.items_if_clones_equal (λ y is. is);
  keyed = c.requires.keyed;
  all = all_first c.args.self.now.rows.items (map (λ v. numbers_of v.items) c.args.sets.now) c.args.processes.now (map (λ v. map number_kept v.items) c.in_ok-numbers.numbers.items) c.requires.first
      (ap (map (λ v. map number_kept v.items)) c.in_ok-numbers.ensures.items);
}

pub read_calls-requires-clause-room : goal.read_calls-requires-clause-room
read_calls-requires-clause-room c =
    room_left c.loop-process.self.rows.items c.args.processes.now c.loop-process.process-index c.process-item.result c.calls.result.now
    c.loop-process.invariant.all.few c.loop-process-test.true c.process-item.is c.calls.ensures c.requires.counted.few_calls

pub returns-clause-numbers : goal.returns-clause-numbers
returns-clause-numbers c =
    let over : c.loop-process.process-index ≡ length c.args.processes.now = omega arith in
    subst (AreAllNumbers c.loop-process.self.rows.items c.args.processes.now (map (λ v. map number_kept v.items) c.loop-process.numbers.items)) over c.loop-process.invariant.all.numbered

pub returns-clause-read : goal.returns-clause-read
returns-clause-read c = λ s sound same_sets same_processes.
    let over : c.loop-process.process-index ≡ length c.args.processes.now = omega arith in
    subst (λ n. AreRead s (read_to s n) c.loop-process.self.rows.items) over (c.loop-process.invariant.all.read s sound same_sets same_processes)
