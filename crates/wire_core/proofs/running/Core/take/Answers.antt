use Rattle.std.proofs.Common.{◌≡◌, ℕ, List, ◌∙◌, ◌<◌, ap, sym, refl, subst, arith, suc, ◌∷◌, [], ◌++◌, map, length, Some}
use Rattle.std.specs.Prelude.{option_map, slice_set}
use Rattle.std.proofs.lemmas.List.{length-map, map-append}
use Rattle.std.proofs.lemmas.Option.{slice_get_read}
use Rattle.wire_scripts.specs.Planned.{plan_of}
use Rattle.wire_store.specs.Kept.{kept_with}
use Rattle.wire_plan.specs.Kinds.{kind_of}
use Rattle.wire_runs.specs.State.{next_event}
use Rattle.wire_runs.specs.Step.{run, reply}
use Rattle.wire_runs.specs.Ends.{call_of, given}
use Rattle.wire_runs.proofs.Basics.{event_within, process_within}
use Rattle.wire_core.specs.Course.{Course, state_of}
use Rattle.wire_names.specs.Changes.{names_after}
use Rattle.wire_runs.specs.State.{start}
use Rattle.wire_runs.proofs.Runs.{run_push}
use Rattle.wire_runs.proofs.Lists.{one_longer}
use Rattle.wire_core.specs.Met.{ArrivesAt, after_arrival}
use Rattle.wire_core.specs.Ranks.{calls_at, IsShared}
use Rattle.wire_core.proofs.Shared.{shared_step, missing_if, has_name}
use Rattle.wire_core.specs.Seeing.{replies_in}
use Rattle.wire_core.specs.Waiting.{after as known_after, coming, AreNotesTrue}
use Rattle.wire_core.specs.declared.waits.Awaited.TheVariants.{Unknown}
use Rattle.wire_core.proofs.Waiting.{noted_step}
use Rattle.wire_core.proofs.Steps.{IsAdvanced, put_anyway, name_anyway, step_room, step_space, step_history, rank_step, course_step}
use Rattle.wire_core.specs.Keeping.{IsKeeping}
use Rattle.wire_core.proofs.Gains.{keeping_step, gains_room}
use Rattle.wire_core.proofs.running.Core.take.Goals as goal

pub call_of-call-requires : goal.call_of-call-requires
call_of-call-requires c =
    let plan = plan_of c.self.inside.plan.now in
    let s = run plan (map (λ p. p.number) c.self.inside.history.items) in
    let is = sym (rw (← c.self.view_is) at c.in-Some.ensures.kind) in
    let place = rw (← c.self.view_is) at c.next_event-event.ensures in
    let proc = ap (λ x. x.proc) place in
    let at = ap (λ x. x.at) place in
    rw (proc, at) (event_within plan c.args.proc.number (s.done c.args.proc.number) (kind_of c.self.inside.plan.now.sets c.in-Some.kind) is)

pub index_mut-rank-requires : goal.index_mut-rank-requires
index_mut-rank-requires c =
    let plan = plan_of c.self.inside.plan.now in
    let s = run plan (map (λ p. p.number) c.self.inside.history.items) in
    let is = sym (rw (← c.self.view_is) at c.in-Some.ensures.kind) in
    let within = process_within plan c.args.proc.number (s.done c.args.proc.number) (kind_of c.self.inside.plan.now.sets c.in-Some.kind) is in
    let count = c.self.invariant.course.told.count in
    let len = c.self.inside.ranks.ok.0 in
    let index = c.index.ensures in
    omega (arith, within, count, len, index)

pub advance-requires-clause-number : goal.advance-requires-clause-number
advance-requires-clause-number c =
    let plan = plan_of c.self.inside.plan.now in
    let s = run plan (map (λ p. p.number) c.self.inside.history.items) in
    let is = sym (rw (← c.self.view_is) at c.in-Some.ensures.kind) in
    let ranks = c.self.inside.ranks.items in
    let old = c.index_mut-rank.result.now in
    let within = process_within plan c.args.proc.number (s.done c.args.proc.number) (kind_of c.self.inside.plan.now.sets c.in-Some.kind) is in
    let count = c.self.invariant.course.told.count in
    let there : c.args.proc.number < length ranks = omega (arith, within, count) in
    let read = rw c.index.ensures at c.index_mut-rank.ensures.value in
    let told = c.self.invariant.course.told.each c.args.proc.number old (slice_get_read ranks (length ranks) c.args.proc.number old refl there read) in
    let fits = rw (← c.self.view_is) at c.in-Some.ensures.fits in
    rw told.done fits

pub advance-requires-clause-room : goal.advance-requires-clause-room
advance-requires-clause-room c =
    let plan = plan_of c.self.inside.plan.now in
    let s = run plan (map (λ p. p.number) c.self.inside.history.items) in
    let is = sym (rw (← c.self.view_is) at c.in-Some.ensures.kind) in
    let ranks = c.self.inside.ranks.items in
    let old = c.index_mut-rank.result.now in
    let within = process_within plan c.args.proc.number (s.done c.args.proc.number) (kind_of c.self.inside.plan.now.sets c.in-Some.kind) is in
    let count = c.self.invariant.course.told.count in
    let there : c.args.proc.number < length ranks = omega (arith, within, count) in
    let read = rw c.index.ensures at c.index_mut-rank.ensures.value in
    let told = c.self.invariant.course.told.each c.args.proc.number old (slice_get_read ranks (length ranks) c.args.proc.number old refl there read) in
    λ sets put. step_room plan s c.args.proc.number old (kind_of c.self.inside.plan.now.sets c.in-Some.kind) told is (put_anyway c.self.inside.plan.now.sets sets c.in-Some.kind ∙ put)

pub advance-requires-clause-space : goal.advance-requires-clause-space
advance-requires-clause-space c =
    let plan = plan_of c.self.inside.plan.now in
    let s = run plan (map (λ p. p.number) c.self.inside.history.items) in
    let is = sym (rw (← c.self.view_is) at c.in-Some.ensures.kind) in
    let ranks = c.self.inside.ranks.items in
    let old = c.index_mut-rank.result.now in
    let within = process_within plan c.args.proc.number (s.done c.args.proc.number) (kind_of c.self.inside.plan.now.sets c.in-Some.kind) is in
    let count = c.self.invariant.course.told.count in
    let there : c.args.proc.number < length ranks = omega (arith, within, count) in
    let read = rw c.index.ensures at c.index_mut-rank.ensures.value in
    let told = c.self.invariant.course.told.each c.args.proc.number old (slice_get_read ranks (length ranks) c.args.proc.number old refl there read) in
    let space = step_space plan s c.args.proc.number old (kind_of c.self.inside.plan.now.sets c.in-Some.kind) told is in
    let len = old.replies.ok.0 in
    omega (arith, space, len)

pub push_reserved-requires : goal.push_reserved-requires
push_reserved-requires c =
    let plan = plan_of c.self.inside.plan.now in
    let w = map (λ p. p.number) c.self.inside.history.items in
    let on = rw (← c.self.view_is) at c.requires in
    let room = step_history plan w c.args.proc.number c.self.invariant.course.legal on in
    let steps : length w ≡ length c.self.inside.history.items = length-map c.self.inside.history.items (λ p. p.number) in
    let len = c.self.inside.history.ok.0 in
    let space = c.self.invariant.room in
    omega (arith, room, steps, len, space)

pub invariant_of-self : goal.invariant_of-self
invariant_of-self c =
    let plan = plan_of c.self.inside.plan.now in
    let s = run plan (map (λ p. p.number) c.self.inside.history.items) in
    let is = sym (rw (← c.self.view_is) at c.in-Some.ensures.kind) in
    let ranks = c.self.inside.ranks.items in
    let old = c.index_mut-rank.result.now in
    let within = process_within plan c.args.proc.number (s.done c.args.proc.number) (kind_of c.self.inside.plan.now.sets c.in-Some.kind) is in
    let count = c.self.invariant.course.told.count in
    let there : c.args.proc.number < length ranks = omega (arith, within, count) in
    let read = rw c.index.ensures at c.index_mut-rank.ensures.value in
    let told = c.self.invariant.course.told.each c.args.proc.number old (slice_get_read ranks (length ranks) c.args.proc.number old refl there read) in
    let w = map (λ p. p.number) c.self.inside.history.items in
    let on = rw (← c.self.view_is) at c.requires in
    let place = rw (← c.self.view_is) at c.next_event-event.ensures in
    let call : c.call_of-call.result ≡ calls_at plan c.args.proc.number (s.done c.args.proc.number) = c.call_of-call.ensures ∙ ap (call_of plan) place in
    let answered : given plan (reply plan s (next_event s c.args.proc.number) (Some (kind_of c.self.inside.plan.now.sets c.in-Some.kind))) ≡ replies_in c.reply-reply.result =
    subst (λ course. given (plan_of course.scripts) (reply (plan_of course.scripts) (state_of course) (next_event (state_of course) c.args.proc.number)
    (Some (kind_of course.scripts.sets c.in-Some.kind))) ≡ replies_in c.reply-reply.result) (sym c.self.view_is) c.reply-reply.ensures in
    let after : IsAdvanced old c.advance.new.self (calls_at plan c.args.proc.number (s.done c.args.proc.number)) (kind_of c.self.inside.plan.now.sets c.in-Some.kind) c.reply-reply.result =
    record {
      done = c.advance.ensures.done;
      puts = c.advance.ensures.puts c.self.inside.plan.now.sets ∙ ap (λ a. kept_with old.done a old.store.puts (Some (kind_of c.self.inside.plan.now.sets c.in-Some.kind))) call;
      room = c.advance.ensures.room c.self.inside.plan.now.sets;
      replies = c.advance.ensures.replies;
      space = c.advance.ensures.space;
    } in
    let now = rank_step plan s c.args.proc.number old c.advance.new.self (kind_of c.self.inside.plan.now.sets c.in-Some.kind) c.reply-reply.result told is answered after in
    let course = course_step c.self.inside.plan.now w ranks c.args.proc.number c.advance.new.self c.self.invariant.course on now in
    let pushed : map (λ p. p.number) c.push_reserved.new.self.items ≡ w ++ c.args.proc.number ∷ [] =
    ap (map (λ p. p.number)) c.push_reserved.ensures.items ∙ map-append (λ p. p.number) c.self.inside.history.items (c.args.proc ∷ []) in
    let sets = c.self.inside.plan.now.sets in
    let arriving = subst (λ x. ArrivesAt c.self.inside.plan.now c.self.inside.fences.now x (option_map (λ f. f.number) c.find_fence-fence.result)) place c.find_fence-fence.ensures in
    let shared = shared_step c.self.inside.plan.now s c.self.inside.fences.now c.self.inside.arrivals c.self.inside.names c.args.proc.number (option_map (λ f. f.number) c.find_fence-fence.result)
    (kind_of sets c.in-Some.kind) c.self.invariant.shared is arriving in
    let noted : c.note_name.new.names ≡ names_after (calls_at plan c.args.proc.number (s.done c.args.proc.number)) (Some (kind_of sets c.in-Some.kind)) c.self.inside.names =
    c.note_name.ensures sets ∙ ap (λ a. names_after a (Some (kind_of sets c.in-Some.kind)) c.self.inside.names) call in
    let comes = c.what_comes.ensures sets ∙ ap (λ missing. coming c.args.proc c.find_fence-fence.result missing (kind_of sets c.in-Some.kind)) c.note_arrival.ensures in
    let waits = noted_step c.self.inside.plan.now c.self.inside.fences.now s c.self.inside.arrivals c.args.proc c.find_fence-fence.result (kind_of sets c.in-Some.kind) c.self.inside.waits is arriving
    c.self.invariant.shared.arrived shared.arrived within c.self.invariant.noted in
    let gain = rw (← c.self.view_is) at c.gain_of-gain.ensures in
    let keeping = keeping_step plan s c.args.proc.number (length w) c.self.inside.keeping c.note-2.new.self c.gain_of-gain.result within c.self.invariant.keeping_is gain
    c.note-2.ensures.counts c.note-2.ensures.room in record {
      course = rw (pushed, c.index.ensures) course;
      room = rw c.push_reserved.ensures.capacity c.self.invariant.room;
      shared = rw (
        pushed,
        c.note_arrival.ensures,
        noted,
      ) (subst (λ st. IsShared c.self.inside.plan.now st c.self.inside.fences.now (after_arrival (option_map (λ f. f.number) c.find_fence-fence.result) c.self.inside.arrivals)
          (names_after (calls_at plan c.args.proc.number (s.done c.args.proc.number)) (Some (kind_of sets c.in-Some.kind)) c.self.inside.names)) (sym (run_push plan start w c.args.proc.number))
          shared);
      noted = rw (
        pushed,
        c.note.ensures,
        c.wake.ensures,
        comes,
      ) (subst (λ st. AreNotesTrue c.self.inside.plan.now c.self.inside.fences.now st
          (slice_set (map (known_after (coming c.args.proc c.find_fence-fence.result (after_arrival (option_map (λ f. f.number) c.find_fence-fence.result) c.self.inside.arrivals)
          (kind_of sets c.in-Some.kind))) c.self.inside.waits) c.args.proc.number Unknown)) (sym (run_push plan start w c.args.proc.number)) waits);
      looked = c.self.invariant.looked;
      keeping_is = rw pushed (subst (λ n. IsKeeping plan (run plan (w ++ c.args.proc.number ∷ [])) n c.note-2.new.self) (sym (one_longer w c.args.proc.number))
          (subst (λ st. IsKeeping plan st (suc (length w)) c.note-2.new.self) (sym (run_push plan start w c.args.proc.number)) keeping));
    }

pub note-requires : goal.note-requires
note-requires c =
    let plan = plan_of c.self.inside.plan.now in
    let s = run plan (map (λ p. p.number) c.self.inside.history.items) in
    let is = sym (rw (← c.self.view_is) at c.in-Some.ensures.kind) in
    let within = process_within plan c.args.proc.number (s.done c.args.proc.number) (kind_of c.self.inside.plan.now.sets c.in-Some.kind) is in
    let count = c.self.invariant.noted.count in
    let woken : length c.wake.new.self ≡ length c.self.inside.waits = ap length c.wake.ensures ∙ length-map c.self.inside.waits (known_after c.what_comes.result) in
    omega (arith, within, count, woken)

pub note_arrival-requires : goal.note_arrival-requires
note_arrival-requires c =
    let plan = plan_of c.self.inside.plan.now in
    let s = run plan (map (λ p. p.number) c.self.inside.history.items) in
    let place = rw (← c.self.view_is) at c.next_event-event.ensures in
    let arriving = subst (λ x. ArrivesAt c.self.inside.plan.now c.self.inside.fences.now x (option_map (λ f. f.number) c.find_fence-fence.result)) place c.find_fence-fence.ensures in
    missing_if c.self.inside.plan.now s c.self.inside.fences.now c.self.inside.arrivals c.args.proc.number c.find_fence-fence.result arriving c.self.invariant.shared.arrived

pub note_name-requires : goal.note_name-requires
note_name-requires c sets =
    let plan = plan_of c.self.inside.plan.now in
    let s = run plan (map (λ p. p.number) c.self.inside.history.items) in
    let is = sym (rw (← c.self.view_is) at c.in-Some.ensures.kind) in
    let shared = c.self.invariant.shared in
    name_anyway c.self.inside.plan.now.sets sets c.in-Some.kind c.self.inside.names
    (has_name c.self.inside.plan.now c.args.proc.number (s.done c.args.proc.number) (kind_of c.self.inside.plan.now.sets c.in-Some.kind) c.self.inside.names shared.sound shared.named.count is)

pub note-requires-2 : goal.note-requires-2
note-requires-2 c =
    let plan = plan_of c.self.inside.plan.now in
    let w = map (λ p. p.number) c.self.inside.history.items in
    let s = run plan w in
    let on = rw (← c.self.view_is) at c.requires in
    let lt = step_history plan w c.args.proc.number c.self.invariant.course.legal on in
    gains_room plan s c.args.proc.number (length w) c.self.inside.keeping c.gain_of-gain.result c.self.invariant.keeping_is (rw (← c.self.view_is) at c.gain_of-gain.ensures) lt

pub returns : goal.returns
returns c =
    let pushed : map (λ p. p.number) c.push_reserved.new.self.items ≡ map (λ p. p.number) c.self.inside.history.items ++ c.args.proc.number ∷ [] =
    ap (map (λ p. p.number)) c.push_reserved.ensures.items ∙ map-append (λ p. p.number) c.self.inside.history.items (c.args.proc ∷ []) in
    ap (λ (history : List ℕ). record { scripts = c.self.inside.plan.now; history = history }) pushed
    ∙ ap (λ (course : Course). record { scripts = course.scripts; history = course.history ++ c.args.proc.number ∷ [] }) c.self.view_is
