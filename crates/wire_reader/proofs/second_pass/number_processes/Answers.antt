use Rattle.std.proofs.Common.{◌≡◌, ◌<◌, ◌≤◌, ◌++◌, ◌∷◌, [], ◌*◌, ◌+◌, ◌∙◌, ap, refl, length, map, rules, arith, get_or, subst, sym}
use Rattle.std.proofs.lemmas.List.{length-map, drop_all}
use Rattle.wire_reader.specs.Limits.{largest}
use Rattle.wire_reader.specs.Reads.{process_of, first_fault}
use Rattle.wire_reader.specs.Drafted.{declared_of, started_of, placed_of}
use Rattle.wire_reader.specs.Tabled.{seen_of, all_seen, entry_count, GoOn}
use Rattle.wire_reader.proofs.Steps.{handed_on, made_on, made_all, processes_on, room_for, room_on, process_faults_on, process_fault_on}
use Rattle.wire_reader.proofs.Tables.{with_calls_goes_on, go_on_more, go_on_self, calls_grow}
use Rattle.wire_reader.proofs.second_pass.number_processes.Goals as goal

pub loop-process-init : goal.loop-process-init
loop-process-init c =
    let none = ap entry_count c.requires.empty in
    let few = c.requires.within.few_calls in
    let counted = c.requires.within.counted in
    record {
      so_far = ap (λ s. all_seen (declared_of c.args.draft.now) s (map started_of c.args.draft.now.processes.items)) (sym c.requires.empty);
      room = omega (arith, none, few, counted);
      noted = c.requires.noted;
      numbers = λ later goes. c.in_ok-processes.ensures.items;
      faults = refl;
    }

pub number_process-requires-clause-room : goal.number_process-requires-clause-room
number_process-requires-clause-room c =
    let ps = c.args.draft.now.processes.items in
    let i = c.loop-process.process-index in
    let x = c.process-item.result in
    let lt : i < length ps = rw c.deref-process-items.ensures.value at c.loop-process-test.true in
    let is : x ≡ get_or ps i x = rw c.deref-process-items.ensures.value at c.process-item.is in
    let room = room_for (seen_of c.loop-process.numbering.tables) (2 * largest.calls) ps i x lt is c.loop-process.invariant.room in
    omega (arith, room)

pub loop-process-preserved : goal.loop-process-preserved
loop-process-preserved c =
    let d = declared_of c.args.draft.now in
    let ps = c.args.draft.now.processes.items in
    let i = c.loop-process.process-index in
    let x = c.process-item.result in
    let old = seen_of c.loop-process.numbering.tables in
    let new = seen_of c.number_process.new.numbering.tables in
    let lt : i < length ps = rw c.deref-process-items.ensures.value at c.loop-process-test.true in
    let is : x ≡ get_or ps i x = rw c.deref-process-items.ensures.value at c.process-item.is in
    let pushed : c.push.new.self.items ≡ c.loop-process.processes.items ++ c.in_ok-numbered.numbered ∷ [] = search rules in
    let grows : GoOn old new = rw c.in_ok-numbered.ensures.tables (with_calls_goes_on d old x.job (map placed_of x.calls.items)) in
    let grown : entry_count new ≤ entry_count old + 2 * length x.calls.items =
    subst (λ s. entry_count s ≤ entry_count old + 2 * length x.calls.items) (sym c.in_ok-numbered.ensures.tables)
    (let m = calls_grow d old x.job (map placed_of x.calls.items) in let n = length-map x.calls.items placed_of in omega (arith, m, n)) in
    record {
      so_far = processes_on d _ old new ps i x lt is c.loop-process.invariant.so_far c.in_ok-numbered.ensures.tables;
      room = room_on old new (2 * largest.calls) ps i x lt is c.loop-process.invariant.room grown;
      noted = c.in_ok-numbered.ensures.noted;
      numbers = λ later goes.
          made_on (process_of d later) started_of c.loop-process.processes.items c.push.new.self.items ps i x c.in_ok-numbered.numbered lt is pushed
          (c.loop-process.invariant.numbers later (go_on_more old new later grows goes)) (c.in_ok-numbered.ensures.process later goes);
      faults = process_faults_on d _ ps i x lt is c.loop-process.invariant.faults c.in_ok-numbered.ensures.ok;
    }

pub returns-clause-processes : goal.returns-clause-processes
returns-clause-processes c =
    let last = seen_of c.loop-process.numbering.tables in
    let past : length c.args.draft.now.processes.items ≤ c.loop-process.process-index = rw c.deref-process-items.ensures.value at c.loop-process-test.false in
    made_all (process_of (declared_of c.args.draft.now) last) started_of c.loop-process.processes.items c.args.draft.now.processes.items c.loop-process.process-index past
    (c.loop-process.invariant.numbers last (go_on_self last))

pub returns-clause-tables : goal.returns-clause-tables
returns-clause-tables c =
    let ps = c.args.draft.now.processes.items in
    let past : length ps ≤ c.loop-process.process-index = rw c.deref-process-items.ensures.value at c.loop-process-test.false in
    let none = drop_all c.loop-process.process-index ps past in
    sym (c.loop-process.invariant.so_far ∙ ap (λ l. all_seen (declared_of c.args.draft.now) (seen_of c.loop-process.numbering.tables) (map started_of l)) none)

pub returns-clause-ok : goal.returns-clause-ok
returns-clause-ok c =
    let ps = c.args.draft.now.processes.items in
    let past : length ps ≤ c.loop-process.process-index = rw c.deref-process-items.ensures.value at c.loop-process-test.false in
    c.loop-process.invariant.faults ∙ ap (λ l. first_fault (declared_of c.args.draft.now) (map started_of l)) (drop_all c.loop-process.process-index ps past)

pub returns-in_err-numbered-clause-err : goal.returns-in_err-numbered-clause-err
returns-in_err-numbered-clause-err c =
    let ps = c.args.draft.now.processes.items in
    let i = c.loop-process.process-index in
    let x = c.process-item.result in
    let lt : i < length ps = rw c.deref-process-items.ensures.value at c.loop-process-test.true in
    let is : x ≡ get_or ps i x = rw c.deref-process-items.ensures.value at c.process-item.is in
    let e = c.in_err-numbered.field-0.0 in
    handed_on c.from_residual-in_err-numbered.result e _ c.from_residual-in_err-numbered.ensures.1
    (process_fault_on (declared_of c.args.draft.now) _ ps i x e lt is c.loop-process.invariant.faults c.in_err-numbered.ensures.err)
