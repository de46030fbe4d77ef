use Rattle.std.proofs.Common.{◌≡◌, ◌<◌, ◌≤◌, ◌++◌, ◌∷◌, [], ◌+◌, ◌∙◌, ap, refl, length, map, rules, arith, get_or, subst, sym}
use Rattle.std.proofs.lemmas.List.{drop_all}
use Rattle.wire_lines.specs.Views.{view_call}
use Rattle.wire_reader.specs.Reads.{numbered, process_of, fault_in}
use Rattle.wire_reader.specs.Drafted.{declared_of, started_of, placed_of}
use Rattle.wire_reader.specs.Tabled.{seen_of, seen_after, entry_count, GoOn}
use Rattle.wire_reader.proofs.Steps.{handed_on, made_on, made_all, calls_on, call_faults_on, call_fault_on}
use Rattle.wire_reader.proofs.Tables.{with_call_goes_on, go_on_more, call_grows}
use Rattle.wire_reader.proofs.second_pass.number_process.Goals as goal

pub loop-placed-init : goal.loop-placed-init
loop-placed-init c = record { so_far = refl; grown = omega arith; noted = c.requires.noted; numbers = λ later goes. c.in_ok-calls.ensures.items; faults = refl }

pub number_call-requires-clause-room : goal.number_call-requires-clause-room
number_call-requires-clause-room c =
    let lt : c.loop-placed.placed-index < length c.args.process.now.calls.items = rw c.deref-placed-items.ensures.value at c.loop-placed-test.true in
    let grown = c.loop-placed.invariant.grown in
    let room = c.requires.room in
    omega (arith, lt, grown, room)

pub loop-placed-preserved : goal.loop-placed-preserved
loop-placed-preserved c =
    let d = declared_of c.args.draft.now in
    let job = c.args.process.now.job in
    let cs = c.args.process.now.calls.items in
    let i = c.loop-placed.placed-index in
    let x = c.placed-item.result in
    let old = seen_of c.loop-placed.numbering.tables in
    let new = seen_of c.number_call.new.numbering.tables in
    let lt : i < length cs = rw c.deref-placed-items.ensures.value at c.loop-placed-test.true in
    let is : x ≡ get_or cs i x = rw c.deref-placed-items.ensures.value at c.placed-item.is in
    let pushed : c.push.new.self.items ≡ c.loop-placed.calls.items ++ c.in_ok-call.call ∷ [] = search rules in
    let grows : GoOn old new = rw c.in_ok-call.ensures.tables (with_call_goes_on d old job (view_call x.call)) in
    let grew : entry_count new ≤ entry_count old + 2 = subst (λ s. entry_count s ≤ entry_count old + 2) (sym c.in_ok-call.ensures.tables) (call_grows d old job (view_call x.call)) in
    record {
      so_far = calls_on d _ old new job cs i x lt is c.loop-placed.invariant.so_far c.in_ok-call.ensures.tables;
      grown = let a = c.loop-placed.invariant.grown in let b = grew in omega (arith, a, b);
      noted = c.in_ok-call.ensures.noted;
      numbers = λ later goes.
          made_on (λ y. numbered d later job y.1) placed_of c.loop-placed.calls.items c.push.new.self.items cs i x c.in_ok-call.call lt is pushed
          (c.loop-placed.invariant.numbers later (go_on_more old new later grows goes)) (c.in_ok-call.ensures.call later goes);
      faults = call_faults_on d _ (started_of c.args.process.now) cs i x lt is c.loop-placed.invariant.faults c.in_ok-call.ensures.ok;
    }

pub returns-clause-process : goal.returns-clause-process
returns-clause-process c = λ later goes.
    let d = declared_of c.args.draft.now in
    let process = c.args.process.now in
    let past : length process.calls.items ≤ c.loop-placed.placed-index = rw c.deref-placed-items.ensures.value at c.loop-placed-test.false in
    c.new.ensures
    ∙ ap (λ cs. record (process_of d later (started_of process)) { calls = cs })
    (made_all (λ y. numbered d later process.job y.1) placed_of c.loop-placed.calls.items process.calls.items c.loop-placed.placed-index past (c.loop-placed.invariant.numbers later goes))

pub returns-clause-tables : goal.returns-clause-tables
returns-clause-tables c =
    let d = declared_of c.args.draft.now in
    let cs = c.args.process.now.calls.items in
    let past : length cs ≤ c.loop-placed.placed-index = rw c.deref-placed-items.ensures.value at c.loop-placed-test.false in
    let none = drop_all c.loop-placed.placed-index cs past in
    sym (c.loop-placed.invariant.so_far ∙ ap (λ l. seen_after d (seen_of c.loop-placed.numbering.tables) c.args.process.now.job (map placed_of l)) none)

pub returns-clause-ok : goal.returns-clause-ok
returns-clause-ok c =
    let cs = c.args.process.now.calls.items in
    let past : length cs ≤ c.loop-placed.placed-index = rw c.deref-placed-items.ensures.value at c.loop-placed-test.false in
    c.loop-placed.invariant.faults ∙ ap (λ l. fault_in (declared_of c.args.draft.now) (started_of c.args.process.now) (map placed_of l)) (drop_all c.loop-placed.placed-index cs past)

pub returns-in_err-call-clause-err : goal.returns-in_err-call-clause-err
returns-in_err-call-clause-err c =
    let cs = c.args.process.now.calls.items in
    let x = c.placed-item.result in
    let lt : c.loop-placed.placed-index < length cs = rw c.deref-placed-items.ensures.value at c.loop-placed-test.true in
    let is : x ≡ get_or cs c.loop-placed.placed-index x = rw c.deref-placed-items.ensures.value at c.placed-item.is in
    let e = c.in_err-call.field-0.0 in
    handed_on c.from_residual-in_err-call.result e _ c.from_residual-in_err-call.ensures.1
    (call_fault_on (declared_of c.args.draft.now) _ (started_of c.args.process.now) cs c.loop-placed.placed-index x e lt is c.loop-placed.invariant.faults c.in_err-call.ensures.err)
