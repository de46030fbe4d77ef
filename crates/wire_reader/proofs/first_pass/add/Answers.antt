use Rattle.std.proofs.Common.{◌≡◌, refl, map, slice_set, ◌-◌, vec_len}
use Rattle.wire_lines.specs.Views.{view_call}
use Rattle.wire_reader.specs.FirstPass.{with_call}
use Rattle.wire_reader.specs.Drafted.{started_of}
use Rattle.wire_reader.proofs.Adding.{call_added}
use Rattle.wire_reader.proofs.first_pass.add.Goals as goal

pub returns-in_ok-push-in-Calls : goal.returns-in_ok-push-in-Calls
returns-in_ok-push-in-Calls c =
    let ps = c.args.draft.now.processes in
    let e : map started_of (slice_set ps.items (vec_len ps - 1)
    (record { job = c.in-Some.process.now.job; rank = c.in-Some.process.now.rank; node = c.in-Some.process.now.node; calls = c.push.new.self })) ≡ with_call (map started_of ps.items)
    (c.args.line, view_call c.in-Calls.call) =
    call_added ps.items (vec_len ps) c.in-Some.process.now c.push.new.self _ ps.ok.0 (c.in-Some.ensures.variant.0 refl) c.in-Some.ensures.value c.in_ok-push-in-Calls.ensures.items in
    rw (c.in-Calls.is, e) refl

pub returns-in_ok-add-in-Job : goal.returns-in_ok-add-in-Job
returns-in_ok-add-in-Job c = rw (c.in-Job.is, c.in_ok-add-in-Job.ensures.ok) refl

pub returns-in-Rank : goal.returns-in-Rank
returns-in-Rank c = rw c.in-Rank.is (c.add_process.ensures c.args.line)
