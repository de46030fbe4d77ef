use Rattle.std.proofs.Common.{◌≡◌, ◌+◌, ◌∙◌, ◌++◌, ap, sym, refl, map, length, length-append, get_or, flat_map, ◌∷◌, [], rules}
use Rattle.std.proofs.lemmas.List.{length-map, at_drop_all}
use Rattle.wire_runs.specs.Plan.{kinds_of}
use Rattle.wire_scripts.specs.Planned.{planned_call}
use Rattle.wire_plan.specs.Kinds.{kind_of, calls_from, firsts_from}
use Rattle.wire_plan.proofs.Parts.{flat_step, firsts_step}
use Rattle.wire_plan.proofs.Planning.{kinds_by, calls_by, done_at_end}
use Rattle.wire_plan.proofs.rows.EventRows.of.Goals as goal

pub loop-process-init : goal.loop-process-init
loop-process-init c =
    let none = c.empty-rows.ensures in
    let all = c.processes-processes.ensures.processes in
    record { kinds = rw (none.kinds, all) refl; calls = rw (none.calls, all) refl; firsts = rw (none.firsts, none.kinds, all) refl }

pub loop-process-preserved : goal.loop-process-preserved
loop-process-preserved c =
    let s = c.args.scripts.now in
    let processes = c.processes-processes.result.now in
    let i = c.loop-process.process-index in
    let process = c.process-item.result in
    let old = c.loop-process.rows in
    let new = c.add_process.new.self in
    let told = c.in_ok-add_process.ensures in
    let same = c.calls.ensures ∙ ap (λ q. q.calls) c.process-item.is in
    let kinds = told.kinds ∙ ap (λ cs. map (kind_of s.sets) old.kinds.items ++ kinds_of (map (planned_call s) cs)) same in
    let calls = told.calls ∙ ap (λ cs. old.calls.items ++ calls_from 0 (map (planned_call s) cs)) same in
    let size : length new.kinds.items ≡ length old.kinds.items + length (kinds_by s (get_or processes i process)) =
    sym (length-map new.kinds.items (kind_of s.sets)) ∙ ap length kinds ∙ length-append (map (kind_of s.sets) old.kinds.items) (kinds_by s (get_or processes i process))
    ∙ ap (λ n. n + length (kinds_by s (get_or processes i process))) (length-map old.kinds.items (kind_of s.sets)) in
    record {
      kinds = flat_step (kinds_by s) _ _ _ processes i process c.loop-process-test.true kinds c.loop-process.invariant.kinds;
      calls = flat_step (calls_by s) _ _ _ processes i process c.loop-process-test.true calls c.loop-process.invariant.calls;
      firsts = firsts_step (λ p. length (kinds_by s p)) _ _ _ (length old.kinds.items) (length new.kinds.items) processes i process c.loop-process-test.true size told.firsts
          c.loop-process.invariant.firsts;
    }

pub returns-clause-kinds : goal.returns-clause-kinds
returns-clause-kinds c =
    done_at_end (flat_map (kinds_by c.args.scripts.now)) _ _ c.processes-processes.result.now c.loop-process.process-index refl c.loop-process-test.false c.loop-process.invariant.kinds

pub returns-clause-calls : goal.returns-clause-calls
returns-clause-calls c =
    done_at_end (flat_map (calls_by c.args.scripts.now)) _ _ c.processes-processes.result.now c.loop-process.process-index refl c.loop-process-test.false c.loop-process.invariant.calls

pub returns-clause-firsts : goal.returns-clause-firsts
returns-clause-firsts c =
    let s = c.args.scripts.now in
    let rows = c.loop-process.rows in
    let len : c.len.result ≡ length rows.kinds.items = search rules in
    c.in_ok-push.ensures.items
    ∙ ap (λ n. rows.firsts.items ++ n ∷ []) len
    ∙ sym (c.loop-process.invariant.firsts
    ∙ at_drop_all (λ ps. rows.firsts.items ++ firsts_from (λ p. length (kinds_by s p)) (length rows.kinds.items) ps) c.processes-processes.result.now c.loop-process.process-index
    c.loop-process-test.false)
