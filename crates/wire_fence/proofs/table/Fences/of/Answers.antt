use Rattle.std.proofs.Common.{◌≡◌, ◌∙◌, ℕ, ◌<◌, List, length, map, get_or, subst, sym, ap, arith}
use Rattle.std.proofs.lemmas.List.{length-map}
use Rattle.std.proofs.lemmas.List.FromFn.{length-map-range_with_len}
use Rattle.wire_runs.specs.Fences.{has_node}
use Rattle.wire_scripts.specs.Scripts.{Process, IsCounted, numbers_of, set_at, call_at}
use Rattle.wire_scripts.specs.Planned.{plan_of}
use Rattle.wire_procmap.specs.Map.{Map, row_count}
use Rattle.wire_procmap.specs.Rows.{row_of}
use Rattle.wire_fence.specs.FenceTable.{AreFencesOf}
use Rattle.wire_fence.specs.Register.{info_of, AreRead, AreAllNumbers, read_to, number_kept}
use Rattle.wire_fence.proofs.FenceTable.{fences_are, member_within}
use Rattle.wire_fence.proofs.table.Fences.of.Goals as goal

pub nodes_of_sets-requires : goal.nodes_of_sets-requires
nodes_of_sets-requires c = λ k i low.
    let s = c.args.scripts.now in
    let sets : c.sets-2.result.now ≡ s.sets = c.sets-2.ensures in
    let low_there : i < length (set_at s.sets k) = subst (λ (xs : List (List ℕ)). i < length (set_at xs k)) sets low in
    let within = member_within s k i c.processes-processes.ensures.sound low_there in
    let same = ap (λ (xs : List (List ℕ)). get_or (set_at xs k) i 0) sets in
    let count : row_count c.args.map.now ≡ length s.processes = ap (λ (m : Map). length m.rows) c.requires ∙ length-map-range_with_len (row_of s.processes) 0 (length s.processes) in
    omega (arith, within, same, count)

pub read_rows-requires-clause-counted : goal.read_rows-requires-clause-counted
read_rows-requires-clause-counted c = subst IsCounted (sym c.processes-processes.ensures.processes) c.processes-processes.ensures.sound.counted

pub read_rows-requires-clause-within : goal.read_rows-requires-clause-within
read_rows-requires-clause-within c = λ p k which collect is.
    let low = c.processes-processes.ensures.sound.members p k which collect (ap (λ ps. call_at ps p k) (sym c.processes-processes.ensures.processes) ∙ is) in
    let copied = ap length (c.in_ok-sets.ensures ∙ c.sets.ensures) in
    let as_many = length-map c.in_ok-sets.sets.items (λ v. numbers_of v.items) in
    let read = ap length c.deref.ensures.value in
    omega (arith, low, copied, as_many, read)

pub returns-clause-ok : goal.returns-clause-ok
returns-clause-ok c =
    let s = c.args.scripts.now in
    let copied : map (λ v. numbers_of v.items) c.in_ok-sets.sets.items ≡ s.sets = c.in_ok-sets.ensures ∙ c.sets.ensures in
    let read : map (λ v. numbers_of v.items) c.deref.result.now ≡ s.sets = ap (map (λ v. numbers_of v.items)) c.deref.ensures.value ∙ copied in
    let processes : c.processes-processes.result.now ≡ s.processes = c.processes-processes.ensures.processes in
    let sound = c.processes-processes.ensures.sound in
    subst (λ (xs : List (List ℕ)). AreFencesOf s (record {
      fences = map (info_of xs) c.in_ok-rows.rows.items;
      numbers = map (λ v. map number_kept v.items) c.in_ok-rows.numbers.items;
      reached = c.in_ok-reached.reached.value.keys;
    })) (sym copied) (
    fences_are s sound c.in_ok-rows.rows.items (map (λ v. map number_kept v.items) c.in_ok-rows.numbers.items) c.in_ok-reached.reached.value.keys
    (subst (λ (ps : List Process). AreRead s (read_to s (length ps)) c.in_ok-rows.rows.items) processes (c.in_ok-rows.ensures.read s sound read processes))
    (subst (λ (ps : List Process). AreAllNumbers c.in_ok-rows.rows.items ps (map (λ v. map number_kept v.items) c.in_ok-rows.numbers.items) (length ps)) processes c.in_ok-rows.ensures.numbers)
    (λ k node. c.in_ok-reached.ensures s k node c.requires ∙ ap (λ (xs : List (List ℕ)). has_node (plan_of s) (set_at xs k) node) c.sets-2.ensures)
    )
