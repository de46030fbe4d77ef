-- On all nodes each process waits at the call at which it waits on its own.
use Rattle.std.proofs.Common.{◌≡◌, ◌∙◌, ap, sym, refl, ℕ, List, [], map, Option, Some, None, option_map, inl, inr, ◌↔◌, arith}
use Rattle.std.specs.Prelude.{slice_get, slice_index_or}
use Rattle.std.proofs.lemmas.Bool.{cases_lt}
use Rattle.std.proofs.lemmas.Option.{slice_get-map}
use Rattle.wire_types.specs.declared.CallEnd.{CallEnd}
use Rattle.wire_types.specs.declared.CallEnd.TheVariants.{Replied, Waiting, Ready, Unreached}
use Rattle.wire_runs.specs.Plan.{Plan, process_count}
use Rattle.wire_runs.specs.Laws.{plain_end}
use Rattle.wire_runs.specs.Placings.{IsPlacing}
use Rattle.wire_runs.specs.PlacingLaws.{how_far}
use Rattle.wire_runs.proofs.PlacingEnds.{ends_alike}
use Rattle.wire_scripts.specs.Scripts.{Scripts}
use Rattle.wire_scripts.specs.Planned.{plan_of}
use Rattle.wire_scripts.specs.Placed.{moved}
use Rattle.wire_scripts.proofs.Moved.{as_placing}
use Rattle.wire_core.specs.EndsAfter.{plain_ends}
use Rattle.wire_cutoff.specs.Selections.{Selection}
use Rattle.wire_pattern_waits.specs.Waits.{alone, StopsIn}
use Rattle.wire_pattern_waits.specs.AllNodes.{StopsOnAllNodes, StopsOn, WaitsOnAllNodes}
use Rattle.wire_pattern_waits.proofs.Answered.{row_of, no_row}

-- a call that has come as far as one that waits
still_waits : (end : Option CallEnd) → option_map how_far end ≡ Some Waiting → end ≡ Some Waiting
still_waits None h = cc
still_waits (Some Waiting) h = refl
still_waits (Some (Replied reply)) h = cc
still_waits (Some Ready) h = cc
still_waits (Some Unreached) h = cc

waits_too : (ends others : List CallEnd) (call : ℕ) → map how_far ends ≡ map how_far others
    → slice_get ends call ≡ Some Waiting → slice_get others call ≡ Some Waiting
waits_too ends others call same waits =
    still_waits (slice_get others call)
    (sym (slice_get-map how_far others call) ∙ ap (λ es. slice_get es call) (sym same) ∙ slice_get-map how_far ends call ∙ ap (option_map how_far) waits)

module _ (scripts : Scripts) (names : List (List ℕ)) (nodes : ℕ → ℕ) where
  abbrev there : Scripts
  there = moved scripts names nodes

  abbrev plan : Plan
  plan = plan_of scripts

  abbrev other : Plan
  other = plan_of there

  same : IsPlacing plan other
  same = as_placing scripts names nodes

  rows_alike : (v : ℕ) → map how_far (slice_index_or (plain_ends scripts).rows v []) ≡ map how_far (slice_index_or (plain_ends there).rows v [])
  rows_alike v = elim (cases_lt v (process_count plan)) [
    | inl lt ↦
        ap (map how_far) (row_of plan (plain_end plan) (process_count plan) v lt) ∙ ends_alike plan other same v
        ∙ sym (ap (map how_far) (row_of other (plain_end other) (process_count other) v (omega (arith, lt, same.same_count))))
    | inr past ↦
        ap (map how_far) (no_row plan (plain_end plan) (process_count plan) v past
        ∙ sym (no_row other (plain_end other) (process_count other) v (omega (arith, past, same.same_count))))
  ]

  waits_there : (v call : ℕ) → (slice_get (slice_index_or (plain_ends there).rows v []) call ≡ Some Waiting)
      ↔ (slice_get (slice_index_or (plain_ends scripts).rows v []) call ≡ Some Waiting)
  waits_there v call = (waits_too _ _ call (sym (rows_alike v)), waits_too _ _ call (rows_alike v))

pub stops_on_all_nodes : StopsOnAllNodes
stops_on_all_nodes p cast scripts names nodes role line = (
  λ s. record {
    process = s.process;
    call = s.call;
    has_role = s.has_role;
    waits = (waits_there scripts names nodes s.process s.call).0 s.waits;
    of_line = s.of_line;
  },
  λ s. record {
    process = s.process;
    call = s.call;
    has_role = s.has_role;
    waits = (waits_there scripts names nodes s.process s.call).1 s.waits;
    of_line = s.of_line;
  },
)

pub waits_on_all_nodes : WaitsOnAllNodes
waits_on_all_nodes p names nodes role line = record {
  in_each = in_each;
  in_some = (
    λ w. record { number = w.number; selection = w.selection; is = w.is; stops = (in_each w.selection).0 w.stops },
    λ w. record { number = w.number; selection = w.selection; is = w.is; stops = (in_each w.selection).1 w.stops },
  );
}
  where
    in_each : (selection : Selection) → StopsOn p selection names nodes role line ↔ StopsIn p selection role line
    in_each selection = (
      λ s. record { scripts = s.scripts; reads = s.reads; stops = (stops_on_all_nodes p (alone p selection) s.scripts names nodes role line).0 s.stops },
      λ s. record { scripts = s.scripts; reads = s.reads; stops = (stops_on_all_nodes p (alone p selection) s.scripts names nodes role line).1 s.stops },
    )
