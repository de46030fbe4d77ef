-- Where no line is told, every call of the instances that are judged has its reply.
use Rattle.std.proofs.Common.{◌≡◌, ◌∙◌, ap, sym, refl, ℕ, zero, suc, ◌+◌, ◌<◌, ◌≤◌, ◌^◌, ◌++◌, List, [], true, false, length, map, get_or, Option, Some, None, inl, inr, ◌⊎◌, nat_lt, ◌-◌, arith}
use Rattle.std.specs.Prelude.{slice_get}
use Rattle.std.specs.List.{range_with_len, list_all}
use Rattle.std.proofs.lemmas.Bool.{cases_lt, lt-ltb}
use Rattle.std.proofs.lemmas.List.FromFn.{length-range_with_len}
use Rattle.std.proofs.lemmas.Option.{slice_get_within, slice_get-get_or}
use Rattle.wire_types.specs.declared.CallEnd.TheVariants.{Replied, Waiting}
use Rattle.wire_types.specs.declared.Reply.{Reply}
use Rattle.wire_runs.specs.Plan.{Plan, process_count}
use Rattle.wire_runs.specs.State.{State}
use Rattle.wire_runs.specs.PlainRun.{plain_run}
use Rattle.wire_runs.specs.Ends.{row, replies_of, calls_of, unanswered}
use Rattle.wire_runs.specs.Laws.{plain_end}
use Rattle.wire_runs.proofs.Ends.{rows_are_whole}
use Rattle.wire_runs.proofs.PlainRun.{plain_runs}
use Rattle.wire_runs.proofs.Lists.{not_in_empty}
use Rattle.wire_scripts.specs.Planned.{plan_of}
use Rattle.wire_scripts.proofs.PlannedCalls.{as_many_planned}
use Rattle.wire_reader.specs.declared.Size.TheVariants.{OfVersion}
use Rattle.wire_pattern.specs.Pattern.{Pattern, Role}
use Rattle.wire_pattern.specs.Planned.{steps_in}
use Rattle.wire_pattern.specs.Lawful.{IsSoundPattern}
use Rattle.wire_pattern.specs.Instances.{Cast, IsCast, cast_of}
use Rattle.wire_instances.proofs.Groups.{length_roles}
use Rattle.wire_instance_laws.specs.Reading.{IsOfCast, InstancesRead}
use Rattle.wire_cutoff_laws.specs.Sizes.{AreFewSizes, total_of}
use Rattle.wire_cutoff.specs.Selections.{Selection, most_sizes}
use Rattle.wire_cutoff.proofs.Listed.{sizes_count, single_size}
use Rattle.wire_cutoff.proofs.Selected.{selections_are, selections_few}
use Rattle.wire_pattern_waits.specs.declared.lines.CallLine.{CallLine}
use Rattle.wire_pattern_waits.specs.Lines.{call_lines}
use Rattle.wire_pattern_waits.specs.Places.{steps_places}
use Rattle.wire_pattern_waits.specs.Waits.{alone, Waits, AreWaiting, AllReplied}
use Rattle.wire_pattern_waits.proofs.Answered.{row_of, no_row, replied_or_waits, places_count, places_between, line_there, kept, IsListed}

range_below : (a k n : ℕ) → a + k ≤ n → list_all (λ e. nat_lt e n) (range_with_len a k) ≡ true
range_below a zero n h = refl
range_below a (suc k) n h = rw (lt-ltb a n (omega (arith, h))) (range_below (a + 1) k n (omega (arith, h)))

-- the cast of a selection is one of the pattern
pub alone_cast : (p : Pattern) (s : Selection) → IsSoundPattern p → AreFewSizes p.roles s.sizes → total_of s.sizes < 2 ^ 31 → IsCast p (alone p s)
alone_cast p s sound are few = record {
  sized = sizes_count p.roles s.sizes are;
  only = single_size p.roles s.sizes sound.least are;
  placed = length-range_with_len 0 (total_of s.sizes);
  below = range_below 0 (total_of s.sizes) (total_of s.sizes) (omega arith);
  few = few;
  few_nodes = few;
}

-- the role of a line that a process waits at is there
its_role : (p : Pattern) (cast : Cast) (v r n line : ℕ) (o : Option Role) → slice_get p.roles r ≡ o → slice_get (steps_places cast v 0 1 (steps_in o)) n ≡ Some line
    → IsListed r line (call_lines p)
its_role p cast v r n line None is at = absurd (not_in_empty n line at)
its_role p cast v r n line (Some role) is at =
    let b = places_between cast v 0 1 role.steps n line at in
    line_there p r line role is b.0 b.1

-- where a process waits, some line is told
not_told : (p : Pattern) (lines : List CallLine) (role line : ℕ) → AreWaiting p lines → lines ≡ [] → Waits p role line → IsListed role line (call_lines p) → ⊥
not_told p lines role line are none waits listed =
    kept (λ x. are.waits x.role x.number) (call_lines p) listed.1.0 (record { role = role; number = line; verb = listed.0 }) listed.1.1
    ((are.tells role line).1 waits) (sym are.are ∙ none)

pub all_replied : (p : Pattern) (lines : List CallLine) → IsSoundPattern p → InstancesRead → total_of (most_sizes p.roles) < 2 ^ 31 → AreWaiting p lines → lines ≡ [] → AllReplied p
all_replied p lines sound read few are none number selection scripts process call end at reads is =
    in_rows (cases_lt process (process_count plan))
  where
    plan : Plan
    plan = plan_of scripts

    last : State
    last = plain_end plan

    cast : Cast
    cast = alone p selection

    of : IsOfCast p cast scripts
    of =
        read p cast OfVersion scripts sound
        (alone_cast p selection sound (selections_are p number selection at) (selections_few p number selection at few)) reads

    stopped : slice_get (row plan last process) (length (replies_of plan (last.replies process))) ≡ Some Waiting → process < process_count plan → ⊥
    stopped waits lt =
        not_told p lines role line are none (record {
          number = number;
          selection = selection;
          is = at;
          stops = record {
            scripts = scripts;
            reads = reads;
            stops = record {
              process = process;
              call = n;
              has_role = has;
              waits = ap (λ ends. slice_get ends n) (row_of plan last (process_count plan) process lt) ∙ waits;
              of_line = there;
            };
          };
        }) (its_role p cast process role n line (slice_get p.roles role) refl there)
      where
        n : ℕ
        n = length (replies_of plan (last.replies process))

        role : ℕ
        role = get_or (cast_of cast).roles process 0

        roles_count : length (cast_of cast).roles ≡ process_count plan
        roles_count = length_roles 0 selection.sizes ∙ sym of.count

        has : slice_get (cast_of cast).roles process ≡ Some role
        has = slice_get-get_or (cast_of cast).roles process 0 (omega (arith, lt, roles_count))

        places : List ℕ
        places = steps_places cast process 0 1 (steps_in (slice_get p.roles role))

        within : n < length places
        within =
            let inside = slice_get_within (row plan last process) n Waiting waits in
            let whole = rows_are_whole plan last process (plain_run plan, (plain_runs plan).is_run, refl) in
            let planned = as_many_planned scripts process in
            let said = of.calls process role has in
            let many = places_count p cast process 0 1 (steps_in (slice_get p.roles role)) in
            omega (arith, inside, whole, planned, said, many)

        line : ℕ
        line = get_or places n 0

        there : slice_get places n ≡ Some line
        there = slice_get-get_or places n 0 within

    in_row : process < process_count plan
        → ((reply : Reply) × (end ≡ Replied reply))
        ⊎ (slice_get (map Replied (replies_of plan (last.replies process))
        ++ unanswered false (length (calls_of plan process) - length (replies_of plan (last.replies process)))) (length (replies_of plan (last.replies process))) ≡ Some Waiting)
        → (reply : Reply) × (end ≡ Replied reply)
    in_row lt (inl replied) = replied
    in_row lt (inr waits) = absurd (stopped (by_end ∙ waits) lt)
      where
        by_end : slice_get (row plan last process) (length (replies_of plan (last.replies process)))
            ≡ slice_get (map Replied (replies_of plan (last.replies process))
            ++ unanswered false (length (calls_of plan process) - length (replies_of plan (last.replies process)))) (length (replies_of plan (last.replies process)))
        by_end = ap (λ ready. slice_get (map Replied (replies_of plan (last.replies process))
            ++ unanswered ready (length (calls_of plan process) - length (replies_of plan (last.replies process)))) (length (replies_of plan (last.replies process))))
            ((plain_runs plan).ends process)

    in_rows : (process < process_count plan) ⊎ (process_count plan ≤ process) → (reply : Reply) × (end ≡ Replied reply)
    in_rows (inl lt) =
        in_row lt (replied_or_waits (replies_of plan (last.replies process)) (length (calls_of plan process) - length (replies_of plan (last.replies process))) call end
        (ap (λ ready. slice_get (map Replied (replies_of plan (last.replies process))
        ++ unanswered ready (length (calls_of plan process) - length (replies_of plan (last.replies process)))) call) (sym ((plain_runs plan).ends process))
        ∙ ap (λ ends. slice_get ends call) (sym (row_of plan last (process_count plan) process lt)) ∙ is))
    in_rows (inr past) = absurd (not_in_empty call end (ap (λ ends. slice_get ends call) (sym (no_row plan last (process_count plan) process past)) ∙ is))
