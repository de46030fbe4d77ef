-- What a get-now finds in a small instance, one of its line is answered in an instance that is judged.
use Rattle.std.proofs.Common.{◌≡◌, ◌∙◌, ap, sym, subst, refl, ℕ, pred, ◌<◌, ◌≤◌, true, length, Some, arith}
use Rattle.std.specs.Prelude.{slice_get}
use Rattle.std.proofs.lemmas.List.{length-map}
use Rattle.std.proofs.lemmas.Option.{slice_get_within}
use Rattle.wire_types.specs.declared.Status.{Status}
use Rattle.wire_runs.specs.Plan.{Plan, GetNow, kind, process_count, node_of}
use Rattle.wire_runs.specs.State.{Answer, IsDone}
use Rattle.wire_runs.specs.Ends.{calls_of}
use Rattle.wire_runs.specs.Races.{IsSettled}
use Rattle.wire_runs.specs.Laws.{plain_end}
use Rattle.wire_runs.specs.Placings.{IsPlacing}
use Rattle.wire_runs.specs.PlacingLaws.{plain_reply}
use Rattle.wire_runs.specs.Patterns as plan
use Rattle.wire_runs.specs.Patterns.{instance_of}
use Rattle.wire_runs.specs.Restrictions.{on_nodes}
use Rattle.wire_runs.proofs.Anywhere.{settled_there}
use Rattle.wire_runs.proofs.Codings.{have_coding}
use Rattle.wire_runs.proofs.FindingsAnywhere.{placings_are}
use Rattle.wire_runs.proofs.PlacingKeeps.{turned, kind_kept}
use Rattle.wire_runs.proofs.PlacingRuns.{done_alike}
use Rattle.wire_runs.proofs.Renumbered.{embeds}
use Rattle.wire_scripts.specs.Scripts.{Scripts, call_at}
use Rattle.wire_scripts.specs.Planned.{planned_process, plan_of}
use Rattle.wire_scripts.specs.Placed.{moved}
use Rattle.wire_scripts.proofs.Moved.{moved_length, as_placing, node_moved}
use Rattle.wire_scripts.proofs.PlannedCalls.{as_many_planned}
use Rattle.wire_pattern.specs.Pattern.{Pattern}
use Rattle.wire_pattern.specs.Planned.{pattern_of, least_of, steps_in}
use Rattle.wire_pattern.specs.Instances as text
use Rattle.wire_pattern.specs.Instances.{Cast, cast_of}
use Rattle.wire_pattern_laws.specs.Finds.{status_of}
use Rattle.wire_pattern_laws.specs.SmallReplies.{HasSmall, FindsInFuller}
use Rattle.wire_pattern_laws.specs.StatusesTold.{FindsAlike}
use Rattle.wire_pattern_laws.proofs.SmallFinds.{finds_are_said}
use Rattle.wire_pattern_laws.proofs.FindsInFuller.{reads_find}
use Rattle.wire_pattern_laws.proofs.StatusesNumbered.{renumbered_finds}
use Rattle.wire_instances.proofs.Groups.{length_roles}
use Rattle.wire_instance_laws.specs.Reading.{IsInstance}
use Rattle.wire_cutoff_laws.proofs.Few.{most_at}
use Rattle.wire_pattern_waits.specs.Places.{steps_places}
use Rattle.wire_pattern_waits.specs.Waits.{alone}
use Rattle.wire_pattern_waits.proofs.Answered.{places_between}
use Rattle.wire_pattern_answers.specs.FewPlacings.{asks_now, IsAnsweredWith}
use Rattle.wire_pattern_answers.specs.Answers.{Answers}
use Rattle.wire_pattern_answers.proofs.Calls.{place_in, same_call, same_place}
use Rattle.wire_pattern_answers.proofs.Events.{row_from, said_status, end_reached, done_replied}
use Rattle.wire_answer_laws.specs.AnySize.{IsJudgedForOne}
use Rattle.wire_answer_laws.proofs.SameNodes.{agree_all, finds_there}
use Rattle.wire_answer_laws.proofs.Spread.{HasCall}
use Rattle.wire_answer_laws.proofs.Fences.{is_fence}
use Rattle.wire_answer_laws.proofs.Calls.{asked_call, fences, event_call, call_stands}
use Rattle.wire_answer_laws.proofs.Fuller.{HasFuller, fuller_of}
use Rattle.wire_answer_laws.proofs.Large.{instance_there}

-- lines are counted from 1
pub line_from_one : (p : Pattern) (cast : Cast) (v role c line : ℕ) → slice_get (steps_places cast v 0 1 (steps_in (slice_get p.roles role))) c ≡ Some line → 1 ≤ line
line_from_one p cast v role c line at = (places_between cast v 0 1 (steps_in (slice_get p.roles role)) c line at).0

module _ (p : Pattern) (all : IsJudgedForOne p) (role n : ℕ) (status : Status)
    (small : HasSmall (pattern_of p) have_coding (length p.roles) (least_of p) (λ role. most_at (least_of p role)) role n status) where
  -- the judged instance with the same turns, but all of loops that read
  j : HasFuller p small.cast
  j = fuller_of p all small.cast (record { is = small.cast_is; in_order = small.in_order; least = small.has_least }) small.has_most

  abbrev cast : Cast
  cast = alone p j.selection

  abbrev s : Scripts
  s = j.s

  abbrev nodes : ℕ → ℕ
  nodes = small.cast.nodes

  abbrev fuller : plan.Cast
  fuller = on_nodes nodes (cast_of cast)

  f : FindsInFuller (pattern_of p) have_coding fuller role n small.owner small.key status
  f =
      reads_find (pattern_of p) have_coding small.cast fuller j.more j.settled
      small.get role n small.owner small.key small.of_line small.is small.is_live status small.finds

  -- the plan that is read, and its placing on these nodes
  abbrev here : Plan
  here = plan_of s

  abbrev i : IsInstance p cast s have_coding nodes
  i = j.of.instances have_coding nodes

  abbrev there : Scripts
  there = moved s s.nodes nodes

  abbrev third : Plan
  third = plan_of there

  placing : IsPlacing here third
  placing = as_placing s s.nodes nodes

  settled_third : IsSettled third
  settled_third = settled_there here third placing j.everywhere

  third_count : process_count third ≡ length s.processes
  third_count = length-map there.processes (planned_process there) ∙ moved_length nodes 0 s.processes

  here_count : process_count here ≡ length s.processes
  here_count = length-map s.processes (planned_process s)

  -- the get-now in both
  abbrev owner : ℕ
  owner = small.owner

  abbrev key : ℕ
  key = i.key small.key

  kind_other : kind i.other f.get ≡ Some (GetNow owner key)
  kind_other = (embeds (instance_of (pattern_of p) have_coding fuller) i.other i.key i.name i.renumbered).kinds_agree f.get (GetNow owner small.key) f.is

  kind_here : kind here f.get ≡ Some (GetNow owner key)
  kind_here = kind_kept i.other here (turned i.placing) f.get (GetNow owner key) refl kind_other

  kind_third : kind third f.get ≡ Some (GetNow owner key)
  kind_third = kind_kept here third placing f.get (GetNow owner key) refl kind_here

  within : f.get.proc < process_count here
  within =
      let low = slice_get_within fuller.roles f.get.proc role f.of_line.its_role in
      let count : length fuller.roles ≡ text.process_count cast = length_roles 0 j.selection.sizes in
      omega (arith, low, count, j.of.count)

  abbrev call : HasCall (steps_places cast f.get.proc 0 1 (steps_in (slice_get p.roles role))) (fences p cast s j.of nodes f.get.proc role f.of_line.its_role) f.get.at n
  call = event_call p cast s j.of nodes f.get.proc role f.of_line.its_role f.get.at n (GetNow owner key) f.of_line kind_here refl

  stands : f.get.at ≡ place_in s f.get.proc call.call
  stands = sym (call_stands p cast s j.of nodes f.get.proc role f.of_line.its_role f.get.at n call)

  low_call : call.call < length (calls_of here f.get.proc)
  low_call = subst (λ k. call.call < k) (length-map (calls_of here f.get.proc) is_fence) call.within

  -- it happens where each has a node of its own
  done_here : IsDone (plain_end here) f.get
  done_here = j.happens f.get f.is_live

  -- and so on these nodes
  abbrev said : (b : Answer) × (plain_reply third f.get ≡ Some b)
  said = done_replied third settled_third f.get (let d = done_here in let same = done_alike here third placing f.get.proc in omega (arith, d, same))

  on_these : (q : ℕ) → q < process_count third → node_of i.other q ≡ node_of third q
  on_these q lt =
      let t = third_count in let h = here_count in
      instance_there p cast s j.of nodes q (omega (arith, lt, t, h)) ∙ sym (node_moved s s.nodes nodes q (omega (arith, lt, t)))

  -- with the status
  status_is : status_of said.0 ≡ status
  status_is =
      let says = (finds_are_said third f.get owner key settled_third kind_third).answered (plain_end third) said.0 (end_reached third settled_third) said.1 in
      let across : IsPlacing third i.other = (placings_are third).again here i.other ((placings_are here).back third placing) i.placing in
      let finds = finds_there third i.other across (agree_all third i.other across.same_count on_these) f.get owner key (status_of said.0) says.1 in
      let alike : FindsAlike (instance_of (pattern_of p) have_coding fuller) i.other f.get owner small.key key =
      renumbered_finds (instance_of (pattern_of p) have_coding fuller) i.other i.key i.name i.renumbered f.get owner small.key f.is in
      f.finds (status_of said.0) ((alike.finds f.is_live (status_of said.0)).1 finds)

  answered_with : IsAnsweredWith there f.get.proc call.call status
  answered_with =
      let t = third_count in let h = here_count in
      let r = row_from third settled_third f.get.proc call.call f.get.at (GetNow owner key) (let w = within in omega (arith, w, t, h))
      (stands ∙ sym (same_place s s.nodes nodes f.get.proc call.call)) kind_third refl said.0 said.1 in
      record { reply = r.0; is = r.2; has = sym (said_status third said.0 r.0 r.1) ∙ status_is }

  asks : asks_now (call_at there.processes f.get.proc call.call) ≡ true
  asks =
      ap asks_now (same_call s s.nodes nodes f.get.proc call.call)
      ∙ asked_call s f.get.proc call.call owner key (subst (λ k. call.call < k) (sym (as_many_planned s f.get.proc)) low_call)
      (subst (λ k. kind here (record { proc = f.get.proc; at = k }) ≡ Some (GetNow owner key)) stands kind_here)

  pub record SmallAnswer : Type 0 where
    pub line : ℕ
    pub same : pred line ≡ n
    pub answers : Answers p role line status
    pub from_one : 1 ≤ line

  pub small_answer : SmallAnswer
  small_answer = record {
    line = call.line;
    same = call.same;
    answers = record {
      number = j.number;
      selection = j.selection;
      is = j.is;
      answers = record {
        scripts = s;
        reads = j.reads;
        names = s.nodes;
        nodes = nodes;
        answered = record {
          process = f.get.proc;
          call = call.call;
          has_role = f.of_line.its_role;
          of_line = call.of_line;
          asks = asks;
          answered = answered_with;
        };
      };
    };
    from_one = line_from_one p cast f.get.proc role call.call call.line call.of_line;
  }
