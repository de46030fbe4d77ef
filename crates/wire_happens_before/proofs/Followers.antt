-- An event that waits for nothing but the event before it has the base of that event.
use Rattle.std.proofs.Common.{◌≡◌, ℕ, zero, suc, ◌<◌, ◌^◌, List, [], ◌++◌, Option, Some, None, length, refl, sym, ap, ◌∙◌, subst, arith, add-one}
use Rattle.std.specs.Prelude.{slice_get, option_map, option_to_list}
use Rattle.std.proofs.lemmas.List.{length-map, length_push}
use Rattle.std.proofs.lemmas.Option.{same_Some, slice_get-map, slice_get_within}
use Rattle.wire_runs.specs.Plan.{Plan, Event, Kind, kind, kind_at, event_count, process_count}
use Rattle.wire_runs.specs.Order.{Edge, Follows, may_come}
use Rattle.wire_runs.specs.Step.{name_after}
use Rattle.wire_runs.proofs.Lists.{slice_get_push_last}
use Rattle.wire_scripts.specs.Scripts.{Scripts, call_count}
use Rattle.wire_scripts.specs.Planned.{plan_of}
use Rattle.wire_fence.specs.FenceTable.{FenceTable}
use Rattle.wire_plan.specs.Index.{AreSources, previous_at, previous_of}
use Rattle.wire_plan.specs.Kinds.{kind_of}
use Rattle.wire_plan.specs.declared.kind.Kind.{Kind as CodeKind}
use Rattle.wire_plan.proofs.Planning.{count_fits}
use Rattle.wire_happens_before.specs.declared.joins.Meeting.{Meeting}
use Rattle.wire_happens_before.specs.Clocks.{Clocks, marked_count, root_at, items_at}
use Rattle.wire_happens_before.specs.Updates.{updates_at, IsUpdateNoted}
use Rattle.wire_happens_before.specs.Marking.{AreClocks, next_of, IsNextBase, MarksNext, Notes, root_before, root_or_zero, unmarked}
use Rattle.wire_happens_before.specs.Meeting.{AreMeetings}
use Rattle.wire_happens_before.specs.Following.{OnlyFollows, AreKindsOf, last_root}
use Rattle.wire_happens_before.proofs.Noting.{nothing_noted}
use Rattle.wire_happens_before.proofs.Growing.{grown_none, left_falls, next_there}
use Rattle.wire_happens_before.proofs.Joining.{before_fits, growing_added, next_unmet, raised_none}

follows_is : (z y : Event) → z.proc ≡ y.proc → suc z.at ≡ y.at → previous_of y ≡ Some z
follows_is z y same next =
    ap (previous_at y.proc) (sym next) ∙ ap (λ p. Some (record { proc = p; at = z.at })) (sym same)

before_edge : (plan : Plan) (y z : Event) (i : ℕ) → y.at ≡ i → previous_at y.proc i ≡ Some z → Edge plan z y
before_edge plan y z zero at e = absurd (cc)
before_edge plan y z (suc i) at e =
    let is = same_Some _ _ e in
    Follows (ap (λ (v : Event). v.proc) (sym is)) (ap (λ (v : Event). suc v.at) (sym is) ∙ sym at)

single : (previous : Option Event) (z : Event) → previous ≡ Some z → (k : ℕ) × (slice_get (option_to_list previous ++ (option_to_list None ++ [])) k ≡ Some z)
single None z e = absurd (cc)
single (Some v) z e = (0, e)

only_one : (previous : Option Event) (k : ℕ) (z : Event) → slice_get (option_to_list previous ++ (option_to_list None ++ [])) k ≡ Some z → previous ≡ Some z
only_one None k z e = absurd (cc)
only_one (Some v) zero z e = e
only_one (Some v) (suc k) z e = absurd (cc)

-- its one source is the event before it
follower_sources : (plan : Plan) (y : Event) (k : Kind) → kind plan y ≡ Some k → OnlyFollows k → AreSources plan y (option_to_list (previous_of y) ++ (option_to_list None ++ []))
follower_sources plan y k is follows = record {
  only = λ j z e. before_edge plan y z y.at refl (only_one (previous_of y) j z e);
  all = λ z e. single (previous_of y) z (follows.alone plan z y is e);
}

-- the root of the event before is one of a base for it
pub follower_base : (plan : Plan) (clocks : Clocks) (p : ℕ) (k : Kind) → AreClocks plan clocks → kind plan (next_of clocks p) ≡ Some k → OnlyFollows k → suc (marked_count clocks p) < 2 ^ 32 →
    IsNextBase plan clocks p (last_root clocks p)
follower_base plan clocks p k sound is follows few =
    next_unmet plan clocks clocks p (last_root clocks p) (previous_of (next_of clocks p)) None sound
    (ap (may_come plan (next_of clocks p)) is ∙ follows.comes plan (next_of clocks p))
    (follower_sources plan (next_of clocks p) k is follows)
    refl
    (λ z e. absurd (cc))
    few
    (grown_none clocks)
    (before_fits clocks (previous_of (next_of clocks p)) sound.based)
    (raised_none clocks (previous_of (next_of clocks p)))

-- it is noted under no name
pub follower_noted : (plan : Plan) (z : Event) (k : Kind) (old new : Clocks) → kind plan z ≡ Some k → OnlyFollows k → new.updates ≡ old.updates → Notes plan z old new
follower_noted plan z k old new is follows same =
    subst (λ lists. (name : ℕ) → IsUpdateNoted plan z name (updates_at old.updates name) (updates_at lists name)) (sym same)
    (nothing_noted plan z (updates_at old.updates) (λ name published. ap (λ o. name_after published z o name) is ∙ follows.keeps z name published))

-- the next event of the process, where it only follows the one before it, is marked with the root of that one
module _ (s : Scripts) (old : Clocks) (p root at : ℕ) (list : List CodeKind) (sound : AreClocks (plan_of s) old) (are : AreKindsOf s p list) (counted : call_count s.processes < 2 ^ 31)
    (next_at : at ≡ marked_count old p) (found : (k : CodeKind) × (slice_get list at ≡ Some k) × ((sets : List (List ℕ)) → OnlyFollows (kind_of sets k))) (is : root ≡ last_root old p) where
  item : slice_get list (marked_count old p) ≡ Some found.0
  item = subst (λ n. slice_get list n ≡ Some found.0) next_at found.1

  next_kind : kind (plan_of s) (next_of old p) ≡ Some (kind_of s.sets found.0)
  unfolding kind_at
  next_kind = rw (← are) (slice_get-map (kind_of s.sets) list (marked_count old p) ∙ ap (option_map (kind_of s.sets)) item)

  next_few : suc (marked_count old p) < 2 ^ 32
  unfolding event_count
  next_few =
      let same : length list ≡ event_count (plan_of s) p = sym (length-map list (kind_of s.sets)) ∙ ap length are in
      let fits = count_fits s p counted in
      let low = slice_get_within list (marked_count old p) found.0 item in
      omega (arith, low, same, fits)

  next : IsNextBase (plan_of s) old p root
  next = subst (λ n. IsNextBase (plan_of s) old p n) (sym is) (follower_base (plan_of s) old p (kind_of s.sets found.0) sound next_kind (found.2 s.sets) next_few)

  there : p < process_count (plan_of s)
  there = next_there (plan_of s) old p root next

  pub follower_there : p < length old.roots.items
  follower_there = let processes = sound.processes in let low_p = there in omega (arith, processes, low_p)

  module _ (new : Clocks) (adds : MarksNext old new p root) (same : new.updates ≡ old.updates) where
    pub follower_growing : (table : FenceTable) (meetings : List Meeting) → AreMeetings (plan_of s) table old meetings → AreClocks (plan_of s) new × AreMeetings (plan_of s) table new meetings
    follower_growing table meetings kept =
        growing_added (plan_of s) table old new meetings p root there sound kept next adds (follower_noted (plan_of s) (next_of old p) (kind_of s.sets found.0) old new next_kind (found.2 s.sets) same)

    pub follower_falls : unmarked (plan_of s) new < unmarked (plan_of s) old
    follower_falls = left_falls (plan_of s) old new p root there sound next adds

    here : root_at new (next_of old p) ≡ Some root
    here = ap (λ ns. slice_get ns (marked_count old p)) adds.here ∙ slice_get_push_last (items_at old.roots.items p) root

    count : marked_count new p ≡ suc (marked_count old p)
    count = ap length adds.here ∙ length_push (items_at old.roots.items p) root ∙ add-one (marked_count old p)

    pub follower_root : root ≡ last_root new p
    follower_root = sym (ap (λ n. root_before new (previous_at p n)) count ∙ ap root_or_zero here)
