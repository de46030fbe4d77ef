-- The calls of scripts, their events and their lines.
use Rattle.std.proofs.Common.{◌≡◌, ◌∙◌, ap, sym, subst, refl, ℕ, pred, ◌<◌, List, Bool, true, false, length, map, Option, Some, option_map, if◌then◌else◌, zero-add}
use Rattle.std.specs.Prelude.{slice_get}
use Rattle.std.proofs.lemmas.Bool.{true≢false, cond-false}
use Rattle.std.proofs.lemmas.List.{length-map}
use Rattle.std.proofs.lemmas.Option.{slice_get-map}
use Rattle.wire_types.specs.declared.Call.{Call as Said}
use Rattle.wire_types.specs.declared.Call.TheVariants as said
use Rattle.wire_types.specs.declared.Proc.{Proc}
use Rattle.wire_types.specs.declared.Reply.{Reply}
use Rattle.wire_types.specs.Replies.{bare}
use Rattle.wire_types.specs.Said.{is_reserved}
use Rattle.wire_types.specs.declared.Status.TheVariants.{BadParam}
use Rattle.wire_runs.specs.Plan.{Plan, Call, CallPut, CallGet, CallPublish, CallLookup, CallLookupWait, CallUnpublish, CallFixed, Kind, GetNow, kind, kind_at, kinds, kinds_of}
use Rattle.wire_runs.specs.Ends.{calls_of}
use Rattle.wire_runs.specs.Patterns as plan
use Rattle.wire_runs.specs.Patterns.{instance_of, calls_from}
use Rattle.wire_runs.specs.Restrictions.{on_nodes}
use Rattle.wire_runs.specs.Renamed.{renumbering}
use Rattle.wire_runs.proofs.Codings.{have_coding}
use Rattle.wire_runs.proofs.Lists.{slice_get-map_back}
use Rattle.wire_scripts.specs.Scripts.{Scripts, text_at, call_at, calls_in}
use Rattle.wire_scripts.specs.Planned.{reply_of_key, unless_reserved, planned_call, plan_of}
use Rattle.wire_pattern.specs.Pattern.{Pattern, Step}
use Rattle.wire_pattern.specs.Planned.{pattern_of, step_of, steps_in}
use Rattle.wire_pattern.specs.Instances.{Cast, cast_of}
use Rattle.wire_pattern_laws.specs.Lines.{numbers_from, IsOfLine}
use Rattle.wire_instance_laws.specs.Reading.{IsInstance, IsOfCast}
use Rattle.wire_instance_laws.proofs.Calls.{instance_calls}
use Rattle.wire_cutoff.proofs.Texts.{there_is}
use Rattle.wire_pattern_waits.specs.Places.{steps_places}
use Rattle.wire_pattern_answers.specs.FewPlacings.{asks_now}
use Rattle.wire_pattern_answers.proofs.Calls.{first_kind, kind_there, place_in, planned_there}
use Rattle.wire_pattern_answers.proofs.Events.{kinds_are}
use Rattle.wire_answer_laws.proofs.Fences.{is_fence, is_leave, leaves_of, leaves_are, one_list, place_is, leaves_without, leaves_image}
use Rattle.wire_answer_laws.proofs.Spread.{spread, spread_at, HasCall, at_spread, of_steps}

-- a call that asks plainly is a get-now of a key that isn't reserved
pub record AsksPlainly (s : Scripts) (o : Option Said) : Type 0 where
  pub owner : Proc
  pub key : ℕ
  pub is : o ≡ Some (said.GetNow owner key)
  pub plain : is_reserved (text_at s.keys key) ≡ false

-- the event of such a call
pub kind_of_call : (s : Scripts) (v c : ℕ) (a : AsksPlainly s (call_at s.processes v c))
    → kind (plan_of s) (record { proc = v; at = place_in s v c }) ≡ Some (GetNow a.owner.number a.key)
unfolding kind_at
kind_of_call s v c a =
    ap (λ ks. slice_get ks (place_in s v c)) (kinds_are (plan_of s) v)
    ∙ kind_there (calls_of (plan_of s) v) c (planned_call s (said.GetNow a.owner a.key)) (planned_there s v c (said.GetNow a.owner a.key) a.is)
    ∙ ap first_kind (cond-false _ _ _ a.plain)

-- the call of such an event
is_asked : Option Kind → Bool
is_asked (Some (GetNow owner key)) = true
is_asked _ = false

none_asked : (text : List ℕ) (reply : Reply) (call : Call) → is_asked (first_kind call) ≡ false → is_asked (first_kind (unless_reserved text reply call)) ≡ true → ⊥
unfolding is_asked
none_asked text reply call none h = go (is_reserved text) h
  where
    go : (b : Bool) → is_asked (first_kind (if b then CallFixed reply else call)) ≡ true → ⊥
    go true asked = true≢false (sym asked)
    go false asked = true≢false (sym asked ∙ none)

planned_asks : (s : Scripts) (call : Said) → is_asked (first_kind (planned_call s call)) ≡ true → asks_now (Some call) ≡ true
unfolding is_asked
planned_asks s (said.GetNow owner key) h = refl
planned_asks s (said.Put scope key value) h = absurd (none_asked (text_at s.keys key) (bare BadParam) (CallPut key scope) refl h)
planned_asks s said.Commit h = absurd (true≢false (sym h))
planned_asks s (said.Fence set collect) h = absurd (true≢false (sym h))
planned_asks s (said.Get owner key) h = absurd (none_asked (text_at s.keys key) (reply_of_key s owner.number key) (CallGet owner.number key) refl h)
planned_asks s (said.Publish name value) h = absurd (none_asked (text_at s.names name) (bare BadParam) (CallPublish name) refl h)
planned_asks s (said.Lookup name) h = absurd (none_asked (text_at s.names name) (bare BadParam) (CallLookup name) refl h)
planned_asks s (said.LookupWait name) h = absurd (none_asked (text_at s.names name) (bare BadParam) (CallLookupWait name) refl h)
planned_asks s (said.Unpublish name) h = absurd (none_asked (text_at s.names name) (bare BadParam) (CallUnpublish name) refl h)
planned_asks s said.UnpublishAll h = absurd (true≢false (sym h))

pub asked_call : (s : Scripts) (v c owner key : ℕ) → c < length (calls_in (slice_get s.processes v))
    → kind (plan_of s) (record { proc = v; at = place_in s v c }) ≡ Some (GetNow owner key) → asks_now (call_at s.processes v c) ≡ true
unfolding kind_at is_asked
asked_call s v c owner key low is =
    let call = there_is (calls_in (slice_get s.processes v)) c low in
    let first : first_kind (planned_call s call.0) ≡ Some (GetNow owner key) =
    sym (kind_there (calls_of (plan_of s) v) c (planned_call s call.0) (planned_there s v c call.0 call.1))
    ∙ ap (λ ks. slice_get ks (place_in s v c)) (sym (kinds_are (plan_of s) v)) ∙ is in
    ap asks_now call.1 ∙ planned_asks s call.0 (ap is_asked first)

-- the scripts of an instance, on whatever nodes
module _ (p : Pattern) (cast : Cast) (s : Scripts) (of : IsOfCast p cast s) (nodes : ℕ → ℕ) where
  abbrev i : IsInstance p cast s have_coding nodes
  i = of.instances have_coding nodes

  abbrev on : plan.Cast
  on = on_nodes nodes (cast_of cast)

  abbrev own : Plan
  own = instance_of (pattern_of p) have_coding on

  leaves_same : (v : ℕ) → map is_leave (kinds (plan_of s) v) ≡ map is_leave (kinds own v)
  leaves_same v =
      sym (leaves_without (kinds (plan_of s) v)) ∙ ap (map is_leave) (i.placing.same_calls v) ∙ leaves_without (kinds i.other v)
      ∙ ap (map is_leave) (i.renumbered.calls v) ∙ leaves_image (renumbering i.key i.name) (kinds own v)

  -- an event of the one that leaves no fence is such an event of the other
  pub kind_own : (v at : ℕ) (k : Kind) → kind (plan_of s) (record { proc = v; at = at }) ≡ Some k → is_leave k ≡ false
      → (l : Kind) × (kind own (record { proc = v; at = at }) ≡ Some l) × (is_leave l ≡ false)
  unfolding kind_at
  kind_own v at k is none = slice_get-map_back is_leave (kinds own v) at false
      (ap (λ bs. slice_get bs at) (sym (leaves_same v)) ∙ slice_get-map is_leave (kinds (plan_of s) v) at ∙ ap (option_map is_leave) is ∙ ap Some none)

  pub kind_read : (v at : ℕ) (l : Kind) → kind own (record { proc = v; at = at }) ≡ Some l → is_leave l ≡ false
      → (k : Kind) × (kind (plan_of s) (record { proc = v; at = at }) ≡ Some k) × (is_leave k ≡ false)
  unfolding kind_at
  kind_read v at l is none = slice_get-map_back is_leave (kinds (plan_of s) v) at false
      (ap (λ bs. slice_get bs at) (leaves_same v) ∙ slice_get-map is_leave (kinds own v) at ∙ ap (option_map is_leave) is ∙ ap Some none)

  -- the same calls are fences
  fences_same : (v : ℕ) → map is_fence (calls_of (plan_of s) v) ≡ map is_fence (calls_of own v)
  fences_same v = one_list (map is_fence (calls_of (plan_of s) v)) (map is_fence (calls_of own v)) (
      sym (leaves_are (calls_of (plan_of s) v)) ∙ ap (map is_leave) (sym (kinds_are (plan_of s) v)) ∙ leaves_same v
      ∙ ap (map is_leave) (kinds_are own v) ∙ leaves_are (calls_of own v))

  module _ (v role : ℕ) (has : slice_get (cast_of cast).roles v ≡ Some role) where
    abbrev steps : List Step
    steps = steps_in (slice_get p.roles role)

    abbrev pub fences : List Bool
    fences = map is_fence (calls_of (plan_of s) v)

    abbrev places : List ℕ
    places = steps_places cast v 0 1 steps

    numbers_are : numbers_from on v 0 0 ((pattern_of p).script role) ≡ spread places fences
    numbers_are =
        of_steps p.roles have_coding cast nodes v 0 0 steps
        ∙ ap (λ calls. spread places (map is_fence calls))
        (sym (instance_calls (pattern_of p) have_coding on 0 (cast_of cast).roles v role has
        ∙ ap (λ k. calls_from have_coding on k 0 (map (step_of p.roles) steps)) (zero-add v)))
        ∙ ap (spread places) (sym (fences_same v))

    -- the event of a call is of its line
    pub event_line : (c line : ℕ) → c < length (calls_of (plan_of s) v) → slice_get places c ≡ Some line
        → IsOfLine (pattern_of p) on (record { proc = v; at = place_in s v c }) role (pred line)
    event_line c line low at = record {
      its_role = has;
      its_line =
          ap (λ ns. slice_get ns (place_in s v c)) numbers_are ∙ ap (slice_get (spread places fences)) (place_is (calls_of (plan_of s) v) c)
          ∙ spread_at places fences c line at (subst (λ n. c < n) (sym (length-map (calls_of (plan_of s) v) is_fence)) low);
    }

    stays : (n : ℕ) (k : Kind) → kind (plan_of s) (record { proc = v; at = n }) ≡ Some k → is_leave k ≡ false → slice_get (leaves_of fences) n ≡ Some false
    unfolding kind_at
    stays n k is none =
        ap (λ bs. slice_get bs n) (sym (leaves_are (calls_of (plan_of s) v))) ∙ slice_get-map is_leave (kinds_of (calls_of (plan_of s) v)) n
        ∙ ap (option_map is_leave) (ap (λ ks. slice_get ks n) (sym (kinds_are (plan_of s) v)) ∙ is) ∙ ap Some none

    -- an event that leaves no fence is that of a call of its line
    pub event_call : (at n : ℕ) (k : Kind) → IsOfLine (pattern_of p) on (record { proc = v; at = at }) role n
        → kind (plan_of s) (record { proc = v; at = at }) ≡ Some k → is_leave k ≡ false → HasCall places fences at n
    event_call at n k of_line is none = at_spread places fences at n (ap (λ ns. slice_get ns at) (sym numbers_are) ∙ of_line.its_line) (stays at k is none)

    pub call_stands : (at n : ℕ) (h : HasCall places fences at n) → place_in s v h.call ≡ at
    call_stands at n h = place_is (calls_of (plan_of s) v) h.call ∙ h.stands
