-- A call that is one event is answered, in the row of its process, as that event is in the plain run.
use Rattle.std.proofs.Common.{◌≡◌, ◌∙◌, ap, sym, subst, refl, ℕ, ◌<◌, List, [], ◌∷◌, length, Option, Some, None, is_some, arith}
use Rattle.std.specs.Prelude.{slice_get, slice_index_or}
use Rattle.std.proofs.lemmas.Bool.{cond_both}
use Rattle.std.proofs.lemmas.Option.{same_Some, slice_get_within}
use Rattle.wire_types.specs.declared.CallEnd.TheVariants.{Replied}
use Rattle.wire_types.specs.declared.Reply.{Reply}
use Rattle.wire_runs.specs.Plan.{Plan, Process, Event, Kind, Put, Commit, Arrive, Leave, Get, GetNow, Publish, Lookup, LookupWait, Unpublish, UnpublishAll, Fixed, kind, kind_at, kinds, kinds_of, process_kinds, process_count}
use Rattle.wire_runs.specs.State.{State, Answer, Silent, Success, NotFound, ExistsOutside, Duplicate, Value, Published, Reserved, start, IsDone}
use Rattle.wire_runs.specs.Sight.{Sight, Nothing, Outside, Shown, get_sees, get_now_sees}
use Rattle.wire_runs.specs.Step.{sight_reply, lookup_reply, is_publisher, reply, IsReachable}
use Rattle.wire_runs.specs.PlainRun.{plain_run}
use Rattle.wire_runs.specs.Ends.{given, replies_of, process_calls, calls_of, row, rows_below}
use Rattle.wire_runs.specs.Races.{IsSettled}
use Rattle.wire_runs.specs.Laws.{plain_end}
use Rattle.wire_runs.specs.PlacingLaws.{plain_reply}
use Rattle.wire_runs.proofs.Ends.{gives}
use Rattle.wire_runs.proofs.Known.{Known, known_start, reachable_known}
use Rattle.wire_runs.proofs.PlainRun.{plain_runs}
use Rattle.wire_runs.proofs.PlacingReplies.{CameTo, came_to_run}
use Rattle.wire_pattern_laws.specs.Finds.{status_of}
use Rattle.wire_pattern_waits.proofs.Answered.{row_of}
use Rattle.wire_pattern_answers.proofs.Rows.{place, said, Fits, row_says, replied_in, replied_there}

seen_gives : (plan : Plan) (owner : ℕ) (sight : Sight) → length (given plan (sight_reply owner sight)) ≡ 1
seen_gives plan owner Nothing = refl
seen_gives plan owner Outside = refl
seen_gives plan owner (Shown put) = refl

found_gives : (plan : Plan) (publish : Option Event) → length (given plan (lookup_reply publish)) ≡ 1
found_gives plan None = refl
found_gives plan (Some publish) = refl

-- an event gives as many replies as it should
gives_so : (plan : Plan) (s : State) (x : Event) (k : Kind) → length (given plan (reply plan s x (Some k))) ≡ gives (Some k)
gives_so plan s x (Put key scope) = refl
gives_so plan s x Commit = refl
gives_so plan s x (Arrive members collect) = refl
gives_so plan s x (Leave members) = refl
gives_so plan s x (Get owner key) = seen_gives plan owner (get_sees plan s.done x.proc x.at owner key)
gives_so plan s x (GetNow owner key) = seen_gives plan owner (get_now_sees plan s x.proc x.at owner key)
gives_so plan s x (Publish name) = cond_both (is_some (s.names name)) Duplicate Success (λ a. length (given plan a) ≡ 1) (λ _. refl) (λ _. refl)
gives_so plan s x (Lookup name) = found_gives plan (s.names name)
gives_so plan s x (LookupWait name) = found_gives plan (s.names name)
gives_so plan s x (Unpublish name) = cond_both (is_publisher x.proc (s.names name)) Success NotFound (λ a. length (given plan a) ≡ 1) (λ _. refl) (λ _. refl)
gives_so plan s x UnpublishAll = refl
gives_so plan s x (Fixed r) = refl

pub kinds_are : (plan : Plan) (p : ℕ) → kinds plan p ≡ kinds_of (calls_of plan p)
unfolding kinds
kinds_are plan p = go (slice_get plan.processes p)
  where
    go : (o : Option Process) → process_kinds o ≡ kinds_of (process_calls o)
    go None = refl
    go (Some process) = refl

-- the status of an answer is that of the reply
pub said_status : (plan : Plan) (a : Answer) (r : Reply) → slice_get (given plan a) 0 ≡ Some r → status_of a ≡ r.status
said_status plan Silent r h = cc
said_status plan Success r h = ap (λ (v : Reply). v.status) (same_Some _ r h)
said_status plan NotFound r h = ap (λ (v : Reply). v.status) (same_Some _ r h)
said_status plan ExistsOutside r h = ap (λ (v : Reply). v.status) (same_Some _ r h)
said_status plan Duplicate r h = ap (λ (v : Reply). v.status) (same_Some _ r h)
said_status plan (Value put) r h = ap (λ (v : Reply). v.status) (same_Some _ r h)
said_status plan (Published publish) r h = ap (λ (v : Reply). v.status) (same_Some _ r h)
said_status plan (Reserved reply) r h = ap (λ (v : Reply). v.status) (same_Some _ r h)

one_said : {A : Type 0} (xs : List A) → length xs ≡ 1 → (x : A) × (slice_get xs 0 ≡ Some x)
one_said [] is = absurd (omega (arith, is))
one_said (x ∷ xs) is = (x, refl)

module _ (plan : Plan) (settled : IsSettled plan) where
  pub end_reached : IsReachable plan (plain_end plan)
  end_reached = (plain_run plan, (plain_runs plan).is_run, refl)

  known : Known plan (plain_end plan)
  known = reachable_known plan settled (plain_end plan) end_reached

  came : (x : Event) → IsDone (plain_end plan) x → CameTo plan (plain_end plan) x
  came x d = came_to_run plan settled (plain_run plan) start (known_start plan) (plain_runs plan).is_run (λ z none. absurd (omega (arith, none))) x d

  pub replied_done : (x : Event) (a : Answer) → plain_reply plan x ≡ Some a → IsDone (plain_end plan) x
  replied_done x a is = let l = known.lengths x.proc in let w = slice_get_within ((plain_end plan).replies x.proc) x.at a is in omega (arith, l, w)

  -- the answer is the reply in some state
  pub answer_is : (x : Event) (a : Answer) (k : Kind) → kind plan x ≡ Some k → plain_reply plan x ≡ Some a → (s : State) × (a ≡ reply plan s x (Some k))
  answer_is x a k is at =
      let c = came x (replied_done x a at) in
      (c.then_, same_Some _ _ (sym at ∙ c.said ∙ ap (λ o. Some (reply plan c.then_ x o)) is))

  pub done_replied : (x : Event) → IsDone (plain_end plan) x → (a : Answer) × (plain_reply plan x ≡ Some a)
  done_replied x d = let c = came x d in (reply plan c.then_ x (kind plan x), c.said)

  fits : (p : ℕ) → Fits plan (kinds plan p) ((plain_end plan).replies p)
  unfolding kind_at
  fits p i k a is at = let r = answer_is (record { proc = p; at = i }) a k is at in ap (λ b. length (given plan b)) r.1 ∙ gives_so plan r.0 (record { proc = p; at = i }) k

  module _ (p c n : ℕ) (k : Kind) (within : p < process_count plan) (stands : n ≡ place (calls_of plan p) c) (is : kind plan (record { proc = p; at = n }) ≡ Some k) (one : gives (Some k) ≡ 1) where
    abbrev event : Event
    event = record { proc = p; at = n }

    abbrev replies : List Reply
    replies = replies_of plan ((plain_end plan).replies p)

    kind_in : slice_get (kinds_of (calls_of plan p)) (place (calls_of plan p) c) ≡ Some k
    unfolding kind_at
    kind_in = ap (λ ks. slice_get ks (place (calls_of plan p) c)) (sym (kinds_are plan p)) ∙ ap (slice_get (kinds plan p)) (sym stands) ∙ is

    says : slice_get replies c ≡ said plan (plain_reply plan event)
    says =
        row_says plan (calls_of plan p) c k ((plain_end plan).replies p) kind_in one (subst (λ ks. Fits plan ks ((plain_end plan).replies p)) (kinds_are plan p) (fits p))
        ∙ ap (λ m. said plan (slice_get ((plain_end plan).replies p) m)) (sym stands)

    here : slice_index_or (rows_below plan (plain_end plan) (process_count plan)) p [] ≡ row plan (plain_end plan) p
    here = row_of plan (plain_end plan) (process_count plan) p within

    pub row_to : (r : Reply) → slice_get (slice_index_or (rows_below plan (plain_end plan) (process_count plan)) p []) c ≡ Some (Replied r)
        → (a : Answer) × (plain_reply plan event ≡ Some a) × (slice_get (given plan a) 0 ≡ Some r)
    row_to r h = go (plain_reply plan event) refl (sym says ∙ replied_in replies _ _ c r (ap (λ xs. slice_get xs c) (sym here) ∙ h))
      where
        go : (o : Option Answer) → plain_reply plan event ≡ o → said plan (plain_reply plan event) ≡ Some r → (a : Answer) × (plain_reply plan event ≡ Some a) × (slice_get (given plan a) 0 ≡ Some r)
        go None e h = absurd (none_said (sym (ap (said plan) e) ∙ h))
          where
            none_said : None ≡ Some r → ⊥
            none_said e = cc
        go (Some a) e h = (a, e, sym (ap (said plan) e) ∙ h)

    pub row_from : (a : Answer) → plain_reply plan event ≡ Some a
        → (r : Reply) × (slice_get (given plan a) 0 ≡ Some r) × (slice_get (slice_index_or (rows_below plan (plain_end plan) (process_count plan)) p []) c ≡ Some (Replied r))
    row_from a at =
        let b = answer_is event a k is at in
        let r = one_said (given plan a) (ap (λ v. length (given plan v)) b.1 ∙ gives_so plan b.0 event k ∙ one) in
        (r.0, r.1, ap (λ xs. slice_get xs c) here ∙ replied_there replies _ _ c r.0 (says ∙ ap (said plan) at ∙ r.1))
