-- Calls and their first events.
use Rattle.std.proofs.Common.{◌≡◌, ◌∙◌, ap, sym, refl, ℕ, zero, suc, ◌+◌, ◌-◌, ◌<◌, List, [], ◌∷◌, ◌++◌, length, take, Bool, true, false, Option, Some, None, arith, inl, inr, length-append}
use Rattle.std.specs.Prelude.{slice_get}
use Rattle.std.proofs.lemmas.Bool.{cases_lt, cond_below, cond_above, true≢false}
use Rattle.std.proofs.lemmas.Option.{slice_get_within, same_Some}
use Rattle.wire_runs.specs.Plan.{Plan, Event, Process, Call, CallFence, Kind, Put, Commit, Arrive, Leave, Get, GetNow, Publish, Lookup, LookupWait, Unpublish, UnpublishAll}
use Rattle.wire_runs.specs.Plan.{kinds_of, kinds, kind_at, kind, event_count, node_of, process_kinds}
use Rattle.wire_types.specs.declared.CallAt.{CallAt}
use Rattle.wire_runs.specs.Names.{calls_name}
use Rattle.wire_runs.specs.Races.{IsNodeRace, IsDeliveryRace, Delivery, ByFence, ByGet, IsOf, Brings}
use Rattle.wire_runs.specs.Findings.{Finding, Rewrite, KeyRace, NameRace, IsFound}
use Rattle.wire_runs.specs.Ends.{call_number, call_size, calls_of, process_calls, call_of, first_event}
use Rattle.wire_runs.proofs.Lists.{slice_get-append_left, slice_get-append_right}
use Rattle.wire_runs.proofs.Diamond.{writes_calls}
use Rattle.wire_runs.proofs.Basics.{stores_commit}
use Rattle.wire_plan.proofs.Planning.{events_first}

abbrev pub is_leave : Kind → Bool
is_leave (Leave members) = true
is_leave _ = false

-- the first event of a call stands here
pub record Starts (plan : Plan) (x : Event) : Type 0 where
  pub what : Kind
  pub is : kind plan x ≡ Some what
  pub first : is_leave what ≡ false

nothing : {A : Type 0} (n : ℕ) (e : A) → slice_get [] n ≡ Some e → {B : Type 0} → B
nothing n e is = let lt = slice_get_within [] n e is in absurd (omega (arith, lt))

-- of a call's events the first alone doesn't end a fence
one_call : (call : Call) (at : ℕ) (e : Kind) → slice_get (kinds_of (call ∷ [])) at ≡ Some e → is_leave e ≡ false → at ≡ 0
one_call call zero e is h = refl
one_call (CallFence members collect) (suc zero) e is h = absurd (true≢false (ap is_leave (same_Some _ _ is) ∙ h))
one_call (CallFence members collect) (suc (suc n)) e is h = nothing n e is
one_call _ (suc n) e is h = nothing n e is

-- the events of one call more
pub longer : (call : Call) (calls : List Call) (n : ℕ) → length (kinds_of (take (suc n) (call ∷ calls))) ≡ call_size call + length (kinds_of (take n calls))
longer call calls n = ap length (events_first call (take n calls)) ∙ length-append (kinds_of (call ∷ [])) (kinds_of (take n calls))

starts_at : (calls : List Call) (at : ℕ) (e : Kind) → slice_get (kinds_of calls) at ≡ Some e → is_leave e ≡ false → length (kinds_of (take (call_number calls at) calls)) ≡ at
starts_at [] at e is h = nothing at e is
starts_at (call ∷ calls) at e is h =
    let size = call_size call in
    let rest = suc (call_number calls (at - size)) in
    let found : slice_get (kinds_of (call ∷ []) ++ kinds_of calls) at ≡ Some e = ap (λ es. slice_get es at) (sym (events_first call calls)) ∙ is in
    elim (cases_lt at size) [
      | inl low ↦
          let none : at ≡ 0 = one_call call at e (sym (slice_get-append_left (kinds_of (call ∷ [])) (kinds_of calls) at low) ∙ found) h in
          ap (λ n. length (kinds_of (take n (call ∷ calls)))) (sym (cond_below at size 0 rest low)) ∙ sym none
      | inr high ↦
          let same : at ≡ size + (at - size) = omega (arith, high) in
          let later : slice_get (kinds_of calls) (at - size) ≡ Some e =
          sym (slice_get-append_right (kinds_of (call ∷ [])) (kinds_of calls) (at - size)) ∙ ap (slice_get (kinds_of (call ∷ []) ++ kinds_of calls)) (sym same) ∙ found in
          let ih = starts_at calls (at - size) e later h in
          let more = longer call calls (call_number calls (at - size)) in
          ap (λ n. length (kinds_of (take n (call ∷ calls)))) (sym (cond_above at size 0 rest rest high refl)) ∙ omega (arith, ih, more, same)
    ]

in_calls : (calls : List Call) (n : ℕ) (e : Kind) → slice_get (kinds_of calls) (length (kinds_of (take n calls))) ≡ Some e → n < length calls
in_calls [] n e is = nothing (length (kinds_of (take {A = Call} n []))) e is
in_calls (call ∷ calls) zero e is = omega arith
in_calls (call ∷ calls) (suc n) e is =
    let later : slice_get (kinds_of calls) (length (kinds_of (take n calls))) ≡ Some e =
    sym (slice_get-append_right (kinds_of (call ∷ [])) (kinds_of calls) (length (kinds_of (take n calls))))
    ∙ ap (λ k. slice_get (kinds_of (call ∷ []) ++ kinds_of calls) k) (sym (longer call calls n))
    ∙ ap (λ es. slice_get es (length (kinds_of (take (suc n) (call ∷ calls))))) (sym (events_first call calls))
    ∙ is in
    let ih = in_calls calls n e later in
    omega (arith, ih)

pub same_events : (o : Option Process) → process_kinds o ≡ kinds_of (process_calls o)
same_events None = refl
same_events (Some process) = refl

events_called : (plan : Plan) (p : ℕ) → kinds plan p ≡ kinds_of (calls_of plan p)
unfolding kinds
events_called plan p = same_events (slice_get plan.processes p)

event_called : (plan : Plan) (x : Event) → kind plan x ≡ slice_get (kinds_of (calls_of plan x.proc)) x.at
unfolding kind_at
event_called plan x = ap (λ es. slice_get es x.at) (events_called plan x.proc)

-- it is the first event of its call
pub starts_back : (plan : Plan) (x : Event) → Starts plan x → first_event plan (call_of plan x) ≡ x
starts_back plan x s =
    ap (λ (n : ℕ). record { proc = x.proc; at = n }) (starts_at (calls_of plan x.proc) x.at s.what (sym (event_called plan x) ∙ s.is) s.first)

pub starts_within : (plan : Plan) (x : Event) → Starts plan x → x.at < event_count plan x.proc
unfolding event_count kind_at
starts_within plan x s = slice_get_within (kinds plan x.proc) x.at s.what s.is

-- the call is there
pub call_within : (plan : Plan) (call : CallAt) → Starts plan (first_event plan call) → call.call < length (calls_of plan call.proc.number)
call_within plan call s = in_calls (calls_of plan call.proc.number) call.call s.what (sym (event_called plan (first_event plan call)) ∙ s.is)

pub node_commit : (plan : Plan) (x y : Event) (key : ℕ) → IsNodeRace plan x y key → kind plan x ≡ Some Commit
node_commit plan x y key r = stores_commit plan x key r.near.stores

-- an arrival at a fence, or a get that waits: the source of a delivery race
pub data ArrivesOrGets (plan : Plan) (x : Event) : Type 0 where
  Arriving : (members : List ℕ) (collect : Bool) → kind plan x ≡ Some (Arrive members collect) → ArrivesOrGets plan x
  Getting : (owner key : ℕ) → kind plan x ≡ Some (Get owner key) → ArrivesOrGets plan x

source_of : (plan : Plan) (p key node : ℕ) (d : Delivery) (x : Event) → Brings plan p key node d → IsOf plan d x → ArrivesOrGets plan x
source_of plan p key node (ByFence members j) x b a = Arriving members a.collect a.is
source_of plan p key node (ByGet get) x b e = Getting p key (ap (kind plan) e ∙ b.away.is)

pub delivery_source : (plan : Plan) (x y : Event) (owner key : ℕ) → IsDeliveryRace plan x y owner key → ArrivesOrGets plan x
delivery_source plan x y owner key r = source_of plan owner key (node_of plan y.proc) r.delivery x r.delivers.brings_it r.of_it

-- a call on a name, by its event
pub record IsNamed (o : Option Kind) : Type 0 where
  pub what : Kind
  pub is : o ≡ Some what
  pub first : is_leave what ≡ false

named : (plan : Plan) (name : ℕ) (x : Event) (o : Option Kind) → calls_name plan name x o ≡ true → IsNamed o
named plan name x (Some (Publish n)) h = record { what = Publish n; is = refl; first = refl }
named plan name x (Some (Lookup n)) h = record { what = Lookup n; is = refl; first = refl }
named plan name x (Some (LookupWait n)) h = record { what = LookupWait n; is = refl; first = refl }
named plan name x (Some (Unpublish n)) h = record { what = Unpublish n; is = refl; first = refl }
named plan name x (Some UnpublishAll) h = record { what = UnpublishAll; is = refl; first = refl }
named plan name x _ h = absurd (true≢false (sym h))

pub starts_named : (plan : Plan) (name : ℕ) (x : Event) → calls_name plan name x (kind plan x) ≡ true → Starts plan x
starts_named plan name x h = let n = named plan name x (kind plan x) h in record { what = n.what; is = n.is; first = n.first }

abbrev pub low_of : Finding → Event
low_of (Rewrite x y) = x
low_of (KeyRace x y owner key) = x
low_of (NameRace x y name) = x

abbrev pub high_of : Finding → Event
high_of (Rewrite x y) = y
high_of (KeyRace x y owner key) = y
high_of (NameRace x y name) = y

starts_commit : (plan : Plan) (x y : Event) (key : ℕ) → IsNodeRace plan x y key → Starts plan x
starts_commit plan x y key r = record { what = Commit; is = node_commit plan x y key r; first = refl }

starts_look : (plan : Plan) (x : Event) (owner key : ℕ) → kind plan x ≡ Some (GetNow owner key) → Starts plan x
starts_look plan x owner key is = record { what = GetNow owner key; is = is; first = refl }

starts_source : (plan : Plan) (x : Event) → ArrivesOrGets plan x → Starts plan x
starts_source plan x (Arriving members collect is) = record { what = Arrive members collect; is = is; first = refl }
starts_source plan x (Getting owner key is) = record { what = Get owner key; is = is; first = refl }

-- each event of a finding is the first of its call
pub low_starts : (plan : Plan) (f : Finding) → IsFound plan f → Starts plan (low_of f)
low_starts plan (Rewrite x y) r = record { what = Put r.key r.first_scope; is = r.first_is; first = refl }
low_starts plan (KeyRace x y owner key) (low, inl (inl r)) = starts_commit plan x y key r.1
low_starts plan (KeyRace x y owner key) (low, inl (inr r)) = starts_source plan x (delivery_source plan x y owner key r)
low_starts plan (KeyRace x y owner key) (low, inr (inl r)) = starts_look plan x y.proc key r.1.near.is
low_starts plan (KeyRace x y owner key) (low, inr (inr r)) = starts_look plan x owner key r.is
low_starts plan (NameRace x y name) (low, inl r) = starts_named plan name x (writes_calls plan name x (kind plan x) r.x_writes)
low_starts plan (NameRace x y name) (low, inr r) = starts_named plan name x r.y_calls

pub high_starts : (plan : Plan) (f : Finding) → IsFound plan f → Starts plan (high_of f)
high_starts plan (Rewrite x y) r = record { what = Put r.key r.later_scope; is = r.later_is; first = refl }
high_starts plan (KeyRace x y owner key) (low, inl (inl r)) = starts_look plan y x.proc key r.1.near.is
high_starts plan (KeyRace x y owner key) (low, inl (inr r)) = starts_look plan y owner key r.is
high_starts plan (KeyRace x y owner key) (low, inr (inl r)) = starts_commit plan y x key r.1
high_starts plan (KeyRace x y owner key) (low, inr (inr r)) = starts_source plan y (delivery_source plan y x owner key r)
high_starts plan (NameRace x y name) (low, inl r) = starts_named plan name y r.y_calls
high_starts plan (NameRace x y name) (low, inr r) = starts_named plan name y (writes_calls plan name y (kind plan y) r.x_writes)
