-- What calls on names find.
use Rattle.std.proofs.Common.{◌≡◌, ℕ, ◌≤◌, List, [], ◌∷◌, ◌++◌, Bool, true, false, not, Option, Some, None, is_some, length, map, get_or, ◌<◌, inl, inr, refl, sym, ap, ◌∙◌, subst, arith}
use Rattle.std.specs.Prelude.{slice_get}
use Rattle.std.proofs.lemmas.Bool.{cond-true, cond-false, cases_Bool, true≢false}
use Rattle.std.proofs.lemmas.Option.{same_Some, slice_get_within}
use Rattle.wire_types.specs.declared.Event.{Event as CodeEvent}
use Rattle.wire_types.specs.Replies.{bare}
use Rattle.wire_types.specs.declared.Status.TheVariants as status
use Rattle.wire_runs.specs.Plan.{Plan, Publish, Unpublish, Event, Kind, kind, event_count, event_of}
use Rattle.wire_runs.specs.State.{State, Answer, next_event, next_kind, IsDone}
use Rattle.wire_runs.specs.Step.{is_publisher, may_do, reply, step, IsReachable}
use Rattle.wire_runs.specs.Races.{IsSettled}
use Rattle.wire_runs.specs.Order.{Before}
use Rattle.wire_runs.proofs.Due.{reachable_sound, chain_done}
use Rattle.wire_runs.proofs.Fates.{runs_are_sound}
use Rattle.wire_runs.proofs.Lists.{slice_get_push_cases}
use Rattle.wire_runs.proofs.Known.{reply_now, reachable_known}
use Rattle.wire_runs.proofs.Onward.{reached_on}
use Rattle.wire_fates.specs.Fates.{IsFateOf, answer_told}
use Rattle.wire_fates.specs.declared.fate.Fate.{Fate as Told}
use Rattle.wire_fates.specs.declared.fate.Fate.TheVariants as told
use Rattle.wire_fates.proofs.Fates.{waits_exactly}
use Rattle.std.proofs.lemmas.List.{map_push}
use Rattle.wire_runs.proofs.Basics.{event_within}
use Rattle.wire_plan.proofs.FirstBringing.{shown}
use Rattle.wire_plan.specs.Index.{ArePublishes, AreNameCalls, is_plain_call}
use Rattle.wire_portable.specs.Named.{FindsFree, FindsOwnName, IsOnlyPublish, IsNever, AreNever}

-- the one publish of a name finds it free
pub only_free : (plan : Plan) (name : ℕ) (y : Event) → kind plan y ≡ Some (Publish name) → IsOnlyPublish plan name y → FindsFree plan name y
only_free plan name y is only s r next = go (s.names name) refl
  where
    go : (o : Option Event) → s.names name ≡ o → s.names name ≡ None
    go None e = e
    go (Some x) e =
        let n = (reachable_sound plan s r).named name x e in
        let d : IsDone s (next_event s y.proc) = subst (IsDone s) (only x n.0 ∙ sym next) n.1 in
        absurd (omega (arith, d))

module _ (plan : Plan) (settled : IsSettled plan) (y : Event) (said : Answer → Type 0)
    (never : (s : State) (answer : Answer) → IsReachable plan s → slice_get (s.replies y.proc) y.at ≡ Some answer → said answer → ⊥) where
  -- what y would reply next isn't that
  not_said : (s : State) → IsReachable plan s → next_event s y.proc ≡ y → may_do plan s (next_event s y.proc) (next_kind plan s y.proc) ≡ true →
      said (reply plan s (next_event s y.proc) (next_kind plan s y.proc)) → ⊥
  not_said s r next may h =
      let p = y.proc in
      let k = reachable_known plan settled s r in
      let on = reached_on plan s (p ∷ []) r (may, tt) in
      let now = reply_now plan s p (k.lengths p) in
      let at : s.done p ≡ y.at = ap (λ (x : Event). x.at) next in
      never (step plan s p) (reply plan s (next_event s p) (next_kind plan s p)) on (subst (λ n. slice_get ((step plan s p).replies p) n ≡ Some (reply plan s (next_event s p) (next_kind plan s p))) at now) h

pub never_duplicate : (plan : Plan) (name : ℕ) (y : Event) → IsSettled plan → kind plan y ≡ Some (Publish name) →
    ((s : State) (answer : Answer) → IsReachable plan s → slice_get (s.replies y.proc) y.at ≡ Some answer → answer_told plan answer ≡ told.Says (bare status.DuplicateKey) → ⊥) →
    FindsFree plan name y
never_duplicate plan name y settled is never s r next = go (s.names name) refl
  where
    kind_next : next_kind plan s y.proc ≡ Some (Publish name)
    kind_next = ap (kind plan) next ∙ is

    go : (o : Option Event) → s.names name ≡ o → s.names name ≡ None
    go None e = e
    go (Some x) e = absurd (not_said plan settled y (λ a. answer_told plan a ≡ told.Says (bare status.DuplicateKey)) never s r next
        (ap (may_do plan s (next_event s y.proc)) kind_next)
        (ap (answer_told plan) (ap (reply plan s (next_event s y.proc)) kind_next ∙ cond-true _ _ _ (ap is_some e))))

pub never_missed : (plan : Plan) (name : ℕ) (y : Event) → IsSettled plan → kind plan y ≡ Some (Unpublish name) →
    ((s : State) (answer : Answer) → IsReachable plan s → slice_get (s.replies y.proc) y.at ≡ Some answer → answer_told plan answer ≡ told.Says (bare status.NotFound) → ⊥) →
    FindsOwnName plan name y
never_missed plan name y settled is never s r next = elim (cases_Bool (is_publisher y.proc (s.names name))) [
  | inl t ↦ t
  | inr f ↦ absurd (not_said plan settled y (λ a. answer_told plan a ≡ told.Says (bare status.NotFound)) never s r next
      (ap (may_do plan s (next_event s y.proc)) kind_next)
      (ap (answer_told plan) (ap (reply plan s (next_event s y.proc)) kind_next ∙ cond-false _ _ _ f)))
]
  where
    kind_next : next_kind plan s y.proc ≡ Some (Unpublish name)
    kind_next = ap (kind plan) next ∙ is

-- what waits for ever never comes
pub never_waits : (plan : Plan) (y : Event) (found : Told) → IsSettled plan → IsFateOf plan y found → found ≡ told.Waits → IsNever plan y
never_waits plan y found settled of waits s r done = (runs_are_sound plan s settled r).comes y done ((waits_exactly plan settled y found of).0 waits)

-- nor does what comes after it
pub never_after : (plan : Plan) (x y : Event) → Before plan x y → IsNever plan x → IsNever plan y
never_after plan x y before never s r done = never s r (chain_done plan s (reachable_sound plan s r) before done)

pub one_never : (plan : Plan) (places : List Event) (y : Event) → IsNever plan y → AreNever plan places → AreNever plan (places ++ y ∷ [])
one_never plan places y never are k x is = elim (slice_get_push_cases places y k x is) [
  | inl old ↦ are k x old
  | inr last ↦ subst (IsNever plan) last.1 never
]

-- what was replied has come
pub replied_done : (plan : Plan) (s : State) (y : Event) (answer : Answer) → IsSettled plan → IsReachable plan s → slice_get (s.replies y.proc) y.at ≡ Some answer → IsDone s y
replied_done plan s y answer settled r is =
    let within = slice_get_within (s.replies y.proc) y.at answer is in
    let size = (reachable_known plan settled s r).lengths y.proc in
    omega (arith, within, size)

pub not_after : (b : Bool) → (b ≡ true → ⊥) → not b ≡ true
not_after true never = absurd (never refl)
not_after false never = refl

-- what comes after one of these never comes
pub never_some : (plan : Plan) (places : List CodeEvent) (k : ℕ) (d : CodeEvent) (y : Event) → k < length places → AreNever plan (map event_of places) → Before plan (event_of (get_or places k d)) y → IsNever plan y
never_some plan places k d y lt are before = never_after plan (event_of (get_or places k d)) y before (are k (event_of (get_or places k d)) (shown places k d lt))

pub pushed_never : (plan : Plan) (old new : List CodeEvent) (x : CodeEvent) → new ≡ old ++ x ∷ [] → IsNever plan (event_of x) → AreNever plan (map event_of old) → AreNever plan (map event_of new)
pushed_never plan old new x e never are = subst (AreNever plan) (sym (ap (map event_of) e ∙ map_push event_of old x)) (one_never plan (map event_of old) (event_of x) never are)

-- a call on a name is an event of the plan
call_some : (plan : Plan) (name : ℕ) (z : Event) (o : Option Kind) → kind plan z ≡ o → is_plain_call name o ≡ true → z.at < event_count plan z.proc
call_some plan name z None e h = absurd (true≢false (sym h))
call_some plan name z (Some k) e h = event_within plan z.proc z.at k e

pub call_within : (plan : Plan) (name : ℕ) (places : List CodeEvent) (k : ℕ) (d : CodeEvent) → k < length places → AreNameCalls plan name (map event_of places) →
    (get_or places k d).at < event_count plan (get_or places k d).proc.number
call_within plan name places k d lt are =
    let z = event_of (get_or places k d) in
    call_some plan name z (kind plan z) refl (are.only k z (shown places k d lt))

-- the one of a list of one
pub only_one : (plan : Plan) (name : ℕ) (y : Event) (places : List Event) → ArePublishes plan name places → length places ≤ 1 → kind plan y ≡ Some (Publish name) → IsOnlyPublish plan name y
only_one plan name y places are few is x other =
    let a = are.all x other in
    let b = are.all y is in
    let i = slice_get_within places a.0 x a.1 in
    let j = slice_get_within places b.0 y b.1 in
    same_Some _ _ (sym a.1 ∙ ap (slice_get places) (omega (arith, few, i, j)) ∙ b.1)
