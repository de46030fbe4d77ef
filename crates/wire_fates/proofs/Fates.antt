-- What an event does in the state of its past is its fate.
use Rattle.std.proofs.Common.{◌≡◌, ◌∙◌, ap, refl, sym, subst, ℕ, ◌<◌, List, [], ◌∷◌, true, Option, Some, is_some}
use Rattle.std.specs.Prelude.{◌≢◌, ◌↔◌, if◌then◌else◌}
use Rattle.std.proofs.lemmas.Bool.{cond-true}
use Rattle.wire_types.specs.declared.Reply.{Reply}
use Rattle.wire_runs.specs.Plan.{Plan, Event, Kind, Leave, Publish, Lookup, LookupWait, Unpublish, kind, event_count}
use Rattle.wire_runs.specs.State.{Success, NotFound, Duplicate, State, next_event}
use Rattle.wire_runs.specs.Fences.{arrivals}
use Rattle.wire_runs.specs.Step.{may_do, reply, lookup_reply, is_publisher}
use Rattle.wire_runs.specs.Order.{Edge, Meets, Live, Before, edge}
use Rattle.wire_runs.specs.Races.{IsSettled}
use Rattle.wire_runs.specs.Ends.{given}
use Rattle.wire_runs.specs.Fate.{Fate, Waits, Says, fate_in, HasFate, dead, told, IsPast, left_by}
use Rattle.wire_runs.proofs.Due.{live_may, live_source}
use Rattle.wire_runs.proofs.Brought.{complete_if_arrived}
use Rattle.wire_runs.proofs.Histories.{one_history, before_live}
use Rattle.wire_runs.proofs.Fates.{fates_tell, one_fate, live_within, get_fate}
use Rattle.wire_runs.proofs.HaveFates.{have_fates}
use Rattle.wire_happens_before.specs.Clocks.{Clocks, AreMarks}
use Rattle.wire_fates.specs.declared.fate.Fate.{Fate as Told}
use Rattle.wire_fates.specs.declared.fate.Fate.TheVariants as code
use Rattle.wire_fates.specs.Fates.{told_by, fate_told, IsFateOf, TellsReply, TellsEnabled}
use Rattle.wire_fates.specs.Pasts.{IsFateInPast, AreGot, IsStanding, GivesPublish, GivesUnpublish, GivesLookup, IsFateOfWait}
use Rattle.wire_fates.proofs.Marked.{marks_of}

module _ (plan : Plan) (y : Event) (past : State) where
  -- an event that can happen, with its reply
  pub says : (o : Option Kind) (r : Reply) → kind plan y ≡ o → may_do plan past y o ≡ true → given plan (reply plan past y o) ≡ r ∷ [] → code.Says r ≡ fate_told plan (fate_in plan past y)
  says o r is may g =
      let e : fate_in plan past y ≡ Says (reply plan past y o) = ap (λ k. if may_do plan past y k then Says (reply plan past y k) else Waits) is ∙ cond-true _ _ _ may in
      sym (ap (fate_told plan) e ∙ ap told_by g)

  module _ (n : ℕ) (standing : Option Event) (names : past.names n ≡ standing) where
    pub publish_says : (r : Reply) → kind plan y ≡ Some (Publish n) → GivesPublish standing r → code.Says r ≡ fate_told plan (fate_in plan past y)
    publish_says r is g = says (Some (Publish n)) r is refl (subst (λ v. given plan (if is_some v then Duplicate else Success) ≡ r ∷ []) (sym names) (g plan))

    pub unpublish_says : (r : Reply) → kind plan y ≡ Some (Unpublish n) → GivesUnpublish y.proc standing r → code.Says r ≡ fate_told plan (fate_in plan past y)
    unpublish_says r is g = says (Some (Unpublish n)) r is refl (subst (λ v. given plan (if is_publisher y.proc v then Success else NotFound) ≡ r ∷ []) (sym names) (g plan))

    pub lookup_says : (r : Reply) → kind plan y ≡ Some (Lookup n) → GivesLookup plan standing r → code.Says r ≡ fate_told plan (fate_in plan past y)
    lookup_says r is g = says (Some (Lookup n)) r is refl (subst (λ v. given plan (lookup_reply v) ≡ r ∷ []) (sym names) g)

    pub waiting_is : (found : Told) → kind plan y ≡ Some (LookupWait n) → IsFateOfWait plan standing found → found ≡ fate_told plan (fate_in plan past y)
    waiting_is found is w =
        w ∙ ap (λ v. fate_told plan (if is_some v then Says (lookup_reply v) else Waits)) (sym names)
        ∙ ap (λ k. fate_told plan (if may_do plan past y k then Says (reply plan past y k) else Waits)) (sym is)

-- a live end of a fence
pub leave_may : (plan : Plan) (y : Event) (fate_of : Event → Fate) (past : State) (members : List ℕ) → Live plan y → IsPast plan y fate_of past → kind plan y ≡ Some (Leave members) →
    may_do plan past y (Some (Leave members)) ≡ true
leave_may plan y fate_of past members l is_past is =
    complete_if_arrived plan past.done members (arrivals plan y.proc members y.at) (rw is at (live_may l))
    (λ z a. let e : Edge plan z y = Meets members is a in (is_past.cut z).1 (edge (live_source l e) e l))

-- what stands under the name in the state of the past
pub stands : (plan : Plan) (y : Event) (n : ℕ) (found : Option Event) (fate_of : Event → Fate) (past : State) → IsStanding plan y n found → IsPast plan y fate_of past → past.names n ≡ found
stands plan y n found fate_of past st is_past =
    let h = is_past.names n in
    h.2 ∙ ap (left_by plan n) (one_history plan y n h.0 st.calls h.1 st.history) ∙ sym st.left

past_got : (plan : Plan) → IsSettled plan → (y : Event) (fate_of : Event → Fate) → ((z : Event) → Before plan z y → HasFate plan z (fate_of z)) → (past : State) → IsPast plan y fate_of past →
    AreGot plan past
past_got plan settled y fate_of all past is_past z t key d is other =
    let b = (is_past.cut z).0 d in
    is_past.replies z _ b (get_fate plan settled z (fate_of z) (before_live b) t key is other (all z b))

-- an event has the fate that it has in its past
pub fate_of_live : (plan : Plan) (clocks : Clocks) (y : Event) (found : Told) → IsSettled plan → AreMarks plan clocks → Live plan y → IsFateInPast plan y found → IsFateOf plan y found
fate_of_live plan clocks y found settled m l does = let f = have_fates plan settled (marks_of plan clocks m) y in go f.0 f.1
  where
    go : (fate : Fate) → HasFate plan y fate → IsFateOf plan y found
    go fate (dead no_ e) = absurd (no_ l)
    go fate (told live_ fate_of all past is_past e) = record {
      fate = fate;
      has = told live_ fate_of all past is_past e;
      is = does fate_of past is_past (past_got plan settled y fate_of all past is_past) ∙ ap (fate_told plan) (sym e);
    }

pub fate_of_dead : (plan : Plan) (y : Event) → (Live plan y → ⊥) → IsFateOf plan y code.Waits
fate_of_dead plan y no_ = record { fate = Waits; has = dead no_ refl; is = refl }

told_not_waits : (rs : List Reply) → told_by rs ≡ code.Waits → ⊥
told_not_waits [] e = cc
told_not_waits (r ∷ rs) e = cc

waits_only : (plan : Plan) (fate : Fate) → fate_told plan fate ≡ code.Waits → fate ≡ Waits
waits_only plan Waits e = refl
waits_only plan (Says a) e = absurd (told_not_waits (given plan a) e)

module _ (plan : Plan) (settled : IsSettled plan) (y : Event) (found : Told) (f : IsFateOf plan y found) where
  pub waits_exactly : (found ≡ code.Waits) ↔ HasFate plan y Waits
  waits_exactly = (
    (λ e. subst (λ v. HasFate plan y v) (waits_only plan f.fate (sym f.is ∙ e)) f.has),
    (λ w. f.is ∙ ap (fate_told plan) (one_fate plan y f.fate Waits settled f.has w)),
  )

  pub there_if : found ≢ code.Waits → y.at < event_count plan y.proc
  there_if ne = go f.fate f.has f.is
    where
      go : (fate : Fate) → HasFate plan y fate → found ≡ fate_told plan fate → y.at < event_count plan y.proc
      go fate (dead no_ e) is = absurd (ne (is ∙ ap (fate_told plan) e))
      go fate (told l fate_of all past is_past e) is = live_within plan y l

  pub reply_told : TellsReply plan y found
  reply_told s answer r is = f.is ∙ ap (fate_told plan) ((fates_tell plan s settled r).answers y answer f.fate is f.has)

  pub enabled_told : TellsEnabled plan y found
  enabled_told s r at =
      let same : y ≡ next_event s y.proc = λ t. record { proc = y.proc; at = sym at t } in
      let e = (fates_tell plan s settled r).enabled y.proc f.fate (subst (λ z. HasFate plan z f.fate) same f.has) in (
        (λ h. let p = e.0 h in (
          (λ x d. p.0 x (subst (λ z. Edge plan x z) same d)),
          (λ w. p.1 (waits_only plan f.fate (sym f.is ∙ w))),
        )),
        (λ h. e.1 (
          (λ x d. h.0 x (subst (λ z. Edge plan x z) (sym same) d)),
          (λ w. h.1 (f.is ∙ ap (fate_told plan) w)),
        )),
      )
