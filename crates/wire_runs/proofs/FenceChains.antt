-- Chains into and out of a fence: what one arrival is before, each is, and what is before an arrival is what is before a leave.
use Rattle.std.proofs.Common.{◌≡◌, ℕ, zero, suc, List, [], ◌∷◌, Bool, true, Option, Some, None, ◌⊎◌, inl, inr, refl, sym, ap, ◌∙◌, subst, arith, slice_get, leb-true}
use Rattle.std.proofs.lemmas.Bool.{cases_lt}
use Rattle.wire_runs.specs.Plan.{Plan, Process, Call, CallFence, Arrive, Leave, Get, kinds_of, process_kinds, kinds, kind_at, kind, event_count, Event}
use Rattle.wire_runs.specs.Fences.{arrivals, is_member, is_full}
use Rattle.wire_runs.specs.Order.{IsArrival, Edge, Follows, Meets, Feeds, Announces, may_come, Live, live, Before, edge, further}
use Rattle.wire_runs.specs.Races.{ByFence, ByGet, FenceBringsAway}
use Rattle.wire_runs.specs.PlacingLaws.{OneArrivalIsAll, IsLeave, LateByLeave, OneMemberTells, ReaderTakesNoPart}
use Rattle.wire_runs.proofs.Basics.{list_all_at_member, stores_commit, arrivals_step}
use Rattle.wire_runs.proofs.Brought.{nth_arrival}
use Rattle.wire_runs.proofs.Due.{live_source, place_path}
use Rattle.wire_runs.proofs.Histories.{same_process}

-- behind an arrival stands the leave of its fence
leave_behind : (calls : List Call) (i : ℕ) (members : List ℕ) (collect : Bool) → slice_get (kinds_of calls) i ≡ Some (Arrive members collect) →
    slice_get (kinds_of calls) (suc i) ≡ Some (Leave members)
leave_behind [] i members collect e = cc
leave_behind (CallFence others c ∷ calls) zero members collect e = cc
leave_behind (CallFence others c ∷ calls) (suc zero) members collect e = cc
leave_behind (CallFence others c ∷ calls) (suc (suc i)) members collect e = leave_behind calls i members collect e
leave_behind (_ ∷ calls) zero members collect e = cc
leave_behind (_ ∷ calls) (suc i) members collect e = leave_behind calls i members collect e

-- no process begins with a leave
no_leave_first : (calls : List Call) (members : List ℕ) → slice_get (kinds_of calls) 0 ≡ Some (Leave members) → ⊥
no_leave_first [] members e = cc
no_leave_first (CallFence others c ∷ calls) members e = cc
no_leave_first (_ ∷ calls) members e = cc

-- before a leave stands the arrival at its fence
arrive_ahead : (calls : List Call) (i : ℕ) (members : List ℕ) → slice_get (kinds_of calls) (suc i) ≡ Some (Leave members) →
    (collect : Bool) × (slice_get (kinds_of calls) i ≡ Some (Arrive members collect))
arrive_ahead [] i members e = absurd (cc)
arrive_ahead (CallFence others c ∷ calls) zero members e = (c, cc)
arrive_ahead (CallFence others c ∷ calls) (suc zero) members e = absurd (no_leave_first calls members e)
arrive_ahead (CallFence others c ∷ calls) (suc (suc i)) members e = arrive_ahead calls i members e
arrive_ahead (_ ∷ calls) zero members e = absurd (no_leave_first calls members e)
arrive_ahead (_ ∷ calls) (suc i) members e = arrive_ahead calls i members e

leave_behind_in : (o : Option Process) (i : ℕ) (members : List ℕ) (collect : Bool) → slice_get (process_kinds o) i ≡ Some (Arrive members collect) →
    slice_get (process_kinds o) (suc i) ≡ Some (Leave members)
leave_behind_in None i members collect e = cc
leave_behind_in (Some process) i members collect e = leave_behind process.calls i members collect e

arrive_ahead_in : (o : Option Process) (i : ℕ) (members : List ℕ) → slice_get (process_kinds o) (suc i) ≡ Some (Leave members) →
    (collect : Bool) × (slice_get (process_kinds o) i ≡ Some (Arrive members collect))
arrive_ahead_in None i members e = absurd (cc)
arrive_ahead_in (Some process) i members e = arrive_ahead process.calls i members e

pub leave_next : (plan : Plan) (p i : ℕ) (members : List ℕ) (collect : Bool) → kind_at plan p i ≡ Some (Arrive members collect) → kind_at plan p (suc i) ≡ Some (Leave members)
unfolding kind_at kinds
leave_next plan p i members collect e = leave_behind_in (slice_get plan.processes p) i members collect e

pub arrive_last : (plan : Plan) (p i : ℕ) (members : List ℕ) → kind_at plan p (suc i) ≡ Some (Leave members) → (collect : Bool) × (kind_at plan p i ≡ Some (Arrive members collect))
unfolding kind_at kinds
arrive_last plan p i members e = arrive_ahead_in (slice_get plan.processes p) i members e

-- two arrivals at one fence
module _ (plan : Plan) (members : List ℕ) (j : ℕ) (y z : Event) (at_y : IsArrival plan members j y) (at_z : IsArrival plan members j z) where
  -- each leads where the other leads
  edge_of_all : (x : Event) → Edge plan y x → Edge plan z x
  edge_of_all x (Follows e n) =
      let there : x ≡ record { proc = y.proc; at = suc y.at } = place_path x y.proc (suc y.at) (sym e) (sym n) in
      let is : kind plan x ≡ Some (Leave members) = ap (kind plan) there ∙ leave_next plan y.proc y.at members at_y.collect at_y.is in
      let nth : arrivals plan x.proc members x.at ≡ j = ap (λ (v : Event). arrivals plan v.proc members v.at) there ∙ at_y.nth in
      Meets members is (subst (λ k. IsArrival plan members k z) (sym nth) at_z)
  edge_of_all x (Meets others is a) =
      let here : kind plan y ≡ Some (Arrive members at_y.collect) = at_y.is in
      let there : kind plan y ≡ Some (Arrive others a.collect) = a.is in
      let same : members ≡ others = cc in
      let nth : j ≡ arrivals plan x.proc others x.at = sym at_y.nth ∙ ap (λ m. arrivals plan y.proc m (suc y.at)) same ∙ a.nth in
      Meets others is (subst (λ k. IsArrival plan others k z) nth (subst (λ m. IsArrival plan m j z) same at_z))
  edge_of_all x (Feeds key is another once stores) =
      absurd (let here : kind plan y ≡ Some (Arrive members at_y.collect) = at_y.is in let there = stores_commit plan y key stores in cc)
  edge_of_all x (Announces name is once) =
      absurd (let here : kind plan y ≡ Some (Arrive members at_y.collect) = at_y.is in let there = once.is in cc)

  before_of_all : {x : Event} → Before plan y x → Before plan z x
  before_of_all (edge l e m) = let f = edge_of_all _ e in edge (live_source m f) f m
  before_of_all (further b e m) = further (before_of_all b) e m

pub one_arrival_is_all : OneArrivalIsAll
one_arrival_is_all plan members j y z x at_y at_z b = before_of_all plan members j y z at_y at_z b

-- the last edge of a chain
pub last_edge : {plan : Plan} {x y : Event} → Before plan x y → (z : Event) × Edge plan z y × ((x ≡ z) ⊎ Before plan x z)
last_edge (edge {x = z} l e m) = (z, e, inl refl)
last_edge (further {y = z} b e m) = (z, e, inr b)

module _ (plan : Plan) (members : List ℕ) (j : ℕ) (leave : Event) (l : IsLeave plan members j leave) where
  -- only arrivals lead to a leave
  pub into_leave : (z : Event) → Edge plan z leave → IsArrival plan members j z
  into_leave z (Follows e n) =
      let there : leave ≡ record { proc = z.proc; at = suc z.at } = place_path leave z.proc (suc z.at) (sym e) (sym n) in
      let ahead = arrive_last plan z.proc z.at members (sym (ap (kind plan) there) ∙ l.is) in
      record {
        collect = ahead.0;
        is = ahead.1;
        member = ap (is_member members) e ∙ l.member;
        nth = sym (ap (λ (v : Event). arrivals plan v.proc members v.at) there) ∙ l.nth;
      }
  into_leave z (Meets others is a) =
      let here : kind plan leave ≡ Some (Leave members) = l.is in
      let same : others ≡ members = cc in
      let nth : arrivals plan leave.proc others leave.at ≡ j = ap (λ m. arrivals plan leave.proc m leave.at) same ∙ l.nth in
      subst (λ k. IsArrival plan members k z) nth (subst (λ m. IsArrival plan m (arrivals plan leave.proc others leave.at) z) same a)
  into_leave z (Feeds key is another once stores) = absurd (let here : kind plan leave ≡ Some (Leave members) = l.is in cc)
  into_leave z (Announces name is once) = absurd (let here : kind plan leave ≡ Some (Leave members) = l.is in cc)

  pub to_leave : (z : Event) → IsArrival plan members j z → Edge plan z leave
  to_leave z a = Meets members l.is (subst (λ k. IsArrival plan members k z) (sym l.nth) a)

  -- a leave of a full fence, all its arrivals live, is live
  pub leave_live : is_full plan members j ≡ true → ((z : Event) → IsArrival plan members j z → Live plan z) → Live plan leave
  leave_live full lives =
      live (ap (may_come plan leave) l.is ∙ ap (is_full plan members) l.nth ∙ full) (λ z e. lives z (into_leave z e))

pub late_by_leave : LateByLeave
late_by_leave plan members j leave x full lives l other = (
  (λ w. further w.2 (to_leave plan members j leave l w.0 w.1) (leave_live plan members j leave l full lives)),
  (λ b.
      let last = last_edge b in
      let a = into_leave plan members j leave l last.0 last.1 in
      elim last.2 [
        | inl e ↦ absurd (other (subst (IsArrival plan members j) (sym e) a))
        | inr before ↦ (last.0, a, before)
      ]),
)

-- each member of a full fence that somebody arrives at arrives there
pub member_arrives : (plan : Plan) (members : List ℕ) (j m : ℕ) (y : Event) → is_full plan members j ≡ true → IsArrival plan members j y → is_member members m ≡ true →
    (i : ℕ) × IsArrival plan members j (record { proc = m; at = i })
member_arrives plan members j m y full a member =
    let step = arrivals_step plan y.proc members a.collect y.at a.is in
    let nth = a.nth in
    nth_arrival plan m members j (event_count plan m) (omega (arith, step, nth)) (leb-true _ _ (list_all_at_member _ members m full member)) member

pub reader_takes_no_part : ReaderTakesNoPart
reader_takes_no_part plan p key owner k get (ByFence members j) is live_get c =
    let b : FenceBringsAway plan p key members j = c.brings_away in
    let w = member_arrives plan members j get.proc _ b.full b.arrival c.takes_part in
    let z : Event = record { proc = get.proc; at = w.0 } in
    elim (cases_lt w.0 get.at) [
      | inl lt ↦ inl (λ y a. one_arrival_is_all plan members j z y get w.1 a (same_process plan z get live_get refl lt))
      | inr ge ↦ elim (cases_lt get.at w.0) [
        | inl gt ↦ inr (z, w.1, same_process plan get z (c.all_live z w.1) refl gt)
        | inr le ↦ absurd (
            let e : w.0 ≡ get.at = omega (arith, ge, le) in
            let there : kind_at plan get.proc w.0 ≡ Some (Arrive members w.1.collect) = w.1.is in
            let same = ap (kind_at plan get.proc) e in
            cc)
      ]
    ]
reader_takes_no_part plan p key owner k get (ByGet g) is live_get c =
    let there : kind plan g ≡ Some (Get p key) = c.brings_away.is in
    elim (cases_lt g.at get.at) [
      | inl lt ↦ inl (λ z e. subst (λ v. Before plan v get) (sym e) (same_process plan g get live_get c.takes_part lt))
      | inr ge ↦ elim (cases_lt get.at g.at) [
        | inl gt ↦ inr (g, refl, same_process plan get g (c.all_live g refl) (sym c.takes_part) gt)
        | inr le ↦ absurd (let same = ap (kind plan) (place_path g get.proc get.at c.takes_part (omega (arith, ge, le))) in cc)
      ]
    ]

-- the leave behind a member's arrival
pub leave_of : (plan : Plan) (members : List ℕ) (j p i : ℕ) → IsArrival plan members j (record { proc = p; at = i }) → IsLeave plan members j (record { proc = p; at = suc i })
leave_of plan members j p i a = record { is = leave_next plan p i members a.collect a.is; member = a.member; nth = a.nth }

pub one_member_tells : OneMemberTells
one_member_tells plan members j p i owner key get a is =
    let arrival : Event = record { proc = p; at = i } in
    let leave : Event = record { proc = p; at = suc i } in
    let l = leave_of plan members j p i a in
    let other : IsArrival plan members j get → ⊥ = λ b. (let there : kind plan get ≡ Some (Arrive members b.collect) = b.is in cc) in
    record {
      live = λ full. (
        (λ lives. leave_live plan members j leave l full lives),
        (λ live_l z b. live_source live_l (to_leave plan members j leave l z b)),
      );
      sure = ((λ all. all arrival a), (λ b z c. one_arrival_is_all plan members j arrival z get a c b));
      late = λ full live_l.
          let lives : (z : Event) → IsArrival plan members j z → Live plan z = λ z b. live_source live_l (to_leave plan members j leave l z b) in
          let tells = late_by_leave plan members j leave get full lives l other in
          ((λ none b. let w = tells.1 b in none w.0 w.1 w.2), (λ not z b before. not (tells.0 (z, b, before))));
      none = λ not z b before. not (one_arrival_is_all plan members j z arrival get b a before);
    }
