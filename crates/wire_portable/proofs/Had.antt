-- What a get that is answered at once surely sees.
use Rattle.std.proofs.Common.{◌≡◌, ◌∙◌, ap, sym, refl, subst, ℕ, suc, ◌<◌, List, Bool, true, false, Some, is_some, inl, inr, arith}
use Rattle.std.specs.Prelude.{slice_get}
use Rattle.std.proofs.lemmas.Bool.{cases_eq, true≢false}
use Rattle.wire_types.specs.declared.Event.{Event as CodeEvent}
use Rattle.wire_types.specs.declared.Proc.{Proc}
use Rattle.wire_runs.specs.Plan.{Plan, Event, Get, GetNow, Leave, kind, kind_at, event_of, event_count, process_count, node_of, admits}
use Rattle.wire_runs.specs.Puts.{stored, scope_of}
use Rattle.wire_runs.specs.Order.{Stores, IsArrival, Live, Before}
use Rattle.wire_runs.specs.Order.{Edge, Meets, edge}
use Rattle.wire_runs.specs.Races.{ByFence, ByGet, ComesSurely}
use Rattle.wire_runs.specs.Placings.{HasSurely}
use Rattle.wire_runs.proofs.Basics.{stored_stays, stores_commit, event_within, process_within}
use Rattle.wire_runs.proofs.Due.{live_source, place_path}
use Rattle.wire_runs.proofs.Histories.{before_live, joined, same_process}
use Rattle.wire_runs.proofs.FenceChains.{leave_of, one_arrival_is_all}
use Rattle.wire_runs.specs.Fences.{is_member}
use Rattle.wire_plan.specs.Index.{IsDelivering, AreArrivals, BringsDataBefore, IsSent}
use Rattle.wire_plan.proofs.Delivering.{here}
use Rattle.wire_fates.specs.Deliveries.{Arrives, IsAmong}
use Rattle.wire_fates.proofs.OwnFences.{member_there}
use Rattle.wire_library_laws.specs.Library.{Family, Words}
use Rattle.wire_library_laws.specs.Portable.{LibrariesHave, left, got}
use Rattle.wire_library_laws.specs.Anywhere.{OwnCallsHave, left as left_it, got as got_it}
use Rattle.wire_portable.specs.declared.libraries.Libraries.{Libraries}
use Rattle.wire_portable.specs.declared.libraries.Library.{Library}
use Rattle.wire_portable.specs.declared.libraries.Library.TheVariants.{V4, V5, V7}
use Rattle.wire_portable.specs.Libraries.{family_of, has, only_v5}
use Rattle.wire_portable.specs.Judging.{AreFor}
use Rattle.wire_portable.specs.Nows.{IsLiveNow, AreListedGets, AreGetsOf, IsStoreAway, IsGotAmong, AreOfFence, HasJobMember, HasLeft, HasArrived, IsLeftThere, IsLeft, HasLeftItself, HasKept, HasGotItself}
use Rattle.wire_portable.proofs.Carried.{some_of, same_owner}

-- the owner's arrival, its process told by another name, is an arrival
pub arrives_there : (plan : Plan) (p key node : ℕ) (e : CodeEvent) → e.proc.number ≡ p → IsDelivering plan p key node e.at → Arrives plan (event_of e)
arrives_there plan p key node e own d =
    record { members = d.members; j = d.j; arrival = subst (λ q. IsArrival plan d.members d.j (here q e.at)) (sym own) d.arrival }

-- so are those at its fence
pub its_arrivals : (plan : Plan) (p key node : ℕ) (e : CodeEvent) (places : List Event) → e.proc.number ≡ p → (d : IsDelivering plan p key node e.at) →
    ((members : List ℕ) (j : ℕ) → IsArrival plan members j (event_of e) → AreArrivals plan members j places) → AreArrivals plan d.members d.j places
its_arrivals plan p key node e places own d those = those d.members d.j (subst (λ q. IsArrival plan d.members d.j (here q e.at)) (sym own) d.arrival)

-- what is before the end of a fence, told by its place
pub left_at : (plan : Plan) (g : Event) (end : CodeEvent) (q at : ℕ) → end.proc.number ≡ q → end.at ≡ suc at → Before plan (event_of end) g → Before plan (here q (suc at)) g
left_at plan g end q at own next b = subst (λ x. Before plan x g) (place_path (event_of end) q (suc at) own next) b

-- gets that are listed are gets of the owner's keys
pub gets_of : (anywhere : Bool) (plan : Plan) (p : ℕ) (g : Event) (places : List Event) → AreListedGets anywhere plan p g places → AreGetsOf plan p places
gets_of anywhere plan p g places are = record { only = λ k z is. let o = are.only k z is in (o.key, o.is); rising = are.rising }

-- the commit that stores a key is an event of the owner
pub store_within : (plan : Plan) (owner : Proc) (key : ℕ) (s : CodeEvent) → IsStoreAway plan owner key s → s.at < event_count plan owner.number
store_within plan owner key s a =
    subst (λ q. s.at < event_count plan q) (ap (λ (r : Proc). r.number) a.its) (event_within plan s.proc.number s.at _ (stores_commit plan (event_of s) key a.stores))

pub store_process : (plan : Plan) (owner : Proc) (key : ℕ) (s : CodeEvent) → IsStoreAway plan owner key s → owner.number < process_count plan
store_process plan owner key s a =
    subst (λ q. q < process_count plan) (ap (λ (r : Proc). r.number) a.its) (process_within plan s.proc.number s.at _ (stores_commit plan (event_of s) key a.stores))

pub its_owner : (plan : Plan) (owner : Proc) (key : ℕ) (s : CodeEvent) → IsStoreAway plan owner key s → (event_of s).proc ≡ owner.number
its_owner plan owner key s a = ap (λ (r : Proc). r.number) a.its

-- what a fence brings that a process of the node has left comes surely: all arrivals at it are before its end
pub left_surely : (plan : Plan) (job : ℕ → ℕ) (p key node : ℕ) (g : Event) → IsLeft plan job p key node g → ComesSurely plan p key node g
left_surely plan job p key node g l =
    let lives = before_live l.before in
    let leads = λ (z : Event) (a : IsArrival plan l.members l.j z). to_end z a in
    let all = λ (z : Event) (a : IsArrival plan l.members l.j z). joined (edge (live_source lives (leads z a)) (leads z a) lives) l.before in
    record {
      delivery = ByFence l.members l.j;
      delivers = record { brings_it = l.delivers; all_live = λ z a. before_live (all z a) };
      all_before = all;
    }
  where
    to_end : (z : Event) → IsArrival plan l.members l.j z → Edge plan z l.leave
    to_end z a = Meets l.members l.is (subst (λ k. IsArrival plan l.members k z) (sym l.nth) a)

-- a set of libraries has what the set that it is has
pub has_same : (s t : Libraries) (library : Library) → s ≡ t → has s library ≡ false → has t library ≡ false
has_same s t library e h = sym (ap (λ r. has r library) e) ∙ h

-- fences bring in 4.2 and 7.0
pub brings_others : (library : Library) → has only_v5 library ≡ false → (family_of library).brings ≡ true
brings_others V4 h = refl
brings_others V5 h = absurd (true≢false h)
brings_others V7 h = refl

module _ (plan : Plan) (p key : ℕ) (g : Event) where
  -- an arrival of g's process before g: it has left the fence
  left_before : IsLiveNow plan p key g → (members : List ℕ) (j at : ℕ) → IsArrival plan members j (here g.proc at) → at < g.at → Before plan (here g.proc (suc at)) g
  left_before now members j at a lt =
      let l = leave_of plan members j g.proc at a in
      same_process plan (here g.proc (suc at)) g now.is_live refl (elim (cases_eq (suc at) g.at) [
        | inl e ↦ absurd (
            let there : kind_at plan g.proc g.at ≡ Some (GetNow p key) = now.is in
            let leaves : kind_at plan g.proc (suc at) ≡ Some (Leave members) = l.is in
            let same = ap (kind_at plan g.proc) e in
            cc)
        | inr ne ↦ omega (arith, lt, ne)
      ])

  module _ (places : List Event) where
    -- the arrival of a place, by its process
    its_arrival : (fence : AreOfFence plan places) (k : ℕ) (z : Event) → slice_get places k ≡ Some z → z.proc ≡ g.proc → IsArrival plan fence.members fence.j (here g.proc z.at)
    its_arrival fence k z is own = subst (λ q. IsArrival plan fence.members fence.j (here q z.at)) own (fence.are.only k z is)

    -- g's own process, if it has arrived, has left
    pub arrived_left : IsLiveNow plan p key g → AreOfFence plan places → HasArrived g places → HasLeft plan (node_of plan g.proc) g places
    arrived_left now fence a = record {
      k = a.k;
      arrival = a.arrival;
      is = a.is;
      there = ap (node_of plan) a.own;
      left = subst (λ q. Before plan (here q (suc a.arrival.at)) g) (sym a.own) (left_before now fence.members fence.j a.arrival.at (its_arrival fence a.k a.arrival a.is a.own) a.earlier);
    }

    pub arrived_member : (job : ℕ → ℕ) → job g.proc ≡ job p → HasArrived g places → HasJobMember plan job p (node_of plan g.proc) places
    arrived_member job same a = record { k = a.k; arrival = a.arrival; is = a.is; there = ap (node_of plan) a.own; same = ap job a.own ∙ same }

  -- a fence that brings the key and that a process of the node has left
  pub left_by : (job : ℕ → ℕ) (node at : ℕ) (d : IsDelivering plan p key node at) (places : List Event) → AreArrivals plan d.members d.j places → IsLeftThere plan job p node g places →
      IsLeft plan job p key node g
  left_by job node at d places are l =
      let leave = leave_of plan d.members d.j l.left.arrival.proc l.left.arrival.at (are.only l.left.k l.left.arrival l.left.is) in
      record {
        members = d.members;
        j = d.j;
        delivers = d.brings;
        other = l.other.arrival.proc;
        member = (are.only l.other.k l.other.arrival l.other.is).member;
        there = l.other.there;
        same = l.other.same;
        leave = here l.left.arrival.proc (suc l.left.arrival.at);
        is = leave.is;
        nth = leave.nth;
        on_node = l.left.there;
        before = l.left.left;
      }

  pub left_itself_by : (node at : ℕ) (d : IsDelivering plan p key node at) (places : List Event) → AreArrivals plan d.members d.j places → HasArrived g places → HasLeftItself plan p key g
  left_itself_by node at d places are a = record {
    members = d.members;
    j = d.j;
    brings = d.brings.away;
    at = a.arrival.at;
    arrival = its_arrival places (record { members = d.members; j = d.j; are = are }) a.k a.arrival a.is a.own;
    earlier = a.earlier;
  }

  module _ (family : Family) (words : Words) (job : ℕ → ℕ) (same_jobs : words.job ≡ job) where
    its_job : (q : ℕ) → job q ≡ job p → words.job q ≡ words.job p
    its_job q same = ap (λ (f : ℕ → ℕ). f q) same_jobs ∙ same ∙ sym (ap (λ (f : ℕ → ℕ). f p) same_jobs)

    pub have_left : family.brings ≡ true → IsLeft plan job p key (node_of plan g.proc) g → LibrariesHave family words plan p key g
    have_left brings l =
        left l.members l.j l.other l.leave brings l.delivers (record { member = l.member; there = l.there; job = its_job l.other l.same }) l.is l.nth l.on_node l.before

    pub left_itself : IsLiveNow plan p key g → family.brings ≡ true → job g.proc ≡ job p → HasLeftItself plan p key g → OwnCallsHave family words plan p key g
    left_itself now brings same l =
        let leave = leave_of plan l.members l.j g.proc l.at l.arrival in
        left_it l.members l.j (here g.proc (suc l.at)) brings l.brings l.arrival.member (its_job g.proc same) leave.is leave.nth refl (left_before now l.members l.j l.at l.arrival l.earlier)

  -- by the rules it has come
  pub surely_left : IsLiveNow plan p key g → HasLeftItself plan p key g → HasSurely plan p key g.proc g
  surely_left now l =
      let own = same_process plan (here g.proc l.at) g now.is_live refl l.earlier in
      let all = λ (z : Event) (a : IsArrival plan l.members l.j z). one_arrival_is_all plan l.members l.j (here g.proc l.at) z g l.arrival a own in
      record {
        delivery = ByFence l.members l.j;
        carries = record { another = now.another; takes_part = l.arrival.member; brings_away = l.brings; all_live = λ z a. before_live (all z a) };
        all_before = all;
      }

  module _ (s : Event) (own : s.proc ≡ p) (stores : Stores plan s key) (are_for : AreFor plan p key false true) where
    there_after : (n : ℕ) → s.at < n → (u : ℕ) × (stored plan p key n ≡ Some u) × (admits (scope_of plan p u) false ≡ true)
    there_after n lt =
        let some = stored_stays plan p key (suc s.at) n (omega (arith, lt)) (subst (λ q. is_some (stored plan q key (suc s.at)) ≡ true) own stores.something_after) in
        let u = some_of (stored plan p key n) some in
        (u.0, u.1, are_for n u.0 u.1)

    pub surely_kept : (places : List Event) → s.at < event_count plan p → IsLiveNow plan p key g → HasKept plan p key g places → HasSurely plan p key g.proc g
    surely_kept places within now h =
        let u = there_after (event_count plan p) within in
        record {
          delivery = ByGet h.get;
          carries = record {
            another = now.another;
            takes_part = h.own;
            brings_away = record { keeps = h.keeps; is = h.brought.0; put = u.0; committed = u.1; admitted = u.2 };
            all_live = λ z e. subst (Live plan) (sym e) (before_live h.brought.1);
          };
          all_before = λ z e. subst (λ x. Before plan x g) (sym e) h.brought.1;
        }

    module _ (family : Family) (words : Words) (places : List Event) where
      pub have_got : AreListedGets false plan p g places → IsGotAmong plan s.at g places → LibrariesHave family words plan p key g
      have_got are h =
          let o = are.only h.k h.get h.is in
          let q = same_owner plan h.get h.got.owner p h.got.key o.key h.got.is o.is in
          let le = h.got.later in
          let u = there_after (suc h.got.commit.at) (omega (arith, le)) in
          got h.get h.got.commit h.got.key u.0 (subst (λ r. kind plan h.get ≡ Some (Get r h.got.key)) q h.got.is) o.there h.got.before (h.got.its ∙ q) h.got.stores u.1 u.2

      pub got_itself : AreListedGets true plan p g places → HasGotItself plan s.at g places → OwnCallsHave family words plan p key g
      got_itself are i =
          let h = i.among in
          let o = are.only h.k h.get h.is in
          let q = same_owner plan h.get h.got.owner p h.got.key o.key h.got.is o.is in
          let le = h.got.later in
          let u = there_after (suc h.got.commit.at) (omega (arith, le)) in
          got_it h.get h.got.commit h.got.key u.0 (subst (λ r. kind plan h.get ≡ Some (Get r h.got.key)) q h.got.is) i.own h.got.before (h.got.its ∙ q) h.got.stores u.1 u.2

  -- so it is of the last fence with data that g's own process has left, where the owner has sent the key before its arrival there
  pub left_last : (job : ℕ → ℕ) (own arrival : Event) (places : List Event) → IsLiveNow plan p key g → BringsDataBefore plan g own →
      ((members : List ℕ) (j : ℕ) → IsArrival plan members j own → AreArrivals plan members j places) → IsAmong p arrival places → job g.proc ≡ job p → IsSent plan p key arrival.at →
      IsLeft plan job p key (node_of plan g.proc) g
  left_last job own arrival places now b those among same sent =
      let are = those b.brings.members b.brings.j b.brings.arrival in
      let mine = are.all own b.brings.arrival in
      let arrived : HasArrived g places = record { k = mine.0; arrival = own; is = mine.1; own = b.same; earlier = b.earlier } in
      let of_owner : IsArrival plan b.brings.members b.brings.j (here p arrival.at) =
      subst (λ q. IsArrival plan b.brings.members b.brings.j (here q arrival.at)) among.proc (are.only among.k arrival among.is) in
      let of_get = subst (λ q. is_member b.brings.members q ≡ true) b.same b.brings.arrival.member in
      let brings : IsDelivering plan p key (node_of plan g.proc) arrival.at = record {
        members = b.brings.members;
        j = b.brings.j;
        arrival = of_owner;
        brings = record {
          away = record {
            full = b.brings.full;
            collecting = b.brings.collecting;
            member = of_owner.member;
            at = arrival.at;
            put = sent.put;
            arrival = of_owner;
            committed = sent.committed;
            admitted = sent.admitted;
          };
          reaches = member_there plan b.brings.members g.proc of_get;
        };
      } in
      left_by job (node_of plan g.proc) arrival.at brings places are (record {
        other = arrived_member places job same arrived;
        left = arrived_left places now (record { members = b.brings.members; j = b.brings.j; are = are }) arrived;
      })
