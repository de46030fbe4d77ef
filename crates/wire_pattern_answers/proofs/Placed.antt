-- A get-now is answered on all nodes as it is on a few placings.
use Rattle.std.proofs.Common.{◌≡◌, ◌∙◌, ap, sym, subst, refl, ℕ, suc, ◌+◌, ◌<◌, ◌≤◌, ◌⊎◌, List, [], ◌∷◌, Bool, true, false, length, Option, Some, None, inl, inr, arith, eq-eqb, ne_eqb, eqb-true, zero-add}
use Rattle.std.specs.Prelude.{slice_get, nat_lt, codes, if◌then◌else◌}
use Rattle.std.specs.Str.{bytes_eq}
use Rattle.std.proofs.Math.Bool.{beq}
use Rattle.std.proofs.lemmas.Bool.{cond-true, cond-false, cases_Bool, cases_eq, cases_lt, true≢false}
use Rattle.std.proofs.lemmas.List.{length-map}
use Rattle.std.proofs.lemmas.Option.{slice_get_within}
use Rattle.wire_types.specs.declared.Call.{Call}
use Rattle.wire_types.specs.declared.Call.TheVariants.{Put, Commit, Fence, Get, GetNow, Publish, Lookup, LookupWait, Unpublish, UnpublishAll}
use Rattle.wire_types.specs.declared.Proc.{Proc}
use Rattle.wire_types.specs.declared.Reply.{Reply}
use Rattle.wire_types.specs.declared.Status.{Status}
use Rattle.wire_types.specs.Replies.{bare}
use Rattle.wire_types.specs.declared.Status.TheVariants.{Success, NotFound}
use Rattle.wire_types.specs.Said.{is_reserved}
use Rattle.wire_runs.specs.Plan as runs
use Rattle.wire_runs.specs.Plan.{Plan, Event, Kind, kind, kind_at, kinds, process_count, node_of, same_node, admits}
use Rattle.wire_runs.specs.Fences.{is_member}
use Rattle.wire_runs.specs.State.{Answer}
use Rattle.wire_runs.specs.Ends.{calls_of}
use Rattle.wire_runs.specs.Order.{Before}
use Rattle.wire_runs.specs.Puts.{scope_of}
use Rattle.wire_runs.specs.Races.{Delivery, IsOf, Delivers, ComesSurely, IsSettled}
use Rattle.wire_runs.specs.Laws.{plain_end}
use Rattle.wire_runs.specs.Placings.{IsPlacing, IsSettledAnywhere}
use Rattle.wire_runs.specs.PlacingLaws.{IsOneANode, plain_reply}
use Rattle.wire_runs.proofs.Anywhere.{no_node, settled_there, to_process, owner_within}
use Rattle.wire_runs.proofs.Ends.{gives}
use Rattle.wire_runs.proofs.FindingsAnywhere.{placings_are}
use Rattle.wire_runs.proofs.PlacingRuns.{done_alike}
use Rattle.wire_scripts.specs.Process.{Process}
use Rattle.wire_scripts.specs.Reserved.{reserved_reply}
use Rattle.wire_scripts.specs.Scripts.{Scripts, text_at, call_at, calls_in}
use Rattle.wire_scripts.specs.Planned.{reply_of_key, planned_call, planned_process, plan_of}
use Rattle.wire_scripts.specs.Placed.{moved_from, moved, with_second, node_beside, placed}
use Rattle.wire_scripts.proofs.Moved.{on_node, moved_length, as_placing, node_moved, placed_alone}
use Rattle.wire_pattern_laws.specs.Finds.{status_of, found_status, shown_status, FindsNear, near_nothing, near_value, Finds, from_own, from_near, from_far, far_nothing, far_value, SaysWhatItFinds}
use Rattle.wire_pattern_laws.proofs.FindsByOrder.{absent}
use Rattle.wire_pattern_laws.proofs.SmallFinds.{finds_are_said}
use Rattle.wire_pattern_answers.specs.FewPlacings.{asks_now, IsAnsweredWith, IsFoundOutside, FewPlacingsTell, IsOfThree, ThreeStatuses}
use Rattle.wire_pattern_answers.proofs.Calls.{first_kind, kind_there, place_in, same_call, same_place, planned_there}
use Rattle.wire_pattern_answers.proofs.Events.{kinds_are, said_status, end_reached, replied_done, answer_is, done_replied, row_to, row_from}
use Rattle.wire_pattern_answers.proofs.Same.{own_there, near_there, nothing_there, value_there, IsCommitted, brought_is_committed}

alike : (b : Bool) (x y u v : Reply) → x.status ≡ u.status → y.status ≡ v.status → (if b then x else y).status ≡ (if b then u else v).status
alike true x y u v h k = h
alike false x y u v h k = k

-- the status for a reserved key is the same of all processes
pub reserved_alike : (ps qs : List Process) (p q : ℕ) (key : List ℕ) → (reserved_reply ps p key).status ≡ (reserved_reply qs q key).status
reserved_alike ps qs p q key =
    alike (bytes_eq key (codes "PMIX_RANK")) _ _ _ _ refl (alike (bytes_eq key (codes "PMIX_LOCAL_RANK")) _ _ _ _ refl (alike (bytes_eq key (codes "PMIX_NODE_RANK")) _ _ _ _ refl
    (alike (bytes_eq key (codes "PMIX_JOB_SIZE")) _ _ _ _ refl (alike (bytes_eq key (codes "PMIX_HOSTNAME")) _ _ _ _ refl refl))))

key_alike : (s t : Scripts) (owner key : ℕ) → s.keys ≡ t.keys → length s.processes ≡ length t.processes → (reply_of_key s owner key).status ≡ (reply_of_key t owner key).status
key_alike s t owner key keys count =
    ap (λ b. (if b then reserved_reply s.processes owner (text_at s.keys key) else bare NotFound).status) (ap (nat_lt owner) count)
    ∙ alike (nat_lt owner (length t.processes)) (reserved_reply s.processes owner (text_at s.keys key)) (bare NotFound)
    (reserved_reply t.processes owner (text_at t.keys key)) (bare NotFound)
    (ap (λ ks. (reserved_reply s.processes owner (text_at ks key)).status) keys ∙ reserved_alike s.processes t.processes owner owner (text_at t.keys key)) refl

found_three : (b : Bool) (t : Status) → t ≡ found_status b → IsOfThree t
found_three true t e = inl e
found_three false t e = inr (inl e)

shown_three : (b : Bool) (t : Status) → t ≡ shown_status b → IsOfThree t
shown_three true t e = inl e
shown_three false t e = inr (inr e)

-- what a get-now finds is one of three statuses
finds_three : (plan : Plan) (get : Event) (owner key : ℕ) (t : Status) → Finds plan get owner key t → IsOfThree t
finds_three plan get owner key t (from_own e f) = found_three _ t f
finds_three plan get owner key t (from_near ne near (near_nothing none f)) = inr (inl f)
finds_three plan get owner key t (from_near ne near (near_value i put stores l not_before is_put f)) = shown_three _ t f
finds_three plan get owner key t (from_far ne away (far_nothing none f)) = inr (inl f)
finds_three plan get owner key t (from_far ne away (far_value d delivers none f)) = inl f

either_three : (b : Bool) (x y : Reply) → IsOfThree x.status → IsOfThree y.status → IsOfThree (if b then x else y).status
either_three true x y h k = h
either_three false x y h k = k

reserved_three : (ps : List Process) (p : ℕ) (key : List ℕ) → IsOfThree (reserved_reply ps p key).status
reserved_three ps p key =
    either_three (bytes_eq key (codes "PMIX_RANK")) _ _ (inl refl) (either_three (bytes_eq key (codes "PMIX_LOCAL_RANK")) _ _ (inl refl)
    (either_three (bytes_eq key (codes "PMIX_NODE_RANK")) _ _ (inl refl) (either_three (bytes_eq key (codes "PMIX_JOB_SIZE")) _ _ (inl refl)
    (either_three (bytes_eq key (codes "PMIX_HOSTNAME")) _ _ (inl refl) (inr (inl refl))))))

key_three : (s : Scripts) (owner key : ℕ) → IsOfThree (reply_of_key s owner key).status
key_three s owner key =
    either_three (nat_lt owner (length s.processes)) (reserved_reply s.processes owner (text_at s.keys key)) (bare NotFound) (reserved_three s.processes owner (text_at s.keys key)) (inr (inl refl))

its_member : (rank : ℕ) → is_member (rank ∷ []) rank ≡ true
its_member rank = rw (eq-eqb rank rank refl) refl

no_member : (rank m : ℕ) → (rank ≡ m → ⊥) → is_member (rank ∷ []) m ≡ false
no_member rank m ne = rw (ne_eqb rank m ne) refl

-- the node on which a process stands
abbrev pub node_in : Option Process → ℕ
node_in None = 0
node_in (Some process) = process.node

abbrev pub own_nodes : Scripts → ℕ → ℕ
own_nodes s q = node_in (slice_get s.processes q)

moved_itself : (n : ℕ) (ps : List Process) (nodes : ℕ → ℕ) → ((q : ℕ) (process : Process) → slice_get ps q ≡ Some process → nodes (n + q) ≡ process.node) → moved_from n nodes ps ≡ ps
moved_itself n [] nodes on = refl
moved_itself n (process ∷ ps) nodes on =
    let first : n ≡ n + 0 = omega arith in
    let here : nodes n ≡ process.node = ap nodes first ∙ on 0 process refl in
    let later : (q : ℕ) (one : Process) → slice_get ps q ≡ Some one → nodes ((n + 1) + q) ≡ one.node = λ q one is. let e : (n + 1) + q ≡ n + suc q = omega arith in ap nodes e ∙ on (suc q) one is in
    ap (λ m. on_node m process ∷ moved_from (n + 1) nodes ps) here ∙ ap (λ qs. process ∷ qs) (moved_itself (n + 1) ps nodes later)

-- scripts, with each process where it stands
pub itself : (s : Scripts) → s ≡ moved s s.nodes (own_nodes s)
itself s = ap (λ ps. record s { processes = ps }) (sym (moved_itself 0 s.processes (own_nodes s) (λ q process is. ap (own_nodes s) (zero-add q) ∙ ap node_in is)))

-- what a few placings tell
abbrev IsToldByFew : Scripts → ℕ → ℕ → Status → Type 0
IsToldByFew s p c status = IsAnsweredWith s p c status ⊎ (IsAnsweredWith (placed s []) p c status ⊎ ((status ≡ Success) × IsFoundOutside s p c))

-- with each process on a node of its own, whoever is on one's node is oneself
alone_there : (plan : Plan) → IsOneANode plan → (p m : ℕ) → p < process_count plan → m < process_count plan → node_of plan m ≡ node_of plan p → m ≡ p
alone_there plan one p m low_p low_m on = elim (cases_eq m p) [ inl e ↦ e | inr ne ↦ absurd (true≢false (sym (eq-eqb _ _ on) ∙ one m p low_m low_p ne)) ]

module _ (s : Scripts) (everywhere : IsSettledAnywhere (plan_of s)) (p c : ℕ) (owner : Proc) (key : ℕ) (is : call_at s.processes p c ≡ Some (GetNow owner key)) where
  abbrev x : Event
  x = record { proc = p; at = place_in s p c }

  module _ (names : List (List ℕ)) (nodes : ℕ → ℕ) where
    abbrev there : Scripts
    there = moved s names nodes

    abbrev other : Plan
    other = plan_of there

    placing : IsPlacing (plan_of s) other
    placing = as_placing s names nodes

    settled : IsSettled other
    settled = settled_there (plan_of s) other placing everywhere

    count : process_count other ≡ length s.processes
    count = length-map there.processes (planned_process there) ∙ moved_length nodes 0 s.processes

    call_there : call_at there.processes p c ≡ Some (GetNow owner key)
    call_there = same_call s names nodes p c ∙ is

    kind_is : kind other x ≡ first_kind (planned_call there (GetNow owner key))
    unfolding kind_at
    kind_is =
        ap (slice_get (kinds other p)) (sym (same_place s names nodes p c)) ∙ ap (λ ks. slice_get ks (place_in there p c)) (kinds_are other p)
        ∙ kind_there (calls_of other p) c (planned_call there (GetNow owner key)) (planned_there there p c (GetNow owner key) call_there)

  process_within : p < length s.processes
  process_within = go (slice_get s.processes p) refl
    where
      go : (o : Option Process) → slice_get s.processes p ≡ o → p < length s.processes
      go None e = absurd (none_there (sym (ap (λ o. slice_get (calls_in o) c) e) ∙ is))
        where
          none_there : slice_get {X = Call} [] c ≡ Some (GetNow owner key) → ⊥
          none_there h = cc
      go (Some process) e = slice_get_within s.processes p process e

  module _ (k : (names : List (List ℕ)) (nodes : ℕ → ℕ) → Kind) (kind_k : (names : List (List ℕ)) (nodes : ℕ → ℕ) → kind (other names nodes) x ≡ Some (k names nodes))
      (one : (names : List (List ℕ)) (nodes : ℕ → ℕ) → gives (Some (k names nodes)) ≡ 1) (names : List (List ℕ)) (nodes : ℕ → ℕ) where
    within : p < process_count (other names nodes)
    within = let n = count names nodes in let w = process_within in omega (arith, n, w)

    -- the answer to its event
    to_event : (status : Status) → IsAnsweredWith (there names nodes) p c status → (a : Answer) × (plain_reply (other names nodes) x ≡ Some a) × (status_of a ≡ status)
    to_event status h =
        let r = row_to (other names nodes) (settled names nodes) p c (place_in s p c) (k names nodes) within (sym (same_place s names nodes p c)) (kind_k names nodes) (one names nodes) h.reply h.is in
        (r.0, r.1, said_status (other names nodes) r.0 h.reply r.2 ∙ h.has)

    from_event : (a : Answer) (status : Status) → plain_reply (other names nodes) x ≡ Some a → status_of a ≡ status → IsAnsweredWith (there names nodes) p c status
    from_event a status at has =
        let r = row_from (other names nodes) (settled names nodes) p c (place_in s p c) (k names nodes) within (sym (same_place s names nodes p c)) (kind_k names nodes) (one names nodes) a at in
        record { reply = r.0; is = r.2; has = sym (said_status (other names nodes) a r.0 r.1) ∙ has }

    -- it is answered on other nodes too
    answered_too : (a : Answer) → plain_reply (other names nodes) x ≡ Some a → (names' : List (List ℕ)) (nodes' : ℕ → ℕ) → (b : Answer) × (plain_reply (other names' nodes') x ≡ Some b)
    answered_too a at names' nodes' =
        let d = replied_done (other names nodes) (settled names nodes) x a at in
        let here = done_alike (plan_of s) (other names nodes) (placing names nodes) p in
        let there_too = done_alike (plan_of s) (other names' nodes') (placing names' nodes') p in
        done_replied (other names' nodes') (settled names' nodes') x (omega (arith, d, here, there_too))

  -- a get-now of a reserved key
  module _ (reserved : is_reserved (text_at s.keys key) ≡ true) (names : List (List ℕ)) (nodes : ℕ → ℕ) (status : Status) (h : IsAnsweredWith (there names nodes) p c status) where
    abbrev fixed : (names : List (List ℕ)) (nodes : ℕ → ℕ) → Kind
    fixed names nodes = runs.Fixed (reply_of_key (there names nodes) owner.number key)

    kind_fixed : (names : List (List ℕ)) (nodes : ℕ → ℕ) → kind (other names nodes) x ≡ Some (fixed names nodes)
    kind_fixed names nodes = kind_is names nodes ∙ ap first_kind (cond-true _ _ _ reserved)

    reserved_tells : IsAnsweredWith (placed s []) p c status
    reserved_tells =
        let a = to_event fixed kind_fixed (λ n m. refl) names nodes status h in
        let b = answered_too fixed kind_fixed (λ n m. refl) names nodes a.0 a.1 (with_second s.nodes) (node_beside []) in
        let said_a = answer_is (other names nodes) (settled names nodes) x a.0 (fixed names nodes) (kind_fixed names nodes) a.1 in
        let said_b = answer_is (other (with_second s.nodes) (node_beside [])) (settled (with_second s.nodes) (node_beside [])) x b.0 (fixed (with_second s.nodes) (node_beside []))
        (kind_fixed (with_second s.nodes) (node_beside [])) b.1 in
        from_event fixed kind_fixed (λ n m. refl) (with_second s.nodes) (node_beside []) b.0 status b.1
        (ap status_of said_b.1
        ∙ key_alike (there (with_second s.nodes) (node_beside [])) (there names nodes) owner.number key refl
        (moved_length (node_beside []) 0 s.processes ∙ sym (moved_length nodes 0 s.processes))
        ∙ sym (ap status_of said_a.1) ∙ a.2)

    reserved_one : IsOfThree status
    reserved_one =
        let a = to_event fixed kind_fixed (λ n m. refl) names nodes status h in
        let said_a = answer_is (other names nodes) (settled names nodes) x a.0 (fixed names nodes) (kind_fixed names nodes) a.1 in
        subst IsOfThree (sym (ap status_of said_a.1) ∙ a.2) (key_three (there names nodes) owner.number key)

  -- a get-now of another key
  module _ (plain : is_reserved (text_at s.keys key) ≡ false) where
    abbrev asked : (names : List (List ℕ)) (nodes : ℕ → ℕ) → Kind
    asked names nodes = runs.GetNow owner.number key

    kind_asked : (names : List (List ℕ)) (nodes : ℕ → ℕ) → kind (other names nodes) x ≡ Some (asked names nodes)
    kind_asked names nodes = kind_is names nodes ∙ ap first_kind (cond-false _ _ _ plain)

    says : (names : List (List ℕ)) (nodes : ℕ → ℕ) → SaysWhatItFinds (other names nodes) x owner.number key
    says names nodes = finds_are_said (other names nodes) x owner.number key (settled names nodes) (kind_asked names nodes)

    same : (names : List (List ℕ)) (nodes : ℕ → ℕ) (names' : List (List ℕ)) (nodes' : ℕ → ℕ) → IsPlacing (other names nodes) (other names' nodes')
    same names nodes names' nodes' =
        (placings_are (other names nodes)).again (plan_of s) (other names' nodes') ((placings_are (plan_of s)).back (other names nodes) (placing names nodes)) (placing names' nodes')

    -- it is answered on other nodes with what it finds there
    answered_so : (names : List (List ℕ)) (nodes : ℕ → ℕ) (a : Answer) → plain_reply (other names nodes) x ≡ Some a → (names' : List (List ℕ)) (nodes' : ℕ → ℕ) (t : Status)
        → Finds (other names' nodes') x owner.number key t → IsAnsweredWith (there names' nodes') p c t
    answered_so names nodes a at names' nodes' t finds =
        let b = answered_too asked kind_asked (λ n m. refl) names nodes a at names' nodes' in
        let said_b = (says names' nodes').answered (plain_end (other names' nodes')) b.0 (end_reached (other names' nodes') (settled names' nodes')) b.1 in
        from_event asked kind_asked (λ n m. refl) names' nodes' b.0 t b.1 ((says names' nodes').one said_b.0 (status_of b.0) t said_b.1 finds)

    module _ (ranks : List ℕ) where
      abbrev few : Plan
      few = other (with_second s.nodes) (node_beside ranks)

      few_count : process_count few ≡ length s.processes
      few_count = count (with_second s.nodes) (node_beside ranks)

      beside : (q r : ℕ) → q < length s.processes → r < length s.processes → same_node few q r ≡ beq (is_member ranks q) (is_member ranks r)
      beside q r low_q low_r = let n = few_count in placed_alone s ranks q r (omega (arith, n, low_q)) (omega (arith, n, low_r))

      node_is : (q : ℕ) → q < length s.processes → node_of few q ≡ node_beside ranks q
      node_is q low = node_moved s (with_second s.nodes) (node_beside ranks) q low

      -- whoever isn't there is on the first node
      absent_node : (q : ℕ) → length s.processes ≤ q → node_of few q ≡ 0
      absent_node q past = let n = few_count in no_node few q (omega (arith, n, past))

    all_together : (q : ℕ) → node_of (few []) q ≡ 0
    all_together q = elim (cases_lt q (length s.processes)) [ inl low ↦ node_is [] q low | inr past ↦ absent_node [] q past ]

    module _ (names : List (List ℕ)) (nodes : ℕ → ℕ) (a : Answer) (at : plain_reply (other names nodes) x ≡ Some a) (one : IsOneANode (plan_of s)) where
      abbrev status : Status
      status = status_of a

      abbrev here : Plan
      here = other s.nodes (own_nodes s)

      one_here : IsOneANode here
      one_here = subst (λ t. IsOneANode (plan_of t)) (itself s) one

      found_here : Finds here x owner.number key status → IsAnsweredWith s p c status
      found_here finds = subst (λ t. IsAnsweredWith t p c status) (sym (itself s)) (answered_so names nodes a at s.nodes (own_nodes s) status finds)

      found_together : (t : Status) → Finds (few []) x owner.number key t → IsAnsweredWith (placed s []) p c t
      found_together t finds = answered_so names nodes a at (with_second s.nodes) (node_beside []) t finds

      near_together : (t : Status) → (p ≡ owner.number → ⊥) → FindsNear (other names nodes) x owner.number key t → IsAnsweredWith (placed s []) p c t
      near_together t ne f =
          found_together t (near_there (other names nodes) (few []) (same names nodes (with_second s.nodes) (node_beside [])) x owner.number key t ne
          (eq-eqb _ _ (all_together owner.number ∙ sym (all_together p))) f)

      -- what comes to no process of its node comes to none alone
      nothing_here : (p ≡ owner.number → ⊥) → (ComesSurely (other names nodes) owner.number key (node_of (other names nodes) p) x → ⊥) → status ≡ NotFound → Finds here x owner.number key status
      nothing_here ne none f =
          let n = count s.nodes (own_nodes s) in
          let w = process_within in
          elim (cases_lt owner.number (process_count here)) [
            | inl low ↦ nothing_there (other names nodes) here (same names nodes s.nodes (own_nodes s)) x owner.number key status ne
                (one_here owner.number p low (omega (arith, n, w)) (λ e. ne (sym e))) (λ m low_m on. alone_there here one_here p m (omega (arith, n, w)) low_m on) none f
            | inr past ↦ absent here x owner.number key status ne past f
          ]

      -- what some other process brings comes to all but the owner
      value_away : (ne : p ≡ owner.number → ⊥) (away : same_node (other names nodes) owner.number p ≡ false) (d : Delivery) → Delivers (other names nodes) owner.number key (node_of (other names nodes) p) d
          → ((z : Event) → IsOf (other names nodes) d z → Before (other names nodes) x z → ⊥) → status ≡ Success
          → owner.number < length s.processes → Finds (few (owner.number ∷ [])) x owner.number key status
      value_away ne away d delivers none f low =
          let not_owner : owner.number ≡ p → ⊥ = λ e. ne (sym e) in
          value_there (other names nodes) (few (owner.number ∷ [])) (same names nodes (with_second s.nodes) (node_beside (owner.number ∷ []))) x owner.number key status ne
          (beside (owner.number ∷ []) owner.number p low process_within
          ∙ ap (λ b. beq b (is_member (owner.number ∷ []) p)) (its_member owner.number) ∙ ap (beq true) (no_member owner.number p not_owner))
          away
          (λ m low_m other_one.
          let n = few_count (owner.number ∷ []) in
          eqb-true _ _ (beside (owner.number ∷ []) m p (omega (arith, n, low_m)) process_within
          ∙ ap (λ b. beq b (is_member (owner.number ∷ []) p)) (no_member owner.number m (λ e. other_one (sym e))) ∙ ap (beq false) (no_member owner.number p not_owner)))
          d delivers none f

      owner_low : (away : same_node (other names nodes) owner.number p ≡ false) (d : Delivery) → Delivers (other names nodes) owner.number key (node_of (other names nodes) p) d → owner.number < length s.processes
      owner_low away d delivers =
          let m = to_process (other names nodes) owner.number key (node_of (other names nodes) p) d (λ e. true≢false (sym (eq-eqb _ _ e) ∙ away)) delivers in
          let within_other = owner_within (other names nodes) owner.number key m.0 d m.1 in
          let n_other = count names nodes in
          omega (arith, within_other, n_other)

      tells : Finds (other names nodes) x owner.number key status → IsToldByFew s p c status
      tells (from_own e f) = inr (inl (found_together status (own_there (other names nodes) (few []) (same names nodes (with_second s.nodes) (node_beside [])) x owner.number key status e f)))
      tells (from_near ne near f) = inr (inl (near_together status ne f))
      tells (from_far ne away (far_nothing none f)) = inl (found_here (nothing_here ne none f))
      tells (from_far ne away (far_value d delivers none f)) = shown (admits (scope_of (other names nodes) owner.number stands.put) true) refl
        where
          stands : IsCommitted (other names nodes) x owner.number key
          stands = brought_is_committed (other names nodes) (settled names nodes) x owner.number key away d delivers none

          low : owner.number < length s.processes
          low = owner_low away d delivers

          near_is : IsAnsweredWith (placed s []) p c (shown_status (admits (scope_of (other names nodes) owner.number stands.put) true))
          near_is = near_together _ ne (near_value stands.at stands.put stands.stores stands.is_live stands.not_before stands.put_is refl)

          shown : (b : Bool) → admits (scope_of (other names nodes) owner.number stands.put) true ≡ b → IsToldByFew s p c status
          shown true is = inr (inl (subst (IsAnsweredWith (placed s []) p c) (ap shown_status is ∙ sym f) near_is))
          shown false is = inr (inr (
            f,
            record {
              outside = subst (IsAnsweredWith (placed s []) p c) (ap shown_status is) near_is;
              rank = owner.number;
              within = low;
              found = subst (IsAnsweredWith (placed s (owner.number ∷ [])) p c) f
                  (answered_so names nodes a at (with_second s.nodes) (node_beside (owner.number ∷ [])) status (value_away ne away d delivers none f low));
            },
          ))

    plain_tells : (names : List (List ℕ)) (nodes : ℕ → ℕ) → IsOneANode (plan_of s) → (status : Status) → IsAnsweredWith (there names nodes) p c status → IsToldByFew s p c status
    plain_tells names nodes one status h =
        let a = to_event asked kind_asked (λ n m. refl) names nodes status h in
        let finds = ((says names nodes).answered (plain_end (other names nodes)) a.0 (end_reached (other names nodes) (settled names nodes)) a.1).1 in
        subst (IsToldByFew s p c) a.2 (tells names nodes a.0 a.1 one finds)

    plain_one : (names : List (List ℕ)) (nodes : ℕ → ℕ) (status : Status) → IsAnsweredWith (there names nodes) p c status → IsOfThree status
    plain_one names nodes status h =
        let a = to_event asked kind_asked (λ n m. refl) names nodes status h in
        subst IsOfThree a.2 (finds_three (other names nodes) x owner.number key (status_of a.0)
        ((says names nodes).answered (plain_end (other names nodes)) a.0 (end_reached (other names nodes) (settled names nodes)) a.1).1)

  pub call_one : (names : List (List ℕ)) (nodes : ℕ → ℕ) (status : Status) → IsAnsweredWith (there names nodes) p c status → IsOfThree status
  call_one names nodes status h = elim (cases_Bool (is_reserved (text_at s.keys key))) [
    | inl reserved ↦ reserved_one reserved names nodes status h
    | inr plain ↦ plain_one plain names nodes status h
  ]

  pub call_tells : (names : List (List ℕ)) (nodes : ℕ → ℕ) → IsOneANode (plan_of s) → (status : Status) → IsAnsweredWith (there names nodes) p c status → IsToldByFew s p c status
  call_tells names nodes one status h = elim (cases_Bool (is_reserved (text_at s.keys key))) [
    | inl reserved ↦ inr (inl (reserved_tells reserved names nodes status h))
    | inr plain ↦ plain_tells plain names nodes one status h
  ]

-- a call that asks is a get-now
get_now : (o : Option Call) → asks_now o ≡ true → (owner : Proc) × (key : ℕ) × (o ≡ Some (GetNow owner key))
get_now None no_call = absurd (true≢false (sym no_call))
get_now (Some (GetNow owner key)) yes_ = (owner, key, refl)
get_now (Some (Put scope key value)) other_call = absurd (true≢false (sym other_call))
get_now (Some Commit) other_call = absurd (true≢false (sym other_call))
get_now (Some (Fence set collect)) other_call = absurd (true≢false (sym other_call))
get_now (Some (Get owner key)) other_call = absurd (true≢false (sym other_call))
get_now (Some (Publish name value)) other_call = absurd (true≢false (sym other_call))
get_now (Some (Lookup name)) other_call = absurd (true≢false (sym other_call))
get_now (Some (LookupWait name)) other_call = absurd (true≢false (sym other_call))
get_now (Some (Unpublish name)) other_call = absurd (true≢false (sym other_call))
get_now (Some UnpublishAll) other_call = absurd (true≢false (sym other_call))

pub few_placings_tell : FewPlacingsTell
few_placings_tell s everywhere one names nodes p c asks status h =
    let g = get_now (call_at s.processes p c) asks in call_tells s everywhere p c g.0 g.1 g.2 names nodes one status h

pub three_statuses : ThreeStatuses
three_statuses s everywhere names nodes p c asks status h =
    let g = get_now (call_at s.processes p c) asks in call_one s everywhere p c g.0 g.1 g.2 names nodes status h
