-- Where a run of a library on a portable plan can't go on, neither can the interleaving.
use Rattle.std.proofs.Common.{◌≡◌, ℕ, suc, ◌<◌, List, true, false, ◌==◌, Option, Some, None, is_some, inl, inr, refl, sym, ap, ◌∙◌, subst, arith, eq-eqb, ne_eqb}
use Rattle.std.proofs.lemmas.Bool.{cond-true, cond-false, cases_eq, cases_Bool, false_from_ne_true, true≢false}
use Rattle.std.proofs.lemmas.Option.{same_Some}
use Rattle.wire_runs.specs.Plan.{Plan, Kind, Put, Commit, Arrive, Leave, Get, GetNow, Publish, Lookup, LookupWait, Unpublish, UnpublishAll, Fixed, kind, kind_at, node_of, same_node, admits, Event}
use Rattle.wire_runs.specs.State.{State, next_event, next_kind}
use Rattle.wire_runs.specs.Puts.{stored, scope_of}
use Rattle.wire_runs.specs.Sight.{get_sees}
use Rattle.wire_runs.specs.Step.{is_seen, may_do, IsEnd}
use Rattle.wire_runs.specs.Order.{Stores}
use Rattle.wire_runs.proofs.Basics.{stored_stays, stores_commit}
use Rattle.wire_runs.proofs.Due.{has_event, held_seen, served_seen}
use Rattle.wire_runs.proofs.Puts.{first_stores}
use Rattle.wire_library_laws.specs.Library.{Family, Words, Moment, told, completed, IsOpen, OwesGet, own_put, near, far, Owes, IsLibraryEnd}
use Rattle.wire_library_laws.specs.Portable.{IsGetOf, Lacks, IsThereFirst, IsPortable}
use Rattle.wire_library_laws.specs.Promised.{EndsByRules, LibraryOneEnd}
use Rattle.wire_library_laws.proofs.Past.{AllByRules, newest, sound, asked, all_before, done_first, done_since, event_since, before_since}
use Rattle.wire_library_laws.proofs.Gets.{same_key, admitted, there_now}
use Rattle.wire_library_laws.proofs.Runs.{plain_so_far, keeps, all_by_rules}

module _ (family : Family) (words : Words) (plan : Plan) (portable : IsPortable family words plan) (h : List Moment) (all : AllByRules plan h) where
  abbrev s : State
  s = told plan h

  some_of : (o : Option ℕ) → is_some o ≡ true → (u : ℕ) × (o ≡ Some u)
  some_of None t = absurd (true≢false (sym t))
  some_of (Some u) t = (u, refl)

  apart_other : (owner q : ℕ) → same_node plan owner q ≡ false → q ≡ owner → ⊥
  apart_other owner q away e = true≢false (sym (eq-eqb (node_of plan owner) (node_of plan q) (ap (node_of plan) (sym e))) ∙ away)

  -- where a get of one key of the owner is open and that key is there, so are those of all open gets of the node
  module _ (p owner key : ℕ) (p_before : List Moment) (p_opened : IsOpen plan p_before h p) (p_is : next_kind plan s p ≡ Some (Get owner key))
      (here : is_some (stored plan owner key (s.done owner)) ≡ true) (p_away : same_node plan owner p ≡ false)
      (other other_key : ℕ) (before : List Moment) (opened : IsOpen plan before h other) (there : node_of plan other ≡ node_of plan p)
      (was : next_kind plan (told plan before) other ≡ Some (Get owner other_key)) where
    abbrev g : Event
    g = next_event s p

    abbrev mate : Event
    mate = next_event s other

    away : same_node plan owner other ≡ false
    away = ap (λ n. node_of plan owner == n) there ∙ p_away

    mate_is : kind plan mate ≡ Some (Get owner other_key)
    mate_is = ap (kind_at plan other) opened.unanswered ∙ was

    first : AllByRules plan before
    first = all_before plan opened all

    p_first : AllByRules plan p_before
    p_first = all_before plan p_opened all

    get_of : IsGetOf plan false owner key g
    get_of = record { is = p_is; other = apart_other owner p p_away; where_it_is = p_away; asked = asked plan h all g refl }

    mate_of : IsGetOf plan false owner other_key mate
    mate_of = record { is = mate_is; other = apart_other owner other away; where_it_is = away; asked = asked plan h all mate refl }

    -- a commit that brings this key and not that of the mate
    abbrev OneAlone : ℕ → Type 0
    OneAlone i = Lacks plan owner other_key (record { proc = owner; at = i }) × (is_some (stored plan owner key (suc i)) ≡ true)

    one_is_there : (z : Event) (z_before : List Moment) → IsOpen plan z_before h z.proc → AllByRules plan z_before → s.done z.proc ≡ z.at → IsThereFirst plan owner other_key z →
        is_some (stored plan owner other_key (s.done owner)) ≡ true
    one_is_there z z_before z_opened z_first next t =
        there_now plan h all owner other_key t.event t.its t.there
        (event_since plan (before_since z_opened.asked) t.event (done_first plan z_before z_first t.event z (sym z_opened.unanswered ∙ next) t.first))

    alone : (i : ℕ) → OneAlone i → is_some (stored plan owner other_key (s.done owner)) ≡ true
    alone i both = elim (cases_Bool family.at_once) [
      | inl t ↦ one_is_there mate before opened first refl ((portable.far mate owner other_key mate_of).first t (record { proc = owner; at = i }) both.0)
      | inr n ↦ elim (cases_eq other p) [
        | inl e ↦
            (let same : Get owner other_key ≡ Get owner key = same_Some _ _ (sym mate_is ∙ ap (λ r. kind_at plan r (s.done r)) e ∙ p_is) in
            subst (λ k. is_some (stored plan owner k (s.done owner)) ≡ true) (sym (same_key same)) here)
        | inr ne ↦
            one_is_there g p_before p_opened p_first refl (portable.mates mate g owner other_key key mate_of get_of ne there
            (λ mate_first. let d = done_first plan p_before p_first mate g (sym p_opened.unanswered) mate_first in let up = done_since plan (before_since p_opened.asked) other in omega (arith, d, up))
            (λ g_first. let d = done_first plan before first g mate (sym opened.unanswered) g_first in let up = done_since plan (before_since opened.asked) p in omega (arith, d, up))
            (record { proc = owner; at = i }) both.0 (λ _. both.1))
      ]
    ]

    its_key : is_some (stored plan owner other_key (s.done owner)) ≡ true
    its_key = go (first_stores plan owner key (s.done owner) here)
      where
        go : (i : ℕ) × (i < s.done owner) × Stores plan (record { proc = owner; at = i }) key → is_some (stored plan owner other_key (s.done owner)) ≡ true
        go c = by_cases (stored plan owner other_key (suc c.0)) refl
          where
            by_cases : (o : Option ℕ) → stored plan owner other_key (suc c.0) ≡ o → is_some (stored plan owner other_key (s.done owner)) ≡ true
            by_cases (Some v) e = let l = c.1 in stored_stays plan owner other_key (suc c.0) (s.done owner) (omega (arith, l)) (ap is_some e)
            by_cases None e =
                alone c.0 (
                  record { is = stores_commit plan (record { proc = owner; at = c.0 }) key c.2; its = refl; is_live = (sound plan h all).live_done (record { proc = owner; at = c.0 }) c.1; missing = e },
                  c.2.something_after,
                )

    pub mate_is_there : (v : ℕ) × (stored plan owner other_key (s.done owner) ≡ Some v) × (admits (scope_of plan owner v) false ≡ true)
    mate_is_there =
        let v = some_of (stored plan owner other_key (s.done owner)) its_key in
        (v.0, v.1, admitted plan h all owner other_key v.0 false (portable.far mate owner other_key mate_of).scope v.1)

  -- a get that is enabled is owed an answer
  owes_get : (p owner key : ℕ) → (before : List Moment) × IsOpen plan before h p → next_kind plan s p ≡ Some (Get owner key) → is_seen (get_sees plan s.done p (s.done p) owner key) ≡ true → OwesGet plan h p owner key
  owes_get p owner key p_open is seen = elim (cases_eq p owner) [
    | inl e ↦ own_put e (held_seen _ (sym (ap is_seen (cond-true _ _ _ (eq-eqb p owner e))) ∙ seen))
    | inr ne ↦ other ne (some_of (stored plan owner key (s.done owner)) (served_seen plan owner _ _ (sym (ap is_seen (cond-false _ _ _ (ne_eqb p owner ne))) ∙ seen)))
  ]
    where
      other : (p ≡ owner → ⊥) → (u : ℕ) × (stored plan owner key (s.done owner) ≡ Some u) → OwesGet plan h p owner key
      other ne u = elim (cases_Bool (same_node plan owner p)) [
        | inl here ↦
            near u.0 ne here u.1 (admitted plan h all owner key u.0 true (portable.near (next_event (told plan h) p) owner key
            (record { is = is; other = ne; where_it_is = here; asked = asked plan h all (next_event (told plan h) p) refl })).scope u.1)
        | inr away ↦
            far u.0 away u.1 (admitted plan h all owner key u.0 false (portable.far (next_event (told plan h) p) owner key
            (record { is = is; other = ne; where_it_is = away; asked = asked plan h all (next_event (told plan h) p) refl })).scope u.1)
            (λ mate mate_key before opened there is_mate.
            mate_is_there p owner key p_open.0 p_open.1 is (ap is_some u.1) away mate mate_key before opened there is_mate)
      ]

  owes : (p : ℕ) (k : Kind) → (before : List Moment) × IsOpen plan before h p → next_kind plan s p ≡ Some k → may_do plan s (next_event s p) (Some k) ≡ true → Owes family words plan h p k
  owes p (Get owner key) p_open is may = owes_get p owner key p_open is may
  owes p (Leave members) p_open is may = (plain_so_far family words plan portable h all members _, may)
  owes p (LookupWait name) p_open is may =
      (keeps family words plan portable h all p name (LookupWait name) is (eq-eqb name name refl), may)
  owes p (Put key scope) p_open is may = tt
  owes p Commit p_open is may = tt
  owes p (Arrive members collect) p_open is may = tt
  owes p (GetNow owner key) p_open is may = tt
  owes p (Publish name) p_open is may = tt
  owes p (Lookup name) p_open is may = tt
  owes p (Unpublish name) p_open is may = tt
  owes p UnpublishAll p_open is may = tt
  owes p (Fixed r) p_open is may = portable.reserved (next_event s p) (r, is) (asked plan h all (next_event s p) refl)

  pub stuck : IsLibraryEnd family words plan h → IsEnd plan s
  stuck ends p = false_from_ne_true _ (λ enabled.
      let e = has_event plan s p (next_kind plan s p) refl enabled in
      (ends p e.0 e.1).1 (owes p e.0 (ends p e.0 e.1).0 e.1 (sym (ap (may_do plan s (next_event s p)) e.1) ∙ enabled)))

pub ends_by_rules : EndsByRules
ends_by_rules family words plan h portable run_ ends =
    let all = all_by_rules family words plan portable h run_ in
    subst (IsEnd plan) (sym (newest plan h all).same) (stuck family words plan portable h all ends)

pub library_one_end : LibraryOneEnd
library_one_end family words plan h one portable run_ ends =
    let all = all_by_rules family words plan portable h run_ in
    let by = newest plan h all in
    sym by.same ∙ one (completed h) by.is_run (ends_by_rules family words plan h portable run_ ends)
