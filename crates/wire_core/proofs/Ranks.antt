-- What a core reads of its ranks is what the state says.
use Rattle.std.proofs.Common.{◌≡◌, ◌≢◌, ◌∙◌, ap, sym, refl, ℕ, zero, suc, ◌≤◌, List, [], ◌∷◌, length, Bool, true, false, cond, Option, Some, None, arith, inl, inr, eq-eqb}
use Rattle.std.specs.Prelude.{option_map, slice_get, is_some, not, IsTrue, ◌↔◌, ◌==◌}
use Rattle.std.proofs.lemmas.Bool.{cond-true, cond-false, cases_Bool, true≢false, false_from_ne_true}
use Rattle.std.proofs.lemmas.Option.{slice_get_past}
use Rattle.wire_runs.specs.Plan.{Plan, admits, kinds, process_kinds, event_count, process_count, kind_at, node_of, same_node}
use Rattle.wire_runs.specs.Puts.{own, stored, stored_with, scope_of}
use Rattle.wire_types.specs.declared.CallAt.{CallAt}
use Rattle.wire_store.specs.declared.Seen.{Seen}
use Rattle.wire_store.specs.declared.Seen.TheVariants as seen
use Rattle.wire_store.specs.Kept.{last_put, last_stored, last_stored_before, seen as store_shows}
use Rattle.wire_store.specs.Told.{seen_put}
use Rattle.wire_store.proofs.Told.{store_tells}
use Rattle.wire_runs.specs.State.{State, start}
use Rattle.wire_runs.specs.Sight.{Sight, Nothing, Outside, Shown, held, served, for_others, delivered, greater, kept, get_now_sees}
use Rattle.wire_runs.specs.Step.{IsInterleaving, run}
use Rattle.wire_runs.specs.Step.{IsEnd}
use Rattle.wire_runs.specs.PlainRun.{lowest}
use Rattle.wire_runs.proofs.Due.{reachable_sound}
use Rattle.wire_runs.proofs.PlainRun.{enabled_within, lowest_enabled, none_enabled}
use Rattle.wire_types.specs.declared.Proc.{Proc}
use Rattle.wire_core.specs.Ranks.{calls_at, IsRankOf}
use Rattle.wire_core.specs.Seeing.{seen_as, brought_of, is_something, reply_to}
use Rattle.wire_runs.specs.Ends.{given}
use Rattle.wire_runs.specs.Step.{sight_reply}
use Rattle.wire_runs.proofs.Basics.{event_past}
use Rattle.wire_core.specs.Met.{stored_at}
use Rattle.wire_core.specs.declared.rank.Rank.{Rank}

-- who isn't of the plan has done nothing
pub done_past : (plan : Plan) (w : List ℕ) (p : ℕ) → IsInterleaving plan start w → process_count plan ≤ p → (run plan w).done p ≡ 0
unfolding event_count kinds
done_past plan w p legal past =
    let within = (reachable_sound plan (run plan w) (w, legal, refl)).within p in
    let none : length (process_kinds (slice_get plan.processes p)) ≡ 0 = ap (λ o. length (process_kinds o)) (slice_get_past plan.processes p past) in
    omega (arith, within, none)

-- the reply to what is seen
pub seen_given : (plan : Plan) (owner : ℕ) (sight : Sight) → given plan (sight_reply owner sight) ≡ reply_to (seen_as plan owner sight) ∷ []
seen_given plan owner Nothing = refl
seen_given plan owner Outside = refl
seen_given plan owner (Shown put) = refl

-- something is shown where something was held
pub held_something : (plan : Plan) (p : ℕ) (o : Option ℕ) → is_something (seen_as plan p (held o)) ≡ is_some o
held_something plan p None = refl
held_something plan p (Some put) = refl

-- has stored nothing
stored_past : (plan : Plan) (p key n : ℕ) → process_count plan ≤ p → stored plan p key n ≡ None
unfolding event_count kinds
stored_past plan p key zero past = refl
stored_past plan p key (suc n) past =
    let none : event_count plan p ≡ 0 = ap (λ o. length (process_kinds o)) (slice_get_past plan.processes p past) in
    ap (stored_with (own plan p key n) (stored plan p key n)) (event_past plan p n (omega (arith, none))) ∙ stored_past plan p key n past

stored_at_past : (plan : Plan) (p key : ℕ) (o : Option ℕ) → process_count plan ≤ p → stored_at plan p key o ≡ None
stored_at_past plan p key None past = refl
stored_at_past plan p key (Some n) past = stored_past plan p key n past

-- and shows nothing
pub now_past : (plan : Plan) (w : List ℕ) (q i p key : ℕ) (count : ℕ → Option ℕ) → ((node : ℕ) → node_of plan p ≢ node → stored_at plan p key (count node) ≡ kept plan (run plan w) p key node) →
    IsInterleaving plan start w → process_count plan ≤ p → (q == p) ≡ false → seen.Nothing ≡ seen_as plan p (get_now_sees plan (run plan w) q i p key)
unfolding event_count kinds
now_past plan w q i p key count told legal past other = elim (cases_Bool (same_node plan p q)) [
  | inl t ↦ sym (ap (seen_as plan p) (cond-false _ _ _ other ∙ cond-true _ _ _ t) ∙ ap (λ o. seen_as plan p (served plan p true o)) (stored_past plan p key ((run plan w).done p) past))
  | inr f ↦ sym (ap (seen_as plan p) (cond-false _ _ _ other ∙ cond-false _ _ _ f) ∙ ap (λ o. seen_as plan p (held o)) (ap (λ o. greater o (kept plan (run plan w) p key (node_of plan q)))
      (ap (λ n. for_others plan p (delivered plan (run plan w).done p (node_of plan q) key n)) none)
      ∙ ap (greater None) (sym (told (node_of plan q) (λ e. true≢false (sym (eq-eqb _ _ e) ∙ f))) ∙ stored_at_past plan p key (count (node_of plan q)) past)))
]
  where
    none : event_count plan p ≡ 0
    none = ap (λ o. length (process_kinds o)) (slice_get_past plan.processes p past)

-- what a look-up of one's own put says
abbrev pub own_found : Option CallAt → Seen
own_found None = seen.Nothing
own_found (Some call) = seen.Value call

held_shown : (plan : Plan) (p : ℕ) (o : Option ℕ) → own_found (option_map (calls_at plan p) o) ≡ seen_as plan p (held o)
held_shown plan p None = refl
held_shown plan p (Some put) = refl

pub own_shown : (plan : Plan) (s : State) (p key : ℕ) (rank : Rank) → IsRankOf plan s p rank →
    own_found (option_map (λ put. put.call) (last_put key rank.store.puts)) ≡ seen_as plan p (held (own plan p key (s.done p)))
own_shown plan s p key rank told =
    rw told.puts
    (ap own_found (store_tells (kind_at plan p) (calls_at plan p) key (s.done p)).own ∙ held_shown plan p (own plan p key (s.done p)))

served_shown : (plan : Plan) (p : ℕ) (same : Bool) (o : Option ℕ) → seen_put (kind_at plan p) (calls_at plan p) same o ≡ seen_as plan p (served plan p same o)
served_shown plan p same None = refl
served_shown plan p same (Some put) = go (admits (scope_of plan p put) same)
  where
    go : (b : Bool) → cond b (seen.Value (calls_at plan p put)) seen.Outside ≡ seen_as plan p (cond b (Shown put) Outside)
    go true = refl
    go false = refl

pub stored_shown : (plan : Plan) (s : State) (p key : ℕ) (same : Bool) (rank : Rank) → IsRankOf plan s p rank →
    store_shows same (last_stored key rank.store.puts) ≡ seen_as plan p (served plan p same (stored plan p key (s.done p)))
stored_shown plan s p key same rank told =
    rw told.puts
    ((store_tells (kind_at plan p) (calls_at plan p) key (s.done p)).others same ∙ served_shown plan p same (stored plan p key (s.done p)))

-- what another node is shown of what was so before an event
pub before_shown : (plan : Plan) (s : State) (p key at : ℕ) (rank : Rank) → IsRankOf plan s p rank → at ≤ s.done p →
    brought_of (store_shows false (last_stored_before key at rank.store.puts)) ≡ seen_as plan p (held (for_others plan p (stored plan p key at)))
before_shown plan s p key at rank told le =
    rw told.puts
    (ap brought_of ((store_tells (kind_at plan p) (calls_at plan p) key (s.done p)).before at le) ∙ go (stored plan p key at))
  where
    either : (b : Bool) (put : ℕ) → brought_of (cond b (seen.Value (calls_at plan p put)) seen.Outside) ≡ seen_as plan p (held (cond b (Some put) None))
    either true put = refl
    either false put = refl

    go : (o : Option ℕ) → brought_of (seen_put (kind_at plan p) (calls_at plan p) false o) ≡ seen_as plan p (held (for_others plan p o))
    go None = refl
    go (Some put) = either (admits (scope_of plan p put) false) put

-- where there is no lowest process that is enabled, nobody is
pub nobody : (plan : Plan) (s : State) → lowest plan s (process_count plan) ≡ None → IsEnd plan s
nobody plan s none p = false_from_ne_true _ (λ h. true≢false (sym h ∙ none_enabled plan s (process_count plan) p none (enabled_within plan s p h)))

pub ended_tells : (plan : Plan) (s : State) (found : Option Proc) (ended : Bool) → option_map (λ p. p.number) found ≡ lowest plan s (process_count plan) → is_some found ≡ not ended →
    IsTrue ended ↔ IsEnd plan s
ended_tells plan s None true none is = ((λ _. nobody plan s (sym none)), (λ _. refl))
ended_tells plan s None false none is = cc
ended_tells plan s (Some p) true some is = cc
ended_tells plan s (Some p) false some is =
    ((λ t. cc), (λ end. absurd (true≢false (sym (lowest_enabled plan s (process_count plan) p.number (sym some)) ∙ end p.number))))
