-- A pass of a round stays one when it took a piece.
use Rattle.std.proofs.Common.{◌≡◌, ◌≢◌, ℕ, zero, suc, ◌+◌, List, [], ◌∷◌, Option, Some, None, MatchOption, set, map, sym, refl, ap, ◌∙◌, subst, ⊎_elim, length-set}
use mathlib.Core.Option.{some, some-ne-none, some-injective}
use lib.ListN.{get_elem?}
use Rattle.std.specs.Vec.{with_item}
use Rattle.crossbeam_deque.specs.Handles as deque
use Rattle.crossbeam_deque.proofs.Lists.{at_set}
use Rattle.wire_rounds.specs.declared.rule.Piece.{Piece}
use Rattle.wire_rounds.specs.declared.rule.DequeView.{DequeView}
use Rattle.wire_rounds.specs.declared.round.StealRound.{StealRound}
use Rattle.wire_rounds.specs.declared.round.Pass.{Pass}
use Rattle.wire_rounds.specs.declared.round.Take.{Take}
use Rattle.wire_rounds.specs.declared.round.Take.TheVariants.{Got, Empty, Again}
use Rattle.wire_rounds.specs.Views.{Takes, IsRising, TookRising, TookWithin}
use Rattle.wire_rounds.specs.Rules.{TookAll}
use Rattle.wire_rounds.specs.Rounds.{Owner, Permit, IsPassOf, IsPermit, workers_of, worker_of, own_view, MatchTake, TookAt, TookNone}
use Rattle.wire_rounds.specs.Deques.{SameDeque}
use Rattle.wire_rounds.proofs.Rising.{share_rises, rises_more}
use Rattle.wire_rounds.proofs.Bounds.{within_more}

-- the same parts of the same deal, and what was taken rises and is bounded as before
abbrev SameShare : DequeView → DequeView → Type 0
SameShare v w = (w.parts ≡ v.parts) × (w.dealt ≡ v.dealt) × (IsRising v.dealt → TookRising v → TookRising w) × (TookWithin v → TookWithin w)

share_of_take : (v w : DequeView) (x : Piece) → Takes v (x ∷ []) w → SameShare v w
share_of_take v w x h = (ap (λ (y : DequeView). y.parts) h.5, ap (λ (y : DequeView). y.dealt) h.5, rises_more v w x h, within_more v w x h)

share_of_same : (v w : DequeView) → w ≡ v → SameShare v w
share_of_same v w h = (ap (λ (y : DequeView). y.parts) h, ap (λ (y : DequeView). y.dealt) h, λ _ rises. subst TookRising (sym h) rises, subst TookWithin (sym h))

pub own_share : (r : Option Piece) (v w : DequeView) → MatchOption r ((w ≡ v) × TookAll v) (λ x. Takes v (x ∷ []) w) → SameShare v w
own_share None v w h = share_of_same v w h.0
own_share (Some x) v w h = share_of_take v w x h

pub permit_share : (r : Take) (v w : DequeView) → MatchTake r (λ x. Takes v (x ∷ []) w) (w ≡ v) → SameShare v w
permit_share (Got x) v w h = share_of_take v w x h
permit_share Empty v w h = share_of_same v w h
permit_share Again v w h = share_of_same v w h

pub with_own : (r : StealRound) (p : Pass) (o : Owner) → IsPassOf r p → SameDeque p.own o → SameShare (own_view p) (deque.worker_view o)
    → IsPassOf r (record { worker = p.worker; own = o; permits = p.permits })
with_own r p o is same share = record {
  within = is.within;
  few = is.few;
  own = λ s at. same.0 ∙ is.own s at;
  fifo = same.1 ∙ is.fifo;
  parts = ap (λ n. n + workers_of r) share.0 ∙ is.parts;
  dealt = share.1 ∙ is.dealt;
  rising = share.2 (subst IsRising (sym is.dealt) (share_rises (worker_of p) (workers_of r) r.round r.ranks)) is.rising;
  bounded = share.3 is.bounded;
  count = is.count;
  permits = is.permits;
  unused = is.unused;
  fifos = is.fifos;
}

pub with_permit : (r : StealRound) (p : Pass) (k : ℕ) (t u : Permit) → IsPassOf r p → k ≢ worker_of p → get_elem? p.permits.items k ≡ some t → deque.SamePass t u → SameShare (deque.view t) (deque.view u)
    → IsPassOf r (record { worker = p.worker; own = p.own; permits = with_item p.permits k u })
with_permit r p k t u is other at same share = record {
  within = is.within;
  few = is.few;
  own = is.own;
  fifo = is.fifo;
  parts = is.parts;
  dealt = is.dealt;
  rising = is.rising;
  bounded = is.bounded;
  count = length-set p.permits.items k u ∙ is.count;
  permits = λ j s y thief here.
      ⊎_elim (λ (x : (j ≡ k) × (u ≡ y)).
      let old : IsPermit r j s t = is.permits j s t thief (subst (λ i. get_elem? p.permits.items i ≡ some t) (sym x.0) at) in
      subst (IsPermit r j s) x.1 (
        (same.0 ∙ old.0.0, same.1 ∙ old.0.1, same.3, same.4),
        share.0 ∙ old.1,
        share.1 ∙ old.2,
        share.2 (subst IsRising (sym old.2) (share_rises j (workers_of r) r.round r.ranks)) old.3,
        share.3 old.4,
      ))
      (λ (x : (j ≢ k) × (get_elem? p.permits.items j ≡ some y)). is.permits j s y thief x.1) (at_set p.permits.items k j u y here);
  unused = λ y here.
      ⊎_elim (λ (x : (worker_of p ≡ k) × (u ≡ y)). absurd (other (sym x.0)))
      (λ (x : (worker_of p ≢ k) × (get_elem? p.permits.items (worker_of p) ≡ some y)). is.unused y x.1) (at_set p.permits.items k (worker_of p) u y here);
  fifos = is.fifos;
}

map_set : (f : Permit → DequeView) (ts : List Permit) (k : ℕ) (u : Permit) → map f (set ts k u) ≡ set (map f ts) k (f u)
map_set f [] k u = refl
map_set f (t ∷ ts) zero u = refl
map_set f (t ∷ ts) (suc k) u = ap (λ l. f t ∷ l) (map_set f ts k u)

map_at : (f : Permit → DequeView) (ts : List Permit) (k : ℕ) (t : Permit) → get_elem? ts k ≡ some t → get_elem? (map f ts) k ≡ some (f t)
map_at f [] k t e = absurd (some-ne-none t (sym e))
map_at f (x ∷ ts) zero t e = ap some (ap f (some-injective x t e))
map_at f (x ∷ ts) (suc k) t e = map_at f ts k t e

set_same : (vs : List DequeView) (k : ℕ) (v w : DequeView) → get_elem? vs k ≡ some v → w ≡ v → set vs k w ≡ vs
set_same [] k v w e h = refl
set_same (x ∷ vs) zero v w e h = ap (λ y. y ∷ vs) (h ∙ sym (some-injective x v e))
set_same (x ∷ vs) (suc k) v w e h = ap (λ l. x ∷ l) (set_same vs k v w e h)

took_none : (p : Pass) (k : ℕ) (t u : Permit) → get_elem? p.permits.items k ≡ some t → deque.view u ≡ deque.view t →
    TookNone p (record { worker = p.worker; own = p.own; permits = with_item p.permits k u })
took_none p k t u at h =
    let f : Permit → DequeView = λ y. deque.view y in (refl, map_set f p.permits.items k u ∙ set_same (map f p.permits.items) k (f t) (f u) (map_at f p.permits.items k t at) h)

pub took_at : (r : Take) (p : Pass) (k : ℕ) (t u : Permit) → get_elem? p.permits.items k ≡ some t → MatchTake r (λ x. Takes (deque.view t) (x ∷ []) (deque.view u)) (deque.view u ≡ deque.view t)
    → let q : Pass = record { worker = p.worker; own = p.own; permits = with_item p.permits k u } in MatchTake r (TookAt k p q) (TookNone p q)
took_at (Got x) p k t u at h =
    let f : Permit → DequeView = λ y. deque.view y in (deque.view t, deque.view u, map_at f p.permits.items k t at, h, map_set f p.permits.items k u, refl)
took_at Empty p k t u at h = took_none p k t u at h
took_at Again p k t u at h = took_none p k t u at h
