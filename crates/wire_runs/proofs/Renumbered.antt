-- A plan under other numbers of its keys and names is settled where the plan is.
use Rattle.std.proofs.Common.{◌≡◌, ℕ, zero, suc, List, [], ◌∷◌, map, true, false, ◌==◌, Option, Some, None, inl, inr, refl, sym, ap, ◌∙◌, subst, arith, eq-eqb, eqb-true}
use Rattle.std.proofs.lemmas.Bool.{true≢false, false_from_ne_true}
use Rattle.std.proofs.lemmas.Option.{same_Some}
use Rattle.wire_runs.specs.Plan.{Plan, Event, Kind, Publish, Unpublish, UnpublishAll, kind, kind_at, kinds, event_count, node_of, same_node}
use Rattle.wire_runs.specs.Fences.{collects, is_collecting}
use Rattle.wire_runs.specs.Names.{publishes, takes_name}
use Rattle.wire_runs.specs.Order.{PublishesOnce}
use Rattle.wire_runs.specs.Races.{Delivery, ByFence, ByGet, Delivers, FenceDelivers, GetDelivers, IsNameRace, IsSettled}
use Rattle.wire_runs.specs.Embeddings.{Renaming, image, name_of, IsNameOf, IsSetOf, IsEmbedding, IsKeptDelivery, KeepsFindings}
use Rattle.wire_runs.specs.Parts.{Piece, Kept, place_in, MayLeave, IsPartEach}
use Rattle.wire_runs.specs.Renamed.{renumbering, IsRenumbered, RenumberedSettle}
use Rattle.wire_runs.proofs.Basics.{event_within, list_all_at_member}
use Rattle.wire_runs.proofs.Brought.{list_all_of_members}
use Rattle.wire_runs.proofs.Arrivals.{mate_on, written_name}
use Rattle.wire_runs.proofs.Images.{event_back}
use Rattle.wire_runs.proofs.Parts.{here, kept_before, waits_at, kinds_agree, collects_track, publishes_track, back_end, parts_embed}
use Rattle.wire_runs.proofs.RestrictedCalls.{kept_kept, all_kept, kept_fits}
use Rattle.wire_runs.proofs.RestrictedOnce.{publish_back, unpublish_back, all_back}
use Rattle.wire_runs.proofs.FewerFindings.{name_back}
use Rattle.wire_runs.proofs.EmbeddedFindings.{embeddings_keep_findings}

all_stay : (ks : List Kind) (n : ℕ) → n ≡ place_in (map Kept ks) n
all_stay [] n = refl
all_stay (k ∷ ks) zero = refl
all_stay (k ∷ ks) (suc n) = ap suc (all_stay ks n)

module _ (plan other : Plan) (key name : ℕ → ℕ) (same : IsRenumbered plan other key name) where
  abbrev to : Renaming
  to = renumbering key name

  abbrev pieces : ℕ → List Piece
  pieces p = map Kept (kinds plan p)

  each : IsPartEach to plan other pieces
  each = record {
    one_key = same.one_key;
    one_name = same.one_name;
    one_set = λ a b u v s. s;
    places = λ p n. all_stay (kinds plan p) n;
    kept = λ p. sym (kept_kept (kinds plan p));
    all = λ p. same.calls p ∙ sym (all_kept to (kinds plan p));
    fits = λ p. kept_fits to plan false (kinds plan p);
  }

  all_collect : (members : List ℕ) (j : ℕ) → IsSetOf plan members → is_collecting plan members j ≡ true → is_collecting other members j ≡ true
  all_collect members j u all = list_all_of_members _ members (λ m i.
      collects_track to plan other pieces each m members u j (event_count other m) (omega arith) ∙ ap (collects plan m members j) (back_end to plan other pieces each m)
      ∙ list_all_at_member _ members m all i)

  module _ (x : Event) (n : ℕ) (o : PublishesOnce plan x n) where
    named : IsNameOf plan n
    named = (x, Publish n, o.is, refl)

    own_name : (y : Event) (k : Kind) (own : ℕ) → kind plan y ≡ Some k → k ≡ Publish own → name own ≡ name n → own ≡ n
    own_name y k own is publish s = same.one_name own n (y, Publish own, is ∙ ap Some publish, refl) named s

    only : (y : Event) → kind other y ≡ Some (Publish (name n)) → y ≡ image to x
    only y is = elim (here to plan other pieces each y.proc y.at (event_within other y.proc y.at _ is)) [
      | inl a ↦ (
          let b = publish_back to a.what (name n) (same_Some _ _ (sym a.large_is ∙ is)) in
          let z : Event = record { proc = y.proc; at = kept_before (pieces y.proc) y.at } in
          let own : b.0 ≡ n = own_name z a.what b.0 a.small_is b.2 b.1 in
          let s = o.only z (a.small_is ∙ ap Some (b.2 ∙ ap Publish own)) in
          (λ t. record { proc = y.proc; at = sym a.stands t }) ∙ s)
      | inr a ↦ absurd (
          let m = subst (MayLeave to plan (waits_at (kind_at plan y.proc) false (kept_before (pieces y.proc) y.at))) (same_Some _ _ (sym a.large_is ∙ is)) a.may_leave in
          m n named refl)
    ]

    taken : (y : Event) (k : Option Kind) → kind other y ≡ k → takes_name other (name n) y k ≡ true → ⊥
    taken y None is t = true≢false (sym t)
    taken y (Some (Unpublish m)) is t = elim (here to plan other pieces each y.proc y.at (event_within other y.proc y.at _ is)) [
      | inl a ↦ (
          let b = unpublish_back to a.what m (same_Some _ _ (sym a.large_is ∙ is)) in
          let z : Event = record { proc = y.proc; at = kept_before (pieces y.proc) y.at } in
          let own : b.0 ≡ n = same.one_name b.0 n (z, Unpublish b.0, a.small_is ∙ ap Some b.2, refl) named (b.1 ∙ eqb-true m (name n) t) in
          true≢false (sym (ap (takes_name plan n z) (a.small_is ∙ ap Some b.2) ∙ eq-eqb b.0 n own) ∙ o.stays z))
      | inr a ↦ (
          let l = subst (MayLeave to plan (waits_at (kind_at plan y.proc) false (kept_before (pieces y.proc) y.at))) (same_Some _ _ (sym a.large_is ∙ is)) a.may_leave in
          l n named (sym (eqb-true m (name n) t)))
    ]
    taken y (Some UnpublishAll) is t = elim (here to plan other pieces each y.proc y.at (event_within other y.proc y.at _ is)) [
      | inl a ↦ (
          let b = all_back to a.what (same_Some _ _ (sym a.large_is ∙ is)) in
          let z : Event = record { proc = y.proc; at = kept_before (pieces y.proc) y.at } in
          let p : publishes plan y.proc n (event_count plan y.proc) ≡ true =
          ap (publishes plan y.proc n) (sym (back_end to plan other pieces each y.proc))
          ∙ sym (publishes_track to plan other pieces each y.proc n named (event_count other y.proc) (omega arith)) ∙ t in
          true≢false (sym (ap (takes_name plan n z) (a.small_is ∙ ap Some b) ∙ p) ∙ o.stays z))
      | inr a ↦ subst (MayLeave to plan (waits_at (kind_at plan y.proc) false (kept_before (pieces y.proc) y.at))) (same_Some _ _ (sym a.large_is ∙ is)) a.may_leave
    ]
    taken y (Some _) is t = true≢false (sym t)

    once : PublishesOnce other (image to x) (name n)
    once = record { is = kinds_agree to plan other pieces each x _ o.is; only = only; stays = λ y. false_from_ne_true _ (taken y (kind other y) refl) }

  pub embeds : IsEmbedding to plan other
  embeds = parts_embed to plan other pieces (record {
    each = each;
    one_process = λ p q s. s;
    member = λ members p u. refl;
    all_collect = λ members j u full all. all_collect members j u all;
    once = once;
    together = λ p q lp lq s. same.nodes p ∙ s ∙ sym (same.nodes q);
    keeps = same.keeps;
  })

  keeps_findings : KeepsFindings to plan other
  keeps_findings = embeddings_keep_findings to plan other embeds

  node_there : (p q : ℕ) → same_node plan p q ≡ same_node other p q
  node_there p q = sym (ap (λ n. n == node_of plan q) (same.nodes p)) ∙ sym (ap (λ n. node_of other p == n) (same.nodes q))

  kept_fence : (owner : ℕ) (get : Event) (k : ℕ) (members : List ℕ) (j : ℕ) → FenceDelivers other owner k (node_of other get.proc) members j → IsKeptDelivery to plan other owner (node_of plan get.proc) (ByFence members j)
  kept_fence owner get k members j b =
      let m = mate_on other members (node_of other get.proc) b.reaches in
      record { own_at = b.away.at; arrival = b.away.arrival; mate = m.0; mate_is_member = m.1; mate_there = sym (same.nodes m.0) ∙ m.2 ∙ same.nodes get.proc }

  pub kept_delivery : (owner : ℕ) (get : Event) (k : ℕ) (d : Delivery) → Delivers other owner k (node_of other get.proc) d → IsKeptDelivery to plan other owner (node_of plan get.proc) d
  kept_delivery owner get k (ByFence members j) d = kept_fence owner get k members j d.brings_it
  kept_delivery owner get k (ByGet g) d =
      let b : GetDelivers other owner k (node_of other get.proc) g = d.brings_it in
      (g, refl, sym (same.nodes g.proc) ∙ b.there ∙ same.nodes get.proc)

  settled_too : IsSettled plan → IsSettled other
  settled_too settled = record {
    no_rewrite = λ x y r. settled.no_rewrite x y (keeps_findings.rewrites x y r);
    no_node_race = λ c g k r. (let f = keeps_findings.node_races c g k r (node_there c.proc g.proc ∙ r.node) in settled.no_node_race c g f.0 f.2);
    no_delivery_race = λ x g owner k r.
        keeps_findings.delivery_races x g owner k r (node_there owner g.proc ∙ r.other) (kept_delivery owner g k r.delivery r.delivers) settled;
    no_name_race = λ x y n r.
        let u = written_name other n x r.x_writes in
        let b = event_back to plan other embeds u.0 u.1 u.2 in
        let own = name_back to b.0 n (ap name_of b.2 ∙ u.3) in
        settled.no_name_race x y own.0 (keeps_findings.name_races x y own.0 (u.0, b.0, b.1, own.1) (subst (λ m. IsNameRace other x y m) (sym own.2) r));
  }

pub renumbered_settle : RenumberedSettle
renumbered_settle plan other key name same settled = settled_too plan other key name same settled
