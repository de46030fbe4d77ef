-- An embedding keeps order: what is before an event whose image is live, has its image before that image.
use Rattle.std.proofs.Common.{◌≡◌, true, Some, ◌⊎◌, inl, inr, refl, sym, ap, ◌∙◌, subst, arith}
use Rattle.wire_runs.specs.Plan.{Plan, Event, kind}
use Rattle.wire_runs.specs.Fences.{arrivals}
use Rattle.wire_runs.specs.Order.{IsArrival, Edge, Follows, Meets, Feeds, Announces, may_come, Live, live, Before, edge, further}
use Rattle.wire_runs.specs.Embeddings.{Renaming, image, IsEmbedding, EmbeddingsKeepOrder}
use Rattle.wire_runs.proofs.Basics.{event_within}
use Rattle.wire_runs.proofs.Due.{coming_event, live_source}
use Rattle.wire_runs.proofs.Histories.{before_live, joined, same_process}
use Rattle.wire_runs.proofs.Images.{image_later, event_back, stores_into, puts_end, arrival_into, may_back}

-- the last edge of a chain: its source is the first event, or the first event is before it
last_edge : {plan : Plan} {x y : Event} → Before plan x y → (u : Event) × Edge plan u y × ((x ≡ u) ⊎ Before plan x u)
last_edge {x = x} (edge l e m) = (x, e, inl refl)
last_edge (further b e m) = (_, e, inr b)

by_edge : {plan : Plan} {x y : Event} → Edge plan x y → Live plan y → Before plan x y
by_edge f l = edge (live_source l f) f l

module _ (to : Renaming) (small large : Plan) (e : IsEmbedding to small large) where
  pub edge_into : (x y : Event) → Edge small x y → Live large (image to y) → Before large (image to x) (image to y)
  edge_into x y (Follows same next) l = same_process large (image to x) (image to y) l (ap to.process same) (image_later to small large e x y same (omega (arith, next)))
  edge_into x y (Meets members is a) l =
      let within = event_within small y.proc y.at _ is in
      let there : IsArrival large (to.members members) (arrivals large (to.process y.proc) (to.members members) (to.place y.proc y.at)) (image to x) =
      subst (λ j. IsArrival large (to.members members) j (image to x)) (sym (e.arrives members y.proc y.at (y, _, is, refl) (omega (arith, within))))
      (arrival_into to small large e x members (arrivals small y.proc members y.at) a) in
      by_edge (Meets (to.members members) (e.kinds_agree y _ is) there) l
  edge_into x y (Feeds key is other once stores) l =
      by_edge (Feeds (to.key key) (e.kinds_agree y _ is) (λ s. other (e.one_process _ _ s)) (puts_end to small large e x.proc key (y, _, is, refl) ∙ once) (stores_into to small large e x key (y, _, is, refl) stores)) l
  edge_into x y (Announces name is once) l = by_edge (Announces (to.name name) (e.kinds_agree y _ is) (e.once x name once)) l

  pub chain_into : {x y : Event} → Before small x y → Live large (image to y) → Before large (image to x) (image to y)
  chain_into (edge l f m) live_y = edge_into _ _ f live_y
  chain_into (further b f m) live_z =
      let last = edge_into _ _ f live_z in
      joined (chain_into b (before_live last)) last

  -- an event is live if its image is, or is before what is
  live_up_to : {w : Event} → Live large w → (y : Event) → (image to y ≡ w) ⊎ Before large (image to y) w → Live small y
  live_up_to (live may from) y (inr b) = let last = last_edge b in live_up_to (from last.0 last.1) y last.2
  live_up_to {w = w} (live may from) y (inl is) =
      let here : may_come large (image to y) (kind large (image to y)) ≡ true = subst (λ v. may_come large v (kind large v) ≡ true) (sym is) may in
      let o = coming_event large (image to y) (kind large (image to y)) here in
      let k = event_back to small large e y o.0 o.1 in
      let coming : may_come small y (Some k.0) ≡ true =
      may_back to small large e y k.0 k.1 (ap (λ v. may_come large (image to y) v) (ap Some k.2 ∙ sym o.1) ∙ here) in
      live (ap (may_come small y) k.1 ∙ coming) (λ x f.
      let before = edge_into x y f (subst (λ v. Live large v) (sym is) (live may from)) in
      let last = last_edge (subst (λ v. Before large (image to x) v) is before) in
      live_up_to (from last.0 last.1) x last.2)

  pub live_back : (y : Event) → Live large (image to y) → Live small y
  live_back y l = live_up_to l y (inl refl)

pub embeddings_keep_order : EmbeddingsKeepOrder
embeddings_keep_order to small large e = record { edges = edge_into to small large e; chains = λ x y b l. chain_into to small large e b l; live = live_back to small large e }
