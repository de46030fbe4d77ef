-- A plan on other nodes, where the same processes share a node: it is settled where the plan is.
use Rattle.std.proofs.Common.{◌≡◌, ◌∙◌, sym, subst, ℕ, ◌<◌}
use Rattle.wire_runs.specs.Plan.{Plan, process_count, event_count, same_node}
use Rattle.wire_runs.specs.Races.{Delivery, ByFence, ByGet, FenceBringsAway, GetBringsAway, IsSettled}
use Rattle.wire_runs.specs.Placings.{IsPlacing, Carries}
use Rattle.wire_runs.specs.PlacingLaws.{AreAlike, RacesThere, PlacingsAre, PlacingKeeps, PlacingTells}
use Rattle.wire_runs.proofs.Arrivals.{stored_is_put}
use Rattle.wire_runs.proofs.Basics.{process_within, stores_commit}
use Rattle.wire_runs.proofs.EmbeddedFindings.{mate_within}

-- the processes of a delivery are there
carries_within : (plan : Plan) (p key m : ℕ) (d : Delivery) → Carries plan p key m d → (m < process_count plan) × (p < process_count plan)
carries_within plan p key m (ByFence members j) c =
    let b : FenceBringsAway plan p key members j = c.brings_away in
    (mate_within plan members j _ m b.full b.arrival c.takes_part, process_within plan p b.at _ b.arrival.is)
carries_within plan p key m (ByGet get) c =
    let b : GetBringsAway plan p key get = c.brings_away in
    let put = stored_is_put plan p key (event_count plan p) b.put b.committed in
    (subst (λ n. n < process_count plan) c.takes_part (process_within plan get.proc get.at _ b.is), process_within plan p b.put _ put.1)

pub settled_alike : (plan other : Plan) → PlacingsAre → PlacingKeeps → PlacingTells → IsPlacing plan other
    → ((a b : ℕ) → a < process_count plan → b < process_count plan → same_node other a b ≡ same_node plan a b)
    → IsSettled plan → IsSettled other
settled_alike plan other are keeps tells placed together settled = record {
  no_rewrite = λ x y r. settled.no_rewrite x y ((alike.rewrites x y).1 r);
  no_name_race = λ x y name r. settled.no_name_race x y name ((alike.name_races x y name).1 r);
  no_node_race = λ x y key r.
      let n = (there.near x y key).0 r in
      let px = process_within plan x.proc x.at _ (stores_commit plan x key n.0.stores) in
      let py = process_within plan y.proc y.at _ n.0.is in
      settled.no_node_race x y key ((here.near x y key).1 (n.0, sym (together x.proc y.proc px py) ∙ n.1));
  no_delivery_race = λ x y owner key r.
      let f = (there.far x y owner key).0 r in
      let w = carries_within plan owner key f.1.0 f.1.1.delivery f.1.1.carries in
      let py = process_within plan y.proc y.at _ f.1.1.is in
      settled.no_delivery_race x y owner key ((here.far x y owner key).1 (
        sym (together owner y.proc w.1 py) ∙ f.0,
        (f.1.0, f.1.1, sym (together f.1.0 y.proc w.0 py) ∙ f.1.2),
        λ k t s. f.2 k (together k y.proc (carries_within plan owner key k s.delivery s.carries).0 py ∙ t) s,
      ));
}
  where
    alike : AreAlike plan other
    alike = keeps plan other placed

    here : RacesThere plan plan
    here = tells plan plan (are plan).itself

    there : RacesThere plan other
    there = tells plan other placed
