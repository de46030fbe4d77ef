-- Races on one placing, and on the placings of a family.
use Rattle.std.proofs.Common.{◌≡◌, ℕ, false, inl, inr, sym, ◌∙◌, eq-eqb, eqb-true}
use Rattle.std.proofs.lemmas.Bool.{true≢false}
use Rattle.wire_runs.specs.Plan.{Plan, node_of, same_node, Event}
use Rattle.wire_runs.specs.Races.{IsDeliveryRace}
use Rattle.wire_runs.specs.Placings.{HasSurely, IsFarRace}
use Rattle.wire_runs.specs.PlacingLaws.{PlacingTells, ShareANode, FamilyTells}
use Rattle.wire_runs.proofs.Basics.{process_within, stores_commit}
use Rattle.wire_runs.proofs.PlacingKeeps.{turned, placing_keeps, surely_kept}
use Rattle.wire_runs.proofs.Anywhere.{part_within, owner_within, to_node, race_is_far, far_is_race, far_not_reader, pair_not_sure, near_of_race, near_is_race}

pub apart : (plan : Plan) (p q : ℕ) → same_node plan p q ≡ false → node_of plan p ≡ node_of plan q → ⊥
apart plan p q away e = true≢false (sym (eq-eqb _ _ e) ∙ away)

-- nobody beside the reader of a race with a delivery surely has the key
nobody_sure : (plan : Plan) (x y : Event) (p key k : ℕ) → IsDeliveryRace plan x y p key → node_of plan k ≡ node_of plan y.proc → HasSurely plan p key k y → ⊥
nobody_sure plan x y p key k r on h =
    r.not_sure (record { delivery = h.delivery; delivers = to_node plan p key (node_of plan y.proc) k h.delivery on h.carries; all_before = h.all_before })

pub placing_tells : PlacingTells
placing_tells plan other same = let kept = placing_keeps plan other same in
    record {
      near = λ x y key. (
        (λ r. ((kept.near_races x y key).1 (near_of_race other x y key r), r.node)),
        (λ w. near_is_race other x y key w.1 ((kept.near_races x y key).0 w.0)),
      );
      far = λ x y p key. (
        (λ r.
            let f = race_is_far other x y p key r in (
              r.other,
              (f.0, (kept.far_races x y p key f.0).1 f.1, eq-eqb _ _ f.2),
              (λ m on h. nobody_sure other x y p key m r (eqb-true _ _ on) (surely_kept plan other same p key m y h)),
            )),
        (λ w.
            let m = w.1 in
            far_is_race other x y p key m.0 (eqb-true _ _ m.2) (apart other p y.proc w.0)
            (λ k within on h. w.2 k (eq-eqb _ _ on) (surely_kept other plan (turned same) p key k y h))
            ((kept.far_races x y p key m.0).0 m.1)),
      );
    }

-- a far race is one where the two are alone
pub far_alone : (plan : Plan) (x y : Event) (p key m : ℕ) → ShareANode plan m y.proc → IsFarRace plan x y p key m → IsDeliveryRace plan x y p key
far_alone plan x y p key m a r =
    let on = eqb-true _ _ a.together in
    far_is_race plan x y p key m on
    (λ e. elim (a.alone p (owner_within plan p key m r.delivery r.carries) (eq-eqb _ _ (e ∙ sym on))) [ inl i ↦ r.carries.another (sym i) | inr i ↦ r.another (sym i) ])
    (λ k within e h. pair_not_sure plan x y p key m r k (elim (a.alone k within (eq-eqb _ _ (e ∙ sym on))) [ inl i ↦ inr i | inr i ↦ inl i ]) h) r

pub family_tells : FamilyTells
family_tells plan family are = (
  (λ s other i.
      let same = are.placings other i in
      let kept = placing_keeps plan other same in
      record {
        no_rewrite = λ x y r. s.no_rewrite x y ((kept.rewrites x y).1 r);
        no_node_race = λ x y key r. s.no_near_race x y key (other, i, r.node) ((kept.near_races x y key).1 (near_of_race other x y key r));
        no_delivery_race = λ x y p key r.
            let f = race_is_far other x y p key r in
            s.no_far_race x y p key f.0 (other, i, eq-eqb _ _ f.2) ((kept.far_races x y p key f.0).1 f.1);
        no_name_race = λ x y name r. s.no_name_race x y name ((kept.name_races x y name).1 r);
      }),
  (λ all.
      let one = are.one in
      let kept = placing_keeps plan one.0 (are.placings one.0 one.1) in
      record {
        no_rewrite = λ x y r. (all one.0 one.1).no_rewrite x y ((kept.rewrites x y).0 r);
        no_near_race = λ x y key meet r.
            let w = are.alone x.proc y.proc (λ e. r.another (sym e)) (process_within plan x.proc x.at _ (stores_commit plan x key r.stores)) (process_within plan y.proc y.at _ r.is) meet in
            (all w.0 w.1).no_node_race x y key (near_is_race w.0 x y key w.2.together (((placing_keeps plan w.0 (are.placings w.0 w.1)).near_races x y key).0 r));
        no_far_race = λ x y p key m meet r.
            let w = are.alone m y.proc (far_not_reader plan x y p key m r) (part_within plan p key m r.delivery r.carries) (process_within plan y.proc y.at _ r.is) meet in
            (all w.0 w.1).no_delivery_race x y p key (far_alone w.0 x y p key m w.2 (((placing_keeps plan w.0 (are.placings w.0 w.1)).far_races x y p key m).0 r));
        no_name_race = λ x y name r. (all one.0 one.1).no_name_race x y name ((kept.name_races x y name).0 r);
      }),
)
