-- With one rank fewer: what happens in the whole instance happens there, and lookup-waits are of names that are published once.
use Rattle.std.proofs.Common.{◌≡◌, ℕ, Some, refl, sym, ap, ◌∙◌, subst}
use Rattle.std.specs.Prelude.{slice_get}
use Rattle.wire_runs.specs.Plan.{Plan, Event, LookupWait, kind}
use Rattle.wire_runs.specs.State.{IsDone}
use Rattle.wire_runs.specs.Step.{IsReachable}
use Rattle.wire_runs.specs.PlainRun.{plain_run}
use Rattle.wire_runs.specs.Order.{PublishesOnce, Live}
use Rattle.wire_runs.specs.Races.{IsSettled}
use Rattle.wire_runs.specs.Laws.{plain_end}
use Rattle.wire_runs.specs.Embeddings.{Renaming, image, IsEmbedding}
use Rattle.wire_runs.specs.Patterns.{Pattern, Coding, Cast, group, instance_of}
use Rattle.wire_runs.specs.Restrictions.{restricted, removal, CanGo}
use Rattle.wire_runs.proofs.Due.{reachable_sound}
use Rattle.wire_runs.proofs.PlainRun.{plain_runs}
use Rattle.wire_runs.proofs.EmbeddedOrder.{live_back}
use Rattle.wire_runs.proofs.Images.{event_back}
use Rattle.wire_runs.proofs.FewerFindings.{fourth, mark_at}
use Rattle.wire_runs.proofs.TurnMarks.{is_image}
use Rattle.wire_runs.proofs.WholeSets.{rises_group, group_member}
use Rattle.wire_runs.proofs.RestrictedOnce.{plays_role}
use Rattle.wire_runs.proofs.RestrictedWhole.{restrictions_embed}
use Rattle.wire_runs.specs.Embeddings.{image_kind}
use Rattle.wire_runs.specs.Plan.{Kind}
use Rattle.wire_size_laws.specs.Answered.{WaitsForOne, WaitsInMore, FewerAnswered, FewerWaitForOne}
use Rattle.wire_size_laws.proofs.Happens.{happens}

plain_reached : (plan : Plan) → IsReachable plan (plain_end plan)
plain_reached plan = (plain_run plan, (plain_runs plan).is_run, refl)

pub done_live : (plan : Plan) (y : Event) → IsDone (plain_end plan) y → Live plan y
done_live plan y d = (reachable_sound plan (plain_end plan) (plain_reached plan)).live_done y d

pub live_done : (plan : Plan) → IsSettled plan → WaitsForOne plan → (y : Event) → Live plan y → IsDone (plain_end plan) y
live_done plan settled one y l = happens plan settled one (plain_end plan) (plain_reached plan) (plain_runs plan).ends l

module _ (pattern : Pattern) (coding : Coding) (cast : Cast) (r role : ℕ) (can : CanGo pattern cast r role)
    (settled : IsSettled (instance_of pattern coding (restricted r cast))) (one : WaitsForOne (instance_of pattern coding (restricted r cast))) where
  abbrev to : Renaming
  to = removal pattern coding cast r role

  abbrev small : Plan
  small = instance_of pattern coding (restricted r cast)

  abbrev large : Plan
  large = instance_of pattern coding cast

  e : IsEmbedding to small large
  e = restrictions_embed pattern coding cast r role can

  pub done_there : (y : Event) → IsDone (plain_end large) (image to y) → IsDone (plain_end small) y
  done_there y d = live_done small settled one y (live_back to small large e y (done_live large (image to y) d))

pub waits_in_more : WaitsInMore
waits_in_more pattern coding cast r role y can settled one waits d = waits (done_there pattern coding cast r role can settled one y d)

pub fewer_answered : FewerAnswered
fewer_answered pattern coding cast r role can settled one all y k is =
    done_there pattern coding cast r role can settled one y
    (all (image (removal pattern coding cast r role) y) _ ((e pattern coding cast r role can settled one).kinds_agree y k is))

-- a lookup-wait stays one
pub wait_back : (to : Renaming) (k : Kind) (name : ℕ) → image_kind to k ≡ LookupWait name → (own : ℕ) × (k ≡ LookupWait own) × (to.name own ≡ name)
wait_back to (LookupWait own) name h = (own, refl, (let s : Some (LookupWait (to.name own)) ≡ Some (LookupWait name) = ap Some h in cc))
wait_back to _ name h = cc

pub fewer_wait_for_one : FewerWaitForOne
fewer_wait_for_one pattern coding cast role lawful cast_is four one y name is =
    let large = instance_of pattern coding cast in
    let m = mark_at pattern coding cast y.proc y.at _ is in
    let s = spare_of y m.0 in
    let r = s.0 in
    let can = s.1 in
    let to = removal pattern coding cast r role in
    let small = instance_of pattern coding (restricted r cast) in
    let i = is_image pattern coding cast r role can y m.0 m.1 (λ q. s.2 (sym q)) (λ q. s.3 (sym q)) in
    let emb = restrictions_embed pattern coding cast r role can in
    let b = event_back to small large emb i.0 (LookupWait name) (ap (kind large) i.1 ∙ is) in
    let w = wait_back to b.0 name b.2 in
    let x = one r can.is i.0 w.0 (b.1 ∙ ap Some w.1) in
    (image to x.0, subst (PublishesOnce large (image to x.0)) w.2 (emb.once x.0 w.0 x.1))
  where
    spare_of : (y : Event) (m : ℕ) → (r : ℕ) × CanGo pattern cast r role × (r ≡ y.proc → ⊥) × (r ≡ m → ⊥)
    spare_of y m =
        let w = fourth (group role cast.roles) (rises_group role cast.roles) four y.proc m m in
        (w.0, record { lawful = lawful; cast_is = cast_is; is = plays_role (slice_get cast.roles w.0) role (sym (group_member role cast.roles w.0) ∙ w.1); four = four }, w.2, w.3)
