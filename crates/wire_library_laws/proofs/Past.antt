-- What is kept by a history, and by all that came before in it.
use Rattle.std.proofs.Common.{◌≡◌, ℕ, suc, ◌≤◌, List, [], ◌∷◌, inl, inr, sym, ap, subst, arith}
use Rattle.std.proofs.lemmas.Bool.{cases_eq}
use Rattle.wire_runs.specs.Plan.{Plan, Event}
use Rattle.wire_runs.specs.State.{IsDone}
use Rattle.wire_runs.specs.Step.{IsReachable}
use Rattle.wire_runs.proofs.Basics.{update_same, update_other}
use Rattle.wire_runs.proofs.Due.{Sound, reachable_sound, chain_done}
use Rattle.wire_library_laws.specs.Library.{Moment, Asks, Says, told, completed, Since, still, later, IsOpen}
use Rattle.wire_library_laws.specs.Portable.{EndsFirst, IsAsked}
use Rattle.wire_library_laws.specs.Promised.{IsByRules}

done_moment : (plan : Plan) (m : Moment) (past : List Moment) (p : ℕ) → (told plan past).done p ≤ (told plan (m ∷ past)).done p
done_moment plan (Asks q) past p = omega arith
done_moment plan (Says q a) past p = elim (cases_eq p q) [
  | inl e ↦
      let d : (told plan (Says q a ∷ past)).done p ≡ suc ((told plan past).done p) =
      subst (λ r. (told plan (Says q a ∷ past)).done r ≡ suc ((told plan past).done r)) (sym e) (update_same (told plan past).done q (suc ((told plan past).done q))) in
      omega (arith, d)
  | inr ne ↦ let d = update_other (told plan past).done q (suc ((told plan past).done q)) p ne in omega (arith, d)
]

-- what is done stays done
pub done_since : (plan : Plan) {old new : List Moment} → Since old new → (p : ℕ) → (told plan old).done p ≤ (told plan new).done p
done_since plan still p = omega arith
done_since plan (later {m = m} {new = new} s) p = let a = done_since plan s p in let b = done_moment plan m new p in omega (arith, a, b)

pub event_since : (plan : Plan) {old new : List Moment} → Since old new → (x : Event) → IsDone (told plan old) x → IsDone (told plan new) x
event_since plan s x d = let up = done_since plan s x.proc in omega (arith, up, d)

-- the history and all before it are by the rules
abbrev pub AllByRules : Plan → List Moment → Type 0
AllByRules plan [] = IsByRules plan []
AllByRules plan (m ∷ past) = IsByRules plan (m ∷ past) × AllByRules plan past

pub newest : (plan : Plan) (h : List Moment) → AllByRules plan h → IsByRules plan h
newest plan [] all = all
newest plan (m ∷ past) all = all.0

pub all_since : (plan : Plan) {old new : List Moment} → Since old new → AllByRules plan new → AllByRules plan old
all_since plan still all = all
all_since plan (later s) all = all_since plan s all.1

pub reached : (plan : Plan) (h : List Moment) → AllByRules plan h → IsReachable plan (told plan h)
reached plan h all = let g = newest plan h all in (completed h, g.is_run, g.same)

pub sound : (plan : Plan) (h : List Moment) → AllByRules plan h → Sound plan (told plan h)
sound plan h all = reachable_sound plan (told plan h) (reached plan h all)

-- all that has ended when g is asked is done where g comes next
pub done_first : (plan : Plan) (h : List Moment) → AllByRules plan h → (x g : Event) → (told plan h).done g.proc ≡ g.at → EndsFirst plan x g → IsDone (told plan h) x
done_first plan h all x g next first = elim first.leads [
  | inl e ↦ subst (λ z. IsDone (told plan h) z) (sym e) last_done
  | inr b ↦ chain_done plan (told plan h) (sound plan h all) b last_done
]
  where
    last_done : IsDone (told plan h) first.last
    last_done = let n = first.is.next in let same : (told plan h).done first.last.proc ≡ (told plan h).done g.proc = ap (told plan h).done first.is.same in omega (arith, n, same, next)

pub asked : (plan : Plan) (h : List Moment) → AllByRules plan h → (g : Event) → (told plan h).done g.proc ≡ g.at → IsAsked plan g
asked plan h all g next y last =
    let n = last.next in
    let same : (told plan h).done y.proc ≡ (told plan h).done g.proc = ap (told plan h).done last.same in
    (sound plan h all).live_done y (omega (arith, n, same, next))

-- where a call is open, its process had come to it when it was made
pub all_before : (plan : Plan) {before new : List Moment} {p : ℕ} → IsOpen plan before new p → AllByRules plan new → AllByRules plan before
all_before plan opened all = (all_since plan opened.asked all).1

pub before_since : {m : Moment} {old new : List Moment} → Since (m ∷ old) new → Since old new
before_since still = later still
before_since (later s) = later (before_since s)
