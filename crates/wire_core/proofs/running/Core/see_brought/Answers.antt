use Rattle.std.proofs.Common.{◌≡◌, ◌∙◌, ap, sym, subst, length, true, is_some}
use Rattle.std.proofs.lemmas.Bool.{true≢false}
use Rattle.wire_runs.specs.Sight.{held, for_others, greater, kept}
use Rattle.wire_core.specs.Course.{plan_in, state_of}
use Rattle.wire_core.specs.Seeing.{seen_as, is_something}
use Rattle.wire_core.specs.Met.{stored_at}
use Rattle.wire_core.specs.Keeping.{IsKeeping}
use Rattle.wire_core.proofs.Ranks.{held_something}
use Rattle.wire_core.proofs.Gains.{fence_newer, gets_newer}
use Rattle.wire_core.proofs.running.Core.see_brought.Goals as goal
use Rattle.wire_core.proofs.running.Core.see_brought.Goals.{else-is_shown-via-then-is_shown+else-is_later, else-is_shown-via-else-is_shown}

pub returns-then-is_later : goal.returns-then-is_later
returns-then-is_later c =
    let plan = plan_in c.args.self.now in
    let s = state_of c.args.self.now in
    let p = c.args.owner.number in
    let key = c.args.key in
    let node = c.args.node in
    let keeping = subst (λ course. IsKeeping (plan_in course) (state_of course) (length course.history) c.self.inside.keeping) c.self.view_is c.self.invariant.keeping_is in
    let told = ap (stored_at plan p key) c.count-count.ensures ∙ keeping.told p key node c.requires.away in
    let shown = for_others plan p (stored_at plan p key c.last_bringing-arrival.result) in
    let some : is_some shown ≡ true = sym (held_something plan p shown) ∙ ap is_something (sym c.show_at-by_fence.ensures) ∙ sym c.is_shown.ensures ∙ c.if-is_shown.true in
    c.show_at-by_fence.ensures
    ∙ ap (λ o. seen_as plan p (held o))
    (fence_newer plan p key c.last_bringing-arrival.result c.count-count.result (kept plan s p key node) told (λ u is. keeping.admitted p key node u c.requires.away is) some
    (sym c.is_later.ensures ∙ c.if-is_later.true)
    ∙ ap (λ o. greater (for_others plan p o) (kept plan s p key node)) (sym (c.last_bringing-arrival.ensures.told key)))

pub returns-else-is_shown : goal.returns-else-is_shown
returns-else-is_shown c =
    let plan = plan_in c.args.self.now in
    let s = state_of c.args.self.now in
    let p = c.args.owner.number in
    let key = c.args.key in
    let node = c.args.node in
    let keeping = subst (λ course. IsKeeping (plan_in course) (state_of course) (length course.history) c.self.inside.keeping) c.self.view_is c.self.invariant.keeping_is in
    let told = ap (stored_at plan p key) c.count-count.ensures ∙ keeping.told p key node c.requires.away in
    let shown = for_others plan p (stored_at plan p key c.last_bringing-arrival.result) in
    let is_seen : is_something c.show_at-by_fence.result ≡ is_some shown = ap is_something c.show_at-by_fence.ensures ∙ held_something plan p shown in
    c.show_at.ensures
    ∙ ap (λ o. seen_as plan p (held o))
    (gets_newer plan p key c.last_bringing-arrival.result c.count-count.result (kept plan s p key node) told (λ u is. keeping.admitted p key node u c.requires.away is)
    (λ some. elim c.else-is_shown.branch [
      | else-is_shown-via-then-is_shown+else-is_later w ↦ sym w.is_later.ensures ∙ w.if-is_later.false
      | else-is_shown-via-else-is_shown w ↦ absurd (true≢false (sym some ∙ sym is_seen ∙ sym c.is_shown.ensures ∙ w.if-is_shown.false))
    ])
    ∙ ap (λ o. greater (for_others plan p o) (kept plan s p key node)) (sym (c.last_bringing-arrival.ensures.told key)))
