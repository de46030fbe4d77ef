use Rattle.std.proofs.Common.{◌∙◌, ◌≤◌, ℕ, List, length, refl, sym, subst, arith}
use Rattle.std.proofs.lemmas.Bool.{true≢false}
use Rattle.std.proofs.lemmas.Bool.Decides.{nat_tests}
use Rattle.std.proofs.lemmas.Option.{none-some, same_Some, slice_get_past, slice_get_read}
use Rattle.wire_plan.specs.Kinds.{kind_of}
use Rattle.wire_happens_before.specs.Following.{OnlyFollows}
use Rattle.wire_happens_before.proofs.following.follows_at.Goals as goal

pub returns-in-Some : goal.returns-in-Some
returns-in-Some c =
    let kinds = c.args.kinds.now in
    let here = slice_get_read kinds (length kinds) c.args.at c.in-Some.kind.now refl c.in-Some.ensures.lookup.3.0 c.in-Some.ensures.lookup.1 in (
      (λ follows. (c.in-Some.kind.now, here, c.only_follows.ensures.0 follows)),
      (λ found. c.only_follows.ensures.1 (subst (λ k. (sets : List (List ℕ)) → OnlyFollows (kind_of sets k)) (same_Some _ _ (sym found.1 ∙ here)) found.2)),
    )

pub returns-in-None : goal.returns-in-None
returns-in-None c =
    let kinds = c.args.kinds.now in
    let past : length kinds ≤ c.args.at = grind (arith, nat_tests, c.in-None.ensures.lookup.0) in (
      (λ no. absurd (true≢false (sym no))),
      (λ found. absurd (none-some found.0 (sym (slice_get_past kinds c.args.at past) ∙ found.1))),
    )
