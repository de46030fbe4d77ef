use Rattle.std.proofs.Common.{◌≡◌, ◌∙◌, ap, sym, subst, refl, ℕ, ◌+◌, List, length, map, Bool, Some, slice_index_or, arith}
use Rattle.std.proofs.Math.ListN.{set}
use Rattle.std.proofs.lemmas.Grind.{get_or_default_zero}
use Rattle.std.proofs.lemmas.List.{length-map}
use Rattle.wire_types.specs.declared.Call.{Call}
use Rattle.wire_types.specs.declared.Call.TheVariants.{Fence}
use Rattle.wire_scripts.specs.Scripts.{numbers_of, set_at}
use Rattle.wire_fence.specs.declared.register.FenceDraft.{FenceDraft}
use Rattle.wire_fence.specs.Register.{IsCalled, IsAfter}
use Rattle.wire_fence.proofs.Kept.{kept_is, number_low}
use Rattle.wire_fence.proofs.register.Register.read.Goals as goal

after_fence : (sets : List (List ℕ)) (call : Call) (which : ℕ) (collect : Bool) (rows new : List FenceDraft) (counts : List ℕ) (before members n : ℕ)
    → call ≡ Fence which collect → before ≡ slice_index_or counts which 0 → members ≡ length (set_at sets which)
    → IsCalled rows which (before + 1) members collect n new → IsAfter sets call rows counts (Some n) new (set counts which (before + 1))
after_fence sets call which collect rows new counts before members n is count size called =
    subst (λ k. IsAfter sets k rows counts (Some n) new (set counts which (before + 1))) (sym is) (
      n,
      refl,
      subst (λ m. IsCalled rows which (slice_index_or counts which 0 + 1) m collect n new) size (subst (λ b. IsCalled rows which (b + 1) members collect n new) count called),
      ap (λ b. set counts which (b + 1)) count,
    )

pub returns-clause-after : goal.returns-clause-after
returns-clause-after c =
    let which = c.in-Fence.set in
    let counts = c.args.counts.now.items in
    let sets = map (λ v. numbers_of v.items) c.args.sets.now in
    let members = c.members_of.result.now in
    let low = number_low _ _ _ _ _ _ _ c.in_ok-number.ensures.called in
    let room = c.requires.room in
    subst (λ o. IsAfter sets c.args.call c.args.self.now.rows.items counts o c.add.new.self.rows.items (set counts which (c.index.result.now + 1)))
    (sym (kept_is c.in_ok-number.number (omega (arith, low, room))))
    (after_fence sets c.args.call which c.in-Fence.collect c.args.self.now.rows.items c.add.new.self.rows.items counts c.index.result.now (length members) c.in_ok-number.number
    c.in-Fence.is (c.index.ensures ∙ get_or_default_zero counts which _ (c.requires.within which c.in-Fence.collect c.in-Fence.is))
    (sym (length-map members (λ p. p.number)) ∙ ap length c.members_of.ensures) c.in_ok-number.ensures.called)
