use Rattle.std.proofs.Common.{◌≡◌, ◌∙◌, ℕ, List, length, map, sym, ap}
use Rattle.wire_scripts.specs.Scripts.{numbers_of, set_at}
use Rattle.wire_fence.specs.declared.register.FenceDraft.{FenceDraft}
use Rattle.wire_fence.specs.FenceTable.{FenceInfo, FenceTable}
use Rattle.wire_fence.specs.Register.{info_of}
use Rattle.wire_fence.proofs.FenceTable.{map_twice}
use Rattle.wire_fence.proofs.table.Fences.sizes.Goals as goal

pub returns : goal.returns
returns c =
    let sets : map (λ v. numbers_of v.items) c.deref.result.now ≡ map (λ v. numbers_of v.items) c.self.inside.sets.items = ap (map (λ v. numbers_of v.items)) c.deref.ensures.value in
    c.in_ok-sizes.ensures
    ∙ ap (λ (xs : List (List ℕ)). map (λ (row : FenceDraft). length (set_at xs row.set)) c.deref-2.result.now) sets
    ∙ ap (map (λ (row : FenceDraft). length (set_at (map (λ v. numbers_of v.items) c.self.inside.sets.items) row.set))) c.deref-2.ensures.value
    ∙ sym (map_twice (λ (f : FenceInfo). length f.members) (info_of (map (λ v. numbers_of v.items) c.self.inside.sets.items)) c.self.inside.rows.items)
    ∙ ap (λ (t : FenceTable). map (λ (f : FenceInfo). length f.members) t.fences) c.self.view_is
