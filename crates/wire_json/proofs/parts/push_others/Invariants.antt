use Rattle.std.proofs.Common.{◌≡◌, ◌++◌, ◌∷◌, drop}
use Rattle.std.specs.Prelude.{flat_map}
use Rattle.wire_types.specs.Texts.{lists_of}
use Rattle.wire_json.proofs.parts.push_others.Given as goal

-- what is written, and the items that are left, are all of them
abbrev pub invariant-loop-item : goal.invariant-loop-item
invariant-loop-item l =
    l.fn.out.items ++ flat_map (λ t. 44 ∷ t) (lists_of l.items) ≡ l.out.items ++ flat_map (λ t. 44 ∷ t) (lists_of (drop l.item-index l.items))
