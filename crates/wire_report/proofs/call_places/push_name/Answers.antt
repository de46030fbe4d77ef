use Rattle.std.proofs.Common.{◌∙◌, ap, sym, ℕ, ◌+◌, List, [], ◌∷◌, ◌++◌, map, drop, append-nil, append_assoc}
use Rattle.std.proofs.lemmas.List.{at_drop_more, at_drop_all}
use Rattle.wire_report.specs.Place.{name_byte}
use Rattle.wire_report.proofs.call_places.push_name.Goals as goal

pub loop-byte-preserved : goal.loop-byte-preserved
loop-byte-preserved c =
    let out = c.loop-byte.out.items in
    let rest = map name_byte (drop (c.loop-byte.byte-index + 1) c.args.name.now) in
    c.loop-byte.invariant
    ∙ at_drop_more (λ (bytes : List ℕ). out ++ map name_byte bytes) c.args.name.now c.loop-byte.byte-index 0 c.loop-byte-test.true
    ∙ sym (append_assoc out _ rest)
    ∙ ap (λ written. written ++ rest) (sym (c.in_ok-push.ensures.items ∙ (λ k. out ++ c.name_byte.ensures k ∷ [])))

pub returns : goal.returns
returns c = sym (
    c.loop-byte.invariant
    ∙ at_drop_all (λ (bytes : List ℕ). c.loop-byte.out.items ++ map name_byte bytes) c.args.name.now c.loop-byte.byte-index c.loop-byte-test.false
    ∙ append-nil c.loop-byte.out.items
    )
