use Rattle.std.proofs.Common.{◌≡◌, ◌∙◌, ◌++◌, ◌∷◌, [], map, take, ap, sym, subst, arith, append_assoc}
use Rattle.std.specs.Prelude.{option_map}
use Rattle.std.proofs.lemmas.List.{append-nil, map_more, take_all}
use Rattle.wire_runs.specs.Plan.{event_of}
use Rattle.wire_happens_before.specs.Chain.{Lowest}
use Rattle.wire_happens_before.proofs.steps.lowest_among.Goals as goal

pub loop-z-preserved : goal.loop-z-preserved
loop-z-preserved c = λ plan places m h.
    let events = c.args.events.now in
    let old = c.loop-z.invariant plan places m h in
    let new = c.lowest_with-lowest.ensures plan _ m old in
    subst (λ l. Lowest plan (event_of c.args.x) l (option_map event_of c.lowest_with-lowest.result))
    (append_assoc places (map event_of (take c.loop-z.z-index events)) (event_of _ ∷ []) ∙ ap (λ l. places ++ l) (sym (map_more event_of events c.loop-z.z-index _ c.loop-z-test.true)))
    new

pub loop-z-init : goal.loop-z-init
loop-z-init c = λ plan places m h. subst (λ l. Lowest plan (event_of c.args.x) l (option_map event_of c.args.first)) (sym (append-nil places)) h

pub returns : goal.returns
returns c = λ plan places m h.
    let all : take c.loop-z.z-index c.args.events.now ≡ c.args.events.now = take_all c.loop-z.z-index c.args.events.now (omega arith) in
    subst (λ l. Lowest plan (event_of c.args.x) (places ++ map event_of l) (option_map event_of c.loop-z.lowest)) all (c.loop-z.invariant plan places m h)
