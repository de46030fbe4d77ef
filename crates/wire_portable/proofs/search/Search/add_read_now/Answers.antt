use Rattle.std.proofs.Common.{◌∙◌, ap}
use Rattle.std.proofs.lemmas.Result.{on_ok_weaker}
use Rattle.wire_runs.specs.Plan.{event_of}
use Rattle.wire_portable.specs.Searched.{Searched}
use Rattle.wire_portable.proofs.Added.{adds_other}
use Rattle.wire_portable.proofs.Owners.{get_now_owner}
use Rattle.wire_portable.proofs.search.Search.add_read_now.Goals as goal

pub add_now-requires-clause-owner : goal.add_now-requires-clause-owner
add_now-requires-clause-owner c =
    let sound = rw (c.plan.ensures ∙ ap (λ (v : Searched). v.scripts) c.self.view_is) at c.scripts.ensures.sound in
    get_now_owner c.args.self.now.scripts sound (event_of c.args.get) c.args.asked.owner.number c.args.asked.key c.requires.is

pub returns : goal.returns
returns c = on_ok_weaker c.add_now.result (λ h. adds_other c.args.found.now c.add_now.new.found _ _ (λ library fine ne. fine) h) c.add_now.ensures
