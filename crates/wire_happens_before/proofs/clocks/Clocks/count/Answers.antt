use Rattle.std.proofs.Common.{◌≡◌, ◌∙◌, Some, None, max, sym, ap, arith}
use Rattle.std.proofs.lemmas.Option.{slice_get_within}
use Rattle.wire_runs.specs.Plan.{event_of}
use Rattle.wire_happens_before.specs.Clocks.{items_at, base_at, root_at, clock_over}
use Rattle.wire_happens_before.proofs.clocks.Clocks.count.Goals as goal

pub returns-in-Some : goal.returns-in-Some
returns-in-Some c =
    let there : root_at c.args.self.now (event_of c.args.event) ≡ Some c.in-Some.root = sym c.root.ensures ∙ c.in-Some.is in
    c.max.ensures ∙ ap (λ n. max n c.own_count.result) c.get.ensures ∙ ap (max (base_at c.args.self.now c.in-Some.root c.args.proc.number)) c.own_count.ensures
    ∙ ap (λ o. clock_over c.args.self.now (event_of c.args.event) o c.args.proc.number) (sym there)

pub returns-in-None : goal.returns-in-None
returns-in-None c =
    let none : root_at c.args.self.now (event_of c.args.event) ≡ None = sym c.root.ensures ∙ c.in-None.is in
    sym (ap (λ o. clock_over c.args.self.now (event_of c.args.event) o c.args.proc.number) none)

pub own_count-requires : goal.own_count-requires
own_count-requires c =
    let there : root_at c.args.self.now (event_of c.args.event) ≡ Some c.in-Some.root = sym c.root.ensures ∙ c.in-Some.is in
    let low = slice_get_within (items_at c.args.self.now.roots.items c.args.event.proc.number) c.args.event.at c.in-Some.root there in
    let few = c.requires c.args.event.proc.number in
    omega (arith, low, few)
