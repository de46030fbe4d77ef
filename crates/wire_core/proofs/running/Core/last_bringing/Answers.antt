use Rattle.std.proofs.Common.{◌∙◌, ◌-◌, ap, sym, arith}
use Rattle.wire_runs.specs.Plan.{event_count}
use Rattle.wire_runs.specs.Sight.{delivered}
use Rattle.wire_runs.specs.Step.{run}
use Rattle.wire_core.specs.Course.{plan_in}
use Rattle.wire_core.proofs.Bring.{delivered_done, delivered_still, done_within, look_of, or_nothing}
use Rattle.wire_core.proofs.running.Core.last_bringing.Goals as goal

pub last_between-requires-clause-within : goal.last_between-requires-clause-within
last_between-requires-clause-within c =
    let done = c.requires in
    let within = done_within (plan_in c.args.self.now) c.args.self.now.history c.args.owner.number c.history.ensures.legal in
    (omega (arith, done, within))

pub last_between-requires-2-clause-within : goal.last_between-requires-2-clause-within
last_between-requires-2-clause-within c =
    let done = c.requires in
    let within = done_within (plan_in c.args.self.now) c.args.self.now.history c.args.owner.number c.history.ensures.legal in
    let seen = c.look_to-look.ensures.within in
    let last = c.look_to-look.ensures.look.last_seen in
    (omega (arith, done, within, seen, last))

pub last_between-requires-3-clause-within : goal.last_between-requires-3-clause-within
last_between-requires-3-clause-within c =
    let done = c.requires in
    let within = done_within (plan_in c.args.self.now) c.args.self.now.history c.args.owner.number c.history.ensures.legal in
    let seen = c.look_to-look.ensures.within in
    let last = c.look_to-look.ensures.look.last_seen in
    let before = c.look_to-look.ensures.look.before_last in
    (omega (arith, done, within, seen, last, before))

pub returns-in-Some-clause-told : goal.returns-in-Some-clause-told
returns-in-Some-clause-told c key =
    let plan = plan_in c.args.self.now in
    let w = c.args.self.now.history in
    let cut = (run plan w).done in
    let p = c.args.owner.number in
    let done = c.requires in
    let told = (c.in-Some.ensures.told key) in
    (delivered_done plan cut p c.args.node key (event_count plan p) (done_within plan w p c.history.ensures.legal) ∙ ap (delivered plan cut p c.args.node key) (sym done) ∙ told)

pub returns-in-Some-last_between-clause-told : goal.returns-in-Some-last_between-clause-told
returns-in-Some-last_between-clause-told c key =
    let plan = plan_in c.args.self.now in
    let w = c.args.self.now.history in
    let cut = (run plan w).done in
    let p = c.args.owner.number in
    let done = c.requires in
    let told = (c.in-Some-last_between.ensures.told key) in
    (delivered_done plan cut p c.args.node key (event_count plan p) (done_within plan w p c.history.ensures.legal) ∙ ap (delivered plan cut p c.args.node key) (sym done) ∙ told)

pub returns-in-Some-last_between-2-clause-told : goal.returns-in-Some-last_between-2-clause-told
returns-in-Some-last_between-2-clause-told c key =
    let plan = plan_in c.args.self.now in
    let w = c.args.self.now.history in
    let cut = (run plan w).done in
    let p = c.args.owner.number in
    let look = c.look_to-look.result in
    let is = c.look_to-look.ensures.look in
    let idle = look_of plan look c.args.owner c.args.node is c.look_to-look.ensures.owner c.look_to-look.ensures.node in
    let done = c.requires in
    let first = (c.in_default-last_between.ensures.told key) in
    let second = (c.in-Some-last_between-2.ensures.told key) in
    (delivered_done plan cut p c.args.node key (event_count plan p) (done_within plan w p c.history.ensures.legal) ∙ ap (delivered plan cut p c.args.node key) (sym done) ∙ first
    ∙ delivered_still plan cut p c.args.node key look.last look.seen idle.0 is.last_seen ∙ second)

pub returns-clause-told : goal.returns-clause-told
returns-clause-told c key =
    let plan = plan_in c.args.self.now in
    let w = c.args.self.now.history in
    let cut = (run plan w).done in
    let p = c.args.owner.number in
    let look = c.look_to-look.result in
    let is = c.look_to-look.ensures.look in
    let idle = look_of plan look c.args.owner c.args.node is c.look_to-look.ensures.owner c.look_to-look.ensures.node in
    let done = c.requires in
    let first = (c.in_default-last_between.ensures.told key) in
    let second = (c.in_default-last_between-2.ensures.told key) in
    let third = (c.last_between-3.ensures.told key) in
    (delivered_done plan cut p c.args.node key (event_count plan p) (done_within plan w p c.history.ensures.legal) ∙ ap (delivered plan cut p c.args.node key) (sym done) ∙ first
    ∙ delivered_still plan cut p c.args.node key look.last look.seen idle.0 is.last_seen ∙ second
    ∙ ap (delivered plan cut p c.args.node key) c.saturating_sub-next.ensures
    ∙ delivered_still plan cut p c.args.node key look.before (look.last - 1) idle.1 is.before_last ∙ third
    ∙ or_nothing plan p key c.last_between-3.result)
