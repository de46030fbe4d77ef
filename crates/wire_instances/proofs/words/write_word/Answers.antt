use Rattle.std.proofs.Common.{◌∙◌, ◌++◌, ap, sym}
use Rattle.std.proofs.lemmas.Result.{on_ok_weaker}
use Rattle.wire_runs.specs.Patterns as plan
use Rattle.wire_pattern.specs.Instances.{cast_of, process_text}
use Rattle.wire_pattern.specs.Views.{who_by}
use Rattle.wire_instances.proofs.Texts.{indexed_word}
use Rattle.wire_instances.proofs.words.write_word.Goals as goal

pub returns-in_ok-write_who-in-Some : goal.returns-in_ok-write_who-in-Some
returns-in_ok-write_who-in-Some c =
    let f = c.args.frame.now in
    on_ok_weaker c.write_others.result
    (λ e. indexed_word who_by (λ w. process_text f.pattern f.cast (plan.who (cast_of f.cast) c.args.calling.caller c.args.calling.each w)) c.args.word.now.base.items c.args.word.now.indices.items
    c.in-Some.first.now c.in-Some.others.now c.args.out.now.items c.extend_from_slice.new.self.items c.push.new.self.items c.write_who.new.out.items c.write_others.new.out.items
    (sym c.deref.ensures.value ∙ c.in-Some.ensures.cases.0) (c.in_ok-extend_from_slice.ensures.items ∙ ap (λ t. c.args.out.now.items ++ t) c.as_slice.ensures.value) c.in_ok-push-in-Some.ensures.items c.in_ok-write_who-in-Some.ensures e)
    c.write_others.ensures
