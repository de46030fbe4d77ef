use Rattle.std.proofs.Common.{◌≡◌, ◌∙◌, ap, length, vec_len, [], if◌then◌else◌, arith}
use Rattle.wire_pattern_waits.specs.LineSets.{has_line}
use Rattle.wire_pattern_waits.proofs.Replied.{all_replied}
use Rattle.wire_pattern_answers.specs.Lines.{get_now_lines}
use Rattle.wire_pattern_stages.proofs.Seen.{are_some}
use Rattle.wire_pattern_stages.proofs.cutoff.find_waiting.Goals as goal

pub returns-clause-waits : goal.returns-clause-waits
returns-clause-waits c = record {
  waits = has_line c.in_ok-seen.seen.noted;
  tells = c.in_ok-seen.ensures.waits;
  are = c.in_ok-lines.ensures;
}

pub returns-clause-replied : goal.returns-clause-replied
returns-clause-replied c = λ none.
    all_replied c.args.pattern.now c.in_ok-lines.lines.items c.roles-roles.ensures.sound c.instances_read.ensures c.requires (returns-clause-waits c) none

pub returns-clause-answers : goal.returns-clause-answers
returns-clause-answers c = λ asked settled.
    let p = c.args.pattern.now in
    let get_nows = c.in_ok-get_nows.get_nows in
    let count : vec_len get_nows ≡ length get_nows.items = omega (arith, get_nows.ok.0) in
    c.in_ok-answers.ensures
    (c.as_slice-3.ensures.value ∙ c.in_ok-get_nows.ensures ∙ ap (λ b. if b then get_now_lines p else []) asked) settled
    (λ some. c.in_ok-seen.ensures.answers
    (are_some get_nows.items (vec_len get_nows) c.is_empty.result count c.is_empty.ensures (λ none. some (c.as_slice-3.ensures.value ∙ none))) settled)
