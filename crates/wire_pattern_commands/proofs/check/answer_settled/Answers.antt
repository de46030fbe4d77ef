use Rattle.std.proofs.Common.{◌≡◌, ◌∙◌, ◌&&◌, true, ap, subst, List}
use Rattle.wire_pattern_waits.specs.declared.lines.CallLine.{CallLine}
use Rattle.wire_pattern_answers.specs.declared.answers.LineAnswers.{LineAnswers}
use Rattle.wire_pattern_commands.specs.CheckPattern.{settled_form, settled_end}
use Rattle.wire_pattern_commands.specs.Beyond.{is_known_answered}
use Rattle.wire_pattern_commands.specs.Succeeding.{IsSuccessTold}
use Rattle.wire_pattern_commands.proofs.FoundBeyond.{is_beyond}
use Rattle.wire_pattern_commands.proofs.check.answer_settled.Goals as goal

pub returns-clause-ok : goal.returns-clause-ok
returns-clause-ok c =
    let p = c.args.pattern.now in
    let asked = c.args.asked in
    let beyond = c.in_ok-beyond.beyond in
    let lines : List CallLine = c.in_ok-waiting.waiting.lines.items in
    let answers : List LineAnswers = c.in_ok-waiting.waiting.answers.items in
    let succeeding = c.in_ok-succeeding.succeeding in
    let exact = c.are_exact-exact.result in
    record {
      lines = lines;
      waiting = c.in_ok-waiting.ensures.waits;
      read = c.in_ok-waiting.ensures.read;
      replied = c.in_ok-waiting.ensures.replied;
      beyond_is =
          is_beyond p lines beyond c.note_sound.ensures c.requires.settled c.requires.few c.in_ok-waiting.ensures.read c.in_ok-waiting.ensures.replied
          c.all_answered.ensures c.texts_answered.ensures
          c.in_ok-beyond.ensures.ok;
      answers = answers;
      succeeding = succeeding;
      told = subst (λ known. asked.complete && known ≡ true → IsSuccessTold p succeeding) c.is_known_answered-known.ensures c.in_ok-succeeding.ensures.ok;
      answered = λ given. c.in_ok-waiting.ensures.answers (c.needs_answers.ensures ∙ given) c.requires.settled;
      exact = exact;
      suffices = c.are_exact-exact.ensures.suffices;
      known = c.are_exact-exact.ensures.known;
      is = c.in_ok-text.ensures ∙ ap (λ ls. settled_form asked beyond exact p ls c.as_slice.result.now) c.as_slice-2.ensures.value
          ∙ ap (settled_form asked beyond exact p lines) c.as_slice.ensures.value;
      ends =
          c.settled_end-ended.ensures ∙ ap (λ known. settled_end asked known succeeding c.as_slice-3.result.now c.as_slice.result.now) c.is_known_answered-known.ensures
          ∙ ap (λ ls. settled_end asked (is_known_answered beyond) succeeding ls c.as_slice.result.now) c.as_slice-3.ensures.value
          ∙ ap (settled_end asked (is_known_answered beyond) succeeding lines) c.as_slice.ensures.value;
    }
