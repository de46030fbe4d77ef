-- The answers of the instances that are judged are those of instances of any size.
use Rattle.std.proofs.Common.{◌≡◌, subst, ℕ, pred, List, length, true, ◌<◌, inl, inr, arith}
use Rattle.std.proofs.lemmas.Bool.{cases_Bool}
use Rattle.std.proofs.lemmas.Option.{slice_get_within}
use Rattle.wire_types.specs.Said.{is_reserved}
use Rattle.wire_runs.specs.Plan.{process_count}
use Rattle.wire_runs.specs.Races.{IsSettled}
use Rattle.wire_scripts.specs.Scripts.{text_at, call_at}
use Rattle.wire_scripts.specs.Planned.{plan_of}
use Rattle.wire_pattern.specs.Instances as text
use Rattle.wire_pattern.specs.Instances.{cast_of}
use Rattle.wire_instances.proofs.Groups.{length_roles}
use Rattle.wire_instance_laws.specs.Reading.{IsOfCast}
use Rattle.wire_instance_laws.proofs.Read.{instances_read}
use Rattle.wire_cutoff.proofs.Texts.{texts_settled}
use Rattle.wire_pattern_answers.specs.Answers.{Answers}
use Rattle.wire_answer_laws.specs.AnySize.{AnswersOfSmall}
use Rattle.wire_answer_laws.proofs.AskedLines.{AsksFor}
use Rattle.wire_answer_laws.proofs.Calls.{AsksPlainly}
use Rattle.wire_answer_laws.proofs.Large.{large_small}
use Rattle.wire_answer_laws.proofs.Reserved.{asked, reserved_answers}
use Rattle.wire_answer_laws.proofs.Small.{line_from_one, small_answer}

pub answers_of_small : AnswersOfSmall
answers_of_small p all cast size s is_cast least reads role line status a =
    of_get_now _ (asked p all cast size s is_cast least reads role line status a)
    (reserved_answers p all cast size s is_cast least reads role line status a here low)
  where
    of : IsOfCast p cast s
    of = instances_read p cast size s all.sound is_cast reads

    here : IsSettled (plan_of s)
    here = (texts_settled p cast size s all.sound all.settled is_cast least reads).0

    low : a.process < process_count (plan_of s)
    low =
        let within = slice_get_within (cast_of cast).roles a.process role a.has_role in
        let count : length (cast_of cast).roles ≡ text.process_count cast = length_roles 0 cast.sizes in
        omega (arith, within, count, of.count)

    of_small : AsksPlainly s (call_at s.processes a.process a.call) → Answers p role line status
    of_small plainly =
        let small = large_small p all.sound all.settled cast s is_cast least of here role line status a plainly in
        let b = small_answer p all role (pred line) status small in
        let from = line_from_one p cast a.process role a.call line a.of_line in
        let same : b.line ≡ line = (let e = b.same in let from_there = b.from_one in omega (arith, from, from_there, e)) in
        subst (λ l. Answers p role l status) same b.answers

    of_get_now : (text : List ℕ) (get_now : AsksFor s a.process a.call text) → (is_reserved (text_at s.keys get_now.key) ≡ true → Answers p role line status)
        → Answers p role line status
    of_get_now text get_now of_reserved = elim (cases_Bool (is_reserved (text_at s.keys get_now.key))) [
      | inl reserved ↦ of_reserved reserved
      | inr plain ↦ of_small (record { owner = get_now.owner; key = get_now.key; is = get_now.is; plain = plain })
    ]
