use Rattle.wire_report.specs.FindingLines.{race_start, key_race_rest, name_race_rest}
use Rattle.wire_report.proofs.Appended.{last_more, no_room_at_last, either_has_none, first_has_none}
use Rattle.wire_report.proofs.Parts.{key_race_words, name_race_words}
use Rattle.wire_report.proofs.findings.push_finding_after.Goals as goal

pub returns-in_err-push-in-KeyRace-clause-full : goal.returns-in_err-push-in-KeyRace-clause-full
returns-in_err-push-in-KeyRace-clause-full c =
    either_has_none c.from_residual.result _ _ _ (race_start c.args.scripts.now c.in-KeyRace.lower)
    (key_race_rest c.args.scripts.now c.in-KeyRace.higher c.in-KeyRace.owner.number c.in-KeyRace.key) _ c.in_err-push-in-KeyRace.ensures.full
    (key_race_words c.args.scripts.now c.args.finding c.in-KeyRace.lower c.in-KeyRace.higher c.in-KeyRace.owner c.in-KeyRace.key c.in-KeyRace.is)

pub returns-in_err-push-in-NameRace-clause-full : goal.returns-in_err-push-in-NameRace-clause-full
returns-in_err-push-in-NameRace-clause-full c =
    either_has_none c.from_residual-in_err-push-in-NameRace.result _ _ _ (race_start c.args.scripts.now c.in-NameRace.lower)
    (name_race_rest c.args.scripts.now c.in-NameRace.higher c.in-NameRace.name) _ c.in_err-push-in-NameRace.ensures.full
    (name_race_words c.args.scripts.now c.args.finding c.in-NameRace.lower c.in-NameRace.higher c.in-NameRace.name c.in-NameRace.is)

pub returns-in_ok-push-in-KeyRace-clause-ok : goal.returns-in_ok-push-in-KeyRace-clause-ok
returns-in_ok-push-in-KeyRace-clause-ok c =
    last_more c.push_key_race.result _ _ _ _ _ _ c.in_ok-push-in-KeyRace.ensures.ok c.push_key_race.ensures.ok
    (key_race_words c.args.scripts.now c.args.finding c.in-KeyRace.lower c.in-KeyRace.higher c.in-KeyRace.owner c.in-KeyRace.key c.in-KeyRace.is)

pub returns-in_ok-push-in-KeyRace-clause-full : goal.returns-in_ok-push-in-KeyRace-clause-full
returns-in_ok-push-in-KeyRace-clause-full c =
    first_has_none c.push_key_race.result _ _ (no_room_at_last c.push_key_race.result _ _ _ _ _ _ _ c.in_ok-push-in-KeyRace.ensures.ok c.in_ok-push-in-KeyRace.ensures.capacity c.push_key_race.ensures.full
    (key_race_words c.args.scripts.now c.args.finding c.in-KeyRace.lower c.in-KeyRace.higher c.in-KeyRace.owner c.in-KeyRace.key c.in-KeyRace.is))

pub returns-in_ok-push-in-NameRace-clause-ok : goal.returns-in_ok-push-in-NameRace-clause-ok
returns-in_ok-push-in-NameRace-clause-ok c =
    last_more c.push_name_race.result _ _ _ _ _ _ c.in_ok-push-in-NameRace.ensures.ok c.push_name_race.ensures.ok
    (name_race_words c.args.scripts.now c.args.finding c.in-NameRace.lower c.in-NameRace.higher c.in-NameRace.name c.in-NameRace.is)

pub returns-in_ok-push-in-NameRace-clause-full : goal.returns-in_ok-push-in-NameRace-clause-full
returns-in_ok-push-in-NameRace-clause-full c =
    first_has_none c.push_name_race.result _ _ (no_room_at_last c.push_name_race.result _ _ _ _ _ _ _ c.in_ok-push-in-NameRace.ensures.ok c.in_ok-push-in-NameRace.ensures.capacity c.push_name_race.ensures.full
    (name_race_words c.args.scripts.now c.args.finding c.in-NameRace.lower c.in-NameRace.higher c.in-NameRace.name c.in-NameRace.is))
