use Rattle.std.proofs.Common.{◌≡◌, ◌∙◌, ap, sym, subst, Ok}
use Rattle.wire_scripts.specs.Scripts.{IsSound}
use Rattle.wire_reader.specs.Reads.{Seen, unless_fault}
use Rattle.wire_reader.specs.Drafted.{declared_of}
use Rattle.wire_reader.specs.Tabled.{scripts_said, seen_of}
use Rattle.wire_reader.proofs.Sound.{scripts_are, sound_parts, second_fault}
use Rattle.wire_reader.proofs.Notes.{none_noted}
use Rattle.wire_reader.proofs.second_pass.scripts_of.Goals as goal

pub number_processes-requires-clause-noted : goal.number_processes-requires-clause-noted
number_processes-requires-clause-noted c = none_noted (declared_of c.args.draft) _ _ c.new-2.ensures

pub into_scripts-requires : goal.into_scripts-requires
into_scripts-requires c =
    let d = c.args.draft in
    let same : seen_of c.into_tables.result ≡ seen_of c.number_processes.new.numbering.tables = ap seen_of c.into_tables.ensures in
    subst (λ (s : Seen). IsSound (scripts_said d.version d.keeps d.nodes d.jobs s c.in-Ok.processes.items)) (sym same)
    (sound_parts (declared_of d) (seen_of c.number_processes.new.numbering.tables) c.in-Ok.processes.items
    c.in-Ok.ensures.tables c.in-Ok.ensures.processes c.requires.within c.requires.declared c.in-Ok.ensures.ok)

pub returns-in_ok-into_scripts-in-Ok-clause-ok : goal.returns-in_ok-into_scripts-in-Ok-clause-ok
returns-in_ok-into_scripts-in-Ok-clause-ok c =
    let d = c.args.draft in
    let same : seen_of c.into_tables.result ≡ seen_of c.number_processes.new.numbering.tables = ap seen_of c.into_tables.ensures in
    ap (unless_fault (declared_of d)) c.in-Ok.ensures.ok
    ∙ ap Ok (sym (c.in_ok-into_scripts-in-Ok.ensures
    ∙ ap (λ (s : Seen). scripts_said d.version d.keeps d.nodes d.jobs s c.in-Ok.processes.items) same
    ∙ scripts_are (declared_of d) (seen_of c.number_processes.new.numbering.tables) c.in-Ok.processes.items c.in-Ok.ensures.tables c.in-Ok.ensures.processes))

pub returns-in-Err-clause-err : goal.returns-in-Err-clause-err
returns-in-Err-clause-err c = second_fault (declared_of c.args.draft) c.in-Err.fault c.in-Err.ensures.err
