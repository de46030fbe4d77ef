use Rattle.std.proofs.Common.{ap, map}
use Rattle.wire_instances.specs.Views.{cast_by, choice_by}
use Rattle.wire_cutoff.proofs.FewCasts.{cast_moved}
use Rattle.wire_cutoff.proofs.FoundIn.{shown_by}
use Rattle.wire_cutoff.proofs.Pairs.{settled_like}
use Rattle.wire_cutoff.proofs.counterexample.find_on.Goals as goal

pub instance_scripts-requires : goal.instance_scripts-requires
instance_scripts-requires g c =
    cast_moved c.args.pattern.now c.args.cast.now c.in_ok-placed.placed c.args.nodes c.note_sound.ensures c.requires.cast c.in_ok-placed.ensures.sizes
    c.in_ok-placed.ensures.nodes c.requires.nodes c.requires.used

pub returns-clause-found : goal.returns-clause-found
returns-clause-found g c =
    shown_by c.args.pattern.now (cast_by c.args.cast.now) c.in_ok-placed.placed c.in_ok-text.text c.in_ok-text.scripts c.find_in.result
    (cast_moved c.args.pattern.now c.args.cast.now c.in_ok-placed.placed c.args.nodes c.note_sound.ensures c.requires.cast c.in_ok-placed.ensures.sizes
    c.in_ok-placed.ensures.nodes c.requires.nodes c.requires.used)
    (c.in_ok-placed.ensures.sizes, ap (map choice_by) c.in_ok-placed.ensures.chosen) c.in_ok-text.ensures.text c.in_ok-text.ensures.reads c.find_in.ensures.ok

pub returns-clause-settled : goal.returns-clause-settled
returns-clause-settled g c = λ e.
    settled_like c.args.pattern.now (cast_by c.args.cast.now) c.in_ok-placed.placed c.args.nodes c.in_ok-text.scripts c.note_sound.ensures
    (cast_moved c.args.pattern.now c.args.cast.now c.in_ok-placed.placed c.args.nodes c.note_sound.ensures c.requires.cast c.in_ok-placed.ensures.sizes
    c.in_ok-placed.ensures.nodes c.requires.nodes c.requires.used)
    (c.in_ok-placed.ensures.sizes, ap (map choice_by) c.in_ok-placed.ensures.chosen) c.in_ok-placed.ensures.nodes c.in_ok-text.ensures.reads
    (c.find_in.ensures.settled e)
