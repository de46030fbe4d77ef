use Rattle.wire_instances.specs.Views.{cast_by}
use Rattle.wire_cutoff.proofs.Largest.{largest, largest_is, largest_read, largest_fault, told_on}
use Rattle.wire_cutoff.proofs.Used.{alone_used}
use Rattle.wire_cutoff.proofs.limits.judge_text.Goals as goal

pub instance_scripts-requires : goal.instance_scripts-requires
instance_scripts-requires c =
    largest c.args.pattern.now (record { sizes = c.args.sizes; chosen = c.new.result; nodes = c.in_ok-nodes.nodes }) c.args.total c.note_sound.ensures c.requires.most
    c.requires.total c.requires.few c.in_ok-nodes.ensures.nodes (alone_used c.args.total c.in_ok-nodes.nodes c.in_ok-nodes.ensures.nodes c.in_ok-nodes.ensures.alone)

pub returns-in_err-text-clause-err : goal.returns-in_err-text-clause-err
returns-in_err-text-clause-err c =
    told_on c.from_residual-in_err-text.result c.in_err-text.field-0.0 _ c.from_residual-in_err-text.ensures.1
    (largest_fault c.args.pattern.now (cast_by (record { sizes = c.args.sizes; chosen = c.new.result; nodes = c.in_ok-nodes.nodes })) c.in_err-text.field-0.0
    (largest_is c.args.pattern.now (record { sizes = c.args.sizes; chosen = c.new.result; nodes = c.in_ok-nodes.nodes }) c.args.total c.requires.most c.new.ensures.items
    c.requires.total c.in_ok-nodes.ensures.nodes c.in_ok-nodes.ensures.alone) c.in_err-text.ensures.own)

pub returns-clause-ok : goal.returns-clause-ok
returns-clause-ok c =
    largest_read c.args.pattern.now (cast_by (record { sizes = c.args.sizes; chosen = c.new.result; nodes = c.in_ok-nodes.nodes })) c.in_ok-text.scripts
    (largest_is c.args.pattern.now (record { sizes = c.args.sizes; chosen = c.new.result; nodes = c.in_ok-nodes.nodes }) c.args.total c.requires.most c.new.ensures.items
    c.requires.total c.in_ok-nodes.ensures.nodes c.in_ok-nodes.ensures.alone) c.in_ok-text.ensures.reads
