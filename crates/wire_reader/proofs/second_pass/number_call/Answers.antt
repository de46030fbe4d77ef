use Rattle.std.proofs.Common.{◌∙◌, ap, sym}
use Rattle.wire_types.specs.declared.Call.TheVariants.{Fence}
use Rattle.wire_lines.specs.Views.{view_call}
use Rattle.wire_reader.specs.Reads.{numbered}
use Rattle.wire_reader.specs.Drafted.{declared_of}
use Rattle.wire_reader.specs.Tabled.{seen_of, seen_with}
use Rattle.wire_reader.proofs.second_pass.number_call.Goals as goal

pub returns-in_ok-set-in-Fence-clause-tables : goal.returns-in_ok-set-in-Fence-clause-tables
returns-in_ok-set-in-Fence-clause-tables c =
    c.in_ok-set-in-Fence.ensures.tables
    ∙ ap (λ k. seen_with (declared_of c.args.draft.now) (seen_of c.args.numbering.now.tables) c.args.caller.now.job (view_call k)) (sym c.in-Fence.is)

pub returns-in_ok-set-in-Fence-clause-call : goal.returns-in_ok-set-in-Fence-clause-call
returns-in_ok-set-in-Fence-clause-call c = λ later goes.
    ap (λ n. Fence n c.in-Fence.collect) (c.in_ok-set-in-Fence.ensures.number later.sets goes.sets)
    ∙ ap (λ k. numbered (declared_of c.args.draft.now) later c.args.caller.now.job (view_call k)) (sym c.in-Fence.is)
