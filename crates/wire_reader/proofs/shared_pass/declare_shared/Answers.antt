use Rattle.wire_reader.specs.FirstPass.{nothing}
use Rattle.wire_reader.specs.Left.{statements_left}
use Rattle.wire_reader.proofs.Onwards.{first_progress, all_declared, one_refused}
use Rattle.wire_reader.proofs.shared_pass.declare_shared.Goals as goal

pub returns-clause-ok : goal.returns-clause-ok
returns-clause-ok g c =
    let start = nothing c.args.size c.args.version in
    all_declared start (statements_left c.args.cursor) _ (first_progress start c.new_draft.result c.new.result c.args.cursor c.new_draft.ensures c.new.ensures.items) c.declare_left.result c.declare_left.ensures.ok

pub returns-clause-err : goal.returns-clause-err
returns-clause-err g c =
    let start = nothing c.args.size c.args.version in
    one_refused start (statements_left c.args.cursor) _ (first_progress start c.new_draft.result c.new.result c.args.cursor c.new_draft.ensures c.new.ensures.items) c.declare_left.result c.declare_left.ensures.err
