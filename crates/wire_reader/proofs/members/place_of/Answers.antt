use Rattle.std.proofs.Common.{◌≡◌, ◌∙◌, ◌<◌, ◌≤◌, ◌+◌, sym, rules, length, get_or}
use Rattle.wire_reader.proofs.Standing.{stands_there, stands_nowhere, stands_past}
use Rattle.wire_reader.proofs.members.place_of.Goals as goal

pub returns-then-is_proc-clause-place : goal.returns-then-is_proc-clause-place
returns-then-is_proc-clause-place c =
    let bs = c.args.draft.now.processes.items in
    let b = c.in-Some.process.now in
    let lt : c.count_before.result + c.args.rank < length bs = search rules in
    let is : b ≡ get_or bs (c.count_before.result + c.args.rank) b = search rules in
    stands_there bs c.args.job c.args.rank c.count_before.result c.count_before.ensures.place b lt is (sym c.if-is_proc.ensures)

pub returns-else-is_proc-clause-place : goal.returns-else-is_proc-clause-place
returns-else-is_proc-clause-place c =
    let bs = c.args.draft.now.processes.items in
    let b = c.in-Some.process.now in
    let lt : c.count_before.result + c.args.rank < length bs = search rules in
    let is : b ≡ get_or bs (c.count_before.result + c.args.rank) b = search rules in
    let count : c.len-else-is_proc.result ≡ length bs = search rules in
    count ∙ stands_nowhere bs c.args.job c.args.rank c.count_before.result c.count_before.ensures.place b lt is (sym c.if-is_proc.ensures)

pub returns-in_default-clause-place : goal.returns-in_default-clause-place
returns-in_default-clause-place c =
    let bs = c.args.draft.now.processes.items in
    let past : length bs ≤ c.count_before.result + c.args.rank = search rules in
    let count : c.len.result ≡ length bs = search rules in
    count ∙ stands_past bs c.args.job c.args.rank c.count_before.result c.count_before.ensures.place past
