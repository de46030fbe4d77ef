use Rattle.std.proofs.Common.{◌+◌, ◌*◌, length}
use Rattle.wire_parallel_run.proofs.threads.+workers.Given as goal

abbrev pub decreases-run_round : goal.decreases-run_round
decreases-run_round g l = 3 * length l.passes.items

abbrev pub decreases-run_beside : goal.decreases-run_beside
decreases-run_beside g l = 3 * length l.passes.items + 2

abbrev pub decreases-run_beside-scope : goal.decreases-run_beside-scope
decreases-run_beside-scope g l = 3 * length l.passes.items + 1
