use Rattle.std.proofs.Common.{◌∙◌, ap, sym, arith}
use Rattle.wire_scripts.specs.Scripts.{Process}
use Rattle.std.proofs.lemmas.List.{get_or_read}
use Rattle.wire_procmap.specs.Tallies.{job_of, node_of, both_of}
use Rattle.wire_procmap.proofs.Rows.{nobody, job_there, node_there, row_is}
use Rattle.wire_procmap.proofs.Tallies.{few_counted, counted_on}
use Rattle.wire_procmap.proofs.row.Counts.row_of.Goals as goal

pub returns-clause-row : goal.returns-clause-row
returns-clause-row c =
    let processes = c.args.processes.now in
    let of_job = c.job-job.ensures ∙ ap (λ (q : Process). q.job) c.index-processes-index.is ∙ sym (job_there processes c.args.index _ c.requires.there) in
    let of_node = c.node-node.ensures ∙ ap (λ (q : Process). q.node) c.index-processes-index-2.is ∙ sym (node_there processes c.args.index _ c.requires.there) in
    row_is processes c.args.index _ _ _ _ _ _ of_job of_node
    (c.in_ok-rank.ensures.before ∙ c.requires.before.jobs (0, c.job-job.result))
    (c.in_ok-local_rank.ensures.before ∙ c.requires.before.both (c.job-job.result, c.node-node.result))
    (c.in_ok-node_rank.ensures.before ∙ c.requires.before.nodes (0, c.node-node.result))
    (c.count.ensures ∙ c.requires.sizes (0, c.job-job.result))

pub returns-clause-counted : goal.returns-clause-counted
returns-clause-counted c =
    let processes = c.args.processes.now in
    let n = c.args.index in
    let there = c.requires.there in
    let of_job = c.job-job.ensures ∙ ap (λ (q : Process). q.job) (get_or_read processes n c.index-processes-index.result there c.index-processes-index.is nobody) in
    let of_node = c.node-node.ensures ∙ ap (λ (q : Process). q.node) (get_or_read processes n c.index-processes-index-2.result there c.index-processes-index-2.is nobody) in
    record {
      jobs = counted_on job_of processes n c.args.self.now.jobs c.add.new.self (0, c.job-job.result) there (ap (λ j. (0, j)) of_job) c.in_ok-rank.ensures.here c.in_ok-rank.ensures.others
          c.requires.before.jobs;
      nodes = counted_on node_of processes n c.args.self.now.nodes c.add-3.new.self (0, c.node-node.result) there (ap (λ j. (0, j)) of_node) c.in_ok-node_rank.ensures.here
          c.in_ok-node_rank.ensures.others c.requires.before.nodes;
      both = counted_on both_of processes n c.args.self.now.both c.add-2.new.self (c.job-job.result, c.node-node.result) there (λ i. (of_job i, of_node i)) c.in_ok-local_rank.ensures.here
          c.in_ok-local_rank.ensures.others c.requires.before.both;
    }

pub add-requires : goal.add-requires
add-requires c = few_counted job_of c.args.processes.now c.args.index c.args.self.now.jobs (0, c.job-job.result) (omega (arith, c.requires.there)) c.requires.few c.requires.before.jobs

pub add-requires-2 : goal.add-requires-2
add-requires-2 c =
    few_counted both_of c.args.processes.now c.args.index c.args.self.now.both (c.job-job.result, c.node-node.result) (omega (arith, c.requires.there)) c.requires.few c.requires.before.both

pub add-requires-3 : goal.add-requires-3
add-requires-3 c = few_counted node_of c.args.processes.now c.args.index c.args.self.now.nodes (0, c.node-node.result) (omega (arith, c.requires.there)) c.requires.few c.requires.before.nodes
