use Rattle.std.proofs.Common.{◌≡◌, length, map, replicate}
use Rattle.wire_scripts.specs.Scripts.{numbers_of}
use Rattle.wire_fence.specs.Register.{IsKeyed, number_kept}
use Rattle.wire_fence.proofs.States.{AllRead}
use Rattle.wire_fence.proofs.register.Register.read_all.Given as goal

abbrev pub invariant-loop-process : goal.invariant-loop-process
invariant-loop-process l = record {
  zeros : l.counts.items ≡ replicate (length l.sets) 0;
  keyed : IsKeyed l.self;
  all : AllRead l.self.rows.items (map (λ v. numbers_of v.items) l.sets) l.processes (map (λ v. map number_kept v.items) l.numbers.items) l.process-index;
}
