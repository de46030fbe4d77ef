-- Where the judged instances are answered and keep stages, every call of every instance is answered.
use Rattle.std.proofs.Common.{sym, subst, length}
use Rattle.wire_runs.specs.State.{State, IsDone}
use Rattle.wire_runs.specs.Patterns as plan
use Rattle.wire_runs.specs.Patterns.{Coding, instance_of}
use Rattle.wire_runs.proofs.PlainRun.{plain_runs}
use Rattle.wire_pattern.specs.Pattern.{Pattern}
use Rattle.wire_pattern.specs.Planned.{pattern_of, least_of}
use Rattle.wire_pattern.proofs.Lawful.{sound_is_lawful}
use Rattle.wire_size_laws.specs.Answered.{WaitsForOne, IsAnswered}
use Rattle.wire_size_laws.specs.Stages.{Stages}
use Rattle.wire_size_laws.proofs.AllSizes.{staged_answered, all_wait_for_one}
use Rattle.wire_cutoff_laws.specs.Promised.{IsAnyCast}
use Rattle.wire_cutoff_laws.proofs.Few.{most_at, three}
use Rattle.wire_reply_laws.specs.Promised.{KeepsPromise, AllAnswered}
use Rattle.wire_reply_laws.proofs.Judged.{staged_well}

module _ (p : Pattern) (stages : Stages) (all : KeepsPromise p stages) (coding : Coding) (cast : plan.Cast) (any : IsAnyCast p cast) where
  pub answered : IsAnswered (instance_of (pattern_of p) coding cast)
  answered =
      staged_answered stages (pattern_of p) coding (length p.roles) (least_of p) (λ role. most_at (least_of p role)) (sound_is_lawful p all.sound) (λ role lt. three (least_of p role))
      (λ c is in_order least. all.settled coding c (record { is = is; in_order = in_order; least = least }))
      (λ c is in_order least most. staged_well p stages all coding c (record { is = is; in_order = in_order; least = least }) most)
      cast any.is any.in_order any.least

  pub wait_for_one : WaitsForOne (instance_of (pattern_of p) coding cast)
  wait_for_one =
      all_wait_for_one stages (pattern_of p) coding (length p.roles) (least_of p) (λ role. most_at (least_of p role)) (sound_is_lawful p all.sound) (λ role lt. three (least_of p role))
      (λ c is in_order least. all.settled coding c (record { is = is; in_order = in_order; least = least }))
      (λ c is in_order least most. staged_well p stages all coding c (record { is = is; in_order = in_order; least = least }) most)
      cast any.is any.in_order any.least

pub all_answered : AllAnswered
all_answered p stages all coding cast any w legal ends y k is =
    subst (λ (s : State). IsDone s y) (sym ((plain_runs (instance_of (pattern_of p) coding cast)).is_the_end (all.settled coding cast any) w legal ends))
    (answered p stages all coding cast any y k is)
