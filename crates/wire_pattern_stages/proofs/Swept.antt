-- Of one selection, and of all.
use Rattle.std.proofs.Common.{◌≡◌, ◌∙◌, ◌↔◌, ◌&&◌, ap, sym, subst, refl, Bool, true, false, true≢false, not, Ok, Result, Err}
use Rattle.wire_types.specs.declared.Fault.{Fault}
use Rattle.wire_scripts.specs.Scripts.{Scripts}
use Rattle.wire_scripts.specs.Planned.{plan_of}
use Rattle.wire_reader.specs.declared.Size.TheVariants.{OfVersion}
use Rattle.wire_reader.specs.Reads.{Reads, ReadsOnce}
use Rattle.wire_pattern.specs.Pattern.{Pattern}
use Rattle.wire_pattern.specs.Planned.{pattern_of}
use Rattle.wire_pattern.specs.Instances.{Cast, cast_of, instance_text}
use Rattle.wire_size_laws.specs.Stages.{Stages}
use Rattle.wire_cutoff.specs.Selections.{Selection}
use Rattle.wire_pattern_waits.specs.Waits.{alone}
use Rattle.wire_reply_laws.specs.Kept.{KeepsStages}
use Rattle.wire_size_laws.specs.Answered.{WaitsForOne}
use Rattle.wire_pattern_stages.specs.Staged.{SelectionKeeps}
use Rattle.wire_pattern_stages.specs.Lookups.{SelectionWaitsForOne}
use Rattle.wire_pattern_stages.specs.Succeeding.{all_succeed, some_puts_remote, FailsIn, PutsRemoteIn}

abbrev read_or : Scripts → Result Scripts Fault → Scripts
read_or other (Ok scripts) = scripts
read_or other (Err fault) = other

pub selection_kept : (p : Pattern) (stages : Stages) (s : Selection) (cast : Cast) (scripts : Scripts) → ReadsOnce → cast ≡ alone p s
    → Reads OfVersion (instance_text p cast) (Ok scripts) → KeepsStages stages (pattern_of p) (cast_of cast) (plan_of scripts) → SelectionKeeps p stages s
selection_kept p stages s cast scripts once is reads keeps other other_reads =
    let read_alone : Reads OfVersion (instance_text p (alone p s)) (Ok scripts) = subst (λ c. Reads OfVersion (instance_text p c) (Ok scripts)) is reads in
    let same : scripts ≡ other = ap (read_or scripts) (once OfVersion (instance_text p (alone p s)) (Ok scripts) (Ok other) read_alone other_reads) in
    subst (λ t. KeepsStages stages (pattern_of p) (cast_of (alone p s)) (plan_of t)) same (subst (λ c. KeepsStages stages (pattern_of p) (cast_of c) (plan_of scripts)) is keeps)

pub left_of : (a b : Bool) → a && b ≡ true → a ≡ true
left_of true b e = refl
left_of false b e = cc

pub right_of : (a b : Bool) → a && b ≡ true → b ≡ true
right_of true b e = e
right_of false b e = cc

pub both_of : (a b : Bool) → a ≡ true → b ≡ true → a && b ≡ true
both_of true b one other = other
both_of false b one other = absurd (true≢false (sym one))

not_true : (b : Bool) → not b ≡ true → b ≡ false
not_true true e = cc
not_true false e = refl

module _ (p : Pattern) (s : Selection) (cast : Cast) (scripts : Scripts) (once : ReadsOnce) (is : cast ≡ alone p s)
    (reads : Reads OfVersion (instance_text p cast) (Ok scripts)) where
  read_alone : Reads OfVersion (instance_text p (alone p s)) (Ok scripts)
  read_alone = subst (λ c. Reads OfVersion (instance_text p c) (Ok scripts)) is reads

  same_scripts : (other : Scripts) → Reads OfVersion (instance_text p (alone p s)) (Ok other) → other ≡ scripts
  same_scripts other other_reads = ap (read_or scripts) (once OfVersion (instance_text p (alone p s)) (Ok other) (Ok scripts) other_reads read_alone)

  -- whether each lookup-wait there is of a name that is published once
  pub selection_waits : (told : Bool) → (told ≡ true) ↔ WaitsForOne (plan_of scripts) → (told ≡ true) ↔ SelectionWaitsForOne p s
  selection_waits told is_told = (
    (λ h other other_reads. subst (λ t. WaitsForOne (plan_of t)) (sym (same_scripts other other_reads)) (is_told.0 h)),
    (λ all. is_told.1 (all scripts read_alone)),
  )

  -- whether a call fails there
  pub selection_fails : (told : Bool) → told ≡ not (all_succeed scripts) → (told ≡ true) ↔ FailsIn p s
  selection_fails told told_is = (
    (λ h. record { scripts = scripts; reads = read_alone; fails = not_true _ (sym told_is ∙ h) }),
    (λ x. told_is ∙ ap not (sym (ap all_succeed (same_scripts x.scripts x.reads)) ∙ x.fails)),
  )

  -- whether a key is put for other nodes alone
  pub selection_puts : (told : Bool) → told ≡ some_puts_remote scripts → (told ≡ true) ↔ PutsRemoteIn p s
  selection_puts told told_is = (
    (λ h. record { scripts = scripts; reads = read_alone; puts = sym told_is ∙ h }),
    (λ x. told_is ∙ sym (ap some_puts_remote (same_scripts x.scripts x.reads)) ∙ x.puts),
  )
