-- Whether every call of an instance succeeds, on the nodes where its processes are and on one.
use Rattle.std.proofs.Common.{◌≡◌, ◌∙◌, ap, sym, subst, ℕ, ◌<◌, ◌^◌, [], ◌&&◌, Bool, true, false, Some, inl, inr, ◌↔◌}
use Rattle.std.specs.Prelude.{slice_get}
use Rattle.std.proofs.lemmas.Bool.{cases_Bool, true≢false}
use Rattle.wire_runs.specs.Placings.{IsSettledAnywhere}
use Rattle.wire_scripts.specs.Placed.{placed}
use Rattle.wire_scripts.specs.Planned.{plan_of}
use Rattle.wire_scripts.specs.Scripts.{Scripts}
use Rattle.wire_reader.specs.declared.Size.TheVariants.{OfVersion}
use Rattle.wire_pattern.specs.Pattern.{Pattern}
use Rattle.wire_pattern.specs.Lawful.{IsSoundPattern}
use Rattle.wire_pattern.specs.Instances.{IsCast}
use Rattle.wire_instances.proofs.Groups.{length_roles}
use Rattle.wire_instance_laws.specs.Reading.{InstancesRead, IsOfCast}
use Rattle.wire_cutoff_laws.specs.Promised.{IsSettledForAll}
use Rattle.wire_cutoff_laws.specs.Sizes.{AreFewSizes, total_of}
use Rattle.wire_cutoff.specs.Selections.{Selection, selections, most_sizes}
use Rattle.wire_cutoff.proofs.Selected.{selections_are, selections_few}
use Rattle.wire_pattern_waits.specs.Waits.{alone, AllReadAsPlans, ReadsAsPlan}
use Rattle.wire_pattern_waits.proofs.Replied.{alone_cast}
use Rattle.wire_pattern_answers.proofs.Settled.{have_least, settled_on_all}
use Rattle.wire_pattern_stages.specs.Succeeding.{all_succeed, some_puts_remote, SomeFailsApart, SomePutsRemote}
use Rattle.wire_pattern_commands.specs.Succeeding.{IsSelectionTold, SomeFails, AllSucceed, SucceedTogether, AllSucceedApart}

-- what is told by a value is told by an equal one
pub told_as : (p : Pattern) (s : Selection) (succeeding other : Bool) → succeeding ≡ other → IsSelectionTold p s succeeding → IsSelectionTold p s other
told_as p s succeeding other is told = subst (IsSelectionTold p s) is told

-- a selection that fails is one of those that are judged
pub one_fails : (p : Pattern) (number : ℕ) (s : Selection) (succeeding : Bool) → slice_get (selections p) number ≡ Some s → succeeding ≡ false
    → IsSelectionTold p s succeeding → SomeFails p
one_fails p number s succeeding at is told = record { number = number; selection = s; is = at; fails = told_as p s succeeding false is told }

-- what fails with each process on a node of its own fails
pub fails_apart : (p : Pattern) → SomeFailsApart p → SomeFails p
fails_apart p f = record {
  number = f.number;
  selection = f.selection;
  is = f.is;
  fails = record {
    scripts = f.fails.scripts;
    reads = f.fails.reads;
    is = sym (ap (λ b. b && all_succeed (placed f.fails.scripts [])) f.fails.fails);
  };
}

-- where nothing does, each succeeds
pub succeed_apart : (p : Pattern) (failing : Bool) → (failing ≡ true) ↔ SomeFailsApart p → failing ≡ false → AllSucceedApart p
succeed_apart p failing told none number selection is scripts reads = elim (cases_Bool (all_succeed scripts)) [
  | inl t ↦ t
  | inr f ↦
      absurd (true≢false (sym (told.1 (record { number = number; selection = selection; is = is; fails = record { scripts = scripts; reads = reads; fails = f } })) ∙ none))
]

-- and where no key is put for other nodes alone, each succeeds on one node too
pub all_succeed_too : (p : Pattern) (remote : Bool) → IsSoundPattern p → InstancesRead → SucceedTogether → IsSettledForAll p → total_of (most_sizes p.roles) < 2 ^ 31
    → AllReadAsPlans p → AllSucceedApart p → (remote ≡ true) ↔ SomePutsRemote p → remote ≡ false → AllSucceed p
all_succeed_too p remote sound read together settled few plans apart told none number selection is = record {
  scripts = s;
  reads = plan.1;
  is =
      sym (ap (λ b. b && all_succeed (placed s [])) here
      ∙ together s everywhere no_remote here);
}
  where
    plan : ReadsAsPlan p selection
    plan = plans number selection is

    s : Scripts
    s = plan.0

    here : all_succeed s ≡ true
    here = apart number selection is s plan.1

    no_remote : some_puts_remote s ≡ false
    no_remote = elim (cases_Bool (some_puts_remote s)) [
      | inl t ↦
          absurd (true≢false (sym (told.1 (record { number = number; selection = selection; is = is; puts = record { scripts = s; reads = plan.1; puts = t } })) ∙ none))
      | inr f ↦ f
    ]

    sizes : AreFewSizes p.roles selection.sizes
    sizes = selections_are p number selection is

    is_cast : IsCast p (alone p selection)
    is_cast = alone_cast p selection sound sizes (selections_few p number selection is few)

    of : IsOfCast p (alone p selection) s
    of = read p (alone p selection) OfVersion s sound is_cast plan.1

    everywhere : IsSettledAnywhere (plan_of s)
    everywhere = settled_on_all p (alone p selection) s settled is_cast (have_least p.roles selection.sizes sizes) of (length_roles 0 selection.sizes)
