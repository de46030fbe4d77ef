-- A get-now line is answered with three statuses alone.
use Rattle.std.proofs.Common.{◌≡◌, ◌∙◌, ap, sym, ℕ, ◌<◌, ◌^◌, true}
use Rattle.wire_types.specs.declared.Status.{Status}
use Rattle.wire_scripts.specs.Scripts.{Scripts}
use Rattle.wire_reader.specs.declared.Size.TheVariants.{OfVersion}
use Rattle.wire_pattern.specs.Pattern.{Pattern}
use Rattle.wire_pattern.specs.Lawful.{IsSoundPattern}
use Rattle.wire_pattern.specs.Instances.{Cast, IsCast}
use Rattle.wire_instances.proofs.Groups.{length_roles}
use Rattle.wire_instance_laws.specs.Reading.{InstancesRead, IsOfCast}
use Rattle.wire_cutoff_laws.specs.Promised.{IsSettledForAll}
use Rattle.wire_cutoff_laws.specs.Sizes.{AreFewSizes, total_of}
use Rattle.wire_cutoff.specs.Selections.{most_sizes}
use Rattle.wire_cutoff.proofs.Selected.{selections_are, selections_few}
use Rattle.wire_pattern_waits.specs.Waits.{alone}
use Rattle.wire_pattern_waits.proofs.Replied.{alone_cast}
use Rattle.wire_pattern_answers.specs.FewPlacings.{asks_now, IsOfThree, ThreeStatuses}
use Rattle.wire_pattern_answers.specs.Answers.{Answers}
use Rattle.wire_pattern_answers.proofs.Calls.{same_call}
use Rattle.wire_pattern_answers.proofs.Settled.{have_least, settled_on_all}

pub answers_three : (p : Pattern) → IsSoundPattern p → InstancesRead → ThreeStatuses → IsSettledForAll p → total_of (most_sizes p.roles) < 2 ^ 31
    → (role line : ℕ) (status : Status) → Answers p role line status → IsOfThree status
answers_three p sound read three settled few role line status x =
    let a = x.answers in
    let s : Scripts = a.scripts in
    let cast : Cast = alone p x.selection in
    let sizes : AreFewSizes p.roles x.selection.sizes = selections_are p x.number x.selection x.is in
    let is_cast : IsCast p cast = alone_cast p x.selection sound sizes (selections_few p x.number x.selection x.is few) in
    let of : IsOfCast p cast s = read p cast OfVersion s sound is_cast a.reads in
    let everywhere = settled_on_all p cast s settled is_cast (have_least p.roles x.selection.sizes sizes) of (length_roles 0 x.selection.sizes) in
    let asks : asks_now _ ≡ true = ap asks_now (sym (same_call s a.names a.nodes a.answered.process a.answered.call)) ∙ a.answered.asks in
    three s everywhere a.names a.nodes a.answered.process a.answered.call asks status a.answered.answered
