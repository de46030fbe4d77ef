-- The judged instance that has the turns of a small one, and all of loops that only read.
use Rattle.std.proofs.Common.{◌≡◌, ℕ, ◌<◌, ◌^◌, List, Bool, length, map, Some}
use Rattle.std.specs.Prelude.{slice_get, Ok}
use Rattle.std.proofs.lemmas.List.{length-map}
use Rattle.wire_runs.specs.Plan.{Plan, Event}
use Rattle.wire_runs.specs.State.{IsDone}
use Rattle.wire_runs.specs.Order.{Live}
use Rattle.wire_runs.specs.Races.{IsSettled}
use Rattle.wire_runs.specs.Laws.{plain_end}
use Rattle.wire_runs.specs.Renamed.{renumbering}
use Rattle.wire_runs.specs.Placings.{IsSettledAnywhere}
use Rattle.wire_runs.specs.Patterns as plan
use Rattle.wire_runs.specs.Patterns.{instance_of}
use Rattle.wire_runs.specs.Restrictions.{on_nodes}
use Rattle.wire_runs.proofs.Anywhere.{settled_there}
use Rattle.wire_runs.proofs.Codings.{have_coding}
use Rattle.wire_runs.proofs.EmbeddedOrder.{live_back}
use Rattle.wire_runs.proofs.PlacingKeeps.{placing_keeps}
use Rattle.wire_runs.proofs.PlacingReplies.{reflexive}
use Rattle.wire_runs.proofs.Renumbered.{embeds}
use Rattle.wire_scripts.specs.Scripts.{Scripts}
use Rattle.wire_scripts.specs.Planned.{plan_of}
use Rattle.wire_reader.specs.declared.Size.TheVariants.{OfVersion}
use Rattle.wire_reader.specs.Reads.{Reads}
use Rattle.wire_pattern.specs.Pattern.{Pattern}
use Rattle.wire_pattern.specs.Planned.{pattern_of, least_of}
use Rattle.wire_pattern.specs.Instances as text
use Rattle.wire_pattern.specs.Instances.{IsCast, cast_of, instance_text}
use Rattle.wire_pattern_laws.specs.Ordered.{HasMost}
use Rattle.wire_pattern_laws.specs.Fuller.{IsFuller}
use Rattle.wire_pattern_laws.proofs.NumbersBack.{renumbering_turns}
use Rattle.wire_instances.proofs.Groups.{length_roles}
use Rattle.wire_instance_laws.specs.Reading.{IsInstance, IsOfCast}
use Rattle.wire_instance_laws.proofs.Read.{instances_read}
use Rattle.wire_cutoff_laws.specs.Sizes.{AreFewSizes, total_of}
use Rattle.wire_cutoff_laws.specs.Choices.{optional_turns, chosen_by, cast_on}
use Rattle.wire_cutoff_laws.specs.Promised.{IsAnyCast, AreFewSettled}
use Rattle.wire_cutoff_laws.proofs.Few as few
use Rattle.wire_cutoff_laws.proofs.Few.{most_at}
use Rattle.wire_cutoff.specs.Selections.{Selection, select, selections}
use Rattle.wire_cutoff.proofs.Members.{in_place}
use Rattle.wire_cutoff.proofs.Selected.{selection_there, selections_few}
use Rattle.wire_cutoff.proofs.Texts.{any_cast}
use Rattle.wire_pattern_waits.specs.Waits.{alone}
use Rattle.wire_pattern_waits.proofs.Replied.{alone_cast}
use Rattle.wire_pattern_answers.proofs.Settled.{have_least, settled_on_all}
use Rattle.wire_answer_laws.specs.AnySize.{IsJudgedForOne}
use Rattle.wire_answer_laws.proofs.Happens.{happens}

-- what is live in the instance on these nodes is live in the plan that is read
live_read : (p : Pattern) (cast : text.Cast) (s : Scripts) (of : IsOfCast p cast s) (nodes : ℕ → ℕ) (y : Event)
    → Live (instance_of (pattern_of p) have_coding (on_nodes nodes (cast_of cast))) y → Live (plan_of s) y
live_read p cast s of nodes y l = ((placing_keeps (plan_of s) i.other i.placing).lives y).1 live_other
  where
    i : IsInstance p cast s have_coding nodes
    i = of.instances have_coding nodes

    full : Plan
    full = instance_of (pattern_of p) have_coding (on_nodes nodes (cast_of cast))

    live_other : Live i.other y
    live_other =
        let back = renumbering_turns full i.other i.key i.name i.renumbered in
        live_back (renumbering back.0 back.1) i.other full (embeds i.other full back.0 back.1 back.2) y l

-- a selection that is judged, with the turns of a small instance
pub record HasFuller (p : Pattern) (small : plan.Cast) : Type 0 where
  pub number : ℕ
  pub selection : Selection
  pub is : slice_get (selections p) number ≡ Some selection
  pub fit : AreFewSizes p.roles selection.sizes
  pub is_cast : IsCast p (alone p selection)
  pub s : Scripts
  pub reads : Reads OfVersion (instance_text p (alone p selection)) (Ok s)
  pub of : IsOfCast p (alone p selection) s
  pub more : IsFuller (pattern_of p) small (on_nodes small.nodes (cast_of (alone p selection)))
  pub settled : IsSettled (instance_of (pattern_of p) have_coding (on_nodes small.nodes (cast_of (alone p selection))))
  pub everywhere : IsSettledAnywhere (plan_of s)
  pub here : IsSettled (plan_of s)
  pub happens : (y : Event) → Live (instance_of (pattern_of p) have_coding (on_nodes small.nodes (cast_of (alone p selection)))) y
      → IsDone (plain_end (plan_of s)) y

module _ (p : Pattern) (all : IsJudgedForOne p) (small : plan.Cast) (any : IsAnyCast p small)
    (has_most : HasMost (length p.roles) (λ role. most_at (least_of p role)) small) where
  -- with few processes nothing is found
  few_settled : AreFewSettled p
  few_settled = λ sizes are bits count coding nodes.
      let s = select sizes bits in
      let there = in_place s (selections p) (selection_there p sizes bits are count) in
      let total : total_of sizes < 2 ^ 31 = selections_few p there.0 s there.1 all.few in
      all.settled coding (cast_on sizes (chosen_by (optional_turns p sizes) bits) nodes)
      (any_cast p (alone p s) (alone_cast p s all.sound are total) (have_least p.roles sizes are) nodes)

  -- the same turns, but all of loops that read
  abbrev sizes : List ℕ
  sizes = few.sizes p all.sound few_settled have_coding small any has_most

  abbrev bits : List Bool
  bits = map (few.taken p all.sound few_settled have_coding small any has_most) (optional_turns p sizes)

  abbrev selection : Selection
  selection = select sizes bits

  abbrev cast : text.Cast
  cast = alone p selection

  fit : AreFewSizes p.roles sizes
  fit = few.fit p all.sound few_settled have_coding small any has_most

  at : (i : ℕ) × (slice_get (selections p) i ≡ Some selection)
  at = in_place selection (selections p) (selection_there p sizes bits fit (length-map (optional_turns p sizes) (few.taken p all.sound few_settled have_coding small any has_most)))

  is_cast : IsCast p cast
  is_cast = alone_cast p selection all.sound fit (selections_few p at.0 selection at.1 all.few)

  abbrev s : Scripts
  s = (all.read at.0 selection at.1).0

  reads : Reads OfVersion (instance_text p cast) (Ok s)
  reads = (all.read at.0 selection at.1).1

  of : IsOfCast p cast s
  of = instances_read p cast OfVersion s all.sound is_cast reads

  abbrev fuller : plan.Cast
  fuller = on_nodes small.nodes (cast_of cast)

  everywhere : IsSettledAnywhere (plan_of s)
  everywhere = settled_on_all p cast s all.settled is_cast (have_least p.roles sizes fit) of (length_roles 0 sizes)

  here : IsSettled (plan_of s)
  here = settled_there (plan_of s) (plan_of s) (reflexive (plan_of s)) everywhere

  pub fuller_of : HasFuller p small
  fuller_of = record {
    number = at.0;
    selection = selection;
    is = at.1;
    fit = fit;
    is_cast = is_cast;
    s = s;
    reads = reads;
    of = of;
    more = few.is_fuller p all.sound few_settled have_coding small any has_most;
    settled = all.settled have_coding fuller (any_cast p cast is_cast (have_least p.roles sizes fit) small.nodes);
    everywhere = everywhere;
    here = here;
    happens = λ y l. happens (plan_of s) here (all.one at.0 selection s at.1 reads) (live_read p cast s of small.nodes y l);
  }
