-- The plan of an instance's text has the calls of the instance, under other numbers: so all its calls are answered too.
use Rattle.std.proofs.Common.{◌≡◌, ◌∙◌, ap, sym, subst, refl, ℕ, Option, Some, arith}
use Rattle.std.specs.Prelude.{Ok}
use Rattle.wire_runs.specs.Plan.{Plan, Event, Kind, LookupWait, kind, node_of}
use Rattle.wire_runs.specs.State.{State, IsDone}
use Rattle.wire_runs.specs.Order.{PublishesOnce, Live}
use Rattle.wire_runs.specs.Races.{IsSettled}
use Rattle.wire_runs.specs.Embeddings.{IsEmbedding}
use Rattle.wire_runs.specs.Renamed.{renumbering}
use Rattle.wire_runs.specs.Patterns as plan
use Rattle.wire_runs.specs.Patterns.{instance_of}
use Rattle.wire_runs.specs.Restrictions.{on_nodes}
use Rattle.wire_runs.proofs.Basics.{event_within}
use Rattle.wire_runs.proofs.Codings.{have_coding}
use Rattle.wire_runs.proofs.EmbeddedOrder.{live_back}
use Rattle.wire_runs.proofs.Images.{event_at}
use Rattle.wire_runs.proofs.PlainRun.{plain_runs}
use Rattle.wire_runs.proofs.PlacingKeeps.{turned, counts, kind_kept, publishes_once, placing_keeps}
use Rattle.wire_runs.proofs.Renumbered.{embeds}
use Rattle.wire_scripts.specs.Scripts.{Scripts}
use Rattle.wire_scripts.specs.Planned.{plan_of}
use Rattle.wire_reader.specs.declared.Size.{Size}
use Rattle.wire_reader.specs.Reads.{Reads}
use Rattle.wire_pattern.specs.Pattern.{Pattern}
use Rattle.wire_pattern.specs.Planned.{pattern_of}
use Rattle.wire_pattern.specs.Instances.{Cast, IsCast, cast_of, instance_text}
use Rattle.wire_pattern_laws.proofs.NumbersBack.{renumbering_turns}
use Rattle.wire_size_laws.specs.Answered.{WaitsForOne}
use Rattle.wire_size_laws.specs.Stages.{Stages}
use Rattle.wire_size_laws.proofs.Fewer.{done_live, live_done}
use Rattle.wire_instance_laws.specs.Reading.{IsInstance, IsOfCast}
use Rattle.wire_instance_laws.proofs.Read.{instances_read}
use Rattle.wire_cutoff_laws.specs.Promised.{IsAnyCast}
use Rattle.wire_cutoff.specs.Texts.{HaveLeast}
use Rattle.wire_cutoff.proofs.Texts.{any_cast, texts_settled}
use Rattle.wire_reply_laws.specs.Promised.{KeepsPromise, TextsAnswered}
use Rattle.wire_reply_laws.proofs.Lawful.{answered, wait_for_one}

abbrev wait_name : Option Kind → ℕ
wait_name (Some (LookupWait name)) = name
wait_name _ = 0

module _ (p : Pattern) (stages : Stages) (all : KeepsPromise p stages) (cast : Cast) (size : Size) (s : Scripts) (is_cast : IsCast p cast) (least : HaveLeast p.roles cast.sizes)
    (reads : Reads size (instance_text p cast) (Ok s)) where
  abbrev here : Plan
  here = plan_of s

  settled : IsSettled here
  settled = (texts_settled p cast size s all.sound all.settled is_cast least reads).0

  of : IsOfCast p cast s
  of = instances_read p cast size s all.sound is_cast reads

  abbrev nodes : ℕ → ℕ
  nodes = node_of here

  abbrev i : IsInstance p cast s have_coding nodes
  i = of.instances have_coding nodes

  abbrev on : plan.Cast
  on = on_nodes nodes (cast_of cast)

  abbrev own : Plan
  own = instance_of (pattern_of p) have_coding on

  any : IsAnyCast p on
  any = any_cast p cast is_cast least nodes

  e_other : IsEmbedding (renumbering i.key i.name) own i.other
  e_other = embeds own i.other i.key i.name i.renumbered

  abbrev key_back : ℕ → ℕ
  key_back = (renumbering_turns own i.other i.key i.name i.renumbered).0

  abbrev name_back : ℕ → ℕ
  name_back = (renumbering_turns own i.other i.key i.name i.renumbered).1

  e_own : IsEmbedding (renumbering key_back name_back) i.other own
  e_own = embeds i.other own key_back name_back (renumbering_turns own i.other i.key i.name i.renumbered).2

  -- each event is one of the instance, and is live
  kind_other : (y : Event) (k : Kind) → kind here y ≡ Some k → (l : Kind) × (kind i.other y ≡ Some l)
  kind_other y k is =
      let within = event_within here y.proc y.at k is in
      let same = counts here i.other i.placing y.proc in
      event_at i.other y.proc y.at (omega (arith, within, same))

  live_here : (y : Event) (k : Kind) → kind here y ≡ Some k → Live here y
  live_here y k is =
      let l = kind_other y k is in
      let in_own = e_own.kinds_agree y l.0 l.1 in
      let live_own : Live own y = done_live own y (answered p stages all have_coding on any y _ in_own) in
      ((placing_keeps here i.other i.placing).lives y).1 (live_back (renumbering key_back name_back) i.other own e_own y live_own)

  one_here : WaitsForOne here
  one_here y name is =
      let there : kind i.other y ≡ Some (LookupWait name) = kind_kept here i.other i.placing y (LookupWait name) refl is in
      let in_own : kind own y ≡ Some (LookupWait (name_back name)) = e_own.kinds_agree y (LookupWait name) there in
      let found = wait_for_one p stages all have_coding on any y (name_back name) in_own in
      let once : PublishesOnce i.other found.0 (i.name (name_back name)) = e_other.once found.0 (name_back name) found.1 in
      let same : i.name (name_back name) ≡ name = ap wait_name (sym (e_other.kinds_agree y (LookupWait (name_back name)) in_own) ∙ there) in
      (found.0, publishes_once i.other here (turned i.placing) found.0 name (subst (PublishesOnce i.other found.0) same once))

pub texts_answered : TextsAnswered
texts_answered p stages all cast size s is_cast least reads w legal ends y k is =
    let plan = plan_of s in
    let nothing = settled p stages all cast size s is_cast least reads in
    subst (λ (t : State). IsDone t y) (sym ((plain_runs plan).is_the_end nothing w legal ends))
    (live_done plan nothing (one_here p stages all cast size s is_cast least reads) y (live_here p stages all cast size s is_cast least reads y k is))
