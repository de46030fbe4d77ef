-- What a get-now is answered in an instance of any size, one of its line finds in a small instance.
use Rattle.std.proofs.Common.{◌≡◌, ◌∙◌, ap, sym, subst, refl, ℕ, pred, ◌<◌, length, Some, arith}
use Rattle.std.specs.Prelude.{slice_get}
use Rattle.std.proofs.lemmas.Option.{slice_get_within}
use Rattle.wire_types.specs.declared.Status.{Status}
use Rattle.wire_runs.specs.Plan.{Plan, Event, Kind, Put, Commit, Arrive, Leave, Get, GetNow, Publish, Lookup, LookupWait, Unpublish, UnpublishAll, Fixed, kind, kind_at, kinds, process_count, node_of}
use Rattle.wire_runs.specs.Order.{Live}
use Rattle.wire_runs.specs.Races.{IsSettled}
use Rattle.wire_runs.specs.Laws.{plain_end}
use Rattle.wire_runs.specs.Embeddings.{image_kind}
use Rattle.wire_runs.specs.Renamed.{renumbering}
use Rattle.wire_runs.specs.Patterns as plan
use Rattle.wire_runs.specs.Patterns.{instance_of}
use Rattle.wire_runs.specs.Restrictions.{on_nodes}
use Rattle.wire_runs.proofs.Codings.{have_coding}
use Rattle.wire_runs.proofs.Lists.{slice_get-map_back}
use Rattle.wire_runs.proofs.PlacingKeeps.{placing_keeps, kind_kept}
use Rattle.wire_runs.proofs.RestrictedWhole.{instance_node}
use Rattle.wire_scripts.specs.Scripts.{Scripts, call_at, calls_in}
use Rattle.wire_scripts.specs.Planned.{plan_of}
use Rattle.wire_scripts.proofs.PlannedCalls.{as_many_planned}
use Rattle.wire_pattern.specs.Pattern.{Pattern}
use Rattle.wire_pattern.specs.Planned.{pattern_of, least_of}
use Rattle.wire_pattern.specs.Lawful.{IsSoundPattern}
use Rattle.wire_pattern.proofs.Lawful.{sound_is_lawful}
use Rattle.wire_pattern.specs.Instances as text
use Rattle.wire_pattern.specs.Instances.{Cast, IsCast, cast_of}
use Rattle.wire_pattern_laws.specs.Finds.{Finds}
use Rattle.wire_pattern_laws.specs.Lines.{IsOfLine}
use Rattle.wire_pattern_laws.specs.SmallReplies.{HasSmall}
use Rattle.wire_pattern_laws.specs.StatusesTold.{FindsAlike}
use Rattle.wire_pattern_laws.proofs.SmallFinds.{finds_are_said, finds_of_small}
use Rattle.wire_pattern_laws.proofs.StatusesNumbered.{renumbered_finds}
use Rattle.wire_instances.proofs.Groups.{length_roles}
use Rattle.wire_instance_laws.specs.Reading.{IsInstance, IsOfCast}
use Rattle.wire_cutoff_laws.specs.Promised.{IsAnyCast, IsSettledForAll}
use Rattle.wire_cutoff_laws.proofs.Few.{most_at, three}
use Rattle.wire_cutoff.specs.Texts.{HaveLeast}
use Rattle.wire_cutoff.proofs.Texts.{there_is, any_cast}
use Rattle.wire_pattern_answers.specs.Answers.{IsAnsweredAtLine}
use Rattle.wire_pattern_answers.proofs.Calls.{place_in}
use Rattle.wire_pattern_answers.proofs.Events.{row_to, said_status, end_reached}
use Rattle.wire_answer_laws.proofs.SameNodes.{agree_all, finds_there}
use Rattle.wire_answer_laws.proofs.Calls.{AsksPlainly, kind_of_call, event_line}

-- a get-now under other numbers is one
record IsAsked (key name : ℕ → ℕ) (k : Kind) (owner there : ℕ) : Type 0 where
  own_key : ℕ
  is : k ≡ GetNow owner own_key
  key_is : key own_key ≡ there

asked_back : (key name : ℕ → ℕ) (k : Kind) (owner there : ℕ) → image_kind (renumbering key name) k ≡ GetNow owner there → IsAsked key name k owner there
asked_back key name (GetNow o k) owner there e = record { own_key = k; is = ap (λ n. GetNow n k) (ap owner_in e); key_is = ap key_in e }
  where
    owner_in : Kind → ℕ
    owner_in (GetNow o k) = o
    owner_in _ = 0

    key_in : Kind → ℕ
    key_in (GetNow o k) = k
    key_in _ = 0
asked_back key name (Put k scope) owner there e = absurd cc
asked_back key name Commit owner there e = absurd cc
asked_back key name (Arrive members collect) owner there e = absurd cc
asked_back key name (Leave members) owner there e = absurd cc
asked_back key name (Get o k) owner there e = absurd cc
asked_back key name (Publish n) owner there e = absurd cc
asked_back key name (Lookup n) owner there e = absurd cc
asked_back key name (LookupWait n) owner there e = absurd cc
asked_back key name (Unpublish n) owner there e = absurd cc
asked_back key name UnpublishAll owner there e = absurd cc
asked_back key name (Fixed reply) owner there e = absurd cc

-- the instance of scripts on the nodes of another plan, a placing of theirs, has its processes there
pub instance_there : (p : Pattern) (cast : Cast) (s : Scripts) (of : IsOfCast p cast s) (nodes : ℕ → ℕ) (v : ℕ)
    → v < process_count (plan_of s) → node_of (of.instances have_coding nodes).other v ≡ nodes v
instance_there p cast s of nodes v lt =
    let few : v < text.process_count cast = omega (arith, lt, of.count) in
    let count : length (cast_of cast).roles ≡ text.process_count cast = length_roles 0 cast.sizes in
    let role = there_is (cast_of cast).roles v (omega (arith, few, count)) in
    (of.instances have_coding nodes).renumbered.nodes v ∙ instance_node (pattern_of p) have_coding (on_nodes nodes (cast_of cast)) v role.0 role.1

module _ (p : Pattern) (sound : IsSoundPattern p) (settled : IsSettledForAll p) (cast : Cast) (s : Scripts) (is_cast : IsCast p cast) (least : HaveLeast p.roles cast.sizes) (of : IsOfCast p cast s)
    (here : IsSettled (plan_of s)) (role line : ℕ) (status : Status) (a : IsAnsweredAtLine p cast s role line status)
    (asked : AsksPlainly s (call_at s.processes a.process a.call)) where
  abbrev x : Event
  x = record { proc = a.process; at = place_in s a.process a.call }

  kind_here : kind (plan_of s) x ≡ Some (GetNow asked.owner.number asked.key)
  kind_here = kind_of_call s a.process a.call asked

  within : a.process < process_count (plan_of s)
  within =
      let low = slice_get_within (cast_of cast).roles a.process role a.has_role in
      let count : length (cast_of cast).roles ≡ text.process_count cast = length_roles 0 cast.sizes in
      omega (arith, low, count, of.count)

  low_call : a.call < length (calls_in (slice_get s.processes a.process))
  low_call = slice_get_within (calls_in (slice_get s.processes a.process)) a.call _ asked.is

  -- what it is answered in the plain run, it finds
  record Found : Type 0 where
    is_live : Live (plan_of s) x
    finds : Finds (plan_of s) x asked.owner.number asked.key status

  found : Found
  found =
      let r = row_to (plan_of s) here a.process a.call (place_in s a.process a.call) (GetNow asked.owner.number asked.key) within refl kind_here refl a.answered.reply a.answered.is in
      let f = (finds_are_said (plan_of s) x asked.owner.number asked.key here kind_here).answered (plain_end (plan_of s)) r.0 (end_reached (plan_of s) here) r.1 in
      record {
        is_live = f.0;
        finds = subst (Finds (plan_of s) x asked.owner.number asked.key) (said_status (plan_of s) r.0 a.answered.reply r.2 ∙ a.answered.has) f.1;
      }

  abbrev nodes : ℕ → ℕ
  nodes = node_of (plan_of s)

  abbrev i : IsInstance p cast s have_coding nodes
  i = of.instances have_coding nodes

  abbrev on : plan.Cast
  on = on_nodes nodes (cast_of cast)

  abbrev own : Plan
  own = instance_of (pattern_of p) have_coding on

  kind_other : kind i.other x ≡ Some (GetNow asked.owner.number asked.key)
  kind_other = kind_kept (plan_of s) i.other i.placing x (GetNow asked.owner.number asked.key) refl kind_here

  kind_back : (k : Kind) × (kind own x ≡ Some k) × IsAsked i.key i.name k asked.owner.number asked.key
  unfolding kind_at
  kind_back =
      let b = slice_get-map_back (image_kind (renumbering i.key i.name)) (kinds own a.process) x.at (GetNow asked.owner.number asked.key)
      (ap (λ ks. slice_get ks x.at) (sym (i.renumbered.calls a.process)) ∙ kind_other) in
      (b.0, b.1, asked_back i.key i.name b.0 asked.owner.number asked.key b.2)

  pub large_small : HasSmall (pattern_of p) have_coding (length p.roles) (least_of p) (λ role. most_at (least_of p role)) role (pred line) status
  large_small =
      let k = kind_back in
      let own_key : ℕ = k.2.own_key in
      let kind_own : kind own x ≡ Some (GetNow asked.owner.number own_key) = k.1 ∙ ap Some k.2.is in
      let alike : FindsAlike own i.other x asked.owner.number own_key (i.key own_key) = renumbered_finds own i.other i.key i.name i.renumbered x asked.owner.number own_key kind_own in
      let live_other : Live i.other x = ((placing_keeps (plan_of s) i.other i.placing).lives x).0 found.is_live in
      let agree = agree_all (plan_of s) i.other i.placing.same_count (instance_there p cast s of nodes) in
      let finds_other : Finds i.other x asked.owner.number asked.key status = finds_there (plan_of s) i.other i.placing agree x asked.owner.number asked.key status found.finds in
      let live_own : Live own x = alike.live.1 live_other in
      let finds_own : Finds own x asked.owner.number own_key status =
      (alike.finds live_own status).1 (subst (λ n. Finds i.other x asked.owner.number n status) (sym k.2.key_is) finds_other) in
      let any : IsAnyCast p on = any_cast p cast is_cast least nodes in
      let of_line : IsOfLine (pattern_of p) on x role (pred line) =
      event_line p cast s of nodes a.process role a.has_role a.call line (subst (λ n. a.call < n) (as_many_planned s a.process) low_call) a.of_line in
      finds_of_small (pattern_of p) have_coding (length p.roles) (least_of p) (λ role. most_at (least_of p role)) (sound_is_lawful p sound) (λ role lt. three (least_of p role))
      (λ c is in_order has_least most. settled have_coding c (record { is = is; in_order = in_order; least = has_least }))
      on any.is any.in_order any.least x role (pred line) asked.owner.number own_key of_line kind_own live_own status finds_own
