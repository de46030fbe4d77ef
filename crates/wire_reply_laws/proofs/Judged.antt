-- A small instance is answered, told and staged, by the judged one that has its turns and all of loops that only read.
use Rattle.std.proofs.Common.{◌≡◌, ◌∙◌, ap, sym, subst, refl, ℕ, ◌<◌, ◌^◌, List, Bool, true, length, map, Option, Some, None, ◌⊎◌, inl, inr, arith}
use Rattle.std.specs.Prelude.{slice_get, Ok}
use Rattle.std.proofs.lemmas.Bool.{cases_lt, cases_eq, true≢false, false_from_ne_true}
use Rattle.std.proofs.lemmas.List.{length-map}
use Rattle.wire_runs.specs.Plan.{Plan, Event, Kind, Leave, Publish, LookupWait, Unpublish, UnpublishAll, Fixed, kind}
use Rattle.wire_runs.specs.Names.{takes_name}
use Rattle.wire_runs.specs.Order.{PublishesOnce, Edge, Follows, Meets, Feeds, Announces, Live, Before}
use Rattle.wire_runs.specs.Embeddings.{Renaming, image, image_kind, IsEmbedding}
use Rattle.wire_runs.specs.Renamed.{renumbering}
use Rattle.wire_runs.specs.Parts.{Piece, place_in, in_place, AddsReads}
use Rattle.wire_runs.specs.Patterns as plan
use Rattle.wire_runs.specs.Patterns.{Coding, instance_of}
use Rattle.wire_runs.specs.Restrictions.{on_nodes}
use Rattle.wire_runs.proofs.Basics.{event_within}
use Rattle.wire_runs.proofs.EmbeddedOrder.{edge_into, chain_into, live_back}
use Rattle.wire_runs.proofs.Images.{event_at, event_back, place_up, image_later, image_order}
use Rattle.wire_runs.proofs.MoreReads.{kind_in_place, spot, kind_into, e}
use Rattle.wire_runs.proofs.PlacingKeeps.{IsBlind, turned, counts, by_kind, kind_kept, publishes_once, placing_keeps}
use Rattle.wire_runs.proofs.Renumbered.{embeds}
use Rattle.wire_scripts.specs.Scripts.{Scripts}
use Rattle.wire_scripts.specs.Planned.{plan_of}
use Rattle.wire_reader.specs.declared.Size.TheVariants.{OfVersion}
use Rattle.wire_reader.specs.Reads.{Reads}
use Rattle.wire_pattern.specs.Pattern.{Pattern}
use Rattle.wire_pattern.specs.Planned.{pattern_of, least_of}
use Rattle.wire_pattern.specs.Instances.{Cast, IsCast, cast_of, instance_text}
use Rattle.wire_pattern_laws.specs.Ordered.{HasMost}
use Rattle.wire_pattern_laws.specs.Fuller.{IsFuller}
use Rattle.wire_pattern_laws.proofs.MoreTurns.{pieces, adds}
use Rattle.wire_pattern_laws.proofs.NumbersBack.{renumbering_turns}
use Rattle.wire_size_laws.specs.Answered.{WaitsForOne}
use Rattle.wire_size_laws.specs.Stages.{Stages, StageKey, labels_of, is_leave, key_in, key_of, IsLess, IsStagedWell}
use Rattle.wire_size_laws.proofs.EdgesBack.{source_kind}
use Rattle.wire_size_laws.proofs.Fewer.{done_live, live_done}
use Rattle.wire_instance_laws.specs.Reading.{IsInstance, IsOfCast}
use Rattle.wire_instance_laws.proofs.Read.{instances_read}
use Rattle.wire_cutoff_laws.specs.Sizes.{AreFewSizes, total_of}
use Rattle.wire_cutoff_laws.specs.Choices.{optional_turns, chosen_by, cast_on}
use Rattle.wire_cutoff_laws.specs.Promised.{IsAnyCast, AreFewSettled}
use Rattle.wire_cutoff_laws.proofs.Few as few
use Rattle.wire_cutoff_laws.proofs.Few.{most_at}
use Rattle.wire_cutoff.specs.Selections.{Selection, select, selections}
use Rattle.wire_cutoff.proofs.Members.{in_place as index_of}
use Rattle.wire_cutoff.proofs.Selected.{selection_there, selections_few}
use Rattle.wire_cutoff.proofs.Texts.{any_cast}
use Rattle.wire_pattern_waits.specs.Waits.{alone}
use Rattle.wire_pattern_waits.proofs.Replied.{alone_cast}
use Rattle.wire_pattern_answers.proofs.Settled.{have_least}
use Rattle.wire_reply_laws.specs.Kept.{plan_key, KeepsStages}
use Rattle.wire_reply_laws.specs.Promised.{KeepsPromise}
use Rattle.wire_reply_laws.proofs.Rise.{rises_along, rises_before}
use Rattle.wire_reply_laws.proofs.FullerLabels.{key_fuller, labels_on}
use Rattle.wire_reply_laws.proofs.AllDone.{all_done}

leave_blind : IsBlind is_leave
leave_blind (Some (Fixed reply)) = refl
leave_blind _ = refl

leave_image : (to : Renaming) (k : Kind) → is_leave (Some (image_kind to k)) ≡ is_leave (Some k)
leave_image to (Leave members) = refl
leave_image to _ = refl

abbrev wait_name : Option Kind → ℕ
wait_name (Some (LookupWait name)) = name
wait_name _ = 0

-- where loops of reads take more turns: a name that is published once there is published once
module _ (small large : Plan) (ps : ℕ → List Piece) (adds_reads : AddsReads small large ps) where
  abbrev to : Renaming
  to = in_place ps

  emb : IsEmbedding to small large
  emb = e small large ps adds_reads

  kind_less : (y : Event) (k : Kind) → kind large (image to y) ≡ Some k → kind small y ≡ Some k
  kind_less y k is = let o = event_back to small large emb y k is in o.1 ∙ ap Some (sym (kind_in_place ps o.0) ∙ o.2)

  one_place : (p n m : ℕ) → place_in (ps p) n ≡ place_in (ps p) m → n ≡ m
  one_place p n m s = elim (cases_eq n m) [
    | inl q ↦ q
    | inr ne ↦ absurd (elim (cases_lt n m) [
      | inl lt ↦ (let u = place_up to small large emb p n m lt in omega (arith, u, s))
      | inr ge ↦ (let u = place_up to small large emb p m n (omega (arith, ge, ne)) in omega (arith, u, s))
    ])
  ]

  one_event : (x y : Event) → image to x ≡ image to y → x ≡ y
  one_event x y s =
      let procs : x.proc ≡ y.proc = ap (λ (v : Event). v.proc) s in
      let places : place_in (ps x.proc) x.at ≡ place_in (ps y.proc) y.at = ap (λ (v : Event). v.at) s in
      let at : x.at ≡ y.at = one_place y.proc x.at y.at (ap (λ p. place_in (ps p) x.at) (sym procs) ∙ places) in
      λ t. record { proc = procs t; at = at t }

  once_less : (x : Event) (name : ℕ) → PublishesOnce large (image to x) name → PublishesOnce small x name
  once_less x name o = record {
    is = kind_less x _ o.is;
    only = λ y is. one_event y x (o.only (image to y) (kind_into small large ps adds_reads y _ is));
    stays = λ y. false_from_ne_true _ (λ t. taken y (kind small y) refl t);
  }
    where
      taken : (y : Event) (k : Option Kind) → kind small y ≡ k → takes_name small name y k ≡ true → ⊥
      taken y (Some (Unpublish n)) is t = true≢false (sym (ap (takes_name large name (image to y)) (kind_into small large ps adds_reads y _ is) ∙ t) ∙ o.stays (image to y))
      taken y (Some UnpublishAll) is t =
          true≢false (sym (ap (takes_name large name (image to y)) (kind_into small large ps adds_reads y _ is) ∙ emb.publish y.proc name (x, _, kind_less x _ o.is, refl) ∙ t) ∙ o.stays (image to y))
      taken y None is t = true≢false (sym t)
      taken y (Some _) is t = true≢false (sym t)

  pub once_there : (x : Event) (name : ℕ) → PublishesOnce large x name → (z : Event) × PublishesOnce small z name
  once_there x name o = elim (spot small large ps adds_reads x (Publish name) o.is) [
    | inl s ↦ (s.0, once_less s.0 name (subst (λ v. PublishesOnce large v name) (sym s.1) o))
    | inr r ↦ absurd r
  ]

module _ (p : Pattern) (stages : Stages) (all : KeepsPromise p stages) (coding : Coding) (small : plan.Cast) (any : IsAnyCast p small)
    (most : HasMost (length p.roles) (λ role. most_at (least_of p role)) small) where
  -- with few processes nothing is found
  few_settled : AreFewSettled p
  few_settled = λ sizes are bits count c nodes.
      let s = select sizes bits in
      let there = index_of s (selections p) (selection_there p sizes bits are count) in
      let total : total_of sizes < 2 ^ 31 = selections_few p there.0 s there.1 all.few in
      all.settled c (cast_on sizes (chosen_by (optional_turns p sizes) bits) nodes) (any_cast p (alone p s) (alone_cast p s all.sound are total) (have_least p.roles sizes are) nodes)

  -- the selection with the same turns, but all of loops that read
  abbrev sizes : List ℕ
  sizes = few.sizes p all.sound few_settled coding small any most

  abbrev bits : List Bool
  bits = map (few.taken p all.sound few_settled coding small any most) (optional_turns p sizes)

  abbrev selection : Selection
  selection = select sizes bits

  abbrev cast : Cast
  cast = alone p selection

  fit : AreFewSizes p.roles sizes
  fit = few.fit p all.sound few_settled coding small any most

  at : (i : ℕ) × (slice_get (selections p) i ≡ Some selection)
  at = index_of selection (selections p) (selection_there p sizes bits fit (length-map (optional_turns p sizes) (few.taken p all.sound few_settled coding small any most)))

  is_cast : IsCast p cast
  is_cast = alone_cast p selection all.sound fit (selections_few p at.0 selection at.1 all.few)

  abbrev s : Scripts
  s = (all.read at.0 selection at.1).0

  reads : Reads OfVersion (instance_text p cast) (Ok s)
  reads = (all.read at.0 selection at.1).1

  of : IsOfCast p cast s
  of = instances_read p cast OfVersion s all.sound is_cast reads

  abbrev fuller : plan.Cast
  fuller = on_nodes small.nodes (cast_of cast)

  more : IsFuller (pattern_of p) small fuller
  more = few.is_fuller p all.sound few_settled coding small any most

  abbrev here : Plan
  here = plan_of s

  keeps : KeepsStages stages (pattern_of p) (cast_of cast) here
  keeps = all.staged at.0 selection s at.1 reads

  abbrev i : IsInstance p cast s coding small.nodes
  i = of.instances coding small.nodes

  abbrev full : Plan
  full = instance_of (pattern_of p) coding fuller

  abbrev less : Plan
  less = instance_of (pattern_of p) coding small

  abbrev ps : ℕ → List Piece
  ps = pieces (pattern_of p) coding small fuller more

  reads_more : AddsReads less full ps
  reads_more = adds (pattern_of p) coding small fuller more

  e_less : IsEmbedding (in_place ps) less full
  e_less = e less full ps reads_more

  e_full : IsEmbedding (renumbering i.key i.name) full i.other
  e_full = embeds full i.other i.key i.name i.renumbered

  -- each event of the fuller instance is one here
  kind_here : (y : Event) (k : Kind) → kind full y ≡ Some k → (l : Kind) × (kind here y ≡ Some l)
  kind_here y k is =
      let there : kind i.other y ≡ Some (image_kind (renumbering i.key i.name) k) = e_full.kinds_agree y k is in
      let within = event_within i.other y.proc y.at _ there in
      let same = counts here i.other i.placing y.proc in
      event_at here y.proc y.at (omega (arith, within, same))

  live_other : (y : Event) (k : Kind) → kind full y ≡ Some k → Live i.other y
  live_other y k is =
      let l = kind_here y k is in
      ((placing_keeps here i.other i.placing).lives y).0 (done_live here y (all_done p all.replied at.0 selection s at.1 reads y l.0 l.1))

  live_full : (y : Event) (k : Kind) → kind full y ≡ Some k → Live full y
  live_full y k is = live_back (renumbering i.key i.name) full i.other e_full y (live_other y k is)

  abbrev up : Event → Event
  up y = image (in_place ps) y

  kind_up : (y : Event) (k : Kind) → kind less y ≡ Some k → kind full (up y) ≡ Some k
  kind_up y k is = kind_into less full ps reads_more y k is

  live_less : (y : Event) (k : Kind) → kind less y ≡ Some k → Live less y
  live_less y k is = live_back (in_place ps) less full e_less y (live_full (up y) k (kind_up y k is))

  one_full : WaitsForOne full
  one_full y name is =
      let there : kind i.other y ≡ Some (LookupWait (i.name name)) = e_full.kinds_agree y (LookupWait name) is in
      let found = keeps.one y (i.name name) (kind_kept i.other here (turned i.placing) y (LookupWait (i.name name)) refl there) in
      let back = renumbering_turns full i.other i.key i.name i.renumbered in
      let e_back = embeds i.other full back.0 back.1 back.2 in
      let once : PublishesOnce full found.0 (back.1 (i.name name)) = e_back.once found.0 (i.name name) (publishes_once here i.other i.placing found.0 (i.name name) found.1) in
      let same : back.1 (i.name name) ≡ name = ap wait_name (sym (e_back.kinds_agree y (LookupWait (i.name name)) there) ∙ is) in
      (found.0, subst (PublishesOnce full found.0) same once)

  one_less : WaitsForOne less
  one_less y name is = let o = one_full (up y) name (kind_up y _ is) in once_there less full ps reads_more o.0 name o.1

  abbrev key_less : Event → StageKey
  key_less = key_of stages (pattern_of p) coding small

  abbrev key_here : Event → StageKey
  key_here = plan_key stages (pattern_of p) (cast_of cast) here

  key_full : (y : Event) (k : Kind) → kind full y ≡ Some k → key_here y ≡ key_of stages (pattern_of p) coding fuller y
  key_full y k is =
      ap (λ ls. key_in stages (slice_get (cast_of cast).roles y.proc) (slice_get ls y.at) (is_leave (kind here y)) y.proc) (sym (labels_on small.nodes (pattern_of p) (cast_of cast) y.proc))
      ∙ ap (λ b. key_in stages (slice_get fuller.roles y.proc) (slice_get (labels_of (pattern_of p) fuller y.proc) y.at) b y.proc)
      (by_kind here i.other i.placing is_leave leave_blind y.proc y.at
      ∙ ap is_leave (e_full.kinds_agree y k is) ∙ leave_image (renumbering i.key i.name) k ∙ ap is_leave (sym is))

  key_up : (y : Event) (k : Kind) → kind less y ≡ Some k → key_here (up y) ≡ key_less y
  key_up y k is = key_full (up y) k (kind_up y k is) ∙ key_fuller (pattern_of p) coding small fuller more stages y k is

  less_back : (x y : Event) (k l : Kind) → kind less x ≡ Some k → kind less y ≡ Some l → IsLess (key_here (up x)) (key_here (up y)) → IsLess (key_less x) (key_less y)
  less_back x y k l ks ls h = subst (λ v. IsLess v (key_less y)) (key_up x k ks) (subst (IsLess (key_here (up x))) (key_up y l ls) h)

  along_less : (x y : Event) (k l : Kind) → kind less x ≡ Some k → kind less y ≡ Some l → x.proc ≡ y.proc → x.at < y.at → IsLess (key_less x) (key_less y) ⊎ (key_less x ≡ key_less y)
  along_less x y k l ks ls same lt =
      let there = kind_here (up y) l (kind_up y l ls) in
      elim (rises_along stages (pattern_of p) (cast_of cast) here keeps (up x) (up y) there.0 there.1 same (image_later (in_place ps) less full e_less x y same lt)) [
        | inl h ↦ inl (less_back x y k l ks ls h)
        | inr h ↦ inr (sym (key_up x k ks) ∙ h ∙ key_up y l ls)
      ]

  abbrev Goes : Event → Event → Type 0
  Goes x y = IsLess (key_less x) (key_less y) ⊎ ((x.proc ≡ y.proc) × (x.at < y.at))

  goes : (x y : Event) (l : Kind) → kind less y ≡ Some l → Edge less x y → Goes x y
  goes x y l ls edge =
      let k = source_kind less x y l ls edge in
      let there = kind_up y l ls in
      let in_full : Before full (up x) (up y) = edge_into (in_place ps) less full e_less x y edge (live_full (up y) l there) in
      let in_other : Before i.other (up x) (up y) = chain_into (renumbering i.key i.name) full i.other e_full in_full (live_other (up y) l there) in
      let in_here : Before here (up x) (up y) = ((placing_keeps here i.other i.placing).chains (up x) (up y)).1 in_other in
      elim (rises_before stages (pattern_of p) (cast_of cast) here keeps in_here) [
        | inl h ↦ inl (less_back x y k.0 l k.1 ls h)
        | inr h ↦ inr (h.0, image_order (in_place ps) less full e_less x y h.0 h.1)
      ]

  across_less : (x y : Event) → Edge less x y → Goes x y
  across_less x y (Follows same next) = inr (same, omega (arith, next))
  across_less x y (Meets members is a) = goes x y _ is (Meets members is a)
  across_less x y (Feeds key is other once stores) = goes x y _ is (Feeds key is other once stores)
  across_less x y (Announces name is once) = goes x y _ is (Announces name is once)

  pub staged_well : IsStagedWell stages (pattern_of p) coding small
  staged_well = record {
    answered = λ y k is. live_done less (all.settled coding small any) one_less y (live_less y k is);
    one = one_less;
    staged = record { along = along_less; across = across_less };
  }
