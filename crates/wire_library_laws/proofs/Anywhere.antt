-- A plan that is portable whatever its nodes is portable on all nodes.
use Rattle.std.proofs.Common.{◌≡◌, ℕ, suc, List, true, false, Option, Some, None, is_some, option_map, inl, inr, refl, sym, ap, ◌∙◌, subst, eq-eqb, true≢false}
use Rattle.wire_runs.specs.Plan.{Plan, Kind, Commit, Arrive, Leave, Get, GetNow, Publish, Unpublish, UnpublishAll, Fixed, kind, kind_at, node_of, same_node, admits, Event}
use Rattle.wire_runs.specs.State.{start, next_kind, next_event}
use Rattle.wire_runs.specs.Puts.{scope_of}
use Rattle.wire_runs.specs.Names.{calls_name}
use Rattle.wire_runs.specs.Step.{IsReachable, IsInterleaving, is_publisher, run}
use Rattle.wire_runs.specs.Order.{IsArrival, Live}
use Rattle.wire_runs.specs.Races.{Delivery, ByFence, ByGet, IsOf, FenceBringsAway, ComesSurely}
use Rattle.wire_runs.specs.Placings.{IsPlacing, HasSurely, without_reply}
use Rattle.wire_runs.specs.PlacingLaws.{AreAlike}
use Rattle.wire_runs.proofs.Arrivals.{node_among}
use Rattle.wire_runs.proofs.Anywhere.{to_node, settled_there}
use Rattle.wire_runs.proofs.PlainRun.{plain_runs}
use Rattle.wire_runs.proofs.PlacingKeeps.{turned, alike, is_fixed, calls_kept, kind_kept, scope_same, arrivals_same, surely_kept, placing_keeps}
use Rattle.wire_runs.proofs.PlacingRuns.{run_alike}
use Rattle.wire_library_laws.specs.Library.{Family, Words, IsPlainFence}
use Rattle.wire_library_laws.specs.Portable.{EndsFirst, IsAsked, Lacks, Lacked, IsThereFirst, IsFor, IsPortableNear, IsPortableFar, AreMates, ComesWithin, MayBring, fence, get, LibrariesHave, left, got, IsPortableNow, nothing, surely, SeesNoRemote, AreNamesFine, IsFixed, IsPortable}
use Rattle.wire_library_laws.specs.Anywhere.{MayBringAway, fence as fence_away, get as get_away, OwnCallsHave, left as left_it, got as got_it, IsPortableNowAnywhere, nothing as nothing_away, surely as surely_away, IsPortableAnywhere, PortableThere, LibraryAnywhere}
use Rattle.wire_library_laws.proofs.Stuck.{library_one_end}

module _ (plan other : Plan) (same : IsPlacing plan other) where
  keeps : AreAlike plan other
  keeps = placing_keeps plan other same

  asked_back : (g : Event) → IsAsked other g → IsAsked plan g
  asked_back g a y last = (keeps.lives y).1 (a y last)

  first_there : (x g : Event) → EndsFirst plan x g → EndsFirst other x g
  first_there x g e = record { last = e.last; is = e.is; leads = elim e.leads [ inl s ↦ inl s | inr b ↦ inr ((keeps.chains x e.last).0 b) ] }

  first_back : (x g : Event) → EndsFirst other x g → EndsFirst plan x g
  first_back x g e = record { last = e.last; is = e.is; leads = elim e.leads [ inl s ↦ inl s | inr b ↦ inr ((keeps.chains x e.last).1 b) ] }

  admits_there : (p u : ℕ) (near : _) → admits (scope_of plan p u) near ≡ true → admits (scope_of other p u) near ≡ true
  admits_there p u near a = sym (ap (λ c. admits c near) (scope_same plan other same p u)) ∙ a

  lacks_back : (p key : ℕ) (c : Event) → Lacks other p key c → Lacks plan p key c
  lacks_back p key c l = record {
    is = kind_kept other plan (turned same) c Commit refl l.is;
    its = l.its;
    is_live = (keeps.lives c).1 l.is_live;
    missing = keeps.stores_same p key (suc c.at) ∙ l.missing;
  }

  lacked_back : (p key : ℕ) (c : Event) → Lacked other p key c → Lacked plan p key c
  lacked_back p key c l = record {
    is = kind_kept other plan (turned same) c Commit refl l.is;
    its = l.its;
    is_live = (keeps.lives c).1 l.is_live;
    missing = keeps.stores_same p key c.at ∙ l.missing;
  }

  there_there : (p key : ℕ) (g : Event) → IsThereFirst plan p key g → IsThereFirst other p key g
  there_there p key g t = record {
    event = t.event;
    its = t.its;
    there = sym (ap is_some (keeps.stores_same p key (suc t.event.at))) ∙ t.there;
    first = first_there t.event g t.first;
  }

  for_there : (p key : ℕ) (near : _) → IsFor plan p key near → IsFor other p key near
  for_there p key near f x u its is_live here =
      admits_there p u near (f x u its ((keeps.lives x).1 is_live) (keeps.stores_same p key (suc x.at) ∙ here))

  near_there : (family : Family) (p key : ℕ) (g : Event) → IsPortableNear family plan p key g → IsPortableNear family other p key g
  near_there family p key g n = record {
    scope = for_there p key true n.scope;
    first = λ c l. first_there c g (n.first c (lacks_back p key c l));
    flaky = λ f c l. first_there c g (n.flaky f c (lacked_back p key c l));
  }

  far_there : (family : Family) (p key : ℕ) (g : Event) → IsPortableFar family plan p key g → IsPortableFar family other p key g
  far_there family p key g n = record {
    scope = for_there p key false n.scope;
    first = λ at_once c l. there_there p key g (n.first at_once c (lacks_back p key c l));
  }

  mates_there : (family : Family) (p key other_key : ℕ) (g h : Event) → AreMates family plan p key other_key g h → AreMates family other p key other_key g h
  mates_there family p key other_key g h m after not_before c l brings =
      there_there p key h (m (λ f. after (first_there g h f)) (λ f. not_before (first_there h g f)) c (lacks_back p key c l)
      (λ n. ap is_some (keeps.stores_same p other_key (suc c.at)) ∙ brings n))

  away_back : (p key : ℕ) (members : List ℕ) (j : ℕ) → FenceBringsAway other p key members j → FenceBringsAway plan p key members j
  away_back p key members j b = record {
    full = keeps.full members j ∙ b.full;
    collecting = keeps.collecting members j ∙ b.collecting;
    member = b.member;
    at = b.at;
    put = b.put;
    arrival = (keeps.arrivals members j _).1 b.arrival;
    committed = keeps.stores_same p key b.at ∙ b.committed;
    admitted = ap (λ c. admits c false) (scope_same plan other same p b.put) ∙ b.admitted;
  }

  away_there : (p key : ℕ) (members : List ℕ) (j : ℕ) → FenceBringsAway plan p key members j → FenceBringsAway other p key members j
  away_there p key members j b = record {
    full = sym (keeps.full members j) ∙ b.full;
    collecting = sym (keeps.collecting members j) ∙ b.collecting;
    member = b.member;
    at = b.at;
    put = b.put;
    arrival = (keeps.arrivals members j _).0 b.arrival;
    committed = sym (keeps.stores_same p key b.at) ∙ b.committed;
    admitted = admits_there p b.put false b.admitted;
  }

  within_back : (p key : ℕ) (g : Event) → ComesWithin other p key g → ComesWithin plan p key g
  within_back p key g c = record {
    commit = c.commit;
    its = c.its;
    stores = (keeps.stores c.commit key).1 c.stores;
    is_live = (keeps.lives c.commit).1 c.is_live;
    put = c.put;
    here = keeps.stores_same p key (suc c.commit.at) ∙ c.here;
    admitted = ap (λ s. admits s false) (scope_same plan other same p c.put) ∙ c.admitted;
    late = λ b. c.late ((keeps.chains g c.commit).0 b);
  }

  of_there : (d : Delivery) (z : Event) → IsOf plan d z → IsOf other d z
  of_there (ByFence members j) z a = (keeps.arrivals members j z).0 a
  of_there (ByGet g) z e = e

  -- on the owner's own node the gets of the owner itself may be counted
  bring_back : (p key node : ℕ) → (node_of other p ≡ node → ⊥) → (d : Delivery) → MayBring other p key node d → MayBringAway plan p key d
  bring_back p key node away _ (fence {members = members} {j = j} delivers all_live) =
      fence_away (away_back p key members j delivers.away) (λ z a. (keeps.lives z).1 (all_live z ((keeps.arrivals members j z).0 a)))
  bring_back p key node away _ (get {g = g} other_key is there is_live within) =
      get_away other_key (kind_kept other plan (turned same) g (Get p other_key) refl is) (λ e. away (ap (node_of other) (sym e) ∙ there)) ((keeps.lives g).1 is_live)
      (λ ne. within_back p key g (within ne))

  have_there : (family : Family) (words : Words) (p key : ℕ) (g : Event) → OwnCallsHave family words plan p key g → LibrariesHave family words other p key g
  have_there family words p key g (left_it members j leave brings away member job leaves nth own before) =
      left members j g.proc leave brings (record { away = away_there p key members j away; reaches = node_among other members g.proc (node_of other g.proc) member refl })
      (record { member = member; there = refl; job = job }) (kind_kept plan other same leave (Leave members) refl leaves)
      (sym (arrivals_same plan other same leave.proc members leave.at) ∙ nth) (ap (node_of other) own) ((keeps.chains leave g).0 before)
  have_there family words p key g (got_it reader commit other_key u is own before its stores here for_others) =
      got reader commit other_key u (kind_kept plan other same reader (Get p other_key) refl is) (ap (node_of other) own) ((keeps.chains reader g).0 before) its
      ((keeps.stores commit other_key).0 stores) (sym (keeps.stores_same p key (suc commit.at)) ∙ here) (admits_there p u false for_others)

  sure_there : (p key : ℕ) (g : Event) → HasSurely plan p key g.proc g → ComesSurely other p key (node_of other g.proc) g
  sure_there p key g s =
      let h = surely_kept plan other same p key g.proc g s in
      record { delivery = h.delivery; delivers = to_node other p key (node_of other g.proc) g.proc h.delivery refl h.carries; all_before = h.all_before }

  now_there : (family : Family) (words : Words) (p key : ℕ) (g : Event) → (node_of other p ≡ node_of other g.proc → ⊥) → IsPortableNowAnywhere family words plan p key g →
      IsPortableNow family words other p key g
  now_there family words p key g away (nothing_away unseen) =
      nothing (λ d may. let r = unseen d (bring_back p key (node_of other g.proc) away d may) in (r.0, of_there d r.0 r.1, (keeps.chains g r.0).0 r.2))
  now_there family words p key g away (surely_away rules have) = surely (sure_there p key g rules) (have_there family words p key g have)

  remote_there : (p key : ℕ) (g : Event) → SeesNoRemote plan p key g → SeesNoRemote other p key g
  remote_there p key g n x u its is_live here not_for =
      (keeps.chains g x).0 (n x u its ((keeps.lives x).1 is_live) (keeps.stores_same p key (suc x.at) ∙ here) (ap (λ c. admits c true) (scope_same plan other same p u) ∙ not_for))

  arrival_back : (members : List ℕ) (j : ℕ) (z : Event) → IsArrival other members j z → IsArrival plan members j z
  arrival_back members j z a = record {
    collect = a.collect;
    is = kind_kept other plan (turned same) z (Arrive members a.collect) refl a.is;
    member = a.member;
    nth = arrivals_same plan other same z.proc members (suc z.at) ∙ a.nth;
  }

  fences_there : (words : Words) (members : List ℕ) (j : ℕ) → IsPlainFence words plan (Live plan) members j → IsPlainFence words other (Live other) members j
  unfolding arrival_back
  fences_there words members j f = record {
    sign = f.sign;
    alike = λ z collect is_live is. f.alike z collect ((keeps.lives z).1 is_live) (kind_kept other plan (turned same) z (Arrive members collect) refl is);
    agree = λ y z a b live_y live_z. collects_alike y z a b ((keeps.lives y).1 live_y) ((keeps.lives z).1 live_z);
  }
    where
      collects_alike : (y z : Event) (a : IsArrival other members j y) (b : IsArrival other members j z) → Live plan y → Live plan z → a.collect ≡ b.collect
      collects_alike y z a b live_y live_z = f.agree y z (arrival_back members j y a) (arrival_back members j z b) live_y live_z

  -- the state that the same run has come to on the plan's own nodes
  back_reached : (w : List ℕ) → IsInterleaving other start w → IsReachable plan (run plan w)
  back_reached w legal = (w, ((run_alike plan other same).runs w).interleavings.1 legal, refl)

  next_back : (w : List ℕ) (p : ℕ) (k : Kind) → is_fixed k ≡ false → next_kind other (run other w) p ≡ Some k → next_kind plan (run plan w) p ≡ Some k
  next_back w p k f is =
      ap (kind_at plan p) (((run_alike plan other same).runs w).done p)
      ∙ kind_kept other plan (turned same) (next_event (run other w) p) k f is

  names_there : AreNamesFine plan → AreNamesFine other
  names_there n = record {
    fresh = λ s p name r is.
        subst (λ t. t.names name ≡ None) r.2 (sym (((run_alike plan other same).runs r.0).names name)
        ∙ n.fresh (run plan r.0) p name (back_reached r.0 r.1) (next_back r.0 p (Publish name) refl (subst (λ t. next_kind other t p ≡ Some (Publish name)) (sym r.2) is)));
    held = λ s p name r is.
        subst (λ t. is_publisher p (t.names name) ≡ true) r.2 (sym (ap (is_publisher p) (((run_alike plan other same).runs r.0).names name))
        ∙ n.held (run plan r.0) p name (back_reached r.0 r.1) (next_back r.0 p (Unpublish name) refl (subst (λ t. next_kind other t p ≡ Some (Unpublish name)) (sym r.2) is)));
  }

  fixed_back : (y : Event) → IsFixed other y → IsFixed plan y
  fixed_back y f = go (kind plan y) refl (alike plan other same y.proc y.at ∙ ap (option_map without_reply) f.1)
    where
      go : (o : Option Kind) → kind plan y ≡ o → option_map without_reply o ≡ Some (without_reply (Fixed f.0)) → IsFixed plan y
      go (Some (Fixed r)) e h = (r, e)
      go _ e h = cc

  name_call_back : (name : ℕ) (y : Event) → calls_name other name y (kind other y) ≡ true → calls_name plan name y (kind plan y) ≡ true
  name_call_back name y c = calls_kept plan other same name y ∙ c

  portable_there : (family : Family) (words : Words) → IsPortableAnywhere family words plan → IsPortable family words other
  portable_there family words a = record {
    no_rewrite = λ x y r. a.no_rewrite x y ((keeps.rewrites x y).1 r);
    near = λ g p key is. near_there family p key g (a.near g p key (get_back g p key is.is) is.other (asked_back g is.asked));
    far = λ g p key is. far_there family p key g (a.far g p key (get_back g p key is.is) is.other (asked_back g is.asked));
    mates = λ g h p key other_key is_g is_h others on_node.
        mates_there family p key other_key g h (a.mates g h p key other_key (get_back g p key is_g.is) (get_back h p other_key is_h.is) is_g.other is_h.other (asked_back g is_g.asked) (asked_back h is_h.asked) others);
    near_now = λ g p key is another here asks. remote_there p key g (a.near_now g p key (kind_kept other plan (turned same) g (GetNow p key) refl is) another (asked_back g asks));
    far_now = λ g p key is away asks.
        now_there family words p key g (λ e. true≢false (sym (eq-eqb (node_of other p) (node_of other g.proc) e) ∙ away))
        (a.far_now g p key (kind_kept other plan (turned same) g (GetNow p key) refl is) (apart p g.proc away) (asked_back g asks));
    fences = λ members j. fences_there words members j (a.fences members j);
    named = λ y name c asks. a.named y name (name_call_back name y c) (asked_back y asks);
    names = names_there a.names;
    star = λ y is asks. a.star y (kind_kept other plan (turned same) y UnpublishAll refl is) (asked_back y asks);
    reserved = λ y f asks. a.reserved y (fixed_back y f) (asked_back y asks);
  }
    where
      get_back : (g : Event) (p key : ℕ) → kind other g ≡ Some (Get p key) → kind plan g ≡ Some (Get p key)
      get_back g p key is = kind_kept other plan (turned same) g (Get p key) refl is

      apart : (p q : ℕ) → same_node other p q ≡ false → q ≡ p → ⊥
      apart p q away e = true≢false (sym (eq-eqb (node_of other p) (node_of other q) (ap (node_of other) (sym e))) ∙ away)

pub placed_portable : PortableThere
placed_portable family words plan other same a = portable_there plan other same family words a

pub library_anywhere : LibraryAnywhere
library_anywhere family words plan other h settled a same run_ ends =
    library_one_end family words other h ((plain_runs other).is_the_end (settled_there plan other same settled)) (placed_portable family words plan other same a) run_ ends
