-- A placing of a plan has the plan's counts, puts, fences, edges, live events and chains, and its races that read no node.
use Rattle.std.proofs.Common.{◌≡◌, ℕ, zero, suc, List, length, Bool, true, false, cond, nat_eq, nat_le, ◌||◌, Option, Some, is_some, option_map, refl, sym, ap, ◌∙◌, subst, slice_get}
use Rattle.std.proofs.Math.Path.{fun_ext}
use Rattle.std.specs.List.{list_all}
use Rattle.std.proofs.lemmas.Option.{slice_get-map}
use Rattle.std.proofs.lemmas.List.{length-map}
use Rattle.wire_runs.specs.Plan.{Plan, Kind, Put, Arrive, Leave, Get, GetNow, Publish, LookupWait, UnpublishAll, Fixed, kinds, kind_at, kind, event_count, admits, Event}
use Rattle.wire_runs.specs.Puts.{own_with, own, stored_with, stored, put_count_with, put_count, scope_in, scope_of}
use Rattle.wire_runs.specs.Fences.{arrivals_with, arrivals, is_full, collects_with, collects, is_collecting}
use Rattle.wire_runs.specs.Names.{is_publish, publishes, takes_name, writes_name, calls_name}
use Rattle.wire_runs.specs.Order.{Stores, IsArrival, PublishesOnce, Edge, Follows, Meets, Feeds, Announces, may_come, Live, live, Before, edge, further}
use Rattle.wire_runs.specs.Races.{IsRewrite, IsUnordered, Delivery, ByFence, ByGet, IsOf, IsNameRace, BringsAway, IsNearRace}
use Rattle.wire_runs.specs.Placings.{without_reply, IsPlacing, Carries, HasSurely, IsFarRace}
use Rattle.wire_runs.specs.PlacingLaws.{PlacingKeeps}

abbrev pub is_fixed : Kind → Bool
is_fixed (Fixed reply) = true
is_fixed _ = false

-- a function of kinds that reads no reply
abbrev pub IsBlind : {A : Type 0} → (Option Kind → A) → Type 0
IsBlind f = (o : Option Kind) → f o ≡ f (option_map without_reply o)

own_blind : (key n : ℕ) (before : Option ℕ) → IsBlind (own_with key n before)
own_blind key n before (Some (Fixed reply)) = refl
own_blind key n before _ = refl

stored_blind : (committed before : Option ℕ) → IsBlind (stored_with committed before)
stored_blind committed before (Some (Fixed reply)) = refl
stored_blind committed before _ = refl

put_count_blind : (key n : ℕ) → IsBlind (put_count_with key n)
put_count_blind key n (Some (Fixed reply)) = refl
put_count_blind key n _ = refl

scope_blind : IsBlind scope_in
scope_blind (Some (Fixed reply)) = refl
scope_blind _ = refl

arrivals_blind : (members : List ℕ) (n : ℕ) → IsBlind (arrivals_with members n)
arrivals_blind members n (Some (Fixed reply)) = refl
arrivals_blind members n _ = refl

collects_blind : (members : List ℕ) (j n : ℕ) (before : Bool) → IsBlind (collects_with members j n before)
collects_blind members j n before (Some (Fixed reply)) = refl
collects_blind members j n before _ = refl

publish_blind : (name : ℕ) → IsBlind (is_publish name)
publish_blind name (Some (Fixed reply)) = refl
publish_blind name _ = refl

takes_blind : (plan : Plan) (name : ℕ) (x : Event) → IsBlind (takes_name plan name x)
takes_blind plan name x (Some (Fixed reply)) = refl
takes_blind plan name x _ = refl

writes_blind : (plan : Plan) (name : ℕ) (x : Event) → IsBlind (writes_name plan name x)
writes_blind plan name x (Some (Fixed reply)) = refl
writes_blind plan name x _ = refl

calls_blind : (plan : Plan) (name : ℕ) (x : Event) → IsBlind (calls_name plan name x)
calls_blind plan name x (Some (Fixed reply)) = refl
calls_blind plan name x _ = refl

may_blind : (plan : Plan) (y : Event) → IsBlind (may_come plan y)
may_blind plan y (Some (Fixed reply)) = refl
may_blind plan y _ = refl

pub kept_with : (o : Option Kind) (k : Kind) → is_fixed k ≡ false → option_map without_reply o ≡ Some k → o ≡ Some k
kept_with (Some (Fixed reply)) k f e = cc
kept_with _ k f e = e

pub asked : (k : Kind) → is_fixed k ≡ false → without_reply k ≡ k
asked (Fixed reply) f = cc
asked _ f = refl

pub turned : {plan other : Plan} → IsPlacing plan other → IsPlacing other plan
turned same = record { same_keep = sym same.same_keep; same_count = sym same.same_count; same_calls = λ p. sym (same.same_calls p) }

module _ (plan other : Plan) (same : IsPlacing plan other) where
  pub alike : (p i : ℕ) → option_map without_reply (kind_at plan p i) ≡ option_map without_reply (kind_at other p i)
  unfolding kind_at
  alike p i = sym (slice_get-map without_reply (kinds plan p) i) ∙ ap (λ ks. slice_get ks i) (same.same_calls p) ∙ slice_get-map without_reply (kinds other p) i

  pub counts : (p : ℕ) → event_count plan p ≡ event_count other p
  unfolding event_count
  counts p = sym (length-map (kinds plan p) without_reply) ∙ ap length (same.same_calls p) ∙ length-map (kinds other p) without_reply

  -- such a function is the same of an event in both
  pub by_kind : {A : Type 0} (f : Option Kind → A) → IsBlind f → (p i : ℕ) → f (kind_at plan p i) ≡ f (kind_at other p i)
  by_kind f blind p i = blind (kind_at plan p i) ∙ ap f (alike p i) ∙ sym (blind (kind_at other p i))

  -- an event does the same in both, if it isn't a call with a reply known from the start
  pub kind_kept : (x : Event) (k : Kind) → is_fixed k ≡ false → kind plan x ≡ Some k → kind other x ≡ Some k
  kind_kept x k f is = kept_with (kind other x) k f (sym (alike x.proc x.at) ∙ ap (option_map without_reply) is ∙ ap (λ k. Some k) (asked k f))

  pub own_same : (p key n : ℕ) → own plan p key n ≡ own other p key n
  own_same p key zero = refl
  own_same p key (suc n) = ap (λ b. own_with key n b (kind_at plan p n)) (own_same p key n) ∙ by_kind (own_with key n (own other p key n)) (own_blind key n _) p n

  pub stored_same : (p key n : ℕ) → stored plan p key n ≡ stored other p key n
  stored_same p key zero = refl
  stored_same p key (suc n) =
      ap (λ b. stored_with b (stored plan p key n) (kind_at plan p n)) (own_same p key n)
      ∙ ap (λ b. stored_with (own other p key n) b (kind_at plan p n)) (stored_same p key n)
      ∙ by_kind (stored_with (own other p key n) (stored other p key n)) (stored_blind _ _) p n

  pub put_count_same : (p key n : ℕ) → put_count plan p key n ≡ put_count other p key n
  put_count_same p key zero = refl
  put_count_same p key (suc n) =
      ap (λ b. put_count_with key b (kind_at plan p n)) (put_count_same p key n) ∙ by_kind (put_count_with key (put_count other p key n)) (put_count_blind key _) p n

  pub scope_same : (p i : ℕ) → scope_of plan p i ≡ scope_of other p i
  scope_same p i = by_kind scope_in scope_blind p i

  pub arrivals_same : (p : ℕ) (members : List ℕ) (n : ℕ) → arrivals plan p members n ≡ arrivals other p members n
  arrivals_same p members zero = refl
  arrivals_same p members (suc n) =
      ap (λ b. arrivals_with members b (kind_at plan p n)) (arrivals_same p members n)
      ∙ by_kind (arrivals_with members (arrivals other p members n)) (arrivals_blind members _) p n

  pub full_same : (members : List ℕ) (j : ℕ) → is_full plan members j ≡ is_full other members j
  full_same members j =
      ap (λ f. list_all f members) (fun_ext (λ m. ap (λ n. nat_le j (arrivals plan m members n)) (counts m) ∙ ap (nat_le j) (arrivals_same m members (event_count other m))))

  collects_same : (p : ℕ) (members : List ℕ) (j n : ℕ) → collects plan p members j n ≡ collects other p members j n
  collects_same p members j zero = refl
  collects_same p members j (suc n) =
      ap (λ a. collects_with members j a (collects plan p members j n) (kind_at plan p n)) (arrivals_same p members n)
      ∙ ap (λ b. collects_with members j (arrivals other p members n) b (kind_at plan p n)) (collects_same p members j n)
      ∙ by_kind (collects_with members j (arrivals other p members n) (collects other p members j n)) (collects_blind members j _ _) p n

  pub collecting_same : (members : List ℕ) (j : ℕ) → is_collecting plan members j ≡ is_collecting other members j
  collecting_same members j =
      ap (λ f. list_all f members) (fun_ext (λ m. ap (collects plan m members j) (counts m) ∙ collects_same m members j (event_count other m)))

  publishes_same : (p name n : ℕ) → publishes plan p name n ≡ publishes other p name n
  publishes_same p name zero = refl
  publishes_same p name (suc n) =
      ap (λ b. is_publish name (kind_at plan p n) || b) (publishes_same p name n) ∙ ap (λ b. b || publishes other p name n) (by_kind (is_publish name) (publish_blind name) p n)

  takes_same : (name : ℕ) (x : Event) (o : Option Kind) → takes_name plan name x o ≡ takes_name other name x o
  takes_same name x (Some UnpublishAll) = ap (publishes plan x.proc name) (counts x.proc) ∙ publishes_same x.proc name (event_count other x.proc)
  takes_same name x _ = refl

  writes_same : (name : ℕ) (x : Event) (o : Option Kind) → writes_name plan name x o ≡ writes_name other name x o
  writes_same name x (Some UnpublishAll) = takes_same name x (Some UnpublishAll)
  writes_same name x _ = refl

  calls_same : (name : ℕ) (x : Event) (o : Option Kind) → calls_name plan name x o ≡ calls_name other name x o
  calls_same name x (Some UnpublishAll) = takes_same name x (Some UnpublishAll)
  calls_same name x _ = refl

  pub takes_kept : (name : ℕ) (x : Event) → takes_name plan name x (kind plan x) ≡ takes_name other name x (kind other x)
  takes_kept name x = takes_same name x (kind plan x) ∙ by_kind (takes_name other name x) (takes_blind other name x) x.proc x.at

  pub writes_kept : (name : ℕ) (x : Event) → writes_name plan name x (kind plan x) ≡ writes_name other name x (kind other x)
  writes_kept name x = writes_same name x (kind plan x) ∙ by_kind (writes_name other name x) (writes_blind other name x) x.proc x.at

  pub calls_kept : (name : ℕ) (x : Event) → calls_name plan name x (kind plan x) ≡ calls_name other name x (kind other x)
  calls_kept name x = calls_same name x (kind plan x) ∙ by_kind (calls_name other name x) (calls_blind other name x) x.proc x.at

  may_same : (y : Event) (o : Option Kind) → may_come plan y o ≡ may_come other y o
  may_same y (Some (Get owner key)) =
      ap (λ b. cond (nat_eq y.proc owner) b (is_some (stored plan owner key (event_count plan owner)) || nat_le 2 (put_count plan owner key (event_count plan owner)))) (ap is_some (own_same owner key y.at))
      ∙ ap (λ n. cond (nat_eq y.proc owner) (is_some (own other owner key y.at)) (is_some (stored plan owner key n) || nat_le 2 (put_count plan owner key n))) (counts owner)
      ∙ ap (λ b. cond (nat_eq y.proc owner) (is_some (own other owner key y.at)) (is_some b || nat_le 2 (put_count plan owner key (event_count other owner)))) (stored_same owner key (event_count other owner))
      ∙ ap (λ n. cond (nat_eq y.proc owner) (is_some (own other owner key y.at)) (is_some (stored other owner key (event_count other owner)) || nat_le 2 n)) (put_count_same owner key (event_count other owner))
  may_same y (Some (Leave members)) = full_same members (arrivals plan y.proc members y.at) ∙ ap (is_full other members) (arrivals_same y.proc members y.at)
  may_same y _ = refl

  may_kept : (y : Event) → may_come plan y (kind plan y) ≡ may_come other y (kind other y)
  may_kept y = may_same y (kind plan y) ∙ by_kind (may_come other y) (may_blind other y) y.proc y.at

  pub stores_kept : (x : Event) (key : ℕ) → Stores plan x key → Stores other x key
  stores_kept x key s = record {
    nothing_before = sym (stored_same x.proc key x.at) ∙ s.nothing_before;
    something_after = ap is_some (sym (stored_same x.proc key (suc x.at))) ∙ s.something_after;
  }

  pub arrival_kept : (members : List ℕ) (j : ℕ) (z : Event) → IsArrival plan members j z → IsArrival other members j z
  arrival_kept members j z a = record {
    collect = a.collect;
    is = kind_kept z (Arrive members a.collect) refl a.is;
    member = a.member;
    nth = sym (arrivals_same z.proc members (suc z.at)) ∙ a.nth;
  }

  pub once_kept : (p key n : ℕ) → put_count plan p key (event_count plan p) ≡ n → put_count other p key (event_count other p) ≡ n
  once_kept p key n e = sym (ap (put_count plan p key) (counts p) ∙ put_count_same p key (event_count other p)) ∙ e

  rewrite_kept : (x y : Event) → IsRewrite plan x y → IsRewrite other x y
  rewrite_kept x y r = record {
    key = r.key;
    first_scope = r.first_scope;
    later_scope = r.later_scope;
    first_is = kind_kept x (Put r.key r.first_scope) refl r.first_is;
    later_is = kind_kept y (Put r.key r.later_scope) refl r.later_is;
    first = sym (own_same x.proc r.key x.at) ∙ r.first;
    same = r.same;
    later = r.later;
  }

pub publishes_once : (plan other : Plan) → IsPlacing plan other → (x : Event) (name : ℕ) → PublishesOnce plan x name → PublishesOnce other x name
publishes_once plan other same x name p = record {
  is = kind_kept plan other same x (Publish name) refl p.is;
  only = λ y is. p.only y (kind_kept other plan (turned same) y (Publish name) refl is);
  stays = λ y. sym (takes_kept plan other same name y) ∙ p.stays y;
}

edge_kept : (plan other : Plan) → IsPlacing plan other → (x y : Event) → Edge plan x y → Edge other x y
edge_kept plan other same x y (Follows e n) = Follows e n
edge_kept plan other same x y (Meets members is a) =
    Meets members (kind_kept plan other same y (Leave members) refl is)
    (subst (λ j. IsArrival other members j x) (arrivals_same plan other same y.proc members y.at) (arrival_kept plan other same members _ x a))
edge_kept plan other same x y (Feeds key is another once stores) =
    Feeds key (kind_kept plan other same y (Get x.proc key) refl is) another (once_kept plan other same x.proc key 1 once) (stores_kept plan other same x key stores)
edge_kept plan other same x y (Announces name is once) =
    Announces name (kind_kept plan other same y (LookupWait name) refl is) (publishes_once plan other same x name once)

live_kept : (plan other : Plan) → IsPlacing plan other → {y : Event} → Live plan y → Live other y
live_kept plan other same (live may from) =
    live (sym (may_kept plan other same _) ∙ may) (λ x e. live_kept plan other same (from x (edge_kept other plan (turned same) x _ e)))

before_kept : (plan other : Plan) → IsPlacing plan other → {x y : Event} → Before plan x y → Before other x y
before_kept plan other same (edge l e m) = edge (live_kept plan other same l) (edge_kept plan other same _ _ e) (live_kept plan other same m)
before_kept plan other same (further b e m) = further (before_kept plan other same b) (edge_kept plan other same _ _ e) (live_kept plan other same m)

pub unordered_kept : (plan other : Plan) → IsPlacing plan other → (x y : Event) → IsUnordered plan x y → IsUnordered other x y
unordered_kept plan other same x y u = record {
  live_x = live_kept plan other same u.live_x;
  live_y = live_kept plan other same u.live_y;
  not_before = λ b. u.not_before (before_kept other plan (turned same) b);
  not_after = λ b. u.not_after (before_kept other plan (turned same) b);
}

name_race_kept : (plan other : Plan) → IsPlacing plan other → (x y : Event) (name : ℕ) → IsNameRace plan x y name → IsNameRace other x y name
name_race_kept plan other same x y name r = record {
  x_writes = sym (writes_kept plan other same name x) ∙ r.x_writes;
  y_calls = sym (calls_kept plan other same name y) ∙ r.y_calls;
  others = r.others;
  not_once = λ once is. r.not_once (publishes_once other plan (turned same) x name once) (kind_kept other plan (turned same) y (LookupWait name) refl is);
  unordered = unordered_kept plan other same x y r.unordered;
}

of_kept : (plan other : Plan) → IsPlacing plan other → (d : Delivery) (z : Event) → IsOf plan d z → IsOf other d z
of_kept plan other same (ByFence members j) z a = arrival_kept plan other same members j z a
of_kept plan other same (ByGet get) z e = e

brings_kept : (plan other : Plan) → IsPlacing plan other → (p key : ℕ) (d : Delivery) → BringsAway plan p key d → BringsAway other p key d
brings_kept plan other same p key (ByFence members j) b = record {
  full = sym (full_same plan other same members j) ∙ b.full;
  collecting = sym (collecting_same plan other same members j) ∙ b.collecting;
  member = b.member;
  at = b.at;
  put = b.put;
  arrival = arrival_kept plan other same members j _ b.arrival;
  committed = sym (stored_same plan other same p key b.at) ∙ b.committed;
  admitted = ap (λ s. admits s false) (sym (scope_same plan other same p b.put)) ∙ b.admitted;
}
brings_kept plan other same p key (ByGet get) b = record {
  keeps = sym same.same_keep ∙ b.keeps;
  is = kind_kept plan other same get (Get p key) refl b.is;
  put = b.put;
  committed = sym (ap (stored plan p key) (counts plan other same p) ∙ stored_same plan other same p key (event_count other p)) ∙ b.committed;
  admitted = ap (λ s. admits s false) (sym (scope_same plan other same p b.put)) ∙ b.admitted;
}

carries_kept : (plan other : Plan) → IsPlacing plan other → (p key m : ℕ) (d : Delivery) → Carries plan p key m d → Carries other p key m d
carries_kept plan other same p key m d c = record {
  another = c.another;
  takes_part = c.takes_part;
  brings_away = brings_kept plan other same p key d c.brings_away;
  all_live = λ z a. live_kept plan other same (c.all_live z (of_kept other plan (turned same) d z a));
}

pub surely_kept : (plan other : Plan) → IsPlacing plan other → (p key m : ℕ) (get : Event) → HasSurely plan p key m get → HasSurely other p key m get
surely_kept plan other same p key m get h = record {
  delivery = h.delivery;
  carries = carries_kept plan other same p key m h.delivery h.carries;
  all_before = λ z a. before_kept plan other same (h.all_before z (of_kept other plan (turned same) h.delivery z a));
}

near_kept : (plan other : Plan) → IsPlacing plan other → (x y : Event) (key : ℕ) → IsNearRace plan x y key → IsNearRace other x y key
near_kept plan other same x y key r = record {
  is = kind_kept plan other same y (GetNow x.proc key) refl r.is;
  another = r.another;
  once = once_kept plan other same x.proc key 1 r.once;
  stores = stores_kept plan other same x key r.stores;
  unordered = unordered_kept plan other same x y r.unordered;
}

far_kept : (plan other : Plan) → IsPlacing plan other → (x y : Event) (p key m : ℕ) → IsFarRace plan x y p key m → IsFarRace other x y p key m
far_kept plan other same x y p key m r = record {
  is = kind_kept plan other same y (GetNow p key) refl r.is;
  another = r.another;
  once = once_kept plan other same p key 1 r.once;
  get_live = live_kept plan other same r.get_live;
  reader_not_sure = λ h. r.reader_not_sure (surely_kept other plan (turned same) p key y.proc y h);
  neighbour_not_sure = λ h. r.neighbour_not_sure (surely_kept other plan (turned same) p key m y h);
  delivery = r.delivery;
  carries = carries_kept plan other same p key m r.delivery r.carries;
  before_none = λ z a b. r.before_none z (of_kept other plan (turned same) r.delivery z a) (before_kept other plan (turned same) b);
  of_it = of_kept plan other same r.delivery x r.of_it;
  not_before = λ b. r.not_before (before_kept other plan (turned same) b);
  first = λ z a not. r.first z (of_kept other plan (turned same) r.delivery z a) (λ b. not (before_kept plan other same b));
}

pub placing_keeps : PlacingKeeps
placing_keeps plan other same = let back = turned same in
    record {
      counts = counts plan other same;
      stores_same = stored_same plan other same;
      full = full_same plan other same;
      collecting = collecting_same plan other same;
      stores = λ x key. (stores_kept plan other same x key, stores_kept other plan back x key);
      arrivals = λ members j z. (arrival_kept plan other same members j z, arrival_kept other plan back members j z);
      edges = λ x y. (edge_kept plan other same x y, edge_kept other plan back x y);
      lives = λ x. (live_kept plan other same, live_kept other plan back);
      chains = λ x y. (before_kept plan other same, before_kept other plan back);
      rewrites = λ x y. (rewrite_kept plan other same x y, rewrite_kept other plan back x y);
      name_races = λ x y name. (name_race_kept plan other same x y name, name_race_kept other plan back x y name);
      carries = λ p key m d. (carries_kept plan other same p key m d, carries_kept other plan back p key m d);
      near_races = λ x y key. (near_kept plan other same x y key, near_kept other plan back x y key);
      far_races = λ x y owner key m. (far_kept plan other same x y owner key m, far_kept other plan back x y owner key m);
    }
