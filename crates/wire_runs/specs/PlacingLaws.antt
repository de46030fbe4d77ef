-- The laws of placings, for every plan. Each is the contract of a function of src/laws.rt.
use Rattle.std.specs.Prelude.{◌↔◌, Option, Some, ◌≡◌, ◌≢◌, ℕ, suc, ◌<◌, List, [], Bool, true, false, not, ◌⊎◌, ◌==◌}
use Rattle.std.specs.Prelude.{is_some, slice_get, map}
use Rattle.wire_runs.specs.Plan.{Plan, Event, Kind, Leave, Get, GetNow, Fixed, kind, event_count, node_of}
use Rattle.wire_runs.specs.Plan.{same_node, process_count}
use Rattle.wire_runs.specs.Puts.{stored, scope_of}
use Rattle.wire_runs.specs.Fences.{arrivals, is_member, is_full, is_collecting}
use Rattle.wire_runs.specs.Order.{Stores, IsArrival, Edge, Live, Before}
use Rattle.wire_runs.specs.Races.{Delivery, IsOf, IsRewrite, IsNearRace, IsNodeRace, IsDeliveryRace, IsNameRace}
use Rattle.wire_runs.specs.Races.{IsSettled}
use Rattle.wire_types.specs.Replies.{bare}
use Rattle.wire_types.specs.declared.CallEnd.{CallEnd}
use Rattle.wire_types.specs.declared.CallEnd.TheVariants.{Replied}
use Rattle.wire_types.specs.declared.Scope.TheVariants.{Global}
use Rattle.wire_types.specs.declared.Status.TheVariants as status
use Rattle.wire_runs.specs.Ends.{row}
use Rattle.wire_runs.specs.State.{Answer, start}
use Rattle.wire_runs.specs.Step.{is_enabled, IsInterleaving, run}
use Rattle.wire_runs.specs.PlainRun.{plain_run}
use Rattle.wire_runs.specs.Laws.{plain_end, IsOneWay, HappensBefore}
use Rattle.wire_runs.specs.Findings.{Finding, IsFound}
use Rattle.wire_runs.specs.FindingsAnywhere.{IsLeastFar, PlacementFinding, OnAll, OnPair, finding_of, IsFoundSomewhere}
use Rattle.wire_runs.specs.FindingsAnywhere.{HasPlacementFinding, IsFindingsAnywhere}
use Rattle.wire_runs.specs.Placings.{IsPlacing, placing, paired, Carries, HasSurely, IsFarRace, IsSettledAnywhere}

-- a and b are on one node, and no other process is
pub record ShareANode (plan : Plan) (a b : ℕ) : Type 0 where
  pub together : same_node plan a b ≡ true
  pub alone : (k : ℕ) → k < process_count plan → same_node plan k a ≡ true → (k ≡ a) ⊎ (k ≡ b)

-- a plan can be placed on any nodes; a plan is a placing of itself, and of each of its placings, and so is a placing of
-- a placing
pub record IsPlaceable (plan : Plan) : Type 0 where
  pub anywhere : (nodes : ℕ → ℕ) → IsPlacing plan (placing plan nodes)
  pub there : (nodes : ℕ → ℕ) (p : ℕ) → p < process_count plan → node_of (placing plan nodes) p ≡ nodes p
  pub pair : (a b : ℕ) → a < process_count plan → b < process_count plan → ShareANode (paired plan a b) a b
  pub itself : IsPlacing plan plan
  pub back : (other : Plan) → IsPlacing plan other → IsPlacing other plan
  pub again : (other third : Plan) → IsPlacing plan other → IsPlacing other third → IsPlacing plan third

abbrev pub PlacingsAre : Type 0
PlacingsAre = (plan : Plan) → IsPlaceable plan

-- what two plans have in common
pub record AreAlike (plan other : Plan) : Type 0 where
  pub counts : (p : ℕ) → event_count plan p ≡ event_count other p
  pub stores_same : (p key n : ℕ) → stored plan p key n ≡ stored other p key n
  pub full : (members : List ℕ) (j : ℕ) → is_full plan members j ≡ is_full other members j
  pub collecting : (members : List ℕ) (j : ℕ) → is_collecting plan members j ≡ is_collecting other members j
  pub stores : (x : Event) (key : ℕ) → Stores plan x key ↔ Stores other x key
  pub arrivals : (members : List ℕ) (j : ℕ) (z : Event) → IsArrival plan members j z ↔ IsArrival other members j z
  pub edges : (x y : Event) → Edge plan x y ↔ Edge other x y
  pub lives : (x : Event) → Live plan x ↔ Live other x
  pub chains : (x y : Event) → Before plan x y ↔ Before other x y
  pub rewrites : (x y : Event) → IsRewrite plan x y ↔ IsRewrite other x y
  pub name_races : (x y : Event) (name : ℕ) → IsNameRace plan x y name ↔ IsNameRace other x y name
  pub carries : (p key m : ℕ) (delivery : Delivery) → Carries plan p key m delivery ↔ Carries other p key m delivery
  pub near_races : (x y : Event) (key : ℕ) → IsNearRace plan x y key ↔ IsNearRace other x y key
  pub far_races : (x y : Event) (owner key m : ℕ) → IsFarRace plan x y owner key m ↔ IsFarRace other x y owner key m

-- a placing has what the plan has
abbrev pub PlacingKeeps : Type 0
PlacingKeeps = (plan other : Plan) → IsPlacing plan other → AreAlike plan other

-- what one arrival at a fence is before, each arrival at it is before
abbrev pub OneArrivalIsAll : Type 0
OneArrivalIsAll =
    (plan : Plan) (members : List ℕ) (j : ℕ) (y z x : Event) → IsArrival plan members j y
    → IsArrival plan members j z → Before plan y x → Before plan z x

-- a member's leave of the j-th fence over these members
pub record IsLeave (plan : Plan) (members : List ℕ) (j : ℕ) (leave : Event) : Type 0 where
  pub is : kind plan leave ≡ Some (Leave members)
  pub member : is_member members leave.proc ≡ true
  pub nth : arrivals plan leave.proc members leave.at ≡ j

-- what is before some arrival at a full fence, all its arrivals live, and isn't itself one of them, is what is before a
-- leave of it
abbrev pub LateByLeave : Type 0
LateByLeave =
    (plan : Plan) (members : List ℕ) (j : ℕ) (leave x : Event) → is_full plan members j ≡ true → ((z : Event)
    → IsArrival plan members j z → Live plan z)
    → IsLeave plan members j leave → ¬ (IsArrival plan members j x)
    → ((z : Event) × IsArrival plan members j z × Before plan x z) ↔ Before plan x leave

-- of a fence, by the arrival and the leave of one member: whether all its arrivals are live, whether they are all
-- before a get-now, and whether the get-now is before none of them. If that one arrival isn't before the get-now, none
-- is
pub record FenceTells (plan : Plan) (members : List ℕ) (j p at : ℕ) (get : Event) : Type 0 where
  pub live : is_full plan members j ≡ true
      → ((z : Event) → IsArrival plan members j z → Live plan z) ↔ Live plan (record { proc = p; at = suc at })
  pub sure : ((z : Event) → IsArrival plan members j z
      → Before plan z get) ↔ Before plan (record { proc = p; at = at }) get
  pub late : is_full plan members j ≡ true → Live plan (record { proc = p; at = suc at })
      → ((z : Event) → IsArrival plan members j z
      → ¬ (Before plan get z)) ↔ (¬ (Before plan get (record { proc = p; at = suc at })))
  pub none : ¬ (Before plan (record { proc = p; at = at }) get) → (z : Event) → IsArrival plan members j z
      → ¬ (Before plan z get)

abbrev pub OneMemberTells : Type 0
OneMemberTells =
    (plan : Plan) (members : List ℕ) (j p at owner key : ℕ) (get : Event)
    → IsArrival plan members j (record { proc = p; at = at })
    → kind plan get ≡ Some (GetNow owner key) → FenceTells plan members j p at get

-- a delivery to the get-now's own process is sure, or the get is before one of its events
abbrev pub ReaderTakesNoPart : Type 0
ReaderTakesNoPart =
    (plan : Plan) (p key owner k : ℕ) (get : Event) (delivery : Delivery) → kind plan get ≡ Some (GetNow owner k)
    → Live plan get
    → Carries plan p key get.proc delivery
    → ((z : Event) → IsOf plan delivery z
    → Before plan z get) ⊎ ((z : Event) × IsOf plan delivery z × Before plan get z)

-- no two processes are on one node
abbrev pub IsOneANode : Plan → Type 0
IsOneANode plan = (p q : ℕ) → p < process_count plan → q < process_count plan → p ≢ q → same_node plan p q ≡ false

-- with one process a node there is no race on a key
pub record HasNoKeyRace (plan : Plan) : Type 0 where
  pub no_node_race : (x y : Event) (key : ℕ) → ¬ (IsNodeRace plan x y key)
  pub no_delivery_race : (x y : Event) (owner key : ℕ) → ¬ (IsDeliveryRace plan x y owner key)

abbrev pub OneANodeHasNone : Type 0
OneANodeHasNone = (plan : Plan) → IsOneANode plan → HasNoKeyRace plan

-- the race of a get-now and the commit is found on some placing exactly where it is near; then it is found where its
-- two processes have a node of their own
pub record NearTells (plan : Plan) (commit get : Event) (key : ℕ) : Type 0 where
  pub somewhere : IsNearRace plan commit get key ↔ ((other : Plan) × IsPlacing plan other
      × IsNodeRace other commit get key)
  pub on_pair : IsNearRace plan commit get key → IsNodeRace (paired plan commit.proc get.proc) commit get key

abbrev pub NearAnywhere : Type 0
NearAnywhere = (plan : Plan) (commit get : Event) (key : ℕ) → NearTells plan commit get key

-- the race of a get-now and a delivery is found on some placing exactly where it is far, with some m; then it is found
-- where the get's process and m have a node of their own
pub record FarTells (plan : Plan) (source get : Event) (owner key : ℕ) : Type 0 where
  pub somewhere : ((m : ℕ) × IsFarRace plan source get owner key m) ↔ ((other : Plan) × IsPlacing plan other
      × IsDeliveryRace other source get owner key)
  pub on_pair : (m : ℕ) → IsFarRace plan source get owner key m
      → IsDeliveryRace (paired plan get.proc m) source get owner key

abbrev pub FarAnywhere : Type 0
FarAnywhere = (plan : Plan) (source get : Event) (owner key : ℕ) → FarTells plan source get owner key

-- settled anywhere, on each placing, and on each that gives two processes a node of their own, are one
pub record AnywhereTells (plan : Plan) : Type 0 where
  pub everywhere : IsSettledAnywhere plan ↔ ((other : Plan) → IsPlacing plan other → IsSettled other)
  pub on_pairs : IsSettledAnywhere plan ↔ ((a b : ℕ) → IsSettled (paired plan a b))

abbrev pub SettledAnywhere : Type 0
SettledAnywhere = (plan : Plan) → AnywhereTells plan

-- the races of one placing, by what the plan says of any: on key races only who is beside the reader counts
pub record RacesThere (plan other : Plan) : Type 0 where
  pub near : (x y : Event) (key : ℕ)
      → IsNodeRace other x y key ↔ (IsNearRace plan x y key × (same_node other x.proc y.proc ≡ true))
  pub far : (x y : Event) (owner key : ℕ)
      → IsDeliveryRace other x y owner key
      ↔ ((same_node other owner y.proc ≡ false) × ((m : ℕ) × IsFarRace plan x y owner key m
      × (same_node other m y.proc ≡ true))
      × ((m : ℕ) → same_node other m y.proc ≡ true → ¬ (HasSurely plan owner key m y)))

abbrev pub PlacingTells : Type 0
PlacingTells = (plan other : Plan) → IsPlacing plan other → RacesThere plan other

-- a and b are on one node in some placing of the family
abbrev pub MayMeet : (Plan → Bool) → ℕ → ℕ → Type 0
MayMeet family a b = (other : Plan) × (family other ≡ true) × (same_node other a b ≡ true)

-- a family of placings of the plan: it has one, and where two processes may be on one node, they may be alone on one
pub record IsFamily (plan : Plan) (family : Plan → Bool) : Type 0 where
  pub placings : (other : Plan) → family other ≡ true → IsPlacing plan other
  pub one : (other : Plan) × (family other ≡ true)
  pub alone : (a b : ℕ) → a ≢ b → a < process_count plan → b < process_count plan → MayMeet family a b
      → (other : Plan) × (family other ≡ true) × ShareANode other a b

-- there is nothing to find on any placing of the family
pub record IsSettledIn (plan : Plan) (family : Plan → Bool) : Type 0 where
  pub no_rewrite : (x y : Event) → ¬ (IsRewrite plan x y)
  pub no_near_race : (x y : Event) (key : ℕ) → MayMeet family x.proc y.proc → ¬ (IsNearRace plan x y key)
  pub no_far_race : (x y : Event) (owner key m : ℕ) → MayMeet family m y.proc → ¬ (IsFarRace plan x y owner key m)
  pub no_name_race : (x y : Event) (name : ℕ) → ¬ (IsNameRace plan x y name)

abbrev pub FamilyTells : Type 0
FamilyTells = (plan : Plan) (family : Plan → Bool) → IsFamily plan family
    → IsSettledIn plan family ↔ ((other : Plan) → family other ≡ true → IsSettled other)

-- what is listed as found on all placings is found on each, and what is listed with a pair is found wherever these two
-- are alone on a node
pub record FoundThere (plan : Plan) (f : Finding) : Type 0 where
  pub on_all : IsFoundSomewhere plan (OnAll f) → (other : Plan) → IsPlacing plan other → IsFound other f
  pub alone : (a b : ℕ) (other : Plan) → IsPlacing plan other → ShareANode other a b
      → IsFoundSomewhere plan (OnPair f a b) → IsFound other f
  pub on_pair : (a b : ℕ) → IsFoundSomewhere plan (OnPair f a b) → IsFound (paired plan a b) f

abbrev pub PlacedIsFound : Type 0
PlacedIsFound = (plan : Plan) (f : Finding) → FoundThere plan f

-- the list has exactly the findings of all placings, and it is empty exactly where the plan is settled anywhere
pub record ListsAnywhere (plan : Plan) (lower_name : ℕ → ℕ → Bool) : Type 0 where
  pub findings : (found : List PlacementFinding) → IsFindingsAnywhere plan lower_name found → (f : Finding)
      → ((g : PlacementFinding) × HasPlacementFinding found g × (finding_of g ≡ f)) ↔ ((other : Plan) × IsPlacing plan other
      × IsFound other f)
  pub none : IsFindingsAnywhere plan lower_name [] ↔ IsSettledAnywhere plan

abbrev pub FindingsAnywhere : Type 0
FindingsAnywhere = (plan : Plan) (lower_name : ℕ → ℕ → Bool) → ListsAnywhere plan lower_name

-- a finding has one pair, and for each order of the names the list is one
abbrev pub OnePair : Type 0
OnePair = (plan : Plan) (f g : PlacementFinding) → IsFoundSomewhere plan f → IsFoundSomewhere plan g
    → finding_of f ≡ finding_of g → f ≡ g

abbrev pub OneListAnywhere : Type 0
OneListAnywhere = (plan : Plan) (lower_name : ℕ → ℕ → Bool) (xs ys : List PlacementFinding) → IsOneWay lower_name
    → IsFindingsAnywhere plan lower_name xs →
    IsFindingsAnywhere plan lower_name ys → xs ≡ ys

-- given marks that tell which events are live, and which are before which: it is told whether a process surely has a
-- key, and a race that is far with some process is so with a lowest one
pub record LeastIsTold (plan : Plan) : Type 0 where
  pub sure : (p key m : ℕ) (get : Event) → HasSurely plan p key m get ⊎ (¬ (HasSurely plan p key m get))
  pub least : (source get : Event) (owner key m : ℕ) → IsFarRace plan source get owner key m
      → (k : ℕ) × IsLeastFar plan source get owner key k

abbrev pub HaveLeastFar : Type 0
HaveLeastFar = (plan : Plan) → HappensBefore plan → LeastIsTold plan

-- whether the reply to such an event of process q may tell where processes are: it is a get of another's key, or a call
-- of a reserved key or name
abbrev pub tells_places : ℕ → Option Kind → Bool
tells_places q (Some (Get owner key)) = not (q == owner)
tells_places q (Some (GetNow owner key)) = not (q == owner)
tells_places q (Some (Fixed reply)) = true
tells_places q _ = false

-- after these steps, of one plan and of the other, as much is done, the same stands under each name, the same processes
-- are enabled, and all replies are the same but for those that may tell where processes are
pub record AreAsFar (plan other : Plan) (w : List ℕ) : Type 0 where
  pub interleavings : IsInterleaving plan start w ↔ IsInterleaving other start w
  pub done : (p : ℕ) → (run plan w).done p ≡ (run other w).done p
  pub names : (n : ℕ) → (run plan w).names n ≡ (run other w).names n
  pub enabled : (p : ℕ) → is_enabled plan (run plan w) p ≡ is_enabled other (run other w) p
  pub replies : (x : Event) → tells_places x.proc (kind plan x) ≡ false
      → slice_get ((run plan w).replies x.proc) x.at ≡ slice_get ((run other w).replies x.proc) x.at

-- the runs of a placing are those of the plan
pub record RunAlike (plan other : Plan) : Type 0 where
  pub runs : (w : List ℕ) → AreAsFar plan other w
  pub plain : plain_run plan ≡ plain_run other

abbrev pub PlacingsRunAlike : Type 0
PlacingsRunAlike = (plan other : Plan) → IsPlacing plan other → RunAlike plan other

-- how far a call has come, its reply forgotten
abbrev pub how_far : CallEnd → CallEnd
how_far (Replied reply) = Replied (bare status.Success)
how_far end = end

-- where the plain run can't go on each call has come as far on every placing: the same have a reply, and the same wait
abbrev pub SameProgressOnPlacements : Type 0
SameProgressOnPlacements =
    (plan other : Plan) → IsPlacing plan other → (p : ℕ)
    → map how_far (row plan (plain_end plan) p) ≡ map how_far (row other (plain_end other) p)

-- what the event replies in the plain run, if it comes there
abbrev pub plain_reply : Plan → Event → Option Answer
plain_reply plan x = slice_get ((plain_end plan).replies x.proc) x.at

-- it replies the same on every placing
abbrev pub RepliesAlike : Plan → Event → Type 0
RepliesAlike plan x = (other : Plan) → IsPlacing plan other → plain_reply other x ≡ plain_reply plan x

-- which calls reply the same on every placing. A get of another's key does exactly where the put is for all nodes. A
-- get-now of a key that is committed before it does exactly where the put is for all nodes and its own process surely
-- has the key by then; any other get-now does. All other calls do, but for calls of reserved keys and names
pub record RepliesTell (plan : Plan) : Type 0 where
  pub get : (x : Event) (p key put : ℕ) → kind plan x ≡ Some (Get p key) → x.proc ≢ p
      → is_some (plain_reply plan x) ≡ true
      → stored plan p key (event_count plan p) ≡ Some put → RepliesAlike plan x ↔ (scope_of plan p put ≡ Global)
  pub get_now_after : (commit x : Event) (key put : ℕ) → kind plan x ≡ Some (GetNow commit.proc key)
      → x.proc ≢ commit.proc
      → is_some (plain_reply plan x) ≡ true → Stores plan commit key → Before plan commit x
      → stored plan commit.proc key (event_count plan commit.proc) ≡ Some put
      → RepliesAlike plan x ↔ ((scope_of plan commit.proc put ≡ Global) × HasSurely plan commit.proc key x.proc x)
  pub get_now_else : (x : Event) (p key : ℕ) → kind plan x ≡ Some (GetNow p key) → x.proc ≢ p
      → ((commit : Event) → commit.proc ≡ p → Stores plan commit key → ¬ (Before plan commit x)) → RepliesAlike plan x
  pub other_calls : (x : Event) → tells_places x.proc (kind plan x) ≡ false → RepliesAlike plan x

abbrev pub RepliesAnywhere : Type 0
RepliesAnywhere = (plan : Plan) → IsSettledAnywhere plan → RepliesTell plan
