-- Embeddings: a plan, called the small one, stands inside another, the large one, so that what the checker finds in the
-- large one among the images of the small one's events it finds in the small one.
use Rattle.std.specs.Prelude.{◌≡◌, ℕ, suc, ◌<◌, ◌≤◌, List, true, false, Option, Some, None, option_map}
use Rattle.std.specs.Prelude.{◌==◌, if◌then◌else◌}
use Rattle.wire_runs.specs.Plan.{Plan, Event, Kind, Put, Commit, Arrive, Leave, Get, GetNow, Publish, Lookup}
use Rattle.wire_runs.specs.Plan.{LookupWait, Unpublish, UnpublishAll, Fixed}
use Rattle.wire_runs.specs.Plan.{kind, event_count, process_count, node_of, same_node}
use Rattle.wire_runs.specs.Puts.{own, stored, put_count}
use Rattle.wire_runs.specs.Fences.{arrivals, collects, is_member, is_full, is_collecting}
use Rattle.wire_runs.specs.Names.{publishes}
use Rattle.wire_runs.specs.Order.{IsArrival, PublishesOnce, Edge, Live, Before}
use Rattle.wire_runs.specs.Races.{Delivery, ByFence, ByGet, IsRewrite, IsNodeRace, IsDeliveryRace, IsNameRace}
use Rattle.wire_runs.specs.Races.{IsSettled}
use Rattle.wire_runs.specs.Placings.{placing}

-- what the processes, keys, names and sets of the small plan are in the large one. place p n: where in its process the
-- image of p's event number n stands; of the number of all p's events it is the number of all events there
pub record Renaming : Type 0 where
  pub process : ℕ → ℕ
  pub place : ℕ → ℕ → ℕ
  pub key : ℕ → ℕ
  pub name : ℕ → ℕ
  pub members : List ℕ → List ℕ

abbrev pub image : Renaming → Event → Event
image to x = record { proc = to.process x.proc; at = to.place x.proc x.at }

abbrev pub image_kind : Renaming → Kind → Kind
image_kind to (Put key scope) = Put (to.key key) scope
image_kind to Commit = Commit
image_kind to (Arrive members collect) = Arrive (to.members members) collect
image_kind to (Leave members) = Leave (to.members members)
image_kind to (Get owner key) = Get (to.process owner) (to.key key)
image_kind to (GetNow owner key) = GetNow (to.process owner) (to.key key)
image_kind to (Publish name) = Publish (to.name name)
image_kind to (Lookup name) = Lookup (to.name name)
image_kind to (LookupWait name) = LookupWait (to.name name)
image_kind to (Unpublish name) = Unpublish (to.name name)
image_kind to UnpublishAll = UnpublishAll
image_kind to (Fixed reply) = Fixed reply

-- the key that an event is on, its name, and the set of its fence
abbrev pub key_of : Kind → Option ℕ
key_of (Put key scope) = Some key
key_of (Get owner key) = Some key
key_of (GetNow owner key) = Some key
key_of _ = None

abbrev pub name_of : Kind → Option ℕ
name_of (Publish name) = Some name
name_of (Lookup name) = Some name
name_of (LookupWait name) = Some name
name_of (Unpublish name) = Some name
name_of _ = None

abbrev pub members_of : Kind → Option (List ℕ)
members_of (Arrive members collect) = Some members
members_of (Leave members) = Some members
members_of _ = None

-- some event of the plan is on the key, on the name, of a fence over the set
abbrev pub IsKeyOf : Plan → ℕ → Type 0
IsKeyOf plan key = (z : Event) × (k : Kind) × (kind plan z ≡ Some k) × (key_of k ≡ Some key)

abbrev pub IsNameOf : Plan → ℕ → Type 0
IsNameOf plan name = (z : Event) × (k : Kind) × (kind plan z ≡ Some k) × (name_of k ≡ Some name)

abbrev pub IsSetOf : Plan → List ℕ → Type 0
IsSetOf plan members = (z : Event) × (k : Kind) × (kind plan z ≡ Some k) × (members_of k ≡ Some members)

-- the events of the small plan are among those of the large one, each with the image of its kind, and the events that
-- are left out take nothing from them
pub record IsEmbedding (to : Renaming) (small large : Plan) : Type 0 where
  -- processes, keys and names stay apart, and a process's events stay in order
  pub one_process : (p q : ℕ) → to.process p ≡ to.process q → p ≡ q
  pub one_key : (a b : ℕ) → IsKeyOf small a → IsKeyOf small b → to.key a ≡ to.key b → a ≡ b
  pub one_name : (a b : ℕ) → IsNameOf small a → IsNameOf small b → to.name a ≡ to.name b → a ≡ b
  pub rising : (p n : ℕ) → to.place p n < to.place p (suc n)
  pub ends : (p : ℕ) → to.place p (event_count small p) ≡ event_count large (to.process p)
  pub kinds_agree : (x : Event) (k : Kind) → kind small x ≡ Some k → kind large (image to x) ≡ Some (image_kind to k)
  -- a put of an image key is left out nowhere, nor the first commit after it: up to each place both processes have put
  -- the key as often, with the same last put, and have stored the same
  pub puts : (p key n : ℕ) → IsKeyOf small key → n ≤ event_count small p
      → put_count large (to.process p) (to.key key) (to.place p n) ≡ put_count small p key n
  pub owns : (p key n : ℕ) → IsKeyOf small key → n ≤ event_count small p
      → own large (to.process p) (to.key key) (to.place p n) ≡ option_map (to.place p) (own small p key n)
  pub stores : (p key n : ℕ) → IsKeyOf small key → n ≤ event_count small p
      → stored large (to.process p) (to.key key) (to.place p n) ≡ option_map (to.place p) (stored small p key n)
  -- a set of fences has the images of its members and perhaps others; of its fence calls none is left out in an image
  -- process, and says collect as before; and where all that are in the small plan say collect, all say so
  pub member : (members : List ℕ) (p : ℕ) → IsSetOf small members
      → is_member (to.members members) (to.process p) ≡ is_member members p
  pub arrives : (members : List ℕ) (p n : ℕ) → IsSetOf small members → n ≤ event_count small p →
      arrivals large (to.process p) (to.members members) (to.place p n) ≡ arrivals small p members n
  pub says_collect : (members : List ℕ) (p j : ℕ) → IsSetOf small members →
      collects large (to.process p) (to.members members) j (event_count large (to.process p)) ≡ collects small p members j (event_count small p)
  pub all_collect : (members : List ℕ) (j : ℕ) → IsSetOf small members
      → is_full large (to.members members) j ≡ true → is_collecting small members j ≡ true →
      is_collecting large (to.members members) j ≡ true
  -- an image process publishes an image name exactly where its process publishes the name; and where the small plan has
  -- one publish of a name and nothing that takes it away, so has the large one
  pub publish : (p name : ℕ) → IsNameOf small name
      → publishes large (to.process p) (to.name name) (event_count large (to.process p)) ≡ publishes small p name (event_count small p)
  pub once : (x : Event) (name : ℕ) → PublishesOnce small x name → PublishesOnce large (image to x) (to.name name)
  -- processes on one node are on one node
  pub together : (p q : ℕ) → p < process_count small → q < process_count small → node_of small p ≡ node_of small q →
      node_of large (to.process p) ≡ node_of large (to.process q)
  pub keeps : large.keep ≡ small.keep

-- what is before an event whose image is live, has its image before that image; and where the image is live, the event
-- is
pub record KeepsOrder (to : Renaming) (small large : Plan) : Type 0 where
  pub edges : (x y : Event) → Edge small x y → Live large (image to y) → Before large (image to x) (image to y)
  pub chains : (x y : Event) → Before small x y → Live large (image to y) → Before large (image to x) (image to y)
  pub live : (y : Event) → Live large (image to y) → Live small y

abbrev pub EmbeddingsKeepOrder : Type 0
EmbeddingsKeepOrder = (to : Renaming) (small large : Plan) → IsEmbedding to small large → KeepsOrder to small large

-- of a fence of the large plan the owner's arrival is an image, and a process of the node is among the members
pub record IsKeptFence (to : Renaming) (small large : Plan) (owner node : ℕ) (members : List ℕ) (j : ℕ) : Type 0 where
  pub own_at : ℕ
  pub arrival : IsArrival large members j (image to (record { proc = owner; at = own_at }))
  pub mate : ℕ
  pub mate_is_member : is_member members (to.process mate) ≡ true
  pub mate_there : node_of small mate ≡ node

-- of a delivery of the large plan as much stands in the small one as makes a delivery there
abbrev pub IsKeptDelivery : Renaming → Plan → Plan → ℕ → ℕ → Delivery → Type 0
IsKeptDelivery to small large owner node (ByFence members j) = IsKeptFence to small large owner node members j
IsKeptDelivery to small large owner node (ByGet get) = (x : Event) × (image to x ≡ get) × (node_of small x.proc ≡ node)

-- what is found in the large plan among images is found in the small one. A delivery race is told by what is settled:
-- which event of the delivery is the lowest that isn't before the get may differ
pub record KeepsFindings (to : Renaming) (small large : Plan) : Type 0 where
  pub rewrites : (x y : Event) → IsRewrite large (image to x) (image to y) → IsRewrite small x y
  pub name_races : (x y : Event) (name : ℕ) → IsNameOf small name
      → IsNameRace large (image to x) (image to y) (to.name name) → IsNameRace small x y name
  pub node_races : (commit get : Event) (key : ℕ) → IsNodeRace large (image to commit) (image to get) key
      → same_node small commit.proc get.proc ≡ true →
      (own_key : ℕ) × (to.key own_key ≡ key) × IsNodeRace small commit get own_key
  pub delivery_races : (source get : Event) (owner key : ℕ)
      → (race : IsDeliveryRace large source (image to get) (to.process owner) key) →
      same_node small owner get.proc ≡ false → IsKeptDelivery to small large owner (node_of small get.proc) race.delivery
      → ¬ (IsSettled small)

abbrev pub EmbeddingsKeepFindings : Type 0
EmbeddingsKeepFindings = (to : Renaming) (small large : Plan) → IsEmbedding to small large
    → KeepsFindings to small large

-- each process on a node of its own, but q with p
abbrev pub pair : ℕ → ℕ → ℕ → ℕ
pair p q r = if r == q then p else r

-- a plan that is settled wherever at most two of its processes share a node, is settled on all nodes
abbrev pub PairsSuffice : Type 0
PairsSuffice = (plan : Plan) (nodes : ℕ → ℕ)
    → ((p q : ℕ) → p < process_count plan → q < process_count plan → IsSettled (placing plan (pair p q)))
    → IsSettled plan × IsSettled (placing plan nodes)
