-- Parts: a plan each of whose processes does, in the same order and under other names, some of what a process of
-- another plan does. What is left out and stands between, is told event by event.
use Rattle.std.specs.Prelude.{◌≡◌, ◌≢◌, ℕ, zero, suc, ◌<◌, List, [], ◌∷◌, Bool, true, false}
use Rattle.wire_runs.specs.Plan.{Plan, Event, Kind, Put, Commit, Arrive, GetNow, Publish, Lookup, Unpublish}
use Rattle.wire_runs.specs.Plan.{UnpublishAll, kinds, process_count, node_of}
use Rattle.wire_runs.specs.Fences.{is_member, is_full, is_collecting}
use Rattle.wire_runs.specs.Order.{PublishesOnce}
use Rattle.wire_runs.specs.Races.{IsSettled}
use Rattle.wire_runs.specs.Embeddings.{Renaming, image, image_kind, IsKeyOf, IsNameOf, IsSetOf, IsEmbedding}

-- an event of the large plan: one that the small plan has, by its kind there, or one that is left out, by its kind in
-- the large plan
pub data Piece : Type 0 where
  Kept : Kind → Piece
  Left : Kind → Piece

abbrev pub kept_kinds : List Piece → List Kind
kept_kinds [] = []
kept_kinds (Kept k ∷ pieces) = k ∷ kept_kinds pieces
kept_kinds (Left k ∷ pieces) = kept_kinds pieces

abbrev pub all_kinds : Renaming → List Piece → List Kind
all_kinds to [] = []
all_kinds to (Kept k ∷ pieces) = image_kind to k ∷ all_kinds to pieces
all_kinds to (Left k ∷ pieces) = k ∷ all_kinds to pieces

-- where the n-th that is kept stands; of their number the number of all pieces
abbrev pub place_in : List Piece → ℕ → ℕ
place_in [] n = n
place_in (Left k ∷ pieces) n = suc (place_in pieces n)
place_in (Kept k ∷ pieces) zero = zero
place_in (Kept k ∷ pieces) (suc n) = suc (place_in pieces n)

-- whether a put waits for a commit
abbrev pub waits_after : Bool → Kind → Bool
waits_after waits (Put key scope) = true
waits_after waits Commit = false
waits_after waits _ = waits

-- what can be left out: puts of keys, publishes and unpublishes of names, and fences over sets that are none of the
-- small plan's; a commit for which no kept put waits; and all else, but for a call that takes all names away
abbrev pub MayLeave : Renaming → Plan → Bool → Kind → Type 0
MayLeave to small waits (Put key scope) = (own_key : ℕ) → IsKeyOf small own_key → to.key own_key ≢ key
MayLeave to small waits Commit = waits ≡ false
MayLeave to small waits (Arrive members collect) = (own_members : List ℕ) → IsSetOf small own_members
    → to.members own_members ≢ members
MayLeave to small waits (Publish name) = (own_name : ℕ) → IsNameOf small own_name → to.name own_name ≢ name
MayLeave to small waits (Unpublish name) = (own_name : ℕ) → IsNameOf small own_name → to.name own_name ≢ name
MayLeave to small waits UnpublishAll = ⊥
MayLeave to small waits _ = Unit {0}

abbrev pub Fits : Renaming → Plan → Bool → List Piece → Type 0
Fits to small waits [] = Unit {0}
Fits to small waits (Kept k ∷ pieces) = Fits to small (waits_after waits k) pieces
Fits to small waits (Left k ∷ pieces) = MayLeave to small waits k × Fits to small waits pieces

-- process by process: what each process of the small plan does is kept of what its image does, and the rest may be left
-- out
pub record IsPartEach (to : Renaming) (small large : Plan) (pieces : ℕ → List Piece) : Type 0 where
  pub one_key : (a b : ℕ) → IsKeyOf small a → IsKeyOf small b → to.key a ≡ to.key b → a ≡ b
  pub one_name : (a b : ℕ) → IsNameOf small a → IsNameOf small b → to.name a ≡ to.name b → a ≡ b
  pub one_set : (a b : List ℕ) → IsSetOf small a → IsSetOf small b → to.members a ≡ to.members b → a ≡ b
  pub places : (p n : ℕ) → to.place p n ≡ place_in (pieces p) n
  pub kept : (p : ℕ) → kinds small p ≡ kept_kinds (pieces p)
  pub all : (p : ℕ) → kinds large (to.process p) ≡ all_kinds to (pieces p)
  pub fits : (p : ℕ) → Fits to small false (pieces p)

-- and all processes together
pub record IsPart (to : Renaming) (small large : Plan) (pieces : ℕ → List Piece) : Type 0 where
  pub each : IsPartEach to small large pieces
  pub one_process : (p q : ℕ) → to.process p ≡ to.process q → p ≡ q
  pub member : (members : List ℕ) (p : ℕ) → IsSetOf small members
      → is_member (to.members members) (to.process p) ≡ is_member members p
  pub all_collect : (members : List ℕ) (j : ℕ) → IsSetOf small members
      → is_full large (to.members members) j ≡ true → is_collecting small members j ≡ true →
      is_collecting large (to.members members) j ≡ true
  pub once : (x : Event) (name : ℕ) → PublishesOnce small x name → PublishesOnce large (image to x) (to.name name)
  pub together : (p q : ℕ) → p < process_count small → q < process_count small → node_of small p ≡ node_of small q →
      node_of large (to.process p) ≡ node_of large (to.process q)
  pub keeps : large.keep ≡ small.keep

abbrev pub PartsEmbed : Type 0
PartsEmbed = (to : Renaming) (small large : Plan) (pieces : ℕ → List Piece) → IsPart to small large pieces
    → IsEmbedding to small large

-- the renaming that renames nothing, and has each event where it stands among these pieces
abbrev pub in_place : (ℕ → List Piece) → Renaming
in_place pieces = record { process = λ p. p; place = λ p n. place_in (pieces p) n; key = λ key. key; name = λ name. name; members = λ members. members }

-- a read: a get-now or a lookup
abbrev pub IsReadCall : Kind → Type 0
IsReadCall (GetNow owner key) = Unit {0}
IsReadCall (Lookup name) = Unit {0}
IsReadCall _ = ⊥

abbrev pub LeavesReads : List Piece → Type 0
LeavesReads [] = Unit {0}
LeavesReads (Kept k ∷ pieces) = LeavesReads pieces
LeavesReads (Left k ∷ pieces) = IsReadCall k × LeavesReads pieces

-- the large plan has the calls of the small one, and perhaps reads between them
pub record AddsReads (small large : Plan) (pieces : ℕ → List Piece) : Type 0 where
  pub kept : (p : ℕ) → kinds small p ≡ kept_kinds (pieces p)
  pub all : (p : ℕ) → kinds large p ≡ all_kinds (in_place pieces) (pieces p)
  pub reads : (p : ℕ) → LeavesReads (pieces p)
  pub nodes : (p : ℕ) → node_of large p ≡ node_of small p
  pub keeps : large.keep ≡ small.keep

-- more reads take no finding away
abbrev pub ReadsKeepFindings : Type 0
ReadsKeepFindings = (small large : Plan) (pieces : ℕ → List Piece) → AddsReads small large pieces
    → IsSettled large → IsSettled small
