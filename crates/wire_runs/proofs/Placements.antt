-- A plan that is settled wherever at most two of its processes share a node, is settled on all nodes.
use Rattle.std.proofs.Common.{◌≡◌, ℕ, zero, suc, ◌<◌, List, length, ◌||◌, Option, Some, None, inl, inr, refl, sym, ap, ◌∙◌, arith, eq-eqb, eqb-true, ne_eqb}
use Rattle.std.specs.Prelude.{option_map, slice_get}
use Rattle.std.specs.List.{list_all}
use Rattle.std.proofs.lemmas.Bool.{cond-true, cond-false, cases_eq, true≢false}
use Rattle.wire_runs.specs.Plan.{Put, Commit, Arrive, Leave, Get, GetNow, Publish, Lookup, LookupWait, Unpublish, Fixed}
use Rattle.wire_runs.specs.Plan.{Plan, Event, Kind, UnpublishAll, kind, kinds, kind_at, event_count, process_count, node_of}
use Rattle.wire_runs.specs.Puts.{own_put, stored_put, count_puts}
use Rattle.wire_runs.specs.Fences.{arrivals_with, arrivals, collects_with, collects}
use Rattle.wire_runs.specs.Names.{is_publish, publishes, takes_name}
use Rattle.wire_runs.specs.Order.{PublishesOnce}
use Rattle.wire_runs.specs.Races.{Delivery, ByFence, ByGet, Brings, IsSettled}
use Rattle.wire_runs.specs.Embeddings.{Renaming, image_kind, IsNameOf, IsEmbedding, IsKeptDelivery, KeepsFindings, pair, PairsSuffice}
use Rattle.wire_runs.specs.Placings.{placing}
use Rattle.wire_runs.proofs.Basics.{process_within, stores_commit}
use Rattle.wire_runs.proofs.Fates.{live_event}
use Rattle.wire_runs.proofs.Arrivals.{mate_on, stored_is_put, written_name}
use Rattle.wire_runs.proofs.Anywhere.{placed_length, placed_kinds, placed_node}
use Rattle.wire_runs.proofs.EmbeddedFindings.{mate_within, embeddings_keep_findings}

-- the renaming that renames nothing
abbrev pub itself : Renaming
itself = record { process = λ p. p; place = λ p n. n; key = λ k. k; name = λ n. n; members = λ ms. ms }

image_kind_itself : (k : Kind) → image_kind itself k ≡ k
image_kind_itself (Put key scope) = refl
image_kind_itself Commit = refl
image_kind_itself (Arrive members collect) = refl
image_kind_itself (Leave members) = refl
image_kind_itself (Get owner key) = refl
image_kind_itself (GetNow owner key) = refl
image_kind_itself (Publish name) = refl
image_kind_itself (Lookup name) = refl
image_kind_itself (LookupWait name) = refl
image_kind_itself (Unpublish name) = refl
image_kind_itself UnpublishAll = refl
image_kind_itself (Fixed reply) = refl

mapped_itself : (o : Option ℕ) → o ≡ option_map (λ n. n) o
mapped_itself None = refl
mapped_itself (Some v) = refl

-- two plans with the same calls
module _ (a b : Plan) (same : (p : ℕ) → kinds b p ≡ kinds a p) where
  kind_at_same : (p i : ℕ) → kind_at b p i ≡ kind_at a p i
  unfolding kind_at
  kind_at_same p i = ap (λ ks. slice_get ks i) (same p)

  count_same : (p : ℕ) → event_count b p ≡ event_count a p
  unfolding event_count
  count_same p = ap length (same p)

  arrivals_same : (p : ℕ) (members : List ℕ) (n : ℕ) → arrivals b p members n ≡ arrivals a p members n
  arrivals_same p members zero = refl
  arrivals_same p members (suc n) =
      ap (λ m. arrivals_with members m (kind_at b p n)) (arrivals_same p members n) ∙ ap (arrivals_with members (arrivals a p members n)) (kind_at_same p n)

  collects_same : (p : ℕ) (members : List ℕ) (j n : ℕ) → collects b p members j n ≡ collects a p members j n
  collects_same p members j zero = refl
  collects_same p members j (suc n) =
      ap (λ m. collects_with members j m (collects b p members j n) (kind_at b p n)) (arrivals_same p members n)
      ∙ ap (λ c. collects_with members j (arrivals a p members n) c (kind_at b p n)) (collects_same p members j n)
      ∙ ap (collects_with members j (arrivals a p members n) (collects a p members j n)) (kind_at_same p n)

  publishes_same : (p name n : ℕ) → publishes b p name n ≡ publishes a p name n
  publishes_same p name zero = refl
  publishes_same p name (suc n) =
      ap (λ o. is_publish name o || publishes b p name n) (kind_at_same p n) ∙ ap (λ c. is_publish name (kind_at a p n) || c) (publishes_same p name n)

  publishes_all_same : (p name : ℕ) → publishes b p name (event_count b p) ≡ publishes a p name (event_count a p)
  publishes_all_same p name = publishes_same p name (event_count b p) ∙ ap (publishes a p name) (count_same p)

  collects_all_same : (p : ℕ) (members : List ℕ) (j : ℕ) → collects b p members j (event_count b p) ≡ collects a p members j (event_count a p)
  collects_all_same p members j = collects_same p members j (event_count b p) ∙ ap (collects a p members j) (count_same p)

  takes_same : (name : ℕ) (y : Event) (o : Option Kind) → takes_name b name y o ≡ takes_name a name y o
  takes_same name y (Some UnpublishAll) = publishes_all_same y.proc name
  takes_same name y _ = refl

  once_same : (x : Event) (name : ℕ) → PublishesOnce a x name → PublishesOnce b x name
  once_same x name o = record {
    is = kind_at_same x.proc x.at ∙ o.is;
    only = λ y is. o.only y (sym (kind_at_same y.proc y.at) ∙ is);
    stays = λ y. takes_same name y (kind b y) ∙ ap (takes_name a name y) (kind_at_same y.proc y.at) ∙ o.stays y;
  }

  -- the first stands in the second, where processes on one node of the first are on one node of the second
  pub same_calls : b.keep ≡ a.keep → ((p q : ℕ) → p < process_count a → q < process_count a → node_of a p ≡ node_of a q → node_of b p ≡ node_of b q) → IsEmbedding itself a b
  same_calls keeps together = record {
    one_process = λ p q s. s;
    one_key = λ x y u v s. s;
    one_name = λ x y u v s. s;
    rising = λ p n. omega arith;
    ends = λ p. sym (count_same p);
    kinds_agree = λ x k is. kind_at_same x.proc x.at ∙ is ∙ ap Some (sym (image_kind_itself k));
    puts = λ p key n u le. ap (λ f. count_puts f key n) (λ t i. kind_at_same p i t);
    owns = λ p key n u le. ap (λ f. own_put f key n) (λ t i. kind_at_same p i t) ∙ mapped_itself _;
    stores = λ p key n u le. ap (λ f. stored_put f key n) (λ t i. kind_at_same p i t) ∙ mapped_itself _;
    member = λ members p f. refl;
    arrives = λ members p n f le. arrivals_same p members n;
    says_collect = λ members p j f. collects_all_same p members j;
    all_collect = λ members j f full all. ap (λ g. list_all g members) (λ t m. collects_all_same m members j t) ∙ all;
    publish = λ p name u. publishes_all_same p name;
    once = once_same;
    together = together;
    keeps = keeps;
  }

-- a plan on other nodes
pub kinds_placed : (nodes : ℕ → ℕ) (plan : Plan) (p : ℕ) → kinds (placing plan nodes) p ≡ kinds plan p
unfolding kinds
kinds_placed nodes plan p = sym (placed_kinds nodes plan.processes p)

pub node_placed : (nodes : ℕ → ℕ) (plan : Plan) (p : ℕ) → p < process_count plan → node_of (placing plan nodes) p ≡ nodes p
unfolding node_of
node_placed nodes plan p lt = placed_node nodes plan.processes p lt

pub count_placed : (nodes : ℕ → ℕ) (plan : Plan) → process_count (placing plan nodes) ≡ process_count plan
count_placed nodes plan = placed_length nodes plan.processes

-- which two share a node
pub pair_first : (p q : ℕ) → pair p q p ≡ p
pair_first p q = elim (cases_eq p q) [ inl e ↦ cond-true _ _ _ (eq-eqb p q e) | inr ne ↦ cond-false _ _ _ (ne_eqb p q ne) ]

pub pair_second : (p q : ℕ) → pair p q q ≡ p
pair_second p q = cond-true _ _ _ (eq-eqb q q refl)

pub pair_other : (p q r : ℕ) → (r ≡ q → ⊥) → pair p q r ≡ r
pair_other p q r ne = cond-false _ _ _ (ne_eqb r q ne)

pub pair_together : (f : ℕ → ℕ) (p q r s : ℕ) → f p ≡ f q → pair p q r ≡ pair p q s → f r ≡ f s
pair_together f p q r s together same = elim (cases_eq r q) [
  | inl er ↦ elim (cases_eq s q) [
    | inl es ↦ ap f (er ∙ sym es)
    | inr ns ↦ ap f er ∙ sym together ∙ ap f (sym (pair_second p q) ∙ ap (pair p q) (sym er) ∙ same ∙ pair_other p q s ns)
  ]
  | inr nr ↦ elim (cases_eq s q) [
    | inl es ↦ ap f (sym (pair_other p q r nr) ∙ same ∙ ap (pair p q) es ∙ pair_second p q) ∙ together ∙ ap f (sym es)
    | inr ns ↦ ap f (sym (pair_other p q r nr) ∙ same ∙ pair_other p q s ns)
  ]
]

-- of a delivery a process on the node that it comes to, for which it is kept
pub record Mate (plan : Plan) (owner : ℕ) (get : Event) (d : Delivery) : Type 0 where
  pub mate : ℕ
  pub within : mate < process_count plan
  pub owner_within : owner < process_count plan
  pub there : node_of plan mate ≡ node_of plan get.proc
  pub is_kept : (small : Plan) → node_of small mate ≡ node_of small get.proc → IsKeptDelivery itself small plan owner (node_of small get.proc) d

pub mate_of : (plan : Plan) (owner key : ℕ) (get : Event) (d : Delivery) → Brings plan owner key (node_of plan get.proc) d → Mate plan owner get d
mate_of plan owner key get (ByGet g) b =
    let put = stored_is_put plan owner key (event_count plan owner) b.away.put b.away.committed in
    record {
      mate = g.proc;
      within = process_within plan g.proc g.at _ b.away.is;
      owner_within = process_within plan owner b.away.put _ put.1;
      there = b.there;
      is_kept = λ small there. (g, refl, there);
    }
mate_of plan owner key get (ByFence members j) b =
    let m = mate_on plan members (node_of plan get.proc) b.reaches in
    let a = b.away.arrival in
    record {
      mate = m.0;
      within = mate_within plan members j _ m.0 b.away.full a m.1;
      owner_within = process_within plan owner b.away.at _ a.is;
      there = m.2;
      is_kept = λ small there. record { own_at = b.away.at; arrival = a; mate = m.0; mate_is_member = m.1; mate_there = there };
    }

-- any plan with the calls of this one
module _ (plan other : Plan) (same : (p : ℕ) → kinds other p ≡ kinds plan p) (counts : process_count other ≡ process_count plan) (keeps : other.keep ≡ plan.keep)
    (pairs : (p q : ℕ) → p < process_count plan → q < process_count plan → IsSettled (placing plan (pair p q))) where
  within : (p : ℕ) → p < process_count other → p < process_count plan
  within p lt = omega (arith, lt, counts)

  node_is : (p q r : ℕ) → r < process_count other → node_of (placing plan (pair p q)) r ≡ pair p q r
  node_is p q r lt = node_placed (pair p q) plan r (within r lt)

  stands : (p q : ℕ) → node_of other p ≡ node_of other q → IsEmbedding itself (placing plan (pair p q)) other
  stands p q together =
      same_calls (placing plan (pair p q)) other (λ r. same r ∙ sym (kinds_placed (pair p q) plan r)) keeps
      (λ r s ltr lts e.
      let c = count_placed (pair p q) plan in
      pair_together (node_of other) p q r s together
      (sym (node_placed (pair p q) plan r (omega (arith, ltr, c))) ∙ e ∙ node_placed (pair p q) plan s (omega (arith, lts, c))))

  finds : (p q : ℕ) → node_of other p ≡ node_of other q → KeepsFindings itself (placing plan (pair p q)) other
  finds p q together = embeddings_keep_findings itself (placing plan (pair p q)) other (stands p q together)

  pub settled_there : IsSettled other
  settled_there = record {
    no_rewrite = λ x y r.
        let lt = within x.proc (process_within other x.proc x.at _ r.first_is) in
        (pairs x.proc x.proc lt lt).no_rewrite x y ((finds x.proc x.proc refl).rewrites x y r);
    no_name_race = λ x y name r.
        let e = live_event other x r.unordered.live_x in
        let lt = within x.proc (process_within other x.proc x.at _ e.1) in
        let n = written_name other name x r.x_writes in
        let u : IsNameOf (placing plan (pair x.proc x.proc)) name = (n.0, n.1, kind_at_same other (placing plan (pair x.proc x.proc)) (λ p. kinds_placed (pair x.proc x.proc) plan p ∙ sym (same p)) n.0.proc n.0.at ∙ n.2, n.3) in
        (pairs x.proc x.proc lt lt).no_name_race x y name ((finds x.proc x.proc refl).name_races x y name u r);
    no_node_race = λ x y key r.
        let px = process_within other x.proc x.at _ (stores_commit other x key r.near.stores) in
        let py = process_within other y.proc y.at _ r.near.is in
        let n = (finds x.proc y.proc (eqb-true _ _ r.node)).node_races x y key r
        (eq-eqb _ _ (node_is x.proc y.proc x.proc px ∙ pair_first x.proc y.proc ∙ sym (node_is x.proc y.proc y.proc py ∙ pair_second x.proc y.proc))) in
        (pairs x.proc y.proc (within x.proc px) (within y.proc py)).no_node_race x y n.0 n.2;
    no_delivery_race = λ x y owner key r.
        let m = mate_of other owner key y r.delivery r.delivers.brings_it in
        let py = process_within other y.proc y.at _ r.is in
        let small = placing plan (pair m.mate y.proc) in
        let not_mate : owner ≡ m.mate → ⊥ = λ s. true≢false (sym (eq-eqb _ _ (ap (node_of other) s ∙ m.there)) ∙ r.other) in
        let not_reader : owner ≡ y.proc → ⊥ = λ s. true≢false (sym (eq-eqb _ _ (ap (node_of other) s)) ∙ r.other) in
        let reader_is : node_of small y.proc ≡ m.mate = node_is m.mate y.proc y.proc py ∙ pair_second m.mate y.proc in
        let mate_is : node_of small m.mate ≡ m.mate = node_is m.mate y.proc m.mate m.within ∙ pair_first m.mate y.proc in
        let owner_is : node_of small owner ≡ owner = node_is m.mate y.proc owner m.owner_within ∙ pair_other m.mate y.proc owner not_reader in
        (finds m.mate y.proc m.there).delivery_races x y owner key r
        (ne_eqb _ _ (λ s. not_mate (sym owner_is ∙ s ∙ reader_is)))
        (m.is_kept small (mate_is ∙ sym reader_is))
        (pairs m.mate y.proc (within m.mate m.within) (within y.proc py));
  }

pub pairs_suffice : PairsSuffice
pairs_suffice plan nodes pairs = (
  settled_there plan plan (λ p. refl) refl refl pairs,
  settled_there plan (placing plan nodes) (kinds_placed nodes plan) (count_placed nodes plan) refl pairs,
)
