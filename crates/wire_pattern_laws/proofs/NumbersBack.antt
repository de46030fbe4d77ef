-- Other numbers lead back: the key or name of a number is looked for among those that the plan uses.
use Rattle.std.proofs.Common.{◌≡◌, ℕ, zero, suc, ◌<◌, List, [], ◌∷◌, map, false, ◌==◌, Option, Some, None, ◌⊎◌, inl, inr, refl, sym, ap, ◌∙◌, subst, arith, eq-eqb, eqb-true}
use Rattle.std.specs.Prelude.{slice_get, option_map, if◌then◌else◌}
use Rattle.std.proofs.lemmas.Bool.{cond-true, cond-false, cases_eq, cases_Bool, true≢false}
use Rattle.std.proofs.lemmas.Option.{none-some, same_Some}
use Rattle.wire_runs.specs.Plan.{Plan, Process, Event, CallPut, CallCommit, CallFence, CallGet, CallGetNow, CallPublish, CallLookup, CallLookupWait, CallUnpublish, CallUnpublishAll, CallFixed}
use Rattle.wire_runs.specs.Plan.{Kind, Put, Commit, Arrive, Leave, Get, GetNow, Publish, Lookup, LookupWait, Unpublish, UnpublishAll, Fixed, kind, kind_at, kinds, set_of, node_of, process_count, process_kinds, process_node}
use Rattle.wire_runs.specs.Embeddings.{image_kind, key_of, name_of}
use Rattle.wire_runs.specs.Renamed.{renumbering}
use Rattle.wire_runs.proofs.Basics.{process_within}
use Rattle.wire_runs.proofs.Renumbered.{renumbered_settle}
use Rattle.wire_pattern_laws.specs.Renumberings.{RenumberingTurns, RenumberedBoth, renumbered_process, RenumberedKinds, RenumberedIs, SettledByPlacing}

-- whether one of these events is on the word a
abbrev On : (Kind → Option ℕ) → List Kind → ℕ → Type 0
On word [] a = ⊥
On word (k ∷ ks) a = (word k ≡ Some a) ⊎ On word ks a

on_get : (word : Kind → Option ℕ) (ks : List Kind) (i : ℕ) (k : Kind) (a : ℕ) → slice_get ks i ≡ Some k → word k ≡ Some a → On word ks a
on_get word [] i k a is w = none-some k is
on_get word (l ∷ ks) zero k a is w = inl (ap word (same_Some _ _ is) ∙ w)
on_get word (l ∷ ks) (suc i) k a is w = inr (on_get word ks i k a is w)

abbrev Stands : (Kind → Option ℕ) → List Kind → ℕ → Type 0
Stands word ks a = (i : ℕ) × (k : Kind) × (slice_get ks i ≡ Some k) × (word k ≡ Some a)

get_on : (word : Kind → Option ℕ) (ks : List Kind) (a : ℕ) → On word ks a → Stands word ks a
get_on word [] a h = absurd h
get_on word (k ∷ ks) a (inl s) = (0, k, refl, s)
get_on word (k ∷ ks) a (inr h) = (let r = get_on word ks a h in (suc r.0, r.1, r.2, r.3))

-- the first word of these events whose number is b
abbrev pick : (ℕ → ℕ) → Option ℕ → ℕ → ℕ → ℕ
pick f None b rest = rest
pick f (Some a) b rest = if f a == b then a else rest

abbrev search_in : (Kind → Option ℕ) → (ℕ → ℕ) → List Kind → ℕ → ℕ → ℕ
search_in word f [] b rest = rest
search_in word f (k ∷ ks) b rest = pick f (word k) b (search_in word f ks b rest)

pick_is : (f : ℕ → ℕ) (o : Option ℕ) (a rest : ℕ) → ((c : ℕ) → o ≡ Some c → f c ≡ f a → c ≡ a) → (o ≡ Some a) ⊎ (rest ≡ a) → pick f o (f a) rest ≡ a
pick_is f None a rest one (inl s) = absurd (none-some a s)
pick_is f None a rest one (inr s) = s
pick_is f (Some c) a rest one h = elim (cases_Bool (f c == f a)) [
  | inl t ↦ cond-true (f c == f a) c rest t ∙ one c refl (eqb-true (f c) (f a) t)
  | inr n ↦ cond-false (f c == f a) c rest n ∙ other n h
]
  where
    other : (f c == f a) ≡ false → (Some c ≡ Some a) ⊎ (rest ≡ a) → rest ≡ a
    other n (inl s) = absurd (true≢false (sym (eq-eqb (f c) (f a) (ap f (same_Some _ _ s))) ∙ n))
    other n (inr s) = s

search_is : (word : Kind → Option ℕ) (f : ℕ → ℕ) (ks : List Kind) (a rest : ℕ) → ((c : ℕ) → On word ks c → f c ≡ f a → c ≡ a) → On word ks a ⊎ (rest ≡ a) →
    search_in word f ks (f a) rest ≡ a
search_is word f [] a rest one (inl s) = absurd s
search_is word f [] a rest one (inr s) = s
search_is word f (k ∷ ks) a rest one (inl (inl s)) = pick_is f (word k) a (search_in word f ks (f a) rest) (λ c w t. one c (inl w) t) (inl s)
search_is word f (k ∷ ks) a rest one (inl (inr s)) =
    pick_is f (word k) a (search_in word f ks (f a) rest) (λ c w t. one c (inl w) t) (inr (search_is word f ks a rest (λ c o t. one c (inr o) t) (inl s)))
search_is word f (k ∷ ks) a rest one (inr s) =
    pick_is f (word k) a (search_in word f ks (f a) rest) (λ c w t. one c (inl w) t) (inr (search_is word f ks a rest (λ c o t. one c (inr o) t) (inr s)))

-- of a plan's first n processes
search_to : (Kind → Option ℕ) → (ℕ → ℕ) → Plan → ℕ → ℕ → ℕ
search_to word f plan zero b = 0
search_to word f plan (suc n) b = search_in word f (kinds plan n) b (search_to word f plan n b)

abbrev Uses : (Kind → Option ℕ) → Plan → ℕ → Type 0
Uses word plan a = (z : Event) × (k : Kind) × (kind plan z ≡ Some k) × (word k ≡ Some a)

uses_on : (word : Kind → Option ℕ) (plan : Plan) (p a : ℕ) → On word (kinds plan p) a → Uses word plan a
unfolding kind_at
uses_on word plan p a o = let r = get_on word (kinds plan p) a o in (record { proc = p; at = r.0 }, r.1, r.2, r.3)

on_uses : (word : Kind → Option ℕ) (plan : Plan) (z : Event) (k : Kind) (a : ℕ) → kind plan z ≡ Some k → word k ≡ Some a → On word (kinds plan z.proc) a
unfolding kind_at
on_uses word plan z k a is w = on_get word (kinds plan z.proc) z.at k a is w

search_to_is : (word : Kind → Option ℕ) (f : ℕ → ℕ) (plan : Plan) (n a : ℕ) → ((c : ℕ) → Uses word plan c → f c ≡ f a → c ≡ a) → (z : Event) (k : Kind) →
    z.proc < n → kind plan z ≡ Some k → word k ≡ Some a → search_to word f plan n (f a) ≡ a
unfolding search_to
search_to_is word f plan zero a one z k lt is w = absurd (omega (arith, lt))
search_to_is word f plan (suc n) a one z k lt is w = elim (cases_eq z.proc n) [
  | inl s ↦ search_is word f (kinds plan n) a (search_to word f plan n (f a)) (λ c o t. one c (uses_on word plan n c o) t) (inl (subst (λ p. On word (kinds plan p) a) s (on_uses word plan z k a is w)))
  | inr ne ↦ search_is word f (kinds plan n) a (search_to word f plan n (f a)) (λ c o t. one c (uses_on word plan n c o) t)
      (inr (search_to_is word f plan n a one z k (omega (arith, lt, ne)) is w))
]

search : (Kind → Option ℕ) → (ℕ → ℕ) → Plan → ℕ → ℕ
search word f plan b = search_to word f plan (process_count plan) b

module _ (word : Kind → Option ℕ) (f : ℕ → ℕ) (plan : Plan) (one : (a b : ℕ) → Uses word plan a → Uses word plan b → f a ≡ f b → a ≡ b) where
  search_back : (a : ℕ) → Uses word plan a → search word f plan (f a) ≡ a
  unfolding search
  search_back a u = search_to_is word f plan (process_count plan) a (λ c v t. one c a v u t) u.0 u.1 (process_within plan u.0.proc u.0.at u.1 u.2) u.2 u.3

  -- what another plan uses whose events are these under other numbers
  module _ (other : Plan) (g : Kind → Kind) (calls : (p : ℕ) → kinds other p ≡ map g (kinds plan p)) (word_there : (k : Kind) → word (g k) ≡ option_map f (word k)) where
    mapped : (o : Option ℕ) (b : ℕ) → option_map f o ≡ Some b → (a : ℕ) × (o ≡ Some a) × (f a ≡ b)
    mapped None b s = absurd (none-some b s)
    mapped (Some a) b s = (a, refl, same_Some _ _ s)

    on_back : (ks : List Kind) (b : ℕ) → On word (map g ks) b → (a : ℕ) × On word ks a × (f a ≡ b)
    on_back [] b h = absurd h
    on_back (k ∷ ks) b (inl s) = (let r = mapped (word k) b (sym (word_there k) ∙ s) in (r.0, inl r.1, r.2))
    on_back (k ∷ ks) b (inr h) = (let r = on_back ks b h in (r.0, inr r.1, r.2))

    origin : (b : ℕ) → Uses word other b → (a : ℕ) × Uses word plan a × (f a ≡ b)
    origin b u =
        let r = on_back (kinds plan u.0.proc) b (subst (λ ks. On word ks b) (calls u.0.proc) (on_uses word other u.0 u.1 b u.2 u.3)) in
        (r.0, uses_on word plan u.0.proc r.0 r.1, r.2)

    back_one : (a b : ℕ) → Uses word other a → Uses word other b → search word f plan a ≡ search word f plan b → a ≡ b
    back_one a b u v s =
        let x = origin a u in
        let y = origin b v in
        let same : x.0 ≡ y.0 = sym (search_back x.0 x.1) ∙ ap (search word f plan) x.2 ∙ s ∙ ap (search word f plan) (sym y.2) ∙ search_back y.0 y.1 in
        sym x.2 ∙ ap f same ∙ y.2

-- a kind under other numbers
key_there : (key name : ℕ → ℕ) (k : Kind) → key_of (image_kind (renumbering key name) k) ≡ option_map key (key_of k)
key_there key name (Put k scope) = refl
key_there key name (Get owner k) = refl
key_there key name (GetNow owner k) = refl
key_there key name _ = refl

name_there : (key name : ℕ → ℕ) (k : Kind) → name_of (image_kind (renumbering key name) k) ≡ option_map name (name_of k)
name_there key name (Publish n) = refl
name_there key name (Lookup n) = refl
name_there key name (LookupWait n) = refl
name_there key name (Unpublish n) = refl
name_there key name _ = refl

kind_back : (key name key_back name_back : ℕ → ℕ) (k : Kind) → ((a : ℕ) → key_of k ≡ Some a → key_back (key a) ≡ a) → ((a : ℕ) → name_of k ≡ Some a → name_back (name a) ≡ a) →
    k ≡ image_kind (renumbering key_back name_back) (image_kind (renumbering key name) k)
kind_back key name key_back name_back (Put k scope) keys names = ap (λ n. Put n scope) (sym (keys k refl))
kind_back key name key_back name_back (Get owner k) keys names = ap (λ n. Get owner n) (sym (keys k refl))
kind_back key name key_back name_back (GetNow owner k) keys names = ap (λ n. GetNow owner n) (sym (keys k refl))
kind_back key name key_back name_back (Publish n) keys names = ap Publish (sym (names n refl))
kind_back key name key_back name_back (Lookup n) keys names = ap Lookup (sym (names n refl))
kind_back key name key_back name_back (LookupWait n) keys names = ap LookupWait (sym (names n refl))
kind_back key name key_back name_back (Unpublish n) keys names = ap Unpublish (sym (names n refl))
kind_back key name key_back name_back _ keys names = refl

kinds_back : (f g : Kind → Kind) (ks : List Kind) → ((i : ℕ) (k : Kind) → slice_get ks i ≡ Some k → k ≡ g (f k)) → ks ≡ map g (map f ks)
kinds_back f g [] same = refl
kinds_back f g (k ∷ ks) same = ap (λ v. v ∷ ks) (same 0 k refl) ∙ ap (λ vs. g (f k) ∷ vs) (kinds_back f g ks (λ i l is. same (suc i) l is))

pub renumbering_turns : RenumberingTurns
unfolding kind_at
renumbering_turns plan other key name same =
    let key_back = search key_of key plan in
    let name_back = search name_of name plan in
    let to = image_kind (renumbering key name) in (
      key_back,
      name_back,
      record {
        calls = λ p. kinds_back to (image_kind (renumbering key_back name_back)) (kinds plan p) (λ i k is. kind_back key name key_back name_back k
            (λ a w. search_back key_of key plan same.one_key a (record { proc = p; at = i }, k, is, w))
            (λ a w. search_back name_of name plan same.one_name a (record { proc = p; at = i }, k, is, w)))
            ∙ ap (map (image_kind (renumbering key_back name_back))) (sym (same.calls p));
        one_key = back_one key_of key plan same.one_key other to same.calls (key_there key name);
        one_name = back_one name_of name plan same.one_name other to same.calls (name_there key name);
        nodes = λ p. sym (same.nodes p);
        keeps = sym same.keeps;
      },
    )

pub renumbered_both : RenumberedBoth
renumbered_both plan other key name same = (
  renumbered_settle plan other key name same,
  (let turned = renumbering_turns plan other key name same in renumbered_settle other plan turned.0 turned.1 turned.2),
)

pub settled_by_placing : SettledByPlacing
settled_by_placing plan other inner key name settled placing same = (renumbered_both inner other key name same).1 (settled other placing)

-- the plan under other numbers
pub renumbered_kinds : RenumberedKinds
renumbered_kinds key name [] = refl
renumbered_kinds key name (CallPut k scope ∷ calls) = ap (λ ks. Put (key k) scope ∷ ks) (renumbered_kinds key name calls)
renumbered_kinds key name (CallCommit ∷ calls) = ap (λ ks. Commit ∷ ks) (renumbered_kinds key name calls)
renumbered_kinds key name (CallFence members collect ∷ calls) = ap (λ ks. Arrive (set_of members) collect ∷ (Leave (set_of members) ∷ ks)) (renumbered_kinds key name calls)
renumbered_kinds key name (CallGet owner k ∷ calls) = ap (λ ks. Get owner (key k) ∷ ks) (renumbered_kinds key name calls)
renumbered_kinds key name (CallGetNow owner k ∷ calls) = ap (λ ks. GetNow owner (key k) ∷ ks) (renumbered_kinds key name calls)
renumbered_kinds key name (CallPublish n ∷ calls) = ap (λ ks. Publish (name n) ∷ ks) (renumbered_kinds key name calls)
renumbered_kinds key name (CallLookup n ∷ calls) = ap (λ ks. Lookup (name n) ∷ ks) (renumbered_kinds key name calls)
renumbered_kinds key name (CallLookupWait n ∷ calls) = ap (λ ks. LookupWait (name n) ∷ ks) (renumbered_kinds key name calls)
renumbered_kinds key name (CallUnpublish n ∷ calls) = ap (λ ks. Unpublish (name n) ∷ ks) (renumbered_kinds key name calls)
renumbered_kinds key name (CallUnpublishAll ∷ calls) = ap (λ ks. UnpublishAll ∷ ks) (renumbered_kinds key name calls)
renumbered_kinds key name (CallFixed reply ∷ calls) = ap (λ ks. Fixed reply ∷ ks) (renumbered_kinds key name calls)

processes_kinds : (key name : ℕ → ℕ) (processes : List Process) (p : ℕ) →
    process_kinds (slice_get (map (renumbered_process key name) processes) p) ≡ map (image_kind (renumbering key name)) (process_kinds (slice_get processes p))
processes_kinds key name [] p = refl
processes_kinds key name (process ∷ processes) zero = renumbered_kinds key name process.calls
processes_kinds key name (process ∷ processes) (suc p) = processes_kinds key name processes p

processes_node : (key name : ℕ → ℕ) (processes : List Process) (p : ℕ) → process_node (slice_get (map (renumbered_process key name) processes) p) ≡ process_node (slice_get processes p)
processes_node key name [] p = refl
processes_node key name (process ∷ processes) zero = refl
processes_node key name (process ∷ processes) (suc p) = processes_node key name processes p

pub renumbered_is : RenumberedIs
unfolding kinds node_of
renumbered_is plan key name apart = record {
  calls = processes_kinds key name plan.processes;
  one_key = apart.keys;
  one_name = apart.names;
  nodes = processes_node key name plan.processes;
  keeps = refl;
}
