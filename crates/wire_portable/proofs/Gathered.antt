-- The live commits of a process, as they are gathered, and the last of them.
use Rattle.std.proofs.Common.{◌≡◌, ℕ, zero, suc, ◌-◌, ◌≤◌, List, [], ◌∷◌, ◌++◌, inl, inr, true, Option, Some, None, refl, sym, ap, ◌∙◌, subst, arith, map, length, nat_lt, get_or}
use Rattle.std.specs.Prelude.{slice_get, slice_index_or}
use Rattle.std.specs.List.Sorted.{IsPartitionedBy}
use Rattle.wire_plan.proofs.FirstBringing.{shown}
use Rattle.std.proofs.lemmas.Bool.{cases_eq, lt-ltb, ltb-true}
use Rattle.std.proofs.lemmas.Option.{none-some, same_Some}
use Rattle.wire_types.specs.declared.Event.{Event as CodeEvent}
use Rattle.wire_runs.specs.Plan.{Plan, Event, Kind, Commit, event_of, event_count, process_count}
use Rattle.wire_plan.specs.declared.kind.Kind.{Kind as CodeKind}
use Rattle.wire_plan.specs.declared.kind.Kind.TheVariants as code
use Rattle.wire_plan.specs.Kinds.{kind_of}
use Rattle.wire_runs.specs.EventLists.{AreAll}
use Rattle.wire_runs.proofs.Basics.{event_within, process_within}
use Rattle.wire_runs.proofs.EventLists.{all_of_none, all_same}
use Rattle.wire_runs.proofs.Lists.{slice_get_push_cases, one_longer}
use Rattle.wire_plan.proofs.Grown.{place, Earlier, one_more, one_other}
use Rattle.wire_portable.specs.Commits.{IsLiveCommit, AreCommitsOf, AreOfOneRising, AreCommitRows, IsLastOf, IsCommitBelow}

-- an event that isn't a commit by its code
pub no_commit : (sets : List (List ℕ)) (k : CodeKind) (o : Option Kind) → o ≡ Some (kind_of sets k) → (k ≡ code.Commit → ⊥) → o ≡ Some Commit → ⊥
no_commit sets code.Commit o e never is = never refl
no_commit sets (code.Put scope key) o e never is = cc
no_commit sets (code.Arrive set collect) o e never is = cc
no_commit sets (code.Leave set) o e never is = cc
no_commit sets (code.Get owner key) o e never is = cc
no_commit sets (code.GetNow owner key) o e never is = cc
no_commit sets (code.Publish name) o e never is = cc
no_commit sets (code.Lookup name) o e never is = cc
no_commit sets (code.LookupWait name) o e never is = cc
no_commit sets (code.Unpublish name) o e never is = cc
no_commit sets code.UnpublishAll o e never is = cc
no_commit sets (code.Fixed reply) o e never is = cc

-- those among p's first n events
abbrev pub AreCommitsTo : Plan → ℕ → ℕ → List Event → Type 0
AreCommitsTo plan p n places = AreAll (Earlier (IsLiveCommit plan p) p n) places

pub no_commits : (plan : Plan) (p : ℕ) → AreCommitsTo plan p 0 []
no_commits plan p = all_of_none _ (λ x h. let its = h.0.its in elim h.1 [ inl lt ↦ omega (arith, lt, its) | inr e ↦ let lt = e.1 in omega (arith, lt) ])

pub commit_added : (plan : Plan) (p n m : ℕ) (xs : List Event) → m ≡ suc n → IsLiveCommit plan p (place p n) → AreCommitsTo plan p n xs → AreCommitsTo plan p m (xs ++ place p n ∷ [])
commit_added plan p n m xs e new are =
    subst (λ k. AreCommitsTo plan p k (xs ++ place p n ∷ [])) (sym e) (one_more (IsLiveCommit plan p) p n xs new are)

pub no_commit_added : (plan : Plan) (p n m : ℕ) (xs : List Event) → m ≡ suc n → (IsLiveCommit plan p (place p n) → ⊥) → AreCommitsTo plan p n xs → AreCommitsTo plan p m xs
no_commit_added plan p n m xs e never are = subst (λ k. AreCommitsTo plan p k xs) (sym e) (one_other (IsLiveCommit plan p) p n xs never are)

pub all_commits : (plan : Plan) (p n : ℕ) (xs : List Event) → event_count plan p ≤ n → AreCommitsTo plan p n xs → AreCommitsOf plan p xs
all_commits plan p n xs le are = all_same _ _ xs (λ x h. h.0)
    (λ x h. let within = event_within plan x.proc x.at _ h.is in (h, inr (h.its, (let some : event_count plan x.proc ≡ event_count plan p = ap (event_count plan) h.its in omega (arith, within, some, le)))))
    are

-- a process that isn't there has none
pub none_there : (plan : Plan) (p : ℕ) → process_count plan ≤ p → AreCommitsOf plan p []
none_there plan p le = all_of_none _ (λ x h. let within = process_within plan x.proc x.at _ h.is in let its = h.its in omega (arith, within, its, le))

pub index_some : {A : Type 0} (xs : List A) (i : ℕ) (x d : A) → slice_get xs i ≡ Some x → slice_index_or xs i d ≡ x
index_some [] i x d is = absurd (none-some x is)
index_some (y ∷ xs) zero x d is = same_Some _ _ is
index_some (y ∷ xs) (suc i) x d is = index_some xs i x d is

index_none : {A : Type 0} (xs : List A) (i : ℕ) (d : A) → slice_get xs i ≡ None → slice_index_or xs i d ≡ d
index_none [] i d is = refl
index_none (y ∷ xs) zero d is = absurd (none-some y (sym is))
index_none (y ∷ xs) (suc i) d is = index_none xs i d is

past_end : {A : Type 0} (xs : List A) (i : ℕ) → slice_get xs i ≡ None → length xs ≤ i
past_end [] i is = omega arith
past_end (y ∷ xs) zero is = absurd (none-some y (sym is))
past_end (y ∷ xs) (suc i) is = let le = past_end xs i is in omega (arith, le)

-- the rows of the first n processes
pub record AreRowsTo (plan : Plan) (n : ℕ) (rows : List (List CodeEvent)) : Type 0 where
  pub size : length rows ≡ n
  pub each : (k : ℕ) (row : List CodeEvent) → slice_get rows k ≡ Some row → AreCommitsOf plan k (map event_of row)

pub no_rows : (plan : Plan) → AreRowsTo plan 0 []
no_rows plan = record { size = refl; each = λ k row is. absurd (none-some row is) }

pub row_added : (plan : Plan) (n m : ℕ) (rows : List (List CodeEvent)) (row : List CodeEvent) → m ≡ suc n → AreCommitsOf plan n (map event_of row) → AreRowsTo plan n rows → AreRowsTo plan m (rows ++ row ∷ [])
row_added plan n m rows row e new are = record {
  size = one_longer rows row ∙ ap suc are.size ∙ sym e;
  each = λ k r is. elim (slice_get_push_cases rows row k r is) [
    | inl old ↦ are.each k r old
    | inr last ↦ subst (λ v. AreCommitsOf plan k (map event_of v)) last.1 (subst (λ i. AreCommitsOf plan i (map event_of row)) (sym (last.0 ∙ are.size)) new)
  ];
}

pub all_rows : (plan : Plan) (n : ℕ) (rows : List (List CodeEvent)) → process_count plan ≤ n → AreRowsTo plan n rows → AreCommitRows plan rows
all_rows plan n rows le are p = go (slice_get rows p) refl
  where
    go : (o : Option (List CodeEvent)) → slice_get rows p ≡ o → AreCommitsOf plan p (map event_of (slice_index_or rows p []))
    go (Some row) e = subst (λ v. AreCommitsOf plan p (map event_of v)) (sym (index_some rows p row [] e)) (are.each p row e)
    go None e = subst (λ v. AreCommitsOf plan p (map event_of v)) (sym (index_none rows p [] e))
        (none_there plan p (let past = past_end rows p e in let size = are.size in omega (arith, past, size, le)))

-- the events of a row are of one process, the earlier first
pub row_rising : (plan : Plan) (p : ℕ) (places : List Event) → AreCommitsOf plan p places → AreOfOneRising p places
row_rising plan p places are = record {
  its = λ k x is. (are.only k x is).its;
  rising = λ k l x y lt at_x at_y. elim (are.rising k l x y lt at_x at_y) [
    | inl low ↦ (let a = (are.only k x at_x).its in let b = (are.only l y at_y).its in absurd (omega (arith, low, a, b)))
    | inr low ↦ low.1
  ];
}

module _ (plan : Plan) (p n count : ℕ) (places : List Event) (are : AreCommitsOf plan p places)
    (exactly : (k : ℕ) (x : Event) → slice_get places k ≡ Some x → nat_lt x.at n ≡ nat_lt k count) where
  -- the first `count` of them stand before the event
  pub none_below : count ≡ 0 → IsLastOf (IsCommitBelow plan p n) None
  none_below e x h =
      let at = are.all x h.0 in
      let low = ltb-true at.0 count (sym (exactly at.0 x at.1) ∙ lt-ltb x.at n h.1) in
      omega (arith, low, e)

  pub last_is : (e : CodeEvent) → slice_get places (count - 1) ≡ Some (event_of e) → (count ≡ 0 → ⊥) → IsLastOf (IsCommitBelow plan p n) (Some e)
  last_is e is some = (
    (are.only (count - 1) (event_of e) is, ltb-true e.at n (exactly (count - 1) (event_of e) is ∙ lt-ltb (count - 1) count (omega (arith, some)))),
    (λ x h.
        let at = are.all x h.0 in
        let low = ltb-true at.0 count (sym (exactly at.0 x at.1) ∙ lt-ltb x.at n h.1) in
        elim (cases_eq at.0 (count - 1)) [
          | inl same ↦
              (let one : x ≡ event_of e = same_Some _ _ (sym at.1 ∙ ap (slice_get places) same ∙ is) in
              let i = ap (λ (v : Event). v.at) one in
              omega (arith, i))
          | inr other ↦
              (let lt = (row_rising plan p places are).rising at.0 (count - 1) x (event_of e) (omega (arith, low, other)) at.1 is in
              omega (arith, lt))
        ]),
  )

-- those before an event stand before the others
pub below_at : (xs : List CodeEvent) (p n : ℕ) → AreOfOneRising p (map event_of xs) → IsPartitionedBy (λ (x : CodeEvent). nat_lt x.at n) xs
below_at xs p n r i j d le lt below = elim (cases_eq i j) [
  | inl same ↦ subst (λ k. nat_lt (get_or xs k d).at n ≡ true) (sym same) below
  | inr other ↦
      (let under = ltb-true (get_or xs j d).at n below in
      let up = r.rising i j (event_of (get_or xs i d)) (event_of (get_or xs j d)) (omega (arith, le, other)) (shown xs i d (omega (arith, le, lt))) (shown xs j d lt) in
      lt-ltb (get_or xs i d).at n (omega (arith, up, under)))
]
