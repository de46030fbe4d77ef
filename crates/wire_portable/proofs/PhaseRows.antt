-- Rows of phases, as they grow.
use Rattle.std.proofs.Common.{◌≡◌, ◌∙◌, ℕ, zero, suc, ◌+◌, ◌<◌, ◌≤◌, List, [], ◌∷◌, ◌++◌, length, Bool, true, Option, Some, None, ◌⊎◌, is_some, inl, inr, refl, sym, ap, subst, arith}
use Rattle.std.specs.Prelude.{slice_get, slice_index_or, bytes_eq, MatchOption}
use Rattle.std.specs.Cmp.Lexicographic.{bytes_decides}
use Rattle.std.proofs.lemmas.Bool.{cases_lt, cond-true, cond-false, eq-eqb, false_from_ne_true, or_left, or_right, true≢false}
use Rattle.std.proofs.lemmas.Option.{none-some, same_Some}
use Rattle.wire_runs.specs.Plan.{Plan, Event, Kind, Get, Commit, Arrive, kind, set_of, event_count, process_count}
use Rattle.wire_runs.specs.Fences.{arrivals_with, arrivals, is_member}
use Rattle.wire_runs.specs.Order.{Stores}
use Rattle.wire_runs.specs.Puts.{stored}
use Rattle.wire_runs.proofs.Basics.{event_within, process_within, stores_commit}
use Rattle.wire_runs.proofs.Lists.{slice_get_push_cases, one_longer}
use Rattle.wire_runs.proofs.WholeSets.{member_set}
use Rattle.wire_scripts.specs.Scripts.{Scripts, IsSound, set_at}
use Rattle.wire_scripts.specs.Planned.{plan_of}
use Rattle.wire_fence.proofs.Events.{set_canonical, same_set}
use Rattle.wire_plan.specs.declared.kind.Kind.{Kind as CodeKind}
use Rattle.wire_plan.specs.declared.kind.Kind.TheVariants as code
use Rattle.wire_plan.specs.Kinds.{kind_of}
use Rattle.wire_library_laws.specs.Portable.{EndsFirst, IsAsked}
use Rattle.wire_portable.specs.Phases.{phase_of, IsPhaseRow, IsOfOwner, owned, reads, ArePhases, IsThereUnlessEnded, main_of, AreMainSets, AreReadWithin, IsMainRow, AreMainRows}
use Rattle.wire_portable.proofs.Parted.{parted}

-- an event that isn't an arrival counts nothing
pub other_counts : (sets : List (List ℕ)) (members : List ℕ) (n : ℕ) (k : CodeKind) → ((set : ℕ) (collect : Bool) → k ≡ code.Arrive set collect → ⊥) → n ≡ arrivals_with members n (Some (kind_of sets k))
other_counts sets members n (code.Arrive set collect) never = absurd (never set collect refl)
other_counts sets members n code.Commit never = refl
other_counts sets members n (code.Put scope key) never = refl
other_counts sets members n (code.Leave set) never = refl
other_counts sets members n (code.Get owner key) never = refl
other_counts sets members n (code.GetNow owner key) never = refl
other_counts sets members n (code.Publish name) never = refl
other_counts sets members n (code.Lookup name) never = refl
other_counts sets members n (code.LookupWait name) never = refl
other_counts sets members n (code.Unpublish name) never = refl
other_counts sets members n code.UnpublishAll never = refl
other_counts sets members n (code.Fixed reply) never = refl

-- a set that isn't there has no process
set_missing : (sets : List (List ℕ)) (n : ℕ) → length sets ≤ n → set_at sets n ≡ []
set_missing [] n le = refl
set_missing (x ∷ xs) zero le = absurd (omega (arith, le))
set_missing (x ∷ xs) (suc n) le = set_missing xs n (omega (arith, le))

module _ (s : Scripts) (set other q : ℕ) (sound : IsSound s) (member : is_member (set_of (set_at s.sets set)) q ≡ true) where
  set_there : (n : ℕ) → set_of (set_at s.sets set) ≡ set_of (set_at s.sets n) → n < length s.sets
  set_there n same = elim (cases_lt n (length s.sets)) [
    | inl lt ↦ lt
    | inr ge ↦ absurd (true≢false (sym member ∙ ap (λ ms. is_member ms q) (same ∙ ap set_of (set_missing s.sets n ge))))
  ]

  -- sets with the same processes have one number
  one_number : set_of (set_at s.sets other) ≡ set_of (set_at s.sets set) → other ≡ set
  one_number same =
      let low = set_there other (sym same) in
      let here = set_there set refl in
      same_set s other set sound low here (sym (set_canonical s other sound low) ∙ same ∙ set_canonical s set sound here)

  pub same_counts : (n : ℕ) (collect : Bool) → other ≡ set → suc n ≡ arrivals_with (set_of (set_at s.sets set)) n (Some (Arrive (set_of (set_at s.sets other)) collect))
  same_counts n collect e = sym (cond-true (bytes_eq (set_of (set_at s.sets other)) (set_of (set_at s.sets set))) (suc n) n ((bytes_decides _ _).1 (ap (λ m. set_of (set_at s.sets m)) e)))

  pub apart_counts : (n : ℕ) (collect : Bool) → (other ≡ set → ⊥) → n ≡ arrivals_with (set_of (set_at s.sets set)) n (Some (Arrive (set_of (set_at s.sets other)) collect))
  apart_counts n collect ne = sym (cond-false (bytes_eq (set_of (set_at s.sets other)) (set_of (set_at s.sets set))) (suc n) n (false_from_ne_true _ (λ t. ne (one_number ((bytes_decides _ _).0 t)))))

-- the row of p's first n events, and how many arrivals these have
pub record IsRowTo (plan : Plan) (members : List ℕ) (p n count : ℕ) (row : List ℕ) : Type 0 where
  pub size : length row ≡ n
  pub each : (at : ℕ) → at < n → slice_index_or row at 0 ≡ arrivals plan p members at
  pub counted : count ≡ arrivals plan p members n
  pub low : count ≤ n

pub no_row : (plan : Plan) (members : List ℕ) (p : ℕ) → IsRowTo plan members p 0 0 []
no_row plan members p = record { size = refl; each = λ at lt. absurd (omega (arith, lt)); counted = refl; low = omega arith }

in_front : (xs : List ℕ) (x k : ℕ) → k < length xs → slice_index_or (xs ++ x ∷ []) k 0 ≡ slice_index_or xs k 0
in_front [] x k lt = absurd (omega (arith, lt))
in_front (y ∷ xs) x zero lt = refl
in_front (y ∷ xs) x (suc k) lt = in_front xs x k (omega (arith, lt))

at_end : (xs : List ℕ) (x : ℕ) → slice_index_or (xs ++ x ∷ []) (length xs) 0 ≡ x
at_end [] x = refl
at_end (y ∷ xs) x = at_end xs x

pub row_more : (plan : Plan) (members : List ℕ) (p n m count next : ℕ) (row : List ℕ) → m ≡ n + 1 → next ≡ arrivals plan p members (suc n) → next ≤ suc count →
    IsRowTo plan members p n count row → IsRowTo plan members p m next (row ++ count ∷ [])
row_more plan members p n m count next row e counted less r = record {
  size = one_longer row count ∙ (let size = r.size in omega (arith, e, size));
  each = λ at lt. elim (cases_lt at n) [
    | inl low ↦ in_front row count at (let size = r.size in omega (arith, low, size)) ∙ r.each at low
    | inr high ↦
        (let same : at ≡ n = omega (arith, e, lt, high) in
        ap (λ k. slice_index_or (row ++ count ∷ []) k 0) (same ∙ sym r.size) ∙ at_end row count ∙ r.counted ∙ ap (arrivals plan p members) (sym same))
  ];
  counted = counted ∙ ap (arrivals plan p members) next_is;
  low = let up = r.low in omega (arith, e, up, less);
}
  where
    next_is : suc n ≡ m
    next_is = omega (arith, e)

pub row_whole : (plan : Plan) (members : List ℕ) (p n count : ℕ) (row : List ℕ) → event_count plan p ≤ n → IsRowTo plan members p n count row → IsPhaseRow plan members p row
row_whole plan members p n count row le r at lt = r.each at (omega (arith, le, lt))

-- the rows of the first n processes
pub record AreMainRowsTo (s : Scripts) (sets : List (Option ℕ)) (n : ℕ) (rows : List (List ℕ)) : Type 0 where
  pub size : length rows ≡ n
  pub each : (p : ℕ) (row : List ℕ) → slice_get rows p ≡ Some row → IsMainRow s p (main_of sets p) row

pub no_main_rows : (s : Scripts) (sets : List (Option ℕ)) → AreMainRowsTo s sets 0 []
no_main_rows s sets = record { size = refl; each = λ p row is. absurd (none-some row is) }

pub main_row_added : (s : Scripts) (sets : List (Option ℕ)) (n m : ℕ) (rows : List (List ℕ)) (row : List ℕ) → m ≡ suc n → IsMainRow s n (main_of sets n) row → AreMainRowsTo s sets n rows →
    AreMainRowsTo s sets m (rows ++ row ∷ [])
main_row_added s sets n m rows row e new are = record {
  size = one_longer rows row ∙ ap suc are.size ∙ sym e;
  each = λ k r is. elim (slice_get_push_cases rows row k r is) [
    | inl old ↦ are.each k r old
    | inr last ↦ subst (IsMainRow s k (main_of sets k)) last.1 (subst (λ i. IsMainRow s i (main_of sets i) row) (sym (last.0 ∙ are.size)) new)
  ];
}

row_there : (rows : List (List ℕ)) (p : ℕ) → p < length rows → slice_get rows p ≡ Some (slice_index_or rows p [])
row_there [] p lt = absurd (omega (arith, lt))
row_there (x ∷ xs) zero lt = refl
row_there (x ∷ xs) (suc p) lt = row_there xs p (omega (arith, lt))

pub main_rows : (s : Scripts) (sets : List (Option ℕ)) (n : ℕ) (rows : List (List ℕ)) → process_count (plan_of s) ≤ n → AreMainRowsTo s sets n rows → AreMainRows s sets rows
main_rows s sets n rows le are p lt = are.each p (slice_index_or rows p []) (row_there rows p (let size = are.size in omega (arith, size, le, lt)))

kind_of_owner : (plan : Plan) (p : ℕ) (x : Event) → IsOfOwner plan p x → (k : Kind) × (kind plan x ≡ Some k)
kind_of_owner plan p x (owned k is same) = (k, is)
kind_of_owner plan p x (reads key is) = (Get p key, is)

-- who reads a key of p has p's main set, and so has p
one_main : (plan : Plan) (sets : List (Option ℕ)) (p : ℕ) (x : Event) → AreReadWithin plan sets → IsOfOwner plan p x → main_of sets x.proc ≡ main_of sets p
one_main plan sets p x within (owned k is same) = ap (main_of sets) same
one_main plan sets p x within (reads key is) = within x p key is

-- rows by main sets are phases, where keys are read within these
module _ (s : Scripts) (sets : List (Option ℕ)) (rows : List (List ℕ)) (members : AreMainSets s sets) (within : AreReadWithin (plan_of s) sets) (are : AreMainRows s sets rows) where
  abbrev plan : Plan
  plan = plan_of s

  by_main : (main : Option ℕ) (p key : ℕ) (x h : Event) (k : Kind) → main_of sets x.proc ≡ main → main_of sets h.proc ≡ main → kind plan x ≡ Some k → kind plan h ≡ Some (Get p key) → IsAsked plan h →
      IsMainRow s x.proc main (slice_index_or rows x.proc []) → IsMainRow s h.proc main (slice_index_or rows h.proc []) → phase_of rows x < phase_of rows h → EndsFirst plan x h
  by_main None p key x h k main_x main_h is_x is_h asked row_x row_h lt =
      let none : phase_of rows h ≡ 0 = ap (λ row. slice_index_or row h.at 0) row_h in absurd (omega (arith, lt, none))
  by_main (Some set) p key x h k main_x main_h is_x is_h asked row_x row_h lt =
      let at_x : phase_of rows x ≡ arrivals plan x.proc (set_of (set_at s.sets set)) x.at = row_x x.at (event_within plan x.proc x.at k is_x) in
      let at_h : phase_of rows h ≡ arrivals plan h.proc (set_of (set_at s.sets set)) h.at = row_h h.at (event_within plan h.proc h.at _ is_h) in
      parted plan (set_of (set_at s.sets set)) x h p key (members x.proc set main_x) (members h.proc set main_h) is_h asked (omega (arith, lt, at_x, at_h))

  pub phases_counted : ArePhases plan rows
  phases_counted p key x h of_x is_h asked lt =
      let one = kind_of_owner plan p x of_x in
      let main_x = one_main plan sets p x within of_x in
      let main_h = within h p key is_h in
      by_main (main_of sets p) p key x h one.0 main_x main_h one.1 is_h asked
      (subst (λ main. IsMainRow s x.proc main (slice_index_or rows x.proc [])) main_x (are x.proc (process_within plan x.proc x.at one.0 one.1)))
      (subst (λ main. IsMainRow s h.proc main (slice_index_or rows h.proc [])) main_h (are h.proc (process_within plan h.proc h.at _ is_h))) lt

-- all in one phase
one_phase : (x : Event) → phase_of [] x ≡ 0
one_phase x = refl

pub no_phases : (plan : Plan) → ArePhases plan []
no_phases plan p key x h of_x is_h asked lt = let a = one_phase x in let b = one_phase h in absurd (omega (arith, lt, a, b))

-- a key that is stored in an earlier phase than a get's is there for all gets that haven't ended when it is asked
pub stored_earlier : (plan : Plan) (rows : List (List ℕ)) (p key : ℕ) (x g : Event) → ArePhases plan rows → x.proc ≡ p → Stores plan x key → kind plan g ≡ Some (Get p key) →
    phase_of rows x < phase_of rows g → IsAsked plan g → IsThereUnlessEnded plan p key g
stored_earlier plan rows p key x g phases its_proc stores is_g lt asked h other is_h asked_h = elim (cases_lt (phase_of rows h) (phase_of rows g)) [
  | inl low ↦ inl (phases p key h g (reads other is_h) is_g asked low)
  | inr high ↦ inr (record {
    event = x;
    its = its_proc;
    there = subst (λ v. is_some (stored plan v key (suc x.at)) ≡ true) its_proc stores.something_after;
    first = phases p other x h (owned Commit (stores_commit plan x key stores) its_proc) is_h asked_h (omega (arith, lt, high));
  })
]

-- a process that stands among the members is one
there_is_member : (xs : List ℕ) (k q : ℕ) → slice_get xs k ≡ Some q → is_member xs q ≡ true
there_is_member [] k q is = absurd (none-some q is)
there_is_member (x ∷ xs) zero q is = or_left _ _ (eq-eqb x q (same_Some _ _ is))
there_is_member (x ∷ xs) (suc k) q is = or_right _ _ (there_is_member xs k q is)

pub in_set : (xs : List ℕ) (k q : ℕ) → slice_get xs k ≡ Some q → is_member (set_of xs) q ≡ true
in_set xs k q is = member_set xs q ∙ there_is_member xs k q is

-- the main sets of the first n processes
pub record AreMembersTo (s : Scripts) (n : ℕ) (sets : List (Option ℕ)) : Type 0 where
  pub size : length sets ≡ n
  pub members : AreMainSets s sets

pub no_members : (s : Scripts) → AreMembersTo s 0 []
no_members s = record { size = refl; members = λ p set is. absurd (none-some set is) }

last_or_earlier : (sets : List (Option ℕ)) (main : Option ℕ) (p set : ℕ) → main_of (sets ++ main ∷ []) p ≡ Some set → (main_of sets p ≡ Some set) ⊎ ((length sets ≡ p) × (main ≡ Some set))
last_or_earlier [] main zero set is = inr (refl, is)
last_or_earlier [] main (suc p) set is = inl is
last_or_earlier (x ∷ sets) main zero set is = inl is
last_or_earlier (x ∷ sets) main (suc p) set is = elim (last_or_earlier sets main p set is) [ inl low ↦ inl low | inr last ↦ inr (ap suc last.0, last.1) ]

pub member_added : (s : Scripts) (sets : List (Option ℕ)) (n m : ℕ) (main : Option ℕ) → m ≡ suc n → MatchOption main (Unit {0}) (λ set. is_member (set_of (set_at s.sets set)) n ≡ true) →
    AreMembersTo s n sets → AreMembersTo s m (sets ++ main ∷ [])
member_added s sets n m main e new are = record {
  size = one_longer sets main ∙ ap suc are.size ∙ sym e;
  members = λ p set is. elim (last_or_earlier sets main p set is) [
    | inl low ↦ are.members p set low
    | inr last ↦
        (let mine = subst (λ o. MatchOption o (Unit {0}) (λ other. is_member (set_of (set_at s.sets other)) n ≡ true)) last.1 new in
        subst (λ q. is_member (set_of (set_at s.sets set)) q ≡ true) (sym are.size ∙ last.0) mine)
  ];
}
