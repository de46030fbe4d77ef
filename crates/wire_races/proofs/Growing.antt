-- How the list of findings grows, event by event.
use Rattle.std.proofs.Common.{◌≡◌, ◌⊎◌, inl, inr, ⊎_elim, ℕ, suc, ◌<◌, ◌≤◌, List, refl, sym, subst, arith}
use Rattle.std.proofs.lemmas.Bool.{cases_eq}
use Rattle.wire_runs.specs.Plan.{Plan, Event, process_count, event_count}
use Rattle.wire_runs.specs.Findings.{Finding, IsFound}
use Rattle.wire_findings.specs.declared.finding.Finding.{Finding as Told}
use Rattle.wire_findings.specs.Collected.{AreFound, IsFindingAdded}
use Rattle.wire_races.specs.FindingKinds.{AllAdded}
use Rattle.wire_races.specs.Adding.{AddsFindings, OfKind, ToldIn, ToldBetween, ToldBelow}

-- nothing is there to add
pub adds_none : (plan : Plan) (found : List Told) (those : Finding → Type 0) → AreFound plan found → ((f : Finding) → those f → ⊥) → AddsFindings plan found found those
adds_none plan found those are never = record {
  found = are;
  kept = λ f h. h;
  all = λ f t. absurd (never f t);
  only = λ f h. inl h;
}

-- the one finding is added
pub adds_one : (plan : Plan) (old new : List Told) (those : Finding → Type 0) (g : Finding) → AreFound plan old → IsFound plan g → IsFindingAdded plan old new g → those g →
    ((f : Finding) → those f → f ≡ g) → AddsFindings plan old new those
adds_one plan old new those g are is told here one = record {
  found = λ f h. elim ((told f).0 h) [
    | inl was ↦ are f was
    | inr same ↦ subst (IsFound plan) (sym same) is
  ];
  kept = λ f h. (told f).1 (inl h);
  all = λ f t. (told f).1 (inr (one f t));
  only = λ f h. elim ((told f).0 h) [
    | inl was ↦ inl was
    | inr same ↦ inr (subst those (sym same) here)
  ];
}

-- the same are told in other words
pub adds_same : (plan : Plan) (old new : List Told) (a b : Finding → Type 0) → ((f : Finding) → a f → b f) → ((f : Finding) → b f → a f) → AddsFindings plan old new a → AddsFindings plan old new b
adds_same plan old new a b there back h = record {
  found = h.found;
  kept = h.kept;
  all = λ f t. h.all f (back f t);
  only = λ f n. ⊎_elim (λ was. inl was) (λ t. inr (there f t)) (h.only f n);
}

-- first these, then those
pub adds_both : (plan : Plan) (old mid new : List Told) (a b c : Finding → Type 0) → ((f : Finding) → a f → c f) → ((f : Finding) → b f → c f) → ((f : Finding) → c f → a f ⊎ b f) →
    AddsFindings plan old mid a → AddsFindings plan mid new b → AddsFindings plan old new c
adds_both plan old mid new a b c first second either x y = record {
  found = y.found;
  kept = λ f h. y.kept f (x.kept f h);
  all = λ f t. ⊎_elim (λ s. y.kept f (x.all f s)) (λ s. y.all f s) (either f t);
  only = λ f n. elim (y.only f n) [
    | inl before ↦ elim (x.only f before) [ inl was ↦ inl was | inr s ↦ inr (first f s) ]
    | inr s ↦ inr (second f s)
  ];
}

module _ (plan : Plan) (tells : Event → Finding → Type 0) where
  -- one event more
  pub one_event : (old mid new : List Told) (p n m : ℕ) → m ≡ suc n → AddsFindings plan old mid (ToldIn tells p n) → AddsFindings plan mid new (tells (record { proc = p; at = n })) →
      AddsFindings plan old new (ToldIn tells p m)
  one_event old mid new p n m one first second =
      adds_both plan old mid new (ToldIn tells p n) (tells (record { proc = p; at = n })) (ToldIn tells p m)
      (λ f t. let lt = t.3 in (t.0, t.1, t.2, omega (arith, lt, one)))
      (λ f t. (record { proc = p; at = n }, t, refl, omega (arith, one)))
      (λ f t. elim (cases_eq t.0.at n) [
        | inl same ↦ let q = t.2 in inr (subst (λ y. tells y f) (λ i. record { proc = q i; at = same i }) t.1)
        | inr other ↦ let lt = t.3 in inl (t.0, t.1, t.2, omega (arith, lt, one, other))
      ])
      first second

  -- one process more
  pub one_process : ((y : Event) (f : Finding) → tells y f → y.at < event_count plan y.proc) → (old mid new : List Told) (n m : ℕ) → m ≡ suc n → AddsFindings plan old mid (ToldBelow tells n) →
      AddsFindings plan mid new (ToldIn tells n (event_count plan n)) → AddsFindings plan old new (ToldBelow tells m)
  one_process within old mid new n m one first second =
      adds_both plan old mid new (ToldBelow tells n) (ToldIn tells n (event_count plan n)) (ToldBelow tells m)
      (λ f t. let lt = t.2 in (t.0, t.1, omega (arith, lt, one)))
      (λ f t. let is = t.2 in (t.0, t.1, omega (arith, is, one)))
      (λ f t. elim (cases_eq t.0.proc n) [
        | inl same ↦ inr (t.0, t.1, same, subst (λ q. t.0.at < event_count plan q) same (within t.0 f t.1))
        | inr other ↦ let lt = t.2 in inl (t.0, t.1, omega (arith, lt, one, other))
      ])
      first second

  -- one process more, behind those from one on
  pub one_beside : ((y : Event) (f : Finding) → tells y f → y.at < event_count plan y.proc) → (old mid new : List Told) (from n m : ℕ) → m ≡ suc n → from ≤ n →
      AddsFindings plan old mid (ToldBetween tells from n) → AddsFindings plan mid new (ToldIn tells n (event_count plan n)) → AddsFindings plan old new (ToldBetween tells from m)
  one_beside within old mid new from n m one le first second =
      adds_both plan old mid new (ToldBetween tells from n) (ToldIn tells n (event_count plan n)) (ToldBetween tells from m)
      (λ f t. let lt = t.3 in (t.0, t.1, t.2, omega (arith, lt, one)))
      (λ f t. let is = t.2 in (t.0, t.1, omega (arith, is, le), omega (arith, is, one)))
      (λ f t. elim (cases_eq t.0.proc n) [
        | inl same ↦ inr (t.0, t.1, same, subst (λ q. t.0.at < event_count plan q) same (within t.0 f t.1))
        | inr other ↦ let lt = t.3 in inl (t.0, t.1, t.2, omega (arith, lt, one, other))
      ])
      first second

  -- all processes
  pub all_told : ((y : Event) (f : Finding) → tells y f → y.proc < process_count plan) → (kind : Finding → Type 0) → ((y : Event) (f : Finding) → tells y f → OfKind plan kind f) →
      ((f : Finding) → OfKind plan kind f → (y : Event) × tells y f) → (old new : List Told) (n : ℕ) → n ≡ process_count plan → AddsFindings plan old new (ToldBelow tells n) →
      AddsFindings plan old new (OfKind plan kind)
  all_told within kind there back old new n all h =
      adds_same plan old new (ToldBelow tells n) (OfKind plan kind)
      (λ f t. there t.0 f t.1)
      (λ f k. let t = back f k in let lt = within t.0 f t.1 in (t.0, t.1, omega (arith, lt, all)))
      h

-- the findings of a kind are added
pub all_added : (plan : Plan) (kind : Finding → Type 0) (old new : List Told) → AddsFindings plan old new (OfKind plan kind) → AllAdded plan kind old new
all_added plan kind old new h = λ f. (
  (λ there. h.only f there),
  (λ either. ⊎_elim (λ was. h.kept f was) (λ k. h.all f k) either),
)
