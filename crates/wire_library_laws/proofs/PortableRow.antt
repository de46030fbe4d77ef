-- A plan that is portable for each library: a process commits once, and another node's process gets what it has put.
use Rattle.std.proofs.Common.{◌≡◌, ℕ, zero, suc, [], ◌∷◌, true, false, Option, Some, None, refl, sym, ap, ◌∙◌, subst, arith, true≢false}
use Rattle.wire_runs.specs.Plan.{Plan, Event, Kind, CallPut, CallCommit, CallGet, Put, Commit, Arrive, Get, GetNow, Publish, Unpublish, UnpublishAll, Fixed, kind, kinds, node_of, kind_at, same_node, admits}
use Rattle.wire_types.specs.declared.Scope.{Scope}
use Rattle.wire_types.specs.declared.Scope.TheVariants.{Global}
use Rattle.wire_runs.specs.Puts.{stored, scope_of}
use Rattle.wire_runs.specs.Names.{calls_name}
use Rattle.wire_library_laws.specs.Library.{Family, Words}
use Rattle.wire_library_laws.specs.Portable.{IsPortable}

card : Plan
card = record {
  processes = record { node = 0; calls = CallPut 7 Global ∷ (CallCommit ∷ []) } ∷ (record { node = 1; calls = CallGet 0 7 ∷ [] } ∷ []);
  keep = false;
}

-- its events
data Is (p i : ℕ) (k : Kind) : Type 0 where
  puts : p ≡ 0 → i ≡ 0 → k ≡ Put 7 Global → Is p i k
  commits : p ≡ 0 → i ≡ 1 → k ≡ Commit → Is p i k
  gets : p ≡ 1 → i ≡ 0 → k ≡ Get 0 7 → Is p i k

kind_in : Option Kind → Kind
kind_in (Some k) = k
kind_in None = Commit

events : (p i : ℕ) (k : Kind) → kind_at card p i ≡ Some k → Is p i k
unfolding card kinds kind_at kind_in
events zero zero k h = puts refl refl (sym (ap kind_in h))
events zero (suc zero) k h = commits refl refl (sym (ap kind_in h))
events zero (suc (suc i)) k h = cc
events (suc zero) zero k h = gets refl refl (sym (ap kind_in h))
events (suc zero) (suc i) k h = cc
events (suc (suc p)) i k h = cc

-- what they aren't
abbrev IsOther : Kind → Type 0
IsOther (Put key scope) = ⊥
IsOther Commit = ⊥
IsOther (Get owner key) = ⊥
IsOther _ = Unit {0}

no_other : (p i : ℕ) (k : Kind) → IsOther k → kind_at card p i ≡ Some k → ⊥
no_other p i k other h = go (events p i k h)
  where
    go : Is p i k → ⊥
    go (puts a b e) = subst IsOther e other
    go (commits a b e) = subst IsOther e other
    go (gets a b e) = subst IsOther e other

record IsTheGet (p i owner key : ℕ) : Type 0 where
  pub proc_is : p ≡ 1
  pub at_is : i ≡ 0
  pub owner_is : owner ≡ 0
  pub key_is : key ≡ 7

abbrev owner_in : Kind → ℕ
owner_in (Get owner key) = owner
owner_in _ = 0

abbrev key_in : Kind → ℕ
key_in (Get owner key) = key
key_in (Put key scope) = key
key_in _ = 0

the_get : (p i owner key : ℕ) → kind_at card p i ≡ Some (Get owner key) → IsTheGet p i owner key
the_get p i owner key h = go (events p i (Get owner key) h)
  where
    go : Is p i (Get owner key) → IsTheGet p i owner key
    go (puts a b e) = cc
    go (commits a b e) = cc
    go (gets a b e) = record { proc_is = a; at_is = b; owner_is = ap owner_in e; key_is = ap key_in e }

the_put : (p i key : ℕ) (scope : Scope) → kind_at card p i ≡ Some (Put key scope) → i ≡ 0
the_put p i key scope h = go (events p i (Put key scope) h)
  where
    go : Is p i (Put key scope) → i ≡ 0
    go (puts a b e) = b
    go (commits a b e) = cc
    go (gets a b e) = cc

the_commit : (p i : ℕ) → kind_at card p i ≡ Some Commit → i ≡ 1
the_commit p i h = go (events p i Commit h)
  where
    go : Is p i Commit → i ≡ 1
    go (puts a b e) = cc
    go (commits a b e) = b
    go (gets a b e) = cc

apart : same_node card 0 1 ≡ true → ⊥
unfolding card node_of
apart e = true≢false (sym e)

for_all : (u : ℕ) → admits (scope_of card 0 u) false ≡ true
unfolding card kinds kind_at
for_all zero = refl
for_all (suc zero) = refl
for_all (suc (suc u)) = refl

is_there : stored card 0 7 2 ≡ None → ⊥
unfolding card kinds kind_at
is_there e = cc

no_call : (name : ℕ) (y : Event) (o : Option Kind) → kind card y ≡ o → calls_name card name y o ≡ true → ⊥
no_call name y None is c = true≢false (sym c)
no_call name y (Some k) is c = go (events y.proc y.at k is)
  where
    go : Is y.proc y.at k → ⊥
    go (puts a b e) = true≢false (sym (subst (λ x. calls_name card name y (Some x) ≡ true) e c))
    go (commits a b e) = true≢false (sym (subst (λ x. calls_name card name y (Some x) ≡ true) e c))
    go (gets a b e) = true≢false (sym (subst (λ x. calls_name card name y (Some x) ≡ true) e c))

-- whatever the family and the words
card_is_portable : (family : Family) (words : Words) → IsPortable family words card
card_is_portable family words = record {
  no_rewrite = λ x y r.
      let later = the_put y.proc y.at r.key r.later_scope r.later_is in
      let less = r.later in
      absurd (omega (arith, later, less));
  near = λ g p key is.
      let g_is = the_get g.proc g.at p key is.is in
      absurd (apart (sym (ap (same_node card 0) g_is.proc_is) ∙ sym (ap (λ q. same_node card q g.proc) g_is.owner_is) ∙ is.where_it_is));
  far = λ g p key is.
      let g_is = the_get g.proc g.at p key is.is in
      record {
        scope = λ x u its is_live here. subst (λ q. admits (scope_of card q u) false ≡ true) (sym g_is.owner_is) (for_all u);
        first = λ at_once c l.
            let at = the_commit c.proc c.at l.is in
            absurd (is_there (sym (ap (λ i. stored card 0 7 (suc i)) at) ∙ sym (ap (λ k. stored card 0 k (suc c.at)) g_is.key_is) ∙ sym (ap (λ q. stored card q key (suc c.at)) g_is.owner_is) ∙ l.missing));
      };
  mates = λ g h p key other_key is_g is_h others on_node.
      absurd (others ((the_get g.proc g.at p key is_g.is).proc_is ∙ sym (the_get h.proc h.at p other_key is_h.is).proc_is));
  near_now = λ g p key is other here asks. absurd (no_other g.proc g.at (GetNow p key) tt is);
  far_now = λ g p key is away asks. absurd (no_other g.proc g.at (GetNow p key) tt is);
  fences = λ members j. record {
    sign = 0;
    alike = λ z collect is_live is. absurd (no_other z.proc z.at (Arrive members collect) tt is);
    agree = λ y z a b live_y live_z. absurd (no_other y.proc y.at (Arrive members a.collect) tt a.is);
  };
  named = λ y name c asks. absurd (no_call name y (kind card y) refl c);
  names = record {
    fresh = λ s p name r is. absurd (no_other p (s.done p) (Publish name) tt is);
    held = λ s p name r is. absurd (no_other p (s.done p) (Unpublish name) tt is);
  };
  star = λ y is asks. absurd (no_other y.proc y.at UnpublishAll tt is);
  reserved = λ y f asks. absurd (no_other y.proc y.at (Fixed f.0) tt f.1);
}
