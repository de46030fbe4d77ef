-- What `==` says of two calls.
use Rattle.std.proofs.Common.{◌≡◌, ap, sym, refl, Bool, true, false, true≢false, eqb-true, eq-eqb}
use Rattle.std.specs.Prelude.{ℕ, ◌==◌, ◌&&◌}
use Rattle.std.specs.Bool.{Decides}
use Rattle.std.specs.Cmp.{booleans_Decides}
use Rattle.wire_types.specs.declared.Call.{Call}
use Rattle.wire_types.specs.declared.Call.TheVariants.{Put, Commit, Fence, Get, GetNow, Publish, Lookup, LookupWait, Unpublish, UnpublishAll}
use Rattle.wire_types.specs.declared.Scope.{Scope}
use Rattle.wire_types.specs.declared.Scope.TheVariants.{Local, Remote, Global}
use Rattle.wire_types.specs.declared.Proc.{Proc}
use Rattle.wire_types.specs.contracts.call.ScopePartialEq.TheImpl as scopes
use Rattle.wire_types.specs.contracts.place.ProcPartialEq.TheImpl as procs
use Rattle.wire_scripts.specs.Same.{same_call}

-- where there is nothing to show
pub apart : {P : Type 0} → (P → ⊥) → Decides false P
apart never = (λ e. absurd (true≢false (sym e)), λ p. absurd (never p))

pub alike : {P : Type 0} → P → Decides true P
alike p = (λ e. p, λ q. refl)

pub number : (a b : ℕ) → Decides (a == b) (a ≡ b)
number a b = (eqb-true a b, eq-eqb a b)

pub both : {P Q : Type 0} (a b : Bool) → Decides a P → Decides b Q → Decides (a && b) (P × Q)
both true b p q = (λ e. (p.0 refl, q.0 e), λ h. q.1 h.1)
both false b p q = (λ e. absurd (true≢false (sym e)), λ h. absurd (true≢false (sym (p.1 h.0))))

pub through : {P Q : Type 0} (a : Bool) → Decides a P → (P → Q) → (Q → P) → Decides a Q
through a p f g = (λ e. f (p.0 e), λ q. p.1 (g q))

scopes_decide : (s t : Scope) → Decides (scopes.ghosts.eq s t) (s ≡ t)
scopes_decide Local Local = alike refl
scopes_decide Local Remote = apart (λ e. cc)
scopes_decide Local Global = apart (λ e. cc)
scopes_decide Remote Local = apart (λ e. cc)
scopes_decide Remote Remote = alike refl
scopes_decide Remote Global = apart (λ e. cc)
scopes_decide Global Local = apart (λ e. cc)
scopes_decide Global Remote = apart (λ e. cc)
scopes_decide Global Global = alike refl

owners_decide : (o p : Proc) → Decides (procs.ghosts.eq o p) (o ≡ p)
owners_decide o p = through _ (number o.number p.number) (λ h i. record { number = h i }) (λ e. ap (λ (x : Proc). x.number) e)

pub calls_decide : (a b : Call) → Decides (same_call a b) (a ≡ b)
calls_decide (Put s k v) (Put t l w) =
    through _ (both _ _ (scopes_decide s t) (both _ _ (number k l) (number v w))) (λ h i. Put (h.0 i) (h.1.0 i) (h.1.1 i)) (λ e. (cc, (cc, cc)))
calls_decide (Put _ _ _) Commit = apart (λ e. cc)
calls_decide (Put _ _ _) (Fence _ _) = apart (λ e. cc)
calls_decide (Put _ _ _) (Get _ _) = apart (λ e. cc)
calls_decide (Put _ _ _) (GetNow _ _) = apart (λ e. cc)
calls_decide (Put _ _ _) (Publish _ _) = apart (λ e. cc)
calls_decide (Put _ _ _) (Lookup _) = apart (λ e. cc)
calls_decide (Put _ _ _) (LookupWait _) = apart (λ e. cc)
calls_decide (Put _ _ _) (Unpublish _) = apart (λ e. cc)
calls_decide (Put _ _ _) UnpublishAll = apart (λ e. cc)
calls_decide Commit (Put _ _ _) = apart (λ e. cc)
calls_decide Commit Commit = alike refl
calls_decide Commit (Fence _ _) = apart (λ e. cc)
calls_decide Commit (Get _ _) = apart (λ e. cc)
calls_decide Commit (GetNow _ _) = apart (λ e. cc)
calls_decide Commit (Publish _ _) = apart (λ e. cc)
calls_decide Commit (Lookup _) = apart (λ e. cc)
calls_decide Commit (LookupWait _) = apart (λ e. cc)
calls_decide Commit (Unpublish _) = apart (λ e. cc)
calls_decide Commit UnpublishAll = apart (λ e. cc)
calls_decide (Fence _ _) (Put _ _ _) = apart (λ e. cc)
calls_decide (Fence _ _) Commit = apart (λ e. cc)
calls_decide (Fence s c) (Fence t d) = through _ (both _ _ (number s t) (booleans_Decides c d)) (λ h i. Fence (h.0 i) (h.1 i)) (λ e. (cc, cc))
calls_decide (Fence _ _) (Get _ _) = apart (λ e. cc)
calls_decide (Fence _ _) (GetNow _ _) = apart (λ e. cc)
calls_decide (Fence _ _) (Publish _ _) = apart (λ e. cc)
calls_decide (Fence _ _) (Lookup _) = apart (λ e. cc)
calls_decide (Fence _ _) (LookupWait _) = apart (λ e. cc)
calls_decide (Fence _ _) (Unpublish _) = apart (λ e. cc)
calls_decide (Fence _ _) UnpublishAll = apart (λ e. cc)
calls_decide (Get _ _) (Put _ _ _) = apart (λ e. cc)
calls_decide (Get _ _) Commit = apart (λ e. cc)
calls_decide (Get _ _) (Fence _ _) = apart (λ e. cc)
calls_decide (Get o k) (Get p l) = through _ (both _ _ (owners_decide o p) (number k l)) (λ h i. Get (h.0 i) (h.1 i)) (λ e. (cc, cc))
calls_decide (Get _ _) (GetNow _ _) = apart (λ e. cc)
calls_decide (Get _ _) (Publish _ _) = apart (λ e. cc)
calls_decide (Get _ _) (Lookup _) = apart (λ e. cc)
calls_decide (Get _ _) (LookupWait _) = apart (λ e. cc)
calls_decide (Get _ _) (Unpublish _) = apart (λ e. cc)
calls_decide (Get _ _) UnpublishAll = apart (λ e. cc)
calls_decide (GetNow _ _) (Put _ _ _) = apart (λ e. cc)
calls_decide (GetNow _ _) Commit = apart (λ e. cc)
calls_decide (GetNow _ _) (Fence _ _) = apart (λ e. cc)
calls_decide (GetNow _ _) (Get _ _) = apart (λ e. cc)
calls_decide (GetNow o k) (GetNow p l) = through _ (both _ _ (owners_decide o p) (number k l)) (λ h i. GetNow (h.0 i) (h.1 i)) (λ e. (cc, cc))
calls_decide (GetNow _ _) (Publish _ _) = apart (λ e. cc)
calls_decide (GetNow _ _) (Lookup _) = apart (λ e. cc)
calls_decide (GetNow _ _) (LookupWait _) = apart (λ e. cc)
calls_decide (GetNow _ _) (Unpublish _) = apart (λ e. cc)
calls_decide (GetNow _ _) UnpublishAll = apart (λ e. cc)
calls_decide (Publish _ _) (Put _ _ _) = apart (λ e. cc)
calls_decide (Publish _ _) Commit = apart (λ e. cc)
calls_decide (Publish _ _) (Fence _ _) = apart (λ e. cc)
calls_decide (Publish _ _) (Get _ _) = apart (λ e. cc)
calls_decide (Publish _ _) (GetNow _ _) = apart (λ e. cc)
calls_decide (Publish n v) (Publish m w) = through _ (both _ _ (number n m) (number v w)) (λ h i. Publish (h.0 i) (h.1 i)) (λ e. (cc, cc))
calls_decide (Publish _ _) (Lookup _) = apart (λ e. cc)
calls_decide (Publish _ _) (LookupWait _) = apart (λ e. cc)
calls_decide (Publish _ _) (Unpublish _) = apart (λ e. cc)
calls_decide (Publish _ _) UnpublishAll = apart (λ e. cc)
calls_decide (Lookup _) (Put _ _ _) = apart (λ e. cc)
calls_decide (Lookup _) Commit = apart (λ e. cc)
calls_decide (Lookup _) (Fence _ _) = apart (λ e. cc)
calls_decide (Lookup _) (Get _ _) = apart (λ e. cc)
calls_decide (Lookup _) (GetNow _ _) = apart (λ e. cc)
calls_decide (Lookup _) (Publish _ _) = apart (λ e. cc)
calls_decide (Lookup n) (Lookup m) = through _ (number n m) (λ h i. Lookup (h i)) (λ e. cc)
calls_decide (Lookup _) (LookupWait _) = apart (λ e. cc)
calls_decide (Lookup _) (Unpublish _) = apart (λ e. cc)
calls_decide (Lookup _) UnpublishAll = apart (λ e. cc)
calls_decide (LookupWait _) (Put _ _ _) = apart (λ e. cc)
calls_decide (LookupWait _) Commit = apart (λ e. cc)
calls_decide (LookupWait _) (Fence _ _) = apart (λ e. cc)
calls_decide (LookupWait _) (Get _ _) = apart (λ e. cc)
calls_decide (LookupWait _) (GetNow _ _) = apart (λ e. cc)
calls_decide (LookupWait _) (Publish _ _) = apart (λ e. cc)
calls_decide (LookupWait _) (Lookup _) = apart (λ e. cc)
calls_decide (LookupWait n) (LookupWait m) = through _ (number n m) (λ h i. LookupWait (h i)) (λ e. cc)
calls_decide (LookupWait _) (Unpublish _) = apart (λ e. cc)
calls_decide (LookupWait _) UnpublishAll = apart (λ e. cc)
calls_decide (Unpublish _) (Put _ _ _) = apart (λ e. cc)
calls_decide (Unpublish _) Commit = apart (λ e. cc)
calls_decide (Unpublish _) (Fence _ _) = apart (λ e. cc)
calls_decide (Unpublish _) (Get _ _) = apart (λ e. cc)
calls_decide (Unpublish _) (GetNow _ _) = apart (λ e. cc)
calls_decide (Unpublish _) (Publish _ _) = apart (λ e. cc)
calls_decide (Unpublish _) (Lookup _) = apart (λ e. cc)
calls_decide (Unpublish _) (LookupWait _) = apart (λ e. cc)
calls_decide (Unpublish n) (Unpublish m) = through _ (number n m) (λ h i. Unpublish (h i)) (λ e. cc)
calls_decide (Unpublish _) UnpublishAll = apart (λ e. cc)
calls_decide UnpublishAll (Put _ _ _) = apart (λ e. cc)
calls_decide UnpublishAll Commit = apart (λ e. cc)
calls_decide UnpublishAll (Fence _ _) = apart (λ e. cc)
calls_decide UnpublishAll (Get _ _) = apart (λ e. cc)
calls_decide UnpublishAll (GetNow _ _) = apart (λ e. cc)
calls_decide UnpublishAll (Publish _ _) = apart (λ e. cc)
calls_decide UnpublishAll (Lookup _) = apart (λ e. cc)
calls_decide UnpublishAll (LookupWait _) = apart (λ e. cc)
calls_decide UnpublishAll (Unpublish _) = apart (λ e. cc)
calls_decide UnpublishAll UnpublishAll = alike refl
