-- Lists that are made element by element, and that nothing is left of calls without ends, of processes without rows and of races without what shows them.
use Rattle.std.proofs.Common.{◌≡◌, ◌∙◌, ap, sym, refl, ℕ, ◌+◌, ◌<◌, List, [], ◌∷◌, ◌++◌, append-nil, append_assoc, length, map, drop, get_or, ◌⊎◌, inl, inr, Option}
use Rattle.std.proofs.lemmas.List.{map_push, at_drop_more}
use Rattle.serde_json.specs.Data.{Data}
use Rattle.wire_types.specs.declared.Call.{Call}
use Rattle.wire_types.specs.declared.CallEnd.{CallEnd}
use Rattle.wire_scripts.specs.Scripts.{Scripts, Process}
use Rattle.wire_types.specs.declared.CallAt.{CallAt}
use Rattle.wire_json.specs.Trees.{calls_data, ranks_data}
use Rattle.wire_json.specs.WitnessTrees.{tried_data}

-- where nothing is left, all is made
pub all_made : {Y : Type 0} (out left all : List Y) → left ≡ [] → out ++ left ≡ all → out ≡ all
all_made out left all none before = sym (append-nil out) ∙ ap (λ t. out ++ t) (sym none) ∙ before

calls_after : (s : Scripts) (calls : List Call) → calls_data s calls [] ≡ []
calls_after s [] = refl
calls_after s (call ∷ calls) = refl

ranks_after : (s : Scripts) (processes : List Process) → ranks_data s processes [] ≡ []
ranks_after s [] = refl
ranks_after s (process ∷ processes) = refl

pub no_call : (s : Scripts) (calls : List Call) (ends : List CallEnd) (out all : List Data) → (calls ≡ []) ⊎ (ends ≡ []) → out ++ calls_data s calls ends ≡ all → out ≡ all
no_call s calls ends out all none =
    all_made out (calls_data s calls ends) all
    (elim none [ inl e ↦ ap (λ t. calls_data s t ends) e | inr e ↦ ap (λ t. calls_data s calls t) e ∙ calls_after s calls ])

pub no_rank : {R : Type 0} (s : Scripts) (processes : List Process) (f : R → List CallEnd) (rows : List R) (out all : List Data) → (processes ≡ []) ⊎ (rows ≡ []) → out
    ++ ranks_data s processes (map f rows) ≡ all → out ≡ all
no_rank s processes f rows out all none =
    all_made out (ranks_data s processes (map f rows)) all
    (elim none [ inl e ↦ ap (λ t. ranks_data s t (map f rows)) e | inr e ↦ ap (λ t. ranks_data s processes (map f t)) e ∙ ranks_after s processes ])

tried_after : (s : Scripts) (findings : List (List ℕ)) → tried_data s findings [] ≡ []
tried_after s [] = refl
tried_after s (words ∷ findings) = refl

pub no_tried : {R : Type 0} (s : Scripts) (f : R → List ℕ) (findings : List R) (shown : List (Option CallAt)) (out all : List Data) → (findings ≡ []) ⊎ (shown ≡ []) → out
    ++ tried_data s (map f findings) shown ≡ all → out ≡ all
no_tried s f findings shown out all none =
    all_made out (tried_data s (map f findings) shown) all
    (elim none [ inl e ↦ ap (λ t. tried_data s (map f t) shown) e | inr e ↦ ap (λ t. tried_data s (map f findings) t) e ∙ tried_after s (map f findings) ])

-- what is made for one element more
pub next_made : {X V Y : Type 0} (shown : V → Y) (f : X → Y) (xs : List X) (i : ℕ) (d : X) (old new : List V) (made : V) (all : List Y) → i < length xs → map shown old ++ map f (drop i xs) ≡ all →
    shown made ≡ f (get_or xs i d) → new ≡ old ++ made ∷ [] → map shown new ++ map f (drop (i + 1) xs) ≡ all
next_made shown f xs i d old new made all there before is pushed =
    ap (λ vs. map shown vs ++ map f (drop (i + 1) xs)) pushed ∙ ap (λ ys. ys ++ map f (drop (i + 1) xs)) (map_push shown old made)
    ∙ append_assoc (map shown old) (shown made ∷ []) (map f (drop (i + 1) xs))
    ∙ ap (λ y. map shown old ++ y ∷ map f (drop (i + 1) xs)) is
    ∙ sym (at_drop_more (λ rest. map shown old ++ map f rest) xs i d there)
    ∙ before
