-- Items with a comma between each two: the first, and then each behind a comma.
use Rattle.std.proofs.Common.{◌≡◌, ◌∙◌, refl, ap, sym, ℕ, List, [], ◌∷◌, ◌++◌, append_assoc, Result, Ok, Err, OnOk}
use Rattle.std.specs.Prelude.{flat_map}
use Rattle.std.specs.declared.alloc.AllocError.{AllocError}
use Rattle.std.proofs.lemmas.List.{append-nil}
use Rattle.wire_json.specs.Json.{joined}

behind_commas : (x : List ℕ) (xs : List (List ℕ)) → joined (x ∷ xs) ≡ x ++ flat_map (λ item. 44 ∷ item) xs
behind_commas x [] = sym (append-nil x)
behind_commas x (y ∷ ys) = ap (λ t. x ++ 44 ∷ t) (behind_commas y ys)

pub all_items : (r : Result (Unit {0}) AllocError) (old mid new first shown : List ℕ) (others items : List (List ℕ)) → shown ≡ first → mid ≡ old ++ shown →
    OnOk r (new ≡ mid ++ flat_map (λ item. 44 ∷ item) others) → items ≡ first ∷ others → OnOk r (new ≡ old ++ joined items)
all_items (Ok u) old mid new first shown others items is one all are =
    all ∙ (λ i. (one ∙ ap (λ t. old ++ t) is) i ++ flat_map (λ item. 44 ∷ item) others) ∙ append_assoc old first _ ∙ ap (λ t. old ++ t) (sym (behind_commas first others) ∙ ap joined (sym are))
all_items (Err e) old mid new first shown others items is one all are = tt
