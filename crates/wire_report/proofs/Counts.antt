-- Numbers behind their words.
use Rattle.std.proofs.Common.{◌≡◌, ◌∙◌, ap, ℕ, List, ◌++◌, append_assoc, decimal, Result, Ok, Err, OnOk}
use Rattle.std.specs.declared.alloc.AllocError.{AllocError}

-- two of them, one after the other
pub both_counts : (r : Result (Unit {0}) AllocError) (start one new u v words others : List ℕ) (m n : ℕ) → one ≡ start ++ (u ++ decimal m) → OnOk r (new ≡ one ++ (v ++ decimal n)) →
    u ≡ words → v ≡ others → OnOk r (new ≡ start ++ ((words ++ decimal m) ++ (others ++ decimal n)))
both_counts (Ok x) start one new u v words others m n first told same_u same_v =
    told ∙ ap (λ t. t ++ (v ++ decimal n)) first ∙ append_assoc start (u ++ decimal m) (v ++ decimal n) ∙ (λ i. start ++ ((same_u i ++ decimal m) ++ (same_v i ++ decimal n)))
both_counts (Err e) start one new u v words others m n first told same_u same_v = tt
