-- Sets of a plan by their numbers, and the members of one that pass a test.
use Rattle.std.proofs.Common.{◌≡◌, ◌∙◌, ap, sym, refl, ℕ, ◌+◌, ◌<◌, ◌≤◌, ◌==◌, Bool, List, [], ◌∷◌, ◌++◌, length, take, inl, inr, arith}
use Rattle.std.specs.Prelude.{filter, slice_index_or}
use Rattle.std.specs.Str.{bytes_eq}
use Rattle.std.specs.Cmp.Lexicographic.{bytes_decides}
use Rattle.std.proofs.lemmas.Bool.{cases_eq, eq-eqb, ne_eqb, false_from_ne_true}
use Rattle.std.proofs.lemmas.List.{get_or-map, get_or_past, length-map}
use Rattle.std.proofs.lemmas.List.Elements.{filter_more}
use Rattle.wire_types.specs.declared.Proc.{Proc}
use Rattle.wire_runs.specs.Plan.{set_of}
use Rattle.wire_scripts.specs.Scripts.{Scripts, IsSound, numbers_of, set_at}
use Rattle.wire_fence.proofs.Events.{set_canonical, same_set}

-- two numbers of sets are those of one set where they are the same
pub numbers_tell : (s : Scripts) (m n : ℕ) → IsSound s → m < length s.sets → n < length s.sets → (m == n) ≡ bytes_eq (set_of (set_at s.sets m)) (set_of (set_at s.sets n))
numbers_tell s m n sound low_m low_n = elim (cases_eq m n) [
  | inl same ↦ eq-eqb m n same ∙ sym ((bytes_decides (set_of (set_at s.sets m)) (set_of (set_at s.sets n))).1 (ap (λ k. set_of (set_at s.sets k)) same))
  | inr other ↦
      ne_eqb m n other
      ∙ sym (false_from_ne_true (bytes_eq (set_of (set_at s.sets m)) (set_of (set_at s.sets n)))
      (λ t. other (same_set s m n sound low_m low_n (sym (set_canonical s m sound low_m)
      ∙ (bytes_decides (set_of (set_at s.sets m)) (set_of (set_at s.sets n))).0 t ∙ set_canonical s n sound low_n))))
]

-- a number past the end has no set
pub no_set : (s : Scripts) (m n : ℕ) → IsSound s → length s.sets ≤ m → n < length s.sets → (length (set_at s.sets n) == 0) ≡ bytes_eq (set_of (set_at s.sets m)) (set_of (set_at s.sets n))
no_set s m n sound past low =
    empty_is (set_at s.sets n)
    ∙ ap (bytes_eq []) (sym (set_canonical s n sound low))
    ∙ ap (λ xs. bytes_eq (set_of xs) (set_of (set_at s.sets n))) (sym (get_or_past s.sets m [] past))
  where
    empty_is : (xs : List ℕ) → (length xs == 0) ≡ bytes_eq [] xs
    empty_is [] = refl
    empty_is (x ∷ xs) = ne_eqb (length (x ∷ xs)) 0 (λ e. absurd (omega (arith, e)))

pub none_there : (sets : List (List ℕ)) (m : ℕ) → length sets ≤ m → set_of (set_at sets m) ≡ []
none_there sets m past = ap set_of (get_or_past sets m [] past)

-- numbers of members
numbered : (members : List Proc) (i : ℕ) → i < length members → i < length (numbers_of members)
numbered members i within = let same = length-map members (λ (p : Proc). p.number) in omega (arith, same, within)

-- one member more is looked at
pub missing_more : (f : ℕ → Bool) (members missing new : List Proc) (i : ℕ) (d : Proc) → i < length members → numbers_of missing ≡ filter f (take i (numbers_of members)) →
    numbers_of new ≡ numbers_of missing ++ filter f ((slice_index_or members i d).number ∷ []) → numbers_of new ≡ filter f (take (i + 1) (numbers_of members))
missing_more f members missing new i d within before more =
    more
    ∙ ap (λ xs. xs ++ filter f ((slice_index_or members i d).number ∷ [])) before
    ∙ ap (λ n. filter f (take i (numbers_of members)) ++ filter f (n ∷ [])) (sym (get_or-map (λ (p : Proc). p.number) members i d d.number within))
    ∙ sym (filter_more f (numbers_of members) i d.number (numbered members i within))

-- none is missing where the number has no set, and the members of a set are those in the table
pub none_missing : (f : ℕ → Bool) (sets : List (List ℕ)) (m : ℕ) → length sets ≤ m → [] ≡ filter f (set_of (set_at sets m))
none_missing f sets m past = sym (ap (filter f) (none_there sets m past))

pub members_are : (f : ℕ → Bool) (s : Scripts) (m : ℕ) (members : List ℕ) → IsSound s → m < length s.sets → members ≡ set_at s.sets m → filter f members ≡ filter f (set_of (set_at s.sets m))
members_are f s m members sound low is = ap (filter f) (is ∙ sym (set_canonical s m sound low))
