-- Parts of a list of events.
use Rattle.std.proofs.Common.{◌≡◌, ◌∙◌, ℕ, zero, suc, ◌+◌, ◌-◌, ◌<◌, ◌≤◌, List, [], ◌∷◌, Some, map, take, drop, refl, sym, ap, arith}
use Rattle.std.specs.Prelude.{slice_get}
use Rattle.std.proofs.lemmas.Option.{slice_get_within}
use Rattle.std.proofs.lemmas.List.{length-take, take-map, drop-map}
use Rattle.wire_types.specs.declared.Event.{Event as CodeEvent}
use Rattle.wire_runs.specs.Plan.{Event, event_of}

slice_get-drop : {X : Type 0} (a : ℕ) (xs : List X) (k : ℕ) → slice_get (drop a xs) k ≡ slice_get xs (a + k)
slice_get-drop zero xs k = let e : k ≡ 0 + k = omega arith in ap (slice_get xs) e
slice_get-drop (suc a) [] k = refl
slice_get-drop (suc a) (x ∷ xs) k = let e : suc (a + k) ≡ suc a + k = omega arith in slice_get-drop a xs k ∙ ap (slice_get (x ∷ xs)) e

slice_get-take : {X : Type 0} (n : ℕ) (xs : List X) (k : ℕ) → k < n → slice_get (take n xs) k ≡ slice_get xs k
slice_get-take zero xs k lt = absurd (omega (arith, lt))
slice_get-take (suc n) [] k lt = refl
slice_get-take (suc n) (x ∷ xs) zero lt = refl
slice_get-take (suc n) (x ∷ xs) (suc k) lt = slice_get-take n xs k (omega (arith, lt))

-- the events behind the first ones
pub behind_in : (xs : List CodeEvent) (a k : ℕ) (x : Event) → slice_get (map event_of (drop a xs)) k ≡ Some x → slice_get (map event_of xs) (a + k) ≡ Some x
behind_in xs a k x is = sym (slice_get-drop a (map event_of xs) k) ∙ ap (λ (l : List Event). slice_get l k) (drop-map event_of a xs) ∙ is

pub behind_at : (xs : List CodeEvent) (a k : ℕ) (x : Event) → a ≤ k → slice_get (map event_of xs) k ≡ Some x → slice_get (map event_of (drop a xs)) (k - a) ≡ Some x
behind_at xs a k x le is =
    let e : a + (k - a) ≡ k = omega (arith, le) in
    ap (λ (l : List Event). slice_get l (k - a)) (sym (drop-map event_of a xs)) ∙ slice_get-drop a (map event_of xs) (k - a) ∙ ap (slice_get (map event_of xs)) e ∙ is

-- those of them from one place to another
pub part_within : (xs : List CodeEvent) (a n k : ℕ) (x : Event) → slice_get (map event_of (take n (drop a xs))) k ≡ Some x → k < n
part_within xs a n k x is =
    let within = slice_get_within (take n (map event_of (drop a xs))) k x (ap (λ (l : List Event). slice_get l k) (take-map event_of n (drop a xs)) ∙ is) in
    let size = length-take n (map event_of (drop a xs)) in
    omega (arith, within, size)

pub part_in : (xs : List CodeEvent) (a n k : ℕ) (x : Event) → slice_get (map event_of (take n (drop a xs))) k ≡ Some x → slice_get (map event_of xs) (a + k) ≡ Some x
part_in xs a n k x is =
    behind_in xs a k x (sym (slice_get-take n (map event_of (drop a xs)) k (part_within xs a n k x is)) ∙ ap (λ (l : List Event). slice_get l k) (take-map event_of n (drop a xs)) ∙ is)

pub part_at : (xs : List CodeEvent) (a n k : ℕ) (x : Event) → a ≤ k → k < a + n → slice_get (map event_of xs) k ≡ Some x → slice_get (map event_of (take n (drop a xs))) (k - a) ≡ Some x
part_at xs a n k x le lt is =
    ap (λ (l : List Event). slice_get l (k - a)) (sym (take-map event_of n (drop a xs))) ∙ slice_get-take n (map event_of (drop a xs)) (k - a) (omega (arith, le, lt)) ∙ behind_at xs a k x le is
