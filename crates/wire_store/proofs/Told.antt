-- What a store tells of puts.
use Rattle.std.proofs.Common.{◌≡◌, ◌∙◌, ℕ, zero, suc, ◌≤◌, Bool, true, false, List, [], ◌∷◌, ◌++◌, map, reverse, find, cond, ◌&&◌, ◌==◌, is_some, Option, Some, None, option_map, inl, inr, refl, sym}
use Rattle.std.proofs.Common.{ap, subst, arith}
use Rattle.std.specs.Prelude.{⊤}
use Rattle.std.proofs.lemmas.Bool.{cases_Bool, cases_eq, ltb-true, lt-ltb, le-ltb}
use Rattle.std.proofs.lemmas.List.{reverse-append}
use Rattle.std.proofs.Math.Bool.{and-true}
use Rattle.wire_runs.specs.Plan.{Kind, Put, Commit, admits}
use Rattle.wire_runs.specs.Puts.{own_with, own_put, stored_with, stored_put, scope_in}
use Rattle.wire_types.specs.declared.Scope.{Scope}
use Rattle.wire_types.specs.declared.CallAt.{CallAt}
use Rattle.wire_runs.proofs.Lists.{reverse-map}
use Rattle.wire_store.specs.declared.seen.Seen.{Seen}
use Rattle.wire_store.specs.declared.seen.Seen.TheVariants.{Value, Outside, Nothing}
use Rattle.wire_store.specs.Kept.{Kept, KeptPut, first_commit, store_by, last_put, last_stored, is_stored_before, last_stored_before, seen, kept_with, kept_after}
use Rattle.wire_store.specs.Told.{IsToldOf, seen_put, StoreTells}

-- a put that came last is the last of its key
pub last_put-push : (key : ℕ) (puts : List KeptPut) (put : KeptPut) → last_put key (puts ++ put ∷ []) ≡ cond (put.key == key) (Some put) (last_put key puts)
last_put-push key puts put = ap (find (λ p. p.key == key)) (reverse-append puts (put ∷ []))

pub last_stored-push : (key : ℕ) (puts : List KeptPut) (put : KeptPut) → put.stored_by ≡ None → last_stored key (puts ++ put ∷ []) ≡ last_stored key puts
last_stored-push key puts put none =
    ap (find (λ p. p.key == key && is_some p.stored_by)) (reverse-append puts (put ∷ []))
    ∙ elim (cases_Bool (put.key == key)) [
      | inl t ↦ rw (t, none) refl
      | inr f ↦ rw f refl
    ]

find_map_same : {A : Type 0} (test before : A → Bool) (f : A → A) → ((x : A) → test (f x) ≡ before x) → (xs : List A) → find test (map f xs) ≡ option_map f (find before xs)
find_map_same test before f same [] = refl
find_map_same test before f same (x ∷ xs) = elim (cases_Bool (before x)) [
  | inl t ↦ rw (same x, t) refl
  | inr n ↦ rw (same x, n) (find_map_same test before f same xs)
]

-- a commit stores the last put of each key
pub last_put-store : (key at : ℕ) (puts : List KeptPut) → last_put key (map (store_by at) puts) ≡ option_map (store_by at) (last_put key puts)
last_put-store key at puts =
    ap (find (λ p. p.key == key)) (reverse-map (store_by at) puts)
    ∙ find_map_same (λ p. p.key == key) (λ p. p.key == key) (store_by at) (λ _. refl) (reverse puts)

stored_then : (o : Option ℕ) (at : ℕ) → is_some (first_commit o at) ≡ true
stored_then None at = refl
stored_then (Some earlier) at = refl

pub last_stored-store : (key at : ℕ) (puts : List KeptPut) → last_stored key (map (store_by at) puts) ≡ option_map (store_by at) (last_put key puts)
last_stored-store key at puts =
    ap (find (λ p. p.key == key && is_some p.stored_by)) (reverse-map (store_by at) puts)
    ∙ find_map_same (λ p. p.key == key && is_some p.stored_by) (λ p. p.key == key) (store_by at)
    (λ p. ap (λ b. p.key == key && b) (stored_then p.stored_by at) ∙ and-true (p.key == key)) (reverse puts)

-- what an event adds to what was stored before an earlier one
pub last_before-push : (key event : ℕ) (puts : List KeptPut) (put : KeptPut) → put.stored_by ≡ None → last_stored_before key event (puts ++ put ∷ []) ≡ last_stored_before key event puts
last_before-push key event puts put none =
    ap (find (λ p. p.key == key && is_stored_before event p.stored_by)) (reverse-append puts (put ∷ []))
    ∙ elim (cases_Bool (put.key == key)) [
      | inl t ↦ rw (t, none) refl
      | inr f ↦ rw f refl
    ]

stored_later : (o : Option ℕ) (event at : ℕ) → event ≤ at → is_stored_before event (first_commit o at) ≡ is_stored_before event o
stored_later None event at le = le-ltb at event le
stored_later (Some earlier) event at le = refl

pub last_before-store : (key event at : ℕ) (puts : List KeptPut) → event ≤ at → last_stored_before key event (map (store_by at) puts) ≡ option_map (store_by at) (last_stored_before key event puts)
last_before-store key event at puts le =
    ap (find (λ p. p.key == key && is_stored_before event p.stored_by)) (reverse-map (store_by at) puts)
    ∙ find_map_same (λ p. p.key == key && is_stored_before event p.stored_by) (λ p. p.key == key && is_stored_before event p.stored_by) (store_by at)
    (λ p. ap (λ b. p.key == key && b) (stored_later p.stored_by event at le)) (reverse puts)

-- the puts that are stored were stored before the event
abbrev AreBefore : ℕ → List KeptPut → Type 0
AreBefore event [] = ⊤
AreBefore event (put ∷ puts) = (is_stored_before event put.stored_by ≡ is_some put.stored_by) × AreBefore event puts

AreBefore-append : (event : ℕ) (xs ys : List KeptPut) → AreBefore event xs → AreBefore event ys → AreBefore event (xs ++ ys)
AreBefore-append event [] ys left right = right
AreBefore-append event (x ∷ xs) ys left right = (left.0, AreBefore-append event xs ys left.1 right)

AreBefore-reverse : (event : ℕ) (xs : List KeptPut) → AreBefore event xs → AreBefore event (reverse xs)
AreBefore-reverse event [] all = tt
AreBefore-reverse event (x ∷ xs) all =
    subst (AreBefore event) (sym (reverse-append (x ∷ []) xs)) (AreBefore-append event (reverse xs) (x ∷ []) (AreBefore-reverse event xs all.1) (all.0, tt))

found_alike : (key event : ℕ) (xs : List KeptPut) → AreBefore event xs → find (λ p. p.key == key && is_stored_before event p.stored_by) xs ≡ find (λ p. p.key == key && is_some p.stored_by) xs
found_alike key event [] all = refl
found_alike key event (x ∷ xs) all =
    ap (λ b. cond (x.key == key && b) (Some x) (find (λ p. p.key == key && is_stored_before event p.stored_by) xs)) all.0
    ∙ ap (cond (x.key == key && is_some x.stored_by) (Some x)) (found_alike key event xs all.1)

later_too : (o : Option ℕ) (event : ℕ) → is_stored_before event o ≡ is_some o → is_stored_before (suc event) o ≡ is_some o
later_too None event before = refl
later_too (Some commit) event before = let low = ltb-true commit event before in lt-ltb commit (suc event) (omega (arith, low))

AreBefore-later : (event : ℕ) (xs : List KeptPut) → AreBefore event xs → AreBefore (suc event) xs
AreBefore-later event [] all = tt
AreBefore-later event (x ∷ xs) all = (later_too x.stored_by event all.0, AreBefore-later event xs all.1)

stored_now : (o : Option ℕ) (event : ℕ) → is_stored_before event o ≡ is_some o → is_stored_before (suc event) (first_commit o event) ≡ is_some (first_commit o event)
stored_now None event before = lt-ltb event (suc event) (omega arith)
stored_now (Some commit) event before = later_too (Some commit) event before

AreBefore-store : (event : ℕ) (xs : List KeptPut) → AreBefore event xs → AreBefore (suc event) (map (store_by event) xs)
AreBefore-store event [] all = tt
AreBefore-store event (x ∷ xs) all = (stored_now x.stored_by event all.0, AreBefore-store event xs all.1)

-- what a put shows
abbrev shown : KeptPut → CallAt × Scope
shown put = (put.call, put.scope)

shown-store : (at : ℕ) (o : Option KeptPut) → option_map shown (option_map (store_by at) o) ≡ option_map shown o
shown-store at None = refl
shown-store at (Some put) = refl

module _ (kind_of : ℕ → Option Kind) (call_of : ℕ → CallAt) where
  abbrev shown_at : ℕ → CallAt × Scope
  shown_at i = (call_of i, scope_in (kind_of i))

  own_step : (key n : ℕ) (puts : List KeptPut) (before : Option ℕ) (o : Option Kind) → kind_of n ≡ o → option_map shown (last_put key puts) ≡ option_map shown_at before →
      option_map shown (last_put key (kept_with n (call_of n) puts o)) ≡ option_map shown_at (own_with key n before o)
  own_step key n puts before (Some (Put k scope)) e same =
      let put : KeptPut = record { at = n; key = k; scope = scope; call = call_of n; stored_by = None } in
      ap (option_map shown) (last_put-push key puts put)
      ∙ elim (cases_Bool (k == key)) [
        | inl t ↦ rw t (ap (λ x. Some (call_of n, scope_in x)) (sym e))
        | inr f ↦ rw f same
      ]
  own_step key n puts before (Some Commit) e same = ap (option_map shown) (last_put-store key n puts) ∙ shown-store n (last_put key puts) ∙ same
  own_step key n puts before _ e same = same

  own_shown : (key n : ℕ) → option_map shown (last_put key (kept_after kind_of call_of n)) ≡ option_map shown_at (own_put kind_of key n)
  own_shown key zero = refl
  own_shown key (suc n) = own_step key n (kept_after kind_of call_of n) (own_put kind_of key n) (kind_of n) refl (own_shown key n)

  stored_step : (key n : ℕ) (puts : List KeptPut) (before committed : Option ℕ) (o : Option Kind) → option_map shown (last_put key puts) ≡ option_map shown_at committed →
      option_map shown (last_stored key puts) ≡ option_map shown_at before → option_map shown (last_stored key (kept_with n (call_of n) puts o)) ≡ option_map shown_at (stored_with committed before o)
  stored_step key n puts before committed (Some (Put k scope)) own same =
      let put : KeptPut = record { at = n; key = k; scope = scope; call = call_of n; stored_by = None } in
      ap (option_map shown) (last_stored-push key puts put refl) ∙ same
  stored_step key n puts before committed (Some Commit) own same = ap (option_map shown) (last_stored-store key n puts) ∙ shown-store n (last_put key puts) ∙ own
  stored_step key n puts before committed _ own same = same

  stored_shown : (key n : ℕ) → option_map shown (last_stored key (kept_after kind_of call_of n)) ≡ option_map shown_at (stored_put kind_of key n)
  stored_shown key zero = refl
  stored_shown key (suc n) =
      stored_step key n (kept_after kind_of call_of n) (stored_put kind_of key n) (own_put kind_of key n) (kind_of n) (own_shown key n) (stored_shown key n)

  kept_before : (n : ℕ) → AreBefore n (kept_after kind_of call_of n)
  kept_before zero = tt
  kept_before (suc n) = go (kind_of n) (kept_before n)
    where
      go : (o : Option Kind) → AreBefore n (kept_after kind_of call_of n) → AreBefore (suc n) (kept_with n (call_of n) (kept_after kind_of call_of n) o)
      go (Some (Put k scope)) all = AreBefore-append (suc n) (kept_after kind_of call_of n) _ (AreBefore-later n (kept_after kind_of call_of n) all) (refl, tt)
      go (Some Commit) all = AreBefore-store n (kept_after kind_of call_of n) all
      go _ all = AreBefore-later n (kept_after kind_of call_of n) all

  before_at : (key n : ℕ) → option_map shown (last_stored_before key n (kept_after kind_of call_of n)) ≡ option_map shown_at (stored_put kind_of key n)
  before_at key n =
      ap (option_map shown) (found_alike key n (reverse (kept_after kind_of call_of n)) (AreBefore-reverse n (kept_after kind_of call_of n) (kept_before n)))
      ∙ stored_shown key n

  before_step : (key a n : ℕ) (puts : List KeptPut) (o : Option Kind) → a ≤ n →
      option_map shown (last_stored_before key a (kept_with n (call_of n) puts o)) ≡ option_map shown (last_stored_before key a puts)
  before_step key a n puts (Some (Put k scope)) le =
      ap (option_map shown) (last_before-push key a puts (record { at = n; key = k; scope = scope; call = call_of n; stored_by = None }) refl)
  before_step key a n puts (Some Commit) le = ap (option_map shown) (last_before-store key a n puts le) ∙ shown-store n (last_stored_before key a puts)
  before_step key a n puts _ le = refl

  before_shown : (key a n : ℕ) → a ≤ n → option_map shown (last_stored_before key a (kept_after kind_of call_of n)) ≡ option_map shown_at (stored_put kind_of key a)
  before_shown key a zero le = let e : a ≡ 0 = omega arith in ap (λ m. option_map shown (last_stored_before key a (kept_after kind_of call_of m))) (sym e) ∙ before_at key a
  before_shown key a (suc n) le = elim (cases_eq a (suc n)) [
    | inl e ↦ ap (λ m. option_map shown (last_stored_before key a (kept_after kind_of call_of m))) (sym e) ∙ before_at key a
    | inr ne ↦
        before_step key a n (kept_after kind_of call_of n) (kind_of n) (omega (arith, ne, le))
        ∙ before_shown key a n (omega (arith, ne, le))
  ]

  abbrev seen_shown : Bool → Option (CallAt × Scope) → Seen
  seen_shown same None = Nothing
  seen_shown same (Some p) = cond (admits p.1 same) (Value p.0) Outside

  shown_call : (o : Option KeptPut) → option_map (λ put. put.call) o ≡ option_map (λ p. p.0) (option_map shown o)
  shown_call None = refl
  shown_call (Some put) = refl

  shown_at_call : (o : Option ℕ) → option_map (λ p. p.0) (option_map shown_at o) ≡ option_map call_of o
  shown_at_call None = refl
  shown_at_call (Some i) = refl

  seen_is_shown : (same : Bool) (o : Option KeptPut) → seen same o ≡ seen_shown same (option_map shown o)
  seen_is_shown same None = refl
  seen_is_shown same (Some put) = refl

  shown_is_seen : (same : Bool) (o : Option ℕ) → seen_shown same (option_map shown_at o) ≡ seen_put kind_of call_of same o
  shown_is_seen same None = refl
  shown_is_seen same (Some i) = refl

  -- the owner sees its last put of the key
  pub tells_own : (key n : ℕ) → option_map (λ put. put.call) (last_put key (kept_after kind_of call_of n)) ≡ option_map call_of (own_put kind_of key n)
  tells_own key n = shown_call (last_put key (kept_after kind_of call_of n)) ∙ ap (option_map (λ p. p.0)) (own_shown key n) ∙ shown_at_call (own_put kind_of key n)

  -- others see its last put of the key that a commit follows
  pub tells_seen : (key n : ℕ) (same : Bool) → seen same (last_stored key (kept_after kind_of call_of n)) ≡ seen_put kind_of call_of same (stored_put kind_of key n)
  tells_seen key n same =
      seen_is_shown same (last_stored key (kept_after kind_of call_of n))
      ∙ ap (seen_shown same) (stored_shown key n)
      ∙ shown_is_seen same (stored_put kind_of key n)

pub tells_before : (kind_of : ℕ → Option Kind) (call_of : ℕ → CallAt) (key n a : ℕ) → a ≤ n →
    seen false (last_stored_before key a (kept_after kind_of call_of n)) ≡ seen_put kind_of call_of false (stored_put kind_of key a)
tells_before kind_of call_of key n a le =
    seen_is_shown kind_of call_of false (last_stored_before key a (kept_after kind_of call_of n))
    ∙ ap (seen_shown kind_of call_of false) (before_shown kind_of call_of key a n le)
    ∙ shown_is_seen kind_of call_of false (stored_put kind_of key a)

pub store_tells : StoreTells
store_tells kind_of call_of key n = record {
  own = tells_own kind_of call_of key n;
  others = tells_seen kind_of call_of key n;
  before = tells_before kind_of call_of key n;
}

-- a store that is told of one more commit
pub told_commit : (kind_of : ℕ → Option Kind) (call_of : ℕ → CallAt) (at : ℕ) (old new : List KeptPut) → kind_of at ≡ Some Commit → old ≡ kept_after kind_of call_of at → new ≡ map (store_by at) old →
    new ≡ kept_after kind_of call_of (suc at)
told_commit kind_of call_of at old new kind told puts =
    puts
    ∙ ap (map (store_by at)) told
    ∙ ap (kept_with at (call_of at) (kept_after kind_of call_of at)) (sym kind)

-- what a store shows that is told of the first n events
pub own_told : (kind_of : ℕ → Option Kind) (call_of : ℕ → CallAt) (key n : ℕ) (store : Kept) → IsToldOf store kind_of call_of n →
    option_map (λ put. put.call) (last_put key store.puts) ≡ option_map call_of (own_put kind_of key n)
own_told kind_of call_of key n store told = ap (λ puts. option_map (λ put. put.call) (last_put key puts)) told ∙ tells_own kind_of call_of key n

pub seen_told : (kind_of : ℕ → Option Kind) (call_of : ℕ → CallAt) (key n : ℕ) (same : Bool) (store : Kept) → IsToldOf store kind_of call_of n →
    seen same (last_stored key store.puts) ≡ seen_put kind_of call_of same (stored_put kind_of key n)
seen_told kind_of call_of key n same store told = ap (λ puts. seen same (last_stored key puts)) told ∙ tells_seen kind_of call_of key n same

pub before_told : (kind_of : ℕ → Option Kind) (call_of : ℕ → CallAt) (key n event : ℕ) (store : Kept) → event ≤ n → IsToldOf store kind_of call_of n →
    seen false (last_stored_before key event store.puts) ≡ seen_put kind_of call_of false (stored_put kind_of key event)
before_told kind_of call_of key n event store le told = ap (λ puts. seen false (last_stored_before key event puts)) told ∙ tells_before kind_of call_of key n event le
