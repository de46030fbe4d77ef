-- A part of a plan is embedded in it.
use Rattle.std.proofs.Common.{◌≡◌, ◌≢◌, ℕ, zero, suc, ◌<◌, ◌≤◌, List, [], ◌∷◌, length, Bool, false, ◌==◌, ◌&&◌, ◌||◌, Option, Some, None, ◌⊎◌, inl, inr, refl, sym, ap, ◌∙◌, subst, arith, ne_eqb}
use Rattle.std.specs.Prelude.{option_map, slice_get, if◌then◌else◌, bytes_eq as same_members}
use Rattle.std.proofs.lemmas.Bool.{cond-true, cond-false, cases_Bool, true≢false, false_from_ne_true}
use Rattle.std.proofs.lemmas.Option.{none-some, same_Some}
use Rattle.std.proofs.lemmas.Slice.Eq.{bytes_eq-Decides}
use Rattle.wire_runs.specs.Plan.{Plan, Event, Kind, Put, Commit, Arrive, Publish, kind, kind_at, event_count}
use Rattle.wire_runs.specs.Puts.{own_with, own_put, stored_with, stored_put, put_count_with, own, stored, put_count}
use Rattle.wire_runs.specs.Fences.{arrivals_with, arrivals, collects_with, collects}
use Rattle.wire_runs.specs.Names.{is_publish, publishes}
use Rattle.wire_runs.specs.Embeddings.{Renaming, image, image_kind, key_of, name_of, members_of, IsKeyOf, IsNameOf, IsSetOf}
use Rattle.wire_runs.specs.Parts.{Piece, Kept, Left, kept_kinds, all_kinds, place_in, waits_after, MayLeave, Fits, IsPartEach, PartsEmbed}
use Rattle.wire_runs.proofs.Basics.{rises}
use Rattle.wire_runs.proofs.Images.{same_test}

-- pieces
place_rises : (pieces : List Piece) (n : ℕ) → place_in pieces n < place_in pieces (suc n)
place_rises [] n = omega arith
place_rises (Left k ∷ pieces) n = omega (arith, place_rises pieces n)
place_rises (Kept k ∷ pieces) zero = omega arith
place_rises (Kept k ∷ pieces) (suc n) = omega (arith, place_rises pieces n)

place_ends : (to : Renaming) (pieces : List Piece) → place_in pieces (length (kept_kinds pieces)) ≡ length (all_kinds to pieces)
place_ends to [] = refl
place_ends to (Left k ∷ pieces) = ap suc (place_ends to pieces)
place_ends to (Kept k ∷ pieces) = ap suc (place_ends to pieces)

kept_stands : (to : Renaming) (pieces : List Piece) (n : ℕ) (k : Kind) → slice_get (kept_kinds pieces) n ≡ Some k → slice_get (all_kinds to pieces) (place_in pieces n) ≡ Some (image_kind to k)
kept_stands to [] n k is = absurd (none-some k is)
kept_stands to (Left l ∷ pieces) n k is = kept_stands to pieces n k is
kept_stands to (Kept l ∷ pieces) zero k is = ap (λ v. Some (image_kind to v)) (same_Some _ _ is)
kept_stands to (Kept l ∷ pieces) (suc n) k is = kept_stands to pieces n k is

-- how many of the first i are kept
abbrev pub kept_before : List Piece → ℕ → ℕ
kept_before [] i = i
kept_before (piece ∷ pieces) zero = zero
kept_before (Kept k ∷ pieces) (suc i) = suc (kept_before pieces i)
kept_before (Left k ∷ pieces) (suc i) = kept_before pieces i

none_before : (pieces : List Piece) → kept_before pieces zero ≡ zero
none_before [] = refl
none_before (piece ∷ pieces) = refl

before_place : (pieces : List Piece) (n : ℕ) → kept_before pieces (place_in pieces n) ≡ n
before_place [] n = refl
before_place (Left k ∷ pieces) n = before_place pieces n
before_place (Kept k ∷ pieces) zero = refl
before_place (Kept k ∷ pieces) (suc n) = ap suc (before_place pieces n)

-- whether a put waits after the first n
abbrev pub waits_with : Bool → Option Kind → Bool
waits_with waits None = waits
waits_with waits (Some k) = waits_after waits k

abbrev pub waits_at : (ℕ → Option Kind) → Bool → ℕ → Bool
waits_at kind_of waits zero = waits
waits_at kind_of waits (suc n) = waits_with (waits_at kind_of waits n) (kind_of n)

waits_shift : (kind_of : ℕ → Option Kind) (waits : Bool) (n : ℕ) → waits_at (λ i. kind_of (suc i)) (waits_with waits (kind_of 0)) n ≡ waits_at kind_of waits (suc n)
waits_shift kind_of waits zero = refl
waits_shift kind_of waits (suc n) = ap (λ w. waits_with w (kind_of (suc n))) (waits_shift kind_of waits n)

-- where none waits, what is put is stored
pub none_waits : (kind_of : ℕ → Option Kind) (key n : ℕ) → waits_at kind_of false n ≡ false → own_put kind_of key n ≡ stored_put kind_of key n
none_waits kind_of key zero w = refl
none_waits kind_of key (suc n) w = go (kind_of n) w (none_waits kind_of key n)
  where
    go : (o : Option Kind) → waits_with (waits_at kind_of false n) o ≡ false → (waits_at kind_of false n ≡ false → own_put kind_of key n ≡ stored_put kind_of key n) →
        own_with key n (own_put kind_of key n) o ≡ stored_with (own_put kind_of key n) (stored_put kind_of key n) o
    go (Some (Put k scope)) w ih = absurd (true≢false w)
    go (Some Commit) w ih = refl
    go None w ih = ih w
    go (Some _) w ih = ih w

-- the i-th piece: kept, or left out
record IsKeptAt (to : Renaming) (pieces : List Piece) (i : ℕ) : Type 0 where
  pub what : Kind
  pub small_is : slice_get (kept_kinds pieces) (kept_before pieces i) ≡ Some what
  pub large_is : slice_get (all_kinds to pieces) i ≡ Some (image_kind to what)
  pub stands : place_in pieces (kept_before pieces i) ≡ i
  pub next : kept_before pieces (suc i) ≡ suc (kept_before pieces i)

record IsLeftAt (to : Renaming) (small : Plan) (waits : Bool) (pieces : List Piece) (i : ℕ) : Type 0 where
  pub what : Kind
  pub large_is : slice_get (all_kinds to pieces) i ≡ Some what
  pub may_leave : MayLeave to small (waits_at (slice_get (kept_kinds pieces)) waits (kept_before pieces i)) what
  pub next : kept_before pieces (suc i) ≡ kept_before pieces i

piece_at : (to : Renaming) (small : Plan) (waits : Bool) (pieces : List Piece) → Fits to small waits pieces → (i : ℕ) → i < length (all_kinds to pieces) →
    IsKeptAt to pieces i ⊎ IsLeftAt to small waits pieces i
piece_at to small waits [] f i lt = absurd (omega (arith, lt))
piece_at to small waits (Kept k ∷ pieces) f zero lt = inl (record { what = k; small_is = refl; large_is = refl; stands = refl; next = ap suc (none_before pieces) })
piece_at to small waits (Kept k ∷ pieces) f (suc i) lt = elim (piece_at to small (waits_after waits k) pieces f i (omega (arith, lt))) [
  | inl a ↦ inl (record { what = a.what; small_is = a.small_is; large_is = a.large_is; stands = ap suc a.stands; next = ap suc a.next })
  | inr a ↦ inr (record {
    what = a.what;
    large_is = a.large_is;
    may_leave = subst (λ w. MayLeave to small w a.what) (waits_shift (slice_get (k ∷ kept_kinds pieces)) waits (kept_before pieces i)) a.may_leave;
    next = ap suc a.next;
  })
]
piece_at to small waits (Left l ∷ pieces) f zero lt = inr (record { what = l; large_is = refl; may_leave = f.0; next = none_before pieces })
piece_at to small waits (Left l ∷ pieces) f (suc i) lt = elim (piece_at to small waits pieces f.1 i (omega (arith, lt))) [
  | inl a ↦ inl (record { what = a.what; small_is = a.small_is; large_is = a.large_is; stands = ap suc a.stands; next = a.next })
  | inr a ↦ inr (record { what = a.what; large_is = a.large_is; may_leave = a.may_leave; next = a.next })
]

-- the same of the events of two processes
pub record KeepsHere (to : Renaming) (small large : Plan) (p : ℕ) (before : ℕ → ℕ) (i : ℕ) : Type 0 where
  pub what : Kind
  pub small_is : kind_at small p (before i) ≡ Some what
  pub large_is : kind_at large (to.process p) i ≡ Some (image_kind to what)
  pub stands : to.place p (before i) ≡ i
  pub next : before (suc i) ≡ suc (before i)

pub record LeavesHere (to : Renaming) (small large : Plan) (p : ℕ) (before : ℕ → ℕ) (i : ℕ) : Type 0 where
  pub what : Kind
  pub large_is : kind_at large (to.process p) i ≡ Some what
  pub may_leave : MayLeave to small (waits_at (kind_at small p) false (before i)) what
  pub next : before (suc i) ≡ before i

set_test : (f : List ℕ → List ℕ) (a b : List ℕ) → (f a ≡ f b → a ≡ b) → same_members (f a) (f b) ≡ same_members a b
set_test f a b one = elim (cases_Bool (same_members a b)) [
  | inl t ↦ (bytes_eq-Decides (f a) (f b)).1 (ap f ((bytes_eq-Decides a b).0 t)) ∙ sym t
  | inr n ↦ false_from_ne_true _ (λ t. true≢false (sym ((bytes_eq-Decides a b).1 (one ((bytes_eq-Decides (f a) (f b)).0 t))) ∙ n)) ∙ sym n
]

other_set : (a b : List ℕ) → (b ≢ a) → same_members a b ≡ false
other_set a b ne = false_from_ne_true _ (λ t. ne (sym ((bytes_eq-Decides a b).0 t)))

-- what a kept event does, and what one that is left out doesn't
put_kept : (to : Renaming) (key n : ℕ) (k : Kind) → ((other : ℕ) → key_of k ≡ Some other → (to.key other == to.key key) ≡ (other == key)) →
    put_count_with (to.key key) n (Some (image_kind to k)) ≡ put_count_with key n (Some k)
put_kept to key n (Put other scope) test = ap (λ b. if b then suc n else n) (test other refl)
put_kept to key n _ test = refl

put_left : (to : Renaming) (small : Plan) (waits : Bool) (key n : ℕ) (k : Kind) → IsKeyOf small key → MayLeave to small waits k → put_count_with (to.key key) n (Some k) ≡ n
put_left to small waits key n (Put other scope) u l = cond-false _ _ _ (ne_eqb other (to.key key) (λ e. l key u (sym e)))
put_left to small waits key n _ u l = refl

own_kept : (to : Renaming) (key m n : ℕ) (f : ℕ → ℕ) (own_before : Option ℕ) (k : Kind) → ((other : ℕ) → key_of k ≡ Some other → (to.key other == to.key key) ≡ (other == key)) → f m ≡ n →
    own_with (to.key key) n (option_map f own_before) (Some (image_kind to k)) ≡ option_map f (own_with key m own_before (Some k))
own_kept to key m n f own_before (Put other scope) test stands = elim (cases_Bool (other == key)) [
  | inl t ↦ cond-true _ _ _ (test other refl ∙ t) ∙ ap Some (sym stands) ∙ sym (ap (option_map f) (cond-true _ _ _ t))
  | inr t ↦ cond-false _ _ _ (test other refl ∙ t) ∙ sym (ap (option_map f) (cond-false _ _ _ t))
]
own_kept to key m n f own_before _ test stands = refl

own_left : (to : Renaming) (small : Plan) (waits : Bool) (key n : ℕ) (own_before : Option ℕ) (k : Kind) → IsKeyOf small key → MayLeave to small waits k →
    own_with (to.key key) n own_before (Some k) ≡ own_before
own_left to small waits key n own_before (Put other scope) u l = cond-false _ _ _ (ne_eqb other (to.key key) (λ e. l key u (sym e)))
own_left to small waits key n own_before _ u l = refl

stored_kept : (to : Renaming) (f : ℕ → ℕ) (o s : Option ℕ) (k : Kind) → stored_with (option_map f o) (option_map f s) (Some (image_kind to k)) ≡ option_map f (stored_with o s (Some k))
stored_kept to f o s Commit = refl
stored_kept to f o s _ = refl

stored_left : (to : Renaming) (small : Plan) (waits : Bool) (o s : Option ℕ) (k : Kind) → MayLeave to small waits k → (waits ≡ false → o ≡ s) → stored_with o s (Some k) ≡ s
stored_left to small waits o s Commit l same = same l
stored_left to small waits o s _ l same = refl

arrives_kept : (to : Renaming) (members : List ℕ) (n : ℕ) (k : Kind) →
    ((others : List ℕ) → members_of k ≡ Some others → same_members (to.members others) (to.members members) ≡ same_members others members) →
    arrivals_with (to.members members) n (Some (image_kind to k)) ≡ arrivals_with members n (Some k)
arrives_kept to members n (Arrive others collect) test = ap (λ b. if b then suc n else n) (test others refl)
arrives_kept to members n _ test = refl

arrives_left : (to : Renaming) (small : Plan) (waits : Bool) (members : List ℕ) (n : ℕ) (k : Kind) → IsSetOf small members → MayLeave to small waits k →
    arrivals_with (to.members members) n (Some k) ≡ n
arrives_left to small waits members n (Arrive others collect) u l = cond-false _ _ _ (other_set others (to.members members) (l members u))
arrives_left to small waits members n _ u l = refl

collects_kept : (to : Renaming) (members : List ℕ) (j n : ℕ) (b : Bool) (k : Kind) →
    ((others : List ℕ) → members_of k ≡ Some others → same_members (to.members others) (to.members members) ≡ same_members others members) →
    collects_with (to.members members) j n b (Some (image_kind to k)) ≡ collects_with members j n b (Some k)
collects_kept to members j n b (Arrive others collect) test = ap (λ c. if c && (suc n == j) then collect else b) (test others refl)
collects_kept to members j n b _ test = refl

collects_left : (to : Renaming) (small : Plan) (waits : Bool) (members : List ℕ) (j n : ℕ) (b : Bool) (k : Kind) → IsSetOf small members → MayLeave to small waits k →
    collects_with (to.members members) j n b (Some k) ≡ b
collects_left to small waits members j n b (Arrive others collect) u l = ap (λ c. if c && (suc n == j) then collect else b) (other_set others (to.members members) (l members u))
collects_left to small waits members j n b _ u l = refl

publish_kept : (to : Renaming) (name : ℕ) (k : Kind) → ((other : ℕ) → name_of k ≡ Some other → (to.name other == to.name name) ≡ (other == name)) →
    is_publish (to.name name) (Some (image_kind to k)) ≡ is_publish name (Some k)
publish_kept to name (Publish other) test = test other refl
publish_kept to name _ test = refl

publish_left : (to : Renaming) (small : Plan) (waits : Bool) (name : ℕ) (k : Kind) → IsNameOf small name → MayLeave to small waits k → is_publish (to.name name) (Some k) ≡ false
publish_left to small waits name (Publish other) u l = ne_eqb other (to.name name) (λ e. l name u (sym e))
publish_left to small waits name _ u l = refl

module _ (to : Renaming) (small large : Plan) (pieces : ℕ → List Piece) (part : IsPartEach to small large pieces) where
  small_at : (p i : ℕ) → kind_at small p i ≡ slice_get (kept_kinds (pieces p)) i
  unfolding kind_at
  small_at p i = ap (λ ks. slice_get ks i) (part.kept p)

  large_at : (p i : ℕ) → kind_at large (to.process p) i ≡ slice_get (all_kinds to (pieces p)) i
  unfolding kind_at
  large_at p i = ap (λ ks. slice_get ks i) (part.all p)

  pub small_count : (p : ℕ) → event_count small p ≡ length (kept_kinds (pieces p))
  unfolding event_count
  small_count p = ap length (part.kept p)

  pub large_count : (p : ℕ) → event_count large (to.process p) ≡ length (all_kinds to (pieces p))
  unfolding event_count
  large_count p = ap length (part.all p)

  pub ends : (p : ℕ) → to.place p (event_count small p) ≡ event_count large (to.process p)
  ends p = part.places p (event_count small p) ∙ ap (place_in (pieces p)) (small_count p) ∙ place_ends to (pieces p) ∙ sym (large_count p)

  pub rising : (p n : ℕ) → to.place p n < to.place p (suc n)
  rising p n = let a = part.places p n in let b = part.places p (suc n) in let r = place_rises (pieces p) n in omega (arith, a, b, r)

  pub kinds_agree : (x : Event) (k : Kind) → kind small x ≡ Some k → kind large (image to x) ≡ Some (image_kind to k)
  kinds_agree x k is =
      large_at x.proc (to.place x.proc x.at)
      ∙ ap (slice_get (all_kinds to (pieces x.proc))) (part.places x.proc x.at)
      ∙ kept_stands to (pieces x.proc) x.at k (sym (small_at x.proc x.at) ∙ is)

  -- one process
  module _ (p : ℕ) where
    abbrev pub before : ℕ → ℕ
    before i = kept_before (pieces p) i

    pub here : (i : ℕ) → i < event_count large (to.process p) → KeepsHere to small large p before i ⊎ LeavesHere to small large p before i
    here i lt = elim (piece_at to small false (pieces p) (part.fits p) i (let c = large_count p in omega (arith, lt, c))) [
      | inl a ↦ inl (record {
        what = a.what;
        small_is = small_at p (before i) ∙ a.small_is;
        large_is = large_at p i ∙ a.large_is;
        stands = part.places p (before i) ∙ a.stands;
        next = a.next;
      })
      | inr a ↦ inr (record {
        what = a.what;
        large_is = large_at p i ∙ a.large_is;
        may_leave = subst (λ f. MayLeave to small (waits_at f false (before i)) a.what) (λ t n. sym (small_at p n) t) a.may_leave;
        next = a.next;
      })
    ]

    -- what holds at the start and is kept by each event, holds throughout
    track : (R : ℕ → Type 0) → R 0 → ((i : ℕ) → KeepsHere to small large p before i → R i → R (suc i)) → ((i : ℕ) → LeavesHere to small large p before i → R i → R (suc i)) → (i : ℕ) →
        i ≤ event_count large (to.process p) → R i
    track R start keeps leaves zero le = start
    track R start keeps leaves (suc i) le =
        let rest = track R start keeps leaves i (omega (arith, le)) in
        elim (here i (omega (arith, le))) [ inl a ↦ keeps i a rest | inr a ↦ leaves i a rest ]

    starts : before 0 ≡ 0
    starts = none_before (pieces p)

    pub place_within : (n : ℕ) → n ≤ event_count small p → to.place p n ≤ event_count large (to.process p)
    place_within n le = let r = rises (to.place p) (λ i. (let s = rising p i in omega (arith, s))) n (event_count small p) le in let e = ends p in omega (arith, r, e)

    pub back : (n : ℕ) → before (to.place p n) ≡ n
    back n = ap before (part.places p n) ∙ before_place (pieces p) n

    pub back_end : before (event_count large (to.process p)) ≡ event_count small p
    back_end = ap before (sym (ends p)) ∙ back (event_count small p)

    module _ (key : ℕ) (u : IsKeyOf small key) where
      key_test : (m : ℕ) (k : Kind) → kind_at small p m ≡ Some k → (other : ℕ) → key_of k ≡ Some other → (to.key other == to.key key) ≡ (other == key)
      key_test m k is other o = same_test to.key other key (part.one_key other key (record { proc = p; at = m }, k, is, o) u)

      pub puts_track : (i : ℕ) → i ≤ event_count large (to.process p) → put_count large (to.process p) (to.key key) i ≡ put_count small p key (before i)
      puts_track = track (λ i. put_count large (to.process p) (to.key key) i ≡ put_count small p key (before i)) (ap (put_count small p key) (sym starts))
          (λ i a ih.
          ap (put_count_with (to.key key) (put_count large (to.process p) (to.key key) i)) a.large_is
          ∙ put_kept to key _ a.what (key_test (before i) a.what a.small_is)
          ∙ ap (λ n. put_count_with key n (Some a.what)) ih
          ∙ ap (put_count_with key (put_count small p key (before i))) (sym a.small_is)
          ∙ ap (put_count small p key) (sym a.next))
          (λ i a ih.
          ap (put_count_with (to.key key) (put_count large (to.process p) (to.key key) i)) a.large_is
          ∙ put_left to small _ key _ a.what u a.may_leave
          ∙ ih
          ∙ ap (put_count small p key) (sym a.next))

      pub owns_track : (i : ℕ) → i ≤ event_count large (to.process p) → own large (to.process p) (to.key key) i ≡ option_map (to.place p) (own small p key (before i))
      owns_track = track (λ i. own large (to.process p) (to.key key) i ≡ option_map (to.place p) (own small p key (before i))) (ap (λ n. option_map (to.place p) (own small p key n)) (sym starts))
          (λ i a ih.
          ap (own_with (to.key key) i (own large (to.process p) (to.key key) i)) a.large_is
          ∙ ap (λ o. own_with (to.key key) i o (Some (image_kind to a.what))) ih
          ∙ own_kept to key (before i) i (to.place p) (own small p key (before i)) a.what (key_test (before i) a.what a.small_is) a.stands
          ∙ ap (λ o. option_map (to.place p) (own_with key (before i) (own small p key (before i)) o)) (sym a.small_is)
          ∙ ap (λ n. option_map (to.place p) (own small p key n)) (sym a.next))
          (λ i a ih.
          ap (own_with (to.key key) i (own large (to.process p) (to.key key) i)) a.large_is
          ∙ own_left to small _ key i _ a.what u a.may_leave
          ∙ ih
          ∙ ap (λ n. option_map (to.place p) (own small p key n)) (sym a.next))

      abbrev Stored : ℕ → Type 0
      Stored i = (i ≤ event_count large (to.process p)) → stored large (to.process p) (to.key key) i ≡ option_map (to.place p) (stored small p key (before i))

      pub stores_track : (i : ℕ) → i ≤ event_count large (to.process p) → stored large (to.process p) (to.key key) i ≡ option_map (to.place p) (stored small p key (before i))
      stores_track i le = track Stored (λ _. ap (λ n. option_map (to.place p) (stored small p key n)) (sym starts))
          (λ i a ih le.
          let le' : i ≤ event_count large (to.process p) = omega (arith, le) in
          ap (stored_with (own large (to.process p) (to.key key) i) (stored large (to.process p) (to.key key) i)) a.large_is
          ∙ ap (λ o. stored_with o (stored large (to.process p) (to.key key) i) (Some (image_kind to a.what))) (owns_track i le')
          ∙ ap (λ s. stored_with (option_map (to.place p) (own small p key (before i))) s (Some (image_kind to a.what))) (ih le')
          ∙ stored_kept to (to.place p) (own small p key (before i)) (stored small p key (before i)) a.what
          ∙ ap (λ o. option_map (to.place p) (stored_with (own small p key (before i)) (stored small p key (before i)) o)) (sym a.small_is)
          ∙ ap (λ n. option_map (to.place p) (stored small p key n)) (sym a.next))
          (λ i a ih le.
          let le' : i ≤ event_count large (to.process p) = omega (arith, le) in
          ap (stored_with (own large (to.process p) (to.key key) i) (stored large (to.process p) (to.key key) i)) a.large_is
          ∙ stored_left to small _ _ _ a.what a.may_leave
          (λ w. owns_track i le' ∙ ap (option_map (to.place p)) (none_waits (kind_at small p) key (before i) w) ∙ sym (ih le'))
          ∙ ih le'
          ∙ ap (λ n. option_map (to.place p) (stored small p key n)) (sym a.next)) i le le

    module _ (members : List ℕ) (u : IsSetOf small members) where
      members_test : (m : ℕ) (k : Kind) → kind_at small p m ≡ Some k → (others : List ℕ) → members_of k ≡ Some others →
          same_members (to.members others) (to.members members) ≡ same_members others members
      members_test m k is others o = set_test to.members others members (part.one_set others members (record { proc = p; at = m }, k, is, o) u)

      pub arrives_track : (i : ℕ) → i ≤ event_count large (to.process p) → arrivals large (to.process p) (to.members members) i ≡ arrivals small p members (before i)
      arrives_track = track (λ i. arrivals large (to.process p) (to.members members) i ≡ arrivals small p members (before i)) (ap (arrivals small p members) (sym starts))
          (λ i a ih.
          ap (arrivals_with (to.members members) (arrivals large (to.process p) (to.members members) i)) a.large_is
          ∙ arrives_kept to members _ a.what (members_test (before i) a.what a.small_is)
          ∙ ap (λ n. arrivals_with members n (Some a.what)) ih
          ∙ ap (arrivals_with members (arrivals small p members (before i))) (sym a.small_is)
          ∙ ap (arrivals small p members) (sym a.next))
          (λ i a ih.
          ap (arrivals_with (to.members members) (arrivals large (to.process p) (to.members members) i)) a.large_is
          ∙ arrives_left to small _ members _ a.what u a.may_leave
          ∙ ih
          ∙ ap (arrivals small p members) (sym a.next))

      abbrev pub Collects : ℕ → ℕ → Type 0
      Collects j i = (i ≤ event_count large (to.process p)) → collects large (to.process p) (to.members members) j i ≡ collects small p members j (before i)

      pub collects_track : (j i : ℕ) → Collects j i
      collects_track j i le = track (Collects j) (λ _. ap (collects small p members j) (sym starts))
          (λ i a ih le.
          let le' : i ≤ event_count large (to.process p) = omega (arith, le) in
          ap (collects_with (to.members members) j (arrivals large (to.process p) (to.members members) i) (collects large (to.process p) (to.members members) j i)) a.large_is
          ∙ collects_kept to members j _ _ a.what (members_test (before i) a.what a.small_is)
          ∙ ap (λ n. collects_with members j n (collects large (to.process p) (to.members members) j i) (Some a.what)) (arrives_track i le')
          ∙ ap (λ b. collects_with members j (arrivals small p members (before i)) b (Some a.what)) (ih le')
          ∙ ap (collects_with members j (arrivals small p members (before i)) (collects small p members j (before i))) (sym a.small_is)
          ∙ ap (collects small p members j) (sym a.next))
          (λ i a ih le.
          ap (collects_with (to.members members) j (arrivals large (to.process p) (to.members members) i) (collects large (to.process p) (to.members members) j i)) a.large_is
          ∙ collects_left to small _ members j _ _ a.what u a.may_leave
          ∙ ih (omega (arith, le))
          ∙ ap (collects small p members j) (sym a.next)) i le le

    module _ (name : ℕ) (u : IsNameOf small name) where
      name_test : (m : ℕ) (k : Kind) → kind_at small p m ≡ Some k → (other : ℕ) → name_of k ≡ Some other → (to.name other == to.name name) ≡ (other == name)
      name_test m k is other o = same_test to.name other name (part.one_name other name (record { proc = p; at = m }, k, is, o) u)

      pub publishes_track : (i : ℕ) → i ≤ event_count large (to.process p) → publishes large (to.process p) (to.name name) i ≡ publishes small p name (before i)
      publishes_track = track (λ i. publishes large (to.process p) (to.name name) i ≡ publishes small p name (before i)) (ap (publishes small p name) (sym starts))
          (λ i a ih.
          ap (λ o. is_publish (to.name name) o || publishes large (to.process p) (to.name name) i) a.large_is
          ∙ ap (λ b. b || publishes large (to.process p) (to.name name) i) (publish_kept to name a.what (name_test (before i) a.what a.small_is))
          ∙ ap (λ b. is_publish name (Some a.what) || b) ih
          ∙ ap (λ o. is_publish name o || publishes small p name (before i)) (sym a.small_is)
          ∙ ap (publishes small p name) (sym a.next))
          (λ i a ih.
          ap (λ o. is_publish (to.name name) o || publishes large (to.process p) (to.name name) i) a.large_is
          ∙ ap (λ b. b || publishes large (to.process p) (to.name name) i) (publish_left to small _ name a.what u a.may_leave)
          ∙ ih
          ∙ ap (publishes small p name) (sym a.next))

pub parts_embed : PartsEmbed
parts_embed to small large pieces part = record {
  one_process = part.one_process;
  one_key = part.each.one_key;
  one_name = part.each.one_name;
  rising = rising to small large pieces part.each;
  ends = ends to small large pieces part.each;
  kinds_agree = kinds_agree to small large pieces part.each;
  puts = λ p key n u le. puts_track to small large pieces part.each p key u (to.place p n) (place_within to small large pieces part.each p n le) ∙ ap (put_count small p key) (back to small large pieces part.each p n);
  owns = λ p key n u le.
      owns_track to small large pieces part.each p key u (to.place p n) (place_within to small large pieces part.each p n le)
      ∙ ap (λ m. option_map (to.place p) (own small p key m)) (back to small large pieces part.each p n);
  stores = λ p key n u le.
      stores_track to small large pieces part.each p key u (to.place p n) (place_within to small large pieces part.each p n le)
      ∙ ap (λ m. option_map (to.place p) (stored small p key m)) (back to small large pieces part.each p n);
  member = part.member;
  arrives = λ members p n u le.
      arrives_track to small large pieces part.each p members u (to.place p n) (place_within to small large pieces part.each p n le) ∙ ap (arrivals small p members) (back to small large pieces part.each p n);
  says_collect = λ members p j u. collects_track to small large pieces part.each p members u j (event_count large (to.process p)) (omega arith) ∙ ap (collects small p members j) (back_end to small large pieces part.each p);
  all_collect = part.all_collect;
  publish = λ p name u. publishes_track to small large pieces part.each p name u (event_count large (to.process p)) (omega arith) ∙ ap (publishes small p name) (back_end to small large pieces part.each p);
  once = part.once;
  together = part.together;
  keeps = part.keeps;
}
