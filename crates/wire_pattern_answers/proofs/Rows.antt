-- What the row of a process tells of a call that is one event: the answer to that event.
use Rattle.std.proofs.Common.{◌≡◌, ◌∙◌, ap, sym, refl, ℕ, zero, suc, List, [], ◌∷◌, ◌++◌, Bool, true, false, length, map, take, replicate, Option, Some, None, arith}
use Rattle.std.specs.Prelude.{slice_get}
use Rattle.std.proofs.lemmas.List.Concat.{flat_map-cons}
use Rattle.std.proofs.lemmas.Option.{same_Some}
use Rattle.wire_types.specs.declared.CallEnd.TheVariants.{Replied, Unreached}
use Rattle.wire_types.specs.declared.Reply.{Reply}
use Rattle.wire_runs.specs.Plan.{Plan, Call, CallPut, CallCommit, CallFence, CallGet, CallGetNow, CallPublish, CallLookup, CallLookupWait, CallUnpublish, CallUnpublishAll, CallFixed, Kind, Put, Commit, Arrive, Leave, Get, GetNow, Publish, Lookup, LookupWait, Unpublish, UnpublishAll, Fixed, set_of, kinds_of}
use Rattle.wire_runs.specs.State.{Answer}
use Rattle.wire_runs.specs.Ends.{given, replies_of, unanswered}
use Rattle.wire_runs.proofs.Ends.{gives}

-- the number of a call's first event
abbrev pub place : List Call → ℕ → ℕ
place calls c = length (kinds_of (take c calls))

-- what an answer, if there is one, replies
abbrev pub said : Plan → Option Answer → Option Reply
said plan None = None
said plan (Some a) = slice_get (given plan a) 0

single : {A : Type 0} (xs : List A) → length xs ≡ 1 → (x : A) × (xs ≡ x ∷ [])
single [] is = absurd (omega (arith, is))
single (x ∷ []) is = (x, refl)
single (x ∷ y ∷ xs) is = absurd (omega (arith, is))

nothing : {A : Type 0} (xs : List A) → length xs ≡ 0 → xs ≡ []
nothing [] is = refl
nothing (x ∷ xs) is = absurd (omega (arith, is))

module _ (plan : Plan) where
  -- each answer gives as many replies as its event
  abbrev pub Fits : List Kind → List Answer → Type 0
  Fits ks answers = (i : ℕ) (k : Kind) (a : Answer) → slice_get ks i ≡ Some k → slice_get answers i ≡ Some a → length (given plan a) ≡ gives (Some k)

  fits_rest : (k : Kind) (ks : List Kind) (a : Answer) (answers : List Answer) → Fits (k ∷ ks) (a ∷ answers) → Fits ks answers
  fits_rest k ks a answers fits i l b at is = fits (suc i) l b at is

  -- one event, and those behind it
  first_one : (k : Kind) → gives (Some k) ≡ 1 → (ks : List Kind) (answers : List Answer) → Fits (k ∷ ks) answers
      → slice_get (replies_of plan answers) 0 ≡ said plan (slice_get answers 0)
  first_one k one ks [] fits = refl
  first_one k one ks (a ∷ answers) fits =
      let r = single (given plan a) (fits 0 k a refl refl ∙ one) in
      ap (λ rs. slice_get rs 0) (flat_map-cons (given plan) a answers ∙ ap (λ rs. rs ++ replies_of plan answers) r.1) ∙ ap (λ rs. slice_get rs 0) (sym r.1)

  says_one : (k : Kind) → gives (Some k) ≡ 1 → (ks : List Kind) (answers : List Answer) (c n : ℕ) → Fits (k ∷ ks) answers
      → ((rest : List Answer) → Fits ks rest → slice_get (replies_of plan rest) c ≡ said plan (slice_get rest n))
      → slice_get (replies_of plan answers) (suc c) ≡ said plan (slice_get answers (suc n))
  says_one k one ks [] c n fits more = refl
  says_one k one ks (a ∷ answers) c n fits more =
      let r = single (given plan a) (fits 0 k a refl refl ∙ one) in
      ap (λ rs. slice_get rs (suc c)) (flat_map-cons (given plan) a answers ∙ ap (λ rs. rs ++ replies_of plan answers) r.1)
      ∙ more answers (fits_rest k ks a answers fits)

  says_none : (k : Kind) → gives (Some k) ≡ 0 → (ks : List Kind) (answers : List Answer) (c n : ℕ) → Fits (k ∷ ks) answers
      → ((rest : List Answer) → Fits ks rest → slice_get (replies_of plan rest) c ≡ said plan (slice_get rest n))
      → slice_get (replies_of plan answers) c ≡ said plan (slice_get answers (suc n))
  says_none k none ks [] c n fits more = refl
  says_none k none ks (a ∷ answers) c n fits more =
      ap (λ rs. slice_get rs c) (flat_map-cons (given plan) a answers ∙ ap (λ rs. rs ++ replies_of plan answers) (nothing (given plan a) (fits 0 k a refl refl ∙ none)))
      ∙ more answers (fits_rest k ks a answers fits)

  abbrev Says : List Call → ℕ → List Answer → Type 0
  Says calls c answers = slice_get (replies_of plan answers) c ≡ said plan (slice_get answers (place calls c))

  -- the reply to a call is that of its event
  pub row_says : (calls : List Call) (c : ℕ) (k : Kind) (answers : List Answer) → slice_get (kinds_of calls) (place calls c) ≡ Some k → gives (Some k) ≡ 1
      → Fits (kinds_of calls) answers → Says calls c answers
  row_says [] c k answers is one fits = cc
  row_says (CallPut key scope ∷ calls) zero k answers is one fits = first_one (Put key scope) refl (kinds_of calls) answers fits
  row_says (CallCommit ∷ calls) zero k answers is one fits = first_one Commit refl (kinds_of calls) answers fits
  row_says (CallFence members collect ∷ calls) zero k answers is one fits =
      absurd (let none : gives (Some k) ≡ 0 = ap (λ e. gives (Some e)) (sym (same_Some (Arrive (set_of members) collect) k is)) in omega (arith, one, none))
  row_says (CallGet owner key ∷ calls) zero k answers is one fits = first_one (Get owner key) refl (kinds_of calls) answers fits
  row_says (CallGetNow owner key ∷ calls) zero k answers is one fits = first_one (GetNow owner key) refl (kinds_of calls) answers fits
  row_says (CallPublish name ∷ calls) zero k answers is one fits = first_one (Publish name) refl (kinds_of calls) answers fits
  row_says (CallLookup name ∷ calls) zero k answers is one fits = first_one (Lookup name) refl (kinds_of calls) answers fits
  row_says (CallLookupWait name ∷ calls) zero k answers is one fits = first_one (LookupWait name) refl (kinds_of calls) answers fits
  row_says (CallUnpublish name ∷ calls) zero k answers is one fits = first_one (Unpublish name) refl (kinds_of calls) answers fits
  row_says (CallUnpublishAll ∷ calls) zero k answers is one fits = first_one UnpublishAll refl (kinds_of calls) answers fits
  row_says (CallFixed reply ∷ calls) zero k answers is one fits = first_one (Fixed reply) refl (kinds_of calls) answers fits
  row_says (CallPut key scope ∷ calls) (suc c) k answers is one fits =
      says_one (Put key scope) refl (kinds_of calls) answers c (place calls c) fits (λ rest f. row_says calls c k rest is one f)
  row_says (CallCommit ∷ calls) (suc c) k answers is one fits =
      says_one Commit refl (kinds_of calls) answers c (place calls c) fits (λ rest f. row_says calls c k rest is one f)
  row_says (CallFence members collect ∷ calls) (suc c) k answers is one fits =
      says_none (Arrive (set_of members) collect) refl (Leave (set_of members) ∷ kinds_of calls) answers (suc c) (suc (place calls c)) fits
      (λ left f. says_one (Leave (set_of members)) refl (kinds_of calls) left c (place calls c) f (λ rest g. row_says calls c k rest is one g))
  row_says (CallGet owner key ∷ calls) (suc c) k answers is one fits =
      says_one (Get owner key) refl (kinds_of calls) answers c (place calls c) fits (λ rest f. row_says calls c k rest is one f)
  row_says (CallGetNow owner key ∷ calls) (suc c) k answers is one fits =
      says_one (GetNow owner key) refl (kinds_of calls) answers c (place calls c) fits (λ rest f. row_says calls c k rest is one f)
  row_says (CallPublish name ∷ calls) (suc c) k answers is one fits =
      says_one (Publish name) refl (kinds_of calls) answers c (place calls c) fits (λ rest f. row_says calls c k rest is one f)
  row_says (CallLookup name ∷ calls) (suc c) k answers is one fits =
      says_one (Lookup name) refl (kinds_of calls) answers c (place calls c) fits (λ rest f. row_says calls c k rest is one f)
  row_says (CallLookupWait name ∷ calls) (suc c) k answers is one fits =
      says_one (LookupWait name) refl (kinds_of calls) answers c (place calls c) fits (λ rest f. row_says calls c k rest is one f)
  row_says (CallUnpublish name ∷ calls) (suc c) k answers is one fits =
      says_one (Unpublish name) refl (kinds_of calls) answers c (place calls c) fits (λ rest f. row_says calls c k rest is one f)
  row_says (CallUnpublishAll ∷ calls) (suc c) k answers is one fits =
      says_one UnpublishAll refl (kinds_of calls) answers c (place calls c) fits (λ rest f. row_says calls c k rest is one f)
  row_says (CallFixed reply ∷ calls) (suc c) k answers is one fits =
      says_one (Fixed reply) refl (kinds_of calls) answers c (place calls c) fits (λ rest f. row_says calls c k rest is one f)

-- a call that isn't answered has no reply
never_replied : (n c : ℕ) (r : Reply) → slice_get (replicate n Unreached) c ≡ Some (Replied r) → ⊥
never_replied zero c r h = cc
never_replied (suc n) zero r h = cc
never_replied (suc n) (suc c) r h = never_replied n c r h

no_reply : (ready : Bool) (n c : ℕ) (r : Reply) → slice_get (unanswered ready n) c ≡ Some (Replied r) → ⊥
no_reply ready zero c r h = cc
no_reply true (suc n) zero r h = cc
no_reply false (suc n) zero r h = cc
no_reply ready (suc n) (suc c) r h = never_replied n c r h

pub replied_in : (replies : List Reply) (ready : Bool) (n c : ℕ) (r : Reply) → slice_get (map Replied replies ++ unanswered ready n) c ≡ Some (Replied r) → slice_get replies c ≡ Some r
replied_in [] ready n c r h = absurd (no_reply ready n c r h)
replied_in (x ∷ replies) ready n zero r h = cc
replied_in (x ∷ replies) ready n (suc c) r h = replied_in replies ready n c r h

pub replied_there : (replies : List Reply) (ready : Bool) (n c : ℕ) (r : Reply) → slice_get replies c ≡ Some r → slice_get (map Replied replies ++ unanswered ready n) c ≡ Some (Replied r)
replied_there [] ready n c r h = cc
replied_there (x ∷ replies) ready n zero r h = cc
replied_there (x ∷ replies) ready n (suc c) r h = replied_there replies ready n c r h
