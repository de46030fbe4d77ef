-- What is noted of scripts are the statuses with which their get-nows are answered.
use Rattle.std.proofs.Common.{◌≡◌, ◌∙◌, ap, sym, subst, refl, ℕ, zero, suc, ◌+◌, ◌==◌, ◌&&◌, ◌||◌, List, [], ◌∷◌, ◌++◌, true, false, Some, ◌⊎◌, inl, inr, add-zero, zero-add, arith}
use Rattle.std.specs.Prelude.{slice_get, slice_index_or}
use Rattle.std.proofs.lemmas.Bool.{true≢false, eq-eqb}
use Rattle.std.proofs.lemmas.Option.{same_Some}
use Rattle.std.proofs.lemmas.List.Folds.{list_any-append}
use Rattle.wire_types.specs.declared.Call.{Call}
use Rattle.wire_types.specs.declared.Call.TheVariants.{Put, Commit, Fence, Get, GetNow, Publish, Lookup, LookupWait, Unpublish, UnpublishAll}
use Rattle.wire_types.specs.declared.CallEnd.{CallEnd}
use Rattle.wire_types.specs.declared.CallEnd.TheVariants.{Replied, Waiting, Ready, Unreached}
use Rattle.wire_types.specs.declared.Reply.{Reply}
use Rattle.wire_types.specs.declared.Status.{Status}
use Rattle.wire_types.specs.declared.Status.TheVariants.{Success, NotFound, ExistsOutsideScope, DuplicateKey, BadParam}
use Rattle.wire_scripts.specs.Scripts.{Scripts, calls_in}
use Rattle.wire_core.specs.EndsAfter.{plain_ends}
use Rattle.wire_pattern.specs.Pattern.{Pattern}
use Rattle.wire_pattern.specs.Planned.{steps_in}
use Rattle.wire_pattern.specs.Instances.{Cast, cast_of}
use Rattle.wire_pattern_waits.specs.Places.{steps_places}
use Rattle.wire_pattern_waits.proofs.Noted.{or_either, or_left, or_right}
use Rattle.wire_pattern_answers.specs.declared.notes.Note.{Note}
use Rattle.wire_pattern_answers.specs.FewPlacings.{asks_now}
use Rattle.wire_pattern_answers.specs.Answers.{IsAnsweredAtLine}
use Rattle.wire_pattern_answers.specs.Notes.{number_of, is_at, is_noted, note_for, process_notes, notes_from, NotesAre}

-- a number is that of one status
abbrev at_number : ℕ → Status
at_number zero = Success
at_number (suc zero) = NotFound
at_number (suc (suc zero)) = ExistsOutsideScope
at_number (suc (suc (suc zero))) = DuplicateKey
at_number (suc (suc (suc (suc n)))) = BadParam

numbered_at : (s : Status) → at_number (number_of s) ≡ s
numbered_at Success = refl
numbered_at NotFound = refl
numbered_at ExistsOutsideScope = refl
numbered_at DuplicateKey = refl
numbered_at BadParam = refl

one_number : (s t : Status) → number_of s ≡ number_of t → s ≡ t
one_number s t e = sym (numbered_at s) ∙ ap at_number e ∙ numbered_at t

noted_append : (xs ys : List Note) (role line : ℕ) (status : Status) → is_noted (xs ++ ys) role line status ≡ (is_noted xs role line status || is_noted ys role line status)
noted_append xs ys role line status = list_any-append (is_at role line status) xs ys

-- a process of this role, with these ends of its calls, its calls and the numbers of their lines, is answered so at a
-- get-now of this line
record AnsweredHere (own : ℕ) (row : List CallEnd) (calls : List Call) (places : List ℕ) (role line : ℕ) (status : Status) : Type 0 where
  call : ℕ
  same : own ≡ role
  reply : Reply
  replied : slice_get row call ≡ Some (Replied reply)
  has : reply.status ≡ status
  asks : asks_now (slice_get calls call) ≡ true
  of_line : slice_get places call ≡ Some line

numbers_same : (own n place role line there : ℕ) → (((own == role) && ((n == line) && (place == there))) || false) ≡ true → (own ≡ role) × (n ≡ line) × (place ≡ there)
numbers_same own n place role line there h = grind (arith, h)

first_noted : (own n role line : ℕ) (status : Status) (end : CallEnd) (call : Call) (ends : List CallEnd) (calls : List Call) (places : List ℕ)
    → is_noted (note_for own n end call) role line status ≡ true → AnsweredHere own (end ∷ ends) (call ∷ calls) (n ∷ places) role line status
first_noted own n role line status (Replied reply) (GetNow owner key) ends calls places h =
    let that = numbers_same own n (number_of reply.status) role line (number_of status) h in
    record { call = 0; same = that.0; reply = reply; replied = refl; has = one_number reply.status status that.2; asks = refl; of_line = ap Some that.1 }
first_noted own n role line status (Replied reply) (Put scope key value) ends calls places h = absurd (true≢false (sym h))
first_noted own n role line status (Replied reply) Commit ends calls places h = absurd (true≢false (sym h))
first_noted own n role line status (Replied reply) (Fence set collect) ends calls places h = absurd (true≢false (sym h))
first_noted own n role line status (Replied reply) (Get owner key) ends calls places h = absurd (true≢false (sym h))
first_noted own n role line status (Replied reply) (Publish name value) ends calls places h = absurd (true≢false (sym h))
first_noted own n role line status (Replied reply) (Lookup name) ends calls places h = absurd (true≢false (sym h))
first_noted own n role line status (Replied reply) (LookupWait name) ends calls places h = absurd (true≢false (sym h))
first_noted own n role line status (Replied reply) (Unpublish name) ends calls places h = absurd (true≢false (sym h))
first_noted own n role line status (Replied reply) UnpublishAll ends calls places h = absurd (true≢false (sym h))
first_noted own n role line status Waiting call ends calls places h = absurd (true≢false (sym h))
first_noted own n role line status Ready call ends calls places h = absurd (true≢false (sym h))
first_noted own n role line status Unreached call ends calls places h = absurd (true≢false (sym h))

here_more : (own n role line : ℕ) (status : Status) (end : CallEnd) (call : Call) (ends : List CallEnd) (calls : List Call) (places : List ℕ)
    → AnsweredHere own ends calls places role line status → AnsweredHere own (end ∷ ends) (call ∷ calls) (n ∷ places) role line status
here_more own n role line status end call ends calls places s =
    record { call = suc s.call; same = s.same; reply = s.reply; replied = s.replied; has = s.has; asks = s.asks; of_line = s.of_line }

here_noted : (own : ℕ) (row : List CallEnd) (calls : List Call) (places : List ℕ) (role line : ℕ) (status : Status)
    → is_noted (process_notes own row calls places) role line status ≡ true → AnsweredHere own row calls places role line status
here_noted own [] calls places role line status h = absurd (true≢false (sym h))
here_noted own (end ∷ ends) [] places role line status h = absurd (true≢false (sym h))
here_noted own (end ∷ ends) (call ∷ calls) [] role line status h = absurd (true≢false (sym h))
here_noted own (end ∷ ends) (call ∷ calls) (n ∷ places) role line status h =
    go (here_noted own ends calls places role line status)
    (or_either _ _ (sym (noted_append (note_for own n end call) (process_notes own ends calls places) role line status) ∙ h))
  where
    go : (is_noted (process_notes own ends calls places) role line status ≡ true → AnsweredHere own ends calls places role line status)
        → (is_noted (note_for own n end call) role line status ≡ true) ⊎ (is_noted (process_notes own ends calls places) role line status ≡ true)
        → AnsweredHere own (end ∷ ends) (call ∷ calls) (n ∷ places) role line status
    go more (inl first) = first_noted own n role line status end call ends calls places first
    go more (inr later) = here_more own n role line status end call ends calls places (more later)

itself : (role line place : ℕ) → (((role == role) && ((line == line) && (place == place))) || false) ≡ true
itself role line place = rw (eq-eqb role role refl, eq-eqb line line refl, eq-eqb place place refl) refl

noted_first : (role line : ℕ) (reply : Reply) (call : Call) → asks_now (Some call) ≡ true → is_noted (note_for role line (Replied reply) call) role line reply.status ≡ true
noted_first role line reply (GetNow owner key) asks = itself role line (number_of reply.status)
noted_first role line reply (Put scope key value) asks = absurd (true≢false (sym asks))
noted_first role line reply Commit asks = absurd (true≢false (sym asks))
noted_first role line reply (Fence set collect) asks = absurd (true≢false (sym asks))
noted_first role line reply (Get owner key) asks = absurd (true≢false (sym asks))
noted_first role line reply (Publish name value) asks = absurd (true≢false (sym asks))
noted_first role line reply (Lookup name) asks = absurd (true≢false (sym asks))
noted_first role line reply (LookupWait name) asks = absurd (true≢false (sym asks))
noted_first role line reply (Unpublish name) asks = absurd (true≢false (sym asks))
noted_first role line reply UnpublishAll asks = absurd (true≢false (sym asks))

none_asked : (c : ℕ) → asks_now (slice_get {X = Call} [] c) ≡ true → ⊥
none_asked c h = true≢false (sym h)

noted_here : (role : ℕ) (row : List CallEnd) (calls : List Call) (places : List ℕ) (c line : ℕ) (reply : Reply) → slice_get row c ≡ Some (Replied reply)
    → asks_now (slice_get calls c) ≡ true → slice_get places c ≡ Some line → is_noted (process_notes role row calls places) role line reply.status ≡ true
noted_here role [] calls places c line reply replied asks at = cc
noted_here role (end ∷ ends) [] places c line reply replied asks at = absurd (none_asked c asks)
noted_here role (end ∷ ends) (call ∷ calls) [] c line reply replied asks at = cc
noted_here role (end ∷ ends) (call ∷ calls) (n ∷ places) zero line reply replied asks at =
    subst (λ e. is_noted (process_notes role (e ∷ ends) (call ∷ calls) (n ∷ places)) role line reply.status ≡ true) (sym (same_Some end (Replied reply) replied))
    (subst (λ m. is_noted (process_notes role (Replied reply ∷ ends) (call ∷ calls) (m ∷ places)) role line reply.status ≡ true) (sym (same_Some n line at))
    (noted_append (note_for role line (Replied reply) call) (process_notes role ends calls places) role line reply.status
    ∙ or_left _ (is_noted (process_notes role ends calls places) role line reply.status) (noted_first role line reply call asks)))
noted_here role (end ∷ ends) (call ∷ calls) (n ∷ places) (suc c) line reply replied asks at =
    noted_append (note_for role n end call) (process_notes role ends calls places) role line reply.status
    ∙ or_right (is_noted (note_for role n end call) role line reply.status) _ (noted_here role ends calls places c line reply replied asks at)

abbrev own_places : Pattern → Cast → ℕ → ℕ → List ℕ
own_places p cast v role = steps_places cast v 0 1 (steps_in (slice_get p.roles role))

abbrev own_calls : Scripts → ℕ → List Call
own_calls s v = calls_in (slice_get s.processes v)

-- one of these processes, of which the first is v, is answered so at a get-now of this line
record AnsweredThere (p : Pattern) (cast : Cast) (s : Scripts) (v : ℕ) (roles : List ℕ) (rows : List (List CallEnd)) (role line : ℕ) (status : Status) : Type 0 where
  number : ℕ
  call : ℕ
  reply : Reply
  has_role : slice_get roles number ≡ Some role
  replied : slice_get (slice_index_or rows number []) call ≡ Some (Replied reply)
  has : reply.status ≡ status
  asks : asks_now (slice_get (own_calls s (v + number)) call) ≡ true
  of_line : slice_get (own_places p cast (v + number) role) call ≡ Some line

none_there : (n call : ℕ) (reply : Reply) → slice_get (slice_index_or {A = List CallEnd} [] n []) call ≡ Some (Replied reply) → ⊥
none_there zero call reply h = cc
none_there (suc n) call reply h = cc

module _ (p : Pattern) (cast : Cast) (s : Scripts) where
  there_first : (v r : ℕ) (roles : List ℕ) (row : List CallEnd) (rows : List (List CallEnd)) (role line : ℕ) (status : Status)
      → AnsweredHere r row (own_calls s v) (own_places p cast v r) role line status → AnsweredThere p cast s v (r ∷ roles) (row ∷ rows) role line status
  there_first v r roles row rows role line status h = record {
    number = 0;
    call = h.call;
    reply = h.reply;
    has_role = ap Some h.same;
    replied = h.replied;
    has = h.has;
    asks = ap (λ m. asks_now (slice_get (own_calls s m) h.call)) (add-zero v) ∙ h.asks;
    of_line = ap (λ m. slice_get (own_places p cast m role) h.call) (add-zero v) ∙ ap (λ q. slice_get (own_places p cast v q) h.call) (sym h.same) ∙ h.of_line;
  }

  there_more : (v r : ℕ) (roles : List ℕ) (row : List CallEnd) (rows : List (List CallEnd)) (role line : ℕ) (status : Status)
      → AnsweredThere p cast s (suc v) roles rows role line status → AnsweredThere p cast s v (r ∷ roles) (row ∷ rows) role line status
  there_more v r roles row rows role line status h = record {
    number = suc h.number;
    call = h.call;
    reply = h.reply;
    has_role = h.has_role;
    replied = h.replied;
    has = h.has;
    asks = ap (λ m. asks_now (slice_get (own_calls s m) h.call)) moved_on ∙ h.asks;
    of_line = ap (λ m. slice_get (own_places p cast m role) h.call) moved_on ∙ h.of_line;
  }
    where
      moved_on : v + suc h.number ≡ suc v + h.number
      moved_on = omega arith

  there_noted : (v : ℕ) (roles : List ℕ) (rows : List (List CallEnd)) (role line : ℕ) (status : Status)
      → is_noted (notes_from p cast s v roles rows) role line status ≡ true → AnsweredThere p cast s v roles rows role line status
  there_noted v [] rows role line status h = absurd (true≢false (sym h))
  there_noted v (r ∷ roles) [] role line status h = absurd (true≢false (sym h))
  there_noted v (r ∷ roles) (row ∷ rows) role line status h =
      go (there_noted (suc v) roles rows role line status)
      (or_either _ _ (sym (noted_append (process_notes r row (own_calls s v) (own_places p cast v r)) (notes_from p cast s (suc v) roles rows) role line status) ∙ h))
    where
      go : (is_noted (notes_from p cast s (suc v) roles rows) role line status ≡ true → AnsweredThere p cast s (suc v) roles rows role line status)
          → (is_noted (process_notes r row (own_calls s v) (own_places p cast v r)) role line status ≡ true) ⊎ (is_noted (notes_from p cast s (suc v) roles rows) role line status ≡ true)
          → AnsweredThere p cast s v (r ∷ roles) (row ∷ rows) role line status
      go more (inl here) = there_first v r roles row rows role line status (here_noted r row (own_calls s v) (own_places p cast v r) role line status here)
      go more (inr later) = there_more v r roles row rows role line status (more later)

  noted_there : (v : ℕ) (roles : List ℕ) (rows : List (List CallEnd)) (role line n call : ℕ) (reply : Reply)
      → slice_get roles n ≡ Some role → slice_get (slice_index_or rows n []) call ≡ Some (Replied reply)
      → asks_now (slice_get (own_calls s (v + n)) call) ≡ true → slice_get (own_places p cast (v + n) role) call ≡ Some line
      → is_noted (notes_from p cast s v roles rows) role line reply.status ≡ true
  noted_there v [] rows role line n call reply has replied asks at = cc
  noted_there v (r ∷ roles) [] role line n call reply has replied asks at = absurd (none_there n call reply replied)
  noted_there v (r ∷ roles) (row ∷ rows) role line zero call reply has replied asks at =
      noted_append (process_notes r row (own_calls s v) (own_places p cast v r)) (notes_from p cast s (suc v) roles rows) role line reply.status
      ∙ or_left _ (is_noted (notes_from p cast s (suc v) roles rows) role line reply.status)
      (subst (λ q. is_noted (process_notes q row (own_calls s v) (own_places p cast v q)) role line reply.status ≡ true) (sym (same_Some r role has))
      (noted_here role row (own_calls s v) (own_places p cast v role) call line reply replied (ap (λ m. asks_now (slice_get (own_calls s m) call)) (sym (add-zero v)) ∙ asks)
      (ap (λ m. slice_get (own_places p cast m role) call) (sym (add-zero v)) ∙ at)))
  noted_there v (r ∷ roles) (row ∷ rows) role line (suc n) call reply has replied asks at =
      let on : suc v + n ≡ v + suc n = omega arith in
      noted_append (process_notes r row (own_calls s v) (own_places p cast v r)) (notes_from p cast s (suc v) roles rows) role line reply.status
      ∙ or_right (is_noted (process_notes r row (own_calls s v) (own_places p cast v r)) role line reply.status) _
      (noted_there (suc v) roles rows role line n call reply has replied (ap (λ m. asks_now (slice_get (own_calls s m) call)) on ∙ asks)
      (ap (λ m. slice_get (own_places p cast m role) call) on ∙ at))

  -- of scripts exactly the statuses are noted with which their get-nows are answered
  scripts_noted : NotesAre (notes_from p cast s 0 (cast_of cast).roles (plain_ends s).rows) (IsAnsweredAtLine p cast s)
  scripts_noted role line status = (to, from)
    where
      rows : List (List CallEnd)
      rows = (plain_ends s).rows

      to : is_noted (notes_from p cast s 0 (cast_of cast).roles rows) role line status ≡ true → IsAnsweredAtLine p cast s role line status
      to h =
          let t = there_noted 0 (cast_of cast).roles rows role line status h in
          record {
            process = t.number;
            call = t.call;
            has_role = t.has_role;
            of_line = ap (λ m. slice_get (own_places p cast m role) t.call) (sym (zero-add t.number)) ∙ t.of_line;
            asks = ap (λ m. asks_now (slice_get (own_calls s m) t.call)) (sym (zero-add t.number)) ∙ t.asks;
            answered = record { reply = t.reply; is = t.replied; has = t.has };
          }

      from : IsAnsweredAtLine p cast s role line status → is_noted (notes_from p cast s 0 (cast_of cast).roles rows) role line status ≡ true
      from a =
          subst (λ t. is_noted (notes_from p cast s 0 (cast_of cast).roles rows) role line t ≡ true) a.answered.has
          (noted_there 0 (cast_of cast).roles rows role line a.process a.call a.answered.reply a.has_role a.answered.is
          (ap (λ m. asks_now (slice_get (own_calls s m) a.call)) (zero-add a.process) ∙ a.asks)
          (ap (λ m. slice_get (own_places p cast m role) a.call) (zero-add a.process) ∙ a.of_line))

  pub scripts_told : (notes : List Note) (rows : List (List CallEnd)) → notes ≡ notes_from p cast s 0 (cast_of cast).roles rows → rows ≡ (plain_ends s).rows
      → NotesAre notes (IsAnsweredAtLine p cast s)
  scripts_told notes rows are by =
      subst (λ ns. NotesAre ns (IsAnsweredAtLine p cast s)) (sym (are ∙ ap (notes_from p cast s 0 (cast_of cast).roles) by)) scripts_noted
