-- What is told of an instance, placing by placing.
use Rattle.std.proofs.Common.{◌≡◌, ◌∙◌, ap, sym, subst, refl, ℕ, ◌+◌, ◌||◌, ◌&&◌, ◌==◌, List, [], ◌∷◌, Bool, true, false, not, length, inl, inr, ◌⊎◌, arith}
use Rattle.std.proofs.lemmas.Bool.{true≢false, cases_eq}
use Rattle.wire_types.specs.declared.Status.{Status}
use Rattle.wire_types.specs.declared.Status.TheVariants.{Success, NotFound, ExistsOutsideScope, DuplicateKey, BadParam}
use Rattle.wire_pattern.specs.Pattern.{Pattern}
use Rattle.wire_pattern.specs.Instances.{Cast, cast_of}
use Rattle.wire_pattern_waits.specs.LineSets.{has_line}
use Rattle.wire_pattern_waits.proofs.Judged.{told_more}
use Rattle.wire_pattern_waits.proofs.Noted.{or_either}
use Rattle.wire_pattern_answers.specs.declared.notes.Note.{Note}
use Rattle.wire_pattern_answers.specs.declared.told.StatusesByLine.{StatusesByLine}
use Rattle.wire_pattern_answers.specs.FewPlacings.{IsOfThree}
use Rattle.wire_pattern_answers.specs.Notes.{number_of, is_at, is_noted, NotesAre, IsAnsweredApart, IsAnsweredByOne, is_told, AreToldToo, is_outside, is_open, AreToldTogether}

-- notes of these are told too
pub told_too : (before after : StatusesByLine) (notes : List Note) (those : ℕ → ℕ → Status → Type 0) → NotesAre notes those
    → ((role line : ℕ) (status : Status) → IsOfThree status → is_told after role line status ≡ (is_told before role line status || is_noted notes role line status))
    → AreToldToo before after those
told_too before after notes those noted more role line status three =
    told_more (is_told before role line status) (is_noted notes role line status) (is_told after role line status) (those role line status)
    (more role line status three) (noted role line status)

number_outside : (status : Status) → (number_of status == 2) ≡ true → is_outside status ≡ true
number_outside Success h = absurd (true≢false (sym h))
number_outside NotFound h = absurd (true≢false (sym h))
number_outside ExistsOutsideScope h = refl
number_outside DuplicateKey h = absurd (true≢false (sym h))
number_outside BadParam h = absurd (true≢false (sym h))

note_parts : (own n role line : ℕ) (b : Bool) → ((own == role) && ((n == line) && b)) ≡ true → (own ≡ role) × (n ≡ line) × (b ≡ true)
note_parts own n role line b h = grind (arith, h)

open_parts : (a b : Bool) → (a && not b) ≡ false → a ≡ true → b ≡ true
open_parts true true h k = refl
open_parts true false h k = absurd (true≢false h)
open_parts false b h k = absurd (true≢false (sym k))

or_parts : (a b : Bool) → (a || b) ≡ false → (a ≡ false) × (b ≡ false)
or_parts true b h = absurd (true≢false h)
or_parts false b h = (refl, h)

-- where no note is open, success is told of each line with a key outside its scope
success_told : (told : StatusesByLine) (role line : ℕ) (notes : List Note) → is_open told notes ≡ false → is_noted notes role line ExistsOutsideScope ≡ true → has_line told.success role line ≡ true
success_told told role line [] closed at = absurd (true≢false (sym at))
success_told told role line (note ∷ notes) closed at = go (success_told told role line notes (or_parts _ _ closed).1) (or_either _ _ at)
  where
    go : (is_noted notes role line ExistsOutsideScope ≡ true → has_line told.success role line ≡ true)
        → (is_at role line ExistsOutsideScope note ≡ true) ⊎ (is_noted notes role line ExistsOutsideScope ≡ true) → has_line told.success role line ≡ true
    go more (inr later) = more later
    go more (inl here) =
        let parts = note_parts note.role note.line role line (number_of note.status == 2) here in
        let told_there = open_parts (is_outside note.status) (has_line told.success note.role note.line) (or_parts _ _ closed).0 (number_outside note.status parts.2) in
        ap (λ l. has_line told.success role l) (sym parts.1) ∙ ap (λ r. has_line told.success r note.line) (sym parts.0) ∙ told_there

module _ (p : Pattern) (cast : Cast) where
  -- of no rank nothing is said
  pub by_none : (told : StatusesByLine) → AreToldToo told told (IsAnsweredByOne p cast 0)
  by_none told role line status three = ((λ h. inl h), back)
    where
      back : (is_told told role line status ≡ true) ⊎ IsAnsweredByOne p cast 0 role line status → is_told told role line status ≡ true
      back (inl h) = h
      back (inr x) = absurd (let lt = x.1 in omega (arith, lt))

  pub by_one_more : (n : ℕ) (before between after : StatusesByLine) → AreToldToo before between (IsAnsweredByOne p cast n) → AreToldToo between after (IsAnsweredApart p cast (n ∷ []))
      → AreToldToo before after (IsAnsweredByOne p cast (n + 1))
  by_one_more n before between after told more role line status three = ((λ h. to ((more role line status three).0 h)), from)
    where
      wider : (is_told before role line status ≡ true) ⊎ IsAnsweredByOne p cast n role line status → (is_told before role line status ≡ true) ⊎ IsAnsweredByOne p cast (n + 1) role line status
      wider (inl h) = inl h
      wider (inr x) = inr (x.0, (let lt = x.1 in omega (arith, lt)), x.2)

      to : (is_told between role line status ≡ true) ⊎ IsAnsweredApart p cast (n ∷ []) role line status → (is_told before role line status ≡ true) ⊎ IsAnsweredByOne p cast (n + 1) role line status
      to (inl h) = wider ((told role line status three).0 h)
      to (inr x) = inr (n, (omega arith), x)

      from : (is_told before role line status ≡ true) ⊎ IsAnsweredByOne p cast (n + 1) role line status → is_told after role line status ≡ true
      from (inl h) = (more role line status three).1 (inl ((told role line status three).1 (inl h)))
      from (inr x) = (more role line status three).1 (elim (cases_eq x.0 n) [
        | inl e ↦ inr (subst (λ r. IsAnsweredApart p cast (r ∷ []) role line status) e x.2)
        | inr ne ↦ inl ((told role line status three).1 (inr (x.0, (let lt = x.1 in omega (arith, lt, ne)), x.2)))
      ])

  module _ (before between : StatusesByLine) (notes : List Note) (told : AreToldToo before between (IsAnsweredApart p cast [])) (noted : NotesAre notes (IsAnsweredApart p cast [])) where
    only_together : (role line : ℕ) (status : Status) → IsOfThree status → is_told between role line status ≡ true
        → (is_told before role line status ≡ true) ⊎ ((ranks : List ℕ) × IsAnsweredApart p cast ranks role line status)
    only_together role line status three h = go ((told role line status three).0 h)
      where
        go : (is_told before role line status ≡ true) ⊎ IsAnsweredApart p cast [] role line status → (is_told before role line status ≡ true) ⊎ ((ranks : List ℕ) × IsAnsweredApart p cast ranks role line status)
        go (inl g) = inl g
        go (inr x) = inr ([], x)

    -- where nothing is open
    pub together_closed : is_open between notes ≡ false → AreToldTogether p cast before between
    together_closed closed = record {
      stays = λ role line status three h. (told role line status three).1 (inl h);
      together = λ role line status three x. (told role line status three).1 (inr x);
      outside = λ role line x found. success_told between role line notes closed ((noted role line ExistsOutsideScope).1 x);
      only = only_together;
    }

    -- and where each rank is on a node of its own too
    pub together_each : (after : StatusesByLine) → AreToldToo between after (IsAnsweredByOne p cast (length (cast_of cast).roles)) → AreToldTogether p cast before after
    together_each after each = record {
      stays = λ role line status three h. (each role line status three).1 (inl ((told role line status three).1 (inl h)));
      together = λ role line status three x. (each role line status three).1 (inl ((told role line status three).1 (inr x)));
      outside = λ role line x found. (each role line Success (inl refl)).1 (inr found);
      only = λ role line status three h. from_each role line status three ((each role line status three).0 h);
    }
      where
        from_each : (role line : ℕ) (status : Status) → IsOfThree status → (is_told between role line status ≡ true) ⊎ IsAnsweredByOne p cast (length (cast_of cast).roles) role line status
            → (is_told before role line status ≡ true) ⊎ ((ranks : List ℕ) × IsAnsweredApart p cast ranks role line status)
        from_each role line status three (inl h) = only_together role line status three h
        from_each role line status three (inr x) = inr (x.0 ∷ [], x.2)
