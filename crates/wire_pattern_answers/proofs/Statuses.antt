-- One note more is told.
use Rattle.std.proofs.Common.{◌≡◌, ◌∙◌, ap, sym, refl, ℕ, ◌||◌, ◌&&◌, ◌==◌, List, Bool, true, false, inl, inr, eq-eqb}
use Rattle.wire_types.specs.declared.Status.{Status}
use Rattle.wire_types.specs.declared.Status.TheVariants.{Success, NotFound, ExistsOutsideScope, DuplicateKey, BadParam}
use Rattle.wire_pattern_waits.specs.LineSets.{has_line}
use Rattle.wire_pattern_answers.specs.declared.notes.Note.{Note}
use Rattle.wire_pattern_answers.specs.declared.told.StatusesByLine.{StatusesByLine}
use Rattle.wire_pattern_answers.specs.FewPlacings.{IsOfThree}
use Rattle.wire_pattern_answers.specs.Notes.{number_of, is_at, is_told}

and_true : (a b : Bool) → (a && b) ≡ (a && (b && true))
and_true true true = refl
and_true true false = refl
and_true false b = refl

or_none : (x a b : Bool) → x ≡ (x || (a && (b && false)))
or_none true a b = refl
or_none false true true = refl
or_none false true false = refl
or_none false false b = refl

not_duplicate : IsOfThree DuplicateKey → ⊥
not_duplicate (inl e) = cc
not_duplicate (inr (inl e)) = cc
not_duplicate (inr (inr e)) = cc

not_bad : IsOfThree BadParam → ⊥
not_bad (inl e) = cc
not_bad (inr (inl e)) = cc
not_bad (inr (inr e)) = cc

module _ (note : Note) (role line : ℕ) where
  -- of the note's own status
  own : (x y : Bool) (status : Status) → note.status ≡ status → y ≡ (x || ((note.role == role) && (note.line == line))) → y ≡ (x || is_at role line status note)
  own x y status is more =
      more ∙ ap (λ b. x || b) (and_true (note.role == role) (note.line == line)
      ∙ ap (λ b. (note.role == role) && ((note.line == line) && b)) (sym (eq-eqb _ _ (ap number_of is))))

  -- of another nothing is told
  other : (x : Bool) (status said : Status) → note.status ≡ said → (number_of said == number_of status) ≡ false → x ≡ (x || is_at role line status note)
  other x status said is ne =
      or_none x (note.role == role) (note.line == line)
      ∙ ap (λ b. x || ((note.role == role) && ((note.line == line) && b))) (sym (ap (λ s. number_of s == number_of status) is ∙ ne))

module _ (before : StatusesByLine) (rows : List (List Bool)) (note : Note) where
  pub success_more : note.status ≡ Success → ((r l : ℕ) → has_line rows r l ≡ (has_line before.success r l || ((note.role == r) && (note.line == l))))
      → (role line : ℕ) (status : Status) → IsOfThree status → is_told (record before { success = rows }) role line status ≡ (is_told before role line status || is_at role line status note)
  success_more is more role line Success three = own note role line (has_line before.success role line) (has_line rows role line) Success is (more role line)
  success_more is more role line NotFound three = other note role line (has_line before.not_found role line) NotFound Success is refl
  success_more is more role line ExistsOutsideScope three = other note role line (has_line before.outside role line) ExistsOutsideScope Success is refl
  success_more is more role line DuplicateKey three = absurd (not_duplicate three)
  success_more is more role line BadParam three = absurd (not_bad three)

  pub not_found_more : note.status ≡ NotFound → ((r l : ℕ) → has_line rows r l ≡ (has_line before.not_found r l || ((note.role == r) && (note.line == l))))
      → (role line : ℕ) (status : Status) → IsOfThree status → is_told (record before { not_found = rows }) role line status ≡ (is_told before role line status || is_at role line status note)
  not_found_more is more role line NotFound three = own note role line (has_line before.not_found role line) (has_line rows role line) NotFound is (more role line)
  not_found_more is more role line Success three = other note role line (has_line before.success role line) Success NotFound is refl
  not_found_more is more role line ExistsOutsideScope three = other note role line (has_line before.outside role line) ExistsOutsideScope NotFound is refl
  not_found_more is more role line DuplicateKey three = absurd (not_duplicate three)
  not_found_more is more role line BadParam three = absurd (not_bad three)

  pub outside_more : note.status ≡ ExistsOutsideScope → ((r l : ℕ) → has_line rows r l ≡ (has_line before.outside r l || ((note.role == r) && (note.line == l))))
      → (role line : ℕ) (status : Status) → IsOfThree status → is_told (record before { outside = rows }) role line status ≡ (is_told before role line status || is_at role line status note)
  outside_more is more role line ExistsOutsideScope three = own note role line (has_line before.outside role line) (has_line rows role line) ExistsOutsideScope is (more role line)
  outside_more is more role line Success three = other note role line (has_line before.success role line) Success ExistsOutsideScope is refl
  outside_more is more role line NotFound three = other note role line (has_line before.not_found role line) NotFound ExistsOutsideScope is refl
  outside_more is more role line DuplicateKey three = absurd (not_duplicate three)
  outside_more is more role line BadParam three = absurd (not_bad three)

-- the other two are told nowhere
pub duplicate_more : (told : StatusesByLine) (note : Note) → note.status ≡ DuplicateKey → (role line : ℕ) (status : Status) → IsOfThree status
    → is_told told role line status ≡ (is_told told role line status || is_at role line status note)
duplicate_more told note is role line Success three = other note role line _ Success DuplicateKey is refl
duplicate_more told note is role line NotFound three = other note role line _ NotFound DuplicateKey is refl
duplicate_more told note is role line ExistsOutsideScope three = other note role line _ ExistsOutsideScope DuplicateKey is refl
duplicate_more told note is role line DuplicateKey three = absurd (not_duplicate three)
duplicate_more told note is role line BadParam three = absurd (not_bad three)

pub bad_more : (told : StatusesByLine) (note : Note) → note.status ≡ BadParam → (role line : ℕ) (status : Status) → IsOfThree status
    → is_told told role line status ≡ (is_told told role line status || is_at role line status note)
bad_more told note is role line Success three = other note role line _ Success BadParam is refl
bad_more told note is role line NotFound three = other note role line _ NotFound BadParam is refl
bad_more told note is role line ExistsOutsideScope three = other note role line _ ExistsOutsideScope BadParam is refl
bad_more told note is role line DuplicateKey three = absurd (not_duplicate three)
bad_more told note is role line BadParam three = absurd (not_bad three)
