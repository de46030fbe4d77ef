-- What a walk over calls or processes has added.
use Rattle.std.proofs.Common.{◌≡◌, ◌∙◌, ap, sym, refl, ℕ, ◌+◌, ◌<◌, ◌≤◌, List, [], ◌∷◌, ◌++◌, length, drop, append-nil, add-one, Some, get_or, Vec, Global, arith}
use Rattle.std.specs.Prelude.{slice_get}
use Rattle.std.proofs.lemmas.List.{drop_all, get_or-map, length-map}
use Rattle.std.proofs.lemmas.Option.{slice_get_within, slice_get_past, get_or_from_slice_get}
use Rattle.wire_types.specs.Texts.{lists_of}
use Rattle.wire_types.specs.declared.Call.{Call}
use Rattle.wire_types.specs.declared.CallEnd.{CallEnd}
use Rattle.wire_scripts.specs.Process.{Process}
use Rattle.wire_scripts.specs.Scripts.{Scripts, calls_in}
use Rattle.wire_pattern.specs.Pattern.{Pattern}
use Rattle.wire_pattern.specs.Planned.{steps_in}
use Rattle.wire_pattern.specs.Instances.{Cast}
use Rattle.wire_instances.proofs.Texts.{moved, opened_list}
use Rattle.wire_pattern_waits.specs.Places.{steps_places}
use Rattle.wire_pattern_answers.specs.declared.notes.Note.{Note}
use Rattle.wire_pattern_answers.specs.Notes.{note_for, process_notes, notes_from}

-- where no call is left, no note is
pub no_calls : (role : ℕ) (row : List CallEnd) (places : List ℕ) → process_notes role row [] places ≡ []
no_calls role [] places = refl
no_calls role (end ∷ ends) places = refl

-- nor where no line is left
pub no_places : (role : ℕ) (row : List CallEnd) (calls : List Call) → process_notes role row calls [] ≡ []
no_places role [] calls = refl
no_places role (end ∷ ends) [] = refl
no_places role (end ∷ ends) (call ∷ calls) = refl

-- nor of a process that isn't there
pub no_script : (s : Scripts) (ps : List Process) (v role : ℕ) (row : List CallEnd) (places : List ℕ) (out : List Note) → ps ≡ s.processes → length ps ≤ v
    → out ≡ out ++ process_notes role row (calls_in (slice_get s.processes v)) places
no_script s ps v role row places out are past =
    sym (ap (λ o. out ++ process_notes role row (calls_in o) places) (ap (λ qs. slice_get qs v) (sym are) ∙ slice_get_past ps v past)
    ∙ ap (λ t. out ++ t) (no_calls role row places) ∙ append-nil out)

-- the calls of one that is
pub script_calls : (s : Scripts) (ps : List Process) (v : ℕ) (script : Process) → ps ≡ s.processes → slice_get ps v ≡ Some script → script.calls ≡ calls_in (slice_get s.processes v)
script_calls s ps v script are at = sym (ap (λ qs. calls_in (slice_get qs v)) (sym are) ∙ ap calls_in at)

module _ (role n : ℕ) (row : List CallEnd) (calls : List Call) (places : List ℕ) (out all : List Note) (inv : out ++ process_notes role (drop n row) (drop n calls) (drop n places) ≡ all) where
  pub calls_end : length calls ≤ n → out ≡ all
  calls_end past =
      sym (ap (λ cs. out ++ process_notes role (drop n row) cs (drop n places)) (drop_all n calls past) ∙ ap (λ t. out ++ t) (no_calls role (drop n row) (drop n places)) ∙ append-nil out) ∙ inv

  pub places_end : length places ≤ n → out ≡ all
  places_end past =
      sym (ap (λ ls. out ++ process_notes role (drop n row) (drop n calls) ls) (drop_all n places past) ∙ ap (λ t. out ++ t) (no_places role (drop n row) (drop n calls)) ∙ append-nil out) ∙ inv

  -- one call more
  pub call_step : (end : CallEnd) (call : Call) (line : ℕ) (now : List Note) → n < length row → end ≡ get_or row n end → slice_get calls n ≡ Some call → slice_get places n ≡ Some line
      → now ≡ out ++ note_for role line end call → now ++ process_notes role (drop (n + 1) row) (drop (n + 1) calls) (drop (n + 1) places) ≡ all
  call_step end call line now h at of stands more =
      let c = slice_get_within calls n call of in
      let l = slice_get_within places n line stands in
      moved out now (note_for role line end call) (process_notes role (drop (n + 1) row) (drop (n + 1) calls) (drop (n + 1) places)) _ all more
      (ap (λ r. process_notes role r (drop n calls) (drop n places)) (opened_list row n end h at)
      ∙ ap (λ cs. process_notes role (end ∷ drop (n + 1) row) cs (drop n places)) (opened_list calls n call c (sym (get_or_from_slice_get calls n call call of)))
      ∙ ap (process_notes role (end ∷ drop (n + 1) row) (call ∷ drop (n + 1) calls)) (opened_list places n line l (sym (get_or_from_slice_get places n line line stands)))) inv

-- where no row is left, no note is
no_rows : (p : Pattern) (cast : Cast) (s : Scripts) (v : ℕ) (roles : List ℕ) → notes_from p cast s v roles [] ≡ []
no_rows p cast s v [] = refl
no_rows p cast s v (role ∷ roles) = refl

pub rows_end : (p : Pattern) (cast : Cast) (s : Scripts) (n : ℕ) (roles : List ℕ) (rows : List (List CallEnd)) (out all : List Note) → length rows ≤ n
    → out ++ notes_from p cast s n (drop n roles) (drop n rows) ≡ all → out ≡ all
rows_end p cast s n roles rows out all past inv =
    sym (ap (λ rs. out ++ notes_from p cast s n (drop n roles) rs) (drop_all n rows past) ∙ ap (λ t. out ++ t) (no_rows p cast s n (drop n roles)) ∙ append-nil out) ∙ inv

-- one process more
pub rows_step : (p : Pattern) (cast : Cast) (s : Scripts) (n role : ℕ) (roles : List ℕ) (rows : List (Vec CallEnd Global)) (row : Vec CallEnd Global) (out now all : List Note)
    → n < length roles → role ≡ get_or roles n role → slice_get rows n ≡ Some row
    → now ≡ out ++ process_notes role row.items (calls_in (slice_get s.processes n)) (steps_places cast n 0 1 (steps_in (slice_get p.roles role)))
    → out ++ notes_from p cast s n (drop n roles) (drop n (lists_of rows)) ≡ all
    → now ++ notes_from p cast s (n + 1) (drop (n + 1) roles) (drop (n + 1) (lists_of rows)) ≡ all
rows_step p cast s n role roles rows row out now all h at of more inv =
    let l = slice_get_within rows n row of in
    let own = process_notes role row.items (calls_in (slice_get s.processes n)) (steps_places cast n 0 1 (steps_in (slice_get p.roles role))) in
    moved out now own (notes_from p cast s (n + 1) (drop (n + 1) roles) (drop (n + 1) (lists_of rows))) _ all more
    (ap (λ rs. notes_from p cast s n rs (drop n (lists_of rows))) (opened_list roles n role h at)
    ∙ ap (notes_from p cast s n (role ∷ drop (n + 1) roles)) (opened_list (lists_of rows) n row.items (omega (arith, l, length-map rows (λ r. r.items)))
    (ap (λ r. r.items) (sym (get_or_from_slice_get rows n row row of)) ∙ sym (get_or-map (λ r. r.items) rows n row row.items l)))
    ∙ ap (λ m. own ++ notes_from p cast s m (drop (n + 1) roles) (drop (n + 1) (lists_of rows))) (sym (add-one n))) inv
