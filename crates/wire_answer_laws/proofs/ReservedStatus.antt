-- With which status a get-now of a reserved key is answered: the text of the key tells, and of an indexed one it is the
-- same whatever processes index it.
use Rattle.std.proofs.Common.{◌≡◌, ◌∙◌, ap, sym, refl, ℕ, ◌<◌, List, [], ◌∷◌, ◌++◌, map, length, Bool, true, false, Some}
use Rattle.std.specs.Prelude.{slice_get, codes, not, nat_lt, ◌==◌}
use Rattle.std.specs.List.{list_all, join_with_byte}
use Rattle.std.specs.Str.{bytes_eq}
use Rattle.std.proofs.lemmas.Bool.{cond-true, cond-false, lt-ltb, and_parts, false_from_ne_true, true≢false}
use Rattle.std.proofs.lemmas.Slice.Eq.{bytes_eq-Decides}
use Rattle.wire_types.specs.declared.Call.TheVariants.{GetNow}
use Rattle.wire_types.specs.declared.Proc.{Proc}
use Rattle.wire_types.specs.declared.Reply.{Reply}
use Rattle.wire_types.specs.declared.Status.{Status}
use Rattle.wire_types.specs.declared.Status.TheVariants.{NotFound}
use Rattle.wire_types.specs.Said.{is_reserved}
use Rattle.wire_runs.specs.Plan as runs
use Rattle.wire_runs.specs.Plan.{Event, Kind, kind, kind_at, process_count}
use Rattle.wire_runs.specs.Ends.{calls_of}
use Rattle.wire_runs.specs.Races.{IsSettled}
use Rattle.wire_scripts.specs.Reserved.{reserved_reply}
use Rattle.wire_scripts.specs.Scripts.{Scripts, text_at, call_at}
use Rattle.wire_scripts.specs.Planned.{reply_of_key, planned_call, plan_of}
use Rattle.wire_pattern.specs.Instances.{indexed_text}
use Rattle.wire_pattern_laws.specs.Finds.{status_of}
use Rattle.wire_pattern_answers.specs.FewPlacings.{IsAnsweredWith}
use Rattle.wire_pattern_answers.proofs.Calls.{first_kind, kind_there, place_in, planned_there}
use Rattle.wire_pattern_answers.proofs.Events.{kinds_are, said_status, answer_is, row_to}
use Rattle.wire_pattern_answers.proofs.Placed.{reserved_alike}

abbrev pub reserved_status : List ℕ → Status
reserved_status text = (reserved_reply [] 0 text).status

abbrev is_plain : ℕ → Bool
is_plain b = not (b == 91)

-- no word of the process map has a bracket
has_bracket : (base rest : List ℕ) → list_all is_plain (base ++ 91 ∷ rest) ≡ true → ⊥
has_bracket [] rest h = true≢false (sym h)
has_bracket (b ∷ base) rest h = has_bracket base rest (and_parts (is_plain b) _ h).1

unlike : (base rest word : List ℕ) → list_all is_plain word ≡ true → bytes_eq (base ++ 91 ∷ rest) word ≡ false
unlike base rest word plain =
    false_from_ne_true _ (λ e. has_bracket base rest (ap (list_all is_plain) ((bytes_eq-Decides (base ++ 91 ∷ rest) word).0 e) ∙ plain))

not_found : (base rest : List ℕ) → reserved_status (base ++ 91 ∷ rest) ≡ NotFound
not_found base rest =
    ap (λ (r : Reply). r.status)
    (cond-false _ _ _ (unlike base rest (codes "PMIX_RANK") refl) ∙ cond-false _ _ _ (unlike base rest (codes "PMIX_LOCAL_RANK") refl)
    ∙ cond-false _ _ _ (unlike base rest (codes "PMIX_NODE_RANK") refl) ∙ cond-false _ _ _ (unlike base rest (codes "PMIX_JOB_SIZE") refl)
    ∙ cond-false _ _ _ (unlike base rest (codes "PMIX_HOSTNAME") refl))

pub indexed_alike : {A : Type 0} (base : List ℕ) (indices : List A) (f g : A → List ℕ)
    → reserved_status (indexed_text base (map f indices)) ≡ reserved_status (indexed_text base (map g indices))
indexed_alike base [] f g = refl
indexed_alike base (w ∷ indices) f g =
    not_found base (join_with_byte 44 (f w ∷ map f indices) ++ 93 ∷ []) ∙ sym (not_found base (join_with_byte 44 (g w ∷ map g indices) ++ 93 ∷ []))

-- of a process that is there
key_status : (s : Scripts) (owner key : ℕ) → owner < length s.processes → (reply_of_key s owner key).status ≡ reserved_status (text_at s.keys key)
key_status s owner key lt =
    ap (λ (r : Reply). r.status) (cond-true (nat_lt owner (length s.processes)) _ _ (lt-ltb owner (length s.processes) lt))
    ∙ reserved_alike s.processes [] owner 0 (text_at s.keys key)

module _ (s : Scripts) (settled : IsSettled (plan_of s)) (v c : ℕ) (owner : Proc) (key : ℕ) (within : v < process_count (plan_of s))
    (is : call_at s.processes v c ≡ Some (GetNow owner key)) (reserved : is_reserved (text_at s.keys key) ≡ true)
    (there : owner.number < length s.processes) where
  abbrev pub x : Event
  x = record { proc = v; at = place_in s v c }

  abbrev pub fixed : Kind
  fixed = runs.Fixed (reply_of_key s owner.number key)

  pub kind_is : kind (plan_of s) x ≡ Some fixed
  unfolding kind_at
  kind_is =
      ap (λ ks. slice_get ks (place_in s v c)) (kinds_are (plan_of s) v)
      ∙ kind_there (calls_of (plan_of s) v) c (planned_call s (GetNow owner key)) (planned_there s v c (GetNow owner key) is)
      ∙ ap first_kind (cond-true _ _ _ reserved)

  pub reserved_answer : (status : Status) → IsAnsweredWith s v c status → status ≡ reserved_status (text_at s.keys key)
  reserved_answer status h =
      let r = row_to (plan_of s) settled v c (place_in s v c) fixed within refl kind_is refl h.reply h.is in
      let a = answer_is (plan_of s) settled x r.0 fixed kind_is r.1 in
      sym h.has ∙ sym (said_status (plan_of s) r.0 h.reply r.2) ∙ ap status_of a.1 ∙ key_status s owner.number key there
