-- What the text of an instance reads as has a get-now where a line of the pattern says so, and nowhere else.
use Rattle.std.proofs.Common.{◌≡◌, ◌∙◌, ap, sym, subst, refl, ℕ, ◌<◌, List, length, true, Some}
use Rattle.std.specs.Prelude.{slice_get, Ok}
use Rattle.std.proofs.lemmas.Bool.{true≢false}
use Rattle.std.proofs.lemmas.List.{length-map}
use Rattle.wire_types.specs.Said as said
use Rattle.wire_types.specs.declared.Call.TheVariants as call
use Rattle.wire_types.specs.declared.Proc.{Proc}
use Rattle.wire_runs.specs.Patterns.{Who, who}
use Rattle.wire_runs.proofs.Codings.{have_coding}
use Rattle.wire_runs.proofs.Lists.{slice_get-map_kept, slice_get-map_back}
use Rattle.wire_scripts.specs.Scripts.{Scripts, text_at, calls_in, call_at}
use Rattle.wire_reader.specs.declared.limits.Size.{Size}
use Rattle.wire_reader.specs.FirstPass.{Started, Declared, is_among, number_or_count}
use Rattle.wire_reader.specs.Reads.{Reads, proc_number, keys_in, seen_in, numbered, process_of, scripts_of}
use Rattle.wire_reader.proofs.Seen.{alone}
use Rattle.wire_pattern.specs.Pattern.{Indexed, Call, Put, Commit, Fence, Get, GetNow, Publish, Lookup, LookupWait, Unpublish, UnpublishAll, Pattern}
use Rattle.wire_pattern.specs.Planned.{steps_in}
use Rattle.wire_pattern.specs.Instances.{Cast, IsCast, process_count, cast_of, word_text, owner_job, owner_rank, call_said, instance_text}
use Rattle.wire_pattern.specs.Lawful.{IsSoundPattern}
use Rattle.wire_instance_laws.proofs.Declared.{IsDeclaredAs, declared_as, IsStarted, as_many, started, number_is}
use Rattle.wire_instance_laws.proofs.Lawful.{made_good}
use Rattle.wire_instance_laws.proofs.Made.{Turned, in_steps, said_by, steps_are_said, IsGoodCall}
use Rattle.wire_instance_laws.proofs.Matched.{HasWords, words_there, text_here}
use Rattle.wire_instance_laws.proofs.Roles.{each_at, count_is, there, who_low}
use Rattle.wire_pattern_answers.specs.FewPlacings.{asks_now}

-- a line that is a get-now
pub record IsGetNow (c : Call) : Type 0 where
  pub owner : Who
  pub word : Indexed
  pub is : c ≡ GetNow owner word

get_now_line : (d : Declared) (job : ℕ) (p : Pattern) (cast : Cast) (v e : ℕ) (c : Call)
    → asks_now (Some (numbered d (seen_in d) job (call_said p cast v e c))) ≡ true → IsGetNow c
get_now_line d job p cast v e (GetNow owner word) asks = record { owner = owner; word = word; is = refl }
get_now_line d job p cast v e (Put scope word value) other_call = absurd (true≢false (sym other_call))
get_now_line d job p cast v e Commit other_call = absurd (true≢false (sym other_call))
get_now_line d job p cast v e (Fence items collect) other_call = absurd (true≢false (sym other_call))
get_now_line d job p cast v e (Get owner word) other_call = absurd (true≢false (sym other_call))
get_now_line d job p cast v e (Publish word value) other_call = absurd (true≢false (sym other_call))
get_now_line d job p cast v e (Lookup word) other_call = absurd (true≢false (sym other_call))
get_now_line d job p cast v e (LookupWait word) other_call = absurd (true≢false (sym other_call))
get_now_line d job p cast v e (Unpublish word) other_call = absurd (true≢false (sym other_call))
get_now_line d job p cast v e UnpublishAll other_call = absurd (true≢false (sym other_call))

-- the call of a process is a get-now of the key of this text, of a process that is there
pub record AsksFor (s : Scripts) (v c : ℕ) (text : List ℕ) : Type 0 where
  pub owner : Proc
  pub key : ℕ
  pub is : call_at s.processes v c ≡ Some (call.GetNow owner key)
  pub there : owner.number < length s.processes
  pub text_is : text_at s.keys key ≡ text

module _ (p : Pattern) (cast : Cast) (sound : IsSoundPattern p) (is_cast : IsCast p cast) (size : Size) (s : Scripts)
    (reads : Reads size (instance_text p cast) (Ok s)) where
  declared : (a : IsDeclaredAs p cast) × (s ≡ scripts_of a.d)
  declared = declared_as p cast sound is_cast size s reads

  abbrev d : Declared
  d = declared.0.d

  many : length s.processes ≡ process_count cast
  many = ap (λ (x : Scripts). length x.processes) declared.1 ∙ length-map d.processes (process_of d (seen_in d)) ∙ as_many p cast sound is_cast declared.0

  module _ (v role c : ℕ) (t : Turned) (has : slice_get (cast_of cast).roles v ≡ Some role)
      (at : slice_get (in_steps (cast_of cast) v 0 (steps_in (slice_get p.roles role))) c ≡ Some t) where
    abbrev made : List Turned
    made = in_steps (cast_of cast) v 0 (steps_in (slice_get p.roles role))

    begun : (st : Started) × IsStarted p cast sound is_cast declared.0 v role st
    begun = started p cast sound is_cast declared.0 v role has

    abbrev job : ℕ
    job = begun.0.job

    -- the call is what the line says in the turn
    call_is : call_at s.processes v c ≡ Some (numbered d (seen_in d) job (said_by p cast v t))
    call_is =
        let back = slice_get-map_back (λ (x : ℕ × said.Call). x.1) begun.0.calls c (said_by p cast v t)
        (ap (λ cs. slice_get cs c) (begun.1.calls ∙ steps_are_said p cast v 0 (steps_in (slice_get p.roles role)))
        ∙ slice_get-map_kept (said_by p cast v) made c t at) in
        ap (λ (x : Scripts). call_at x.processes v c) declared.1
        ∙ ap (λ o. slice_get (calls_in o) c) (slice_get-map_kept (process_of d (seen_in d)) d.processes v begun.0 begun.1.at)
        ∙ slice_get-map_kept (λ (x : ℕ × said.Call). numbered d (seen_in d) job x.1) begun.0.calls c back.0 back.1
        ∙ ap (λ x. Some (numbered d (seen_in d) job x)) back.2

    pub line_asks : asks_now (call_at s.processes v c) ≡ true → IsGetNow t.1.call
    line_asks asks = get_now_line d job p cast v t.0 t.1.call (ap asks_now (sym call_is) ∙ asks)

    words : HasWords d job (said_by p cast v t)
    words = each_at _ made c t (words_there p cast sound is_cast declared.0 have_coding (λ n. n) v role begun.0 begun.1) at

    good : IsGoodCall p (length (cast_of cast).roles) role t
    good = each_at _ made c t (made_good p cast sound is_cast declared.0.few v role has) at

    module _ (owner : Who) (word : Indexed) (is : t.1.call ≡ GetNow owner word) where
      abbrev text : List ℕ
      text = word_text p cast v t.0 word

      abbrev asked : ℕ
      asked = who (cast_of cast) v t.0 owner

      low : asked < process_count cast
      low = subst (λ n. asked < n) (count_is cast) (who_low (cast_of cast) v t.0 owner (there (cast_of cast).roles v role has) good.each)

      seen : is_among (seen_in d).keys text ≡ true
      seen = words.keys text (ap (λ x. is_among (keys_in (call_said p cast v t.0 x)) text) is ∙ alone text)

      pub asks_for : AsksFor s v c text
      asks_for = record {
        owner = record { number = proc_number d (owner_job p cast v t.0 owner) (owner_rank p cast v t.0 owner) };
        key = number_or_count (seen_in d).keys text;
        is = call_is ∙ ap (λ x. Some (numbered d (seen_in d) job (call_said p cast v t.0 x))) is;
        there = subst (λ n. n < length s.processes) (sym (number_is p cast sound is_cast declared.0 asked low)) (subst (λ n. asked < n) (sym many) low);
        text_is = ap (λ (x : Scripts). text_at x.keys (number_or_count (seen_in d).keys text)) declared.1 ∙ text_here (seen_in d).keys text seen;
      }
