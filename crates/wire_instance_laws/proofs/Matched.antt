-- A call that was read is the call of the instance, under other numbers of keys and names.
use Rattle.std.proofs.Common.{◌≡◌, ◌∙◌, ap, sym, subst, refl, ℕ, ◌<◌, List, [], ◌∷◌, map, length, Bool, true, false, Option, Some, None, slice_get, flat_map, if◌then◌else◌}
use Rattle.std.specs.Prelude.{◌&&◌}
use Rattle.std.specs.List.{list_all}
use Rattle.wire_types.specs.Said as said
use Rattle.wire_types.specs.Said.{is_word, is_key, is_reserved}
use Rattle.wire_types.specs.declared.Reply.{Reply}
use Rattle.wire_runs.specs.Plan as runs
use Rattle.wire_runs.specs.Plan.{set_of}
use Rattle.wire_runs.specs.Patterns as plan
use Rattle.wire_runs.specs.Patterns.{Coding, Who, who, call_in, word_code}
use Rattle.wire_runs.specs.Restrictions.{on_nodes}
use Rattle.wire_runs.proofs.PlacingCalls.{without_said}
use Rattle.wire_runs.proofs.Lists.{slice_get-map_back, slice_get-map_kept}
use Rattle.wire_lines.proofs.Colon.{and_left, and_right}
use Rattle.wire_scripts.specs.Scripts.{text_at}
use Rattle.wire_scripts.specs.Planned as content
use Rattle.wire_scripts.specs.Planned.{planned_call, reply_of_key}
use Rattle.wire_reader.specs.FirstPass.{Started, Declared, is_among, number_or_count}
use Rattle.wire_reader.specs.Reads.{proc_number, set_members, keys_in, names_in, sets_in, in_calls, first_seen, seen_in, numbered, scripts_of}
use Rattle.wire_reader.proofs.Seen.{seen_among, among_flat, text_at_number, alone}
use Rattle.wire_pattern.specs.Pattern.{Indexed, Call, Put, Commit, Fence, Get, GetNow, Publish, Lookup, LookupWait, Unpublish, UnpublishAll, Pattern}
use Rattle.wire_pattern.specs.Planned.{unless_reserved, text_number, word_of, line_of, steps_in}
use Rattle.wire_pattern.specs.Instances.{Cast, IsCast, cast_of, job_at, rank_at, job_name, process_text, indexed_text, word_text, items_said, call_said}
use Rattle.wire_pattern.specs.Lawful.{is_base, has_words, is_known_who, whos_in, is_sound_call, IsSoundPattern}
use Rattle.wire_instance_laws.proofs.Roles.{EachOf, each_by_place, count_is, who_low}
use Rattle.wire_instance_laws.proofs.Made.{Turned, said_by, call_by, IsGoodCall, in_steps, steps_are_said}
use Rattle.wire_instance_laws.proofs.Digits.{text_by_number, text_back}
use Rattle.wire_instance_laws.proofs.Declared.{IsDeclaredAs, IsStarted, number_is}
use Rattle.wire_instance_laws.proofs.Words.{reserved_is}
use Rattle.wire_instance_laws.proofs.Sets.{set_is}
use Rattle.wire_instance_laws.proofs.Calls.{moved_call}

-- the text of a coded word
abbrev pub text_of_word : Pattern → Cast → Option (ℕ × List ℕ) → List ℕ
text_of_word p cast None = []
text_of_word p cast (Some w) = indexed_text (text_by_number w.0) (map (process_text p cast) w.1)

-- the number of its text in a table
abbrev pub new_number : Pattern → Cast → Coding → List (List ℕ) → ℕ → ℕ
new_number p cast coding table n = number_or_count table (text_of_word p cast (coding.decode n))

-- the tables have what a call names
pub record HasWords (d : Declared) (own : ℕ) (c : said.Call) : Type 0 where
  pub keys : (x : List ℕ) → is_among (keys_in c) x ≡ true → is_among (seen_in d).keys x ≡ true
  pub names : (x : List ℕ) → is_among (names_in c) x ≡ true → is_among (seen_in d).names x ≡ true
  pub sets : (x : List ℕ) → is_among (sets_in d own c) x ≡ true → is_among (seen_in d).sets x ≡ true

in_seen : (h : ℕ → said.Call → List (List ℕ)) (ps : List Started) (k : ℕ) (p : Started) (i : ℕ) (c : ℕ × said.Call) (x : List ℕ) → slice_get ps k ≡ Some p → slice_get p.calls i ≡ Some c
    → is_among (h p.job c.1) x ≡ true → is_among (first_seen (in_calls h ps)) x ≡ true
in_seen h ps k p i c x at is e =
    seen_among (in_calls h ps) x
    (among_flat (λ (q : Started). flat_map (λ (b : ℕ × said.Call). h q.job b.1) q.calls) ps k p x at (among_flat (λ (b : ℕ × said.Call). h p.job b.1) p.calls i c x is e))

call_has : (d : Declared) (k : ℕ) (p : Started) (i : ℕ) (c : ℕ × said.Call) → slice_get d.processes k ≡ Some p → slice_get p.calls i ≡ Some c → HasWords d p.job c.1
call_has d k p i c at is = record {
  keys = λ x e. in_seen (λ job. keys_in) d.processes k p i c x at is e;
  names = λ x e. in_seen (λ job. names_in) d.processes k p i c x at is e;
  sets = λ x e. in_seen (sets_in d) d.processes k p i c x at is e;
}

-- the number of a text that is there is that of the text
pub text_here : (table : List (List ℕ)) (text : List ℕ) → is_among table text ≡ true → text_at table (number_or_count table text) ≡ text
text_here table text h = (text_at_number table text h).1

pub base_bytes : (base : List ℕ) → is_base base ≡ true → list_all said.is_word_byte base ≡ true
base_bytes base h = and_right _ _ (and_left (is_word base) _ (and_left (is_key base) _ h))

module _ (p : Pattern) (cast : Cast) (sound : IsSoundPattern p) (is_cast : IsCast p cast) (a : IsDeclaredAs p cast) (coding : Coding) (nodes : ℕ → ℕ) where
  abbrev pub on : plan.Cast
  on = on_nodes nodes (cast_of cast)

  abbrev pub key : ℕ → ℕ
  key = new_number p cast coding (seen_in a.d).keys

  abbrev pub name : ℕ → ℕ
  name = new_number p cast coding (seen_in a.d).names

  -- the calls of a process are named in the tables
  pub words_there : (v role : ℕ) (st : Started) (i : IsStarted p cast sound is_cast a v role st) →
      EachOf (λ t. HasWords a.d st.job (said_by p cast v t)) (in_steps (cast_of cast) v 0 (steps_in (slice_get p.roles role)))
  words_there v role st i =
      let made = in_steps (cast_of cast) v 0 (steps_in (slice_get p.roles role)) in
      let same : map (λ (c : ℕ × said.Call). c.1) st.calls ≡ map (said_by p cast v) made = i.calls ∙ steps_are_said p cast v 0 (steps_in (slice_get p.roles role)) in
      each_by_place (λ t. HasWords a.d st.job (said_by p cast v t)) made (λ n t at.
      let back = slice_get-map_back (λ (c : ℕ × said.Call). c.1) st.calls n (said_by p cast v t)
      (ap (λ cs. slice_get cs n) same ∙ slice_get-map_kept (said_by p cast v) made n t at) in
      subst (HasWords a.d st.job) back.2 (call_has a.d v st n back.0 i.at back.1))

  module _ (v e : ℕ) (low : v < length (cast_of cast).roles) (low_e : e < length (cast_of cast).roles) where
    texts_same : (ws : List Who) → map (process_text p cast) (map (who on v e) ws) ≡ map (λ w. process_text p cast (who (cast_of cast) v e w)) ws
    texts_same [] = refl
    texts_same (w ∷ ws) = ap (λ ts. process_text p cast (who (cast_of cast) v e w) ∷ ts) (texts_same ws)

    pub word_number : (table : List (List ℕ)) (word : Indexed) → is_base word.base ≡ true
        → new_number p cast coding table (word_code coding on v e (word_of word)) ≡ number_or_count table (word_text p cast v e word)
    word_number table word h =
        ap (λ o. number_or_count table (text_of_word p cast o)) (coding.decodes (text_number word.base) (map (who on v e) word.indices))
        ∙ ap (number_or_count table) (λ i. indexed_text (text_back word.base (base_bytes word.base h) i) (texts_same word.indices i))

    word_reserved : (word : Indexed) → is_reserved (word_text p cast v e word) ≡ is_reserved word.base
    word_reserved word = reserved_is word.base (map (λ w. process_text p cast (who (cast_of cast) v e w)) word.indices)

    moved : plan.Line → runs.Call
    moved line = moved_call key name (call_in coding on v e line)

    -- a call of a word, by whether it is reserved
    word_case : (b : Bool) (r q : Reply) (call : runs.Call) (line : plan.Line) → without_said call ≡ without_said (moved_call key name (call_in coding on v e line))
        → without_said (if b then runs.CallFixed r else call) ≡ without_said (moved_call key name (call_in coding on v e (if b then plan.LineFixed q else line)))
    word_case true r q call line h = refl
    word_case false r q call line h = h

    of_word : (table : List (List ℕ)) (word : Indexed) (r q : Reply) (call : runs.Call) (line : plan.Line) → is_among table (word_text p cast v e word) ≡ true
        → without_said call ≡ without_said (moved_call key name (call_in coding on v e line))
        → without_said (content.unless_reserved (text_at table (number_or_count table (word_text p cast v e word))) r call)
        ≡ without_said (moved_call key name (call_in coding on v e (unless_reserved word q line)))
    of_word table word r q call line there h =
        ap (λ t. without_said (if is_reserved t then runs.CallFixed r else call)) (text_here table (word_text p cast v e word) there)
        ∙ ap (λ b. without_said (if b then runs.CallFixed r else call)) (word_reserved word)
        ∙ word_case (is_reserved word.base) r q call line h

    owner_is : (w : Who) → proc_number a.d (job_name p (job_at p cast (who (cast_of cast) v e w))) (rank_at p cast (who (cast_of cast) v e w)) ≡ who on v e w
    owner_is w = number_is p cast sound is_cast a (who (cast_of cast) v e w) (subst (λ n. who (cast_of cast) v e w < n) (count_is cast) (who_low (cast_of cast) v e w low low_e))

    first_base : (word : Indexed) (values : Bool) → (list_all (λ (w : Indexed). is_base w.base) (word ∷ []) && values) ≡ true → is_base word.base ≡ true
    first_base word values h = and_left (is_base word.base) true (and_left _ values h)

    module _ (role own : ℕ) where
      abbrev read : said.Call → runs.Call
      read c = without_said (planned_call (scripts_of a.d) (numbered a.d (seen_in a.d) own c))

      abbrev made : Call → runs.Call
      made c = without_said (moved_call key name (call_in coding on v e (line_of p.roles c)))

      pub call_matches : (c : Call) → is_sound_call (length p.jobs) p.roles role c ≡ true → HasWords a.d own (call_said p cast v e c) → read (call_said p cast v e c) ≡ made c
      call_matches (Put scope k value) h has =
          let text = word_text p cast v e k in
          let table = (seen_in a.d).keys in
          of_word table k _ _ (runs.CallPut (number_or_count table text) scope) (plan.LinePut (word_of k) scope) (has.keys text (alone text))
          (ap (λ n. runs.CallPut n scope) (sym (word_number table k (first_base k _ (and_left _ _ h)))))
      call_matches Commit h has = refl
      call_matches (Fence items collect) h has =
          let set = said.Listed (flat_map (items_said p cast v e) items) in
          let members = set_members a.d own set in
          let rest = and_left _ _ (and_right (has_words (Fence items collect)) _ h) in
          ap (λ xs. runs.CallFence xs collect)
          (text_here (seen_in a.d).sets members (has.sets members (alone members))
          ∙ set_is p cast sound is_cast a nodes v e low low_e own items (and_right (list_all (is_known_who p.roles) (whos_in (Fence items collect))) _ rest))
      call_matches (Get owner k) h has =
          let text = word_text p cast v e k in
          let table = (seen_in a.d).keys in
          of_word table k _ _ (runs.CallGet (proc_number a.d (job_name p (job_at p cast (who (cast_of cast) v e owner))) (rank_at p cast (who (cast_of cast) v e owner))) (number_or_count table text))
          (plan.LineGet owner (word_of k)) (has.keys text (alone text))
          (λ i. runs.CallGet (owner_is owner i) (sym (word_number table k (first_base k _ (and_left _ _ h))) i))
      call_matches (GetNow owner k) h has =
          let text = word_text p cast v e k in
          let table = (seen_in a.d).keys in
          of_word table k _ _ (runs.CallGetNow (proc_number a.d (job_name p (job_at p cast (who (cast_of cast) v e owner))) (rank_at p cast (who (cast_of cast) v e owner))) (number_or_count table text))
          (plan.LineGetNow owner (word_of k)) (has.keys text (alone text))
          (λ i. runs.CallGetNow (owner_is owner i) (sym (word_number table k (first_base k _ (and_left _ _ h))) i))
      call_matches (Publish n value) h has =
          let text = word_text p cast v e n in
          let table = (seen_in a.d).names in
          of_word table n _ _ (runs.CallPublish (number_or_count table text)) (plan.LinePublish (word_of n)) (has.names text (alone text))
          (ap (λ k. runs.CallPublish k) (sym (word_number table n (first_base n _ (and_left _ _ h)))))
      call_matches (Lookup n) h has =
          let text = word_text p cast v e n in
          let table = (seen_in a.d).names in
          of_word table n _ _ (runs.CallLookup (number_or_count table text)) (plan.LineLookup (word_of n)) (has.names text (alone text))
          (ap (λ k. runs.CallLookup k) (sym (word_number table n (first_base n _ (and_left _ _ h)))))
      call_matches (LookupWait n) h has =
          let text = word_text p cast v e n in
          let table = (seen_in a.d).names in
          of_word table n _ _ (runs.CallLookupWait (number_or_count table text)) (plan.LineLookupWait (word_of n)) (has.names text (alone text))
          (ap (λ k. runs.CallLookupWait k) (sym (word_number table n (first_base n _ (and_left _ _ h)))))
      call_matches (Unpublish n) h has =
          let text = word_text p cast v e n in
          let table = (seen_in a.d).names in
          of_word table n _ _ (runs.CallUnpublish (number_or_count table text)) (plan.LineUnpublish (word_of n)) (has.names text (alone text))
          (ap (λ k. runs.CallUnpublish k) (sym (word_number table n (first_base n _ (and_left _ _ h)))))
      call_matches UnpublishAll h has = refl

  -- the calls of a process
  pub calls_match : (v role own : ℕ) → v < length (cast_of cast).roles → (ts : List Turned) → EachOf (IsGoodCall p (length (cast_of cast).roles) role) ts
      → EachOf (λ t. HasWords a.d own (said_by p cast v t)) ts
      → map without_said (map (planned_call (scripts_of a.d)) (map (numbered a.d (seen_in a.d) own) (map (said_by p cast v) ts)))
      ≡ map without_said (map (moved_call key name) (map (call_by p.roles coding on v) ts))
  calls_match v role own low [] good has = refl
  calls_match v role own low (t ∷ ts) good has =
      λ i. call_matches v t.0 low good.0.each role own t.1.call good.0.sound has.0 i ∷ calls_match v role own low ts good.1 has.1 i
