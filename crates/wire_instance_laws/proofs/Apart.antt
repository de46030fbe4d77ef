-- No two keys, and no two names, of an instance get one number.
use Rattle.std.proofs.Common.{◌≡◌, ◌∙◌, ap, sym, subst, refl, ℕ, ◌<◌, List, [], ◌∷◌, map, length, Bool, true, false, Option, Some, None, if◌then◌else◌}
use Rattle.std.specs.Prelude.{◌&&◌}
use Rattle.std.specs.List.{list_all}
use Rattle.std.proofs.lemmas.Option.{none-some, same_Some}
use Rattle.wire_types.specs.Said as said
use Rattle.wire_types.specs.Said.{AreLawful, spelled_item, is_reserved}
use Rattle.wire_types.specs.declared.Reply.{Reply}
use Rattle.wire_runs.specs.Plan as runs
use Rattle.wire_runs.specs.Patterns as plan
use Rattle.wire_runs.specs.Patterns.{Coding, Who, who, call_in, word_code}
use Rattle.wire_runs.specs.Restrictions.{on_nodes}
use Rattle.wire_lines.proofs.Colon.{and_left}
use Rattle.wire_scripts.specs.Scripts.{text_at}
use Rattle.wire_reader.specs.FirstPass.{is_among, number_or_count}
use Rattle.wire_reader.specs.Reads.{proc_number, seen_in}
use Rattle.wire_reader.proofs.Seen.{alone}
use Rattle.wire_pattern.specs.Pattern.{Indexed, Call, Put, Commit, Fence, Get, GetNow, Publish, Lookup, LookupWait, Unpublish, UnpublishAll, Pattern}
use Rattle.wire_pattern.specs.Planned.{text_number, word_of, line_of}
use Rattle.wire_pattern.specs.Instances.{Cast, IsCast, cast_of, process_text, process_item, indexed_text, word_text, call_said}
use Rattle.wire_pattern.specs.Lawful.{is_base, is_sound_call, IsSoundPattern}
use Rattle.wire_instance_laws.proofs.Roles.{EachOf, count_is, who_low}
use Rattle.wire_instance_laws.proofs.Lawful.{process_lawful}
use Rattle.wire_instance_laws.proofs.Digits.{text_back}
use Rattle.wire_instance_laws.proofs.Declared.{IsDeclaredAs, number_is}
use Rattle.wire_instance_laws.proofs.Words.{indexed_once}
use Rattle.wire_instance_laws.proofs.Calls.{key_in, name_in}
use Rattle.wire_instance_laws.proofs.Matched.{text_of_word, new_number, HasWords, text_here, base_bytes}

-- a number of a word of processes, the text of which is in the table
pub record IsUsed (p : Pattern) (cast : Cast) (coding : Coding) (table : List (List ℕ)) (n : ℕ) : Type 0 where
  pub base : List ℕ
  pub is_base : is_base base ≡ true
  pub indices : List ℕ
  pub low : EachOf (λ q. q < length (cast_of cast).roles) indices
  pub code : coding.code (text_number base) indices ≡ n
  pub there : is_among table (indexed_text base (map (process_text p cast) indices)) ≡ true

module _ (p : Pattern) (cast : Cast) (sound : IsSoundPattern p) (is_cast : IsCast p cast) (a : IsDeclaredAs p cast) (coding : Coding) where
  -- texts of processes are items of a set
  spelled : (qs : List ℕ) → map (process_text p cast) qs ≡ map spelled_item (map (process_item p cast) qs)
  spelled [] = refl
  spelled (q ∷ qs) = ap (λ ts. process_text p cast q ∷ ts) (spelled qs)

  lawful : (qs : List ℕ) → EachOf (λ q. q < length (cast_of cast).roles) qs → AreLawful (map (process_item p cast) qs)
  lawful [] h = tt
  lawful (q ∷ qs) h = (process_lawful p cast sound is_cast a.few q h.0, lawful qs h.1)

  -- the number of a process from what its item says
  abbrev number_of : said.Item → ℕ
  number_of (said.One job rank) = proc_number a.d job rank
  number_of (said.Every job) = 0

  numbers : (qs : List ℕ) → EachOf (λ q. q < length (cast_of cast).roles) qs → map number_of (map (process_item p cast) qs) ≡ qs
  numbers [] h = refl
  numbers (q ∷ qs) h =
      λ i. number_is p cast sound is_cast a q (subst (λ n. q < n) (count_is cast) h.0) i ∷ numbers qs h.1 i

  text_is : (table : List (List ℕ)) (n : ℕ) (u : IsUsed p cast coding table n)
      → text_at table (new_number p cast coding table n) ≡ indexed_text u.base (map spelled_item (map (process_item p cast) u.indices))
  text_is table n u =
      let text = indexed_text u.base (map (process_text p cast) u.indices) in
      let same : new_number p cast coding table n ≡ number_or_count table text =
      ap (new_number p cast coding table) (sym u.code)
      ∙ ap (λ o. number_or_count table (text_of_word p cast o)) (coding.decodes (text_number u.base) u.indices)
      ∙ ap (λ b. number_or_count table (indexed_text b (map (process_text p cast) u.indices))) (text_back u.base (base_bytes u.base u.is_base)) in
      ap (text_at table) same ∙ text_here table text u.there ∙ ap (indexed_text u.base) (spelled u.indices)

  pub used_once : (table : List (List ℕ)) (m n : ℕ) → IsUsed p cast coding table m → IsUsed p cast coding table n
      → new_number p cast coding table m ≡ new_number p cast coding table n → m ≡ n
  used_once table m n u w e =
      let texts = sym (text_is table m u) ∙ ap (text_at table) e ∙ text_is table n w in
      let once = indexed_once u.base w.base (map (process_item p cast) u.indices) (map (process_item p cast) w.indices) u.is_base w.is_base (lawful u.indices u.low) (lawful w.indices w.low) texts in
      let indices : u.indices ≡ w.indices = sym (numbers u.indices u.low) ∙ ap (map number_of) once.1 ∙ numbers w.indices w.low in
      sym u.code ∙ (λ i. coding.code (text_number (once.0 i)) (indices i)) ∙ w.code

  module _ (nodes : ℕ → ℕ) (v e : ℕ) (low : v < length (cast_of cast).roles) (low_e : e < length (cast_of cast).roles) where
    abbrev on : plan.Cast
    on = on_nodes nodes (cast_of cast)

    indices_low : (ws : List Who) → EachOf (λ q. q < length (cast_of cast).roles) (map (who on v e) ws)
    indices_low [] = tt
    indices_low (w ∷ ws) = (who_low (cast_of cast) v e w low low_e, indices_low ws)

    texts_same : (ws : List Who) → map (process_text p cast) (map (who on v e) ws) ≡ map (λ w. process_text p cast (who (cast_of cast) v e w)) ws
    texts_same [] = refl
    texts_same (w ∷ ws) = ap (λ ts. process_text p cast (who (cast_of cast) v e w) ∷ ts) (texts_same ws)

    word_used : (table : List (List ℕ)) (word : Indexed) (n : ℕ) → is_base word.base ≡ true → is_among table (word_text p cast v e word) ≡ true
        → word_code coding on v e (word_of word) ≡ n → IsUsed p cast coding table n
    word_used table word n h there is = record {
      base = word.base;
      is_base = h;
      indices = map (who on v e) word.indices;
      low = indices_low word.indices;
      code = is;
      there = ap (λ ts. is_among table (indexed_text word.base ts)) (texts_same word.indices) ∙ there;
    }

    -- the word of a call that isn't reserved
    by_case : (f : runs.Call → Option ℕ) (b : Bool) (q : Reply) (line : plan.Line) (m n : ℕ) → f (runs.CallFixed q) ≡ None → f (call_in coding on v e line) ≡ Some m
        → f (call_in coding on v e (if b then plan.LineFixed q else line)) ≡ Some n → m ≡ n
    by_case f true q line m n none is h = absurd (none-some n (sym none ∙ h))
    by_case f false q line m n none is h = same_Some _ _ (sym is ∙ h)

    no_word : (f : runs.Call → Option ℕ) (b : Bool) (q : Reply) (line : plan.Line) (n : ℕ) → f (runs.CallFixed q) ≡ None → f (call_in coding on v e line) ≡ None
        → f (call_in coding on v e (if b then plan.LineFixed q else line)) ≡ Some n → ⊥
    no_word f true q line n none is h = none-some n (sym none ∙ h)
    no_word f false q line n none is h = none-some n (sym is ∙ h)

    first_base : (word : Indexed) (values : Bool) → (list_all (λ (w : Indexed). is_base w.base) (word ∷ []) && values) ≡ true → is_base word.base ≡ true
    first_base word values h = and_left (is_base word.base) true (and_left _ values h)

    module _ (role own : ℕ) (n : ℕ) where
      abbrev called : Call → runs.Call
      called c = call_in coding on v e (line_of p.roles c)

      pub key_of_call : (c : Call) → is_sound_call (length p.jobs) p.roles role c ≡ true → HasWords a.d own (call_said p cast v e c) → key_in (called c) ≡ Some n
          → IsUsed p cast coding (seen_in a.d).keys n
      key_of_call (Put scope k value) h has is =
          word_used (seen_in a.d).keys k n (first_base k _ (and_left _ _ h)) (has.keys (word_text p cast v e k) (alone (word_text p cast v e k))) (by_case key_in (is_reserved k.base) _ (plan.LinePut (word_of k) scope) _ n refl refl is)
      key_of_call Commit h has is = absurd (none-some n is)
      key_of_call (Fence items collect) h has is = absurd (none-some n is)
      key_of_call (Get owner k) h has is =
          word_used (seen_in a.d).keys k n (first_base k _ (and_left _ _ h)) (has.keys (word_text p cast v e k) (alone (word_text p cast v e k))) (by_case key_in (is_reserved k.base) _ (plan.LineGet owner (word_of k)) _ n refl refl is)
      key_of_call (GetNow owner k) h has is =
          word_used (seen_in a.d).keys k n (first_base k _ (and_left _ _ h)) (has.keys (word_text p cast v e k) (alone (word_text p cast v e k))) (by_case key_in (is_reserved k.base) _ (plan.LineGetNow owner (word_of k)) _ n refl refl is)
      key_of_call (Publish w value) h has is = absurd (no_word key_in (is_reserved w.base) _ (plan.LinePublish (word_of w)) n refl refl is)
      key_of_call (Lookup w) h has is = absurd (no_word key_in (is_reserved w.base) _ (plan.LineLookup (word_of w)) n refl refl is)
      key_of_call (LookupWait w) h has is = absurd (no_word key_in (is_reserved w.base) _ (plan.LineLookupWait (word_of w)) n refl refl is)
      key_of_call (Unpublish w) h has is = absurd (no_word key_in (is_reserved w.base) _ (plan.LineUnpublish (word_of w)) n refl refl is)
      key_of_call UnpublishAll h has is = absurd (none-some n is)

      pub name_of_call : (c : Call) → is_sound_call (length p.jobs) p.roles role c ≡ true → HasWords a.d own (call_said p cast v e c) → name_in (called c) ≡ Some n
          → IsUsed p cast coding (seen_in a.d).names n
      name_of_call (Put scope k value) h has is = absurd (no_word name_in (is_reserved k.base) _ (plan.LinePut (word_of k) scope) n refl refl is)
      name_of_call Commit h has is = absurd (none-some n is)
      name_of_call (Fence items collect) h has is = absurd (none-some n is)
      name_of_call (Get owner k) h has is = absurd (no_word name_in (is_reserved k.base) _ (plan.LineGet owner (word_of k)) n refl refl is)
      name_of_call (GetNow owner k) h has is = absurd (no_word name_in (is_reserved k.base) _ (plan.LineGetNow owner (word_of k)) n refl refl is)
      name_of_call (Publish w value) h has is =
          word_used (seen_in a.d).names w n (first_base w _ (and_left _ _ h)) (has.names (word_text p cast v e w) (alone (word_text p cast v e w))) (by_case name_in (is_reserved w.base) _ (plan.LinePublish (word_of w)) _ n refl refl is)
      name_of_call (Lookup w) h has is =
          word_used (seen_in a.d).names w n (first_base w _ (and_left _ _ h)) (has.names (word_text p cast v e w) (alone (word_text p cast v e w))) (by_case name_in (is_reserved w.base) _ (plan.LineLookup (word_of w)) _ n refl refl is)
      name_of_call (LookupWait w) h has is =
          word_used (seen_in a.d).names w n (first_base w _ (and_left _ _ h)) (has.names (word_text p cast v e w) (alone (word_text p cast v e w))) (by_case name_in (is_reserved w.base) _ (plan.LineLookupWait (word_of w)) _ n refl refl is)
      name_of_call (Unpublish w) h has is =
          word_used (seen_in a.d).names w n (first_base w _ (and_left _ _ h)) (has.names (word_text p cast v e w) (alone (word_text p cast v e w))) (by_case name_in (is_reserved w.base) _ (plan.LineUnpublish (word_of w)) _ n refl refl is)
      name_of_call UnpublishAll h has is = absurd (none-some n is)
