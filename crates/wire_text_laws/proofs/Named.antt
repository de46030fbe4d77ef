-- The text of a process names this process and no other.
use Rattle.std.proofs.Common.{◌≡◌, ◌∙◌, ap, sym, subst, refl, ℕ, zero, suc, ◌+◌, ◌<◌, ◌≤◌, ◌^◌, List, [], ◌∷◌, Bool, true, false, cond, Some, option_map, length, map, decimal, IsTrue, arith}
use Rattle.std.proofs.Common.{position, length-append}
use Rattle.std.specs.Prelude.{◌==◌, not, slice_get}
use Rattle.std.specs.List.{list_all, position_or_len}
use Rattle.std.specs.Str.{bytes_eq}
use Rattle.std.proofs.lemmas.Fmt.{decimal_injective, length-decimal-le}
use Rattle.std.proofs.lemmas.Option.{slice_get-map, slice_get_within}
use Rattle.std.proofs.lemmas.Slice.Eq.{bytes_eq-Decides}
use Rattle.wire_runs.proofs.Lists.{slice_get-map_back}
use borrow.Author.Tests.{lt-ltb, leb-true}
use Rattle.wire_lines.specs.Said.{is_word, is_name, is_name_byte, spelled_proc}
use Rattle.wire_lines.proofs.Colon.{plain, and_right, names_plain, cut_once}
use Rattle.wire_scripts.specs.Scripts.{Scripts, text_at}
use Rattle.wire_scripts.specs.Canonical.{process_text}
use Rattle.wire_reader.specs.Statements.{is_skipped}
use Rattle.wire_reader.specs.FirstPass.{Started, Declared, number_or_count}
use Rattle.wire_reader.specs.Reads.{seen_in, process_of, scripts_of}
use Rattle.wire_reader.proofs.Ranked.{IsGood, below_at, rank_most, name_at, number_at, one_process}
use Rattle.wire_reader.specs.Order.{proc_named}
use Rattle.wire_words.specs.Words.{name_of, text_of_process}
use Rattle.wire_reader.proofs.Recut.{proc_word}
use Rattle.wire_text_laws.proofs.Lines.{proc_counts}

-- the first place that passes is the only one that does
place_is : {X : Type 0} (t : X → Bool) (xs : List X) (p : ℕ) (x : X) → slice_get xs p ≡ Some x → t x ≡ true
    → ((k : ℕ) (y : X) → slice_get xs k ≡ Some y → t y ≡ true → k ≡ p) → position_or_len t xs ≡ p
place_is t [] p x at h only = absurd (cc)
place_is t (y ∷ ys) zero x at h only = let same : y ≡ x = cc in let yes : t y ≡ true = ap t same ∙ h in rw yes refl
place_is t (y ∷ ys) (suc p) x at h only = elim (t y) as (λ b. t y ≡ b → cond (not b) (1 + position_or_len t ys) 0 ≡ suc p) [
  | true ↦ λ e. absurd (let bad = only zero y refl e in omega (arith, bad))
  | false ↦ λ e.
      let rest = place_is t ys p x at h (λ k z a b. let o = only (suc k) z a b in omega (arith, o)) in
      omega (arith, rest)
] refl

position_is : {X : Type 0} (t : X → Bool) (xs : List X) (p : ℕ) (x : X) → slice_get xs p ≡ Some x → t x ≡ true
    → ((k : ℕ) (y : X) → slice_get xs k ≡ Some y → t y ≡ true → k ≡ p) → position t xs ≡ Some p
position_is t xs p x at h only =
    let place = place_is t xs p x at h only in
    let low = slice_get_within xs p x at in
    rw (place, lt-ltb p (length xs) low) refl

pub get_some : {X : Type 0} (xs : List X) (k : ℕ) → k < length xs → (x : X) × (slice_get xs k ≡ Some x)
get_some [] k h = absurd (omega (arith, h))
get_some (x ∷ xs) zero h = (x, refl)
get_some (x ∷ xs) (suc k) h = get_some xs k (omega (arith, h))

-- what a line of a step needs to be read as this step, and how long it is at most
pub record IsStepWord (s : Scripts) (p : ℕ) : Type 0 where
  pub word : IsTrue (is_word (name_of s p))
  pub counts : is_skipped (name_of s p ∷ []) ≡ false
  pub named : proc_named s (name_of s p) ≡ Some p
  pub short : length (name_of s p) ≤ 73

-- a name has no colon
plain_name : (job : List ℕ) → IsTrue (is_name job) → list_all plain job ≡ true
plain_name job h = names_plain job (and_right (not (length job == 0)) (list_all is_name_byte job) h)

module _ (d : Declared) (g : IsGood d) where
  -- the job of a process is a name of 63 bytes at most, and its rank is small
  pub record IsProcAt (k : ℕ) (p : Started) : Type 0 where
    pub there : p.job < length d.jobs
    pub job : IsTrue (is_name (text_at d.jobs p.job))
    pub short : length (text_at d.jobs p.job) ≤ 63
    pub rank : p.rank < 10 ^ 9

  proc_at : (k : ℕ) (p : Started) → slice_get d.processes k ≡ Some p → IsProcAt k p
  proc_at k p at =
      let there = below_at (length d.jobs) d.processes k p g.below at in
      let name = name_at d.jobs p.job g.names there in
      let most = rank_most (λ j. 0) d.processes k p g.ranked at in
      let within = slice_get_within d.processes k p at in
      let few = g.few in
      record { there = there; job = name.0; short = leb-true (length (text_at d.jobs p.job)) 63 name.1; rank = omega (arith, most, within, few) }

  abbrev text : Started → List ℕ
  text p = spelled_proc (text_at d.jobs p.job) p.rank

  -- two processes of one text are one
  text_once : (k m : ℕ) (p q : Started) → slice_get d.processes k ≡ Some p → slice_get d.processes m ≡ Some q → text p ≡ text q → k ≡ m
  text_once k m p q a b e =
      let x = proc_at k p a in
      let y = proc_at m q b in
      let cut = cut_once (text_at d.jobs p.job) (decimal p.rank) (text_at d.jobs q.job) (decimal q.rank) (plain_name (text_at d.jobs p.job) x.job) (plain_name (text_at d.jobs q.job) y.job) e in
      let low : p.rank < 10 ^ 9 = x.rank in
      let high : q.rank < 10 ^ 9 = y.rank in
      let rank = decimal_injective p.rank q.rank (omega (arith, low)) (omega (arith, high)) cut.1 in
      let job = sym (number_at d.jobs p.job g.apart x.there) ∙ ap (number_or_count d.jobs) cut.0 ∙ number_at d.jobs q.job g.apart y.there in
      one_process (λ j. 0) d.processes k m p q g.ranked a b job rank

  name_is : (k : ℕ) (p : Started) → slice_get d.processes k ≡ Some p → name_of (scripts_of d) k ≡ text p
  name_is k p at = ap (text_of_process (scripts_of d)) (slice_get-map (process_of d (seen_in d)) d.processes k ∙ ap (option_map (process_of d (seen_in d))) at)

  text_named : (k : ℕ) (p : Started) → slice_get d.processes k ≡ Some p → proc_named (scripts_of d) (text p) ≡ Some k
  text_named k p at =
      position_is (λ q. bytes_eq (text p) (process_text (scripts_of d) q)) (map (process_of d (seen_in d)) d.processes) k (process_of d (seen_in d) p)
      (slice_get-map (process_of d (seen_in d)) d.processes k ∙ ap (option_map (process_of d (seen_in d))) at)
      ((bytes_eq-Decides (text p) (text p)).1 refl)
      (λ m y there same.
      let q = slice_get-map_back (process_of d (seen_in d)) d.processes m y there in
      let is : text q.0 ≡ text p = ap (process_text (scripts_of d)) q.2 ∙ sym ((bytes_eq-Decides (text p) (process_text (scripts_of d) y)).0 same) in
      text_once m k q.0 p q.1 at is)

  text_short : (k : ℕ) (p : Started) → slice_get d.processes k ≡ Some p → length (text p) ≤ 73
  text_short k p at =
      let x = proc_at k p at in
      let job = x.short in
      let small = x.rank in
      let digits = length-decimal-le 9 p.rank (omega arith) small (omega (arith, small)) in
      omega (arith, length-append (text_at d.jobs p.job) (58 ∷ decimal p.rank), job, digits)

  pub step_word : (k : ℕ) → k < length d.processes → IsStepWord (scripts_of d) k
  step_word k low =
      let p = get_some d.processes k low in
      let x = proc_at k p.0 p.1 in
      let is = name_is k p.0 p.1 in
      record {
        word = subst (λ w. IsTrue (is_word w)) (sym is) (proc_word (text_at d.jobs p.0.job) p.0.rank x.job x.rank);
        counts = ap (λ w. is_skipped (w ∷ [])) is ∙ proc_counts (text_at d.jobs p.0.job) p.0.rank x.job;
        named = ap (proc_named (scripts_of d)) is ∙ text_named k p.0 p.1;
        short = subst (λ w. length w ≤ 73) (sym is) (text_short k p.0 p.1);
      }
