-- What a file that was read declares is printable.
use Rattle.std.proofs.Common.{◌≡◌, ◌∙◌, ap₂, subst, refl, ℕ, zero, suc, ◌+◌, ◌-◌, ◌/◌, ◌%◌, ◌<◌, List, [], ◌∷◌, ◌++◌, true, false, cond, length, decimal, IsTrue, arith}
use Rattle.std.specs.Prelude.{◌==◌, not, nat_le}
use Rattle.std.specs.Fmt.{digits, digits_onto, digit_glyph}
use Rattle.std.specs.List.{list_all, flat_map}
use Rattle.std.proofs.lemmas.List.{map-append}
use borrow.Author.Tests.{leb-true, lt-ltb}
use Rattle.wire_types.specs.declared.Version.{Version}
use Rattle.wire_lines.specs.Said.{Call, Put, Commit, Fence, Get, GetNow, Publish, Lookup, LookupWait, Unpublish, UnpublishAll}
use Rattle.wire_lines.specs.Said.{Said, Header, Keep, Node, Job, Rank, Calls, IsLawfulLine, IsLawfulCall, is_word_byte}
use Rattle.wire_lines.specs.Said.{is_word, is_name, is_key}
use Rattle.wire_lines.proofs.Colon.{and_left, and_right}
use Rattle.wire_scripts.specs.Scripts.{Scripts, text_at}
use Rattle.wire_reader.specs.declared.Size.{Size}
use Rattle.wire_reader.specs.FirstPass.{Name, Started, Declared, nothing, number_or_count, after, with_call}
use Rattle.wire_reader.specs.Reads.{keys_in, names_in, values_in, in_calls, first_seen, seen_in, scripts_of}
use Rattle.wire_reader.proofs.Seen.{Each, each_seen, each_both}
use Rattle.wire_reader.proofs.Changed.{Runs, CallsAre, AllCalls}
use Rattle.wire_reader.proofs.Ranked.{AreNames, IsGood}
use Rattle.wire_reader.proofs.Recut.{name_word}
use Rattle.wire_json.specs.Json.{printed}
use Rattle.wire_json.proofs.Escapes.{kept_byte}
use Rattle.wire_text_laws.specs.Kept.{IsPrintedWhole}

word_byte : (b : ℕ) → is_word_byte b ≡ true → printed b ≡ b
word_byte b h =
    let low = leb-true 33 b (and_left (nat_le 33 b) (nat_le b 126) h) in
    let high = leb-true b 126 (and_right (nat_le 33 b) (nat_le b 126) h) in
    kept_byte b (omega (arith, low)) (omega (arith, high))

bytes_kept : (w : List ℕ) → list_all is_word_byte w ≡ true → IsPrintedWhole w
bytes_kept [] h = refl
bytes_kept (b ∷ bs) h = ap₂ (λ x y. x ∷ y) (word_byte b (and_left _ _ h)) (bytes_kept bs (and_right _ _ h))

word_kept : (w : List ℕ) → IsTrue (is_word w) → IsPrintedWhole w
word_kept w h = bytes_kept w (and_right (not (length w == 0)) (list_all is_word_byte w) h)

name_kept : (w : List ℕ) → IsTrue (is_name w) → IsPrintedWhole w
name_kept w h = word_kept w (name_word w h)

key_kept : (w : List ℕ) → IsTrue (is_key w) → IsPrintedWhole w
key_kept w h = word_kept w (and_left _ _ h)

pub both_kept : (xs ys : List ℕ) → IsPrintedWhole xs → IsPrintedWhole ys → IsPrintedWhole (xs ++ ys)
both_kept xs ys h k = map-append printed xs ys ∙ ap₂ (λ x y. x ++ y) h k

-- the digits of any number
glyph_kept : (d : ℕ) → d < 10 → printed (digit_glyph false d) ≡ digit_glyph false d
glyph_kept d low = rw (lt-ltb d 10 low) (kept_byte (48 + d) (omega arith) (omega (arith, low)))

digits_kept : (k n : ℕ) (acc : List ℕ) → IsPrintedWhole acc → IsPrintedWhole (digits_onto k 10 false n acc)
digits_kept zero n acc h = h
digits_kept (suc k) n acc h =
    let here : IsPrintedWhole (digit_glyph false (n % 10) ∷ acc) = ap₂ (λ x y. x ∷ y) (glyph_kept (n % 10) (omega arith)) h in
    elim (n / 10 == 0) as (λ t. IsPrintedWhole (cond t (digit_glyph false (n % 10) ∷ acc) (digits_onto k 10 false (n / 10) (digit_glyph false (n % 10) ∷ acc)))) [
      | true ↦ here
      | false ↦ digits_kept k (n / 10) (digit_glyph false (n % 10) ∷ acc) here
    ]

pub decimal_kept : (n : ℕ) → IsPrintedWhole (decimal n)
unfolding digits
decimal_kept n = digits_kept 64 n [] refl

-- calls of lines that are taken
module _ (P : ℕ → Call → Type 0) where
  calls_push : (job : ℕ) (cs : List (ℕ × Call)) (c : ℕ × Call) → CallsAre P job cs → P job c.1 → CallsAre P job (cs ++ c ∷ [])
  calls_push job [] c h f = (f, tt)
  calls_push job (b ∷ cs) c h f = (h.0, calls_push job cs c h.1 f)

  all_with : (ps : List Started) (c : ℕ × Call) → AllCalls P ps → ((job : ℕ) → P job c.1) → AllCalls P (with_call ps c)
  all_with [] c h f = tt
  all_with (p ∷ []) c h f = (calls_push p.job p.calls c h.0 (f p.job), tt)
  all_with (p ∷ q ∷ ps) c h f = (h.0, all_with (q ∷ ps) c h.1 f)

  all_push : (ps : List Started) (p : Started) → AllCalls P ps → CallsAre P p.job p.calls → AllCalls P (ps ++ p ∷ [])
  all_push [] p h f = (f, tt)
  all_push (q ∷ ps) p h f = (h.0, all_push ps p h.1 f)

abbrev AllLawful : List Started → Type 0
AllLawful ps = AllCalls (λ job c. IsLawfulCall c) ps

-- nodes are printable, and calls are lawful
record AreLawful (d : Declared) : Type 0 where
  nodes : Each IsPrintedWhole d.nodes
  calls : AllLawful d.processes

after_lawful : (d : Declared) (n : ℕ) (a : Said) → IsLawfulLine a → AreLawful d → AreLawful (after d n a)
after_lawful d n (Header version) l h = h
after_lawful d n Keep l h = record { nodes = h.nodes; calls = h.calls }
after_lawful d n (Node name) l h = record { nodes = each_both IsPrintedWhole d.nodes (name ∷ []) h.nodes (name_kept name l, tt); calls = h.calls }
after_lawful d n (Job name) l h = record { nodes = h.nodes; calls = h.calls }
after_lawful d n (Rank node) l h = record {
  nodes = h.nodes;
  calls = all_push (λ job c. IsLawfulCall c) d.processes (record { job = length d.jobs - 1; rank = d.ranks; node = number_or_count d.nodes node; calls = [] }) h.calls tt;
}
after_lawful d n (Calls c) l h = record { nodes = h.nodes; calls = all_with (λ job b. IsLawfulCall b) d.processes (n, c) h.calls (λ job. l) }

run_lawful : (ls : List (ℕ × Said)) (d e : Declared) → Runs ls d e → AreLawful d → AreLawful e
run_lawful [] d e r h = subst AreLawful r h
run_lawful (l ∷ ls) d e r h = run_lawful ls (after d l.0 l.1) e r.2 (after_lawful d l.0 l.1 r.0 h)

keys_kept : (c : Call) → IsLawfulCall c → Each IsPrintedWhole (keys_in c)
keys_kept (Put scope key value) l = (key_kept key l.0, tt)
keys_kept Commit l = tt
keys_kept (Fence set collect) l = tt
keys_kept (Get job rank key) l = (key_kept key l.2, tt)
keys_kept (GetNow job rank key) l = (key_kept key l.2, tt)
keys_kept (Publish name value) l = tt
keys_kept (Lookup name) l = tt
keys_kept (LookupWait name) l = tt
keys_kept (Unpublish name) l = tt
keys_kept UnpublishAll l = tt

names_kept : (c : Call) → IsLawfulCall c → Each IsPrintedWhole (names_in c)
names_kept (Put scope key value) l = tt
names_kept Commit l = tt
names_kept (Fence set collect) l = tt
names_kept (Get job rank key) l = tt
names_kept (GetNow job rank key) l = tt
names_kept (Publish name value) l = (key_kept name l.0, tt)
names_kept (Lookup name) l = (key_kept name l, tt)
names_kept (LookupWait name) l = (key_kept name l, tt)
names_kept (Unpublish name) l = (key_kept name l, tt)
names_kept UnpublishAll l = tt

values_kept : (c : Call) → IsLawfulCall c → Each IsPrintedWhole (values_in c)
values_kept (Put scope key value) l = (word_kept value l.1, tt)
values_kept Commit l = tt
values_kept (Fence set collect) l = tt
values_kept (Get job rank key) l = tt
values_kept (GetNow job rank key) l = tt
values_kept (Publish name value) l = (word_kept value l.1, tt)
values_kept (Lookup name) l = tt
values_kept (LookupWait name) l = tt
values_kept (Unpublish name) l = tt
values_kept UnpublishAll l = tt

-- what all calls name
module _ (f : Call → List (List ℕ)) (h : (c : Call) → IsLawfulCall c → Each IsPrintedWhole (f c)) where
  of_process : (job : ℕ) (cs : List (ℕ × Call)) → CallsAre (λ j c. IsLawfulCall c) job cs → Each IsPrintedWhole (flat_map (λ c. f c.1) cs)
  of_process job [] l = tt
  of_process job (c ∷ cs) l = each_both IsPrintedWhole (f c.1) (flat_map (λ b. f b.1) cs) (h c.1 l.0) (of_process job cs l.1)

  of_all : (ps : List Started) → AllLawful ps → Each IsPrintedWhole (in_calls (λ job. f) ps)
  of_all [] l = tt
  of_all (p ∷ ps) l = each_both IsPrintedWhole (flat_map (λ c. f c.1) p.calls) (in_calls (λ job. f) ps) (of_process p.job p.calls l.0) (of_all ps l.1)

  of_seen : (ps : List Started) → AllLawful ps → Each IsPrintedWhole (first_seen (in_calls (λ job. f) ps))
  of_seen ps l = each_seen IsPrintedWhole (in_calls (λ job. f) ps) (of_all ps l)

text_kept : (xs : List (List ℕ)) (n : ℕ) → Each IsPrintedWhole xs → IsPrintedWhole (text_at xs n)
text_kept [] n h = refl
text_kept (x ∷ xs) zero h = h.0
text_kept (x ∷ xs) (suc n) h = text_kept xs n h.1

jobs_kept : (xs : List Name) → AreNames xs → Each IsPrintedWhole xs
jobs_kept [] h = tt
jobs_kept (x ∷ xs) h = (name_kept x h.0, jobs_kept xs h.2)

-- the texts of nodes, jobs, keys, names and values
pub record TextsAreKept (s : Scripts) : Type 0 where
  pub nodes : (n : ℕ) → IsPrintedWhole (text_at s.nodes n)
  pub jobs : (n : ℕ) → IsPrintedWhole (text_at s.jobs n)
  pub keys : (n : ℕ) → IsPrintedWhole (text_at s.keys n)
  pub names : (n : ℕ) → IsPrintedWhole (text_at s.names n)
  pub values : (n : ℕ) → IsPrintedWhole (text_at s.values n)

pub texts_kept : (size : Size) (v : Version) (d : Declared) (lines : List (ℕ × Said)) → Runs lines (nothing size v) d → IsGood d → TextsAreKept (scripts_of d)
texts_kept size v d lines runs good =
    let lawful = run_lawful lines (nothing size v) d runs (record { nodes = tt; calls = tt }) in
    record {
      nodes = λ n. text_kept d.nodes n lawful.nodes;
      jobs = λ n. text_kept d.jobs n (jobs_kept d.jobs good.names);
      keys = λ n. text_kept (seen_in d).keys n (of_seen keys_in keys_kept d.processes lawful.calls);
      names = λ n. text_kept (seen_in d).names n (of_seen names_in names_kept d.processes lawful.calls);
      values = λ n. text_kept (seen_in d).values n (of_seen values_in values_kept d.processes lawful.calls);
    }
