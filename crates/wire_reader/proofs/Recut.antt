-- The canonical text, cut into its lines and words again.
use Rattle.std.proofs.Common.{◌≡◌, ◌∙◌, ap, sym, refl, ℕ, zero, suc, ◌+◌, ◌-◌, ◌<◌, ◌%◌, ◌^◌, List, [], ◌∷◌, ◌++◌, Bool, true, false, cond, length, map, filter, flat_map, true≢false, append_assoc}
use Rattle.std.proofs.Common.{length-append, arith, codes, decimal, IsTrue}
use Rattle.std.specs.Prelude.{◌==◌, not, ◌&&◌, nat_le, slice_index, ⊤}
use Rattle.std.specs.List.{list_all, slice_split, onto_first, join_with_byte}
use Rattle.std.specs.Str.Lines.{strip_carriage_return}
use Rattle.std.proofs.lemmas.Fmt.{decimal_by_steps}
use Rattle.std.proofs.lemmas.Bool.{and_from}
use borrow.Author.Tests.{leb-true, le-leb, not-true, ne_eqb}
use Rattle.wire_types.specs.declared.Scope.{Scope}
use Rattle.wire_types.specs.declared.Scope.TheVariants.{Local, Remote, Global}
use Rattle.wire_runs.proofs.Lists.{list_all_weaker}
use Rattle.wire_types.specs.declared.Version.TheVariants as version
use Rattle.wire_lines.specs.Text.{pieces_of, lines_of, is_blank, words_of}
use Rattle.wire_lines.specs.Said.{Item, One, Every, Set, Own, Listed, Put, Commit, Fence, Get, GetNow, Publish, Lookup, LookupWait, Unpublish, UnpublishAll}
use Rattle.wire_lines.specs.Said.{Said, Header, Keep, Node, Job, Rank, Calls, IsLawfulItem, AreLawful, IsLawfulSet, IsLawfulLine, first_word, other_words, is_word_byte, is_name_byte, is_word, is_name}
use Rattle.wire_lines.specs.Said.{spelled_proc, spelled_scope, spelled_item, spelled_set, collect_words}
use Rattle.wire_lines.proofs.Colon.{and_left, and_right}
use Rattle.wire_reader.specs.Statements.{Statement, is_skipped, statements_from, statements}
use Rattle.wire_scripts.specs.Canonical.{line_text}

pub all_append : (p : ℕ → Bool) (xs ys : List ℕ) → list_all p xs ≡ true → list_all p ys ≡ true → list_all p (xs ++ ys) ≡ true
all_append p [] ys h k = k
all_append p (x ∷ xs) ys h k = and_from (p x) (list_all p (xs ++ ys)) (and_left _ _ h) (all_append p xs ys (and_right _ _ h) k)

-- a byte of a word is none below 33
differs : (k b : ℕ) → k < 33 → is_word_byte b ≡ true → (b == k) ≡ false
differs k b small h = ne_eqb b k (λ same. let high = leb-true 33 b (and_left _ _ h) in omega arith)

abbrev pub no_feed : ℕ → Bool
no_feed b = not (b == 10)

abbrev pub no_return : ℕ → Bool
no_return b = not (b == 13)

abbrev pub no_blank : ℕ → Bool
no_blank b = not (is_blank b)

pub feed_byte : (b : ℕ) → is_word_byte b ≡ true → no_feed b ≡ true
feed_byte b h = rw (differs 10 b (omega arith) h) refl

pub return_byte : (b : ℕ) → is_word_byte b ≡ true → no_return b ≡ true
return_byte b h = rw (differs 13 b (omega arith) h) refl

blank_byte : (b : ℕ) → is_word_byte b ≡ true → no_blank b ≡ true
blank_byte b h = rw (differs 32 b (omega arith) h, differs 9 b (omega arith) h) refl

abbrev pub AreWords : List (List ℕ) → Type 0
AreWords [] = ⊤
AreWords (w ∷ ws) = IsTrue (is_word w) × AreWords ws

-- what holds of the bytes of words and of a space holds of those of a line
line_all : (p : ℕ → Bool) → ((b : ℕ) → is_word_byte b ≡ true → p b ≡ true) → p 32 ≡ true → (w : List ℕ) (ws : List (List ℕ)) → AreWords (w ∷ ws) → list_all p (join_with_byte 32 (w ∷ ws)) ≡ true
line_all p f s w [] h = list_all_weaker is_word_byte p w f (and_right _ _ h.0)
line_all p f s w (v ∷ vs) h =
    all_append p w (32 ∷ join_with_byte 32 (v ∷ vs)) (list_all_weaker is_word_byte p w f (and_right _ _ h.0))
    (and_from (p 32) (list_all p (join_with_byte 32 (v ∷ vs))) s (line_all p f s v vs h.1))

-- a line that ends in a line feed is the first piece
pub pieces_line : (xs ys : List ℕ) → list_all no_feed xs ≡ true → pieces_of (xs ++ 10 ∷ ys) ≡ xs ∷ pieces_of ys
pieces_line [] ys h = refl
pieces_line (x ∷ xs) ys h =
    elim (x == 10) as (λ t. (not t && list_all no_feed xs) ≡ true → cond t ([] ∷ pieces_of (xs ++ 10 ∷ ys)) (onto_first x (pieces_of (xs ++ 10 ∷ ys))) ≡ (x ∷ xs) ∷ pieces_of ys) [
      | true ↦ λ e. absurd (true≢false (sym e))
      | false ↦ λ e. ap (onto_first x) (pieces_line xs ys e)
    ] h

byte_at : (p : ℕ → Bool) → p 0 ≡ true → (xs : List ℕ) (i : ℕ) → list_all p xs ≡ true → p (slice_index xs i) ≡ true
byte_at p z [] i h = z
byte_at p z (x ∷ xs) zero h = and_left _ _ h
byte_at p z (x ∷ xs) (suc i) h = byte_at p z xs i (and_right _ _ h)

-- a line without carriage returns keeps its end
pub kept_end : (xs : List ℕ) → list_all no_return xs ≡ true → strip_carriage_return xs ≡ xs
kept_end xs h = let e : (slice_index xs (length xs - 1) == 13) ≡ false = not-true _ (byte_at no_return refl xs (length xs - 1) h) in rw e refl

blank_none : (xs : List ℕ) → list_all no_blank xs ≡ true → slice_split is_blank xs ≡ xs ∷ []
blank_none [] h = refl
blank_none (x ∷ xs) h =
    elim (is_blank x) as (λ t. (not t && list_all no_blank xs) ≡ true → cond t ([] ∷ slice_split is_blank xs) (onto_first x (slice_split is_blank xs)) ≡ (x ∷ xs) ∷ []) [
      | true ↦ λ e. absurd (true≢false (sym e))
      | false ↦ λ e. ap (onto_first x) (blank_none xs e)
    ] h

blank_front : (xs ys : List ℕ) → list_all no_blank xs ≡ true → slice_split is_blank (xs ++ 32 ∷ ys) ≡ xs ∷ slice_split is_blank ys
blank_front [] ys h = refl
blank_front (x ∷ xs) ys h =
    elim (is_blank x) as (λ t. (not t && list_all no_blank xs) ≡ true →
    cond t ([] ∷ slice_split is_blank (xs ++ 32 ∷ ys)) (onto_first x (slice_split is_blank (xs ++ 32 ∷ ys))) ≡ (x ∷ xs) ∷ slice_split is_blank ys) [
      | true ↦ λ e. absurd (true≢false (sym e))
      | false ↦ λ e. ap (onto_first x) (blank_front xs ys e)
    ] h

no_blanks : (w : List ℕ) → IsTrue (is_word w) → list_all no_blank w ≡ true
no_blanks w h = list_all_weaker is_word_byte no_blank w blank_byte (and_right _ _ h)

split_words : (w : List ℕ) (ws : List (List ℕ)) → AreWords (w ∷ ws) → slice_split is_blank (join_with_byte 32 (w ∷ ws)) ≡ w ∷ ws
split_words w [] h = blank_none w (no_blanks w h.0)
split_words w (v ∷ vs) h = blank_front w (join_with_byte 32 (v ∷ vs)) (no_blanks w h.0) ∙ ap (λ t. w ∷ t) (split_words v vs h.1)

keep_words : (ws : List (List ℕ)) → AreWords ws → filter (λ w. not (length w == 0)) ws ≡ ws
keep_words [] h = refl
keep_words (w ∷ ws) h = rw (and_left (not (length w == 0)) (list_all is_word_byte w) h.0, keep_words ws h.1) refl

-- words with a space between each two are the words of that line
pub words_line : (w : List ℕ) (ws : List (List ℕ)) → AreWords (w ∷ ws) → words_of (join_with_byte 32 (w ∷ ws)) ≡ w ∷ ws
words_line w ws h = ap (filter (λ x. not (length x == 0))) (split_words w ws h) ∙ keep_words (w ∷ ws) h

pub name_word : (xs : List ℕ) → IsTrue (is_name xs) → IsTrue (is_word xs)
name_word xs h = and_from (not (length xs == 0)) (list_all is_word_byte xs) (and_left _ _ h) (list_all_weaker is_name_byte is_word_byte xs (λ b k. and_left _ _ k) (and_right _ _ h))

digit_byte : (d : ℕ) → d < 10 → is_word_byte (48 + d) ≡ true
digit_byte d h = and_from (nat_le 33 (48 + d)) (nat_le (48 + d) 126) (le-leb 33 (48 + d) (omega arith)) (le-leb (48 + d) 126 (omega arith))

digit_word : (d : ℕ) → d < 10 → list_all is_word_byte ((48 + d) ∷ []) ≡ true
digit_word d h = and_from (is_word_byte (48 + d)) true (digit_byte d h) refl

digits_word : (n : ℕ) → n < 10 ^ 9 → list_all is_word_byte (decimal n) ≡ true
digits_word n small =
    decimal_by_steps (λ m ds. list_all is_word_byte ds ≡ true) (λ m h. digit_word m h)
    (λ m ds h k. all_append is_word_byte ds ((48 + m % 10) ∷ []) k (digit_word (m % 10) (omega arith))) n (omega arith)

some_bytes : (xs ys : List ℕ) (b : ℕ) → not (length (xs ++ b ∷ ys) == 0) ≡ true
some_bytes xs ys b =
    let some : (length (xs ++ b ∷ ys) == 0) ≡ false = ne_eqb (length (xs ++ b ∷ ys)) 0 (λ e. omega (arith, length-append xs (b ∷ ys))) in
    ap not some

pub proc_word : (job : List ℕ) (rank : ℕ) → IsTrue (is_name job) → rank < 10 ^ 9 → IsTrue (is_word (spelled_proc job rank))
proc_word job rank h small =
    and_from (not (length (spelled_proc job rank) == 0)) (list_all is_word_byte (spelled_proc job rank)) (some_bytes job (decimal rank) 58)
    (all_append is_word_byte job (58 ∷ decimal rank) (and_right _ _ (name_word job h)) (digits_word rank small))

scope_word : (s : Scope) → IsTrue (is_word (spelled_scope s))
scope_word Local = refl
scope_word Remote = refl
scope_word Global = refl

item_word : (i : Item) → IsLawfulItem i → IsTrue (is_word (spelled_item i))
item_word (One job rank) h = proc_word job rank h.0 h.1
item_word (Every job) h =
    and_from (not (length (spelled_item (Every job)) == 0)) (list_all is_word_byte (spelled_item (Every job))) (some_bytes job (codes "*") 58)
    (all_append is_word_byte job (58 ∷ codes "*") (and_right _ _ (name_word job h)) refl)

-- items with commas between them are a word
items_word : (i : Item) (is : List Item) → IsLawfulItem i → AreLawful is → IsTrue (is_word (join_with_byte 44 (map spelled_item (i ∷ is))))
items_word i [] h k = item_word i h
items_word i (j ∷ js) h k =
    and_from (not (length (join_with_byte 44 (map spelled_item (i ∷ j ∷ js))) == 0)) (list_all is_word_byte (join_with_byte 44 (map spelled_item (i ∷ j ∷ js))))
    (some_bytes (spelled_item i) (join_with_byte 44 (map spelled_item (j ∷ js))) 44)
    (all_append is_word_byte (spelled_item i) (44 ∷ join_with_byte 44 (map spelled_item (j ∷ js))) (and_right _ _ (item_word i h)) (and_right _ _ (items_word j js k.0 k.1)))

set_word : (s : Set) → IsLawfulSet s → IsTrue (is_word (spelled_set s))
set_word Own h = refl
set_word (Listed []) h = absurd (let n = h.0 in omega arith)
set_word (Listed (i ∷ is)) h = items_word i is h.1.0 h.1.1

collect_word : (c : Bool) → AreWords (collect_words c)
collect_word true = (refl, tt)
collect_word false = tt

-- what may be said is said in words
words_said : (a : Said) → IsLawfulLine a → AreWords (first_word a ∷ other_words a)
words_said (Header version.One) h = (refl, (refl, h))
words_said (Header version.Two) h = (refl, (refl, h))
words_said Keep h = (refl, tt)
words_said (Node name) h = (refl, (name_word name h, tt))
words_said (Job name) h = (refl, (name_word name h, tt))
words_said (Rank name) h = (refl, (name_word name h, tt))
words_said (Calls (Put scope key value)) h = (refl, (scope_word scope, (and_left _ _ h.0, (h.1, tt))))
words_said (Calls Commit) h = (refl, tt)
words_said (Calls (Fence set collect)) h = (refl, (set_word set h, collect_word collect))
words_said (Calls (Publish name value)) h = (refl, (and_left _ _ h.0, (h.1, tt)))
words_said (Calls (Lookup name)) h = (refl, (and_left _ _ h, tt))
words_said (Calls (LookupWait name)) h = (refl, (and_left _ _ h, tt))
words_said (Calls (Unpublish name)) h = (refl, (and_left _ _ h, tt))
words_said (Calls UnpublishAll) h = (refl, (refl, tt))
words_said (Calls (Get job rank key)) h = (refl, (proc_word job rank h.0 h.1, (and_left _ _ h.2, tt)))
words_said (Calls (GetNow job rank key)) h = (refl, (proc_word job rank h.0 h.1, (and_left _ _ h.2, tt)))

said_counts : (a : Said) → is_skipped (first_word a ∷ other_words a) ≡ false
said_counts (Header version) = refl
said_counts Keep = refl
said_counts (Node name) = refl
said_counts (Job name) = refl
said_counts (Rank name) = refl
said_counts (Calls (Put scope key value)) = refl
said_counts (Calls Commit) = refl
said_counts (Calls (Fence set collect)) = refl
said_counts (Calls (Publish name value)) = refl
said_counts (Calls (Lookup name)) = refl
said_counts (Calls (LookupWait name)) = refl
said_counts (Calls (Unpublish name)) = refl
said_counts (Calls UnpublishAll) = refl
said_counts (Calls (Get job rank key)) = refl
said_counts (Calls (GetNow job rank key)) = refl

abbrev pub AllLawful : List Said → Type 0
AllLawful [] = ⊤
AllLawful (a ∷ xs) = IsLawfulLine a × AllLawful xs

-- a line without its line feed
abbrev pub line_of : Said → List ℕ
line_of a = join_with_byte 32 (first_word a ∷ other_words a)

-- what is said on lines that are numbered from n on
abbrev pub numbered_lines : ℕ → List Said → List Statement
numbered_lines n [] = []
numbered_lines n (a ∷ xs) = (n, first_word a ∷ other_words a) ∷ numbered_lines (n + 1) xs

lines_again : (xs : List Said) → AllLawful xs → lines_of (flat_map line_text xs) ≡ map line_of xs
lines_again [] h = refl
lines_again (a ∷ xs) h =
    let ws = words_said a h.0 in
    ap lines_of (append_assoc (line_of a) (10 ∷ []) (flat_map line_text xs))
    ∙ ap (map strip_carriage_return) (pieces_line (line_of a) (flat_map line_text xs) (line_all no_feed feed_byte refl (first_word a) (other_words a) ws))
    ∙ ap (λ x. x ∷ lines_of (flat_map line_text xs)) (kept_end (line_of a) (line_all no_return return_byte refl (first_word a) (other_words a) ws))
    ∙ ap (λ t. line_of a ∷ t) (lines_again xs h.1)

statements_again : (n : ℕ) (xs : List Said) → AllLawful xs → statements_from n (map line_of xs) ≡ numbered_lines n xs
statements_again n [] h = refl
statements_again n (a ∷ xs) h =
    rw (words_line (first_word a) (other_words a) (words_said a h.0), said_counts a) (ap (λ t. (n, first_word a ∷ other_words a) ∷ t) (statements_again (n + 1) xs h.1))

-- the lines of a text of lawful lines say just these
pub said_again : (xs : List Said) → AllLawful xs → statements (flat_map line_text xs) ≡ numbered_lines 1 xs
said_again xs h = ap (statements_from 1) (lines_again xs h) ∙ statements_again 1 xs h
