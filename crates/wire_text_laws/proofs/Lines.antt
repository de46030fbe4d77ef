-- A line that is one word, cut and read again.
use Rattle.std.proofs.Common.{◌≡◌, ◌∙◌, ap, sym, refl, ℕ, List, [], ◌∷◌, ◌++◌, Bool, true, false, length, map, true≢false, IsTrue}
use Rattle.std.specs.Prelude.{◌==◌, not, ◌&&◌, ◌||◌}
use Rattle.std.specs.List.{list_all}
use Rattle.std.specs.Str.Lines.{strip_carriage_return}
use Rattle.wire_runs.proofs.Lists.{list_all_weaker}
use Rattle.wire_lines.specs.Text.{lines_of, words_of}
use Rattle.wire_lines.specs.Said.{is_word_byte, is_name_byte, is_word, is_name, spelled_proc}
use Rattle.wire_lines.proofs.Colon.{and_left, and_right}
use Rattle.wire_reader.specs.Statements.{is_skipped}
use Rattle.wire_reader.proofs.Recut.{no_feed, no_return, feed_byte, return_byte, pieces_line, kept_end, words_line}

module _ (w : List ℕ) (is : IsTrue (is_word w)) where
  bytes : list_all is_word_byte w ≡ true
  bytes = and_right (not (length w == 0)) (list_all is_word_byte w) is

  -- a word and a line feed are the first line
  pub line_again : (rest : List ℕ) → lines_of (w ++ 10 ∷ rest) ≡ w ∷ lines_of rest
  line_again rest =
      ap (map strip_carriage_return) (pieces_line w rest (list_all_weaker is_word_byte no_feed w feed_byte bytes))
      ∙ ap (λ x. x ∷ lines_of rest) (kept_end w (list_all_weaker is_word_byte no_return w return_byte bytes))

  -- and the only word of it
  pub words_again : words_of w ≡ w ∷ []
  words_again = words_line w [] (is, tt)

hash_in : (w c m s : Bool) → (w && not (c || m || true || s)) ≡ true → true ≡ false
hash_in true true m s e = sym e
hash_in true false true s e = sym e
hash_in true false false s e = sym e
hash_in false c m s e = sym e

no_hash : (b : ℕ) → is_name_byte b ≡ true → (b == 35) ≡ false
no_hash b = elim (b == 35) as (λ t. (is_word_byte b && not (b == 58 || b == 44 || t || b == 42)) ≡ true → t ≡ false) [
  | true ↦ λ e. hash_in (is_word_byte b) (b == 58) (b == 44) (b == 42) e
  | false ↦ λ e. refl
]

-- and no comment
pub proc_counts : (job : List ℕ) (rank : ℕ) → IsTrue (is_name job) → is_skipped (spelled_proc job rank ∷ []) ≡ false
proc_counts [] rank h = absurd (true≢false (sym h))
proc_counts (b ∷ bs) rank h = no_hash b (and_left (is_name_byte b) (list_all is_name_byte bs) (and_right (not (length (b ∷ bs) == 0)) (list_all is_name_byte (b ∷ bs)) h))
