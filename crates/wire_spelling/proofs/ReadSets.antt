-- What the lines that are read so far leave of all rows.
use Rattle.std.proofs.Common.{◌≡◌, ◌<◌, ℕ, List, [], ◌∷◌, ◌++◌, Option, Vec, Global, map, drop, length, refl, sym, ap, ◌∙◌, subst, append_assoc, arith}
use Rattle.std.specs.Str.Lines.{strip_carriage_return}
use Rattle.std.proofs.lemmas.List.{append-nil}
use Rattle.wire_lines.specs.Text.{pieces_of, lines_of, words_of}
use Rattle.wire_spelling.specs.Spelling.{SaidOfCalls, SpelledSet, CallRows, Nothing, Rank, Job, Call, calls_in, calls_of_text, calls_with, job_after, of_job, said_of, spelled_sets, AreSetsNumbered}
use Rattle.wire_spelling.specs.Spelled.{Progress, all_rows, joined}
use Rattle.wire_spelling.specs.Reads.{row_ended, taken, IsReadTo, IsReadUpTo}
use Rattle.wire_spelling.specs.Numbering.{AreRowsTold, AreSetsDistinct}
use Rattle.wire_spelling.specs.declared.reading.Reading.{Reading}
use Rattle.wire_spelling.specs.declared.spelling.Spelt.{Spelt}
use Rattle.wire_spelling.proofs.Numbered.{behind_told, first_told, numbered}

abbrev Row : Type 0
Row = List (Option SpelledSet)

rank_joined : (p : Progress) (behind : CallRows) → joined (row_ended p) behind ≡ joined p (calls_with p.job Rank behind)
rank_joined p behind =
    append_assoc p.done (p.row ∷ []) (behind.before ∷ behind.rows)
    ∙ ap (λ (r : Row). p.done ++ r ∷ (behind.before ∷ behind.rows)) (sym (append-nil p.row))

call_joined : (p : Progress) (call : Option SpelledSet) (before : Row) (rows : List Row) →
    p.done ++ ((p.row ++ call ∷ []) ++ before) ∷ rows ≡ p.done ++ (p.row ++ call ∷ before) ∷ rows
call_joined p call before rows = ap (λ (r : Row). p.done ++ r ∷ rows) (append_assoc p.row (call ∷ []) before)

taken_joined : (p : Progress) (said : SaidOfCalls) (behind : CallRows) → joined (taken p said) behind ≡ joined p (calls_with p.job said behind)
taken_joined p Nothing behind = refl
taken_joined p Rank behind = rank_joined p behind
taken_joined p (Job name) behind = refl
taken_joined p (Call set) behind = call_joined p (of_job p.job set) behind.before behind.rows

job_taken : (p : Progress) (said : SaidOfCalls) → (taken p said).job ≡ job_after p.job said
job_taken p Nothing = refl
job_taken p Rank = refl
job_taken p (Job name) = refl
job_taken p (Call set) = refl

-- one more line is taken
line_joined : (p : Progress) (said : SaidOfCalls) (rest after line : List ℕ) → pieces_of rest ≡ line ∷ pieces_of after →
    said ≡ said_of (words_of (strip_carriage_return line)) →
    joined (taken p said) (calls_in (taken p said).job (map words_of (lines_of after))) ≡ joined p (calls_in p.job (map words_of (lines_of rest)))
line_joined p said rest after line pieces is =
    let ws = map words_of (lines_of after) in
    taken_joined p said (calls_in (taken p said).job ws)
    ∙ ap (λ j. joined p (calls_with p.job said (calls_in j ws))) (job_taken p said)
    ∙ ap (λ (s : SaidOfCalls). joined p (calls_with p.job s (calls_in (job_after p.job s) ws))) is
    ∙ ap (λ ps. joined p (calls_in p.job (map words_of (map strip_carriage_return ps)))) (sym pieces)

pub line_read : (old new : Reading) (said : SaidOfCalls) (rest after line text : List ℕ) → pieces_of rest ≡ line ∷ pieces_of after →
    said ≡ said_of (words_of (strip_carriage_return line)) → ((p : Progress) → IsReadTo old p → IsReadTo new (taken p said)) →
    IsReadUpTo old rest text → IsReadUpTo new after text
line_read old new said rest after line text pieces is step so = record {
  so_far = taken so.so_far said;
  read = step so.so_far so.read;
  whole = line_joined so.so_far said rest after line pieces is ∙ so.whole;
}

-- before the first line nothing is read, and behind the last one all
pub none_read : (reading : Reading) (text : List ℕ) → IsReadTo reading (record { job = []; done = []; row = [] }) → IsReadUpTo reading text text
none_read reading text read = record { so_far = record { job = []; done = []; row = [] }; read = read; whole = refl }

pub all_read : (reading : Reading) (rest text : List ℕ) → length rest ≡ 0 → IsReadUpTo reading rest text → IsReadUpTo reading [] text
all_read reading [] text none so = so
all_read reading (b ∷ rest) text none so = absurd (omega (arith, none))

-- once the last row has ended
pub rows_whole : (p : Progress) (text : List ℕ) → joined p (calls_in p.job (map words_of (lines_of []))) ≡ all_rows (calls_of_text text) →
    (row_ended p).done ≡ (calls_of_text text).before ∷ spelled_sets text
rows_whole p text whole = ap (λ (r : Row). p.done ++ r ∷ []) (sym (append-nil p.row)) ∙ whole

-- then the rows behind the first are numbered
module _ (reading : Reading) (p : Progress) (text : List ℕ) (whole : joined p (calls_in p.job (map words_of (lines_of []))) ≡ all_rows (calls_of_text text)) (read : IsReadTo reading (row_ended p)) where
  rows_told : AreRowsTold reading.numbers ((calls_of_text text).before ∷ spelled_sets text) (map (λ row. row.items) reading.done.items)
  rows_told = subst (λ rows. AreRowsTold reading.numbers rows (map (λ row. row.items) reading.done.items)) (rows_whole p text whole) read.done

  pub has_first : 0 < length reading.done.items
  has_first = first_told reading.numbers _ (spelled_sets text) reading.done.items rows_told

  pub others_numbered : AreSetsDistinct reading.numbers → (rows : List (Vec (Option Spelt) Global)) → rows ≡ drop 1 reading.done.items →
      AreSetsNumbered (spelled_sets text) (map (λ row. row.items) rows)
  others_numbered apart rows e =
      subst (λ (vs : List (Vec (Option Spelt) Global)). AreSetsNumbered (spelled_sets text) (map (λ row. row.items) vs)) (sym e)
      (numbered reading.numbers apart (spelled_sets text) (map (λ row. row.items) (drop 1 reading.done.items)) (behind_told reading.numbers _ (spelled_sets text) reading.done.items rows_told))
