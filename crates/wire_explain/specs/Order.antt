-- What is told of the fault of an order, of the words of a question, and of the parts of a list.
use Rattle.std.specs.Prelude.{ℕ, ◌==◌, ◌||◌, List, ◌++◌, codes, decimal, if◌then◌else◌}
use Rattle.wire_explain.specs.Quote.{shown_bytes, front_of, quoted, labelled}

-- a line of an order: it, and what was expected there
abbrev pub order_explanation : List ℕ → ℕ → List ℕ
order_explanation bytes line =
    quoted bytes line ++ labelled (codes "  expected: ") (codes "one rank of the plan and nothing else, such as app:0, and an order within its size limit")

-- a byte of a word, as it is shown on one line
abbrev pub in_line : ℕ → ℕ
in_line byte = if byte == 10 then 63 else byte

-- a word by its number, from 1, behind what it is
abbrev pub word_line : List ℕ → ℕ → List ℕ → List ℕ
word_line what number word = what ++ decimal number ++ codes " | " ++ front_of shown_bytes word ++ codes "\n"

-- the word, and what was expected there
abbrev pub explained_word : (what : List ℕ) → ℕ → (word wanted : List ℕ) → List ℕ
explained_word what number word wanted = word_line what number word ++ labelled (codes "  expected: ") wanted

-- what is expected of a question: the words are a rank and a number, twice
abbrev pub expected_word : ℕ → List ℕ
expected_word number =
    if (number == 1) || (number == 3) then codes "a rank of the plan, such as app:0" else codes "the number of a call of this rank, from 1"

-- a word of a question
abbrev pub word_explanation : ℕ → List ℕ → List ℕ
word_explanation number word = explained_word (codes "  word ") number word (expected_word number)

-- a rank of a list
abbrev pub rank_explanation : ℕ → List ℕ → List ℕ
rank_explanation number word = explained_word (codes "  rank ") number word (codes "a rank of the plan, such as app:0")

-- a part of a list that says how many ranks the groups of a pattern have
abbrev pub part_explanation : ℕ → List ℕ → List ℕ
part_explanation number word =
    explained_word (codes "  part ") number word (codes "NAME=N, each group of the pattern once, N its least number or more, below 10^9")
