-- The pieces of the object about a pattern in which nothing is found, one after another.
use Rattle.std.proofs.Common.{◌≡◌, ◌∙◌, ap, ℕ, List, ◌++◌, append_assoc, Result, Ok, Err}
use Rattle.std.specs.Prelude.{OnOk}

-- the first three pieces, and the rest of them
first_three : (start answers middle out one two rest : List ℕ) → out ≡ start → one ≡ out ++ answers → two ≡ one ++ middle
    → two ++ rest ≡ start ++ (answers ++ (middle ++ rest))
first_three start answers middle out one two rest is a b =
    ap (λ t. t ++ rest) (b ∙ ap (λ t. t ++ middle) (a ∙ ap (λ t. t ++ answers) is))
    ∙ append_assoc (start ++ answers) middle rest ∙ append_assoc start answers (middle ++ rest)

-- the last four
last_four : (two least word waits end three four five six : List ℕ) → three ≡ two ++ least → four ≡ three ++ word → five ≡ four ++ waits → six ≡ five ++ end
    → six ≡ two ++ (least ++ (word ++ (waits ++ end)))
last_four two least word waits end three four five six c d e f =
    f ∙ ap (λ t. t ++ end) (e ∙ ap (λ t. t ++ waits) (d ∙ ap (λ t. t ++ word) c))
    ∙ append_assoc ((two ++ least) ++ word) waits end ∙ append_assoc (two ++ least) word (waits ++ end) ∙ append_assoc two least (word ++ (waits ++ end))

pub shown_settled : (start answers middle least word waits end out one two three four five six : List ℕ) → out ≡ start → one ≡ out ++ answers
    → two ≡ one ++ middle → three ≡ two ++ least → four ≡ three ++ word → five ≡ four ++ waits → six ≡ five ++ end
    → six ≡ start ++ (answers ++ (middle ++ (least ++ (word ++ (waits ++ end)))))
shown_settled start answers middle least word waits end out one two three four five six is a b c d e f =
    last_four two least word waits end three four five six c d e f ∙ first_three start answers middle out one two (least ++ (word ++ (waits ++ end))) is a b

-- two pieces, and what the last call appends
pub two_and_last : {A E : Type 0} (r : Result A E) (old a b c first second third : List ℕ) → first ≡ old ++ a → second ≡ first ++ b
    → OnOk r (third ≡ second ++ c) → OnOk r (third ≡ old ++ (a ++ (b ++ c)))
two_and_last (Err e) old a b c first second third one two last = tt
two_and_last (Ok x) old a b c first second third one two last =
    last ∙ ap (λ t. t ++ c) (two ∙ ap (λ t. t ++ b) one) ∙ append_assoc (old ++ a) b c ∙ append_assoc old a (b ++ c)
