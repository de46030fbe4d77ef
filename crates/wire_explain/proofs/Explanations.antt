-- A text that is appended to, part by part.
use Rattle.std.proofs.Common.{◌≡◌, ◌∙◌, ap, map, ℕ, List, [], ◌++◌, Option, codes}
use Rattle.wire_types.specs.declared.Fault.{Fault}
use Rattle.wire_explain.specs.declared.language.Language.{Language}
use Rattle.wire_explain.specs.Hint.{IsHintFor, known, doubtful}
use Rattle.wire_explain.specs.Quote.{shown_byte, labelled}
use Rattle.wire_explain.specs.Explained.{Explains, explanation, line_part, plan_line, expected, hint_part}
use Rattle.wire_explain.specs.Order.{word_line, explained_word}

pub built : (first second second' third zero one two three : List ℕ) → zero ≡ [] → one ≡ zero ++ first → two ≡ one ++ second' → second' ≡ second → three ≡ two ++ third
    → three ≡ (first ++ second) ++ third
built first second second' third zero one two three none a b same c =
    c ∙ ap (λ t. t ++ third) (b ∙ ap (λ t. one ++ t) same ∙ ap (λ t. t ++ second) (a ∙ ap (λ t. t ++ first) none))

pub explained : (language : Language) (bytes : List ℕ) (fault : Fault) (hint : Option (List ℕ)) (raw text : List ℕ) → IsHintFor (known language bytes fault) (doubtful bytes fault) hint → raw ≡ explanation language bytes fault hint
    → text ≡ map shown_byte raw → Explains language bytes fault text
explained language bytes fault hint raw text near is at = record { hint = hint; nearest = near; is = at ∙ ap (map shown_byte) is }

pub laid_out : (language : Language) (bytes : List ℕ) (fault : Fault) (hint : Option (List ℕ)) (text zero one two three : List ℕ) → zero ≡ [] → one ≡ zero ++ line_part bytes (plan_line fault)
    → two ≡ one ++ labelled (codes "  expected: ") text → text ≡ expected language bytes fault → three ≡ two ++ hint_part hint → three ≡ explanation language bytes fault hint
laid_out language bytes fault hint text zero one two three none a b same c =
    built (line_part bytes (plan_line fault)) (labelled (codes "  expected: ") (expected language bytes fault)) (labelled (codes "  expected: ") text) (hint_part hint) zero one two three
    none a b (ap (labelled (codes "  expected: ")) same) c

pub worded : (what : List ℕ) (number : ℕ) (word wanted text zero one two : List ℕ) → zero ≡ [] → one ≡ zero ++ word_line what number word →
    two ≡ one ++ labelled (codes "  expected: ") text → text ≡ wanted → two ≡ explained_word what number word wanted
worded what number word wanted text zero one two none a b same =
    b ∙ ap (λ t. one ++ labelled (codes "  expected: ") t) same ∙ ap (λ t. t ++ labelled (codes "  expected: ") wanted) (a ∙ ap (λ t. t ++ word_line what number word) none)
