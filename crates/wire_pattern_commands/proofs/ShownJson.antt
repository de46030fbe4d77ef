-- The object of a counterexample, part by part.
use Rattle.std.proofs.Common.{◌≡◌, ◌∙◌, ap, ℕ, List, [], ◌++◌, append_assoc, map, codes}
use Rattle.wire_scripts.specs.Scripts.{Scripts}
use Rattle.wire_findings.specs.declared.finding.Finding.{Finding}
use Rattle.wire_json.specs.Json.{bracketed}
use Rattle.wire_pattern_commands.specs.PatternJson.{finding_string, json_counterexample, ranks_end}
use Rattle.wire_pattern_commands.specs.Strings.{text_string}

-- five parts of a text
five_parts : (a b c d e zero one two three four five : List ℕ) → zero ≡ [] → one ≡ zero ++ a → two ≡ one ++ b → three ≡ two ++ c → four ≡ three ++ d → five ≡ four ++ e
    → five ≡ a ++ (b ++ (c ++ (d ++ e)))
five_parts a b c d e zero one two three four five none h k l m n =
    n ∙ ap (λ t. t ++ e) (m ∙ ap (λ t. t ++ d) (l ∙ ap (λ t. t ++ c) (k ∙ ap (λ t. t ++ b) (h ∙ ap (λ t. t ++ a) none))))
    ∙ append_assoc ((a ++ b) ++ c) d e ∙ append_assoc (a ++ b) c (d ++ e) ∙ append_assoc a b (c ++ (d ++ e))

pub shown_json : (text text' : List ℕ) (scripts scripts' : Scripts) (found found' : List Finding) (zero one two three four five : List ℕ) → text' ≡ text → scripts' ≡ scripts → found' ≡ found
    → zero ≡ [] → one ≡ zero ++ codes "{\"counterexample\":" → two ≡ one ++ text_string text' → three ≡ two ++ codes ",\"findings\":"
    → four ≡ three ++ bracketed (map (finding_string scripts') found') → five ≡ four ++ ranks_end scripts' → five ≡ json_counterexample text scripts found
shown_json text text' scripts scripts' found found' zero one two three four five t s f none h k l m n =
    five_parts (codes "{\"counterexample\":") (text_string text') (codes ",\"findings\":") (bracketed (map (finding_string scripts') found')) (ranks_end scripts')
    zero one two three four five none h k l m n
    ∙ ap (λ x. json_counterexample x scripts' found') t ∙ ap (λ x. json_counterexample text x found') s ∙ ap (json_counterexample text scripts) f
