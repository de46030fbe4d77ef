-- One line more of a text.
use Rattle.std.proofs.Common.{◌≡◌, ◌∙◌, ap, ℕ, ◌+◌, ◌<◌, List, ◌++◌, append_assoc, length, drop, get_or}
use Rattle.wire_pattern.specs.Pattern.{Pattern}
use Rattle.wire_instances.proofs.Texts.{moved, opened_list, get_or_same}
use Rattle.wire_pattern_waits.specs.declared.lines.CallLine.{CallLine}
use Rattle.wire_pattern_later.specs.Later.{later_line, later_text}

pub later_step : (p : Pattern) (n : ℕ) (lines : List CallLine) (i : ℕ) (past : CallLine) (old now all : List ℕ) → i < length lines
    → now ≡ old ++ later_line p n (get_or lines i past)
    → old ++ later_text p n (drop i lines) ≡ all → now ++ later_text p n (drop (i + 1) lines) ≡ all
later_step p n lines i past old now all h more inv =
    moved old now (later_line p n (get_or lines i past)) (later_text p n (drop (i + 1) lines)) (later_text p n (drop i lines)) all more
    (ap (later_text p n) (opened_list lines i (get_or lines i past) h (get_or_same lines i past h))) inv

more : (s x next rest : List ℕ) → next ≡ s ++ x → next ++ rest ≡ s ++ (x ++ rest)
more s x next rest is = ap (λ t. t ++ rest) is ∙ append_assoc s x rest

-- nine pieces, one after another
pub nine_parts : (old a b c d e f g h i s t u v w x y z end : List ℕ) → s ≡ old ++ a → t ≡ s ++ b → u ≡ t ++ c → v ≡ u ++ d → w ≡ v ++ e → x ≡ w ++ f
    → y ≡ x ++ g → z ≡ y ++ h → end ≡ z ++ i → end ≡ old ++ (a ++ (b ++ (c ++ (d ++ (e ++ (f ++ (g ++ (h ++ i))))))))
nine_parts old a b c d e f g h i s t u v w x y z end one two three four five six seven eight nine =
    nine ∙ more y h z i eight ∙ more x g y (h ++ i) seven ∙ more w f x (g ++ (h ++ i)) six ∙ more v e w (f ++ (g ++ (h ++ i))) five
    ∙ more u d v (e ++ (f ++ (g ++ (h ++ i)))) four ∙ more t c u (d ++ (e ++ (f ++ (g ++ (h ++ i))))) three
    ∙ more s b t (c ++ (d ++ (e ++ (f ++ (g ++ (h ++ i)))))) two ∙ more old a s (b ++ (c ++ (d ++ (e ++ (f ++ (g ++ (h ++ i))))))) one
