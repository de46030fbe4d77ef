-- Texts that are told in lines, from their parts.
use Rattle.std.proofs.Common.{◌≡◌, ◌∙◌, ap, sym, ℕ, Bool, false, List, [], ◌++◌, codes, flat_map}
use Rattle.wire_types.specs.declared.CallAt.{CallAt}
use Rattle.wire_runs.specs.Plan.{Event}
use Rattle.wire_types.specs.Outcome.{Ends}
use Rattle.wire_scripts.specs.Scripts.{Scripts}
use Rattle.wire_report.specs.Chain.{chain_form, order_line, event_lines, unordered_form, dead_line}
use Rattle.wire_report.specs.Report.{report}
use Rattle.wire_report.specs.Unsettled.{order_text, unsettled_form}

-- the text of a replay of a plan with findings, from its head, its report and its order
pub unsettled_parts : (json : Bool) (s : Scripts) (ends : Ends) (order empty head told all : List ℕ) → json ≡ false → empty ≡ [] → head ≡ empty ++ codes "unsettled\n" →
    told ≡ head ++ report s ends → all ≡ told ++ order_text s order → all ≡ unsettled_form json s ends order
unsettled_parts json s ends order empty head told all is none first second third =
    third ∙ ap (λ t. t ++ order_text s order) (second ∙ ap (λ t. t ++ report s ends) (first ∙ ap (λ t. t ++ codes "unsettled\n") none))
    ∙ sym (ap (λ j. unsettled_form j s ends order) is)

-- the text of a chain, from its first line and its events
pub chain_parts : (json first : Bool) (s : Scripts) (chain : List Event) (line head all : List ℕ) → json ≡ false → line ≡ order_line first → head ≡ line → all ≡ head ++ event_lines s chain →
    all ≡ chain_form json first s chain
chain_parts json first s chain line head all is told same written =
    written ∙ ap (λ t. t ++ event_lines s chain) (same ∙ told) ∙ sym (ap (λ j. chain_form j first s chain) is)

-- the text of two calls that no chain orders, from its first line and those of the dead
pub unordered_parts : (json : Bool) (s : Scripts) (dead : List CallAt) (line head all : List ℕ) → json ≡ false → line ≡ codes "unordered\n" → head ≡ line → all ≡ head ++ flat_map (dead_line s) dead →
    all ≡ unordered_form json s dead
unordered_parts json s dead line head all is told same written =
    written ∙ ap (λ t. t ++ flat_map (dead_line s) dead) (same ∙ told) ∙ sym (ap (λ j. unordered_form j s dead) is)
