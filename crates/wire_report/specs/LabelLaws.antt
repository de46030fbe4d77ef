-- What holds of the labels and of the groups of findings.
use Rattle.std.specs.Prelude.{◌≡◌, ◌⊎◌, ◌↔◌, ℕ, List}
use Rattle.wire_types.specs.declared.CallAt.{CallAt}
use Rattle.wire_scripts.specs.Scripts.{Scripts}
use Rattle.wire_findings.specs.declared.finding.Finding.{Finding}
use Rattle.wire_words.specs.Words.{verb_text_in}
use Rattle.wire_report.specs.declared.tally.Group.{Group}
use Rattle.wire_report.specs.declared.label.Pair.{Pair}
use Rattle.wire_report.specs.Label.{call_there, pair_of, subject_of, label_of}
use Rattle.wire_report.specs.Grouped.{AreGroupsOf}

-- the verb of the call at a place, as the texts show it
abbrev pub verb_there : Scripts → CallAt → List ℕ
verb_there s call = verb_text_in (call_there s call)

-- the calls of two pairs have the same two verbs, whichever of the two stands first
abbrev pub HaveSameVerbs : Scripts → Pair → Pair → Type 0
HaveSameVerbs s p q =
    ((verb_there s p.lower ≡ verb_there s q.lower) × (verb_there s p.higher ≡ verb_there s q.higher))
    ⊎ ((verb_there s p.lower ≡ verb_there s q.higher) × (verb_there s p.higher ≡ verb_there s q.lower))

-- two findings have one label exactly if they are of one kind, on the same key or name, and their calls have the same
-- two verbs
abbrev pub LabelsTell : Type 0
LabelsTell = (s : Scripts) (f g : Finding) → (label_of s f ≡ label_of s g) ↔ ((subject_of s f ≡ subject_of s g) × HaveSameVerbs s (pair_of f) (pair_of g))

-- findings have one list of groups: that which the lines tell is that which the JSON form tells
abbrev pub OneGrouping : Type 0
OneGrouping = (s : Scripts) (found : List Finding) (groups others : List Group) → AreGroupsOf s found groups → AreGroupsOf s found others → groups ≡ others
