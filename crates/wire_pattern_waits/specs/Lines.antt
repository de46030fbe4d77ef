-- The call lines of a pattern, and how they are told where something waits there.
use Rattle.std.specs.Prelude.{ℕ, suc, List, [], ◌∷◌, ◌++◌, map, flat_map, codes, decimal, Option, Some, None, slice_get}
use Rattle.wire_types.specs.declared.verb.Verb.{Verb}
use Rattle.wire_types.specs.declared.verb.Verb.TheVariants as verb
use Rattle.wire_types.specs.Verbs.{text_of_verb}
use Rattle.wire_pattern.specs.Pattern.{Call, Put, Commit, Fence, Get, GetNow, Publish, Lookup, LookupWait, Unpublish}
use Rattle.wire_pattern.specs.Pattern.{UnpublishAll, Line, Step, Once, Loop, Role, Pattern}
use Rattle.wire_pattern_waits.specs.declared.lines.CallLine.{CallLine}

-- the verb of a call
abbrev pub verb_of : Call → Verb
verb_of (Put scope key value) = verb.Put
verb_of Commit = verb.Commit
verb_of (Fence items collect) = verb.Fence
verb_of (Get owner key) = verb.Get
verb_of (GetNow owner key) = verb.GetNow
verb_of (Publish name value) = verb.Publish
verb_of (Lookup name) = verb.Lookup
verb_of (LookupWait name) = verb.LookupWait
verb_of (Unpublish name) = verb.Unpublish
verb_of UnpublishAll = verb.Unpublish

-- the call lines of a step
abbrev pub lines_in : Step → List Line
lines_in (Once line) = line ∷ []
lines_in (Loop number role mode lines) = lines

-- the verbs of the call lines of a script
abbrev pub verbs_in : List Step → List Verb
verbs_in steps = map (λ l. verb_of l.call) (flat_map lines_in steps)

-- the call lines of a role with these verbs, the first of them with the number n
abbrev pub numbered : ℕ → ℕ → List Verb → List CallLine
numbered role n [] = []
numbered role n (verb ∷ verbs) = record { role = role; number = n; verb = verb } ∷ numbered role (suc n) verbs

-- those of these roles, the first of them the number n
abbrev pub roles_lines : ℕ → List Role → List CallLine
roles_lines n [] = []
roles_lines n (role ∷ roles) = numbered n 1 (verbs_in role.steps) ++ roles_lines (suc n) roles

-- all call lines, in the order of roles and lines; the first of each role has the number 1
abbrev pub call_lines : Pattern → List CallLine
call_lines p = roles_lines 0 p.roles

abbrev pub name_in : Option Role → List ℕ
name_in None = []
name_in (Some role) = role.name

-- that something waits at this call line: `waits ROLE LINE VERB`
abbrev pub waits_line : Pattern → CallLine → List ℕ
waits_line p line =
    codes "waits " ++ (name_in (slice_get p.roles line.role) ++ (codes " " ++ (decimal line.number ++ (codes " "
    ++ (text_of_verb line.verb ++ codes "\n")))))

abbrev pub waits_text : Pattern → List CallLine → List ℕ
waits_text p lines = flat_map (waits_line p) lines
