-- The pattern of wire_runs that a pattern of a file is. A call of a reserved key or name has a fixed reply.
use Rattle.std.specs.Prelude.{ℕ, suc, ◌+◌, ◌*◌, ◌==◌, Bool, false, List, [], ◌∷◌, map, flat_map, Option, Some, None}
use Rattle.std.specs.Prelude.{slice_get, if◌then◌else◌}
use Rattle.wire_types.specs.Replies.{bare}
use Rattle.wire_types.specs.Said.{is_reserved}
use Rattle.wire_types.specs.declared.Reply.{Reply}
use Rattle.wire_types.specs.declared.Status.TheVariants.{NotFound, BadParam}
use Rattle.wire_runs.specs.Patterns as plan
use Rattle.wire_runs.specs.Patterns.{LinePut, LineCommit, LineFence, LineGet, LineGetNow, LinePublish, LineLookup}
use Rattle.wire_runs.specs.Patterns.{LineLookupWait, LineUnpublish, LineUnpublishAll, LineFixed}
use Rattle.wire_pattern.specs.Pattern.{Indexed, Item, One, Group, Job, Call, Put, Commit, Fence, Get, GetNow, Publish}
use Rattle.wire_pattern.specs.Pattern.{Lookup, LookupWait, Unpublish, UnpublishAll, Step, Once, Loop, Role, Pattern}

-- the number of a text: its bytes as digits
abbrev pub text_number : List ℕ → ℕ
text_number [] = 0
text_number (b ∷ bs) = suc b + 257 * text_number bs

abbrev pub word_of : Indexed → plan.Word
word_of word = record { base = text_number word.base; indices = word.indices }

-- the numbers of a job's roles, the first of these roles with the number n
abbrev pub roles_of : ℕ → ℕ → List Role → List ℕ
roles_of job n [] = []
roles_of job n (role ∷ roles) = if role.job == job then n ∷ roles_of job (suc n) roles else roles_of job (suc n) roles

-- what an item stands for
abbrev pub items_of : List Role → Item → List plan.Item
items_of roles (One w) = plan.One w ∷ []
items_of roles (Group role) = plan.Every role ∷ []
items_of roles (Job job) = map plan.Every (roles_of job 0 roles)

-- a call of a key or a name: one with a fixed reply where its base is reserved
abbrev pub unless_reserved : Indexed → Reply → plan.Line → plan.Line
unless_reserved word reply line = if is_reserved word.base then LineFixed reply else line

abbrev pub line_of : List Role → Call → plan.Line
line_of roles (Put scope key value) = unless_reserved key (bare BadParam) (LinePut (word_of key) scope)
line_of roles Commit = LineCommit
line_of roles (Fence items collect) = LineFence (flat_map (items_of roles) items) collect
line_of roles (Get owner key) = unless_reserved key (bare NotFound) (LineGet owner (word_of key))
line_of roles (GetNow owner key) = unless_reserved key (bare NotFound) (LineGetNow owner (word_of key))
line_of roles (Publish name value) = unless_reserved name (bare BadParam) (LinePublish (word_of name))
line_of roles (Lookup name) = unless_reserved name (bare BadParam) (LineLookup (word_of name))
line_of roles (LookupWait name) = unless_reserved name (bare BadParam) (LineLookupWait (word_of name))
line_of roles (Unpublish name) = unless_reserved name (bare BadParam) (LineUnpublish (word_of name))
line_of roles UnpublishAll = LineUnpublishAll

abbrev pub step_of : List Role → Step → plan.Step
step_of roles (Once line) = plan.Once (line_of roles line.call)
step_of roles (Loop number group turns lines) = plan.Loop group turns (map (λ l. line_of roles l.call) lines)

abbrev pub steps_in : Option Role → List Step
steps_in None = []
steps_in (Some role) = role.steps

abbrev pub single_in : Option Role → Bool
single_in None = false
single_in (Some role) = role.single

-- a role that isn't there is a group without a script
abbrev pub pattern_of : Pattern → plan.Pattern
pattern_of p = record {
  single = λ role. single_in (slice_get p.roles role);
  script = λ role. map (step_of p.roles) (steps_in (slice_get p.roles role));
  keep = p.keeps;
}

-- how many processes a role has at least, none where it isn't there
abbrev pub least_in : Option Role → ℕ
least_in None = 0
least_in (Some role) = role.least

abbrev pub least_of : Pattern → ℕ → ℕ
least_of p role = least_in (slice_get p.roles role)
