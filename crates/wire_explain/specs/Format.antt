-- The lines of the formats by their first words, and how each is written.
use Rattle.std.specs.Prelude.{◌≡◌, ◌⊎◌, ℕ, Bool, ◌||◌, true, false, List, [], ◌∷◌, ◌++◌, map, Option, Some, None, codes}
use Rattle.std.specs.Prelude.{slice_get, if◌then◌else◌}
use Rattle.std.specs.List.{All}
use Rattle.std.specs.Str.{bytes_eq}
use Rattle.wire_types.specs.declared.Scope.TheVariants.{Local, Remote, Global}
use Rattle.wire_lines.specs.Said.{Said, IsLawfulLine, first_word, other_words, begins_with, spelled_scope, collect_words}
use Rattle.wire_pattern_lines.specs.Said as pattern
use Rattle.wire_explain.specs.declared.language.Language.{Language}
use Rattle.wire_explain.specs.declared.language.Language.TheVariants.{Plan, Pattern}

-- the first words of a plan, each with how its line is written and where it stands
abbrev pub plan_usages : List (List ℕ × List ℕ)
plan_usages =
    (codes "rehearsal", codes "'rehearsal 1' or 'rehearsal 2', once, before all other lines")
    ∷ (codes "keep", codes "'keep' alone, once, right after 'rehearsal 2'")
    ∷ (codes "node", codes "'node NAME', before the first job; a name is without ':', ',', '#' and '*'")
    ∷ (codes "job", codes "'job NAME'; a name is without ':', ',', '#' and '*'")
    ∷ (codes "rank", codes "'rank NODE', below a 'job' line; a name is without ':', ',', '#' and '*'")
    ∷ (codes "put", codes "'put SCOPE KEY VALUE', below a 'rank' line; SCOPE is local, remote or global, KEY isn't '*'")
    ∷ (codes "commit", codes "'commit' alone, below a 'rank' line")
    ∷ (codes "fence", codes "'fence all' or 'fence ITEM,ITEM,..', then nothing or 'collect', below a 'rank' line; ITEM is JOB:RANK or JOB:*, RANK as for 'get'")
    ∷ (codes "get", codes "'get JOB:RANK KEY', below a 'rank' line; RANK is 0, or up to nine digits that don't begin with 0; KEY isn't '*'")
    ∷ (codes "get-now", codes "'get-now JOB:RANK KEY', below a 'rank' line; RANK is 0, or up to nine digits that don't begin with 0; KEY isn't '*'")
    ∷ (codes "publish", codes "'publish NAME VALUE', below a 'rank' line; NAME isn't '*'")
    ∷ (codes "lookup", codes "'lookup NAME', below a 'rank' line; NAME isn't '*'")
    ∷ (codes "lookup-wait", codes "'lookup-wait NAME', below a 'rank' line; NAME isn't '*'")
    ∷ (codes "unpublish", codes "'unpublish NAME', or 'unpublish *' in version 2, below a 'rank' line")
    ∷ []

-- those of a pattern
abbrev pub pattern_usages : List (List ℕ × List ℕ)
pattern_usages =
    (codes "pattern", codes "'pattern 1', once, before all other lines")
    ∷ (codes "keep", codes "'keep' alone, once, right after 'pattern 1'")
    ∷ (codes "job", codes "'job NAME', outside of loops; a name is without ':', ',', '#', '*', '[' and ']'")
    ∷ (codes "one", codes "'one NAME', below a 'job' line and outside of loops; NAME as for 'job', but not self, each, all, some or cyclic")
    ∷ (codes "many", codes "'many NAME' or 'many NAME min N', below a 'job' line and outside of loops; NAME as for 'one', N is 1 to 9")
    ∷ (
      codes "put",
      codes "'put SCOPE KEY VALUE', below a role; SCOPE is local, remote or global;"
          ++ codes " KEY isn't '*', and only an index such as [self] has brackets; in a loop it has an index with each",
    )
    ∷ (codes "commit", codes "'commit' alone, below a role; in a loop only where no put waits for a commit before the loop, nor at the end of a turn")
    ∷ (
      codes "fence",
      codes "'fence all' or 'fence ITEM,ITEM,..', then nothing or 'collect', below a role, not in 'for some';"
          ++ codes " ITEM is a role, JOB:*, self or each; in a loop one is each, and none has the loop's whole role",
    )
    ∷ (
      codes "get",
      codes "'get RANK KEY', below a role; RANK is a role of one rank, self or, in a loop, each; KEY as for 'put';"
          ++ codes " in a loop one of them names each",
    )
    ∷ (
      codes "get-now",
      codes "'get-now RANK KEY', below a role; RANK is a role of one rank, self or, in a loop, each; KEY as for 'put';"
          ++ codes " in a loop one of them names each",
    )
    ∷ (codes "publish", codes "'publish NAME VALUE', below a role, not in 'for some'; NAME as KEY of 'put'")
    ∷ (codes "lookup", codes "'lookup NAME', below a role; NAME as KEY of 'put'")
    ∷ (codes "lookup-wait", codes "'lookup-wait NAME', below a role; NAME as KEY of 'put'")
    ∷ (codes "unpublish", codes "'unpublish NAME', not in 'for some', or outside of loops 'unpublish *', below a role; NAME as KEY of 'put'")
    ∷ (codes "for", codes "'for ROLES', 'for ROLE cyclic' or 'for some ROLES', below a role and outside of loops; ROLES is one role or more, at most 8, with commas between them")
    ∷ (codes "end", codes "'end' alone, below the lines of a loop")
    ∷ []

-- those of a language
abbrev pub usages : Language → List (List ℕ × List ℕ)
usages Plan = plan_usages
usages Pattern = pattern_usages

-- these first words
abbrev pub format_words : Language → List (List ℕ)
format_words language = map (λ usage. usage.0) (usages language)

-- how the line of a first word is written, in a table
abbrev pub usage_in : List (List ℕ × List ℕ) → List ℕ → Option (List ℕ)
usage_in [] word = None
usage_in (usage ∷ others) word = if bytes_eq usage.0 word then Some usage.1 else usage_in others word

abbrev pub usage_of : Language → List ℕ → Option (List ℕ)
usage_of language word = usage_in (usages language) word

-- whether there is a usage, which begins with a quote and the whole word: a blank or a quote comes behind it
abbrev pub begins_as : List ℕ → Option (List ℕ) → Bool
begins_as word None = false
begins_as word (Some usage) = begins_with (39 ∷ (word ++ 32 ∷ [])) usage || begins_with (39 ∷ (word ++ 39 ∷ [])) usage

-- each line of a plan has a usage, which begins with the first word of the line, whole
abbrev pub LinesHaveUsages : Type 0
LinesHaveUsages = (said : Said) → begins_as (first_word said) (usage_of Plan (first_word said)) ≡ true

-- and so has each of a pattern
abbrev pub PatternLinesHaveUsages : Type 0
PatternLinesHaveUsages = (said : pattern.Said) → begins_as (pattern.first_word said) (usage_of Pattern (pattern.first_word said)) ≡ true

-- the place of the word that is one of a few, in a line that begins with this word: the scope of a put, what follows
-- the set of a fence, and else the first word itself
abbrev pub choice_place : List ℕ → ℕ
choice_place first = if bytes_eq first (codes "put") then 1 else (if bytes_eq first (codes "fence") then 2 else 0)

-- the scopes of a put
abbrev pub scopes : List (List ℕ)
scopes = spelled_scope Local ∷ spelled_scope Remote ∷ spelled_scope Global ∷ []

-- the words that the language has there
abbrev pub choices : Language → List ℕ → List (List ℕ)
choices language first =
    if bytes_eq first (codes "put") then scopes else (if bytes_eq first (codes "fence") then collect_words true else format_words language)

-- a line of a plan has this word at this place, where the word is the first or comes after this first one
pub record IsOfFormat (place : ℕ) (first word : List ℕ) : Type 0 where
  pub said : Said
  pub lawful : IsLawfulLine said
  pub begins : (place ≡ 0) ⊎ (first_word said ≡ first)
  pub there : slice_get (first_word said ∷ other_words said) place ≡ Some word

-- a line of a pattern has it there
pub record IsOfPattern (place : ℕ) (first word : List ℕ) : Type 0 where
  pub said : pattern.Said
  pub lawful : pattern.is_lawful said ≡ true
  pub begins : (place ≡ 0) ⊎ (pattern.first_word said ≡ first)
  pub there : slice_get (pattern.first_word said ∷ pattern.other_words said) place ≡ Some word

-- each usage is that of a line of the format, by its first word
abbrev pub UsagesAreLines : Type 0
UsagesAreLines = All (λ word. IsOfFormat 0 word word) (format_words Plan)

abbrev pub PatternUsagesAreLines : Type 0
PatternUsagesAreLines = All (λ word. IsOfPattern 0 word word) (format_words Pattern)

-- each word that may be meant is one that the format has there
abbrev pub ChoicesAreWords : Type 0
ChoicesAreWords = (first : List ℕ) → All (IsOfFormat (choice_place first) first) (choices Plan first)

abbrev pub PatternChoicesAreWords : Type 0
PatternChoicesAreWords = (first : List ℕ) → All (IsOfPattern (choice_place first) first) (choices Pattern first)
