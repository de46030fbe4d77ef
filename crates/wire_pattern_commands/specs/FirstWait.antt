-- The first instance of a pattern in which a rank waits for ever, or that with the number of ranks of each group with
-- which one does first, and what is told of it.
use Rattle.std.specs.Prelude.{◌≡◌, ◌≢◌, ◌⊎◌, ◌<◌, ◌-◌, ◌==◌, ℕ, Bool, true, false, List, [], ◌∷◌, ◌++◌, Some, None, Ok, MatchOption}
use Rattle.std.specs.Prelude.{Option, take, length, slice_get, codes, decimal, if◌then◌else◌}
use Rattle.wire_scripts.specs.Scripts.{Scripts}
use Rattle.wire_reader.specs.declared.Size.TheVariants.{OfVersion}
use Rattle.wire_reader.specs.Reads.{Reads}
use Rattle.wire_core.specs.EndsAfter.{plain_ends}
use Rattle.wire_pattern.specs.Pattern.{Role, Pattern}
use Rattle.wire_pattern.specs.Instances.{instance_text}
use Rattle.wire_pattern_waits.specs.Waits.{alone}
use Rattle.wire_pattern_later.specs.Later.{IsInstanceWith, IsReadWith}
use Rattle.wire_standstill.specs.Told.{TellsStandstill, ListsStandstill}
use Rattle.wire_cutoff.specs.Selections.{Selection, selections}
use Rattle.wire_json.specs.Json.{quoted}
use Rattle.wire_pattern_commands.specs.Strings.{lines_list, text_string}
use Rattle.wire_pattern_commands.specs.LeftOut.{left_out, left_part, turns_text}
use Rattle.wire_pattern_commands.specs.declared.left_out.LeftOut.{LeftOut}
use Rattle.wire_pattern_commands.specs.Beyond.{first_ranks}
use Rattle.wire_pattern_commands.specs.declared.beyond.Beyond.{Beyond}
use Rattle.wire_pattern_commands.specs.declared.first_wait.FirstWait.{FirstWait}

-- in the instance of this selection, each process on a node of its own, no rank waits where the plain run can't go on
pub record RunsThrough (p : Pattern) (selection : Selection) : Type 0 where
  pub scripts : Scripts
  pub reads : Reads OfVersion (instance_text p (alone p selection)) (Ok scripts)
  pub none : (plain_ends scripts).waiting ≡ 0

-- one does there: how many ranks each role has, which turns are left out, the text of the instance, and what that reads as
pub record StandsAs (p : Pattern) (selection : Selection) (sizes : List ℕ) (left : List LeftOut) (text : List ℕ) (scripts : Scripts) : Type 0 where
  pub sizes_are : sizes ≡ selection.sizes
  pub left_are : left ≡ left_out p (alone p selection)
  pub text_is : text ≡ instance_text p (alone p selection)
  pub reads : Reads OfVersion text (Ok scripts)
  pub some : (plain_ends scripts).waiting ≢ 0

-- in no instance that is judged does a rank wait
abbrev pub AllRunThrough : Pattern → Type 0
AllRunThrough p = (number : ℕ) (selection : Selection) → slice_get (selections p) number ≡ Some selection → RunsThrough p selection

-- the first instance that is judged in which one does
pub record IsFirstWait (p : Pattern) (sizes : List ℕ) (left : List LeftOut) (text : List ℕ) (scripts : Scripts) : Type 0 where
  pub number : ℕ
  pub selection : Selection
  pub is : slice_get (selections p) number ≡ Some selection
  pub stands : StandsAs p selection sizes left text scripts
  pub before : (i : ℕ) (other : Selection) → i < number → slice_get (selections p) i ≡ Some other → RunsThrough p other

-- the instance with the number of ranks of each group with which one does first, where that is known: no turn is left out
pub record IsLaterWait (p : Pattern) (beyond : Beyond) (sizes : List ℕ) (left : List LeftOut) (text : List ℕ) (scripts : Scripts) : Type 0 where
  pub ranks : ℕ
  pub first : first_ranks beyond ≡ Some ranks
  pub stands : IsInstanceWith p ranks sizes text scripts
  pub whole : left ≡ []

-- the instance that is shown: the first that is judged in which a rank waits, or the later one where none does in these
abbrev pub IsExplainedWait : Pattern → Beyond → List ℕ → List LeftOut → List ℕ → Scripts → Type 0
IsExplainedWait p beyond sizes left text scripts =
    IsFirstWait p sizes left text scripts ⊎ (AllRunThrough p × IsLaterWait p beyond sizes left text scripts)

-- there is none to show: in no instance that is judged does a rank wait, and no such number is known
abbrev pub IsNoneExplained : Pattern → Beyond → Type 0
IsNoneExplained p beyond = AllRunThrough p × (first_ranks beyond ≡ None)

-- how many ranks a group has; nothing of a role of one rank
abbrev pub size_words : Role → ℕ → List ℕ
size_words role size = if role.single then [] else codes ", " ++ (role.name ++ (codes "=" ++ decimal size))

-- so for all groups
abbrev pub sizes_words : List Role → List ℕ → List ℕ
sizes_words [] sizes = []
sizes_words (role ∷ roles) [] = []
sizes_words (role ∷ roles) (size ∷ sizes) = size_words role size ++ sizes_words roles sizes

-- so many ranks
abbrev pub count_words : ℕ → List ℕ
count_words count = decimal count ++ (if count == 1 then codes " rank" else codes " ranks")

-- how many ranks the instance has, and each of its groups
abbrev pub with_words : Pattern → List ℕ → Scripts → List ℕ
with_words p sizes scripts = count_words (length scripts.processes) ++ sizes_words p.roles sizes

-- the line above who waits
abbrev pub first_line : Pattern → List ℕ → Scripts → List ℕ
first_line p sizes scripts = codes "ranks wait for ever with " ++ (with_words p sizes scripts ++ codes ":\n")

-- nothing is added where there is no instance to show; else lines that tell which turns it leaves out, and who waits for
-- ever in it
pub data AddsLines (p : Pattern) (beyond : Beyond) (verdict text : List ℕ) : Type 0 where
  NoLines : IsNoneExplained p beyond → text ≡ verdict → AddsLines p beyond verdict text
  WaitLines : (sizes plan_text told : List ℕ) (left : List LeftOut) (scripts : Scripts) → IsExplainedWait p beyond sizes left plan_text scripts
      → TellsStandstill scripts told → text ≡ verdict ++ (first_line p sizes scripts ++ (left_part scripts left ++ told)) → AddsLines p beyond verdict text

-- an object without the brace that closes it and the line feed
abbrev pub without_end : List ℕ → List ℕ
without_end object = take (length object - 2) object

-- each turn that is left out
abbrev pub not_taken_member : Scripts → List LeftOut → List ℕ
not_taken_member scripts left = codes "\"not_taken\":" ++ (lines_list (turns_text scripts left) ++ codes ",")

-- the text of the plan as one string, and how many ranks it has
abbrev pub plan_members : Pattern → List ℕ → List ℕ → Scripts → List ℕ
plan_members p sizes text scripts =
    codes "\"plan\":" ++ (text_string text ++ (codes ",\"with\":" ++ (quoted (with_words p sizes scripts) ++ codes "}}\n")))

-- the same as a last member of the object
pub data AddsMember (p : Pattern) (beyond : Beyond) (verdict text : List ℕ) : Type 0 where
  NullMember : IsNoneExplained p beyond → text ≡ without_end verdict ++ codes ",\"where\":null}\n" → AddsMember p beyond verdict text
  WaitMember : (sizes plan_text members : List ℕ) (left : List LeftOut) (scripts : Scripts) → IsExplainedWait p beyond sizes left plan_text scripts
      → ListsStandstill scripts members
      → text ≡ without_end verdict ++ (codes ",\"where\":" ++ (members ++ (not_taken_member scripts left ++ plan_members p sizes plan_text scripts)))
      → AddsMember p beyond verdict text

-- what becomes of a verdict, in lines or as JSON, where it is to be explained, and where it isn't
abbrev pub ExplainsFirstWait : (explain json : Bool) → Pattern → Beyond → List ℕ → List ℕ → Type 0
ExplainsFirstWait false json p beyond verdict text = text ≡ verdict
ExplainsFirstWait true false p beyond verdict text = AddsLines p beyond verdict text
ExplainsFirstWait true true p beyond verdict text = AddsMember p beyond verdict text

-- the rest is for private contracts alone

-- the instance of a selection, where a rank waits in it
abbrev pub IsWaitOf : Pattern → Selection → Option FirstWait → Type 0
IsWaitOf p selection found = MatchOption found (RunsThrough p selection) (λ it. StandsAs p selection it.sizes.items it.left.items it.text.items it.plan)

-- the first instance in which one does, if there is one
abbrev pub IsFirstWaitOf : Pattern → Option FirstWait → Type 0
IsFirstWaitOf p found = MatchOption found (AllRunThrough p) (λ it. IsFirstWait p it.sizes.items it.left.items it.text.items it.plan)

-- the instance with the number of ranks of each group that is known reads as a plan
abbrev pub IsLaterRead : Pattern → Beyond → Type 0
IsLaterRead p beyond = (ranks : ℕ) → first_ranks beyond ≡ Some ranks → IsReadWith p ranks

-- the later one, if there is one
abbrev pub IsLaterWaitOf : Pattern → Beyond → Option FirstWait → Type 0
IsLaterWaitOf p beyond found = MatchOption found (first_ranks beyond ≡ None) (λ it. IsLaterWait p beyond it.sizes.items it.left.items it.text.items it.plan)

-- the instance that is shown, if there is one
abbrev pub IsExplainedWaitOf : Pattern → Beyond → Option FirstWait → Type 0
IsExplainedWaitOf p beyond found =
    MatchOption found (IsNoneExplained p beyond) (λ it. IsExplainedWait p beyond it.sizes.items it.left.items it.text.items it.plan)

-- the lines about it
pub record TellsFirst (p : Pattern) (first : FirstWait) (text : List ℕ) : Type 0 where
  pub told : List ℕ
  pub tells : TellsStandstill first.plan told
  pub is : text ≡ first_line p first.sizes.items first.plan ++ (left_part first.plan first.left.items ++ told)

-- the member about it
pub record ListsFirst (p : Pattern) (first : FirstWait) (text : List ℕ) : Type 0 where
  pub members : List ℕ
  pub lists : ListsStandstill first.plan members
  pub is : text ≡ codes ",\"where\":" ++ (members ++ (not_taken_member first.plan first.left.items
      ++ plan_members p first.sizes.items first.text.items first.plan))

abbrev pub LinesOf : Pattern → Option FirstWait → List ℕ → Type 0
LinesOf p found text = MatchOption found (text ≡ []) (λ first. TellsFirst p first text)

abbrev pub MemberOf : Pattern → Option FirstWait → List ℕ → Type 0
MemberOf p found text = MatchOption found (text ≡ codes ",\"where\":null}\n") (λ first. ListsFirst p first text)
