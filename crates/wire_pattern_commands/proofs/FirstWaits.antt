-- The first instance in which a rank waits, and what is told of it.
use Rattle.std.proofs.Common.{◌≡◌, ◌≢◌, ◌∙◌, ap, sym, subst, refl, ℕ, ◌≤◌, List, [], ◌∷◌, ◌++◌, length, drop, append-nil, Option, None, Some, Ok, Result, Err, IfOk, Bool, true, false, append_assoc, arith, if◌then◌else◌, ◌==◌, inl, inr}
use Rattle.std.specs.Prelude.{Vec, MatchOption, slice_get, codes, not, OnOk, is_ok}
use Rattle.std.specs.declared.alloc.Global.{Global}
use Rattle.std.proofs.lemmas.Bool.{true≢false, not-true, not-false, eqb-true, eqb-false}
use Rattle.std.proofs.lemmas.List.{drop_all}
use Rattle.wire_types.specs.declared.Fault.{Fault}
use Rattle.wire_scripts.specs.Scripts.{Scripts}
use Rattle.wire_reader.specs.declared.Size.TheVariants.{OfVersion}
use Rattle.wire_reader.specs.Reads.{Reads, ReadsOnce}
use Rattle.wire_core.specs.EndsAfter.{plain_ends}
use Rattle.wire_pattern.specs.Pattern.{Role, Pattern}
use Rattle.wire_pattern.specs.Instances as spec
use Rattle.wire_pattern.specs.Instances.{instance_text}
use Rattle.wire_pattern_waits.specs.declared.lines.CallLine.{CallLine}
use Rattle.wire_pattern_waits.specs.Waits.{alone}
use Rattle.wire_pattern_waits.proofs.Judged.{EachBefore}
use Rattle.wire_cutoff.specs.Selections.{Selection, selections}
use Rattle.wire_pattern_later.specs.Later.{grown, IsInstanceWith, IsReadWith, IsUnreadWith}
use Rattle.wire_pattern_later.specs.declared.later.Later.{Later}
use Rattle.wire_pattern_later.specs.declared.later.Instance.{Instance}
use Rattle.wire_pattern_commands.specs.declared.first_wait.FirstWait.{FirstWait}
use Rattle.wire_pattern_commands.specs.declared.left_out.LeftOut.{LeftOut}
use Rattle.wire_pattern_commands.specs.LeftOut.{left_out}
use Rattle.wire_pattern_commands.specs.declared.beyond.Beyond.{Beyond}
use Rattle.wire_pattern_commands.specs.declared.beyond.Beyond.TheVariants.{Unsaid, Never, First, Unknown}
use Rattle.wire_pattern_commands.specs.Beyond.{IsBeyond, first_ranks}
use Rattle.wire_pattern_commands.specs.FirstWait.{RunsThrough, IsWaitOf, IsFirstWaitOf, sizes_words}
use Rattle.wire_pattern_commands.specs.FirstWait.{IsLaterRead, IsLaterWaitOf, IsExplainedWaitOf}
use Rattle.wire_pattern_commands.specs.FirstWait.{AddsLines, NoLines, WaitLines, AddsMember, NullMember, WaitMember, without_end}
use Rattle.wire_pattern_commands.specs.FirstWait.{TellsFirst, ListsFirst, LinesOf, MemberOf, ExplainsFirstWait}

-- the instance of a selection
pub wait_of_selection : (p : Pattern) (s : Selection) (cast : spec.Cast) (sizes : Vec ℕ Global) (left : Vec LeftOut Global) (text : Vec ℕ Global) (scripts : Scripts)
    (found : Option FirstWait) → cast ≡ alone p s → sizes.items ≡ s.sizes → left.items ≡ left_out p cast → text.items ≡ instance_text p cast → Reads OfVersion (instance_text p cast) (Ok scripts)
    → MatchOption found ((plain_ends scripts).waiting ≡ 0) (λ it. (it.sizes ≡ sizes) × (it.left ≡ left) × (it.text ≡ text) × (it.plan ≡ scripts) × ((plain_ends scripts).waiting ≢ 0))
    → IsWaitOf p s found
wait_of_selection p s cast sizes left text scripts None is sizes_are left_are text_is reads none = record {
  scripts = scripts;
  reads = subst (λ c. Reads OfVersion (instance_text p c) (Ok scripts)) is reads;
  none = none;
}
wait_of_selection p s cast sizes left text scripts (Some it) is sizes_are left_are text_is reads found = record {
  sizes_are = ap (λ (v : Vec ℕ Global). v.items) found.0 ∙ sizes_are;
  left_are = ap (λ (v : Vec LeftOut Global). v.items) found.1 ∙ left_are ∙ ap (left_out p) is;
  text_is = own ∙ ap (instance_text p) is;
  reads = subst (λ t. Reads OfVersion t (Ok it.plan)) (sym own) (subst (λ t. Reads OfVersion (instance_text p cast) (Ok t)) (sym found.3) reads);
  some = subst (λ t. (plain_ends t).waiting ≢ 0) (sym found.3) found.4;
}
  where
    own : it.text.items ≡ instance_text p cast
    own = ap (λ (v : Vec ℕ Global). v.items) found.2 ∙ text_is

-- the first of all
pub first_of : (p : Pattern) (n : ℕ) (s : Selection) (found : Option FirstWait) (it : FirstWait) → slice_get (selections p) n ≡ Some s → EachBefore p (RunsThrough p) n
    → found ≡ Some it → IsWaitOf p s found → IsFirstWaitOf p (Some it)
first_of p n s found it at before is stands =
    record { number = n; selection = s; is = at; stands = subst (IsWaitOf p s) is stands; before = λ i other low there. before i other low there }

pub runs_through : (p : Pattern) (s : Selection) (found : Option FirstWait) → found ≡ None → IsWaitOf p s found → RunsThrough p s
runs_through p s found is through = subst (IsWaitOf p s) is through

-- where no size is left, none is written
no_sizes : (roles : List Role) → sizes_words roles [] ≡ []
no_sizes [] = refl
no_sizes (role ∷ roles) = refl

pub sizes_end : (n : ℕ) (roles : List Role) (sizes out all : List ℕ) → length sizes ≤ n → out ++ sizes_words roles (drop n sizes) ≡ all → out ≡ all
sizes_end n roles sizes out all past inv =
    sym (ap (λ ss. out ++ sizes_words roles ss) (drop_all n sizes past) ∙ ap (λ t. out ++ t) (no_sizes roles) ∙ append-nil out) ∙ inv

-- whether a rank waits, by how many do
zero_from : (n : ℕ) → not (n == 0) ≡ false → n ≡ 0
zero_from n h = eqb-true n 0 (not-false (n == 0) h)

some_from : (n : ℕ) → not (n == 0) ≡ true → n ≢ 0
some_from n h = λ e. eqb-false n 0 (not-true (n == 0) h) e

pub none_waits : (scripts plan : Scripts) (waits : Bool) → plan ≡ scripts → waits ≡ not ((plain_ends plan).waiting == 0) → waits ≡ false
    → (plain_ends scripts).waiting ≡ 0
none_waits scripts plan waits same is isnt = subst (λ t. (plain_ends t).waiting ≡ 0) same (zero_from (plain_ends plan).waiting (sym is ∙ isnt))

pub some_waits : (scripts plan : Scripts) (waits : Bool) → plan ≡ scripts → waits ≡ not ((plain_ends plan).waiting == 0) → waits ≡ true
    → (plain_ends scripts).waiting ≢ 0
some_waits scripts plan waits same is so = subst (λ t. (plain_ends t).waiting ≢ 0) same (some_from (plain_ends plan).waiting (sym is ∙ so))

-- two parts of a text
pub two_parts : {A E : Type 0} (r : Result A E) (old a b word first second : List ℕ) → first ≡ old ++ a → word ≡ b
    → second ≡ (if is_ok r then first ++ word else first) → OnOk r (second ≡ old ++ (a ++ b))
two_parts (Err e) old a b word first second one is wrote = tt
two_parts (Ok x) old a b word first second one is wrote =
    wrote ∙ ap (λ t. t ++ word) one ∙ append_assoc old a word ∙ ap (λ w. old ++ (a ++ w)) is

-- a heading and what stands below it, where there is something
pub headed : {A E : Type 0} (r : Result A E) (old first third heading lines : List ℕ) (none : Bool) → none ≡ false → first ≡ old ++ heading
    → OnOk r (third ≡ first ++ lines) → OnOk r (third ≡ old ++ (if none then [] else heading ++ lines))
headed (Err e) old first third heading lines none isnt one two = tt
headed (Ok x) old first third heading lines true isnt one two = absurd (true≢false isnt)
headed (Ok x) old first third heading lines false isnt one two = two ∙ ap (λ t. t ++ lines) one ∙ append_assoc old heading lines

-- and five
pub five_parts : (a b c d e other one two three four : List ℕ) → one ≡ a ++ b → two ≡ one ++ c → other ≡ d → three ≡ two ++ other → four ≡ three ++ e
    → four ≡ a ++ (b ++ (c ++ (d ++ e)))
five_parts a b c d e other one two three four is_one is_two same is_three is_four =
    is_four ∙ ap (λ t. t ++ e) (is_three ∙ ap (λ t. two ++ t) same ∙ ap (λ t. t ++ d) (is_two ∙ ap (λ t. t ++ c) is_one))
    ∙ append_assoc ((a ++ b) ++ c) d e ∙ append_assoc (a ++ b) c (d ++ e) ∙ append_assoc a b (c ++ (d ++ e))

-- what is told of an instance, if there is one
pub lines_told : (p : Pattern) (found : Option FirstWait) (first : FirstWait) (r : Result (Vec ℕ Global) Fault) → found ≡ Some first
    → IfOk r (λ t. TellsFirst p first t.items) → IfOk r (λ t. LinesOf p found t.items)
lines_told p found first r is tells = subst (λ f. IfOk r (λ t. LinesOf p f t.items)) (sym is) tells

pub no_lines_told : (p : Pattern) (found : Option FirstWait) (text : List ℕ) → found ≡ None → text ≡ [] → LinesOf p found text
no_lines_told p found text is none = subst (λ f. LinesOf p f text) (sym is) none

pub member_told : (p : Pattern) (found : Option FirstWait) (first : FirstWait) (r : Result (Vec ℕ Global) Fault) → found ≡ Some first
    → IfOk r (λ t. ListsFirst p first t.items) → IfOk r (λ t. MemberOf p found t.items)
member_told p found first r is lists = subst (λ f. IfOk r (λ t. MemberOf p f t.items)) (sym is) lists

pub no_member_told : (p : Pattern) (found : Option FirstWait) (text : List ℕ) → found ≡ None → text ≡ codes ",\"where\":null}\n" → MemberOf p found text
no_member_told p found text is none = subst (λ f. MemberOf p f text) (sym is) none

-- what is added to a verdict
pub lines_added : (p : Pattern) (verdict lines text : List ℕ) (found : Option FirstWait) → LinesOf p found lines → text ≡ verdict ++ lines
    → (beyond : Beyond) → IsExplainedWaitOf p beyond found → AddsLines p beyond verdict text
lines_added p verdict lines text None none is beyond through = NoLines through (is ∙ ap (λ xs. verdict ++ xs) none ∙ append-nil verdict)
lines_added p verdict lines text (Some it) tells is beyond shown =
    WaitLines it.sizes.items it.text.items tells.told it.left.items it.plan shown tells.tells (is ∙ ap (λ xs. verdict ++ xs) tells.is)

pub member_added : (p : Pattern) (verdict member text : List ℕ) (found : Option FirstWait) → MemberOf p found member → text ≡ without_end verdict ++ member
    → (beyond : Beyond) → IsExplainedWaitOf p beyond found → AddsMember p beyond verdict text
member_added p verdict member text None none is beyond through = NullMember through (is ∙ ap (λ xs. without_end verdict ++ xs) none)
member_added p verdict member text (Some it) lists is beyond shown =
    WaitMember it.sizes.items it.text.items lists.members it.left.items it.plan shown lists.lists (is ∙ ap (λ xs. without_end verdict ++ xs) lists.is)

-- in the form that is asked for
pub member_explains : (json : Bool) (p : Pattern) (verdict : List ℕ) (found : Option FirstWait) (r : Result (Vec ℕ Global) Fault) → json ≡ true
    → IfOk r (λ t. (beyond : Beyond) → IsExplainedWaitOf p beyond found → AddsMember p beyond verdict t.items)
    → IfOk r (λ t. (beyond : Beyond) → IsExplainedWaitOf p beyond found → ExplainsFirstWait true json p beyond verdict t.items)
member_explains true p verdict found r is adds = adds
member_explains false p verdict found r is adds = absurd (true≢false (sym is))

pub lines_explain : (json : Bool) (p : Pattern) (verdict : List ℕ) (found : Option FirstWait) (r : Result (Vec ℕ Global) Fault) → json ≡ false
    → IfOk r (λ t. (beyond : Beyond) → IsExplainedWaitOf p beyond found → AddsLines p beyond verdict t.items)
    → IfOk r (λ t. (beyond : Beyond) → IsExplainedWaitOf p beyond found → ExplainsFirstWait true json p beyond verdict t.items)
lines_explain false p verdict found r is adds = adds
lines_explain true p verdict found r is adds = absurd (true≢false is)

-- where it is to be explained, and where it isn't
pub explained_by : (explain json : Bool) (p : Pattern) (beyond : Beyond) (verdict shown text : List ℕ) → explain ≡ true → shown ≡ verdict
    → ExplainsFirstWait true json p beyond shown text → ExplainsFirstWait explain json p beyond verdict text
explained_by true json p beyond verdict shown text is same explains = subst (λ v. ExplainsFirstWait true json p beyond v text) same explains
explained_by false json p beyond verdict shown text is same explains = absurd (true≢false (sym is))

pub unexplained : (explain json : Bool) (p : Pattern) (beyond : Beyond) (text : List ℕ) → explain ≡ false → ExplainsFirstWait explain json p beyond text text
unexplained false json p beyond text is = refl
unexplained true json p beyond text is = absurd (true≢false is)

-- the instance with so many ranks of each group, with its plan
pub later_planned : (p : Pattern) (ranks : ℕ) (instance : Instance) (it : FirstWait) → IsInstanceWith p ranks instance.sizes.items instance.text.items instance.scripts
    → (it.sizes ≡ instance.sizes) × (it.left.items ≡ []) × (it.text ≡ instance.text) × (it.plan ≡ instance.scripts)
    → IsInstanceWith p ranks it.sizes.items it.text.items it.plan × (it.left.items ≡ [])
later_planned p ranks instance it stands same = (
  record {
    sizes_are = ap (λ (v : Vec ℕ Global). v.items) same.0 ∙ stands.sizes_are;
    text_is = own ∙ stands.text_is;
    reads = subst (λ t. Reads OfVersion t (Ok it.plan)) (sym own) (subst (λ s. Reads OfVersion instance.text.items (Ok s)) (sym same.3) stands.reads);
  },
  same.1,
)
  where
    own : it.text.items ≡ instance.text.items
    own = ap (λ (v : Vec ℕ Global). v.items) same.2

-- an instance that reads as a plan isn't past the limits of one
read_within : (p : Pattern) (n : ℕ) → ReadsOnce → IsReadWith p n → IsUnreadWith p n → ⊥
read_within p n once read (inl many) = (let few = read.0 in omega (arith, few, many))
read_within p n once read (inr unread) =
    let same : Ok read.1.0 ≡ Err unread.0 = once OfVersion (instance_text p (grown p n)) (Ok read.1.0) (Err unread.0) read.1.1 unread.1 in
    absurd cc

-- where something waits first with so many, that is the later one
later_known : (p : Pattern) (beyond : Beyond) (later : Later) (found : Option FirstWait) → ReadsOnce → IsLaterRead p beyond → beyond ≡ First later
    → MatchOption found (IsUnreadWith p later.ranks) (λ it. IsInstanceWith p later.ranks it.sizes.items it.text.items it.plan × (it.left.items ≡ [])) → IsLaterWaitOf p beyond found
later_known p beyond later None once read is unread = absurd (read_within p later.ranks once (read later.ranks (ap first_ranks is)) unread)
later_known p beyond later (Some it) once read is stands = record { ranks = later.ranks; first = ap first_ranks is; stands = stands.0; whole = stands.1 }

pub later_waits : (p : Pattern) (beyond : Beyond) (later : Later) (r : Result (Option FirstWait) Fault) → ReadsOnce → IsLaterRead p beyond → beyond ≡ First later
    → IfOk r (λ found. MatchOption found (IsUnreadWith p later.ranks) (λ it. IsInstanceWith p later.ranks it.sizes.items it.text.items it.plan × (it.left.items ≡ [])))
    → IfOk r (IsLaterWaitOf p beyond)
later_waits p beyond later (Ok found) once read is waits = later_known p beyond later found once read is waits
later_waits p beyond later (Err fault) once read is waits = tt

-- beside a number of ranks with which something waits first stands that the instance reads as a plan
pub later_read : (p : Pattern) (lines : List CallLine) (beyond : Beyond) → IsBeyond p lines beyond → IsLaterRead p beyond
later_read p lines Unsaid is = λ ranks first. let no : None ≡ Some ranks = first in cc
later_read p lines Never is = λ ranks first. let no : None ≡ Some ranks = first in cc
later_read p lines Unknown is = λ ranks first. let no : None ≡ Some ranks = first in cc
later_read p lines (First later) is = λ ranks first.
    let known : Some later.ranks ≡ Some ranks = first in
    let ranks_are : later.ranks ≡ ranks = cc in
    subst (IsReadWith p) ranks_are is.1.waiting.read

-- the first that is judged comes first
pub judged_shown : (p : Pattern) (beyond : Beyond) (found : Option FirstWait) (it : FirstWait) → found ≡ Some it → IsFirstWaitOf p found → IsExplainedWaitOf p beyond (Some it)
judged_shown p beyond found it is first = inl (subst (IsFirstWaitOf p) is first)

pub later_shown : (p : Pattern) (beyond : Beyond) (first found : Option FirstWait) → first ≡ None → IsFirstWaitOf p first → IsLaterWaitOf p beyond found → IsExplainedWaitOf p beyond found
later_shown p beyond first None is through later = (subst (IsFirstWaitOf p) is through, later)
later_shown p beyond first (Some it) is through later = inr (subst (IsFirstWaitOf p) is through, later)
