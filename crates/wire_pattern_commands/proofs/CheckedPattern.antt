-- From what the parts of `check --pattern` answer to what it answers.
use Rattle.std.proofs.Common.{◌≡◌, ◌≢◌, ◌∙◌, subst, sym, ℕ, List, ◌⊎◌, inl, inr, Option, Result, Ok, Err, IfOk, IfErr, OnOk, ◌++◌, ap, append_assoc, if◌then◌else◌}
use Rattle.std.specs.Prelude.{is_ok}
use Rattle.std.specs.Io.KnownBytes.{Appends}
use Rattle.wire_types.specs.declared.Fault.{Fault}
use Rattle.wire_types.specs.declared.Fault.TheVariants.{Memory, Read}
use Rattle.wire_types.specs.Front.{WritesFront}
use Rattle.wire_reader.specs.declared.Size.TheVariants.{OfVersion}
use Rattle.wire_pattern.specs.Pattern.{Pattern}
use Rattle.wire_pattern.specs.Instances.{Cast, instance_lines, instance_text}
use Rattle.wire_pattern.specs.Lawful.{IsSoundPattern}
use Rattle.wire_cutoff.specs.Texts.{TextsSettled}
use Rattle.wire_cutoff.specs.Judged.{HasFewTurns, HasManyTurns, IsJudgeFault, IsSweepFault, IsTextFault, IsWithinPatternLimits, largest_cast}
use Rattle.wire_cutoff_laws.specs.Promised.{IsSettledForAll, HasOneEndForAll}
use Rattle.wire_command.specs.declared.answer.Answer.{Answer}
use Rattle.wire_command.specs.declared.ended.Ended.{Ended}
use Rattle.wire_command.specs.declared.ended.Ended.TheVariants.{Clean, Found}
use Rattle.wire_command.proofs.FileFaults as files
use Rattle.wire_pattern_commands.specs.CheckPattern.{BreaksOffPatternVerdict, EndsInOneStateForAll, IsPatternVerdict, IsExplainedSaid, StopsBeforePattern}
use Rattle.wire_pattern_commands.specs.CheckPattern.{IsJudgedPattern, WritesPatternVerdict}
use Rattle.wire_pattern_commands.specs.declared.asked.PatternAsked.{PatternAsked}
use Rattle.wire_pattern_commands.specs.Read.{HasNoPattern, ReadAsPattern}
use Rattle.wire_pattern_commands.proofs.PatternFaults.{read_before}

-- a fault of the file comes before the writing
pub file_stops : (coming : Option (List ℕ)) (e : Fault) → HasNoPattern coming e → StopsBeforePattern coming e
file_stops coming e (inl memory) = inl memory
file_stops coming e (inr (inl read)) = inr (inl read)
file_stops coming e (inr (inr refuses)) = inr (inr (inl refuses))

-- and so does one of an instance
pub sweep_stops : (coming : Option (List ℕ)) (p : Pattern) (e : Fault) → ReadAsPattern coming p → IsSweepFault p e → StopsBeforePattern coming e
sweep_stops coming p e read why = inr (inr (inr (record { pattern = p; read = read; fault_is = why })))

-- where the pattern is within its limits
pub judging_stops : {A : Type 0} (p : Pattern) (r : Result A Fault) → IsWithinPatternLimits p → IfErr r (λ e. IsJudgeFault p e) → IfErr r (λ e. IsSweepFault p e)
judging_stops p (Ok x) within is = tt
judging_stops p (Err e) within (inl memory) = inl memory
judging_stops p (Err e) within (inr told) = inr (inr (within, told))

-- which is no failed read
no_read_text : (p : Pattern) (cast : Cast) (e : Fault) → IsTextFault p cast e → e ≢ Read
no_read_text p cast e text is =
    files.not_read OfVersion (instance_text p cast) text.told (inr text.reads) (read_before (instance_lines p cast) text.told (sym text.is ∙ is))

no_read_turns : (p : Pattern) (e : Fault) → HasManyTurns p e ⊎ (HasFewTurns p × IsTextFault p (largest_cast p) e) → e ≢ Read
no_read_turns p e (inl many) is = let no : _ ≡ Read = sym many.2 ∙ is in cc
no_read_turns p e (inr few) is = no_read_text p (largest_cast p) e few.1 is

pub no_read_judging : (p : Pattern) (e : Fault) → IsSweepFault p e → e ≢ Read
no_read_judging p e (inl memory) is = let no : Memory ≡ Read = sym memory ∙ is in cc
no_read_judging p e (inr (inl (inl many))) is = let no : _ ≡ Read = sym many.1 ∙ is in cc
no_read_judging p e (inr (inl (inr few))) is = no_read_turns p e few.1 is
no_read_judging p e (inr (inr small)) is = no_read_text p small.1.cast e small.1.of_text is

-- all of the verdict went out
pub writes_verdict : (coming old new : Option (List ℕ)) (p : Pattern) (asked : PatternAsked) (text : List ℕ) (ended : Ended) (r : Result Ended Fault)
    → IsJudgedPattern coming p → IsPatternVerdict p asked text ended
    → IfOk r (λ e. (e ≡ ended) × Appends old new text) → IfOk r (λ e. WritesPatternVerdict asked coming e old new)
writes_verdict coming old new p asked text ended (Ok e) judged tells wrote =
    record { pattern = p; judged = judged; text = text; tells = subst (IsPatternVerdict p asked text) (sym wrote.0) tells; wrote = wrote.1 }
writes_verdict coming old new p asked text ended (Err e) judged tells wrote = tt

-- or the front of it that the fault counts
pub verdict_err : (coming old new : Option (List ℕ)) (p : Pattern) (asked : PatternAsked) (text : List ℕ) (ended : Ended) (kept failed : Type 0)
    (r : Result Ended Fault) → IsJudgedPattern coming p
    → IsPatternVerdict p asked text ended → IfErr r (WritesFront old new text) → IfErr r (λ _. failed)
    → IfErr r (λ e. (StopsBeforePattern coming e × kept) ⊎ (BreaksOffPatternVerdict asked coming old new e × failed))
verdict_err coming old new p asked text ended kept failed (Ok e) judged tells front count = tt
verdict_err coming old new p asked text ended kept failed (Err e) judged tells front count =
    inr (record { pattern = p; judged = judged; text = text; ended = ended; tells = tells; wrote = front }, count)

-- where nothing is found, each instance has one end, and its text
pub settled_answer : (p : Pattern) (asked : PatternAsked) (r : Result Answer Fault) → IsSoundPattern p → TextsSettled → IsSettledForAll p → HasOneEndForAll p
    → IfOk r (λ a. IsExplainedSaid p asked a.text.items a.ended) → IfOk r (λ a. IsPatternVerdict p asked a.text.items a.ended)
settled_answer p asked (Ok answer) sound texts settled one_end said = inl (record {
  settled = settled;
  one_end = one_end;
  texts = λ cast size scripts is_cast least reads. (texts p cast size scripts sound settled is_cast least reads).1;
  said = said;
})
settled_answer p asked (Err e) sound texts settled one_end said = tt

-- which is what the answer `Clean` says
clean_means : (coming : Option (List ℕ)) (p : Pattern) (asked : PatternAsked) (text : List ℕ) (ended : Ended) → ReadAsPattern coming p
    → IsPatternVerdict p asked text ended
    → ended ≡ Clean → EndsInOneStateForAll coming
clean_means coming p asked text ended read (inl settled) is = record { pattern = p; read = read; one_end = settled.one_end; texts = settled.texts }
clean_means coming p asked text ended read (inr found) is = let no : Found _ ≡ Clean = sym found.ends ∙ is in absurd (cc)

pub clean_one_end : (coming old new : Option (List ℕ)) (p : Pattern) (asked : PatternAsked) (text : List ℕ) (ended : Ended) (r : Result Ended Fault)
    → ReadAsPattern coming p
    → IsPatternVerdict p asked text ended → IfOk r (λ e. (e ≡ ended) × Appends old new text) → r ≡ Ok Clean → EndsInOneStateForAll coming
clean_one_end coming old new p asked text ended (Ok e) read tells wrote clean =
    let is : e ≡ Clean = cc in clean_means coming p asked text ended read tells (sym wrote.0 ∙ is)
clean_one_end coming old new p asked text ended (Err e) read tells wrote clean = let bad : Err e ≡ Ok Clean = clean in absurd (cc)

-- three parts of a line
pub three_parts : {A E : Type 0} (r : Result A E) (old a b c word first second third : List ℕ) → first ≡ old ++ a → second ≡ first ++ b → word ≡ c → third ≡ (if is_ok r then second ++ word else second)
    → OnOk r (third ≡ old ++ (a ++ (b ++ c)))
three_parts (Err e) old a b c word first second third one two is wrote = tt
three_parts (Ok x) old a b c word first second third one two is wrote =
    wrote ∙ ap (λ t. t ++ word) (two ∙ ap (λ t. t ++ b) one) ∙ append_assoc (old ++ a) b word ∙ append_assoc old a (b ++ word) ∙ ap (λ w. old ++ (a ++ (b ++ w))) is
