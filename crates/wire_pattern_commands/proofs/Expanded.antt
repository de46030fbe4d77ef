-- From what the parts of `expand` answer to what it answers.
use Rattle.std.proofs.Common.{◌≡◌, ◌≢◌, ◌∙◌, subst, sym, ℕ, List, ◌⊎◌, inl, inr, Option, Result, Ok, Err, IfErr, OnOk}
use Rattle.std.specs.Io.KnownBytes.{Appends}
use Rattle.wire_types.specs.declared.Fault.{Fault}
use Rattle.wire_types.specs.declared.Fault.TheVariants.{Memory, Read}
use Rattle.wire_types.specs.Front.{WritesFront}
use Rattle.wire_pattern.specs.Pattern.{Pattern}
use Rattle.wire_pattern.specs.Instances.{instance_lines, instance_text}
use Rattle.wire_command.proofs.FileFaults as files
use Rattle.wire_pattern_commands.specs.Expand.{BreaksOffExpanded, IsExpanded, IsExpandFault, StopsBeforeExpanded, WritesExpanded}
use Rattle.wire_pattern_commands.specs.Read.{HasNoPattern, ReadAsPattern}
use Rattle.wire_pattern_commands.specs.declared.expand.Expansion.{Expansion}
use Rattle.wire_pattern_commands.proofs.PatternFaults.{read_before}

-- a fault of the file comes before the writing
pub file_stops : (asked : Expansion) (coming : Option (List ℕ)) (e : Fault) → HasNoPattern coming e → StopsBeforeExpanded asked coming e
file_stops asked coming e (inl memory) = inl memory
file_stops asked coming e (inr (inl read)) = inr (inl read)
file_stops asked coming e (inr (inr refuses)) = inr (inr (inl refuses))

-- and so does a fault of what is asked for
pub pattern_stops : (asked : Expansion) (coming : Option (List ℕ)) (p : Pattern) (e : Fault) → ReadAsPattern coming p → IsExpandFault p asked e → StopsBeforeExpanded asked coming e
pattern_stops asked coming p e read why = inr (inr (inr (record { pattern = p; read = read; why = why })))

-- which is no failed read
pub no_read_expanding : (p : Pattern) (asked : Expansion) (e : Fault) → IsExpandFault p asked e → e ≢ Read
no_read_expanding p asked e (inl memory) is = let no : Memory ≡ Read = sym memory ∙ is in cc
no_read_expanding p asked e (inr (inl misfit)) is = let its = misfit.wrong.is in let no : _ ≡ Read = sym its ∙ is in cc
no_read_expanding p asked e (inr (inr (inl many))) is = let its = many.passed.fault in let no : _ ≡ Read = sym its ∙ is in cc
no_read_expanding p asked e (inr (inr (inr plan))) is =
    files.not_read asked.size (instance_text p plan.cast) plan.told (inr plan.reads) (read_before (instance_lines p plan.cast) plan.told (sym plan.is ∙ is))

-- all of the text went out
pub writes_expanded : (asked : Expansion) (coming old new : Option (List ℕ)) (p : Pattern) (text out : List ℕ) (r : Result (Unit {0}) Fault) → ReadAsPattern coming p
    → IsExpanded p asked text → out ≡ text → OnOk r (Appends old new out) → OnOk r (WritesExpanded asked coming old new)
writes_expanded asked coming old new p text out (Ok u) read tells at wrote =
    record { pattern = p; read = read; text = text; tells = tells; wrote = subst (λ t. Appends old new t) at wrote }
writes_expanded asked coming old new p text out (Err e) read tells at wrote = tt

-- or the front of it that the fault counts
pub expanded_err : (asked : Expansion) (coming old new : Option (List ℕ)) (p : Pattern) (text out : List ℕ) (kept failed : Type 0) (r : Result (Unit {0}) Fault)
    → ReadAsPattern coming p → IsExpanded p asked text → out ≡ text → IfErr r (WritesFront old new out) → IfErr r (λ _. failed)
    → IfErr r (λ e. (StopsBeforeExpanded asked coming e × kept) ⊎ (BreaksOffExpanded asked coming old new e × failed))
expanded_err asked coming old new p text out kept failed (Ok u) read tells at front count = tt
expanded_err asked coming old new p text out kept failed (Err e) read tells at front count =
    inr (record { pattern = p; read = read; text = text; tells = tells; wrote = subst (λ t. WritesFront old new t e) at front }, count)
