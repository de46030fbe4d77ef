-- What is noted of the scripts that an instance's text reads as is noted of the instance.
use Rattle.std.proofs.Common.{◌≡◌, ◌∙◌, ap, sym, subst, ℕ, List, true, Ok, Err, Result}
use Rattle.wire_types.specs.declared.Fault.{Fault}
use Rattle.wire_scripts.specs.Scripts.{Scripts}
use Rattle.wire_scripts.specs.Placed.{placed}
use Rattle.wire_reader.specs.declared.Size.TheVariants.{OfVersion}
use Rattle.wire_reader.specs.Reads.{Reads, ReadsOnce}
use Rattle.wire_pattern.specs.Pattern.{Pattern}
use Rattle.wire_pattern.specs.Instances.{Cast, instance_text}
use Rattle.wire_pattern_answers.specs.declared.notes.Note.{Note}
use Rattle.wire_pattern_answers.specs.Answers.{IsAnsweredAtLine}
use Rattle.wire_pattern_answers.specs.Notes.{is_noted, NotesAre, IsAnsweredThere, IsAnsweredApart}

-- the scripts that are read, or others where none are
abbrev read_or : Scripts → Result Scripts Fault → Scripts
read_or other (Ok scripts) = scripts
read_or other (Err fault) = other

-- a text reads as one
same_scripts : (text : List ℕ) (s t : Scripts) → ReadsOnce → Reads OfVersion text (Ok s) → Reads OfVersion text (Ok t) → s ≡ t
same_scripts text s t once a b = ap (read_or t) (once OfVersion text (Ok s) (Ok t) a b)

module _ (p : Pattern) (cast : Cast) (scripts : Scripts) (notes : List Note) (once : ReadsOnce) (reads : Reads OfVersion (instance_text p cast) (Ok scripts)) where
  pub noted_there : NotesAre notes (IsAnsweredAtLine p cast scripts) → NotesAre notes (IsAnsweredThere p cast)
  noted_there noted role line status = (to, from)
    where
      to : is_noted notes role line status ≡ true → IsAnsweredThere p cast role line status
      to h = record { scripts = scripts; reads = reads; answered = (noted role line status).0 h }

      from : IsAnsweredThere p cast role line status → is_noted notes role line status ≡ true
      from x =
          let same = same_scripts (instance_text p cast) x.scripts scripts once x.reads reads in
          (noted role line status).1 (subst (λ s. IsAnsweredAtLine p cast s role line status) same x.answered)

  pub noted_apart : (now : Scripts) (ranks : List ℕ) → now ≡ placed scripts ranks → NotesAre notes (IsAnsweredAtLine p cast now) → NotesAre notes (IsAnsweredApart p cast ranks)
  noted_apart now ranks are noted role line status = (to, from)
    where
      to : is_noted notes role line status ≡ true → IsAnsweredApart p cast ranks role line status
      to h = record { scripts = scripts; reads = reads; answered = subst (λ s. IsAnsweredAtLine p cast s role line status) are ((noted role line status).0 h) }

      from : IsAnsweredApart p cast ranks role line status → is_noted notes role line status ≡ true
      from x =
          let same = same_scripts (instance_text p cast) x.scripts scripts once x.reads reads in
          (noted role line status).1 (subst (λ s. IsAnsweredAtLine p cast s role line status) (ap (λ s. placed s ranks) same ∙ sym are) x.answered)
