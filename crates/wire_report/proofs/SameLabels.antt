-- What `==` says of two labels.
use Rattle.std.proofs.Common.{◌≡◌, ap, refl, Option, Some, None}
use Rattle.std.specs.Bool.{Decides}
use Rattle.std.specs.Option.{option_eq}
use Rattle.std.proofs.lemmas.Option.{same_Some}
use Rattle.wire_types.specs.declared.verb.Verb.{Verb}
use Rattle.wire_types.specs.declared.verb.Verb.TheVariants.{Put, Commit, Fence, Get, GetNow, Publish, Lookup, LookupWait, Unpublish}
use Rattle.wire_types.specs.contracts.verb.VerbPartialEq.TheImpl as verbs
use Rattle.wire_scripts.proofs.SameCalls.{apart, alike, number, both, through}
use Rattle.wire_report.specs.declared.label.Subject.{Subject}
use Rattle.wire_report.specs.declared.label.Subject.TheVariants.{Rewrite, KeyRace, NameRace}
use Rattle.wire_report.specs.declared.label.Label.{Label}
use Rattle.wire_report.specs.contracts.label.SubjectPartialEq.TheImpl as subjects
use Rattle.wire_report.specs.contracts.label.LabelPartialEq.TheImpl as labels

verbs_decide : (v w : Verb) → Decides (verbs.ghosts.eq v w) (v ≡ w)
verbs_decide Put Put = alike refl
verbs_decide Put Commit = apart (λ e. cc)
verbs_decide Put Fence = apart (λ e. cc)
verbs_decide Put Get = apart (λ e. cc)
verbs_decide Put GetNow = apart (λ e. cc)
verbs_decide Put Publish = apart (λ e. cc)
verbs_decide Put Lookup = apart (λ e. cc)
verbs_decide Put LookupWait = apart (λ e. cc)
verbs_decide Put Unpublish = apart (λ e. cc)
verbs_decide Commit Put = apart (λ e. cc)
verbs_decide Commit Commit = alike refl
verbs_decide Commit Fence = apart (λ e. cc)
verbs_decide Commit Get = apart (λ e. cc)
verbs_decide Commit GetNow = apart (λ e. cc)
verbs_decide Commit Publish = apart (λ e. cc)
verbs_decide Commit Lookup = apart (λ e. cc)
verbs_decide Commit LookupWait = apart (λ e. cc)
verbs_decide Commit Unpublish = apart (λ e. cc)
verbs_decide Fence Put = apart (λ e. cc)
verbs_decide Fence Commit = apart (λ e. cc)
verbs_decide Fence Fence = alike refl
verbs_decide Fence Get = apart (λ e. cc)
verbs_decide Fence GetNow = apart (λ e. cc)
verbs_decide Fence Publish = apart (λ e. cc)
verbs_decide Fence Lookup = apart (λ e. cc)
verbs_decide Fence LookupWait = apart (λ e. cc)
verbs_decide Fence Unpublish = apart (λ e. cc)
verbs_decide Get Put = apart (λ e. cc)
verbs_decide Get Commit = apart (λ e. cc)
verbs_decide Get Fence = apart (λ e. cc)
verbs_decide Get Get = alike refl
verbs_decide Get GetNow = apart (λ e. cc)
verbs_decide Get Publish = apart (λ e. cc)
verbs_decide Get Lookup = apart (λ e. cc)
verbs_decide Get LookupWait = apart (λ e. cc)
verbs_decide Get Unpublish = apart (λ e. cc)
verbs_decide GetNow Put = apart (λ e. cc)
verbs_decide GetNow Commit = apart (λ e. cc)
verbs_decide GetNow Fence = apart (λ e. cc)
verbs_decide GetNow Get = apart (λ e. cc)
verbs_decide GetNow GetNow = alike refl
verbs_decide GetNow Publish = apart (λ e. cc)
verbs_decide GetNow Lookup = apart (λ e. cc)
verbs_decide GetNow LookupWait = apart (λ e. cc)
verbs_decide GetNow Unpublish = apart (λ e. cc)
verbs_decide Publish Put = apart (λ e. cc)
verbs_decide Publish Commit = apart (λ e. cc)
verbs_decide Publish Fence = apart (λ e. cc)
verbs_decide Publish Get = apart (λ e. cc)
verbs_decide Publish GetNow = apart (λ e. cc)
verbs_decide Publish Publish = alike refl
verbs_decide Publish Lookup = apart (λ e. cc)
verbs_decide Publish LookupWait = apart (λ e. cc)
verbs_decide Publish Unpublish = apart (λ e. cc)
verbs_decide Lookup Put = apart (λ e. cc)
verbs_decide Lookup Commit = apart (λ e. cc)
verbs_decide Lookup Fence = apart (λ e. cc)
verbs_decide Lookup Get = apart (λ e. cc)
verbs_decide Lookup GetNow = apart (λ e. cc)
verbs_decide Lookup Publish = apart (λ e. cc)
verbs_decide Lookup Lookup = alike refl
verbs_decide Lookup LookupWait = apart (λ e. cc)
verbs_decide Lookup Unpublish = apart (λ e. cc)
verbs_decide LookupWait Put = apart (λ e. cc)
verbs_decide LookupWait Commit = apart (λ e. cc)
verbs_decide LookupWait Fence = apart (λ e. cc)
verbs_decide LookupWait Get = apart (λ e. cc)
verbs_decide LookupWait GetNow = apart (λ e. cc)
verbs_decide LookupWait Publish = apart (λ e. cc)
verbs_decide LookupWait Lookup = apart (λ e. cc)
verbs_decide LookupWait LookupWait = alike refl
verbs_decide LookupWait Unpublish = apart (λ e. cc)
verbs_decide Unpublish Put = apart (λ e. cc)
verbs_decide Unpublish Commit = apart (λ e. cc)
verbs_decide Unpublish Fence = apart (λ e. cc)
verbs_decide Unpublish Get = apart (λ e. cc)
verbs_decide Unpublish GetNow = apart (λ e. cc)
verbs_decide Unpublish Publish = apart (λ e. cc)
verbs_decide Unpublish Lookup = apart (λ e. cc)
verbs_decide Unpublish LookupWait = apart (λ e. cc)
verbs_decide Unpublish Unpublish = alike refl

found_decide : (v w : Option Verb) → Decides (option_eq verbs.ghosts.eq v w) (v ≡ w)
found_decide None None = alike refl
found_decide None (Some w) = apart (λ e. cc)
found_decide (Some v) None = apart (λ e. cc)
found_decide (Some v) (Some w) = through _ (verbs_decide v w) (λ h i. Some (h i)) (λ e. same_Some v w e)

subjects_decide : (x y : Subject) → Decides (subjects.ghosts.eq x y) (x ≡ y)
subjects_decide (Rewrite m) (Rewrite n) = through _ (number m n) (λ h i. Rewrite (h i)) (λ e. cc)
subjects_decide (Rewrite m) (KeyRace n) = apart (λ e. cc)
subjects_decide (Rewrite m) (NameRace n) = apart (λ e. cc)
subjects_decide (KeyRace m) (Rewrite n) = apart (λ e. cc)
subjects_decide (KeyRace m) (KeyRace n) = through _ (number m n) (λ h i. KeyRace (h i)) (λ e. cc)
subjects_decide (KeyRace m) (NameRace n) = apart (λ e. cc)
subjects_decide (NameRace m) (Rewrite n) = apart (λ e. cc)
subjects_decide (NameRace m) (KeyRace n) = apart (λ e. cc)
subjects_decide (NameRace m) (NameRace n) = through _ (number m n) (λ h i. NameRace (h i)) (λ e. cc)

pub labels_decide : (x y : Label) → Decides (labels.ghosts.eq x y) (x ≡ y)
labels_decide x y = through _ (both _ _ (subjects_decide x.subject y.subject) (both _ _ (found_decide x.one y.one) (found_decide x.other y.other)))
    (λ h i. record { subject = h.0 i; one = h.1.0 i; other = h.1.1 i })
    (λ e. (ap (λ (l : Label). l.subject) e, (ap (λ (l : Label). l.one) e, ap (λ (l : Label). l.other) e)))
