-- Labels tell what findings are on and the verbs of their calls, and findings have one list of groups.
use Rattle.std.proofs.Common.{◌≡◌, ◌∙◌, ap, sym, refl, subst, ℕ, ◌<◌, ◌≤◌, Bool, true, false, cond, List, [], map, Option, Some, None, codes, inl, inr, arith}
use Rattle.std.specs.Prelude.{◌⊎◌, ◌↔◌, ◌==◌, nat_le, if◌then◌else◌}
use Rattle.std.specs.Bool.{one_answer}
use Rattle.std.specs.Str.{bytes_eq}
use Rattle.std.proofs.lemmas.Bool.{leb-true, leb-false}
use Rattle.wire_types.specs.declared.Call.{Call}
use Rattle.wire_types.specs.declared.verb.Verb.{Verb}
use Rattle.wire_types.specs.declared.verb.Verb.TheVariants.{Put, Commit, Fence, Get, GetNow, Publish, Lookup, LookupWait, Unpublish}
use Rattle.wire_types.specs.Verbs.{text_of_verb}
use Rattle.wire_words.specs.Words.{verb_text_in}
use Rattle.wire_report.specs.Groups.{AreGroups}
use Rattle.wire_report.proofs.GroupLaws.{one_list_of_groups}
use Rattle.wire_report.specs.declared.label.Subject.{Subject}
use Rattle.wire_report.specs.declared.label.Label.{Label}
use Rattle.wire_report.specs.Label.{call_there, verb_found, verb_number, label_of, label_with, pair_of, subject_of}
use Rattle.wire_report.specs.LabelLaws.{LabelsTell, OneGrouping}

-- how a verb is spelled, empty where there is none
text_of : Option Verb → List ℕ
text_of None = []
text_of (Some verb) = text_of_verb verb

has_text : (c : Option Call) → verb_text_in c ≡ text_of (verb_found c)
unfolding text_of
has_text None = refl
has_text (Some c) = refl

-- its spelling tells a verb, and so does its number
by_text : List ℕ → Option Verb
by_text v =
    if bytes_eq v (codes "put") then Some Put else if bytes_eq v (codes "commit") then Some Commit else if bytes_eq v (codes "fence") then Some Fence
    else if bytes_eq v (codes "get") then Some Get else if bytes_eq v (codes "get-now") then Some GetNow else if bytes_eq v (codes "publish") then Some Publish
    else if bytes_eq v (codes "lookup") then Some Lookup else if bytes_eq v (codes "lookup-wait") then Some LookupWait
    else if bytes_eq v (codes "unpublish") then Some Unpublish else None

by_number : ℕ → Option Verb
by_number n =
    if n == 0 then Some Put else if n == 1 then Some Commit else if n == 2 then Some Fence else if n == 3 then Some Get else if n == 4 then Some GetNow
    else if n == 5 then Some Publish else if n == 6 then Some Lookup else if n == 7 then Some LookupWait else if n == 8 then Some Unpublish else None

by_its_text : (v : Option Verb) → by_text (text_of v) ≡ v
unfolding by_text text_of
by_its_text (Some Put) = refl
by_its_text (Some Commit) = refl
by_its_text (Some Fence) = refl
by_its_text (Some Get) = refl
by_its_text (Some GetNow) = refl
by_its_text (Some Publish) = refl
by_its_text (Some Lookup) = refl
by_its_text (Some LookupWait) = refl
by_its_text (Some Unpublish) = refl
by_its_text None = refl

by_its_number : (v : Option Verb) → by_number (verb_number v) ≡ v
unfolding by_number
by_its_number (Some Put) = refl
by_its_number (Some Commit) = refl
by_its_number (Some Fence) = refl
by_its_number (Some Get) = refl
by_its_number (Some GetNow) = refl
by_its_number (Some Publish) = refl
by_its_number (Some Lookup) = refl
by_its_number (Some LookupWait) = refl
by_its_number (Some Unpublish) = refl
by_its_number None = refl

same_number : (d e : Option Verb) → verb_number d ≡ verb_number e → d ≡ e
same_number d e is = sym (by_its_number d) ∙ ap by_number is ∙ by_its_number e

same_verb : (c d : Option Call) → verb_text_in c ≡ verb_text_in d → verb_found c ≡ verb_found d
same_verb c d is = sym (by_its_text (verb_found c)) ∙ ap by_text (sym (has_text c) ∙ is ∙ has_text d) ∙ by_its_text (verb_found d)

same_text : (c d : Option Call) → verb_found c ≡ verb_found d → verb_text_in c ≡ verb_text_in d
same_text c d is = has_text c ∙ ap text_of is ∙ sym (has_text d)

-- two pairs of verbs are one, whichever of the two stands first
abbrev AreOnePair : (x y z w : Option Verb) → Type 0
AreOnePair x y z w = ((x ≡ z) × (y ≡ w)) ⊎ ((x ≡ w) × (y ≡ z))

-- two pairs of calls have the same two verbs
abbrev AreTwoVerbs : (c d c' d' : Option Call) → Type 0
AreTwoVerbs c d c' d' =
    ((verb_text_in c ≡ verb_text_in c') × (verb_text_in d ≡ verb_text_in d')) ⊎ ((verb_text_in c ≡ verb_text_in d') × (verb_text_in d ≡ verb_text_in c'))

labelled : Subject → Option Verb → Option Verb → Label
labelled subject x y = record { subject = subject; one = x; other = y }

parts : (s t : Subject) (x y z w : Option Verb) (b c : Bool) → cond b (labelled s x y) (labelled s y x) ≡ cond c (labelled t z w) (labelled t w z) → (s ≡ t) × AreOnePair x y z w
unfolding labelled
parts s t x y z w true true e = (ap (λ (l : Label). l.subject) e, inl (ap (λ (l : Label). l.one) e, ap (λ (l : Label). l.other) e))
parts s t x y z w true false e = (ap (λ (l : Label). l.subject) e, inr (ap (λ (l : Label). l.one) e, ap (λ (l : Label). l.other) e))
parts s t x y z w false true e = (ap (λ (l : Label). l.subject) e, inr (ap (λ (l : Label). l.other) e, ap (λ (l : Label). l.one) e))
parts s t x y z w false false e = (ap (λ (l : Label). l.subject) e, inl (ap (λ (l : Label). l.other) e, ap (λ (l : Label). l.one) e))

same_parts : (s t : Subject) (x y z w : Option Verb) → label_with s x y ≡ label_with t z w → (s ≡ t) × AreOnePair x y z w
unfolding labelled
same_parts s t x y z w e = parts s t x y z w (nat_le (verb_number x) (verb_number y)) (nat_le (verb_number z) (verb_number w)) e

turned : (s : Subject) (x y : Option Verb) → label_with s x y ≡ label_with s y x
turned s x y = go (nat_le (verb_number x) (verb_number y)) refl (nat_le (verb_number y) (verb_number x)) refl
  where
    go : (b : Bool) → nat_le (verb_number x) (verb_number y) ≡ b → (c : Bool) → nat_le (verb_number y) (verb_number x) ≡ c → label_with s x y ≡ label_with s y x
    go true e true f =
        let up : verb_number x ≤ verb_number y = leb-true (verb_number x) (verb_number y) e in
        let down : verb_number y ≤ verb_number x = leb-true (verb_number y) (verb_number x) f in
        let same : x ≡ y = same_number x y (omega (arith, up, down)) in
        λ i. label_with s (same i) (sym same i)
    go true e false f = rw (e, f) refl
    go false e true f = rw (e, f) refl
    go false e false f =
        let above : verb_number y < verb_number x = leb-false (verb_number x) (verb_number y) e in
        let below : verb_number x < verb_number y = leb-false (verb_number y) (verb_number x) f in
        absurd (omega (arith, above, below))

one_label : (s t : Subject) (x y z w : Option Verb) → s ≡ t → AreOnePair x y z w → label_with s x y ≡ label_with t z w
one_label s t x y z w on (inl both) = λ i. label_with (on i) (both.0 i) (both.1 i)
one_label s t x y z w on (inr both) = (λ i. label_with (on i) (both.0 i) (both.1 i)) ∙ turned t w z

to_texts : (c d c' d' : Option Call) → AreOnePair (verb_found c) (verb_found d) (verb_found c') (verb_found d') → AreTwoVerbs c d c' d'
to_texts c d c' d' (inl both) = inl (same_text c c' both.0, same_text d d' both.1)
to_texts c d c' d' (inr both) = inr (same_text c d' both.0, same_text d c' both.1)

from_texts : (c d c' d' : Option Call) → AreTwoVerbs c d c' d' → AreOnePair (verb_found c) (verb_found d) (verb_found c') (verb_found d')
from_texts c d c' d' (inl both) = inl (same_verb c c' both.0, same_verb d d' both.1)
from_texts c d c' d' (inr both) = inr (same_verb c d' both.0, same_verb d c' both.1)

tell : (s t : Subject) (c d c' d' : Option Call) →
    (label_with s (verb_found c) (verb_found d) ≡ label_with t (verb_found c') (verb_found d')) ↔ ((s ≡ t) × AreTwoVerbs c d c' d')
tell s t c d c' d' = (
  λ e. let same = same_parts s t (verb_found c) (verb_found d) (verb_found c') (verb_found d') e in (same.0, to_texts c d c' d' same.1),
  λ on. one_label s t (verb_found c) (verb_found d) (verb_found c') (verb_found d') on.0 (from_texts c d c' d' on.1),
)

pub labels_tell : LabelsTell
labels_tell s f g =
    tell (subject_of s f) (subject_of s g) (call_there s (pair_of f).lower) (call_there s (pair_of f).higher) (call_there s (pair_of g).lower) (call_there s (pair_of g).higher)

pub one_grouping : OneGrouping
one_grouping s found groups others these those =
    one_list_of_groups these.same (map (label_of s) found) groups others these.grouped
    (subst (λ (same : Label → Label → Bool). AreGroups same (map (label_of s) found) others) alike those.grouped)
  where
    alike : those.same ≡ these.same
    alike i x y = one_answer (those.same x y) (these.same x y) (those.tells x y) (these.tells x y) i
