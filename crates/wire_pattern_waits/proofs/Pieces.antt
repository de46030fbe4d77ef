-- What one more line adds to a text or to a list, and where roles are found.
use Rattle.std.proofs.Common.{◌≡◌, ◌∙◌, ap, sym, refl, ℕ, zero, suc, ◌+◌, ◌<◌, ◌≤◌, List, [], ◌∷◌, ◌++◌, Bool, Result, Ok, Err, OnOk, Some, None, map, filter, drop, length, get_or, cond, is_ok}
use Rattle.std.proofs.Common.{append-nil, add-one, arith}
use Rattle.std.specs.Prelude.{slice_get}
use Rattle.std.proofs.lemmas.List.Elements.{filter-append}
use Rattle.std.proofs.lemmas.Option.{same_Some}
use Rattle.wire_types.specs.declared.verb.Verb.{Verb}
use Rattle.wire_runs.proofs.Lists.{not_in_empty}
use Rattle.wire_pattern.specs.declared.pattern.Role.{Role}
use Rattle.wire_pattern.specs.Pattern.{Pattern}
use Rattle.wire_pattern.specs.Views.{role_by}
use Rattle.wire_instances.proofs.Texts.{moved, opened_list, get_or_same}
use Rattle.wire_pattern_waits.specs.declared.lines.CallLine.{CallLine}
use Rattle.wire_pattern_waits.specs.Lines.{numbered, name_in, waits_line, waits_text}
use Rattle.wire_pattern_waits.specs.LineSets.{has_line}

pub last_piece : {A E : Type 0} (r : Result A E) (old new a whole : List ℕ) → new ≡ cond (is_ok r) (old ++ a) old → a ≡ whole → OnOk r (new ≡ old ++ whole)
last_piece (Ok x) old new a whole more is = more ∙ ap (λ t. old ++ t) is
last_piece (Err e) old new a whole more is = tt

mapped : {A B : Type 0} (f : A → B) (xs : List A) (n : ℕ) (x : A) → slice_get xs n ≡ Some x → slice_get (map f xs) n ≡ Some (f x)
mapped f [] n x at = absurd (not_in_empty n x at)
mapped f (y ∷ ys) zero x at = ap (λ z. Some (f z)) (same_Some y x at)
mapped f (y ∷ ys) (suc n) x at = mapped f ys n x at

unmapped : {A B : Type 0} (f : A → B) (xs : List A) (n : ℕ) → length xs ≤ n → slice_get (map f xs) n ≡ None
unmapped f [] n past = refl
unmapped f (x ∷ xs) zero past = absurd (omega (arith, past))
unmapped f (x ∷ xs) (suc n) past = unmapped f xs n (omega (arith, past))

-- the role of a number, as the code has it
pub role_at : (p : Pattern) (roles : List Role) (n : ℕ) (role : Role) → map role_by roles ≡ p.roles → slice_get roles n ≡ Some role → slice_get p.roles n ≡ Some (role_by role)
role_at p roles n role is at = ap (λ rs. slice_get rs n) (sym is) ∙ mapped role_by roles n role at

pub none_at : (p : Pattern) (roles : List Role) (n : ℕ) → map role_by roles ≡ p.roles → length roles ≤ n → slice_get p.roles n ≡ None
none_at p roles n is past = ap (λ rs. slice_get rs n) (sym is) ∙ unmapped role_by roles n past

pub none_named : (p : Pattern) (roles : List Role) (n : ℕ) (out : List ℕ) → map role_by roles ≡ p.roles → length roles ≤ n → out ≡ out ++ name_in (slice_get p.roles n)
none_named p roles n out is past = sym (append-nil out) ∙ ap (λ o. out ++ name_in o) (sym (none_at p roles n is past))

-- one line more
pub line_step : (p : Pattern) (lines : List CallLine) (i : ℕ) (past : CallLine) (old now all : List ℕ) → i < length lines
    → now ≡ old ++ waits_line p (get_or lines i past)
    → old ++ waits_text p (drop i lines) ≡ all → now ++ waits_text p (drop (i + 1) lines) ≡ all
line_step p lines i past old now all h more inv =
    moved old now (waits_line p (get_or lines i past)) (waits_text p (drop (i + 1) lines)) (waits_text p (drop i lines)) all more
    (ap (waits_text p) (opened_list lines i (get_or lines i past) h (get_or_same lines i past h))) inv

-- one line more of those that are noted
pub noted_step : (noted : List (List Bool)) (role i : ℕ) (verbs : List Verb) (past : Verb) (old now all : List CallLine) → i < length verbs
    → now ≡ old ++ filter (λ c. has_line noted c.role c.number) (record { role = role; number = i + 1; verb = get_or verbs i past } ∷ [])
    → old ++ filter (λ c. has_line noted c.role c.number) (numbered role (i + 1) (drop i verbs)) ≡ all
    → now ++ filter (λ c. has_line noted c.role c.number) (numbered role ((i + 1) + 1) (drop (i + 1) verbs)) ≡ all
noted_step noted role i verbs past old now all h more inv =
    let is_in = (λ (c : CallLine). has_line noted c.role c.number) in
    let line : CallLine = record { role = role; number = i + 1; verb = get_or verbs i past } in
    let rest = drop (i + 1) verbs in
    moved old now (filter is_in (line ∷ [])) (filter is_in (numbered role ((i + 1) + 1) rest)) (filter is_in (numbered role (i + 1) (drop i verbs))) all more
    (ap (λ vs. filter is_in (numbered role (i + 1) vs)) (opened_list verbs i (get_or verbs i past) h (get_or_same verbs i past h))
    ∙ filter-append is_in (line ∷ []) (numbered role (suc (i + 1)) rest)
    ∙ ap (λ m. filter is_in (line ∷ []) ++ filter is_in (numbered role m rest)) (sym (add-one (i + 1)))) inv
