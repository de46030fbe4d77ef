-- The list of the findings that are told is one, and empty where the plan is settled.
use Rattle.std.proofs.Common.{◌≡◌, ap, refl, sym, subst, ℕ, zero, suc, ◌<◌, List, [], ◌∷◌, length, take, true, ◌∙◌, inl, inr, arith}
use Rattle.std.specs.Prelude.{◌↔◌}
use Rattle.std.proofs.lemmas.Bool.{cases_lt, true≢false}
use Rattle.std.proofs.lemmas.Cmp.{nat_list_cmp_total}
use Rattle.std.specs.Cmp.Lexicographic.{slice_cmp}
use Rattle.std.specs.declared.cmp.Ordering.{Ordering}
use Rattle.std.specs.declared.cmp.Ordering.TheVariants.{Less, Equal, Greater}
use Rattle.std.specs.Ordering.{ordering_index, ordering_reverse, is_lt, nat_cmp}
use Rattle.wire_runs.specs.Plan.{Plan, Event, Call, CallPut, CallCommit, CallFence, CallGet, CallGetNow, CallPublish, CallLookup, CallLookupWait, CallUnpublish, CallUnpublishAll, CallFixed, kinds_of}
use Rattle.wire_types.specs.declared.CallAt.{CallAt}
use Rattle.wire_runs.specs.Ends.{call_size, calls_of, first_event}
use Rattle.wire_runs.specs.Races.{IsSettled}
use Rattle.wire_runs.specs.Findings.{Finding, IsFound, Has, IsFindings}
use Rattle.wire_runs.specs.Laws.{IsOneWay}
use Rattle.wire_runs.proofs.Findings.{no_findings, one_list}
use Rattle.wire_scripts.specs.Scripts.{Scripts, text_at}
use Rattle.wire_scripts.specs.Planned.{plan_of}
use Rattle.wire_findings.specs.Findings.{shown, all_shown, lower_name, AreFindings}
use Rattle.wire_findings.specs.declared.finding.Finding.{Finding as Told}
use Rattle.wire_findings.specs.declared.finding.Finding.TheVariants as told_as
use Rattle.wire_findings.proofs.Calls.{low_of, high_of, longer}
use Rattle.wire_findings.proofs.Told.{IsLike, found_like, low_call, high_call, shown_low, shown_high}

-- a call is an event at least
some_event : (call : Call) → 0 < call_size call
some_event (CallPut key scope) = omega arith
some_event CallCommit = omega arith
some_event (CallFence members collect) = omega arith
some_event (CallGet owner key) = omega arith
some_event (CallGetNow owner key) = omega arith
some_event (CallPublish name) = omega arith
some_event (CallLookup name) = omega arith
some_event (CallLookupWait name) = omega arith
some_event (CallUnpublish name) = omega arith
some_event CallUnpublishAll = omega arith
some_event (CallFixed reply) = omega arith

-- a later call starts at a later event
pub rising : (calls : List Call) (m n : ℕ) → m < n → m < length calls → length (kinds_of (take m calls)) < length (kinds_of (take n calls))
rising [] m n lt within = absurd (omega (arith, within))
rising (call ∷ calls) m zero lt within = absurd (omega (arith, lt))
rising (call ∷ calls) zero (suc n) lt within =
    let more = longer call calls n in
    let some = some_event call in
    omega (arith, more, some)
rising (call ∷ calls) (suc m) (suc n) lt within =
    let few = longer call calls m in
    let more = longer call calls n in
    let ih = rising calls m n (omega (arith, lt)) (omega (arith, within)) in
    omega (arith, few, more, ih)

same_number : (calls : List Call) (m n : ℕ) → m < length calls → n < length calls → length (kinds_of (take m calls)) ≡ length (kinds_of (take n calls)) → m ≡ n
same_number calls m n a b e = elim (cases_lt m n) [
  | inl lt ↦ absurd (let more = rising calls m n lt a in omega (arith, more, e))
  | inr ge ↦ elim (cases_lt n m) [
    | inl gt ↦ absurd (let more = rising calls n m gt b in omega (arith, more, e))
    | inr le ↦ omega (arith, ge, le)
  ]
]

-- a call is told by its first event
pub same_call : (plan : Plan) (v w : CallAt) → v.call < length (calls_of plan v.proc.number) → w.call < length (calls_of plan w.proc.number) → first_event plan v ≡ first_event plan w → v ≡ w
same_call plan v w a b e =
    let p : v.proc.number ≡ w.proc.number = ap (λ (x : Event). x.proc) e in
    let at : length (kinds_of (take v.call (calls_of plan v.proc.number))) ≡ length (kinds_of (take w.call (calls_of plan w.proc.number))) = ap (λ (x : Event). x.at) e in
    let there = subst (λ (q : ℕ). v.call < length (calls_of plan q)) p a in
    let start = subst (λ (q : ℕ). length (kinds_of (take v.call (calls_of plan q))) ≡ length (kinds_of (take w.call (calls_of plan w.proc.number)))) p at in
    let n = same_number (calls_of plan w.proc.number) v.call w.call there b start in
    λ t. record { proc = record { number = p t }; call = n t }

same_low : (plan : Plan) (f g : Told) → IsLike plan (shown plan f) → IsLike plan (shown plan g) → first_event plan (low_call f) ≡ first_event plan (low_call g) → low_call f ≡ low_call g
same_low plan f g a b = same_call plan (low_call f) (low_call g) (shown_low plan f f refl a) (shown_low plan g g refl b)

same_high : (plan : Plan) (f g : Told) → IsLike plan (shown plan f) → IsLike plan (shown plan g) → first_event plan (high_call f) ≡ first_event plan (high_call g) → high_call f ≡ high_call g
same_high plan f g a b = same_call plan (high_call f) (high_call g) (shown_high plan f f refl a) (shown_high plan g g refl b)

-- what is shown tells the finding
pub same_told : (plan : Plan) (f g : Told) → IsLike plan (shown plan f) → IsLike plan (shown plan g) → shown plan f ≡ shown plan g → f ≡ g
same_told plan (told_as.Rewrite v w) (told_as.Rewrite x y) a b e =
    let low = same_low plan (told_as.Rewrite v w) (told_as.Rewrite x y) a b (ap low_of e) in
    let high = same_high plan (told_as.Rewrite v w) (told_as.Rewrite x y) a b (ap high_of e) in
    cc (low, high)
same_told plan (told_as.KeyRace v w p k) (told_as.KeyRace x y q l) a b e =
    let low = same_low plan (told_as.KeyRace v w p k) (told_as.KeyRace x y q l) a b (ap low_of e) in
    let high = same_high plan (told_as.KeyRace v w p k) (told_as.KeyRace x y q l) a b (ap high_of e) in
    let key : k ≡ l = cc in
    let number : p.number ≡ q.number = cc in
    λ t. told_as.KeyRace (low t) (high t) (record { number = number t }) (key t)
same_told plan (told_as.NameRace v w n) (told_as.NameRace x y m) a b e =
    let low = same_low plan (told_as.NameRace v w n) (told_as.NameRace x y m) a b (ap low_of e) in
    let high = same_high plan (told_as.NameRace v w n) (told_as.NameRace x y m) a b (ap high_of e) in
    let name : n ≡ m = cc in
    λ t. told_as.NameRace (low t) (high t) (name t)
same_told plan (told_as.Rewrite v w) (told_as.KeyRace x y q l) a b e = cc
same_told plan (told_as.Rewrite v w) (told_as.NameRace x y m) a b e = cc
same_told plan (told_as.KeyRace v w p k) (told_as.Rewrite x y) a b e = cc
same_told plan (told_as.KeyRace v w p k) (told_as.NameRace x y m) a b e = cc
same_told plan (told_as.NameRace v w n) (told_as.Rewrite x y) a b e = cc
same_told plan (told_as.NameRace v w n) (told_as.KeyRace x y q l) a b e = cc

same_list : (plan : Plan) (xs ys : List Told) → ((f : Finding) → Has (all_shown plan xs) f → IsFound plan f) → ((f : Finding) → Has (all_shown plan ys) f → IsFound plan f) →
    all_shown plan xs ≡ all_shown plan ys → xs ≡ ys
same_list plan [] [] a b e = refl
same_list plan [] (y ∷ ys) a b e = cc
same_list plan (x ∷ xs) [] a b e = cc
same_list plan (x ∷ xs) (y ∷ ys) a b e =
    let first : shown plan x ≡ shown plan y = cc in
    let rest : all_shown plan xs ≡ all_shown plan ys = cc in
    let heads = same_told plan x y (found_like plan (shown plan x) (a (shown plan x) (inl refl))) (found_like plan (shown plan y) (b (shown plan y) (inl refl))) first in
    let tails = same_list plan xs ys (λ f h. a f (inr h)) (λ f h. b f (inr h)) rest in
    cc (heads, tails)

is_less : (r : Ordering) → is_lt r ≡ true → r ≡ Less
is_less Less e = refl
is_less Equal e = absurd (true≢false (sym e))
is_less Greater e = absurd (true≢false (sym e))

-- of two names at most one is the lower one
pub one_way : (names : List (List ℕ)) → IsOneWay (lower_name names)
one_way names a b e f =
    let there = is_less (slice_cmp nat_cmp (text_at names a) (text_at names b)) e in
    let back = is_less (slice_cmp nat_cmp (text_at names b) (text_at names a)) f in
    let turned = nat_list_cmp_total.antisymm (text_at names a) (text_at names b) in
    let d = ap ordering_index (sym there ∙ turned ∙ ap ordering_reverse back) in
    omega (arith, d)

pub one_told : (s : Scripts) (xs ys : List Told) → AreFindings s xs → AreFindings s ys → xs ≡ ys
one_told s xs ys a b =
    let plan = plan_of s in
    same_list plan xs ys (λ f. (a.those f).0) (λ f. (b.those f).0) (one_list plan (lower_name s.names) (all_shown plan xs) (all_shown plan ys) (one_way s.names) a b)

none_there : (plan : Plan) (found : List Told) → ((f : Finding) → Has (all_shown plan found) f → ⊥) → found ≡ []
none_there plan [] never = refl
none_there plan (x ∷ xs) never = absurd (never (shown plan x) (inl refl))

pub none_told : (s : Scripts) (found : List Told) → AreFindings s found → (found ≡ []) ↔ IsSettled (plan_of s)
none_told s found are = (
  (λ e. (no_findings (plan_of s) (lower_name s.names)).0 (subst (λ l. IsFindings (plan_of s) (lower_name s.names) (all_shown (plan_of s) l)) e are)),
  (λ settled.
      let none = (no_findings (plan_of s) (lower_name s.names)).1 settled in
      none_there (plan_of s) found (λ f h. (none.those f).1 ((are.those f).0 h))),
)
