-- What is kept and left of each process's calls where one rank is taken away.
use Rattle.std.proofs.Common.{◌≡◌, ℕ, zero, suc, ◌+◌, List, [], ◌∷◌, ◌++◌, map, Bool, true, Option, Some, None, refl, sym, ap, ◌∙◌, subst, arith, eq-eqb}
use Rattle.std.specs.Prelude.{slice_get}
use Rattle.std.proofs.lemmas.Bool.{or_left, or_right, true≢false}
use Rattle.std.proofs.lemmas.List.{map-append}
use Rattle.std.proofs.lemmas.List.Folds.{list_any-append}
use Rattle.std.proofs.lemmas.Option.{none-some, same_Some}
use Rattle.wire_runs.specs.Plan.{Plan, Process, Call, CallPut, CallCommit, CallFence, CallGet, CallGetNow, CallPublish, CallLookup, CallLookupWait, CallUnpublish, CallUnpublishAll, CallFixed}
use Rattle.wire_runs.specs.Plan.{Kind, Put, Commit, Arrive, Leave, Get, GetNow, Publish, Lookup, LookupWait, Unpublish, UnpublishAll, Fixed, kinds_of, process_kinds, kinds, kind_at, set_of}
use Rattle.wire_runs.specs.Fences.{is_member}
use Rattle.wire_runs.specs.Embeddings.{Renaming, image_kind, members_of, IsSetOf}
use Rattle.wire_runs.specs.Parts.{Piece, Kept, Left, kept_kinds, all_kinds, waits_after, Fits}
use Rattle.wire_runs.specs.Patterns.{Who, Only, Self, Each, Item, Every, One, Line, LinePut, LineCommit, LineFence, LineGet, LineGetNow, LinePublish, LineLookup, LineLookupWait, LineUnpublish, LineUnpublishAll, LineFixed}
use Rattle.wire_runs.specs.Patterns.{Pattern, Coding, Cast, group, who, members_in, call_in, calls_from, processes_from, instance_of}
use Rattle.wire_runs.specs.Patterns.{names_each, has_each, waits_line, waits_lines}
use Rattle.wire_runs.specs.Restrictions.{skip, back, renamed_code, keep_calls, script_in}
use Rattle.wire_runs.proofs.Skip.{back_skip}
use Rattle.wire_runs.proofs.WholeSets.{Rises, rises_set, member_map_not}

-- pieces of lists that are joined
pub kinds_append : (xs ys : List Call) → kinds_of (xs ++ ys) ≡ kinds_of xs ++ kinds_of ys
kinds_append [] ys = refl
kinds_append (CallPut key scope ∷ xs) ys = ap (λ ks. Put key scope ∷ ks) (kinds_append xs ys)
kinds_append (CallCommit ∷ xs) ys = ap (λ ks. Commit ∷ ks) (kinds_append xs ys)
kinds_append (CallFence members collect ∷ xs) ys = ap (λ ks. Arrive (set_of members) collect ∷ (Leave (set_of members) ∷ ks)) (kinds_append xs ys)
kinds_append (CallGet owner key ∷ xs) ys = ap (λ ks. Get owner key ∷ ks) (kinds_append xs ys)
kinds_append (CallGetNow owner key ∷ xs) ys = ap (λ ks. GetNow owner key ∷ ks) (kinds_append xs ys)
kinds_append (CallPublish name ∷ xs) ys = ap (λ ks. Publish name ∷ ks) (kinds_append xs ys)
kinds_append (CallLookup name ∷ xs) ys = ap (λ ks. Lookup name ∷ ks) (kinds_append xs ys)
kinds_append (CallLookupWait name ∷ xs) ys = ap (λ ks. LookupWait name ∷ ks) (kinds_append xs ys)
kinds_append (CallUnpublish name ∷ xs) ys = ap (λ ks. Unpublish name ∷ ks) (kinds_append xs ys)
kinds_append (CallUnpublishAll ∷ xs) ys = ap (λ ks. UnpublishAll ∷ ks) (kinds_append xs ys)
kinds_append (CallFixed reply ∷ xs) ys = ap (λ ks. Fixed reply ∷ ks) (kinds_append xs ys)

pub kept_append : (xs ys : List Piece) → kept_kinds (xs ++ ys) ≡ kept_kinds xs ++ kept_kinds ys
kept_append [] ys = refl
kept_append (Kept k ∷ xs) ys = ap (λ ks. k ∷ ks) (kept_append xs ys)
kept_append (Left k ∷ xs) ys = kept_append xs ys

pub all_append : (to : Renaming) (xs ys : List Piece) → all_kinds to (xs ++ ys) ≡ all_kinds to xs ++ all_kinds to ys
all_append to [] ys = refl
all_append to (Kept k ∷ xs) ys = ap (λ ks. image_kind to k ∷ ks) (all_append to xs ys)
all_append to (Left k ∷ xs) ys = ap (λ ks. k ∷ ks) (all_append to xs ys)

pub kept_kept : (ks : List Kind) → kept_kinds (map Kept ks) ≡ ks
kept_kept [] = refl
kept_kept (k ∷ ks) = ap (λ v. k ∷ v) (kept_kept ks)

pub kept_left : (ks : List Kind) → kept_kinds (map Left ks) ≡ []
kept_left [] = refl
kept_left (k ∷ ks) = kept_left ks

pub all_kept : (to : Renaming) (ks : List Kind) → all_kinds to (map Kept ks) ≡ map (image_kind to) ks
all_kept to [] = refl
all_kept to (k ∷ ks) = ap (λ v. image_kind to k ∷ v) (all_kept to ks)

pub all_left : (to : Renaming) (ks : List Kind) → all_kinds to (map Left ks) ≡ ks
all_left to [] = refl
all_left to (k ∷ ks) = ap (λ v. k ∷ v) (all_left to ks)

-- whether a put waits after the kept of these pieces
unfoldable pub after : Bool → List Piece → Bool
after waits [] = waits
after waits (Kept k ∷ pieces) = after (waits_after waits k) pieces
after waits (Left k ∷ pieces) = after waits pieces

pub fits_append : (to : Renaming) (small : Plan) (waits : Bool) (xs ys : List Piece) → Fits to small waits xs → Fits to small (after waits xs) ys → Fits to small waits (xs ++ ys)
unfolding after
fits_append to small waits [] ys a b = b
fits_append to small waits (Kept k ∷ xs) ys a b = fits_append to small (waits_after waits k) xs ys a b
fits_append to small waits (Left k ∷ xs) ys a b = (a.0, fits_append to small waits xs ys a.1 b)

pub after_append : (waits : Bool) (xs ys : List Piece) → after waits (xs ++ ys) ≡ after (after waits xs) ys
unfolding after
after_append waits [] ys = refl
after_append waits (Kept k ∷ xs) ys = after_append (waits_after waits k) xs ys
after_append waits (Left k ∷ xs) ys = after_append waits xs ys

pub kept_fits : (to : Renaming) (small : Plan) (waits : Bool) (ks : List Kind) → Fits to small waits (map Kept ks)
kept_fits to small waits [] = tt
kept_fits to small waits (k ∷ ks) = kept_fits to small (waits_after waits k) ks

pub left_after : (waits : Bool) (ks : List Kind) → after waits (map Left ks) ≡ waits
unfolding after
left_after waits [] = refl
left_after waits (k ∷ ks) = left_after waits ks

pub line_after : (coding : Coding) (cast : Cast) (v e : ℕ) (waits : Bool) (line : Line) (rest : List Piece) →
    after waits (map Kept (kinds_of (call_in coding cast v e line ∷ [])) ++ rest) ≡ after (waits_line waits line) rest
unfolding after
line_after coding cast v e waits (LinePut key scope) rest = refl
line_after coding cast v e waits LineCommit rest = refl
line_after coding cast v e waits (LineFence items collect) rest = refl
line_after coding cast v e waits (LineGet owner key) rest = refl
line_after coding cast v e waits (LineGetNow owner key) rest = refl
line_after coding cast v e waits (LinePublish name) rest = refl
line_after coding cast v e waits (LineLookup name) rest = refl
line_after coding cast v e waits (LineLookupWait name) rest = refl
line_after coding cast v e waits (LineUnpublish name) rest = refl
line_after coding cast v e waits LineUnpublishAll rest = refl
line_after coding cast v e waits (LineFixed reply) rest = refl

pub one_line : (f : Kind → Piece) (call : Call) (calls : List Call) → map f (kinds_of (call ∷ calls)) ≡ map f (kinds_of (call ∷ [])) ++ map f (kinds_of calls)
one_line f call calls = ap (map f) (kinds_append (call ∷ []) calls) ∙ map-append f (kinds_of (call ∷ [])) (kinds_of calls)

pub lines_after : (coding : Coding) (cast : Cast) (v e : ℕ) (waits : Bool) (lines : List Line) → after waits (keep_calls (map (call_in coding cast v e) lines)) ≡ waits_lines waits lines
unfolding after
lines_after coding cast v e waits [] = refl
lines_after coding cast v e waits (line ∷ lines) =
    ap (after waits) (one_line Kept (call_in coding cast v e line) (map (call_in coding cast v e) lines))
    ∙ line_after coding cast v e waits line (keep_calls (map (call_in coding cast v e) lines))
    ∙ lines_after coding cast v e (waits_line waits line) lines

-- an instance's processes
process_in : (pattern : Pattern) (coding : Coding) (cast : Cast) (q : ℕ) (roles : List ℕ) (p : ℕ) →
    process_kinds (slice_get (processes_from pattern coding cast q roles) p) ≡ kinds_of (calls_from coding cast (q + p) 0 (script_in pattern (slice_get roles p)))
process_in pattern coding cast q [] p = refl
process_in pattern coding cast q (role ∷ roles) zero = let s : q ≡ q + 0 = omega arith in ap (λ n. kinds_of (calls_from coding cast n 0 (pattern.script role))) s
process_in pattern coding cast q (role ∷ roles) (suc p) =
    let s : suc q + p ≡ q + suc p = omega arith in
    process_in pattern coding cast (suc q) roles p ∙ ap (λ n. kinds_of (calls_from coding cast n 0 (script_in pattern (slice_get roles p)))) s

pub instance_kinds : (pattern : Pattern) (coding : Coding) (cast : Cast) (p : ℕ) → kinds (instance_of pattern coding cast) p ≡ kinds_of (calls_from coding cast p 0 (script_in pattern (slice_get cast.roles p)))
unfolding kinds
instance_kinds pattern coding cast p = let s : 0 + p ≡ p = omega arith in process_in pattern coding cast 0 cast.roles p ∙ ap (λ n. kinds_of (calls_from coding cast n 0 (script_in pattern (slice_get cast.roles p)))) s

-- the sets of a plan's fences rise
rises_in : (calls : List Call) (i : ℕ) (k : Kind) (members : List ℕ) → slice_get (kinds_of calls) i ≡ Some k → members_of k ≡ Some members → Rises members
rises_in [] i k members is m = absurd (none-some k is)
rises_in (CallFence others collect ∷ calls) zero k members is m = subst Rises (same_Some _ _ (ap members_of (same_Some _ _ is) ∙ m)) (rises_set others)
rises_in (CallFence others collect ∷ calls) (suc zero) k members is m = subst Rises (same_Some _ _ (ap members_of (same_Some _ _ is) ∙ m)) (rises_set others)
rises_in (CallFence others collect ∷ calls) (suc (suc i)) k members is m = rises_in calls i k members is m
rises_in (CallPut key scope ∷ calls) zero k members is m = absurd (none-some members (ap members_of (same_Some _ _ is) ∙ m))
rises_in (CallPut key scope ∷ calls) (suc i) k members is m = rises_in calls i k members is m
rises_in (CallCommit ∷ calls) zero k members is m = absurd (none-some members (ap members_of (same_Some _ _ is) ∙ m))
rises_in (CallCommit ∷ calls) (suc i) k members is m = rises_in calls i k members is m
rises_in (CallGet owner key ∷ calls) zero k members is m = absurd (none-some members (ap members_of (same_Some _ _ is) ∙ m))
rises_in (CallGet owner key ∷ calls) (suc i) k members is m = rises_in calls i k members is m
rises_in (CallGetNow owner key ∷ calls) zero k members is m = absurd (none-some members (ap members_of (same_Some _ _ is) ∙ m))
rises_in (CallGetNow owner key ∷ calls) (suc i) k members is m = rises_in calls i k members is m
rises_in (CallPublish name ∷ calls) zero k members is m = absurd (none-some members (ap members_of (same_Some _ _ is) ∙ m))
rises_in (CallPublish name ∷ calls) (suc i) k members is m = rises_in calls i k members is m
rises_in (CallLookup name ∷ calls) zero k members is m = absurd (none-some members (ap members_of (same_Some _ _ is) ∙ m))
rises_in (CallLookup name ∷ calls) (suc i) k members is m = rises_in calls i k members is m
rises_in (CallLookupWait name ∷ calls) zero k members is m = absurd (none-some members (ap members_of (same_Some _ _ is) ∙ m))
rises_in (CallLookupWait name ∷ calls) (suc i) k members is m = rises_in calls i k members is m
rises_in (CallUnpublish name ∷ calls) zero k members is m = absurd (none-some members (ap members_of (same_Some _ _ is) ∙ m))
rises_in (CallUnpublish name ∷ calls) (suc i) k members is m = rises_in calls i k members is m
rises_in (CallUnpublishAll ∷ calls) zero k members is m = absurd (none-some members (ap members_of (same_Some _ _ is) ∙ m))
rises_in (CallUnpublishAll ∷ calls) (suc i) k members is m = rises_in calls i k members is m
rises_in (CallFixed reply ∷ calls) zero k members is m = absurd (none-some members (ap members_of (same_Some _ _ is) ∙ m))
rises_in (CallFixed reply ∷ calls) (suc i) k members is m = rises_in calls i k members is m

rises_of : (process : Option Process) (i : ℕ) (k : Kind) (members : List ℕ) → slice_get (process_kinds process) i ≡ Some k → members_of k ≡ Some members → Rises members
rises_of None i k members is m = absurd (none-some k is)
rises_of (Some process) i k members is m = rises_in process.calls i k members is m

pub set_of_rises : (plan : Plan) (members : List ℕ) → IsSetOf plan members → Rises members
unfolding kinds kind_at
set_of_rises plan members u = rises_of (slice_get plan.processes u.0.proc) u.0.at u.1 members u.2 u.3

-- a code says its base and processes
pub same_code : (coding : Coding) (a b : ℕ) (x y : List ℕ) → coding.code a x ≡ coding.code b y → (a ≡ b) × (x ≡ y)
same_code coding a b x y s =
    let d = same_Some _ _ (sym (coding.decodes a x) ∙ ap coding.decode s ∙ coding.decodes b y) in
    (ap (λ v. v.0) d, ap (λ v. v.1) d)

pub map_one : (r : ℕ) (xs ys : List ℕ) → map (skip r) xs ≡ map (skip r) ys → xs ≡ ys
map_one r xs ys s = sym (undo xs) ∙ ap (map (back r)) s ∙ undo ys
  where
    undo : (zs : List ℕ) → map (back r) (map (skip r) zs) ≡ zs
    undo [] = refl
    undo (z ∷ zs) = ap (λ v. v ∷ map (back r) (map (skip r) zs)) (back_skip r z) ∙ ap (λ vs. z ∷ vs) (undo zs)

pub code_one : (coding : Coding) (r a b : ℕ) → renamed_code coding r a (coding.decode a) ≡ renamed_code coding r b (coding.decode b) → a ≡ b
code_one coding r a b s = go (coding.decode a) (coding.decode b) refl refl s
  where
    go : (x y : Option (ℕ × List ℕ)) → coding.decode a ≡ x → coding.decode b ≡ y → renamed_code coding r a x ≡ renamed_code coding r b y → a ≡ b
    go None None ea eb s = s
    go None (Some y) ea eb s = absurd (none-some _ (sym ea ∙ ap coding.decode s ∙ coding.decodes y.0 (map (skip r) y.1)))
    go (Some x) None ea eb s = absurd (none-some _ (sym eb ∙ ap coding.decode (sym s) ∙ coding.decodes x.0 (map (skip r) x.1)))
    go (Some x) (Some y) ea eb s =
        let d = same_code coding x.0 y.0 (map (skip r) x.1) (map (skip r) y.1) s in
        sym (coding.encodes a x.0 x.1 ea) ∙ ap (λ n. coding.code n x.1) d.0 ∙ ap (coding.code y.0) (map_one r x.1 y.1 d.1) ∙ coding.encodes b y.0 y.1 eb

-- a renamed code doesn't say r
pub code_not : (coding : Coding) (r own base : ℕ) (indices : List ℕ) → is_member indices r ≡ true → renamed_code coding r own (coding.decode own) ≡ coding.code base indices → ⊥
code_not coding r own base indices has s = go (coding.decode own) refl s
  where
    go : (x : Option (ℕ × List ℕ)) → coding.decode own ≡ x → renamed_code coding r own x ≡ coding.code base indices → ⊥
    go None e s = none-some _ (sym e ∙ ap coding.decode s ∙ coding.decodes base indices)
    go (Some x) e s =
        let d = same_code coding x.0 base (map (skip r) x.1) indices s in
        true≢false (sym has ∙ ap (λ ys. is_member ys r) (sym d.1) ∙ member_map_not r x.1)

pub each_in : (cast : Cast) (v e : ℕ) (ws : List Who) → names_each ws ≡ true → is_member (map (who cast v e) ws) e ≡ true
each_in cast v e [] h = absurd (true≢false (sym h))
each_in cast v e (Each ∷ ws) h = or_left _ _ (eq-eqb e e refl)
each_in cast v e (Only role ∷ ws) h = or_right _ _ (each_in cast v e ws h)
each_in cast v e (Self ∷ ws) h = or_right _ _ (each_in cast v e ws h)

pub each_member : (cast : Cast) (v e : ℕ) (items : List Item) → has_each items ≡ true → is_member (members_in cast v e items) e ≡ true
each_member cast v e [] h = absurd (true≢false (sym h))
each_member cast v e (One Each ∷ items) h = or_left _ _ (eq-eqb e e refl)
each_member cast v e (One Self ∷ items) h = or_right _ _ (each_member cast v e items h)
each_member cast v e (One (Only role) ∷ items) h = or_right _ _ (each_member cast v e items h)
each_member cast v e (Every role ∷ items) h = list_any-append _ (group role cast.roles) _ ∙ or_right _ _ (each_member cast v e items h)
