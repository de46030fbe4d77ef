-- Where each instance with one rank fewer is settled, rewrites, node races and name races are refuted by taking one rank away.
use Rattle.std.proofs.Common.{◌≡◌, ℕ, suc, ◌≤◌, List, [], ◌∷◌, map, length, length-append, Bool, true, false, not, ◌==◌, Option, Some, None, is_some, ◌⊎◌, inl, inr, refl, sym, ap, ◌∙◌, subst, arith, eq-eqb, eqb-true}
use Rattle.std.specs.Prelude.{slice_get, filter, option_map}
use Rattle.std.proofs.lemmas.Bool.{cond-true, cond-false, cases_Bool, or_cases, or_left, or_right, true≢false}
use Rattle.std.proofs.lemmas.Option.{slice_get_cases, slice_get_within, none-some, same_Some}
use Rattle.wire_runs.specs.Plan.{Commit, Publish, Lookup, LookupWait, Unpublish, UnpublishAll, same_node}
use Rattle.wire_runs.specs.Plan.{Plan, Event, Kind, kind, kind_at, kinds, kinds_of, event_count}
use Rattle.wire_runs.specs.Fences.{is_member}
use Rattle.wire_runs.specs.Puts.{own as own_of, stored}
use Rattle.wire_runs.specs.Names.{publishes, writes_name, calls_name}
use Rattle.wire_runs.specs.Order.{Stores}
use Rattle.wire_runs.specs.Races.{IsRewrite, IsNodeRace, IsNameRace, IsSettled}
use Rattle.wire_runs.specs.Embeddings.{Renaming, image, image_kind, name_of, IsNameOf, IsKeyOf, KeepsFindings}
use Rattle.wire_runs.specs.Parts.{MayLeave, IsPartEach}
use Rattle.wire_runs.specs.Patterns.{Line, Step, Once, Loop, Pattern, Coding, Cast, group, call_in, turns, loop_calls, step_calls, calls_from, instance_of, IsLawful, IsCastOf}
use Rattle.wire_runs.specs.Restrictions.{skip, back, restricted, removal, pieces_of, script_in, CanGo}
use Rattle.wire_runs.proofs.Basics.{event_within, process_within, stores_commit}
use Rattle.wire_runs.proofs.Due.{place_path}
use Rattle.wire_runs.proofs.Images.{event_back, stored_at_commit}
use Rattle.wire_runs.proofs.MoreReads.{publish_event}
use Rattle.wire_runs.proofs.Skip.{skip_back}
use Rattle.wire_runs.proofs.Parts.{here, LeavesHere, kept_before, waits_at, none_waits, owns_track, stores_track}
use Rattle.wire_runs.proofs.RestrictedEach.{restricted_each}
use Rattle.wire_runs.proofs.WholeSets.{Above, Rises, rises_group, group_member, filter_length}
use Rattle.wire_runs.proofs.RestrictedCalls.{instance_kinds, kinds_append}
use Rattle.wire_runs.proofs.RestrictedOnce.{plays_role}
use Rattle.wire_runs.proofs.RestrictedWhole.{node_same, restrictions_embed}
use Rattle.wire_runs.proofs.EmbeddedFindings.{now_back, embeddings_keep_findings}
use Rattle.wire_runs.proofs.TurnMarks.{marked, loop_marks, step_marks, marks_from, marks_of, is_image}

above_filter : (f : ℕ → Bool) (k : ℕ) (xs : List ℕ) → Above k xs → Above k (filter f xs)
above_filter f k [] a = tt
above_filter f k (x ∷ xs) a = elim (cases_Bool (f x)) [
  | inl t ↦ subst (Above k) (sym (cond-true (f x) (x ∷ filter f xs) (filter f xs) t)) (a.0, above_filter f k xs a.1)
  | inr n ↦ subst (Above k) (sym (cond-false (f x) (x ∷ filter f xs) (filter f xs) n)) (above_filter f k xs a.1)
]

rises_filter : (f : ℕ → Bool) (xs : List ℕ) → Rises xs → Rises (filter f xs)
rises_filter f [] a = tt
rises_filter f (x ∷ xs) a = elim (cases_Bool (f x)) [
  | inl t ↦ subst Rises (sym (cond-true (f x) (x ∷ filter f xs) (filter f xs) t)) (above_filter f x xs a.0, rises_filter f xs a.1)
  | inr n ↦ subst Rises (sym (cond-false (f x) (x ∷ filter f xs) (filter f xs) n)) (rises_filter f xs a.1)
]

passes : (f : ℕ → Bool) (xs : List ℕ) (q : ℕ) → is_member (filter f xs) q ≡ true → (is_member xs q ≡ true) × (f q ≡ true)
passes f [] q i = absurd (true≢false (sym i))
passes f (x ∷ xs) q i = elim (cases_Bool (f x)) [
  | inl t ↦ elim (or_cases (x == q) (is_member (filter f xs) q) (ap (λ ys. is_member ys q) (sym (cond-true (f x) (x ∷ filter f xs) (filter f xs) t)) ∙ i)) [
    | inl here ↦ (or_left (x == q) (is_member xs q) here, ap f (sym (eqb-true x q here)) ∙ t)
    | inr rest ↦ (let w = passes f xs q rest in (or_right (x == q) (is_member xs q) w.0, w.1))
  ]
  | inr n ↦ (let w = passes f xs q (ap (λ ys. is_member ys q) (sym (cond-false (f x) (x ∷ filter f xs) (filter f xs) n)) ∙ i) in (or_right (x == q) (is_member xs q) w.0, w.1))
]

not_same : (q a : ℕ) → not (q == a) ≡ true → q ≡ a → ⊥
not_same q a h s = true≢false (sym h ∙ ap not (eq-eqb q a s))

-- of four that rise one is none of three
pub fourth : (xs : List ℕ) → Rises xs → 4 ≤ length xs → (a b c : ℕ) → (r : ℕ) × (is_member xs r ≡ true) × (r ≡ a → ⊥) × (r ≡ b → ⊥) × (r ≡ c → ⊥)
fourth xs rises four a b c =
    let ya = filter (λ e. not (e == a)) xs in
    let yb = filter (λ e. not (e == b)) ya in
    let yc = filter (λ e. not (e == c)) yb in
    let ra = rises_filter (λ e. not (e == a)) xs rises in
    let rb = rises_filter (λ e. not (e == b)) ya ra in
    let la = filter_length a xs rises in
    let lb = filter_length b ya ra in
    let lc = filter_length c yb rb in
    let first = head yc (omega (arith, four, la, lb, lc)) in
    let pc = passes (λ e. not (e == c)) yb first.0 first.1 in
    let pb = passes (λ e. not (e == b)) ya first.0 pc.0 in
    let pa = passes (λ e. not (e == a)) xs first.0 pb.0 in
    (first.0, pa.0, not_same first.0 a pa.1, not_same first.0 b pb.1, not_same first.0 c pc.1)
  where
    head : (ys : List ℕ) → 1 ≤ length ys → (q : ℕ) × (is_member ys q ≡ true)
    head [] le = absurd (omega (arith, le))
    head (y ∷ ys) le = (y, or_left (y == y) (is_member ys y) (eq-eqb y y refl))

-- each event has a mark
marked_length : (e : ℕ) (ks : List Kind) → length (marked e ks) ≡ length ks
marked_length e [] = refl
marked_length e (k ∷ ks) = ap suc (marked_length e ks)

loop_length : (coding : Coding) (cast : Cast) (v : ℕ) (lines : List Line) (es : List ℕ) → length (loop_marks coding cast v lines es) ≡ length (kinds_of (loop_calls coding cast v lines es))
loop_length coding cast v lines [] = refl
loop_length coding cast v lines (e ∷ es) =
    let ks = kinds_of (map (call_in coding cast v e) lines) in
    let a = length-append (marked e ks) (loop_marks coding cast v lines es) in
    let b = ap length (kinds_append (map (call_in coding cast v e) lines) (loop_calls coding cast v lines es)) in
    let c = length-append ks (kinds_of (loop_calls coding cast v lines es)) in
    let d = marked_length e ks in
    let f = loop_length coding cast v lines es in
    omega (arith, a, b, c, d, f)

step_length : (coding : Coding) (cast : Cast) (v i : ℕ) (step : Step) → length (step_marks coding cast v i step) ≡ length (kinds_of (step_calls coding cast v i step))
step_length coding cast v i (Once line) = marked_length v (kinds_of (call_in coding cast v v line ∷ []))
step_length coding cast v i (Loop role mode lines) = loop_length coding cast v lines (turns cast v i role mode)

marks_length : (coding : Coding) (cast : Cast) (v i : ℕ) (steps : List Step) → length (marks_from coding cast v i steps) ≡ length (kinds_of (calls_from coding cast v i steps))
marks_length coding cast v i [] = refl
marks_length coding cast v i (step ∷ steps) =
    let a = length-append (step_marks coding cast v i step) (marks_from coding cast v (suc i) steps) in
    let b = ap length (kinds_append (step_calls coding cast v i step) (calls_from coding cast v (suc i) steps)) in
    let c = length-append (kinds_of (step_calls coding cast v i step)) (kinds_of (calls_from coding cast v (suc i) steps)) in
    let d = step_length coding cast v i step in
    let f = marks_length coding cast v (suc i) steps in
    omega (arith, a, b, c, d, f)

pub mark_at : (pattern : Pattern) (coding : Coding) (cast : Cast) (p i : ℕ) (k : Kind) → kind_at (instance_of pattern coding cast) p i ≡ Some k → (e : ℕ) × (slice_get (marks_of pattern coding cast p) i ≡ Some e)
unfolding kind_at
mark_at pattern coding cast p i k is =
    let within = slice_get_within (kinds (instance_of pattern coding cast) p) i k is in
    let a = ap length (instance_kinds pattern coding cast p) in
    let b = marks_length coding cast p 0 (script_in pattern (slice_get cast.roles p)) in
    elim (slice_get_cases (marks_of pattern coding cast p) i).1 [ inl c ↦ (c.0, c.2) | inr c ↦ absurd (let past = c.0 in omega (arith, within, a, b, past)) ]

-- a call on a name is of that name, or takes all away
pub name_back : (to : Renaming) (k : Kind) (name : ℕ) → name_of (image_kind to k) ≡ Some name → (own : ℕ) × (name_of k ≡ Some own) × (to.name own ≡ name)
name_back to (Publish own) name h = (own, refl, same_Some _ _ h)
name_back to (Lookup own) name h = (own, refl, same_Some _ _ h)
name_back to (LookupWait own) name h = (own, refl, same_Some _ _ h)
name_back to (Unpublish own) name h = (own, refl, same_Some _ _ h)
name_back to _ name h = absurd (none-some name h)

calls_by : (plan : Plan) (name : ℕ) (x : Event) (k : Kind) → calls_name plan name x (Some k) ≡ true → (name_of k ≡ Some name) ⊎ (writes_name plan name x (Some k) ≡ true)
calls_by plan name x (Lookup n) h = inl (ap Some (eqb-true n name h))
calls_by plan name x (LookupWait n) h = inl (ap Some (eqb-true n name h))
calls_by plan name x (Publish n) h = inl (ap Some (eqb-true n name h))
calls_by plan name x (Unpublish n) h = inl (ap Some (eqb-true n name h))
calls_by plan name x UnpublishAll h = inr h
calls_by plan name x _ h = absurd (true≢false (sym h))

writes_by : (plan : Plan) (name : ℕ) (x : Event) (k : Kind) → writes_name plan name x (Some k) ≡ true → (name_of k ≡ Some name) ⊎ (publishes plan x.proc name (event_count plan x.proc) ≡ true)
writes_by plan name x (Publish n) h = inl (ap Some (eqb-true n name h))
writes_by plan name x (Unpublish n) h = inl (ap Some (eqb-true n name h))
writes_by plan name x UnpublishAll h = inr h
writes_by plan name x _ h = absurd (true≢false (sym h))

-- what writes a name of the others is never left out
never_left : (to : Renaming) (small plan : Plan) (waits : Bool) (own : ℕ) (x : Event) (k : Kind) → IsNameOf small own → writes_name plan (to.name own) x (Some k) ≡ true → MayLeave to small waits k → ⊥
never_left to small plan waits own x (Publish n) u h l = l own u (sym (eqb-true n (to.name own) h))
never_left to small plan waits own x (Unpublish n) u h l = l own u (sym (eqb-true n (to.name own) h))
never_left to small plan waits own x UnpublishAll u h l = l
never_left to small plan waits own x _ u h l = true≢false (sym h)

module _ (pattern : Pattern) (coding : Coding) (cast : Cast) (role : ℕ) (lawful : IsLawful pattern) (cast_is : IsCastOf pattern cast) (four : 4 ≤ length (group role cast.roles))
    (settled : (r : ℕ) → slice_get cast.roles r ≡ Some role → IsSettled (instance_of pattern coding (restricted r cast))) where
  abbrev large : Plan
  large = instance_of pattern coding cast

  -- one of the role, none of three
  pub spare : (a b c : ℕ) → (r : ℕ) × CanGo pattern cast r role × (r ≡ a → ⊥) × (r ≡ b → ⊥) × (r ≡ c → ⊥)
  spare a b c =
      let w = fourth (group role cast.roles) (rises_group role cast.roles) four a b c in
      (w.0, record { lawful = lawful; cast_is = cast_is; is = plays_role (slice_get cast.roles w.0) role (sym (group_member role cast.roles w.0) ∙ w.1); four = four }, w.2, w.3, w.4)

  pub no_rewrite : (x y : Event) → IsRewrite large x y → ⊥
  no_rewrite x y f =
      let ex = mark_at pattern coding cast x.proc x.at _ f.first_is in
      let ey = mark_at pattern coding cast y.proc y.at _ f.later_is in
      let s = spare x.proc ex.0 ey.0 in
      let r = s.0 in
      let can = s.1 in
      let ix = is_image pattern coding cast r role can x ex.0 ex.1 (λ q. s.2 (sym q)) (λ q. s.3 (sym q)) in
      let iy = is_image pattern coding cast r role can y ey.0 ey.1 (λ q. s.2 (sym (f.same ∙ q))) (λ q. s.4 (sym q)) in
      let to = removal pattern coding cast r role in
      let there : IsRewrite large (image to ix.0) (image to iy.0) = subst (λ v. IsRewrite large v (image to iy.0)) (sym ix.1) (subst (λ v. IsRewrite large x v) (sym iy.1) f) in
      let keeps = embeddings_keep_findings to (instance_of pattern coding (restricted r cast)) large (restrictions_embed pattern coding cast r role can) in
      (settled r can.is).no_rewrite ix.0 iy.0 (keeps.rewrites ix.0 iy.0 there)

  -- the instance without r
  module _ (r : ℕ) (can : CanGo pattern cast r role) where
    abbrev to : Renaming
    to = removal pattern coding cast r role

    abbrev small : Plan
    small = instance_of pattern coding (restricted r cast)

    keeps : KeepsFindings to small large
    keeps = embeddings_keep_findings to small large (restrictions_embed pattern coding cast r role can)

    each : IsPartEach to small large (pieces_of pattern coding cast r)
    each = restricted_each pattern coding cast r role can

    -- of an event of another process: it is an image, or it may be left
    image_or_left : (w : Event) (k : Kind) → (w.proc ≡ r → ⊥) → kind large w ≡ Some k → ((y : Event) × (image to y ≡ w)) ⊎ LeavesHere to small large (back r w.proc) (kept_before (pieces_of pattern coding cast r (back r w.proc))) w.at
    image_or_left w k ne is =
        let there = skip_back r w.proc ne in
        let is' : kind_at large (skip r (back r w.proc)) w.at ≡ Some k = ap (λ v. kind_at large v w.at) there ∙ is in
        elim (here to small large (pieces_of pattern coding cast r) each (back r w.proc) w.at (event_within large (skip r (back r w.proc)) w.at k is')) [
          | inl a ↦ inl (
            record { proc = back r w.proc; at = kept_before (pieces_of pattern coding cast r (back r w.proc)) w.at },
            sym (place_path w (skip r (back r w.proc)) (to.place (back r w.proc) (kept_before (pieces_of pattern coding cast r (back r w.proc)) w.at)) (sym there) (sym a.stands)),
          )
          | inr a ↦ inr a
        ]

    writer_is_image : (w : Event) (own : ℕ) → IsNameOf small own → (w.proc ≡ r → ⊥) → writes_name large (to.name own) w (kind large w) ≡ true → (y : Event) × (image to y ≡ w)
    writer_is_image w own u ne h = go (kind large w) refl h
      where
        go : (o : Option Kind) → kind large w ≡ o → writes_name large (to.name own) w o ≡ true → (y : Event) × (image to y ≡ w)
        go None is h = absurd (true≢false (sym h))
        go (Some k) is h = elim (image_or_left w k ne is) [
          | inl y ↦ y
          | inr a ↦ absurd (
              let same : a.what ≡ k = same_Some _ _ (sym a.large_is ∙ ap (λ v. kind_at large v w.at) (skip_back r w.proc ne) ∙ is) in
              never_left to small large _ own w k u h (subst (MayLeave to small _) same a.may_leave))
        ]

    -- the name of an image
    name_there : (y : Event) (k : Kind) (name : ℕ) → kind large (image to y) ≡ Some k → name_of k ≡ Some name → (own : ℕ) × IsNameOf small own × (to.name own ≡ name)
    name_there y k name is named =
        let b = event_back to small large (restrictions_embed pattern coding cast r role can) y k is in
        let n = name_back to b.0 name (ap name_of b.2 ∙ named) in
        (n.0, (y, b.0, b.1, n.1), n.2)

    refuted : (x y : Event) (name own : ℕ) → IsNameOf small own → to.name own ≡ name → (x.proc ≡ r → ⊥) → ((y' : Event) × (image to y' ≡ y)) → IsNameRace large x y name → ⊥
    refuted x y name own u same nx iy f =
        let f' : IsNameRace large x y (to.name own) = subst (λ n. IsNameRace large x y n) (sym same) f in
        let ix = writer_is_image x own u nx f'.x_writes in
        let there : IsNameRace large (image to ix.0) (image to iy.0) (to.name own) = subst (λ v. IsNameRace large v (image to iy.0) (to.name own)) (sym ix.1) (subst (λ v. IsNameRace large x v (to.name own)) (sym iy.1) f') in
        (settled r can.is).no_name_race ix.0 iy.0 own (keeps.name_races ix.0 iy.0 own u there)

    -- the commit that stores a key of the others
    storer_is_image : (c : Event) (own : ℕ) → IsKeyOf small own → (c.proc ≡ r → ⊥) → Stores large c (to.key own) → (y : Event) × (image to y ≡ c)
    storer_is_image c own u ne stores =
        let commit = stores_commit large c (to.key own) stores in
        elim (image_or_left c Commit ne commit) [
          | inl y ↦ y
          | inr a ↦ absurd (
              let q = back r c.proc in
              let there = skip_back r c.proc ne in
              let same : a.what ≡ Commit = same_Some _ _ (sym a.large_is ∙ ap (λ v. kind_at large v c.at) there ∙ commit) in
              let quiet : waits_at (kind_at small q) false (kept_before (pieces_of pattern coding cast r q) c.at) ≡ false = subst (MayLeave to small _) same a.may_leave in
              let lt = event_within large c.proc c.at Commit commit in
              let le : c.at ≤ event_count large (skip r q) = subst (λ v. c.at ≤ event_count large v) (sym there) (omega (arith, lt)) in
              let own_is : own_of large (skip r q) (to.key own) c.at ≡ stored large (skip r q) (to.key own) c.at =
              owns_track to small large (pieces_of pattern coding cast r) each q own u c.at le
              ∙ ap (option_map (to.place q)) (none_waits (kind_at small q) own (kept_before (pieces_of pattern coding cast r q) c.at) quiet)
              ∙ sym (stores_track to small large (pieces_of pattern coding cast r) each q own u c.at le) in
              let none : own_of large c.proc (to.key own) c.at ≡ None = subst (λ v. own_of large v (to.key own) c.at ≡ stored large v (to.key own) c.at) there own_is ∙ stores.nothing_before in
              true≢false (sym (stored_at_commit large c (to.key own) commit stores.something_after) ∙ ap is_some none))
        ]

  pub no_node_race : (c g : Event) (key : ℕ) → IsNodeRace large c g key → ⊥
  no_node_race c g key f =
      let eg = mark_at pattern coding cast g.proc g.at _ f.near.is in
      let s = spare c.proc g.proc eg.0 in
      let r = s.0 in
      let can = s.1 in
      let ig = is_image pattern coding cast r role can g eg.0 eg.1 (λ q. s.3 (sym q)) (λ q. s.4 (sym q)) in
      let b = event_back (to r can) (small r can) large (restrictions_embed pattern coding cast r role can) ig.0 _ (ap (kind large) ig.1 ∙ f.near.is) in
      let k = now_back (to r can) b.0 c.proc key b.2 in
      let gets = b.1 ∙ ap Some k.4 in
      let ic = storer_is_image r can c k.1 (ig.0, _, gets, refl) (λ q. s.2 (sym q)) (subst (λ n. Stores large c n) (sym k.3) f.near.stores) in
      let there : IsNodeRace large (image (to r can) ic.0) (image (to r can) ig.0) key =
      subst (λ v. IsNodeRace large v (image (to r can) ig.0) key) (sym ic.1) (subst (λ v. IsNodeRace large c v key) (sym ig.1) f) in
      let commit = event_back (to r can) (small r can) large (restrictions_embed pattern coding cast r role can) ic.0 Commit (stores_commit large (image (to r can) ic.0) key there.near.stores) in
      let pc = process_within (small r can) ic.0.proc ic.0.at _ commit.1 in
      let pg = process_within (small r can) ig.0.proc ig.0.at _ b.1 in
      let together : same_node (small r can) ic.0.proc ig.0.proc ≡ true =
      eq-eqb _ _ (sym (node_same pattern coding cast r role can ic.0.proc pc) ∙ eqb-true _ _ there.node ∙ node_same pattern coding cast r role can ig.0.proc pg) in
      let found = (keeps r can).node_races ic.0 ig.0 key there together in
      (settled r can.is).no_node_race ic.0 ig.0 found.0 found.2

  pub no_name_race : (x y : Event) (name : ℕ) → IsNameRace large x y name → ⊥
  no_name_race x y name f = go (kind large x) (kind large y) refl refl f.x_writes f.y_calls
    where
      named_y : (l : Kind) → kind large y ≡ Some l → name_of l ≡ Some name → ⊥
      named_y l isy ny =
          let ey = mark_at pattern coding cast y.proc y.at l isy in
          let s = spare x.proc y.proc ey.0 in
          let iy = is_image pattern coding cast s.0 role s.1 y ey.0 ey.1 (λ q. s.3 (sym q)) (λ q. s.4 (sym q)) in
          let n = name_there s.0 s.1 iy.0 l name (ap (kind large) iy.1 ∙ isy) ny in
          refuted s.0 s.1 x y name n.0 n.1 n.2 (λ q. s.2 (sym q)) iy f

      -- y takes all names away: the name is that of an event of x's process
      named_z : (z : Event) (l : Kind) → z.proc ≡ x.proc → kind large z ≡ Some l → name_of l ≡ Some name → writes_name large name y (kind large y) ≡ true → ⊥
      named_z z l same isz nz wy =
          let ez = mark_at pattern coding cast z.proc z.at l isz in
          let s = spare x.proc y.proc ez.0 in
          let iz = is_image pattern coding cast s.0 role s.1 z ez.0 ez.1 (λ q. s.2 (sym q ∙ same)) (λ q. s.4 (sym q)) in
          let n = name_there s.0 s.1 iz.0 l name (ap (kind large) iz.1 ∙ isz) nz in
          let iy = writer_is_image s.0 s.1 y n.0 n.1 (λ q. s.3 (sym q)) (ap (λ v. writes_name large v y (kind large y)) n.2 ∙ wy) in
          refuted s.0 s.1 x y name n.0 n.1 n.2 (λ q. s.2 (sym q)) iy f

      go : (a b : Option Kind) → kind large x ≡ a → kind large y ≡ b → writes_name large name x (kind large x) ≡ true → calls_name large name y (kind large y) ≡ true → ⊥
      go None b isx isy wx cy = true≢false (sym (ap (writes_name large name x) (sym isx) ∙ wx))
      go (Some k) None isx isy wx cy = true≢false (sym (ap (calls_name large name y) (sym isy) ∙ cy))
      go (Some k) (Some l) isx isy wx cy = elim (calls_by large name y l (ap (calls_name large name y) (sym isy) ∙ cy)) [
        | inl ny ↦ named_y l isy ny
        | inr wy ↦ elim (writes_by large name x k (ap (writes_name large name x) (sym isx) ∙ wx)) [
          | inl nx ↦ named_z x k refl isx nx (ap (writes_name large name y) isy ∙ wy)
          | inr px ↦ (let e = publish_event large x.proc name (event_count large x.proc) px in
              named_z (record { proc = x.proc; at = e.0 }) (Publish name) refl e.2 refl (ap (writes_name large name y) isy ∙ wy))
        ]
      ]
