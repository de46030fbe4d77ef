-- What lines declare, without their numbers: a fold over what they say.
use Rattle.std.proofs.Common.{◌≡◌, ◌∙◌, ap, sym, subst, refl, ℕ, ◌+◌, ◌-◌, List, [], ◌∷◌, ◌++◌, map, length, append_assoc, append-nil, Bool, true, false, Result, Ok, Err, MatchResult, inl, inr, if◌then◌else◌}
use Rattle.std.specs.Prelude.{not}
use Rattle.std.proofs.lemmas.List.{map-append}
use Rattle.wire_types.specs.Said.{Call, Said, Header, Keep, Node, Job, Rank, Calls, first_word, other_words}
use Rattle.wire_types.specs.declared.Fault.{Fault}
use Rattle.wire_types.specs.declared.Fault.TheVariants.{TooLong, BadLine, UnknownName, Twice, TooMany}
use Rattle.wire_lines.proofs.SaysOnce.{says_once}
use Rattle.wire_reader.specs.FirstPass.{Name, Started, Declared, number_or_count, after, with_call, judged, Judges, JudgesAll, is_in_place, is_short, is_known, is_again, has_room}
use Rattle.wire_reader.proofs.Recut.{AllLawful, numbered_lines}
use Rattle.wire_reader.proofs.Changed.{IsTaken, Runs}

abbrev pub numbered : ℕ → List Said → List (ℕ × Said)
numbered n [] = []
numbered n (a ∷ xs) = (n, a) ∷ numbered (n + 1) xs

tests_passed : (a b c f g : Bool) (d e : Declared) (n : ℕ)
    → Ok e ≡ (if not a then Err (BadLine n) else if not b then Err (TooLong n) else if not c then Err (UnknownName n) else if f then Err (Twice n) else if not g then Err (TooMany n) else Ok d)
    → (a ≡ true) × (b ≡ true) × (c ≡ true) × (f ≡ false) × (g ≡ true) × (e ≡ d)
tests_passed false b c f g d e n h = absurd (cc)
tests_passed true false c f g d e n h = absurd (cc)
tests_passed true true false f g d e n h = absurd (cc)
tests_passed true true true true g d e n h = absurd (cc)
tests_passed true true true false false d e n h = absurd (cc)
tests_passed true true true false true d e n h = (refl, refl, refl, refl, refl, cc)

line_taken : (d e : Declared) (n : ℕ) (a : Said) → Ok e ≡ judged d n a → IsTaken d a × (e ≡ after d n a)
line_taken d e n a j =
    let t = tests_passed (is_in_place d a) (is_short a) (is_known d a) (is_again d a) (has_room d a) (after d n a) e n j in
    (record { place = t.0; short = t.1; known = t.2; again = t.3; room = t.4 }, t.5)

abbrev RestRuns : List Said → ℕ → Declared → Type 0
RestRuns xs n e = (x : Declared) → JudgesAll x (numbered_lines (n + 1) xs) (Ok e) → Runs (numbered (n + 1) xs) x e

-- lawful lines that are judged without a fault lead from one declaration to the other
pub lines_run : (xs : List Said) (n : ℕ) (d e : Declared) → AllLawful xs → JudgesAll d (numbered_lines n xs) (Ok e) → Runs (numbered n xs) d e
lines_run [] n d e lawful j = cc
lines_run (a ∷ xs) n d e lawful j = step (λ x h. lines_run xs (n + 1) x e lawful.1 h) j.0 j.1 j.2
  where
    after_line : RestRuns xs n e → (q : Result Declared Fault) → q ≡ judged d n a → MatchResult q (λ x. JudgesAll x (numbered_lines (n + 1) xs) (Ok e)) (λ f. Ok e ≡ Err f)
        → Runs (numbered n (a ∷ xs)) d e
    after_line rest (Ok x) is m =
        let t = line_taken d x n a is in
        (lawful.0, t.0, subst (λ y. Runs (numbered (n + 1) xs) y e) t.1 (rest x m))
    after_line rest (Err f) is m = absurd (cc)

    step : RestRuns xs n e → (q : Result Declared Fault) → Judges d (n, first_word a ∷ other_words a) q
        → MatchResult q (λ x. JudgesAll x (numbered_lines (n + 1) xs) (Ok e)) (λ f. Ok e ≡ Err f) → Runs (numbered n (a ∷ xs)) d e
    step rest q (inl none) m = absurd (none.0 a (refl, lawful.0))
    step rest q (inr some) m =
        after_line rest q (some.2 ∙ ap (judged d n) (says_once (first_word a ∷ other_words a) some.0 a some.1 (refl, lawful.0))) m

-- lines that are said, each with a mark
abbrev pub Marked : Type 0
Marked = ℕ × Said

-- a mark for each line by its number
abbrev pub marked : (ℕ → ℕ) → ℕ → List Said → List Marked
marked mark n [] = []
marked mark n (a ∷ xs) = (mark n, a) ∷ marked mark (n + 1) xs

abbrev pub marked_call : ℕ × Call → Marked
marked_call c = (c.0, Calls c.1)

-- what is declared, without ranks and limits; calls have the marks of their lines
pub record Row : Type 0 where
  pub job : ℕ
  pub node : ℕ
  pub calls : List (ℕ × Call)

pub record View : Type 0 where
  pub keeps : Bool
  pub nodes : List Name
  pub jobs : List Name
  pub rows : List Row

abbrev pub row_of : (ℕ → ℕ) → Started → Row
row_of mark p = record { job = p.job; node = p.node; calls = map (λ (c : ℕ × Call). (mark c.0, c.1)) p.calls }

abbrev pub view : (ℕ → ℕ) → Declared → View
view mark d = record { keeps = d.keeps; nodes = d.nodes; jobs = d.jobs; rows = map (row_of mark) d.processes }

abbrev pub with_more : Row → List (ℕ × Call) → Row
with_more r cs = record { job = r.job; node = r.node; calls = r.calls ++ cs }

abbrev pub with_last : List Row → ℕ × Call → List Row
with_last [] c = []
with_last (r ∷ []) c = with_more r (c ∷ []) ∷ []
with_last (r ∷ q ∷ rs) c = r ∷ with_last (q ∷ rs) c

abbrev pub with_rows : View → List Row → View
with_rows w rows = record { keeps = w.keeps; nodes = w.nodes; jobs = w.jobs; rows = rows }

abbrev pub viewed : View → ℕ → Said → View
viewed w m (Header version) = w
viewed w m Keep = record { keeps = true; nodes = w.nodes; jobs = w.jobs; rows = w.rows }
viewed w m (Node name) = record { keeps = w.keeps; nodes = w.nodes ++ name ∷ []; jobs = w.jobs; rows = w.rows }
viewed w m (Job name) = record { keeps = w.keeps; nodes = w.nodes; jobs = w.jobs ++ name ∷ []; rows = w.rows }
viewed w m (Rank node) = with_rows w (w.rows ++ record { job = length w.jobs - 1; node = number_or_count w.nodes node; calls = [] } ∷ [])
viewed w m (Calls c) = with_rows w (with_last w.rows (m, c))

abbrev pub all_viewed : View → List Marked → View
all_viewed w [] = w
all_viewed w (a ∷ xs) = all_viewed (viewed w a.0 a.1) xs

module _ (mark : ℕ → ℕ) where
  rows_with : (ps : List Started) (n : ℕ) (c : Call) → map (row_of mark) (with_call ps (n, c)) ≡ with_last (map (row_of mark) ps) (mark n, c)
  rows_with [] n c = refl
  rows_with (p ∷ []) n c = ap (λ cs. record { job = p.job; node = p.node; calls = cs } ∷ []) (map-append (λ (x : ℕ × Call). (mark x.0, x.1)) p.calls ((n, c) ∷ []))
  rows_with (p ∷ q ∷ ps) n c = ap (λ rs. row_of mark p ∷ rs) (rows_with (q ∷ ps) n c)

  view_after : (d : Declared) (n : ℕ) (a : Said) → view mark (after d n a) ≡ viewed (view mark d) (mark n) a
  view_after d n (Header version) = refl
  view_after d n Keep = refl
  view_after d n (Node name) = refl
  view_after d n (Job name) = refl
  view_after d n (Rank node) =
      ap (with_rows (view mark d)) (map-append (row_of mark) d.processes (record { job = length d.jobs - 1; rank = d.ranks; node = number_or_count d.nodes node; calls = [] } ∷ []))
  view_after d n (Calls c) = ap (with_rows (view mark d)) (rows_with d.processes n c)

  pub view_run : (xs : List Said) (n : ℕ) (d e : Declared) → Runs (numbered n xs) d e → view mark e ≡ all_viewed (view mark d) (marked mark n xs)
  view_run [] n d e r = ap (view mark) (sym r)
  view_run (a ∷ xs) n d e r = view_run xs (n + 1) (after d n a) e r.2 ∙ ap (λ w. all_viewed w (marked mark (n + 1) xs)) (view_after d n a)

pub both_viewed : (w : View) (xs ys : List Marked) → all_viewed w (xs ++ ys) ≡ all_viewed (all_viewed w xs) ys
both_viewed w [] ys = refl
both_viewed w (x ∷ xs) ys = both_viewed (viewed w x.0 x.1) xs ys

-- the calls of the last process
last_with : (rs : List Row) (r : Row) (c : ℕ × Call) → with_last (rs ++ r ∷ []) c ≡ rs ++ with_more r (c ∷ []) ∷ []
last_with [] r c = refl
last_with (q ∷ []) r c = refl
last_with (q ∷ p ∷ rs) r c = ap (λ t. q ∷ t) (last_with (p ∷ rs) r c)

calls_viewed : (w : View) (rs : List Row) (r : Row) (cs : List (ℕ × Call)) → all_viewed (with_rows w (rs ++ r ∷ [])) (map marked_call cs) ≡ with_rows w (rs ++ with_more r cs ∷ [])
calls_viewed w rs r [] = ap (λ cs. with_rows w (rs ++ record { job = r.job; node = r.node; calls = cs } ∷ [])) (sym (append-nil r.calls))
calls_viewed w rs r (c ∷ cs) =
    ap (λ rows. all_viewed (with_rows w rows) (map marked_call cs)) (last_with rs r c)
    ∙ calls_viewed w rs (with_more r (c ∷ [])) cs
    ∙ ap (λ all. with_rows w (rs ++ record { job = r.job; node = r.node; calls = all } ∷ [])) (append_assoc r.calls (c ∷ []) cs)

-- a process with its calls
pub process_viewed : (w : View) (m : ℕ) (node : Name) (cs : List (ℕ × Call)) → all_viewed w ((m, Rank node) ∷ map marked_call cs)
    ≡ with_rows w (w.rows ++ record { job = length w.jobs - 1; node = number_or_count w.nodes node; calls = cs } ∷ [])
process_viewed w m node cs = calls_viewed w w.rows (record { job = length w.jobs - 1; node = number_or_count w.nodes node; calls = [] }) cs
