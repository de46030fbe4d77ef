-- A complete run of a program, if it has the same replies on all nodes, is a run of the program on other nodes.
use Rattle.std.proofs.Common.{◌≡◌, ℕ, zero, suc, ◌+◌, ◌<◌, ◌≤◌, ◌⊎◌, List, [], ◌∷◌, ◌++◌, map, length, get_or, Option, Some, inl, inr, refl, sym, ap, ◌∙◌, subst, arith, nat_le}
use Rattle.std.specs.Prelude.{slice_get, if◌then◌else◌}
use Rattle.std.proofs.lemmas.Bool.{cases_lt}
use Rattle.std.proofs.lemmas.Option.{slice_get_past, slice_get-get_or}
use Rattle.wire_runs.specs.Plan.{Plan, Event, Call, Kind, Leave, kinds, kinds_of, kind_at, event_count}
use Rattle.wire_runs.specs.Fences.{arrivals_with, arrivals}
use Rattle.wire_runs.specs.State.{Answer, Silent, State, start}
use Rattle.wire_runs.specs.Step.{IsInterleaving, run, IsEnd}
use Rattle.wire_runs.specs.Races.{IsSettled}
use Rattle.wire_runs.specs.Laws.{plain_end}
use Rattle.wire_runs.specs.Ends.{call_size, calls_of}
use Rattle.wire_runs.specs.Placings.{IsPlacing, without_reply}
use Rattle.wire_runs.specs.PlacingLaws.{AreAsFar}
use Rattle.wire_runs.proofs.Anywhere.{settled_anywhere}
use Rattle.wire_runs.proofs.PlacingRuns.{run_alike}
use Rattle.wire_runs.proofs.PlainRun.{plain_runs}
use Rattle.wire_program_laws.specs.Programs.{Text, Program, event, arrival_at, heard, told, AreChosen, IsRunOf}
use Rattle.wire_program_laws.specs.Elsewhere as elsewhere
use Rattle.wire_program_laws.specs.Elsewhere.{IsUntold, IsSameOnAll, IsMoved, IsToldThere, ProgramsTellElsewhere}
use Rattle.wire_program_laws.proofs.Named.{reachable_named}
use Rattle.wire_program_laws.proofs.Chosen.{same_elements, kinds_of_plan}
use Rattle.wire_program_laws.proofs.Programs.{map_alike, programs_tell}

module _ (b c : Plan) (moved : IsMoved b c) where
  kinds_same : (p : ℕ) → kinds c p ≡ kinds b p
  kinds_same p = kinds_of_plan c p ∙ ap kinds_of (moved.calls p) ∙ sym (kinds_of_plan b p)

  kind_same : (p i : ℕ) → kind_at c p i ≡ kind_at b p i
  unfolding kind_at
  kind_same p i = ap (λ ks. slice_get ks i) (kinds_same p)

  count_same : (p : ℕ) → event_count c p ≡ event_count b p
  unfolding event_count
  count_same p = ap length (kinds_same p)

  is_placing : IsPlacing b c
  is_placing = record { same_keep = moved.keep; same_count = moved.count; same_calls = λ p. ap (map without_reply) (sym (kinds_same p)) }

  arrivals_same : (p : ℕ) (members : List ℕ) (n : ℕ) → arrivals c p members n ≡ arrivals b p members n
  arrivals_same p members zero = refl
  arrivals_same p members (suc n) =
      ap (λ k. arrivals_with members k (kind_at c p n)) (arrivals_same p members n) ∙ ap (arrivals_with members (arrivals b p members n)) (kind_same p n)

  arrival_same : (m : ℕ) (members : List ℕ) (j n : ℕ) → arrival_at c m members j n ≡ arrival_at b m members j n
  arrival_same m members j zero = refl
  arrival_same m members j (suc n) =
      ap (λ k. if nat_le j k then arrival_at c m members j n else n) (arrivals_same m members n)
      ∙ ap (λ k. if nat_le j (arrivals b m members n) then k else n) (arrival_same m members j n)

  heard_same : (text : Event → Text) (x : Event) (o : Option Kind) (answer : Answer) → heard c text x o answer ≡ heard b text x o answer
  heard_same text x (Some (Leave members)) answer = map_alike _ _ members (λ m _.
      ap (λ j. text (event m (arrival_at c m members j (event_count c m)))) (arrivals_same x.proc members x.at)
      ∙ ap (λ n. text (event m (arrival_at c m members (arrivals b x.proc members x.at) n))) (count_same m)
      ∙ ap (λ n. text (event m n)) (arrival_same m members (arrivals b x.proc members x.at) (event_count b m)))
  heard_same text x _ answer = refl

  told_same : (text : Event → Text) (answers : List Answer) (p n : ℕ) → told c text answers p n ≡ told b text answers p n
  told_same text answers p zero = refl
  told_same text answers p (suc n) = λ t. told_same text answers p n t ++ record {
    answer = get_or answers n Silent;
    texts = (ap (λ o. heard c text (event p n) o (get_or answers n Silent)) (kind_same p n) ∙ heard_same text (event p n) (kind_at b p n) (get_or answers n Silent)) t;
  } ∷ []

  module _ (program : Program) (text : Event → Text) (s t : State) (p : ℕ) (done : t.done p ≡ s.done p) (replies : t.replies p ≡ s.replies p) where
    all_told : (n : ℕ) → told c text (t.replies p) p n ≡ told b text (s.replies p) p n
    all_told n = ap (λ xs. told c text xs p n) replies ∙ told_same text (s.replies p) p n

    chosen_there : (n : ℕ) (calls : List Call) → AreChosen program b text s p n calls → AreChosen program c text t p n calls
    chosen_there n [] x = ap (program.choose p) (all_told n) ∙ x
    chosen_there n (call ∷ calls) x = (ap (program.choose p) (all_told n) ∙ x.0, go x.1 (chosen_there (n + call_size call) calls))
      where
        go : ((s.done p < n + call_size call) × (calls ≡ [])) ⊎ ((n + call_size call ≤ s.done p) × AreChosen program b text s p (n + call_size call) calls) →
            (AreChosen program b text s p (n + call_size call) calls → AreChosen program c text t p (n + call_size call) calls) →
            ((t.done p < n + call_size call) × (calls ≡ [])) ⊎ ((n + call_size call ≤ t.done p) × AreChosen program c text t p (n + call_size call) calls)
        go (inl short) rest = inl (let low = short.0 in omega (arith, low, done), short.1)
        go (inr over) rest = inr (let up = over.0 in omega (arith, up, done), rest over.1)

  module _ (program : Program) (other : Event → Text) (w : List ℕ) (alike : IsSameOnAll b) (second : IsRunOf program b other w) (ends : IsEnd b (run b w)) where
    far : AreAsFar b c w
    far = (run_alike b c is_placing).runs w

    settled_here : IsSettled b
    settled_here = (settled_anywhere b).everywhere.0 alike.settled b (record { same_keep = refl; same_count = refl; same_calls = λ p. refl })

    settled_there : IsSettled c
    settled_there = (settled_anywhere b).everywhere.0 alike.settled c is_placing

    legal_there : IsInterleaving c start w
    legal_there = far.interleavings.0 second.is_run

    ends_there : IsEnd c (run c w)
    ends_there p = sym (far.enabled p) ∙ ends p

    plain_here : run b w ≡ plain_end b
    plain_here = (plain_runs b).is_the_end settled_here w second.is_run ends

    plain_there : run c w ≡ plain_end c
    plain_there = (plain_runs c).is_the_end settled_there w legal_there ends_there

    lengths_here : (p : ℕ) → length ((run b w).replies p) ≡ (run b w).done p
    lengths_here = (reachable_named b (run b w) (w, second.is_run, refl)).lengths

    lengths_there : (p : ℕ) → length ((run c w).replies p) ≡ (run c w).done p
    lengths_there = (reachable_named c (run c w) (w, legal_there, refl)).lengths

    reply_same : (p i : ℕ) → i < (run b w).done p → slice_get ((run c w).replies p) i ≡ slice_get ((run b w).replies p) i
    reply_same p i lt = go (alike.same (event p i) (let e = ap (λ (t : State). t.done p) plain_here in omega (arith, lt, e)))
      where
        here : slice_get ((run b w).replies p) i ≡ Some (get_or ((run b w).replies p) i Silent)
        here = slice_get-get_or ((run b w).replies p) i Silent (let l = lengths_here p in omega (arith, lt, l))

        there : slice_get ((run c w).replies p) i ≡ Some (get_or ((run c w).replies p) i Silent)
        there = slice_get-get_or ((run c w).replies p) i Silent (let l = lengths_there p in let d = far.done p in omega (arith, lt, l, d))

        go : IsUntold b (event p i) → slice_get ((run c w).replies p) i ≡ slice_get ((run b w).replies p) i
        go (elsewhere.Reserved r is) =
            there ∙ ap Some ((reachable_named c (run c w) (w, legal_there, refl)).fixed (event p i) _ r there (kind_same p i ∙ is))
            ∙ sym (here ∙ ap Some ((reachable_named b (run b w) (w, second.is_run, refl)).fixed (event p i) _ r here is))
        go (elsewhere.Alike same) =
            ap (λ (t : State). slice_get (t.replies p) i) plain_there ∙ same c is_placing ∙ sym (ap (λ (t : State). slice_get (t.replies p) i) plain_here)

    replies_same : (p : ℕ) → (run c w).replies p ≡ (run b w).replies p
    replies_same p = same_elements _ _ (λ i. elim (cases_lt i ((run b w).done p)) [
      | inl lt ↦ reply_same p i lt
      | inr ge ↦
          (let a = lengths_here p in
          let l = lengths_there p in
          let d = far.done p in
          slice_get_past ((run c w).replies p) i (omega (arith, ge, l, d)) ∙ sym (slice_get_past ((run b w).replies p) i (omega (arith, ge, a))))
    ])

    run_there : IsRunOf program c other w
    run_there = record {
      is_run = legal_there;
      chosen = λ p lt. subst (AreChosen program c other (run c w) p 0) (sym (moved.calls p))
          (chosen_there program other (run b w) (run c w) p (sym (far.done p)) (replies_same p) 0 (calls_of b p) (second.chosen p (let n = moved.count in omega (arith, lt, n))));
      said = λ p i le. second.said p i (let d = far.done p in omega (arith, le, d))
          ∙ ap (program.says p) (sym (all_told program other (run b w) (run c w) p (sym (far.done p)) (replies_same p) i));
    }

pub programs_tell_elsewhere : ProgramsTellElsewhere
programs_tell_elsewhere program b c other w alike second ends moved =
    let settled = settled_there b c moved program other w alike second ends in
    let is_run = run_there b c moved program other w alike second ends in
    let over = ends_there b c moved program other w alike second ends in
    record {
      settled = settled;
      is_run = is_run;
      ends = over;
      tells = λ a text v first head. programs_tell program a c text other v w ((plain_runs c).is_the_end settled) is_run over first head;
    }
