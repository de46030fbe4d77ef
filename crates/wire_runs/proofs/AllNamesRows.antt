-- Small plans in which a process takes away all its names, played through.
use Rattle.std.proofs.Common.{◌≡◌, ℕ, List, [], ◌∷◌, false, inl, refl, arith}
use Rattle.std.proofs.lemmas.Bool.{true≢false}
use Rattle.wire_runs.specs.Plan.{Plan, CallFence, CallPublish, CallLookup, CallUnpublishAll, kinds, kind_at, event_count, node_of, Event}
use Rattle.wire_runs.specs.State.{start, Silent, Success, NotFound}
use Rattle.wire_runs.specs.Step.{IsInterleaving, run}
use Rattle.wire_runs.specs.Order.{PublishesOnce}
use Rattle.wire_runs.specs.Races.{IsUnordered}
use Rattle.wire_runs.specs.Findings.{NameRace, IsFound}
use Rattle.wire_runs.proofs.LiveNext.{live_next, done_before}

-- two names, taken away at once
taken : Plan
taken = record {
  processes =
      record { node = 0; calls = CallPublish 3 ∷ (CallPublish 4 ∷ (CallUnpublishAll ∷ (CallFence (0 ∷ (1 ∷ [])) false ∷ []))) }
      ∷ (record { node = 1; calls = CallFence (0 ∷ (1 ∷ [])) false ∷ (CallLookup 3 ∷ (CallLookup 4 ∷ [])) } ∷ []);
  keep = false;
}

taken_order : List ℕ
taken_order = 0 ∷ (0 ∷ (0 ∷ (0 ∷ (1 ∷ (0 ∷ (1 ∷ (1 ∷ (1 ∷ []))))))))

taken_runs : IsInterleaving taken start taken_order
unfolding taken taken_order kinds node_of kind_at event_count
taken_runs = (refl, (refl, (refl, (refl, (refl, (refl, (refl, (refl, (refl, tt)))))))))

taken_says : (run taken taken_order).replies 0 ≡ Success ∷ (Success ∷ (Success ∷ (Silent ∷ (Success ∷ []))))
unfolding taken taken_order kinds node_of kind_at event_count
taken_says = refl

taken_away : (run taken taken_order).replies 1 ≡ Silent ∷ (Success ∷ (NotFound ∷ (NotFound ∷ [])))
unfolding taken taken_order kinds node_of kind_at event_count
taken_away = refl

-- a name that its publisher may take away with all others isn't published once
taken_not_once : PublishesOnce taken (record { proc = 0; at = 0 }) 3 → ⊥
unfolding taken kinds kind_at event_count
taken_not_once once = true≢false (once.stays (record { proc = 0; at = 2 }))

-- where nothing is published, nothing is taken away, and the call succeeds all the same
nothing_published : Plan
nothing_published = record { processes = record { node = 0; calls = CallUnpublishAll ∷ [] } ∷ []; keep = false }

nothing_taken : (run nothing_published (0 ∷ [])).replies 0 ≡ Success ∷ []
unfolding nothing_published kinds kind_at
nothing_taken = refl

-- two calls that take away all names race on each of two names
all_away : Plan
all_away = record {
  processes =
      record { node = 0; calls = CallPublish 3 ∷ (CallPublish 4 ∷ (CallUnpublishAll ∷ [])) }
      ∷ (record { node = 1; calls = CallPublish 4 ∷ (CallPublish 3 ∷ (CallUnpublishAll ∷ [])) } ∷ []);
  keep = false;
}

abbrev the_first : Event
the_first = record { proc = 0; at = 2 }

abbrev the_second : Event
the_second = record { proc = 1; at = 2 }

away_unordered : IsUnordered all_away the_first the_second
unfolding all_away kinds kind_at
away_unordered = record {
  live_x = live_next all_away (0 ∷ (0 ∷ [])) (refl, (refl, tt)) 0 refl;
  live_y = live_next all_away (1 ∷ (1 ∷ [])) (refl, (refl, tt)) 1 refl;
  not_before = λ b. let d = done_before all_away (1 ∷ (1 ∷ [])) (refl, (refl, tt)) 1 refl the_first b in omega (arith, d);
  not_after = λ b. let d = done_before all_away (0 ∷ (0 ∷ [])) (refl, (refl, tt)) 0 refl the_second b in omega (arith, d);
}

on_the_one : IsFound all_away (NameRace the_first the_second 3)
unfolding all_away kinds kind_at event_count
on_the_one = (inl (omega arith), inl (record { x_writes = refl; y_calls = refl; others = λ e. omega (arith, e); not_once = λ once e. cc; unordered = away_unordered }))

on_the_other : IsFound all_away (NameRace the_first the_second 4)
unfolding all_away kinds kind_at event_count
on_the_other = (inl (omega arith), inl (record { x_writes = refl; y_calls = refl; others = λ e. omega (arith, e); not_once = λ once e. cc; unordered = away_unordered }))
