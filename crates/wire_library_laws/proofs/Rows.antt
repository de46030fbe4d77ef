-- Small runs of libraries: on plans that aren't portable the axioms let a library do what the rules don't, and what was
-- seen of real ones; and a run on a portable plan.
use Rattle.std.proofs.Common.{◌≡◌, ℕ, ◌<◌, List, [], ◌∷◌, true, false, None, inl, refl, sym, arith, true≢false}
use Rattle.wire_runs.specs.Plan.{Plan, CallPut, CallCommit, CallGet, Put, Commit, Get, kinds, node_of, kind_at, event_count}
use Rattle.wire_types.specs.declared.Scope.TheVariants.{Global}
use Rattle.wire_runs.specs.State.{Answer, Success, NotFound}
use Rattle.wire_library_laws.specs.Library.{Family, Words, Moment, Asks, Says, still, later, fails_near, fails_far, CanCome, asks, says, IsLibraryRun}
use Rattle.wire_library_laws.specs.Promised.{IsByRules}

-- all that any library was seen to do, and the least of it
any : Family
any = record { flaky = true; at_once = true; brings = false; names = false; star = false }

least : Family
least = record { flaky = false; at_once = false; brings = true; names = true; star = true }

words : Words
words = record { sign = λ z. None; known = λ z. false; job = λ p. 0 }

-- p makes its next call, and is answered at once
did : List Moment → ℕ → Answer → List Moment
did past p a = Says p a ∷ (Asks p ∷ past)

-- process 0 commits twice, and process 1 waits for what the second brings
second : ℕ → Plan
second node = record {
  processes =
      record { node = 0; calls = CallPut 7 Global ∷ (CallCommit ∷ (CallPut 8 Global ∷ (CallCommit ∷ []))) } ∷ (record { node = node; calls = CallGet 0 8 ∷ [] } ∷ []);
  keep = false;
}

-- it asked, and the first commit came
first_came : List Moment
first_came = did (did (Asks 1 ∷ []) 0 Success) 0 Success

two_done : 1 < 2
two_done = omega arith

-- on one node: by whatever library (OpenPMIx 4.2.2 did it in 55 of 60 runs)
near_gap : CanCome least words (second 0) first_came (Says 1 NotFound)
unfolding least second first_came did kinds node_of kind_at event_count
near_gap = says [] (Get 0 8) refl (record { asked = later (later (later (later still))); unanswered = refl })
    (fails_near (λ e. omega (arith, e)) refl
    (record { commit = record { proc = 0; at = 1 }; made = record { is = refl; its = refl; is_done = two_done }; since = λ d. omega (arith, d); missing = inl refl }))

first_came_is : IsLibraryRun least words (second 0) first_came
unfolding least second first_came did kinds node_of kind_at event_count
first_came_is = (
  says (Says 0 Success ∷ (Asks 0 ∷ (Asks 1 ∷ []))) Commit refl (record { asked = still; unanswered = refl }) refl,
  (asks, (says (Asks 1 ∷ []) (Put 7 Global) refl (record { asked = still; unanswered = refl }) refl, (asks, (asks, tt)))),
)

-- by the rules that get doesn't come then
near_not_by_rules : IsByRules (second 0) (Says 1 NotFound ∷ first_came) → ⊥
unfolding second first_came did kinds node_of kind_at event_count
near_not_by_rules by = let r = by.is_run in let e : false ≡ true = r.1.1.0 in true≢false (sym e)

-- on two nodes: where a server answers at once (57 of 60 runs)
far_gap : CanCome any words (second 1) first_came (Says 1 NotFound)
unfolding any second first_came did kinds node_of kind_at event_count
far_gap = says [] (Get 0 8) refl (record { asked = later (later (later (later still))); unanswered = refl })
    (fails_far refl (record {
      other = 1;
      other_before = [];
      other_key = 8;
      open_then = record { asked = still; unanswered = refl };
      other_is = refl;
      there = refl;
      moment = first_came;
      from = later (later (later (later still)));
      until = still;
      commit = record { proc = 0; at = 1 };
      made = record { is = refl; its = refl; is_done = two_done };
      its_key = λ e. absurd (true≢false e);
      missing = refl;
    }))

-- processes 1 and 2 of another node get the keys of the two commits: 1 asked for the first key, and its request, which 2
-- shares, went out before the second commit. By whatever library
mates : Plan
mates = record {
  processes =
      record { node = 0; calls = CallPut 7 Global ∷ (CallCommit ∷ (CallPut 8 Global ∷ (CallCommit ∷ []))) }
      ∷ (record { node = 1; calls = CallGet 0 7 ∷ [] } ∷ (record { node = 1; calls = CallGet 0 8 ∷ [] } ∷ []));
  keep = false;
}

sent : List Moment
sent = did (did (Asks 1 ∷ []) 0 Success) 0 Success

both_came : List Moment
both_came = Asks 2 ∷ did (did sent 0 Success) 0 Success

mates_gap : CanCome least words mates both_came (Says 2 NotFound)
unfolding least mates both_came sent did kinds node_of kind_at event_count
mates_gap = says (did (did sent 0 Success) 0 Success) (Get 0 8) refl (record { asked = still; unanswered = refl })
    (fails_far refl (record {
      other = 1;
      other_before = [];
      other_key = 7;
      open_then = record { asked = later (later (later (later (later (later (later (later (later still)))))))); unanswered = refl };
      other_is = refl;
      there = refl;
      moment = sent;
      from = later (later (later (later still)));
      until = later (later (later (later (later still))));
      commit = record { proc = 0; at = 1 };
      made = record { is = refl; its = refl; is_done = two_done };
      its_key = λ e. refl;
      missing = refl;
    }))
