-- Small plans, played through: the definitions compute.
use Rattle.std.proofs.Common.{◌≡◌, ℕ, List, [], ◌∷◌, true, false, refl, ap}
use Rattle.wire_runs.specs.Plan.{Plan, CallPut, CallCommit, CallFence, CallGet, CallGetNow, CallPublish, CallLookup, CallLookupWait, CallUnpublish, kind, kinds, node_of, kind_at, event_count}
use Rattle.wire_types.specs.declared.Scope.TheVariants.{Local, Remote, Global}
use Rattle.wire_types.specs.declared.CallEnd.TheVariants.{Replied, Waiting, Ready}
use Rattle.wire_types.specs.declared.Status.TheVariants as status
use Rattle.wire_runs.specs.Order.{may_come, PublishesOnce}
use Rattle.wire_types.specs.Replies.{bare}
use Rattle.wire_runs.specs.Ends.{outcome}
use Rattle.wire_runs.specs.State.{State, start, Silent, Duplicate, Success, NotFound, ExistsOutside, Published, Value}
use Rattle.wire_runs.specs.Step.{is_enabled, IsInterleaving, run}
use Rattle.wire_runs.specs.Laws.{IsPlainSoFar}

-- two nodes; a put, a commit and a collecting fence; the other one fences, gets now and gets
row : Plan
row = record {
  processes =
      record { node = 0; calls = CallPut 7 Global ∷ (CallCommit ∷ (CallFence (1 ∷ (0 ∷ [])) true ∷ [])) }
      ∷ (record { node = 1; calls = CallFence (0 ∷ (1 ∷ (1 ∷ []))) true ∷ (CallGetNow 0 7 ∷ (CallGet 0 7 ∷ [])) } ∷ []);
  keep = false;
}

order : List ℕ
order = 1 ∷ (0 ∷ (0 ∷ (0 ∷ (1 ∷ (1 ∷ (1 ∷ (0 ∷ [])))))))

row_runs : IsInterleaving row start order
unfolding row order kinds node_of kind_at event_count
row_runs = (refl, (refl, (refl, (refl, (refl, (refl, (refl, (refl, tt))))))))

row_replies : (run row order).replies 1 ≡ Silent ∷ (Success ∷ (Value (record { proc = 0; at = 0 }) ∷ (Value (record { proc = 0; at = 0 }) ∷ [])))
unfolding row order kinds node_of kind_at event_count
row_replies = refl

-- before the fence is complete its leave isn't enabled
row_waits : is_enabled row (run row (1 ∷ (0 ∷ (0 ∷ [])))) 1 ≡ false
unfolding row order kinds node_of kind_at event_count
row_waits = refl

-- two publishes of one name: a race, and two ends
racy : Plan
racy = record { processes = record { node = 0; calls = CallPublish 5 ∷ [] } ∷ (record { node = 0; calls = CallPublish 5 ∷ [] } ∷ []); keep = false }

racy_first : (run racy (0 ∷ (1 ∷ []))).replies 1 ≡ Duplicate ∷ []
unfolding racy kinds kind_at
racy_first = refl

racy_second : (run racy (1 ∷ (0 ∷ []))).replies 1 ≡ Success ∷ []
unfolding racy kinds kind_at
racy_second = refl

-- so one cut has two states here, and a reply on the way isn't the plain run's: the laws say this of settled plans alone
two_states : run racy (0 ∷ (1 ∷ [])) ≡ run racy (1 ∷ (0 ∷ [])) → ⊥
unfolding racy kinds kind_at
two_states e = let differ : Duplicate ∷ [] ≡ Success ∷ [] = ap (λ (s : State). s.replies 1) e in cc

not_plain : IsPlainSoFar racy (run racy (1 ∷ [])) → ⊥
unfolding racy kinds kind_at
not_plain so_far = let differ : Success ∷ [] ≡ Duplicate ∷ [] = so_far.replies 1 in cc

-- a key that is put twice: the last put counts, also for a get that waits
rewritten : Plan
rewritten = record {
  processes =
      record { node = 0; calls = CallPut 7 Global ∷ (CallPut 7 Global ∷ (CallCommit ∷ (CallGet 0 7 ∷ []))) }
      ∷ (record { node = 1; calls = CallGet 0 7 ∷ [] } ∷ []);
  keep = false;
}

last_put_counts : (run rewritten (0 ∷ (0 ∷ (0 ∷ (1 ∷ []))))).replies 1 ≡ Value (record { proc = 0; at = 1 }) ∷ []
unfolding rewritten kinds node_of kind_at event_count
last_put_counts = refl

own_last_put_counts : (run rewritten (0 ∷ (0 ∷ (0 ∷ (0 ∷ []))))).replies 0 ≡ Success ∷ (Success ∷ (Success ∷ (Value (record { proc = 0; at = 1 }) ∷ [])))
unfolding rewritten kinds node_of kind_at event_count
own_last_put_counts = refl

-- a get of a key that is put twice may come, also where no commit follows
never_committed : Plan
never_committed = record {
  processes =
      record { node = 0; calls = CallPut 7 Global ∷ (CallPut 7 Global ∷ []) }
      ∷ (record { node = 0; calls = CallGet 0 7 ∷ [] } ∷ []);
  keep = false;
}

twice_may_come : may_come never_committed (record { proc = 1; at = 0 }) (kind never_committed (record { proc = 1; at = 0 })) ≡ true
unfolding never_committed kinds node_of kind_at event_count
twice_may_come = refl

-- but it waits
twice_waits : is_enabled never_committed (run never_committed (0 ∷ (0 ∷ []))) 1 ≡ false
unfolding never_committed kinds node_of kind_at event_count
twice_waits = refl

-- scopes: a put for the owner's node, asked from another node and from its own
scoped : Plan
scoped = record {
  processes =
      record { node = 0; calls = CallPut 7 Local ∷ (CallPut 8 Remote ∷ (CallCommit ∷ [])) }
      ∷ (record { node = 1; calls = CallGet 0 7 ∷ (CallGetNow 0 7 ∷ (CallGetNow 0 8 ∷ [])) }
      ∷ (record { node = 0; calls = CallGet 0 7 ∷ (CallGetNow 0 8 ∷ (CallGetNow 0 9 ∷ [])) } ∷ []));
  keep = false;
}

-- another node: outside the scope; nothing has been brought there
scope_elsewhere : (run scoped (0 ∷ (0 ∷ (0 ∷ (1 ∷ (1 ∷ (1 ∷ []))))))).replies 1 ≡ ExistsOutside ∷ (NotFound ∷ (NotFound ∷ []))
unfolding scoped kinds node_of kind_at event_count
scope_elsewhere = refl

-- the owner's node
scope_at_home : (run scoped (0 ∷ (0 ∷ (0 ∷ (2 ∷ (2 ∷ (2 ∷ []))))))).replies 2 ≡ Value (record { proc = 0; at = 0 }) ∷ (ExistsOutside ∷ (NotFound ∷ []))
unfolding scoped kinds node_of kind_at event_count
scope_at_home = refl

-- a fence of which one call doesn't say collect brings nothing
uncollected : Plan
uncollected = record {
  processes =
      record { node = 0; calls = CallPut 7 Global ∷ (CallCommit ∷ (CallFence (0 ∷ (1 ∷ [])) true ∷ [])) }
      ∷ (record { node = 1; calls = CallFence (0 ∷ (1 ∷ [])) false ∷ (CallGetNow 0 7 ∷ []) } ∷ []);
  keep = false;
}

nothing_brought : (run uncollected (0 ∷ (0 ∷ (0 ∷ (1 ∷ (1 ∷ (1 ∷ []))))))).replies 1 ≡ Silent ∷ (Success ∷ (NotFound ∷ []))
unfolding uncollected kinds node_of kind_at event_count
nothing_brought = refl

-- names: a lookup that waits, an unpublish by another, a lookup, and an unpublish by the publisher
named : Plan
named = record {
  processes =
      record { node = 0; calls = CallPublish 5 ∷ (CallUnpublish 5 ∷ (CallLookup 5 ∷ [])) }
      ∷ (record { node = 0; calls = CallLookupWait 5 ∷ (CallUnpublish 5 ∷ (CallLookup 5 ∷ [])) } ∷ []);
  keep = false;
}

waits_for_the_name : is_enabled named start 1 ≡ false
unfolding named kinds node_of kind_at event_count
waits_for_the_name = refl

another_unpublishes : (run named (0 ∷ (1 ∷ (1 ∷ (1 ∷ []))))).replies 1 ≡ Published (record { proc = 0; at = 0 }) ∷ (NotFound ∷ (Published (record { proc = 0; at = 0 }) ∷ []))
unfolding named kinds node_of kind_at event_count
another_unpublishes = refl

publisher_unpublishes : (run named (0 ∷ (0 ∷ (0 ∷ [])))).replies 0 ≡ Success ∷ (Success ∷ (NotFound ∷ []))
unfolding named kinds node_of kind_at event_count
publisher_unpublishes = refl

-- a name that somebody may unpublish isn't published once
not_published_once : PublishesOnce named (record { proc = 0; at = 0 }) 5 → ⊥
unfolding named kinds node_of kind_at event_count
not_published_once once = let taken : true ≡ false = once.stays (record { proc = 1; at = 1 }) in cc

-- what became of every call where one process has put and may commit, and another waits for what was put
ends_of_the_wait : outcome never_committed (run never_committed (0 ∷ [])) ≡ record { rows = (Replied (bare status.Success) ∷ (Ready ∷ [])) ∷ ((Waiting ∷ []) ∷ []); waiting = 1 }
unfolding never_committed kinds node_of kind_at event_count
ends_of_the_wait = refl
