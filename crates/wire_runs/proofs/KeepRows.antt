-- Small plans that keep what gets bring, played through: what a get-now sees, a race with a get, and a settled plan.
use Rattle.std.proofs.Common.{◌≡◌, ℕ, zero, suc, List, [], ◌∷◌, Bool, true, false, Option, Some, refl, sym, ap, subst, arith}
use Rattle.std.proofs.lemmas.Bool.{true≢false}
use Rattle.wire_runs.specs.Plan.{Plan, CallPut, CallCommit, CallFence, CallGet, CallGetNow, Kind, Put, GetNow, kinds, kind_at, event_count, node_of, same_node, Event}
use Rattle.wire_types.specs.declared.Scope.{Scope}
use Rattle.wire_types.specs.declared.Scope.TheVariants.{Local, Global}
use Rattle.wire_runs.specs.State.{start, Silent, Success, NotFound, ExistsOutside, Value}
use Rattle.wire_runs.specs.Names.{writes_name}
use Rattle.wire_runs.specs.Step.{IsInterleaving, run}
use Rattle.wire_runs.specs.Order.{Edge, Follows, Meets, Live, Before, edge, further}
use Rattle.wire_runs.specs.Races.{Delivery, ByFence, ByGet, IsOf, Brings, ComesSurely, IsDeliveryRace, IsSettled}
use Rattle.wire_runs.proofs.LiveNext.{live_next, done_before}

-- a get brings the key to the node, where a get-now sees it after a fence that doesn't collect
unfoldable pub keeping : Scope → Bool → Plan
keeping scope keep = record {
  processes =
      record { node = 0; calls = CallPut 7 scope ∷ (CallCommit ∷ []) }
      ∷ (record { node = 1; calls = CallGet 0 7 ∷ (CallFence (1 ∷ (2 ∷ [])) false ∷ []) }
      ∷ (record { node = 1; calls = CallFence (1 ∷ (2 ∷ [])) false ∷ (CallGetNow 0 7 ∷ []) } ∷ []));
  keep = keep;
}

pub keeping_order : List ℕ
keeping_order = 0 ∷ (0 ∷ (1 ∷ (1 ∷ (2 ∷ (1 ∷ (2 ∷ (2 ∷ [])))))))

keeping_runs : IsInterleaving (keeping Global true) start keeping_order
unfolding keeping keeping_order kinds node_of kind_at event_count
keeping_runs = (refl, (refl, (refl, (refl, (refl, (refl, (refl, (refl, tt))))))))

keeping_sees : (run (keeping Global true) keeping_order).replies 2 ≡ Silent ∷ (Success ∷ (Value (record { proc = 0; at = 0 }) ∷ []))
unfolding keeping keeping_order kinds node_of kind_at event_count
keeping_sees = refl

without_it : (run (keeping Global false) keeping_order).replies 2 ≡ Silent ∷ (Success ∷ (NotFound ∷ []))
unfolding keeping keeping_order kinds node_of kind_at event_count
without_it = refl

local_get : (run (keeping Local true) keeping_order).replies 1 ≡ ExistsOutside ∷ (Silent ∷ (Success ∷ []))
unfolding keeping keeping_order kinds node_of kind_at event_count
local_get = refl

local_sees : (run (keeping Local true) keeping_order).replies 2 ≡ Silent ∷ (Success ∷ (NotFound ∷ []))
unfolding keeping keeping_order kinds node_of kind_at event_count
local_sees = refl

-- without the fence: two ends
unfoldable pub loose : Plan
loose = record {
  processes =
      record { node = 0; calls = CallPut 7 Global ∷ (CallCommit ∷ []) }
      ∷ (record { node = 1; calls = CallGet 0 7 ∷ [] }
      ∷ (record { node = 1; calls = CallGetNow 0 7 ∷ [] } ∷ []));
  keep = true;
}

loose_early : (run loose (0 ∷ (0 ∷ (2 ∷ (1 ∷ []))))).replies 2 ≡ NotFound ∷ []
unfolding loose kinds node_of kind_at event_count
loose_early = refl

loose_late : (run loose (0 ∷ (0 ∷ (1 ∷ (2 ∷ []))))).replies 2 ≡ Value (record { proc = 0; at = 0 }) ∷ []
unfolding loose kinds node_of kind_at event_count
loose_late = refl

-- two puts, each got by one process: the later one stays, whichever came last
twice : Plan
twice = record {
  processes =
      record { node = 0; calls = CallPut 7 Global ∷ (CallCommit ∷ (CallPut 7 Global ∷ (CallCommit ∷ []))) }
      ∷ (record { node = 1; calls = CallGet 0 7 ∷ [] }
      ∷ (record { node = 1; calls = CallGet 0 7 ∷ [] }
      ∷ (record { node = 1; calls = CallGetNow 0 7 ∷ [] } ∷ [])));
  keep = true;
}

twice_first : (run twice (0 ∷ (0 ∷ (1 ∷ (0 ∷ (0 ∷ (2 ∷ (3 ∷ [])))))))).replies 3 ≡ Value (record { proc = 0; at = 2 }) ∷ []
unfolding twice kinds node_of kind_at event_count
twice_first = refl

twice_second : (run twice (0 ∷ (0 ∷ (2 ∷ (0 ∷ (0 ∷ (1 ∷ (3 ∷ [])))))))).replies 3 ≡ Value (record { proc = 0; at = 2 }) ∷ []
unfolding twice kinds node_of kind_at event_count
twice_second = refl

twice_early : (run twice (0 ∷ (0 ∷ (1 ∷ (0 ∷ (0 ∷ (3 ∷ []))))))).replies 3 ≡ Value (record { proc = 0; at = 0 }) ∷ []
unfolding twice kinds node_of kind_at event_count
twice_early = refl

-- each delivery has an event
some_of : (plan : Plan) (p key node : ℕ) (d : Delivery) → Brings plan p key node d → (z : Event) × IsOf plan d z
some_of plan p key node (ByFence members j) b = (record { proc = p; at = b.away.at }, b.away.arrival)
some_of plan p key node (ByGet get) b = (get, refl)

abbrev the_get : Event
the_get = record { proc = 1; at = 0 }

abbrev the_get_now : Event
the_get_now = record { proc = 2; at = 0 }

loose_race : IsDeliveryRace loose the_get the_get_now 0 7
unfolding loose kinds node_of kind_at event_count
loose_race = record {
  is = refl;
  other = refl;
  once = refl;
  get_live = live_next loose [] tt 2 refl;
  not_sure = λ sure. let z = some_of loose 0 7 1 sure.delivery sure.delivers.brings_it in let d = done_before loose [] tt 2 refl z.0 (sure.all_before z.0 z.1) in omega (arith, d);
  delivery = ByGet the_get;
  delivers = record {
    brings_it = record { away = record { keeps = refl; is = refl; put = 0; committed = refl; admitted = refl }; there = refl };
    all_live = λ z e. subst (λ v. Live loose v) (sym e) (live_next loose (0 ∷ (0 ∷ [])) (refl, (refl, tt)) 1 refl);
  };
  before_none = λ z e b. (let d = done_before loose (0 ∷ (0 ∷ [])) (refl, (refl, tt)) 1 refl the_get_now (subst (λ v. Before loose the_get_now v) e b) in omega (arith, d));
  of_it = refl;
  not_before = λ b. let d = done_before loose [] tt 2 refl the_get b in omega (arith, d);
  first = λ z e not. (let f = ap (λ (v : Event). v.proc) e in omega (arith, f));
}

pub row : Plan
row = keeping Global true

-- the only get-now
the_only : (p i owner key : ℕ) → kind_at row p i ≡ Some (GetNow owner key) → (p ≡ 2) × (i ≡ 2) × (owner ≡ 0) × (key ≡ 7)
unfolding row keeping kinds kind_at
the_only zero zero owner key e = cc
the_only zero (suc zero) owner key e = cc
the_only zero (suc (suc i)) owner key e = cc
the_only (suc zero) zero owner key e = cc
the_only (suc zero) (suc zero) owner key e = cc
the_only (suc zero) (suc (suc zero)) owner key e = cc
the_only (suc zero) (suc (suc (suc i))) owner key e = cc
the_only (suc (suc zero)) zero owner key e = cc
the_only (suc (suc zero)) (suc zero) owner key e = cc
the_only (suc (suc zero)) (suc (suc zero)) owner key e = (refl, refl, ap owner_in (sym e), ap key_in (sym e))
  where
    owner_in : Option Kind → ℕ
    owner_in (Some (GetNow o k)) = o
    owner_in _ = 0

    key_in : Option Kind → ℕ
    key_in (Some (GetNow o k)) = k
    key_in _ = 0
the_only (suc (suc zero)) (suc (suc (suc i))) owner key e = cc
the_only (suc (suc (suc p))) i owner key e = cc

-- the only put
put_first : (p i key : ℕ) (scope : Scope) → kind_at row p i ≡ Some (Put key scope) → i ≡ 0
unfolding row keeping kinds kind_at
put_first zero zero key scope e = refl
put_first zero (suc zero) key scope e = cc
put_first zero (suc (suc i)) key scope e = cc
put_first (suc zero) zero key scope e = refl
put_first (suc zero) (suc zero) key scope e = cc
put_first (suc zero) (suc (suc zero)) key scope e = cc
put_first (suc zero) (suc (suc (suc i))) key scope e = cc
put_first (suc (suc zero)) zero key scope e = refl
put_first (suc (suc zero)) (suc zero) key scope e = cc
put_first (suc (suc zero)) (suc (suc zero)) key scope e = cc
put_first (suc (suc zero)) (suc (suc (suc i))) key scope e = cc
put_first (suc (suc (suc p))) i key scope e = cc

no_writer : (p i name : ℕ) (x : Event) → writes_name row name x (kind_at row p i) ≡ true → ⊥
unfolding row keeping kinds kind_at
no_writer zero zero name x e = cc
no_writer zero (suc zero) name x e = cc
no_writer zero (suc (suc i)) name x e = cc
no_writer (suc zero) zero name x e = cc
no_writer (suc zero) (suc zero) name x e = cc
no_writer (suc zero) (suc (suc zero)) name x e = cc
no_writer (suc zero) (suc (suc (suc i))) name x e = cc
no_writer (suc (suc zero)) zero name x e = cc
no_writer (suc (suc zero)) (suc zero) name x e = cc
no_writer (suc (suc zero)) (suc (suc zero)) name x e = cc
no_writer (suc (suc zero)) (suc (suc (suc i))) name x e = cc
no_writer (suc (suc (suc p))) i name x e = cc

abbrev row_get : Event
row_get = record { proc = 1; at = 0 }

abbrev row_arrive : Event
row_arrive = record { proc = 1; at = 1 }

abbrev row_leave : Event
row_leave = record { proc = 2; at = 1 }

abbrev row_get_now : Event
row_get_now = record { proc = 2; at = 2 }

abbrev upto_get : List ℕ
upto_get = 0 ∷ (0 ∷ [])

abbrev upto_arrive : List ℕ
upto_arrive = 0 ∷ (0 ∷ (1 ∷ []))

abbrev upto_leave : List ℕ
upto_leave = 0 ∷ (0 ∷ (1 ∷ (1 ∷ (2 ∷ []))))

abbrev upto_now : List ℕ
upto_now = 0 ∷ (0 ∷ (1 ∷ (1 ∷ (2 ∷ (2 ∷ [])))))

-- the get is before the get-now, through the fence
through : Before row row_get row_get_now
unfolding row keeping kinds node_of kind_at event_count
through =
    let meets : Edge row row_arrive row_leave = Meets (1 ∷ (2 ∷ [])) refl (record { collect = false; is = refl; member = refl; nth = refl }) in
    let a : Live row row_arrive = live_next row upto_arrive (refl, (refl, (refl, tt))) 1 refl in
    let l : Live row row_leave = live_next row upto_leave (refl, (refl, (refl, (refl, (refl, tt))))) 2 refl in
    further (further (edge (live_next row upto_get (refl, (refl, tt)) 1 refl) (Follows refl refl) a) meets l) (Follows refl refl)
    (live_next row upto_now (refl, (refl, (refl, (refl, (refl, (refl, tt)))))) 2 refl)

sure : ComesSurely row 0 7 1 row_get_now
unfolding row keeping kinds node_of kind_at event_count
sure = record {
  delivery = ByGet row_get;
  delivers = record {
    brings_it = record { away = record { keeps = refl; is = refl; put = 0; committed = refl; admitted = refl }; there = refl };
    all_live = λ z e. subst (λ v. Live row v) (sym e) (live_next row upto_get (refl, (refl, tt)) 1 refl);
  };
  all_before = λ z e. subst (λ v. Before row v row_get_now) (sym e) through;
}

pub row_is_settled : IsSettled row
unfolding row keeping kinds node_of kind_at event_count
row_is_settled = record {
  no_rewrite = λ x y r. (let l = r.later in let z = put_first y.proc y.at r.key r.later_scope r.later_is in omega (arith, l, z));
  no_node_race = λ x y key r.
      (let o = the_only y.proc y.at x.proc key r.near.is in
      let apart : same_node row 0 2 ≡ true = subst (λ v. same_node row v 2 ≡ true) o.2 (subst (λ v. same_node row x.proc v ≡ true) o.0 r.node) in
      true≢false (sym apart));
  no_delivery_race = λ x y owner key r.
      (let o = the_only y.proc y.at owner key r.is in
      let there : y ≡ row_get_now = λ t. record { proc = o.0 t; at = o.1 t } in
      let s : ComesSurely row 0 7 (node_of row y.proc) y = subst (λ v. ComesSurely row 0 7 (node_of row v.proc) v) (sym there) sure in
      r.not_sure (subst (λ v. ComesSurely row v key (node_of row y.proc) y) (sym o.2) (subst (λ v. ComesSurely row 0 v (node_of row y.proc) y) (sym o.3) s)));
  no_name_race = λ x y name r. no_writer x.proc x.at name x r.x_writes;
}
