use Rattle.std.proofs.Common.{◌≡◌, ◌∙◌, ℕ, List, [], ◌∷◌, ◌++◌, refl, sym, ap, map, length, replicate, append_assoc}
use Rattle.std.proofs.lemmas.List.{map_push}
use Rattle.std.proofs.lemmas.Result.{on_ok_weaker}
use Rattle.wire_plan.specs.Kinds.{kind_of, kinds_after}
use Rattle.wire_plan.proofs.rows.EventRows.add_call.Goals as goal

no_more : (xs : List ℕ) → xs ≡ xs ++ []
no_more [] = refl
no_more (x ∷ xs) = ap (λ ys. x ∷ ys) (no_more xs)

-- the events of a call are its first and those after it
module _ {K E : Type 0} (f : K → E) where
  kinds_join : (old mid new : List K) (first : K) (after all : List E) → mid ≡ old ++ first ∷ [] → map f new ≡ map f mid ++ after → all ≡ f first ∷ after → map f new ≡ map f old ++ all
  kinds_join old mid new first after all one rest is =
      rest
      ∙ ap (λ ks. map f ks ++ after) one
      ∙ ap (λ es. es ++ after) (map_push f old first)
      ∙ append_assoc (map f old) (f first ∷ []) after
      ∙ ap (λ es. map f old ++ es) (sym is)

  numbers_join : (n : ℕ) (old mid new : List ℕ) (first : K) (after all : List E) → mid ≡ old ++ n ∷ [] → new ≡ mid ++ replicate (length after) n → all ≡ f first ∷ after
      → new ≡ old ++ (replicate (length all) n ++ [])
  numbers_join n old mid new first after all one rest is =
      rest
      ∙ ap (λ ns. ns ++ replicate (length after) n) one
      ∙ append_assoc old (n ∷ []) (replicate (length after) n)
      ∙ ap (λ es. old ++ replicate (length es) n) (sym is)
      ∙ ap (λ ns. old ++ ns) (no_more (replicate (length all) n))

pub returns-clause-kinds : goal.returns-clause-kinds
returns-clause-kinds c =
    let sets = c.args.scripts.now.sets in
    on_ok_weaker c.add_rest.result (λ rest. kinds_join (kind_of sets) c.args.self.now.kinds.items c.add.new.self.kinds.items c.add_rest.new.self.kinds.items c.first_kind.result
    (kinds_after sets c.args.call) _ c.in_ok-add.ensures.kinds (rest sets) c.first_kind.ensures) c.add_rest.ensures.kinds

pub returns-clause-calls : goal.returns-clause-calls
returns-clause-calls c =
    let sets = c.args.scripts.now.sets in
    on_ok_weaker c.add_rest.result (λ rest. numbers_join (kind_of sets) c.args.number c.args.self.now.calls.items c.add.new.self.calls.items c.add_rest.new.self.calls.items c.first_kind.result
    (kinds_after sets c.args.call) _ c.in_ok-add.ensures.calls (rest sets) c.first_kind.ensures) c.add_rest.ensures.calls
