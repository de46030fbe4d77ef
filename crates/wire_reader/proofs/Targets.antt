-- What a set names, by number, is what is in it.
use Rattle.std.proofs.Common.{◌≡◌, ◌∙◌, ap, sym, subst, refl, ℕ, ◌+◌, ◌<◌, List, [], ◌∷◌, ◌++◌, Bool, true, false, length, map, take, get_or, true≢false, if◌then◌else◌}
use Rattle.std.specs.Prelude.{◌||◌, ◌&&◌, ◌==◌}
use Rattle.std.specs.List.{list_any, list_all}
use borrow.Author.Tests.{eqb-true, eq-eqb}
use Rattle.std.proofs.lemmas.List.Folds.{list_any-append}
use Rattle.std.proofs.Math.Bool.{or-false}
use Rattle.std.proofs.lemmas.List.{take_more}
use Rattle.wire_lines.specs.Said as said
use Rattle.wire_reader.specs.FirstPass.{Started, Declared}
use Rattle.wire_reader.specs.Reads.{names_it, is_in, has_proc, is_declared_item, is_declared_set, set_members}
use Rattle.wire_reader.specs.Targets.{is_target, is_any_target, is_declared_target, named_in, target_by}
use Rattle.wire_reader.specs.declared.members.Target.{Target}
use Rattle.wire_reader.specs.declared.members.Target.TheVariants.{One, Every}
use Rattle.wire_reader.specs.contracts.members.TargetPartialEq.TheImpl as targets
use Rattle.wire_reader.proofs.Places.{places_same}
use Rattle.wire_reader.proofs.Seen.{number_below}

item_named : (d : Declared) (i : said.Item) (p : Started) → is_target (target_by d i) p ≡ names_it d i p
item_named d (said.One job rank) p = refl
item_named d (said.Every job) p = refl

item_declared : (d : Declared) (i : said.Item) → is_declared_target d (target_by d i) ≡ is_declared_item d i
unfolding has_proc
item_declared d (said.One job rank) = refl
item_declared d (said.Every job) = number_below d.jobs job

-- what items name is declared where the items are
items_declared : (d : Declared) (items : List said.Item) → list_all (is_declared_target d) (map (target_by d) items) ≡ list_all (is_declared_item d) items
items_declared d [] = refl
items_declared d (i ∷ items) = ap (λ b. b && list_all (is_declared_target d) (map (target_by d) items)) (item_declared d i) ∙ ap (λ b. is_declared_item d i && b) (items_declared d items)

-- and is a process where one of the items names it
items_named : (d : Declared) (items : List said.Item) (p : Started) → is_any_target (map (target_by d) items) p ≡ list_any (λ i. names_it d i p) items
items_named d [] p = refl
items_named d (i ∷ items) p = ap (λ b. b || is_any_target (map (target_by d) items) p) (item_named d i p) ∙ ap (λ b. names_it d i p || b) (items_named d items p)

-- what the items of a set name
module _ (d : Declared) (set : said.Set) (items : List said.Item) (ts : List Target) (is : set ≡ said.Listed items) (named : ts ≡ map (target_by d) items) where
  pub set_declared : list_all (is_declared_target d) ts ≡ is_declared_set d set
  set_declared = ap (list_all (is_declared_target d)) named ∙ items_declared d items ∙ ap (is_declared_set d) (sym is)

  pub set_named : (job : ℕ) (p : Started) → is_any_target ts p ≡ is_in d job set p
  set_named job p = ap (λ l. is_any_target l p) named ∙ items_named d items p ∙ ap (λ s. is_in d job s p) (sym is)

  pub listed_members : (job : ℕ) → named_in d ts ≡ set_members d job set
  listed_members job = places_same (is_any_target ts) (is_in d job set) (set_named job) 0 d.processes

-- the members of the caller's job
pub own_members : (d : Declared) (job : ℕ) (set : said.Set) → set ≡ said.Own → named_in d (Every job ∷ []) ≡ set_members d job set
own_members d job set is = places_same (is_any_target (Every job ∷ [])) (λ p. p.job == job) (λ p. or-false (p.job == job)) 0 d.processes ∙ ap (set_members d job) (sym is)

-- what names the same processes has the same members
pub same_members : (d : Declared) (ts us : List Target) → ((p : Started) → is_any_target ts p ≡ is_any_target us p) → named_in d ts ≡ named_in d us
same_members d ts us same = places_same (is_any_target ts) (is_any_target us) same 0 d.processes

abbrev pub same_target : Target → Target → Bool
same_target = targets.ghosts.eq

pub same_is : (s t : Target) → same_target s t ≡ true → s ≡ t
same_is (One j r) (One k q) e = both (j == k) refl e
  where
    both : (b : Bool) → (j == k) ≡ b → (b && (r == q)) ≡ true → One j r ≡ One k q
    both true f g = let job = eqb-true j k f in let rank = eqb-true r q g in cc
    both false f g = absurd (true≢false (sym g))
same_is (One j r) (Every k) e = absurd (true≢false (sym e))
same_is (Every j) (One k q) e = absurd (true≢false (sym e))
same_is (Every j) (Every k) e = ap Every (eqb-true j k e)

pub same_self : (t : Target) → same_target t t ≡ true
same_self (One j r) = rw (eq-eqb j j refl, eq-eqb r r refl) refl
same_self (Every j) = eq-eqb j j refl

-- what is there names nothing new
there_names : (ts : List Target) (t : Target) (p : Started) → list_any (same_target t) ts ≡ true → is_any_target ts p ≡ (is_any_target ts p || is_target t p)
there_names [] t p h = absurd (true≢false (sym h))
there_names (u ∷ us) t p h = first (same_target t u) refl h (there_names us t p)
  where
    again : (a b : Bool) → (a || b) ≡ ((a || b) || a)
    again true b = refl
    again false b = sym (or-false b)

    inner : (a b c : Bool) → b ≡ (b || c) → (a || b) ≡ ((a || b) || c)
    inner true b c e = refl
    inner false b c e = e

    first : (s : Bool) → same_target t u ≡ s → (s || list_any (same_target t) us) ≡ true → (list_any (same_target t) us ≡ true → is_any_target us p ≡ (is_any_target us p || is_target t p))
        → is_any_target (u ∷ us) p ≡ (is_any_target (u ∷ us) p || is_target t p)
    first true e k rest = subst (λ x. (is_target u p || is_any_target us p) ≡ ((is_target u p || is_any_target us p) || is_target x p)) (sym (same_is t u e))
        (again (is_target u p) (is_any_target us p))
    first false e k rest = inner (is_target u p) (is_any_target us p) (is_target t p) (rest k)

-- one target more, kept once
pub kept_on : (kept new ts : List Target) (t : Target) (p : Started) → new ≡ (if list_any (same_target t) kept then kept else kept ++ t ∷ []) → is_any_target kept p ≡ is_any_target ts p
    → is_any_target new p ≡ is_any_target (ts ++ t ∷ []) p
kept_on kept new ts t p is same =
    ap (λ l. is_any_target l p) is
    ∙ elim (list_any (same_target t) kept) as (λ b. list_any (same_target t) kept ≡ b → is_any_target (if b then kept else kept ++ t ∷ []) p ≡ (is_any_target kept p || is_target t p)) [
      | true ↦ λ e. there_names kept t p e
      | false ↦ λ e. list_any-append (λ u. is_target u p) kept (t ∷ []) ∙ ap (λ b. is_any_target kept p || b) (or-false (is_target t p))
    ] refl
    ∙ ap (λ b. b || is_target t p) same
    ∙ sym (list_any-append (λ u. is_target u p) ts (t ∷ []) ∙ ap (λ b. is_any_target ts p || b) (or-false (is_target t p)))

pub kept_next : (kept new ts : List Target) (i : ℕ) (d : Target) (p : Started) → i < length ts → new ≡ (if list_any (same_target (get_or ts i d)) kept then kept else kept ++ get_or ts i d ∷ []) →
    is_any_target kept p ≡ is_any_target (take i ts) p
    → is_any_target new p ≡ is_any_target (take (i + 1) ts) p
kept_next kept new ts i d p lt is same =
    kept_on kept new (take i ts) (get_or ts i d) p is same ∙ ap (λ l. is_any_target l p) (sym (take_more ts i d lt))
