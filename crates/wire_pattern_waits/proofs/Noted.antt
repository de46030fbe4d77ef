-- What is noted of an instance are the lines at which its processes stand.
use Rattle.std.proofs.Common.{◌≡◌, ◌∙◌, ap, sym, subst, refl, ℕ, zero, suc, ◌+◌, ◌||◌, List, [], ◌∷◌, ◌++◌, Bool, true, false, Some, ◌⊎◌, inl, inr, ◌↔◌, add-zero, zero-add, arith}
use Rattle.std.specs.Prelude.{slice_get, slice_index_or}
use Rattle.std.proofs.lemmas.Bool.{true≢false, eq-eqb}
use Rattle.std.proofs.lemmas.Option.{same_Some}
use Rattle.std.proofs.lemmas.List.Folds.{list_any-append}
use Rattle.wire_types.specs.declared.CallEnd.{CallEnd}
use Rattle.wire_types.specs.declared.CallEnd.TheVariants.{Replied, Waiting, Ready, Unreached}
use Rattle.wire_scripts.specs.Scripts.{Scripts}
use Rattle.wire_core.specs.EndsAfter.{plain_ends}
use Rattle.wire_pattern.specs.Pattern.{Pattern}
use Rattle.wire_pattern.specs.Planned.{steps_in}
use Rattle.wire_pattern.specs.Instances.{Cast, cast_of}
use Rattle.wire_pattern_waits.specs.declared.stops.Stop.{Stop}
use Rattle.wire_pattern_waits.specs.Places.{steps_places}
use Rattle.wire_pattern_waits.specs.Stops.{StuckAt, is_at, is_noted, process_stops, stops_from}

pub or_either : (a b : Bool) → (a || b) ≡ true → (a ≡ true) ⊎ (b ≡ true)
or_either true b h = inl refl
or_either false b h = inr h

pub or_left : (a b : Bool) → a ≡ true → (a || b) ≡ true
or_left a b h = rw h refl

pub or_right : (a b : Bool) → b ≡ true → (a || b) ≡ true
or_right true b h = refl
or_right false b h = h

-- a process of this role, with these ends of its calls and the numbers of their lines, waits at a call of this line
record StopsHere (own : ℕ) (row : List CallEnd) (places : List ℕ) (role line : ℕ) : Type 0 where
  call : ℕ
  same : own ≡ role
  waits : slice_get row call ≡ Some Waiting
  of_line : slice_get places call ≡ Some line

is_that : (own n role line : ℕ) → (is_at role line (record { role = own; line = n }) || false) ≡ true → (own ≡ role) × (n ≡ line)
is_that own n role line h = grind (arith, h)

here_more : (own : ℕ) (end : CallEnd) (ends : List CallEnd) (n : ℕ) (places : List ℕ) (role line : ℕ) → StopsHere own ends places role line
    → StopsHere own (end ∷ ends) (n ∷ places) role line
here_more own end ends n places role line s = record { call = suc s.call; same = s.same; waits = s.waits; of_line = s.of_line }

here_noted : (own : ℕ) (row : List CallEnd) (places : List ℕ) (role line : ℕ) → is_noted (process_stops own row places) role line ≡ true
    → StopsHere own row places role line
here_noted own [] places role line h = absurd (true≢false (sym h))
here_noted own (end ∷ ends) [] role line h = absurd (true≢false (sym h))
here_noted own (Replied reply ∷ ends) (n ∷ places) role line h = here_more own (Replied reply) ends n places role line (here_noted own ends places role line h)
here_noted own (Ready ∷ ends) (n ∷ places) role line h = here_more own Ready ends n places role line (here_noted own ends places role line h)
here_noted own (Unreached ∷ ends) (n ∷ places) role line h = here_more own Unreached ends n places role line (here_noted own ends places role line h)
here_noted own (Waiting ∷ ends) (n ∷ places) role line h =
    first (is_at role line (record { role = own; line = n })) refl (here_noted own ends places role line) h
  where
    first : (b : Bool) → is_at role line (record { role = own; line = n }) ≡ b
        → (is_noted (process_stops own ends places) role line ≡ true → StopsHere own ends places role line)
        → (b || is_noted (process_stops own ends places) role line) ≡ true → StopsHere own (Waiting ∷ ends) (n ∷ places) role line
    first true is more h =
        let that = is_that own n role line (rw is refl) in
        record { call = 0; same = that.0; waits = refl; of_line = ap Some that.1 }
    first false is more h = here_more own Waiting ends n places role line (more h)

itself : (role line : ℕ) → is_at role line (record { role = role; line = line }) ≡ true
itself role line = rw (eq-eqb role role refl, eq-eqb line line refl) refl

none_there : (n call : ℕ) → slice_get (slice_index_or {A = List CallEnd} [] n []) call ≡ Some Waiting → ⊥
none_there zero call h = cc
none_there (suc n) call h = cc

noted_here : (role : ℕ) (row : List CallEnd) (places : List ℕ) (call line : ℕ) → slice_get row call ≡ Some Waiting → slice_get places call ≡ Some line
    → is_noted (process_stops role row places) role line ≡ true
noted_here role [] places call line waits at = cc
noted_here role (end ∷ ends) [] call line waits at = cc
noted_here role (end ∷ ends) (n ∷ places) zero line waits at =
    subst (λ e. is_noted (process_stops role (e ∷ ends) (n ∷ places)) role line ≡ true) (sym (same_Some end Waiting waits))
    (subst (λ m. is_noted (process_stops role (Waiting ∷ ends) (m ∷ places)) role line ≡ true) (sym (same_Some n line at))
    (or_left (is_at role line (record { role = role; line = line })) (is_noted (process_stops role ends places) role line) (itself role line)))
noted_here role (Waiting ∷ ends) (n ∷ places) (suc call) line waits at =
    or_right (is_at role line (record { role = role; line = n })) (is_noted (process_stops role ends places) role line) (noted_here role ends places call line waits at)
noted_here role (Replied reply ∷ ends) (n ∷ places) (suc call) line waits at = noted_here role ends places call line waits at
noted_here role (Ready ∷ ends) (n ∷ places) (suc call) line waits at = noted_here role ends places call line waits at
noted_here role (Unreached ∷ ends) (n ∷ places) (suc call) line waits at = noted_here role ends places call line waits at

-- one of these processes, of which the first is v, waits at a call of this line
record StopsThere (p : Pattern) (cast : Cast) (v : ℕ) (roles : List ℕ) (rows : List (List CallEnd)) (role line : ℕ) : Type 0 where
  number : ℕ
  call : ℕ
  has_role : slice_get roles number ≡ Some role
  waits : slice_get (slice_index_or rows number []) call ≡ Some Waiting
  of_line : slice_get (steps_places cast (v + number) 0 1 (steps_in (slice_get p.roles role))) call ≡ Some line

abbrev own_places : Pattern → Cast → ℕ → ℕ → List ℕ
own_places p cast v role = steps_places cast v 0 1 (steps_in (slice_get p.roles role))

noted_append : (xs ys : List Stop) (role line : ℕ) → is_noted (xs ++ ys) role line ≡ (is_noted xs role line || is_noted ys role line)
noted_append xs ys role line = list_any-append (is_at role line) xs ys

there_more : (p : Pattern) (cast : Cast) (v r : ℕ) (roles : List ℕ) (row : List CallEnd) (rows : List (List CallEnd)) (role line : ℕ)
    → StopsThere p cast (suc v) roles rows role line → StopsThere p cast v (r ∷ roles) (row ∷ rows) role line
there_more p cast v r roles row rows role line s = record {
  number = suc s.number;
  call = s.call;
  has_role = s.has_role;
  waits = s.waits;
  of_line = ap (λ m. slice_get (own_places p cast m role) s.call) moved_on ∙ s.of_line;
}
  where
    moved_on : v + suc s.number ≡ suc v + s.number
    moved_on = omega arith

there_first : (p : Pattern) (cast : Cast) (v r : ℕ) (roles : List ℕ) (row : List CallEnd) (rows : List (List CallEnd)) (role line : ℕ)
    → StopsHere r row (own_places p cast v r) role line → StopsThere p cast v (r ∷ roles) (row ∷ rows) role line
there_first p cast v r roles row rows role line s = record {
  number = 0;
  call = s.call;
  has_role = ap Some s.same;
  waits = s.waits;
  of_line = ap (λ m. slice_get (own_places p cast m role) s.call) (add-zero v) ∙ ap (λ q. slice_get (own_places p cast v q) s.call) (sym s.same) ∙ s.of_line;
}

there_noted : (p : Pattern) (cast : Cast) (v : ℕ) (roles : List ℕ) (rows : List (List CallEnd)) (role line : ℕ)
    → is_noted (stops_from p cast v roles rows) role line ≡ true → StopsThere p cast v roles rows role line
there_noted p cast v [] rows role line h = absurd (true≢false (sym h))
there_noted p cast v (r ∷ roles) [] role line h = absurd (true≢false (sym h))
there_noted p cast v (r ∷ roles) (row ∷ rows) role line h =
    go (there_noted p cast (suc v) roles rows role line)
    (or_either _ _ (sym (noted_append (process_stops r row (own_places p cast v r)) (stops_from p cast (suc v) roles rows) role line) ∙ h))
  where
    go : (is_noted (stops_from p cast (suc v) roles rows) role line ≡ true → StopsThere p cast (suc v) roles rows role line)
        → (is_noted (process_stops r row (own_places p cast v r)) role line ≡ true) ⊎ (is_noted (stops_from p cast (suc v) roles rows) role line ≡ true)
        → StopsThere p cast v (r ∷ roles) (row ∷ rows) role line
    go more (inl here) = there_first p cast v r roles row rows role line (here_noted r row (own_places p cast v r) role line here)
    go more (inr later) = there_more p cast v r roles row rows role line (more later)

noted_there : (p : Pattern) (cast : Cast) (v : ℕ) (roles : List ℕ) (rows : List (List CallEnd)) (role line n call : ℕ)
    → slice_get roles n ≡ Some role → slice_get (slice_index_or rows n []) call ≡ Some Waiting
    → slice_get (own_places p cast (v + n) role) call ≡ Some line
    → is_noted (stops_from p cast v roles rows) role line ≡ true
noted_there p cast v [] rows role line n call has waits at = cc
noted_there p cast v (r ∷ roles) [] role line n call has waits at = absurd (none_there n call waits)
noted_there p cast v (r ∷ roles) (row ∷ rows) role line zero call has waits at =
    noted_append (process_stops r row (own_places p cast v r)) (stops_from p cast (suc v) roles rows) role line
    ∙ or_left _ (is_noted (stops_from p cast (suc v) roles rows) role line)
    (subst (λ q. is_noted (process_stops q row (own_places p cast v q)) role line ≡ true) (sym (same_Some r role has))
    (noted_here role row (own_places p cast v role) call line waits (ap (λ m. slice_get (own_places p cast m role) call) (sym (add-zero v)) ∙ at)))
noted_there p cast v (r ∷ roles) (row ∷ rows) role line (suc n) call has waits at =
    let on : suc v + n ≡ v + suc n = omega arith in
    noted_append (process_stops r row (own_places p cast v r)) (stops_from p cast (suc v) roles rows) role line
    ∙ or_right (is_noted (process_stops r row (own_places p cast v r)) role line) _
    (noted_there p cast (suc v) roles rows role line n call has waits (ap (λ m. slice_get (own_places p cast m role) call) on ∙ at))

-- in an instance exactly the lines are noted at which a process stands
pub stops_noted : (p : Pattern) (cast : Cast) (scripts : Scripts) (role line : ℕ)
    → (is_noted (stops_from p cast 0 (cast_of cast).roles (plain_ends scripts).rows) role line ≡ true) ↔ StuckAt p cast scripts role line
stops_noted p cast scripts role line = (to, from)
  where
    rows : List (List CallEnd)
    rows = (plain_ends scripts).rows

    to : is_noted (stops_from p cast 0 (cast_of cast).roles rows) role line ≡ true → StuckAt p cast scripts role line
    to h =
        let s = there_noted p cast 0 (cast_of cast).roles rows role line h in
        record {
          process = s.number;
          call = s.call;
          has_role = s.has_role;
          waits = s.waits;
          of_line = ap (λ m. slice_get (own_places p cast m role) s.call) (sym (zero-add s.number)) ∙ s.of_line;
        }

    from : StuckAt p cast scripts role line → is_noted (stops_from p cast 0 (cast_of cast).roles rows) role line ≡ true
    from s =
        noted_there p cast 0 (cast_of cast).roles rows role line s.process s.call s.has_role s.waits
        (ap (λ m. slice_get (own_places p cast m role) s.call) (zero-add s.process) ∙ s.of_line)

pub stops_told : (p : Pattern) (cast : Cast) (scripts : Scripts) (stops : List Stop) (rows : List (List CallEnd)) → stops ≡ stops_from p cast 0 (cast_of cast).roles rows
    → rows ≡ (plain_ends scripts).rows → (role line : ℕ) → (is_noted stops role line ≡ true) ↔ StuckAt p cast scripts role line
stops_told p cast scripts stops rows are by role line =
    let both = stops_noted p cast scripts role line in
    let is : stops ≡ stops_from p cast 0 (cast_of cast).roles (plain_ends scripts).rows = are ∙ ap (stops_from p cast 0 (cast_of cast).roles) by in
    (λ h. both.0 (sym (ap (λ xs. is_noted xs role line) is) ∙ h), λ s. ap (λ xs. is_noted xs role line) is ∙ both.1 s)
