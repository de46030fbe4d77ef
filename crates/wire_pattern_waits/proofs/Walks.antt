-- What a walk over calls or processes has added.
use Rattle.std.proofs.Common.{◌≡◌, ◌∙◌, ap, sym, refl, ℕ, ◌+◌, ◌-◌, ◌<◌, ◌≤◌, ◌^◌, List, [], ◌∷◌, ◌++◌, false, length, drop, append-nil, add-one, Some, get_or, Vec, Global, arith}
use Rattle.std.specs.List.{range_with_len, list_any}
use Rattle.std.proofs.lemmas.Bool.{true≢false}
use Rattle.std.proofs.lemmas.List.{drop_all, get_or-map, length-map}
use Rattle.std.proofs.lemmas.Option.{slice_get_within, get_or_from_slice_get}
use Rattle.wire_types.specs.Texts.{lists_of}
use Rattle.wire_types.specs.declared.CallEnd.{CallEnd}
use Rattle.wire_types.specs.declared.CallEnd.TheVariants.{Replied, Waiting, Ready, Unreached}
use Rattle.wire_pattern.specs.Pattern.{Pattern}
use Rattle.std.specs.Prelude.{slice_get}
use Rattle.wire_pattern.specs.Planned.{steps_in}
use Rattle.wire_pattern.specs.Instances.{Cast, IsCast, cast_of}
use Rattle.wire_instances.proofs.Ranges.{opened}
use Rattle.wire_instances.proofs.Found.{few_processes}
use Rattle.wire_instances.proofs.Texts.{moved, opened_list}
use Rattle.wire_pattern_waits.specs.declared.stops.Stop.{Stop}
use Rattle.wire_pattern_waits.specs.Places.{steps_places}
use Rattle.wire_pattern_waits.specs.Stops.{ends_waiting, process_stops, stops_from}

pub number_step : (n end : ℕ) (old now all : List ℕ) → n < end → now ≡ old ++ n ∷ []
    → old ++ range_with_len n (end - n) ≡ all → now ++ range_with_len (n + 1) (end - (n + 1)) ≡ all
number_step n end old now all h more inv =
    moved old now (n ∷ []) (range_with_len (n + 1) (end - (n + 1))) _ all more (opened n end h) inv

-- where no line is left, no stop is
no_lines : (role : ℕ) (row : List CallEnd) → process_stops role row [] ≡ []
no_lines role [] = refl
no_lines role (end ∷ ends) = refl

pub lines_end : (role n : ℕ) (row : List CallEnd) (places : List ℕ) (out all : List Stop) → length places ≤ n
    → out ++ process_stops role (drop n row) (drop n places) ≡ all → out ≡ all
lines_end role n row places out all past inv =
    sym (ap (λ ls. out ++ process_stops role (drop n row) ls) (drop_all n places past) ∙ ap (λ t. out ++ t) (no_lines role (drop n row)) ∙ append-nil out) ∙ inv

-- a process that waits at no call has no stop
pub none_stopped : (role : ℕ) (row : List CallEnd) (places : List ℕ) → list_any ends_waiting row ≡ false → process_stops role row places ≡ []
none_stopped role [] places h = refl
none_stopped role (end ∷ ends) [] h = refl
none_stopped role (Waiting ∷ ends) (n ∷ places) h = absurd (true≢false h)
none_stopped role (Replied reply ∷ ends) (n ∷ places) h = none_stopped role ends places h
none_stopped role (Ready ∷ ends) (n ∷ places) h = none_stopped role ends places h
none_stopped role (Unreached ∷ ends) (n ∷ places) h = none_stopped role ends places h

pub unstopped : (role : ℕ) (row : List CallEnd) (places : List ℕ) (out : List Stop) → list_any ends_waiting row ≡ false → out ≡ out ++ process_stops role row places
unstopped role row places out h = sym (ap (λ t. out ++ t) (none_stopped role row places h) ∙ append-nil out)

-- where no row is left, no stop is
no_rows : (p : Pattern) (cast : Cast) (v : ℕ) (roles : List ℕ) → stops_from p cast v roles [] ≡ []
no_rows p cast v [] = refl
no_rows p cast v (role ∷ roles) = refl

pub rows_end : (p : Pattern) (cast : Cast) (n : ℕ) (roles : List ℕ) (rows : List (List CallEnd)) (out all : List Stop) → length rows ≤ n
    → out ++ stops_from p cast n (drop n roles) (drop n rows) ≡ all → out ≡ all
rows_end p cast n roles rows out all past inv =
    sym (ap (λ rs. out ++ stops_from p cast n (drop n roles) rs) (drop_all n rows past) ∙ ap (λ t. out ++ t) (no_rows p cast n (drop n roles)) ∙ append-nil out) ∙ inv

-- one process more
pub rows_step : (p : Pattern) (cast : Cast) (n role : ℕ) (roles : List ℕ) (rows : List (Vec CallEnd Global)) (row : Vec CallEnd Global) (out now all : List Stop)
    → n < length roles → role ≡ get_or roles n role → slice_get rows n ≡ Some row
    → now ≡ out ++ process_stops role row.items (steps_places cast n 0 1 (steps_in (slice_get p.roles role)))
    → out ++ stops_from p cast n (drop n roles) (drop n (lists_of rows)) ≡ all
    → now ++ stops_from p cast (n + 1) (drop (n + 1) roles) (drop (n + 1) (lists_of rows)) ≡ all
rows_step p cast n role roles rows row out now all h at of more inv =
    let l = slice_get_within rows n row of in
    moved out now (process_stops role row.items (steps_places cast n 0 1 (steps_in (slice_get p.roles role))))
    (stops_from p cast (n + 1) (drop (n + 1) roles) (drop (n + 1) (lists_of rows))) _ all more
    (ap (λ rs. stops_from p cast n rs (drop n (lists_of rows))) (opened_list roles n role h at)
    ∙ ap (stops_from p cast n (role ∷ drop (n + 1) roles)) (opened_list (lists_of rows) n row.items (omega (arith, l, length-map rows (λ r. r.items)))
    (ap (λ r. r.items) (sym (get_or_from_slice_get rows n row row of)) ∙ sym (get_or-map (λ r. r.items) rows n row row.items l)))
    ∙ ap (λ m. process_stops role row.items (steps_places cast n 0 1 (steps_in (slice_get p.roles role)))
    ++ stops_from p cast m (drop (n + 1) roles) (drop (n + 1) (lists_of rows))) (sym (add-one n))) inv

pub few_roles : (p : Pattern) (cast : Cast) (roles : List ℕ) → IsCast p cast → roles ≡ (cast_of cast).roles → length roles < 2 ^ 31
few_roles p cast roles is e = few_processes cast.sizes roles e is.few
