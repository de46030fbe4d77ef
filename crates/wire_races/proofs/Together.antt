-- The pieces of the search together are the whole search.
use Rattle.std.proofs.Common.{◌≡◌, ◌/◌, sym, subst, ℕ, ◌<◌, List, [], ◌∷◌, ◌++◌, length, map, Some, Ok, Err, inl, inr, arith, refl}
use Rattle.std.specs.Prelude.{slice_get, Vec, Result, MatchResult, IfOk}
use Rattle.std.specs.declared.alloc.Global.{Global}
use Rattle.std.specs.List.{AllZip, Contains, range_with_len}
use Rattle.std.specs.declared.alloc.AllocError.{AllocError}
use Rattle.std.proofs.lemmas.Option.{slice_get_within, slice_get_cases}
use Rattle.wire_runs.specs.Plan.{Plan}
use Rattle.wire_scripts.specs.Scripts.{Scripts, IsSound}
use Rattle.wire_scripts.specs.Planned.{plan_of}
use Rattle.wire_runs.specs.Findings.{Finding, IsFound}
use Rattle.wire_findings.specs.declared.finding.Finding.{Finding as Told}
use Rattle.wire_findings.specs.Collected.{TellsFinding, AreFound}
use Rattle.wire_races.specs.FindingKinds.{AllAdded, IsOfKey, IsOfName}
use Rattle.wire_races.specs.Adding.{AddsFindings, OfKind}
use Rattle.wire_races.specs.KeyRaces.{IsKeyRaceIn, AreKeyPieces}
use Rattle.wire_races.specs.NameRaces.{IsRaceOn}
use Rattle.wire_races.specs.SweepRaces.{IsSweepRace}
use Rattle.wire_races.specs.Pieces.{IsPiece, ArePieces, IsInSome, AreAllFound}
use Rattle.wire_runs.proofs.Lists.{slice_get_push_cases, slice_get_push_kept, slice_get_push_last}
use Rattle.wire_races.proofs.Growing.{adds_none, adds_both, adds_same, all_added}
use Rattle.wire_races.proofs.Names.{named_within}
use Rattle.wire_races.proofs.NameRaces.{low_calls, on_name, race_on}
use Rattle.wire_races.proofs.Gathered.{gathered}
use Rattle.wire_races.proofs.Deliveries.{race_below, race_told, race_by}

-- what is added to nothing is a piece
pub piece_of : (plan : Plan) (those : Finding → Type 0) (old new : List Told) → old ≡ [] → AddsFindings plan old new those → IsPiece plan those new
piece_of plan those old new empty h = record {
  found = h.found;
  told = λ f. (
    (λ t. elim (h.only f t) [
      | inl was ↦ absurd (subst (λ l. TellsFinding plan l f) empty was)
      | inr it ↦ it
    ]),
    (λ t. h.all f t),
  );
}

-- one piece more
pub some_more : (plan : Plan) (done : List (List Told)) (piece : List Told) (old now new : List Told) → AddsFindings plan old now (IsInSome plan done) → AddsFindings plan now new (TellsFinding plan piece) →
    AddsFindings plan old new (IsInSome plan (done ++ piece ∷ []))
some_more plan done piece old now new =
    adds_both plan old now new (IsInSome plan done) (TellsFinding plan piece) (IsInSome plan (done ++ piece ∷ []))
    (λ f t. (t.0, t.1, slice_get_push_kept done piece t.0 t.1 t.2, t.3))
    (λ f t. (length done, piece, slice_get_push_last done piece, t))
    (λ f t. elim (slice_get_push_cases done piece t.0 t.1 t.2) [
      | inl there ↦ inl (t.0, t.1, there, t.3)
      | inr last ↦ inr (subst (λ (p : List Told). TellsFinding plan p f) (sym last.1) t.3)
    ])

-- none at all
pub none_more : (plan : Plan) (found : List Told) → AreFound plan found → AddsFindings plan found found (IsInSome plan [])
none_more plan found are = adds_none plan found (IsInSome plan []) are (λ f t. let lt = slice_get_within {A = List Told} [] t.0 t.1 t.2 in omega (arith, lt))

pub all_found : (plan : Plan) (n : ℕ) (those : ℕ → Finding → Type 0) (pieces : List (List Told)) → ArePieces plan n those pieces → AreAllFound plan pieces
all_found plan n those pieces are = λ k piece is. (are.each k piece is).found

-- a finding of the piece of number k is in some piece
in_some : (plan : Plan) (n : ℕ) (those : ℕ → Finding → Type 0) (pieces : List (List Told)) → ArePieces plan n those pieces → (k : ℕ) (f : Finding) → k < n → those k f → IsInSome plan pieces f
in_some plan n those pieces are k f lt t =
    let count = are.count in
    elim (slice_get_cases pieces k).1 [
      | inl at ↦ (k, at.0, at.2, ((are.each k at.0 at.2).told f).1 t)
      | inr past ↦ let ge = past.0 in absurd (omega (arith, ge, lt, count))
    ]

-- the pieces tell all findings of a kind
pub pieces_added : (plan : Plan) (n : ℕ) (those : ℕ → Finding → Type 0) (kind : Finding → Type 0) (pieces : List (List Told)) (old new : List Told)
    → ((k : ℕ) (f : Finding) → those k f → OfKind plan kind f)
    → ((f : Finding) → OfKind plan kind f → (k : ℕ) × (k < n) × those k f)
    → ArePieces plan n those pieces → AddsFindings plan old new (IsInSome plan pieces) → AllAdded plan kind old new
pieces_added plan n those kind pieces old new there back are h =
    all_added plan kind old new
    (adds_same plan old new (IsInSome plan pieces) (OfKind plan kind)
    (λ f t. there t.0 f (((are.each t.0 t.1 t.2).told f).0 t.3))
    (λ f o. let by = back f o in in_some plan n those pieces are by.0 f by.1 by.2)
    h)

-- the pieces of the processes tell all races on keys
pub key_pieces_added : (plan : Plan) (pieces : List (List Told)) (old new : List Told) → AreKeyPieces plan pieces → AddsFindings plan old new (IsInSome plan pieces) → AllAdded plan IsOfKey old new
key_pieces_added plan pieces old new are =
    pieces_added plan are.count (IsKeyRaceIn plan are.size) IsOfKey pieces old new
    (λ k f t. race_told plan t.0 f t.1)
    (λ f o.
    let by = race_by plan f o in
    (by.0.proc / are.size, are.enough by.0.proc (race_below plan by.0 f by.1), (by.0, by.1, refl)))
    are.are

-- the pieces of the names, and then the races between sweeps, tell all races on names
pub names_and_sweeps : (s : Scripts) → IsSound s → (pieces : List (List Told)) (old now new : List Told) → ArePieces (plan_of s) (length s.names) (IsRaceOn (plan_of s)) pieces →
    AddsFindings (plan_of s) old now (IsInSome (plan_of s) pieces) → AddsFindings (plan_of s) now new (IsSweepRace (plan_of s)) → AllAdded (plan_of s) IsOfName old new
names_and_sweeps s sound pieces old now new are first more =
    let plan = plan_of s in
    all_added plan IsOfName old new
    (adds_both plan old now new (IsInSome plan pieces) (IsSweepRace plan) (OfKind plan IsOfName)
    (λ f t. let r = ((are.each t.0 t.1 t.2).told f).0 t.3 in (on_name plan t.0 f r, r.found))
    (λ f r. ((r.1.x, r.1.y, r.1.name, r.1.is), r.1.found))
    (λ f o. elim (race_on plan f o.0 o.1) [
      | inl w ↦ (
          let lt = named_within s w.0 w.1.x sound (low_calls plan w.1.x w.1.y w.0 (subst (IsFound plan) w.1.is w.1.found)) in
          inl (in_some plan (length s.names) (IsRaceOn plan) pieces are w.0 f lt w.1))
      | inr r ↦ inr r
    ])
    first more)

module _ (plan : Plan) (n : ℕ) (those : ℕ → Finding → Type 0) where
  as_pieces : (r : Result (Vec (List Told) Global) AllocError)
      → IfOk r (λ v. (length v.items ≡ n) × ((k : ℕ) (piece : List Told) → slice_get v.items k ≡ Some piece → IsPiece plan (those k) piece))
      → IfOk r (λ v. ArePieces plan n those v.items)
  as_pieces (Err e) h = tt
  as_pieces (Ok v) h = record { count = h.0; each = h.1 }

  -- what the threads give, whatever pieces they took, where no call failed
  pub are_pieces : (r : Result (Vec (List Told) Global) AllocError) (xs : List (Result (List Told) AllocError)) → AllZip (λ k x. IfOk x (IsPiece plan (those k))) (range_with_len 0 n) xs
      → MatchResult r (λ v. (ys : List (List Told)) × (xs ≡ map Ok ys) × (v.items ≡ ys)) (λ e. Contains xs (Err e))
      → IfOk r (λ v. ArePieces plan n those v.items)
  are_pieces r xs h m = as_pieces r (gathered AllocError (λ k. IsPiece plan (those k)) n r xs h m)
