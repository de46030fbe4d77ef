-- The pieces of the search together are the whole search.
use Rattle.std.proofs.Common.{◌≡◌, sym, subst, ℕ, ◌<◌, List, [], ◌∷◌, ◌++◌, length, map, Some, Ok, Err, inl, inr, arith}
use Rattle.std.specs.Prelude.{slice_get, Vec, Result, MatchResult, IfOk}
use Rattle.std.specs.declared.alloc.Global.{Global}
use Rattle.std.specs.List.{AllZip, Contains, range_with_len}
use Rattle.std.specs.declared.alloc.AllocError.{AllocError}
use Rattle.std.proofs.lemmas.Option.{slice_get_within, slice_get_cases}
use Rattle.wire_runs.specs.Plan.{Plan}
use Rattle.wire_runs.specs.FindingsAnywhere.{PlacementFinding}
use Rattle.wire_runs.proofs.Lists.{slice_get_push_cases, slice_get_push_kept, slice_get_push_last}
use Rattle.wire_races.proofs.Gathered.{gathered}
use Rattle.wire_anywhere.specs.declared.placed.PlacedFinding.{PlacedFinding}
use Rattle.wire_anywhere.specs.Adding.{TellsPlacementFinding, AddsPlacementFindings, IsPiece, ArePieces, IsInSome}
use Rattle.wire_anywhere.proofs.Growing.{adds_none, adds_same, adds_both}

-- what is added to nothing is a piece
pub piece_of : (plan : Plan) (those : PlacementFinding → Type 0) (old new : List PlacedFinding) → old ≡ [] → AddsPlacementFindings plan old new those → IsPiece plan those new
piece_of plan those old new empty h = λ f. (
  (λ t. elim (h.only f t) [
    | inl was ↦ absurd (subst (λ l. TellsPlacementFinding plan l f) empty was)
    | inr it ↦ it
  ]),
  (λ t. h.all f t),
)

-- one piece more
pub some_more : (plan : Plan) (done : List (List PlacedFinding)) (piece : List PlacedFinding) (old now new : List PlacedFinding) → AddsPlacementFindings plan old now (IsInSome plan done) →
    AddsPlacementFindings plan now new (TellsPlacementFinding plan piece) → AddsPlacementFindings plan old new (IsInSome plan (done ++ piece ∷ []))
some_more plan done piece old now new =
    adds_both plan old now new (IsInSome plan done) (TellsPlacementFinding plan piece) (IsInSome plan (done ++ piece ∷ []))
    (λ f t. (t.0, t.1, slice_get_push_kept done piece t.0 t.1 t.2, t.3))
    (λ f t. (length done, piece, slice_get_push_last done piece, t))
    (λ f t. elim (slice_get_push_cases done piece t.0 t.1 t.2) [
      | inl there ↦ inl (t.0, t.1, there, t.3)
      | inr last ↦ inr (subst (λ (p : List PlacedFinding). TellsPlacementFinding plan p f) (sym last.1) t.3)
    ])

-- none at all
pub none_more : (plan : Plan) (found : List PlacedFinding) → AddsPlacementFindings plan found found (IsInSome plan [])
none_more plan found = adds_none plan found (IsInSome plan []) (λ f t. let lt = slice_get_within {A = List PlacedFinding} [] t.0 t.1 t.2 in omega (arith, lt))

-- a finding of the piece of number k is in some piece
in_some : (plan : Plan) (n : ℕ) (those : ℕ → PlacementFinding → Type 0) (pieces : List (List PlacedFinding)) → ArePieces plan n those pieces → (k : ℕ) (f : PlacementFinding) → k < n → those k f →
    IsInSome plan pieces f
in_some plan n those pieces are k f lt t =
    let count = are.count in
    elim (slice_get_cases pieces k).1 [
      | inl at ↦ (k, at.0, at.2, (are.each k at.0 at.2 f).1 t)
      | inr past ↦ let ge = past.0 in absurd (omega (arith, ge, lt, count))
    ]

-- the pieces tell all of these
pub pieces_added : (plan : Plan) (n : ℕ) (those : ℕ → PlacementFinding → Type 0) (all : PlacementFinding → Type 0) (pieces : List (List PlacedFinding)) (old new : List PlacedFinding)
    → ((k : ℕ) (f : PlacementFinding) → those k f → all f)
    → ((f : PlacementFinding) → all f → (k : ℕ) × (k < n) × those k f)
    → ArePieces plan n those pieces → AddsPlacementFindings plan old new (IsInSome plan pieces) → AddsPlacementFindings plan old new all
pieces_added plan n those all pieces old new there back are =
    adds_same plan old new (IsInSome plan pieces) all
    (λ f t. there t.0 f ((are.each t.0 t.1 t.2 f).0 t.3))
    (λ f o. let by = back f o in in_some plan n those pieces are by.0 f by.1 by.2)

module _ (plan : Plan) (n : ℕ) (those : ℕ → PlacementFinding → Type 0) where
  as_pieces : (r : Result (Vec (List PlacedFinding) Global) AllocError)
      → IfOk r (λ v. (length v.items ≡ n) × ((k : ℕ) (piece : List PlacedFinding) → slice_get v.items k ≡ Some piece → IsPiece plan (those k) piece))
      → IfOk r (λ v. ArePieces plan n those v.items)
  as_pieces (Err e) h = tt
  as_pieces (Ok v) h = record { count = h.0; each = h.1 }

  -- what the threads give, whatever pieces they took, where no call failed
  pub are_pieces : (r : Result (Vec (List PlacedFinding) Global) AllocError) (xs : List (Result (List PlacedFinding) AllocError))
      → AllZip (λ k x. IfOk x (IsPiece plan (those k))) (range_with_len 0 n) xs
      → MatchResult r (λ v. (ys : List (List PlacedFinding)) × (xs ≡ map Ok ys) × (v.items ≡ ys)) (λ e. Contains xs (Err e))
      → IfOk r (λ v. ArePieces plan n those v.items)
  are_pieces r xs h m = as_pieces r (gathered AllocError (λ k. IsPiece plan (those k)) n r xs h m)
