-- A small pattern, and what its instances are.
use Rattle.std.proofs.Common.{◌≡◌, [], ◌∷◌, true, false, refl, sym, arith}
use Rattle.std.proofs.lemmas.Bool.{true≢false}
use Rattle.wire_types.specs.declared.Scope.TheVariants.{Global}
use Rattle.wire_runs.specs.Plan.{kinds, Put, Commit, Arrive, Leave, Get}
use Rattle.wire_runs.specs.Embeddings.{IsEmbedding}
use Rattle.wire_runs.specs.Patterns.{Self, Each, Every, LinePut, LineCommit, LineFence, LineGet, InOrder, Round, Once, Loop, Pattern, Coding, Cast, turns, instance_of}
use Rattle.wire_runs.specs.Restrictions.{restricted, removal, CanGo}
use Rattle.wire_runs.proofs.RestrictedWhole.{restrictions_embed}

-- each worker puts a key for each other, commits, meets all, and gets what each other put for it
abbrev pub exchange : Pattern
exchange = record {
  single = λ role. false;
  script = λ role.
      Loop 0 InOrder (LinePut (record { base = 7; indices = Self ∷ (Each ∷ []) }) Global ∷ [])
      ∷ (Once LineCommit ∷ (Once (LineFence (Every 0 ∷ []) true) ∷ (Loop 0 Round (LineGet Each (record { base = 7; indices = Each ∷ (Self ∷ []) }) ∷ []) ∷ [])));
  keep = true;
}

abbrev pub four : Cast
four = record { roles = 0 ∷ (0 ∷ (0 ∷ (0 ∷ []))); chosen = λ p i e. false; nodes = λ p. p }

-- one of four can go
pub exchange_restricts : CanGo exchange four 1 0
exchange_restricts = record {
  lawful = record { steps = λ role. (((((tt, (tt, tt)), (refl, tt)), tt), λ h. absurd (true≢false (sym h))), (tt, ((tt, tt), (((((tt, (tt, (tt, tt))), (refl, tt)), tt), λ h. absurd (true≢false (sym h))), tt)))) };
  cast_is = record { only = λ role h. absurd (true≢false (sym h)) };
  is = refl;
  four = omega arith;
}

pub exchange_embeds : (coding : Coding) → IsEmbedding (removal exchange coding four 1 0) (instance_of exchange coding (restricted 1 four)) (instance_of exchange coding four)
exchange_embeds coding = restrictions_embed exchange coding four 1 0 exchange_restricts

-- the second of four workers, and of the three that are left
round_of_four : turns four 1 3 0 Round ≡ 2 ∷ (3 ∷ (0 ∷ []))
round_of_four = refl

round_of_three : turns (restricted 1 four) 1 3 0 Round ≡ 2 ∷ (0 ∷ [])
round_of_three = refl

kinds_of_three : (coding : Coding) → kinds (instance_of exchange coding (restricted 1 four)) 1
    ≡ Put (coding.code 7 (1 ∷ (0 ∷ []))) Global ∷ (Put (coding.code 7 (1 ∷ (2 ∷ []))) Global ∷ (Commit ∷ (Arrive (0 ∷ (1 ∷ (2 ∷ []))) true ∷ (Leave (0 ∷ (1 ∷ (2 ∷ [])))
    ∷ (Get 2 (coding.code 7 (2 ∷ (1 ∷ []))) ∷ (Get 0 (coding.code 7 (0 ∷ (1 ∷ []))) ∷ []))))))
unfolding kinds
kinds_of_three coding = refl

set_of_three : (coding : Coding) → (removal exchange coding four 1 0).members (0 ∷ (1 ∷ (2 ∷ []))) ≡ 0 ∷ (1 ∷ (2 ∷ (3 ∷ [])))
set_of_three coding = refl

set_of_two : (coding : Coding) → (removal exchange coding four 1 0).members (0 ∷ (1 ∷ [])) ≡ 0 ∷ (2 ∷ [])
set_of_two coding = refl
