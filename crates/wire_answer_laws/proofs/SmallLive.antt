-- A live event of an instance of any size, but the end of a fence: one of its line is live in a small instance.
use Rattle.std.proofs.Common.{◌≡◌, ◌∙◌, ap, sym, subst, ℕ, zero, suc, ◌<◌, ◌≤◌, length, false, Some, inl, inr, arith}
use Rattle.std.specs.Prelude.{slice_get}
use Rattle.wire_runs.specs.Plan.{Event, Kind, kind}
use Rattle.wire_runs.specs.Order.{Live}
use Rattle.wire_runs.specs.Embeddings.{Renaming, image_kind}
use Rattle.wire_runs.specs.Patterns.{Pattern, Coding, Cast, group, instance_of, IsLawful, IsCastOf}
use Rattle.wire_runs.specs.Restrictions.{restricted, removal, CanGo}
use Rattle.wire_runs.proofs.EmbeddedOrder.{live_back}
use Rattle.wire_runs.proofs.FewerFindings.{fourth, mark_at}
use Rattle.wire_runs.proofs.Images.{event_back}
use Rattle.wire_runs.proofs.RestrictedOnce.{plays_role}
use Rattle.wire_runs.proofs.RestrictedWhole.{restrictions_embed}
use Rattle.wire_runs.proofs.SmallInstances.{without_length}
use Rattle.wire_runs.proofs.TurnMarks.{is_image}
use Rattle.wire_runs.proofs.WholeSets.{rises_group, group_member}
use Rattle.wire_pattern_laws.specs.Ordered.{HasRolesInOrder, HasLeast, HasMost, AllowThree, SmallOnesAreSettled}
use Rattle.wire_pattern_laws.specs.Lines.{IsOfLine}
use Rattle.wire_pattern_laws.proofs.SmallOrdered.{restricted_order, look, fewer_cast, enough_left}
use Rattle.wire_pattern_laws.proofs.KeptLines.{line_left}
use Rattle.wire_answer_laws.proofs.Fences.{is_leave, image_blind}

-- in an instance an event of line number n of the role, that leaves no fence, is live
pub record LiveIn (pattern : Pattern) (coding : Coding) (bound : ℕ) (least : ℕ → ℕ) (role n : ℕ) (cast : Cast) : Type 0 where
  pub cast_is : IsCastOf pattern cast
  pub in_order : HasRolesInOrder bound cast
  pub has_least : HasLeast bound least cast
  pub event : Event
  pub of_line : IsOfLine pattern cast event role n
  pub k : Kind
  pub is : kind (instance_of pattern coding cast) event ≡ Some k
  pub stays : is_leave k ≡ false
  pub is_live : Live (instance_of pattern coding cast) event

-- so it is in a small one
pub record HasLive (pattern : Pattern) (coding : Coding) (bound : ℕ) (least most : ℕ → ℕ) (role n : ℕ) : Type 0 where
  pub cast : Cast
  pub has_most : HasMost bound most cast
  pub there : LiveIn pattern coding bound least role n cast

stays_back : (to : Renaming) (own k : Kind) → image_kind to own ≡ k → is_leave k ≡ false → is_leave own ≡ false
stays_back to own k same stays = sym (image_blind to own) ∙ ap is_leave same ∙ stays

-- one of the role that an event doesn't name
spare_of : (pattern : Pattern) (cast : Cast) (role : ℕ) → IsLawful pattern → IsCastOf pattern cast → 4 ≤ length (group role cast.roles) → (a b : ℕ)
    → (r : ℕ) × CanGo pattern cast r role × (r ≡ a → ⊥) × (r ≡ b → ⊥)
spare_of pattern cast role lawful cast_is four a b =
    let w = fourth (group role cast.roles) (rises_group role cast.roles) four a b b in
    (w.0, record { lawful = lawful; cast_is = cast_is; is = plays_role (slice_get cast.roles w.0) role (sym (group_member role cast.roles w.0) ∙ w.1); four = four }, w.2, w.3)

module _ (pattern : Pattern) (coding : Coding) (bound : ℕ) (least most : ℕ → ℕ) (lawful : IsLawful pattern) (allow : AllowThree bound least most)
    (small : SmallOnesAreSettled pattern coding bound least most) (role n : ℕ) where
  abbrev In : Cast → Type 0
  In cast = LiveIn pattern coding bound least role n cast

  -- one with one rank fewer
  fewer : (cast : Cast) (other : ℕ) → In cast → other < bound → most other < length (group other cast.roles)
      → (r : ℕ) × (slice_get cast.roles r ≡ Some other) × In (restricted r cast)
  fewer cast other f lt more =
      let cut = (allow other lt).0 in
      let m = mark_at pattern coding cast f.event.proc f.event.at f.k f.is in
      let w = spare_of pattern cast other lawful f.cast_is (omega (arith, cut, more)) f.event.proc m.0 in
      let r = w.0 in
      let can : CanGo pattern cast r other = w.1 in
      let i = is_image pattern coding cast r other can f.event m.0 m.1 (λ q. w.2 (sym q)) (λ q. w.3 (sym q)) in
      let whole = instance_of pattern coding cast in
      let part = instance_of pattern coding (restricted r cast) in
      let to = removal pattern coding cast r other in
      let emb = restrictions_embed pattern coding cast r other can in
      let b = event_back to part whole emb i.0 f.k (ap (kind whole) i.1 ∙ f.is) in (
        r,
        can.is,
        record {
          cast_is = fewer_cast pattern coding bound least most lawful allow small cast r other can;
          in_order = restricted_order bound r cast f.in_order;
          has_least = enough_left pattern coding bound least most lawful allow small cast r other can.is lt more f.has_least;
          event = i.0;
          of_line = line_left pattern coding cast r other can i.0 role n (subst (λ v. IsOfLine pattern cast v role n) (sym i.1) f.of_line);
          k = b.0;
          is = b.1;
          stays = stays_back to b.0 f.k b.2 f.stays;
          is_live = live_back to part whole emb i.0 (subst (Live whole) (sym i.1) f.is_live);
        },
      )

  pub shrinks : (size : ℕ) (cast : Cast) → length cast.roles ≤ size → In cast → HasLive pattern coding bound least most role n
  shrinks zero cast le f = elim (look pattern coding bound least most lawful allow small cast bound (omega arith)) [
    | inr rest ↦ record { cast = cast; has_most = rest; there = f }
    | inl more ↦ absurd (let w = fewer cast more.0 f more.1 more.2 in let shorter = without_length w.0 more.0 cast.roles w.1 in omega (arith, shorter, le))
  ]
  shrinks (suc size) cast le f = elim (look pattern coding bound least most lawful allow small cast bound (omega arith)) [
    | inr rest ↦ record { cast = cast; has_most = rest; there = f }
    | inl more ↦ (
        let w = fewer cast more.0 f more.1 more.2 in
        let shorter = without_length w.0 more.0 cast.roles w.1 in
        shrinks size (restricted w.0 cast) (omega (arith, shorter, le)) w.2)
  ]
