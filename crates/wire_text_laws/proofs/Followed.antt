-- Following the lines of a run's steps writes the report of this run.
use Rattle.std.proofs.Common.{◌≡◌, ◌∙◌, ap, ap₂, sym, subst, Bool, ℕ, zero, suc, List, [], ◌∷◌, true, true≢false, take, Option, Some, Result, Ok, Err, ◌⊎◌, refl, inl, inr}
use Rattle.std.specs.Prelude.{slice_get}
use Rattle.std.specs.Io.KnownBytes.{Appends}
use Rattle.wire_types.specs.declared.Fault.{Fault}
use Rattle.wire_types.specs.declared.Fault.TheVariants.{Memory, Read}
use Rattle.wire_runs.specs.Plan.{Plan}
use Rattle.wire_runs.specs.State.{State, start}
use Rattle.wire_runs.specs.Step.{is_enabled, step, IsInterleaving, run_from, run}
use Rattle.wire_scripts.specs.Scripts.{Scripts}
use Rattle.wire_scripts.specs.Planned.{plan_of}
use Rattle.wire_reader.specs.declared.Size.{Size}
use Rattle.wire_reader.specs.Reads.{Reads}
use Rattle.wire_reader.proofs.Once.{reads_once}
use Rattle.wire_reader.specs.Order.{order_read}
use Rattle.wire_command.specs.Read.{ReadAs, Refuses}
use Rattle.wire_commands.specs.Follow.{OrdersAs, RefusesOrder, StopsInOrder, WritesFollowed, StopsBefore, report_after}
use Rattle.wire_text_laws.specs.Again.{steps_text, ReadsAsOrder}
use Rattle.wire_text_laws.specs.Following.{OrderIsFollowed}
use Rattle.wire_text_laws.proofs.Steps.{order_reads_back}

-- each step of an interleaving is enabled when it comes
enabled_at : (plan : Plan) (s : State) (w : List ℕ) (n p : ℕ) → IsInterleaving plan s w → slice_get w n ≡ Some p → is_enabled plan (run_from plan s (take n w)) p ≡ true
enabled_at plan s [] n p h at = absurd (cc)
enabled_at plan s (q ∷ w) zero p h at = let same : q ≡ p = cc in subst (λ x. is_enabled plan s x ≡ true) same h.0
enabled_at plan s (q ∷ w) (suc n) p h at = enabled_at plan (step plan s q) w n p h.1 at

same_ok : (s t : Scripts) (r : Result Scripts Fault) → r ≡ Ok s → r ≡ Ok t → s ≡ t
same_ok s t r a b = cc

module _ (size : Size) (bytes : List ℕ) (s : Scripts) (steps : List ℕ) (read : Reads size bytes (Ok s)) (run_of : IsInterleaving (plan_of s) start steps)
    (back : ReadsAsOrder size s (steps_text s steps) steps) where
  same_scripts : (t : Scripts) → ReadAs size (Some bytes) t → s ≡ t
  same_scripts t r = same_ok s t (Ok s) refl (reads_once size bytes (Ok s) (Ok t) read (subst (λ b. Reads size b (Ok t)) (sym r.came) r.reads))

  same_order : (t : Scripts) (others : List ℕ) → s ≡ t → OrdersAs size (Some (steps_text s steps)) t others → others ≡ steps
  same_order t others e o = back.only others (ap (λ x. order_read size x (steps_text s steps)) e ∙ ap (order_read size t) o.came ∙ o.reads)

  writes : (json : Bool) (old new : Option (List ℕ)) → WritesFollowed size json (Some bytes) (Some (steps_text s steps)) old new → Appends old new (report_after json s steps)
  writes json old new w =
      let e = same_scripts w.scripts w.ordered.read in
      let f = same_order w.scripts w.steps e w.ordered.order in
      subst (λ x. Appends old new x) (ap₂ (report_after json) (sym e) f) w.wrote

  no_refusal : (fault : Fault) → Refuses size (Some bytes) fault → ⊥
  no_refusal fault r = let is : Ok s ≡ Err fault = reads_once size bytes (Ok s) (Err fault) read (subst (λ b. Reads size b (Err fault)) (sym r.came) r.reads) in cc

  no_bad_order : (fault : Fault) → RefusesOrder size (Some bytes) (Some (steps_text s steps)) fault → ⊥
  no_bad_order fault r =
      let e = same_scripts r.scripts r.read in
      let is : Ok steps ≡ Err fault = sym back.reads ∙ ap (λ x. order_read size x (steps_text s steps)) e ∙ ap (order_read size r.scripts) r.refuses.came ∙ r.refuses.reads in cc

  no_stop : (fault : Fault) → StopsInOrder size (Some bytes) (Some (steps_text s steps)) fault → ⊥
  no_stop fault r =
      let e = same_scripts r.scripts r.ordered.read in
      let f = same_order r.scripts r.steps e r.ordered.order in
      let n = r.stops.n in
      let p = r.stops.p in
      let at : slice_get steps n ≡ Some p = ap (λ l. slice_get l n) (sym f) ∙ r.stops.next in
      let same : is_enabled (plan_of s) (run (plan_of s) (take n steps)) p ≡ is_enabled (plan_of r.scripts) (run (plan_of r.scripts) (take n r.steps)) p =
      ap₂ (λ x y. is_enabled (plan_of x) (run (plan_of x) (take n y)) p) e (sym f) in
      true≢false (sym (enabled_at (plan_of s) start steps n p run_of at) ∙ same ∙ r.stops.not_enabled)

  stops : (fault : Fault) → StopsBefore size (Some bytes) (Some (steps_text s steps)) fault → (fault ≡ Memory) ⊎ (fault ≡ Read)
  stops fault (inl memory) = inl memory
  stops fault (inr (inl failed)) = inr failed
  stops fault (inr (inr (inl refuses))) = absurd (no_refusal fault refuses)
  stops fault (inr (inr (inr (inl refuses)))) = absurd (no_bad_order fault refuses)
  stops fault (inr (inr (inr (inr late)))) = absurd (no_stop fault late)

pub order_is_followed : OrderIsFollowed
order_is_followed size bytes s steps read run_of fits =
    let back = order_reads_back size bytes s steps read run_of fits in
    record { writes = writes size bytes s steps read run_of back; stops = stops size bytes s steps read run_of back }
