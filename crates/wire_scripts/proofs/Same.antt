-- What `==` says of scripts and of their parts.
use Rattle.std.proofs.Common.{◌≡◌, ◌∙◌, ap, refl, ℕ, List, [], ◌∷◌, Bool, map}
use Rattle.std.specs.Prelude.{◌&&◌}
use Rattle.std.specs.Bool.{Decides}
use Rattle.std.specs.Cmp.{booleans_Decides}
use Rattle.std.specs.Cmp.Lexicographic.{pointwise, pointwise_decides}
use Rattle.std.proofs.lemmas.Slice.Eq.{bytes_eq-Decides}
use Rattle.wire_types.specs.declared.Version.{Version}
use Rattle.wire_types.specs.declared.Version.TheVariants.{One, Two}
use Rattle.wire_scripts.specs.Scripts.{Process, Scripts}
use Rattle.wire_scripts.specs.Same.{same_version, same_texts, same_process, same_scripts}
use Rattle.wire_scripts.proofs.SameCalls.{apart, alike, both, through, number, calls_decide}

pub texts_decide : (a b : List (List ℕ)) → Decides (same_texts a b) (a ≡ b)
texts_decide = pointwise_decides bytes_eq-Decides

pub processes_decide : (p q : Process) → Decides (same_process p q) (p ≡ q)
processes_decide p q =
    through (same_process p q)
    (both _ _ (number p.job q.job) (both _ _ (number p.rank q.rank) (both _ _ (number p.node q.node) (pointwise_decides calls_decide p.calls q.calls))))
    (λ h i. record { job = h.0 i; rank = h.1.0 i; node = h.1.1.0 i; calls = h.1.1.1 i })
    (λ e. (ap (λ (x : Process). x.job) e, (ap (λ (x : Process). x.rank) e, (ap (λ (x : Process). x.node) e, ap (λ (x : Process). x.calls) e))))

versions_decide : (v w : Version) → Decides (same_version v w) (v ≡ w)
versions_decide One One = alike refl
versions_decide One Two = apart (λ e. cc)
versions_decide Two One = apart (λ e. cc)
versions_decide Two Two = alike refl

pub scripts_decide : (a b : Scripts) → Decides (same_scripts a b) (a ≡ b)
scripts_decide a b =
    through (same_scripts a b)
    (both _ _ (versions_decide a.version b.version) (both _ _ (texts_decide a.nodes b.nodes)
    (both _ _ (texts_decide a.jobs b.jobs) (both _ _ (texts_decide a.keys b.keys) (both _ _ (texts_decide a.names b.names)
    (both _ _ (texts_decide a.values b.values) (both _ _ (texts_decide a.sets b.sets)
    (both _ _ (pointwise_decides processes_decide a.processes b.processes) (booleans_Decides a.keeps b.keeps)))))))))
    (λ h i. record {
      version = h.0 i;
      nodes = h.1.0 i;
      jobs = h.1.1.0 i;
      keys = h.1.1.1.0 i;
      names = h.1.1.1.1.0 i;
      values = h.1.1.1.1.1.0 i;
      sets = h.1.1.1.1.1.1.0 i;
      processes = h.1.1.1.1.1.1.1.0 i;
      keeps = h.1.1.1.1.1.1.1.1 i;
    })
    (λ e. (
      ap (λ (x : Scripts). x.version) e,
      (
        ap (λ (x : Scripts). x.nodes) e,
        (
          ap (λ (x : Scripts). x.jobs) e,
          (
            ap (λ (x : Scripts). x.keys) e,
            (
              ap (λ (x : Scripts). x.names) e,
              (
                ap (λ (x : Scripts). x.values) e,
                (ap (λ (x : Scripts). x.sets) e, (ap (λ (x : Scripts). x.processes) e, ap (λ (x : Scripts). x.keeps) e)),
              ),
            ),
          ),
        ),
      ),
    ))

-- lists that are compared by what they are seen as
module _ {V N : Type 0} (f : V → N) (E : V → V → Bool) (F : N → N → Bool) (same : (v w : V) → E v w ≡ F (f v) (f w)) where
  pointwise_of : (vs ws : List V) → pointwise E vs ws ≡ pointwise F (map f vs) (map f ws)
  pointwise_of [] [] = refl
  pointwise_of [] (w ∷ ws) = refl
  pointwise_of (v ∷ vs) [] = refl
  pointwise_of (v ∷ vs) (w ∷ ws) = λ i. same v w i && pointwise_of vs ws i

  pub compared : {vs ws ks ls : List V} {ns ms : List N} {r : Bool} → r ≡ pointwise E vs ws → vs ≡ ks → ws ≡ ls → map f ks ≡ ns → map f ls ≡ ms → r ≡ pointwise F ns ms
  compared {ks = ks} {ls} e a b n m = e ∙ (λ i. pointwise E (a i) (b i)) ∙ pointwise_of ks ls ∙ (λ i. pointwise F (n i) (m i))
