-- The three kinds are all findings.
use Rattle.std.proofs.Common.{◌≡◌, ◌↔◌, refl, subst, List, [], inl, inr}
use Rattle.wire_runs.specs.Plan.{Plan}
use Rattle.wire_runs.specs.Findings.{Finding, Rewrite, KeyRace, NameRace, IsFound, IsSorted}
use Rattle.wire_scripts.specs.Scripts.{Scripts}
use Rattle.wire_scripts.specs.Planned.{plan_of}
use Rattle.wire_findings.specs.Findings.{all_shown, lower_name, AreFindings}
use Rattle.wire_findings.specs.declared.finding.Finding.{Finding as Told}
use Rattle.wire_findings.specs.Collected.{TellsFinding, AreFound}
use Rattle.wire_races.specs.FindingKinds.{IsOfRewrite, IsOfKey, IsOfName, AllAdded, ArePlaceless}

each_kind : (plan : Plan) (a b c d : List Told) → AllAdded plan IsOfRewrite a b → AllAdded plan IsOfKey b c → AllAdded plan IsOfName c d → (f : Finding) → IsFound plan f → TellsFinding plan d f
each_kind plan a b c d r k n (Rewrite x y) h =
    let f = Rewrite x y in (n f).1 (inl ((k f).1 (inl ((r f).1 (inr ((x, y, refl), h))))))
each_kind plan a b c d r k n (KeyRace x y owner key) h =
    let f = KeyRace x y owner key in (n f).1 (inl ((k f).1 (inr ((x, y, owner, key, refl), h))))
each_kind plan a b c d r k n (NameRace x y name) h =
    let f = NameRace x y name in (n f).1 (inr ((x, y, name, refl), h))

-- one kind after another
pub all_kinds : (s : Scripts) (a b c d : List Told) (found : List Told) → AllAdded (plan_of s) IsOfRewrite a b → AllAdded (plan_of s) IsOfKey b c → AllAdded (plan_of s) IsOfName c d →
    AreFound (plan_of s) d → ((f : Finding) → TellsFinding (plan_of s) found f ↔ TellsFinding (plan_of s) d f) → IsSorted (lower_name s.names) (all_shown (plan_of s) found) → AreFindings s found
all_kinds s a b c d found r k n only is sorted = record {
  those = λ f. ((λ h. only f ((is f).0 h)), (λ h. (is f).1 (each_kind (plan_of s) a b c d r k n f h)));
  sorted = sorted;
}

-- the two kinds that no placement changes
pub placeless : (plan : Plan) (a b c : List Told) → a ≡ [] → AllAdded plan IsOfRewrite a b → AllAdded plan IsOfName b c → ArePlaceless plan c
placeless plan a b c empty r n = λ f. (
  (λ h. elim ((n f).0 h) [
    | inr named ↦ (inr named.0, named.1)
    | inl before ↦ elim ((r f).0 before) [
      | inr put ↦ (inl put.0, put.1)
      | inl none ↦ absurd (subst (λ l. TellsFinding plan l f) empty none)
    ]
  ]),
  (λ k. elim k.0 [
    | inl put ↦ (n f).1 (inl ((r f).1 (inr (put, k.1))))
    | inr named ↦ (n f).1 (inr (named, k.1))
  ]),
)
