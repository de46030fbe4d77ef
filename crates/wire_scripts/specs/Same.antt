-- Whether two scripts are the same, part by part, and that this is a partial equivalence, as `==` has to be.
use Rattle.std.specs.Prelude.{ℕ, ◌==◌, ◌&&◌, Bool, List}
use Rattle.std.proofs.Math.Bool.{beq}
use Rattle.std.specs.Cmp.{IsPartialEquivalence, partial_equiv_from_equiv, nat_eq_equiv, bool_eq_equiv, and_per, on_per}
use Rattle.std.specs.Cmp.Lexicographic.{pointwise, lists_equiv, lists_per}
use Rattle.std.specs.Str.{bytes_eq}
use Rattle.wire_types.specs.declared.Call.{Call}
use Rattle.wire_types.specs.contracts.call.CallPartialEq.TheImpl as call
use Rattle.wire_types.specs.contracts.call.CallPartialEq.TheImpl.Laws as law
use Rattle.wire_types.specs.declared.Version.{Version}
use Rattle.wire_types.specs.contracts.version.VersionPartialEq.TheImpl as version
use Rattle.wire_types.specs.contracts.version.VersionPartialEq.TheImpl.Laws as version_law
use Rattle.wire_scripts.specs.Scripts.{Process, Scripts}

abbrev pub same_call : Call → Call → Bool
same_call = call.ghosts.eq

abbrev pub same_version : Version → Version → Bool
same_version = version.ghosts.eq

-- texts, or sets by the numbers of their processes
abbrev pub same_texts : List (List ℕ) → List (List ℕ) → Bool
same_texts = pointwise bytes_eq

abbrev pub same_process : Process → Process → Bool
same_process p q = (p.job == q.job) && ((p.rank == q.rank) && ((p.node == q.node) && pointwise same_call p.calls q.calls))

abbrev pub same_scripts : Scripts → Scripts → Bool
same_scripts a b =
    same_version a.version b.version
    && (same_texts a.nodes b.nodes
    && (same_texts a.jobs b.jobs
    && (same_texts a.keys b.keys && (same_texts a.names b.names
    && (same_texts a.values b.values && (same_texts a.sets b.sets && (pointwise same_process a.processes b.processes && beq a.keeps b.keeps)))))))

numbers_alike : IsPartialEquivalence (λ (a b : ℕ). a == b)
numbers_alike = partial_equiv_from_equiv nat_eq_equiv

pub texts_alike : IsPartialEquivalence same_texts
texts_alike = partial_equiv_from_equiv (lists_equiv (lists_equiv nat_eq_equiv))

pub processes_alike : IsPartialEquivalence same_process
processes_alike =
    and_per (on_per (λ (p : Process). p.job) numbers_alike)
    (and_per (on_per (λ (p : Process). p.rank) numbers_alike)
    (and_per (on_per (λ (p : Process). p.node) numbers_alike) (on_per (λ (p : Process). p.calls) (lists_per law.laws-law))))

pub scripts_alike : IsPartialEquivalence same_scripts
scripts_alike =
    and_per (on_per (λ (s : Scripts). s.version) version_law.laws-law)
    (and_per (on_per (λ (s : Scripts). s.nodes) texts_alike)
    (and_per (on_per (λ (s : Scripts). s.jobs) texts_alike)
    (and_per (on_per (λ (s : Scripts). s.keys) texts_alike)
    (and_per (on_per (λ (s : Scripts). s.names) texts_alike)
    (and_per (on_per (λ (s : Scripts). s.values) texts_alike)
    (and_per (on_per (λ (s : Scripts). s.sets) texts_alike)
    (and_per (on_per (λ (s : Scripts). s.processes) (lists_per processes_alike))
    (on_per (λ (s : Scripts). s.keeps) (partial_equiv_from_equiv bool_eq_equiv)))))))))
