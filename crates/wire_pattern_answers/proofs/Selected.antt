-- What a few placings of an instance tell is told of all.
use Rattle.std.proofs.Common.{◌≡◌, ◌∙◌, ap, sym, subst, refl, ℕ, suc, ◌+◌, ◌<◌, ◌⊎◌, inl, inr, List, [], ◌∷◌, true, replicate, length, Ok, get_or, ne_eqb, zero-add, arith}
use Rattle.std.proofs.lemmas.List.{length-map, length-append, length-replicate}
use Rattle.std.proofs.lemmas.List.FromFn.{get_or-range_with_len}
use Rattle.std.proofs.lemmas.List.Sums.{sum_by-cons}
use Rattle.wire_cutoff_laws.specs.Sizes.{total_of}
use Rattle.wire_types.specs.declared.Status.{Status}
use Rattle.wire_types.specs.declared.Status.TheVariants.{Success, ExistsOutsideScope}
use Rattle.wire_runs.specs.Plan.{process_count, node_of}
use Rattle.wire_runs.specs.Placings.{IsSettledAnywhere}
use Rattle.wire_runs.specs.PlacingLaws.{IsOneANode}
use Rattle.wire_scripts.specs.Scripts.{Scripts, call_at}
use Rattle.wire_scripts.specs.Planned.{planned_process, plan_of}
use Rattle.wire_scripts.specs.Placed.{moved, placed, with_second, node_beside}
use Rattle.wire_reader.specs.declared.Size.TheVariants.{OfVersion}
use Rattle.wire_reader.specs.Reads.{Reads}
use Rattle.wire_pattern.specs.Pattern.{Pattern}
use Rattle.wire_pattern.specs.Lawful.{IsSoundPattern}
use Rattle.wire_pattern.specs.Instances as text
use Rattle.wire_pattern.specs.Instances.{Cast, cast_of, roles_from, instance_text}
use Rattle.wire_instance_laws.specs.Reading.{InstancesRead, IsOfCast}
use Rattle.wire_cutoff_laws.specs.Promised.{IsSettledForAll}
use Rattle.wire_cutoff.specs.Judged.{IsFewCast}
use Rattle.wire_cutoff.specs.Selections.{Selection}
use Rattle.wire_pattern_waits.specs.Waits.{alone}
use Rattle.wire_pattern_answers.specs.declared.told.StatusesByLine.{StatusesByLine}
use Rattle.wire_pattern_answers.specs.FewPlacings.{asks_now, IsAnsweredWith, IsFoundOutside, IsOfThree, FewPlacingsTell}
use Rattle.wire_pattern_answers.specs.Answers.{IsAnsweredAtLine, AnswersIn}
use Rattle.wire_pattern_answers.specs.Notes.{IsAnsweredThere, IsAnsweredApart, is_told, AreToldToo, AreToldByFew}
use Rattle.wire_pattern_answers.proofs.Calls.{same_call}
use Rattle.wire_pattern_answers.proofs.Placed.{own_nodes, itself}
use Rattle.wire_pattern_answers.proofs.Settled.{have_least, settled_on_all}

-- the processes have roles, one each
roles_count : (n : ℕ) (sizes : List ℕ) → length (roles_from n sizes) ≡ total_of sizes
roles_count n [] = refl
roles_count n (size ∷ sizes) =
    length-append (replicate size n) (roles_from (suc n) sizes) ∙ ap (λ k. k + length (roles_from (suc n) sizes)) (length-replicate size n)
    ∙ ap (λ k. size + k) (roles_count (suc n) sizes) ∙ sym (sum_by-cons (λ (k : ℕ). k) size sizes)

-- with each process on a node of its own
pub is_apart : (p : Pattern) (selection : Selection) (cast : Cast) (s : Scripts) → cast ≡ alone p selection → IsOfCast p cast s → IsOneANode (plan_of s)
is_apart p selection cast s is of a b low_a low_b ne = ne_eqb _ _ (λ e. ne (sym (node_is a low_a) ∙ e ∙ node_is b low_b))
  where
    node_is : (v : ℕ) → v < process_count (plan_of s) → node_of (plan_of s) v ≡ v
    node_is v low =
        let total : text.process_count cast ≡ total_of selection.sizes = ap text.process_count is in
        let count = of.count in
        of.nodes v (omega (arith, low, count)) ∙ ap (λ (c : Cast). get_or c.nodes v 0) is ∙ get_or-range_with_len 0 (total_of selection.sizes) v 0 (omega (arith, low, count, total)) ∙ zero-add v

module _ (p : Pattern) (selection : Selection) (cast : Cast) (sound : IsSoundPattern p) (settled : IsSettledForAll p) (few : IsFewCast p cast) (is : cast ≡ alone p selection)
    (read : InstancesRead) (tell : FewPlacingsTell) where
  count : length (cast_of cast).roles ≡ text.process_count cast
  count = roles_count 0 cast.sizes

  from_there : (role line : ℕ) (status : Status) → IsAnsweredThere p cast role line status → AnswersIn p selection role line status
  from_there role line status x = record {
    scripts = x.scripts;
    reads = subst (λ c. Reads OfVersion (instance_text p c) (Ok x.scripts)) is x.reads;
    names = x.scripts.nodes;
    nodes = own_nodes x.scripts;
    answered = subst (λ c. IsAnsweredAtLine p c (moved x.scripts x.scripts.nodes (own_nodes x.scripts)) role line status) is
        (subst (λ s. IsAnsweredAtLine p cast s role line status) (itself x.scripts) x.answered);
  }

  from_apart : (ranks : List ℕ) (role line : ℕ) (status : Status) → IsAnsweredApart p cast ranks role line status → AnswersIn p selection role line status
  from_apart ranks role line status x = record {
    scripts = x.scripts;
    reads = subst (λ c. Reads OfVersion (instance_text p c) (Ok x.scripts)) is x.reads;
    names = with_second x.scripts.nodes;
    nodes = node_beside ranks;
    answered = subst (λ c. IsAnsweredAtLine p c (placed x.scripts ranks) role line status) is x.answered;
  }

  module _ (before after : StatusesByLine) (by : AreToldByFew p cast before after) (role line : ℕ) (status : Status) (three : IsOfThree status) where
    to_all : is_told after role line status ≡ true → (is_told before role line status ≡ true) ⊎ AnswersIn p selection role line status
    to_all h = go (by.together.only role line status three h)
      where
        earlier : (is_told before role line status ≡ true) ⊎ IsAnsweredThere p cast role line status → (is_told before role line status ≡ true) ⊎ AnswersIn p selection role line status
        earlier (inl g) = inl g
        earlier (inr x) = inr (from_there role line status x)

        go : (is_told by.between role line status ≡ true) ⊎ ((ranks : List ℕ) × IsAnsweredApart p cast ranks role line status)
            → (is_told before role line status ≡ true) ⊎ AnswersIn p selection role line status
        go (inl g) = earlier ((by.there role line status three).0 g)
        go (inr x) = inr (from_apart x.0 role line status x.1)

    to_few : AnswersIn p selection role line status → is_told after role line status ≡ true
    to_few x = go (tell s everywhere (is_apart p selection cast s is of) x.names x.nodes a.process a.call asks status a.answered)
      where
        s : Scripts
        s = x.scripts

        reads : Reads OfVersion (instance_text p cast) (Ok s)
        reads = subst (λ c. Reads OfVersion (instance_text p c) (Ok s)) (sym is) x.reads

        a : IsAnsweredAtLine p cast (moved s x.names x.nodes) role line status
        a = subst (λ c. IsAnsweredAtLine p c (moved s x.names x.nodes) role line status) (sym is) x.answered

        of : IsOfCast p cast s
        of = read p cast OfVersion s sound few.cast_is reads

        everywhere : IsSettledAnywhere (plan_of s)
        everywhere = settled_on_all p cast s settled few.cast_is (have_least p.roles cast.sizes few.sizes) of count

        asks : asks_now (call_at s.processes a.process a.call) ≡ true
        asks = ap asks_now (sym (same_call s x.names x.nodes a.process a.call)) ∙ a.asks

        as_many : length s.processes ≡ length (cast_of cast).roles
        as_many = sym (length-map s.processes (planned_process s)) ∙ of.count ∙ sym count

        apart : (ranks : List ℕ) (t : Status) → IsAnsweredWith (placed s ranks) a.process a.call t → IsAnsweredApart p cast ranks role line t
        apart ranks t answered = record {
          scripts = s;
          reads = reads;
          answered = record {
            process = a.process;
            call = a.call;
            has_role = a.has_role;
            of_line = a.of_line;
            asks = ap asks_now (same_call s (with_second s.nodes) (node_beside ranks) a.process a.call) ∙ asks;
            answered = answered;
          };
        }

        here : IsAnsweredWith s a.process a.call status → IsAnsweredThere p cast role line status
        here answered = record {
          scripts = s;
          reads = reads;
          answered = record { process = a.process; call = a.call; has_role = a.has_role; of_line = a.of_line; asks = asks; answered = answered };
        }

        outside : IsFoundOutside s a.process a.call → is_told after role line Success ≡ true
        outside f =
            by.together.outside role line (apart [] ExistsOutsideScope f.outside)
            (f.rank, subst (λ n. f.rank < n) as_many f.within, apart (f.rank ∷ []) Success f.found)

        go : IsAnsweredWith s a.process a.call status ⊎ (IsAnsweredWith (placed s []) a.process a.call status ⊎ ((status ≡ Success) × IsFoundOutside s a.process a.call))
            → is_told after role line status ≡ true
        go (inl answered) = by.together.stays role line status three ((by.there role line status three).1 (inr (here answered)))
        go (inr (inl answered)) = by.together.together role line status three (apart [] status answered)
        go (inr (inr f)) = subst (λ t. is_told after role line t ≡ true) (sym f.0) (outside f.1)

    told_back : (is_told before role line status ≡ true) ⊎ AnswersIn p selection role line status → is_told after role line status ≡ true
    told_back (inl h) = by.together.stays role line status three ((by.there role line status three).1 (inl h))
    told_back (inr x) = to_few x

  pub selection_told : (before after : StatusesByLine) → AreToldByFew p cast before after → AreToldToo before after (AnswersIn p selection)
  selection_told before after by role line status three = (to_all before after by role line status three, told_back before after by role line status three)
