-- What a search for witnesses finds: of two calls, and of the races of a plan.
use Rattle.std.specs.Prelude.{◌≡◌, ℕ, ◌-◌, List, length, map, take}
use Rattle.wire_types.specs.declared.CallAt.{CallAt}
use Rattle.wire_scripts.specs.Scripts.{Scripts}
use Rattle.wire_scripts.specs.Planned.{plan_of}
use Rattle.wire_json.specs.declared.witnesses.RaceCounts.{RaceCounts}
use Rattle.wire_findings.specs.declared.finding.Finding.{Finding}
use Rattle.wire_findings.specs.Findings.{AreFindings}
use Rattle.wire_races.specs.Racing.{AreRacing}
use Rattle.wire_witness.specs.declared.all.RaceSearch.{RaceSearch}
use Rattle.wire_witness.specs.declared.pair.PairSearch.{PairSearch}
use Rattle.wire_witness.specs.declared.pair.PairSearch.TheVariants.{NoRace, NotShown, Shown}
use Rattle.wire_witness.specs.Witness.{IsWitness}
use Rattle.wire_witness.specs.NotShown.{IsNotShown}
use Rattle.wire_witness.specs.Races.{races_of}
use Rattle.wire_witness.specs.Tried.{AreTried, count_shown}

-- what was found of two calls: they don't race; or they race, and four runs of the kinds that are tried show no
-- difference; or they race, and this is a witness of them
abbrev pub IsPairSearch : Scripts → CallAt → CallAt → PairSearch → Type 0
IsPairSearch scripts x y NoRace = AreRacing (plan_of scripts) x y → ⊥
IsPairSearch scripts x y NotShown = AreRacing (plan_of scripts) x y × IsNotShown scripts x y
IsPairSearch scripts x y (Shown witness) = AreRacing (plan_of scripts) x y × IsWitness scripts x y witness

-- how many races are shown so: one exactly where a witness was found
abbrev pub shown_by_pair : PairSearch → ℕ
shown_by_pair (Shown witness) = 1
shown_by_pair _ = 0

-- of the races among the findings the first were tried, so many at most and in their order; each that is called shown
-- has a witness, of each other four runs of the kinds that are tried show no difference, and so many races there are
-- in all
pub record IsRaceSearch (scripts : Scripts) (most : ℕ) (search : RaceSearch) : Type 0 where
  pub found : List Finding
  pub those : AreFindings scripts found
  pub first : map (λ one. one.race) search.tried.items ≡ take most (races_of found)
  pub shown : AreTried scripts search.tried.items
  pub counted : search.count ≡ length (races_of found)

-- how many of them are shown
abbrev pub shown_by_races : RaceSearch → ℕ
shown_by_races search = count_shown search.tried.items

-- how many races there are in all, and how many of them are shown, not shown and not tried
abbrev pub counts_of : RaceSearch → RaceCounts
counts_of search = record {
  races = search.count;
  shown = shown_by_races search;
  not_shown = length search.tried.items - shown_by_races search;
  not_tried = search.count - length search.tried.items;
}
