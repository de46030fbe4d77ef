-- Small replays as JSON: the definitions compute.
use Rattle.std.proofs.Common.{◌≡◌, false, [], ◌∷◌, ◌++◌, refl, codes}
use Rattle.std.specs.Fmt.{digits}
use Rattle.wire_types.specs.declared.Call.TheVariants.{Put, Commit, Get}
use Rattle.wire_types.specs.declared.Scope.TheVariants.{Global}
use Rattle.wire_types.specs.declared.CallEnd.{CallEnd}
use Rattle.wire_types.specs.declared.CallEnd.TheVariants.{Replied, Waiting}
use Rattle.wire_types.specs.declared.Status.TheVariants.{Success}
use Rattle.wire_types.specs.declared.Value.TheVariants as value
use Rattle.wire_types.specs.Outcome.{Ends}
use Rattle.wire_types.specs.declared.Version.TheVariants.{One}
use Rattle.wire_scripts.specs.Scripts.{Scripts}
use Rattle.wire_json.specs.Json.{json_report, json_findings, json_unsettled}

-- the job app: a put and a commit, and a get of that key; the value has a quote and a backslash
unfoldable pub row : Scripts
row = record {
  version = One;
  nodes = codes "n0" ∷ (codes "n1" ∷ []);
  jobs = codes "app" ∷ [];
  keys = codes "k" ∷ [];
  names = [];
  values = codes "v\"\\" ∷ [];
  sets = [];
  processes =
      record { job = 0; rank = 0; node = 0; calls = Put Global 0 0 ∷ (Commit ∷ []) }
      ∷ (record { job = 0; rank = 1; node = 1; calls = Get (record { number = 0 }) 0 ∷ [] }
      ∷ (record { job = 0; rank = 2; node = 1; calls = [] } ∷ []));
  keeps = false;
}

unfoldable pub done : CallEnd
done = Replied (record { status = Success; value = value.Nothing })

-- the get brought what call number 0 of process 0 put
unfoldable pub ends : Ends
ends = record { rows = (done ∷ (done ∷ [])) ∷ ((Replied (record { status = Success; value = value.Put (record { proc = record { number = 0 }; call = 0 }) }) ∷ []) ∷ ([] ∷ [])); waiting = 0 }

all_done : json_report row ends
    ≡ codes "{\"ranks\":[{\"calls\":[{\"reply\":\"PMIX_SUCCESS\",\"verb\":\"put\"},{\"reply\":\"PMIX_SUCCESS\",\"verb\":\"commit\"}],\"proc\":\"app:0\"},"
    ++ codes "{\"calls\":[{\"reply\":\"PMIX_SUCCESS\",\"value\":\"v\\\"\\\\\",\"verb\":\"get\"}],\"proc\":\"app:1\"},{\"calls\":[],\"proc\":\"app:2\"}],\"waiting\":0}\n"
unfolding row done ends digits
all_done = refl

in_order : json_unsettled row (record { rows = (done ∷ (done ∷ [])) ∷ ((Waiting ∷ []) ∷ ([] ∷ [])); waiting = 1 }) (0 ∷ (0 ∷ []))
    ≡ codes "{\"order\":[\"app:0\",\"app:0\"],\"ranks\":[{\"calls\":[{\"reply\":\"PMIX_SUCCESS\",\"verb\":\"put\"},{\"reply\":\"PMIX_SUCCESS\",\"verb\":\"commit\"}],\"proc\":\"app:0\"},"
    ++ codes "{\"calls\":[{\"reply\":\"waiting\",\"verb\":\"get\"}],\"proc\":\"app:1\"},{\"calls\":[],\"proc\":\"app:2\"}],\"unsettled\":true,\"waiting\":1}\n"
unfolding row done digits
in_order = refl

found : json_findings (codes "race app:0 2 app:1 1 key app:0 k" ∷ (codes "race \"" ∷ [])) ≡ codes "{\"findings\":[\"race app:0 2 app:1 1 key app:0 k\",\"race \\\"\"]}\n"
found = refl

found_nothing : json_findings [] ≡ codes "{\"findings\":[]}\n"
found_nothing = refl
