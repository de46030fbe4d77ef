-- Parts of JSON forms, as bytes, that tell on which line of a file a call stands.
use Rattle.std.specs.Prelude.{ℕ, List, ◌++◌, codes, decimal}
use Rattle.wire_types.specs.declared.CallAt.{CallAt}
use Rattle.wire_scripts.specs.Scripts.{Scripts}
use Rattle.wire_json.specs.declared.chains.ChainStep.{ChainStep}
use Rattle.wire_json.specs.Chains.{call_member, half_member, proc_member, verb_member}

-- the member of the line on which a call stands
abbrev pub line_member : ℕ → List ℕ
line_member line = codes ",\"line\":" ++ decimal line

-- a step of a chain, whose call stands on this line: `{"call":1,"line":7,"proc":"app:0","verb":"put"}`
abbrev pub lined_step : Scripts → ChainStep → ℕ → List ℕ
lined_step scripts step line =
    codes "{" ++ call_member step.call ++ half_member step.half ++ line_member line
    ++ proc_member scripts step.call ++ verb_member scripts step.call ++ codes "}"

-- a call that stands on this line, by its process and number alone
abbrev pub lined_place : Scripts → CallAt → ℕ → List ℕ
lined_place scripts call line = codes "{" ++ call_member call ++ line_member line ++ proc_member scripts call ++ codes "}"
