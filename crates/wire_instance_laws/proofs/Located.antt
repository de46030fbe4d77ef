-- The lines of the calls of an instance's text lead to those of the pattern.
use Rattle.std.proofs.Common.{◌≡◌, ◌∙◌, ap, ◌≤◌, [], length, map, Ok, slice_index_or, inl, inr}
use Rattle.std.proofs.lemmas.List.{length-map}
use Rattle.wire_runs.proofs.Lists.{slice_get-map_kept}
use Rattle.wire_scripts.specs.Scripts.{Scripts}
use Rattle.wire_reader.specs.declared.limits.Size.{Size}
use Rattle.wire_reader.specs.Limits.{file_bytes}
use Rattle.wire_reader.specs.Reads.{Reads}
use Rattle.wire_reader.specs.Located.{lines_of_calls, lines_in}
use Rattle.wire_lines.specs.Text.{lines_of}
use Rattle.wire_pattern.specs.Pattern.{Pattern}
use Rattle.wire_pattern.specs.Instances.{Cast, instance_lines, instance_text}
use Rattle.wire_instance_laws.specs.Lined.{line_in, LinesLead}
use Rattle.wire_instance_laws.proofs.Roles.{index_at}
use Rattle.wire_instance_laws.proofs.Declared.{IsDeclaredAs, count_small, first_pass, as_many, started}

short_text : (p : Pattern) (cast : Cast) (size : Size) (s : Scripts) → Reads size (instance_text p cast) (Ok s) → length (instance_text p cast) ≤ file_bytes size
short_text p cast size s (inl h) = absurd (let e = h.1 in cc)
short_text p cast size s (inr h) = h.0

pub lines_lead : LinesLead
lines_lead p cast size s rows sound is_cast reads located =
    let small = count_small p cast sound is_cast size (short_text p cast size s reads) in
    let r = first_pass p cast sound is_cast size (length (lines_of (instance_text p cast))) located.declared small located.reads in
    let a : IsDeclaredAs p cast = record { d = located.declared; good = r.0; seen = r.1; few = small } in
    record {
      count = ap length located.lines ∙ length-map located.declared.processes lines_of_calls ∙ as_many p cast sound is_cast a;
      lines = λ v role at.
          let st = started p cast sound is_cast a v role at in
          let row : slice_index_or rows v [] ≡ lines_of_calls st.0 =
          ap (λ rs. slice_index_or rs v []) located.lines
          ∙ index_at (lines_in located.declared) v (lines_of_calls st.0) [] (slice_get-map_kept lines_of_calls located.declared.processes v st.0 st.1.at) in
          ap (map (line_in (instance_lines p cast))) row ∙ st.1.lines;
    }
