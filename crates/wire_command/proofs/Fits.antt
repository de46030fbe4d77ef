-- The lines of the calls of a file: a row for each process, with a line for each of its calls.
use Rattle.std.proofs.Common.{◌≡◌, ◌∙◌, ap, ap₂, sym, refl, ℕ, List, [], ◌∷◌, length, map, inl, inr, Ok}
use Rattle.std.proofs.lemmas.List.{length-map}
use Rattle.wire_scripts.specs.Scripts.{Scripts, Process}
use Rattle.wire_reader.specs.declared.Size.{Size}
use Rattle.wire_reader.specs.FirstPass.{Started, Declared}
use Rattle.wire_reader.specs.Reads.{Reads, Seen, seen_in, numbered, process_of, scripts_of, first_fault, second_pass}
use Rattle.wire_reader.specs.Located.{AreCallLines, lines_of_calls}
use Rattle.wire_reader.proofs.Once.{reads_once, second_ok}

each_fits : (d : Declared) (n : Seen) (ps : List Started) → map length (map lines_of_calls ps) ≡ map (λ (p : Process). length p.calls) (map (process_of d n) ps)
each_fits d n [] = refl
each_fits d n (p ∷ ps) = ap₂ (λ x y. x ∷ y) (length-map p.calls (λ c. c.0) ∙ sym (length-map p.calls (λ c. numbered d n p.job c.1))) (each_fits d n ps)

pub rows_fit : {size : Size} (bytes : List ℕ) (s : Scripts) (rows : List (List ℕ)) → Reads size bytes (Ok s) → AreCallLines size bytes rows →
    map length rows ≡ map (λ (p : Process). length p.calls) s.processes
rows_fit bytes s rows (inl (past, is)) lines = absurd (cc)
rows_fit {size} bytes s rows (inr (within, short)) lines =
    let d = lines.declared in
    let same : Ok s ≡ second_pass d = reads_once size bytes (Ok s) (second_pass d) (inr (within, short)) (inr (within, (Ok d, lines.reads, refl))) in
    let is : s ≡ scripts_of d = (second_ok d s (first_fault d d.processes) same).1 in
    ap (map length) lines.lines ∙ each_fits d (seen_in d) d.processes ∙ ap (λ (t : Scripts). map (λ (p : Process). length p.calls) t.processes) (sym is)
