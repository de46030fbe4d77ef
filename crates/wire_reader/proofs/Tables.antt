-- The tables after all calls.
use Rattle.std.proofs.Common.{◌≡◌, ◌∙◌, ap, sym, refl, ℕ, ◌+◌, ◌*◌, ◌≤◌, List, [], ◌∷◌, ◌++◌, true, false, length, length-append, if◌then◌else◌, arith}
use Rattle.std.specs.List.{flat_map}
use Rattle.std.proofs.lemmas.List.Concat.{flat_map-cons}
use Rattle.wire_lines.specs.Said as said
use Rattle.wire_reader.specs.FirstPass.{is_among, Started, Declared}
use Rattle.wire_reader.specs.Reads.{Seen, seen_in, in_calls, keys_in, names_in, values_in, sets_in, set_members}
use Rattle.wire_reader.specs.Tabled.{entry_count, with_text, nothing_seen, seen_with, seen_after, all_seen, GoOn}
use Rattle.wire_reader.proofs.Seen.{texts_after, after_both, seen_at_once, with_goes_on, goes_on_self, goes_on_more}

-- one table, read out by g, into which f says what a call brings
module _ (d : Declared) (g : Seen → List (List ℕ)) (f : ℕ → said.Call → List (List ℕ)) (step : (s : Seen) (job : ℕ) (c : said.Call) → g (seen_with d s job c) ≡ texts_after (g s) (f job c)) where
  after_calls : (s : Seen) (job : ℕ) (cs : List (ℕ × said.Call)) → g (seen_after d s job cs) ≡ texts_after (g s) (flat_map (λ c. f job c.1) cs)
  after_calls s job [] = refl
  after_calls s job (c ∷ cs) =
      after_calls (seen_with d s job c.1) job cs
      ∙ ap (λ t. texts_after t (flat_map (λ c. f job c.1) cs)) (step s job c.1)
      ∙ sym (after_both (g s) (f job c.1) (flat_map (λ c. f job c.1) cs))
      ∙ ap (texts_after (g s)) (sym (flat_map-cons (λ c. f job c.1) c cs))

  after_processes : (s : Seen) (ps : List Started) → g (all_seen d s ps) ≡ texts_after (g s) (in_calls f ps)
  after_processes s [] = refl
  after_processes s (p ∷ ps) =
      after_processes (seen_after d s p.job p.calls) ps
      ∙ ap (λ t. texts_after t (in_calls f ps)) (after_calls s p.job p.calls)
      ∙ sym (after_both (g s) (flat_map (λ c. f p.job c.1) p.calls) (in_calls f ps))
      ∙ ap (texts_after (g s)) (sym (flat_map-cons (λ p. flat_map (λ c. f p.job c.1) p.calls) p ps))

keys_step : (d : Declared) (s : Seen) (job : ℕ) (c : said.Call) → (seen_with d s job c).keys ≡ texts_after s.keys (keys_in c)
keys_step d s own (said.Put scope key value) = refl
keys_step d s own said.Commit = refl
keys_step d s own (said.Fence set collect) = refl
keys_step d s own (said.Get job rank key) = refl
keys_step d s own (said.GetNow job rank key) = refl
keys_step d s own (said.Publish name value) = refl
keys_step d s own (said.Lookup name) = refl
keys_step d s own (said.LookupWait name) = refl
keys_step d s own (said.Unpublish name) = refl
keys_step d s own said.UnpublishAll = refl

names_step : (d : Declared) (s : Seen) (job : ℕ) (c : said.Call) → (seen_with d s job c).names ≡ texts_after s.names (names_in c)
names_step d s own (said.Put scope key value) = refl
names_step d s own said.Commit = refl
names_step d s own (said.Fence set collect) = refl
names_step d s own (said.Get job rank key) = refl
names_step d s own (said.GetNow job rank key) = refl
names_step d s own (said.Publish name value) = refl
names_step d s own (said.Lookup name) = refl
names_step d s own (said.LookupWait name) = refl
names_step d s own (said.Unpublish name) = refl
names_step d s own said.UnpublishAll = refl

values_step : (d : Declared) (s : Seen) (job : ℕ) (c : said.Call) → (seen_with d s job c).values ≡ texts_after s.values (values_in c)
values_step d s own (said.Put scope key value) = refl
values_step d s own said.Commit = refl
values_step d s own (said.Fence set collect) = refl
values_step d s own (said.Get job rank key) = refl
values_step d s own (said.GetNow job rank key) = refl
values_step d s own (said.Publish name value) = refl
values_step d s own (said.Lookup name) = refl
values_step d s own (said.LookupWait name) = refl
values_step d s own (said.Unpublish name) = refl
values_step d s own said.UnpublishAll = refl

sets_step : (d : Declared) (s : Seen) (job : ℕ) (c : said.Call) → (seen_with d s job c).sets ≡ texts_after s.sets (sets_in d job c)
sets_step d s own (said.Put scope key value) = refl
sets_step d s own said.Commit = refl
sets_step d s own (said.Fence set collect) = refl
sets_step d s own (said.Get job rank key) = refl
sets_step d s own (said.GetNow job rank key) = refl
sets_step d s own (said.Publish name value) = refl
sets_step d s own (said.Lookup name) = refl
sets_step d s own (said.LookupWait name) = refl
sets_step d s own (said.Unpublish name) = refl
sets_step d s own said.UnpublishAll = refl

-- the tables after all calls are those of what the calls name, each once as first seen
pub all_seen_is : (d : Declared) → all_seen d nothing_seen d.processes ≡ seen_in d
all_seen_is d =
    let keys = after_processes d (λ s. s.keys) (λ job. keys_in) (keys_step d) nothing_seen d.processes ∙ seen_at_once (in_calls (λ job. keys_in) d.processes) in
    let names = after_processes d (λ s. s.names) (λ job. names_in) (names_step d) nothing_seen d.processes ∙ seen_at_once (in_calls (λ job. names_in) d.processes) in
    let values = after_processes d (λ s. s.values) (λ job. values_in) (values_step d) nothing_seen d.processes ∙ seen_at_once (in_calls (λ job. values_in) d.processes) in
    let sets = after_processes d (λ s. s.sets) (sets_in d) (sets_step d) nothing_seen d.processes ∙ seen_at_once (in_calls (sets_in d) d.processes) in
    λ t. record { keys = keys t; names = names t; values = values t; sets = sets t }

pub go_on_self : (s : Seen) → GoOn s s
go_on_self s = record { keys = goes_on_self s.keys; names = goes_on_self s.names; values = goes_on_self s.values; sets = goes_on_self s.sets }

pub go_on_more : (s t u : Seen) → GoOn s t → GoOn t u → GoOn s u
go_on_more s t u a b = record {
  keys = goes_on_more s.keys t.keys u.keys a.keys b.keys;
  names = goes_on_more s.names t.names u.names a.names b.names;
  values = goes_on_more s.values t.values u.values a.values b.values;
  sets = goes_on_more s.sets t.sets u.sets a.sets b.sets;
}

-- the tables go on with each call
pub with_call_goes_on : (d : Declared) (s : Seen) (job : ℕ) (c : said.Call) → GoOn s (seen_with d s job c)
with_call_goes_on d s own (said.Put scope key value) = record { keys = with_goes_on s.keys key; names = goes_on_self s.names; values = with_goes_on s.values value; sets = goes_on_self s.sets }
with_call_goes_on d s own said.Commit = record { keys = goes_on_self s.keys; names = goes_on_self s.names; values = goes_on_self s.values; sets = goes_on_self s.sets }
with_call_goes_on d s own (said.Fence set collect) = record {
  keys = goes_on_self s.keys;
  names = goes_on_self s.names;
  values = goes_on_self s.values;
  sets = with_goes_on s.sets (set_members d own set);
}
with_call_goes_on d s own (said.Get job rank key) = record { keys = with_goes_on s.keys key; names = goes_on_self s.names; values = goes_on_self s.values; sets = goes_on_self s.sets }
with_call_goes_on d s own (said.GetNow job rank key) = record { keys = with_goes_on s.keys key; names = goes_on_self s.names; values = goes_on_self s.values; sets = goes_on_self s.sets }
with_call_goes_on d s own (said.Publish name value) = record { keys = goes_on_self s.keys; names = with_goes_on s.names name; values = with_goes_on s.values value; sets = goes_on_self s.sets }
with_call_goes_on d s own (said.Lookup name) = record { keys = goes_on_self s.keys; names = with_goes_on s.names name; values = goes_on_self s.values; sets = goes_on_self s.sets }
with_call_goes_on d s own (said.LookupWait name) = record { keys = goes_on_self s.keys; names = with_goes_on s.names name; values = goes_on_self s.values; sets = goes_on_self s.sets }
with_call_goes_on d s own (said.Unpublish name) = record { keys = goes_on_self s.keys; names = with_goes_on s.names name; values = goes_on_self s.values; sets = goes_on_self s.sets }
with_call_goes_on d s own said.UnpublishAll = record { keys = goes_on_self s.keys; names = goes_on_self s.names; values = goes_on_self s.values; sets = goes_on_self s.sets }

pub with_calls_goes_on : (d : Declared) (s : Seen) (job : ℕ) (cs : List (ℕ × said.Call)) → GoOn s (seen_after d s job cs)
with_calls_goes_on d s job [] = go_on_self s
with_calls_goes_on d s job (c ∷ cs) =
    go_on_more s (seen_with d s job c.1) (seen_after d (seen_with d s job c.1) job cs) (with_call_goes_on d s job c.1) (with_calls_goes_on d (seen_with d s job c.1) job cs)

-- a table grows by at most one text
with_grows : (t : List (List ℕ)) (x : List ℕ) → length (with_text t x) ≤ length t + 1
with_grows t x = elim (is_among t x) as (λ b. length (if b then t else t ++ x ∷ []) ≤ length t + 1) [
  | true ↦ omega arith
  | false ↦ let more = length-append t (x ∷ []) in omega (arith, more)
]

-- and all tables by at most two with each call
pub call_grows : (d : Declared) (s : Seen) (job : ℕ) (c : said.Call) → entry_count (seen_with d s job c) ≤ entry_count s + 2
call_grows d s own (said.Put scope key value) = let m = with_grows s.keys key in let n = with_grows s.values value in omega (arith, m, n)
call_grows d s own said.Commit = omega arith
call_grows d s own (said.Fence set collect) = let m = with_grows s.sets (set_members d own set) in omega (arith, m)
call_grows d s own (said.Get job rank key) = let m = with_grows s.keys key in omega (arith, m)
call_grows d s own (said.GetNow job rank key) = let m = with_grows s.keys key in omega (arith, m)
call_grows d s own (said.Publish name value) = let m = with_grows s.names name in let n = with_grows s.values value in omega (arith, m, n)
call_grows d s own (said.Lookup name) = let m = with_grows s.names name in omega (arith, m)
call_grows d s own (said.LookupWait name) = let m = with_grows s.names name in omega (arith, m)
call_grows d s own (said.Unpublish name) = let m = with_grows s.names name in omega (arith, m)
call_grows d s own said.UnpublishAll = omega arith

pub calls_grow : (d : Declared) (s : Seen) (job : ℕ) (cs : List (ℕ × said.Call)) → entry_count (seen_after d s job cs) ≤ entry_count s + 2 * length cs
calls_grow d s job [] = omega arith
calls_grow d s job (c ∷ cs) = let here = call_grows d s job c.1 in let rest = calls_grow d (seen_with d s job c.1) job cs in omega (arith, here, rest)
