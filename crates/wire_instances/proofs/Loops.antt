-- One more element of a list is written.
use Rattle.std.proofs.Common.{◌≡◌, ◌∙◌, ap, sym, ℕ, suc, ◌+◌, ◌-◌, ◌<◌, ◌==◌, List, [], ◌∷◌, ◌++◌, Some, true, false, length, map, flat_map, take, drop, get_or}
use Rattle.std.proofs.Common.{append_assoc, arith, add-one}
use Rattle.std.specs.Prelude.{slice_get, slice_index_or}
use Rattle.std.specs.List.{range_with_len}
use Rattle.std.proofs.lemmas.Grind.{flat_map-append}
use Rattle.std.proofs.lemmas.List.{get_or-map, length-map}
use Rattle.std.proofs.lemmas.Bool.{eq-eqb, ne_eqb}
use Rattle.std.proofs.lemmas.Option.{slice_get-get_or}
use Rattle.wire_types.specs.Said as said
use Rattle.wire_scripts.specs.Canonical.{line_text, items_text}
use Rattle.wire_pattern.specs.declared.step.Line.{Line}
use Rattle.wire_pattern.specs.declared.step.Step.{Step}
use Rattle.wire_pattern.specs.declared.pattern.Role.{Role}
use Rattle.wire_pattern.specs.declared.pattern.Job.{Job as CodeJob}
use Rattle.wire_pattern.specs.declared.call.Item.{Item}
use Rattle.wire_pattern.specs.Pattern as spec
use Rattle.wire_pattern.specs.Pattern.{Pattern}
use Rattle.wire_pattern.specs.Planned.{steps_in}
use Rattle.wire_pattern.specs.Views.{line_by, step_by, role_by, job_by, view_item}
use Rattle.wire_pattern.specs.Instances.{Cast, cast_of, call_said, turns_said, steps_said, step_said, process_said, members_said, jobs_said, nodes_said, node_name, job_in}
use Rattle.wire_pattern.specs.Instances.{step_lines, steps_lines, members_lines, jobs_lines, number_in, roles_from, process_item, process_text, items_said}
use Rattle.wire_instances.specs.declared.search.LineSearch.{LineSearch}
use Rattle.wire_instances.specs.Search.{past}
use Rattle.wire_instances.specs.Tables.{first_of}
use Rattle.wire_instances.specs.Written.{AgreeOn, calls_text, role_said, role_lines, ended_text}
use Rattle.wire_instances.proofs.Fronts.{moved_front}
use Rattle.wire_instances.proofs.Ranges.{opened}
use Rattle.wire_instances.proofs.Searches.{moved_past}
use Rattle.wire_instances.proofs.Texts.{moved, opened_list, calls_append, items_append}
use Rattle.wire_instances.proofs.Members.{said_role, said_none, lines_role, lines_none, said_process, lines_process, said_node}

-- a mapped list, opened
opened_map : {A B : Type 0} (f : A → B) (xs : List A) (i : ℕ) (x : A) → i < length xs → x ≡ get_or xs i x → map f (drop i xs) ≡ f x ∷ map f (drop (i + 1) xs)
opened_map f xs i x h is = ap (map f) (opened_list xs i x h is)

pub lines_step : (p : Pattern) (cast : Cast) (v e : ℕ) (lines : List Line) (i : ℕ) (d : Line) (n : ℕ) (old now all : List ℕ) → i < length lines
    → d ≡ get_or lines i d
    → AgreeOn n now (old ++ line_text (said.Calls (call_said p cast v e (line_by d).call)))
    → AgreeOn n (old ++ calls_text (map (λ k. call_said p cast v e k.call) (map line_by (drop i lines)))) all
    → AgreeOn n (now ++ calls_text (map (λ k. call_said p cast v e k.call) (map line_by (drop (i + 1) lines)))) all
lines_step p cast v e lines i d n old now all h at more inv =
    moved_front n old now (line_text (said.Calls (call_said p cast v e (line_by d).call))) (calls_text
    (map (λ k. call_said p cast v e k.call) (map line_by (drop (i + 1) lines)))) _ all
    more (ap (λ ks. calls_text (map (λ k. call_said p cast v e k.call) ks)) (opened_map line_by lines i d h at)) inv

pub turns_step : (p : Pattern) (cast : Cast) (v : ℕ) (lines : List spec.Line) (es : List ℕ) (i d : ℕ) (n : ℕ) (old now all : List ℕ) → i < length es
    → d ≡ get_or es i d
    → AgreeOn n now (old ++ calls_text (map (λ k. call_said p cast v d k.call) lines))
    → AgreeOn n (old ++ calls_text (turns_said p cast v lines (drop i es))) all
    → AgreeOn n (now ++ calls_text (turns_said p cast v lines (drop (i + 1) es))) all
turns_step p cast v lines es i d n old now all h at more inv =
    moved_front n old now (calls_text (map (λ k. call_said p cast v d k.call) lines)) (calls_text (turns_said p cast v lines (drop (i + 1) es))) _ all
    more (ap (λ ks. calls_text (turns_said p cast v lines ks)) (opened_list es i d h at)
    ∙ calls_append (map (λ k. call_said p cast v d k.call) lines) (turns_said p cast v lines (drop (i + 1) es))) inv

pub steps_step : (p : Pattern) (cast : Cast) (v : ℕ) (steps : List Step) (i : ℕ) (d : Step) (n : ℕ) (old now all : List ℕ) → i < length steps
    → d ≡ get_or steps i d
    → AgreeOn n now (old ++ calls_text (step_said p cast v i (step_by d)))
    → AgreeOn n (old ++ calls_text (steps_said p cast v i (map step_by (drop i steps)))) all
    → AgreeOn n (now ++ calls_text (steps_said p cast v (i + 1) (map step_by (drop (i + 1) steps)))) all
steps_step p cast v steps i d n old now all h at more inv =
    moved_front n old now (calls_text (step_said p cast v i (step_by d))) (calls_text (steps_said p cast v (i + 1) (map step_by (drop (i + 1) steps)))) _ all
    more (ap (λ ks. calls_text (steps_said p cast v i ks)) (opened_map step_by steps i d h at)
    ∙ calls_append (step_said p cast v i (step_by d)) (steps_said p cast v (suc i) (map step_by (drop (i + 1) steps)))
    ∙ ap (λ m. calls_text (step_said p cast v i (step_by d)) ++ calls_text (steps_said p cast v m (map step_by (drop (i + 1) steps)))) (sym (add-one i))) inv

-- the lines of a process whose role is there
its_steps : (p : Pattern) (role : ℕ) (r : Role) → slice_get p.roles role ≡ Some (role_by r) → steps_in (slice_get p.roles role) ≡ map step_by r.steps.items
its_steps p role r h = ap steps_in h

-- one process is written
pub process_made : (p : Pattern) (cast : Cast) (role : ℕ) (r : Role) (v n : ℕ) (old mid now : List ℕ) → slice_get p.roles role ≡ Some (role_by r)
    → mid ≡ old ++ line_text (said.Rank (node_name ((cast_of cast).nodes v)))
    → AgreeOn n now (mid ++ calls_text (steps_said p cast v 0 (map step_by r.steps.items)))
    → AgreeOn n now (old ++ flat_map line_text (process_said p cast v role))
process_made p cast role r v n old mid now there first second =
    second ∙ ap (take n)
    (ap (λ t. t ++ calls_text (steps_said p cast v 0 (map step_by r.steps.items))) first
    ∙ append_assoc old (line_text (said.Rank (node_name ((cast_of cast).nodes v)))) (calls_text (steps_said p cast v 0 (map step_by r.steps.items)))
    ∙ ap (λ ss. old ++ (line_text (said.Rank (node_name ((cast_of cast).nodes v))) ++ calls_text (steps_said p cast v 0 ss))) (sym (its_steps p role r there)))

pub process_step : (p : Pattern) (cast : Cast) (role v end n : ℕ) (old now all : List ℕ) → v < end
    → AgreeOn n now (old ++ flat_map line_text (process_said p cast v role))
    → AgreeOn n (old ++ flat_map line_text (role_said p cast role v (end - v))) all
    → AgreeOn n (now ++ flat_map line_text (role_said p cast role (v + 1) (end - (v + 1)))) all
process_step p cast role v end n old now all h more inv =
    moved_front n old now (flat_map line_text (process_said p cast v role)) (flat_map line_text (role_said p cast role (v + 1) (end - (v + 1)))) _ all more
    (ap (flat_map line_text) (said_process p cast role v end h) ∙ flat_map-append line_text (process_said p cast v role) (role_said p cast role (v + 1) (end - (v + 1)))) inv

-- the role of a number, as the code has it
pub role_there : (p : Pattern) (roles : List Role) (n : ℕ) (d : Role) → map role_by roles ≡ p.roles → n < length roles → d ≡ get_or roles n d → slice_get p.roles n ≡ Some (role_by d)
role_there p roles n d is h at =
    ap (λ rs. slice_get rs n) (sym is)
    ∙ slice_get-get_or (map role_by roles) n (role_by d) (omega (arith, h, length-map roles role_by))
    ∙ ap Some (get_or-map role_by roles n d (role_by d) h ∙ ap role_by (sym at))

-- whether a role is of a job, as the code tests it
pub job_is : (p : Pattern) (roles : List Role) (n : ℕ) (d : Role) (job : ℕ) → map role_by roles ≡ p.roles → n < length roles → d ≡ get_or roles n d → d.job ≡ job
    → (job_in (slice_get p.roles n) == job) ≡ true
job_is p roles n d job is h at e = ap (λ o. job_in o == job) (role_there p roles n d is h at) ∙ eq-eqb d.job job e

pub job_differs : (p : Pattern) (roles : List Role) (n : ℕ) (d : Role) (job : ℕ) → map role_by roles ≡ p.roles → n < length roles → d ≡ get_or roles n d → (d.job ≡ job → ⊥)
    → (job_in (slice_get p.roles n) == job) ≡ false
job_differs p roles n d job is h at ne = ap (λ o. job_in o == job) (role_there p roles n d is h at) ∙ ne_eqb d.job job ne

pub members_step : (p : Pattern) (cast : Cast) (job r n : ℕ) (old now all : List ℕ) → r < length cast.sizes → (job_in (slice_get p.roles r) == job) ≡ true
    → AgreeOn n now (old ++ flat_map line_text (role_said p cast r (first_of cast.sizes r) (slice_index_or cast.sizes r 0)))
    → AgreeOn n (old ++ flat_map line_text (members_said p cast job (first_of cast.sizes r) (roles_from r (drop r cast.sizes)))) all
    → AgreeOn n (now ++ flat_map line_text (members_said p cast job (first_of cast.sizes (r + 1)) (roles_from (r + 1) (drop (r + 1) cast.sizes)))) all
members_step p cast job r n old now all h mine more inv =
    let left = members_said p cast job (first_of cast.sizes (r + 1)) (roles_from (r + 1) (drop (r + 1) cast.sizes)) in
    let role = role_said p cast r (first_of cast.sizes r) (slice_index_or cast.sizes r 0) in
    moved_front n old now (flat_map line_text role) (flat_map line_text left) _ all more
    (ap (flat_map line_text) (said_role p cast job r h mine) ∙ flat_map-append line_text role left) inv

pub members_skip : (p : Pattern) (cast : Cast) (job r n : ℕ) (old all : List ℕ) → r < length cast.sizes → (job_in (slice_get p.roles r) == job) ≡ false
    → AgreeOn n (old ++ flat_map line_text (members_said p cast job (first_of cast.sizes r) (roles_from r (drop r cast.sizes)))) all
    → AgreeOn n (old ++ flat_map line_text (members_said p cast job (first_of cast.sizes (r + 1)) (roles_from (r + 1) (drop (r + 1) cast.sizes)))) all
members_skip p cast job r n old all h other inv = ap (λ ms. take n (old ++ flat_map line_text ms)) (sym (said_none p cast job r h other)) ∙ inv

-- the jobs from a number on, as the code has them
jobs_opened : (jobs : List spec.JobLine) (js : List CodeJob) (n : ℕ) (d : CodeJob) → map job_by js ≡ jobs → n < length js → d ≡ get_or js n d → drop n jobs ≡ job_by d ∷ drop (n + 1) jobs
jobs_opened jobs js n d is h at =
    ap (drop n) (sym is)
    ∙ opened_list (map job_by js) n (job_by d) (omega (arith, h, length-map js job_by)) (ap job_by at ∙ sym (get_or-map job_by js n d (job_by d) h))
    ∙ ap (λ t. job_by d ∷ drop (n + 1) t) is

pub jobs_step : (p : Pattern) (cast : Cast) (js : List CodeJob) (j : ℕ) (d : CodeJob) (n : ℕ) (old mid now all : List ℕ) → map job_by js ≡ p.jobs
    → j < length js → d ≡ get_or js j d
    → mid ≡ old ++ line_text (said.Job d.name.items)
    → AgreeOn n now (mid ++ flat_map line_text (members_said p cast j 0 (cast_of cast).roles))
    → AgreeOn n (old ++ flat_map line_text (jobs_said p cast j (map (λ k. k.name) (drop j p.jobs)))) all
    → AgreeOn n (now ++ flat_map line_text (jobs_said p cast (j + 1) (map (λ k. k.name) (drop (j + 1) p.jobs)))) all
jobs_step p cast js j d n old mid now all is h at first second inv =
    let members = members_said p cast j 0 (cast_of cast).roles in
    let line = said.Job d.name.items in
    let left : ℕ → List said.Said = λ m. jobs_said p cast m (map (λ k. k.name) (drop (j + 1) p.jobs)) in
    moved_front n old now (line_text line ++ flat_map line_text members) (flat_map line_text (left (j + 1))) _ all
    (second ∙ ap (take n) (ap (λ t. t ++ flat_map line_text members) first ∙ append_assoc old (line_text line) (flat_map line_text members)))
    (ap (λ ks. flat_map line_text (jobs_said p cast j (map (λ k. k.name) ks))) (jobs_opened p.jobs js j d is h at)
    ∙ ap (λ t. line_text line ++ t) (flat_map-append line_text members (left (suc j)))
    ∙ sym (append_assoc (line_text line) (flat_map line_text members) (flat_map line_text (left (suc j))))
    ∙ ap (λ m. (line_text line ++ flat_map line_text members) ++ flat_map line_text (left m)) (sym (add-one j))) inv

pub node_step : (n end : ℕ) (old now all : List ℕ) → n < end → now ≡ old ++ line_text (said.Node (node_name n))
    → old ++ flat_map line_text (nodes_said n (end - n)) ≡ all → now ++ flat_map line_text (nodes_said (n + 1) (end - (n + 1))) ≡ all
node_step n end old now all h more inv =
    moved old now (line_text (said.Node (node_name n))) (flat_map line_text (nodes_said (n + 1) (end - (n + 1)))) _ all more (ap (flat_map line_text) (said_node n end h)) inv

-- words

pub index_step : {A B : Type 0} (view : A → B) (word : B → List ℕ) (xs : List A) (i : ℕ) (d : A) (between last : ℕ) (old now all : List ℕ) → i < length xs → d ≡ get_or xs i d
    → now ≡ (old ++ between ∷ []) ++ word (view d)
    → old ++ ended_text between last (map word (map view (drop i xs))) ≡ all
    → now ++ ended_text between last (map word (map view (drop (i + 1) xs))) ≡ all
index_step view word xs i d between last old now all h at more inv =
    moved old now (between ∷ word (view d)) (ended_text between last (map word (map view (drop (i + 1) xs)))) _ all
    (more ∙ append_assoc old (between ∷ []) (word (view d)))
    (ap (λ t. ended_text between last (map word t)) (opened_map view xs i d h at)) inv

pub member_step : (p : Pattern) (cast : Cast) (v end n : ℕ) (old now all : List ℕ) → v < end → AgreeOn n now (old ++ (process_text p cast v ++ 44 ∷ []))
    → AgreeOn n (old ++ items_text (map (process_item p cast) (range_with_len v (end - v)))) all
    → AgreeOn n (now ++ items_text (map (process_item p cast) (range_with_len (v + 1) (end - (v + 1))))) all
member_step p cast v end n old now all h more inv =
    moved_front n old now (process_text p cast v ++ 44 ∷ []) (items_text (map (process_item p cast) (range_with_len (v + 1) (end - (v + 1))))) _ all more
    (ap (λ r. items_text (map (process_item p cast) r)) (opened v end h)) inv

pub item_step : (p : Pattern) (cast : Cast) (v e : ℕ) (items : List Item) (i : ℕ) (d : Item) (n : ℕ) (old now all : List ℕ) → i < length items
    → d ≡ get_or items i d
    → AgreeOn n now (old ++ items_text (items_said p cast v e (view_item d)))
    → AgreeOn n (old ++ items_text (flat_map (items_said p cast v e) (map view_item (drop i items)))) all
    → AgreeOn n (now ++ items_text (flat_map (items_said p cast v e) (map view_item (drop (i + 1) items)))) all
item_step p cast v e items i d n old now all h at more inv =
    moved_front n old now (items_text (items_said p cast v e (view_item d))) (items_text (flat_map (items_said p cast v e) (map view_item (drop (i + 1) items)))) _
    all more
    (ap (λ ks. items_text (flat_map (items_said p cast v e) ks)) (opened_map view_item items i d h at)
    ∙ items_append (items_said p cast v e (view_item d)) (flat_map (items_said p cast v e) (map view_item (drop (i + 1) items)))) inv

-- numbers of lines

pub number_step : (lines : List Line) (i : ℕ) (d : Line) (old now all : LineSearch) → i < length lines → d ≡ get_or lines i d → now ≡ past old (d.number ∷ [])
    → past old (map (λ k. k.number) (map line_by (drop i lines))) ≡ all → past now (map (λ k. k.number) (map line_by (drop (i + 1) lines))) ≡ all
number_step lines i d old now all h at more inv =
    moved_past old now (d.number ∷ []) (map (λ k. k.number) (map line_by (drop (i + 1) lines))) _ all more
    (ap (map (λ k. k.number)) (opened_map line_by lines i d h at)) inv

pub each_number : (numbers : List ℕ) (i d : ℕ) (old now all : LineSearch) → i < length numbers → d ≡ get_or numbers i d → now ≡ past old (d ∷ [])
    → past old (drop i numbers) ≡ all → past now (drop (i + 1) numbers) ≡ all
each_number numbers i d old now all h at more inv = moved_past old now (d ∷ []) (drop (i + 1) numbers) _ all more (opened_list numbers i d h at) inv

pub turn_numbers : (piece : ℕ → List ℕ) (es : List ℕ) (i d : ℕ) (old now all : List ℕ) → i < length es → d ≡ get_or es i d → now ≡ old ++ piece d
    → old ++ flat_map piece (drop i es) ≡ all → now ++ flat_map piece (drop (i + 1) es) ≡ all
turn_numbers piece es i d old now all h at more inv =
    moved old now (piece d) (flat_map piece (drop (i + 1) es)) _ all more (ap (flat_map piece) (opened_list es i d h at)) inv

pub turns_passed : (piece : ℕ → List ℕ) (es : List ℕ) (i d : ℕ) (old now all : LineSearch) → i < length es → d ≡ get_or es i d → now ≡ past old (piece d)
    → past old (flat_map piece (drop i es)) ≡ all → past now (flat_map piece (drop (i + 1) es)) ≡ all
turns_passed piece es i d old now all h at more inv =
    moved_past old now (piece d) (flat_map piece (drop (i + 1) es)) _ all more (ap (flat_map piece) (opened_list es i d h at)) inv

pub step_numbers : (cast : Cast) (v : ℕ) (steps : List Step) (i : ℕ) (d : Step) (old now all : LineSearch) → i < length steps → d ≡ get_or steps i d
    → now ≡ past old (step_lines cast v i (step_by d))
    → past old (steps_lines cast v i (map step_by (drop i steps))) ≡ all
    → past now (steps_lines cast v (i + 1) (map step_by (drop (i + 1) steps))) ≡ all
step_numbers cast v steps i d old now all h at more inv =
    moved_past old now (step_lines cast v i (step_by d)) (steps_lines cast v (i + 1) (map step_by (drop (i + 1) steps))) _ all more
    (ap (steps_lines cast v i) (opened_map step_by steps i d h at)
    ∙ ap (λ m. step_lines cast v i (step_by d) ++ steps_lines cast v m (map step_by (drop (i + 1) steps))) (sym (add-one i))) inv

pub process_numbers : (p : Pattern) (cast : Cast) (role : ℕ) (r : Role) (v end : ℕ) (old now all : LineSearch) → slice_get p.roles role ≡ Some (role_by r)
    → v < end
    → now ≡ past old (r.number ∷ steps_lines cast v 0 (map step_by r.steps.items))
    → past old (role_lines p cast role v (end - v)) ≡ all
    → past now (role_lines p cast role (v + 1) (end - (v + 1))) ≡ all
process_numbers p cast role r v end old now all there h more inv =
    moved_past old now (number_in (slice_get p.roles role) ∷ steps_lines cast v 0 (steps_in (slice_get p.roles role)))
    (role_lines p cast role (v + 1) (end - (v + 1))) _ all
    (more ∙ ap (λ o. past old (number_in o ∷ steps_lines cast v 0 (steps_in o))) (sym there))
    (lines_process p cast role v end h) inv

pub members_numbers : (p : Pattern) (cast : Cast) (job n : ℕ) (old now all : LineSearch) → n < length cast.sizes → (job_in (slice_get p.roles n) == job) ≡ true
    → now ≡ past old (role_lines p cast n (first_of cast.sizes n) (slice_index_or cast.sizes n 0))
    → past old (members_lines p cast job (first_of cast.sizes n) (roles_from n (drop n cast.sizes))) ≡ all
    → past now (members_lines p cast job (first_of cast.sizes (n + 1)) (roles_from (n + 1) (drop (n + 1) cast.sizes))) ≡ all
members_numbers p cast job n old now all h mine more inv =
    moved_past old now (role_lines p cast n (first_of cast.sizes n) (slice_index_or cast.sizes n 0))
    (members_lines p cast job (first_of cast.sizes (n + 1)) (roles_from (n + 1) (drop (n + 1) cast.sizes))) _ all more (lines_role p cast job n h mine) inv

pub numbers_skip : (p : Pattern) (cast : Cast) (job n : ℕ) (old all : LineSearch) → n < length cast.sizes → (job_in (slice_get p.roles n) == job) ≡ false
    → past old (members_lines p cast job (first_of cast.sizes n) (roles_from n (drop n cast.sizes))) ≡ all
    → past old (members_lines p cast job (first_of cast.sizes (n + 1)) (roles_from (n + 1) (drop (n + 1) cast.sizes))) ≡ all
numbers_skip p cast job n old all h other inv = ap (past old) (sym (lines_none p cast job n h other)) ∙ inv

pub job_numbers : (p : Pattern) (cast : Cast) (js : List CodeJob) (n : ℕ) (d : CodeJob) (old mid now all : LineSearch) → map job_by js ≡ p.jobs → n < length js
    → d ≡ get_or js n d
    → mid ≡ past old (d.number ∷ [])
    → now ≡ past mid (members_lines p cast n 0 (cast_of cast).roles)
    → past old (jobs_lines p cast n (drop n p.jobs)) ≡ all
    → past now (jobs_lines p cast (n + 1) (drop (n + 1) p.jobs)) ≡ all
job_numbers p cast js n d old mid now all is h at first second inv =
    let members = members_lines p cast n 0 (cast_of cast).roles in
    moved_past old now (d.number ∷ members) (jobs_lines p cast (n + 1) (drop (n + 1) p.jobs)) _ all
    (second ∙ ap (λ s. past s members) first)
    (ap (jobs_lines p cast n) (jobs_opened p.jobs js n d is h at)
    ∙ ap (λ m. (d.number ∷ members) ++ jobs_lines p cast m (drop (n + 1) p.jobs)) (sym (add-one n))) inv
