-- The processes of a job, one role after the other.
use Rattle.std.proofs.Common.{◌≡◌, ◌∙◌, ap, sym, ℕ, zero, suc, ◌+◌, ◌-◌, ◌<◌, ◌==◌, List, [], ◌∷◌, ◌++◌, Bool, true, false, cond, length, drop, replicate, append_assoc, arith, add-one, add-zero}
use Rattle.std.specs.Prelude.{slice_get, slice_index_or}
use Rattle.std.proofs.lemmas.List.Sums.{sum_by_more}
use Rattle.wire_types.specs.Said as said
use Rattle.wire_pattern.specs.Pattern.{Pattern}
use Rattle.wire_pattern.specs.Planned.{steps_in}
use Rattle.wire_pattern.specs.Instances.{Cast, process_said, members_said, members_lines, number_in, steps_lines, roles_from, job_in, nodes_said, node_name}
use Rattle.wire_instances.specs.Tables.{first_of}
use Rattle.wire_instances.specs.Written.{role_said, role_lines}
use Rattle.wire_instances.proofs.Texts.{opened_list, get_or_same}

if_true : {A : Type 0} (b : Bool) (xs ys : List A) → b ≡ true → cond b xs [] ++ ys ≡ xs ++ ys
if_true b xs ys h = ap (λ t. cond t xs [] ++ ys) h

if_false : {A : Type 0} (b : Bool) (xs ys : List A) → b ≡ false → cond b xs [] ++ ys ≡ ys
if_false b xs ys h = ap (λ t. cond t xs [] ++ ys) h

said_mine : (p : Pattern) (cast : Cast) (job role n v : ℕ) (rest : List ℕ) → (job_in (slice_get p.roles role) == job) ≡ true
    → members_said p cast job v (replicate n role ++ rest) ≡ role_said p cast role v n ++ members_said p cast job (v + n) rest
said_mine p cast job role zero v rest h = ap (λ w. members_said p cast job w rest) (sym (add-zero v))
said_mine p cast job role (suc n) v rest h =
    let e : suc v + n ≡ v + suc n = omega arith in
    if_true (job_in (slice_get p.roles role) == job) (process_said p cast v role) (members_said p cast job (suc v) (replicate n role ++ rest)) h
    ∙ ap (λ t. process_said p cast v role ++ t) (said_mine p cast job role n (suc v) rest h ∙ ap (λ w. role_said p cast role (suc v) n ++ members_said p cast job w rest) e)
    ∙ sym (append_assoc (process_said p cast v role) (role_said p cast role (suc v) n) (members_said p cast job (v + suc n) rest))

said_others : (p : Pattern) (cast : Cast) (job role n v : ℕ) (rest : List ℕ) → (job_in (slice_get p.roles role) == job) ≡ false
    → members_said p cast job v (replicate n role ++ rest) ≡ members_said p cast job (v + n) rest
said_others p cast job role zero v rest h = ap (λ w. members_said p cast job w rest) (sym (add-zero v))
said_others p cast job role (suc n) v rest h =
    let e : suc v + n ≡ v + suc n = omega arith in
    if_false (job_in (slice_get p.roles role) == job) (process_said p cast v role) (members_said p cast job (suc v) (replicate n role ++ rest)) h
    ∙ said_others p cast job role n (suc v) rest h ∙ ap (λ w. members_said p cast job w rest) e

lines_mine : (p : Pattern) (cast : Cast) (job role n v : ℕ) (rest : List ℕ) → (job_in (slice_get p.roles role) == job) ≡ true
    → members_lines p cast job v (replicate n role ++ rest) ≡ role_lines p cast role v n ++ members_lines p cast job (v + n) rest
lines_mine p cast job role zero v rest h = ap (λ w. members_lines p cast job w rest) (sym (add-zero v))
lines_mine p cast job role (suc n) v rest h =
    let e : suc v + n ≡ v + suc n = omega arith in
    let mine = number_in (slice_get p.roles role) ∷ steps_lines cast v 0 (steps_in (slice_get p.roles role)) in
    if_true (job_in (slice_get p.roles role) == job) mine (members_lines p cast job (suc v) (replicate n role ++ rest)) h
    ∙ ap (λ t. mine ++ t) (lines_mine p cast job role n (suc v) rest h ∙ ap (λ w. role_lines p cast role (suc v) n ++ members_lines p cast job w rest) e)
    ∙ sym (append_assoc mine (role_lines p cast role (suc v) n) (members_lines p cast job (v + suc n) rest))

lines_others : (p : Pattern) (cast : Cast) (job role n v : ℕ) (rest : List ℕ) → (job_in (slice_get p.roles role) == job) ≡ false
    → members_lines p cast job v (replicate n role ++ rest) ≡ members_lines p cast job (v + n) rest
lines_others p cast job role zero v rest h = ap (λ w. members_lines p cast job w rest) (sym (add-zero v))
lines_others p cast job role (suc n) v rest h =
    let e : suc v + n ≡ v + suc n = omega arith in
    if_false (job_in (slice_get p.roles role) == job) (number_in (slice_get p.roles role) ∷ steps_lines cast v 0 (steps_in (slice_get p.roles role))) (members_lines p cast job (suc v) (replicate n role ++ rest)) h
    ∙ lines_others p cast job role n (suc v) rest h ∙ ap (λ w. members_lines p cast job w rest) e

-- the roles of the processes from a role on
opened_roles : (sizes : List ℕ) (r : ℕ) → r < length sizes → roles_from r (drop r sizes) ≡ replicate (slice_index_or sizes r 0) r ++ roles_from (r + 1) (drop (r + 1) sizes)
opened_roles sizes r h = ap (roles_from r) (opened_list sizes r (slice_index_or sizes r 0) h (get_or_same sizes r 0 h)) ∙ ap (λ m. replicate (slice_index_or sizes r 0) r ++ roles_from m (drop (r + 1) sizes)) (sym (add-one r))

next_first : (sizes : List ℕ) (r : ℕ) → r < length sizes → first_of sizes r + slice_index_or sizes r 0 ≡ first_of sizes (r + 1)
next_first sizes r h = sym (sum_by_more (λ (size : ℕ). size) sizes r 0 h)

pub said_role : (p : Pattern) (cast : Cast) (job r : ℕ) → r < length cast.sizes → (job_in (slice_get p.roles r) == job) ≡ true
    → members_said p cast job (first_of cast.sizes r) (roles_from r (drop r cast.sizes))
    ≡ role_said p cast r (first_of cast.sizes r) (slice_index_or cast.sizes r 0) ++ members_said p cast job (first_of cast.sizes (r + 1)) (roles_from (r + 1) (drop (r + 1) cast.sizes))
said_role p cast job r h b =
    ap (members_said p cast job (first_of cast.sizes r)) (opened_roles cast.sizes r h)
    ∙ said_mine p cast job r (slice_index_or cast.sizes r 0) (first_of cast.sizes r) (roles_from (r + 1) (drop (r + 1) cast.sizes)) b
    ∙ ap (λ w. role_said p cast r (first_of cast.sizes r) (slice_index_or cast.sizes r 0) ++ members_said p cast job w (roles_from (r + 1) (drop (r + 1) cast.sizes))) (next_first cast.sizes r h)

pub said_none : (p : Pattern) (cast : Cast) (job r : ℕ) → r < length cast.sizes → (job_in (slice_get p.roles r) == job) ≡ false
    → members_said p cast job (first_of cast.sizes r) (roles_from r (drop r cast.sizes)) ≡ members_said p cast job (first_of cast.sizes (r + 1)) (roles_from (r + 1) (drop (r + 1) cast.sizes))
said_none p cast job r h b =
    ap (members_said p cast job (first_of cast.sizes r)) (opened_roles cast.sizes r h)
    ∙ said_others p cast job r (slice_index_or cast.sizes r 0) (first_of cast.sizes r) (roles_from (r + 1) (drop (r + 1) cast.sizes)) b
    ∙ ap (λ w. members_said p cast job w (roles_from (r + 1) (drop (r + 1) cast.sizes))) (next_first cast.sizes r h)

pub lines_role : (p : Pattern) (cast : Cast) (job r : ℕ) → r < length cast.sizes → (job_in (slice_get p.roles r) == job) ≡ true
    → members_lines p cast job (first_of cast.sizes r) (roles_from r (drop r cast.sizes))
    ≡ role_lines p cast r (first_of cast.sizes r) (slice_index_or cast.sizes r 0) ++ members_lines p cast job (first_of cast.sizes (r + 1)) (roles_from (r + 1) (drop (r + 1) cast.sizes))
lines_role p cast job r h b =
    ap (members_lines p cast job (first_of cast.sizes r)) (opened_roles cast.sizes r h)
    ∙ lines_mine p cast job r (slice_index_or cast.sizes r 0) (first_of cast.sizes r) (roles_from (r + 1) (drop (r + 1) cast.sizes)) b
    ∙ ap (λ w. role_lines p cast r (first_of cast.sizes r) (slice_index_or cast.sizes r 0) ++ members_lines p cast job w (roles_from (r + 1) (drop (r + 1) cast.sizes))) (next_first cast.sizes r h)

pub lines_none : (p : Pattern) (cast : Cast) (job r : ℕ) → r < length cast.sizes → (job_in (slice_get p.roles r) == job) ≡ false
    → members_lines p cast job (first_of cast.sizes r) (roles_from r (drop r cast.sizes)) ≡ members_lines p cast job (first_of cast.sizes (r + 1)) (roles_from (r + 1) (drop (r + 1) cast.sizes))
lines_none p cast job r h b =
    ap (members_lines p cast job (first_of cast.sizes r)) (opened_roles cast.sizes r h)
    ∙ lines_others p cast job r (slice_index_or cast.sizes r 0) (first_of cast.sizes r) (roles_from (r + 1) (drop (r + 1) cast.sizes)) b
    ∙ ap (λ w. members_lines p cast job w (roles_from (r + 1) (drop (r + 1) cast.sizes))) (next_first cast.sizes r h)

-- one process of a role
fewer : (v end : ℕ) → v < end → end - v ≡ suc (end - (v + 1))
fewer v end h = omega (arith, h)

pub said_process : (p : Pattern) (cast : Cast) (role v end : ℕ) → v < end → role_said p cast role v (end - v) ≡ process_said p cast v role ++ role_said p cast role (v + 1) (end - (v + 1))
said_process p cast role v end h = ap (role_said p cast role v) (fewer v end h) ∙ ap (λ w. process_said p cast v role ++ role_said p cast role w (end - (v + 1))) (sym (add-one v))

pub lines_process : (p : Pattern) (cast : Cast) (role v end : ℕ) → v < end
    → role_lines p cast role v (end - v) ≡ (number_in (slice_get p.roles role) ∷ steps_lines cast v 0 (steps_in (slice_get p.roles role))) ++ role_lines p cast role (v + 1) (end - (v + 1))
lines_process p cast role v end h =
    ap (role_lines p cast role v) (fewer v end h)
    ∙ ap (λ w. (number_in (slice_get p.roles role) ∷ steps_lines cast v 0 (steps_in (slice_get p.roles role))) ++ role_lines p cast role w (end - (v + 1))) (sym (add-one v))

pub said_node : (n end : ℕ) → n < end → nodes_said n (end - n) ≡ said.Node (node_name n) ∷ nodes_said (n + 1) (end - (n + 1))
said_node n end h = ap (nodes_said n) (fewer n end h) ∙ ap (λ w. said.Node (node_name n) ∷ nodes_said w (end - (n + 1))) (sym (add-one n))
