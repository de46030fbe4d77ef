-- The words of a line say one thing.
use Rattle.std.proofs.Common.{◌≡◌, ◌∙◌, ap, sym, refl, subst, true≢false, ℕ, List, [], ◌∷◌, ◌++◌, ◌<◌, ◌≤◌, Bool, true, false, length, map, decimal, codes, arith, if◌then◌else◌}
use Rattle.std.specs.Str.{bytes_eq}
use Rattle.std.specs.Prelude.{◌==◌, not}
use Rattle.std.specs.List.{slice_split, list_all, join_with_byte}
use Rattle.std.proofs.lemmas.Fmt.{decimal_injective}
use borrow.Author.Tests.{leb-true, eqb-true}
use Rattle.wire_runs.specs.Patterns.{Turns, InOrder, Round, Chosen}
use Rattle.wire_types.specs.Said.{spelled_scope, collect_words}
use Rattle.wire_lines.proofs.Colon.{plain, names_plain, and_left, and_right}
use Rattle.wire_lines.proofs.Joined.{comma}
use Rattle.wire_lines.proofs.SaysOnce.{scope_once, collect_once}
use Rattle.wire_pattern.specs.Lawful.{is_base}
use Rattle.wire_pattern_lines.specs.Said.{Proc, Caller, Each, Named, Key, Item, One, Every, Set, Own, Listed, Call, Put, Commit, Fence, Get, GetNow, Publish, Lookup}
use Rattle.wire_pattern_lines.specs.Said.{LookupWait, Unpublish, UnpublishAll, Said, Header, Keep, Job, Single, Many, Begin, End, Calls}
use Rattle.wire_pattern_lines.specs.Said.{spelled_proc, is_lawful_proc, spelled_key, is_lawful_key, spelled_item, is_lawful_item, spelled_set, is_lawful_set, is_role_name, is_kept_word}
use Rattle.wire_pattern_lines.specs.Said.{is_lawful, is_lawful_call, first_word, other_words, first_of_call, others_of_call, min_words, turn_words, are_loop_roles}
use Rattle.wire_pattern_lines.specs.Once.{SaysOnce}
use Rattle.wire_pattern_lines.proofs.Bracket.{base_closed, last_once, key_cut}
use Rattle.wire_pattern_lines.proofs.Parts.{cut_list, proc_plain, item_plain}
use Rattle.wire_pattern_lines.proofs.Items.{star_once}
use Rattle.wire_pattern_lines.proofs.RoleLists.{roles_once, round_names}

-- each kind of line and of call has a number that its word shows
abbrev kind : Said → ℕ
kind Header = 0
kind Keep = 1
kind (Job name) = 2
kind (Single name) = 3
kind (Many name least) = 4
kind (Begin turns group) = 5
kind End = 6
kind (Calls call) = 7

abbrev kind_of_call : Call → ℕ
kind_of_call (Put scope key value) = 0
kind_of_call Commit = 1
kind_of_call (Fence set collect) = 2
kind_of_call (Get owner key) = 3
kind_of_call (GetNow owner key) = 4
kind_of_call (Publish name value) = 5
kind_of_call (Lookup name) = 6
kind_of_call (LookupWait name) = 7
kind_of_call (Unpublish name) = 8
kind_of_call UnpublishAll = 8

abbrev shown : List ℕ → ℕ
shown w = if bytes_eq w (codes "pattern") then 0 else if bytes_eq w (codes "keep") then 1 else if bytes_eq w (codes "job") then 2
    else if bytes_eq w (codes "one") then 3 else if bytes_eq w (codes "many") then 4 else if bytes_eq w (codes "for") then 5
    else if bytes_eq w (codes "end") then 6 else 7

abbrev shown_of_call : List ℕ → ℕ
shown_of_call w =
    if bytes_eq w (codes "put") then 0 else if bytes_eq w (codes "commit") then 1 else if bytes_eq w (codes "fence") then 2
    else if bytes_eq w (codes "get") then 3 else if bytes_eq w (codes "get-now") then 4 else if bytes_eq w (codes "publish") then 5
    else if bytes_eq w (codes "lookup") then 6 else if bytes_eq w (codes "lookup-wait") then 7 else 8

shows : (a : Said) → shown (first_word a) ≡ kind a
shows Header = refl
shows Keep = refl
shows (Job name) = refl
shows (Single name) = refl
shows (Many name least) = refl
shows (Begin turns group) = refl
shows End = refl
shows (Calls (Put scope key value)) = refl
shows (Calls Commit) = refl
shows (Calls (Fence set collect)) = refl
shows (Calls (Get owner key)) = refl
shows (Calls (GetNow owner key)) = refl
shows (Calls (Publish name value)) = refl
shows (Calls (Lookup name)) = refl
shows (Calls (LookupWait name)) = refl
shows (Calls (Unpublish name)) = refl
shows (Calls UnpublishAll) = refl

shows_call : (a : Call) → shown_of_call (first_of_call a) ≡ kind_of_call a
shows_call (Put scope key value) = refl
shows_call Commit = refl
shows_call (Fence set collect) = refl
shows_call (Get owner key) = refl
shows_call (GetNow owner key) = refl
shows_call (Publish name value) = refl
shows_call (Lookup name) = refl
shows_call (LookupWait name) = refl
shows_call (Unpublish name) = refl
shows_call UnpublishAll = refl

-- a word that names no role
no_role : (word role : List ℕ) → is_kept_word word ≡ true → is_role_name role ≡ true → word ≡ role → ⊥
no_role word role kept named e = go (is_kept_word role) (subst (λ w. is_kept_word w ≡ true) e kept) (and_right _ _ named)
  where
    go : (b : Bool) → b ≡ true → not b ≡ true → ⊥
    go true k n = true≢false (sym n)
    go false k n = true≢false (sym k)

proc_once : (a b : Proc) → is_lawful_proc a ≡ true → is_lawful_proc b ≡ true → spelled_proc a ≡ spelled_proc b → a ≡ b
proc_once Caller Caller la lb e = refl
proc_once Caller Each la lb e = absurd (true≢false (ap (λ w. bytes_eq w (codes "self")) e))
proc_once Caller (Named role) la lb e = absurd (no_role (codes "self") role refl lb e)
proc_once Each Caller la lb e = absurd (true≢false (ap (λ w. bytes_eq w (codes "each")) e))
proc_once Each Each la lb e = refl
proc_once Each (Named role) la lb e = absurd (no_role (codes "each") role refl lb e)
proc_once (Named role) Caller la lb e = absurd (no_role (codes "self") role refl la (sym e))
proc_once (Named role) Each la lb e = absurd (no_role (codes "each") role refl la (sym e))
proc_once (Named r) (Named s) la lb e = ap Named e

module _ {X : Type 0} (spelled : X → List ℕ) (lawful : X → Bool) (once : (a b : X) → lawful a ≡ true → lawful b ≡ true → spelled a ≡ spelled b → a ≡ b) where
  parts_once : (xs ys : List X) → list_all lawful xs ≡ true → list_all lawful ys ≡ true → map spelled xs ≡ map spelled ys → xs ≡ ys
  parts_once [] [] la lb e = refl
  parts_once [] (b ∷ ys) la lb e = absurd (cc)
  parts_once (a ∷ xs) [] la lb e = absurd (cc)
  parts_once (a ∷ xs) (b ∷ ys) la lb e =
      let first : spelled a ≡ spelled b = cc in
      let others : map spelled xs ≡ map spelled ys = cc in
      let x = once a b (and_left _ _ la) (and_left _ _ lb) first in
      let rest = parts_once xs ys (and_right _ _ la) (and_right _ _ lb) others in cc

procs_once : (ps qs : List Proc) → 0 < length ps → 0 < length qs → list_all is_lawful_proc ps ≡ true → list_all is_lawful_proc qs ≡ true
    → join_with_byte 44 (map spelled_proc ps) ≡ join_with_byte 44 (map spelled_proc qs) → ps ≡ qs
procs_once ps qs sp sq lp lq e = parts_once spelled_proc is_lawful_proc proc_once ps qs lp lq
    (sym (cut_list spelled_proc is_lawful_proc proc_plain ps sp lp) ∙ ap (slice_split comma) e ∙ cut_list spelled_proc is_lawful_proc proc_plain qs sq lq)

key_parts_once : (a : List ℕ) (xs : List Proc) (b : List ℕ) (ys : List Proc) → is_lawful_key (record { base = a; indices = xs }) ≡ true → is_lawful_key (record { base = b; indices = ys }) ≡ true
    → spelled_key (record { base = a; indices = xs }) ≡ spelled_key (record { base = b; indices = ys }) → (a ≡ b) × (xs ≡ ys)
key_parts_once a [] b [] la lb e = (e, refl)
key_parts_once a [] b (y ∷ ys) la lb e =
    let c = key_cut b (join_with_byte 44 (map spelled_proc (y ∷ ys)) ++ 93 ∷ []) (record { base = a; indices = [] }) (base_closed b (and_left _ _ lb)) la (sym e) in
    let some = c.1 in absurd (omega arith)
key_parts_once a (x ∷ xs) b [] la lb e =
    let c = key_cut a (join_with_byte 44 (map spelled_proc (x ∷ xs)) ++ 93 ∷ []) (record { base = b; indices = [] }) (base_closed a (and_left _ _ la)) lb e in
    let some = c.1 in absurd (omega arith)
key_parts_once a (x ∷ xs) b (y ∷ ys) la lb e =
    let c = key_cut b (join_with_byte 44 (map spelled_proc (y ∷ ys)) ++ 93 ∷ []) (record { base = a; indices = x ∷ xs }) (base_closed b (and_left _ _ lb)) la (sym e) in
    let j = last_once (join_with_byte 44 (map spelled_proc (y ∷ ys))) (join_with_byte 44 (map spelled_proc (x ∷ xs))) 93 c.2 in
    (sym c.0, procs_once (x ∷ xs) (y ∷ ys) (omega arith) (omega arith) (and_right _ _ la) (and_right _ _ lb) (sym j))

key_once : (a b : Key) → is_lawful_key a ≡ true → is_lawful_key b ≡ true → spelled_key a ≡ spelled_key b → a ≡ b
key_once a b la lb e = let p = key_parts_once a.base a.indices b.base b.indices la lb e in λ t. record { base = p.0 t; indices = p.1 t }

no_star_end : (xs : List ℕ) → list_all plain (xs ++ codes ":*") ≡ true → ⊥
no_star_end [] h = true≢false (sym h)
no_star_end (x ∷ xs) h = no_star_end xs (and_right _ _ h)

proc_no_colon : (p : Proc) → is_lawful_proc p ≡ true → list_all plain (spelled_proc p) ≡ true
proc_no_colon Caller h = refl
proc_no_colon Each h = refl
proc_no_colon (Named role) h = names_plain role (and_right _ _ (and_left _ _ (and_left _ _ h)))

no_star_proc : (p : Proc) (job : List ℕ) → is_lawful_proc p ≡ true → spelled_proc p ≡ job ++ codes ":*" → ⊥
no_star_proc p job l e = no_star_end job (subst (λ w. list_all plain w ≡ true) e (proc_no_colon p l))

item_once : (a b : Item) → is_lawful_item a ≡ true → is_lawful_item b ≡ true → spelled_item a ≡ spelled_item b → a ≡ b
item_once (One p) (One q) la lb e = ap One (proc_once p q la lb e)
item_once (One p) (Every k) la lb e = absurd (no_star_proc p k la e)
item_once (Every j) (One q) la lb e = absurd (no_star_proc q j lb (sym e))
item_once (Every j) (Every k) la lb e = ap Every (star_once j k e)

no_all : (i : Item) → is_lawful_item i ≡ true → spelled_item i ≡ codes "all" → ⊥
no_all (One Caller) l e = true≢false (ap (λ w. bytes_eq w (codes "self")) e)
no_all (One Each) l e = true≢false (ap (λ w. bytes_eq w (codes "each")) e)
no_all (One (Named role)) l e = no_role (codes "all") role refl l (sym e)
no_all (Every job) l e = no_star_end job (subst (λ w. list_all plain w ≡ true) (sym e) refl)

not_all : (items : List Item) → is_lawful_set (Listed items) ≡ true → spelled_set (Listed items) ≡ codes "all" → ⊥
not_all [] l e = true≢false (sym l)
not_all (i ∷ items) l e =
    let cut : map spelled_item (i ∷ items) ≡ codes "all" ∷ [] = sym (cut_list spelled_item is_lawful_item item_plain (i ∷ items) (omega arith) l) ∙ ap (slice_split comma) e in
    let first : spelled_item i ≡ codes "all" = cc in
    no_all i (and_left _ _ l) first

listed_once : (is js : List Item) → is_lawful_set (Listed is) ≡ true → is_lawful_set (Listed js) ≡ true
    → spelled_set (Listed is) ≡ spelled_set (Listed js) → is ≡ js
listed_once [] js la lb e = absurd (true≢false (sym la))
listed_once (i ∷ is) [] la lb e = absurd (true≢false (sym lb))
listed_once (i ∷ is) (j ∷ js) la lb e =
    parts_once spelled_item is_lawful_item item_once (i ∷ is) (j ∷ js) la lb
    (sym (cut_list spelled_item is_lawful_item item_plain (i ∷ is) (omega arith) la) ∙ ap (slice_split comma) e
    ∙ cut_list spelled_item is_lawful_item item_plain (j ∷ js) (omega arith) lb)

set_once : (a b : Set) → is_lawful_set a ≡ true → is_lawful_set b ≡ true → spelled_set a ≡ spelled_set b → a ≡ b
set_once Own Own la lb e = refl
set_once Own (Listed js) la lb e = absurd (not_all js lb (sym e))
set_once (Listed is) Own la lb e = absurd (not_all is la e)
set_once (Listed is) (Listed js) la lb e = ap Listed (listed_once is js la lb e)

-- a star is no key
no_star_key : (base : List ℕ) (is : List Proc) → is_base base ≡ true → spelled_key (record { base = base; indices = is }) ≡ codes "*" → ⊥
no_star_key base [] l e = let bad : is_base (codes "*") ≡ true = subst (λ w. is_base w ≡ true) e l in true≢false (sym bad)
no_star_key [] (i ∷ is) l e = true≢false (sym l)
no_star_key (b ∷ []) (i ∷ is) l e = cc
no_star_key (b ∷ c ∷ bs) (i ∷ is) l e = cc

call_once : (a b : Call) → kind_of_call a ≡ kind_of_call b → others_of_call a ≡ others_of_call b → is_lawful_call a ≡ true → is_lawful_call b ≡ true → a ≡ b
call_once (Put s k v) (Put t l w) h e la lb =
    let scopes : spelled_scope s ≡ spelled_scope t = cc in
    let keys : spelled_key k ≡ spelled_key l = cc in
    let values : v ≡ w = cc in
    let scope = scope_once s t scopes in
    let key = key_once k l (and_left _ _ la) (and_left _ _ lb) keys in cc
call_once Commit Commit h e la lb = refl
call_once (Fence s c) (Fence t d) h e la lb =
    let spelled : spelled_set s ≡ spelled_set t = cc in
    let word : collect_words c ≡ collect_words d = cc in
    let set = set_once s t la lb spelled in
    let collect = collect_once c d word in cc
call_once (Get o k) (Get p l) h e la lb =
    let owners : spelled_proc o ≡ spelled_proc p = cc in
    let keys : spelled_key k ≡ spelled_key l = cc in
    let owner = proc_once o p (and_left _ _ la) (and_left _ _ lb) owners in
    let key = key_once k l (and_right _ _ la) (and_right _ _ lb) keys in cc
call_once (GetNow o k) (GetNow p l) h e la lb =
    let owners : spelled_proc o ≡ spelled_proc p = cc in
    let keys : spelled_key k ≡ spelled_key l = cc in
    let owner = proc_once o p (and_left _ _ la) (and_left _ _ lb) owners in
    let key = key_once k l (and_right _ _ la) (and_right _ _ lb) keys in cc
call_once (Publish k v) (Publish l w) h e la lb =
    let keys : spelled_key k ≡ spelled_key l = cc in
    let values : v ≡ w = cc in
    let key = key_once k l (and_left _ _ la) (and_left _ _ lb) keys in cc
call_once (Lookup k) (Lookup l) h e la lb = let keys : spelled_key k ≡ spelled_key l = cc in ap Lookup (key_once k l la lb keys)
call_once (LookupWait k) (LookupWait l) h e la lb = let keys : spelled_key k ≡ spelled_key l = cc in ap LookupWait (key_once k l la lb keys)
call_once (Unpublish k) (Unpublish l) h e la lb = let keys : spelled_key k ≡ spelled_key l = cc in ap Unpublish (key_once k l la lb keys)
call_once (Unpublish k) UnpublishAll h e la lb = let word : spelled_key k ≡ codes "*" = cc in absurd (no_star_key k.base k.indices (and_left _ _ la) word)
call_once UnpublishAll (Unpublish l) h e la lb = let word : spelled_key l ≡ codes "*" = cc in absurd (no_star_key l.base l.indices (and_left _ _ lb) word)
call_once UnpublishAll UnpublishAll h e la lb = refl
call_once _ _ h e la lb = absurd (omega arith)

round_chosen : (gs hs : List (List ℕ)) → are_loop_roles Round gs ≡ true → turn_words Round gs ≡ turn_words Chosen hs → ⊥
round_chosen [] hs lg e = true≢false (sym lg)
round_chosen (g ∷ []) hs lg e = let word : codes "some" ≡ g = cc in no_role (codes "some") g refl lg word
round_chosen (g ∷ i ∷ gs) hs lg e = true≢false (sym lg)

turns_once : (t u : Turns) (gs hs : List (List ℕ)) → are_loop_roles t gs ≡ true → are_loop_roles u hs ≡ true → turn_words t gs ≡ turn_words u hs → (t ≡ u) × (gs ≡ hs)
turns_once InOrder InOrder gs hs lg lh e = let word : join_with_byte 44 gs ≡ join_with_byte 44 hs = cc in (refl, roles_once gs hs lg lh word)
turns_once InOrder Round gs hs lg lh e = absurd (cc)
turns_once InOrder Chosen gs hs lg lh e = absurd (cc)
turns_once Round InOrder gs hs lg lh e = absurd (cc)
turns_once Round Round gs hs lg lh e =
    let word : join_with_byte 44 gs ≡ join_with_byte 44 hs = cc in (refl, roles_once gs hs (round_names gs lg) (round_names hs lh) word)
turns_once Round Chosen gs hs lg lh e = absurd (round_chosen gs hs lg e)
turns_once Chosen InOrder gs hs lg lh e = absurd (cc)
turns_once Chosen Round gs hs lg lh e = absurd (round_chosen hs gs lh (sym e))
turns_once Chosen Chosen gs hs lg lh e = let word : join_with_byte 44 gs ≡ join_with_byte 44 hs = cc in (refl, roles_once gs hs lg lh word)

min_once : (m n : ℕ) → m ≤ 9 → n ≤ 9 → min_words m ≡ min_words n → m ≡ n
min_once m n lm ln e = go (m == 0) (n == 0) refl refl e
  where
    go : (t u : Bool) → (m == 0) ≡ t → (n == 0) ≡ u → (if t then [] else codes "min" ∷ decimal m ∷ []) ≡ (if u then [] else codes "min" ∷ decimal n ∷ []) → m ≡ n
    go true true p q h = eqb-true m 0 p ∙ sym (eqb-true n 0 q)
    go true false p q h = absurd (cc)
    go false true p q h = absurd (cc)
    go false false p q h = let numbers : decimal m ≡ decimal n = cc in decimal_injective m n (omega arith) (omega arith) numbers

once : (a b : Said) → kind a ≡ kind b → first_word a ≡ first_word b → other_words a ≡ other_words b → is_lawful a ≡ true → is_lawful b ≡ true → a ≡ b
once Header Header h f e la lb = refl
once Keep Keep h f e la lb = refl
once (Job x) (Job y) h f e la lb = cc
once (Single x) (Single y) h f e la lb = cc
once (Many x m) (Many y n) h f e la lb =
    let names : x ≡ y = cc in
    let words : min_words m ≡ min_words n = cc in
    let least = min_once m n (leb-true _ _ (and_right _ _ la)) (leb-true _ _ (and_right _ _ lb)) words in cc
once (Begin t x) (Begin u y) h f e la lb = let p = turns_once t u x y la lb e in let turns = p.0 in let group = p.1 in cc
once End End h f e la lb = refl
once (Calls a) (Calls b) h f e la lb = ap Calls (call_once a b (sym (shows_call a) ∙ ap shown_of_call f ∙ shows_call b) e la lb)
once _ _ h f e la lb = absurd (omega arith)

pub says_once : SaysOnce
says_once words a b sa sb =
    let same : first_word a ∷ other_words a ≡ first_word b ∷ other_words b = sym sa.0 ∙ sb.0 in
    let first : first_word a ≡ first_word b = cc same in
    let others : other_words a ≡ other_words b = cc same in
    once a b (sym (shows a) ∙ ap shown first ∙ shows b) first others sa.1 sb.1
