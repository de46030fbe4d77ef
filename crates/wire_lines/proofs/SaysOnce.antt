-- The words of a line say one thing.
use Rattle.std.proofs.Common.{◌≡◌, ◌∙◌, ap, sym, refl, subst, true≢false, ℕ, List, [], ◌∷◌, ◌<◌, ◌^◌, Bool, true, false, length, map, decimal, codes, IsTrue, arith, if◌then◌else◌}
use Rattle.std.specs.Str.{bytes_eq}
use Rattle.std.proofs.lemmas.Fmt.{decimal_injective}
use Rattle.std.specs.List.{slice_split}
use Rattle.wire_types.specs.Said.{Item, One, Every, Set, Own, Listed, Call, Put, Commit, Fence, Get, GetNow, Publish, Lookup}
use Rattle.wire_types.specs.Said.{LookupWait, Unpublish, UnpublishAll, Said, Header, Keep, Node, Job, Rank, Calls}
use Rattle.wire_types.specs.Said.{IsLawfulLine, IsLawfulCall, IsLawfulSet, IsLawfulItem, AreLawful, first_word, other_words, first_of_call}
use Rattle.wire_types.specs.Said.{others_of_call, collect_words, spelled_proc, spelled_scope, spelled_version}
use Rattle.wire_types.specs.Said.{spelled_item, spelled_set, is_name, is_key}
use Rattle.wire_types.specs.declared.Scope.{Scope}
use Rattle.wire_types.specs.declared.Scope.TheVariants.{Local, Remote, Global}
use Rattle.wire_types.specs.declared.version.Version.{Version}
use Rattle.wire_types.specs.declared.version.Version.TheVariants as version
use Rattle.wire_lines.specs.Once.{SaysOnce}
use Rattle.wire_lines.proofs.Colon.{names_plain, cut_once, and_right, colon_none}
use Rattle.wire_lines.proofs.Joined.{comma, cut_items, decimal_digits, no_colon_item}

-- each kind of line, of call and of scope has a number that its word shows
abbrev kind : Said → ℕ
kind (Header version) = 0
kind (Node name) = 1
kind (Job name) = 2
kind (Rank node) = 3
kind (Calls call) = 4
kind Keep = 5

abbrev kind_of_call : Call → ℕ
kind_of_call (Put scope key value) = 0
kind_of_call Commit = 1
kind_of_call (Fence set collect) = 2
kind_of_call (Get job rank key) = 3
kind_of_call (GetNow job rank key) = 4
kind_of_call (Publish name value) = 5
kind_of_call (Lookup name) = 6
kind_of_call (LookupWait name) = 7
kind_of_call (Unpublish name) = 8
kind_of_call UnpublishAll = 8

abbrev shown : List ℕ → ℕ
shown w = if bytes_eq w (codes "rehearsal") then 0 else if bytes_eq w (codes "node") then 1 else if bytes_eq w (codes "job") then 2
    else if bytes_eq w (codes "rank") then 3 else if bytes_eq w (codes "keep") then 5 else 4

abbrev shown_of_call : List ℕ → ℕ
shown_of_call w =
    if bytes_eq w (codes "put") then 0 else if bytes_eq w (codes "commit") then 1 else if bytes_eq w (codes "fence") then 2
    else if bytes_eq w (codes "get") then 3 else if bytes_eq w (codes "get-now") then 4 else if bytes_eq w (codes "publish") then 5
    else if bytes_eq w (codes "lookup") then 6 else if bytes_eq w (codes "lookup-wait") then 7 else 8

shows : (a : Said) → shown (first_word a) ≡ kind a
shows (Header version) = refl
shows Keep = refl
shows (Node name) = refl
shows (Job name) = refl
shows (Rank node) = refl
shows (Calls (Put scope key value)) = refl
shows (Calls Commit) = refl
shows (Calls (Fence set collect)) = refl
shows (Calls (Get job rank key)) = refl
shows (Calls (GetNow job rank key)) = refl
shows (Calls (Publish name value)) = refl
shows (Calls (Lookup name)) = refl
shows (Calls (LookupWait name)) = refl
shows (Calls (Unpublish name)) = refl
shows (Calls UnpublishAll) = refl

shows_call : (a : Call) → shown_of_call (first_of_call a) ≡ kind_of_call a
shows_call (Put scope key value) = refl
shows_call Commit = refl
shows_call (Fence set collect) = refl
shows_call (Get job rank key) = refl
shows_call (GetNow job rank key) = refl
shows_call (Publish name value) = refl
shows_call (Lookup name) = refl
shows_call (LookupWait name) = refl
shows_call (Unpublish name) = refl
shows_call UnpublishAll = refl

abbrev number_of_scope : Scope → ℕ
number_of_scope Local = 0
number_of_scope Remote = 1
number_of_scope Global = 2

abbrev shown_of_scope : List ℕ → ℕ
shown_of_scope w = if bytes_eq w (codes "local") then 0 else if bytes_eq w (codes "remote") then 1 else 2

shows_scope : (s : Scope) → shown_of_scope (spelled_scope s) ≡ number_of_scope s
shows_scope Local = refl
shows_scope Remote = refl
shows_scope Global = refl

scope_by_number : (s t : Scope) → number_of_scope s ≡ number_of_scope t → s ≡ t
scope_by_number Local Local e = refl
scope_by_number Remote Remote e = refl
scope_by_number Global Global e = refl
scope_by_number _ _ e = absurd (omega arith)

pub scope_once : (s t : Scope) → spelled_scope s ≡ spelled_scope t → s ≡ t
scope_once s t e = scope_by_number s t (sym (shows_scope s) ∙ ap shown_of_scope e ∙ shows_scope t)

proc_once : (j k : List ℕ) (r s : ℕ) → IsTrue (is_name j) → IsTrue (is_name k) → spelled_proc j r ≡ spelled_proc k s → (j ≡ k) × (decimal r ≡ decimal s)
proc_once j k r s nj nk e = cut_once j (decimal r) k (decimal s) (names_plain j (and_right _ _ nj)) (names_plain k (and_right _ _ nk)) e

-- the words after that of a get, of either kind, say one owner and one key
owner_once : (j k : List ℕ) (r s : ℕ) (x y : List ℕ) → spelled_proc j r ∷ x ∷ [] ≡ spelled_proc k s ∷ y ∷ []
    → IsTrue (is_name j) × (r < 10 ^ 9) × IsTrue (is_key x) → IsTrue (is_name k) × (s < 10 ^ 9) × IsTrue (is_key y) → (j ≡ k) × (r ≡ s) × (x ≡ y)
owner_once j k r s x y e la lb =
    let target : spelled_proc j r ≡ spelled_proc k s = cc in
    let key : x ≡ y = cc in
    let p = proc_once j k r s la.0 lb.0 target in
    (p.0, decimal_injective r s (let h = la.1 in omega arith) (let h = lb.1 in omega arith) p.1, key)

-- a star is no rank
no_star : (r : ℕ) → r < 10 ^ 9 → decimal r ≡ codes "*" → ⊥
no_star r small e = let digits = decimal_digits r small in let bad = rw e at digits in cc

item_once : (a b : Item) → IsLawfulItem a → IsLawfulItem b → spelled_item a ≡ spelled_item b → a ≡ b
item_once (One j r) (One k s) la lb e =
    let p = proc_once j k r s la.0 lb.0 e in
    let rank = decimal_injective r s (let h = la.1 in omega arith) (let h = lb.1 in omega arith) p.1 in
    let job = p.0 in cc
item_once (Every j) (Every k) la lb e =
    let job = (cut_once j (codes "*") k (codes "*") (names_plain j (and_right _ _ la)) (names_plain k (and_right _ _ lb)) e).0 in cc
item_once (One j r) (Every k) la lb e =
    absurd (no_star r la.1 (cut_once j (decimal r) k (codes "*") (names_plain j (and_right _ _ la.0)) (names_plain k (and_right _ _ lb)) e).1)
item_once (Every j) (One k s) la lb e =
    absurd (no_star s lb.1 (sym (cut_once j (codes "*") k (decimal s) (names_plain j (and_right _ _ la)) (names_plain k (and_right _ _ lb.0)) e).1))

items_once : (is js : List Item) → AreLawful is → AreLawful js → map spelled_item is ≡ map spelled_item js → is ≡ js
items_once [] [] la lb e = refl
items_once [] (b ∷ js) la lb e = absurd (cc)
items_once (a ∷ is) [] la lb e = absurd (cc)
items_once (a ∷ is) (b ∷ js) la lb e =
    let first : spelled_item a ≡ spelled_item b = cc in
    let others : map spelled_item is ≡ map spelled_item js = cc in
    let item = item_once a b la.0 lb.0 first in
    let items = items_once is js la.1 lb.1 others in cc

-- `all` lists no items: each of them has a colon
not_all : (items : List Item) → 0 < length items → AreLawful items → spelled_set (Listed items) ≡ codes "all" → ⊥
not_all [] some l e = absurd (omega arith)
not_all (i ∷ items) some l e =
    let cut : map spelled_item (i ∷ items) ≡ codes "all" ∷ [] = sym (cut_items (i ∷ items) some l) ∙ ap (slice_split comma) e in
    let first : codes "all" ≡ spelled_item i = cc in
    no_colon_item (codes "all") (λ a b. colon_none (codes "all") a b refl) i l.0 first

set_once : (a b : Set) → IsLawfulSet a → IsLawfulSet b → spelled_set a ≡ spelled_set b → a ≡ b
set_once Own Own la lb e = refl
set_once Own (Listed js) la lb e = absurd (not_all js lb.0 lb.1 (sym e))
set_once (Listed is) Own la lb e = absurd (not_all is la.0 la.1 e)
set_once (Listed is) (Listed js) la lb e =
    ap Listed (items_once is js la.1 lb.1 (sym (cut_items is la.0 la.1) ∙ ap (slice_split comma) e ∙ cut_items js lb.0 lb.1))

pub collect_once : (a b : Bool) → collect_words a ≡ collect_words b → a ≡ b
collect_once true true e = refl
collect_once true false e = absurd (cc)
collect_once false true e = absurd (cc)
collect_once false false e = refl

-- a star is no name
no_key : (word : List ℕ) → IsTrue (is_key word) → word ≡ codes "*" → ⊥
no_key word key star = let bad : IsTrue (is_key (codes "*")) = subst (λ w. IsTrue (is_key w)) star key in true≢false (sym bad)

call_once : (a b : Call) → kind_of_call a ≡ kind_of_call b → others_of_call a ≡ others_of_call b → IsLawfulCall a → IsLawfulCall b → a ≡ b
call_once (Put s k v) (Put t l w) h e la lb =
    let spelled : spelled_scope s ≡ spelled_scope t = cc in
    let scope = scope_once s t spelled in cc
call_once Commit Commit h e la lb = refl
call_once (Fence s c) (Fence t d) h e la lb =
    let spelled : spelled_set s ≡ spelled_set t = cc in
    let word : collect_words c ≡ collect_words d = cc in
    let set = set_once s t la lb spelled in
    let collect = collect_once c d word in cc
call_once (Get j r x) (Get k s y) h e la lb = let p = owner_once j k r s x y e la lb in let job = p.0 in let rank = p.1 in let key = p.2 in cc
call_once (GetNow j r x) (GetNow k s y) h e la lb = let p = owner_once j k r s x y e la lb in let job = p.0 in let rank = p.1 in let key = p.2 in cc
call_once (Publish x v) (Publish y w) h e la lb = cc
call_once (Lookup x) (Lookup y) h e la lb = cc
call_once (LookupWait x) (LookupWait y) h e la lb = cc
call_once (Unpublish x) (Unpublish y) h e la lb = cc
call_once (Unpublish x) UnpublishAll h e la lb = let word : x ≡ codes "*" = cc in absurd (no_key x la word)
call_once UnpublishAll (Unpublish y) h e la lb = let word : y ≡ codes "*" = cc in absurd (no_key y lb word)
call_once UnpublishAll UnpublishAll h e la lb = refl
call_once _ _ h e la lb = absurd (omega arith)

version_once : (v w : Version) → spelled_version v ≡ spelled_version w → v ≡ w
version_once v w e = sym (shows_version v) ∙ ap shown_version e ∙ shows_version w
  where
    shown_version : List ℕ → Version
    shown_version word = if bytes_eq word (codes "1") then version.One else version.Two

    shows_version : (x : Version) → shown_version (spelled_version x) ≡ x
    shows_version version.One = refl
    shows_version version.Two = refl

once : (a b : Said) → kind a ≡ kind b → (kind_of : first_word a ≡ first_word b) → other_words a ≡ other_words b → IsLawfulLine a → IsLawfulLine b → a ≡ b
once (Header v) (Header w) h f e la lb = let spelled : spelled_version v ≡ spelled_version w = cc in ap Header (version_once v w spelled)
once Keep Keep h f e la lb = refl
once (Node x) (Node y) h f e la lb = cc
once (Job x) (Job y) h f e la lb = cc
once (Rank x) (Rank y) h f e la lb = cc
once (Calls a) (Calls b) h f e la lb = ap Calls (call_once a b (sym (shows_call a) ∙ ap shown_of_call f ∙ shows_call b) e la lb)
once _ _ h f e la lb = absurd (omega arith)

pub says_once : SaysOnce
says_once words a b sa sb =
    let same : first_word a ∷ other_words a ≡ first_word b ∷ other_words b = sym sa.0 ∙ sb.0 in
    let first : first_word a ≡ first_word b = cc same in
    let others : other_words a ≡ other_words b = cc same in
    once a b (sym (shows a) ∙ ap shown first ∙ shows b) first others sa.1 sb.1
