-- What the text of an instance says may be said.
use Rattle.std.proofs.Common.{◌≡◌, ◌∙◌, ap, sym, subst, refl, ℕ, zero, suc, ◌+◌, ◌%◌, ◌<◌, ◌≤◌, ◌^◌, List, [], ◌∷◌, ◌++◌, map, length, length-append, codes, decimal, Bool, true, false, Some, slice_get, IsTrue, flat_map, inl, inr, arith, true≢false}
use Rattle.std.specs.Prelude.{◌==◌, ◌&&◌, not, nat_le, if◌then◌else◌}
use Rattle.std.specs.List.{list_all, list_any, join_with_byte}
use Rattle.std.specs.Str.{bytes_eq}
use Rattle.std.proofs.lemmas.Bool.{and_from, or_cases, false_from_ne_true}
use Rattle.std.proofs.lemmas.Fmt.{decimal_by_steps}
use Rattle.std.proofs.lemmas.Slice.Eq.{bytes_eq-Decides}
use borrow.Author.Tests.{ltb-true, eqb-true, le-leb, ne_eqb}
use Rattle.wire_types.specs.Said as said
use Rattle.wire_types.specs.Said.{is_name, is_name_byte, is_word, is_word_byte, is_key, IsLawfulLine, IsLawfulCall, IsLawfulItem, IsLawfulSet, AreLawful}
use Rattle.wire_runs.specs.Fences.{is_member}
use Rattle.wire_runs.specs.Patterns.{Who, group, who}
use Rattle.wire_lines.proofs.Colon.{and_left, and_right}
use Rattle.wire_reader.proofs.Recut.{AllLawful, all_append, proc_word}
use Rattle.wire_scripts.specs.Canonical.{keep_said}
use Rattle.wire_pattern.specs.Pattern.{Indexed, Item, One, Group, Job, Call, Put, Commit, Fence, Get, GetNow, Publish, Lookup, LookupWait, Unpublish, UnpublishAll, JobLine, Pattern}
use Rattle.wire_pattern.specs.Planned.{steps_in}
use Rattle.wire_pattern.specs.Instances.{Cast, IsCast, process_count, cast_of, job_in, job_at, rank_at, job_name, process_text, indexed_text, word_text, process_item, items_said, call_said, node_name, nodes_said, process_said, members_said, jobs_said}
use Rattle.wire_pattern.specs.Lawful.{is_plain_name, is_base, has_words, names_known, is_known_item, is_known_who, whos_in, has_caller, is_sound_call, IsSoundPattern}
use Rattle.wire_instance_laws.proofs.Roles.{EachOf, count_is, stands, there, who_low, group_low, role_member}
use Rattle.wire_instance_laws.proofs.Made.{Turned, in_steps, said_by, steps_are_said, IsGoodCall, steps_good}
use Rattle.wire_instance_laws.proofs.Facts.{index_low, rank_low, role_low, job_low, name_lawful}

-- names of nodes
digit_name : (d : ℕ) → d < 10 → list_all is_name_byte ((48 + d) ∷ []) ≡ true
digit_name d h =
    let low : nat_le 33 (48 + d) ≡ true = le-leb 33 (48 + d) (omega (arith, h)) in
    let high : nat_le (48 + d) 126 ≡ true = le-leb (48 + d) 126 (omega (arith, h)) in
    let a : ((48 + d) == 58) ≡ false = ne_eqb (48 + d) 58 (λ e. omega (arith, h, e)) in
    let b : ((48 + d) == 44) ≡ false = ne_eqb (48 + d) 44 (λ e. omega (arith, h, e)) in
    let c : ((48 + d) == 35) ≡ false = ne_eqb (48 + d) 35 (λ e. omega (arith, h, e)) in
    let f : ((48 + d) == 42) ≡ false = ne_eqb (48 + d) 42 (λ e. omega (arith, h, e)) in
    rw (low, high, a, b, c, f) refl

name_append : (xs ys : List ℕ) → list_all is_name_byte xs ≡ true → list_all is_name_byte ys ≡ true → list_all is_name_byte (xs ++ ys) ≡ true
name_append = all_append is_name_byte

pub node_lawful : (n : ℕ) → n < 2 ^ 31 → IsTrue (is_name (node_name n))
node_lawful n small =
    let digits : list_all is_name_byte (decimal n) ≡ true = decimal_by_steps (λ m ds. list_all is_name_byte ds ≡ true) (λ m h. digit_name m h)
    (λ m ds h k. name_append ds ((48 + m % 10) ∷ []) k (digit_name (m % 10) (omega arith))) n (omega (arith, small)) in
    and_from (not (length (node_name n) == 0)) (list_all is_name_byte (node_name n)) (ap not (ne_eqb (length (node_name n)) 0 (λ e. some (length (decimal n)) e))) digits
  where
    some : (k : ℕ) → suc k ≡ 0 → ⊥
    some k e = omega (arith, e)

-- words with commas between them
join_word : (w : List ℕ) (ws : List (List ℕ)) → EachOf (λ x. list_all is_word_byte x ≡ true) (w ∷ ws) → list_all is_word_byte (join_with_byte 44 (w ∷ ws)) ≡ true
join_word w [] h = h.0
join_word w (v ∷ vs) h = all_append is_word_byte w (44 ∷ join_with_byte 44 (v ∷ vs)) h.0 (join_word v vs h.1)

some_length : (xs : List ℕ) → not (length xs == 0) ≡ true → 0 < length xs
some_length [] h = absurd (true≢false (sym h))
some_length (x ∷ xs) h = omega arith

-- a key with processes in brackets is a key
indexed_key : (base : List ℕ) (texts : List (List ℕ)) → is_base base ≡ true → EachOf (λ x. list_all is_word_byte x ≡ true) texts → IsTrue (is_key (indexed_text base texts))
indexed_key base [] h each = and_left _ _ h
indexed_key base (t ∷ ts) h each =
    let word = and_left (is_word base) _ (and_left (is_key base) _ h) in
    let rest = join_with_byte 44 (t ∷ ts) ++ 93 ∷ [] in
    let bytes : list_all is_word_byte (base ++ 91 ∷ rest) ≡ true =
    all_append is_word_byte base (91 ∷ rest) (and_right (not (length base == 0)) _ word)
    (all_append is_word_byte (join_with_byte 44 (t ∷ ts)) (93 ∷ []) (join_word t ts each) refl) in
    let some = some_length base (and_left _ _ word) in
    let long : length (base ++ 91 ∷ rest) ≡ length base + suc (length rest) = length-append base (91 ∷ rest) in
    let not_none : (length (base ++ 91 ∷ rest) == 0) ≡ false = ne_eqb _ _ (λ e. omega (arith, e, long)) in
    let not_star : bytes_eq (base ++ 91 ∷ rest) (codes "*") ≡ false =
    false_from_ne_true _ (λ e. let same = ap length ((bytes_eq-Decides (base ++ 91 ∷ rest) (codes "*")).0 e) in one (length base) (length rest) some (sym long ∙ same)) in
    and_from _ _ (and_from _ _ (ap not not_none) bytes) (ap not not_star)
  where
    one : (a b : ℕ) → 0 < a → a + suc b ≡ 1 → ⊥
    one a b some e = omega (arith, some, e)

lawful_both : (xs ys : List said.Item) → AreLawful xs → AreLawful ys → AreLawful (xs ++ ys)
lawful_both [] ys h k = k
lawful_both (x ∷ xs) ys h k = (h.0, lawful_both xs ys h.1 k)

lines_both : (xs ys : List said.Said) → AllLawful xs → AllLawful ys → AllLawful (xs ++ ys)
lines_both [] ys h k = k
lines_both (x ∷ xs) ys h k = (h.0, lines_both xs ys h.1 k)

module _ (p : Pattern) (cast : Cast) (sound : IsSoundPattern p) (is_cast : IsCast p cast) (small : process_count cast < 10 ^ 9) where
  abbrev roles : List ℕ
  roles = (cast_of cast).roles

  abbrev count : ℕ
  count = length roles

  few : (q : ℕ) → q < count → q < process_count cast
  few q low = subst (λ n. q < n) (count_is cast) low

  rank_small : (q : ℕ) → q < count → rank_at p cast q < 10 ^ 9
  rank_small q low = let r = rank_low p cast q in let l = few q low in omega (arith, r, l, small)

  process_name : (q : ℕ) → q < count → IsTrue (is_name (job_name p (job_at p cast q)))
  process_name q low = name_lawful p cast sound is_cast (job_at p cast q) (job_low p cast sound is_cast q (few q low))

  pub process_lawful : (q : ℕ) → q < count → IsLawfulItem (process_item p cast q)
  process_lawful q low = (process_name q low, rank_small q low)

  pub text_lawful : (q : ℕ) → q < count → list_all is_word_byte (process_text p cast q) ≡ true
  text_lawful q low = and_right (not (length (process_text p cast q) == 0)) _ (proc_word (job_name p (job_at p cast q)) (rank_at p cast q) (process_name q low) (rank_small q low))

  module _ (v e : ℕ) (low : v < count) (low_e : e < count) where
    who_is : (w : Who) → who (cast_of cast) v e w < count
    who_is w = who_low (cast_of cast) v e w low low_e

    texts_lawful : (ws : List Who) → EachOf (λ x. list_all is_word_byte x ≡ true) (map (λ w. process_text p cast (who (cast_of cast) v e w)) ws)
    texts_lawful [] = tt
    texts_lawful (w ∷ ws) = (text_lawful (who (cast_of cast) v e w) (who_is w), texts_lawful ws)

    word_lawful : (word : Indexed) → is_base word.base ≡ true → IsTrue (is_key (word_text p cast v e word))
    word_lawful word h = indexed_key word.base _ h (texts_lawful word.indices)

    group_lawful : (qs : List ℕ) → EachOf (λ q. q < count) qs → AreLawful (map (process_item p cast) qs)
    group_lawful [] h = tt
    group_lawful (q ∷ qs) h = (process_lawful q h.0, group_lawful qs h.1)

    item_lawful : (item : Item) → is_known_item (length p.jobs) p.roles item ≡ true → AreLawful (items_said p cast v e item)
    item_lawful (One w) h = (process_lawful (who (cast_of cast) v e w) (who_is w), tt)
    item_lawful (Group role) h = group_lawful (group role roles) (group_low role roles)
    item_lawful (Job job) h = (name_lawful p cast sound is_cast job (ltb-true job (length p.jobs) h), tt)

    items_lawful : (items : List Item) → list_all (is_known_item (length p.jobs) p.roles) items ≡ true → AreLawful (flat_map (items_said p cast v e) items)
    items_lawful [] h = tt
    items_lawful (item ∷ items) h =
        lawful_both (items_said p cast v e item) (flat_map (items_said p cast v e) items) (item_lawful item (and_left _ _ h)) (items_lawful items (and_right (is_known_item (length p.jobs) p.roles item) _ h))

    -- where the caller is in the set there is something to say
    some_group : (role : ℕ) → slice_get roles v ≡ Some role → 0 < length (map (process_item p cast) (group role roles))
    some_group role at = more (group role roles) (role_member roles role v at)
      where
        more : (qs : List ℕ) → is_member qs v ≡ true → 0 < length (map (process_item p cast) qs)
        more [] i = absurd (true≢false (sym i))
        more (q ∷ qs) i = omega arith

    some_item : (caller : ℕ) (item : Item) → slice_get roles v ≡ Some caller → has_caller p.roles caller item ≡ true → 0 < length (items_said p cast v e item)
    some_item caller (One w) at h = omega arith
    some_item caller (Group role) at h = some_group role (at ∙ ap Some (sym (eqb-true role caller h)))
    some_item caller (Job job) at h = omega arith

    some_items : (caller : ℕ) (items : List Item) → slice_get roles v ≡ Some caller → list_any (has_caller p.roles caller) items ≡ true → 0 < length (flat_map (items_said p cast v e) items)
    some_items caller [] at h = absurd (true≢false (sym h))
    some_items caller (item ∷ items) at h =
        let long = length-append (items_said p cast v e item) (flat_map (items_said p cast v e) items) in
        elim (or_cases _ _ h) [
          | inl here ↦ let some = some_item caller item at here in omega (arith, long, some)
          | inr later ↦ let some = some_items caller items at later in omega (arith, long, some)
        ]

    module _ (caller : ℕ) (at : slice_get roles v ≡ Some caller) where
      words : (c : Call) → is_sound_call (length p.jobs) p.roles caller c ≡ true → has_words c ≡ true
      words c h = and_left _ _ h

      first_base : (word : Indexed) (values : Bool) → (list_all (λ (w : Indexed). is_base w.base) (word ∷ []) && values) ≡ true → is_base word.base ≡ true
      first_base word values h = and_left (is_base word.base) true (and_left _ values h)

      value_word : (front : Bool) (value : List ℕ) → (front && list_all is_word (value ∷ [])) ≡ true → IsTrue (is_word value)
      value_word front value h = and_left (is_word value) true (and_right front _ h)

      pub call_lawful : (c : Call) → is_sound_call (length p.jobs) p.roles caller c ≡ true → IsLawfulCall (call_said p cast v e c)
      call_lawful (Put scope key value) h = (word_lawful key (first_base key _ (words (Put scope key value) h)), value_word _ value (words (Put scope key value) h))
      call_lawful Commit h = tt
      call_lawful (Fence items collect) h =
          let rest = and_right (has_words (Fence items collect)) _ h in (
            some_items caller items at (and_right (names_known (length p.jobs) p.roles (Fence items collect)) _ rest),
            items_lawful items (and_right (list_all (is_known_who p.roles) (whos_in (Fence items collect))) _ (and_left _ _ rest)),
          )
      call_lawful (Get owner key) h =
          (process_name (who (cast_of cast) v e owner) (who_is owner), rank_small (who (cast_of cast) v e owner) (who_is owner), word_lawful key (first_base key _ (words (Get owner key) h)))
      call_lawful (GetNow owner key) h =
          (process_name (who (cast_of cast) v e owner) (who_is owner), rank_small (who (cast_of cast) v e owner) (who_is owner), word_lawful key (first_base key _ (words (GetNow owner key) h)))
      call_lawful (Publish name value) h = (word_lawful name (first_base name _ (words (Publish name value) h)), value_word _ value (words (Publish name value) h))
      call_lawful (Lookup name) h = word_lawful name (first_base name _ (words (Lookup name) h))
      call_lawful (LookupWait name) h = word_lawful name (first_base name _ (words (LookupWait name) h))
      call_lawful (Unpublish name) h = word_lawful name (first_base name _ (words (Unpublish name) h))
      call_lawful UnpublishAll h = tt

  -- the lines
  calls_lawful : (v role : ℕ) → v < count → slice_get roles v ≡ Some role → (ts : List Turned) → EachOf (IsGoodCall p count role) ts → AllLawful (map said.Calls (map (said_by p cast v) ts))
  calls_lawful v role low at [] h = tt
  calls_lawful v role low at (t ∷ ts) h = (call_lawful v t.0 low h.0.each role at t.1.call h.0.sound, calls_lawful v role low at ts h.1)

  pub made_good : (v role : ℕ) → slice_get roles v ≡ Some role → EachOf (IsGoodCall p count role) (in_steps (cast_of cast) v 0 (steps_in (slice_get p.roles role)))
  made_good v role at =
      let is = stands p.roles role (role_low p cast sound is_cast v role at) in
      subst (λ o. EachOf (IsGoodCall p count role) (in_steps (cast_of cast) v 0 (steps_in o))) (sym is.1)
      (steps_good p role (cast_of cast) v (there roles v role at) 0 false is.0.steps (sound.steps role is.0 is.1))

  process_said_lawful : (v role : ℕ) → slice_get roles v ≡ Some role → AllLawful (process_said p cast v role)
  process_said_lawful v role at = (
    node_lawful ((cast_of cast).nodes v) (index_low cast.node_count cast.nodes v (2 ^ 31) is_cast.below (let f = is_cast.few_nodes in omega (arith, f)) (omega arith)),
    subst (λ cs. AllLawful (map said.Calls cs)) (sym (steps_are_said p cast v 0 (steps_in (slice_get p.roles role))))
        (calls_lawful v role (there roles v role at) at (in_steps (cast_of cast) v 0 (steps_in (slice_get p.roles role))) (made_good v role at)),
  )

  members_lawful : (job v : ℕ) (rs : List ℕ) → ((q role : ℕ) → slice_get rs q ≡ Some role → slice_get roles (v + q) ≡ Some role) → AllLawful (members_said p cast job v rs)
  members_lawful job v [] h = tt
  members_lawful job v (r ∷ rs) h =
      let z : v + 0 ≡ v = omega arith in
      let first : slice_get roles v ≡ Some r = ap (slice_get roles) (sym z) ∙ h 0 r refl in
      lines_both (if job_in (slice_get p.roles r) == job then process_said p cast v r else []) (members_said p cast job (suc v) rs)
      (elim (job_in (slice_get p.roles r) == job) as (λ b. AllLawful (if b then process_said p cast v r else [])) [
        | true ↦ process_said_lawful v r first
        | false ↦ tt
      ])
      (members_lawful job (suc v) rs (λ q role at. let s : v + suc q ≡ suc v + q = omega arith in ap (slice_get roles) (sym s) ∙ h (suc q) role at))

  jobs_lawful : (n : ℕ) (jobs : List JobLine) → list_all (λ (j : JobLine). is_plain_name j.name) jobs ≡ true → AllLawful (jobs_said p cast n (map (λ (j : JobLine). j.name) jobs))
  jobs_lawful n [] h = tt
  jobs_lawful n (j ∷ jobs) h = (
    and_left (is_name j.name) _ (and_left _ _ h),
    lines_both (members_said p cast n 0 roles) (jobs_said p cast (suc n) (map (λ (x : JobLine). x.name) jobs))
        (members_lawful n 0 roles (λ q role at. let s : 0 + q ≡ q = omega arith in ap (slice_get roles) s ∙ at))
        (jobs_lawful (suc n) jobs (and_right (is_plain_name j.name) _ h)),
  )

  nodes_lawful : (n k : ℕ) → n + k ≤ 2 ^ 31 → AllLawful (nodes_said n k)
  nodes_lawful n zero le = tt
  nodes_lawful n (suc k) le = (node_lawful n (omega (arith, le)), nodes_lawful (suc n) k (omega (arith, le)))

  keep_lawful : (b : Bool) → AllLawful (keep_said b)
  keep_lawful true = (tt, tt)
  keep_lawful false = tt

  -- all lines after the header
  pub lines_lawful : AllLawful (keep_said p.keeps ++ (nodes_said 0 cast.node_count ++ jobs_said p cast 0 (map (λ (j : JobLine). j.name) p.jobs)))
  lines_lawful =
      lines_both (keep_said p.keeps) _ (keep_lawful p.keeps)
      (lines_both (nodes_said 0 cast.node_count) _ (nodes_lawful 0 cast.node_count (let f = is_cast.few_nodes in omega (arith, f))) (jobs_lawful 0 p.jobs sound.job_names))
