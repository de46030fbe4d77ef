-- The instance with as many processes of each group, and where its processes wait.
use Rattle.std.proofs.Common.{◌≡◌, ◌≢◌, ◌∙◌, ap, sym, subst, refl, ℕ, zero, suc, ◌+◌, ◌<◌, ◌≤◌, ◌^◌, List, [], ◌∷◌, Bool, true, false, length, map, Option, Some, None, Ok, Err, Result, ◌↔◌, inl, inr, nat_lt, add-zero, arith, if◌then◌else◌}
use Rattle.std.specs.Prelude.{slice_get, slice_index_or, take, ◌⊎◌, ◌==◌, IfOk, IfSome, MatchOption}
use Rattle.std.proofs.lemmas.Bool.{cases_eq, eqb-true, lt-ltb, true≢false}
use Rattle.std.specs.List.{range_with_len, list_all}
use Rattle.std.proofs.lemmas.List.{length-map}
use Rattle.std.proofs.lemmas.List.FromFn.{length-range_with_len}
use Rattle.wire_types.specs.declared.Fault.{Fault}
use Rattle.wire_types.specs.declared.Fault.TheVariants.{Memory}
use Rattle.wire_scripts.specs.Scripts.{Scripts}
use Rattle.wire_reader.specs.declared.Size.TheVariants.{OfVersion}
use Rattle.wire_reader.specs.Reads.{Reads, ReadsOnce}
use Rattle.wire_pattern.specs.Pattern.{Pattern, Role}
use Rattle.wire_pattern.specs.Planned.{single_in}
use Rattle.wire_pattern.specs.Instances as spec
use Rattle.wire_pattern.specs.Instances.{IsCast, instance_text, process_count}
use Rattle.wire_instances.specs.declared.cast.Cast.{Cast}
use Rattle.wire_instances.specs.Nodes.{AreNodes, HaveOwnNodes}
use Rattle.wire_instances.specs.Views.{cast_by, choice_by}
use Rattle.wire_cutoff_laws.specs.Sizes.{total_of}
use Rattle.wire_pattern_waits.specs.declared.lines.CallLine.{CallLine}
use Rattle.wire_pattern_waits.specs.LineSets.{has_line}
use Rattle.wire_pattern_waits.specs.Stops.{StuckAt}
use Rattle.wire_reader.specs.Limits.{file_bytes}
use Rattle.wire_reader.proofs.Limited.{reads_limited, whole_read}
use Rattle.wire_pattern_later.specs.Later.{sizes_with, grown, StopsWith, IsReadWith, AreWaitingWith, AreLater, NoneBelow, IsNoneLater, IsUnreadWith, IsPastLimits, IsInstanceWith}
use Rattle.wire_pattern_later.specs.declared.later.Instance.{Instance}
use Rattle.wire_pattern_later.specs.Through.{first_size, last_size}

counted : (xs : List ℕ) (a n : ℕ) → length xs ≡ n → ((v : ℕ) → v < n → slice_index_or xs v 0 ≡ a + v) → xs ≡ range_with_len a n
counted [] a zero count at = refl
counted [] a (suc n) count at = absurd (omega (arith, count))
counted (x ∷ xs) a zero count at = absurd (omega (arith, count))
counted (x ∷ xs) a (suc n) count at =
    let first : x ≡ a = at 0 (omega arith) ∙ add-zero a in
    let rest : xs ≡ range_with_len (a + 1) n = counted xs (a + 1) n (omega (arith, count)) (λ v lt. at (suc v) (omega (arith, lt)) ∙ omega arith) in
    ap (λ y. y ∷ xs) first ∙ ap (λ ys. a ∷ ys) rest

range_below : (a k n : ℕ) → a + k ≤ n → list_all (λ e. nat_lt e n) (range_with_len a k) ≡ true
range_below a zero n h = refl
range_below a (suc k) n h = rw (lt-ltb a n (omega (arith, h))) (range_below (a + 1) k n (omega (arith, h)))

-- the scripts that are read, or others where none are
abbrev read_or : Scripts → Result Scripts Fault → Scripts
read_or other (Ok scripts) = scripts
read_or other (Err fault) = other

-- the cast of the code is this one
pub grown_is : (p : Pattern) (n : ℕ) (cast : Cast) → cast.sizes.items ≡ sizes_with n p.roles → cast.chosen.items ≡ []
    → AreNodes (total_of (sizes_with n p.roles)) cast.nodes → HaveOwnNodes (total_of (sizes_with n p.roles)) cast.nodes → cast_by cast ≡ grown p n
grown_is p n cast sizes chosen placed apart = λ t. record { sizes = sizes t; chosen = ap (map choice_by) chosen t; node_count = apart.count t; nodes = nodes t }
  where
    nodes : cast.nodes.of.items ≡ range_with_len 0 (total_of (sizes_with n p.roles))
    nodes = counted cast.nodes.of.items 0 (total_of (sizes_with n p.roles)) placed.placed (λ v lt. apart.node v lt ∙ omega arith)

one_of_single : (n : ℕ) (roles : List Role) (r : ℕ) → single_in (slice_get roles r) ≡ true → slice_get (sizes_with n roles) r ≡ Some 1
one_of_single n [] zero is = cc
one_of_single n [] (suc r) is = cc
one_of_single n (role ∷ roles) zero is = ap (λ b. Some (if b then 1 else n)) is
one_of_single n (role ∷ roles) (suc r) is = one_of_single n roles r is

-- which is one of the pattern
pub grown_cast : (p : Pattern) (n : ℕ) → total_of (sizes_with n p.roles) < 2 ^ 31 → IsCast p (grown p n)
grown_cast p n few = record {
  sized = length-map {A = Role} {B = ℕ} p.roles (λ role. if role.single then 1 else n);
  only = one_of_single n p.roles;
  placed = length-range_with_len 0 (total_of (sizes_with n p.roles));
  below = range_below 0 (total_of (sizes_with n p.roles)) (total_of (sizes_with n p.roles)) (omega arith);
  few = few;
  few_nodes = few;
}

-- what waits in the scripts that its text reads as is what waits with so many
pub waits_grown : (p : Pattern) (n : ℕ) (cast : spec.Cast) (scripts : Scripts) (noted : List (List Bool)) → ReadsOnce → cast ≡ grown p n
    → Reads OfVersion (instance_text p cast) (Ok scripts) → ((role line : ℕ) → (has_line noted role line ≡ true) ↔ StuckAt p cast scripts role line)
    → (role line : ℕ) → (has_line noted role line ≡ true) ↔ StopsWith p n role line
waits_grown p n cast scripts noted once is reads told role line = (to, from)
  where
    reads_there : Reads OfVersion (instance_text p (grown p n)) (Ok scripts)
    reads_there = subst (λ c. Reads OfVersion (instance_text p c) (Ok scripts)) is reads

    to : has_line noted role line ≡ true → StopsWith p n role line
    to h = record { scripts = scripts; reads = reads_there; stops = subst (λ c. StuckAt p c scripts role line) is ((told role line).0 h) }

    from : StopsWith p n role line → has_line noted role line ≡ true
    from x =
        let same : x.scripts ≡ scripts = ap (read_or scripts) (once OfVersion (instance_text p (grown p n)) (Ok x.scripts) (Ok scripts) x.reads reads_there) in
        (told role line).1 (subst (λ c. StuckAt p c scripts role line) (sym is) (subst (λ t. StuckAt p (grown p n) t role line) same x.stops))

-- which reads as a plan
pub read_grown : (p : Pattern) (n : ℕ) (cast : spec.Cast) (scripts : Scripts) → process_count cast < 2 ^ 31 → cast ≡ grown p n
    → Reads OfVersion (instance_text p cast) (Ok scripts) → IsReadWith p n
read_grown p n cast scripts few is reads =
    (subst (λ c. process_count c < 2 ^ 31) is few, (scripts, subst (λ c. Reads OfVersion (instance_text p c) (Ok scripts)) is reads))

-- what is noted from nothing on
pub noted_first : (old new : Bool) (those : Type 0) → old ≡ false → (new ≡ true) ↔ ((old ≡ true) ⊎ those) → (new ≡ true) ↔ those
noted_first old new those none both = ((λ h. to (both.0 h)), λ x. both.1 (inr x))
  where
    to : (old ≡ true) ⊎ those → those
    to (inl h) = absurd (true≢false (sym h ∙ none))
    to (inr x) = x

-- a text that doesn't read as a plan is past the limits
pub unread_grown : (p : Pattern) (n : ℕ) (cast : spec.Cast) (fault : Fault) → cast ≡ grown p n → Reads OfVersion (instance_text p cast) (Err fault) → IsUnreadWith p n
unread_grown p n cast fault is reads = inr (fault, subst (λ c. Reads OfVersion (instance_text p c) (Err fault)) is reads)

-- one number more with which nothing waits
pub none_more : (p : Pattern) (n : ℕ) (lines : List CallLine) → AreWaitingWith p n lines → lines ≡ [] → NoneBelow p n → NoneBelow p (n + 1)
none_more p n lines are none before = λ k from lt. elim (cases_eq k n) [
  | inl e ↦ subst (λ m. AreWaitingWith p m []) (sym e) (subst (AreWaitingWith p n) none are)
  | inr ne ↦ before k from (omega (arith, lt, ne))
]

-- the first number with which something waits
pub first_later : (p : Pattern) (n end ranks : ℕ) (lines : List CallLine) → end ≡ suc (last_size p.roles) → n < end → first_size p.roles ≤ n → NoneBelow p n
    → ranks ≡ n → AreWaitingWith p n lines → lines ≢ [] → AreLater p ranks lines
first_later p n end ranks lines is lt from before same are some = record {
  from = omega (arith, from, same);
  to = omega (arith, is, lt, same);
  waiting = subst (λ m. AreWaitingWith p m lines) (sym same) are;
  some = some;
  least = subst (NoneBelow p) (sym same) before;
}

-- or none
pub none_later : (p : Pattern) (n end : ℕ) → end ≡ suc (last_size p.roles) → end ≤ n → first_size p.roles ≤ n → NoneBelow p n → IsNoneLater p
none_later p n end is past from before = (n, from, before, inl (omega (arith, is, past)))

pub none_to_limits : (p : Pattern) (n : ℕ) → first_size p.roles ≤ n → NoneBelow p n → IsPastLimits p n → IsNoneLater p
none_to_limits p n from before past = (n, from, before, inr past)

-- the same, where so many processes are told
pub told_grown : (p : Pattern) (n total : ℕ) (cast : Cast) → cast.sizes.items ≡ sizes_with n p.roles → cast.chosen.items ≡ [] → total ≡ total_of (sizes_with n p.roles)
    → AreNodes total cast.nodes → HaveOwnNodes total cast.nodes → cast_by cast ≡ grown p n
told_grown p n total cast sizes chosen is placed apart =
    grown_is p n cast sizes chosen (subst (λ m. AreNodes m cast.nodes) is placed) (subst (λ m. HaveOwnNodes m cast.nodes) is apart)

pub told_cast : (p : Pattern) (n total : ℕ) (cast : Cast) → cast_by cast ≡ grown p n → total ≡ total_of (sizes_with n p.roles) → total < 2 ^ 31 → IsCast p (cast_by cast)
told_cast p n total cast by is few = subst (IsCast p) (sym by) (grown_cast p n (subst (λ m. m < 2 ^ 31) is few))

-- what the front of an instance's text reads as, all of it does
front_reads : (p : Pattern) (cast : spec.Cast) (text : List ℕ) (r : Result Scripts Fault) → text ≡ take (file_bytes OfVersion + 1) (instance_text p cast)
    → Reads OfVersion text r → Reads OfVersion (instance_text p cast) r
front_reads p cast text r is reads = reads_limited OfVersion (instance_text p cast) r (subst (λ t. Reads OfVersion t r) is reads)

-- a text that is written up to a bound which is the limit and one byte more
pub front_of : (n : ℕ) (whole text : List ℕ) → n ≡ file_bytes OfVersion + 1 → text ≡ take n whole → text ≡ take (file_bytes OfVersion + 1) whole
front_of n whole text is written = subst (λ m. text ≡ take m whole) is written

pub reads_text : (p : Pattern) (cast : spec.Cast) (now text : List ℕ) (r : Result Scripts Fault) → now ≡ text
    → text ≡ take (file_bytes OfVersion + 1) (instance_text p cast) → Reads OfVersion now r → Reads OfVersion (instance_text p cast) r
reads_text p cast now text r is was reads = front_reads p cast now r (is ∙ was) reads

-- all of it is written where it reads as scripts
pub text_whole : (p : Pattern) (cast : spec.Cast) (now text : List ℕ) (scripts : Scripts) → now ≡ text
    → text ≡ take (file_bytes OfVersion + 1) (instance_text p cast) → Reads OfVersion now (Ok scripts) → text ≡ instance_text p cast
text_whole p cast now text scripts is was reads =
    was ∙ whole_read OfVersion (instance_text p cast) scripts (reads_text p cast now text (Ok scripts) is was reads)

-- a text that isn't read, not for want of memory
pub none_read : (p : Pattern) (cast : spec.Cast) (now text : List ℕ) (fault : Fault) → fault ≢ Memory → now ≡ text
    → text ≡ take (file_bytes OfVersion + 1) (instance_text p cast) → (fault ≡ Memory) ⊎ Reads OfVersion now (Err fault)
    → (f : Fault) × Reads OfVersion (instance_text p cast) (Err f)
none_read p cast now text fault other is front (inl memory) = absurd (other memory)
none_read p cast now text fault other is front (inr reads) = (fault, reads_text p cast now text (Err fault) is front reads)

pub nothing_read : {A : Type 0} (those : A → Type 0) (r : Result (Option A) Fault) → IfOk r (λ o. o ≡ None) → IfOk r (λ o. IfSome o those)
nothing_read those (Ok None) is = tt
nothing_read those (Ok (Some x)) is = cc
nothing_read those (Err e) is = tt

pub none_there : {A : Type 0} (xs : List A) → (length xs == 0) ≡ true → xs ≡ []
none_there [] h = refl
none_there (x ∷ xs) h = absurd (omega (arith, eqb-true (length (x ∷ xs)) 0 h))

-- the instance with so many processes, or none where that is past the limits
pub instance_told : (p : Pattern) (n : ℕ) (cast : spec.Cast) (found : Option Instance) → cast ≡ grown p n → IfSome found (λ it. it.sizes.items ≡ cast.sizes)
    → IfSome found (λ it. it.text.items ≡ instance_text p cast) → IfSome found (λ it. Reads OfVersion (instance_text p cast) (Ok it.scripts))
    → (found ≡ None → (fault : Fault) × Reads OfVersion (instance_text p cast) (Err fault))
    → MatchOption found (IsUnreadWith p n) (λ it. IsInstanceWith p n it.sizes.items it.text.items it.scripts)
instance_told p n cast None is sizes text reads none = let unread = none refl in unread_grown p n cast unread.0 is unread.1
instance_told p n cast (Some it) is sizes text reads none = record {
  sizes_are = sizes ∙ ap (λ (c : spec.Cast). c.sizes) is;
  text_is = text ∙ ap (instance_text p) is;
  reads = subst (λ t. Reads OfVersion t (Ok it.scripts)) (sym text) reads;
}
