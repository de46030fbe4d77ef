-- The text of an instance has printable bytes and line feeds alone.
use Rattle.std.proofs.Common.{◌≡◌, refl, ℕ, ◌≤◌, List, [], ◌∷◌, ◌++◌, Bool, true, false, inl, inr, map, flat_map, codes, IsTrue, arith}
use Rattle.std.specs.Prelude.{not, nat_le, ⊤, ◌==◌, length}
use Rattle.std.specs.List.{list_all, join_with_byte}
use borrow.Author.Tests.{leb-true}
use Rattle.wire_types.specs.declared.Scope.{Scope}
use Rattle.wire_types.specs.declared.Scope.TheVariants.{Local, Remote, Global}
use Rattle.wire_types.specs.declared.Version.TheVariants as version
use Rattle.wire_types.specs.Said.{Item, One, Every, Set, Own, Listed, Put, Commit, Fence, Get, GetNow, Publish, Lookup, LookupWait, Unpublish, UnpublishAll}
use Rattle.wire_types.specs.Said.{Said, Header, Keep, Node, Job, Rank, Calls, IsLawfulItem, AreLawful, IsLawfulSet, IsLawfulLine, first_word, other_words, is_word_byte, is_word, is_name, is_key}
use Rattle.wire_types.specs.Said.{spelled_proc, spelled_scope, spelled_item, spelled_set, collect_words}
use Rattle.wire_lines.proofs.Colon.{and_left, and_right}
use Rattle.wire_reader.proofs.Recut.{AllLawful, all_append, name_word, proc_word}
use Rattle.wire_scripts.specs.Canonical.{line_text}
use Rattle.wire_pattern.specs.Instances.{instance_said, instance_text}
use Rattle.wire_instance_laws.proofs.Lawful.{lines_lawful}
use Rattle.wire_pattern_commands.specs.Views.{InstancesReadBack}
use Rattle.wire_pattern_commands.specs.Strings.{AreOfLines}
use Rattle.wire_pattern_commands.proofs.StringsBack.{texts_read_back}

abbrev AreBytes : List (List ℕ) → Type 0
AreBytes [] = ⊤
AreBytes (w ∷ ws) = (list_all is_word_byte w ≡ true) × AreBytes ws

-- the bytes of what is spelled are those of words
word : (w : List ℕ) → IsTrue (is_word w) → list_all is_word_byte w ≡ true
word w h = and_right (not (length w == 0)) _ h

key : (w : List ℕ) → IsTrue (is_key w) → list_all is_word_byte w ≡ true
key w h = word w (and_left (is_word w) _ h)

name : (w : List ℕ) → IsTrue (is_name w) → list_all is_word_byte w ≡ true
name w h = word w (name_word w h)

scope : (s : Scope) → list_all is_word_byte (spelled_scope s) ≡ true
scope Local = refl
scope Remote = refl
scope Global = refl

item : (i : Item) → IsLawfulItem i → list_all is_word_byte (spelled_item i) ≡ true
item (One job rank) h = word (spelled_proc job rank) (proc_word job rank h.0 h.1)
item (Every job) h = all_append is_word_byte job (58 ∷ codes "*") (name job h) refl

items : (is : List Item) → AreLawful is → list_all is_word_byte (join_with_byte 44 (map spelled_item is)) ≡ true
items [] h = refl
items (i ∷ []) h = item i h.0
items (i ∷ j ∷ js) h = all_append is_word_byte (spelled_item i) (44 ∷ join_with_byte 44 (map spelled_item (j ∷ js))) (item i h.0) (items (j ∷ js) h.1)

set : (s : Set) → IsLawfulSet s → list_all is_word_byte (spelled_set s) ≡ true
set Own h = refl
set (Listed is) h = items is h.1

collected : (c : Bool) → AreBytes (collect_words c)
collected true = (refl, tt)
collected false = tt

words : (a : Said) → IsLawfulLine a → AreBytes (first_word a ∷ other_words a)
words (Header version.One) h = (refl, (refl, tt))
words (Header version.Two) h = (refl, (refl, tt))
words Keep h = (refl, tt)
words (Node n) h = (refl, (name n h, tt))
words (Job n) h = (refl, (name n h, tt))
words (Rank n) h = (refl, (name n h, tt))
words (Calls (Put s k v)) h = (refl, (scope s, (key k h.0, (word v h.1, tt))))
words (Calls Commit) h = (refl, tt)
words (Calls (Fence s collect)) h = (refl, (set s h, collected collect))
words (Calls (Get job rank k)) h = (refl, (word (spelled_proc job rank) (proc_word job rank h.0 h.1), (key k h.2, tt)))
words (Calls (GetNow job rank k)) h = (refl, (word (spelled_proc job rank) (proc_word job rank h.0 h.1), (key k h.2, tt)))
words (Calls (Publish n v)) h = (refl, (key n h.0, (word v h.1, tt)))
words (Calls (Lookup n)) h = (refl, (key n h, tt))
words (Calls (LookupWait n)) h = (refl, (key n h, tt))
words (Calls (Unpublish n)) h = (refl, (key n h, tt))
words (Calls UnpublishAll) h = (refl, (refl, tt))

-- texts of such bytes, spaces and line feeds
both : (xs ys : List ℕ) → AreOfLines xs → AreOfLines ys → AreOfLines (xs ++ ys)
both [] ys h k = k
both (x ∷ xs) ys h k = (h.0, both xs ys h.1 k)

shown : (w : List ℕ) → list_all is_word_byte w ≡ true → AreOfLines w
shown [] h = tt
shown (b ∷ bs) h =
    let here = and_left (is_word_byte b) _ h in
    let low : 33 ≤ b = leb-true 33 b (and_left (nat_le 33 b) (nat_le b 126) here) in
    let high : b ≤ 126 = leb-true b 126 (and_right (nat_le 33 b) (nat_le b 126) here) in
    (inr (omega (arith, low), omega (arith, high)), shown bs (and_right (is_word_byte b) _ h))

joined : (w : List ℕ) (ws : List (List ℕ)) → AreBytes (w ∷ ws) → AreOfLines (join_with_byte 32 (w ∷ ws))
joined w [] h = shown w h.0
joined w (v ∷ vs) h = both w (32 ∷ join_with_byte 32 (v ∷ vs)) (shown w h.0) (inr (omega arith, omega arith), joined v vs h.1)

line : (a : Said) → IsLawfulLine a → AreOfLines (line_text a)
line a h = both (join_with_byte 32 (first_word a ∷ other_words a)) (10 ∷ []) (joined (first_word a) (other_words a) (words a h)) (inl refl, tt)

lines : (said : List Said) → AllLawful said → AreOfLines (flat_map line_text said)
lines [] h = tt
lines (a ∷ said) h = both (line_text a) (flat_map line_text said) (line a h.0) (lines said h.1)

pub instances_read_back : InstancesReadBack
instances_read_back p cast rest sound is_cast small =
    texts_read_back (instance_text p cast) rest (lines (instance_said p cast) (tt, lines_lawful p cast sound is_cast small))
