-- The words of findings and of calls, from their parts.
use Rattle.std.proofs.Common.{◌≡◌, ◌∙◌, ap, sym, ℕ, ◌+◌, List, ◌++◌, append_assoc, codes, decimal}
use Rattle.wire_types.specs.declared.CallAt.{CallAt}
use Rattle.wire_types.specs.declared.Proc.{Proc}
use Rattle.wire_scripts.specs.Scripts.{Scripts, text_at, call_at}
use Rattle.wire_findings.specs.declared.finding.Finding.{Finding}
use Rattle.wire_findings.specs.declared.finding.Finding.TheVariants.{KeyRace, NameRace}
use Rattle.wire_words.specs.Words.{name_of, call_text}
use Rattle.wire_report.specs.Findings.{finding_words, put_key_text, rewrite_text}
use Rattle.wire_report.specs.FindingLines.{race_start, key_race_rest, name_race_rest}

-- one piece before three others
pub three : (o a b c : List ℕ) → ((o ++ a) ++ b) ++ c ≡ o ++ ((a ++ b) ++ c)
three o a b c = ap (λ t. t ++ c) (append_assoc o a b) ∙ append_assoc o (a ++ b) c

-- and before four
four : (o a b c d : List ℕ) → (((o ++ a) ++ b) ++ c) ++ d ≡ o ++ (((a ++ b) ++ c) ++ d)
four o a b c d = ap (λ t. t ++ d) (three o a b c) ∙ append_assoc o ((a ++ b) ++ c) d

-- the words of a race, up to its lower call and from there
pair : (w c s h : List ℕ) → w ++ ((c ++ s) ++ h) ≡ (w ++ c) ++ (s ++ h)
pair w c s h = ap (λ t. w ++ t) (append_assoc c s h) ∙ sym (append_assoc w c (s ++ h))

five : (o a b c d e : List ℕ) → ((((o ++ a) ++ b) ++ c) ++ d) ++ e ≡ o ++ ((((a ++ b) ++ c) ++ d) ++ e)
five o a b c d e = ap (λ t. t ++ e) (four o a b c d) ∙ append_assoc o (((a ++ b) ++ c) ++ d) e

key_parts : (w c s h k n t x : List ℕ) → (w ++ c) ++ (((((s ++ h) ++ k) ++ n) ++ t) ++ x) ≡ ((((w ++ ((c ++ s) ++ h)) ++ k) ++ n) ++ t) ++ x
key_parts w c s h k n t x = sym (ap (λ u. (((u ++ k) ++ n) ++ t) ++ x) (pair w c s h) ∙ five (w ++ c) (s ++ h) k n t x)

name_parts : (w c s h k x : List ℕ) → (w ++ c) ++ (((s ++ h) ++ k) ++ x) ≡ ((w ++ ((c ++ s) ++ h)) ++ k) ++ x
name_parts w c s h k x = sym (ap (λ u. (u ++ k) ++ x) (pair w c s h) ∙ three (w ++ c) (s ++ h) k x)

rewrite_parts : (w c s d t k : List ℕ) → (w ++ c) ++ (((s ++ d) ++ t) ++ k) ≡ w ++ ((((c ++ s) ++ d) ++ t) ++ k)
rewrite_parts w c s d t k = append_assoc w c (((s ++ d) ++ t) ++ k) ∙ ap (λ u. w ++ u) (sym (four c s d t k))

pub key_race_words : (s : Scripts) (finding : Finding) (lower higher : CallAt) (owner : Proc) (key : ℕ) → finding ≡ KeyRace lower higher owner key →
    race_start s lower ++ key_race_rest s higher owner.number key ≡ finding_words s finding
key_race_words s finding lower higher owner key is =
    key_parts (codes "race ") (call_text s lower) (codes " ") (call_text s higher) (codes " key ") (name_of s owner.number) (codes " ") (text_at s.keys key) ∙ sym (ap (finding_words s) is)

pub name_race_words : (s : Scripts) (finding : Finding) (lower higher : CallAt) (name : ℕ) → finding ≡ NameRace lower higher name →
    race_start s lower ++ name_race_rest s higher name ≡ finding_words s finding
name_race_words s finding lower higher name is =
    name_parts (codes "race ") (call_text s lower) (codes " ") (call_text s higher) (codes " name ") (text_at s.names name) ∙ sym (ap (finding_words s) is)

-- the later put of a rewrite, and its key
abbrev pub later_text : Scripts → CallAt → List ℕ
later_text s later = codes " " ++ decimal (later.call + 1) ++ codes " " ++ put_key_text s (call_at s.processes later.proc.number later.call)

pub rewrite_words : (s : Scripts) (first later : CallAt) → (codes "rewrite " ++ call_text s first) ++ later_text s later ≡ codes "rewrite " ++ rewrite_text s first later
rewrite_words s first later =
    rewrite_parts (codes "rewrite ") (call_text s first) (codes " ") (decimal (later.call + 1)) (codes " ") (put_key_text s (call_at s.processes later.proc.number later.call))

pub key_rest_parts : (s : Scripts) (higher : CallAt) (owner key : ℕ) →
    (codes " " ++ call_text s higher) ++ (codes " key " ++ name_of s owner ++ codes " " ++ text_at s.keys key) ≡ key_race_rest s higher owner key
key_rest_parts s higher owner key = sym (four (codes " " ++ call_text s higher) (codes " key ") (name_of s owner) (codes " ") (text_at s.keys key))

pub name_rest_parts : (s : Scripts) (higher : CallAt) (name : ℕ) → (codes " " ++ call_text s higher) ++ (codes " name " ++ text_at s.names name) ≡ name_race_rest s higher name
name_rest_parts s higher name = sym (append_assoc (codes " " ++ call_text s higher) (codes " name ") (text_at s.names name))

-- the line of a call of a process, from its process, its number, its verb and its end
pub call_line_parts : (p s n u v w e x : List ℕ) → ((p ++ (s ++ n)) ++ (u ++ v)) ++ ((w ++ e) ++ x) ≡ ((((((p ++ s) ++ n) ++ u) ++ v) ++ w) ++ e) ++ x
call_line_parts p s n u v w e x =
    sym (three ((p ++ (s ++ n)) ++ (u ++ v)) w e x) ∙ ap (λ t. ((t ++ w) ++ e) ++ x) (sym (append_assoc (p ++ (s ++ n)) u v))
    ∙ ap (λ t. ((((t ++ u) ++ v) ++ w) ++ e) ++ x) (sym (append_assoc p s n))
