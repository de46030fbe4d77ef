-- Each line that can be said begins with the word of a kind.
use Rattle.std.proofs.Common.{◌≡◌, refl, ℕ, List, [], ◌∷◌, get_or}
use Rattle.std.specs.Borrow.{Bor}
use Rattle.wire_types.specs.Said.{Said, Header, Keep, Node, Job, Rank, Calls, Call, first_word, first_of_call, verb_in}
use Rattle.wire_lines.specs.Kind.{text_of}
use Rattle.wire_types.specs.Verbs.{text_of_verb}
use Rattle.wire_types.specs.declared.verb.Verb.{Verb}
use Rattle.wire_types.specs.Texts.{texts_of}
use Rattle.wire_lines.specs.declared.line.Kind.{Kind}
use Rattle.wire_lines.specs.declared.line.Kind.TheVariants as kind

pub some_verb : (call : Call) → (v : Verb) × (first_of_call call ≡ text_of_verb v)
some_verb call = (verb_in call, refl)

pub some_kind : (said : Said) → (k : Kind) × (first_word said ≡ text_of k)
some_kind (Header version) = (kind.Header, refl)
some_kind Keep = (kind.Keep, refl)
some_kind (Node name) = (kind.Node, refl)
some_kind (Job name) = (kind.Job, refl)
some_kind (Rank node) = (kind.Rank, refl)
some_kind (Calls call) = let v = some_verb call in (kind.Calls v.0, v.1)

-- the first of some words
pub head_word : (ws : List (Bor (List ℕ))) (w : List ℕ) (rest : List (List ℕ)) (d : Bor (List ℕ)) → texts_of ws ≡ w ∷ rest → (get_or ws 0 d).now ≡ w
head_word [] w rest d e = cc
head_word (x ∷ xs) w rest d e = cc
