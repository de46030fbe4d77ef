-- Texts that are written in chunks.
use Rattle.std.specs.Prelude.{◌≡◌, ℕ, List, ◌++◌, Option, length}
use Rattle.std.specs.Io.KnownBytes.{Appends}
use Rattle.wire_types.specs.Front.{BreaksAfter}
use Rattle.wire_words.specs.declared.chunks.Chunk.{Chunk}

-- since the start, the front of the text went out, as many bytes as the chunk counts, and the chunk has all the rest
pub record IsOnItsWay (start now : Option (List ℕ)) (chunk : Chunk) (text : List ℕ) : Type 0 where
  pub front : List ℕ
  pub went : Appends start now front
  pub counted : chunk.gone ≡ length front
  pub whole : text ≡ front ++ chunk.waiting.items

-- whatever the text and its start: where it was on its way, it still is
abbrev pub StaysOnItsWay : Option (List ℕ) → Option (List ℕ) → Chunk → Chunk → Type 0
StaysOnItsWay old new before after = (start : Option (List ℕ)) (text : List ℕ) → IsOnItsWay start old before text → IsOnItsWay start new after text

-- whatever the text and its start: where it was on its way, exactly its first n bytes went out
abbrev pub IsCutOff : Option (List ℕ) → Option (List ℕ) → Chunk → ℕ → Type 0
IsCutOff old new before n = (start : Option (List ℕ)) (text : List ℕ) → IsOnItsWay start old before text → BreaksAfter start new text n
