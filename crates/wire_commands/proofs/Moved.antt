-- From what the parts of `place` answer to what it answers.
use Rattle.std.proofs.Common.{◌≡◌, ◌≢◌, ap, subst, sym, ◌∙◌, ℕ, List, ◌⊎◌, inl, inr, Result, Ok, Err, IfErr, IfOk, Vec, Global}
use Rattle.wire_types.specs.declared.Fault.{Fault}
use Rattle.wire_types.specs.declared.Fault.TheVariants.{Memory, Read, BadOrder}
use Rattle.wire_types.specs.declared.Proc.{Proc}
use Rattle.wire_scripts.specs.Scripts.{Scripts, numbers_of}
use Rattle.wire_scripts.specs.Canonical.{canonical}
use Rattle.wire_scripts.specs.Placed.{node_beside, placed, with_second}
use Rattle.wire_scripts.proofs.Moved.{as_placing, placed_alone}
use Rattle.wire_reader.specs.declared.Size.{Size}
use Rattle.wire_reader.specs.Order.{order_of}
use Rattle.wire_reader.specs.Statements.{Statement}
use Rattle.wire_reader.specs.Ranks.{ranks_read}
use Rattle.wire_commands.specs.Place.{IsPlacedText}
use Rattle.wire_commands.proofs.Followed.{IsBad, all_bad}

-- the text of scripts that were placed
pub placed_as : (s : Scripts) (word text : List ℕ) (ranks : List ℕ) → ranks_read s word ≡ Ok ranks → text ≡ canonical (placed s ranks) → IsPlacedText word s text
placed_as s word text ranks lists is =
    record { ranks = ranks; lists = lists; is = is; plan = as_placing s (with_second s.nodes) (node_beside ranks); alone = placed_alone s ranks }

pub all_placed : (s : Scripts) (word : List ℕ) (ranks shown : List Proc) (r : Result (Vec ℕ Global) Fault) → shown ≡ ranks → ranks_read s word ≡ Ok (numbers_of ranks) →
    IfOk r (λ text. text.items ≡ canonical (placed s (numbers_of shown))) → IfOk r (λ text. IsPlacedText word s text.items)
all_placed s word ranks shown (Ok text) same lists is = placed_as s word text.items (numbers_of ranks) lists (subst (λ ps. text.items ≡ canonical (placed s (numbers_of ps))) same is)
all_placed s word ranks shown (Err e) same lists is = tt

pub memory_only : {A : Type 0} (s : Scripts) (word : List ℕ) (r : Result A Fault) → IfErr r (λ e. e ≡ Memory) → IfErr r (λ e. (e ≡ Memory) ⊎ (ranks_read s word ≡ Err e))
memory_only s word (Ok x) h = tt
memory_only s word (Err e) h = inl h

-- which is no failed read
bad_no_read : (e : Fault) → (n : ℕ) × (e ≡ BadOrder n) → e ≢ Read
bad_no_read e bad is = let its = bad.1 in let no : BadOrder bad.0 ≡ Read = sym its ∙ is in cc

refused_bad : (r : Result (List ℕ) Fault) (e : Fault) → IsBad r → r ≡ Err e → (n : ℕ) × (e ≡ BadOrder n)
refused_bad r e bad is = subst IsBad is bad

pub no_read_of_ranks : (s : Scripts) (word : List ℕ) (e : Fault) → (e ≡ Memory) ⊎ (ranks_read s word ≡ Err e) → e ≢ Read
no_read_of_ranks s word e (inl memory) is = let no : Memory ≡ Read = sym memory ∙ is in cc
no_read_of_ranks s word e (inr refuses) is = bad_no_read e (refused_bad (ranks_read s word) e (all_bad s _) refuses) is
