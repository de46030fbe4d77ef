-- One rank fewer: an instance without the process r, and how it stands in the whole one.
use Rattle.std.specs.Prelude.{◌≡◌, ℕ, zero, suc, pred, ◌≤◌, List, [], ◌∷◌, ◌++◌, map, length, Option, Some, None}
use Rattle.std.specs.Prelude.{slice_get, ◌==◌, if◌then◌else◌}
use Rattle.std.specs.List.{list_all}
use Rattle.wire_runs.specs.Plan.{Call, kinds_of, with_member}
use Rattle.wire_runs.specs.Races.{IsSettled}
use Rattle.wire_runs.specs.Fences.{is_member}
use Rattle.wire_runs.specs.Embeddings.{Renaming, IsEmbedding, pair}
use Rattle.wire_runs.specs.Parts.{Piece, Kept, Left, place_in}
use Rattle.wire_runs.specs.Patterns.{Line, Step, Once, Loop, Pattern, Coding, Cast, group, call_in, turns}
use Rattle.wire_runs.specs.Patterns.{instance_of, IsLawful, IsCastOf}

-- the numbers with r left out: where number p stands among all, and back
abbrev pub skip : ℕ → ℕ → ℕ
skip zero p = suc p
skip (suc r) zero = zero
skip (suc r) (suc p) = suc (skip r p)

abbrev pub back : ℕ → ℕ → ℕ
back zero e = pred e
back (suc r) zero = zero
back (suc r) (suc e) = suc (back r e)

abbrev pub without : ℕ → List ℕ → List ℕ
without r [] = []
without zero (x ∷ xs) = xs
without (suc r) (x ∷ xs) = x ∷ without r xs

abbrev pub restricted : ℕ → Cast → Cast
restricted r cast = record { roles = without r cast.roles; chosen = λ p i e. cast.chosen (skip r p) i (skip r e); nodes = λ p. cast.nodes (skip r p) }

-- a key or a name with its processes renamed
abbrev pub renamed_code : Coding → ℕ → ℕ → Option (ℕ × List ℕ) → ℕ
renamed_code coding r n None = n
renamed_code coding r n (Some word) = coding.code word.0 (map (skip r) word.1)

-- a set with all that is left of the role has r too
abbrev pub whole_again : ℕ → List ℕ → List ℕ → List ℕ
whole_again r rest members = if list_all (is_member members) rest then with_member r (map (skip r) members) else map (skip r) members

-- of a list of calls the kept and the left pieces
abbrev pub keep_calls : List Call → List Piece
keep_calls calls = map Kept (kinds_of calls)

abbrev pub leave_calls : List Call → List Piece
leave_calls calls = map Left (kinds_of calls)

abbrev pub loop_pieces : Coding → Cast → ℕ → ℕ → List Line → List ℕ → List Piece
loop_pieces coding cast r p lines [] = []
loop_pieces coding cast r p lines (e ∷ es) =
    (if e == r then leave_calls (map (call_in coding cast (skip r p) e) lines) else keep_calls (map (call_in coding (restricted r cast) p (back r e)) lines))
    ++ loop_pieces coding cast r p lines es

abbrev pub step_pieces : Coding → Cast → ℕ → ℕ → ℕ → Step → List Piece
step_pieces coding cast r p i (Once line) = keep_calls (call_in coding (restricted r cast) p p line ∷ [])
step_pieces coding cast r p i (Loop role mode lines) = loop_pieces coding cast r p lines (turns cast (skip r p) i role mode)

abbrev pub pieces_from : Coding → Cast → ℕ → ℕ → ℕ → List Step → List Piece
pieces_from coding cast r p i [] = []
pieces_from coding cast r p i (step ∷ steps) = step_pieces coding cast r p i step ++ pieces_from coding cast r p (suc i) steps

abbrev pub script_in : Pattern → Option ℕ → List Step
script_in pattern None = []
script_in pattern (Some role) = pattern.script role

-- what is kept and what is left of the process whose number is p without r
abbrev pub pieces_of : Pattern → Coding → Cast → ℕ → ℕ → List Piece
pieces_of pattern coding cast r p = pieces_from coding cast r p 0 (script_in pattern (slice_get cast.roles (skip r p)))

abbrev pub removal : Pattern → Coding → Cast → ℕ → ℕ → Renaming
removal pattern coding cast r role = record {
  process = skip r;
  place = λ p n. place_in (pieces_of pattern coding cast r p) n;
  key = λ n. renamed_code coding r n (coding.decode n);
  name = λ n. renamed_code coding r n (coding.decode n);
  members = whole_again r (group role (without r cast.roles));
}

-- r is one of at least four of its role
pub record CanGo (pattern : Pattern) (cast : Cast) (r role : ℕ) : Type 0 where
  pub lawful : IsLawful pattern
  pub cast_is : IsCastOf pattern cast
  pub is : slice_get cast.roles r ≡ Some role
  pub four : 4 ≤ length (group role cast.roles)

-- the instance without it stands in the whole instance
abbrev pub RestrictionsEmbed : Type 0
RestrictionsEmbed = (pattern : Pattern) (coding : Coding) (cast : Cast) (r role : ℕ) → CanGo pattern cast r role →
    IsEmbedding (removal pattern coding cast r role) (instance_of pattern coding (restricted r cast)) (instance_of pattern coding cast)

-- where a role has at least four ranks, and each instance with one of them fewer is settled, the instance is settled
abbrev pub FewerSettle : Type 0
FewerSettle = (pattern : Pattern) (coding : Coding) (cast : Cast) (role : ℕ) → IsLawful pattern → IsCastOf pattern cast
    → 4 ≤ length (group role cast.roles)
    → ((r : ℕ) → slice_get cast.roles r ≡ Some role → IsSettled (instance_of pattern coding (restricted r cast)))
    → IsSettled (instance_of pattern coding cast)

-- the cast on other nodes
abbrev pub on_nodes : (ℕ → ℕ) → Cast → Cast
on_nodes nodes cast = record { roles = cast.roles; chosen = cast.chosen; nodes = nodes }

-- of each role so many at least, or at most
abbrev pub HasAtLeast : (ℕ → ℕ) → Cast → Type 0
HasAtLeast least cast = (role : ℕ) → least role ≤ length (group role cast.roles)

abbrev pub HasAtMost : (ℕ → ℕ) → Cast → Type 0
HasAtMost most cast = (role : ℕ) → length (group role cast.roles) ≤ most role

-- a pattern's small instances: at most so many of each role, and at most two processes on a node, p and q
abbrev pub SmallAreSettled : Pattern → Coding → (least most : ℕ → ℕ) → Type 0
SmallAreSettled pattern coding least most = (cast : Cast) (p q : ℕ) → IsCastOf pattern cast
    → HasAtLeast least cast → HasAtMost most cast
    → IsSettled (instance_of pattern coding (on_nodes (pair p q) cast))

-- three of each role suffice: where all small instances are settled, with at least three allowed of each role, so is
-- each instance, with any number of processes of each role, on any nodes
abbrev pub ThreeSuffice : Type 0
ThreeSuffice = (pattern : Pattern) (coding : Coding) (least most : ℕ → ℕ) → IsLawful pattern → ((role : ℕ)
    → 3 ≤ most role)
    → ((role : ℕ) → least role ≤ most role) → SmallAreSettled pattern coding least most
    → (cast : Cast) → IsCastOf pattern cast → HasAtLeast least cast → IsSettled (instance_of pattern coding cast)
