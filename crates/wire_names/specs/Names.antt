-- What stands under published names (PMIx Standard 5.0, Publish/Lookup Operations). Names are numbers, and a table
-- has for each name the publish that set it, where something stands there.
use Rattle.std.specs.Prelude.{ℕ, List, Bool, false, Option, Some, None, map, set, slice_index_or, ◌==◌, if◌then◌else◌}
use Rattle.wire_types.specs.declared.CallAt.{CallAt}
use Rattle.wire_types.specs.declared.Status.{Status}
use Rattle.wire_types.specs.declared.Status.TheVariants.{Success, NotFound, DuplicateKey}

-- the publish that stands under the name, none past the end of the table
abbrev pub published : List (Option CallAt) → ℕ → Option CallAt
published names name = slice_index_or names name None

-- what stands under a name after a publish of it: what stood there, or else this publish
abbrev pub after_publish : CallAt → Option CallAt → Option CallAt
after_publish call None = Some call
after_publish call (Some earlier) = Some earlier

abbrev pub status_of_publish : Option CallAt → Status
status_of_publish None = Success
status_of_publish (Some earlier) = DuplicateKey

-- whether something stands there, and this process published it
abbrev pub is_published_by : ℕ → Option CallAt → Bool
is_published_by p None = false
is_published_by p (Some publish) = publish.proc.number == p

-- what stands under a name after this process has unpublished it: what others published stays
abbrev pub after_unpublish : ℕ → Option CallAt → Option CallAt
after_unpublish p standing = if is_published_by p standing then None else standing

abbrev pub status_of_unpublish : ℕ → Option CallAt → Status
status_of_unpublish p standing = if is_published_by p standing then Success else NotFound

-- the table after a publish of a name, and after an unpublish
abbrev pub names_after_publish : ℕ → CallAt → List (Option CallAt) → List (Option CallAt)
names_after_publish name call names = set names name (after_publish call (published names name))

abbrev pub names_after_unpublish : ℕ → ℕ → List (Option CallAt) → List (Option CallAt)
names_after_unpublish name p names = set names name (after_unpublish p (published names name))

-- the table after this process has unpublished all that it published
abbrev pub names_after_unpublish_all : ℕ → List (Option CallAt) → List (Option CallAt)
names_after_unpublish_all p names = map (after_unpublish p) names
