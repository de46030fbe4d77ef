-- What an event does to the names, one name at a time.
use Rattle.std.specs.Prelude.{◌≡◌, ℕ, ◌<◌, ⊤, List, length, Option, Some, ◌==◌, if◌then◌else◌}
use Rattle.wire_runs.specs.Plan.{Kind, Publish, Unpublish, UnpublishAll}
use Rattle.wire_types.specs.declared.CallAt.{CallAt}
use Rattle.wire_names.specs.Names.{published, after_publish, after_unpublish, names_after_publish}
use Rattle.wire_names.specs.Names.{names_after_unpublish, names_after_unpublish_all}

-- the table after the event of this call, which only publishes and unpublishes change
abbrev pub names_after : CallAt → Option Kind → List (Option CallAt) → List (Option CallAt)
names_after call (Some (Publish name)) names = names_after_publish name call names
names_after call (Some (Unpublish name)) names = names_after_unpublish name call.proc.number names
names_after call (Some UnpublishAll) names = names_after_unpublish_all call.proc.number names
names_after call _ names = names

-- what stands under a name after it, by what stood there
abbrev pub standing_after : CallAt → Option Kind → ℕ → Option CallAt → Option CallAt
standing_after call (Some (Publish name)) other standing = if name == other then after_publish call standing else standing
standing_after call (Some (Unpublish name)) other standing = if name == other then after_unpublish call.proc.number standing else standing
standing_after call (Some UnpublishAll) other standing = after_unpublish call.proc.number standing
standing_after call _ other standing = standing

-- the table has the name that the event publishes or unpublishes, where that is one name
abbrev pub HasName : Option Kind → List (Option CallAt) → Type 0
HasName (Some (Publish name)) names = name < length names
HasName (Some (Unpublish name)) names = name < length names
HasName _ names = ⊤

-- the event changes the table name by name, and the table keeps its length
pub record ChangesByName (call : CallAt) (kind : Option Kind) (names : List (Option CallAt)) : Type 0 where
  pub count : length (names_after call kind names) ≡ length names
  pub each : (name : ℕ) → published (names_after call kind names) name ≡ standing_after call kind name (published names name)

abbrev pub NamesFollow : Type 0
NamesFollow = (call : CallAt) (kind : Option Kind) (names : List (Option CallAt)) → HasName kind names → ChangesByName call kind names
