use Rattle.std.proofs.Common.{[], Some, subst}
use Rattle.wire_names.specs.Changes.{HasName}
use Rattle.wire_plan.specs.Kinds.{kind_of}
use Rattle.wire_core.proofs.name_changes.note_name.Goals as goal

pub publish-requires : goal.publish-requires
publish-requires c = subst (λ kind. HasName (Some (kind_of [] kind)) c.args.names.now) c.in-Publish.is (c.requires [])

pub unpublish-requires : goal.unpublish-requires
unpublish-requires c = subst (λ kind. HasName (Some (kind_of [] kind)) c.args.names.now) c.in-Unpublish.is (c.requires [])
