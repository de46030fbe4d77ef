-- What a parsed line says, without where its parts lie.
use Rattle.std.specs.Prelude.{map}
use Rattle.wire_types.specs.Said.{Call, Said}
use Rattle.wire_types.specs.Said as said
use Rattle.wire_lines.specs.declared.sets.Item.{Item}
use Rattle.wire_lines.specs.declared.sets.Item.TheVariants.{One, Every}
use Rattle.wire_lines.specs.declared.sets.Set.{Set}
use Rattle.wire_lines.specs.declared.sets.Set.TheVariants.{Own, Listed}
use Rattle.wire_lines.specs.declared.call.CallLine.{CallLine}
use Rattle.wire_lines.specs.declared.call.CallLine.TheVariants.{Put, Commit, Fence, Get, GetNow, Publish, Lookup}
use Rattle.wire_lines.specs.declared.call.CallLine.TheVariants.{LookupWait, Unpublish, UnpublishAll}
use Rattle.wire_lines.specs.declared.line.Line.{Line}
use Rattle.wire_lines.specs.declared.line.Line.TheVariants.{Header, Keep, Node, Job, Rank, Calls}

abbrev pub view_item : Item → said.Item
view_item (One owner) = said.One owner.job.now owner.rank
view_item (Every job) = said.Every job.now

abbrev pub set_by : Set → said.Set
set_by Own = said.Own
set_by (Listed items) = said.Listed (map view_item items.items)

abbrev pub view_call : CallLine → Call
view_call (Put scope key value) = said.Put scope key.now value.now
view_call Commit = said.Commit
view_call (Fence set collect) = said.Fence (set_by set) collect
view_call (Get owner key) = said.Get owner.job.now owner.rank key.now
view_call (GetNow owner key) = said.GetNow owner.job.now owner.rank key.now
view_call (Publish name value) = said.Publish name.now value.now
view_call (Lookup name) = said.Lookup name.now
view_call (LookupWait name) = said.LookupWait name.now
view_call (Unpublish name) = said.Unpublish name.now
view_call UnpublishAll = said.UnpublishAll

abbrev pub said_by : Line → Said
said_by (Header version) = said.Header version
said_by Keep = said.Keep
said_by (Node name) = said.Node name.now
said_by (Job name) = said.Job name.now
said_by (Rank node) = said.Rank node.now
said_by (Calls call) = said.Calls (view_call call)
