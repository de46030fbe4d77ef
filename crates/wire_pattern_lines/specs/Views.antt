-- What a parsed line says, without where its parts lie.
use Rattle.std.specs.Prelude.{map}
use Rattle.wire_types.specs.Texts.{texts_of}
use Rattle.wire_pattern.specs.Views.{turns_by}
use Rattle.wire_pattern_lines.specs.Said as said
use Rattle.wire_pattern_lines.specs.declared.procs.Proc.{Proc}
use Rattle.wire_pattern_lines.specs.declared.procs.Proc.TheVariants.{Caller, Each, Named}
use Rattle.wire_pattern_lines.specs.declared.key.Key.{Key}
use Rattle.wire_pattern_lines.specs.declared.sets.Item.{Item}
use Rattle.wire_pattern_lines.specs.declared.sets.Item.TheVariants.{One, Every}
use Rattle.wire_pattern_lines.specs.declared.sets.Set.{Set}
use Rattle.wire_pattern_lines.specs.declared.sets.Set.TheVariants.{Own, Listed}
use Rattle.wire_pattern_lines.specs.declared.call.CallLine.{CallLine}
use Rattle.wire_pattern_lines.specs.declared.call.CallLine.TheVariants.{Put, Commit, Fence, Get, GetNow, Publish, Lookup}
use Rattle.wire_pattern_lines.specs.declared.call.CallLine.TheVariants.{LookupWait, Unpublish, UnpublishAll}
use Rattle.wire_pattern_lines.specs.declared.line.Line.{Line}
use Rattle.wire_pattern_lines.specs.declared.line.Line.TheVariants.{Header, Keep, Job, Single, Many, Begin, End, Calls}

abbrev pub proc_by : Proc → said.Proc
proc_by Caller = said.Caller
proc_by Each = said.Each
proc_by (Named role) = said.Named role.now

abbrev pub key_by : Key → said.Key
key_by key = record { base = key.base.now; indices = map proc_by key.indices.items }

abbrev pub view_item : Item → said.Item
view_item (One proc) = said.One (proc_by proc)
view_item (Every job) = said.Every job.now

abbrev pub set_by : Set → said.Set
set_by Own = said.Own
set_by (Listed items) = said.Listed (map view_item items.items)

abbrev pub view_call : CallLine → said.Call
view_call (Put scope key value) = said.Put scope (key_by key) value.now
view_call Commit = said.Commit
view_call (Fence set collect) = said.Fence (set_by set) collect
view_call (Get owner key) = said.Get (proc_by owner) (key_by key)
view_call (GetNow owner key) = said.GetNow (proc_by owner) (key_by key)
view_call (Publish name value) = said.Publish (key_by name) value.now
view_call (Lookup name) = said.Lookup (key_by name)
view_call (LookupWait name) = said.LookupWait (key_by name)
view_call (Unpublish name) = said.Unpublish (key_by name)
view_call UnpublishAll = said.UnpublishAll

abbrev pub said_by : Line → said.Said
said_by Header = said.Header
said_by Keep = said.Keep
said_by (Job name) = said.Job name.now
said_by (Single name) = said.Single name.now
said_by (Many name least) = said.Many name.now least
said_by (Begin turns roles) = said.Begin (turns_by turns) (texts_of roles.items)
said_by End = said.End
said_by (Calls call) = said.Calls (view_call call)
