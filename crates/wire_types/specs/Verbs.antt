-- The verbs of calls, as they are spelled.
use Rattle.std.specs.Prelude.{ℕ, List, codes}
use Rattle.wire_types.specs.declared.verb.Verb.{Verb}
use Rattle.wire_types.specs.declared.verb.Verb.TheVariants.{Put, Commit, Fence, Get, GetNow, Publish, Lookup}
use Rattle.wire_types.specs.declared.verb.Verb.TheVariants.{LookupWait, Unpublish}

abbrev pub text_of_verb : Verb → List ℕ
text_of_verb Put = codes "put"
text_of_verb Commit = codes "commit"
text_of_verb Fence = codes "fence"
text_of_verb Get = codes "get"
text_of_verb GetNow = codes "get-now"
text_of_verb Publish = codes "publish"
text_of_verb Lookup = codes "lookup"
text_of_verb LookupWait = codes "lookup-wait"
text_of_verb Unpublish = codes "unpublish"
