-- With the status with which a get-now of a reserved key is answered, one of its line is answered in an instance that is
-- judged: it is live, so one of its line is live in a small instance and in the judged one with its turns, and happens.
use Rattle.std.proofs.Common.{◌≡◌, ◌∙◌, ap, sym, subst, refl, ℕ, pred, ◌<◌, List, length, true, Some, arith}
use Rattle.std.specs.Prelude.{slice_get, slice_index_or, [], Ok}
use Rattle.std.proofs.lemmas.Option.{slice_get_within}
use Rattle.wire_types.specs.declared.CallEnd.TheVariants.{Replied}
use Rattle.wire_types.specs.declared.Reply.{Reply}
use Rattle.wire_types.specs.declared.Status.{Status}
use Rattle.wire_types.specs.Said.{is_reserved}
use Rattle.wire_runs.specs.Plan as runs
use Rattle.wire_runs.specs.Plan.{Plan, Event, Kind, kind, process_count, node_of}
use Rattle.wire_runs.specs.State.{Answer, IsDone}
use Rattle.wire_runs.specs.Order.{Live}
use Rattle.wire_runs.specs.Races.{IsSettled}
use Rattle.wire_runs.specs.Laws.{plain_end}
use Rattle.wire_runs.specs.PlacingLaws.{plain_reply}
use Rattle.wire_runs.specs.Embeddings.{image}
use Rattle.wire_runs.specs.Renamed.{renumbering}
use Rattle.wire_runs.specs.Parts.{Piece, in_place, AddsReads}
use Rattle.wire_runs.specs.Patterns as plan
use Rattle.wire_runs.specs.Patterns.{who, instance_of}
use Rattle.wire_runs.specs.Restrictions.{on_nodes}
use Rattle.wire_runs.proofs.Codings.{have_coding}
use Rattle.wire_runs.proofs.EmbeddedOrder.{live_back}
use Rattle.wire_runs.proofs.Lists.{slice_get-map_kept, slice_get-map_back}
use Rattle.wire_runs.proofs.MoreReads.{kind_into, live_into}
use Rattle.wire_runs.proofs.PlacingKeeps.{placing_keeps}
use Rattle.wire_runs.proofs.Renumbered.{embeds}
use Rattle.wire_scripts.specs.Scripts.{Scripts, text_at, calls_in}
use Rattle.wire_scripts.specs.Planned.{reply_of_key, plan_of}
use Rattle.wire_scripts.proofs.PlannedCalls.{as_many_planned}
use Rattle.wire_core.specs.EndsAfter.{plain_ends}
use Rattle.wire_reader.specs.declared.limits.Size.{Size}
use Rattle.wire_reader.specs.declared.Size.TheVariants.{OfVersion}
use Rattle.wire_reader.specs.Reads.{Reads}
use Rattle.wire_pattern.specs.Pattern.{Line, Pattern, Step}
use Rattle.wire_pattern.specs.Planned.{pattern_of, least_of, steps_in}
use Rattle.wire_pattern.proofs.Lawful.{sound_is_lawful}
use Rattle.wire_pattern.specs.Instances as text
use Rattle.wire_pattern.specs.Instances.{Cast, IsCast, cast_of, process_text, word_text, instance_text}
use Rattle.wire_pattern_laws.specs.Lines.{IsOfLine}
use Rattle.wire_pattern_laws.proofs.MoreTurns.{pieces, adds}
use Rattle.wire_instances.proofs.Groups.{length_roles}
use Rattle.wire_instance_laws.specs.Reading.{IsInstance, IsOfCast}
use Rattle.wire_instance_laws.proofs.Made.{Turned, in_steps}
use Rattle.wire_instance_laws.proofs.Read.{instances_read}
use Rattle.wire_instance_laws.proofs.Words.{reserved_is}
use Rattle.wire_cutoff_laws.specs.Promised.{IsAnyCast}
use Rattle.wire_cutoff_laws.proofs.Few.{most_at, three}
use Rattle.wire_cutoff.specs.Texts.{HaveLeast}
use Rattle.wire_cutoff.proofs.Members.{at_place}
use Rattle.wire_cutoff.proofs.Texts.{any_cast}
use Rattle.wire_pattern_waits.specs.Places.{steps_places}
use Rattle.wire_pattern_waits.specs.Waits.{alone}
use Rattle.wire_pattern_answers.specs.FewPlacings.{asks_now}
use Rattle.wire_pattern_answers.specs.Answers.{IsAnsweredAtLine, Answers}
use Rattle.wire_pattern_answers.proofs.Calls.{place_in}
use Rattle.wire_pattern_answers.proofs.Events.{row_to, row_from, replied_done, done_replied}
use Rattle.wire_pattern_answers.proofs.Placed.{own_nodes, itself}
use Rattle.wire_answer_laws.specs.AnySize.{IsJudgedForOne}
use Rattle.wire_answer_laws.proofs.AskedLines.{IsGetNow, AsksFor, line_asks, asks_for}
use Rattle.wire_answer_laws.proofs.Calls.{fences, kind_own, kind_read, event_line, event_call, call_stands}
use Rattle.wire_answer_laws.proofs.Fuller.{HasFuller, fuller_of}
use Rattle.wire_answer_laws.proofs.FullerLines.{line_there}
use Rattle.wire_answer_laws.proofs.Happens.{done_live}
use Rattle.wire_answer_laws.proofs.ReservedStatus.{kind_is, reserved_status, indexed_alike, reserved_answer}
use Rattle.wire_answer_laws.proofs.Small.{line_from_one}
use Rattle.wire_answer_laws.proofs.SmallLive.{LiveIn, HasLive, shrinks}
use Rattle.wire_answer_laws.proofs.Spread.{HasCall}
use Rattle.wire_answer_laws.proofs.TurnedLines.{script_lines, number_of, turned_of, numbers_are, turned_are, one_line}

-- of a call the line in its turn
pub record HasLine (cast : Cast) (v c line : ℕ) (steps : List Step) : Type 0 where
  pub turned : Turned
  pub listed : slice_get (script_lines (cast_of cast) v 0 1 steps) c ≡ Some (line, turned)
  pub at : slice_get (in_steps (cast_of cast) v 0 steps) c ≡ Some turned

line_of_call : (cast : Cast) (v c line : ℕ) (steps : List Step) → slice_get (steps_places cast v 0 1 steps) c ≡ Some line → HasLine cast v c line steps
line_of_call cast v c line steps is =
    let b = slice_get-map_back number_of (script_lines (cast_of cast) v 0 1 steps) c line
    (ap (λ ns. slice_get ns c) (numbers_are cast v 0 1 steps) ∙ is) in
    record {
      turned = b.0.1;
      listed = b.1 ∙ ap (λ n. Some (n, b.0.1)) b.2;
      at =
          ap (λ ts. slice_get ts c) (sym (turned_are (cast_of cast) v 0 1 steps))
          ∙ slice_get-map_kept turned_of (script_lines (cast_of cast) v 0 1 steps) c b.0 b.1;
    }

module _ (p : Pattern) (all : IsJudgedForOne p) (cast : Cast) (size : Size) (s : Scripts) (is_cast : IsCast p cast) (least : HaveLeast p.roles cast.sizes)
    (reads : Reads size (instance_text p cast) (Ok s)) (role line : ℕ) (status : Status) (a : IsAnsweredAtLine p cast s role line status) where
  abbrev steps : List Step
  steps = steps_in (slice_get p.roles role)

  pub said : HasLine cast a.process a.call line steps
  said = line_of_call cast a.process a.call line steps a.of_line

  pub asks : IsGetNow said.turned.1.call
  asks = line_asks p cast all.sound is_cast size s reads a.process role a.call said.turned a.has_role said.at a.asks

  -- the get-now that is answered
  pub asked : AsksFor s a.process a.call (word_text p cast a.process said.turned.0 asks.word)
  asked = asks_for p cast all.sound is_cast size s reads a.process role a.call said.turned a.has_role said.at asks.owner asks.word asks.is

  of : IsOfCast p cast s
  of = instances_read p cast size s all.sound is_cast reads

  abbrev x : Event
  x = record { proc = a.process; at = place_in s a.process a.call }

  abbrev fixed : Kind
  fixed = runs.Fixed (reply_of_key s asked.owner.number asked.key)

  abbrev nodes : ℕ → ℕ
  nodes = node_of (plan_of s)

  abbrev on : plan.Cast
  on = on_nodes nodes (cast_of cast)

  abbrev own : Plan
  own = instance_of (pattern_of p) have_coding on

  abbrev i : IsInstance p cast s have_coding nodes
  i = of.instances have_coding nodes

  module _ (here : IsSettled (plan_of s)) (low : a.process < process_count (plan_of s)) (reserved : is_reserved (text_at s.keys asked.key) ≡ true) where
    reserved_base : is_reserved asks.word.base ≡ true
    reserved_base = sym (reserved_is asks.word.base _) ∙ ap is_reserved (sym asked.text_is) ∙ reserved

    status_here : status ≡ reserved_status (word_text p cast a.process said.turned.0 asks.word)
    status_here =
        reserved_answer s here a.process a.call asked.owner asked.key low asked.is reserved asked.there status a.answered ∙ ap reserved_status asked.text_is

    -- it happens, so it is live
    kind_here : kind (plan_of s) x ≡ Some fixed
    kind_here = kind_is s here a.process a.call asked.owner asked.key low asked.is reserved asked.there

    live_here : Live (plan_of s) x
    live_here =
        let r = row_to (plan_of s) here a.process a.call (place_in s a.process a.call) fixed low refl kind_here refl a.answered.reply a.answered.is in
        done_live (plan_of s) x (replied_done (plan_of s) here x r.0 r.1)

    live_own : Live own x
    live_own = live_back (renumbering i.key i.name) own i.other (embeds own i.other i.key i.name i.renumbered) x (((placing_keeps (plan_of s) i.other i.placing).lives x).0 live_here)

    first : LiveIn (pattern_of p) have_coding (length p.roles) (least_of p) role (pred line) on
    first =
        let any : IsAnyCast p on = any_cast p cast is_cast least nodes in
        let k = kind_own p cast s of nodes a.process x.at fixed kind_here refl in
        let low_call = slice_get_within (calls_in (slice_get s.processes a.process)) a.call _ asked.is in
        record {
          cast_is = any.is;
          in_order = any.in_order;
          has_least = any.least;
          event = x;
          of_line = event_line p cast s of nodes a.process role a.has_role a.call line (subst (λ n. a.call < n) (as_many_planned s a.process) low_call) a.of_line;
          k = k.0;
          is = k.1;
          stays = k.2;
          is_live = live_own;
        }

    -- one of its line in a small instance
    small : HasLive (pattern_of p) have_coding (length p.roles) (least_of p) (λ role. most_at (least_of p role)) role (pred line)
    small =
        shrinks (pattern_of p) have_coding (length p.roles) (least_of p) (λ role. most_at (least_of p role)) (sound_is_lawful p all.sound) (λ role lt. three (least_of p role))
        (λ c is in_order has_least most. all.settled have_coding c (record { is = is; in_order = in_order; least = has_least })) role (pred line) (length on.roles) on (omega arith) first

    -- and in the judged one
    j : HasFuller p small.cast
    j = fuller_of p all small.cast (record { is = small.there.cast_is; in_order = small.there.in_order; least = small.there.has_least }) small.has_most

    abbrev whole : Cast
    whole = alone p j.selection

    abbrev fuller : plan.Cast
    fuller = on_nodes small.cast.nodes (cast_of whole)

    abbrev ps : ℕ → List Piece
    ps = pieces (pattern_of p) have_coding small.cast fuller j.more

    reads_more : AddsReads (instance_of (pattern_of p) have_coding small.cast) (instance_of (pattern_of p) have_coding fuller) ps
    reads_more = adds (pattern_of p) have_coding small.cast fuller j.more

    abbrev y : Event
    y = image (in_place ps) small.there.event

    of_y : IsOfLine (pattern_of p) fuller y role (pred line)
    of_y = line_there (pattern_of p) have_coding small.cast fuller j.more small.there.event role (pred line) small.there.of_line

    kind_y : kind (instance_of (pattern_of p) have_coding fuller) y ≡ Some small.there.k
    kind_y = kind_into (instance_of (pattern_of p) have_coding small.cast) (instance_of (pattern_of p) have_coding fuller) ps reads_more small.there.event small.there.k small.there.is

    done_y : IsDone (plain_end (plan_of j.s)) y
    done_y = j.happens y (live_into (instance_of (pattern_of p) have_coding small.cast) (instance_of (pattern_of p) have_coding fuller) ps reads_more small.there.event small.there.is_live)

    abbrev v : ℕ
    v = y.proc

    abbrev has_role : slice_get (cast_of whole).roles v ≡ Some role
    has_role = of_y.its_role

    within : v < process_count (plan_of j.s)
    within =
        let low = slice_get_within (cast_of whole).roles v role has_role in
        let count : length (cast_of whole).roles ≡ text.process_count whole = length_roles 0 j.selection.sizes in
        omega (arith, low, count, j.of.count)

    call : HasCall (steps_places whole v 0 1 steps) (fences p whole j.s j.of small.cast.nodes v role has_role) y.at (pred line)
    call =
        let k = kind_read p whole j.s j.of small.cast.nodes v y.at small.there.k kind_y small.there.stays in
        event_call p whole j.s j.of small.cast.nodes v role has_role y.at (pred line) k.0 of_y k.1 k.2

    of_line : slice_get (steps_places whole v 0 1 steps) call.call ≡ Some line
    of_line =
        let from = line_from_one p cast a.process role a.call line a.of_line in
        let from_there = line_from_one p whole v role call.call call.line call.of_line in
        let same = call.same in
        let is : call.line ≡ line = omega (arith, from, from_there, same) in
        call.of_line ∙ ap Some is

    said_there : HasLine whole v call.call line steps
    said_there = line_of_call whole v call.call line steps of_line

    -- the same line of the file
    one : said_there.turned.1 ≡ said.turned.1
    one =
        one_line (cast_of whole) (cast_of cast) v a.process steps (line, said_there.turned) (line, said.turned)
        (at_place (line, said_there.turned) (script_lines (cast_of whole) v 0 1 steps) call.call said_there.listed)
        (at_place (line, said.turned) (script_lines (cast_of cast) a.process 0 1 steps) a.call said.listed) refl

    asked_there : AsksFor j.s v call.call (word_text p whole v said_there.turned.0 asks.word)
    asked_there =
        asks_for p whole all.sound j.is_cast OfVersion j.s j.reads v role call.call said_there.turned has_role said_there.at asks.owner asks.word
        (ap (λ (l : Line). l.call) one ∙ asks.is)

    reserved_there : is_reserved (text_at j.s.keys asked_there.key) ≡ true
    reserved_there = ap is_reserved asked_there.text_is ∙ reserved_is asks.word.base _ ∙ reserved_base

    kind_there : kind (plan_of j.s) (record { proc = v; at = place_in j.s v call.call }) ≡ Some (runs.Fixed (reply_of_key j.s asked_there.owner.number asked_there.key))
    kind_there = kind_is j.s j.here v call.call asked_there.owner asked_there.key within asked_there.is reserved_there asked_there.there

    said_reply : (b : Answer) × (plain_reply (plan_of j.s) (record { proc = v; at = place_in j.s v call.call }) ≡ Some b)
    said_reply =
        done_replied (plan_of j.s) j.here (record { proc = v; at = place_in j.s v call.call })
        (subst (λ n. n < (plain_end (plan_of j.s)).done v) (sym (call_stands p whole j.s j.of small.cast.nodes v role has_role y.at (pred line) call)) done_y)

    replied : (reply : Reply) × (slice_get (slice_index_or (plain_ends j.s).rows v []) call.call ≡ Some (Replied reply))
    replied =
        let r = row_from (plan_of j.s) j.here v call.call (place_in j.s v call.call) (runs.Fixed (reply_of_key j.s asked_there.owner.number asked_there.key))
        within refl kind_there refl said_reply.0 said_reply.1 in
        (r.0, r.2)

    status_there : replied.0.status ≡ reserved_status (word_text p whole v said_there.turned.0 asks.word)
    status_there =
        reserved_answer j.s j.here v call.call asked_there.owner asked_there.key within asked_there.is reserved_there asked_there.there
        replied.0.status (record { reply = replied.0; is = replied.1; has = refl }) ∙ ap reserved_status asked_there.text_is

    answered : IsAnsweredAtLine p whole j.s role line status
    answered = record {
      process = v;
      call = call.call;
      has_role = has_role;
      of_line = of_line;
      asks = ap asks_now asked_there.is;
      answered = record {
        reply = replied.0;
        is = replied.1;
        has =
            status_there ∙ sym (indexed_alike asks.word.base asks.word.indices
            (λ w. process_text p cast (who (cast_of cast) a.process said.turned.0 w)) (λ w. process_text p whole (who (cast_of whole) v said_there.turned.0 w)))
            ∙ sym status_here;
      };
    }

    pub reserved_answers : Answers p role line status
    reserved_answers = record {
      number = j.number;
      selection = j.selection;
      is = j.is;
      answers = record {
        scripts = j.s;
        reads = j.reads;
        names = j.s.nodes;
        nodes = own_nodes j.s;
        answered = subst (λ scripts. IsAnsweredAtLine p whole scripts role line status) (itself j.s) answered;
      };
    }
