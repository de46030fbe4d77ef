use Rattle.std.proofs.Common.{refl}
use Rattle.wire_command_line.proofs.matching.parse_command.Goals as goal

pub returns : goal.returns
returns c = record {
  command = refl;
  words = c.in_ok-words_given.ensures;
  workers = c.workers_given.ensures;
  most = c.most_given.ensures;
  ranks = c.find_word.ensures;
  per_node = c.find_word-2.ensures;
  by = c.find_word-3.ensures;
  nodes = c.find_word-4.ensures;
  anywhere = c.is_set.ensures;
  same = c.is_set-2.ensures;
  portable = c.is_set-3.ensures;
  pattern = c.is_set-4.ensures;
  answers = c.is_set-5.ensures;
  lines = c.is_set-6.ensures;
  json = c.is_set-7.ensures;
  anyway = c.is_set-8.ensures;
  complete = c.is_set-9.ensures;
  first = c.is_set-10.ensures;
  second = c.is_set-11.ensures;
  large = c.is_set-12.ensures;
  explain = c.is_set-13.ensures;
}
