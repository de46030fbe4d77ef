-- The first words of the lines of a process's calls: for the contracts of private functions.
use Rattle.std.specs.Prelude.{◌≡◌, ◌++◌, codes}
use Rattle.wire_scripts.specs.Scripts.{Scripts}
use Rattle.wire_words.specs.Words.{name_of}
use Rattle.wire_portable_commands.specs.declared.lines.Head.{Head}

-- these are those words
abbrev pub IsHead : Scripts → Head → Type 0
IsHead s head = head.words.items ≡ codes "unportable " ++ name_of s head.proc.number ++ codes " "
