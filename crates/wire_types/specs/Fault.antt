-- What a fault is called, and the line and the exit status that tell of it.
use Rattle.std.specs.Prelude.{ℕ, List, [], ◌∷◌, ◌++◌, Option, Some, None, codes, decimal}
use Rattle.wire_types.specs.declared.fault.Fault.{Fault}
use Rattle.wire_types.specs.declared.fault.Fault.TheVariants.{Memory, TooLong, BadHeader, BadLine, UnknownName, Twice}
use Rattle.wire_types.specs.declared.fault.Fault.TheVariants.{NotMember, TooMany, Workers, Read}
use Rattle.wire_types.specs.declared.fault.Fault.TheVariants.{Write, NotReady, BadOrder}

-- the number of a fault
abbrev pub number_of : Fault → ℕ
number_of Memory = 1
number_of (TooLong line) = 2
number_of (BadHeader line) = 3
number_of (BadLine line) = 4
number_of (UnknownName line) = 5
number_of (Twice line) = 6
number_of (NotMember line) = 7
number_of (TooMany line) = 8
number_of Workers = 9
number_of Read = 10
number_of (Write n) = 11
number_of (NotReady step) = 12
number_of (BadOrder place) = 13

-- the name of a fault
abbrev pub name_of : Fault → List ℕ
name_of Memory = codes "Memory"
name_of (TooLong line) = codes "TooLong"
name_of (BadHeader line) = codes "BadHeader"
name_of (BadLine line) = codes "BadLine"
name_of (UnknownName line) = codes "UnknownName"
name_of (Twice line) = codes "Twice"
name_of (NotMember line) = codes "NotMember"
name_of (TooMany line) = codes "TooMany"
name_of Workers = codes "Workers"
name_of Read = codes "Read"
name_of (Write n) = codes "Write"
name_of (NotReady step) = codes "NotReady"
name_of (BadOrder place) = codes "BadOrder"

-- what a fault carries: a line, a count of bytes, a step or an argument
abbrev pub carried_by : Fault → Option ℕ
carried_by Memory = None
carried_by (TooLong line) = Some line
carried_by (BadHeader line) = Some line
carried_by (BadLine line) = Some line
carried_by (UnknownName line) = Some line
carried_by (Twice line) = Some line
carried_by (NotMember line) = Some line
carried_by (TooMany line) = Some line
carried_by Workers = None
carried_by Read = None
carried_by (Write n) = Some n
carried_by (NotReady step) = Some step
carried_by (BadOrder place) = Some place

-- the exit status: 3 for memory, 4 for a read or a write, 2 for all that is refused
abbrev pub exit_status : Fault → ℕ
exit_status Memory = 3
exit_status (TooLong line) = 2
exit_status (BadHeader line) = 2
exit_status (BadLine line) = 2
exit_status (UnknownName line) = 2
exit_status (Twice line) = 2
exit_status (NotMember line) = 2
exit_status (TooMany line) = 2
exit_status Workers = 2
exit_status Read = 4
exit_status (Write n) = 4
exit_status (NotReady step) = 2
exit_status (BadOrder place) = 2

-- a space and the number, where there is one
abbrev pub carried_text : Option ℕ → List ℕ
carried_text None = []
carried_text (Some n) = 32 ∷ decimal n

-- the line on standard error
abbrev pub fault_line : Fault → List ℕ
fault_line f = codes "wire_up: fault " ++ decimal (number_of f) ++ codes " " ++ name_of f ++ carried_text (carried_by f) ++ codes "\n"
