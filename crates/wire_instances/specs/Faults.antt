-- The fault of an instance's text as a fault of the pattern.
use Rattle.std.specs.Prelude.{ℕ, ◌-◌, List, slice_index_or}
use Rattle.wire_types.specs.declared.fault.Fault.{Fault}
use Rattle.wire_types.specs.declared.fault.Fault.TheVariants.{TooLong, BadHeader, BadLine, UnknownName, Twice}
use Rattle.wire_types.specs.declared.fault.Fault.TheVariants.{NotMember, TooMany}

-- of the line n, counted from 1, the number in this list; 0 past its end
abbrev pub line_in : List ℕ → ℕ → ℕ
line_in lines n = slice_index_or lines (n - 1) 0

-- the line of a fault, 0 where it has none
abbrev pub line_of : Fault → ℕ
line_of (TooLong n) = n
line_of (BadHeader n) = n
line_of (BadLine n) = n
line_of (UnknownName n) = n
line_of (Twice n) = n
line_of (NotMember n) = n
line_of (TooMany n) = n
line_of fault = 0

-- a fault with another line; one without a line stays
abbrev pub at_line : ℕ → Fault → Fault
at_line line (TooLong n) = TooLong line
at_line line (BadHeader n) = BadHeader line
at_line line (BadLine n) = BadLine line
at_line line (UnknownName n) = UnknownName line
at_line line (Twice n) = Twice line
at_line line (NotMember n) = NotMember line
at_line line (TooMany n) = TooMany line
at_line line fault = fault

-- a fault of a line is one of the line that it comes from; other faults stay
abbrev pub fault_by : List ℕ → Fault → Fault
fault_by lines fault = at_line (line_in lines (line_of fault)) fault
