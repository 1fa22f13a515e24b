-- The numbers and the names of the refusals.
use Rattle.std.specs.Prelude.{ℕ, List, codes}
use Rattle.pq_read.specs.declared.refusal.Kind.{Kind}
use Rattle.pq_read.specs.declared.refusal.Kind.TheVariants.{NoHeader, BadToken, Syntax, UnknownGate, UnknownRegister, RepeatedName, IndexOutOfRange, SameQubit, SizeMismatch, Unsupported, GateAfterMeasure, BarrierInside, BadSize, TooManyQubits, TooManyGates, TooManyBits, TailTooLong, NameTooLong}

abbrev pub number_of : Kind → ℕ
number_of NoHeader = 1
number_of BadToken = 2
number_of Syntax = 3
number_of UnknownGate = 4
number_of UnknownRegister = 5
number_of RepeatedName = 6
number_of IndexOutOfRange = 7
number_of SameQubit = 8
number_of SizeMismatch = 9
number_of Unsupported = 10
number_of GateAfterMeasure = 11
number_of BarrierInside = 12
number_of BadSize = 13
number_of TooManyQubits = 14
number_of TooManyGates = 15
number_of TooManyBits = 16
number_of TailTooLong = 17
number_of NameTooLong = 18

abbrev pub name_of : Kind → List ℕ
name_of NoHeader = codes "NoHeader"
name_of BadToken = codes "BadToken"
name_of Syntax = codes "Syntax"
name_of UnknownGate = codes "UnknownGate"
name_of UnknownRegister = codes "UnknownRegister"
name_of RepeatedName = codes "RepeatedName"
name_of IndexOutOfRange = codes "IndexOutOfRange"
name_of SameQubit = codes "SameQubit"
name_of SizeMismatch = codes "SizeMismatch"
name_of Unsupported = codes "Unsupported"
name_of GateAfterMeasure = codes "GateAfterMeasure"
name_of BarrierInside = codes "BarrierInside"
name_of BadSize = codes "BadSize"
name_of TooManyQubits = codes "TooManyQubits"
name_of TooManyGates = codes "TooManyGates"
name_of TooManyBits = codes "TooManyBits"
name_of TailTooLong = codes "TailTooLong"
name_of NameTooLong = codes "NameTooLong"
