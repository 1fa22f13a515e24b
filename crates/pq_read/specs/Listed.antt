-- The arguments of a gate as a list.
use Rattle.std.specs.Prelude.{List, [], ◌∷◌}
use Rattle.pq_read.specs.declared.argument.Argument.{Argument}
use Rattle.pq_read.specs.declared.gate.Arguments.{Arguments}
use Rattle.pq_read.specs.declared.gate.Arguments.TheVariants.{One, Two, Three}
use Rattle.pq_read.specs.Registers.{IsArgument}

abbrev pub listed : Arguments → List Argument
listed (One a) = a ∷ []
listed (Two a b) = a ∷ b ∷ []
listed (Three a b c) = a ∷ b ∷ c ∷ []

abbrev pub AreArguments : Arguments → Type 0
AreArguments (One a) = IsArgument a
AreArguments (Two a b) = IsArgument a × IsArgument b
AreArguments (Three a b c) = IsArgument a × IsArgument b × IsArgument c
