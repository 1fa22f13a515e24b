-- What the parts of the work mean together.
use Rattle.std.proofs.Common.{◌≡◌, ℕ, List, Option, None, Some, refl, sym, subst}
use Rattle.std.specs.Prelude.{IsSome}
use Rattle.pq_read.specs.declared.program.Options.{Options}
use Rattle.pq_command.specs.declared.settings.Settings.{Settings}
use Rattle.pq_top.specs.declared.answer.Answer.{Answer}
use Rattle.pq_top.specs.declared.answer.Answer.TheVariants.{Refused, ReadFault, OutOfMemory}
use Rattle.pq_top.specs.Device.{Moved}
use Rattle.pq_top.specs.Request.{AskFor, reads_by}
use Rattle.pq_top.specs.Work.{Means, FailsFor, FailsToRead}

some_way : (way : Option Options) → IsSome way → (options : Options) × (way ≡ Some options)
some_way None some = absurd (cc)
some_way (Some options) some = (options, refl)

-- none was made
pub failed_means : (words : List (List ℕ)) (wanted : Settings) (input output : Moved) (answer : Answer) → AskFor words wanted →
    FailsFor wanted input answer → Means words input output answer
failed_means words wanted input output (Refused refusal) asks fails =
    record { options = fails.0; asks = (wanted, asks, fails.1); refuses = fails.2 }
failed_means words wanted input output (ReadFault taken) asks fails =
    let way : (options : Options) × (reads_by wanted ≡ Some options) = some_way (reads_by wanted) fails.0 in
    record { options = way.0; asks = (wanted, asks, way.1); failed = fails.1 }
failed_means words wanted input output OutOfMemory asks fails = tt
failed_means words wanted input output _ asks fails = absurd fails

-- a source that can't be read fails for each command that reads it
pub fails_to_read : (wanted : Settings) (options : Options) (input : Moved) (answer : Answer) → reads_by wanted ≡ Some options →
    FailsToRead options input answer → FailsFor wanted input answer
fails_to_read wanted options input (Refused refusal) way fails = (options, way, fails)
fails_to_read wanted options input (ReadFault taken) way fails = (subst (λ (o : Option Options). IsSome o) (sym way) refl, fails)
fails_to_read wanted options input OutOfMemory way fails = tt
fails_to_read wanted options input _ way fails = absurd fails
