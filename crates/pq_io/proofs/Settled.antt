-- Where no fault comes, reading and writing as a whole have one answer.
use Rattle.std.proofs.Common.{length, Ok, Err, refl, ap, arith}
use Rattle.pq_io.specs.Settled.{ReadingIsSettled, WritingIsSettled}
use Rattle.pq_io.specs.declared.whole.ReadWhole.TheVariants.{Bytes, Failed, TooLong, OutOfMemory}

pub reading_is_settled : ReadingIsSettled
reading_is_settled left after was now limit (Bytes read) steady h = (omega (arith, h.within, ap length h.taken.0), h.taken.0)
reading_is_settled left after was now limit (Failed count) steady h = absurd (steady h.rose)
reading_is_settled left after was now limit TooLong steady h = omega (arith, h.0)
reading_is_settled left after was now limit OutOfMemory steady h = tt

pub writing_is_settled : WritingIsSettled
writing_is_settled before after was now text (Ok _) steady h = refl
writing_is_settled before after was now text (Err fault) steady h = absurd (steady h.rose)
