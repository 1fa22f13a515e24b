use Rattle.std.proofs.Common.{◌+◌, ◌++◌, length, subst, sym}
use Rattle.pq_read.specs.declared.reader.Progress.{Progress}
use Rattle.pq_read.specs.Drafts.{env_of}
use Rattle.pq_read.specs.Begins.{position_of, joined}
use Rattle.pq_read.specs.Leads.{FailsAt}
use Rattle.pq_read.specs.Feeding.{ReaderView, StandsFor, standing_of}
use Rattle.pq_read.proofs.Fed.{fed_piece, fed_fault, fed_behind}
use Rattle.pq_read.proofs.reader.Reader.feed.Goals.{in-Reading+in-Ok, in-Reading+in-Err-Refused, in-Refused}
use Rattle.pq_read.proofs.reader.Reader.feed.Goals as goal

pub returns-clause-text : goal.returns-clause-text
returns-clause-text c = λ text stands.
    let options = c.self.inside.options in
    let fed = c.self.inside.fed in
    let piece = c.args.piece.now in
    let was = subst (λ (r : ReaderView). StandsFor r text) (sym c.self.view_is) stands in
    let before = λ (p : Progress). (let r : ReaderView = record { options = options; fed = fed; standing = standing_of p } in StandsFor r text) in
    let after = λ (p : Progress). (let r : ReaderView = record { options = options; fed = fed + length piece; standing = standing_of p } in StandsFor r (text ++ piece)) in
    elim c.match-progress.branch as (λ _. after c.match-progress.progress) [
      | in-Reading+in-Ok w ↦ subst after (sym w.progress-is)
          (fed_piece options fed (env_of w.in-Reading.draft) (env_of w.read_piece.new.draft) (position_of w.in-Reading.begun) (position_of w.in-Ok.begun) text piece w.in-Ok.ensures.read (subst before w.in-Reading.is was))
      | in-Reading+in-Err-Refused w ↦ subst after (sym w.progress-is)
          (fed_fault options fed (env_of w.in-Reading.draft) (position_of w.in-Reading.begun) w.in-Err-Refused.refusal text piece (subst (FailsAt options (env_of w.in-Reading.draft) (joined w.in-Reading.begun piece)) w.in-Err-Refused.field-0-is w.in-Err-Refused.ensures.fails) (subst before w.in-Reading.is was))
      | in-Refused w ↦ subst after (sym w.progress-is) (fed_behind options fed w.in-Refused.refusal text piece (subst before w.in-Refused.is was))
    ]
