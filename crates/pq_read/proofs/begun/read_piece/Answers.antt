use Rattle.std.proofs.Common.{◌≤◌, arith}
use Rattle.std.proofs.lemmas.Result.{err_from_is_err_and}
use Rattle.pq_read.specs.Drafts.{env_of}
use Rattle.pq_read.proofs.Beginning.{front_fails, piece_leads, begun_behind}
use Rattle.pq_read.proofs.begun.read_piece.Goals as goal

pub returns-in_err-line-clause-fails : goal.returns-in_err-line-clause-fails
returns-in_err-line-clause-fails c =
    let p = err_from_is_err_and c.from_residual.result c.from_residual.ensures.1 in
    rw (p.1, p.2) (front_fails c.in_err-line.field-0.0 c.args.options (env_of c.args.draft.now) c.args.begun c.args.piece.now c.split_at.result.0.now c.split_at.result.1.now c.last_end-ended.result.count
    c.split_at.ensures.front c.split_at.ensures.back c.in_err-line.ensures.fails)

pub returns-in-Ok-begin-clause-read : goal.returns-in-Ok-begin-clause-read
returns-in-Ok-begin-clause-read c =
    piece_leads c.args.options (env_of c.args.draft.now) (env_of c.read_front.new.draft) c.args.begun c.in-Ok-begin.begun c.args.piece.now c.split_at.result.0.now c.split_at.result.1.now c.last_end-ended.result.count
    c.in_ok-line.line c.in_ok-line.column c.split_at.ensures.front c.split_at.ensures.back c.in_ok-line.ensures.read c.in-Ok-begin.ensures.settled

pub returns-in-Ok-begin-clause-begun : goal.returns-in-Ok-begin-clause-begun
returns-in-Ok-begin-clause-begun c =
    let some : 1 ≤ c.last_end-ended.result.count = grind arith in
    begun_behind c.args.begun c.in-Ok-begin.begun c.args.piece.now c.split_at.result.0.now c.split_at.result.1.now c.last_end-ended.result.count c.in_ok-line.line c.in_ok-line.column c.last_end-ended.result.mode
    c.split_at.ensures.front c.split_at.ensures.back (c.last_end-ended.ensures.ended some) c.in_ok-line.ensures.place c.in-Ok-begin.ensures.settled c.in-Ok-begin.ensures.mode c.last_end-ended.ensures.mode
