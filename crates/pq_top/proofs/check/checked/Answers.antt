use Rattle.pq_top.proofs.Checking.{says_local}
use Rattle.pq_top.proofs.check.checked.Goals as goal

pub returns : goal.returns
returns c = λ options text read.
    says_local c.args.omega text _ options c.args.program c.in_ok-rules.rules c.as_slice.result.now c.as_slice.ensures
    c.in_ok-rules.ensures.rows read c.in-None.ensures c.in_ok-local_text-in-None.ensures
