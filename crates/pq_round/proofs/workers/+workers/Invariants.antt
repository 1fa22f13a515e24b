use Rattle.std.proofs.Common.{◌+◌, ◌*◌, max}
use Rattle.pq_round.proofs.workers.+workers.Given as goal

-- the threads, and one step less for each call between workers and their two parts
abbrev pub decreases-work_by : goal.decreases-work_by
decreases-work_by g l = 4 * l.threads

abbrev pub decreases-work_both : goal.decreases-work_both
decreases-work_both g l = 4 * max l.near_threads l.far_threads + 2

abbrev pub decreases-work_both-work_near : goal.decreases-work_both-work_near
decreases-work_both-work_near g l = 4 * l.near_threads + 1

abbrev pub decreases-work_both-work_far : goal.decreases-work_both-work_far
decreases-work_both-work_far g l = 4 * l.far_threads + 1
