use Rattle.sc_counts.proofs.Centers.{put_backs_stay_counted}
use Rattle.sc_counts.proofs.laws.put_backs_stay_counted.Goals as goal

pub returns : goal.returns
returns c = put_backs_stay_counted
