use Rattle.rib_head.proofs.Difference.{fits, exact}
use Rattle.rib_head.proofs.times.age.Goals as goal

pub overflow_sub-result : goal.overflow_sub-result
overflow_sub-result c = fits _ _ c.ranges.timestamp.fits c.ranges.originated.fits

pub returns : goal.returns
returns c = record { answer = exact _ _ c.ranges.timestamp.fits c.ranges.originated.fits }
