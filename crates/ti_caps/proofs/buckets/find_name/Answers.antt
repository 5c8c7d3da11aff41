use Rattle.ti_caps.specs.Buckets.{bucket}
use Rattle.ti_caps.proofs.BucketLaws.{buckets_find}
use Rattle.ti_caps.proofs.buckets.find_name.Goals as goal

pub returns : goal.returns
unfolding bucket
returns c = rw (c.found_in.ensures, c.bucket_of-bucket.ensures, c.bucket_number.ensures.number) (buckets_find c.args.name.now)
