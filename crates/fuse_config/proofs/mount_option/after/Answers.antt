-- The text begins with the front where it is the front and then something.
use Rattle.fuse_config.proofs.Fronts.{after_front-strips}
use Rattle.fuse_config.proofs.mount_option.after.Goals as goal

pub returns : goal.returns
returns c = after_front-strips c.args.front.now c.args.text.now c.strip_prefix.result c.strip_prefix.ensures.cases
