-- Each option by its text.
use Rattle.fuse_config.proofs.ReadBack.{read_back}
use Rattle.fuse_config.proofs.laws.options_are_read_back.Goals as goal

pub returns : goal.returns
returns c = read_back
