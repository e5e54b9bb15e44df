-- Up to 10^9 the powers are tried from the greatest on.
use Rattle.std.proofs.Common.{◌<◌, ◌*◌, ◌^◌, arith}
use Rattle.fuse_config.proofs.PowersOfTen.{power_up_to-greatest}
use Rattle.fuse_config.proofs.laws.the_power_below_is_the_greatest.Goals as goal

pub returns : goal.returns
returns c nanos some most = let below : nanos < 10 * 10 ^ 9 = omega (arith, most) in power_up_to-greatest 9 nanos some below
