-- How a file is opened (`O_ACCMODE` of `asm-generic/fcntl.h`).
use Rattle.std.specs.Prelude.{ℕ, ℤ, pos, negsuc, ◌-◌, ◌%◌, ◌==◌, if◌then◌else◌}
use Rattle.fuse_wire.specs.declared.open_flags.OpenAccMode.{OpenAccMode}
use Rattle.fuse_wire.specs.declared.open_flags.OpenAccMode.TheVariants.{O_RDONLY, O_WRONLY, O_RDWR}

-- the low two bits of a number, in two's complement
abbrev pub low_two_bits : ℤ → ℕ
low_two_bits (pos n) = n % 4
low_two_bits (negsuc n) = 3 - n % 4

-- 0, 1 and 2 are reading, writing and both; 3 is no mode and counts as reading
abbrev pub acc_mode : ℤ → OpenAccMode
acc_mode flags =
    if low_two_bits flags == 1 then O_WRONLY else (if low_two_bits flags == 2 then O_RDWR else O_RDONLY)
