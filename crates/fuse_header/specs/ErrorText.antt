-- The text of each error.
use Rattle.std.specs.Prelude.{ℕ, List, ◌++◌, codes, decimal}
use Rattle.fuse_header.specs.declared.error.RequestError.{RequestError}
use Rattle.fuse_header.specs.declared.error.RequestError.TheVariants.{ShortReadHeader, ShortRead, UnknownOperation}
use Rattle.fuse_header.specs.declared.error.RequestError.TheVariants.{InsufficientData}

-- what `{}` writes for an error
abbrev pub error_text : RequestError → List ℕ
error_text (ShortReadHeader length) = codes "Short read of FUSE request header (" ++ (decimal length ++ codes " < 40)")
error_text (ShortRead length counted) =
    codes "Short read of FUSE request (" ++ (decimal length ++ (codes " < " ++ (decimal counted ++ codes ")")))
error_text (UnknownOperation opcode) = codes "Unknown FUSE opcode (" ++ (decimal opcode ++ codes ")")
error_text InsufficientData = codes "Insufficient argument data"
