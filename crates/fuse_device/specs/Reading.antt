-- What the errors of a read of the device mean, and what a read passes on.
use Rattle.std.specs.Prelude.{◌≡◌, ◌≢◌, ◌⊎◌, ◌<◌, ℕ, Bool, true, List, length, take, pos, Option, Some, MatchResult, Result}
use Rattle.std.specs.IoError.{raw_os_error}
use Rattle.std.specs.Io.KnownBytes.{Consumes, IsAtEnd, Keeps}
use Rattle.std.specs.declared.io.Error.{Error}
use Rattle.fuse_device.specs.declared.device_reader.DeviceReader.{DeviceReader}

-- the reader below
abbrev pub device_below : {R : Type 0} → DeviceReader R → R
device_below device = device.reader

-- the device has said that it is no more
abbrev pub is_gone : {R : Type 0} → DeviceReader R → Bool
is_gone device = device.gone

-- Not ENOENT, EINTR or EAGAIN, after which a read is tried again, and not ENODEV or ECONNABORTED, which are the end.
pub record IsFault (error : Error) : Type 0 where
  pub not_taken_back : raw_os_error error ≢ Some (pos 2)
  pub not_interrupted : raw_os_error error ≢ Some (pos 4)
  pub not_empty : raw_os_error error ≢ Some (pos 11)
  pub not_gone : raw_os_error error ≢ Some (pos 19)
  pub not_aborted : raw_os_error error ≢ Some (pos 103)

-- a read takes from below what it gives; it gives nothing at the end of what is below, or once the device is gone
abbrev pub ReadsThrough : Result ℕ Error → (piece : List ℕ) → (below below' : Option (List ℕ)) → (gone' : Bool) → Type 0
ReadsThrough result piece below below' gone' = MatchResult result
    (λ n. Consumes below below' (take n piece) × (n ≡ 0 → 0 < length piece → IsAtEnd below' ⊎ (gone' ≡ true)))
    (λ _. Keeps below below')
