-- How many bytes of pairs the other side takes in one message (FIDO Device Onboard 1.1, section 5.5.7,
-- "maxOwnerServiceInfoSz", "maxDeviceServiceInfoSz").
use Rattle.std.specs.Prelude.{ℕ, nat_lt, Option, Some, None, if◌then◌else◌}

abbrev pub usual_size : ℕ
usual_size = 1300

abbrev pub least_size : ℕ
least_size = 256

abbrev pub most_size : ℕ
most_size = 65535

-- the size that counts where this one was stated, or none
abbrev pub size_stated : Option ℕ → ℕ
size_stated None = usual_size
size_stated (Some size) =
    if nat_lt size least_size then least_size
    else if nat_lt most_size size then most_size
    else size
