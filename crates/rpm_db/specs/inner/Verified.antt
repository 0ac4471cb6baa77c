-- What the functions that verify a package answer each other.
use Rattle.std.specs.Prelude.{List, ℕ, Bool, false, not, if◌then◌else◌, Option, Some, Result, Ok, Err}
use Rattle.std.specs.Str.{bytes_eq}
use Rattle.hex.specs.Hex.{encode_lower}
use Rattle.rpm_header.specs.declared.form.HeaderFault.{HeaderFault}
use Rattle.rpm_header.specs.Header.{Header}
use Rattle.rpm_db.specs.Verdicts.{is_digest_wrong}
use Rattle.rpm_db.specs.declared.verify.Verdict.{Verdict}
use Rattle.rpm_db.specs.declared.verify.Verdict.TheVariants.{Sound, BadHeader, BadChecksum, BadDigest}

-- A digest differs from its text when both are there, and the text isn't the digest in lower-case hex.
abbrev pub digest_differs : Option (List ℕ) → Option (List ℕ) → Bool
digest_differs (Some digest) (Some text) = not (bytes_eq text (encode_lower digest))
digest_differs _ _ = false

-- What verifying says of what was read as a header, given whether the checksum holds.
abbrev pub header_verdict : Bool → Result Header HeaderFault → Verdict
header_verdict sum (Err fault) = BadHeader
header_verdict sum (Ok h) = if sum then (if is_digest_wrong h then BadDigest else Sound) else BadChecksum
