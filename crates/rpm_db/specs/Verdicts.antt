-- What verifying says of a number.
use Rattle.std.specs.Prelude.{◌≡◌, ◌≢◌, ℕ, List, Bool, false, not, if◌then◌else◌, Option, Some, None}
use Rattle.std.specs.FinMap as finite
use Rattle.std.specs.Str.{bytes_eq}
use Rattle.hex.specs.Hex.{encode_lower}
use Rattle.rpm_header.specs.Header.{Header, header}
use Rattle.rpm_header.specs.Digest.{immutable_digest}
use Rattle.rpm_outside.specs.Files.{Units}
use Rattle.rpm_pkgdb.specs.Blobs.{blobs}
use Rattle.rpm_pkgdb.specs.Checksums.{checksums_hold}
use Rattle.rpm_tags.specs.Value.{first_text}
use Rattle.rpm_db.specs.declared.verify.Verdict.{Verdict}
use Rattle.rpm_db.specs.declared.verify.Verdict.TheVariants.{Sound, BadHeader, BadChecksum, BadDigest}
use Rattle.rpm_db.specs.Database.{Database, store_of}
use Rattle.rpm_db.specs.State.{header_or}

-- A header has a region of tag 63, and a text 273 that isn't its digest in lower-case hex.
unfoldable pub is_digest_wrong : Header → Bool
is_digest_wrong h = elim (immutable_digest h) [
  | Some digest ↦ elim (first_text h 273) [ Some text ↦ not (bytes_eq text (encode_lower digest)) | None ↦ false ]
  | None ↦ false
]

-- What verifying says of a blob and of whether its checksum holds: none of a number that isn't there.
abbrev pub verdict_of : Option (Option (List ℕ)) → Option (Option Bool) → Option Verdict
verdict_of (Some (Some blob)) (Some (Some sum)) = Some (header_or (λ h.
    if sum then (if is_digest_wrong h then BadDigest else Sound) else BadChecksum) (header blob) BadHeader)
verdict_of (Some _) (Some _) = Some BadHeader
verdict_of _ _ = None

-- what verifying says of a package, none where there is no such number
abbrev pub verdict : Units → Database → ℕ → Option Verdict
verdict file db n = verdict_of (finite.get (blobs file (store_of db)) n) (checksums_hold file (store_of db) n)

-- verifying says of each package but one what it said before, and never of that one that its bytes or its header are
-- broken
pub record KeepsVerdicts (n : ℕ) (old new : Units) (before after : Database) : Type 0 where
  pub others : (m : ℕ) → m ≢ n → verdict new after m ≡ verdict old before m
  pub checksum : verdict new after n ≢ Some BadChecksum
  pub header : verdict new after n ≢ Some BadHeader
