-- Texts of an epoch, a version and a release.
use Rattle.std.specs.Prelude.{◌≡◌, ◌≢◌, ℕ, ◌+◌, ◌<◌, length, List, [], ◌∷◌, Option, Some, None, Bool, ◌==◌}
use Rattle.std.specs.Prelude.{if◌then◌else◌, drop, slice_index, unwrap_or}
use Rattle.std.specs.Char.{is_ascii_digit}
use Rattle.std.specs.List.{prefix_len, take_while, list_any, before_last, after_last}
use Rattle.std.specs.declared.cmp.Ordering.{Ordering}
use Rattle.std.specs.declared.cmp.Ordering.TheVariants.{Equal}
use Rattle.std.specs.Ordering.{nat_cmp, ordering_then}
use Rattle.std.specs.Str.Parse.{AllDigits, digits_value}
use Rattle.rpm_version.specs.Order.{version_order}

-- the three parts of such a text; a missing epoch or release is None
pub record EvrParts : Type 0 where
  pub epoch : Option (List ℕ)
  pub version : List ℕ
  pub release : Option (List ℕ)

-- the byte of -
abbrev pub is_dash : ℕ → Bool
is_dash b = b == 45

-- the place of a dash with none after it
pub record IsLastDash (i : ℕ) (text : List ℕ) : Type 0 where
  pub within : i < length text
  pub dash : slice_index text i ≡ 45
  pub last : (k : ℕ) → i < k → k < length text → slice_index text k ≢ 45

-- a text cut into its parts: an epoch is the digits in front, perhaps none, where a colon, 58, follows them, and the
-- last dash behind it ends the version; a release that is empty counts as none
unfoldable pub evr : List ℕ → EvrParts
evr text =
    let digits = prefix_len is_ascii_digit text in
    let has_epoch = slice_index text digits == 58 in
    let rest = if has_epoch then drop (digits + 1) text else text in
    let has_dash = list_any is_dash rest in
    record {
      epoch = if has_epoch then Some (take_while is_ascii_digit text) else None;
      version = if has_dash then before_last is_dash rest else rest;
      release = if has_dash then (elim (after_last is_dash rest) [ [] ↦ None | b ∷ more ↦ Some (b ∷ more) ]) else None;
    }

-- an epoch has nothing but digits
abbrev pub HasDigits : Option (List ℕ) → Type 0
HasDigits epoch = AllDigits 10 (unwrap_or epoch [])

-- two releases, where both are there
unfoldable pub release_order : Option (List ℕ) → Option (List ℕ) → Ordering
release_order (Some a) (Some b) = version_order a b
release_order a b = Equal

-- epochs as numbers, 0 where one is missing or empty, then versions, then releases
unfoldable pub evr_order : EvrParts → EvrParts → Ordering
evr_order a b =
    ordering_then (nat_cmp (digits_value 10 (unwrap_or a.epoch [])) (digits_value 10 (unwrap_or b.epoch [])))
    (ordering_then (version_order a.version b.version) (release_order a.release b.release))
