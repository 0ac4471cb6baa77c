-- Which files keep a log: those that keep all, and those that recovery leaves.
use Rattle.std.proofs.Common.{◌≡◌, refl, sym, subst}
use Rattle.rpm_outside.specs.Files.{Files}
use Rattle.rpm_outside.specs.Logs.{Closed, Open, Malformed, LogState, log_state}
use Rattle.rpm_group.specs.Loads.{IsSound}
use Rattle.rpm_group.specs.Crashes.{KeepsLog, RecoverKeeps}

-- where a log was malformed the files stay as they were, and any other isn't malformed afterwards
abbrev KeepsLogOf : LogState → Files → Files → Type 0
KeepsLogOf state old new = elim state [
  | Malformed unit ↦ new ≡ old
  | Closed ↦ IsSound (log_state new.log)
  | Open entries ↦ IsSound (log_state new.log)
]

sound_of : (s : LogState) (old new : Files) → KeepsLogOf s old new → IsSound s → IsSound (log_state new.log)
sound_of (Malformed unit) old new keeps sound = absurd sound
sound_of others old new keeps sound = keeps

kept_of : (s : LogState) (old new : Files) → IsSound s → IsSound (log_state new.log) → KeepsLogOf s old new
kept_of (Malformed unit) old new was sound = absurd was
kept_of others old new was sound = sound

same_of : (s : LogState) (files : Files) → log_state files.log ≡ s → KeepsLogOf s files files
same_of (Malformed unit) files is = refl
same_of Closed files is = subst IsSound (sym is) tt
same_of (Open entries) files is = subst IsSound (sym is) tt

recovered_of : (s : LogState) (old new : Files) → log_state old.log ≡ s → RecoverKeeps s old new → KeepsLogOf s old new
recovered_of (Malformed unit) old new is keeps = keeps
recovered_of Closed old new is keeps =
    subst (λ (f : Files). IsSound (log_state f.log)) (sym keeps) (subst IsSound (sym is) tt)
recovered_of (Open entries) old new is keeps = keeps

-- a log that isn't malformed doesn't become so
pub kept_sound : (old new : Files) → KeepsLog old new → IsSound (log_state old.log) → IsSound (log_state new.log)
kept_sound old new = sound_of (log_state old.log) old new

pub sound_kept : (old new : Files) → IsSound (log_state old.log) → IsSound (log_state new.log) → KeepsLog old new
sound_kept old new = kept_of (log_state old.log) old new

pub same_kept : (files : Files) → KeepsLog files files
same_kept files = same_of (log_state files.log) files refl

pub recovered_kept : (old new : Files) → RecoverKeeps (log_state old.log) old new → KeepsLog old new
recovered_kept old new = recovered_of (log_state old.log) old new refl
