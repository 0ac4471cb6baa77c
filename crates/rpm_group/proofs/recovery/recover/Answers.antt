use Rattle.std.proofs.Common.{◌≡◌, IsTrue, refl, ap, ◌∙◌, subst}
use Rattle.rpm_outside.specs.declared.disk.Disk as disk
use Rattle.rpm_group.proofs.Vocabulary.{Closed, Files, IsOpen, IsSound, KeepsBehind, leaves_then, leaves_weaker, CrashLeavesOnly, log_state, LogSays, LogState, Malformed}
use Rattle.rpm_group.proofs.Vocabulary.{Open, Reading, reopened_files, ReopensAs, ReopensAsOneOf, then_look}
use Rattle.rpm_group.proofs.Behinds.{keeps_none}
use Rattle.rpm_group.proofs.laws.KeptLogs.{same_kept, sound_kept}
use Rattle.rpm_group.proofs.recovery.recover.Given.{Over}
use Rattle.rpm_group.proofs.recovery.recover.Goals.{After-read_log}
use Rattle.rpm_group.proofs.recovery.recover.Goals as goal

-- an open log isn't malformed
open_sound : (s : LogState) → IsOpen s → IsSound s
open_sound (Open entries) is = tt
open_sound Closed is = absurd cc
open_sound (Malformed unit) is = absurd cc

pub returns-in-Opened-clause-images : goal.returns-in-Opened-clause-images
returns-in-Opened-clause-images g c = λ told.
    let D = g.D.Disk in
    let old = c.args.disk.now in
    let first = c.sync_all.new.disk in
    let mid = c.read_log.new.disk in
    let new = c.finish.new.disk in
    let one_of : Files → Type 0 = ReopensAsOneOf (D.left_since old (D.moment old)) in
    let looks = c.read_log.ensures.reads.looks in
    let durable = c.sync_all.ensures.same told in
    let same : D.files mid ≡ D.files old = (looks.untouched told).same ∙ durable in
    let says = subst (λ (r : Reading). LogSays r (D.files first).log) c.in-Opened.is (c.in-Ok.ensures.says told) in
    let was = subst (λ (f : Files). IsSound (log_state f.log)) durable (open_sound (log_state (D.files first).log) says.2) in
    leaves_then D old mid new one_of
    (then_look D old first mid one_of _ _
    (leaves_weaker D old first (D.left_since old (D.moment old)) one_of
    (λ image left. (image, left, record { same = refl; log = same_kept image })) (c.sync_all.ensures.images told))
    (looks.untouched told) looks.moment_stays)
    (leaves_weaker D mid new (ReopensAs (reopened_files (D.files mid))) one_of
    (λ image is. (
      D.files old,
      g.met.D.Disk.as_read old told,
      record { same = is.same ∙ ap reopened_files same; log = sound_kept (D.files old) image was is.sound },
    ))
    (c.finish.ensures.images told))

-- durable files leave their images as they were
abbrev BehindOneOf : (Files → Type 0) → Files → Type 0
BehindOneOf images image = (from : Files) × images from × KeepsBehind 1 from.log image.log

module _ {D : Type 0} (d : disk.Ghosts D) where
  durable_behind : (old new : D) → CrashLeavesOnly d old new (d.left_since old (d.moment old))
      → CrashLeavesOnly d old new (BehindOneOf (d.left_since old (d.moment old)))
  durable_behind old new run =
      leaves_weaker d old new (d.left_since old (d.moment old)) (BehindOneOf (d.left_since old (d.moment old)))
      (λ image left. (image, left, keeps_none 1 image.log)) run

pub returns-in_err-map_err-clause-behind : goal.returns-in_err-map_err-clause-behind
returns-in_err-map_err-clause-behind g c = λ told. durable_behind g.D.Disk c.args.disk.now c.sync_all.new.disk (c.sync_all.ensures.images told)

look_behind : (g : Over) (c : After-read_log g) → let D = g.D.Disk in let old = c.args.disk.now in IsTrue D.tells
    → CrashLeavesOnly D old c.read_log.new.disk (BehindOneOf (D.left_since old (D.moment old)))
look_behind g c told =
    let D = g.D.Disk in
    let old = c.args.disk.now in
    let looks = c.read_log.ensures.reads.looks in
    then_look D old c.sync_all.new.disk c.read_log.new.disk (BehindOneOf (D.left_since old (D.moment old))) _ _
    (durable_behind D old c.sync_all.new.disk (c.sync_all.ensures.images told)) (looks.untouched told) looks.moment_stays

pub returns-in_default-clause-behind : goal.returns-in_default-clause-behind
returns-in_default-clause-behind g c = look_behind g (goal.at.returns-in_default-clause-behind g c).After-read_log

pub returns-in-Shut-clause-behind : goal.returns-in-Shut-clause-behind
returns-in-Shut-clause-behind g c = look_behind g (goal.at.returns-in-Shut-clause-behind g c).After-read_log

pub returns-in-Bad-clause-behind : goal.returns-in-Bad-clause-behind
returns-in-Bad-clause-behind g c = look_behind g (goal.at.returns-in-Bad-clause-behind g c).After-read_log

pub returns-in-Opened-clause-behind : goal.returns-in-Opened-clause-behind
returns-in-Opened-clause-behind g c = λ told.
    let D = g.D.Disk in
    let old = c.args.disk.now in
    let mid = c.read_log.new.disk in
    let one_of : Files → Type 0 = BehindOneOf (D.left_since old (D.moment old)) in
    let same : D.files mid ≡ D.files old = (c.read_log.ensures.reads.looks.untouched told).same ∙ c.sync_all.ensures.same told in
    leaves_then D old mid c.finish.new.disk one_of (look_behind g (goal.at.returns-in-Opened-clause-behind g c).After-read_log told)
    (leaves_weaker D mid c.finish.new.disk (λ image. KeepsBehind 1 (D.files mid).log image.log) one_of
    (λ image keeps. (D.files old, g.met.D.Disk.as_read old told, subst (λ (f : Files). KeepsBehind 1 f.log image.log) same keeps))
    (c.finish.ensures.behind told))
