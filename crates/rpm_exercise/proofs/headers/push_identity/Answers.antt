use Rattle.std.proofs.Common.{append_assoc}
use Rattle.rpm_exercise.proofs.headers.push_identity.Goals as goal

pub returns : goal.returns
returns c =
    rw (c.in_ok-push_text-4.ensures.ok, c.in_ok-push_text-3.ensures.ok, c.in_ok-push_text-2.ensures.ok, c.in_ok-push_text.ensures.ok) (simp append_assoc)
