use Rattle.rpm_group.proofs.Longest.{needed_most}
use Rattle.rpm_group.proofs.overlay.Overlay.commit.Goals as goal

pub returns : goal.returns
returns g c =
    let w = c.write_held-answer.ensures in
    rw (← c.into_parts-below.ensures.below, ← c.into_parts-below.ensures.held) (record {
      files = w.files;
      closed = w.closed;
      logged = w.logged;
      durable = w.durable;
      images = w.images;
      behind = w.behind;
      says = w.says;
      full = w.full;
      longest = needed_most c.into_parts-below.result.1 (g.D.Disk.files c.into_parts-below.result.0);
      idle = w.idle;
      unwritten = w.unwritten;
      reads = w.reads.log;
      cause = w.reads.cause;
    })
