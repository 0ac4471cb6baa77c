use Rattle.std.proofs.Common.{◌≡◌, ℕ, ◌+◌, ◌++◌, [], ◌∷◌, List, take, sym, ◌∙◌, ap, subst, arith}
use Rattle.std.proofs.lemmas.List.{take_more}
use Rattle.rpm_outside.proofs.Vocabulary.{after_step, after_steps, after_steps-push, Files, held_files, Images, images_are, mem_files, picked_image}
use Rattle.rpm_outside.proofs.Vocabulary.{picked_step, Step, StepsTo}
use Rattle.rpm_outside.proofs.Replaying.{begun, begun_before}
use Rattle.rpm_outside.proofs.Mixes.{image_step}
use Rattle.rpm_outside.proofs.Picking.{picked_step_to, picked_image-push}
use Rattle.rpm_outside.proofs.mem_disk.MemDisk.image.Goals as goal

pub loop-k-init : goal.loop-k-init
loop-k-init c =
    let disk = c.args.self.now in
    let b = begun disk.copies disk.steps.items (held_files disk.first) (held_files disk.held) disk.copied c.args.pick c.args.moment c.in_ok-from.from
    (held_files c.in_ok-from.start) c.in_ok-from.ensures in
    record {
      now = b.now;
      picked = c.in_ok-image.ensures ∙ b.picked_is;
      image = subst (λ (f : Files). Images (take c.in_ok-from.from disk.steps.items) (held_files disk.first) f) (sym c.in_ok-image.ensures) b.image;
    }

pub loop-k-preserved : goal.loop-k-preserved
loop-k-preserved c =
    let disk = c.args.self.now in
    let first = held_files disk.first in
    let steps = disk.steps.items in
    let k = c.loop-k.k in
    let step = c.index.result.now in
    let more : take (k + 1) steps ≡ take k steps ++ step ∷ [] = take_more steps k step (omega (arith, disk.steps.ok.0))
    ∙ ap (λ (s : Step). take k steps ++ s ∷ []) (sym c.index.ensures) in
    let now = c.loop-k.invariant.now in
    let files = after_steps (take k steps) first in
    let next : held_files c.go_over.new.image ≡ picked_step c.args.pick step files (held_files c.loop-k.image) =
    c.in_ok-go_over.ensures.image ∙ ap (λ (f : Files). picked_step c.args.pick step f (held_files c.loop-k.image)) now in
    record {
      now = c.in_ok-go_over.ensures.now ∙ ap (λ (f : Files). after_step step f) now ∙ sym (after_steps-push (take k steps) step first)
          ∙ ap (λ (s : List Step). after_steps s first) (sym more);
      image = subst (λ (s : List Step). Images s first (held_files c.go_over.new.image)) (sym more)
          (image_step (take k steps) step first (held_files c.loop-k.image) (held_files c.go_over.new.image) c.loop-k.invariant.image
          (subst (λ (f : Files). StepsTo step files (held_files c.loop-k.image) f) (sym next) (picked_step_to c.args.pick step files
          (held_files c.loop-k.image))));
      picked = next
          ∙ ap (λ (f : Files). picked_step c.args.pick step files f) c.loop-k.invariant.picked
          ∙ sym (picked_image-push c.args.pick (take k steps) step first first)
          ∙ ap (λ (s : List Step). picked_image c.args.pick s first first) (sym more);
    }

pub returns-clause-image : goal.returns-clause-image
returns-clause-image c =
    let disk = c.args.self.now in
    let all : c.loop-k.k ≡ c.args.moment = omega (
      arith,
      begun_before disk.copies disk.steps.items (held_files disk.first) (held_files disk.held) disk.copied c.args.moment c.in_ok-from.from
          (held_files c.in_ok-from.start) c.in_ok-from.ensures,
    ) in
    let files : mem_files c.durable.result ≡ held_files c.loop-k.image = c.durable.ensures.files ∙ c.in_ok-copy_of.ensures in
    subst (λ (f : Files). Images (take c.args.moment disk.steps.items) (held_files disk.first) f) (sym files)
    (subst (λ (n : ℕ). Images (take n disk.steps.items) (held_files disk.first) (held_files c.loop-k.image)) all c.loop-k.invariant.image)

pub returns-clause-units : goal.returns-clause-units
returns-clause-units c =
    let disk = c.args.self.now in
    images_are (take c.args.moment disk.steps.items) (held_files disk.first) (mem_files c.durable.result) (returns-clause-image c)

pub returns-clause-picked : goal.returns-clause-picked
returns-clause-picked c =
    let disk = c.args.self.now in
    let all : c.loop-k.k ≡ c.args.moment = omega (
      arith,
      begun_before disk.copies disk.steps.items (held_files disk.first) (held_files disk.held) disk.copied c.args.moment c.in_ok-from.from
          (held_files c.in_ok-from.start) c.in_ok-from.ensures,
    ) in
    c.durable.ensures.files ∙ c.in_ok-copy_of.ensures ∙ c.loop-k.invariant.picked ∙ ap (λ (n : ℕ). picked_image c.args.pick (take n disk.steps.items)
    (held_files disk.first) (held_files disk.first)) all
