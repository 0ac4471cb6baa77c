-- What goes through a buffer, a call at a time.
use Rattle.std.proofs.Common.{◌≡◌, ℕ, ◌+◌, ◌-◌, ◌≤◌, Bool, List, [], ◌++◌, take, drop, length, Result, Ok, Err, sym, ap, ◌∙◌, append_assoc, arith}
use Rattle.std.specs.Prelude.{IsTrue, IfOk, OnErr}
use Rattle.std.proofs.lemmas.List.{append-nil, take-append-drop, take-take, drop-drop}
use Rattle.rpm_outside.specs.declared.sink.Sink as sink
use Rattle.rpm_outside.proofs.Vocabulary.{IsPrefix, GainIs, gained_more}

-- of what was held the sink took the first, and the others are held
pub record Handed {S : Type 0} (s : sink.Ghosts S) (old : S) (held : List ℕ) (now : S) (holds : List ℕ) : Type 0 where
  pub out : List ℕ
  pub gained : GainIs s.tells (s.taken old) (s.taken now) out
  pub whole : out ++ holds ≡ held
  pub later : s.faults old ≤ s.faults now
  pub goes_on : s.follows old now

module _ {S : Type 0} (s : sink.Ghosts S) where
  -- the sink takes some of what is left
  pub handed_more : (old mid new : S) (held items slice : List ℕ) (gone n : ℕ) → slice ≡ items → n ≤ length slice - gone
      → Handed s old held mid (drop gone items)
      → GainIs s.tells (s.taken mid) (s.taken new) (take n (take (length slice - gone) (drop gone slice))) → s.faults mid ≤ s.faults new
      → s.follows old new → Handed s old held new (drop (gone + n) items)
  handed_more old mid new held items slice gone n same le h g later goes =
      let piece : take n (take (length slice - gone) (drop gone slice)) ≡ take n (drop gone items) = take-take n (length slice - gone)
      (drop gone slice) le ∙ ap (λ (y : List ℕ). take n (drop gone y)) same in
      let left : drop (gone + n) items ≡ drop n (drop gone items) = sym (drop-drop n gone items) in
      record {
        out = h.out ++ take n (drop gone items);
        gained = gained_more s.tells (s.taken old) (s.taken mid) (s.taken new) h.out (take n (drop gone items)) h.gained (λ t. rw piece at (g t));
        whole = ap (λ (y : List ℕ). (h.out ++ take n (drop gone items)) ++ y) left ∙ append_assoc h.out (take n (drop gone items))
            (drop n (drop gone items)) ∙ ap (λ (y : List ℕ). h.out ++ y) (take-append-drop n (drop gone items)) ∙ h.whole;
        later = omega (arith, h.later, later);
        goes_on = goes;
      }

-- a write gives back nothing of what was taken
pub write_grows : {E : Type 0} (tells : Bool) (a b bytes : List ℕ) (r : Result ℕ E) → IfOk r (λ n. GainIs tells a b (take n bytes))
    → OnErr r (IsTrue tells → b ≡ a) → IsTrue tells → IsPrefix a b
write_grows tells a b bytes (Ok n) g none told = (take n bytes, g told)
write_grows tells a b bytes (Err e) g none told = ([], none told ∙ sym (append-nil a))

-- what is held, and more of it
pub more_held : (a b held holds bytes : List ℕ) → b ≡ a → holds ≡ held ++ bytes → IsPrefix (a ++ held) (b ++ holds)
more_held a b held holds bytes same e = (
  bytes,
  ap (λ (y : List ℕ). b ++ y) e ∙ ap (λ (y : List ℕ). y ++ (held ++ bytes)) same
      ∙ sym (append_assoc a held bytes),
)

pub all_held : (a b held holds : List ℕ) → b ++ holds ≡ a ++ held → IsPrefix (a ++ held) (b ++ holds)
all_held a b held holds e = ([], e ∙ sym (append-nil (a ++ held)))

-- all that was held went out, and then a write
pub wrote_past : (a b c held holds left : List ℕ) → b ++ holds ≡ a ++ held → holds ≡ [] → left ≡ [] → IsPrefix b c → IsPrefix (a ++ held) (c ++ left)
wrote_past a b c held holds left e none nothing (x, grew) =
    let all : b ≡ a ++ held = sym (append-nil b) ∙ ap (λ (y : List ℕ). b ++ y) (sym none) ∙ e in
    (x, ap (λ (y : List ℕ). c ++ y) nothing ∙ append-nil c ∙ grew ∙ ap (λ (y : List ℕ). y ++ x) all)
