-- Buffers that are filled a part at a time.
use Rattle.std.proofs.Common.{◌≡◌, ℕ, ◌+◌, ◌≤◌, true, List, ◌++◌, Option, Result, Ok, Err, length, take, sym, ap, ◌∙◌, arith, length-append}
use Rattle.std.specs.Prelude.{is_ok, OnOk}
use Rattle.std.proofs.lemmas.List.{length-take-le, take-append-le, take-take, take_at}
use Rattle.std.proofs.Math.Seq.{take-append-add}
use Rattle.rpm_file.proofs.Vocabulary.{Extends, Fills}
use borrow.Rule.Slice.PartMut.{put_mid, post_of}

-- a part from a on was lent and the first of it were written
pub front_put : (a k count : ℕ) (xs ys : List ℕ) → a ≤ length xs → count ≤ length ys → take (a + count) (put_mid a k xs ys) ≡ take a xs ++ take count ys
front_put a k count xs ys within few =
    ap (λ (n : ℕ). take (n + count) (put_mid a k xs ys)) (sym (length-take-le a xs within))
    ∙ take-append-add (take a xs) (ys ++ post_of a k xs) count
    ∙ ap (λ (zs : List ℕ). take a xs ++ zs) (take-append-le count ys (post_of a k xs) few)

-- and what stands after them was cut off
pub front_kept : (a k count size : ℕ) (xs ys zs : List ℕ) → a ≤ length xs → count ≤ length ys → a + count ≤ size
    → take (a + count) (take size (put_mid a k xs ys ++ zs)) ≡ take a xs ++ take count ys
front_kept a k count size xs ys zs within few inside =
    let long : a + count ≤ length (put_mid a k xs ys) =
    omega (arith, length-append (take a xs) (ys ++ post_of a k xs), length-append ys (post_of a k xs), length-take-le a xs within) in
    take-take (a + count) size (put_mid a k xs ys ++ zs) inside ∙ take-append-le (a + count) (put_mid a k xs ys) zs long ∙ front_put a k count xs ys within few

pub of_ok : {T E : Type 0} (r : Result T E) (P : Type 0) → is_ok r ≡ true → OnOk r P → P
of_ok (Ok x) P ok p = p
of_ok (Err e) P ok p = absurd cc

-- what a row begins with stays where it gets longer
pub front_stays : (from long : ℕ) (before now held : List ℕ) → from ≤ long → take long now ≡ before → held ≡ now → take from held ≡ take from before
front_stays from long before now held within kept same = ap (take from) same ∙ sym (take-take from long now within) ∙ ap (take from) kept

-- bytes came into the room after it
pub arrived : (old new : Option (List ℕ)) (before held part zs : List ℕ) (from k count size : ℕ) → take from held ≡ take from before
    → from ≤ length held → count ≤ length part → from + count ≤ size → Fills old new count part
    → Extends old new (take from before) (take (from + count) (take size (put_mid from k held part ++ zs)))
arrived old new before held part zs from k count size same inside few within f = record {
  more = take count part;
  behind = front_kept from k count size held part zs inside few within ∙ ap (λ (xs : List ℕ). xs ++ take count part) same;
  front = f.front;
}

-- bytes were put in front of a row
pub front_written : (n size : ℕ) (front rest now zs : List ℕ) → length front ≡ n → now ≡ front ++ rest → n ≤ size
    → take n (take size (now ++ zs)) ≡ front
front_written n size front rest now zs long is within =
    take-take n size (now ++ zs) within
    ∙ ap (λ (xs : List ℕ). take n (xs ++ zs)) is
    ∙ take-append-le n (front ++ rest) zs (omega (arith, length-append front rest))
    ∙ take_at front rest n long
