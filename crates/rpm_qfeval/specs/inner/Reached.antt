-- How far a value of texts was read.
use Rattle.std.specs.Prelude.{◌≡◌, ℕ, ◌+◌, ◌<◌, ◌^◌, List, drop, length, Option, slice_get}
use Rattle.std.specs.List.{concat}
use Rattle.std.specs.Option.{option_copied, option_map}
use Rattle.rpm_tags.specs.declared.values.Class.TheVariants as class
use Rattle.rpm_tags.specs.Value.{Elements, class_of, text_list}
use Rattle.rpm_qfeval.specs.declared.cursor.Ahead.{Ahead}
use Rattle.rpm_qfeval.specs.declared.cursor.Ahead.TheVariants as ahead

-- the text at the place where a walk stands, and those after it
abbrev pub present_text : Ahead → Option (List ℕ)
present_text (ahead.Stored walk) = option_copied walk.present
present_text (ahead.Joined walk) = option_map (λ p. concat p) walk.present

abbrev pub texts_after : Ahead → List (List ℕ)
texts_after (ahead.Stored walk) = walk.left
texts_after (ahead.Joined walk) = walk.left

-- a value's text at a place was read, and those after it are left
pub record IsReadTo (all : Elements) (texts : Ahead) (place : ℕ) : Type 0 where
  pub are_texts : class_of all ≡ class.Text
  pub here : present_text texts ≡ slice_get (text_list all) place
  pub behind : texts_after texts ≡ drop (place + 1) (text_list all)

-- a count of all texts is known, and those from a place on are left
pub record IsReached (all left : List (List ℕ)) (count place : ℕ) : Type 0 where
  pub whole : count ≡ length all
  pub few : count < 2 ^ 32
  pub behind : left ≡ drop place all
