-- What the options come to, one more token at a time.
use Rattle.std.proofs.Common.{◌≡◌, ℕ, ◌+◌, ◌<◌, List, ◌∷◌, Option, Some, None, Bool, true, false, ◌||◌, length, drop, suc, get_or, refl, ap, sym, ◌∙◌, add-one, drop-cons}
use Rattle.rpm_words.proofs.Vocabulary.{after_in, chosen_of, command_of, cons_option, exercise_in, filter_map, command_word, is_nofiles, is_noindex, last_or}
use Rattle.rpm_words.proofs.Vocabulary.{list_any, option_or, printed_in, Seen, seen_with, Token}

-- what the tokens come to, after those that come to `before`
abbrev pub seen_behind : List (List ℕ) → Seen → List Token → Seen
seen_behind words before tokens = record {
  command = option_or before.command (command_word (filter_map command_of tokens));
  chosen = option_or before.chosen (command_word (filter_map chosen_of tokens));
  printed = last_or before.printed (filter_map printed_in tokens);
  after = last_or before.after (filter_map (after_in words) tokens);
  exercise = last_or before.exercise (filter_map (exercise_in words) tokens);
  noindex = before.noindex || list_any is_noindex tokens;
  nofiles = before.nofiles || list_any is_nofiles tokens;
  last = last_or before.last tokens;
}

head_cons : {X : Type 0} (o v : Option X) (rest : List X) → option_or o (command_word (cons_option v rest)) ≡ option_or (option_or o v) (command_word rest)
head_cons None None rest = refl
head_cons None (Some x) rest = refl
head_cons (Some y) None rest = refl
head_cons (Some y) (Some x) rest = refl

last_cons : {X : Type 0} (o v : Option X) (rest : List X) → last_or o (cons_option v rest) ≡ last_or (option_or v o) rest
last_cons o None rest = refl
last_cons o (Some x) rest = refl

any_cons : (a b c : Bool) → (a || (b || c)) ≡ ((a || b) || c)
any_cons true b c = refl
any_cons false b c = refl

seen_cons : (words : List (List ℕ)) (before : Seen) (token : Token) (rest : List Token) →
    seen_behind words before (token ∷ rest) ≡ seen_behind words (seen_with words before token) rest
seen_cons words before token rest =
    let command = head_cons before.command (command_of token) (filter_map command_of rest) in
    let chosen = head_cons before.chosen (chosen_of token) (filter_map chosen_of rest) in
    let printed = last_cons before.printed (printed_in token) (filter_map printed_in rest) in
    let after = last_cons before.after (after_in words token) (filter_map (after_in words) rest) in
    let exercise = last_cons before.exercise (exercise_in words token) (filter_map (exercise_in words) rest) in
    let noindex = any_cons before.noindex (is_noindex token) (list_any is_noindex rest) in
    let nofiles = any_cons before.nofiles (is_nofiles token) (list_any is_nofiles rest) in
    cc (command, chosen, printed, after, exercise, noindex, nofiles)

pub seen_step : (words : List (List ℕ)) (tokens : List Token) (i : ℕ) (d : Token) (before after all : Seen) → i < length tokens →
    after ≡ seen_with words before (get_or tokens i d) → seen_behind words before (drop i tokens) ≡ all → seen_behind words after (drop (i + 1) tokens) ≡ all
seen_step words tokens i d before after all lt e h =
    ap (λ s. seen_behind words s (drop (i + 1) tokens)) e
    ∙ sym (ap (seen_behind words before) (drop-cons tokens i d lt)
    ∙ seen_cons words before (get_or tokens i d) (drop (suc i) tokens)
    ∙ ap (λ n. seen_behind words (seen_with words before (get_or tokens i d)) (drop n tokens)) (sym (add-one i)))
    ∙ h
