-- Laws of what a line is: two texts compared byte by byte, a packet and its stakes, the command by word and arguments. Assumes nothing.
use mathlib.Core.Path.{◌≡◌, sym, ap, ◌∙◌}
use mathlib.Core.Bool.{Bool, true, false, ◌&&◌}
use mathlib.Core.List.{List}
use Prim.Native.Nat.{ℕ, ◌-◌, ◌≤◌, ◌<◌}
use native.Mathlib.Omega.{arith}
use lib.Dec.{ltb}
use lib.ListN.{take, drop}
use borrow.Author.Tests.{lt-ltb, le-ltb}
use Rattle.rule_laws.proofs.ToolLaws.{true_not_false, choose_on, choose_off}
use Rattle.std.specs.Prelude.{Option}
use Rattle.std.specs.Option.{is_some}
use Rattle.script.specs.declared.Word.{Word}
use Rattle.script.specs.Words.{WordIn}
use Rattle.hex_bytes.specs.Bytes.{hex_of}
use Rattle.script.specs.Numbers.{word_from, word_to}
use Rattle.script.proofs.Reading.{word_from_lem, word_to_lem}
use Rattle.commands.specs.declared.Command.{Command}
use Rattle.commands.specs.declared.Command.TheVariants as command
use Rattle.commands.specs.declared.Reading.{Reading}
use Rattle.commands.specs.declared.Reading.TheVariants as reading
use Rattle.commands.specs.Commands.{input_of, exactly, at_least, word_of, one_word, packet_and_stakes, packet_alone, count_and_message, arguments_fit, command_of, reading_of, reading_fits, reading_on, tells, Heard}

-- ---- the next word

module _ (line : List ℕ) (at : ℕ) (w : Word) (h : WordIn line at w) where
  pub word_is : take (w.to - w.from) (drop w.from line) ≡ word_of line at
  word_is = λ i. take (word_to_lem line at w h i - word_from_lem line at w h i) (drop (word_from_lem line at w h i) line)

  abbrev packet_test : Bool → Bool → Bool
  packet_test t good = t && (good && at_least line (word_to line at) 0)

  pub no_packet : w.to ≤ w.from → false ≡ packet_and_stakes line at
  unfolding packet_and_stakes
  no_packet k =
      sym (ap (λ (t : Bool). packet_test t (is_some (hex_of (word_of line at) 32768)))
      (le-ltb (word_from line at) (word_to line at) (omega (arith, word_to_lem line at w h, word_from_lem line at w h))))

  module _ (k : w.from < w.to) (hex : Option ℕ) (room : ℕ) (e : room ≡ 32768) (q : hex ≡ hex_of (take (w.to - w.from) (drop w.from line)) room) where
    packet_is : packet_test true (is_some hex) ≡ packet_and_stakes line at
    unfolding packet_and_stakes
    packet_is =
        λ i. packet_test (sym (lt-ltb (word_from line at) (word_to line at) (omega (arith, word_to_lem line at w h, word_from_lem line at w h))) i)
        ((ap (λ (x : Option ℕ). is_some x) q ∙ (λ j. is_some (hex_of (word_is j) (e j)))) i)

    pub bad_packet : is_some hex ≡ false → false ≡ packet_and_stakes line at
    bad_packet d = ap (packet_test true) (sym d) ∙ packet_is

    pub good_packet : (r : Bool) → is_some hex ≡ true → r ≡ at_least line w.to 0 → r ≡ packet_and_stakes line at
    good_packet r d g = g ∙ ap (λ (n : ℕ). at_least line n 0) (word_to_lem line at w h) ∙ ap (packet_test true) (sym d) ∙ packet_is

-- ---- one word

pub word_alone : (line : List ℕ) (at : ℕ) (w : Word) → WordIn line at w → (c : Bool) → c ≡ exactly line w.to 0
    → (ltb w.from w.to && c) ≡ one_word line at
unfolding one_word
word_alone line at w h c e =
    λ i. ltb (word_from_lem line at w h i) (word_to_lem line at w h i) && (e ∙ ap (λ (n : ℕ). exactly line n 0) (word_to_lem line at w h)) i

-- ---- a packet alone, and a count and a message

pub packet_is_alone : (line : List ℕ) (at : ℕ) (w : Word) → WordIn line at w → (b c : Bool) → b ≡ packet_and_stakes line at → c ≡ exactly line w.to 0
    → (b && c) ≡ packet_alone line at
unfolding packet_alone
packet_is_alone line at w h b c q r = λ i. q i && (r ∙ ap (λ (n : ℕ). exactly line n 0) (word_to_lem line at w h)) i

pub message_is : (line : List ℕ) (at : ℕ) (w : Word) → WordIn line at w → (a b : Bool) → a ≡ exactly (take w.to line) at 1 → b ≡ packet_alone line w.to
    → (a && b) ≡ count_and_message line at
unfolding count_and_message
message_is line at w h a b p q =
    let e : w.to ≡ word_to line at = word_to_lem line at w h in
    λ i. (p ∙ ap (λ (n : ℕ). exactly (take n line) at 1) e) i && (q ∙ ap (packet_alone line) e) i

-- ---- the command

module _ (line : List ℕ) (w : Word) (h : WordIn line 0 w) (c : Command) (e : c ≡ input_of (take (w.to - w.from) (drop w.from line))) where
  command_is : c ≡ input_of (word_of line 0)
  command_is = e ∙ ap input_of (word_is line 0 w h)

  fits_is : (r : Bool) → r ≡ arguments_fit c line w.to → r ≡ arguments_fit (input_of (word_of line 0)) line (word_to line 0)
  fits_is r d = d ∙ (λ i. arguments_fit (command_is i) line (word_to_lem line 0 w h i))

  pub command_fits : (r : Bool) → r ≡ arguments_fit c line w.to → r ≡ true → c ≡ command_of line
  unfolding command_of
  command_fits r d t =
      let k = input_of (word_of line 0) in
      command_is ∙ sym (choose_on (arguments_fit k line (word_to line 0)) k command.Other (sym (fits_is r d) ∙ t))

  pub command_none : (r : Bool) → r ≡ arguments_fit c line w.to → r ≡ false → command.Other ≡ command_of line
  unfolding command_of
  command_none r d t =
      let k = input_of (word_of line 0) in
      sym (choose_off (arguments_fit k line (word_to line 0)) k command.Other (sym (fits_is r d) ∙ t))

-- ---- what a line reads

module _ (line : List ℕ) (w : Word) (h : WordIn line 0 w) (r : Reading) (e : r ≡ reading_of (take (w.to - w.from) (drop w.from line))) where
  reading_is : r ≡ reading_of (word_of line 0)
  reading_is = e ∙ ap reading_of (word_is line 0 w h)

  meets_is : (t : Bool) → t ≡ reading_fits r line w.to → t ≡ reading_fits (reading_of (word_of line 0)) line (word_to line 0)
  meets_is t d = d ∙ (λ i. reading_fits (reading_is i) line (word_to_lem line 0 w h i))

  pub reading_meets : (t : Bool) → t ≡ reading_fits r line w.to → t ≡ true → r ≡ reading_on line
  unfolding reading_on
  reading_meets t d k =
      let q = reading_of (word_of line 0) in
      reading_is ∙ sym (choose_on (reading_fits q line (word_to line 0)) q reading.Nothing (sym (meets_is t d) ∙ k))

  pub reading_none : (t : Bool) → t ≡ reading_fits r line w.to → t ≡ false → reading.Nothing ≡ reading_on line
  unfolding reading_on
  reading_none t d k =
      let q = reading_of (word_of line 0) in
      sym (choose_off (reading_fits q line (word_to line 0)) q reading.Nothing (sym (meets_is t d) ∙ k))

-- ---- what a line does to a node

-- A command that tells the node something may leave anything.
pub telling : (line : List ℕ) (c k : Command) → c ≡ command_of line → c ≡ k → tells k ≡ true → (rec outbox recLeft outboxLeft : List ℕ)
    → Heard line rec outbox recLeft outboxLeft
telling line c k e q t rec outbox recLeft outboxLeft =
    let h : tells (command_of line) ≡ true = ap tells (sym e ∙ q) ∙ t in
    record { words = λ f. true_not_false (tells (command_of line)) h f; records = λ f. true_not_false (tells (command_of line)) h f }
