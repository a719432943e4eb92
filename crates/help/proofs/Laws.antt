-- Laws of what is told of a word: one byte more of a text, and the end of it; a refusal's number. Assumes nothing.
use mathlib.Core.Path.{◌≡◌, refl, sym, ap, ◌∙◌}
use mathlib.Core.Bool.{Bool, true, false, ◌&&◌}
use mathlib.Core.List.{List, [], ◌∷◌, ◌++◌}
use Prim.Native.Nat.{ℕ, suc, ◌+◌, ◌-◌, ◌≤◌, ◌<◌}
use native.Mathlib.Omega.{arith}
use native.Mathlib.Numerals.{add-one}
use lib.Dec.{eqb, leb, ltb}
use lib.ListN.{length, get_or, take, drop, drop_of_length-le, length-drop}
use lib.Seq.{sets, drop-cons, take-length}
use borrow.Author.Tests.{eq-eqb, ne_eqb, lt-ltb, le-ltb}
use Rattle.rulebook.specs.Tools.{choose}
use Rattle.rule_laws.proofs.ToolLaws.{choose_on, choose_off, given_on, given_off}
use Rattle.commands.specs.Commands.{same_text}
use Rattle.lines.specs.Text.{decimal}
use Rattle.lines.specs.declared.Page.{Page}
use Rattle.lines.specs.Put.{reach, Put}
use Rattle.lines.specs.Page.{Wrote}
use Rattle.lines.proofs.Paging.{and_then, as_text, put_nothing}
use Rattle.help.specs.Topics.{named, opens, topic_from, topic_in, topic_of, topic_line, numbered}

-- ---- whether a line is told

pub too_short : (w rest : List ℕ) → length rest ≤ length w → false ≡ named w rest
unfolding named
too_short w rest h =
    sym (ap (λ (t : Bool). t && (same_text (take (length w) rest) w && leb (get_or rest (length w) 0) 32)) (le-ltb (length w) (length rest) h))

pub long_enough : (w rest : List ℕ) (t : Bool) → length w < length rest → t ≡ same_text (take (length w - 0) rest) w
    → (t && leb (get_or rest (length w) 0) 32) ≡ named w rest
unfolding named
long_enough w rest t h e =
    let q : length w - 0 ≡ length w = omega arith in
    ap (λ (u : Bool). u && leb (get_or rest (length w) 0) 32) (e ∙ ap (λ (k : ℕ). same_text (take k rest) w) q)
    ∙ sym (ap (λ (u : Bool). u && (same_text (take (length w) rest) w && leb (get_or rest (length w) 0) 32)) (lt-ltb (length w) (length rest) h))

module _ (w rest : List ℕ) (on : Bool) where
  abbrev begun : Bool
  begun = choose (eqb (get_or rest 0 0) 32) on (named w rest)

  pub goes_on_lem : (fresh : Bool) → fresh ≡ false → on ≡ opens w rest fresh on
  unfolding opens
  goes_on_lem fresh h = sym (given_off fresh on (λ _. begun) h)

  pub indented : (fresh : Bool) → fresh ≡ true → get_or rest 0 0 ≡ 32 → on ≡ opens w rest fresh on
  unfolding opens
  indented fresh h e =
      sym (given_on fresh on (λ _. begun) h ∙ choose_on (eqb (get_or rest 0 0) 32) on (named w rest) (eq-eqb (get_or rest 0 0) 32 e))

  pub not_indented : (fresh : Bool) → fresh ≡ true → (get_or rest 0 0 ≡ 32 → ⊥) → named w rest ≡ opens w rest fresh on
  unfolding opens
  not_indented fresh h e =
      sym (given_on fresh on (λ _. begun) h ∙ choose_off (eqb (get_or rest 0 0) 32) on (named w rest) (ne_eqb (get_or rest 0 0) 32 e))

-- ---- a text, byte by byte

-- What is still told of a text from a place on is put behind what was put.
abbrev pub Left : Page → List ℕ → List ℕ → Bool → Bool → ℕ → Page → Type 0
Left before w text fresh on i page =
    (after : Page) → Wrote page (topic_from w (drop i text) fresh on) after → Wrote before (topic_in w text) after

pub all_left : (page : Page) (w text : List ℕ) → Left page w text true false 0 page
unfolding topic_in
all_left page w text after v = v

pub none_left : {before page : Page} (w text : List ℕ) (fresh on : Bool) (i : ℕ) → length text ≤ i → Left before w text fresh on i page
    → Wrote before (topic_in w text) page
unfolding topic_from
none_left {page = page} w text fresh on i h left =
    left page (as_text (ap (λ (r : List ℕ). topic_from w r fresh on) (sym (drop_of_length-le text h))) (put_nothing page))

-- A byte more: whether it is told, and what is left behind it.
told_here : (w text : List ℕ) (fresh on : Bool) (i : ℕ) (now : Bool) → i < length text → now ≡ opens w (drop i text) fresh on
    → topic_from w (drop i text) fresh on ≡ choose now (get_or text i 0 ∷ []) [] ++ topic_from w (drop (i + 1) text) (eqb (get_or text i 0) 10) now
unfolding topic_from
told_here w text fresh on i now h e =
    rw (add-one, e, drop-cons text i 0 h) refl

-- The rest of a text as a part that is lent.
pub to_end : (text : List ℕ) (i n : ℕ) → n ≡ length text → take (n - i) (drop i text) ≡ drop i text
to_end text i n e =
    ap (λ (k : ℕ). take k (drop i text)) (ap (λ (m : ℕ). m - i) e ∙ sym (length-drop i text)) ∙ take-length (drop i text)

pub one_less : {before page page' : Page} (w text : List ℕ) (fresh on : Bool) (i : ℕ) (now : Bool) (rest : List ℕ) → i < length text
    → rest ≡ drop i text → now ≡ opens w rest fresh on → Wrote page (choose now (get_or text i 0 ∷ []) []) page' → Left before w text fresh on i page
    → Left before w text (eqb (get_or text i 0) 10) now (i + 1) page'
one_less w text fresh on i now rest h q e v more after u =
    more after (as_text (sym (told_here w text fresh on i now h (e ∙ ap (λ (r : List ℕ). opens w r fresh on) q))) (and_then v u))

-- ---- the answers

empty_sets : (vs : List ℕ) (i : ℕ) → sets [] i vs ≡ []
empty_sets [] i = refl
empty_sets (v ∷ vs) i = empty_sets vs (suc i)

-- A text of which nothing was put has no byte, or there is no room for any.
no_text : (l t : List ℕ) (used : ℕ) → used ≡ 0 → used ≡ reach (length l) 0 (length t)
    → sets (sets l 0 t) 0 (63 ∷ 10 ∷ []) ≡ sets l 0 (choose (eqb (length t) 0) (63 ∷ 10 ∷ []) t)
unfolding reach choose
no_text l [] used z q = refl
no_text [] (x ∷ xs) used z q = ap (λ (k : List ℕ). sets k 0 (63 ∷ 10 ∷ [])) (empty_sets (x ∷ xs) 0) ∙ empty_sets (63 ∷ 10 ∷ []) 0 ∙ sym (empty_sets (choose (eqb (length (x ∷ xs)) 0) (63 ∷ 10 ∷ []) (x ∷ xs)) 0)
no_text (y ∷ ys) (x ∷ xs) used z q = absurd (omega arith)

module _ (page w : List ℕ) (used : ℕ) where
  pub no_topic : {page' left : List ℕ} → used ≡ 0 → Put page 0 (topic_of w) page' used → left ≡ sets page' 0 (63 ∷ 10 ∷ []) → left ≡ sets page 0 (topic_line w)
  unfolding topic_line
  no_topic z p e = e ∙ ap (λ (l : List ℕ). sets l 0 (63 ∷ 10 ∷ [])) p.bytes ∙ no_text page (topic_of w) used z p.place

  pub some_topic : {page' : List ℕ} → (used ≡ 0 → ⊥) → Put page 0 (topic_of w) page' used → page' ≡ sets page 0 (topic_line w)
  unfolding topic_line reach
  some_topic n p =
      let k = p.place in
      p.bytes ∙ ap (sets page 0) (sym (choose_off (eqb (length (topic_of w)) 0) _ _ (ne_eqb (length (topic_of w)) 0 (λ z. n (omega arith)))))

pub no_number : (p : Page) (n : ℕ) → 18 < n → Wrote p (numbered n) p
unfolding numbered
no_number p n h = as_text (sym (choose_on (ltb 18 n) [] _ (lt-ltb 18 n h))) (put_nothing p)

pub a_number : {p q r : Page} (n : ℕ) → n ≤ 18 → Wrote p (decimal n) q → Wrote q (58 ∷ 32 ∷ []) r → Wrote p (numbered n) r
unfolding numbered
a_number n h w v = as_text (sym (choose_off (ltb 18 n) [] _ (le-ltb 18 n h))) (and_then w v)
