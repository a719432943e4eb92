-- Calls that meet their contracts are the rule book's life: one induction, over one call at a time.
use Rattle.std.specs.Prelude.{⊤, Result, Ok, Err}
use mathlib.Core.Path.{◌≡◌, refl, sym, ap, ◌∙◌, subst}
use mathlib.Core.Bool.{true, not}
use mathlib.Core.List.{List, [], ◌∷◌, ◌++◌, append_assoc, append-nil}
use Prim.Native.Nat.{ℕ}
use lib.Dec.{T, eqb}
use lib.ListN.{length}
use Rattle.rulebook.specs.declared.Input.{Input}
use Rattle.rulebook.specs.declared.Refusal.{Refusal}
use Rattle.rulebook.specs.declared.Refusal.TheVariants as refusal
use Rattle.rulebook.specs.PaperNumbers.{start_panel, step_panel}
use Rattle.rulebook.specs.Weights.{places_for}
use Rattle.rulebook.specs.Ledger.{Ledger, fresh}
use Rattle.rulebook.specs.Inputs.{refuse_if, start_verdict, watch_verdict}
use Rattle.rulebook.specs.Rules.{Record}
use Rattle.rulebook.specs.Taking.{Arrival, served}
use Rattle.rule_laws.proofs.RuleLaws.{refuse_fine}
use Rattle.settling.specs.Facts.{Sound}
use Rattle.settling.specs.Steps.{life}
use Rattle.settling.proofs.Start.{fresh_sound, watching_sound}
use Rattle.soundness.specs.Sound.{sound_words}
use Rattle.soundness.proofs.InStep.{spelled_sound, spelled_back}
use Rattle.record.specs.Layout.{record_words, ledger_of}
use Rattle.record.specs.Spelling.{words_of}
use Rattle.node.specs.Stepping.{StepOf}
use Rattle.taking.specs.Taking.{TakeOf}
use Rattle.trays.specs.Lent.{TrayOf}
use Rattle.starts.specs.Starting.{start_judged, watch_judged, start_answer, start_left, StartOf, WatchOf}
use Rattle.answers.specs.Face.{Started, Watched}
use Rattle.safety.specs.Ring.{after_all}
use Rattle.safety.proofs.Lives.{life_on}
use Rattle.seen.specs.Seen.{Seen, LifeSeen}
use Rattle.seen.proofs.Numbers.{refusal_above}
use Rattle.calls.specs.Operation.{Operation, one_input, a_tray, a_packet, fed_by}
use Rattle.calls.specs.Life.{Met, MetWith, begun, next, Calls, none, then, not_started, not_watched, Life, Watch, LifeIsSeen, WatchIsSeen, LivesAreNodes, CallsEarlier, LifeBegins, WatchBegins, MetGoesOn, RefusedStays}
use Rattle.calls.proofs.OneCall.{call_did}

-- ---- the public operations, in numbers

pub step_met : (ws lent : List ℕ) (i : Input) (answer : Result ℕ Refusal) (words left : List ℕ) → StepOf ws lent i answer words left
    → MetWith (one_input i) ws lent answer words left
step_met ws lent i answer words left s made b =
    record {
      numbered = ap (λ (a : Result ℕ Refusal). (step_panel a).number) s.answered;
      counted = b ∙ ap (λ (a : Result ℕ Refusal). (step_panel a).values) s.answered;
      words = s.words;
      outbox = s.outbox;
    }

pub take_met : (ws lent packet : List ℕ) (answer : Result ℕ Refusal) (words left : List ℕ) → TakeOf ws lent packet answer words left
    → MetWith (a_packet packet) ws lent answer words left
take_met ws lent packet answer words left s made b =
    record {
      numbered = ap (λ (a : Result ℕ Refusal). (step_panel a).number) s.answered;
      counted = b ∙ ap (λ (a : Result ℕ Refusal). (step_panel a).values) s.answered;
      words = s.words;
      outbox = s.outbox;
    }

pub tray_met : (ws lent votes places : List ℕ) (answer : Result ℕ Refusal) (words left answers : List ℕ) → TrayOf ws lent votes places answer words left answers
    → MetWith (a_tray votes places answers) ws lent answer words left
tray_met ws lent votes places answer words left answers s made b =
    record {
      numbered = ap (λ (a : Result ℕ Refusal). (step_panel a).number) s.answered;
      counted = b ∙ ap (λ (a : Result ℕ Refusal). (step_panel a).values) s.answered;
      words = s.words;
      outbox = s.outbox;
      answered = s.answers;
    }

pub start_met : (ws stakes : List ℕ) (own genesis : ℕ) (answer : Result ⊤ Refusal) (words : List ℕ) → StartOf ws stakes own genesis answer words
    → Started ws stakes own genesis (start_panel answer).number words
start_met ws stakes own genesis answer words s = record { numbered = ap (λ (a : Result ⊤ Refusal). (start_panel a).number) s.answered; words = s.words }

pub watch_met : (ws stakes : List ℕ) (genesis : ℕ) (answer : Result ⊤ Refusal) (words : List ℕ) → WatchOf ws stakes genesis answer words
    → Watched ws stakes genesis (start_panel answer).number words
watch_met ws stakes genesis answer words s = record { numbered = ap (λ (a : Result ⊤ Refusal). (start_panel a).number) s.answered; words = s.words }

-- ---- starts

-- A start that was answered 0 passed its tests, and left the fresh ledger's words.
start_zero : (found stakes words : List ℕ) (own genesis : ℕ) (v judged : Result ⊤ Refusal)
    → refuse_if (not (eqb (length found) (record_words (places_for (length stakes))))) refusal.BadRecord v ≡ judged
    → 0 ≡ (start_panel (start_answer judged)).number → words ≡ start_left judged found stakes own genesis → (v ≡ Ok tt) × (words ≡ words_of (fresh stakes own genesis))
unfolding start_answer start_left start_panel
start_zero found stakes words own genesis v (Ok tt) e a w =
    ((refuse_fine (not (eqb (length found) (record_words (places_for (length stakes))))) refusal.BadRecord v e).1, w)
start_zero found stakes words own genesis v (Err r) e a w = refusal_above r (sym a)

-- One that was not left the words as found.
start_refused : (found stakes words : List ℕ) (own genesis number : ℕ) (judged : Result ⊤ Refusal) → number ≡ (start_panel (start_answer judged)).number
    → words ≡ start_left judged found stakes own genesis → ¬ (number ≡ 0) → words ≡ found
unfolding start_answer start_left start_panel
start_refused found stakes words own genesis number (Ok tt) a w ne = absurd (ne a)
start_refused found stakes words own genesis number (Err r) a w ne = w

-- The words of a fresh ledger are a life without calls.
fresh_seen : (stakes : List ℕ) (own genesis : ℕ) (words : List ℕ) → Sound (fresh stakes own genesis) → words ≡ words_of (fresh stakes own genesis)
    → LifeSeen (fresh stakes own genesis) (begun words)
unfolding after_all life
fresh_seen stakes own genesis words fine e =
    record { sound = ap sound_words e ∙ spelled_sound (fresh stakes own genesis) fine; ledger = ap ledger_of e ∙ spelled_back (fresh stakes own genesis) fine; records = refl }

module _ (stakes : List ℕ) (own genesis : ℕ) (found words : List ℕ) (s : Started found stakes own genesis 0 words) where
  node_started : (start_verdict stakes own genesis ≡ Ok tt) × (words ≡ words_of (fresh stakes own genesis))
  unfolding start_judged
  node_started = start_zero found stakes words own genesis (start_verdict stakes own genesis) (start_judged found stakes own genesis) refl s.numbered s.words

  pub born_seen : LifeSeen (fresh stakes own genesis) (begun words)
  born_seen = fresh_seen stakes own genesis words (fresh_sound stakes own genesis node_started.0) node_started.1

module _ (stakes : List ℕ) (genesis : ℕ) (found words : List ℕ) (s : Watched found stakes genesis 0 words) where
  watcher_started : (watch_verdict stakes genesis ≡ Ok tt) × (words ≡ words_of (fresh stakes (length stakes) genesis))
  unfolding watch_judged
  watcher_started = start_zero found stakes words (length stakes) genesis (watch_verdict stakes genesis) (watch_judged found stakes genesis) refl s.numbered s.words

-- ---- calls

life_both : (l : Ledger) (is js : List Arrival) → life l (is ++ js) ≡ life l is ++ life (after_all l is) js
unfolding life after_all
life_both l [] js = refl
life_both l (i ∷ is) js =
    ap (λ (rs : List Record). (served l i).records ++ rs) (life_both (served l i).ledger is js)
    ∙ sym (append_assoc (served l i).records (life (served l i).ledger is) (life (after_all (served l i).ledger is) js))

-- One call more.
goes_on_lem : (l : Ledger) (v : Seen) → LifeSeen l v → (o : Operation) (lent : List ℕ) (number made : ℕ) (words left : List ℕ)
    → Met o v.words lent number made words left → LifeSeen l (next v o lent made words left)
goes_on_lem l v h o lent number made words left m =
    let is : List Arrival = fed_by o lent in
    let d = call_did o v.words lent number made words left h.sound m in
    record {
      sound = d.sound;
      ledger = d.ledger ∙ ap (λ (m : Ledger). after_all m is) h.ledger ∙ sym (life_on l v.came is);
      records = (λ j. h.records j ++ (d.told ∙ ap (λ (m : Ledger). life m is) h.ledger) j) ∙ sym (life_both l v.came is);
    }

-- A start more that was refused.
stays : (l : Ledger) (v : Seen) (words : List ℕ) → LifeSeen l v → words ≡ v.words → LifeSeen l (record { words = words; told = v.told; came = v.came })
stays l v words h e = record { sound = ap sound_words e ∙ h.sound; ledger = ap ledger_of e ∙ h.ledger; records = h.records }

pub many : (l : Ledger) (v w : Seen) → LifeSeen l v → Calls v w → LifeSeen l w
many l v w h none = h
many l v w h (then {w = u} k o lent number made words left m) = goes_on_lem l u (many l v u h k) o lent number made words left m
many l v w h (not_started {w = u} k stakes own genesis number words s n) =
    stays l u words (many l v u h k) (start_refused u.words stakes words own genesis number (start_judged u.words stakes own genesis) s.numbered s.words n)
many l v w h (not_watched {w = u} k stakes genesis number words s n) =
    stays l u words (many l v u h k) (start_refused u.words stakes words (length stakes) genesis number (watch_judged u.words stakes genesis) s.numbered s.words n)

-- ---- lives

pub life_is_seen : LifeIsSeen
life_is_seen stakes own genesis v h =
    record {
      started = (node_started stakes own genesis h.found h.words h.start).0;
      lived = many _ _ v (born_seen stakes own genesis h.found h.words h.start) h.calls;
    }

pub watch_is_seen : WatchIsSeen
watch_is_seen stakes genesis v h =
    let s = watcher_started stakes genesis h.found h.words h.start in
    record {
      started = s.0;
      lived = many _ _ v (fresh_seen stakes (length stakes) genesis h.words (watching_sound stakes genesis s.0) s.1) h.calls;
    }

pub lives_are_nodes : LivesAreNodes
lives_are_nodes stakes genesis honest lives few all = record { few = few; lived = λ n h. life_is_seen stakes n (genesis n) (lives n) (all n h) }

pub calls_earlier : CallsEarlier
calls_earlier v w none = record { since = []; goes_on = sym (append-nil v.came) }
calls_earlier v w (then {w = u} k o lent number made words left m) =
    let e = calls_earlier v u k in
    record { since = e.since ++ fed_by o lent; goes_on = ap (λ (is : List Arrival). is ++ fed_by o lent) e.goes_on ∙ append_assoc v.came e.since (fed_by o lent) }
calls_earlier v w (not_started {w = u} k stakes own genesis number words s n) = let e = calls_earlier v u k in record { since = e.since; goes_on = e.goes_on }
calls_earlier v w (not_watched {w = u} k stakes genesis number words s n) = let e = calls_earlier v u k in record { since = e.since; goes_on = e.goes_on }

pub life_begins : LifeBegins
life_begins found stakes own genesis number words s z =
    record { found = found; words = words; start = subst (λ (n : ℕ). Started found stakes own genesis n words) z s; calls = none }

pub watch_begins : WatchBegins
watch_begins found stakes genesis number words s z =
    record { found = found; words = words; start = subst (λ (n : ℕ). Watched found stakes genesis n words) z s; calls = none }

pub met_goes_on : MetGoesOn
met_goes_on o ws lent number made words left m =
    record {
      node = λ stakes own genesis v e h.
          record { found = h.found; words = h.words; start = h.start; calls = then h.calls o lent number made words left (subst (λ (x : List ℕ). Met o x lent number made words left) (sym e) m) };
      watcher = λ stakes genesis v e h.
          record { found = h.found; words = h.words; start = h.start; calls = then h.calls o lent number made words left (subst (λ (x : List ℕ). Met o x lent number made words left) (sym e) m) };
    }

pub refused_stays : RefusedStays
refused_stays ws stakes own genesis number words s n =
    record {
      node = λ table me g v e h.
          record { found = h.found; words = h.words; start = h.start; calls = not_started h.calls stakes own genesis number words (subst (λ (x : List ℕ). Started x stakes own genesis number words) (sym e) s) n };
      watcher = λ table g v e h.
          record { found = h.found; words = h.words; start = h.start; calls = not_started h.calls stakes own genesis number words (subst (λ (x : List ℕ). Started x stakes own genesis number words) (sym e) s) n };
    }

-- ---- on any words that 17 lets pass

pub stays_sound : (v w : Seen) → sound_words v.words ≡ true → Calls v w → sound_words w.words ≡ true
stays_sound v w e none = e
stays_sound v w e (then {w = u} k o lent number made words left m) = (call_did o u.words lent number made words left (stays_sound v u e k) m).sound
stays_sound v w e (not_started {w = u} k stakes own genesis number words s n) =
    ap sound_words (start_refused u.words stakes words own genesis number (start_judged u.words stakes own genesis) s.numbered s.words n) ∙ stays_sound v u e k
stays_sound v w e (not_watched {w = u} k stakes genesis number words s n) =
    ap sound_words (start_refused u.words stakes words (length stakes) genesis number (watch_judged u.words stakes genesis) s.numbered s.words n) ∙ stays_sound v u e k
