-- Numbers of the panel and the answers that they stand for.
use Rattle.std.specs.Prelude.{Result, Ok, Err}
use mathlib.Core.Path.{◌≡◌, refl, sym, ap, ◌∙◌}
use mathlib.Core.List.{List, [], ◌∷◌}
use Prim.Native.Nat.{ℕ}
use native.Mathlib.Omega.{arith}
use Rattle.rulebook.specs.declared.CertificateKind.{CertificateKind}
use Rattle.rulebook.specs.declared.Refusal.{Refusal}
use Rattle.rulebook.specs.declared.Refusal.TheVariants as refusal
use Rattle.rulebook.specs.declared.Accepted.{Accepted}
use Rattle.rulebook.specs.PaperNumbers.{refusal_number, step_panel, kind_in, number_in, write_panel, check_number, check_values}
use Rattle.rulebook.specs.Writers as writer
use Rattle.rulebook.specs.Writers.{Writes}
use Rattle.rule_laws.proofs.KindLaws.{kind_back}
use Rattle.rule_laws.proofs.PanelLaws.{refusal_numbered}
use Rattle.safety.specs.Promises.{AcceptedAs}
use Rattle.answers.specs.Face.{Beside, accepted_values, Wrote, Checked}
use Rattle.seen.specs.Written.{NamedAs}

-- No refusal's number is 0.
pub refusal_above : {X : Type 0} (r : Refusal) → refusal_number r ≡ 0 → X
refusal_above r e = absurd (omega (arith, refusal_numbered r, e))

-- 8 is one refusal's number.
pub eight_stands_lem : (r : Refusal) → refusal_number r ≡ 8 → r ≡ refusal.OtherStands
unfolding refusal_number
eight_stands_lem refusal.BadSizes e = absurd (omega (arith, e))
eight_stands_lem refusal.BadNode e = absurd (omega (arith, e))
eight_stands_lem refusal.BadSlot e = absurd (omega (arith, e))
eight_stands_lem refusal.BadKind e = absurd (omega (arith, e))
eight_stands_lem refusal.BadBlock e = absurd (omega (arith, e))
eight_stands_lem refusal.OwnName e = absurd (omega (arith, e))
eight_stands_lem refusal.AlreadyKept e = absurd (omega (arith, e))
eight_stands_lem refusal.OtherStands e = refl
eight_stands_lem refusal.NoRoom e = absurd (omega (arith, e))
eight_stands_lem refusal.NotArmed e = absurd (omega (arith, e))
eight_stands_lem refusal.BadParent e = absurd (omega (arith, e))
eight_stands_lem refusal.BadLength e = absurd (omega (arith, e))
eight_stands_lem refusal.BadNumber e = absurd (omega (arith, e))
eight_stands_lem refusal.BadSigners e = absurd (omega (arith, e))
eight_stands_lem (refusal.TooLight missing) e = absurd (omega (arith, e))
eight_stands_lem refusal.NotAProof e = absurd (omega (arith, e))
eight_stands_lem refusal.BadRecord e = absurd (omega (arith, e))
eight_stands_lem refusal.NotHeld e = absurd (omega (arith, e))

pub eight_refused : (a : Result ℕ Refusal) → (step_panel a).number ≡ 8 → a ≡ Err refusal.OtherStands
unfolding step_panel
eight_refused (Ok n) e = absurd (omega (arith, e))
eight_refused (Err r) e = ap Err (eight_stands_lem r e)

-- A check that answers 0 accepts the kind, slot and block that its values name.
pub zero_accepted : {count : ℕ} {answer : Result Accepted Refusal} {kind slot block signers weight missing : ℕ} → Checked count answer 0 (kind ∷ slot ∷ block ∷ signers ∷ weight ∷ []) missing
    → AcceptedAs answer (kind_in count kind) slot block
unfolding check_number check_values
zero_accepted {count} {answer} {kind} {slot} {block} {signers} {weight} {missing} c = go answer c.numbered c.valued
  where
    go : (a : Result Accepted Refusal) → 0 ≡ check_number a → kind ∷ slot ∷ block ∷ signers ∷ weight ∷ [] ≡ check_values count a
        → AcceptedAs a (kind_in count kind) slot block
    go (Ok x) e v =
        let k : number_in count x.kind ≡ kind = cc in
        let s : x.slot.0 ≡ slot = cc in
        let b : x.block ≡ block = cc in
        record { what = x; accepted = refl; kind_is = sym (kind_back count x.kind) ∙ ap (kind_in count) k; slot_is = s; block_is = b }
    go (Err r) e v = refusal_above r (sym e)

-- What a check answers where its answer accepts.
pub named : (count : ℕ) (answer : Result Accepted Refusal) (number : ℕ) (values : List ℕ) (missing : ℕ) (k : CertificateKind) (slot block : ℕ)
    → Checked count answer number values missing → AcceptedAs answer k slot block → NamedAs number values (number_in count k) slot block
unfolding check_number check_values
named count answer number values missing k slot block c a =
    let w = a.what in
    let v : values ≡ accepted_values count w = c.valued ∙ ap (check_values count) a.accepted in
    record {
      accepts = c.numbered ∙ ap check_number a.accepted;
      signers = w.signers;
      weight = w.weight.0;
      names = v ∙ (λ i. number_in count (a.kind_is i) ∷ a.slot_is i ∷ a.block_is i ∷ w.signers ∷ w.weight.0 ∷ []);
    }

-- A writer that answers 0 wrote as many bytes as it counts.
pub zero_written : (w : writer.Wrote) (buffer after : List ℕ) (count : ℕ) → Wrote w buffer 0 count after
    → Writes w buffer w.answer after × (w.answer ≡ Ok count)
unfolding write_panel
zero_written w buffer after count r = (record { answered = refl; bytes = r.bytes }, go w.answer r.numbered r.counted)
  where
    go : (a : Result ℕ Refusal) → 0 ≡ (write_panel a).number → Beside count (write_panel a).values → a ≡ Ok count
    go (Ok n) e b = let q : n ≡ count = cc in ap Ok q
    go (Err x) e b = refusal_above x (sym e)
