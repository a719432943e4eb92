-- The kept masks of a certificate, by the places that are looked for one after the other. Assumes nothing.
use mathlib.Core.Path.{◌≡◌, refl, sym, ap, ◌∙◌}
use mathlib.Core.Bool.{Bool, true, false, ◌&&◌}
use mathlib.Core.List.{List, [], ◌∷◌}
use Prim.Native.Nat.{ℕ, suc, ◌<◌, ◌≤◌}
use native.Mathlib.Omega.{arith}
use lib.ListN.{length, get_or, get_or-eq_default}
use lib.Dec.{eqb}
use Rattle.rulebook.specs.declared.CertificateKind.{CertificateKind}
use Rattle.rulebook.specs.declared.CertificateKind.TheVariants as certificate
use Rattle.rulebook.specs.Tools.{choose}
use Rattle.rulebook.specs.Certificates.{Kept}
use Rattle.rulebook.specs.Ledger.{no_kept, is_kept}
use Rattle.rulebook.specs.Pool.{place_kind, same_kind}
use Rattle.rulebook.specs.Taking.{is_repeat}
use Rattle.rulebook.specs.Writers.{find_kept, kept_for}
use Rattle.rule_laws.proofs.ToolLaws.{choose_on, choose_off, and_both}
use Rattle.kept_places.specs.declared.Sought.TheVariants as sought
use Rattle.std.proofs.Common.{Option, Some, None}
use Rattle.std.specs.Option.{MatchOption, IfSome, unwrap_or}
use Rattle.std.proofs.lemmas.Option.{none-some}
use Rattle.kept_places.specs.Seeking.{seeks, first_place}
use Rattle.kept_places.proofs.Laws.{find_place}

-- ---- one kind

kept_from : (k : CertificateKind) (b i : ℕ) (qs : List Kept) → first_place (λ j q. is_kept q && is_repeat k b j q) i qs < length qs → is_kept (find_kept k b i qs) ≡ true
unfolding find_kept first_place is_repeat choose
kept_from k b i [] h = absurd (omega arith)
kept_from k b i (q ∷ qs) h = go (is_kept q && (same_kind (place_kind i) k && eqb q.block b)) refl (kept_from k b (suc i) qs) h
  where
    go : (t : Bool) → (is_kept q && (same_kind (place_kind i) k && eqb q.block b)) ≡ t
        → (first_place (λ j q. is_kept q && is_repeat k b j q) (suc i) qs < length qs → is_kept (find_kept k b (suc i) qs) ≡ true)
        → choose t 0 (suc (first_place (λ j q. is_kept q && is_repeat k b j q) (suc i) qs)) < suc (length qs) → is_kept (choose t q (find_kept k b (suc i) qs)) ≡ true
    go true e f l = (and_both (is_kept q) (same_kind (place_kind i) k && eqb q.block b) e).0
    go false e f l = f (omega arith)

module _ (k : CertificateKind) (b : ℕ) (qs : List Kept) (n : ℕ) (e : n ≡ first_place (seeks (sought.Same k b)) 0 qs) where
  -- The place that is found keeps what is looked for.
  place_kept : get_or qs n no_kept ≡ find_kept k b 0 qs
  place_kept = ap (λ (m : ℕ). get_or qs m no_kept) e ∙ sym (find_place k b qs)

  is_there : n < length qs → is_kept (find_kept k b 0 qs) ≡ true
  unfolding seeks
  is_there h = kept_from k b 0 qs (omega (arith, e))

  is_nowhere : length qs ≤ n → is_kept (find_kept k b 0 qs) ≡ false
  is_nowhere h = ap (λ (q : Kept). is_kept q) (sym place_kept ∙ get_or-eq_default qs no_kept {n = n} h)

-- ---- the kind asked for, else 2, else 1

module _ (k : CertificateKind) (b : ℕ) (qs : List Kept) (n : ℕ) (e : n ≡ first_place (seeks (sought.Same k b)) 0 qs) where
  abbrev asked : Kept
  asked = find_kept k b 0 qs

  abbrev notar : Kept
  notar = find_kept certificate.Notar b 0 qs

  abbrev fast : Kept
  fast = find_kept certificate.FastFinal b 0 qs

  pub masks_asked : n < length qs → get_or qs n no_kept ≡ kept_for k b qs
  unfolding kept_for
  masks_asked h = place_kept k b qs n e ∙ sym (choose_on (is_kept asked) asked (choose (is_kept notar) notar fast) (is_there k b qs n e h))

  masks_other : length qs ≤ n → kept_for k b qs ≡ choose (is_kept notar) notar fast
  unfolding kept_for
  masks_other h = choose_off (is_kept asked) asked (choose (is_kept notar) notar fast) (is_nowhere k b qs n e h)

  module _ (h : length qs ≤ n) (m : ℕ) (f : m ≡ first_place (seeks (sought.Same certificate.Notar b)) 0 qs) where
    pub masks_notar : m < length qs → get_or qs m no_kept ≡ kept_for k b qs
    masks_notar l =
        place_kept certificate.Notar b qs m f ∙ sym (masks_other h ∙ choose_on (is_kept notar) notar fast (is_there certificate.Notar b qs m f l))

    pub masks_fast : length qs ≤ m → (o : ℕ) → o ≡ first_place (seeks (sought.Same certificate.FastFinal b)) 0 qs → get_or qs o no_kept ≡ kept_for k b qs
    masks_fast l o g =
        place_kept certificate.FastFinal b qs o g ∙ sym (masks_other h ∙ choose_off (is_kept notar) notar fast (is_nowhere certificate.Notar b qs m f l))

-- What a search for a kind finds.
abbrev pub Sought : List Kept → ℕ → CertificateKind → Option ℕ → Type 0
Sought qs b k r = (unwrap_or r 13 ≡ first_place (seeks (sought.Same k b)) 0 qs) × IfSome r (λ n. n < 13)

-- The next kind is asked for where there is none.
pub asked_on : (P : Type 0) (qs : List Kept) (b : ℕ) (k : CertificateKind) (r s : Option ℕ) → MatchOption r P (λ n. s ≡ Some n) → (P → Sought qs b k s) → MatchOption r (Sought qs b k s) (λ n. s ≡ Some n)
asked_on P qs b k None s p f = f p
asked_on P qs b k (Some n) s p f = p

pub masks_in_turn : (k : CertificateKind) (b : ℕ) (qs : List Kept) → length qs ≡ 13 → (x y z : Option ℕ) → Sought qs b k x → MatchOption x (Sought qs b certificate.Notar y) (λ n. y ≡ Some n)
    → MatchOption y (Sought qs b certificate.FastFinal z) (λ n. z ≡ Some n) → get_or qs (unwrap_or z 13) no_kept ≡ kept_for k b qs
masks_in_turn k b qs long (Some n) None z p q r = absurd (none-some n q)
masks_in_turn k b qs long (Some n) (Some m) z p q r =
    ap (λ (o : Option ℕ). get_or qs (unwrap_or o 13) no_kept) (r ∙ q) ∙ masks_asked k b qs n p.0 (omega (arith, p.1, long))
masks_in_turn k b qs long None (Some m) z p q r =
    ap (λ (o : Option ℕ). get_or qs (unwrap_or o 13) no_kept) r ∙ masks_notar k b qs 13 p.0 (omega (arith, long)) m q.0 (omega (arith, q.1, long))
masks_in_turn k b qs long None None z p q r =
    masks_fast k b qs 13 p.0 (omega (arith, long)) 13 q.0 (omega (arith, long)) (unwrap_or z 13) r.0
