-- What stands behind a record of a final block is answered by the writers and the readers.
use mathlib.Core.Path.{◌≡◌, sym, ap, ◌∙◌, subst}
use mathlib.Core.Bool.{Bool, true, false, not, ◌&&◌}
use mathlib.Core.List.{List, [], ◌∷◌}
use Prim.Native.Nat.{ℕ, ◌≤◌}
use native.Mathlib.Omega.{arith}
use lib.Dec.{T, eqb, leb, leb→le, le→leb, T_not}
use lib.ListN.{length, get_or}
use Rattle.rulebook.specs.declared.Block.{Block}
use Rattle.rulebook.specs.declared.Cell.{Cell}
use Rattle.rulebook.specs.declared.CertificateKind.{CertificateKind}
use Rattle.rulebook.specs.declared.CertificateKind.TheVariants as certificate
use Rattle.rulebook.specs.Weights.{last_slot, slot_ok, weight}
use Rattle.rulebook.specs.Ledger.{Ledger, none, no_block, table_of, cell_at, blocks_at, is_free, has_number, some_block, is_block, keeps_block, kept_at, most_blocks, fresh}
use Rattle.rulebook.specs.Pool.{fifths_of, place_kind, serves_as, held}
use Rattle.rulebook.specs.Rules.{is_final}
use Rattle.rulebook.specs.Checker.{block_misfits}
use Rattle.rulebook.specs.WellFormed.{kept_in}
use Rattle.rule_laws.proofs.CertificateLaws.{serves_cases}
use Rattle.settling.specs.Facts.{Sound}
use Rattle.safety.specs.Slot.{notar}
use Rattle.safety.specs.Ballots.{has}
use Rattle.safety.specs.Grounds.{signs, Held, by_votes, by_kept, FinalIn, fast, slow, ancestor}
use Rattle.safety.proofs.Tests.{T_true, true_t, and_t, T_and, or_t, T-left, T-right, by_test}
use Rattle.safety.proofs.Cells.{notar_is}
use Rattle.safety.proofs.Weighing.{reaches_le, weight_zero}
use Rattle.safety.proofs.Lives.{life_ready, fresh_ready}
use Rattle.inquest.proofs.Records.{vote_slot, kept_slot, block_slot, certificates}
use Rattle.inquest.proofs.Standing.{Held-held}
use Rattle.readers.specs.Asked.{blocks_kept, kept_values}
use Rattle.soundness.proofs.Laws.{sound_ledger}
use Rattle.seen.specs.Seen.{Seen, ledger_in, Alive}
use Rattle.seen.proofs.Alive.{alive_common, alive_sound}
use Rattle.seen.proofs.Readers.{readers_tell}
use Rattle.seen.proofs.Grounded.{finals_grounded, clashes_grounded}
use Rattle.finals_seen.proofs.Finals.{proved}
use Rattle.told.proofs.Held.{some_fifths, right}
use Rattle.onlookers.specs.Grounded.{listed, ParentRead, ShownFinal, by_proof, as_parent, FinalsShown, ClashesShown}

-- ---- certificates for a block

-- Kinds 1 and 2: signed by notar votes, and for a block.
pub data ForBlock : CertificateKind → Type 0 where
  one : ForBlock certificate.FastFinal
  two : ForBlock certificate.Notar

signed_notar : (k : CertificateKind) → ForBlock k → (b : ℕ) (c : Cell) → T (signs k b c) → T (has c (notar b))
signed_notar k one b c t = or_t (has c (notar b)) (has c (notar b)) t (λ u. u) (λ u. u)
signed_notar k two b c t = or_t (has c (notar b)) (has c (notar b)) t (λ u. u) (λ u. u)

-- A place that serves as one of them has a block.
served_block : (j k : CertificateKind) → ForBlock k → (b : ℕ) → serves_as j k ≡ true → block_misfits j b ≡ false → none b ≡ false
unfolding block_misfits
served_block j k f b s m =
    serves_cases j k s
    (λ e. of_kind k f (subst (λ (x : CertificateKind). block_misfits x b ≡ false) e m))
    (λ e _. subst (λ (x : CertificateKind). block_misfits x b ≡ false) e m)
    (λ e _. subst (λ (x : CertificateKind). block_misfits x b ≡ false) e m)
    (λ e _. subst (λ (x : CertificateKind). block_misfits x b ≡ false) e m)
  where
    of_kind : (x : CertificateKind) → ForBlock x → block_misfits x b ≡ false → none b ≡ false
    of_kind x one z = z
    of_kind x two z = z

module _ (l : Ledger) (sound : Sound l) (some : 1 ≤ l.total) where
  -- One of kind 1 or 2 that is held is for a block of one of the slots 1 to 16.
  held_fits : (k : CertificateKind) → ForBlock k → (s b : ℕ) → Held l k s b → T (slot_ok s && not (none b))
  unfolding slot_ok
  held_fits k f s b (by_votes t) =
      by_test (slot_ok s && not (none b)) (λ u. u)
      (λ u.
      let unsigned : (n : ℕ) → T (not (signs k b (cell_at l s n))) =
      λ n. by_test (signs k b (cell_at l s n))
      (λ w. let h = signed_notar k f b (cell_at l s n) w in
      let r = vote_slot l sound s n (notar b) h in
      absurd (T_not (slot_ok s && not (none b)) u (T_and (slot_ok s) (not (none b)) (T_and (leb 1 s) (leb s last_slot) (le→leb 1 s r.0) (le→leb s last_slot r.1)) (notar_is (cell_at l s n) b h).0)))
      (λ w. w) in
      let nothing = weight_zero l.stakes l.count (λ n. signs k b (cell_at l s n)) (λ n _. unsigned n) in
      let enough = reaches_le (fifths_of k) l.total (weight l.stakes l.count (λ n. signs k b (cell_at l s n))) t in
      absurd (omega (arith, some_fifths k l.total some, nothing, enough)))
  held_fits k f s b (by_kept i t u e) =
      let r = kept_slot l sound s i t in
      let m = (right (table_of l) (place_kind i) (kept_in s (kept_at l s i)) (certificates l sound s i t)).2 in
      let nb = served_block (place_kind i) k f (kept_at l s i).block (T_true (serves_as (place_kind i) k) u) m in
      T_and (slot_ok s) (not (none b)) (T_and (leb 1 s) (leb s last_slot) (le→leb 1 s r.0) (le→leb s last_slot r.1))
      (true_t (not (none b)) (ap not (ap none (sym e) ∙ nb)))

-- ---- kept blocks

-- A block of the four is listed among their words.
four_listed : (ks : List Block) (b p x : ℕ) → length ks ≡ most_blocks → T (some_block (is_block b p x) ks)
    → T (listed (kept_values (record { first = get_or ks 0 no_block; second = get_or ks 1 no_block; third = get_or ks 2 no_block; fourth = get_or ks 3 no_block })) b p x)
unfolding listed some_block is_block
four_listed [] b p x e t = absurd t
four_listed (k ∷ []) b p x e t = absurd (omega (arith, e))
four_listed (k ∷ j ∷ []) b p x e t = absurd (omega (arith, e))
four_listed (k ∷ j ∷ i ∷ []) b p x e t = absurd (omega (arith, e))
four_listed (k ∷ j ∷ i ∷ h ∷ []) b p x e t =
    or_t (is_block b p x k) _ t (λ u. T-left (is k) _ (there k u))
    (λ u. T-right (is k) _ (or_t (is_block b p x j) _ u (λ w. T-left (is j) _ (there j w))
    (λ w. T-right (is j) _ (or_t (is_block b p x i) _ w (λ y. T-left (is i) _ (there i y))
    (λ y. T-right (is i) _ (or_t (is_block b p x h) false y (λ z. T-left (is h) false (there h z)) (λ z. absurd z)))))))
  where
    is : Block → Bool
    is y = eqb y.number b && (eqb y.parentslot.0 p && eqb y.parent x)

    there : (y : Block) → T (is_block b p x y) → T (is y)
    there y u = (and_t (not (is_free y)) (has_number b y && (eqb y.parentslot.0 p && eqb y.parent x)) u).1
four_listed (k ∷ j ∷ i ∷ h ∷ g ∷ ks) b p x e t = absurd (omega (arith, e))

-- ---- a life

module _ (stakes : List ℕ) (genesis : ℕ) (v : Seen) (alive : Alive stakes genesis v) where
  abbrev l : Ledger
  l = ledger_in v

  sound : Sound l
  sound = sound_ledger v.words (alive_sound alive)

  some : 1 ≤ l.total
  some =
      let c = alive_common alive in
      subst (λ (m : Ledger). 1 ≤ m.total) (sym c.lived.ledger)
      (life_ready c.own (fresh stakes c.own genesis) v.came (fresh_ready stakes c.own genesis c.size)).inv.some

  -- What is final by certificates is proved.
  shown : (k : CertificateKind) → ForBlock k → (s b : ℕ) → Held l k s b → T (is_final l s b) → ShownFinal stakes v s b
  unfolding slot_ok
  shown k f s b h fin =
      let r = and_t (slot_ok s) (not (none b)) (held_fits l sound some k f s b h) in
      let q = and_t (leb 1 s) (leb s last_slot) r.0 in
      by_proof (proved stakes genesis v alive s b (leb→le 1 s q.0) (leb→le s last_slot q.1) r.1 fin)

  -- A kept block is read with its parent.
  parent_read : (s b p x : ℕ) → T (keeps_block l s b p x) → ParentRead v s b p x
  unfolding keeps_block blocks_kept slot_ok
  parent_read s b p x t number values r =
      let w = block_slot l sound s b p x t in
      let a = (readers_tell stakes genesis v alive).blocks s number values r (T_true _ (T_and (leb 1 s) (leb s last_slot) (le→leb 1 s w.0) (le→leb s last_slot w.1))) in
      (a.0, subst (λ (ws : List ℕ). T (listed ws b p x)) (sym a.1) (four_listed (blocks_at l s) b p x (sound.shaped.blocks s (omega (arith, w.1))) t))

  final_shown : {s b : ℕ} → FinalIn l s b → ShownFinal stakes v s b
  unfolding is_final
  final_shown {s} {b} (fast h) =
      shown certificate.FastFinal one s b h (T-left (held l certificate.FastFinal s b) _ (Held-held l certificate.FastFinal s b h))
  final_shown {s} {b} (slow h g) =
      shown certificate.Notar two s b h
      (T-right (held l certificate.FastFinal s b) (held l certificate.Notar s b && held l certificate.Final s 0)
      (T_and (held l certificate.Notar s b) (held l certificate.Final s 0) (Held-held l certificate.Notar s b h) (Held-held l certificate.Final s 0 g)))
  final_shown (ancestor {s} {b} {p} {x} h t) = as_parent (final_shown h) (parent_read s b p x t)

pub finals_shown : FinalsShown
finals_shown stakes genesis v alive s b t = final_shown stakes genesis v alive (finals_grounded stakes genesis v alive s b t)

pub clashes_shown : ClashesShown
clashes_shown stakes genesis v alive s b t =
    let c = clashes_grounded stakes genesis v alive s b t in
    record { other = c.other; differs = c.differs; old = final_shown stakes genesis v alive c.old; newcomer = final_shown stakes genesis v alive c.newcomer }
