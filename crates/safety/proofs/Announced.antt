-- What comes beside the votes: nothing, a final block, a block in the first free place of its slot, or a certificate in the first free place
-- for its kind.
use Rattle.std.specs.Prelude.{Ok}
use mathlib.Core.Path.{◌≡◌, refl, sym, ap, ◌∙◌, subst}
use mathlib.Core.Bool.{Bool, true, false, not, ◌&&◌, ◌||◌}
use mathlib.Core.List.{List, [], ◌∷◌}
use mathlib.Core.Logic.{◌⊎◌, inl, inr, ⊎_elim}
use Prim.Native.Nat.{ℕ, suc, ◌+◌, ◌<◌}
use native.Mathlib.Decide.{ℕ_discrete}
use native.Mathlib.Omega.{arith}
use lib.ListN.{get_or}
use lib.Dec.{T, eqb, eqb→eq, T_not}
use Rattle.rulebook.specs.declared.Block.{Block}
use Rattle.rulebook.specs.declared.CertificateKind.{CertificateKind}
use Rattle.rulebook.specs.Certificates.{Certificate, Kept}
use Rattle.rulebook.specs.PaperNumbers.{kind_in}
use Rattle.rulebook.specs.Tools.{choose}
use Rattle.rulebook.specs.Weights.{last_slot}
use Rattle.rulebook.specs.Ledger.{Ledger, Row, none, no_kept, table_of, row_at, some_block, is_free, has_number, fill_block, is_block, keeps_block, certificates_at, kept_at, is_kept, put_row, put_final}
use Rattle.rulebook.specs.Pool.{place_kind}
use Rattle.rulebook.specs.Rules.{Record, State, state_of, record_of, report}
use Rattle.rulebook.specs.Checker.{judge_kind}
use Rattle.rulebook.specs.Taking.{fill_kept, kept_of, Arrival}
use Rattle.rulebook.specs.WellFormed.{Shaped}
use Rattle.rule_laws.proofs.CertificateLaws.{same_kind_lem, fill_at}
use Rattle.safety.specs.Ballots.{same_record, among, announces, Hands}
use Rattle.safety.specs.Grounds.{FinalIn, Behind}
use Rattle.safety.specs.Moves.{SameRest, Handed, Onward}
use Rattle.safety.proofs.Tests.{and_t, or_t, T-left, T-right}
use Rattle.safety.proofs.Growing.{rest_blocks, rest_blocks_back, rest_kept}
use Rattle.safety.proofs.Stores.{row_part, row_here, row_there}

-- ---- nothing

-- Records with one more, which has something behind it.
pub one_more : (l : Ledger) (k s b : ℕ) (rs : List Record) → Behind l (record_of k s b) → (r : Record) → T (among (record_of k s b ∷ rs) r) → (T (among rs r)) ⊎ Behind l r
one_more l k s b rs h r t =
    or_t (same_record (record_of k s b) r) (among rs r) t
    (λ u.
    let a = and_t (eqb k r.kind) (eqb s r.slot && eqb b r.block) u in
    let c = and_t (eqb s r.slot) (eqb b r.block) a.1 in
    inr (subst (λ (x : ℕ). Behind l (record_of x r.slot r.block)) (eqb→eq k r.kind a.0)
    (subst (λ (x : ℕ). Behind l (record_of k x r.block)) (eqb→eq s r.slot c.0)
    (subst (λ (x : ℕ). Behind l (record_of k s x)) (eqb→eq b r.block c.1) h)))) (λ u. inl u)

-- The rows stay but for their cells and marks.
pub rest_onward : (i : Arrival) (o : State) (l : Ledger) (rs : List Record) → ((s : ℕ) → SameRest (row_at o.ledger s) (row_at l s))
    → ((r : Record) → T (among rs r) → (T (among o.records r)) ⊎ Behind o.ledger r) → Onward i o (state_of l rs)
rest_onward i o l rs rest told =
    record {
      blocks = rest_blocks o.ledger l rest;
      new_blocks = λ s b q x t. inl (rest_blocks_back o.ledger l rest s b q x t);
      certificates = λ s j t. rest_kept o.ledger l rest s j;
      new_certificates = λ s j. inl (rest_kept o.ledger l rest s j);
      new_final = λ s. inl (rest s).final;
      new_records = told;
    }

-- Another row with the same blocks, certificates and final block.
pub row_rest : {most : ℕ} (l : Ledger) (s : ℕ) (r : Row) → s < suc last_slot → Shaped most l → SameRest (row_at l s) r → (s' : ℕ) → SameRest (row_at l s') (row_at (put_row l s r) s')
row_rest l s r h sh e s' =
    record {
      blocks = row_part (λ r. r.blocks) l s r h sh e.blocks s';
      certificates = row_part (λ r. r.certificates) l s r h sh e.certificates s';
      final = row_part (λ r. r.final) l s r h sh e.final s';
    }

-- Another row with the same certificates.
row_kept : {most : ℕ} (l : Ledger) (s : ℕ) (r : Row) → s < suc last_slot → Shaped most l → r.certificates ≡ (row_at l s).certificates → (s' j : ℕ) → kept_at (put_row l s r) s' j ≡ kept_at l s' j
row_kept l s r h sh e s' j = ap (λ (qs : List Kept). get_or qs j no_kept) (row_part (λ r. r.certificates) l s r h sh e s')

-- ---- a final block

-- Slot s gets the final block b, with what stands behind it.
pub final_onward : {most : ℕ} (i : Arrival) (o : State) (s b : ℕ) → s < suc last_slot → Shaped most o.ledger → FinalIn o.ledger s b
    → Onward i o (report o (put_final o.ledger s b) 6 s b)
unfolding keeps_block
final_onward i o s b h sh m =
    let l = o.ledger in
    let kept : (s' : ℕ) → (row_at (put_final l s b) s').blocks ≡ (row_at l s').blocks = λ s'. row_part (λ r. r.blocks) l s _ h sh refl s' in
    record {
      blocks = λ s' c q x t. subst (λ (ks : List Block). T (some_block (is_block c q x) ks)) (sym (kept s')) t;
      new_blocks = λ s' c q x t. inl (subst (λ (ks : List Block). T (some_block (is_block c q x) ks)) (kept s') t);
      certificates = λ s' j t. row_kept l s _ h sh refl s' j;
      new_certificates = λ s' j. inl (row_kept l s _ h sh refl s' j);
      new_final = λ s'. elim (ℕ_discrete s' s) [
        | yes e ↦ inr (subst (λ (k : ℕ). FinalIn l k (row_at (put_final l s b) k).final) (sym e)
            (subst (λ (f : ℕ). FinalIn l s f) (sym (ap (λ (r : Row). r.final) (row_here l s _ h sh))) m))
        | no ne ↦ inl (ap (λ (r : Row). r.final) (row_there l s _ s' ne))
      ];
      new_records = one_more l 6 s b o.records (record { final = λ _. m; clash = λ e. absurd (omega (arith, e)) });
    }

-- ---- a block in the first free place

module _ (b q x : ℕ) (k : Block) where
  abbrev is_it : Block → Bool
  is_it = is_block b q x

  -- What was kept stays.
  fill_up : (bs : List Block) → T (some_block is_it bs) → T (some_block is_it (fill_block k bs))
  unfolding fill_block choose some_block is_block
  fill_up [] t = absurd t
  fill_up (c ∷ cs) t = go (is_free c) refl (fill_up cs)
    where
      go : (z : Bool) → is_free c ≡ z → (T (some_block is_it cs) → T (some_block is_it (fill_block k cs))) → T (some_block is_it (choose z (k ∷ cs) (c ∷ fill_block k cs)))
      go true e ih =
          or_t (is_it c) (some_block is_it cs) t
          (λ u. absurd (T_not (is_free c) (and_t (not (is_free c)) _ u).0 (rw e tt)))
          (λ u. T-right (is_it k) (some_block is_it cs) u)
      go false e ih =
          or_t (is_it c) (some_block is_it cs) t
          (λ u. T-left (is_it c) (some_block is_it (fill_block k cs)) u)
          (λ u. T-right (is_it c) (some_block is_it (fill_block k cs)) (ih u))

  -- What is kept was kept, or is the new one.
  fill_down : (bs : List Block) → T (some_block is_it (fill_block k bs)) → (T (some_block is_it bs)) ⊎ (T (is_it k))
  unfolding fill_block choose some_block
  fill_down [] t = absurd t
  fill_down (c ∷ cs) t = go (is_free c) t (fill_down cs)
    where
      go : (z : Bool) → T (some_block is_it (choose z (k ∷ cs) (c ∷ fill_block k cs))) → (T (some_block is_it (fill_block k cs)) → (T (some_block is_it cs)) ⊎ (T (is_it k)))
          → (T (is_it c || some_block is_it cs)) ⊎ (T (is_it k))
      go true u ih =
          or_t (is_it k) (some_block is_it cs) u (λ w. inr w) (λ w. inl (T-right (is_it c) (some_block is_it cs) w))
      go false u ih =
          or_t (is_it c) (some_block is_it (fill_block k cs)) u
          (λ w. inl (T-left (is_it c) (some_block is_it cs) w))
          (λ w. ⊎_elim (λ y. inl (T-right (is_it c) (some_block is_it cs) y)) (λ y. inr y) (ih w))

-- A block that the tests let pass has a parent in a lower slot, with a number.
pub record Announced (s : ℕ) (b : Block) : Type 0 where
  pub slot : s < suc last_slot
  pub parent : T (not (none b.parent))
  pub lower : b.parentslot.0 < s

is_parts : (b q x : ℕ) (k : Block) → T (is_block b q x k) → (q ≡ k.parentslot.0) × (x ≡ k.parent)
unfolding is_block
is_parts b q x k t =
    let a = and_t (not (is_free k)) (has_number b k && (eqb k.parentslot.0 q && eqb k.parent x)) t in
    let c = and_t (has_number b k) (eqb k.parentslot.0 q && eqb k.parent x) a.1 in
    let d = and_t (eqb k.parentslot.0 q) (eqb k.parent x) c.1 in
    (sym (eqb→eq k.parentslot.0 q d.0), sym (eqb→eq k.parent x d.1))

-- Row s takes the block that the input announces.
module _ {most : ℕ} (i : Arrival) (l : Ledger) (s : ℕ) (k : Block) (a : Announced s k) (sh : Shaped most l) (say : (b q x : ℕ) → T (is_block b q x k) → T (announces i s b q x)) where
  -- It is announced with a parent that has a number in a lower slot.
  new_block : (s' b q x : ℕ) → s' ≡ s → T (is_block b q x k) → (q < s') × T (not (none x)) × T (announces i s' b q x)
  new_block s' b q x e t =
      let p = is_parts b q x k t in
      subst (λ (j : ℕ). (q < j) × T (not (none x)) × T (announces i j b q x)) (sym e) (rw p.0 a.lower, rw p.1 a.parent, say b q x t)

  pub block_onward : (r : Row) → r.blocks ≡ fill_block k (row_at l s).blocks → r.certificates ≡ (row_at l s).certificates → r.final ≡ (row_at l s).final → Onward i (state_of l []) (state_of (put_row l s r) [])
  unfolding keeps_block
  block_onward r f kept same =
      let here = row_here l s r a.slot sh in
      record {
        blocks = λ s' b q x t. elim (ℕ_discrete s' s) [
          | yes e ↦ subst (λ (j : ℕ). T (keeps_block (put_row l s r) j b q x)) (sym e)
              (subst (λ (z : Row). T (some_block (is_block b q x) z.blocks)) (sym here)
              (subst (λ (z : List Block). T (some_block (is_block b q x) z)) (sym f) (fill_up b q x k (row_at l s).blocks (subst (λ (j : ℕ). T (keeps_block l j b q x)) e t))))
          | no ne ↦ subst (λ (z : Row). T (some_block (is_block b q x) z.blocks)) (sym (row_there l s r s' ne)) t
        ];
        new_blocks = λ s' b q x t. elim (ℕ_discrete s' s) [
          | yes e ↦ ⊎_elim (λ u. inl (subst (λ (j : ℕ). T (keeps_block l j b q x)) (sym e) u)) (λ u. inr (new_block s' b q x e u))
              (fill_down b q x k (row_at l s).blocks (subst (λ (z : List Block). T (some_block (is_block b q x) z)) f
              (subst (λ (z : Row). T (some_block (is_block b q x) z.blocks)) here (subst (λ (j : ℕ). T (keeps_block (put_row l s r) j b q x)) e t))))
          | no ne ↦ inl (subst (λ (z : Row). T (some_block (is_block b q x) z.blocks)) (row_there l s r s' ne) t)
        ];
        certificates = λ s' j t. row_kept l s r a.slot sh kept s' j;
        new_certificates = λ s' j. inl (row_kept l s r a.slot sh kept s' j);
        new_final = λ s'. inl (row_part (λ r. r.final) l s r a.slot sh same s');
        new_records = λ r t. absurd t;
      }

-- ---- a certificate in the first free place for its kind

-- The row of its slot takes the certificate that arrives.
module _ {most : ℕ} (i : Arrival) (l : Ledger) (c : Certificate) (slot : c.slot < suc last_slot) (sh : Shaped most l) (arrived : Hands i c)
    (fine : judge_kind (table_of l) (kind_in l.count c.kind) c ≡ Ok tt) where
  abbrev kind : CertificateKind
  kind = kind_in l.count c.kind

  abbrev filled : List Kept
  filled = fill_kept kind 0 (kept_of c) (certificates_at l c.slot)

  -- A place of its slot: as it was, or it kept nothing and has the certificate.
  place_cases : {X : Type 0} (j : ℕ) → (get_or filled j no_kept ≡ kept_at l c.slot j → X) → (is_kept (kept_at l c.slot j) ≡ false → Handed i l c.slot j (get_or filled j no_kept) → X) → X
  place_cases j f g =
      fill_at kind 0 (kept_of c) (certificates_at l c.slot) j f
      (λ e hollow s.
      let k : place_kind j ≡ kind = subst (λ (n : ℕ). place_kind n ≡ kind) (omega arith) (same_kind_lem (place_kind (0 + j)) kind s) in
      g hollow (record {
        certificate = c;
        arrived = arrived;
        slot = refl;
        kind = sym k;
        judged = subst (λ (x : CertificateKind). judge_kind (table_of l) x c ≡ Ok tt) (sym k) fine;
        is = e;
      }))

  pub certificate_onward : (r : Row) → r.blocks ≡ (row_at l c.slot).blocks → r.certificates ≡ filled → r.final ≡ (row_at l c.slot).final
      → Onward i (state_of l []) (state_of (put_row l c.slot r) [])
  unfolding keeps_block
  certificate_onward r bs f same =
      let s : ℕ = c.slot in
      let m : Ledger = put_row l s r in
      let blocks : (s' : ℕ) → (row_at m s').blocks ≡ (row_at l s').blocks = λ s'. row_part (λ r. r.blocks) l s r slot sh bs s' in
      let here : (j : ℕ) → kept_at m s j ≡ get_or filled j no_kept = λ j. ap (λ (x : Row). get_or x.certificates j no_kept) (row_here l s r slot sh) ∙ ap (λ (qs : List Kept). get_or qs j no_kept) f in
      let there : (s' j : ℕ) → ¬ (s' ≡ s) → kept_at m s' j ≡ kept_at l s' j = λ s' j ne. ap (λ (x : Row). get_or x.certificates j no_kept) (row_there l s r s' ne) in
      record {
        blocks = λ s' b q x t. subst (λ (ks : List Block). T (some_block (is_block b q x) ks)) (sym (blocks s')) t;
        new_blocks = λ s' b q x t. inl (subst (λ (ks : List Block). T (some_block (is_block b q x) ks)) (blocks s') t);
        certificates = λ s' j t. elim (ℕ_discrete s' s) [
          | yes e ↦ subst (λ (k : ℕ). T (is_kept (kept_at l k j)) → kept_at m k j ≡ kept_at l k j) (sym e)
              (λ u. place_cases j (λ q. here j ∙ q) (λ hollow q. absurd (rw hollow at u))) t
          | no ne ↦ there s' j ne
        ];
        new_certificates = λ s' j. elim (ℕ_discrete s' s) [
          | yes e ↦ subst (λ (k : ℕ). (kept_at m k j ≡ kept_at l k j) ⊎ Handed i l k j (kept_at m k j)) (sym e)
              (place_cases j (λ q. inl (here j ∙ q)) (λ hollow q. inr (subst (Handed i l s j) (sym (here j)) q)))
          | no ne ↦ inl (there s' j ne)
        ];
        new_final = λ s'. inl (row_part (λ r. r.final) l s r slot sh same s');
        new_records = λ r t. absurd t;
      }
