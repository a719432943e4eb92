-- What stands behind a node's own votes besides their guards in the slot, and behind its final blocks: certificates held, kept blocks with
-- their parents. All of it only grows truer, so that the node's end tells what held when it voted.
use Rattle.std.specs.Prelude.{◌≡◌, Bool, not, ◌&&◌, ◌||◌, ℕ, zero, suc, ◌<◌, T}
use Rattle.rulebook.specs.declared.Cell.{Cell}
use Rattle.rulebook.specs.declared.CertificateKind.{CertificateKind}
use Rattle.rulebook.specs.declared.CertificateKind.TheVariants as certificate
use Rattle.rulebook.specs.Weights.{weight, reaches, d_weights, is_first}
use Rattle.rulebook.specs.Ledger.{Ledger, none, no_initial, cell_at, keeps_block, kept_at, is_kept}
use Rattle.rulebook.specs.Pool.{fifths_of, place_kind, serves_as}
use Rattle.rulebook.specs.Rules.{Record}
use Rattle.safety.specs.Slot.{Ballot, notar, notar_fallback, skip, skip_fallback, final}
use Rattle.safety.specs.Ballots.{has}
use Rattle.safety.specs.Ring.{ballot_a, ballot_b}

-- The cell has a ballot that counts for a certificate of kind k for block b.
abbrev pub signs : CertificateKind → ℕ → Cell → Bool
signs k b c = has c (ballot_a k b) || has c (ballot_b k b)

-- A certificate is held: reached by stored votes, or kept, where a kept one serves.
pub data Held (l : Ledger) (k : CertificateKind) (s b : ℕ) : Type 0 where
  by_votes : T (reaches (fifths_of k) l.total (weight l.stakes l.count (λ n. signs k b (cell_at l s n)))) → Held l k s b
  by_kept : (i : ℕ) → T (is_kept (kept_at l s i)) → T (serves_as (place_kind i) k) → (kept_at l s i).block ≡ b → Held l k s b

-- Genesis, or a block that holds kind 3.
abbrev pub BackedAt : Ledger → ℕ → ℕ → Type 0
BackedAt l zero x = x ≡ l.genesis
BackedAt l (suc p) x = Held l certificate.NotarFallback (suc p) x

-- Rule B in a first slot: the kept block's parent is ready.
pub record ReadyParent (l : Ledger) (s b : ℕ) : Type 0 where
  pub slot : ℕ
  pub parent : ℕ
  pub kept : T (keeps_block l s b slot parent)
  pub backed : BackedAt l slot parent
  pub between : (t : ℕ) → slot < t → t < s → Held l certificate.Skip t 0

-- Rule B elsewhere: the own initial vote in the slot before is for the kept block's parent.
pub record VotedParent (me : ℕ) (l : Ledger) (s b : ℕ) : Type 0 where
  pub slot : ℕ
  pub parent : ℕ
  pub kept : T (keeps_block l s b slot parent)
  pub before : suc slot ≡ s
  pub voted : T (has (cell_at l slot me) (notar parent))

-- Rule D outside first slots: the block is kept, and its parent holds kind 3.
pub record HeldParent (l : Ledger) (s b : ℕ) : Type 0 where
  pub slot : ℕ
  pub parent : ℕ
  pub kept : T (keeps_block l s b slot parent)
  pub backed : Held l certificate.NotarFallback slot parent

-- Rule B: what stands behind a notar vote.
pub record NotarGrounds (me : ℕ) (l : Ledger) (s b : ℕ) : Type 0 where
  pub first : T (is_first s) → ReadyParent l s b
  pub next : T (not (is_first s)) → VotedParent me l s b

-- The weight of a ballot in slot s, over stored ballots.
abbrev pub weight_of : Ledger → ℕ → Ballot → ℕ
weight_of l s v = weight l.stakes l.count (λ n. has (cell_at l s n) v)

-- Rule D: what stands behind a notar-fallback vote: an own initial vote that is not for the block; its weights, a fifth of notar votes for
-- the block in any case.
pub record FallbackGrounds (me : ℕ) (l : Ledger) (s b : ℕ) : Type 0 where
  pub before : T (not (no_initial (cell_at l s me)) && not (has (cell_at l s me) (notar b)))
  pub seen : T (reaches 1 l.total (weight_of l s (notar b)))
  pub weights : T (d_weights l.total (weight_of l s (notar b)) (weight_of l s skip))
  pub next : T (not (is_first s)) → HeldParent l s b

-- Behind each ballot.
abbrev pub Grounds : ℕ → Ledger → ℕ → Ballot → Type 0
Grounds me l s (notar b) = NotarGrounds me l s b
Grounds me l s (notar_fallback b) = FallbackGrounds me l s b
Grounds me l s skip = Unit {0}
Grounds me l s skip_fallback = T (not (none (cell_at l s me).notar))
Grounds me l s final = Unit {0}

-- Block b of slot s is final: by certificates, or as the parent of a final block that is kept with it.
pub data FinalIn (l : Ledger) : ℕ → ℕ → Type 0 where
  fast : {s b : ℕ} → Held l certificate.FastFinal s b → FinalIn l s b
  slow : {s b : ℕ} → Held l certificate.Notar s b → Held l certificate.Final s 0 → FinalIn l s b
  ancestor : {s b p x : ℕ} → FinalIn l s b → T (keeps_block l s b p x) → FinalIn l p x

-- Block b of slot s is final, and another block of that slot too.
pub record ClashIn (l : Ledger) (s b : ℕ) : Type 0 where
  pub other : ℕ
  pub differs : ¬ (other ≡ b)
  pub old : FinalIn l s other
  pub newcomer : FinalIn l s b

-- What stands behind a record that is no vote.
pub record Behind (l : Ledger) (r : Record) : Type 0 where
  pub final : r.kind ≡ 6 → FinalIn l r.slot r.block
  pub clash : r.kind ≡ 8 → ClashIn l r.slot r.block
