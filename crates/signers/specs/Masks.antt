-- The two masks of a certificate as one test, and what building them asks of a caller.
use Rattle.std.specs.Prelude.{◌≡◌, Bool, List, ℕ, suc, ◌*◌, ◌≤◌, ◌<◌, length}
use Rattle.rulebook.specs.declared.Cell.{Cell}
use Rattle.rulebook.specs.declared.CertificateKind.{CertificateKind}
use Rattle.rulebook.specs.Weights.{most_nodes, last_slot}
use Rattle.rulebook.specs.Ledger.{places}
use Rattle.rulebook.specs.Writers.{in_a, in_b}
use Rattle.record.specs.Layout.{Long, ledger_of}
use Rattle.signers.specs.declared.Mask.{Mask}
use Rattle.signers.specs.declared.Mask.TheVariants as mask

-- The mask names the node of this cell.
unfoldable pub in_mask : Mask → CertificateKind → ℕ → Cell → Bool
in_mask mask.A k b c = in_a k b c
in_mask mask.B k b c = in_b k b c

-- The words are as many as they should be, the slot has a row, and so many nodes have a place.
pub record Signing (ws : List ℕ) (nodes s : ℕ) : Type 0 where
  pub long : Long ws
  pub slot : s < suc last_slot
  pub few : nodes ≤ most_nodes
  pub placed : nodes ≤ places (ledger_of ws)

-- A mask has words for so many nodes, and no more of them than there can be nodes.
pub record Wide (nodes : ℕ) (mask : List ℕ) : Type 0 where
  pub long : nodes ≤ 64 * length mask
  pub few : length mask ≤ most_nodes

-- Both for all nodes that the record counts.
pub record Naming (ws : List ℕ) (s : ℕ) (a b : List ℕ) : Type 0 where
  pub long : Long ws
  pub slot : s < suc last_slot
  pub few : (ledger_of ws).count ≤ most_nodes
  pub placed : (ledger_of ws).count ≤ places (ledger_of ws)
  pub wide_a : Wide (ledger_of ws).count a
  pub wide_b : Wide (ledger_of ws).count b
