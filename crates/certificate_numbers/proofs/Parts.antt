-- A certificate's heading and the words of its masks, written one after the other, are its bytes. Assumes nothing.
use mathlib.Core.Path.{◌≡◌, subst}
use mathlib.Core.List.{List, ◌++◌, append_assoc}
use Prim.Native.Nat.{ℕ, ◌+◌, ◌≤◌}
use native.Mathlib.Omega.{arith}
use lib.ListN.{length, length-append}
use Rattle.rulebook.specs.declared.Heading.{Heading}
use Rattle.rulebook.specs.Packets.{number_bytes, mask_bytes, joined, certificate_of, certificate_bytes}
use Rattle.rule_laws.proofs.NumberLaws.{certificate_length}
use Rattle.numbers.specs.Written.{Written}
use Rattle.numbers.proofs.Stores.{after}
use Rattle.certificate_numbers.specs.Told.{Masks}

module _ (h : Heading) (a b : List ℕ) (m : Masks h a b) where
  -- How long it is, by the words that are lent.
  pub parts_long : length (certificate_bytes (certificate_of h a b)) ≡ length (number_bytes h.kind) + length (number_bytes h.slot.0) + length (number_bytes h.block)
      + length (mask_bytes (length a) (joined a)) + length (mask_bytes (length b) (joined b))
  parts_long = rw (m.long_a, m.long_b) (certificate_length (certificate_of h a b))

  pub parts : {l l1 l2 l3 l4 l5 : List ℕ} {at p q r t n : ℕ} → at + length (certificate_bytes (certificate_of h a b)) ≤ length l
      → Written l at (number_bytes h.kind) l1 p → Written l1 p (number_bytes h.slot.0) l2 q → Written l2 q (number_bytes h.block) l3 r
      → Written l3 r (mask_bytes (length a) (joined a)) l4 t → Written l4 t (mask_bytes (length b) (joined b)) l5 n
      → Written l at (certificate_bytes (certificate_of h a b)) l5 n
  unfolding certificate_bytes
  parts {l} {l5 = l5} {at} {n = n} room w1 w2 w3 w4 w5 =
      let k = number_bytes h.kind in
      let s = number_bytes h.slot.0 in
      let d = number_bytes h.block in
      let x = mask_bytes (length a) (joined a) in
      let y = mask_bytes (length b) (joined b) in
      let e2 = length-append k s in
      let e3 = length-append (k ++ s) d in
      let e4 = length-append (k ++ s ++ d) x in
      let e5 = length-append (k ++ s ++ d ++ x) y in
      let all = parts_long in
      let e : k ++ s ++ d ++ x ++ y ≡ certificate_bytes (certificate_of h a b) = rw (m.long_a, m.long_b) (simp append_assoc) in
      subst (λ (z : List ℕ). Written l at z l5 n) e
      (after (omega arith) (after (omega arith) (after (omega arith) (after (omega arith) w1 w2) w3) w4) w5)
