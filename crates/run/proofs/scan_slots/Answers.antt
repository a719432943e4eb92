-- The two loops: the memory holds the state of the start while what was tried does not apply; left by label at the first rule that does.
use mathlib.Core.Path.{◌∙◌, refl, sym}
use Prim.Native.Nat.{◌-◌}
use native.Mathlib.Omega.{arith}
use Rattle.fallbacks.proofs.UnderLaws.{under_carded}
use Rattle.run.proofs.ScanLaws.{trying_asked, trying_more, trying_found, trying_end, dormant_passes, bounds_still, searching_start, searching_more, searching_found, searching_end, under_way, under_way_at, still_walked}
use Rattle.run.proofs.scan_slots.Goals as goal

pub scan-init : goal.scan-init
scan-init c = searching_start c.requires.0.live

pub is_dormant-requires : goal.is_dormant-requires
is_dormant-requires c =
    let h = c.scan.invariant in
    under_carded (under_way_at (under_way c.requires.0.table h.held) h.low (omega arith))

pub scan-smaller-then-is_dormant : goal.scan-smaller-then-is_dormant
scan-smaller-then-is_dormant c = omega arith

pub scan-preserved-then-is_dormant : goal.scan-preserved-then-is_dormant
scan-preserved-then-is_dormant c =
    let h = c.scan.invariant in
    let under = under_way_at (under_way c.requires.0.table h.held) h.low (omega arith) in
    searching_more h (omega arith) (dormant_passes under c.args.looks.now (bounds_still h.held c.args.looks.now c.requires.1) _ c.is_dormant.ensures c.if-is_dormant.true) c.requires.0.live refl h.still

pub first_asked-r-requires : goal.first_asked-r-requires
first_asked-r-requires c =
    let h = c.scan.invariant in
    under_carded (under_way_at (under_way c.requires.0.table h.held) h.low (omega arith))

pub loop-r-init : goal.loop-r-init
loop-r-init c =
    let h = c.scan.invariant in
    let under = under_way_at (under_way c.requires.0.table h.held) h.low (omega arith) in
    trying_asked under c.args.looks.now (bounds_still h.held c.args.looks.now c.requires.1) _ c.first_asked-r.ensures

pub rule-made-requires : goal.rule-made-requires
rule-made-requires c =
    let h = c.scan.invariant in
    let t = c.loop-r.invariant.going.held in
    record {
      under = under_way_at (under_way (under_way c.requires.0.table h.held).table t) h.low (omega arith);
      walked = still_walked _ _ _ (t.moved.is ∙ h.held.moved.is) h.walked;
    }

pub loop-r-smaller : goal.loop-r-smaller
loop-r-smaller c = omega arith

pub loop-r-preserved : goal.loop-r-preserved
loop-r-preserved c =
    let h = c.scan.invariant in
    let q = c.rule-made in
    trying_more c.loop-r.invariant (omega arith) q.ensures (record { live = h.held.live; low = h.low; high = omega arith }) q.auto.outbox (c.if-made-at.false ∙ sym h.still)

pub scan-smaller : goal.scan-smaller
scan-smaller c = omega arith

pub scan-preserved : goal.scan-preserved
scan-preserved c =
    let h = c.scan.invariant in
    let t = c.loop-r.invariant in
    searching_more h (omega arith) (trying_end t (omega arith)) c.requires.0.live t.kept (t.going.still ∙ h.still)

pub returns-after-scan : goal.returns-after-scan
returns-after-scan c = searching_end c.scan.invariant (omega arith)

pub returns-then-made-at : goal.returns-then-made-at
returns-then-made-at c =
    let h = c.scan.invariant in
    searching_found h (omega arith) (trying_found c.loop-r.invariant (omega arith) c.rule-made.ensures (λ e. c.if-made-at.true (e ∙ h.still))) c.if-made-at.true
