-- The written rules meet the interface of many slots, and so the promises of one chain hold.
use Rattle.std.specs.Prelude.{Ok}
use mathlib.Core.Path.{◌≡◌, refl, sym, ◌∙◌, subst}
use mathlib.Core.Bool.{Bool}
use mathlib.Core.List.{List}
use Prim.Native.Nat.{ℕ, zero, suc}
use native.Mathlib.Omega.{arith}
use lib.Dec.{T}
use lib.ListN.{length}
use Rattle.rulebook.specs.declared.CertificateKind.{CertificateKind}
use Rattle.rulebook.specs.declared.CertificateKind.TheVariants as certificate
use Rattle.rulebook.specs.Ledger.{Ledger, fresh, row_at, cell_at, keeps_block, kept_at}
use Rattle.rulebook.specs.PaperNumbers.{certificate_number}
use Rattle.rulebook.specs.Pool.{fifths_of, place_kind, same_kind, serves_as}
use Rattle.rulebook.specs.Checker.{judge_kind}
use Rattle.rulebook.specs.Taking.{Arrival}
use Rattle.rulebook.specs.WellFormed.{kept_in}
use Rattle.rulebook.specs.Writers.{write_proof}
use Rattle.rule_laws.proofs.AcceptedLaws.{accepted_single, accepted_proof}
use Rattle.safety.specs.Slot.{Test, Ballot, notar, notar_fallback, final, Final, fast, slow}
use Rattle.safety.specs.Ballots.{has}
use Rattle.safety.specs.Grounds as grounds
use Rattle.safety.specs.Grounds.{signs, Held, by_votes, by_kept, BackedAt, FinalIn, ancestor}
use Rattle.safety.specs.Moves.{SameTable}
use Rattle.safety.specs.Ring.{after_all, life, Ring, ballot_a, ballot_b}
use Rattle.safety.proofs.Tests.{T_true, or_t, T-left, T-right}
use Rattle.safety.proofs.Safety.{as_table, judge_says, end_ready, end_table, end_stakes, own_stored, counted, Checked, checked as checked-by, Signed, either_one, checked_signed, serve_signed, two_quorum, lawful, final_of}
use Rattle.safety.proofs.Packets.{found_proof, slot_of, block_of, kind_of_lem}
use Rattle.safety.proofs.Promises.{mail_is_enough, finals_grounded, clashes_grounded, kept_blocks_announced}
use Rattle.safety.proofs.Written.{written_proof_accepted}
use Rattle.safety.proofs.Honest.{written_proof_genuine}
use Rattle.chain.specs.Chain.{Link, itself, child, Certified, Skipped, Backed, Rooted}
use Rattle.chain.specs.OneChain.{kept_by, Observer, ByCertificates, proved, held_fast, held_slow, Settled, certified, reported, seen, HasCertificate, checked, held, OneParent, OnOneChain, ProofsChained, HonestProofsChained, SettledChained, SettledOnce, FinalMarksAgree, CertificatesDescend, NoClash, NoClashSeen, HonestObserve, NumbersAreEnough, AnnouncedIsEnough, ArrivalsAreEnough}
use Rattle.chain.proofs.OneChain as chains

module _ (stakes : List ℕ) (genesis : ℕ → ℕ) (honest : Test) (fed : ℕ → List Arrival) (ring : Ring stakes genesis honest fed) where
  -- What a node cast in a slot over its life.
  abbrev casts : ℕ → ℕ → Ballot → Bool
  casts s n v = has (cell_at (life stakes genesis honest fed n) s n) v

  abbrev keeps : ℕ → ℕ → ℕ → ℕ → ℕ → Bool
  keeps = kept_by stakes genesis honest fed

  abbrev Certifies : ℕ → ℕ → Type 0
  Certifies s b = Certified stakes (length stakes) honest casts keeps s b

  abbrev Final-in : ℕ → ℕ → Type 0
  Final-in s b = Final stakes (length stakes) honest (casts s) b

  -- ---- what signers say

  signed_three : (k : CertificateKind) (s b : ℕ) → T (serves_as k certificate.NotarFallback) → Signed stakes genesis honest fed ring s k b → Certifies s b
  unfolding fifths_of
  signed_three k s b t x =
      let q = serve_signed stakes genesis honest fed ring s k certificate.NotarFallback b (T_true (serves_as k certificate.NotarFallback) t) x in
      record { set = q.set; all = q.all; heavy = q.heavy }

  signed_four : (s : ℕ) → Signed stakes genesis honest fed ring s certificate.Skip 0 → Skipped stakes (length stakes) honest casts keeps s
  unfolding fifths_of
  signed_four s q = record { set = q.set; all = q.all; heavy = q.heavy }

  signed_fast : (s b : ℕ) → Signed stakes genesis honest fed ring s certificate.FastFinal b → Final-in s b
  unfolding fifths_of
  signed_fast s b q =
      fast (record { set = q.set; all = λ m g t. either_one stakes genesis honest fed ring s (casts s m (notar b)) (q.all m g t); heavy = q.heavy })

  signed_slow : (s b : ℕ) → Signed stakes genesis honest fed ring s certificate.Notar b → Signed stakes genesis honest fed ring s certificate.Final 0 → Final-in s b
  unfolding fifths_of
  signed_slow s b q r =
      slow (two_quorum stakes genesis honest fed ring s b q)
      (record { set = r.set; all = λ m g t. either_one stakes genesis honest fed ring s (casts s m final) (r.all m g t); heavy = r.heavy })

  -- ---- what one who looks on holds, honest nodes signed

  module _ (l : Ledger) (o : Observer stakes genesis honest fed l) where
    seen_signed : (k : CertificateKind) (s b : ℕ) → Held l k s b → Signed stakes genesis honest fed ring s k b
    seen_signed k s b (by_votes t) =
        record {
          set = λ m. signs k b (cell_at l s m);
          all = λ m g u. or_t (has (cell_at l s m) (ballot_a k b)) (has (cell_at l s m) (ballot_b k b)) u
              (λ w. T-left (casts s m (ballot_a k b)) (casts s m (ballot_b k b)) (own_stored stakes genesis honest fed ring m s (ballot_a k b) g (o.pool m s (ballot_a k b) g w)))
              (λ w. T-right (casts s m (ballot_a k b)) (casts s m (ballot_b k b)) (own_stored stakes genesis honest fed ring m s (ballot_b k b) g (o.pool m s (ballot_b k b) g w)));
          heavy = as_table (fifths_of k) stakes l.own l.genesis l _ o.table t;
        }
    seen_signed k s b (by_kept j t u e) =
        let c : Checked stakes genesis honest fed ring (place_kind j) s (kept_at l s j).block =
        record { cert = kept_in s (kept_at l s j); judged = judge_says stakes (place_kind j) (kept_in s (kept_at l s j)) (o.accepted s j t); slot = refl; block = refl; genuine = o.kept s j t }
        in
        serve_signed stakes genesis honest fed ring s (place_kind j) k b (T_true (serves_as (place_kind j) k) u)
        (subst (Signed stakes genesis honest fed ring s (place_kind j)) e (checked_signed stakes genesis honest fed ring s (place_kind j) (kept_at l s j).block c))

    held_three : (k : CertificateKind) (s b : ℕ) → T (serves_as k certificate.NotarFallback) → Held l k s b → Certifies s b
    held_three k s b t x = signed_three k s b t (seen_signed k s b x)

  module _ (parents : OneParent stakes genesis honest fed) where
    -- ---- an honest node looks on

    same_start : (n : ℕ) (g : ℕ) (l : Ledger) → SameTable (fresh stakes n g) l → SameTable (fresh stakes l.own l.genesis) l
    unfolding fresh
    same_start n g l t = record { stakes = t.stakes; count = t.count; total = t.total; own = refl; genesis = refl }

    node_observes : (n : ℕ) → T (honest n) → Observer stakes genesis honest fed (life stakes genesis honest fed n)
    node_observes n h =
        let l = life stakes genesis honest fed n in
        let inv = (end_ready stakes genesis honest fed ring n h).inv in
        record {
          table = same_start n (genesis n) l (end_table stakes genesis honest fed ring n h);
          pool = λ m s v k t. counted stakes genesis honest fed ring n m s v h k t;
          accepted = λ s j t. subst (λ (ws : List ℕ). judge_kind ws (place_kind j) (kept_in s (kept_at l s j)) ≡ Ok tt) (end_stakes stakes genesis honest fed ring n h) (inv.certificates s j t);
          kept = λ s j t. ring.kept n s j h t;
          lower = λ s b p x t. (inv.blocks s b p x t).0;
          parents = parents n h;
        }

    -- ---- THE RULES MEET THE INTERFACE of many slots

    module _ (n : ℕ) (h : T (honest n)) where
      abbrev end : Ledger
      end = life stakes genesis honest fed n

      three : (s b : ℕ) → Held end certificate.NotarFallback s b → Certifies s b
      unfolding serves_as same_kind certificate_number
      three s b x = held_three end (node_observes n h) certificate.NotarFallback s b tt x

      backed : (p x : ℕ) → BackedAt end p x → Backed stakes (length stakes) honest casts keeps p x
      backed zero x e = tt
      backed (suc p) x g = three (suc p) x g

      rooted : Rooted stakes (length stakes) honest casts keeps n
      rooted =
          let inv = (end_ready stakes genesis honest fed ring n h).inv in
          record {
            slots = λ s. lawful stakes genesis honest fed ring s n h;
            lower = λ s b p x t. (inv.blocks s b p x t).0;
            first_notar = λ s b f t. let g = (inv.grounds s (notar b) t).first f in
                record {
                  slot = g.slot;
                  parent = g.parent;
                  keeps = g.kept;
                  backed = backed g.slot g.parent g.backed;
                  between = λ u x y. signed_four u (seen_signed end (node_observes n h) certificate.Skip u 0 (g.between u x y));
                };
            next_notar = λ s b f t. let g = (inv.grounds s (notar b) t).next f in
                record { slot = g.slot; parent = g.parent; keeps = g.kept; before = g.before; voted = g.voted };
            fallback_seen = λ s b t.
                let g = inv.grounds s (notar_fallback b) t in
                record {
                  set = λ m. has (cell_at end s m) (notar b);
                  all = λ m k u. own_stored stakes genesis honest fed ring m s (notar b) k (counted stakes genesis honest fed ring n m s (notar b) h k u);
                  heavy = as_table 1 stakes n (genesis n) end _ (end_table stakes genesis honest fed ring n h) g.seen;
                };
            fallback_next = λ s b f t. let g = (inv.grounds s (notar_fallback b) t).next f in
                record { slot = g.slot; parent = g.parent; keeps = g.kept; certified = three g.slot g.parent g.backed };
          }

    one_parent : (n m s b p x q y : ℕ) → T (honest n) → T (honest m) → T (keeps n s b p x) → T (keeps m s b q y) → (p ≡ q) × (x ≡ y)
    one_parent n m s b p x q y h k t u = parents m k n s b p x q y h t u

    -- ---- final blocks

    final_block : (s b : ℕ) → ByCertificates stakes genesis honest fed s b → Final-in s b
    final_block s b (proved proof a g e es eb) =
        let p = found_proof stakes genesis honest fed ring proof a g (accepted_proof stakes proof a e) in
        subst (λ (x : ℕ). Final-in x b) es (subst (λ (x : ℕ). Final-in a.slot.0 x) eb
        (final_of stakes genesis honest fed ring a.slot.0 a.block p.certs p.proves p.genuine))
    final_block s b (held_fast l o x) = signed_fast s b (seen_signed l o certificate.FastFinal s b x)
    final_block s b (held_slow l o x y) = signed_slow s b (seen_signed l o certificate.Notar s b x) (seen_signed l o certificate.Final s 0 y)

    certificate_block : (s b : ℕ) → HasCertificate stakes genesis honest fed s b → Certifies s b
    certificate_block s b (checked packet a g e t es eb) =
        let r = accepted_single stakes packet a e in
        signed_three a.kind s b t (checked_signed stakes genesis honest fed ring s a.kind b
        (checked-by stakes genesis honest fed ring r.first r.fine (g.first r.first (length packet) r.read) a.kind s b
        (kind_of_lem stakes genesis honest fed ring r.first a r.answer) (slot_of stakes genesis honest fed ring r.first a r.answer ∙ es) (block_of stakes genesis honest fed ring r.first a r.answer ∙ eb)))
    certificate_block s b (held l o k t x) = held_three l o k s b t x

    -- ---- blocks that have come to be final

    abbrev Comes-from : ℕ → ℕ → Type 0
    Comes-from s b = chains.Source stakes (length stakes) honest casts keeps ring.few rooted one_parent s b

    abbrev Has-parent : ℕ → ℕ → Type 0
    Has-parent s b = chains.Parent stakes (length stakes) honest casts keeps ring.few rooted one_parent s b

    abbrev Back : ℕ → ℕ → Type 0
    Back s b = Backed stakes (length stakes) honest casts keeps s b

    final_source : (s b : ℕ) → Final-in s b → Comes-from s b
    final_source s b f = record { slot = s; block = b; final = f; from = itself }

    -- A final block where somebody looks on is an ancestor, through blocks that honest nodes keep, of one that is final by certificates; and it
    -- is certified itself, so that honest nodes keep it with the parent that the walk goes to.
    record Traced (s b : ℕ) : Type 0 where
      pub source : Comes-from s b
      pub backed : Back s b

    final_traced : (s b : ℕ) → Final-in s b → Traced s b
    final_traced s b f =
        record {
          source = final_source s b f;
          backed = chains.certified_backed stakes (length stakes) honest casts keeps ring.few rooted one_parent s b
              (chains.final_certified stakes (length stakes) honest casts keeps ring.few rooted one_parent s b f);
        }

    parent_traced : (s b p x : ℕ) → Traced s b → Link honest keeps s b p x → Back p x → Traced p x
    parent_traced s b p x t k c =
        record {
          source = record {
            slot = t.source.slot;
            block = t.source.block;
            final = t.source.final;
            from = chains.descends_trans stakes (length stakes) honest casts keeps ring.few rooted one_parent p x s b t.source.slot t.source.block (child k itself) t.source.from;
          };
          backed = c;
        }

    module _ (l : Ledger) (o : Observer stakes genesis honest fed l) where
      walked : (s b p x : ℕ) → Traced s b → T (keeps_block l s b p x) → Traced p x
      walked s b p x t k =
          let low = o.lower s b p x k in
          let q : Has-parent s b = chains.parent_of stakes (length stakes) honest casts keeps ring.few rooted one_parent s b
          (chains.backed_certified stakes (length stakes) honest casts keeps ring.few rooted one_parent s b (omega (arith, low)) t.backed)
          in
          let e = o.parents q.link.node s b q.slot q.parent p x q.link.is_honest q.link.keeps k in
          parent_traced s b p x t
          (subst (λ (y : ℕ). Link honest keeps s b p y) e.1 (subst (λ (r : ℕ). Link honest keeps s b r q.parent) e.0 q.link))
          (subst (λ (y : ℕ). Back p y) e.1 (subst (λ (r : ℕ). Back r q.parent) e.0 q.backed))

      traced : (s b : ℕ) → FinalIn l s b → Traced s b
      traced s b (grounds.fast x) = final_traced s b (signed_fast s b (seen_signed l o certificate.FastFinal s b x))
      traced s b (grounds.slow x y) = final_traced s b (signed_slow s b (seen_signed l o certificate.Notar s b x) (seen_signed l o certificate.Final s 0 y))
      traced s b (ancestor {s = t} {b = c} m k) = walked t c s b (traced t c m) k

    settled_source : (s b : ℕ) → Settled stakes genesis honest fed s b → Comes-from s b
    settled_source s b (certified f) = final_source s b (final_block s b f)
    settled_source s b (reported n h t) =
        (traced (life stakes genesis honest fed n) (node_observes n h) s b (finals_grounded stakes n (genesis n) (ring.started n h) (fed n) s b t)).source
    settled_source s b (seen l o f) = (traced l o s b f).source

    settled_chained_here : (s b t c : ℕ) → Settled stakes genesis honest fed s b → Settled stakes genesis honest fed t c → OnOneChain stakes genesis honest fed s b t c
    settled_chained_here s b t c x y =
        chains.sources_chained stakes (length stakes) honest casts keeps ring.few rooted one_parent s b t c (settled_source s b x) (settled_source t c y)

    settled_once_here : (s b c : ℕ) → Settled stakes genesis honest fed s b → Settled stakes genesis honest fed s c → b ≡ c
    settled_once_here s b c x y =
        chains.one_block stakes (length stakes) honest casts keeps ring.few rooted one_parent s b c (settled_chained_here s b s c x y)

-- ---- the promises

pub settled_chained : SettledChained
settled_chained stakes genesis honest fed ring parents s b t c x y = settled_chained_here stakes genesis honest fed ring parents s b t c x y

pub settled_once : SettledOnce
settled_once stakes genesis honest fed ring parents s b c x y = settled_once_here stakes genesis honest fed ring parents s b c x y

pub proofs_chained : ProofsChained
proofs_chained stakes genesis honest fed ring parents proof other a d gp go ep eo =
    settled_chained stakes genesis honest fed ring parents a.slot.0 a.block d.slot.0 d.block
    (certified (proved proof a gp ep refl refl)) (certified (proved other d go eo refl refl))

pub honest_proofs_chained : HonestProofsChained
honest_proofs_chained stakes genesis honest fed ring parents n m h k before later e before' later' e' room room' s b t c size size' lt lt' w w' =
    let p = (written_proof_accepted stakes n (genesis n) (ring.started n h) before room s b size lt w).1 in
    let q = (written_proof_accepted stakes m (genesis m) (ring.started m k) before' room' t c size' lt' w').1 in
    settled_chained stakes genesis honest fed ring parents s b t c
    (certified (proved (write_proof (after_all (fresh stakes n (genesis n)) before) room s b).bytes p.what
    (written_proof_genuine stakes genesis honest fed ring n h before later e room s b size lt w) p.accepted p.slot_is p.block_is))
    (certified (proved (write_proof (after_all (fresh stakes m (genesis m)) before') room' t c).bytes q.what
    (written_proof_genuine stakes genesis honest fed ring m k before' later' e' room' t c size' lt' w') q.accepted q.slot_is q.block_is))

pub certificates_descend : CertificatesDescend
certificates_descend stakes genesis honest fed ring parents s b t c f x le =
    chains.descends stakes (length stakes) honest (casts stakes genesis honest fed ring) (kept_by stakes genesis honest fed) ring.few
    (rooted stakes genesis honest fed ring parents) (one_parent stakes genesis honest fed ring parents)
    s b (final_block stakes genesis honest fed ring parents s b f) t c le (certificate_block stakes genesis honest fed ring parents t c x)

pub honest_observe : HonestObserve
honest_observe stakes genesis honest fed ring parents n h = node_observes stakes genesis honest fed ring parents n h

pub final_marks_agree : FinalMarksAgree
final_marks_agree stakes genesis honest fed ring parents n m s h k t u =
    let x = life stakes genesis honest fed n in
    let y = life stakes genesis honest fed m in
    settled_once stakes genesis honest fed ring parents s (row_at x s).final (row_at y s).final
    (seen x (honest_observe stakes genesis honest fed ring parents n h) ((end_ready stakes genesis honest fed ring n h).inv.finals s t))
    (seen y (honest_observe stakes genesis honest fed ring parents m k) ((end_ready stakes genesis honest fed ring m k).inv.finals s u))

pub no_clash_seen : NoClashSeen
no_clash_seen stakes genesis honest fed ring parents l o s b c =
    c.differs (settled_once stakes genesis honest fed ring parents s c.other b (seen l o c.old) (seen l o c.newcomer))

pub no_clash : NoClash
no_clash stakes genesis honest fed ring parents n s b h t =
    no_clash_seen stakes genesis honest fed ring parents (life stakes genesis honest fed n) (honest_observe stakes genesis honest fed ring parents n h) s b
    (clashes_grounded stakes n (genesis n) (ring.started n h) (fed n) s b t)

-- ---- the premise

pub numbers_are_enough : NumbersAreEnough
numbers_are_enough stakes genesis honest fed numbers m k n s b p x q y h t u =
    let a = numbers.one_parent n s b p x h t in
    let c = numbers.one_parent m s b q y k u in
    (a.0 ∙ sym c.0, a.1 ∙ sym c.1)

pub announced_is_enough : AnnouncedIsEnough
announced_is_enough stakes genesis honest fed ring once m k n s b p x q y h t u =
    once n m s b p x q y h k
    (kept_blocks_announced stakes n (genesis n) (ring.started n h) (fed n) s b p x t).0
    (kept_blocks_announced stakes m (genesis m) (ring.started m k) (fed m) s b q y u).0

pub arrivals_are_enough : ArrivalsAreEnough
arrivals_are_enough stakes genesis honest fed ring once =
    let r = mail_is_enough stakes genesis honest fed ring in
    (r, announced_is_enough stakes genesis honest fed r once)
