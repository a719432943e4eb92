-- One chain over seen lives, by the rule book's theorem on what arrived.
use Rattle.std.specs.Prelude.{Ok}
use mathlib.Core.Path.{◌≡◌, sym, ap, ◌∙◌, subst}
use mathlib.Core.Bool.{Bool, not}
use mathlib.Core.List.{List}
use Prim.Native.Nat.{ℕ}
use lib.Dec.{T}
use lib.ListN.{length}
use borrow.Author.Tests.{ne_eqb}
use Rattle.rulebook.specs.declared.CertificateKind.{CertificateKind}
use Rattle.rulebook.specs.declared.CertificateKind.TheVariants as certificate
use Rattle.rulebook.specs.Ledger.{Ledger, none, fresh, row_at, keeps_block}
use Rattle.rulebook.specs.Pool.{serves_as}
use Rattle.rulebook.specs.Rules.{record_of}
use Rattle.rulebook.specs.Taking.{Arrival}
use Rattle.rulebook.specs.Writers as writer
use Rattle.rulebook.specs.Writers.{write_proof}
use Rattle.writers.specs.Writing.{proof_on}
use Rattle.safety.specs.Slot.{Test}
use Rattle.safety.specs.Ring.{after_all, cast_by}
use Rattle.safety.specs.Watchers.{watched, HoldsGenuine}
use Rattle.safety.proofs.Lives.{start_sized}
use Rattle.chain.specs.OneChain as book
use Rattle.chain.proofs.Chains as chains
use Rattle.chain.proofs.Watching as watching
use Rattle.answers.specs.Face.{Wrote}
use Rattle.seen.specs.Seen.{Seen, ledger_in, NodeSeen, WatcherSeen}
use Rattle.seen.specs.Ring.{Lives, told_ballot, Ring, Moment}
use Rattle.seen.specs.Chain.{block_kept, OneParent, SameParents, IsOrDescends, OnOneChain, Settled, proved, reported, ProofsChained, HonestProofsChained, SettledChained, SettledOnce, FinalMarksAgree, FinalReadsAgree, CertificatesDescend, NoClash, WatchedNoClash, AnnouncedIsEnough, ArrivalsAreEnough, WatchedArrivalsAreEnough}
use Rattle.seen.proofs.Numbers.{zero_accepted, zero_written}
use Rattle.seen.proofs.More.{holds_more, descends_more, chained_more}
use Rattle.seen.proofs.Ring.{told_made, told_cast, genuine, book_ring}
use Rattle.seen.proofs.Safety.{mail_is_enough}
use Rattle.seen.proofs.Written.{proof_on_lem}
use Rattle.seen.proofs.Readers.{final_told}
use Rattle.seen.proofs.Watchers.{watched_mail_is_enough}

-- ---- words and ledgers

module _ (stakes : List ℕ) (genesis : ℕ → ℕ) (honest : Test) (lives : Lives) (all : (n : ℕ) → T (honest n) → NodeSeen stakes n (genesis n) (lives n)) where
  abbrev fed : ℕ → List Arrival
  fed n = (lives n).came

  pub kept_same : (n s b p x : ℕ) → T (honest n) → block_kept lives n s b p x ≡ book.kept_by stakes genesis honest fed n s b p x
  kept_same n s b p x h = ap (λ (l : Ledger). keeps_block l s b p x) (all n h).lived.ledger

  pub parents : OneParent honest lives → book.OneParent stakes genesis honest fed
  parents once m k n s b p x q y h t u = once n m s b p x q y h k (subst T (sym (kept_same n s b p x h)) t) (subst T (sym (kept_same m s b q y k)) u)

  parents_back : book.OneParent stakes genesis honest fed → OneParent honest lives
  parents_back once n m s b p x q y h k t u = once m k n s b p x q y h (subst T (kept_same n s b p x h) t) (subst T (kept_same m s b q y k) u)

  in_words : (s b t c : ℕ) → book.OnOneChain stakes genesis honest fed s b t c → OnOneChain honest lives s b t c
  in_words = chained_more honest (book.kept_by stakes genesis honest fed) (block_kept lives) (λ n s b p x h. subst T (sym (kept_same n s b p x h)))

  descends_in_words : (s b t c : ℕ) → book.IsOrDescends stakes genesis honest fed s b t c → IsOrDescends honest lives s b t c
  descends_in_words = descends_more honest (book.kept_by stakes genesis honest fed) (block_kept lives) (λ n s b p x h. subst T (sym (kept_same n s b p x h)))

  -- What is settled for a host is settled.
  settled : (s b : ℕ) → Settled honest lives stakes s b → book.Settled stakes genesis honest fed s b
  settled s b (proved proof kind signers weight missing g c) =
      let a = zero_accepted c in book.certified (book.proved proof a.what (genuine stakes genesis honest lives all proof g) a.accepted a.slot_is a.block_is)
  settled s b (reported n h t) = book.reported n h (subst T (told_made _ (lives n) (all n h).lived (record_of 6 s b)) t)

-- Where a proof writer answers 0 at a moment, the rule book's writer writes from the ledger after what had arrived.
proof_written : (stakes : List ℕ) (own genesis : ℕ) (v : Seen) → NodeSeen stakes own genesis v → (buffer after : List ℕ) (s b written : ℕ)
    → Wrote (proof_on v.words (length buffer) s b) buffer 0 written after
    → (write_proof (after_all (fresh stakes own genesis) v.came) (length buffer) s b).answer ≡ Ok written
proof_written stakes own genesis v h buffer after s b written w =
    ap (λ (x : writer.Wrote). x.answer) (sym (proof_on_lem stakes own genesis (start_sized stakes own genesis h.started) v h.lived (length buffer) s b))
    ∙ (zero_written _ buffer after written w).1

-- ---- the promises

pub settled_chained : SettledChained
settled_chained stakes genesis honest lives ring once s b t c x y =
    let all = ring.nodes.lived in
    in_words stakes genesis honest lives all s b t c
    (chains.settled_chained stakes genesis honest (λ n. (lives n).came) (book_ring stakes genesis honest lives ring) (parents stakes genesis honest lives all once) s b t c
    (settled stakes genesis honest lives all s b x) (settled stakes genesis honest lives all t c y))

pub settled_once : SettledOnce
settled_once stakes genesis honest lives ring once s b c x y =
    let all = ring.nodes.lived in
    chains.settled_once stakes genesis honest (λ n. (lives n).came) (book_ring stakes genesis honest lives ring) (parents stakes genesis honest lives all once) s b c
    (settled stakes genesis honest lives all s b x) (settled stakes genesis honest lives all s c y)

pub proofs_chained : ProofsChained
proofs_chained stakes genesis honest lives ring once proof other kind slot block signers weight missing kind' slot' block' signers' weight' missing' g k x y =
    settled_chained stakes genesis honest lives ring once slot block slot' block' (proved proof kind signers weight missing g x) (proved other kind' signers' weight' missing' k y)

pub honest_proofs_chained : HonestProofsChained
honest_proofs_chained stakes genesis honest lives ring once n m v w h k buffer after buffer' after' s b t c size size' lt lt' x y =
    let all = ring.nodes.lived in
    in_words stakes genesis honest lives all s b t c
    (chains.honest_proofs_chained stakes genesis honest (λ n. (lives n).came) (book_ring stakes genesis honest lives ring) (parents stakes genesis honest lives all once) n m
    h.is_honest k.is_honest v.came h.earlier.since h.earlier.goes_on w.came k.earlier.since k.earlier.goes_on
    (length buffer) (length buffer') s b t c size size' lt lt'
    (proof_written stakes n (genesis n) v h.lived buffer after s b size x) (proof_written stakes m (genesis m) w k.lived buffer' after' t c size' y))

pub certificates_descend : CertificatesDescend
certificates_descend stakes genesis honest lives ring once proof packet kind slot block signers weight missing kind' slot' block' signers' weight' missing' g k x y serves le =
    let all = ring.nodes.lived in
    let a = zero_accepted x in
    let d = zero_accepted y in
    descends_in_words stakes genesis honest lives all slot block slot' block'
    (chains.certificates_descend stakes genesis honest (λ n. (lives n).came) (book_ring stakes genesis honest lives ring) (parents stakes genesis honest lives all once) slot block slot' block'
    (book.proved proof a.what (genuine stakes genesis honest lives all proof g) a.accepted a.slot_is a.block_is)
    (book.checked packet d.what (genuine stakes genesis honest lives all packet k) d.accepted
    (subst (λ (q : CertificateKind). T (serves_as q certificate.NotarFallback)) (sym d.kind_is) serves) d.slot_is d.block_is) le)

pub final_marks_agree : FinalMarksAgree
final_marks_agree stakes genesis honest lives ring once n m s h k t u =
    let all = ring.nodes.lived in
    let p = (all n h).lived.ledger in
    let q = (all m k).lived.ledger in
    ap (λ (l : Ledger). (row_at l s).final) p
    ∙ chains.final_marks_agree stakes genesis honest (λ n. (lives n).came) (book_ring stakes genesis honest lives ring) (parents stakes genesis honest lives all once) n m s h k
    (subst (λ (l : Ledger). T (not (none (row_at l s).final))) p t) (subst (λ (l : Ledger). T (not (none (row_at l s).final))) q u)
    ∙ sym (ap (λ (l : Ledger). (row_at l s).final) q)

-- A mark that is a block.
marked : {b f : ℕ} → b ≡ f → ¬ (b ≡ 0) → T (not (none f))
marked {b} {f} e ne = subst (λ (t : Bool). T (not t)) (sym (ne_eqb f 0 (λ z. ne (e ∙ z)))) tt

pub final_reads_agree : FinalReadsAgree
final_reads_agree stakes genesis honest lives ring once n m s number number' b c h k x y nb nc =
    let p = final_told (lives n).words s number b x nb in
    let q = final_told (lives m).words s number' c y nc in
    p ∙ (final_marks_agree stakes genesis honest lives ring once n m s h k (marked p nb) (marked q nc) ∙ sym q)

pub no_clash : NoClash
no_clash stakes genesis honest lives ring once n s b h t =
    let all = ring.nodes.lived in
    chains.no_clash stakes genesis honest (λ n. (lives n).came) (book_ring stakes genesis honest lives ring) (parents stakes genesis honest lives all once) n s b h
    (subst T (told_made _ (lives n) (all n h).lived (record_of 8 s b)) t)

pub watched_no_clash : WatchedNoClash
watched_no_clash stakes genesis honest lives ring once g v h holds same s b t =
    let all = ring.nodes.lived in
    let fed : ℕ → List Arrival = λ n. (lives n).came in
    watching.watched_no_clash stakes genesis honest fed (book_ring stakes genesis honest lives ring) (parents stakes genesis honest lives all once) g h.started v.came
    (holds_more honest (told_ballot lives) (cast_by stakes genesis honest fed) (told_cast stakes genesis honest lives all) _
    (subst (HoldsGenuine honest (told_ballot lives)) h.lived.ledger holds))
    (λ n s b p x q y k t u. same n s b p x q y k (subst T (sym (kept_same stakes genesis honest lives all n s b p x k)) t)
    (subst (λ (l : Ledger). T (keeps_block l s b q y)) (sym h.lived.ledger) u))
    s b (subst T (told_made _ v h.lived (record_of 8 s b)) t)

-- ---- the premises

pub announced_is_enough : AnnouncedIsEnough
announced_is_enough stakes genesis honest lives ring once =
    parents_back stakes genesis honest lives ring.nodes.lived
    (chains.announced_is_enough stakes genesis honest (λ n. (lives n).came) (book_ring stakes genesis honest lives ring) once)

pub arrivals_are_enough : ArrivalsAreEnough
arrivals_are_enough stakes genesis honest lives fed once =
    let ring = mail_is_enough stakes genesis honest lives fed in (ring, announced_is_enough stakes genesis honest lives ring once)

pub watched_arrivals_are_enough : WatchedArrivalsAreEnough
watched_arrivals_are_enough stakes genesis honest lives ring g v h fed once = (
  watched_mail_is_enough stakes genesis honest lives ring g v h fed,
  (λ n s b p x q y k t u.
      watching.watched_announced_is_enough stakes genesis honest (λ n. (lives n).came) (book_ring stakes genesis honest lives ring) g h.started v.came once n s b p x q y k
      (subst T (kept_same stakes genesis honest lives ring.nodes.lived n s b p x k) t) (subst (λ (l : Ledger). T (keeps_block l s b q y)) h.lived.ledger u)),
)
