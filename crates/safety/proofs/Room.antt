-- There is room for every genuine certificate: two of kind 1 or 2 share an honest node's initial vote, and eight of kind 3 would need more
-- honest stake than there is, since each honest node stands behind at most four blocks.
use Rattle.std.specs.Prelude.{Ok, Err}
use mathlib.Core.Path.{◌≡◌, refl, sym, ap, ◌∙◌, subst}
use mathlib.Core.Bool.{Bool, true, false, not, ◌&&◌, ◌||◌}
use mathlib.Core.List.{List}
use mathlib.Core.Logic.{◌⊎◌, inl, inr, ⊎_elim}
use Prim.Native.Nat.{ℕ, zero, suc, ◌+◌, ◌*◌, ◌≤◌, ◌<◌}
use native.Mathlib.Decide.{ℕ_discrete}
use native.Mathlib.Omega.{arith}
use lib.ListN.{length}
use lib.Arith.{lt_of_le-ne}
use lib.Dec.{T, eqb, leb, eqb→eq, eqb_refl, leb→le, nleb→lt, T_not}
use Rattle.rulebook.specs.declared.Cell.{Cell}
use Rattle.rulebook.specs.declared.CertificateKind.{CertificateKind}
use Rattle.rulebook.specs.declared.CertificateKind.TheVariants as certificate
use Rattle.rulebook.specs.declared.Refusal.TheVariants as refusal
use Rattle.rulebook.specs.Certificates.{Certificate}
use Rattle.rulebook.specs.Tools.{whenever, sum_to, some_to}
use Rattle.rulebook.specs.Weights.{places_for, weight, total_to, slot_ok}
use Rattle.rulebook.specs.PaperNumbers.{kind_in}
use Rattle.rulebook.specs.Ledger.{Ledger, none, table_of, fresh, cell_at, most_certificates, certificates_at, kept_at, is_kept}
use Rattle.rulebook.specs.Pool.{has_fallback, fifths_of, place_kind, same_kind, some_kept}
use Rattle.rulebook.specs.Inputs.{refuse_if, refused_with}
use Rattle.rulebook.specs.Checker.{is_other_kind, block_misfits, without_b, judge_kind, judge}
use Rattle.rulebook.specs.Taking.{has_room, is_repeat, kept_verdict, take_packet, Arrival}
use Rattle.rulebook.specs.WellFormed.{each_kept, in_turn, certificate_fits, certificates_apart, certificates_fit, well_formed, kept_in, outbox_words, take_certificate}
use Rattle.rule_laws.proofs.ToolLaws.{and_both, both_and, true_not_false, sum_add, sum_le, sum_const, some_find}
use Rattle.rule_laws.proofs.CertificateLaws.{kind_same, place_some, no_room, apart_at_lem, record_certificates}
use Rattle.rule_laws.proofs.AcceptedLaws.{packet_eight}
use Rattle.safety.specs.Slot.{Test, notar, notar_fallback, Quorum}
use Rattle.safety.specs.Ballots.{has}
use Rattle.safety.specs.Ring.{after_all, cast_by, Ring, Genuine, GenuinePacket}
use Rattle.safety.specs.Watchers.{HoldsGenuine}
use Rattle.safety.specs.Room.{Stands, OneOfKindOne, OneOfKindTwo, SevenOfKindThree, NeverEight}
use Rattle.safety.proofs.Tests.{T_true, true_t, and_t, T_and, or_t, T-left, T-right, by_test, not_not}
use Rattle.safety.proofs.Weighing.{reaches_le, reaches_less, weight_mono, weight_apart_lem, weight_cover, weight_join}
use Rattle.safety.proofs.OneSlot.{inside, quorums_agree}
use Rattle.safety.proofs.Cells.{notar_is}
use Rattle.safety.proofs.Safety.{judge_says, Checked, checked, checked_signed, quorum, own, lawful, end, sized}
use Rattle.safety.proofs.Written.{stakes_are, count_is}
use Rattle.safety.proofs.Honest.{node_holds}
use Rattle.safety.proofs.Lives.{Sized, life_ready, fresh_ready}
use Rattle.safety.proofs.Steps.{passed, Ready}

-- ---- sets that no node is in two of

module _ (ws : List ℕ) (k : ℕ) (P : ℕ → Test) where
  -- Some of the first N.
  some_of : ℕ → Test
  some_of N n = some_to N (λ i. P i n)

  -- They weigh together at most what their union weighs.
  family_union : (N : ℕ) → ((i j n : ℕ) → i < N → j < N → ¬ (i ≡ j) → T (P i n) → T (P j n) → ⊥) → sum_to N (λ i. weight ws k (P i)) ≤ weight ws k (some_of N)
  unfolding sum_to some_to some_of
  family_union zero f = omega arith
  family_union (suc N) f =
      omega (
        arith,
        family_union N (λ i j n a b. f i j n (omega arith) (omega arith)),
        weight_join ws k (λ n. some_to N (λ i. P i n)) (P N) (λ n. some_to N (λ i. P i n) || P N n)
            (λ n t. T-left (some_to N (λ i. P i n)) (P N n) t) (λ n t. T-right (some_to N (λ i. P i n)) (P N n) t)
            (λ n t u.
            let r = some_find N (λ i. P i n) (T_true (some_to N (λ i. P i n)) t) in
            f r.0 N n (omega (arith, r.1)) (omega arith) (λ e. omega (arith, r.1, e)) (true_t (P r.0 n) r.2) u),
      )

  -- And so at most any set that they all lie in.
  family_within : (N : ℕ) (Q : Test) → ((i n : ℕ) → T (P i n) → T (Q n)) → ((i j n : ℕ) → i < N → j < N → ¬ (i ≡ j) → T (P i n) → T (P j n) → ⊥)
      → sum_to N (λ i. weight ws k (P i)) ≤ weight ws k Q
  unfolding some_of
  family_within N Q g f =
      omega (
        arith,
        family_union N f,
        weight_mono ws k (λ n. some_to N (λ i. P i n)) Q
            (λ n t. let r = some_find N (λ i. P i n) (T_true (some_to N (λ i. P i n)) t) in g r.0 n (true_t (P r.0 n) r.2)),
      )

-- The nine places for kind 3.
third_place : (m : ℕ) → place_kind (0 + (4 + m)) ≡ certificate.NotarFallback
unfolding place_kind
third_place m =
    let e : suc (suc (suc (suc m))) ≡ 0 + (4 + m) = omega arith in
    subst (λ (i : ℕ). place_kind i ≡ certificate.NotarFallback) e refl

less_or_more : (i j : ℕ) → ¬ (i ≡ j) → (i < j) ⊎ (j < i)
less_or_more i j ne = by_test (leb j i) (λ t. inr (lt_of_le-ne (leb→le j i t) (λ e. ne (sym e)))) (λ t. inl (nleb→lt j i t))

five_times : (n : ℕ) (f : ℕ → ℕ) → sum_to n (λ i. 5 * f i) ≡ 5 * sum_to n f
unfolding sum_to
five_times zero f = omega arith
five_times (suc n) f = omega (arith, five_times n f)

-- Eight amounts, each of which reaches.
eight_times : (f : ℕ → ℕ) (t w : ℕ) → ((i : ℕ) → i < 8 → t ≤ 5 * f i + w) → 8 * t ≤ 5 * sum_to 8 f + 8 * w
eight_times f t w h =
    omega (
      arith,
      sum_le 8 (λ _. t) (λ i. 5 * f i + w) h,
      sum_const 8 t,
      sum_const 8 w,
      sum_add 8 (λ i. 5 * f i) (λ _. w),
      five_times 8 f,
    )

module _ (stakes : List ℕ) (genesis : ℕ → ℕ) (honest : Test) (fed : ℕ → List Arrival) (ring : Ring stakes genesis honest fed) where
  abbrev count : ℕ
  count = length stakes

  abbrev Check : CertificateKind → ℕ → ℕ → Type 0
  Check k s b = Checked stakes genesis honest fed ring k s b

  -- ---- kind 3

  module _ (s : ℕ) (b : ℕ → ℕ) (checks : (i : ℕ) → i < 8 → Check certificate.NotarFallback s (b i))
      (apart : (i j : ℕ) → i < 8 → j < 8 → b i ≡ b j → i ≡ j) where
    -- What a node's own cell has at the end of its life.
    abbrev cell : ℕ → Cell
    cell m = cell_at (end stakes genesis honest fed ring m) s m

    -- The honest nodes that have block i in a place of their own cell.
    abbrev behind : (Cell → ℕ) → ℕ → Test
    behind x i m = honest m && eqb (x (cell m)) (b i)

    abbrev weighing : (Cell → ℕ) → ℕ → ℕ
    weighing x i = weight stakes count (behind x i)

    -- Of each place they are apart, so that they weigh at most what the honest nodes do.
    place_within : (x : Cell → ℕ) → sum_to 8 (weighing x) ≤ weight stakes count honest
    place_within x =
        family_within stakes count (behind x) 8 honest (λ i m t. (and_t (honest m) (eqb (x (cell m)) (b i)) t).0)
        (λ i j m hi hj ne t u.
        ne (apart i j hi hj (sym (eqb→eq (x (cell m)) (b i) (and_t (honest m) (eqb (x (cell m)) (b i)) t).1) ∙ eqb→eq (x (cell m)) (b j) (and_t (honest m) (eqb (x (cell m)) (b j)) u).1)))

    abbrev places : ℕ → ℕ
    places i = weighing (λ c. c.notar) i + (weighing (λ c. c.fallback1) i + (weighing (λ c. c.fallback2) i + weighing (λ c. c.fallback3) i))

    -- An honest signer has the block in one of four places.
    in_places : (i : ℕ) (h : i < 8) (m : ℕ) → T (honest m) → T ((checked_signed stakes genesis honest fed ring s certificate.NotarFallback (b i) (checks i h)).set m)
        → T (behind (λ c. c.notar) i m || (behind (λ c. c.fallback1) i m || (behind (λ c. c.fallback2) i m || behind (λ c. c.fallback3) i m)))
    unfolding has_fallback
    in_places i h m hm t =
        let c = cell m in
        let d = b i in
        let n0 = behind (λ c. c.notar) i m in
        let n1 = behind (λ c. c.fallback1) i m in
        let n2 = behind (λ c. c.fallback2) i m in
        let n3 = behind (λ c. c.fallback3) i m in
        or_t (has c (notar d)) (has c (notar_fallback d)) ((checked_signed stakes genesis honest fed ring s certificate.NotarFallback d (checks i h)).all m hm t)
        (λ u. T-left n0 (n1 || (n2 || n3)) (T_and (honest m) (eqb c.notar d) hm (notar_is c d u).1))
        (λ u. T-right n0 (n1 || (n2 || n3))
        (or_t (eqb c.fallback1 d) (eqb c.fallback2 d || eqb c.fallback3 d) (and_t (not (none d)) _ u).1
        (λ w. T-left n1 (n2 || n3) (T_and (honest m) (eqb c.fallback1 d) hm w))
        (λ w. T-right n1 (n2 || n3)
        (or_t (eqb c.fallback2 d) (eqb c.fallback3 d) w
        (λ y. T-left n2 n3 (T_and (honest m) (eqb c.fallback2 d) hm y))
        (λ y. T-right n2 n3 (T_and (honest m) (eqb c.fallback3 d) hm y))))))

    -- So the four places and the others together reach 60.
    places_reach : (i : ℕ) → i < 8 → 3 * total_to stakes count ≤ 5 * places i + 5 * weight stakes count (λ n. not (honest n))
    unfolding fifths_of
    places_reach i h =
        let q = checked_signed stakes genesis honest fed ring s certificate.NotarFallback (b i) (checks i h) in
        let n0 = behind (λ c. c.notar) i in
        let n1 = behind (λ c. c.fallback1) i in
        let n2 = behind (λ c. c.fallback2) i in
        let n3 = behind (λ c. c.fallback3) i in
        omega (
          arith,
          reaches_le 3 (total_to stakes count) (weight stakes count q.set) q.heavy,
          weight_cover stakes count q.set (λ m. honest m && q.set m) (λ m. not (honest m)) (λ m. inside (honest m) (q.set m)),
          weight_cover stakes count (λ m. honest m && q.set m) n0 (λ m. n1 m || (n2 m || n3 m))
              (λ m t. let a = and_t (honest m) (q.set m) t in in_places i h m a.0 a.1),
          weight_cover stakes count (λ m. n1 m || (n2 m || n3 m)) n1 (λ m. n2 m || n3 m) (λ m t. t),
          weight_cover stakes count (λ m. n2 m || n3 m) n2 n3 (λ m t. t),
        )

    places_within : sum_to 8 places ≤ 4 * weight stakes count honest
    places_within =
        let a = weighing (λ c. c.notar) in
        let b1 = weighing (λ c. c.fallback1) in
        let b2 = weighing (λ c. c.fallback2) in
        let b3 = weighing (λ c. c.fallback3) in
        omega (
          arith,
          place_within (λ c. c.notar),
          place_within (λ c. c.fallback1),
          place_within (λ c. c.fallback2),
          place_within (λ c. c.fallback3),
          sum_add 8 a (λ i. b1 i + (b2 i + b3 i)),
          sum_add 8 b1 (λ i. b2 i + b3 i),
          sum_add 8 b2 b3,
        )

    -- Eight blocks are too many.
    pub no_eight : ⊥
    no_eight =
        omega (
          arith,
          ring.few,
          weight_apart_lem stakes count honest (λ n. not (honest n)) (λ n t u. T_not (honest n) u t),
          places_within,
          eight_times places (3 * total_to stakes count) (5 * weight stakes count (λ n. not (honest n))) places_reach,
        )

  -- ---- kinds 1 and 2

  fast_sixty : (s b : ℕ) → Check certificate.FastFinal s b → Quorum stakes count honest (own stakes genesis honest fed ring s) 3 (notar b)
  unfolding without_b fifths_of
  fast_sixty s b c =
      let q = quorum stakes genesis honest fed ring certificate.FastFinal s b tt c in
      record { set = q.set; all = q.all; heavy = reaches_less 3 4 (total_to stakes count) (weight stakes count q.set) (omega arith) q.heavy }

  notar_sixty : (s b : ℕ) → Check certificate.Notar s b → Quorum stakes count honest (own stakes genesis honest fed ring s) 3 (notar b)
  unfolding without_b fifths_of
  notar_sixty s b c = quorum stakes genesis honest fed ring certificate.Notar s b tt c

  -- Two blocks of a slot do not both have 60.
  agree : (s b d : ℕ) → Quorum stakes count honest (own stakes genesis honest fed ring s) 3 (notar b) → Quorum stakes count honest (own stakes genesis honest fed ring s) 3 (notar d) → b ≡ d
  agree s b d p q =
      elim (ℕ_discrete b d) [
        | yes e ↦ e
        | no ne ↦ absurd (quorums_agree stakes count honest (own stakes genesis honest fed ring s) ring.few (lawful stakes genesis honest fed ring s) b d p q ne)
      ]

  check_of : (k : CertificateKind) (s : ℕ) (c : Certificate) → Stands stakes genesis honest fed k s c → Check k s c.block
  check_of k s c t = checked stakes genesis honest fed ring c t.accepted t.genuine k s c.block t.kind t.slot refl

  -- ---- a life, a node's or a watcher's, that holds what is genuine, and a genuine certificate that is answered 8

  module _ (me g : ℕ) (size : Sized stakes me) (before : List Arrival) (holds : HoldsGenuine honest (cast_by stakes genesis honest fed) (after_all (fresh stakes me g) before))
      (c : Certificate) (genuine : Genuine count honest (cast_by stakes genesis honest fed) c) (fine : judge stakes c ≡ Ok tt)
      (sound : well_formed (after_all (fresh stakes me g) before) ≡ true) where
    abbrev now : Ledger
    now = after_all (fresh stakes me g) before

    abbrev ready : Ready (places_for count) me now
    ready = life_ready me (fresh stakes me g) before (fresh_ready stakes me g size)

    abbrev s : ℕ
    s = c.slot

    abbrev kind : CertificateKind
    kind = kind_in count c.kind

    mine : Check kind s c.block
    mine = checked stakes genesis honest fed ring c fine genuine kind s c.block refl refl refl

    slot_ok_lem : slot_ok s ≡ true
    unfolding judge judge_kind
    slot_ok_lem = T_true (slot_ok s) (not_not (slot_ok s) (passed _ _ _ (passed _ _ _ fine).1).0)

    long : length (certificates_at now s) ≡ most_certificates
    unfolding slot_ok
    long =
        ready.shaped.certificates s
        (omega (arith, leb→le s 16 (and_t (leb 1 s) (leb s 16) (true_t (slot_ok s) slot_ok_lem)).1))

    module _ (no-repeat : some_kept (is_repeat kind c.block) 0 (certificates_at now s) ≡ false) (full : has_room kind 0 (certificates_at now s) ≡ false) where
      -- A place of its kind keeps a genuine certificate for another block.
      kept_there : (j : ℕ) → j < most_certificates → place_kind j ≡ kind → T (is_kept (kept_at now s j))
      kept_there j low e =
          let here : j ≡ 0 + j = omega arith in
          let same : same_kind (place_kind (0 + j)) kind ≡ true = subst (λ (i : ℕ). same_kind (place_kind i) kind ≡ true) here (subst (λ (x : CertificateKind). same_kind (place_kind j) x ≡ true) e (kind_same (place_kind j))) in
          true_t (is_kept (kept_at now s j)) (no_room kind 0 (certificates_at now s) j (omega (arith, long)) full same)

      check_there : (j : ℕ) → j < most_certificates → place_kind j ≡ kind → Check kind s (kept_at now s j).block
      check_there j low e =
          let t = kept_there j low e in
          let kept : Certificate = kept_in s (kept_at now s j) in
          subst (λ (x : CertificateKind). Check x s (kept_at now s j).block) e
          (record {
            cert = kept;
            judged = judge_says stakes (place_kind j) kept
                (subst (λ (ws : List ℕ). judge_kind ws (place_kind j) kept ≡ Ok tt) (stakes_are stakes me g size before) (ready.inv.certificates s j t));
            slot = refl;
            block = refl;
            genuine = holds.kept s j t;
          })

      other_there : (j : ℕ) → j < most_certificates → place_kind j ≡ kind → (kept_at now s j).block ≡ c.block → ⊥
      unfolding is_repeat
      other_there j low e d =
          let here : j ≡ 0 + j = omega arith in
          let same : same_kind (place_kind j) kind ≡ true = subst (λ (x : CertificateKind). same_kind (place_kind j) x ≡ true) e (kind_same (place_kind j)) in
          let found = place_some (is_repeat kind c.block) 0 (certificates_at now s) j (T_true (is_kept (kept_at now s j)) (kept_there j low e))
          (subst (λ (i : ℕ). is_repeat kind c.block i (kept_at now s j) ≡ true) here
          (both_and (same_kind (place_kind j) kind) (eqb (kept_at now s j).block c.block) same (T_true _ (subst (λ (x : ℕ). T (eqb (kept_at now s j).block x)) d (eqb_refl (kept_at now s j).block))))) in
          true_not_false (some_kept (is_repeat kind c.block) 0 (certificates_at now s)) found no-repeat

      -- Kinds 4 and 5 are for no block.
      no_block_lem : (k : CertificateKind) → kind ≡ k → ((b : ℕ) → T (not (block_misfits k b)) → b ≡ 0) → (j : ℕ) → j < most_certificates → place_kind j ≡ kind → ⊥
      no_block_lem k e f j low p =
          let at : (b : ℕ) → Check kind s b → b ≡ 0 = λ b x. f b (subst (λ (i : CertificateKind). T (not (block_misfits i b))) e (subst (λ (i : ℕ). T (not (block_misfits kind i))) x.block x.judged.block)) in
          other_there j low p (at (kept_at now s j).block (check_there j low p) ∙ sym (at c.block mine))

      -- Two of nine places for kind 3 keep different blocks.
      apart_places : (i j : ℕ) → i < j → j < 9 → kind ≡ certificate.NotarFallback → (kept_at now s (4 + i)).block ≡ (kept_at now s (4 + j)).block → ⊥
      unfolding certificates_fit in_turn
      apart_places i j lt low e d =
          let qs = certificates_at now s in
          let fits = and_both (each_kept (certificate_fits (table_of now) s) 0 qs) (certificates_apart 0 qs) (record_certificates now sound s slot_ok_lem) in
          let third : (m : ℕ) → place_kind (0 + (4 + m)) ≡ certificate.NotarFallback = third_place in
          let there = T_true (is_kept (kept_at now s (4 + j))) (kept_there (4 + j) (omega arith) (subst (λ (m : ℕ). place_kind m ≡ kind) (omega arith) (third j ∙ sym e))) in
          let turn = apart_at_lem 0 qs (4 + i) (4 + j) (omega arith) fits.1 there (subst (λ (x : CertificateKind). same_kind x (place_kind (0 + (4 + j))) ≡ true) (sym (third i))
          (subst (λ (x : CertificateKind). same_kind certificate.NotarFallback x ≡ true) (sym (third j)) (kind_same certificate.NotarFallback))) in
          T_not (eqb (kept_at now s (4 + i)).block (kept_at now s (4 + j)).block)
          (true_t _ (and_both (is_kept (kept_at now s (4 + i))) (not (eqb (kept_at now s (4 + i)).block (kept_at now s (4 + j)).block)) turn).1)
          (subst (λ (x : ℕ). T (eqb (kept_at now s (4 + i)).block x)) d (eqb_refl (kept_at now s (4 + i)).block))

      third_at : (i : ℕ) → kind ≡ certificate.NotarFallback → place_kind (4 + i) ≡ kind
      third_at i e = subst (λ (m : ℕ). place_kind m ≡ kind) (omega arith) (third_place i ∙ sym e)

      never : (k : CertificateKind) → kind ≡ k → ⊥
      unfolding place_kind block_misfits is_other_kind
      never certificate.FastFinal e =
          let to : (b : ℕ) → Check kind s b → Check certificate.FastFinal s b = λ b x. subst (λ (i : CertificateKind). Check i s b) e x in
          other_there 0 (omega arith) (sym e) (agree s (kept_at now s 0).block c.block (fast_sixty s (kept_at now s 0).block (to _ (check_there 0 (omega arith) (sym e)))) (fast_sixty s c.block (to _ mine)))
      never certificate.Notar e =
          let to : (b : ℕ) → Check kind s b → Check certificate.Notar s b = λ b x. subst (λ (i : CertificateKind). Check i s b) e x in
          other_there 1 (omega arith) (sym e) (agree s (kept_at now s 1).block c.block (notar_sixty s (kept_at now s 1).block (to _ (check_there 1 (omega arith) (sym e)))) (notar_sixty s c.block (to _ mine)))
      never certificate.NotarFallback e =
          no_eight s (λ i. (kept_at now s (4 + i)).block)
          (λ i low. subst (λ (x : CertificateKind). Check x s (kept_at now s (4 + i)).block) e (check_there (4 + i) (omega arith) (third_at i e)))
          (λ i j a b d. elim (ℕ_discrete i j) [
            | yes q ↦ q
            | no ne ↦ absurd (⊎_elim (λ lt. apart_places i j lt (omega arith) e d) (λ lt. apart_places j i lt (omega arith) e (sym d)) (less_or_more i j ne))
          ])
      never certificate.Skip e = no_block_lem certificate.Skip e (λ b t. eqb→eq b 0 (not_not (none b) t)) 2 (omega arith) (sym e)
      never certificate.Final e = no_block_lem certificate.Final e (λ b t. eqb→eq b 0 (not_not (none b) t)) 3 (omega arith) (sym e)
      never certificate.Other e = absurd (subst (λ (k : CertificateKind). T (not (is_other_kind k))) e mine.judged.kind)

-- ---- the promises

pub one_of_kind_one : OneOfKindOne
one_of_kind_one stakes genesis honest fed ring s c d x y =
    agree stakes genesis honest fed ring s c.block d.block
    (fast_sixty stakes genesis honest fed ring s c.block (check_of stakes genesis honest fed ring certificate.FastFinal s c x))
    (fast_sixty stakes genesis honest fed ring s d.block (check_of stakes genesis honest fed ring certificate.FastFinal s d y))

pub one_of_kind_two : OneOfKindTwo
one_of_kind_two stakes genesis honest fed ring s c d x y =
    agree stakes genesis honest fed ring s c.block d.block
    (notar_sixty stakes genesis honest fed ring s c.block (check_of stakes genesis honest fed ring certificate.Notar s c x))
    (notar_sixty stakes genesis honest fed ring s d.block (check_of stakes genesis honest fed ring certificate.Notar s d y))

pub seven_of_kind_three : SevenOfKindThree
seven_of_kind_three stakes genesis honest fed ring s cs all apart =
    no_eight stakes genesis honest fed ring s (λ i. (cs i).block) (λ i h. check_of stakes genesis honest fed ring certificate.NotarFallback s (cs i) (all i h)) apart

-- 8 says that the certificate is no repeat, and that no place is free for it.
eight_says : (a b : Bool) → refuse_if a refusal.AlreadyKept (refuse_if (not b) refusal.OtherStands (Ok tt)) ≡ Err refusal.OtherStands → (a ≡ false) × (b ≡ false)
unfolding refuse_if
eight_says true b e = absurd cc
eight_says false true e = absurd cc
eight_says false false e = (refl, refl)

-- 17 and 9 are not 8.
past_both : (a b : Bool) (l : Ledger) (packet : List ℕ) → (whenever a (λ _. whenever b (λ _. take_packet l packet) (refused_with l refusal.NoRoom)) (refused_with l refusal.BadRecord)).answer ≡ Err refusal.OtherStands
    → (a ≡ true) × ((take_packet l packet).answer ≡ Err refusal.OtherStands)
unfolding whenever refused_with
past_both false b l packet e = absurd cc
past_both true false l packet e = absurd cc
past_both true true l packet e = (refl, e)

-- A node or a watcher that holds what is genuine answers 8 to no genuine certificate.
pub holder_never_eight : (stakes : List ℕ) (genesis : ℕ → ℕ) (honest : Test) (fed : ℕ → List Arrival) → Ring stakes genesis honest fed
    → (me g : ℕ) → Sized stakes me → (before : List Arrival) → HoldsGenuine honest (cast_by stakes genesis honest fed) (after_all (fresh stakes me g) before)
    → (room : ℕ) (packet : List ℕ) → GenuinePacket (length stakes) honest (cast_by stakes genesis honest fed) packet
    → ¬ ((take_certificate (after_all (fresh stakes me g) before) room packet).answer ≡ Err refusal.OtherStands)
unfolding take_certificate kept_verdict
holder_never_eight stakes genesis honest fed ring me g size before holds room packet genuine e =
    let l : Ledger = after_all (fresh stakes me g) before in
    let both = past_both (well_formed l) (leb outbox_words room) l packet e in
    let x = packet_eight l packet both.1 in
    let c : Certificate = x.certificate in
    let fine = subst (λ (ws : List ℕ). judge ws c ≡ Ok tt) (stakes_are stakes me g size before) x.fine in
    let says = eight_says (some_kept (is_repeat (kind_in l.count c.kind) c.block) 0 (certificates_at l c.slot)) (has_room (kind_in l.count c.kind) 0 (certificates_at l c.slot)) x.stands in
    let k : kind_in l.count c.kind ≡ kind_in (length stakes) c.kind = ap (λ (m : ℕ). kind_in m c.kind) (count_is stakes me g size before) in
    never stakes genesis honest fed ring me g size before holds c (genuine.first c x.next x.read) fine both.0
    (subst (λ (i : CertificateKind). some_kept (is_repeat i c.block) 0 (certificates_at l c.slot) ≡ false) k says.0)
    (subst (λ (i : CertificateKind). has_room i 0 (certificates_at l c.slot) ≡ false) k says.1) (kind_in (length stakes) c.kind) refl

pub never_eight : NeverEight
never_eight stakes genesis honest fed ring n h before later moment =
    holder_never_eight stakes genesis honest fed ring n (genesis n) (sized stakes genesis honest fed ring n h) before
    (node_holds stakes genesis honest fed ring n h before later moment)
