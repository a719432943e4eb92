-- The numbers of kinds in a table: each number stands for its kind, its masks have words for every node, its packets fit the rooms asked for.
use mathlib.Core.Path.{◌≡◌, refl, sym, ◌∙◌, subst}
use mathlib.Core.Bool.{Bool, true, false, ◌&&◌}
use Prim.Native.Nat.{ℕ, ◌+◌, ◌-◌, ◌*◌, ◌≤◌}
use native.Mathlib.Omega.{arith}
use lib.Dec.{eqb, leb, ltb}
use borrow.Author.Tests.{ltb-false, eqb-true}
use Rattle.rulebook.specs.declared.CertificateKind.{CertificateKind}
use Rattle.rulebook.specs.declared.CertificateKind.TheVariants as certificate
use Rattle.rulebook.specs.Tools.{choose, part}
use Rattle.rulebook.specs.Weights.{most_nodes, is_large, family}
use Rattle.rulebook.specs.PaperNumbers.{certificate_kind, certificate_number, kind_in, number_in}
use Rattle.rulebook.specs.Packets.{words_in}
use Rattle.rulebook.specs.Checker.{is_other_kind}
use Rattle.rulebook.specs.Writers.{certificate_room, proof_room}

-- ---- numbers and kinds

old_back : (k : CertificateKind) → certificate_kind (certificate_number k) ≡ k
unfolding certificate_kind certificate_number choose
old_back certificate.FastFinal = refl
old_back certificate.Notar = refl
old_back certificate.NotarFallback = refl
old_back certificate.Skip = refl
old_back certificate.Final = refl
old_back certificate.Other = refl

-- In every table a kind's number stands for it.
pub kind_back : (count : ℕ) (k : CertificateKind) → kind_in count (number_in count k) ≡ k
unfolding kind_in number_in
kind_back count k =
    let e : (certificate_number k + family count) - family count ≡ certificate_number k = omega arith in rw e (old_back k)

no_other : {X : Type 0} → true ≡ false → X
no_other e = absurd cc

-- One of the numbers 1 to 5, or none of them.
old_pick : (n j : ℕ) (k rest : CertificateKind) → certificate_number k ≡ j → (is_other_kind rest ≡ false → certificate_number rest ≡ n)
    → is_other_kind (choose (eqb n j) k rest) ≡ false → certificate_number (choose (eqb n j) k rest) ≡ n
unfolding choose
old_pick n j k rest e h o = go (eqb n j) refl o
  where
    go : (t : Bool) → eqb n j ≡ t → is_other_kind (choose t k rest) ≡ false → certificate_number (choose t k rest) ≡ n
    go true p o = e ∙ sym (eqb-true n j p)
    go false p o = h o

old_number : (n : ℕ) → is_other_kind (certificate_kind n) ≡ false → certificate_number (certificate_kind n) ≡ n
unfolding certificate_kind certificate_number is_other_kind
old_number n =
    old_pick n 1 certificate.FastFinal _ refl
    (old_pick n 2 certificate.Notar _ refl
    (old_pick n 3 certificate.NotarFallback _ refl
    (old_pick n 4 certificate.Skip _ refl
    (old_pick n 5 certificate.Final certificate.Other refl no_other))))

old_some : (k : CertificateKind) → is_other_kind k ≡ false → 1 ≤ certificate_number k
unfolding certificate_number is_other_kind
old_some certificate.FastFinal o = omega arith
old_some certificate.Notar o = omega arith
old_some certificate.NotarFallback o = omega arith
old_some certificate.Skip o = omega arith
old_some certificate.Final o = omega arith
old_some certificate.Other o = absurd cc

-- Where 4 is not answered, a number is that of the kind it stands for.
pub number_back : (count n : ℕ) → is_other_kind (kind_in count n) ≡ false → number_in count (kind_in count n) ≡ n
unfolding kind_in number_in
number_back count n o =
    omega (arith, old_number (n - family count) o, old_some (certificate_kind (n - family count)) o)

-- ---- words and rooms

old_small : (k : CertificateKind) → certificate_number k ≤ 5
unfolding certificate_number
old_small certificate.FastFinal = omega arith
old_small certificate.Notar = omega arith
old_small certificate.NotarFallback = omega arith
old_small certificate.Skip = omega arith
old_small certificate.Final = omega arith
old_small certificate.Other = omega arith

-- Where 4 is not answered, a number is one of the five of the table's family.
pub kind_range : (count n : ℕ) → is_other_kind (kind_in count n) ≡ false → (family count + 1 ≤ n) × (n ≤ family count + 5)
unfolding number_in
kind_range count n o =
    let k = kind_in count n in
    let e = number_back count n o in
    (omega (arith, e, old_some k o), omega (arith, e, old_small k))

pub kind_small : (count : ℕ) (k : CertificateKind) → number_in count k ≤ 15
unfolding number_in family part
kind_small count k = go (is_large count)
  where
    go : (t : Bool) → certificate_number k + part t 10 ≤ 15
    go true = omega (arith, old_small k)
    go false = omega (arith, old_small k)

-- A mask has at most 32 words.
pub words_most : (kind : ℕ) → words_in kind ≤ 32
unfolding words_in choose
words_most kind = go (leb 11 kind && leb kind 15)
  where
    go : (t : Bool) → choose t 32 1 ≤ 32
    go true = omega arith
    go false = omega arith

-- Where 4 is not answered, the masks of a kind have words for every node of the table.
pub kind_words : (count : ℕ) (k : CertificateKind) → is_other_kind k ≡ false → count ≤ most_nodes → count ≤ 64 * words_in (number_in count k)
unfolding number_in family is_large part certificate_number words_in choose is_other_kind
kind_words count k o h = go (ltb 64 count) refl k o
  where
    go : (t : Bool) → ltb 64 count ≡ t → (k : CertificateKind) → is_other_kind k ≡ false → count ≤ 64 * words_in (certificate_number k + part t 10)
    go true e certificate.FastFinal o = omega arith
    go true e certificate.Notar o = omega arith
    go true e certificate.NotarFallback o = omega arith
    go true e certificate.Skip o = omega arith
    go true e certificate.Final o = omega arith
    go true e certificate.Other o = absurd cc
    go false e certificate.FastFinal o = omega (arith, ltb-false 64 count e)
    go false e certificate.Notar o = omega (arith, ltb-false 64 count e)
    go false e certificate.NotarFallback o = omega (arith, ltb-false 64 count e)
    go false e certificate.Skip o = omega (arith, ltb-false 64 count e)
    go false e certificate.Final o = omega (arith, ltb-false 64 count e)
    go false e certificate.Other o = absurd cc

pub table_words : (count kind : ℕ) → is_other_kind (kind_in count kind) ≡ false → count ≤ most_nodes → count ≤ 64 * words_in kind
table_words count kind o h =
    subst (λ (n : ℕ). count ≤ 64 * words_in n) (number_back count kind o) (kind_words count (kind_in count kind) o h)

-- A certificate's bytes, 12 and 20 for each word of its masks, have room where 9 is not answered: 32 of 32, or 652 of 768.
pub certificate_room_lem : (count : ℕ) (k : CertificateKind) → 12 + 20 * words_in (number_in count k) ≤ certificate_room count
unfolding number_in family part certificate_number words_in choose certificate_room
certificate_room_lem count k = go (is_large count) k
  where
    go : (t : Bool) (k : CertificateKind) → 12 + 20 * words_in (certificate_number k + part t 10) ≤ choose t 768 32
    go true certificate.FastFinal = omega arith
    go true certificate.Notar = omega arith
    go true certificate.NotarFallback = omega arith
    go true certificate.Skip = omega arith
    go true certificate.Final = omega arith
    go true certificate.Other = omega arith
    go false certificate.FastFinal = omega arith
    go false certificate.Notar = omega arith
    go false certificate.NotarFallback = omega arith
    go false certificate.Skip = omega arith
    go false certificate.Final = omega arith
    go false certificate.Other = omega arith

-- A proof has room for two.
pub proof_room_lem : (count : ℕ) → certificate_room count + certificate_room count ≤ proof_room count
unfolding certificate_room proof_room choose
proof_room_lem count = go (is_large count)
  where
    go : (t : Bool) → choose t 768 32 + choose t 768 32 ≤ choose t 1536 64
    go true = omega arith
    go false = omega arith
