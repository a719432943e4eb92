-- The ledger: what a node keeps, as nested records. Row s is slot s; row 0, genesis's slot, stays blank.
use Rattle.std.specs.Prelude.{Bool, true, false, not, ◌&&◌, ◌||◌, List, [], ◌∷◌, ◌++◌, ℕ, zero, suc, ◌+◌, ◌-◌, length, get_or, set, take, replicate, eqb}
use Rattle.rulebook.specs.declared.Cell.{Cell}
use Rattle.rulebook.specs.declared.Block.{Block}
use Rattle.rulebook.specs.declared.Tally.{Tally}
use Rattle.rulebook.specs.Certificates.{Kept}
use Rattle.rulebook.specs.Tools.{choose}
use Rattle.rulebook.specs.Weights.{places_for, last_slot, windows, window_of, total_to}

-- One slot: places for blocks with their parents, the first announced in front; whether its timeout was taken; the block reported
-- final; whether another was, a mark; the tally card; places for certificates from other firms; a cell for each node.
pub record Row : Type 0 where
  pub blocks : List Block
  pub timed_out : ℕ
  pub final : ℕ
  pub clash : ℕ
  pub card : Tally
  pub certificates : List Kept
  pub cells : List Cell

pub record Ledger : Type 0 where
  pub count : ℕ
  pub total : ℕ
  pub own : ℕ
  pub genesis : ℕ
  pub armed : List ℕ
  pub stakes : List ℕ
  pub rows : List Row

-- A place is 0 where nothing is kept.
abbrev pub none : ℕ → Bool
none x = eqb x 0

abbrev pub no_cell : Cell
no_cell =
    record { notar = 0; skip = 0; fallback1 = 0; fallback2 = 0; fallback3 = 0; skipfallback = 0; finalvote = 0 }

abbrev pub no_block : Block
no_block = record { number = 0; parentslot = record { 0 = 0 }; parent = 0 }

-- A card by its five numbers, and the card of a slot without votes.
abbrev pub card_of : ℕ → ℕ → ℕ → ℕ → ℕ → Tally
card_of skip finals skipcert leader weight =
    record {
      skip = record { 0 = skip };
      finals = record { 0 = finals };
      skipcert = record { 0 = skipcert };
      leader = leader;
      weight = record { 0 = weight };
    }

abbrev pub no_card : Tally
no_card = card_of 0 0 0 0 0

abbrev pub no_kept : Kept
no_kept = record { block = 0; maska = 0; maskb = 0 }

-- "up to four announced blocks are kept per slot".
abbrev pub most_blocks : ℕ
most_blocks = 4

-- "Per slot keep one each of kinds 1, 2, 4, 5 and up to nine of kind 3."
abbrev pub most_certificates : ℕ
most_certificates = 13

-- A row of so many places with nothing in it; one without a place stands for a slot that has none.
unfoldable pub blank_row : ℕ → Row
blank_row places = record { blocks = replicate most_blocks no_block; timed_out = 0; final = 0; clash = 0; card = no_card; certificates = replicate most_certificates no_kept; cells = replicate places no_cell }

unfoldable pub no_row : Row
no_row = blank_row 0

-- The places that a ledger has for nodes.
abbrev pub places : Ledger → ℕ
places l = length l.stakes

-- The stake table: one stake a node.
abbrev pub table_of : Ledger → List ℕ
table_of l = take l.count l.stakes

-- ---- reading

abbrev pub row_at : Ledger → ℕ → Row
row_at l s = get_or l.rows s no_row

abbrev pub cell_at : Ledger → ℕ → ℕ → Cell
cell_at l s n = get_or (row_at l s).cells n no_cell

-- "A watcher has no own number": the number that stands for none is the one after the last node's.
unfoldable pub is_watcher : Ledger → Bool
is_watcher l = eqb l.own l.count

-- The own votes in a slot; a watcher has none, since there is no cell past the last node's.
abbrev pub own_cell : Ledger → ℕ → Cell
own_cell l s = cell_at l s l.own

-- "the initial vote": the first vote of kinds 1 and 3 together.
abbrev pub no_initial : Cell → Bool
no_initial c = none c.notar && none c.skip

-- The window of slot s is armed.
abbrev pub is_armed : Ledger → ℕ → Bool
is_armed l s = not (none (get_or l.armed (window_of s) 0))

-- ---- kept blocks

-- The places of slot s for blocks, the first announced in front.
abbrev pub blocks_at : Ledger → ℕ → List Block
blocks_at l s = (row_at l s).blocks

-- The first announced block of slot s.
abbrev pub first_block : Ledger → ℕ → Block
first_block l s = get_or (blocks_at l s) 0 no_block

-- The test holds of some block of a list, of every block of it.
unfoldable pub some_block : (Block → Bool) → List Block → Bool
some_block p [] = false
some_block p (k ∷ ks) = p k || some_block p ks

unfoldable pub all_blocks : (Block → Bool) → List Block → Bool
all_blocks p [] = true
all_blocks p (k ∷ ks) = p k && all_blocks p ks

-- A place that keeps no block.
abbrev pub is_free : Block → Bool
is_free k = none k.number

-- The place keeps the block of this number.
abbrev pub has_number : ℕ → Block → Bool
has_number b k = eqb k.number b

-- A block in the first free place.
unfoldable pub fill_block : Block → List Block → List Block
fill_block b [] = []
fill_block b (k ∷ ks) = choose (is_free k) (b ∷ ks) (k ∷ fill_block b ks)

-- The place keeps the block of this number with the parent (p, x).
unfoldable pub is_block : ℕ → ℕ → ℕ → Block → Bool
is_block b p x k = not (is_free k) && (has_number b k && (eqb k.parentslot.0 p && eqb k.parent x))

-- Block b of slot s is kept with the parent (p, x).
unfoldable pub keeps_block : Ledger → ℕ → ℕ → ℕ → ℕ → Bool
keeps_block l s b p x = some_block (is_block b p x) (blocks_at l s)

-- ---- kept certificates

-- The places of slot s for certificates: kinds 1, 2, 4, 5, then nine of kind 3.
abbrev pub certificates_at : Ledger → ℕ → List Kept
certificates_at l s = (row_at l s).certificates

-- What place i of slot s keeps.
abbrev pub kept_at : Ledger → ℕ → ℕ → Kept
kept_at l s i = get_or (certificates_at l s) i no_kept

-- A place that keeps a certificate: one without a signer has no weight.
abbrev pub is_kept : Kept → Bool
is_kept q = not (none q.maska && none q.maskb)

-- ---- writing: each touches what it names

abbrev pub put_row : Ledger → ℕ → Row → Ledger
put_row l s r =
    record {
      count = l.count;
      total = l.total;
      own = l.own;
      genesis = l.genesis;
      armed = l.armed;
      stakes = l.stakes;
      rows = set l.rows s r;
    }

abbrev pub put_cell : Ledger → ℕ → ℕ → Cell → Ledger
put_cell l s n c =
    let r = row_at l s in
    put_row l s (record { blocks = r.blocks; timed_out = r.timed_out; final = r.final; clash = r.clash; card = r.card; certificates = r.certificates; cells = set r.cells n c })

abbrev pub put_card : Ledger → ℕ → Tally → Ledger
put_card l s t =
    let r = row_at l s in
    put_row l s (record { blocks = r.blocks; timed_out = r.timed_out; final = r.final; clash = r.clash; card = t; certificates = r.certificates; cells = r.cells })

-- A node's cell and the slot's card together.
abbrev pub put_vote : Ledger → ℕ → ℕ → Cell → Tally → Ledger
put_vote l s n c t =
    let r = row_at l s in
    put_row l s (record { blocks = r.blocks; timed_out = r.timed_out; final = r.final; clash = r.clash; card = t; certificates = r.certificates; cells = set r.cells n c })

abbrev pub put_blocks : Ledger → ℕ → List Block → Ledger
put_blocks l s bs =
    let r = row_at l s in
    put_row l s (record { blocks = bs; timed_out = r.timed_out; final = r.final; clash = r.clash; card = r.card; certificates = r.certificates; cells = r.cells })

abbrev pub put_certificates : Ledger → ℕ → List Kept → Ledger
put_certificates l s qs =
    let r = row_at l s in
    put_row l s (record { blocks = r.blocks; timed_out = r.timed_out; final = r.final; clash = r.clash; card = r.card; certificates = qs; cells = r.cells })

abbrev pub put_timed_out : Ledger → ℕ → Ledger
put_timed_out l s =
    let r = row_at l s in
    put_row l s (record { blocks = r.blocks; timed_out = 1; final = r.final; clash = r.clash; card = r.card; certificates = r.certificates; cells = r.cells })

abbrev pub put_final : Ledger → ℕ → ℕ → Ledger
put_final l s b =
    let r = row_at l s in
    put_row l s (record { blocks = r.blocks; timed_out = r.timed_out; final = b; clash = r.clash; card = r.card; certificates = r.certificates; cells = r.cells })

-- The mark of a slot: another final block was reported.
abbrev pub put_clash : Ledger → ℕ → Ledger
put_clash l s =
    let r = row_at l s in
    put_row l s (record { blocks = r.blocks; timed_out = r.timed_out; final = r.final; clash = 1; card = r.card; certificates = r.certificates; cells = r.cells })

abbrev pub put_armed : Ledger → ℕ → Ledger
put_armed l s =
    record {
      count = l.count;
      total = l.total;
      own = l.own;
      genesis = l.genesis;
      armed = set l.armed (window_of s) 1;
      stakes = l.stakes;
      rows = l.rows;
    }

-- A fresh node: its stakes, number and genesis, and nothing else. With the number after the last it is a watcher.
unfoldable pub fresh : List ℕ → ℕ → ℕ → Ledger
fresh stakes own genesis =
    record {
      count = length stakes;
      total = total_to stakes (length stakes);
      own = own;
      genesis = genesis;
      armed = replicate windows 0;
      stakes = stakes ++ replicate (places_for (length stakes) - length stakes) 0;
      rows = replicate (suc last_slot) (blank_row (places_for (length stakes)));
    }
