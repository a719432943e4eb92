-- Computed cases of the two starts on lent words: "17 for the length, then 1", the words of a fresh record, and words as found.
use Rattle.std.specs.Prelude.{Bool, true, false, ◌&&◌, List, [], ◌∷◌, ◌++◌, ℕ, length, replicate, T}
use Rattle.rulebook.specs.PaperNumbers.{verdict_number, start_panel}
use Rattle.rulebook.specs.Scripts.{equal, all}
use Rattle.rulebook.specs.Computes.{rules}
use Rattle.record.specs.Layout.{mask_words, row_start}
use Rattle.record.specs.Spelling.{joined, spell_mask, words_of}
use Rattle.starts.specs.Starting.{start_judged, start_answer, start_left, watch_judged, begun_judged, fresh_to}

-- Words that are lent, so many of them.
abbrev lent : ℕ → List ℕ
lent n = replicate n 7

-- The numbers of the two starts.
abbrev started : ℕ → List ℕ → ℕ → ℕ → ℕ
started n stakes own genesis = (start_panel (start_answer (start_judged (lent n) stakes own genesis))).number

abbrev watched : ℕ → List ℕ → ℕ → ℕ
watched n stakes genesis = (start_panel (start_answer (watch_judged (lent n) stakes genesis))).number

-- 1,131 words for one node, 1,251 for two, 22,513 for 65; one word less or more is 17, also where 1 is due.
abbrev lengths : Bool
lengths =
    equal (started 1131 (5 ∷ []) 0 9 ∷ started 1130 (5 ∷ []) 0 9 ∷ started 1132 (5 ∷ []) 0 9 ∷ started 1251 (5 ∷ []) 0 9 ∷ started 1251 (6 ∷ 4 ∷ []) 1 9 ∷ started 1131 (6 ∷ 4 ∷ []) 1 9 ∷ started 22513 (replicate 65 1) 64 9
    ∷ started 1130 (0 ∷ []) 1 0 ∷ started 1131 [] 0 9 ∷ [])
    (0 ∷ 17 ∷ 17 ∷ 17 ∷ 0 ∷ 17 ∷ 0 ∷ 17 ∷ 17 ∷ [])
    && equal (watched 1131 (5 ∷ []) 9 ∷ watched 1130 (5 ∷ []) 9 ∷ watched 1132 (5 ∷ []) 9 ∷ watched 1251 (6 ∷ 4 ∷ []) 9 ∷ watched 1130 (0 ∷ []) 0 ∷ []) (0 ∷ 17 ∷ 17 ∷ 0 ∷ 17 ∷ [])

-- 1 for the stakes, for the own number, which a watcher has not, and for genesis.
abbrev sizes : Bool
sizes =
    equal (started 1011 [] 0 9 ∷ started 1131 (0 ∷ []) 0 9 ∷ started 1131 (5 ∷ []) 1 9 ∷ started 1131 (5 ∷ []) 0 0 ∷ watched 1011 [] 9 ∷ watched 1131 (0 ∷ []) 9 ∷ watched 1131 (5 ∷ []) 0 ∷ []) (1 ∷ 1 ∷ 1 ∷ 1 ∷ 1 ∷ 1 ∷ 1 ∷ [])

-- The two by one set of tests: an own number that does not fit is 1, behind 17.
abbrev begun : Bool
begun =
    let number : ℕ → List ℕ → Bool → ℕ → ℕ = (λ n stakes odd genesis. verdict_number (begun_judged (lent n) stakes odd genesis)) in
    equal (number 1131 (5 ∷ []) false 9 ∷ number 1131 (5 ∷ []) true 9 ∷ number 1130 (5 ∷ []) true 9 ∷ number 1131 (0 ∷ []) false 9 ∷ number 1131 (5 ∷ []) false 0 ∷ []) (0 ∷ 1 ∷ 17 ∷ 1 ∷ 1 ∷ [])

-- The words afterwards: count, total, own number, genesis, no window armed, the stakes, and 0 in every other place. The count is a watcher's
-- own number. A refused start leaves the words as found.
abbrev left : Bool
left =
    let node : ℕ → ℕ → List ℕ = (λ n own. start_left (start_judged (lent n) (6 ∷ 4 ∷ []) own 9) (lent n) (6 ∷ 4 ∷ []) own 9) in
    let watcher : ℕ → List ℕ = (λ n. start_left (watch_judged (lent n) (6 ∷ 4 ∷ []) 9) (lent n) (6 ∷ 4 ∷ []) 2 9) in
    let fresh : ℕ → List ℕ = (λ own. (2 ∷ 10 ∷ own ∷ 9 ∷ 0 ∷ 0 ∷ 0 ∷ 0 ∷ 6 ∷ 4 ∷ []) ++ replicate 1241 0) in
    all (equal (node 1251 1) (fresh 1) ∷ equal (watcher 1251) (fresh 2) ∷ equal (node 1251 2) (lent 1251) ∷ equal (node 1250 1) (lent 1250) ∷ equal (watcher 1252) (lent 1252) ∷ [])

-- While one of two stakes is in: the other's place is 0, and the total is the one given.
abbrev part : Bool
part =
    let l = fresh_to (6 ∷ 4 ∷ []) 1 12 3 9 in
    all (equal (l.count ∷ l.total ∷ l.own ∷ l.genesis ∷ length l.rows ∷ []) (2 ∷ 12 ∷ 3 ∷ 9 ∷ 17 ∷ []) ∷ equal l.armed (0 ∷ 0 ∷ 0 ∷ 0 ∷ []) ∷ equal l.stakes (6 ∷ 0 ∷ []) ∷ equal (fresh_to (6 ∷ 4 ∷ []) 0 12 3 9).stakes (0 ∷ 0 ∷ []) ∷ [])

corners_of_starts : T (all (lengths ∷ sizes ∷ begun ∷ left ∷ part ∷ []))
unfolding rules mask_words row_start joined spell_mask words_of start_judged start_answer start_left watch_judged begun_judged fresh_to
corners_of_starts = tt
